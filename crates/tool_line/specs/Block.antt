-- The lines that ahost prints of a request: how it ended, and what was found.
use Rattle.std.specs.Prelude.{ℕ, ◌+◌, ◌*◌, ◌==◌, if◌then◌else◌, [], ◌∷◌, ◌++◌, flat_map, replicate, decimal, Result, Ok, Err}
use Rattle.chan_types.specs.declared.answer.Answer.{Answer}
use Rattle.chan_types.specs.declared.spec.Spec.{Spec}
use Rattle.chan_types.specs.declared.spec.Spec.TheVariants.{Address, Query, Reverse, Search}
use Rattle.chan_types.specs.declared.status.Status.{Status}
use Rattle.chan_types.specs.Statuses.{code_of, text_of}
use Rattle.dns_message.specs.declared.fault.MessageFault.{MessageFault}
use Rattle.dns_message.specs.declared.message.Message.{Message}
use Rattle.dns_message.specs.declared.message.Record.{Record}
use Rattle.dns_message.specs.Reading.{message_read}
use Rattle.dns_rdata.specs.Lines.{spaced, line_of}
use Rattle.net_addr.specs.Text.{text_of as address_text}
use Rattle.net_addr.specs.declared.addr.Addr.{Addr}
use Rattle.tool_line.specs.Heads.{label_of}
use Rattle.tool_line.specs.Words.{Text}

-- so many blanks
abbrev pub blanks : ℕ → Text
blanks count = replicate count 32

-- how the request ended: its label, and the status by its code and its name, behind two blanks for each request above it
abbrev pub head_line : ℕ → Spec → Status → Text
head_line depth spec status = blanks (2 * depth) ++ label_of spec ++ spaced (decimal (code_of status)) ++ spaced (text_of status) ++ 10 ∷ []

-- a line of what was found: two blanks further to the right
abbrev pub found_line : ℕ → Text → Text
found_line depth line = blanks (2 * depth + 2) ++ line

-- the line of a record
abbrev pub record_line : ℕ → Record → Text
record_line depth rr = found_line depth (line_of rr)

-- the line of an address
abbrev pub address_line : ℕ → Addr → Text
address_line depth address = found_line depth (address_text address) ++ 10 ∷ []

-- the lines of a reply's answers
abbrev pub answer_lines : ℕ → Result Message MessageFault → Text
answer_lines depth (Ok message) = flat_map (record_line depth) message.answers
answer_lines depth (Err fault) = []

-- what was found: the addresses that were asked for, or the answers of the reply
abbrev pub found_lines : ℕ → Spec → Answer → Text
found_lines depth (Query name kind class) answer = answer_lines depth (message_read answer.message)
found_lines depth (Search name kind class) answer = answer_lines depth (message_read answer.message)
found_lines depth (Address host family nosort) answer = flat_map (address_line depth) answer.addresses
found_lines depth (Reverse address) answer = answer_lines depth (message_read answer.message)

-- the lines of a request that stands so many requests deep: how it ended, and where it ended well what was found
abbrev pub block_lines : ℕ → Spec → Answer → Text
block_lines depth spec answer = head_line depth spec answer.status ++ (if code_of answer.status == 0 then found_lines depth spec answer else [])
