-- What areplay puts of a stored run: each text is this project's own.
use Rattle.std.specs.Prelude.{List, None, Option, Some, [], codes, decimal, flat_map, length, ℕ, ◌++◌, ◌∷◌}
use Rattle.chan_types.specs.Statuses.{code_of, text_of}
use Rattle.chan_types.specs.declared.answer.Answer.{Answer}
use Rattle.chan_types.specs.declared.journal.Entry.{Entry}
use Rattle.chan_types.specs.declared.status.Status.{Status}
use Rattle.channel_model.specs.Completion.{fate, requests}
use Rattle.channel_model.specs.Journal.{past_of}
use Rattle.channel_model.specs.Setting.{Setting}
use Rattle.journal_replay.specs.Checks.{setting_of}
use Rattle.journal_text.specs.declared.book.Book.{Book}
use Rattle.tool_line.specs.Words.{Text}

-- the setting of the channel whose run was stored
abbrev pub setting_of_book : Book → Setting
setting_of_book book = setting_of book.options book.hosts

-- the first line of a lawful journal: how many entries it has, and how many requests it accepts
abbrev pub lawful_line : ℕ → ℕ → Text
lawful_line entries accepted = codes "lawful " ++ decimal entries ++ codes " entries " ++ decimal accepted ++ codes " accepted" ++ 10 ∷ []

-- the line of a request that completed: its number, and its status by code and name
abbrev pub ended_line : ℕ → Status → Text
ended_line number status = decimal number ++ codes " " ++ decimal (code_of status) ++ codes " " ++ text_of status ++ 10 ∷ []

-- the line of a request that hasn't completed
abbrev pub pending_line : ℕ → Text
pending_line number = decimal number ++ codes " pending" ++ 10 ∷ []

-- the line of a request with this fate
abbrev pub line_of : ℕ → Option Answer → Text
line_of number (Some answer) = ended_line number answer.status
line_of number None = pending_line number

-- the line of a request of a journal
abbrev pub request_line : Setting → List Entry → ℕ → Text
request_line setting journal number = line_of number (fate setting number (past_of journal))

-- the lines of these requests, in order
abbrev pub request_lines : Setting → List Entry → List ℕ → Text
request_lines setting journal numbers = flat_map (request_line setting journal) numbers

-- the page of a lawful journal: its first line, and one line for each accepted request, in the order in which they were accepted
abbrev pub lawful_page : Setting → List Entry → Text
lawful_page setting journal = lawful_line (length journal) (length (requests (past_of journal))) ++ request_lines setting journal (requests (past_of journal))

-- the line of a journal whose first entry that isn't allowed stands at this position, from 0
abbrev pub unlawful_line : ℕ → Text
unlawful_line position = codes "unlawful " ++ decimal position ++ 10 ∷ []
