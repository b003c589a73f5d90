-- The answer that the ended legs of an Address candidate give (this project's profile).
use Rattle.std.specs.Prelude.{Bool, ◌==◌, ℕ, List, [], map, ◌^◌, filter, Result, Ok, Err, ◌&&◌, ◌∷◌, if◌then◌else◌, unwrap_or, option_map, ◌||◌, ◌++◌}
use Rattle.chan_types.specs.Statuses.{code_of}
use Rattle.chan_types.specs.declared.answer.Answer.{Answer}
use Rattle.chan_types.specs.declared.status.Status.{Status}
use Rattle.chan_types.specs.declared.status.Status.TheVariants.{Success, NoData, NotFound}
use Rattle.dest_sorting.specs.Order.{destination_before}
use Rattle.dns_message.specs.Name.{same_name}
use Rattle.dns_message.specs.Reading.{name_of}
use Rattle.dns_message.specs.declared.fault.MessageFault.{MessageFault}
use Rattle.dns_message.specs.declared.message.Record.{Record}
use Rattle.dns_message.specs.declared.name.Name.{Name}
use Rattle.net_addr.specs.Reading.{number_of}
use Rattle.net_addr.specs.declared.addr.Addr.{Addr}
use Rattle.net_addr.specs.declared.addr.Addr.TheVariants.{V4, V6}
use Rattle.channel_model.specs.LegEnd.{LegEnd}
use Rattle.dns_message.specs.Numbers.{kind_a, kind_aaaa, kind_cname}
use Rattle.channel_model.specs.Replies.{read_reply}
use Rattle.channel_model.specs.Setting.{Setting}
use Rattle.channel_model.specs.Verdict.{is_of_kind, has_item}

-- the two statuses are one
abbrev pub same_status : Status → Status → Bool
same_status a b = code_of a == code_of b

-- an answer with a status and a message alone
abbrev pub bare : ℕ → Status → List ℕ → Answer
bare request status message = record { number = request; status = status; message = message; addresses = []; canonical = [] }

-- the addresses of A records (RFC 1035, section 3.4.1)
abbrev pub addresses_v4 : List Record → List Addr
addresses_v4 records = map (λ rr. V4 (number_of (2 ^ 8) rr.rdata)) (filter (is_of_kind kind_a) records)

-- the addresses of AAAA records (RFC 3596, section 2.2)
abbrev pub addresses_v6 : List Record → List Addr
addresses_v6 records = map (λ rr. V6 (number_of (2 ^ 8) rr.rdata)) (filter (is_of_kind kind_aaaa) records)

-- the name that was read, or the root
abbrev pub labels_read : Result (Name × ℕ) MessageFault → Name
labels_read (Ok read) = read.0
labels_read (Err fault) = []

-- the name that an alias stands for: its rdata (RFC 1035, section 3.3.1)
abbrev pub target_of : Record → Name
target_of rr = labels_read (name_of rr.rdata 0)

-- the record says that the name is an alias
abbrev pub is_alias : Name → Record → Bool
is_alias name rr = (rr.kind == kind_cname) && same_name rr.name name

-- the name behind the aliases, each followed in the order of the answers
abbrev pub canonical_name : Name → List Record → Name
canonical_name name [] = name
canonical_name name (rr ∷ records) = canonical_name (if is_alias name rr then target_of rr else name) records

-- the answers of a reply
abbrev pub answers_of : List ℕ → List Record
answers_of bytes = unwrap_or (option_map (λ reply. reply.message.answers) (read_reply bytes)) []

-- the records that an ended leg has for its request: none where its status isn't 0
abbrev pub records_of : LegEnd → List Record
records_of end = if same_status end.status Success then answers_of end.reply else []

-- the status of a candidate with two legs that gave no address: NoData where either leg has it, else that of the first leg where it isn't NotFound, else that of the second
abbrev pub status_of_both : Status → Status → Status
status_of_both left right =
    if same_status left NoData || same_status right NoData then NoData else
    if same_status left NotFound then right else left

-- the address among sorted ones: before the first that it is before
abbrev pub sorted_in : List Addr → Addr → List Addr → List Addr
sorted_in sources address [] = address ∷ []
sorted_in sources address (other ∷ others) =
    if destination_before sources other address then other ∷ sorted_in sources address others else address ∷ other ∷ others

-- the addresses in the order in which they are to be tried; where no rule parts two, as they stood (RFC 6724, section 6)
abbrev pub sorted : List Addr → List Addr → List Addr
sorted sources [] = []
sorted sources (address ∷ addresses) = sorted_in sources address (sorted sources addresses)

module _ (setting : Setting) where
  -- the addresses in the order that the caller gets: sorted, unless the caller wants them as they stood
  abbrev pub ordered : Bool → List Addr → List Addr
  ordered nosort addresses = if nosort then addresses else sorted setting.options.sources addresses

  -- the good answer with these addresses, which belong to this name
  abbrev pub found : ℕ → Bool → List Addr → Name → Answer
  found request nosort addresses canonical =
      record { number = request; status = Success; message = []; addresses = ordered nosort addresses; canonical = canonical }

  -- the answer of a candidate with one leg, whose addresses are these of its records
  abbrev pub merged_one : ℕ → Bool → Name → (List Record → List Addr) → LegEnd → Answer
  merged_one request nosort candidate addresses end =
      let records = answers_of end.reply in
      if same_status end.status Success then found request nosort (addresses records) (canonical_name candidate records) else
      bare request end.status []

  -- the answer of a candidate with two legs: the first leg's addresses, then the second's; the name is that of the first leg's answers where it has an address
  abbrev pub merged : ℕ → Bool → Name → LegEnd → LegEnd → Answer
  merged request nosort candidate left right =
      let four = records_of left in
      let six = records_of right in
      let addresses = addresses_v4 four ++ addresses_v6 six in
      let naming = (if has_item (addresses_v4 four) then four else six) in
      if has_item addresses then found request nosort addresses (canonical_name candidate naming) else
      bare request (status_of_both left.status right.status) []
