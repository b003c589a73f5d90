-- For how long an answer may be kept: as long as the first of its records that dies (RFC 1035, sections 3.2.1 and 7.4).
use Rattle.std.specs.Prelude.{◌≡◌, ◌⊎◌, ℕ, ◌<◌, ◌≤◌, min, Bool, not, ◌==◌, if◌then◌else◌, List, [], ◌∷◌, Option, Some, None}
use Rattle.std.specs.List.{fold, AllByRecursion}
use Rattle.dns_message.specs.Grammar.{Spells, message_of}
use Rattle.dns_message.specs.declared.message.Message.{Message}
use Rattle.dns_message.specs.declared.message.Record.{Record}
use Rattle.chan_types.specs.Statuses.{code_of}
use Rattle.chan_types.specs.declared.answer.Answer.{Answer}

-- the least of the records' ttls, in seconds; 0 where there is no record
abbrev pub least_ttl : List Record → ℕ
least_ttl [] = 0
least_ttl (rr ∷ rrs) = fold (λ least other. min least other.ttl) rr.ttl rrs

-- the least ttl of the message's answers, where there is a message
abbrev pub answers_ttl : Option Message → ℕ
answers_ttl None = 0
answers_ttl (Some message) = least_ttl message.answers

-- for how many seconds the answer may be kept; 0 where it may not be kept
abbrev pub lifetime : Answer → ℕ
lifetime answer = if code_of answer.status == 0 then answers_ttl (message_of answer.message) else 0

-- whether the answer may be kept
abbrev pub may_be_kept : Answer → Bool
may_be_kept answer = not (lifetime answer == 0)

-- one of the records has this ttl
abbrev pub HasTtl : List Record → ℕ → Type 0
HasTtl [] seconds = ⊥
HasTtl (rr ∷ rrs) seconds = (rr.ttl ≡ seconds) ⊎ HasTtl rrs seconds

-- the answer lives for so many seconds, said without a computation: it is a success, its message spells answers, this is
-- the least of their ttls, and it isn't 0
pub record LivesFor (answer : Answer) (seconds : ℕ) : Type 0 where
  pub success : code_of answer.status ≡ 0
  pub message : Message
  pub spelled : Spells answer.message message
  pub one : HasTtl message.answers seconds
  pub least : AllByRecursion (λ rr. seconds ≤ rr.ttl) message.answers
  pub some : 0 < seconds
