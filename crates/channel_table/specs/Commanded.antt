-- What the commands of a callback leave, and whether their requests are lost.
use Rattle.std.specs.Prelude.{Err, Ok, Result, ℕ, ⊤}
use Rattle.chan_types.specs.declared.journal.What.{What}
use Rattle.chan_types.specs.declared.journal.What.TheVariants.{Accept, Arrive, Cancel, Destroy, Expire, Fault, Servers, Start, Take}
use Rattle.chan_types.specs.declared.refusal.Refusal.{Refusal}
use Rattle.chan_types.specs.declared.refusal.Refusal.TheVariants.{Closed, NoMemory}
use Rattle.channel_model.specs.declared.answers.Refused.{Refused}

-- the entry is one that a command leaves
abbrev pub IsOfCommand : What → Type 0
IsOfCommand (Accept number spec script) = ⊤
IsOfCommand Cancel = ⊤
IsOfCommand Destroy = ⊤
IsOfCommand (Take number) = ⊥
IsOfCommand (Start number leg server link id mix moment) = ⊥
IsOfCommand (Arrive server link bytes) = ⊥
IsOfCommand (Expire number leg moment) = ⊥
IsOfCommand (Fault server link moment) = ⊥
IsOfCommand (Servers list) = ⊥

-- a refusal for want of memory loses the request
abbrev pub lost_for : Refusal → ℕ
lost_for Closed = 0
lost_for NoMemory = 1

-- how many requests were lost at an accept with this reply: one, where it was refused for want of memory
abbrev pub lost_by : {T : Type 0} → Result ℕ (Refused T) → ℕ
lost_by (Ok number) = 0
lost_by (Err refused) = lost_for refused.why
