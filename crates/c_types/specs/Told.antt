-- What a call told C, by its number and by what it wrote: the answer of the channel that this means, or none, where the call may not answer so.
-- 0: done; 1: the channel was destroyed; 2: want of memory; 3: there was nothing to do; 4: all identifiers are in flight.
use Rattle.std.specs.Prelude.{Err, MatchBool, None, Ok, Option, Result, Some, if◌then◌else◌, length, ℕ, ◌==◌, ◌≡◌, ⊤}
use Rattle.chan_types.specs.Plans.{Plan, blank}
use Rattle.chan_types.specs.Statuses.{code_of}
use Rattle.chan_types.specs.declared.answer.Answer.{Answer}
use Rattle.chan_types.specs.declared.refusal.Refusal.TheVariants as refusal
use Rattle.chan_types.specs.declared.spec.Spec.{Spec}
use Rattle.chan_types.specs.declared.ticket.Ticket.{Ticket}
use Rattle.channel_model.specs.declared.answers.Begun.{Begun}
use Rattle.channel_model.specs.declared.answers.Begun.TheVariants.{Idle, NoId, Started}
use Rattle.channel_model.specs.declared.answers.Counts.{Counts}
use Rattle.channel_model.specs.declared.answers.Landed.{Landed}
use Rattle.channel_model.specs.declared.answers.Landed.TheVariants.{Matched, Stray}
use Rattle.channel_model.specs.declared.answers.Lapse.{Lapse}
use Rattle.channel_model.specs.declared.answers.Lapse.TheVariants.{Expired, NotDue}
use Rattle.channel_model.specs.declared.answers.Refused.{Refused}
use Rattle.item_list.specs.declared.no_memory.NoMemory.{NoMemory}
use Rattle.net_addr.specs.declared.addr.ServerAddr.{ServerAddr}
use Rattle.c_types.specs.Outgoing.{sending}
use Rattle.c_types.specs.declared.outgoing.Outgoing.{Outgoing}
use Rattle.c_types.specs.declared.told.ToldAttempt.{ToldAttempt}
use Rattle.c_types.specs.declared.told.ToldCounts.{ToldCounts}
use Rattle.c_types.specs.declared.told.ToldLeg.{ToldLeg}
use Rattle.c_types.specs.declared.told.ToldRequest.{ToldRequest}

-- the call did what it is for, and then this holds
abbrev pub IfDone : ℕ → Type 0 → Type 0
IfDone answer fact = MatchBool (answer == 0) fact ⊤

-- it didn't, and then this holds
abbrev pub UnlessDone : ℕ → Type 0 → Type 0
UnlessDone answer fact = MatchBool (answer == 0) ⊤ fact

-- the script of C's requests, which has no step
abbrev pub quiet : Unit {0} → Plan
quiet token = blank 0

-- want of memory
abbrev pub wanted : NoMemory
wanted = record {}

-- of a request that was asked for: its number, or that it was refused as the channel was destroyed
abbrev pub accepted_told : Spec → ℕ → ℕ → Option (Result ℕ (Refused (Unit {0})))
accepted_told spec answer number =
    if answer == 0 then Some (Ok number) else
    if answer == 1 then Some (Err (record { why = refusal.Closed; spec = spec; token = tt })) else None

-- an attempt that was begun, by what was told of it and by what it is to send, and where to
abbrev pub started : ToldAttempt → Outgoing → Begun
started attempt outgoing =
    let address : ServerAddr = record { address = outgoing.address; port = attempt.port } in
    Started attempt.number attempt.leg attempt.server address attempt.link attempt.id outgoing.message

-- it is told over which link it goes, and how many bytes are to be sent
abbrev pub IsToldOf : Outgoing → ToldAttempt → Type 0
IsToldOf outgoing attempt = (attempt.link ≡ outgoing.link) × (attempt.length ≡ length (sending outgoing))

-- of an attempt that was to begin
abbrev pub begun_told : ℕ → ToldAttempt → Outgoing → Option (Result Begun NoMemory)
begun_told answer attempt outgoing =
    if answer == 0 then Some (Ok (started attempt outgoing)) else
    if answer == 2 then Some (Err wanted) else
    if answer == 3 then Some (Ok Idle) else
    if answer == 4 then Some (Ok NoId) else None

-- of a message that came
abbrev pub landed_told : ℕ → ToldLeg → Option (Result Landed NoMemory)
landed_told answer leg =
    if answer == 0 then Some (Ok (Matched leg.number leg.leg)) else
    if answer == 2 then Some (Err wanted) else
    if answer == 3 then Some (Ok Stray) else None

-- of an attempt that was to expire
abbrev pub lapse_told : ℕ → ToldLeg → Option (Result Lapse NoMemory)
lapse_told answer leg =
    if answer == 0 then Some (Ok (Expired leg.number leg.leg)) else
    if answer == 2 then Some (Err wanted) else
    if answer == 3 then Some (Ok NotDue) else None

-- of attempts that were to fail
abbrev pub failed_told : ℕ → ℕ → Option (Result ℕ NoMemory)
failed_told answer count =
    if answer == 0 then Some (Ok count) else
    if answer == 2 then Some (Err wanted) else None

-- of the next deadline
abbrev pub due_told : ℕ → ℕ → Option (Option ℕ)
due_told answer at =
    if answer == 0 then Some (Some at) else
    if answer == 3 then Some None else None

-- of a request that was to be taken
abbrev pub taken_told : ℕ → Answer → Option (Option (Ticket (Unit {0})))
taken_told answer taken =
    if answer == 0 then Some (Some (record { token = tt; call = taken })) else
    if answer == 3 then Some None else None

-- of what there is
abbrev pub counts_told : ToldCounts → Counts
counts_told counts = record { pending = counts.pending; ready = counts.ready; waiting = counts.waiting; flying = counts.flying }

-- what is told of an answer: its number, how many bytes its message has, how many addresses it has, and its status
abbrev pub request_told : Answer → ToldRequest
request_told answer = record {
  number = answer.number;
  message = length answer.message;
  addresses = length answer.addresses;
  status = code_of answer.status;
}
