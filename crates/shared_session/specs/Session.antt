-- What a session of a channel that workers share comes to: one journal orders what happened, and what was called and sent follows from it.
use Rattle.std.specs.Prelude.{List, Option, [], count_by, length, min, ℕ, ◌-◌, ◌^◌, ◌≡◌, ◌≢◌, ◌⊎◌}
use mathlib.Core.List.{IsPrefix}
use Rattle.chan_types.specs.declared.journal.Entry.{Entry}
use Rattle.chan_types.specs.declared.orders.Orders.{Orders}
use Rattle.channel_model.specs.Commands.{Asking, ObeysOrders, accepted_for, closing_position, past_at}
use Rattle.channel_model.specs.Completion.{pending, ready}
use Rattle.channel_model.specs.Course.{serves_from}
use Rattle.channel_model.specs.Journal.{accepted, is_destroy, past_of}
use Rattle.channel_model.specs.Lawful.{IsLawful}
use Rattle.channel_model.specs.Setting.{Setting}
use Rattle.net_addr.specs.declared.addr.ServerAddr.{ServerAddr}
use Rattle.net_world.specs.Logs.{LogGets}
use Rattle.net_world.specs.declared.log.WorldCall.{WorldCall}
use Rattle.shared_channel.specs.Finishing.{AnswersAll}
use Rattle.shared_channel.specs.declared.finishing.Finished.{Finished}
use Rattle.shared_session.specs.Seats.{AreSeated, AsksFirst, seats_for}
use Rattle.shared_session.specs.declared.task.SessionEnd.{SessionEnd}
use Rattle.shared_session.specs.declared.task.SessionEnd.TheVariants.{Completed, OutOfMemory, Stalled, WaitFault}
use Rattle.turner_laws.specs.Traffic.{IsTrafficBeside}
use Rattle.worker_session.specs.declared.coming.Coming.{Coming}
use Rattle.worker_session.specs.declared.coming.Coming.TheVariants.{OutOfMemory as WantedMemory, Stalled as HasStalled, UnderWay, WaitFault as HasFaulted}

-- the network was told the first of these servers, and nothing else
abbrev pub TellsSome : List ServerAddr → Option (List WorldCall) → Option (List WorldCall) → Type 0
TellsSome servers log_old log_new = LogGets (λ calls. IsPrefix calls (serves_from 0 servers)) log_old log_new

-- its turns came so far, by how the session ended
abbrev pub ComesTo : SessionEnd → Coming → Type 0
ComesTo Completed coming = coming ≡ UnderWay
ComesTo WaitFault coming = coming ≡ HasFaulted
ComesTo Stalled coming = coming ≡ HasStalled
ComesTo OutOfMemory coming = (coming ≡ WantedMemory) ⊎ (coming ≡ UnderWay)

-- the last position at which a command may be performed: where the session completed, that of the closing Destroy, if a callback hasn't destroyed the channel; else the journal's end
abbrev pub last_at : SessionEnd → List Entry → ℕ
last_at Completed journal = closing_position journal
last_at WaitFault journal = length journal
last_at Stalled journal = length journal
last_at OutOfMemory journal = length journal

-- nothing is pending and nothing ready at the closing Destroy
pub record IsOverAtClosing (setting : Setting) (journal : List Entry) : Type 0 where
  pub none_pending : pending setting (past_at journal (closing_position journal)) ≡ []
  pub none_ready : ready setting (past_at journal (closing_position journal)) ≡ []

module _ {J : Type 0} (told : J → List Entry) where
  -- what is left of a session that was asked this and came to this end, with so many workers and turns
  pub record IsSession (setting : Setting) (asked : List Asking) (orders : Orders) (later : Option (List ServerAddr)) (workers turns : ℕ) (end : SessionEnd) (finished : Finished J) (log_old log_new : Option (List WorldCall)) : Type 0 where
    -- One journal orders what happened: each of its entries may stand where it stands, and nothing is pending or ready behind it.
    pub lawful : IsLawful setting (told finished.journal)
    pub none_pending : pending setting (past_of (told finished.journal)) ≡ []
    pub none_ready : ready setting (past_of (told finished.journal)) ≡ []
    -- Each entry is of one of the session's seats: the first one asks, makes turns, sets servers, destroys the channel and takes what is left, the second takes requests; all else was commanded by callbacks.
    pub seated : AreSeated workers (told finished.journal)
    -- The requests were accepted that were asked, in order, unless memory was wanting; and no other but on a callback's command.
    pub asked_all : end ≢ OutOfMemory → accepted_for 0 (told finished.journal) ≡ asked
    pub asked_at_most : IsPrefix (accepted_for 0 (told finished.journal)) asked
    -- They were accepted before the first seat did anything else.
    pub asked_first : AsksFirst (told finished.journal)
    -- What the callbacks command was performed, the commands of each by one seat, in order; where the session completed, none of it behind the closing Destroy; and as many requests were lost as are counted.
    pub lost : ℕ
    pub obeyed : ObeysOrders setting (told finished.journal) (seats_for workers) orders (last_at end (told finished.journal)) lost
    pub counted : min finished.lost (2 ^ 64 - 1) ≡ min lost (2 ^ 64 - 1)
    -- Each accepted request was called once, with its fate, and no other.
    pub accepted_are : finished.accepted ≡ length (accepted (past_of (told finished.journal)))
    pub answers : AnswersAll setting (told finished.journal) finished.accepted finished.calls
    -- The channel was destroyed once; and where the session completed, nothing was cut short.
    pub destroyed : count_by (λ entry. is_destroy entry.what) (told finished.journal) ≡ 1
    pub complete : end ≡ Completed → IsOverAtClosing setting (told finished.journal)
    -- The first seat makes its turns, and what it called of its network falls into them, whoever else made entries between them.
    pub coming : Coming
    pub comes : ComesTo end coming
    pub traffic : LogGets (IsTrafficBeside setting 0 later turns coming (told finished.journal)) log_old log_new
