-- What contracts see of a pass: a caller's right to a channel.
use Rattle.std.specs.Coded.{Coded, codes}
use Rattle.std.specs.Prelude.{Bool, IsSome, List, None, Option, Some, false, true, ℕ}
use Rattle.std.proofs.Common.{subst}
use Rattle.atomic_table.specs.Seated.{TableId}
use Rattle.chan_types.specs.PlanCode.{moves_code}
use Rattle.chan_types.specs.declared.answer.Answer.{Answer}
use Rattle.chan_types.specs.declared.journal.Entry.{Entry}
use Rattle.channel_model.specs.Known.{Known}
use Rattle.channel_model.specs.Setting.{Setting}
use Rattle.hosts_file.specs.declared.hosts.Hosts.{Hosts}
use Rattle.resolv_options.specs.declared.options.Options.{Options}
use Rattle.seat_lock.specs.History.{SeatView}
use Rattle.seat_lock.specs.declared.view.Left.{Left}
use Rattle.shared_channel.specs.Under.{setting_by}

-- a pass: its channel's lock, how many passes the channel has, its number, the channel's setting, the entries that it made,
-- the journal that it has seen, what the passes left that were joined into it, the answers that were told through it,
-- and how many requests of callbacks it lost
pub record PassView : Type 0 where
  pub lock : TableId
  pub seats : ℕ
  pub number : ℕ
  pub setting : Setting
  pub own : List Entry
  pub seen : List Entry
  pub joined : List (Left Entry)
  pub calls : List Answer
  pub lost : ℕ

-- what a pass has that no call of a desk changes, beside its number and the setting
pub record Belongings : Type 0 where
  pub lock : TableId
  pub seats : ℕ
  pub joined : List (Left Entry)
  pub calls : List Answer
  pub lost : ℕ

abbrev pub belongings_of : PassView → Belongings
belongings_of pass = record { lock = pass.lock; seats = pass.seats; joined = pass.joined; calls = pass.calls; lost = pass.lost }

-- how the logic stores them
pub belongings_code : Coded Belongings
belongings_code = Prim.hlevel (codes, moves_code)

-- a pass as a desk, which speaks on nobody's command. Behind a call that knows desks alone, its home tells that the pass has all that it had
abbrev pub desk_of : PassView → Known
desk_of pass = record { setting = pass.setting; home = belongings_code.code (belongings_of pass); seat = pass.number; voice = 0; own = pass.own; seen = pass.seen; names = None }

-- nothing where a test passes
abbrev pub Never : Bool → Type 0
Never false = Unit {0}
Never true = ⊥

-- the item of an option that has one
abbrev pub the : {T : Type 0} → (o : Option T) → IsSome o → T
the None some = absurd (subst Never some tt)
the (Some x) some = x

-- the pass with this seat, which was told these answers and lost so many requests
abbrev pub pass_of : (seat : SeatView Entry (Options × Hosts)) → IsSome seat.setting → List Answer → ℕ → PassView
pass_of seat is_set calls lost = record {
  lock = seat.lock;
  seats = seat.seats;
  number = seat.number;
  setting = setting_by (the seat.setting is_set);
  own = seat.own;
  seen = seat.seen;
  joined = seat.joined;
  calls = calls;
  lost = lost;
}
