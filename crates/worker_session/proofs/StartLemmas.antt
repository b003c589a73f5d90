-- Where a run stands before its first turn.
use Rattle.std.proofs.Common.{◌≡◌, ℕ, false, List, Option, Some, None, refl, sym, subst, arith}
use Rattle.channel_progress.specs.Waking.{NoWaitFailed}
use Rattle.event_runner.proofs.Theorems.{told_as}
use Rattle.event_runner.specs.State.{IsTurnOwner}
use Rattle.event_runner.specs.UnderWay.{IsUnderWay, RunsSince, rested}
use Rattle.channel_session.specs.Sitting.{reach_of}
use Rattle.net_addr.specs.declared.addr.ServerAddr.{ServerAddr}
use Rattle.net_world.specs.declared.log.WorldCall.{WorldCall}
use Rattle.owner_laws.proofs.Waits.{begun_waits}
use Rattle.worker_session.proofs.WayLemmas.{in_way}
use Rattle.worker_session.specs.Setting.{SetsBehindFirst, SetsNone}
use Rattle.worker_session.specs.Standing.{HasSet, IsSome, StandsIn}
use Rattle.worker_session.specs.Turning.{Turning, longest_pause}
use Rattle.worker_session.specs.declared.coming.Coming.TheVariants.{UnderWay}

-- the run is under way, without a turn
abbrev UnderAt : Turning → List WorldCall → Type 0
UnderAt t calls = IsTurnOwner t.known → IsUnderWay longest_pause 0 0 rested t.known t.running calls

-- no turn was made, and all servers are still to be set
pub stands_new : (turns : ℕ) (later : Option (List ServerAddr)) (began : Option (List WorldCall)) (t : Turning) → t.coming ≡ UnderWay → t.behind_turn ≡ false → t.left ≡ turns → t.later ≡ later →
    SetsNone t.known.seat t.known.seen → RunsSince longest_pause 0 0 rested t.known t.running began t.log → StandsIn turns later began t
stands_new turns later began t under_way is_rested all same none runs =
    in_way turns later began t under_way (record {
      made = 0;
      counts = omega (arith, all);
      some = subst (λ b. IsSome b 0) (sym is_rested) tt;
      runs = subst (λ b. RunsSince longest_pause 0 0 (reach_of b) t.known t.running began t.log) (sym is_rested) runs;
      waits = told_as (UnderAt t) (λ calls. IsTurnOwner t.known → NoWaitFailed calls) (λ calls way owner. begun_waits t.known.setting t.known.seat longest_pause t.known.seen calls 0 refl (way owner).course) began t.log runs;
      sets = subst (λ left. HasSet UnderWay left later 0 began t) (sym same) (by later);
    })
  where
    by : (later : Option (List ServerAddr)) → HasSet UnderWay later later 0 began t
    by None = (λ zero_. refl, told_as (UnderAt t) (λ calls. IsTurnOwner t.known → SetsBehindFirst t.known.setting t.known.seat None 0 t.known.seen calls) (λ calls way owner. none) began t.log runs)
    by (Some addresses) = record { same = refl; none = none; few = omega arith; behind = λ one. absurd (cc one) }
