-- What a scripted World can receive, and what a receive and a close of a link take of it.
use Rattle.std.proofs.Common.{◌≡◌, ℕ, ◌≤◌, List, [], ◌∷◌, Bool, true, false, not, Option, Some, None, Result, Ok, Err, IfOk, OnOk, OnErr, IsTrue, if◌then◌else◌, refl, sym, ap, subst, ◌∙◌, All, arith, map, filter, find}
use Rattle.std.proofs.lemmas.Grind.{common_steps}
use Rattle.item_list.specs.declared.no_memory.NoMemory.{NoMemory}
use Rattle.net_world.specs.declared.answers.Got.{Got}
use Rattle.net_world.specs.declared.answers.Got.TheVariants.{Datagram, Piece, Ended, Nothing, Failed as LinkFailed}
use Rattle.net_world.specs.declared.timed.Timed.{Timed}
use Rattle.net_world.specs.Cause.{HasCause, raised, is_link_failed}
use Rattle.net_world.specs.World.{Takes, Receives, Closes, IsWhole, is_of_link}
use Rattle.net_world.specs.Script.{ScriptState, MayCome, is_due, due, got_of, first_due, without_first_due, without_link, fails_now}
use Rattle.net_world.specs.ScriptCalls.{ReceivesFirst, ClosesLink}
use Rattle.net_world.proofs.CauseLemmas.{raised_later, raised_where}
use Rattle.net_world.proofs.FirstLemmas.{filter_first, filter_none, none_left_out, first_holds}

-- a close leaves what can be received of others
pub due-without_link : (link clock : ℕ) (items : List Timed) → due clock (without_link link items) ≡ filter (λ got. not (is_of_link link got)) (due clock items)
due-without_link link clock [] = refl
due-without_link link clock (item ∷ items) = grind (arith, common_steps, due-without_link link clock items)

-- what may come is taken, where it stood before the rest
takes_item : (got : Got) (rest : List Got) → MayCome got → Takes (Some (got ∷ rest)) (Some rest) got
takes_item (Datagram server bytes) rest may = refl
takes_item (Piece link bytes) rest may = refl
takes_item (Ended link) rest may = refl
takes_item Nothing rest may = absurd may
takes_item (LinkFailed server link) rest may = absurd may

-- what may come is whole, and no failure
item_is_whole : (got : Got) → MayCome got → IsWhole got × (is_link_failed got ≡ false)
item_is_whole (Datagram server bytes) may = (tt, refl)
item_is_whole (Piece link bytes) may = (may, refl)
item_is_whole (Ended link) may = (tt, refl)
item_is_whole Nothing may = absurd may
item_is_whole (LinkFailed server link) may = absurd may

module _ (clock : ℕ) (items : List Timed) (each : All (λ item. MayCome item.got) items) where
  took : (found : Option Timed) → find (is_due clock) items ≡ found → Takes (Some (due clock items)) (Some (due clock (without_first_due clock items))) (got_of found)
  took None none = (
    ap (λ left. Some (due clock left)) (none_left_out (is_due clock) items none),
    ap (map (λ item. item.got)) (filter_none (is_due clock) items none),
  )
  took (Some item) found =
      rw (filter_first (is_due clock) items item found) (takes_item item.got (due clock (without_first_due clock items)) (first_holds (is_due clock) (λ item. MayCome item.got) items item each found))

  whole : (found : Option Timed) → find (is_due clock) items ≡ found → IsWhole (got_of found) × (is_link_failed (got_of found) ≡ false)
  whole None none = (tt, refl)
  whole (Some item) found = item_is_whole item.got (first_holds (is_due clock) (λ item. MayCome item.got) items item each found)

  -- a receive takes the first item that can be received
  pub receive_takes : (failed : Bool) → Takes (Some (due clock items)) (Some (due clock (if failed then items else without_first_due clock items))) (if failed then LinkFailed 0 0 else first_due clock items)
  receive_takes false = took (find (is_due clock) items) refl
  receive_takes true = refl

  -- a receive gives a whole item, and tells a failure only where it fails
  pub receive_whole : (failed : Bool) → IsWhole (if failed then LinkFailed 0 0 else first_due clock items) × (is_link_failed (if failed then LinkFailed 0 0 else first_due clock items) ≡ failed)
  receive_whole false = whole (find (is_due clock) items) refl
  receive_whole true = (tt, refl)

module _ (old new : ScriptState) where
  -- what a receive does is what every World's receive may do
  pub received : All (λ item. MayCome item.got) old.items → (result : Result Got NoMemory)
      → IfOk result (ReceivesFirst old new)
      → OnErr result (new ≡ old)
      → HasCause old.faults new.faults is_link_failed result × Receives (Some (due old.clock old.items)) (Some (due new.clock new.items)) result × IfOk result IsWhole
  received each (Ok got) ok err =
      let failed = fails_now old in
      let whole = receive_whole old.clock old.items each failed in
      let faults : new.faults ≡ raised failed old.faults = ap (λ (state : ScriptState). state.faults) ok.state in (
        record {
          later = subst (λ (n : ℕ). old.faults ≤ n) (sym faults) (raised_later failed old.faults);
          cause = λ tells. raised_where failed old.faults new.faults faults (subst IsTrue (ap is_link_failed ok.answer ∙ whole.1) tells);
          same = tt;
        },
        rw (ok.state, ok.answer) (receive_takes old.clock old.items each failed),
        subst IsWhole (sym ok.answer) whole.0,
      )
  received each (Err e) ok err = (
    record { later = rw err (omega arith); cause = tt; same = ap (λ (state : ScriptState). state.faults) err },
    rw err refl,
    tt,
  )

  -- what a close does is what every World's close does
  pub closed : (link : ℕ) (result : Result Unit NoMemory) → OnOk result (ClosesLink link old new) → OnErr result (new ≡ old)
      → Closes link (Some (due old.clock old.items)) (Some (due new.clock new.items)) result
  closed link (Ok done) ok err = rw ok.state (ap Some (due-without_link link old.clock old.items))
  closed link (Err e) ok err = rw err refl
