-- A network that goes by a script wakes in time for a turn.
use Rattle.std.proofs.Common.{◌≡◌, ◌∙◌, ◌≤◌, ℕ, Bool, true, false, List, [], ◌∷◌, Some, refl, ap, sym, subst, cond, map, inl, inr, ◌⊎◌}
use Rattle.std.proofs.lemmas.Bool.{le-leb, or_left, or_right}
use Rattle.std.proofs.lemmas.List.Elements.{recursion_from_All}
use Rattle.std.specs.List.{AllByRecursion}
use Rattle.std.specs.Prelude.{All, IsTrue, filter, find, nat_le, not, ◌≢◌, ◌||◌}
use Rattle.net_world.specs.Script.{MayCome, ScriptState, due, fails_now, first_due, got_of, is_due}
use Rattle.net_world.specs.ScriptCalls.{ReadsClock, ReceivesFirst, WakesWell}
use Rattle.net_world.specs.declared.answers.Got.{Got}
use Rattle.net_world.specs.declared.answers.Got.TheVariants.{Datagram, Ended, Failed as LinkFailed, Nothing, Piece}
use Rattle.net_world.specs.declared.answers.Waited.TheVariants.{Woken}
use Rattle.net_world.specs.declared.log.WorldCall.{WorldCall}
use Rattle.net_world.specs.declared.log.WorldCall.TheVariants.{Now, Receive}
use Rattle.net_world.specs.declared.timed.Timed.{Timed}
use Rattle.channel_model.specs.Turn.{is_nothing}
use Rattle.channel_progress.specs.Waking.{is_in_time}

-- what a script may let come is something
comes_some : (got : Got) → MayCome got → is_nothing got ≡ false
comes_some (Datagram server bytes) may = refl
comes_some (Piece link bytes) may = refl
comes_some (Ended link) may = refl
comes_some Nothing may = absurd may
comes_some (LinkFailed server link) may = absurd may

-- where some of its items are due, the first of them is something
first_is_some : (clock : ℕ) (items : List Timed) → AllByRecursion (λ (item : Timed). MayCome item.got) items → due clock items ≢ [] → is_nothing (first_due clock items) ≡ false
first_is_some clock [] may some = absurd (some refl)
first_is_some clock (item ∷ items) may some = by_test (is_due clock item) (comes_some item.got may.0) some (first_is_some clock items may.1)
  where
    by_test : (b : Bool) → is_nothing item.got ≡ false → map (λ (i : Timed). i.got) (cond b (item ∷ filter (is_due clock) items) (filter (is_due clock) items)) ≢ []
        → (due clock items ≢ [] → is_nothing (first_due clock items) ≡ false) → is_nothing (got_of (cond b (Some item) (find (is_due clock) items))) ≡ false
    by_test true here some rest = here
    by_test false here some rest = rest some

module _ (until reading : ℕ) (behind read new : ScriptState) (got : Got) (calls : List WorldCall) (may : All (λ item. MayCome item.got) behind.items) (reads : ReadsClock behind read reading) (receives : ReceivesFirst read new got) where
  got_some : due behind.clock behind.items ≢ [] → is_nothing got ≡ false
  got_some some =
      ap is_nothing (receives.answer ∙ ap (λ (s : ScriptState). cond (fails_now read) (LinkFailed 0 0) (first_due s.clock s.items)) reads.state)
      ∙ by_test (fails_now read) (first_is_some behind.clock behind.items (recursion_from_All (λ (item : Timed). MayCome item.got) behind.items may) some)
    where
      by_test : (b : Bool) → is_nothing (first_due behind.clock behind.items) ≡ false → is_nothing (cond b (LinkFailed 0 0) (first_due behind.clock behind.items)) ≡ false
      by_test true first = refl
      by_test false first = first

  by_end : (due behind.clock behind.items ≢ []) ⊎ (until ≤ behind.clock) → (not (is_nothing got) || nat_le until reading) ≡ true
  by_end (inl some) = or_left (not (is_nothing got)) (nat_le until reading) (ap not (got_some some))
  by_end (inr late) = or_right (not (is_nothing got)) (nat_le until reading) (le-leb until reading (subst (λ n. until ≤ n) (sym reads.clock) late))

  -- behind a wait that didn't fail, where the clock is read and something is received next
  in_time : WakesWell until behind Woken → IsTrue (is_in_time until (Now reading ∷ Receive got ∷ calls))
  in_time wakes = by_end wakes

pub script_in_time : (until reading : ℕ) (behind read new : ScriptState) (got : Got) (calls : List WorldCall) → All (λ item. MayCome item.got) behind.items → WakesWell until behind Woken
    → ReadsClock behind read reading → ReceivesFirst read new got → IsTrue (is_in_time until (Now reading ∷ Receive got ∷ calls))
script_in_time until reading behind read new got calls may wakes reads receives = in_time until reading behind read new got calls may reads receives wakes
