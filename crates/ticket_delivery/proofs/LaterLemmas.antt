-- What stays behind further entries: a fate, and that a channel was destroyed, in which nothing is pending.
use Rattle.std.proofs.Common.{◌≡◌, ◌∙◌, ◌≤◌, ℕ, Bool, true, false, List, [], ◌∷◌, Option, Some, None, cond, length, refl, ap, sym, arith}
use Rattle.std.specs.Prelude.{filter, is_none, is_some}
use Rattle.chan_types.specs.declared.answer.Answer.{Answer}
use Rattle.chan_types.specs.declared.journal.Entry.{Entry}
use Rattle.chan_types.specs.declared.journal.What.{What}
use Rattle.chan_types.specs.declared.journal.What.TheVariants.{Accept, Arrive, Cancel, Destroy, Expire, Fault, Servers, Start, Take}
use Rattle.channel_model.specs.Completion.{completed_by, fate, pending}
use Rattle.channel_model.specs.Journal.{Past, followed_by, is_destroyed}
use Rattle.channel_model.specs.Lawful.{IsLawfulPast}
use Rattle.channel_model.specs.Setting.{Setting}
use Rattle.channel_model.proofs.Theorems.{completed-behind, destroy_completes, fate-one, pending-behind}

-- behind further entries a fate is the same
pub fate_behind : (setting : Setting) (request : ℕ) (past : Past) (es : List Entry) (answer : Answer) → fate setting request past ≡ Some answer → fate setting request (followed_by past es) ≡ Some answer
fate_behind setting request past [] answer is = is
fate_behind setting request past (e ∷ es) answer is = fate_behind setting request (e.what ∷ past) es answer (fate-one setting request answer e.what past is)

-- what a test passes everywhere, its opposite passes nowhere
filter-few : {A : Type 0} (test : A → Bool) (xs : List A) → length (filter test xs) ≤ length xs
filter-few test [] = omega arith
filter-few test (x ∷ xs) = by_test (test x) (filter-few test xs)
  where
    by_test : (b : Bool) → length (filter test xs) ≤ length xs → length (cond b (x ∷ filter test xs) (filter test xs)) ≤ length (x ∷ xs)
    by_test true rest = omega (arith, rest)
    by_test false rest = omega (arith, rest)

none_left : {A B : Type 0} (f : A → Option B) (xs : List A) → filter (λ x. is_some (f x)) xs ≡ xs → filter (λ x. is_none (f x)) xs ≡ []
none_left f [] all = refl
none_left {B = B} f (x ∷ xs) all = by_item (f x) (none_left f xs) all
  where
    few : length (filter (λ y. is_some (f y)) xs) ≤ length xs
    few = filter-few (λ y. is_some (f y)) xs

    by_item : (o : Option B) → (filter (λ y. is_some (f y)) xs ≡ xs → filter (λ y. is_none (f y)) xs ≡ [])
        → cond (is_some o) (x ∷ filter (λ y. is_some (f y)) xs) (filter (λ y. is_some (f y)) xs) ≡ x ∷ xs
        → cond (is_none o) (x ∷ filter (λ y. is_none (f y)) xs) (filter (λ y. is_none (f y)) xs) ≡ []
    by_item None rest e = absurd (omega (arith, few, ap length e))
    by_item (Some b) rest e = rest (cc e)

module _ (setting : Setting) where
  -- in a destroyed channel nothing is pending
  pub destroyed_pending : (past : Past) → IsLawfulPast setting past → is_destroyed past ≡ true → pending setting past ≡ []
  destroyed_pending [] lawful is = absurd (cc is)
  destroyed_pending (Accept number spec script ∷ past) lawful is = let clash : true ≡ false = sym is ∙ lawful.0.0 in absurd (cc clash)
  destroyed_pending (Destroy ∷ past) lawful is =
      pending-behind setting Destroy past refl
      ∙ none_left (λ number. completed_by setting number Destroy past) (pending setting past) (sym (completed-behind setting Destroy past refl) ∙ destroy_completes setting past)
  destroyed_pending (Cancel ∷ past) lawful is = pending-behind setting Cancel past refl ∙ ap (filter (λ number. is_none (completed_by setting number Cancel past))) (destroyed_pending past lawful.1 is)
  destroyed_pending (Take n ∷ past) lawful is = pending-behind setting (Take n) past refl ∙ ap (filter (λ number. is_none (completed_by setting number (Take n) past))) (destroyed_pending past lawful.1 is)
  destroyed_pending (Start n leg server link id mix moment ∷ past) lawful is =
      pending-behind setting (Start n leg server link id mix moment) past refl
      ∙ ap (filter (λ number. is_none (completed_by setting number (Start n leg server link id mix moment) past))) (destroyed_pending past lawful.1 is)
  destroyed_pending (Arrive server link bytes ∷ past) lawful is =
      pending-behind setting (Arrive server link bytes) past refl
      ∙ ap (filter (λ number. is_none (completed_by setting number (Arrive server link bytes) past))) (destroyed_pending past lawful.1 is)
  destroyed_pending (Expire n leg moment ∷ past) lawful is =
      pending-behind setting (Expire n leg moment) past refl ∙ ap (filter (λ number. is_none (completed_by setting number (Expire n leg moment) past))) (destroyed_pending past lawful.1 is)
  destroyed_pending (Fault server link moment ∷ past) lawful is =
      pending-behind setting (Fault server link moment) past refl ∙ ap (filter (λ number. is_none (completed_by setting number (Fault server link moment) past))) (destroyed_pending past lawful.1 is)
  destroyed_pending (Servers list ∷ past) lawful is = pending-behind setting (Servers list) past refl ∙ ap (filter (λ number. is_none (completed_by setting number (Servers list) past))) (destroyed_pending past lawful.1 is)

-- a channel that was destroyed stays so
pub destroyed_later : (past : Past) (entries : List Entry) → is_destroyed past ≡ true → is_destroyed (followed_by past entries) ≡ true
destroyed_later past [] is = is
destroyed_later past (e ∷ es) is = destroyed_later (e.what ∷ past) es (by_what e.what)
  where
    by_what : (what : What) → is_destroyed (what ∷ past) ≡ true
    by_what (Accept number spec script) = is
    by_what Cancel = is
    by_what Destroy = refl
    by_what (Take number) = is
    by_what (Start number leg server link id mix moment) = is
    by_what (Arrive server link bytes) = is
    by_what (Expire number leg moment) = is
    by_what (Fault server link moment) = is
    by_what (Servers list) = is
