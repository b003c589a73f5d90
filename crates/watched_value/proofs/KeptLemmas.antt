-- Each step keeps the rule.
use Rattle.std.proofs.Common.{◌≡◌, ◌≢◌, ◌∙◌, ⊎_elim, ℕ, zero, suc, ◌+◌, List, [], ◌∷◌, ◌++◌, length, set, refl, ap, sym, subst, arith, length-append, Result, Ok, Err, IsOk, MatchResult, fold}
use mathlib.Core.List.{IsPrefix}
use mathlib.Core.Option.{some, some-injective, some-ne-none}
use lib.ListN.{get_elem?}
use Rattle.atomic_table.proofs.Lists.{at_set, at_snoc}
use Rattle.left_right.specs.Register.{Admits, TurnsAt, Turns, Forks, Merges}
use Rattle.watched_value.specs.declared.page.Page.{Page}
use Rattle.watched_value.specs.Rule.{IsPageOf, IsTold}
use Rattle.watched_value.proofs.BeginningLemmas.{prefix_self, prefix_whole, prefix_more, latest_added}

module _ {S : Type 0} (opening : S) where
  -- a page of a list that one value was added to
  pub added : (page : Page S) (values : List S) → page.number ≡ length values + 1 → IsPageOf opening page (values ++ page.value ∷ [])
  added page values next = record { value = sym (latest_added opening page.value values); number = omega (arith, next, length-append values (page.value ∷ [])) }

  pub begins : (page : Page S) → page.value ≡ opening → page.number ≡ 0 → IsTold opening page ([] ∷ [])
  begins page is none = record { told = []; shown = record { value = is; number = none }; each = λ i known at. only i known at }
    where
      only : (i : ℕ) (known : List S) → get_elem? {A = List S} ([] ∷ []) i ≡ some known → IsPrefix known []
      only zero known at = subst (λ l. IsPrefix l []) (some-injective [] known at) ([], refl)
      only (suc i) known at = absurd (some-ne-none known (sym at))

  pub admits : Admits (IsTold opening) []
  admits page sides held = record {
    told = held.told;
    shown = held.shown;
    each = λ i known at. ⊎_elim (λ (is : get_elem? sides i ≡ some known). held.each i known is) (λ (is : [] ≡ known). subst (λ l. IsPrefix l held.told) is (held.told, refl)) (at_snoc sides [] known i at);
  }

  -- what each side knows is a beginning, after a change of one that stays one
  each_set : (told w : List S) (sides : List (List S)) (pass : ℕ) → ((i : ℕ) (known : List S) → get_elem? sides i ≡ some known → IsPrefix known told) → IsPrefix w told
      → (i : ℕ) (known : List S) → get_elem? (set sides pass w) i ≡ some known → IsPrefix known told
  each_set told w sides pass all one i known at = ⊎_elim (λ (is : (i ≡ pass) × (w ≡ known)). subst (λ l. IsPrefix l told) is.1 one) (λ (is : (i ≢ pass) × (get_elem? sides i ≡ some known)). all i known is.1) (at_set sides pass i w known at)

  -- a reader sees all
  pub looks : (pass : ℕ) (v : List S) → Turns (IsTold opening) pass v (λ x. x) (λ known before after next. IsPrefix known next × IsPageOf opening after next)
  looks pass v page sides held at = (
    held.told,
    record { told = held.told; shown = held.shown; each = each_set held.told held.told sides pass held.each (prefix_self held.told) },
    (held.each pass v at, held.shown),
  )

  -- the writer, which knows as many values as were published, adds one
  pub adds : (pass : ℕ) (v : List S) (page next : Page S) → page.number ≡ length v → next.number ≡ length v + 1
      → TurnsAt (IsTold opening) pass v page next (λ known before after list. list ≡ known ++ after.value ∷ [])
  adds pass v page next all more sides held at =
      let whole : v ≡ held.told = prefix_whole v held.told (held.each pass v at) (omega (arith, all, held.shown.number)) in
      let told = v ++ next.value ∷ [] in (
        told,
        record {
          told = told;
          shown = added next v more;
          each = each_set told told sides pass (λ i known is. prefix_more known v (next.value ∷ []) (subst (λ l. IsPrefix known l) (sym whole) (held.each i known is))) (prefix_self told);
        },
        refl,
      )

  -- the writer tells what it knows
  pub forks : (pass : ℕ) (v : List S) → Forks (IsTold opening) pass v v v
  forks pass v page sides held at = record {
    told = held.told;
    shown = held.shown;
    each = λ i known is. ⊎_elim (λ (old : get_elem? (set sides pass v) i ≡ some known). each_set held.told v sides pass held.each (held.each pass v at) i known old) (λ (new : v ≡ known). subst (λ l. IsPrefix l held.told) new (held.each pass v at)) (at_snoc (set sides pass v) v known i is);
  }

  -- a new reader hears it
  pub merges : (pass : ℕ) (v : List S) (other : ℕ) (w : List S) → Merges (IsTold opening) pass v other w w []
  merges pass v other w page sides held at apart there =
      let one : IsPrefix w held.told = ⊎_elim (λ (is : (other ≡ pass) × (w ≡ w)). absurd (apart is.0)) (λ (is : (other ≢ pass) × (get_elem? sides other ≡ some w)). held.each other w is.1) (at_set sides pass other w w there) in record {
        told = held.told;
        shown = held.shown;
        each = each_set held.told [] (set sides pass w) other (each_set held.told w sides pass held.each one) (held.told, refl);
      }

-- what holds where the result is Ok, which it is
pub ok_part : {A E : Type 0} (P : A → Type 0) (Q : E → Type 0) (r : Result A E) → IsOk r → MatchResult r P Q → (a : A) × P a
ok_part P Q (Ok a) is m = (a, m)
ok_part P Q (Err e) is m = absurd (cc is)

-- the one operation that is pending is the page that readers are shown next
pub shown_next : {P : Type 0} (shown page next : P) (none pending : List P) → none ≡ [] → pending ≡ none ++ page ∷ [] → next ≡ fold (λ p o. o) shown pending → next ≡ page
shown_next shown page next none pending empty all is = is ∙ ap (λ l. fold (λ p o. o) shown l) (all ∙ ap (λ l. l ++ page ∷ []) empty)
