-- What the moments by their keys stand for, and which deadlines are live by them.
use Rattle.std.proofs.Common.{◌≡◌, ℕ, ◌⊎◌, inl, inr, ⊎_elim, Bool, true, false, cond, Some, None, Option, Result, Ok, Err, OnOk, OnErr, List, [], ◌∷◌, arith, ap, refl, sym, ◌∙◌, subst, ◌||◌}
use Rattle.std.specs.Prelude.{nat_eq}
use Rattle.std.specs.Ordering.{eq_by_cmp}
use Rattle.std.specs.Cmp.{Equal-is}
use Rattle.std.specs.FinMap as map
use Rattle.std.specs.HashMap.{HashMap, get}
use Rattle.std.specs.Map.{lookup}
use Rattle.std.specs.Option.{option_eq}
use Rattle.std.proofs.lemmas.Bool.{eqb-true, false≢true}
use Rattle.std.proofs.lemmas.Cmp.{eq_by_cmp_equiv, nat_eq_equiv}
use Rattle.timeout_queue.specs.declared.key.Key.{Key}
use Rattle.timeout_queue.specs.declared.key.Deadline.{Deadline}
use Rattle.timeout_queue.specs.declared.rows.Rows.{Rows}
use Rattle.timeout_queue.specs.Key.{deadline_cmp, key_cmp, key_eq}
use Rattle.timeout_queue.specs.Queue.{Deadlines, IsFirst}
use Rattle.timeout_queue.specs.Rows.{is_live, AddsLive, DropsLive, HaveLive, IsFirstLive}
use Rattle.timeout_queue.proofs.KeyLemmas.{deadline_cmp_total, deadline_cmp-IsAntisymmetric, key_cmp_total, key_cmp-IsAntisymmetric, eq_by_key_cmp, key_eq-refl, same_key}

-- ---- what the moments stand for

find-lookup : (q : Key) (es : List (Key × ℕ)) → map.find key_cmp q es ≡ lookup (key_eq q) es
find-lookup q [] = refl
find-lookup q (e ∷ es) = ap (λ b. cond b (Some e.1) (map.find key_cmp q es)) (eq_by_key_cmp q e.0) ∙ ap (cond (key_eq q e.0) (Some e.1)) (find-lookup q es)

module _ {S : Type 0} (moments : HashMap Key ℕ S) (deadlines : Deadlines) (seen : map.from_entries moments.entries ≡ deadlines) where
  -- the deadlines have these moments
  pub get-seen : (q : Key) → map.get deadlines q ≡ get key_eq moments q
  get-seen q = ap (λ d. map.get d q) (sym seen) ∙ map.get-from_entries key_cmp_total moments.entries q ∙ find-lookup q moments.entries

  -- a key that the deadlines lack has no moment
  pub get_absent : (q : Key) → map.contains_key deadlines q ≡ false → get key_eq moments q ≡ None
  get_absent q absent = sym (get-seen q) ∙ grind arith

module _ {S : Type 0} (old new : HashMap Key ℕ S) (deadlines : Deadlines) (seen : map.from_entries old.entries ≡ deadlines) where
  -- moments that some deadlines have stand for them
  seen_by_get : (other : Deadlines) → ((q : Key) → get key_eq new q ≡ map.get other q) → map.from_entries new.entries ≡ other
  seen_by_get other same = map.same_map key_cmp_total key_cmp-IsAntisymmetric _ _ (λ q. get-seen new _ refl q ∙ same q)

  pub seen_again : ((q : Key) → get key_eq new q ≡ get key_eq old q) → map.from_entries new.entries ≡ deadlines
  seen_again same = seen_by_get deadlines (λ q. same q ∙ sym (get-seen old deadlines seen q))

  pub seen_put : (key : Key) (due : ℕ) → ((q : Key) → get key_eq new q ≡ cond (key_eq key q) (Some due) (get key_eq old q)) → map.from_entries new.entries ≡ map.insert deadlines key due
  seen_put key due sets = seen_by_get (map.insert deadlines key due) (λ q.
      let has = map.get-insert key_cmp_total deadlines key due q in
      grind (arith, sets q, get-seen old deadlines seen q, has, (eq_by_cmp_equiv key_cmp_total).symm q key, eq_by_key_cmp key q))

  pub seen_taken : (key : Key) → ((q : Key) → get key_eq new q ≡ cond (key_eq key q) None (get key_eq old q)) → map.from_entries new.entries ≡ map.remove deadlines key
  seen_taken key sets = seen_by_get (map.remove deadlines key) (λ q.
      let has = map.get-remove key_cmp_total deadlines key q in
      grind (arith, sets q, get-seen old deadlines seen q, has, (eq_by_cmp_equiv key_cmp_total).symm q key, eq_by_key_cmp key q))

-- ---- which deadlines are live

abbrev pub at : Key → ℕ → Deadline
at key due = record { due = due; key = key }

moment_from : (moment : Option ℕ) (due : ℕ) → option_eq nat_eq moment (Some due) ≡ true → moment ≡ Some due
moment_from None due is = absurd (false≢true is)
moment_from (Some moment) due is = ap Some (eqb-true moment due is)

pub is_moment : (moment : Option ℕ) (due : ℕ) → moment ≡ Some due → option_eq nat_eq moment (Some due) ≡ true
is_moment moment due is = ap (λ m. option_eq nat_eq m (Some due)) is ∙ nat_eq_equiv.refl due

pub none_live : {S : Type 0} (moments : HashMap Key ℕ S) → moments.entries ≡ [] → (d : Deadline) → is_live moments d ≡ true → ⊥
none_live moments empty d live = false≢true (sym (ap (λ es. option_eq nat_eq (lookup (key_eq d.key) es) (Some d.due)) empty) ∙ live)

module _ {S : Type 0} (old new : HashMap Key ℕ S) where
  -- the same are live by the same moments
  pub have_again : (rows : Rows) → ((q : Key) → get key_eq new q ≡ get key_eq old q) → HaveLive (is_live old) rows → HaveLive (is_live new) rows
  have_again rows same have = subst (λ live. HaveLive live rows) (λ i d. option_eq nat_eq (sym (same d.key) i) (Some d.due)) have

  module _ (key : Key) (due : ℕ) where
    pub adds_live : get key_eq old key ≡ None → ((q : Key) → get key_eq new q ≡ cond (key_eq key q) (Some due) (get key_eq old q)) → AddsLive (is_live old) (at key due) (is_live new)
    adds_live absent sets = record {
      itself = is_moment _ due (sets key ∙ ap (λ b. cond b (Some due) (get key_eq old key)) (key_eq-refl key));
      kept = λ d live. kept d live (key_eq key d.key) refl;
      only = λ d live. only d live (key_eq key d.key) refl;
    }
      where
        kept : (d : Deadline) → is_live old d ≡ true → (b : Bool) → key_eq key d.key ≡ b → is_live new d ≡ true
        kept d live true same = absurd (false≢true (sym (ap (λ m. option_eq nat_eq m (Some d.due)) (ap (get key_eq old) (sym (same_key key d.key same)) ∙ absent)) ∙ live))
        kept d live false else = ap (λ m. option_eq nat_eq m (Some d.due)) (sets d.key ∙ ap (λ b. cond b (Some due) (get key_eq old d.key)) else) ∙ live

        only : (d : Deadline) → is_live new d ≡ true → (b : Bool) → key_eq key d.key ≡ b → (at key due ≡ d) ⊎ (is_live old d ≡ true)
        only d live true same =
            let moment = sym (sets d.key ∙ ap (λ b. cond b (Some due) (get key_eq old d.key)) same) ∙ moment_from _ d.due live in
            let due_is : due ≡ d.due = eqb-true due d.due (is_moment (Some due) d.due moment) in
            inl (λ i. record { due = due_is i; key = same_key key d.key same i })
        only d live false else = inr (ap (λ m. option_eq nat_eq m (Some d.due)) (sym (sets d.key ∙ ap (λ b. cond b (Some due) (get key_eq old d.key)) else)) ∙ live)

    pub drops_live : get key_eq old key ≡ Some due → ((q : Key) → get key_eq new q ≡ cond (key_eq key q) None (get key_eq old q)) → DropsLive (is_live old) (at key due) (is_live new)
    drops_live had sets = record {
      gone = λ live. false≢true (sym (ap (λ m. option_eq nat_eq m (Some due)) (sets key ∙ ap (λ b. cond b None (get key_eq old key)) (key_eq-refl key))) ∙ live);
      kept = λ d live. kept d live (key_eq key d.key) refl;
      only = λ d live. only d live (key_eq key d.key) refl;
    }
      where
        kept : (d : Deadline) → is_live old d ≡ true → (b : Bool) → key_eq key d.key ≡ b → (at key due ≡ d) ⊎ (is_live new d ≡ true)
        kept d live true same =
            let moment = sym had ∙ ap (get key_eq old) (same_key key d.key same) ∙ moment_from _ d.due live in
            let due_is : due ≡ d.due = eqb-true due d.due (is_moment (Some due) d.due moment) in
            inl (λ i. record { due = due_is i; key = same_key key d.key same i })
        kept d live false else = inr (ap (λ m. option_eq nat_eq m (Some d.due)) (sets d.key ∙ ap (λ b. cond b None (get key_eq old d.key)) else) ∙ live)

        only : (d : Deadline) → is_live new d ≡ true → (b : Bool) → key_eq key d.key ≡ b → is_live old d ≡ true
        only d live true same = absurd (false≢true (sym (ap (λ m. option_eq nat_eq m (Some d.due)) (sets d.key ∙ ap (λ b. cond b None (get key_eq old d.key)) same)) ∙ live))
        only d live false else = ap (λ m. option_eq nat_eq m (Some d.due)) (sym (sets d.key ∙ ap (λ b. cond b None (get key_eq old d.key)) else)) ∙ live

-- live besides is this deadline
abbrev pub with_one : Deadline → (Deadline → Bool) → Deadline → Bool
with_one one live d = eq_by_cmp deadline_cmp one d || live d

module _ (one : Deadline) (live : Deadline → Bool) where
  with_left : (d : Deadline) → live d ≡ true → with_one one live d ≡ true
  with_left d is = by_test (eq_by_cmp deadline_cmp one d)
    where
      by_test : (b : Bool) → (b || live d) ≡ true
      by_test true = refl
      by_test false = is

  one_or : (d : Deadline) → with_one one live d ≡ true → (one ≡ d) ⊎ (live d ≡ true)
  one_or d = by_test (eq_by_cmp deadline_cmp one d) refl
    where
      by_test : (b : Bool) → eq_by_cmp deadline_cmp one d ≡ b → (b || live d) ≡ true → (one ≡ d) ⊎ (live d ≡ true)
      by_test true tie _ = inl (deadline_cmp-IsAntisymmetric one d ((Equal-is (deadline_cmp one d)).0 tie))
      by_test false tie is = inr is

  -- it was taken in
  pub adds_one : AddsLive live one (with_one one live)
  adds_one = record {
    itself = ap (λ b. b || live one) ((eq_by_cmp_equiv deadline_cmp_total).refl one);
    kept = with_left;
    only = one_or;
  }

  -- and leaves again
  pub drops_one : (after : Deadline → Bool) → ((d : Deadline) → after d ≡ live d) → (live one ≡ true → ⊥) → DropsLive (with_one one live) one after
  drops_one after same none = record {
    gone = λ is. none (sym (same one) ∙ is);
    kept = λ d is. ⊎_elim (λ (e : one ≡ d). inl e) (λ (l : live d ≡ true). inr (same d ∙ l)) (one_or d is);
    only = λ d is. with_left d (sym (same d) ∙ is);
  }

-- ---- the first

module _ {S : Type 0} (moments : HashMap Key ℕ S) (deadlines : Deadlines) (seen : map.from_entries moments.entries ≡ deadlines) where
  -- the first of the live ones is the first of the queue
  pub first_seen : (first : Deadline) → IsFirstLive (is_live moments) first → IsFirst deadlines first.key first.due
  first_seen first is = record {
    there = get-seen moments deadlines seen first.key ∙ moment_from _ first.due is.is;
    least = λ other moment has. is.least (at other moment) (is_moment _ moment (sym (get-seen moments deadlines seen other) ∙ has));
  }

  -- where none is live the queue is empty
  pub none_seen : ((d : Deadline) → is_live moments d ≡ true → ⊥) → deadlines ≡ map.empty
  none_seen none = map.same_map key_cmp_total key_cmp-IsAntisymmetric _ _ (λ q.
      get-seen moments deadlines seen q ∙ absent q (get key_eq moments q) refl ∙ sym (map.get-empty key_cmp q))
    where
      absent : (q : Key) (moment : Option ℕ) → get key_eq moments q ≡ moment → moment ≡ None
      absent q None is = refl
      absent q (Some due) is = absurd (none (at q due) (is_moment _ due is))

-- ---- answers

pub on_err : {T E : Type 0} (P : Type 0) (r : Result T E) → P → OnErr r P
on_err P (Ok x) p = tt
on_err P (Err e) p = p

pub at_ok : {T E : Type 0} (P : Type 0) (r : Result T E) (x : T) → r ≡ Ok x → OnOk r P → P
at_ok P r x is p = subst (λ r. OnOk r P) is p
