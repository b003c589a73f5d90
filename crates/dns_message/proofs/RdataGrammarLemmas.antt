-- Rdata: what reading gives is what the grammar says.
use Rattle.std.proofs.Common.{◌≡◌, ℕ, zero, suc, ◌+◌, ◌-◌, ◌≤◌, Bool, true, false, cond, eqb, ltb, List, [], ◌∷◌, ◌++◌, length, Result, Ok, Err, inl, inr, refl, sym, ap, subst, ◌∙◌, arith}
use Rattle.std.specs.Prelude.{◌||◌, not, slice_range, is_some}
use Rattle.std.specs.List.{flat_map}
use Rattle.std.proofs.lemmas.Bool.{ltb-false, le-ltb, eq-eqb, eqb-true, or_parts, not-false}
use Rattle.dns_message.specs.declared.fault.MessageFault.{MessageFault}
use Rattle.dns_message.specs.declared.fault.MessageFault.TheVariants.{BadRdata}
use Rattle.dns_message.specs.declared.shape.NamesShape.{NamesShape}
use Rattle.dns_message.specs.declared.shape.Shape.{Shape}
use Rattle.dns_message.specs.declared.shape.Shape.TheVariants as shapes
use Rattle.dns_message.specs.Shapes.{strings_of, is_two}
use Rattle.dns_message.specs.Spelling.{name_bytes}
use Rattle.dns_message.specs.Reading.{◌>>=◌, name_of, expanded_name, or_else, joined_of, appended, names_rdata, rdata_of}
use Rattle.dns_message.specs.Grammar.{SpellsName, SpellsAll, SpellsNames, SpellsRdata}
use Rattle.dns_message.proofs.ShapeLemmas.{shape_says}
use Rattle.dns_message.proofs.StepLemmas.{bind_ok, guard_ok, held_ok, ok_is, never, bind_err, guard_err, never_err}
use Rattle.dns_message.proofs.RunGrammarLemmas.{name_is_read, name_is_spelled, run_within_bytes}

-- ---- names

module _ (bytes : List ℕ) (bad : MessageFault) where
  abbrev pub one_name : ℕ → Result (List ℕ × ℕ) MessageFault
  one_name p = or_else bad (expanded_name bytes p)

  or_ok : {A : Type 0} (r : Result A MessageFault) (x : A) → or_else bad r ≡ Ok x → r ≡ Ok x
  or_ok (Ok y) x e = e
  or_ok (Err fault) x e = absurd cc

  record NamesSpelled (p n : ℕ) (x : List ℕ × ℕ) : Type 0 where
    pub names : List (List (List ℕ))
    pub count : length names ≡ n
    pub spelled : SpellsAll (SpellsName bytes) p names x.1
    pub joined : x.0 ≡ flat_map name_bytes names

  names_spelled : (n p : ℕ) (x : List ℕ × ℕ) → joined_of one_name n p ≡ Ok x → NamesSpelled p n x
  names_spelled zero p x e = subst (λ (y : List ℕ × ℕ). NamesSpelled p 0 y) (ok_is ([], p) x e) (record { names = []; count = refl; spelled = refl; joined = refl })
  names_spelled (suc n) p x e =
      let a = bind_ok (one_name p) (λ first. joined_of one_name n first.1 >>= λ others. Ok (first.0 ++ others.0, others.1)) x e in
      let b = bind_ok (joined_of one_name n a.0.1) (λ others. Ok (a.0.0 ++ others.0, others.1)) x a.2 in
      let c = bind_ok (name_of bytes p) (λ name. Ok (name_bytes name.0, name.1)) a.0 (or_ok (expanded_name bytes p) a.0 a.1) in
      let found : ◌≡◌ {A = List ℕ × ℕ} (name_bytes c.0.0, c.0.1) a.0 = ok_is (name_bytes c.0.0, c.0.1) a.0 c.2 in
      let others = names_spelled n a.0.1 b.0 b.1 in
      let made : List ℕ × ℕ = (a.0.0 ++ b.0.0, b.0.1) in
      let first : SpellsName bytes p c.0.0 a.0.1 = subst (λ (y : List ℕ × ℕ). SpellsName bytes p c.0.0 y.1) found (name_is_spelled bytes p c.0.0 c.0.1 c.1) in
      let front : a.0.0 ≡ name_bytes c.0.0 = ap (λ (y : List ℕ × ℕ). y.0) (sym found) in
      subst (λ (y : List ℕ × ℕ). NamesSpelled p (suc n) y) (ok_is made x b.2) (record {
        names = c.0.0 ∷ others.names;
        count = ap suc others.count;
        spelled = (a.0.1, first, others.spelled);
        joined = ap (λ (l : List ℕ). l ++ b.0.0) front ∙ ap (λ (l : List ℕ). name_bytes c.0.0 ++ l) others.joined;
      })

  names_read : (p : ℕ) (names : List (List (List ℕ))) (next : ℕ) → SpellsAll (SpellsName bytes) p names next → joined_of one_name (length names) p ≡ Ok (flat_map name_bytes names, next)
  names_read p [] next s = ap (λ (k : ℕ). Ok ([], k)) (sym s)
  names_read p (labels ∷ names) next s = rw (name_is_read bytes p labels s.0 s.1, names_read s.0 names next s.2) refl

pub names_after : (bytes : List ℕ) (p : ℕ) (names : List (List (List ℕ))) (next : ℕ) → SpellsAll (SpellsName bytes) p names next → p ≤ next
names_after bytes p [] next s = omega (arith, s)
names_after bytes p (labels ∷ names) next s = omega (arith, (run_within_bytes bytes p p labels s.0 s.1.run).0, names_after bytes s.0 names next s.2)

-- the bytes before the names, those of the names and those behind them
names_are_spelled : (bytes : List ℕ) (p len : ℕ) (s : NamesShape) (rdata : List ℕ) → names_rdata bytes p len s ≡ Ok rdata → SpellsNames bytes p (p + len) s rdata
names_are_spelled bytes p len s rdata e =
    let read = joined_of (one_name bytes (BadRdata p)) s.names (p + s.front) in
    let front = slice_range bytes p (p + s.front) in
    let last : List ℕ × ℕ → Result (List ℕ) MessageFault = λ found. cond (ltb (p + len) found.1 || not (eqb (p + len - found.1) s.back)) (Err (BadRdata p)) (Ok (found.0 ++ slice_range bytes found.1 (p + len))) in
    let long = guard_ok (ltb len s.front) (BadRdata p) (appended front read >>= last) rdata e in
    let a = bind_ok (appended front read) last rdata long.1 in
    let b = bind_ok read (λ found. Ok (front ++ found.0, found.1)) a.0 a.1 in
    let names = names_spelled bytes (BadRdata p) s.names (p + s.front) b.0 b.1 in
    let found : ◌≡◌ {A = List ℕ × ℕ} (front ++ b.0.0, b.0.1) a.0 = ok_is (front ++ b.0.0, b.0.1) a.0 b.2 in
    let behind : b.0.1 ≡ a.0.1 = ap (λ (y : List ℕ × ℕ). y.1) found in
    let bytes_front : a.0.0 ≡ front ++ flat_map name_bytes names.names = ap (λ (y : List ℕ × ℕ). y.0) (sym found) ∙ ap (λ (l : List ℕ). front ++ l) names.joined in
    let g = guard_ok (ltb (p + len) a.0.1 || not (eqb (p + len - a.0.1) s.back)) (BadRdata p) (Ok (a.0.0 ++ slice_range bytes a.0.1 (p + len))) rdata a.2 in
    let tests = or_parts (ltb (p + len) a.0.1) (not (eqb (p + len - a.0.1) s.back)) g.0 in
    let back : p + len - a.0.1 ≡ s.back = eqb-true (p + len - a.0.1) s.back (not-false (eqb (p + len - a.0.1) s.back) tests.1) in
    record {
      names = names.names;
      behind = a.0.1;
      count = names.count;
      spelled = subst (λ (k : ℕ). SpellsAll (SpellsName bytes) (p + s.front) names.names k) behind names.spelled;
      end = omega (arith, ltb-false (p + len) a.0.1 tests.0, back);
      expanded = sym (ok_is (a.0.0 ++ slice_range bytes a.0.1 (p + len)) rdata g.1) ∙ ap (λ (l : List ℕ). l ++ slice_range bytes a.0.1 (p + len)) bytes_front;
    }

names_are_read : (bytes : List ℕ) (p len : ℕ) (s : NamesShape) (rdata : List ℕ) → SpellsNames bytes p (p + len) s rdata → names_rdata bytes p len s ≡ Ok rdata
names_are_read bytes p len s rdata x =
    let front = slice_range bytes p (p + s.front) in
    let after : p + s.front ≤ x.behind = names_after bytes (p + s.front) x.names x.behind x.spelled in
    let long : ltb len s.front ≡ false = le-ltb len s.front (omega (arith, x.end)) in
    let read : joined_of (one_name bytes (BadRdata p)) s.names (p + s.front) ≡ Ok (flat_map name_bytes x.names, x.behind) = ap (λ (n : ℕ). joined_of (one_name bytes (BadRdata p)) n (p + s.front)) (sym x.count) ∙ names_read bytes (BadRdata p) (p + s.front) x.names x.behind x.spelled in
    let within : ltb (p + len) x.behind ≡ false = le-ltb (p + len) x.behind (omega (arith, x.end)) in
    let back : eqb (p + len - x.behind) s.back ≡ true = eq-eqb (p + len - x.behind) s.back (omega (arith, x.end)) in
    rw (long, read, within, back) (ap (λ (l : List ℕ). Ok l) (sym x.expanded))

-- ---- all shapes

pub rdata_is_spelled : (bytes : List ℕ) (p len : ℕ) (shape : Shape) (rdata : List ℕ) → rdata_of bytes p len shape ≡ Ok rdata → SpellsRdata bytes p (p + len) shape rdata
rdata_is_spelled bytes p len shapes.Any rdata e = sym (ok_is (slice_range bytes p (p + len)) rdata e)
rdata_is_spelled bytes p len (shapes.Bytes count) rdata e =
    let g = held_ok (eqb len count) (BadRdata p) (Ok (slice_range bytes p (p + len))) rdata e in
    (sym (ok_is (slice_range bytes p (p + len)) rdata g.1), ap (λ (k : ℕ). p + k) (eqb-true len count g.0))
rdata_is_spelled bytes p len shapes.TwoStrings rdata e =
    let g = held_ok (is_two (strings_of (slice_range bytes p (p + len)))) (BadRdata p) (Ok (slice_range bytes p (p + len))) rdata e in
    let same : slice_range bytes p (p + len) ≡ rdata = ok_is (slice_range bytes p (p + len)) rdata g.1 in
    (sym same, (shape_says shapes.TwoStrings rdata).0 (ap (λ (l : List ℕ). is_two (strings_of l)) (sym same) ∙ g.0))
rdata_is_spelled bytes p len shapes.Strings rdata e =
    let g = held_ok (is_some (strings_of (slice_range bytes p (p + len)))) (BadRdata p) (Ok (slice_range bytes p (p + len))) rdata e in
    let same : slice_range bytes p (p + len) ≡ rdata = ok_is (slice_range bytes p (p + len)) rdata g.1 in
    let found = (shape_says shapes.Strings rdata).0 (ap (λ (l : List ℕ). is_some (strings_of l)) (sym same) ∙ g.0) in
    (sym same, found.0, found.1)
rdata_is_spelled bytes p len (shapes.Names s) rdata e = names_are_spelled bytes p len s rdata e

pub rdata_is_read : (bytes : List ℕ) (p len : ℕ) (shape : Shape) (rdata : List ℕ) → SpellsRdata bytes p (p + len) shape rdata → rdata_of bytes p len shape ≡ Ok rdata
rdata_is_read bytes p len shapes.Any rdata s = ap (λ (l : List ℕ). Ok l) (sym s)
rdata_is_read bytes p len (shapes.Bytes count) rdata s =
    let test : eqb len count ≡ true = eq-eqb len count (omega (arith, s.1)) in
    rw test (ap (λ (l : List ℕ). Ok l) (sym s.0))
rdata_is_read bytes p len shapes.TwoStrings rdata s =
    let test : is_two (strings_of (slice_range bytes p (p + len))) ≡ true = ap (λ (l : List ℕ). is_two (strings_of l)) (sym s.0) ∙ (shape_says shapes.TwoStrings rdata).1 s.1 in
    rw test (ap (λ (l : List ℕ). Ok l) (sym s.0))
rdata_is_read bytes p len shapes.Strings rdata s =
    let test : is_some (strings_of (slice_range bytes p (p + len))) ≡ true = ap (λ (l : List ℕ). is_some (strings_of l)) (sym s.0) ∙ (shape_says shapes.Strings rdata).1 (s.1, s.2) in
    rw test (ap (λ (l : List ℕ). Ok l) (sym s.0))
rdata_is_read bytes p len (shapes.Names s) rdata x = names_are_read bytes p len s rdata x

-- ---- faults

module _ (bytes : List ℕ) (bad : MessageFault) where
  one_bad : {A : Type 0} (r : Result A MessageFault) (fault : MessageFault) → or_else bad r ≡ Err fault → bad ≡ fault
  one_bad (Ok x) fault e = absurd cc
  one_bad (Err other) fault e = cc

  names_bad : (n p : ℕ) (fault : MessageFault) → joined_of (one_name bytes bad) n p ≡ Err fault → bad ≡ fault
  names_bad zero p fault e = absurd cc
  names_bad (suc n) p fault e = elim (bind_err (one_name bytes bad p) (λ first. joined_of (one_name bytes bad) n first.1 >>= λ others. Ok (first.0 ++ others.0, others.1)) fault e) [
    | inl first ↦ one_bad (expanded_name bytes p) fault first
    | inr on ↦ elim (bind_err (joined_of (one_name bytes bad) n on.0.1) (λ others. Ok (on.0.0 ++ others.0, others.1)) fault on.2) [
      | inl others ↦ names_bad n on.0.1 fault others
      | inr end ↦ never_err (on.0.0 ++ end.0.0, end.0.1) fault end.2
    ]
  ]

names_rdata_bad : (bytes : List ℕ) (p len : ℕ) (s : NamesShape) (fault : MessageFault) → names_rdata bytes p len s ≡ Err fault → BadRdata p ≡ fault
names_rdata_bad bytes p len s fault e =
    let read = joined_of (one_name bytes (BadRdata p)) s.names (p + s.front) in
    let front = slice_range bytes p (p + s.front) in
    let last : List ℕ × ℕ → Result (List ℕ) MessageFault = λ found. cond (ltb (p + len) found.1 || not (eqb (p + len - found.1) s.back)) (Err (BadRdata p)) (Ok (found.0 ++ slice_range bytes found.1 (p + len))) in
    elim (guard_err (ltb len s.front) (BadRdata p) (appended front read >>= last) fault e) [
      | inl short ↦ short.1
      | inr a ↦ elim (bind_err (appended front read) last fault a.1) [
        | inl b ↦ elim (bind_err read (λ found. Ok (front ++ found.0, found.1)) fault b) [
          | inl names ↦ names_bad bytes (BadRdata p) s.names (p + s.front) fault names
          | inr end ↦ never_err (front ++ end.0.0, end.0.1) fault end.2
        ]
        | inr b ↦ elim (guard_err (ltb (p + len) b.0.1 || not (eqb (p + len - b.0.1) s.back)) (BadRdata p) (Ok (b.0.0 ++ slice_range bytes b.0.1 (p + len))) fault b.2) [
          | inl wrong ↦ wrong.1
          | inr end ↦ never_err (b.0.0 ++ slice_range bytes b.0.1 (p + len)) fault end.1
        ]
      ]
    ]

-- a test that had to hold, and didn't
test_bad : {A : Type 0} (b : Bool) (bad fault : MessageFault) (x : A) → cond b (Ok x) (Err bad) ≡ Err fault → bad ≡ fault
test_bad true bad fault x e = absurd cc
test_bad false bad fault x e = cc

-- rdata has one fault alone
pub rdata_bad : (bytes : List ℕ) (p len : ℕ) (shape : Shape) (fault : MessageFault) → rdata_of bytes p len shape ≡ Err fault → BadRdata p ≡ fault
rdata_bad bytes p len shapes.Any fault e = never_err (slice_range bytes p (p + len)) fault e
rdata_bad bytes p len (shapes.Bytes count) fault e = test_bad (eqb len count) (BadRdata p) fault (slice_range bytes p (p + len)) e
rdata_bad bytes p len shapes.TwoStrings fault e = test_bad (is_two (strings_of (slice_range bytes p (p + len)))) (BadRdata p) fault (slice_range bytes p (p + len)) e
rdata_bad bytes p len shapes.Strings fault e = test_bad (is_some (strings_of (slice_range bytes p (p + len)))) (BadRdata p) fault (slice_range bytes p (p + len)) e
rdata_bad bytes p len (shapes.Names s) fault e = names_rdata_bad bytes p len s fault e

-- which is that no rdata of the shape stands there
pub rdata_unshaped : (bytes : List ℕ) (p len : ℕ) (shape : Shape) → rdata_of bytes p len shape ≡ Err (BadRdata p) → (rdata : List ℕ) → ¬ SpellsRdata bytes p (p + len) shape rdata
rdata_unshaped bytes p len shape e rdata s = never (BadRdata p) rdata (sym e ∙ rdata_is_read bytes p len shape rdata s)

pub unshaped_is_bad : (bytes : List ℕ) (p len : ℕ) (shape : Shape) → ((rdata : List ℕ) → ¬ SpellsRdata bytes p (p + len) shape rdata) → rdata_of bytes p len shape ≡ Err (BadRdata p)
unshaped_is_bad bytes p len shape none = by_read (rdata_of bytes p len shape) refl where
  by_read : (r : Result (List ℕ) MessageFault) → rdata_of bytes p len shape ≡ r → r ≡ Err (BadRdata p)
  by_read (Ok rdata) e = absurd (none rdata (rdata_is_spelled bytes p len shape rdata e))
  by_read (Err fault) e = ap (λ (d : MessageFault). Err d) (sym (rdata_bad bytes p len shape fault e))
