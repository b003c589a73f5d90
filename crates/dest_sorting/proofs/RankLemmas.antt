-- Ranks compare as the rules decide.
use Rattle.std.proofs.Common.{◌≡◌, ℕ, Bool, true, false, not, ◌&&◌, ◌||◌, cond, ltb, eqb, List, [], ◌∷◌, Option, Some, None, is_some, refl, ap, sym, ◌∙◌, subst, arith, inl, inr, lt-ltb, le-ltb, eq-eqb, ne_eqb, true≢false, unwrap_or}
use Rattle.std.proofs.lemmas.Bool.{cases_order, both_ways}
use Rattle.std.specs.declared.cmp.Ordering.{Ordering}
use Rattle.std.specs.declared.cmp.Ordering.TheVariants.{Less, Equal, Greater}
use Rattle.std.specs.Ordering.{is_lt, is_gt, ordering_then, nat_cmp, bool_cmp}
use Rattle.net_addr.specs.declared.addr.Addr.{Addr}
use Rattle.net_addr.specs.Scope.{scope}
use Rattle.net_addr.specs.Mapped.{mapped}
use Rattle.dest_sorting.specs.declared.ranks.Rank.{Rank}
use Rattle.dest_sorting.specs.Policy.{precedence}
use Rattle.dest_sorting.specs.Order.{favoured, Served, source_of, has_scope, has_label, shared, is_native, closeness, exceeds, is_usable, is_of_scope, is_of_label, is_preferred, is_narrower, is_nearer, destination_rules, destination_before, IsSortedBy}
use Rattle.dest_sorting.specs.Ranks.{rank_of, counted}
use Rattle.std.proofs.Math.Path.{fun_ext}
use Rattle.std.specs.Prelude.{IsPermutation, IsSortedByKey}
use Rattle.std.specs.List.Sorted.{IsStableBy, IsStableByKey}
use Rattle.std.proofs.lemmas.List.Sorted.{sorted_far, ranks_by}
use Rattle.dest_sorting.specs.contracts.ranks.RankOrd.TheImpl.Laws.{total-law as total}
use Rattle.dest_sorting.proofs.PolicyLemmas.{mapped-precedence}

-- the rank's fields compare in their order, the precedence and the shared bits the other way round
abbrev pub rank_cmp : Rank → Rank → Ordering
rank_cmp x y =
    ordering_then (bool_cmp x.unusable y.unusable)
    (ordering_then (bool_cmp x.other_scope y.other_scope)
    (ordering_then (bool_cmp x.other_label y.other_label)
    (ordering_then (nat_cmp y.precedence.0 x.precedence.0)
    (ordering_then (nat_cmp x.scope y.scope) (nat_cmp y.shared.0 x.shared.0)))))

-- a rule and a field that say the same, and rules and fields behind them that agree where these don't decide
module _ {X : Type 0} (favours : X → X → Bool) (rules : List (X → X → Bool)) (x y : X) where
  first_field : (o p : Ordering) → favours x y ≡ is_lt o → favours y x ≡ is_gt o
      → (o ≡ Equal → favoured rules x y ≡ is_lt p) → favoured (favours ∷ rules) x y ≡ is_lt (ordering_then o p)
  first_field Less p here there rest = rw here refl
  first_field Equal p here there rest = rw (here, there) (rest refl)
  first_field Greater p here there rest = rw (here, there) refl

-- the rule of a flag: less is to have it
flag_before : (p q : Bool) → (p && not q) ≡ is_lt (bool_cmp (not p) (not q))
flag_before true true = refl
flag_before true false = refl
flag_before false true = refl
flag_before false false = refl

flag_behind : (p q : Bool) → (q && not p) ≡ is_gt (bool_cmp (not p) (not q))
flag_behind true true = refl
flag_behind true false = refl
flag_behind false true = refl
flag_behind false false = refl

flag_equal : (p q : Bool) → bool_cmp (not p) (not q) ≡ Equal → p ≡ q
flag_equal true true e = refl
flag_equal true false e = absurd (true≢false (ap is_lt e))
flag_equal false true e = absurd (true≢false (ap is_gt e))
flag_equal false false e = refl

-- the rule of a number: less is before
number_before : (a b : ℕ) → ltb a b ≡ is_lt (nat_cmp a b)
number_before a b = elim (cases_order a b) [
  | inl same ↦ rw (le-ltb a b (omega arith), eq-eqb a b same) refl
  | inr (inl below) ↦ rw (lt-ltb a b below) refl
  | inr (inr above) ↦ rw (le-ltb a b (omega arith), ne_eqb a b (λ e. omega arith)) refl
]

number_behind : (a b : ℕ) → ltb b a ≡ is_gt (nat_cmp a b)
number_behind a b = elim (cases_order a b) [
  | inl same ↦ rw (le-ltb b a (omega arith), le-ltb a b (omega arith), eq-eqb a b same) refl
  | inr (inl below) ↦ rw (le-ltb b a (omega arith), lt-ltb a b below) refl
  | inr (inr above) ↦ rw (lt-ltb b a above, le-ltb a b (omega arith), ne_eqb a b (λ e. omega arith)) refl
]

number_equal : (a b : ℕ) → nat_cmp a b ≡ Equal → a ≡ b
number_equal a b e = elim (cases_order a b) [
  | inl same ↦ same
  | inr (inl below) ↦ absurd (true≢false (sym (ap is_lt (sym e) ∙ sym (number_before a b) ∙ lt-ltb a b below)))
  | inr (inr above) ↦ absurd (true≢false (sym (ap is_gt (sym e) ∙ sym (number_behind a b) ∙ lt-ltb b a above)))
]

-- addresses of one precedence are both native or both not
native_alike : (d e : Addr) → precedence e ≡ precedence d → is_native d ≡ is_native e
native_alike d e alike =
    ap not (mapped-precedence (mapped d) ∙ ap (λ n. eqb n 35) (sym alike) ∙ sym (mapped-precedence (mapped e)))

-- rule 9 where both have sources, and both or neither are native
both_near : (m n : Bool) (a b : ℕ) → m ≡ n
    → exceeds (cond m (Some a) None) (cond n (Some b) None)
    ≡ is_lt (nat_cmp (unwrap_or (cond n (Some b) None) 0) (unwrap_or (cond m (Some a) None) 0))
both_near true true a b e = number_before b a
both_near true false a b e = absurd (true≢false e)
both_near false true a b e = absurd (true≢false (sym e))
both_near false false a b e = refl

-- rule 9 where the precedences are the same, and both or neither have a source
near_alike : (d e : Addr) (s t : Option Addr) → is_some s ≡ is_some t → precedence e ≡ precedence d
    → exceeds (closeness d s) (closeness e t) ≡ is_lt (nat_cmp (counted e t) (counted d s))
near_alike d e None None some alike = refl
near_alike d e None (Some t) some alike = absurd (true≢false (sym some))
near_alike d e (Some s) None some alike = absurd (true≢false some)
near_alike d e (Some s) (Some t) some alike = both_near (is_native d) (is_native e) (shared d s) (shared e t) (native_alike d e alike)

last_rule : (favours behind : Bool) → (favours || (not behind && false)) ≡ favours
last_rule true behind = refl
last_rule false true = refl
last_rule false false = refl

-- the rules decide as the ranks compare
pub ranks_decide : (d e : Addr) (s t : Option Addr)
    → favoured destination_rules (record { address = d; source = s }) (record { address = e; source = t })
    ≡ is_lt (rank_cmp (rank_of d s) (rank_of e t))
ranks_decide d e s t =
    let x : Served = record { address = d; source = s } in
    let y : Served = record { address = e; source = t } in
    let ninth : List (Served → Served → Bool) = is_nearer ∷ [] in
    let eighth : List (Served → Served → Bool) = is_narrower ∷ ninth in
    let sixth : List (Served → Served → Bool) = is_preferred ∷ eighth in
    let fifth : List (Served → Served → Bool) = is_of_label ∷ sixth in
    let second : List (Served → Served → Bool) = is_of_scope ∷ fifth in
    first_field is_usable second x y _ _ (flag_before (is_some s) (is_some t)) (flag_behind (is_some s) (is_some t)) (λ usable.
    first_field is_of_scope fifth x y _ _ (flag_before (has_scope d s) (has_scope e t)) (flag_behind (has_scope d s) (has_scope e t)) (λ _.
    first_field is_of_label sixth x y _ _ (flag_before (has_label d s) (has_label e t)) (flag_behind (has_label d s) (has_label e t)) (λ _.
    first_field is_preferred eighth x y _ _ (number_before (precedence e) (precedence d)) (number_behind (precedence e) (precedence d)) (λ preferred.
    first_field is_narrower ninth x y _ _ (number_before (scope d) (scope e)) (number_behind (scope d) (scope e)) (λ _.
    last_rule (is_nearer x y) (is_nearer y x)
    ∙ near_alike d e s t (flag_equal _ _ usable) (number_equal _ _ preferred))))))

-- a stable sort by rank sorts by the rules
pub sorted_by_rank : (sources given sorted : List Addr) → IsPermutation given sorted
    → IsSortedByKey (λ d. rank_of d (source_of sources d)) rank_cmp sorted
    → IsStableByKey (λ d. rank_of d (source_of sources d)) rank_cmp given sorted
    → IsSortedBy sources given sorted
sorted_by_rank sources given sorted permutation ordered stable =
    let key : Addr → Rank = λ d. rank_of d (source_of sources d) in
    let lt : Addr → Addr → Bool = λ d e. is_lt (rank_cmp (key d) (key e)) in
    let same : (d e : Addr) → destination_before sources d e ≡ lt d e = λ d e. ranks_decide d e (source_of sources d) (source_of sources e) in
    let one : destination_before sources ≡ lt = fun_ext (λ d. fun_ext (λ e. same d e)) in
    record {
      permutation = permutation;
      ordered = λ i j d before within late. both_ways _ (same _ _ ∙ sorted_far lt (ranks_by total key) sorted ordered i j d (omega arith) within) late;
      ties_stay = subst (λ before. IsStableBy before given sorted) (sym one) stable;
    }
