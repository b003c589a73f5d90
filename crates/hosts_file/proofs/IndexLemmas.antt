-- The names of lines by their hashes, and where those of one hash stand.
use Rattle.std.proofs.Common.{◌≡◌, ℕ, zero, suc, ◌+◌, ◌<◌, ◌≤◌, true, false, ltb, leb, is_lt, List, [], ◌∷◌, ◌++◌, length, map, filter, take, drop, get_or, All, Contains, refl, ap, sym, subst, ◌∙◌, append_assoc, append-nil, arith}
use Rattle.std.specs.Cmp.{IsStrictWeakOrder}
use Rattle.std.specs.List.Sorted.{IsSorted, IsNonDecreasingBy, IsPartitionPoint}
use Rattle.std.proofs.lemmas.Bool.{eq-eqb, ne_eqb, eqb-true, ltb-true, ltb-false, leb-true, leb-false}
use Rattle.std.proofs.lemmas.Bool.Decides.{nat_tests}
use Rattle.std.proofs.lemmas.Cmp.{nat_cmp_total, on_total, then_total}
use Rattle.std.proofs.lemmas.List.{get_or-drop, length-drop, length-take-le, take_more}
use Rattle.std.proofs.lemmas.List.Elements.{All-append, All-map, All-nil, All-filter, All-weaker, Contains-append_left, Contains-append_right, filter_passes}
use Rattle.std.proofs.lemmas.List.Folds.{Any-from_list_any}
use Rattle.std.proofs.lemmas.List.Kept.{IsSortedBy-filter}
use Rattle.std.proofs.lemmas.List.Sorted.{sorted_far, ranks_by, All-permutation, Contains-permutation}
use Rattle.dns_message.specs.Name.{same_name}
use Rattle.hosts_file.specs.declared.hosts.HostLine.{HostLine}
use Rattle.hosts_file.specs.declared.index.HashedName.{HashedName}
use Rattle.hosts_file.specs.Hosts.{names_of, has_name}
use Rattle.hosts_file.specs.Index.{hash_of, hashed, hashed_names, hashed_cmp, has_hash, IsNameIndex, LeadToLines}
use Rattle.hosts_file.proofs.HashLemmas.{same_hash}
use Rattle.hosts_file.proofs.FilterLemmas.{Contains-map, Contains-filter, filter_cut}

-- ---- the names of lines, in file order

-- those of one line more, at the end
names_more : (number : ℕ) (lines : List HostLine) (line : HostLine) → hashed_names number (lines ++ line ∷ []) ≡ hashed_names number lines ++ map (hashed (number + length lines)) (names_of line)
names_more number [] line =
    let none : number ≡ number + length {A = HostLine} [] = omega arith in
    append-nil (map (hashed number) (names_of line)) ∙ ap (λ (n : ℕ). map (hashed n) (names_of line)) none
names_more number (first ∷ lines) line =
    let more : number + 1 + length lines ≡ number + length (first ∷ lines) = omega arith in
    ap (λ (rest : List HashedName). map (hashed number) (names_of first) ++ rest) (names_more (number + 1) lines line)
    ∙ (sym (append_assoc (map (hashed number) (names_of first)) (hashed_names (number + 1) lines) (map (hashed (number + 1 + length lines)) (names_of line)))
    ∙ ap (λ (n : ℕ). hashed_names number (first ∷ lines) ++ map (hashed n) (names_of line)) more)

pub names_upto : (lines : List HostLine) (i : ℕ) (line : HostLine) → i < length lines → line ≡ get_or lines i line
    → hashed_names 0 (take (i + 1) lines) ≡ hashed_names 0 (take i lines) ++ map (hashed i) (names_of line)
names_upto lines i line lt is =
    let count : 0 + length (take i lines) ≡ i = omega (arith, length-take-le i lines (omega (arith, lt))) in
    ap (hashed_names 0) (take_more lines i line lt ∙ ap (λ (x : HostLine). take i lines ++ x ∷ []) (sym is))
    ∙ (names_more 0 (take i lines) line ∙ ap (λ (n : ℕ). hashed_names 0 (take i lines) ++ map (hashed n) (names_of line)) count)

-- each name of each line is among them
name_there : (number : ℕ) (lines : List HostLine) (i : ℕ) (d : HostLine) (name : List (List ℕ)) → i < length lines → Contains (names_of (get_or lines i d)) name
    → Contains (hashed_names number lines) (hashed (number + i) name)
name_there number [] i d name lt has = absurd (omega arith)
name_there number (line ∷ lines) zero d name lt has =
    let here : number ≡ number + 0 = omega arith in
    subst (λ (n : ℕ). Contains (hashed_names number (line ∷ lines)) (hashed n name)) here
    (Contains-append_left (map (hashed number) (names_of line)) (hashed_names (number + 1) lines) (hashed number name) (Contains-map (hashed number) (names_of line) name has))
name_there number (line ∷ lines) (suc i) d name lt has =
    let next : number + 1 + i ≡ number + suc i = omega arith in
    subst (λ (n : ℕ). Contains (hashed_names number (line ∷ lines)) (hashed n name)) next
    (Contains-append_right (map (hashed number) (names_of line)) (hashed_names (number + 1) lines) (hashed (number + 1 + i) name) (name_there (number + 1) lines i d name (omega (arith, lt)) has))

-- each has the number of a line
numbers_below : (number : ℕ) (lines : List HostLine) → All (λ like. like.line < number + length lines) (hashed_names number lines)
numbers_below number [] = All-nil (λ (like : HashedName). like.line < number + length {A = HostLine} [])
numbers_below number (line ∷ lines) =
    let below : HashedName → Type 0 = λ like. like.line < number + length (line ∷ lines) in
    All-append below (map (hashed number) (names_of line)) (hashed_names (number + 1) lines)
    (All-map below (hashed number) (names_of line) (λ k d lt. omega arith))
    (All-weaker (λ like. like.line < number + 1 + length lines) below (λ like lt. omega (arith, lt)) (hashed_names (number + 1) lines) (numbers_below (number + 1) lines))

-- ---- the order

ranks : IsStrictWeakOrder (λ x y. is_lt (hashed_cmp x y))
ranks = ranks_by (then_total (on_total (λ name. name.hash) nat_cmp_total) (on_total (λ name. name.line) nat_cmp_total)) (λ name. name)

-- what it is that a name is not before another
hash_upto : (x y : HashedName) → is_lt (hashed_cmp y x) ≡ false → x.hash ≤ y.hash
hash_upto x y late = grind (arith, nat_tests)

line_upto : (x y : HashedName) → is_lt (hashed_cmp y x) ≡ false → x.hash ≡ y.hash → x.line ≤ y.line
line_upto x y late same = grind (arith, nat_tests)

pub hashes_rise : (names : List HashedName) → IsSorted hashed_cmp names → IsNonDecreasingBy (λ name. name.hash) names
hashes_rise names sorted = λ i j d upto lt. hash_upto (get_or names i d) (get_or names j d) (sorted_far (λ x y. is_lt (hashed_cmp x y)) ranks names sorted i j d upto lt)

-- ---- the names of one hash

module _ (hash : ℕ) where
  -- they stand from where the hashes are no longer below, up to where they are above
  pub names_cut : (names rest : List HashedName) (start count : ℕ) → rest ≡ drop start names
      → IsPartitionPoint (λ name. ltb name.hash hash ≡ true) (λ name. ltb name.hash hash ≡ false) names start
      → IsPartitionPoint (λ name. leb name.hash hash ≡ true) (λ name. leb name.hash hash ≡ false) rest count
      → count ≤ length rest
      → take count rest ≡ filter (has_hash hash) names
  names_cut names rest start count is first second within =
      let long : length rest ≡ length (drop start names) = ap length is in
      let not_below : (k : ℕ) (d : HashedName) → k < length rest → hash ≤ (get_or rest k d).hash = λ k d lt.
      let from_start : ltb (get_or names (start + k) d).hash hash ≡ false = first.1 (start + k) d (omega arith) (omega (arith, lt, long, length-drop start names)) in
      let here : get_or rest k d ≡ get_or names (start + k) d = ap (λ (l : List HashedName). get_or l k d) is ∙ get_or-drop start names k d in
      omega (arith, ap (λ (like : HashedName). like.hash) here, ltb-false (get_or names (start + k) d).hash hash from_start) in
      filter_cut (has_hash hash) names rest start count is
      (λ k d from to. ne_eqb (get_or names k d).hash hash (λ same. absurd (omega (arith, same, ltb-true (get_or names k d).hash hash (first.0 k d from to)))))
      (λ k d from to. eq-eqb (get_or rest k d).hash hash (omega (arith, not_below k d (omega (arith, to, within)), leb-true (get_or rest k d).hash hash (second.0 k d from to))))
      (λ k d from to. ne_eqb (get_or rest k d).hash hash (λ same. absurd (omega (arith, same, leb-false (get_or rest k d).hash hash (second.1 k d from to)))))

-- those of a name's hash lead to all lines that have the name
module _ (name : List (List ℕ)) (lines : List HostLine) (names : List HashedName) (index : IsNameIndex lines names) where
  found : List HashedName
  found = filter (has_hash (hash_of name)) names

  lines_rise : IsNonDecreasingBy (λ like. like.line) found
  unfolding found
  lines_rise = λ i j d upto lt.
      let one : All (λ like. has_hash (hash_of name) like ≡ true) found = filter_passes (has_hash (hash_of name)) names in
      let same : (get_or found i d).hash ≡ (get_or found j d).hash = eqb-true _ _ (one i d (omega (arith, upto, lt))) ∙ sym (eqb-true _ _ (one j d lt)) in
      line_upto (get_or found i d) (get_or found j d)
      (sorted_far (λ x y. is_lt (hashed_cmp x y)) ranks found (IsSortedBy-filter (λ x y. is_lt (hashed_cmp x y)) ranks (has_hash (hash_of name)) names index.sorted) i j d upto lt) same

  line_there : (number : ℕ) (d : HostLine) → number < length lines → has_name name (get_or lines number d) ≡ true → Contains found (hashed number name)
  unfolding found
  line_there number d lt has =
      let some = Any-from_list_any (same_name name) (names_of (get_or lines number d)) has in
      let other : List (List ℕ) = some.1 in
      let like : hash_of name ≡ hash_of other = same_hash name other some.4 in
      let there : Contains (hashed_names 0 lines) (hashed (0 + number) other) = name_there 0 lines number d other lt (some.0, some.2, some.3) in
      let zero_first : 0 + number ≡ number = omega arith in
      let at_other : Contains names (hashed number other) =
      Contains-permutation (hashed_names 0 lines) names (hashed number other) index.permutation (subst (λ (n : ℕ). Contains (hashed_names 0 lines) (hashed n other)) zero_first there) in
      let at_name : Contains names (hashed number name) = subst (λ (hash : ℕ). Contains names (record { hash = hash; line = number })) (sym like) at_other in
      Contains-filter (has_hash (hash_of name)) names (hashed number name) at_name (eq-eqb (hash_of name) (hash_of name) refl)

  all_within : All (λ like. like.line < length lines) found
  unfolding found
  all_within =
      All-filter (has_hash (hash_of name)) (λ like. like.line < length lines) names
      (All-permutation (λ like. like.line < length lines) (hashed_names 0 lines) names index.permutation (All-weaker (λ like. like.line < 0 + length lines) (λ like. like.line < length lines) (λ like lt. omega (arith, lt)) (hashed_names 0 lines) (numbers_below 0 lines)))

  pub lead_to_lines : LeadToLines name lines (filter (has_hash (hash_of name)) names)
  unfolding found
  lead_to_lines = record { in_order = lines_rise; all_lines = line_there; within = all_within }
