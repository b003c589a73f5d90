-- How the rows that a Fault fails, which are marked, fail one after the other.
use Rattle.channel_table.proofs.Base.{◌≡◌, ◌∙◌, ℕ, ◌+◌, ◌<◌, Bool, true, false, List, [], ◌∷◌, ◌++◌, Option, Some, None, refl, ap, ap₂, sym, subst, take, drop, get_or, length, map, append_assoc, arith, or_parts, append-nil, length-append, map-append, filter_map-append, AllByRecursion, cons_option, list_any, sum_by, filter_map, if◌then◌else◌, option_map, option_to_list, ConnRefused, Ticket, Failed, Options, Legs, after, lookups_behind, Becomes, EndsRow, AreMarked, IsSpared, IsUnanswered, answer_over, fails_at, kept_of, ticket_made, IsListed, IsListedOver, key_of, answer_of_row, over_in, row_over, closed_lookup, flew_over, concerns, lookup_behind, After, Ends, Stays, Row, Over, Lookup, Mark}
use Rattle.std.proofs.Common.{◌≢◌}
use Rattle.std.proofs.lemmas.List.{drop_at, get_or_at, take_at}
use Rattle.std.specs.FinSet as set
use Rattle.channel_table.proofs.IndexLemmas.{after_number, each_before, each_behind}
use Rattle.channel_table.proofs.MarkLemmas.{none_over}

-- a lookup that no attempt over the link concerns stays as it is
lookup_spared : (server link most : ℕ) (second : Bool) (reply : List ℕ) (lookup : Lookup) → flew_over server link lookup ≡ false → lookup_behind (Over server link) second (Failed ConnRefused) reply most lookup ≡ lookup
lookup_spared server link most second reply lookup off = ap (λ b. if b then closed_lookup (Failed ConnRefused) reply most lookup else lookup) off

second_spared : (server link most : ℕ) (reply : List ℕ) (o : Option Lookup) → list_any (flew_over server link) (option_to_list o) ≡ false → option_map (lookup_behind (Over server link) true (Failed ConnRefused) reply most) o ≡ o
second_spared server link most reply None off = refl
second_spared server link most reply (Some lookup) off = ap Some (lookup_spared server link most true reply lookup (or_parts (flew_over server link lookup) false off).0)

module _ {T : Type 0} (options : Options) (server link most : ℕ) where
  -- the rows that stay of these, and the tickets of the others
  abbrev pub kept : List (Row T) → List (Row T)
  kept rows = filter_map kept_of (map (fails_at options server link most) rows)

  abbrev pub made : List (Row T) → List (Ticket T)
  made rows = filter_map ticket_made (map (fails_at options server link most) rows)

  kept-append : (xs ys : List (Row T)) → kept (xs ++ ys) ≡ kept xs ++ kept ys
  kept-append xs ys = ap (filter_map kept_of) (map-append (fails_at options server link most) xs ys) ∙ filter_map-append kept_of (map (fails_at options server link most) xs) (map (fails_at options server link most) ys)

  made-append : (xs ys : List (Row T)) → made (xs ++ ys) ≡ made xs ++ made ys
  made-append xs ys = ap (filter_map ticket_made) (map-append (fails_at options server link most) xs ys) ∙ filter_map-append ticket_made (map (fails_at options server link most) xs) (map (fails_at options server link most) ys)

  -- ---- a row that is spared

  -- it stays
  row_spared : (row : Row T) → IsSpared server link row → IsUnanswered options row → fails_at options server link most row ≡ Stays row
  row_spared row off none =
      let parts = or_parts (flew_over server link row.first) (list_any (flew_over server link) (option_to_list row.second)) off in
      let one = lookup_spared server link most false [] row.first parts.0 in
      let two = second_spared server link most (if concerns (Over server link) false row.first then [] else []) row.second parts.1 in
      let same : lookups_behind (Over server link) (Failed ConnRefused) [] most row ≡ row = λ i. record row { first = one i; second = two i } in
      ap (after options.flags (Over server link) (Failed ConnRefused) [] most row) (ap (answer_of_row options) same ∙ none) ∙ ap Stays same

  rows_spared : (rows : List (Row T)) → AllByRecursion (IsSpared server link) rows → AllByRecursion (IsUnanswered options) rows → (kept rows ≡ rows) × (made rows ≡ [])
  rows_spared [] off none = (refl, refl)
  rows_spared (row ∷ rows) off none =
      let one = row_spared row off.0 none.0 in
      let rest = rows_spared rows off.1 none.1 in
      (ap₂ (λ (a : After T) rs. cons_option (kept_of a) rs) one rest.0, ap₂ (λ (a : After T) ts. cons_option (ticket_made a) ts) one rest.1)

  -- where no attempt went there, nothing changes
  pub none_fails : (rows : List (Row T)) → AllByRecursion (IsUnanswered options) rows → sum_by (over_in server link) rows ≡ 0 → (kept rows ≡ rows) × (made rows ≡ [])
  none_fails rows unanswered none = rows_spared rows (none_over server link rows none) unanswered

  -- rows that wait are among those that do, where those that fail are
  pub fails_listed : (legs : Legs) (rows : List (Row T)) → AllByRecursion (IsListed legs) rows → AllByRecursion (IsListedOver server link legs) rows → AllByRecursion (IsUnanswered options) rows → AllByRecursion (IsListed legs) (kept rows)
  fails_listed legs [] listed over none = tt
  fails_listed legs (row ∷ rows) listed over none = by_over (row_over server link row) refl (fails_listed legs rows listed.1 over.1 none.1)
    where
      by_after : (a : After T) → fails_at options server link most row ≡ a → set.contains legs (key_of row.number) ≡ true → AllByRecursion (IsListed legs) (kept rows) → AllByRecursion (IsListed legs) (cons_option (kept_of a) (kept rows))
      by_after (Stays new) e there rest =
          let number = after_number options.flags (Over server link) (Failed ConnRefused) [] most row new (answer_over options server link most row) e in
          (λ waits. subst (λ (n : ℕ). set.contains legs (key_of n) ≡ true) (sym number) there, rest)
      by_after (Ends ticket) e there rest = rest

      by_over : (b : Bool) → row_over server link row ≡ b → AllByRecursion (IsListed legs) (kept rows) → AllByRecursion (IsListed legs) (kept (row ∷ rows))
      by_over true is rest = by_after (fails_at options server link most row) refl (over.0 is) rest
      by_over false is rest = subst (λ (a : After T). AllByRecursion (IsListed legs) (cons_option (kept_of a) (kept rows))) (sym (row_spared row is none.0)) (listed.0, rest)

  -- ---- one more row fails

  module _ (before between rest : List (Row T)) (row : Row T) (rows new_rows : List (Row T)) (tickets new_tickets : List (Ticket T)) (index : ℕ) (is : rows ≡ kept before ++ (between ++ row ∷ rest)) (at : length (kept before) + length between ≡ index)
      (ends : EndsRow options.flags (Over server link) (Failed ConnRefused) [] most (answer_over options server link most row) index rows tickets new_rows new_tickets) (stay : kept between ≡ between) (none : made between ≡ []) where
    abbrev passed : List (Row T)
    passed = kept before ++ between

    long : length passed ≡ index
    long = length-append (kept before) between ∙ at

    split : rows ≡ passed ++ row ∷ rest
    split = is ∙ sym (append_assoc (kept before) between (row ∷ rest))

    there : take index rows ≡ passed
    there = ap (take index) split ∙ take_at passed (row ∷ rest) index long

    back : drop (index + 1) rows ≡ rest
    back =
        ap (drop (index + 1)) (split ∙ sym (append_assoc passed (row ∷ []) rest))
        ∙ drop_at (passed ++ row ∷ []) rest (index + 1) (let p = length-append passed (row ∷ []) in omega (arith, p, long))

    here : ends.row ≡ row
    here = sym (ends.is row) ∙ ap (λ rs. get_or rs index row) split ∙ get_or_at passed row rest row index long

    whole : kept (before ++ (between ++ row ∷ [])) ≡ passed ++ kept (row ∷ [])
    whole =
        kept-append before (between ++ row ∷ []) ∙ ap (λ rs. kept before ++ rs) (kept-append between (row ∷ []) ∙ ap (λ rs. rs ++ kept (row ∷ [])) stay)
        ∙ sym (append_assoc (kept before) between (kept (row ∷ [])))

    pub all_made : made (before ++ (between ++ row ∷ [])) ≡ made before ++ made (row ∷ [])
    all_made = made-append before (between ++ row ∷ []) ∙ ap (λ ts. made before ++ ts) (made-append between (row ∷ []) ∙ ap (λ ts. ts ++ made (row ∷ [])) none)

    -- the rows and the tickets behind it, and the index of the row behind
    pub record FailsNext (next : ℕ) : Type 0 where
      pub rows_are : new_rows ≡ kept (before ++ (between ++ row ∷ [])) ++ rest
      pub tickets_are : new_tickets ≡ tickets ++ made (row ∷ [])
      pub at_next : next ≡ length (kept (before ++ (between ++ row ∷ [])))

    many : length rows ≡ index + 1 + length rest
    many = ap length split ∙ (let p = length-append passed (row ∷ rest) in omega (arith, p, long))

    pub fails_next : (next : ℕ) → (length new_rows ≡ length rows → next ≡ index + 1) → (length new_rows ≢ length rows → next ≡ index) → FailsNext next
    fails_next next stays leaves = by_after (fails_at options server link most row) refl (subst (λ (r : Row T). Becomes passed rest tickets new_rows new_tickets (after options.flags (Over server link) (Failed ConnRefused) [] most r (answer_over options server link most row))) here
        (subst (λ (xs : List (Row T)). Becomes xs rest tickets new_rows new_tickets (after options.flags (Over server link) (Failed ConnRefused) [] most ends.row (answer_over options server link most row))) there
        (subst (λ (ys : List (Row T)). Becomes (take index rows) ys tickets new_rows new_tickets (after options.flags (Over server link) (Failed ConnRefused) [] most ends.row (answer_over options server link most row))) back ends.becomes)))
      where
        by_after : (a : After T) → fails_at options server link most row ≡ a → Becomes passed rest tickets new_rows new_tickets a → FailsNext next
        by_after (Stays new) e becomes =
            let one : kept (row ∷ []) ≡ new ∷ [] = ap (λ (a : After T). cons_option (kept_of a) []) e in
            let all = whole ∙ ap (λ rs. passed ++ rs) one in
            let len : length new_rows ≡ length rows = ap length becomes.0 ∙ (let p = length-append passed (new ∷ rest) in omega (arith, p, long, many)) in
            record {
              rows_are = becomes.0 ∙ sym (append_assoc passed (new ∷ []) rest) ∙ ap (λ rs. rs ++ rest) (sym all);
              tickets_are = becomes.1 ∙ sym (append-nil tickets) ∙ ap (λ ts. tickets ++ ts) (sym (ap (λ (a : After T). cons_option (ticket_made a) []) e));
              at_next = stays len ∙ sym (ap length all ∙ (let p = length-append passed (new ∷ []) in omega (arith, p, long)));
            }
        by_after (Ends ticket) e becomes =
            let one : kept (row ∷ []) ≡ [] = ap (λ (a : After T). cons_option (kept_of a) []) e in
            let all = whole ∙ ap (λ rs. passed ++ rs) one ∙ append-nil passed in
            let len : length new_rows ≢ length rows = λ same. (let p = length-append passed rest in let q = ap length becomes.0 in omega (arith, p, q, same, long, many)) in
            record {
              rows_are = becomes.0 ∙ ap (λ rs. rs ++ rest) (sym all);
              tickets_are = becomes.1 ∙ ap (λ ts. tickets ++ ts) (sym (ap (λ (a : After T). cons_option (ticket_made a) []) e));
              at_next = leaves len ∙ sym (ap length all ∙ long);
            }

  -- ---- the rows that are left

  -- some rows have failed, these are marked among those that are left, and the first of those has this index
  pub record HaveFailed (marks : List Mark) (old rows : List (Row T)) (made_before tickets : List (Ticket T)) (from : ℕ) : Type 0 where
    pub before : List (Row T)
    pub left : List (Row T)
    pub parts : old ≡ before ++ left
    pub rows_are : rows ≡ kept before ++ left
    pub tickets_are : tickets ≡ made_before ++ made before
    pub at_next : from ≡ length (kept before)
    pub marked : AreMarked options server link most marks left
    pub unanswered : AllByRecursion (IsUnanswered options) left

  pub failed_none : (marks : List Mark) (rows : List (Row T)) (tickets : List (Ticket T)) → AreMarked options server link most marks rows → AllByRecursion (IsUnanswered options) rows → HaveFailed marks rows rows tickets tickets 0
  failed_none marks rows tickets marked none = record { before = []; left = rows; parts = refl; rows_are = refl; tickets_are = sym (append-nil tickets); at_next = refl; marked = marked; unanswered = none }

  pub failed_all : (marks : List Mark) (old rows : List (Row T)) (made_before tickets : List (Ticket T)) (from : ℕ) → HaveFailed marks old rows made_before tickets from → marks ≡ [] → (rows ≡ kept old) × (tickets ≡ made_before ++ made old)
  failed_all marks old rows made_before tickets from failed none =
      let spared = subst (λ ms. AreMarked options server link most ms failed.left) none failed.marked in
      let rest = rows_spared failed.left spared failed.unanswered in (
        failed.rows_are ∙ sym (ap kept failed.parts ∙ kept-append failed.before failed.left ∙ ap (λ rs. kept failed.before ++ rs) rest.0),
        failed.tickets_are ∙ ap (λ ts. made_before ++ ts) (sym (ap made failed.parts ∙ made-append failed.before failed.left ∙ ap (λ ts. made failed.before ++ ts) rest.1 ∙ append-nil (made failed.before))),
      )

  module _ (mark : Mark) (marks : List Mark) (old rows : List (Row T)) (made_before tickets : List (Ticket T)) (from : ℕ) (failed : HaveFailed (mark ∷ marks) old rows made_before tickets from) where
    -- the rows before the next one, that one, and those behind it
    abbrev gap_rows : List (Row T)
    gap_rows = failed.marked.0

    abbrev next_row : Row T
    next_row = failed.marked.1

    abbrev last_rows : List (Row T)
    last_rows = failed.marked.2

    left_are : failed.left ≡ gap_rows ++ next_row ∷ last_rows
    left_are = failed.marked.3

    gap_is : length gap_rows ≡ mark.gap
    gap_is = failed.marked.4

    rows_split : rows ≡ kept failed.before ++ (gap_rows ++ next_row ∷ last_rows)
    rows_split = failed.rows_are ∙ ap (λ rs. kept failed.before ++ rs) left_are

    at_gap : length (kept failed.before) + length gap_rows ≡ from + mark.gap
    at_gap = omega (arith, failed.at_next, gap_is)

    pub next_inside : from + mark.gap < length rows
    next_inside = (let p = ap length rows_split in let q = length-append (kept failed.before) (gap_rows ++ next_row ∷ last_rows) in let r = length-append gap_rows (next_row ∷ last_rows) in omega (arith, p, q, r, at_gap))

    pub failed_more : (new_rows : List (Row T)) (new_tickets : List (Ticket T)) → EndsRow options.flags (Over server link) (Failed ConnRefused) [] most mark.answer (from + mark.gap) rows tickets new_rows new_tickets
        → (next : ℕ) → (length new_rows ≡ length rows → next ≡ from + mark.gap + 1) → (length new_rows ≢ length rows → next ≡ from + mark.gap) → HaveFailed marks old new_rows made_before new_tickets next
    failed_more new_rows new_tickets ends next stays leaves =
        let ends_so = subst (λ a. EndsRow options.flags (Over server link) (Failed ConnRefused) [] most a (from + mark.gap) rows tickets new_rows new_tickets) failed.marked.6 ends in
        let none = subst (AllByRecursion (IsUnanswered options)) left_are failed.unanswered in
        let spared = rows_spared gap_rows failed.marked.5 (each_before (IsUnanswered options) gap_rows (next_row ∷ last_rows) none) in
        let fails = fails_next failed.before gap_rows last_rows next_row rows new_rows tickets new_tickets (from + mark.gap) rows_split at_gap ends_so spared.0 spared.1 next stays leaves in
        let more = all_made failed.before gap_rows last_rows next_row rows new_rows tickets new_tickets (from + mark.gap) rows_split at_gap ends_so spared.0 spared.1 in
        record {
          before = failed.before ++ (gap_rows ++ next_row ∷ []);
          left = last_rows;
          parts = failed.parts ∙ ap (λ rs. failed.before ++ rs) (left_are ∙ sym (append_assoc gap_rows (next_row ∷ []) last_rows)) ∙ sym (append_assoc failed.before (gap_rows ++ next_row ∷ []) last_rows);
          rows_are = fails.rows_are;
          tickets_are = fails.tickets_are ∙ ap (λ ts. ts ++ made (next_row ∷ [])) failed.tickets_are ∙ append_assoc made_before (made failed.before) (made (next_row ∷ [])) ∙ ap (λ ts. made_before ++ ts) (sym more);
          at_next = fails.at_next;
          marked = failed.marked.7;
          unanswered = (each_behind (IsUnanswered options) gap_rows (next_row ∷ last_rows) none).1;
        }
