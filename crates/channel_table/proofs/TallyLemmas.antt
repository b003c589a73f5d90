-- How the tally of the rows follows a change of them.
use Rattle.channel_table.proofs.Base.{◌≡◌, ◌∙◌, ℕ, zero, suc, ◌+◌, ◌*◌, ◌<◌, ◌≤◌, ◌^◌, Bool, true, false, cond, List, [], ◌∷◌, ◌++◌, Option, Some, None, refl, ap, sym, subst, take, drop, get_or, length, arith, length-append, sum_by-append, sum_by-cons, sum_by_push, sum_by, IfSome, IsSomeAnd, count_by, option_map, option_to_list, Answer, Ticket, Judged, IsWaiting, Flying, Phase, Flags, after, IsApart, NoneFlies, Becomes, EndsRow, all_lookups, begun_row, forced_in, lookup_at, lookups, waiting_in, begun_lookup, is_flying, is_forced, leg_of_lookup, waits, BeginsRow, WaitsAt, IsTally, IsTallyLeft, After, Ends, Stays, Row, Concerned, Lookup}
use Rattle.query_machine.specs.declared.leg.Phase.TheVariants as phases
use Rattle.channel_table.specs.Rows.{flying_in}
use Rattle.channel_table.specs.Tally.{HasMoved, Moves, no_tally, one_flying, one_waiting, tally_of}
use Rattle.channel_table.specs.declared.table.counting.Tally.{Tally}

-- an item in the place of another one stands at its index
at_part : {X : Type 0} (xs ys : List X) (i : ℕ) (x d : X) → i < length xs → get_or (take i xs ++ x ∷ ys) i d ≡ x
at_part [] ys i x d inside = absurd (omega (arith, inside))
at_part (z ∷ xs) ys zero x d inside = refl
at_part (z ∷ xs) ys (suc i) x d inside = at_part xs ys i x d (omega (arith, inside))

module _ {X : Type 0} (f : X → ℕ) (before behind : List X) (x : X) where
  -- a sum with another item in the place of one
  pub replaced : (new : X) → sum_by f (before ++ new ∷ behind) + f x ≡ sum_by f (before ++ x ∷ behind) + f new
  replaced new = omega (arith, sum_by-append f before (new ∷ behind), sum_by-cons f new behind, sum_by-append f before (x ∷ behind), sum_by-cons f x behind)

  -- an item is a part of it
  within : f x ≤ sum_by f (before ++ x ∷ behind)
  within = omega (arith, sum_by-append f before (x ∷ behind), sum_by-cons f x behind)

  -- and with none
  pub removed : sum_by f (before ++ behind) + f x ≡ sum_by f (before ++ x ∷ behind) + 0
  removed = omega (arith, sum_by-append f before behind, sum_by-append f before (x ∷ behind), sum_by-cons f x behind)

-- a sum of numbers of which none is above two
pub sum_few : {X : Type 0} (f : X → ℕ) → ((x : X) → f x ≤ 2) → (xs : List X) → sum_by f xs ≤ 2 * length xs
sum_few f few [] = omega arith
sum_few f few (x ∷ xs) = omega (arith, sum_by-cons f x xs, few x, sum_few f few xs)

-- a row has two lookups at most
pub two_lookups : {T : Type 0} (p : Lookup → Bool) (row : Row T) → count_by p (lookups row) ≤ 2
two_lookups p row = by_second row.second
  where
    by_test : (a : Bool) → 0 + cond a 1 0 ≤ 2
    by_test true = omega arith
    by_test false = omega arith

    by_tests : (a b : Bool) → 0 + cond a 1 0 + cond b 1 0 ≤ 2
    by_tests true true = omega arith
    by_tests true false = omega arith
    by_tests false true = omega arith
    by_tests false false = omega arith

    by_second : (o : Option Lookup) → count_by p (row.first ∷ option_to_list o) ≤ 2
    by_second None = by_test (p row.first)
    by_second (Some lookup) = by_tests (p row.first) (p lookup)

module _ {T : Type 0} (rows new_rows : List (Row T)) (short : length new_rows < 2 ^ 63) where
  -- a count that has moved as the sum has
  count_moved : (f : Row T → ℕ) → ((row : Row T) → f row ≤ 2) → (count before behind new : ℕ) → before ≤ sum_by f rows → count ≡ sum_by f rows → sum_by f new_rows + before ≡ sum_by f rows + behind → Moves count before behind new → new ≡ sum_by f new_rows
  count_moved f few count before behind new part is same moves =
      let sum : sum_by f new_rows + before ≡ count + behind = omega (arith, is, same) in
      let most : sum_by f new_rows ≤ 2 * length new_rows = sum_few f few new_rows in
      omega (arith, sum, moves (omega (arith, part, is)) (omega (arith, sum, most, short)))

  -- the tally that has moved so is that of the rows
  pub tally_moved : (tally before behind new : Tally) → IsTally rows tally → HasMoved tally before behind new
      → ((f : Row T → ℕ) (g : Tally → ℕ) → ((row : Row T) → g (tally_of row) ≡ f row) → g no_tally ≡ 0 → (g before ≤ sum_by f rows) × (sum_by f new_rows + g before ≡ sum_by f rows + g behind)) → IsTally new_rows new
  tally_moved tally before behind new is moves changes =
      let waiting = changes waiting_in (λ (t : Tally). t.waiting) (λ r. refl) refl in
      let flying = changes flying_in (λ (t : Tally). t.flying) (λ r. refl) refl in
      let forced = changes forced_in (λ (t : Tally). t.forced) (λ r. refl) refl in
      record {
        waiting = count_moved waiting_in (two_lookups waits) tally.waiting before.waiting behind.waiting new.waiting waiting.0 is.waiting waiting.1 moves.waiting;
        flying = count_moved flying_in (two_lookups is_flying) tally.flying before.flying behind.flying new.flying flying.0 is.flying flying.1 moves.flying;
        forced = count_moved forced_in (two_lookups is_forced) tally.forced before.forced behind.forced new.forced forced.0 is.forced forced.1 moves.forced;
      }

  -- where a row of the one tally has become one of the other, or has left
  pub tally_changed : (tally behind new : Tally) (row : Row T) (before : Tally) → before ≡ tally_of row → IsTally rows tally
      → ((f : Row T → ℕ) → f row ≤ sum_by f rows) → ((f : Row T → ℕ) → (g : Tally → ℕ) → ((r : Row T) → g (tally_of r) ≡ f r) → g no_tally ≡ 0 → sum_by f new_rows + f row ≡ sum_by f rows + g behind)
      → HasMoved tally before behind new → IsTally new_rows new
  tally_changed tally behind new row before same is part sums moves = tally_moved tally before behind new is moves (λ f g told none.
      let had : g before ≡ f row = ap g same ∙ told row in
      (omega (arith, had, part f), omega (arith, had, sums f g told none)))

-- with a row more
pub push_tally : {T : Type 0} (rows : List (Row T)) (row : Row T) → length (rows ++ row ∷ []) < 2 ^ 63 → (tally before behind new : Tally) → before ≡ no_tally → behind ≡ tally_of row → IsTally rows tally
    → HasMoved tally before behind new → IsTally (rows ++ row ∷ []) new
push_tally rows row short tally before behind new none same is moves = tally_moved rows (rows ++ row ∷ []) short tally before behind new is moves (λ f g told nought.
    let had : g before ≡ 0 = ap g none ∙ nought in
    let has : g behind ≡ f row = ap g same ∙ told row in
    (omega (arith, had), omega (arith, had, has, sum_by_push f rows row)))

-- with another row in the place of one
pub becomes_tally : {T : Type 0} (index : ℕ) (rows new_rows : List (Row T)) (row new : Row T) → ((d : Row T) → get_or rows index d ≡ row) → rows ≡ take index rows ++ row ∷ drop (index + 1) rows → new_rows ≡ take index rows ++ new ∷ drop (index + 1) rows → index < length rows → length new_rows < 2 ^ 63
    → (tally before behind next : Tally) (one two : Row T) → before ≡ tally_of one → one ≡ get_or rows index one → behind ≡ tally_of two → two ≡ get_or new_rows index two → IsTally rows tally → HasMoved tally before behind next → IsTally new_rows next
becomes_tally index rows new_rows row new row_is parts becomes inside short tally before behind next one two same at same_behind at_behind is =
    let front = take index rows in
    let back = drop (index + 1) rows in
    let here : two ≡ new = at_behind ∙ ap (λ rs. get_or rs index two) becomes ∙ at_part rows back index new two inside in
    tally_changed rows new_rows short tally behind next row before (same ∙ ap tally_of (at ∙ row_is one)) is (λ f. subst (λ rs. f row ≤ sum_by f rs) (sym parts) (within f front back row))
    (λ f g told none. ap (λ rs. sum_by f rs + f row) becomes ∙ replaced f front back row new ∙ ap (λ rs. sum_by f rs + f new) (sym parts)
    ∙ ap (λ n. sum_by f rows + n) (sym (told new) ∙ ap g (sym (same_behind ∙ ap tally_of here))))

-- the lookup in another phase of its leg
abbrev in_phase : Lookup → Phase → Lookup
in_phase lookup phase = record lookup { leg = record lookup.leg { phase = phase } }

-- a lookup that waits has no attempt in flight
idle_lookup : (lookup : Lookup) → IsWaiting lookup.leg.phase → (waits lookup ≡ true) × (is_flying lookup ≡ false)
idle_lookup lookup = by_phase lookup.leg.phase
  where
    by_phase : (phase : Phase) → IsWaiting phase → (waits (in_phase lookup phase) ≡ true) × (is_flying (in_phase lookup phase) ≡ false)
    by_phase phases.Waiting waiting = (refl, refl)
    by_phase (phases.InFlight flying) waiting = absurd waiting
    by_phase (phases.Ended status) waiting = absurd waiting

-- 1 where it is so
abbrev one_if : Bool → ℕ
one_if so = cond so 1 0

-- what is counted of a row before and behind the attempt of a lookup that waited
abbrev Begun : {T : Type 0} → Row T → Row T → Type 0
Begun row begun = (waiting_in begun + 1 ≡ waiting_in row) × (flying_in begun ≡ flying_in row + 1) × (forced_in begun ≡ forced_in row)

-- a lookup that waited has its attempt in flight
begun_counts : {T : Type 0} (flying : Flying) (second : Bool) (row : Row T) (Q : Lookup → Type 0) → IsSomeAnd (lookup_at second row) Q → IfSome (lookup_at second row) (λ (lookup : Lookup). IsWaiting lookup.leg.phase)
    → Begun row (begun_row flying second row)
begun_counts flying false row Q has waiting = by_second row.second
  where
    idle : (one_if (waits row.first) ≡ 1) × (one_if (is_flying row.first) ≡ 0)
    idle = let both = idle_lookup row.first waiting in (ap one_if both.0, ap one_if both.1)

    by_second : (o : Option Lookup) → (count_by waits (begun_lookup flying row.first ∷ option_to_list o) + 1 ≡ count_by waits (row.first ∷ option_to_list o))
        × (count_by is_flying (begun_lookup flying row.first ∷ option_to_list o) ≡ count_by is_flying (row.first ∷ option_to_list o) + 1)
        × (count_by is_forced (begun_lookup flying row.first ∷ option_to_list o) ≡ count_by is_forced (row.first ∷ option_to_list o))
    by_second None = (omega (arith, idle.0), omega (arith, idle.1), refl)
    by_second (Some lookup) = (omega (arith, idle.0), omega (arith, idle.1), refl)
begun_counts flying true row Q has waiting = by_second row.second has waiting
  where
    by_second : (o : Option Lookup) → IsSomeAnd o Q → IfSome o (λ (lookup : Lookup). IsWaiting lookup.leg.phase)
        → (count_by waits (row.first ∷ option_to_list (option_map (begun_lookup flying) o)) + 1 ≡ count_by waits (row.first ∷ option_to_list o))
        × (count_by is_flying (row.first ∷ option_to_list (option_map (begun_lookup flying) o)) ≡ count_by is_flying (row.first ∷ option_to_list o) + 1)
        × (count_by is_forced (row.first ∷ option_to_list (option_map (begun_lookup flying) o)) ≡ count_by is_forced (row.first ∷ option_to_list o))
    by_second None has waiting = absurd has
    by_second (Some lookup) has waiting =
        let both = idle_lookup lookup waiting in
        let idle : one_if (waits lookup) ≡ 1 = ap one_if both.0 in
        let still : one_if (is_flying lookup) ≡ 0 = ap one_if both.1 in
        (omega (arith, idle), omega (arith, still), refl)

-- with the attempt of a row begun: a leg that waited has its attempt in flight
pub begins_tally : {T : Type 0} (flying : Flying) (index : ℕ) (second : Bool) (rows new_rows : List (Row T)) (begins : BeginsRow flying index second rows new_rows) → IsApart index second rows → WaitsAt index second rows → length new_rows < 2 ^ 63
    → (tally new : Tally) → IsTally rows tally → HasMoved tally one_waiting one_flying new → IsTally new_rows new
begins_tally {T = T} flying index second rows new_rows begins apart waits_at short tally new is moves = record {
  waiting = count_moved rows new_rows short waiting_in (two_lookups waits) tally.waiting 1 0 new.waiting (omega (arith, part, counts.0)) is.waiting (omega (arith, sums waiting_in, counts.0)) moves.waiting;
  flying = count_moved rows new_rows short flying_in (two_lookups is_flying) tally.flying 0 1 new.flying (omega arith) is.flying (omega (arith, sums flying_in, counts.1)) moves.flying;
  forced = count_moved rows new_rows short forced_in (two_lookups is_forced) tally.forced 0 0 new.forced (omega arith) is.forced (omega (arith, sums forced_in, counts.2)) moves.forced;
}
  where
    row : Row T
    row = begun_row flying second begins.row

    counts : Begun begins.row row
    counts = begun_counts flying second begins.row _ (subst (λ r. IsSomeAnd (lookup_at second r) (λ (lookup : Lookup). NoneFlies (leg_of_lookup lookup) (all_lookups rows))) (begins.is begins.row) (apart begins.row))
        (subst (λ r. IfSome (lookup_at second r) (λ (lookup : Lookup). IsWaiting lookup.leg.phase)) (begins.is begins.row) (waits_at begins.row))

    part : waiting_in begins.row ≤ sum_by waiting_in rows
    part = subst (λ rs. waiting_in begins.row ≤ sum_by waiting_in rs) (sym begins.parts) (within waiting_in (take index rows) (drop (index + 1) rows) begins.row)

    sums : (f : Row T → ℕ) → sum_by f new_rows + f begins.row ≡ sum_by f rows + f row
    sums f = ap (λ rs. sum_by f rs + f begins.row) begins.becomes ∙ replaced f (take index rows) (drop (index + 1) rows) begins.row row ∙ ap (λ rs. sum_by f rs + f row) (sym begins.parts)

-- with the attempts of a row ended
pub ends_tally : {T : Type 0} (flags : Flags) (concerned : Concerned) (judged : Judged) (reply : List ℕ) (most : ℕ) (answer : Option Answer) (index : ℕ) (rows : List (Row T)) (tickets : List (Ticket T)) (new_rows : List (Row T)) (new_tickets : List (Ticket T))
    (ends : EndsRow flags concerned judged reply most answer index rows tickets new_rows new_tickets) → index < length rows → length new_rows < 2 ^ 63
    → (tally before behind new : Tally) (one : Row T) → before ≡ tally_of one → one ≡ get_or rows index one → IsTallyLeft index (length rows) new_rows behind → IsTally rows tally
    → HasMoved tally before behind new → IsTally new_rows new
ends_tally {T = T} flags concerned judged reply most answer index rows tickets new_rows new_tickets ends inside short tally before behind new one same at left is =
    tally_changed rows new_rows short tally behind new ends.row before (same ∙ ap tally_of (at ∙ ends.is one)) is (λ f. subst (λ rs. f ends.row ≤ sum_by f rs) (sym ends.parts) (within f front back ends.row)) (λ f g told none. by_after f g told none (after flags concerned judged reply most ends.row answer) ends.becomes)
  where
    front : List (Row T)
    front = take index rows

    back : List (Row T)
    back = drop (index + 1) rows

    by_after : (f : Row T → ℕ) (g : Tally → ℕ) → ((r : Row T) → g (tally_of r) ≡ f r) → g no_tally ≡ 0 → (a : After T) → Becomes front back tickets new_rows new_tickets a → sum_by f new_rows + f ends.row ≡ sum_by f rows + g behind
    by_after f g told none (Stays row) becomes =
        let many : length new_rows ≡ length rows = ap length becomes.0 ∙ (let p = length-append front (row ∷ back) in let q = length-append front (ends.row ∷ back) in omega (arith, p, q)) ∙ ap length (sym ends.parts) in
        let here : behind ≡ tally_of row = left.0 many row ∙ ap tally_of (ap (λ rs. get_or rs index row) becomes.0 ∙ at_part rows back index row row inside) in
        ap (λ rs. sum_by f rs + f ends.row) becomes.0 ∙ replaced f front back ends.row row ∙ ap (λ rs. sum_by f rs + f row) (sym ends.parts) ∙ ap (λ n. sum_by f rows + n) (sym (told row) ∙ ap g (sym here))
    by_after f g told none (Ends ticket) becomes =
        let fewer : length new_rows + 1 ≡ length rows = ap (λ rs. length rs + 1) becomes.0 ∙ (let p = length-append front back in let q = length-append front (ends.row ∷ back) in omega (arith, p, q)) ∙ ap length (sym ends.parts) in
        let gone : behind ≡ no_tally = left.1 (λ e. omega (arith, e, fewer)) in
        ap (λ rs. sum_by f rs + f ends.row) becomes.0 ∙ removed f front back ends.row ∙ ap (λ rs. sum_by f rs + 0) (sym ends.parts) ∙ ap (λ n. sum_by f rows + n) (sym none ∙ ap g (sym gone))
