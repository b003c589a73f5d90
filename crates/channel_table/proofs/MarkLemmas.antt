-- Which rows a Fault fails, where those are marked that have so many attempts as there are.
use Rattle.channel_table.proofs.Base.{◌≡◌, ◌≤◌, ◌<◌, ◌∙◌, ℕ, ◌+◌, ◌-◌, true, List, [], ◌∷◌, ◌++◌, Option, refl, ap, sym, subst, take, drop, get_or, length, append_assoc, arith, true≢false, take_more, sum_by-append, sum_by-cons, sum_by_push, AllByRecursion, sum_by, not, Answer, each-append, each-then, Options, Legs, AreMarked, IsSpared, answer_over, IsListedOver, Keeps, key_of, over_in, lookups, Row, Mark}
use Rattle.std.proofs.Common.{◌==◌}
use Rattle.std.proofs.Common.{length-drop, length-take-le, take-add, take-append-drop}
use Rattle.std.proofs.lemmas.List.Sums.{sum_by-take-drop}
use Rattle.std.specs.FinSet as set
use Rattle.channel_table.proofs.LinkedLemmas.{any_counted}
use Rattle.channel_table.proofs.ListedLemmas.{insert_keeps, listed_itself}
use Rattle.channel_table.specs.Faulting.{AreMarkedTo}

module _ {T : Type 0} (server link : ℕ) where
  -- rows are spared that have no attempt over the link
  pub none_over : (rows : List (Row T)) → sum_by (over_in server link) rows ≡ 0 → AllByRecursion (IsSpared server link) rows
  none_over [] none = tt
  none_over (row ∷ rows) none =
      let sums = sum_by-cons (over_in server link) row rows in
      let here : over_in server link row ≡ 0 = omega (arith, sums, none) in
      (any_counted server link (lookups row) ∙ ap (λ n. not (n == 0)) here, none_over rows (omega (arith, sums, none)))

  -- and don't have to wait
  spared_listed : (legs : Legs) (rows : List (Row T)) → AllByRecursion (IsSpared server link) rows → AllByRecursion (IsListedOver server link legs) rows
  spared_listed legs rows spared = each-then (IsSpared server link) (IsListedOver server link legs) rows (λ row off hit. absurd (true≢false (sym hit ∙ off))) spared

module _ {T : Type 0} (options : Options) (server link most : ℕ) where
  -- one more row is marked behind these and some that are spared
  tiled_more : (marks : List Mark) (front back : List (Row T)) (row : Row T) (mark : Mark) → AreMarkedTo (λ (rs : List (Row T)). rs ≡ []) options server link most marks front → AllByRecursion (IsSpared server link) back → length back ≡ mark.gap → mark.answer ≡ answer_over options server link most row
      → AreMarkedTo (λ (rs : List (Row T)). rs ≡ []) options server link most (marks ++ mark ∷ []) (front ++ (back ++ row ∷ []))
  tiled_more [] front back row mark tiled spared long answered = (back, row, [], ap (λ rs. rs ++ (back ++ row ∷ [])) tiled, long, spared, answered, refl)
  tiled_more (m ∷ marks) front back row mark tiled spared long answered = (
    tiled.0,
    tiled.1,
    tiled.2 ++ (back ++ row ∷ []),
    ap (λ rs. rs ++ (back ++ row ∷ [])) tiled.3 ∙ append_assoc tiled.0 (tiled.1 ∷ tiled.2) (back ++ row ∷ []),
    tiled.4,
    tiled.5,
    tiled.6,
    tiled_more marks tiled.2 back row mark tiled.7 spared long answered,
  )

  -- the rows behind the last one that is marked are spared
  tiled_whole : (marks : List Mark) (front back : List (Row T)) → AreMarkedTo (λ (rs : List (Row T)). rs ≡ []) options server link most marks front → AllByRecursion (IsSpared server link) back → AreMarked options server link most marks (front ++ back)
  tiled_whole [] front back tiled spared = subst (λ (rs : List (Row T)). AllByRecursion (IsSpared server link) (rs ++ back)) (sym tiled) spared
  tiled_whole (m ∷ marks) front back tiled spared = (
    tiled.0,
    tiled.1,
    tiled.2 ++ back,
    ap (λ rs. rs ++ back) tiled.3 ∙ append_assoc tiled.0 (tiled.1 ∷ tiled.2) back,
    tiled.4,
    tiled.5,
    tiled.6,
    tiled_whole marks tiled.2 back tiled.7 spared,
  )

  -- these rows are marked up to the last one, and those that fail are among those that wait
  pub record HaveMarked (marks : List Mark) (legs : Legs) (rows : List (Row T)) : Type 0 where
    pub marked : AreMarkedTo (λ (rs : List (Row T)). rs ≡ []) options server link most marks rows
    pub listed : AllByRecursion (IsListedOver server link legs) rows

  -- the rows before this index have so many attempts over the link or more, and are marked where they have no more
  pub record MarkedUpTo (marks : List Mark) (legs : Legs) (count from : ℕ) (rows : List (Row T)) : Type 0 where
    pub low : count ≤ sum_by (over_in server link) (take from rows)
    pub have : sum_by (over_in server link) (take from rows) ≤ count → HaveMarked marks legs (take from rows)

  module _ (marks : List Mark) (legs : Legs) (count from : ℕ) (rows : List (Row T)) (upto : MarkedUpTo marks legs count from rows) where
    -- one more row is marked, at this index
    module _ (index : ℕ) (row : Row T) (ahead : from ≤ index) (inside : index < length rows) (is : row ≡ get_or rows index row) where
      between : List (Row T)
      between = take (index - from) (drop from rows)

      split : take (index + 1) rows ≡ take from rows ++ (between ++ row ∷ [])
      unfolding between
      split =
          take_more rows index row inside ∙ ap (λ r. take index rows ++ r ∷ []) (sym is)
          ∙ ap (λ rs. rs ++ row ∷ []) (ap (λ n. take n rows) (let e : index ≡ from + (index - from) = omega (arith, ahead) in e) ∙ take-add from (index - from) rows) ∙ append_assoc (take from rows) (take (index - from) (drop from rows)) (row ∷ [])

      long : length between ≡ index - from
      unfolding between
      long = length-take-le (index - from) (drop from rows) (let d = length-drop from rows in omega (arith, d, inside, ahead))

      sums : sum_by (over_in server link) (take (index + 1) rows) ≡ sum_by (over_in server link) (take from rows) + (sum_by (over_in server link) between + over_in server link row)
      sums = ap (sum_by (over_in server link)) split ∙ sum_by-append (over_in server link) (take from rows) (between ++ row ∷ []) ∙ ap (λ n. sum_by (over_in server link) (take from rows) + n) (sum_by_push (over_in server link) between row)

      pub more_marked : (over : ℕ) → over ≡ over_in server link row → (answer : Option Answer) → answer ≡ answer_over options server link most row → (new : Legs) → new ≡ set.insert legs (key_of row.number)
          → MarkedUpTo (marks ++ record { gap = index - from; answer = answer } ∷ []) new (count + over) (index + 1) rows
      more_marked over over_is answer answered new new_is = record {
        low = (let p = upto.low in omega (arith, sums, p, over_is));
        have = λ full.
            let p = upto.low in
            let before = upto.have (omega (arith, sums, full, over_is)) in
            let spared = none_over server link between (omega (arith, sums, full, p, over_is)) in
            let keeps = subst (Keeps legs) (sym new_is) (insert_keeps legs (key_of row.number)) in
            let there : set.contains new (key_of row.number) ≡ true = subst (λ (ls : Legs). set.contains ls (key_of row.number) ≡ true) (sym new_is) (listed_itself legs row.number) in
            subst (HaveMarked (marks ++ record { gap = index - from; answer = answer } ∷ []) new) (sym split) (record {
              marked = tiled_more marks (take from rows) between row (record { gap = index - from; answer = answer }) before.marked spared long answered;
              listed = each-append (IsListedOver server link new) (take from rows) (between ++ row ∷ []) (each-then (IsListedOver server link legs) (IsListedOver server link new) (take from rows) (λ r listed hit. keeps r.number (listed hit)) before.listed)
                  (each-append (IsListedOver server link new) between (row ∷ []) (spared_listed server link new between spared) ((λ hit. there), tt));
            });
      }

    -- all rows are marked that fail, where these have as many attempts as there are
    pub all_marked : count ≡ sum_by (over_in server link) rows → AreMarked options server link most marks rows × AllByRecursion (IsListedOver server link legs) rows
    all_marked full =
        let sums = sum_by-take-drop (over_in server link) rows from in
        let p = upto.low in
        let before = upto.have (omega (arith, sums, full)) in
        let spared = none_over server link (drop from rows) (omega (arith, sums, full, p)) in
        let whole = take-append-drop from rows in (
          subst (AreMarked options server link most marks) whole (tiled_whole marks (take from rows) (drop from rows) before.marked spared),
          subst (AllByRecursion (IsListedOver server link legs)) whole (each-append (IsListedOver server link legs) (take from rows) (drop from rows) before.listed (spared_listed server link legs (drop from rows) spared)),
        )
