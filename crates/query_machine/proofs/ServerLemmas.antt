-- The least of a list of servers with their failures.
use Rattle.std.proofs.Common.{◌≡◌, ℕ, ◌+◌, ◌==◌, Bool, true, false, List, [], ◌∷◌, ◌++◌, map, take, drop, get_or, length, ◌<◌, ◌≤◌, slice_set, arith, refl, ap, ap₂, sym, ◌∙◌, take_all, drop_of_length-le}
use Rattle.std.proofs.lemmas.List.{append-nil, get_or_default}
use Rattle.std.proofs.lemmas.List.Edits.{map_over_more}
use Rattle.std.specs.List.{drop-map, take-map}
use Rattle.std.proofs.lemmas.List.FromFn.{map-range_with_len_more}
use Rattle.std.specs.Prelude.{if◌then◌else◌, nat_lt}
use Rattle.channel_model.specs.Choice.{Failing, least_failing, least_of}
use Rattle.channel_model.specs.Servers.{from_place}
use Rattle.query_machine.specs.Servers.{counted_again, failing_of, fresh_server, fresh_servers, least_count, recounted, recounted_one}
use Rattle.query_machine.specs.declared.servers.FailureCount.{FailureCount}

-- the server that has the least count is the one that the channel's model takes
pub least_is : (best : Failing) (servers : List Failing) → (least_count best servers).server ≡ least_failing best servers
least_is best [] = refl
least_is best (next ∷ rest) = least_is (if nat_lt next.count best.count then next else best) rest

-- the least of two lists, one behind the other
pub least_append : (best : Failing) (servers more : List Failing) → least_count best (servers ++ more) ≡ least_count (least_count best servers) more
least_append best [] more = refl
least_append best (next ∷ rest) more = least_append (if nat_lt next.count best.count then next else best) rest more

-- one server more that hasn't failed
pub fresh_more : (key : ℕ) → fresh_servers (key + 1) ≡ fresh_servers key ++ record { server = key; count = 0 } ∷ []
fresh_more key = map-range_with_len_more (λ (k : ℕ). fresh_server k) 0 key key (omega arith)

module _ (key : ℕ) (recount : ℕ → ℕ) where
  -- an item that is counted again, as the channel's model has it
  again_one : (item : FailureCount) → failing_of (counted_again key recount item) ≡ recounted_one key recount (failing_of item)
  again_one item = by_test (item.key == key)
    where
      by_test : (b : Bool) → failing_of (if b then record item { failures = recount item.failures } else item) ≡ (if b then record (failing_of item) { count = recount item.failures } else failing_of item)
      by_test true = refl
      by_test false = refl

  -- all items, counted again
  pub again : (items : List FailureCount) → map failing_of (map (counted_again key recount) items) ≡ recounted key recount (map failing_of items)
  again [] = refl
  again (item ∷ items) = ap₂ (λ (x : Failing) (xs : List Failing). x ∷ xs) (again_one item) (again items)

module _ (key : ℕ) (recount : ℕ → ℕ) (items now : List FailureCount) (i : ℕ) where
  -- one item more is counted again
  pub again_more : (d item : FailureCount) → i < length items → i < length now → now ≡ map (counted_again key recount) (take i items) ++ drop i items →
      item ≡ counted_again key recount (get_or now i d) →
      slice_set now i item ≡ map (counted_again key recount) (take (i + 1) items) ++ drop (i + 1) items
  again_more d item inside there far is =
      rw is (map_over_more (counted_again key recount) items now i (get_or now i d) inside far (get_or_default now i d (get_or now i d) there))

  -- all of them are
  pub again_whole : length items ≤ i → now ≡ map (counted_again key recount) (take i items) ++ drop i items → now ≡ map (counted_again key recount) items
  again_whole whole far = far ∙ rw (take_all i items whole, drop_of_length-le items whole) (append-nil (map (counted_again key recount) items))

-- a choice between one thing and itself
same_either : {A : Type 0} (b : Bool) (x : A) → (if b then x else x) ≡ x
same_either true x = refl
same_either false x = refl

-- the least of a list that begins with the best so far
least_itself : (best : Failing) (rest : List Failing) → least_count best (best ∷ rest) ≡ least_count best rest
least_itself best rest = ap (λ (x : Failing). least_count x rest) (same_either (nat_lt best.count best.count) best)

-- the least of the servers from a place on, and then of those before it, is the least of the list from that place on
split : (before back : List FailureCount) (d chosen last : FailureCount) → 1 ≤ length back →
    failing_of chosen ≡ least_count (failing_of (get_or back 0 d)) (map failing_of back) → failing_of last ≡ least_count (failing_of chosen) (map failing_of before) →
    last.key ≡ least_of (map failing_of back ++ map failing_of before)
split before [] d chosen last some chose ends = absurd (omega arith)
split before (next ∷ rest) d chosen last some chose ends =
    ap (λ (x : Failing). x.server) (ends ∙ ap (λ (x : Failing). least_count x (map failing_of before)) (chose ∙ least_itself (failing_of next) (map failing_of rest)))
    ∙ sym (ap (λ (x : Failing). x.server) (least_append (failing_of next) (map failing_of rest) (map failing_of before)))
    ∙ least_is (failing_of next) (map failing_of rest ++ map failing_of before)

-- so it is of those in use, where contracts see the list as the channel's model has it
pub picked : (items before back : List FailureCount) (d chosen last : FailureCount) (first used : ℕ) →
    before ≡ take first (take used items) → back ≡ drop first (take used items) → 1 ≤ length back →
    failing_of chosen ≡ least_count (failing_of (get_or back 0 d)) (map failing_of back) → failing_of last ≡ least_count (failing_of chosen) (map failing_of before) →
    last.key ≡ least_of (from_place first (take used (map failing_of items)))
picked items before back d chosen last first used front rear some chose ends =
    split before back d chosen last some chose ends
    ∙ rw (front, rear) (sym (rw (take-map failing_of used items, drop-map failing_of first (take used items), take-map failing_of first (take used items)) refl))
