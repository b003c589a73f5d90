-- What crates above may cite: the identifiers of a pool as those of a list.
use Rattle.std.proofs.Common.{◌≡◌, ℕ, ◌<◌, ◌^◌, ◌%◌, ◌+◌, Bool, List, sym, ◌∙◌, arith}
use Rattle.std.specs.FinSet as set
use Rattle.std.specs.List.{list_any}
use Rattle.std.specs.Ordering.{nat_cmp}
use Rattle.std.specs.Prelude.{nat_eq}
use Rattle.id_pool.specs.Identifiers.{AllUsed, IsFirstFree}

module _ (is_used other : ℕ → Bool) (same : (id : ℕ) → id < 2 ^ 16 → is_used id ≡ other id) where
  -- the first free one is the first free one of those who say the same of each identifier
  pub first_free_alike : (word id : ℕ) → IsFirstFree is_used word id → IsFirstFree other word id
  first_free_alike word id first = record {
    steps = first.steps;
    few = first.few;
    reached = first.reached;
    free = sym (same id (omega (arith, first.reached))) ∙ first.free;
    passed = λ step within. sym (same ((word + step) % 2 ^ 16) (omega arith)) ∙ first.passed step within;
  }

  -- and they all are in use where they are by these
  pub all_used_alike : AllUsed is_used → AllUsed other
  all_used_alike all id small = sym (same id small) ∙ all id small

-- the identifiers of a list are in use where the list has them
pub used_of_list : (ids : List ℕ) (id : ℕ) → set.contains (set.from_list {R = nat_cmp} ids) id ≡ list_any (λ used. nat_eq used id) ids
used_of_list = set.contains-from_list_nat
