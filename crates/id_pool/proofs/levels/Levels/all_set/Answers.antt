use Rattle.std.proofs.Common.{◌≡◌, replicate}
use Rattle.id_pool.proofs.LevelsLemmas.{length_of_ones, flags_of_ones, sums_of_ones, upper_of_ones}
use Rattle.id_pool.proofs.levels.Levels.all_set.Goals as goal

pub returns : goal.returns
returns c =
    let flags : c.in_ok-vec.field-0.items ≡ replicate 1024 18446744073709551615 = c.in_ok-vec.ensures.items_if_clones_equal (λ b is. is) in
    let words : c.in_ok-vec-2.field-0.items ≡ replicate 16 18446744073709551615 = c.in_ok-vec-2.ensures.items_if_clones_equal (λ b is. is) in (
      record {
        len = length_of_ones 1024 _ flags;
        sums = sums_of_ones 1024 _ flags _ (flags_of_ones 16 _ words);
        upper = upper_of_ones _ words;
      },
      flags_of_ones 1024 _ flags,
    )
