-- What a part from a list's beginning says of its length.
use Rattle.std.proofs.Common.{◌≡◌, ℕ, ◌<◌, List, length, take, arith}
use Rattle.std.proofs.lemmas.List.{length-take, take_all}

-- a part that is shorter than it might be is the whole list
pub take_short : (limit : ℕ) (xs : List ℕ) → length (take limit xs) < limit → take limit xs ≡ xs
take_short limit xs short = take_all limit xs (omega (arith, length-take limit xs, short))
