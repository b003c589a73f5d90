-- What crates above may cite of keys: by their order a queue's map is read after a put or a drop.
use Rattle.std.proofs.Common.{◌≡◌, true}
use Rattle.std.specs.Cmp.{Equal-is}
use Rattle.std.specs.Ordering.{eq_by_cmp}
use Rattle.timeout_queue.specs.declared.key.Key.{Key}
use Rattle.timeout_queue.specs.Key.{key_cmp}
pub use Rattle.timeout_queue.proofs.KeyLemmas.{key_cmp_total, key_cmp-IsAntisymmetric}

-- keys that tie are the same
pub tied_keys : (x y : Key) → eq_by_cmp key_cmp x y ≡ true → x ≡ y
tied_keys x y tie = key_cmp-IsAntisymmetric x y ((Equal-is (key_cmp x y)).0 tie)
