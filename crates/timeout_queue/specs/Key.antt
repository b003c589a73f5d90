-- Which keys are the same, and the orders of keys and of deadlines.
use Rattle.std.specs.Prelude.{ℕ, refl, Bool, nat_eq, ◌&&◌}
use Rattle.std.specs.Coded.{Coded, code_by, coded×, coded_ℕ}
use Rattle.std.specs.Ordering.{nat_cmp, ordering_then}
use Rattle.std.specs.declared.cmp.Ordering.{Ordering}
use Rattle.timeout_queue.specs.declared.key.Key.{Key}
use Rattle.timeout_queue.specs.declared.key.Deadline.{Deadline}

-- keys in order: by the request's number, then by the leg
abbrev pub key_cmp : Key → Key → Ordering
key_cmp x y = ordering_then (nat_cmp x.number y.number) (nat_cmp x.leg y.leg)

-- keys are the same where number and leg are
abbrev pub key_eq : Key → Key → Bool
key_eq x y = nat_eq x.number y.number && nat_eq x.leg y.leg

-- deadlines in order: by the moment, then by the key
abbrev pub deadline_cmp : Deadline → Deadline → Ordering
deadline_cmp x y = ordering_then (nat_cmp x.due y.due) (key_cmp x.key y.key)

-- a key is stored as the pair of its fields
abbrev pub key_code : Coded Key
key_code = code_by (ℕ × ℕ) (coded× coded_ℕ coded_ℕ) (λ k. (k.number, k.leg)) (λ p. record { number = p.0; leg = p.1 }) (λ _. refl)
