-- How the numbers of a queue's keys stay below n.
use Rattle.std.proofs.Common.{◌≡◌, ℕ, ◌+◌, inl, inr, is_some, Some, None, cond, arith, ap, sym, ◌∙◌}
use Rattle.std.specs.FinMap as map
use Rattle.std.specs.Ordering.{eq_by_cmp}
use Rattle.std.proofs.lemmas.Bool.{cases_Bool, false≢true}
use Rattle.timeout_queue.specs.declared.key.Key.{Key}
use Rattle.timeout_queue.specs.Key.{key_cmp}
use Rattle.timeout_queue.specs.Queue.{Deadlines}
use Rattle.timeout_queue.proofs.Theorems.{key_cmp_total, tied_keys}
use Rattle.parts_bench.specs.Numbers.{AreBelow}

pub AreBelow-empty : (n : ℕ) → AreBelow n map.empty
AreBelow-empty n key there = absurd (false≢true (ap is_some (sym (map.get-empty key_cmp key)) ∙ there))

pub AreBelow-insert : (deadlines : Deadlines) (key : Key) (due : ℕ) → AreBelow key.number deadlines → AreBelow (key.number + 1) (map.insert deadlines key due)
AreBelow-insert deadlines key due below q there =
    let found = ap is_some (sym (map.get-insert key_cmp_total deadlines key due q)) ∙ there in
    elim (cases_Bool (eq_by_cmp key_cmp q key)) [
      | inl tie ↦ let same : q.number ≡ key.number = ap (λ k. k.number) (tied_keys q key tie) in omega arith
      | inr apart ↦ let was = ap (λ b. is_some (cond b (Some due) (map.get deadlines q))) (sym apart) ∙ found in omega (arith, below q was)
    ]

pub AreBelow-remove : (n : ℕ) (deadlines : Deadlines) (key : Key) → AreBelow n deadlines → AreBelow n (map.remove deadlines key)
AreBelow-remove n deadlines key below q there =
    let found = ap is_some (sym (map.get-remove key_cmp_total deadlines key q)) ∙ there in
    elim (cases_Bool (eq_by_cmp key_cmp q key)) [
      | inl tie ↦ absurd (false≢true (ap (λ b. is_some (cond b None (map.get deadlines q))) (sym tie) ∙ found))
      | inr apart ↦ below q (ap (λ b. is_some (cond b None (map.get deadlines q))) (sym apart) ∙ found)
    ]
