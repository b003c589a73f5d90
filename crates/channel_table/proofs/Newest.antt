-- The next request has a greater number than those that are pending.
use Rattle.channel_table.proofs.Base.{◌≡◌, ℕ, zero, suc, ◌+◌, ◌<◌, ◌≤◌, Bool, true, false, List, [], ◌∷◌, ap, subst, map, arith, length, refl, AllByRecursion, range_with_len, if◌then◌else◌, option_map, Script, Ticket, asked_once, occurrences, Accepted, Past, accepted, IsLawfulPast, Setting, RowStands, TableStands, number_of, Row, ◌==◌}
use Rattle.std.proofs.lemmas.Bool.{eqb-true}
use Rattle.channel_model.proofs.Theorems.{requests_numbered}

-- a number that stands in a run is below its end
in_run : (number first len : ℕ) → 1 ≤ occurrences number (range_with_len first len) → number < first + len
in_run number first zero there = absurd (omega (arith, there))
in_run number first (suc len) there = by_test (first == number) refl there (λ one. in_run number (first + 1) len one)
  where
    by_test : (b : Bool) → (first == number) ≡ b → 1 ≤ (if b then occurrences number (range_with_len (first + 1) len) + 1 else occurrences number (range_with_len (first + 1) len))
        → (1 ≤ occurrences number (range_with_len (first + 1) len) → number < first + 1 + len) → number < first + suc len
    by_test true is one rest = let same = eqb-true first number is in omega (arith, same)
    by_test false is one rest = omega (arith, rest one)

module _ {T : Type 0} (plan : T → Script) (setting : Setting) (past : Past) (lawful : IsLawfulPast setting past) (number : ℕ) (next : number ≡ length (accepted past) + 1) where
  each_older : (rows : List (Row T)) → AllByRecursion (RowStands plan setting past) rows → AllByRecursion (λ (n : ℕ). n < number) (map number_of rows)
  each_older [] each = tt
  each_older (row ∷ rows) each =
      let asked = asked_once setting row.number past _ (ap (option_map (λ (r : Accepted). r.spec)) each.0.accepts) in
      let run = in_run row.number 1 (length (accepted past)) (subst (λ ns. 1 ≤ occurrences row.number ns) (requests_numbered setting past lawful) asked) in
      (omega (arith, run, next), each_older rows each.1)

  -- all pending requests have lesser numbers than the next one
  pub all_older : (rows : List (Row T)) (tickets : List (Ticket T)) → TableStands plan setting past rows tickets → AllByRecursion (λ (n : ℕ). n < number) (map number_of rows)
  all_older rows tickets table = each_older rows table.each_row
