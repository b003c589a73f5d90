-- What was found of the row at an index was found among the rows.
use Rattle.channel_table.proofs.Base.{◌≡◌, ℕ, ◌<◌, List, Option, Some, None, arith, get_or, length, subst, sym, get_or_read, IfSome, Flags, FindsAt, RowFinds, Row, Landing}
use Rattle.channel_table.specs.Arriving.{IsLanding}

pub found_row : {T : Type 0} (flags : Flags) (server link : ℕ) (bytes : List ℕ) (rows : List (Row T)) (index : ℕ) (row : Row T) (o : Option Landing) → index < length rows → row ≡ get_or rows index row → RowFinds flags server link bytes index row o
    → IfSome o (FindsAt flags server link bytes rows)
found_row flags server link bytes rows index row None inside is found = tt
found_row flags server link bytes rows index row (Some landing) inside is found = record {
  inside = omega (arith, inside, found.0);
  is = λ d. subst (λ (n : ℕ). IsLanding flags server link bytes (get_or rows n d) landing) (sym found.0)
      (subst (λ r. IsLanding flags server link bytes r landing) (get_or_read rows index row inside is d) found.1);
}
