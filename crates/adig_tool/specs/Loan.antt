-- Which loan a World is lent by.
use Rattle.std.specs.Prelude.{ℕ}
use base.Stored.{Gv, gcons, gnum}

-- what tells which loan of a World it is, by the name under which what is lent is tracked, and how that World was made
abbrev pub loan_origin : ℕ → Gv → Gv
loan_origin name origin = gcons (gnum name) origin
