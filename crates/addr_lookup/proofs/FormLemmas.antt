-- The test of all records says that each is well formed.
use Rattle.std.proofs.Common.{List, [], ◌∷◌, refl}
use Rattle.std.specs.Bool.{Decides}
use Rattle.std.specs.List.{list_all, AllByRecursion}
use Rattle.std.specs.Prelude.{All}
use Rattle.std.proofs.lemmas.Bool.Decides.{Decides-and, Decides-like}
use Rattle.std.proofs.lemmas.List.Elements.{All-from_recursion, recursion_from_All}
use Rattle.dns_message.proofs.Theorems.{well_formed_says}
use Rattle.dns_message.specs.Validity.{well_formed, IsWellFormed}
use Rattle.dns_message.specs.declared.message.Record.{Record}

each_says : (records : List Record) → Decides (list_all well_formed records) (AllByRecursion IsWellFormed records)
each_says [] = (λ _. tt, λ _. refl)
each_says (rr ∷ records) = Decides-and (well_formed rr) (list_all well_formed records) (well_formed_says rr) (each_says records)

pub all_say : (records : List Record) → Decides (list_all well_formed records) (All IsWellFormed records)
all_say records = Decides-like (list_all well_formed records) (All-from_recursion IsWellFormed records) (recursion_from_All IsWellFormed records) (each_says records)
