-- A request is read off the words that are printed for it.
use Rattle.std.proofs.Common.{◌≡◌, ℕ, List, [], ◌∷◌, ◌++◌, Some, refl, arith}
use Rattle.std.specs.Prelude.{decimal}
use Rattle.chan_types.specs.declared.spec.Spec.{Spec}
use Rattle.chan_types.specs.declared.spec.Spec.TheVariants.{Query, Search, Address, Reverse}
use Rattle.journal_text.specs.Words.{Word, family_number, truth_number}
use Rattle.journal_text.specs.Requests.{spec_words}
use Rattle.journal_text.specs.Fits.{FitsSpec}
use Rattle.journal_text.specs.RequestReading.{spec_from, named_from, host_from, reverse_from}
use Rattle.journal_text.proofs.AtomLemmas.{bytes_again, number_again, family_again, truth_again, address_again}

pub spec_again : (spec : Spec) (rest : List Word) → FitsSpec spec → spec_from (spec_words spec ++ rest) ≡ Some (spec, rest)
unfolding spec_from named_from host_from reverse_from
spec_again (Query name kind class) rest fits =
    rw (bytes_again name (decimal kind ∷ decimal class ∷ rest) fits.0, number_again 65535 kind (decimal class ∷ rest) (omega (arith, fits.1)) (omega (arith, fits.1)), number_again 65535 class rest (omega (arith, fits.2)) (omega (arith, fits.2))) refl
spec_again (Search name kind class) rest fits =
    rw (bytes_again name (decimal kind ∷ decimal class ∷ rest) fits.0, number_again 65535 kind (decimal class ∷ rest) (omega (arith, fits.1)) (omega (arith, fits.1)), number_again 65535 class rest (omega (arith, fits.2)) (omega (arith, fits.2))) refl
spec_again (Address host family nosort) rest fits =
    rw (bytes_again host (decimal (family_number family) ∷ decimal (truth_number nosort) ∷ rest) fits, family_again family (decimal (truth_number nosort) ∷ rest), truth_again nosort rest) refl
spec_again (Reverse address) rest fits = rw (address_again address rest fits) refl
