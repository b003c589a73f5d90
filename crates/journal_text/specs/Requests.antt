-- What a request asks, as words.
use Rattle.std.specs.Prelude.{List, [], ◌∷◌, codes, decimal}
use Rattle.chan_types.specs.declared.spec.Spec.{Spec}
use Rattle.chan_types.specs.declared.spec.Spec.TheVariants.{Query, Search, Address, Reverse}
use Rattle.net_addr.specs.Text.{text_of as address_text}
use Rattle.journal_text.specs.Words.{Word, bytes_word, family_number, truth_number}

-- `q NAME KIND CLASS`, `s NAME KIND CLASS`, `a HOST FAMILY NOSORT` or `r ADDRESS`, where name and host are bytes
abbrev pub spec_words : Spec → List Word
spec_words (Query name kind class) = codes "q" ∷ bytes_word name ∷ decimal kind ∷ decimal class ∷ []
spec_words (Search name kind class) = codes "s" ∷ bytes_word name ∷ decimal kind ∷ decimal class ∷ []
spec_words (Address host family nosort) =
    codes "a" ∷ bytes_word host ∷ decimal (family_number family) ∷ decimal (truth_number nosort) ∷ []
spec_words (Reverse address) = codes "r" ∷ address_text address ∷ []
