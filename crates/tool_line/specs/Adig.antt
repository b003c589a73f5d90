-- What the words ask of adig.
use Rattle.std.specs.Prelude.{◌≡◌, ℕ, Bool, true, false, List, [], ◌∷◌, codes, Option, Some, None, option_map, option_and_then}
use Rattle.std.specs.String.{string_bytes}
use Rattle.chan_types.specs.declared.spec.Spec.{Spec}
use Rattle.chan_types.specs.declared.spec.Spec.TheVariants.{Query, Reverse, Search}
use Rattle.dns_rdata.specs.Table.{class_word, kind_word}
use Rattle.net_addr.specs.Reading.{address_of}
use Rattle.tool_line.specs.Asks.{Asks}
use Rattle.tool_line.specs.Lookup.{Lookup, is_used, read_or, value_under}
use Rattle.tool_line.specs.Settings.{AreSetBy}
use Rattle.tool_line.specs.Values.{path_in}
use Rattle.tool_line.specs.Words.{Table, Text}
use Rattle.tool_line.specs.declared.adig.AdigAsk.{AdigAsk}

-- the options of adig, and whether each takes a value
abbrev pub adig_options : Table
adig_options =
    (codes "server", true)
    ∷ (codes "port", true)
    ∷ (codes "resolv", true)
    ∷ (codes "timeout", true)
    ∷ (codes "tries", true)
    ∷ (codes "type", true)
    ∷ (codes "class", true)
    ∷ (codes "tcp", false)
    ∷ (codes "no-edns", false)
    ∷ (codes "primary", false)
    ∷ (codes "ignore-tc", false)
    ∷ (codes "no-recurse", false)
    ∷ (codes "no-check", false)
    ∷ (codes "search", false)
    ∷ (codes "reverse", false)
    ∷ (codes "mix", false)
    ∷ (codes "journal", false)
    ∷ (codes "cookie", false)
    ∷ []

-- the one plain word, if there is exactly one
abbrev pub only_word : Option (List Text) → Option Text
only_word None = None
only_word (Some []) = None
only_word (Some (word ∷ [])) = Some word
only_word (Some (word ∷ next ∷ words)) = None

-- the request for this name: with `--reverse` the name is an address, and nothing else counts; with `--search` its candidates are asked
abbrev pub spec_for : Bool → Bool → Text → ℕ → ℕ → Option Spec
spec_for true search name kind class = option_map Reverse (address_of name)
spec_for false true name kind class = Some (Search name kind class)
spec_for false false name kind class = Some (Query name kind class)

-- the type and the class that the words name, else A and IN (RFC 1035, sections 3.2.2 and 3.2.4)
abbrev pub kind_in : Lookup → Option ℕ
kind_in under = read_or kind_word 1 (value_under under (codes "type"))

abbrev pub class_in : Lookup → Option ℕ
class_in under = read_or class_word 1 (value_under under (codes "class"))

-- the request that the words ask for: there is one name, and the type and the class can be read
abbrev pub spec_in : Lookup → Option Spec
spec_in under =
    option_and_then (λ name. option_and_then (λ kind. option_and_then (λ class.
    spec_for (is_used under (codes "reverse")) (is_used under (codes "search")) name kind class)
    (class_in under)) (kind_in under)) (only_word (under []))

-- what is said under the names asks this
pub record IsSaid (under : Lookup) (ask : AdigAsk) : Type 0 where
  -- the path of resolv.conf: that of the words, or where it lies (resolv.conf(5))
  pub resolv : read_or path_in (codes "/etc/resolv.conf") (value_under under (codes "resolv")) ≡ Some (string_bytes ask.resolv)
  -- what the words set of the options
  pub settings : AreSetBy under ask.settings
  -- the request
  pub spec : spec_in under ≡ Some ask.spec
  -- whether the book of the run is asked for in place of the page
  pub journal : ask.journal ≡ is_used under (codes "journal")
  -- whether queries over UDP are to have a DNS cookie (RFC 7873)
  pub cookie : ask.cookie ≡ is_used under (codes "cookie")

-- these words ask this of adig
abbrev pub AdigAsks : List Text → AdigAsk → Type 0
AdigAsks = Asks adig_options IsSaid
