-- Which words name a type or a class: names of the table, and numbers behind TYPE and CLASS (RFC 1035, section 3.2;
-- RFC 3597, section 5).
use Rattle.std.specs.Prelude.{◌≡◌, ◌≢◌, ℕ, ◌≤◌, ◌⊎◌, List, ◌++◌, map, Option, Some, None, codes, decimal}
use Rattle.std.specs.Char.{to_ascii_lowercase}
use Rattle.dns_message.specs.Numbers.{kind_opt}
use Rattle.dns_rdata.specs.Table.{kind_name, class_name}

-- the two are the same in letters of either case
abbrev pub SameLetters : List ℕ → List ℕ → Type 0
SameLetters a b = map to_ascii_lowercase a ≡ map to_ascii_lowercase b

-- there is such a name, and the word is it
abbrev pub IsListed : List ℕ → Option (List ℕ) → Type 0
IsListed word None = ⊥
IsListed word (Some name) = SameLetters word name

-- the word is this front and the number behind it in decimal digits, without a zero in front; it is at most 65535
pub record IsNumbered (front word : List ℕ) (number : ℕ) : Type 0 where
  pub letters : List ℕ
  pub same : SameLetters letters front
  pub few : number ≤ 65535
  pub spelled : word ≡ letters ++ decimal number

-- the word names the type: it is the table's name for it, which OPT's is not as a word, or TYPE and its number
abbrev pub NamesKind : List ℕ → ℕ → Type 0
NamesKind word kind =
    ((kind ≢ kind_opt) × IsListed word (kind_name kind)) ⊎ IsNumbered (codes "TYPE") word kind

-- the word names the class: it is the table's name for it, or CLASS and its number
abbrev pub NamesClass : List ℕ → ℕ → Type 0
NamesClass word class = IsListed word (class_name class) ⊎ IsNumbered (codes "CLASS") word class
