-- What rdata is made of: strings, and names without pointers (RFC 1035, section 3.3).
use Rattle.std.specs.Prelude.{◌≡◌, ◌≢◌, ℕ, zero, suc, nat_lt, if◌then◌else◌, List, [], ◌∷◌, length, take, drop, Option, Some, None, option_map, Result, Ok, Err}
use Rattle.std.specs.Option.{option_and_then}
use Rattle.std.specs.Borrow.{Bor}
use Rattle.dns_message.specs.NameText.{is_name}
use Rattle.dns_rdata.specs.declared.fault.RdataFault.{RdataFault}
use Rattle.dns_rdata.specs.declared.fault.RdataFault.TheVariants.{NoMemory}

-- a string is a length byte and so many bytes: the one at the front of the bytes, and the bytes behind it
abbrev pub first_string : List ℕ → Option (List ℕ × List ℕ)
first_string [] = None
first_string (len ∷ bytes) = if nat_lt (length bytes) len then None else Some (take len bytes, drop len bytes)

-- a string and those that the bytes behind it are
abbrev pub then_strings : (List ℕ → Option (List (List ℕ))) → Option (List ℕ × List ℕ) → Option (List (List ℕ))
then_strings behind None = None
then_strings behind (Some first) = option_map (λ strings. first.0 ∷ strings) (behind first.1)

-- the strings that the bytes are, at most so many
abbrev pub strings_within : ℕ → List ℕ → Option (List (List ℕ))
strings_within zero [] = Some []
strings_within zero (len ∷ bytes) = None
strings_within (suc n) [] = Some []
strings_within (suc n) (len ∷ bytes) = then_strings (strings_within n) (first_string (len ∷ bytes))

-- the strings that the bytes are; as many as bytes are enough
unfoldable pub strings_in : List ℕ → Option (List (List ℕ))
strings_in bytes = strings_within (length bytes) bytes

-- the root, which is a label without bytes, or a label and the labels behind it
abbrev pub then_labels : (List ℕ → Option (List (List ℕ) × List ℕ)) → Option (List ℕ × List ℕ) → Option (List (List ℕ) × List ℕ)
then_labels behind None = None
then_labels behind (Some ([], rest)) = Some ([], rest)
then_labels behind (Some (b ∷ label, rest)) = option_map (λ found. ((b ∷ label) ∷ found.0, found.1)) (behind rest)

-- the labels at the front of the bytes up to the root, at most so many, and the bytes behind them
abbrev pub labels_within : ℕ → List ℕ → Option (List (List ℕ) × List ℕ)
labels_within zero bytes = None
labels_within (suc n) bytes = then_labels (labels_within n) (first_string bytes)

-- the labels at the front of the bytes up to the root, and the bytes behind them; as many as bytes are enough
unfoldable pub labels_in : List ℕ → Option (List (List ℕ) × List ℕ)
labels_in bytes = labels_within (length bytes) bytes

-- the name at the front of the bytes, and the bytes behind it
abbrev pub name_in : List ℕ → Option (List (List ℕ) × List ℕ)
name_in bytes = option_and_then (λ found. if is_name found.0 then Some found else None) (labels_in bytes)

-- what was read, if no bytes are behind it
abbrev pub alone : {A : Type 0} → A × List ℕ → Option A
alone (x, []) = Some x
alone (x, b ∷ bytes) = None

-- the name that the bytes are
abbrev pub whole_name : List ℕ → Option (List (List ℕ))
whole_name bytes = option_and_then alone (name_in bytes)

-- a call gave what is read; want of memory may come in place of any answer
abbrev pub Gives : {A : Type 0} → Result A RdataFault → Option A → Type 0
Gives (Ok x) read = read ≡ Some x
Gives (Err fault) read = fault ≢ NoMemory → read ≡ None

-- a string and the bytes behind it, where both are borrowed
abbrev pub seen : Bor (List ℕ) × Bor (List ℕ) → List ℕ × List ℕ
seen x = (x.0.now, x.1.now)
