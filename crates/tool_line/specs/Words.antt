-- What the words of a command line say, by a table of options. The forms of words are this project's profile.
use Rattle.std.specs.Prelude.{ℕ, Bool, true, false, not, ◌==◌, ◌&&◌, ◌||◌, List, [], ◌∷◌, ◌++◌}
use Rattle.std.specs.Prelude.{Option, Some, None, option_map, option_and_then, find, if◌then◌else◌}
use Rattle.std.specs.List.{before_first, after_first, list_any, list_all}
use Rattle.std.specs.Str.{bytes_eq}

-- a word, a name or a value: its bytes
abbrev pub Text : Type 0
Text = List ℕ

-- each option's name, and whether it takes a value; one that takes none is a flag
abbrev pub Table : Type 0
Table = List (Text × Bool)

-- whether the option of this name takes a value, if there is such an option
abbrev pub takes_value : Table → Text → Option Bool
takes_value t name = option_map (λ o. o.1) (find (λ o. bytes_eq o.0 name) t)

-- a word is plain (`-` and the empty one too), closes the options (`--`), names an option as `--name` or `--name=value`,
-- or is another word of two bytes or more that begins with `-`
pub data Form : Type 0 where
  plain : Form
  closing : Form
  long : Text → Option Text → Form
  short : Form

-- what stands behind the first `=` (61), if there is one
abbrev pub value_behind : Text → Option Text
value_behind text =
    if list_any (λ x. x == 61) text then Some (after_first (λ x. x == 61) text) else None

-- a word that begins with `--`, by what stands behind
abbrev pub long_form : Text → Form
long_form [] = closing
long_form (x ∷ xs) = long (before_first (λ y. y == 61) (x ∷ xs)) (value_behind (x ∷ xs))

-- the form of a word; 45 is `-`
abbrev pub form_of : Text → Form
form_of [] = plain
form_of (x ∷ []) = plain
form_of (x ∷ y ∷ rest) =
    if x == 45 then (if y == 45 then long_form rest else short) else plain

-- where the reading stands: options may come, the option's value has to come, or `--` was there
pub data Place : Type 0 where
  free : Place
  wants : Text → Place
  ended : Place

-- an option's name and its values (none of a flag), or the empty name and a plain word
abbrev pub Use : Type 0
Use = Text × List Text

-- an option that is named, with the value behind `=` if there is one: the uses that it makes, and where the reading then stands.
-- An unknown option is refused, and so is a flag with a value
abbrev pub named : Option Bool → Text → Option Text → Option (Place × List Use)
named None name value = None
named (Some true) name None = Some (wants name, [])
named (Some true) name (Some v) = Some (free, (name, v ∷ []) ∷ [])
named (Some false) name None = Some (free, (name, []) ∷ [])
named (Some false) name (Some v) = None

-- a word where options may come
abbrev pub met_free : Table → Text → Form → Option (Place × List Use)
met_free t w plain = Some (free, ([], w ∷ []) ∷ [])
met_free t w closing = Some (ended, [])
met_free t w (long name value) = named (takes_value t name) name value
met_free t w short = None

-- a word where the value of this option has to come: a value that begins with `-` is refused, but for `-` itself
abbrev pub met_wants : Text → Text → Form → Option (Place × List Use)
met_wants name w plain = Some (free, (name, w ∷ []) ∷ [])
met_wants name w closing = None
met_wants name w (long other value) = None
met_wants name w short = None

-- a word, by where the reading stands; behind `--` each word is plain
abbrev pub met : Table → Place → Text → Option (Place × List Use)
met t free w = met_free t w (form_of w)
met t (wants name) w = met_wants name w (form_of w)
met t ended w = Some (ended, ([], w ∷ []) ∷ [])

-- the end of the words: an option's value may not be missing
abbrev pub at_end : Place → Option (List Use)
at_end free = Some []
at_end (wants name) = None
at_end ended = Some []

-- the uses of a word, and then those of the words behind it
abbrev pub then_uses : Option (Place × List Use) → (Place → Option (List Use)) → Option (List Use)
then_uses None rest = None
then_uses (Some m) rest = option_map (λ us. m.1 ++ us) (rest m.0)

-- the uses that the words are, in order; nothing where a word is refused
abbrev pub uses : Table → List Text → Place → Option (List Use)
uses t [] place = at_end place
uses t (w ∷ ws) place = then_uses (met t place w) (uses t ws)

-- the name is used
abbrev pub has_use : Text → List Use → Bool
has_use name us = list_any (λ u. bytes_eq u.0 name) us

-- the text has no byte
abbrev pub is_empty : Text → Bool
is_empty [] = true
is_empty (x ∷ xs) = false

-- the use is a plain word, and no option's
abbrev pub is_plain : Use → Bool
is_plain u = is_empty u.0

-- no option is used twice among these uses, or was seen before
abbrev pub is_fresh : List Use → List Use → Bool
is_fresh seen [] = true
is_fresh seen (u ∷ us) = (is_plain u || not (has_use u.0 seen)) && is_fresh (seen ++ u ∷ []) us

-- the uses, where no option is used twice
abbrev pub once : List Use → Option (List Use)
once us = if is_fresh [] us then Some us else None

-- the uses that the words are, each option at most once; nothing where they are refused
abbrev pub read : Table → List Text → Option (List Use)
read t words = option_and_then once (uses t words free)

-- all values under a name
abbrev pub values_of : Text → List Use → List Text
values_of name [] = []
values_of name (u ∷ us) = if bytes_eq u.0 name then u.1 ++ values_of name us else values_of name us

-- all values under a name that was used
abbrev pub given : Text → List Use → Option (List Text)
given name us = if has_use name us then Some (values_of name us) else None

-- each option has a name
abbrev pub has_names : Table → Bool
has_names t = list_all (λ o. not (is_empty o.0)) t
