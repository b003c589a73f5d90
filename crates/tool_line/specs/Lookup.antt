-- What stands under the name of an option, and how it is read.
use Rattle.std.specs.Prelude.{Bool, List, Option, Some, None, is_some, option_map, option_and_then, slice_get}
use Rattle.tool_line.specs.Words.{Text, Use, given}

-- the values under a name that was used: those of an option, or under the empty name the plain words
abbrev pub Lookup : Type 0
Lookup = Text → Option (List Text)

-- what these uses give
abbrev pub lookup : List Use → Lookup
lookup us = λ name. given name us

-- the option was used
abbrev pub is_used : Lookup → Text → Bool
is_used under name = is_some (under name)

-- the value of the option, if it was used
abbrev pub value_under : Lookup → Text → Option Text
value_under under name = option_and_then (λ values. slice_get values 0) (under name)

-- what the value says, and this where the option wasn't used; nothing where the value can't be read
abbrev pub read_or : {X : Type 0} → (Text → Option X) → X → Option Text → Option X
read_or reads default None = Some default
read_or reads default (Some word) = reads word

-- what the value says, if the option was used; nothing where the value can't be read
abbrev pub read_if : {X : Type 0} → (Text → Option X) → Option Text → Option (Option X)
read_if reads value = read_or (λ word. option_map Some (reads word)) None value
