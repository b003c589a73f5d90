-- The command of `clap` that a table of options is.
use Rattle.std.specs.Prelude.{◌≡◌, ℕ, Bool, true, List, [], ◌∷◌, ◌++◌, map, Option, Some, None, IsNone, IsSomeAnd, IsUtf8, if◌then◌else◌}
use Rattle.clap.specs.Walk.{Rule, all_of, rows_of}
use Rattle.clap.specs.Matches.{found_of}
use Rattle.clap.specs.Simple.{App, Shape, new_rule, new_shape}
use Rattle.clap.specs.declared.builder.action.ArgAction.TheVariants.{Set, Append}
use Rattle.tool_line.specs.Lookup.{lookup}
use Rattle.tool_line.specs.Words.{Text, Table, Use, given}
use Rattle.tool_line.specs.declared.words.Choice.{Choice}
use Rattle.tool_line.specs.declared.words.Words.{Words}

-- an option, as a row of the table
abbrev pub option_of : Choice → Text × Bool
option_of o = (o.name.now, o.takes_value)

-- the table of these options
abbrev pub table_of : List Choice → Table
table_of os = map option_of os

-- how many values a use has
abbrev pub values_taken : Bool → ℕ
values_taken b = if b then 1 else 0

-- clap's rule for an option: it may be used once, with so many values
abbrev pub option_rule : Text × Bool → Rule
option_rule o = record (new_rule o.0) {
  long = Some o.0;
  action = Some Set;
  range = Some (record { start_inclusive = values_taken o.1; end_inclusive = values_taken o.1 });
}

-- clap's rule for plain words: there may be any number of them
abbrev pub word_rule : Rule
word_rule = record (new_rule []) { action = Some Append }

-- the command of these rules: there is no program name, no help and no version
abbrev pub shape_with : List Rule → Shape
shape_with rules = record (new_shape []) {
  rules = rules;
  no_binary_name = true;
  disable_help_flag = true;
  disable_version_flag = true;
}

-- the command of a table
abbrev pub shape : Table → Shape
shape t = shape_with (map option_rule t ++ word_rule ∷ [])

-- the command with these rules, and with those of a table
abbrev pub app_with : List Rule → App
app_with rules = record { top = shape_with rules; subs = [] }

abbrev pub app : Table → App
app t = record { top = shape t; subs = [] }

-- the values under a name
abbrev pub said : Words → Text → Option (List Text)
said w name = all_of name (rows_of (found_of w.matches))

-- the words are refused, or tell what their uses give
abbrev pub Tells : Option (List Use) → Option Words → Type 0
Tells None r = IsNone r
Tells (Some us) r = IsSomeAnd r (λ w. (name : Text) → said w name ≡ given name us)

-- what is said is what these uses give
abbrev pub IsReadAs : Option (List Use) → Words → Type 0
IsReadAs read words = (us : List Use) × (read ≡ Some us) × (said words ≡ lookup us)

-- each word is UTF-8
abbrev pub AreUtf8 : List Text → Type 0
AreUtf8 [] = Unit {0}
AreUtf8 (w ∷ ws) = IsUtf8 w × AreUtf8 ws
