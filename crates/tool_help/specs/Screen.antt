-- The screen of a tool: how it is used, and a line for each option by which its words are read. Its form is this project's own.
use Rattle.std.specs.Prelude.{◌≡◌, ◌++◌, ◌-◌, ◌∷◌, [], Bool, List, codes, is_some, length, map, replicate, ℕ}
use Rattle.std.specs.List.{flat_map}
use Rattle.std.specs.Option.{option_map_or}
use Rattle.tool_help.specs.declared.row.OptionRow.{OptionRow}
use Rattle.tool_line.specs.Adig.{adig_options}
use Rattle.tool_line.specs.Ahost.{ahost_options}
use Rattle.tool_line.specs.Words.{Table, Text}
use Rattle.tool_line.specs.declared.ending.Tool.{Tool}
use Rattle.tool_line.specs.declared.ending.Tool.TheVariants.{Adig, Ahost}

-- the table by which the tool's words are read
abbrev pub options_of : Tool → Table
options_of Adig = adig_options
options_of Ahost = ahost_options

-- an option's name, and whether it takes a value
abbrev pub column_of : OptionRow → Text × Bool
column_of row = (row.name.now, is_some row.value)

-- how the tool is used
abbrev pub usage_of : Tool → Text
usage_of Adig = codes "usage: adig [option ...] name" ++ 10 ∷ []
usage_of Ahost = codes "usage: ahost [option ...] name ..." ++ 10 ∷ []

-- an option with what stands for its value, and a blank
abbrev pub shown_of : OptionRow → Text
shown_of row = codes "  --" ++ row.name.now ++ option_map_or (λ value. codes " " ++ value.now) row.value [] ++ codes " "

-- the line of an option: what it does stands behind 26 bytes at least
abbrev pub line_of : OptionRow → Text
line_of row = shown_of row ++ replicate (26 - length (shown_of row)) 32 ++ row.text.now ++ 10 ∷ []

-- to a text were added how the tool is used and the lines of rows, one for each option of its table and no other
abbrev pub PutsScreen : Tool → Text → Text → Type 0
PutsScreen tool old new =
    (rows : List OptionRow) × (map column_of rows ≡ options_of tool) × (new ≡ old ++ usage_of tool ++ flat_map line_of rows)
