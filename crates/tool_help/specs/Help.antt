-- What stands on standard error, by the exit status. The texts are this project's own.
use Rattle.std.specs.Prelude.{◌≡◌, ◌==◌, ◌++◌, ◌∷◌, [], IsSomeAnd, List, MatchBool, Option, codes, drop, if◌then◌else◌, is_some, ℕ}
use Rattle.std.specs.Str.{bytes_eq}
use Rattle.tool_help.specs.Advice.{has_advice}
use Rattle.tool_help.specs.Screen.{PutsScreen}
use Rattle.tool_help.specs.Taken.{Stands}
use Rattle.tool_line.specs.Ending.{told}
use Rattle.tool_line.specs.Words.{Text}
use Rattle.tool_line.specs.declared.ending.Tool.{Tool}
use Rattle.tool_line.specs.declared.ending.Tool.TheVariants.{Adig, Ahost}

-- what is said where all words stand and are refused nevertheless
abbrev pub missing_of : Tool → Text
missing_of Adig = codes "a name is missing"
missing_of Ahost = codes "a name is missing, or there are more than 4,096"

-- the line about a word that isn't understood; `--help` asks for help
abbrev pub line_of_word : Tool → Text → Text
line_of_word tool word = if bytes_eq word (codes "--help") then [] else told tool (codes "not understood from here on: " ++ word)

-- the line about words that aren't understood: the first of them, if there is one
abbrev pub line_for : Tool → List Text → Text
line_for tool [] = told tool (missing_of tool)
line_for tool (word ∷ words) = line_of_word tool word

-- the line about a command line of which only so many words stand; one without words asks for help, too
abbrev pub line_about : Tool → List Text → ℕ → Text
line_about tool [] count = []
line_about tool (word ∷ words) count = line_for tool (drop count (word ∷ words))

-- from which word on they aren't understood, and then the screen
pub record HelpsRefused (tool : Tool) (words : List Text) (text : Text) : Type 0 where
  pub count : ℕ
  pub stands : Stands tool words count
  pub says : PutsScreen tool (line_about tool words count) text

-- with exit status 2 that; with some others a sentence of what to do, and with the rest nothing
abbrev pub HasHelp : Tool → List Text → ℕ → Option Text → Type 0
HasHelp tool words status help = MatchBool (status == 2) (IsSomeAnd help (HelpsRefused tool words)) (is_some help ≡ has_advice status)
