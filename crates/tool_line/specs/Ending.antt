-- How a tool ends. The numbers and the texts are this project's profile.
use Rattle.std.specs.Prelude.{ℕ, [], ◌∷◌, ◌++◌, codes, Option, Some, None}
use Rattle.tool_line.specs.Words.{Text}
use Rattle.tool_line.specs.declared.ending.Exit.{Exit}
use Rattle.tool_line.specs.declared.ending.Exit.TheVariants.{Success, Failure, Usage, FileFault, SinkFault, OutOfMemory, WaitFault, Stalled}
use Rattle.tool_line.specs.declared.ending.Tool.{Tool}
use Rattle.tool_line.specs.declared.ending.Tool.TheVariants.{Adig, Ahost}

-- the exit status, as a number
abbrev pub number_of : Exit → ℕ
number_of Success = 0
number_of Failure = 1
number_of Usage = 2
number_of FileFault = 3
number_of SinkFault = 4
number_of OutOfMemory = 5
number_of WaitFault = 6
number_of Stalled = 7

-- the tool's name
abbrev pub name_of : Tool → Text
name_of Adig = codes "adig"
name_of Ahost = codes "ahost"

-- a line that the tool puts in place of a page
abbrev pub told : Tool → Text → Text
told tool what = name_of tool ++ codes ": " ++ what ++ 10 ∷ []

-- the text that is put in place of a page, where one is
abbrev pub text_of : Tool → Exit → Option Text
text_of tool Success = None
text_of tool Failure = None
text_of tool Usage = Some (told tool (codes "usage"))
text_of tool FileFault = Some (told tool (codes "file fault"))
text_of tool SinkFault = None
text_of tool OutOfMemory = None
text_of tool WaitFault = Some (told tool (codes "wait fault"))
text_of tool Stalled = Some (told tool (codes "stalled"))
