-- How a run of areplay ends. The numbers are this project's profile.
use Rattle.std.specs.Prelude.{ℕ}
use Rattle.areplay_tool.specs.declared.ending.End.{End}
use Rattle.areplay_tool.specs.declared.ending.End.TheVariants.{BadBook, FileFault, Lawful, OutOfMemory, SinkFault, Unlawful, Usage}

-- the exit status, as a number
abbrev pub number_of : End → ℕ
number_of Lawful = 0
number_of Unlawful = 1
number_of Usage = 2
number_of FileFault = 3
number_of SinkFault = 4
number_of OutOfMemory = 5
number_of BadBook = 8
