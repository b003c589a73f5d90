-- The text that a run puts.
use Rattle.std.specs.Prelude.{None, Option, Some, [], codes, ◌++◌, ◌∷◌}
use Rattle.tool_line.specs.Words.{Text}
use Rattle.tool_line.specs.declared.ending.Exit.{Exit}
use Rattle.tool_line.specs.declared.ending.Exit.TheVariants.{Failure, FileFault, OutOfMemory, SinkFault, Stalled, Success, Usage, WaitFault}

-- a line that the tool puts in place of a page
abbrev pub told : Text → Text
told what = codes "acache: " ++ what ++ 10 ∷ []

-- the line of this end, where one is put
abbrev pub line_at : Exit → Option Text
line_at Success = None
line_at Failure = None
line_at Usage = Some (told (codes "usage"))
line_at FileFault = None
line_at SinkFault = None
line_at OutOfMemory = None
line_at WaitFault = Some (told (codes "wait fault"))
line_at Stalled = Some (told (codes "stalled"))

-- the text of a run that comes to this end: its page, or the line in place of one; none for want of memory
abbrev pub text_at : Text → Exit → Option Text
text_at page Success = Some page
text_at page Failure = Some page
text_at page Usage = line_at Usage
text_at page FileFault = None
text_at page SinkFault = None
text_at page OutOfMemory = None
text_at page WaitFault = line_at WaitFault
text_at page Stalled = line_at Stalled
