-- What a read of a file answered, and faults of a file that are no want of memory.
use Rattle.std.proofs.Common.{◌≡◌, ◌≢◌, sym, ◌∙◌}
use Rattle.std.specs.Prelude.{Ok, Result}
use Rattle.item_list.specs.declared.no_memory.NoMemory.{NoMemory}
use Rattle.net_world.specs.declared.answers.FileRead.{FileRead}
use Rattle.tool_line.specs.declared.files.FileFault.{FileFault as FaultOfFile}
use Rattle.tool_line.specs.declared.files.FileFault.TheVariants.{Failed, NoMemory as NoMemoryLeft, TooLarge}

-- what a read answered that didn't want memory
abbrev pub ok_of : FileRead → Result FileRead NoMemory
ok_of file = Ok file

-- such a fault is no want of memory
pub failed_apart : (fault : FaultOfFile) → fault ≡ Failed → fault ≢ NoMemoryLeft
failed_apart fault is none = absurd (let h : Failed ≡ NoMemoryLeft = sym is ∙ none in cc)

pub large_apart : (fault : FaultOfFile) → fault ≡ TooLarge → fault ≢ NoMemoryLeft
large_apart fault is none = absurd (let h : TooLarge ≡ NoMemoryLeft = sym is ∙ none in cc)
