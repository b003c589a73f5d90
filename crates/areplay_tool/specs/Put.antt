-- What a run puts, once, and the exit status that comes of it.
use Rattle.std.specs.Prelude.{ℕ, ◌≡◌, ◌⊎◌}
use Rattle.net_world.specs.Cause.{Rose}
use Rattle.net_world.specs.declared.answers.PutEnd.TheVariants.{Done, Failed as NotPut}
use Rattle.tool_line.specs.Outside.{GrowsBy, GrowsByPart, OutputTold}
use Rattle.tool_line.specs.Put.{PutsNothing, PutsOnce}
use Rattle.tool_line.specs.Words.{Text}

-- memory was wanting, and nothing was put
abbrev pub WantsMemory : ℕ → OutputTold → OutputTold → Type 0
WantsMemory status before after = (status ≡ 5) × PutsNothing before after

-- this text was put, in one put, and the exit status is this; or that one put failed in this run behind a part of the text, and it is 4; or memory was wanting
abbrev pub IsPut : Text → ℕ → ℕ → OutputTold → OutputTold → Type 0
IsPut text wanted status before after =
    ((status ≡ wanted) × GrowsBy before.bytes after.bytes text × PutsOnce text Done before.puts after.puts)
    ⊎ ((status ≡ 4) × Rose before.faults after.faults × GrowsByPart before.bytes after.bytes text × PutsOnce text NotPut before.puts after.puts)
    ⊎ WantsMemory status before after
