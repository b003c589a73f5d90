-- What a run puts, once, and the exit status that comes of it.
use Rattle.std.specs.Prelude.{List, None, Option, Some, [], option_map, ℕ, ◌++◌, ◌∷◌, ◌≡◌, ◌⊎◌, ◌≤◌}
use Rattle.net_world.specs.Cause.{Rose}
use Rattle.net_world.specs.declared.answers.PutEnd.{PutEnd}
use Rattle.net_world.specs.declared.answers.PutEnd.TheVariants.{Done, Failed as NotPut}
use Rattle.net_world.specs.declared.put_call.PutCall.{PutCall}
use Rattle.tool_line.specs.Ending.{number_of}
use Rattle.tool_line.specs.Outside.{GrowsBy, GrowsByPart, OutputTold}
use Rattle.tool_line.specs.Words.{Text}
use Rattle.tool_line.specs.declared.ending.Exit.{Exit}

-- puts that are told go on with exactly one: of this text, which came to this end
abbrev pub PutsOnce : Text → PutEnd → Option (List PutCall) → Option (List PutCall) → Type 0
PutsOnce text end old new = new ≡ option_map (λ calls. calls ++ record { text = text; end = end } ∷ []) old

-- nothing was put, not even an empty text
abbrev pub PutsNothing : OutputTold → OutputTold → Type 0
PutsNothing before after = (after.bytes ≡ before.bytes) × (after.puts ≡ before.puts)

-- a run that came to this end put this text, in one put, and the exit status is that of the end; or that one put failed in this run behind a part of the text, and it is 4; or memory was wanting, nothing was put, and it is 5
abbrev pub PutsText : Option Text → Exit → ℕ → OutputTold → OutputTold → Type 0
PutsText None end status before after = (status ≡ 5) × PutsNothing before after
PutsText (Some text) end status before after =
    ((status ≡ number_of end) × GrowsBy before.bytes after.bytes text × PutsOnce text Done before.puts after.puts)
    ⊎ ((status ≡ 4) × Rose before.faults after.faults × GrowsByPart before.bytes after.bytes text × PutsOnce text NotPut before.puts after.puts)
    ⊎ ((status ≡ 5) × PutsNothing before after)

-- the same, and the count of the output's failures didn't fall
pub record IsPut (text : Option Text) (end : Exit) (status : ℕ) (before after : OutputTold) : Type 0 where
  pub told : PutsText text end status before after
  pub counted : before.faults ≤ after.faults
