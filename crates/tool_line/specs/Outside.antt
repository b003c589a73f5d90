-- What the outside of a run tells, before it and behind it.
use Rattle.std.specs.Prelude.{List, Option, option_map, ℕ, ◌++◌, ◌≡◌}
use mathlib.Core.List.{IsPrefix}
use Rattle.net_world.specs.declared.log.WorldCall.{WorldCall}
use Rattle.net_world.specs.declared.put_call.PutCall.{PutCall}
use Rattle.net_world.specs.declared.read_call.ReadCall.{ReadCall}
use Rattle.tool_line.specs.Words.{Text}

-- what a network tells: its calls with their answers, where it tells them, and how often a wait has failed
pub record NetworkTold : Type 0 where
  pub log : Option (List WorldCall)
  pub wait_faults : ℕ

-- what an output tells: all its bytes, how often a put has failed, and its puts with their ends; bytes and puts where it tells them
pub record OutputTold : Type 0 where
  pub bytes : Option Text
  pub faults : ℕ
  pub puts : Option (List PutCall)

-- what files tell: the bytes of the file of each path that has one, how often a read has failed, and the reads with their answers; files and reads where they are told
pub record FilesTold : Type 0 where
  pub files : Option (List ℕ → Option (List ℕ))
  pub faults : ℕ
  pub reads : Option (List ReadCall)

-- what network and output tell
pub record Outside : Type 0 where
  pub network : NetworkTold
  pub output : OutputTold

-- each of these, of what it tells
abbrev pub outside : Option (List WorldCall) → ℕ → Option Text → ℕ → Option (List PutCall) → Outside
outside log wait_faults bytes faults puts = record {
  network = record { log = log; wait_faults = wait_faults };
  output = record { bytes = bytes; faults = faults; puts = puts };
}

abbrev pub files_told : Option (List ℕ → Option (List ℕ)) → ℕ → Option (List ReadCall) → FilesTold
files_told files faults reads = record { files = files; faults = faults; reads = reads }

-- bytes that are told go on with this text
abbrev pub GrowsBy : Option Text → Option Text → Text → Type 0
GrowsBy old new text = new ≡ option_map (λ bytes. bytes ++ text) old

-- bytes that are told go on with a part of this text from its beginning, or with nothing
abbrev pub GrowsByPart : Option Text → Option Text → Text → Type 0
GrowsByPart old new text = (part : Text) × IsPrefix part text × GrowsBy old new part
