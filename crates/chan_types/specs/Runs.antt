-- The answers that records of calls hold.
use Rattle.std.specs.Prelude.{⊤, ◌≡◌, List, [], ◌∷◌, ◌++◌, map}
use Rattle.std.specs.List.{AllByRecursion}
use Rattle.chan_types.specs.declared.status.Status.TheVariants.{Success}
use Rattle.chan_types.specs.declared.answer.Answer.{Answer}
use Rattle.chan_types.specs.declared.runs.Told.{Told}

-- the answer of a record that isn't filled: number 0, status Success, empty fields and the root
abbrev pub unfilled : Answer
unfilled = record { number = 0; status = Success; message = []; addresses = []; canonical = [] }

-- the first of these answers
abbrev pub only : List Answer → Answer
only [] = unfilled
only (answer ∷ answers) = answer

-- the answers of these nodes, in order
abbrev pub answers_in : List Told → List Answer
answers_in told = map (λ one. one.answer) told

-- the answers of a run, in order: those of its list, and those of the run behind it, which the first node has
abbrev pub answers_of : List Told → List Answer
answers_of [] = []
answers_of (first ∷ told) = first.answer ∷ (answers_in told ++ first.behind)

-- no node but the first has a run behind it
abbrev pub AreBare : List Told → Type 0
AreBare [] = ⊤
AreBare (first ∷ told) = AllByRecursion (λ other. other.behind ≡ []) told
