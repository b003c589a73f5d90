-- What the network's calls tell of the names, where it tells them: each name's begin with the reading of the clock for it.
use Rattle.std.specs.Prelude.{Bool, List, [], false, map, true, ℕ, ⊤, ◌++◌, ◌∷◌, ◌≡◌}
use Rattle.chan_types.specs.declared.journal.Entry.{Entry}
use Rattle.net_world.specs.declared.log.WorldCall.{WorldCall}
use Rattle.net_world.specs.declared.log.WorldCall.TheVariants.{Now}
use Rattle.resolv_options.specs.Lasts.{last_or}
use Rattle.channel_model.specs.Course.{IsCourse, serves_from}
use Rattle.channel_model.specs.Setting.{Setting}
use Rattle.owner_laws.specs.Sessions.{longest_slice}
use Rattle.acache_tool.specs.Parts.{Open, Part, journal_of}

-- the moment is the reading of the last turn of the run so far, and 0 where none was made
pub record IsLastReading (setting : Setting) (journal : List Entry) (calls : List WorldCall) (moment : ℕ) : Type 0 where
  pub turns : ℕ
  pub asides : ℕ
  pub course : IsCourse setting 0 longest_slice journal calls turns asides
  pub reading : last_or 0 (map (λ round. round.reading) course.rounds) ≡ moment

-- an answer that was asked for was kept, if it was, at the last turn's reading
abbrev pub IsKeptAt : Bool → Setting → List Entry → List WorldCall → ℕ → Type 0
IsKeptAt true setting journal calls moment = ⊤
IsKeptAt false setting journal calls moment = IsLastReading setting journal calls moment

-- the calls for a name begin with the reading of the clock for it: so that stands before its Accept, or before the look that gave its answer
pub record IsTold (setting : Setting) (part : Part) (journal : List Entry) (calls mine : List WorldCall) : Type 0 where
  pub behind : List WorldCall
  pub begins : mine ≡ Now part.at ∷ behind
  pub kept : IsKeptAt part.is_hit setting journal calls part.kept_at

-- all calls: those before the first name, and then those for each name, in order; the latest name's stand first here
abbrev pub calls_with : List WorldCall → List (List WorldCall) → List WorldCall
calls_with servers [] = servers
calls_with servers (mine ∷ earlier) = calls_with servers earlier ++ mine

-- these are the calls for each of these names
abbrev pub AreToldBy : Setting → List Part → List (List WorldCall) → Type 0
AreToldBy setting [] [] = ⊤
AreToldBy setting [] (mine ∷ pieces) = ⊥
AreToldBy setting (part ∷ parts) [] = ⊥
AreToldBy setting (part ∷ parts) (mine ∷ pieces) =
    IsTold setting part (journal_of (part ∷ parts)) (calls_with (serves_from 0 setting.options.servers) (mine ∷ pieces)) mine × AreToldBy setting parts pieces

-- the servers were told, and then these calls were made, for one name behind the other
pub record AreTold (setting : Setting) (parts : List Part) (calls : List WorldCall) : Type 0 where
  pub pieces : List (List WorldCall)
  pub calls_are : calls ≡ calls_with (serves_from 0 setting.options.servers) pieces
  pub told : AreToldBy setting parts pieces

-- and then, for a name that was asked for and hasn't its answer, its calls, which begin with the reading of the clock for it
pub record AreToldThen (setting : Setting) (parts : List Part) (last : Open) (calls : List WorldCall) : Type 0 where
  pub front : List WorldCall
  pub behind : List WorldCall
  pub calls_are : calls ≡ front ++ Now last.at ∷ behind
  pub told : AreTold setting parts front
