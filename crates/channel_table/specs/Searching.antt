-- How far the search of a request has come.
use Rattle.std.specs.Prelude.{Bool, List, None, Option, Some, [], false, true, ℕ, ◌&&◌, ◌+◌, ◌∷◌}
use Rattle.chan_types.specs.declared.answer.Answer.{Answer}
use Rattle.chan_types.specs.declared.spec.Spec.{Spec}
use Rattle.dns_message.specs.declared.name.Name.{Name}
use Rattle.channel_model.specs.Journal.{Past}
use Rattle.channel_model.specs.Search.{candidate_answer, goes_on}
use Rattle.channel_model.specs.Setting.{Setting}

-- a candidate has ended, and makes the next one current
abbrev pub gives_way : Option Answer → Bool
gives_way None = false
gives_way (Some answer) = goes_on answer.status

-- each of these candidates, from candidate c on, has ended and makes the next one current
abbrev pub are_passed : Setting → ℕ → Spec → Past → ℕ → List Name → Bool
are_passed setting request spec past c [] = true
are_passed setting request spec past c (name ∷ names) = gives_way (candidate_answer setting request spec c name past) && are_passed setting request spec past (c + 1) names
