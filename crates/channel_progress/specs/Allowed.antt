-- How many attempts the requests of a journal may spend at most.
use Rattle.std.specs.List.{count_by}
use Rattle.std.specs.Prelude.{List, [], ℕ, if◌then◌else◌, is_some, length, max, sum_by, ◌*◌, ◌+◌, ◌∷◌}
use Rattle.chan_types.specs.declared.journal.Entry.{Entry}
use Rattle.chan_types.specs.declared.spec.Spec.{Spec}
use Rattle.channel_model.specs.AtOnce.{at_once}
use Rattle.channel_model.specs.Journal.{Accepted, Past, accepted, past_of}
use Rattle.channel_model.specs.Legs.{legs_of}
use Rattle.channel_model.specs.Questions.{candidates_of}
use Rattle.channel_model.specs.Servers.{in_use, servers_set_by}
use Rattle.channel_model.specs.Setting.{Setting}

-- how often servers were set
abbrev pub times_set : Past → ℕ
times_set past = count_by (λ what. is_some (servers_set_by what)) past

module _ (setting : Setting) where
  -- the greatest number of servers that were in use at once: of those of the opening list, or of a later one
  abbrev pub in_use_most : Past → ℕ
  in_use_most [] = in_use setting []
  in_use_most (what ∷ past) = max (in_use_most past) (in_use setting (what ∷ past))

  -- the attempts that a leg may spend in a journal of this past: so many tries of each of the most servers in use, and one for each time that servers were set
  abbrev pub attempts_of_leg : Past → ℕ
  attempts_of_leg past = in_use_most past * setting.options.tries + times_set past

  -- those that a request may spend there: as many for each leg of each candidate
  abbrev pub attempts_for : Past → Spec → ℕ
  attempts_for past spec = length (candidates_of setting spec) * length (legs_of spec 0) * attempts_of_leg past

  -- those that an accepted request may spend there: none, where it completes at once
  abbrev pub attempts_of_request : Past → Accepted → ℕ
  attempts_of_request past request = if is_some (at_once setting request.number request.spec) then 0 else attempts_for past request.spec

  -- the attempts that the requests of a journal may spend
  abbrev pub attempts_allowed : List Entry → ℕ
  attempts_allowed journal = sum_by (attempts_of_request (past_of journal)) (accepted (past_of journal))
