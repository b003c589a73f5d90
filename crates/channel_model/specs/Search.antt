-- How a request goes through its candidates.
use Rattle.std.specs.Prelude.{ℕ, Bool, ◌||◌, List, Option, None, [], Some, ◌∷◌, if◌then◌else◌, false, ◌&&◌, option_map, option_and_then, ◌+◌}
use Rattle.chan_types.specs.declared.answer.Answer.{Answer}
use Rattle.chan_types.specs.declared.spec.Spec.{Spec}
use Rattle.chan_types.specs.declared.spec.Spec.TheVariants.{Query, Search, Address, Reverse}
use Rattle.chan_types.specs.declared.status.Status.{Status}
use Rattle.chan_types.specs.declared.status.Status.TheVariants.{NoData, ServFail, NotFound}
use Rattle.dns_message.specs.declared.name.Name.{Name}
use Rattle.net_addr.specs.declared.addr.Family.{Family}
use Rattle.channel_model.specs.Journal.{Past, spec_of}
use Rattle.channel_model.specs.LegEnd.{LegEnd, leg_end}
use Rattle.channel_model.specs.Legs.{leg_of, second_leg, first_leg}
use Rattle.channel_model.specs.Merge.{same_status, bare, merged, merged_one, addresses_v4, addresses_v6}
use Rattle.channel_model.specs.Questions.{candidates_of}
use Rattle.channel_model.specs.Setting.{Setting}

-- where a search stands: it asks the candidate of this index, or it is over with an answer
pub data Stand : Type 0 where
  asking : ℕ → Stand
  over : Answer → Stand

-- a candidate that ended with this status makes the next one current
abbrev pub goes_on : Status → Bool
goes_on status = same_status status NoData || same_status status ServFail || same_status status NotFound

-- where a search stands at candidate c with this answer of it, where these names come behind it, and so is where it stands at the next one
abbrev pub behind_candidate : ℕ → List Name → Option Answer → Stand → Stand
behind_candidate c names None later = asking c
behind_candidate c [] (Some answer) later = over answer
behind_candidate c (next ∷ rest) (Some answer) later = if goes_on answer.status then later else over answer

-- a candidate ended without data
abbrev pub is_empty : Option Answer → Bool
is_empty None = false
is_empty (Some answer) = same_status answer.status NoData

-- the answer with which a search is over: the last candidate's, but with NoData in the place of a status that would have gone on, where a candidate ended without data
abbrev pub last_answer : Bool → Answer → Answer
last_answer empty answer = if goes_on answer.status && empty then record answer { status = NoData } else answer

-- the answer at which a search stands
abbrev pub answer_at : Stand → Option Answer
answer_at (asking c) = None
answer_at (over answer) = Some answer

module _ (setting : Setting) where
  -- how a leg of a request has ended
  abbrev pub end_at : ℕ → ℕ → Past → Option LegEnd
  end_at request number past = leg_end setting (leg_of request number) past

  -- the answer of a candidate with one leg and whatever records, where the leg has ended: the reply that ended it
  abbrev pub leg_answer : ℕ → ℕ → Past → Option Answer
  leg_answer request number past = option_map (λ end. bare request end.status end.reply) (end_at request number past)

  -- the answer of an Address candidate, where its legs have ended
  abbrev pub address_answer : ℕ → Family → Bool → ℕ → Name → Past → Option Answer
  address_answer request Family.Any nosort c name past =
      option_and_then (λ left. option_map (merged setting request nosort name left) (end_at request (second_leg c) past)) (end_at request (first_leg c) past)
  address_answer request Family.V4 nosort c name past = option_map (merged_one setting request nosort name addresses_v4) (end_at request (first_leg c) past)
  address_answer request Family.V6 nosort c name past = option_map (merged_one setting request nosort name addresses_v6) (end_at request (second_leg c) past)

  -- the answer with which a candidate has ended, if all its legs have ended
  abbrev pub candidate_answer : ℕ → Spec → ℕ → Name → Past → Option Answer
  candidate_answer request (Query text kind class) c name past = leg_answer request (first_leg c) past
  candidate_answer request (Search text kind class) c name past = leg_answer request (first_leg c) past
  candidate_answer request (Address host family nosort) c name past = address_answer request family nosort c name past
  candidate_answer request (Reverse address) c name past = leg_answer request (first_leg c) past

  -- where a search stands that has come to candidate c, with these names left
  abbrev pub stand_at : ℕ → Spec → Past → ℕ → List Name → Stand
  stand_at request spec past c [] = asking c
  stand_at request spec past c (name ∷ names) =
      behind_candidate c names (candidate_answer request spec c name past) (stand_at request spec past (c + 1) names)

  -- one of the candidates from c on ended without data
  abbrev pub any_empty : ℕ → Spec → Past → ℕ → List Name → Bool
  any_empty request spec past c [] = false
  any_empty request spec past c (name ∷ names) = is_empty (candidate_answer request spec c name past) || any_empty request spec past (c + 1) names

  -- where the search of a request stands that asks this
  abbrev pub stand_of : ℕ → Spec → Past → Stand
  stand_of request spec past = stand_at request spec past 0 (candidates_of setting spec)

  -- the answer with which the search of a request is over that asks this
  abbrev pub answer_of_search : ℕ → Past → Spec → Option Answer
  answer_of_search request past spec =
      option_map (last_answer (any_empty request spec past 0 (candidates_of setting spec))) (answer_at (stand_of request spec past))

  -- the answer with which the search of a request is over
  abbrev pub search_answer : ℕ → Past → Option Answer
  search_answer request past = option_and_then (answer_of_search request past) (spec_of request past)
