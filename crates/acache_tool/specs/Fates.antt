-- Whose answer a name has: that of its own request, or, where the cache gave it, that of an earlier request for the same question.
use Rattle.std.specs.Prelude.{Bool, List, Some, [], false, length, true, ⊤, ◌++◌, ◌+◌, ◌∷◌, ◌≡◌}
use Rattle.chan_types.specs.declared.answer.Answer.{Answer}
use Rattle.chan_types.specs.declared.journal.Entry.{Entry}
use Rattle.dns_message.specs.Question.{same_question}
use Rattle.dns_message.specs.declared.message.Question.{Question}
use Rattle.channel_model.specs.Completion.{fate}
use Rattle.channel_model.specs.Journal.{Accepted, past_of}
use Rattle.channel_model.specs.Setting.{Setting}
use Rattle.tool_line.specs.Words.{Text}
use Rattle.acache_tool.specs.Parts.{Part, question_of, request_for, requests_of}

-- the answer is the fate of a request that was accepted for one of these names, whose question is this one, ignoring ASCII case
pub record IsRecalled (setting : Setting) (journal : List Entry) (earlier : List Part) (question : Question) (answer : Answer) : Type 0 where
  pub before : List Accepted
  pub name : Text
  pub behind : List Accepted
  pub accepted_are : requests_of earlier ≡ before ++ request_for (length before + 1) name ∷ behind
  pub asked : Question
  pub is_name : question_of name ≡ Some asked
  pub same : same_question question asked ≡ true
  pub its_fate : fate setting (length before + 1) (past_of journal) ≡ Some answer

-- a hit has the fate of an earlier name's request for the same question, and a name that was sent that of its own
abbrev pub HasFate : Bool → Setting → List Entry → List Part → Part → Type 0
HasFate true setting journal earlier part = (question : Question) × (question_of part.name ≡ Some question) × IsRecalled setting journal earlier question part.answer
HasFate false setting journal earlier part = fate setting (length (requests_of earlier) + 1) (past_of journal) ≡ Some part.answer

-- so has each of these names
abbrev pub HaveFates : Setting → List Entry → List Part → Type 0
HaveFates setting journal [] = ⊤
HaveFates setting journal (part ∷ earlier) = HasFate part.is_hit setting journal earlier part × HaveFates setting journal earlier
