-- What a run printed, by the network's calls alone: a reply that answers a query of this run.
use Rattle.std.specs.List.{AllByRecursion, Contains, list_all}
use Rattle.std.specs.Prelude.{Bool, IsTrue, List, Some, [], if◌then◌else◌, is_none, slice_get, ℕ, ◌++◌, ◌==◌, ◌∷◌, ◌≡◌, ◌≢◌, ◌⊎◌, ⊤}
use Rattle.chan_types.specs.declared.answer.Answer.{Answer}
use Rattle.chan_types.specs.declared.spec.Spec.{Spec}
use Rattle.chan_types.specs.declared.spec.Spec.TheVariants.{Address, Query, Reverse, Search}
use Rattle.chan_types.specs.declared.status.Status.{Status}
use Rattle.chan_types.specs.declared.status.Status.TheVariants.{NoData, Success}
use Rattle.dns_message.specs.Question.{same_question}
use Rattle.dns_message.specs.Spelling.{message_bytes}
use Rattle.dns_message.specs.declared.message.Message.{Message}
use Rattle.dns_message.specs.declared.message.Question.{Question}
use Rattle.dns_message.specs.declared.name.Name.{Name}
use Rattle.edns_opt.specs.Opt.{rcode_of}
use Rattle.net_world.specs.declared.answers.Got.TheVariants.{Datagram}
use Rattle.net_world.specs.declared.answers.Sent.TheVariants.{Sent as WasSent}
use Rattle.net_world.specs.declared.log.WorldCall.{WorldCall}
use Rattle.net_world.specs.declared.log.WorldCall.TheVariants.{Receive, Send}
use Rattle.channel_model.specs.Calls.{connected_by}
use Rattle.channel_model.specs.Legs.{legs_of}
use Rattle.channel_model.specs.Questions.{candidates_of, question_for}
use Rattle.channel_model.specs.Replies.{Reply, read_reply}
use Rattle.channel_model.specs.Search.{goes_on}
use Rattle.channel_model.specs.Setting.{Setting}
use Rattle.channel_model.specs.Verdict.{has_item, status_of_rcode}

-- the status that a reply means to whoever asked: response code 0 with a record that answers, or without one, or another code (RFC 1035, section 4.1.1; RFC 6891, section 6.1.3)
abbrev pub status_meant : Reply → Status
status_meant reply =
    let code = rcode_of reply.message reply.opt in
    if code == 0 then (if has_item reply.message.answers then Success else NoData) else status_of_rcode code

-- the status of a request is the one that its last reply means; a search may say NoData in place of a status with which it goes on, for an earlier name that was answered so; addresses aren't asked for
abbrev pub IsMeantBy : Spec → Reply → Status → Type 0
IsMeantBy (Query name kind class) reply status = status ≡ status_meant reply
IsMeantBy (Search name kind class) reply status = (status ≡ status_meant reply) ⊎ ((status ≡ NoData) × IsTrue (goes_on (status_meant reply)))
IsMeantBy (Address host family nosort) reply status = ⊤
IsMeantBy (Reverse address) reply status = status ≡ status_meant reply

-- the question is one that the request asks under this setting: of one of its candidates, with the kind and class of one of that candidate's legs; the case of letters doesn't count
pub record IsQuestionOf (setting : Setting) (spec : Spec) (question : Question) : Type 0 where
  pub candidate : ℕ
  pub name : Name
  pub is_candidate : slice_get (candidates_of setting spec) candidate ≡ Some name
  pub leg : ℕ
  pub is_leg : Contains (legs_of spec candidate) leg
  pub same : IsTrue (same_question question (question_for spec leg name))

-- among these calls the network took a datagram with these bytes for the server, and behind that one with these others came from it
pub record WasExchanged (server : ℕ) (sent received : List ℕ) (calls : List WorldCall) : Type 0 where
  pub before : List WorldCall
  pub between : List WorldCall
  pub behind : List WorldCall
  pub calls_are : calls ≡ before ++ Send server sent WasSent ∷ (between ++ Receive (Datagram server received) ∷ behind)

-- the answer of a request that asked this under this setting is a reply that came as a datagram
pub record IsAnswered (setting : Setting) (spec : Spec) (calls : List WorldCall) (answer : Answer) : Type 0 where
  pub server : ℕ
  pub query : Message
  pub reply : Reply
  pub asked : Question
  pub answered : Question
  -- This run sent this query to this server, and then received this message from it.
  pub exchanged : WasExchanged server (message_bytes query) answer.message calls
  pub reads : read_reply answer.message ≡ Some reply
  -- The query has one question, which the request asks.
  pub query_asks : query.questions ≡ asked ∷ []
  pub wanted : IsQuestionOf setting spec asked
  -- The message has the query's identifier, and its one question.
  pub same_id : reply.message.id ≡ query.id
  pub reply_asks : reply.message.questions ≡ answered ∷ []
  pub same_asked : IsTrue (same_question answered asked)
  -- The status is the one that the message means.
  pub meant : IsMeantBy spec reply answer.status

-- none of these calls begins a TCP link
abbrev pub opens_no_link : List WorldCall → Bool
opens_no_link calls = list_all (λ call. is_none (connected_by call)) calls

-- where no TCP link was begun, and memory wasn't wanting, each answer that has a message is a reply to a query of this run
abbrev pub AreAnswered : Setting → Spec → ℕ → List Answer → List WorldCall → Type 0
AreAnswered setting spec status answers calls =
    status ≢ 5 → IsTrue (opens_no_link calls) → AllByRecursion (λ answer. answer.message ≢ [] → IsAnswered setting spec calls answer) answers
