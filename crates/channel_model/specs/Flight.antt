-- Which attempts are in flight.
use Rattle.std.specs.Bool.{then_some}
use Rattle.std.specs.Cmp.Lexicographic.{pointwise}
use Rattle.std.specs.Str.{bytes_eq}
use Rattle.dns_message.specs.declared.name.Name.{Name}
use Rattle.std.specs.List.{list_any}
use Rattle.std.specs.Prelude.{ℕ, Option, None, Some, Bool, ◌==◌, ◌&&◌, List, false, [], ◌∷◌, if◌then◌else◌, option_and_then, true, is_some, filter_map, option_map, not}
use Rattle.chan_types.specs.declared.journal.What.{What}
use Rattle.chan_types.specs.declared.journal.What.TheVariants.{Accept, Cancel, Destroy, Take, Start, Arrive, Expire, Fault, Servers}
use Rattle.dns_message.specs.Mixing.{mixed_question}
use Rattle.dns_message.specs.Name.{same_name}
use Rattle.dns_message.specs.declared.message.Message.{Message}
use Rattle.dns_message.specs.declared.message.Question.{Question}
use Rattle.channel_model.specs.Journal.{Past}
use Rattle.channel_model.specs.Legs.{Leg, leg_of, is_leg}
use Rattle.dns_message.specs.Numbers.{is_response, is_standard}
use Rattle.channel_model.specs.Questions.{question_of}
use Rattle.channel_model.specs.Replies.{Reply, read_reply}
use Rattle.channel_model.specs.Servers.{has_key}
use Rattle.channel_model.specs.Setting.{Setting}

-- one sending of a leg's question: where it went, its identifier, the bits that its letters' case was drawn with, if it was, and when
pub record Attempt : Type 0 where
  pub leg : Leg
  pub server : ℕ
  pub link : ℕ
  pub id : ℕ
  pub mix : Option ℕ
  pub moment : ℕ

-- the attempt that an entry begins
abbrev pub begun_by : What → Option Attempt
begun_by (Accept number spec script) = None
begun_by Cancel = None
begun_by Destroy = None
begun_by (Take number) = None
begun_by (Start number leg server link id mix moment) = Some (record { leg = leg_of number leg; server = server; link = link; id = id; mix = mix; moment = moment })
begun_by (Arrive server link bytes) = None
begun_by (Expire number leg moment) = None
begun_by (Fault server link moment) = None
begun_by (Servers list) = None

-- the attempt is of this leg
abbrev pub is_of_leg : Leg → Attempt → Bool
is_of_leg leg a = is_leg leg a.leg.request a.leg.number

-- the attempt went to this server over this link
abbrev pub went_over : Attempt → ℕ → ℕ → Bool
went_over a server link = (a.server == server) && (a.link == link)

-- the two names are equal byte for byte
abbrev pub equal_name : Name → Name → Bool
equal_name name other = pointwise bytes_eq name other

-- the question as it is asked: its letters in the case of these bits, where there are some
abbrev pub asked_with : Option ℕ → Question → Question
asked_with None question = question
asked_with (Some bits) question = mixed_question bits question

-- a question is the one that was asked: kind and class agree, and the names byte for byte where the case of letters was drawn, else ignoring ASCII case
abbrev pub repeats : Bool → Question → Question → Bool
repeats exact question asked =
    (if exact then equal_name question.name asked.name else same_name question.name asked.name)
    && (question.kind == asked.kind) && (question.class == asked.class)

-- the list has this question alone
abbrev pub asks_only : Bool → Option Question → List Question → Bool
asks_only exact None questions = false
asks_only exact (Some asked) [] = false
asks_only exact (Some asked) (question ∷ []) = repeats exact question asked
asks_only exact (Some asked) (question ∷ another ∷ rest) = false

-- the message is the response to a standard query with this identifier and this question alone
abbrev pub answers : ℕ → Bool → Option Question → Message → Bool
answers id exact asked message = (message.id == id) && is_response message && is_standard message && asks_only exact asked message.questions

-- the leg's attempt, where an entry begins this one, and it had that one else
abbrev pub begun_or : Leg → Option Attempt → Option Attempt → Option Attempt
begun_or leg None before = before
begun_or leg (Some a) before = if is_of_leg leg a then Some a else before

-- the leg stands in the list
abbrev pub has_leg : Leg → List Leg → Bool
has_leg leg legs = list_any (λ other. is_leg leg other.request other.number) legs

-- the legs with that of an attempt, which stands in the list once
abbrev pub with_leg : Option Attempt → List Leg → List Leg
with_leg None legs = legs
with_leg (Some a) legs = if has_leg a.leg legs then legs else a.leg ∷ legs

-- the legs that have a Start, each once
abbrev pub started : Past → List Leg
started [] = []
started (what ∷ past) = with_leg (begun_by what) (started past)

-- what the bytes say, where they answer a query of this identifier for this question
abbrev pub answer_to : ℕ → Bool → Option Question → List ℕ → Option Reply
answer_to id exact asked bytes = option_and_then (λ reply. then_some (answers id exact asked reply.message) reply) (read_reply bytes)

module _ (setting : Setting) where
  -- the question that an attempt asks
  abbrev pub asked_question : Attempt → Past → Option Question
  asked_question a past = option_map (asked_with a.mix) (question_of setting a.leg past)

  -- what the bytes say, where they answer the attempt
  abbrev pub reply_to : Attempt → List ℕ → Past → Option Reply
  reply_to a bytes past = answer_to a.id (is_some a.mix) (asked_question a past) bytes

  -- the entry closes the attempt, if it is in flight
  abbrev pub closes : Attempt → What → Past → Bool
  closes a (Accept number spec script) past = false
  closes a Cancel past = true
  closes a Destroy past = true
  closes a (Take number) past = false
  closes a (Start number leg server link id mix moment) past = false
  closes a (Arrive server link bytes) past = went_over a server link && is_some (reply_to a bytes past)
  closes a (Expire number leg moment) past = is_leg a.leg number leg
  closes a (Fault server link moment) past = went_over a server link
  closes a (Servers list) past = not (has_key a.server list)

  -- what an entry leaves of an attempt in flight
  abbrev pub unless_closed : What → Past → Option Attempt → Option Attempt
  unless_closed what past None = None
  unless_closed what past (Some a) = if closes a what past then None else Some a

  -- the attempt by which a leg is in flight: its last Start, if nothing since has closed it
  abbrev pub flight : Leg → Past → Option Attempt
  flight leg [] = None
  flight leg (what ∷ past) = begun_or leg (begun_by what) (unless_closed what past (flight leg past))

  -- the attempts in flight
  abbrev pub in_flight : Past → List Attempt
  in_flight past = filter_map (λ leg. flight leg past) (started past)
