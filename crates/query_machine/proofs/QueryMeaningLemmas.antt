-- What the calls on one message say by a journal: the query of an attempt, whether bytes answer it, and what they mean.
use Rattle.std.proofs.Common.{◌≡◌, ℕ, Bool, List, Option, Some, None, refl}
use Rattle.std.specs.Prelude.{if◌then◌else◌, is_some, not, ◌==◌}
use Rattle.chan_types.specs.declared.journal.What.TheVariants.{Arrive}
use Rattle.channel_model.specs.Flight.{Attempt, answer_to, asked_question, asked_with, reply_to}
use Rattle.channel_model.specs.Journal.{Past, spec_of}
use Rattle.channel_model.specs.Legs.{Leg}
use Rattle.channel_model.specs.Past.{Closing, closings, has_opt, leg_query, outcome_of, query_for}
use Rattle.channel_model.specs.Questions.{question_of, wanted_kind}
use Rattle.channel_model.specs.Replies.{Reply}
use Rattle.channel_model.specs.Setting.{Setting}
use Rattle.channel_model.specs.Verdict.{verdict_of}
use Rattle.dns_message.specs.declared.message.Question.{Question}

module _ (setting : Setting) (past : Past) where
  -- the query with which an attempt begins is that of its question, with an OPT record where the leg has one
  pub query_means : (leg : Leg) (id : ℕ) (mix : Option ℕ) (question : Question) (edns : Bool) → question_of setting leg past ≡ Some question → has_opt setting (closings setting leg past) ≡ edns
      → leg_query setting leg id mix past ≡ Some (query_for id (asked_with mix question) setting.options.flags.norecurse (if edns then Some setting.options.edns_size else None))
  query_means leg id mix question edns asks opt = rw (asks, opt) refl

  -- what answers the query of an attempt's question is a reply to the attempt
  pub reply_means : (a : Attempt) (bytes : List ℕ) (asked : Question) → asked_question setting a past ≡ Some asked → answer_to a.id (is_some a.mix) (Some asked) bytes ≡ reply_to setting a bytes past
  reply_means a bytes asked asks = rw asks refl

  -- and its verdict is what the entry means that brings it
  pub verdict_means : (a : Attempt) (server link : ℕ) (bytes : List ℕ) (earlier : List Closing) (reply : Reply) (tcp edns : Bool) (wanted : Option ℕ)
      → reply_to setting a bytes past ≡ Some reply → not (a.link == 0) ≡ tcp → has_opt setting earlier ≡ edns → wanted_kind (spec_of a.leg.request past) a.leg.number ≡ wanted
      → outcome_of setting a (Arrive server link bytes) past earlier ≡ Some (verdict_of setting.options.flags tcp edns wanted reply)
  verdict_means a server link bytes earlier reply tcp edns wanted replies over opt wants = rw (replies, over, opt, wants) refl
