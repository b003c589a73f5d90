-- A leg's past: how its attempts came to their ends, and what that means for the next one.
use Rattle.std.specs.Bool.{then_some}
use Rattle.std.specs.List.{list_any}
use Rattle.std.specs.Prelude.{ℕ, Option, List, Bool, None, false, Some, true, count_by, [], ◌∷◌, if◌then◌else◌, ◌||◌, ◌&&◌, not, ◌==◌, option_map, option_and_then}
use Rattle.chan_types.specs.declared.journal.What.{What}
use Rattle.chan_types.specs.declared.journal.What.TheVariants.{Accept, Cancel, Destroy, Take, Start, Arrive, Expire, Fault, Servers}
use Rattle.chan_types.specs.declared.status.Status.TheVariants.{TimedOut, ConnRefused}
use Rattle.dns_message.specs.declared.message.Message.{Message}
use Rattle.dns_message.specs.declared.message.Question.{Question}
use Rattle.edns_opt.specs.Opt.{message_with}
use Rattle.edns_opt.specs.declared.opt.Opt.{Opt}
use Rattle.channel_model.specs.Flight.{Attempt, asked_with, reply_to, closes, flight}
use Rattle.channel_model.specs.Journal.{Past, spec_of}
use Rattle.channel_model.specs.Legs.{Leg}
use Rattle.dns_message.specs.Numbers.{query_flags}
use Rattle.channel_model.specs.Questions.{wanted_kind, question_of}
use Rattle.channel_model.specs.Replies.{Reply}
use Rattle.channel_model.specs.Servers.{attempts, leaves_server}
use Rattle.channel_model.specs.Setting.{Setting}
use Rattle.channel_model.specs.Verdict.{verdict_of}
use Rattle.channel_model.specs.declared.judged.Judged.{Judged}
use Rattle.channel_model.specs.declared.judged.Judged.TheVariants.{NextTcp, NextPlain, Failed, Final}

-- the end of an attempt: the server that it went to; what the end meant for the leg, or nothing where the request was cancelled or destroyed; the reply that ended it, or no byte; and how many attempts a leg might spend there
pub record Closing : Type 0 where
  pub server : ℕ
  pub outcome : Option Judged
  pub reply : List ℕ
  pub most : ℕ

-- the attempt has failed
abbrev pub is_failed : Option Judged → Bool
is_failed None = false
is_failed (Some NextTcp) = false
is_failed (Some NextPlain) = false
is_failed (Some (Failed status)) = true
is_failed (Some (Final status)) = false

-- the question is to be asked again over TCP
abbrev pub is_next_tcp : Option Judged → Bool
is_next_tcp None = false
is_next_tcp (Some NextTcp) = true
is_next_tcp (Some NextPlain) = false
is_next_tcp (Some (Failed status)) = false
is_next_tcp (Some (Final status)) = false

-- the question is to be asked again without an OPT record
abbrev pub is_next_plain : Option Judged → Bool
is_next_plain None = false
is_next_plain (Some NextTcp) = false
is_next_plain (Some NextPlain) = true
is_next_plain (Some (Failed status)) = false
is_next_plain (Some (Final status)) = false

-- the attempts that a leg has spent
abbrev pub spent : List Closing → ℕ
spent closings = count_by (λ closing. is_failed closing.outcome) closings

-- the server to which the question has to go again behind the end of an attempt there: that one, where it is to be asked in another form
abbrev pub forced_by : Closing → Option ℕ
forced_by closing = if is_next_tcp closing.outcome || is_next_plain closing.outcome then Some closing.server else None

-- the server, if an entry leaves it in the list
abbrev pub if_left : What → Option ℕ → Option ℕ
if_left what server = option_and_then (λ key. then_some (leaves_server key what) key) server

-- the bytes that an entry brings, or none
abbrev pub bytes_of : What → List ℕ
bytes_of (Accept number spec script) = []
bytes_of Cancel = []
bytes_of Destroy = []
bytes_of (Take number) = []
bytes_of (Start number leg server link id mix moment) = []
bytes_of (Arrive server link bytes) = bytes
bytes_of (Expire number leg moment) = []
bytes_of (Fault server link moment) = []
bytes_of (Servers list) = []

-- the OPT record of a query that offers replies of this size: version 0 and no option (RFC 6891, section 6.1)
abbrev pub opt_offering : ℕ → Opt
opt_offering size = record { size = size; ext_rcode = 0; version = 0; do_bit = false; options = [] }

-- the query for a question with this identifier, without an OPT record: RD unless no recursion is asked for
abbrev pub plain_query : ℕ → Question → Bool → Message
plain_query id question norecurse = record {
  id = id;
  flags = query_flags norecurse;
  questions = question ∷ [];
  answers = [];
  authorities = [];
  additionals = [];
}

-- the query for a question with this identifier: with an OPT record that offers replies of a size, or without one
abbrev pub query_for : ℕ → Question → Bool → Option ℕ → Message
query_for id question norecurse None = plain_query id question norecurse
query_for id question norecurse (Some size) = message_with (plain_query id question norecurse) (opt_offering size)

module _ (setting : Setting) where
  -- a leg with these closings asks over TCP
  abbrev pub is_over_tcp : List Closing → Bool
  is_over_tcp closings = setting.options.flags.usevc || list_any (λ closing. is_next_tcp closing.outcome) closings

  -- a leg with these closings asks with an OPT record
  abbrev pub has_opt : List Closing → Bool
  has_opt closings = setting.options.flags.edns && not (list_any (λ closing. is_next_plain closing.outcome) closings)

  -- what a reply means for its attempt, where these are the leg's earlier closings
  abbrev pub judged_by : Attempt → Past → List Closing → Reply → Judged
  judged_by a past earlier reply =
      verdict_of setting.options.flags (not (a.link == 0)) (has_opt earlier) (wanted_kind (spec_of a.leg.request past) a.leg.number) reply

  -- what an entry that closes the attempt means for its leg, where these are the leg's earlier closings
  abbrev pub outcome_of : Attempt → What → Past → List Closing → Option Judged
  outcome_of a (Accept number spec script) past earlier = None
  outcome_of a Cancel past earlier = None
  outcome_of a Destroy past earlier = None
  outcome_of a (Take number) past earlier = None
  outcome_of a (Start number leg server link id mix moment) past earlier = None
  outcome_of a (Arrive server link bytes) past earlier = option_map (judged_by a past earlier) (reply_to setting a bytes past)
  outcome_of a (Expire number leg moment) past earlier = Some (Failed TimedOut)
  outcome_of a (Fault server link moment) past earlier = Some (Failed ConnRefused)
  outcome_of a (Servers list) past earlier = None

  -- the closing of an attempt by an entry, where these are the leg's earlier closings
  abbrev pub closing_of : Attempt → What → Past → List Closing → Closing
  closing_of a what past earlier = record { server = a.server; outcome = outcome_of a what past earlier; reply = bytes_of what; most = attempts setting past }

  -- the closings of a leg behind an entry, where it had this attempt in flight and those closings before
  abbrev pub with_closing : What → Past → Option Attempt → List Closing → List Closing
  with_closing what past None earlier = earlier
  with_closing what past (Some a) earlier = if closes setting a what past then closing_of a what past earlier ∷ earlier else earlier

  -- how a leg's attempts came to their ends, the last one first
  abbrev pub closings : Leg → Past → List Closing
  closings leg [] = []
  closings leg (what ∷ past) = with_closing what past (flight setting leg past) (closings leg past)

  -- the server that the next attempt has to go to behind an entry, where the leg had this attempt in flight, and the one that it had to go to before
  abbrev pub forced_behind : What → Past → Leg → Option Attempt → Option ℕ → Option ℕ
  forced_behind what past leg None before = if_left what before
  forced_behind what past leg (Some a) before =
      if closes setting a what past then forced_by (closing_of a what past (closings leg past)) else if_left what before

  -- the server that a leg's next attempt has to go to: that of its last one, where the question is to be asked again in another form, and the server has stood in every list since
  abbrev pub forced_server : Leg → Past → Option ℕ
  forced_server leg [] = None
  forced_server leg (what ∷ past) = forced_behind what past leg (flight setting leg past) (forced_server leg past)

  -- the size of replies that a query offers with its OPT record, where the leg's closings leave it one
  abbrev pub offered_size : List Closing → Option ℕ
  offered_size closings = if has_opt closings then Some setting.options.edns_size else None

  -- the query of an attempt with this identifier for this question
  abbrev pub query_of : ℕ → Question → List Closing → Message
  query_of id question closings = query_for id question setting.options.flags.norecurse (offered_size closings)

  -- the query with which a leg's attempt of this identifier begins, its letters in the case of these bits if there are some, where the leg has a question
  abbrev pub leg_query : Leg → ℕ → Option ℕ → Past → Option Message
  leg_query leg id mix past = option_map (λ question. query_of id (asked_with mix question) (closings leg past)) (question_of setting leg past)
