-- Runs over UDP whose journal and log agree: silence, a reply that comes twice, one at the last moment, one of the wrong server, and one that has the query asked again without OPT.
use Rattle.std.proofs.Common.{List, [], ◌∷◌, ◌++◌, refl}
use Rattle.net_addr.specs.declared.addr.Addr.TheVariants.{V4}
use Rattle.net_world.specs.declared.answers.Sent.TheVariants.{Sent}
use Rattle.net_world.specs.declared.answers.Got.TheVariants.{Datagram, Nothing}
use Rattle.net_world.specs.declared.answers.Waited.TheVariants.{Woken}
use Rattle.net_world.specs.declared.log.WorldCall.{WorldCall}
use Rattle.net_world.specs.declared.log.WorldCall.TheVariants.{Serve, Now, Word, Send, Receive, Wait}
use Rattle.dns_message.specs.Numbers.{kind_a}
use Rattle.channel_model.specs.Traffic.{TrafficAgrees}
use Rattle.channel_examples.specs.LastMoment as LastMoment
use Rattle.channel_examples.specs.Plain as Plain
use Rattle.channel_examples.specs.SecondReply as SecondReply
use Rattle.channel_examples.specs.Silence as Silence
use Rattle.channel_examples.specs.WrongServer as WrongServer
use Rattle.channel_examples.specs.Words.{good_reply, message, question, x_test}
use Rattle.channel_examples.proofs.Words.{query, plain_query}
use Rattle.dns_message.specs.NameText as NameText
use Rattle.dns_message.specs.Reading as Reading
use Rattle.dns_message.specs.Spelling.{message_bytes}

-- the servers are told
abbrev serve_one : List WorldCall
serve_one = Serve 0 (record { address = V4 3221226037; port = 53 }) ∷ []

abbrev serve_two : List WorldCall
serve_two = Serve 0 (record { address = V4 3221226037; port = 53 }) ∷ Serve 1 (record { address = V4 3221226038; port = 53 }) ∷ []

-- nothing comes, and each try is a query of its own
abbrev silent_log : List WorldCall
silent_log =
    serve_two
    ++ (Now 0 ∷ Receive Nothing ∷ Word 7 ∷ Send 0 (query 7) Sent ∷ Word 0 ∷ Wait 2000 Woken
    ∷ Now 2000 ∷ Receive Nothing ∷ Word 8 ∷ Send 1 (query 8) Sent ∷ Word 0 ∷ Wait 4000 Woken
    ∷ Now 4000 ∷ Receive Nothing ∷ Word 9 ∷ Send 0 (query 9) Sent ∷ Word 0 ∷ Wait 8000 Woken
    ∷ Now 8000 ∷ Receive Nothing ∷ Word 10 ∷ Send 1 (query 10) Sent ∷ Word 0 ∷ Wait 12000 Woken
    ∷ Now 12000 ∷ Receive Nothing ∷ Word 0 ∷ [])

pub silence : TrafficAgrees Silence.setting 0 Silence.journal silent_log
unfolding NameText.units_of Reading.message_read Reading.question_of Reading.record_of Reading.name_of Reading.run_of
silence = record { arrivals = refl; sends = refl; links = refl; writes = λ link. ([], refl); faults_are = refl; in_order = refl }

-- the reply comes twice
abbrev twice_log : List WorldCall
twice_log =
    serve_one
    ++ (Now 0 ∷ Receive Nothing ∷ Word 7 ∷ Send 0 (query 7) Sent ∷ Word 0 ∷ Wait 20 Woken
    ∷ Now 1 ∷ Receive (Datagram 0 (good_reply 7)) ∷ Receive (Datagram 0 (good_reply 7)) ∷ Receive Nothing ∷ Word 0 ∷ [])

pub second_reply : TrafficAgrees SecondReply.setting 0 SecondReply.journal twice_log
unfolding NameText.units_of Reading.message_read Reading.question_of Reading.record_of Reading.name_of Reading.run_of
second_reply = record { arrivals = refl; sends = refl; links = refl; writes = λ link. ([], refl); faults_are = refl; in_order = refl }

-- the reply comes when the query is due
abbrev last_log : List WorldCall
last_log =
    serve_one
    ++ (Now 0 ∷ Receive Nothing ∷ Word 7 ∷ Send 0 (query 7) Sent ∷ Word 0 ∷ Wait 2000 Woken
    ∷ Now 2000 ∷ Receive (Datagram 0 (good_reply 7)) ∷ Receive Nothing ∷ Word 0 ∷ [])

pub last_moment : TrafficAgrees LastMoment.setting 0 LastMoment.journal last_log
unfolding NameText.units_of Reading.message_read Reading.question_of Reading.record_of Reading.name_of Reading.run_of
last_moment = record { arrivals = refl; sends = refl; links = refl; writes = λ link. ([], refl); faults_are = refl; in_order = refl }

-- the reply comes from the server that wasn't asked
abbrev wrong_log : List WorldCall
wrong_log =
    serve_two
    ++ (Now 0 ∷ Receive Nothing ∷ Word 7 ∷ Send 0 (query 7) Sent ∷ Word 0 ∷ Wait 20 Woken
    ∷ Now 1 ∷ Receive (Datagram 1 (good_reply 7)) ∷ Receive Nothing ∷ Word 0 ∷ Wait 2000 Woken
    ∷ Now 2000 ∷ Receive Nothing ∷ Word 8 ∷ Send 1 (query 8) Sent ∷ Word 0 ∷ [])

pub wrong_server : TrafficAgrees WrongServer.setting 0 WrongServer.journal wrong_log
unfolding NameText.units_of Reading.message_read Reading.question_of Reading.record_of Reading.name_of Reading.run_of
wrong_server = record { arrivals = refl; sends = refl; links = refl; writes = λ link. ([], refl); faults_are = refl; in_order = refl }

-- FORMERR comes, and the second query has no OPT record
abbrev plain_log : List WorldCall
plain_log =
    serve_two
    ++ (Now 0 ∷ Receive Nothing ∷ Word 7 ∷ Send 0 (query 7) Sent ∷ Word 0 ∷ Wait 20 Woken
    ∷ Now 1 ∷ Receive (Datagram 0 (message_bytes (message 7 0x8181 (question x_test kind_a) [] []))) ∷ Receive Nothing ∷ Word 8 ∷ Send 0 (plain_query 8) Sent ∷ Word 0 ∷ Wait 21 Woken
    ∷ Now 2 ∷ Receive (Datagram 0 Plain.plain_reply) ∷ Receive Nothing ∷ Word 0 ∷ [])

pub plain : TrafficAgrees Plain.setting 0 Plain.journal plain_log
unfolding NameText.units_of Reading.message_read Reading.question_of Reading.record_of Reading.name_of Reading.run_of
plain = record { arrivals = refl; sends = refl; links = refl; writes = λ link. ([], refl); faults_are = refl; in_order = refl }
