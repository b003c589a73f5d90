-- What the options of a channel change.
use Rattle.std.specs.Prelude.{List, ◌∷◌, [], ℕ, false, ◌≡◌, Some, refl, option_map, take, true, None, ◌^◌, ◌-◌}
use Rattle.chan_types.specs.declared.journal.Entry.{Entry}
use Rattle.chan_types.specs.declared.journal.What.TheVariants.{Start, Arrive, Expire, Take}
use Rattle.chan_types.specs.declared.status.Status.TheVariants.{FormErr, BadResp}
use Rattle.dns_message.specs.Spelling.{message_bytes}
use Rattle.resolv_options.specs.Defaults.{plain_values, plain_flags}
use Rattle.resolv_options.specs.declared.flags.Flags.{Flags}
use Rattle.channel_model.specs.Choice.{failures}
use Rattle.channel_model.specs.Journal.{past_of}
use Rattle.channel_model.specs.Lawful.{first_due}
use Rattle.channel_model.specs.Legs.{leg_of}
use Rattle.dns_message.specs.Numbers.{kind_a}
use Rattle.channel_model.specs.Past.{leg_query}
use Rattle.channel_model.specs.Setting.{Setting}
use Rattle.channel_model.specs.Tests.{first_unlawful}
use Rattle.channel_examples.specs.Words.{channel_with, two_servers, journal_of, accepts, ask_x, message, question, x_test, status_in, cut_to, instead, one_server, opt_of_reply, reply_with_flags}
use Rattle.dns_message.specs.NameText as NameText
use Rattle.dns_message.specs.Reading as Reading

abbrev pub setting : Setting
setting = channel_with (record plain_values { servers = two_servers })

-- the same channel with these flags
abbrev pub flagged : Flags → Setting
flagged flags = channel_with (record plain_values { servers = two_servers; flags = flags })

-- a request is accepted, and an attempt begun
abbrev pub begun : List Entry
begun = journal_of (accepts 1 ask_x ∷ Start 1 0 0 0 7 None 0 ∷ [])

-- the reply that refuses the OPT record
abbrev pub refusal : List ℕ
refusal = message_bytes (message 7 0x8181 (question x_test kind_a) [] [])

-- without `edns` there is no OPT record that could be refused, and no query has one
pub without_edns : status_in (flagged (record plain_flags { edns = false })) (cut_to 2 (Arrive 0 0 refusal) begun) 1 ≡ Some FormErr
unfolding NameText.units_of Reading.message_read Reading.question_of Reading.record_of Reading.name_of Reading.run_of
without_edns = refl

pub no_opt : option_map (λ query. query.additionals) (leg_query (flagged (record plain_flags { edns = false })) (leg_of 1 0) 7 None (past_of (take 1 begun))) ≡ Some []
unfolding NameText.units_of
no_opt = refl

-- with `norecurse` no flag of a query is set
pub no_recursion : option_map (λ query. query.flags) (leg_query (flagged (record plain_flags { norecurse = true })) (leg_of 1 0) 7 None (past_of (take 1 begun))) ≡ Some 0
unfolding NameText.units_of
no_recursion = refl

-- with `primary` the first server alone is asked: it gets all tries, and waits grow with each
abbrev pub one_of_two : Setting
one_of_two = channel_with (record plain_values { servers = two_servers; tries = 2; flags = record plain_flags { primary = true } })

abbrev pub primary_journal : List Entry
primary_journal = journal_of (accepts 1 ask_x ∷ Start 1 0 0 0 7 None 0 ∷ Expire 1 0 2000 ∷ Start 1 0 0 0 8 None 2000 ∷ Expire 1 0 6000 ∷ Take 1 ∷ [])

pub first_alone : first_unlawful one_of_two primary_journal ≡ None
unfolding NameText.units_of
first_alone = refl

pub second_server : first_unlawful one_of_two (instead 3 (Start 1 0 1 0 8 None 2000) primary_journal) ≡ Some 3
unfolding NameText.units_of
second_server = refl

-- with `max_timeout` no wait is longer
abbrev pub shortened : Setting
shortened = channel_with (record plain_values { servers = one_server; max_timeout = 3000 })

pub at_longest_three_seconds : first_due shortened (past_of (journal_of (accepts 1 ask_x ∷ Start 1 0 0 0 7 None 0 ∷ Expire 1 0 2000 ∷ Start 1 0 0 0 8 None 2000 ∷ []))) ≡ Some (record { at = 5000; leg = leg_of 1 0 })
unfolding NameText.units_of
at_longest_three_seconds = refl

-- moments stop at the greatest of 64 bits
pub last_moment : first_due setting (past_of (journal_of (accepts 1 ask_x ∷ Start 1 0 0 0 7 None (2 ^ 64 - 2) ∷ []))) ≡ Some (record { at = 2 ^ 64 - 1; leg = leg_of 1 0 })
unfolding NameText.units_of
last_moment = refl

-- with `rotate` each leg begins one server further, but a question that is asked again in another form stays where it was
abbrev pub rotated : Setting
rotated = channel_with (record plain_values { servers = two_servers; rotate = true })

abbrev pub rotated_journal : List Entry
rotated_journal = journal_of (accepts 1 ask_x ∷ accepts 2 ask_x ∷ Start 1 0 0 0 7 None 0 ∷ Arrive 0 0 refusal ∷ Start 1 0 0 0 8 None 0 ∷ Start 2 0 1 0 9 None 0 ∷ [])

pub rotates : first_unlawful rotated rotated_journal ≡ None
unfolding NameText.units_of Reading.message_read Reading.question_of Reading.record_of Reading.name_of Reading.run_of
rotates = refl

pub forced : first_unlawful rotated (instead 4 (Start 1 0 1 0 8 None 0) rotated_journal) ≡ Some 4
unfolding NameText.units_of Reading.message_read Reading.question_of Reading.record_of Reading.name_of Reading.run_of
forced = refl

pub second_leg_at_the_first : first_unlawful rotated (instead 5 (Start 2 0 0 0 9 None 0) rotated_journal) ≡ Some 5
unfolding NameText.units_of Reading.message_read Reading.question_of Reading.record_of Reading.name_of Reading.run_of
second_leg_at_the_first = refl

-- the OPT record extends the response code: BADVERS is none of those that have a status of their own (RFC 6891, section 9)
pub bad_version : status_in setting (cut_to 2 (Arrive 0 0 (message_bytes (message 7 0x8180 (question x_test kind_a) [] (record opt_of_reply { ttl = 2 ^ 24 } ∷ [])))) begun) 1 ≡ Some BadResp
unfolding NameText.units_of Reading.message_read Reading.question_of Reading.record_of Reading.name_of Reading.run_of
bad_version = refl

-- a truncated reply is a good one: it sets the failures of its server to none
abbrev pub failed_before : List Entry
failed_before = journal_of (accepts 1 ask_x ∷ Start 1 0 0 0 7 None 0 ∷ Expire 1 0 2000 ∷ Start 1 0 1 0 8 None 2000 ∷ Expire 1 0 4000 ∷ Start 1 0 0 0 9 None 4000 ∷ [])

pub failed : failures setting 0 (past_of failed_before) ≡ 1
unfolding NameText.units_of
failed = refl

pub forgiven : failures setting 0 (past_of (cut_to 6 (Arrive 0 0 (reply_with_flags 9 0x8380)) failed_before)) ≡ 0
unfolding NameText.units_of Reading.message_read Reading.question_of Reading.record_of Reading.name_of Reading.run_of
forgiven = refl
