-- Single rules of legs, replies and choices, each by a journal that fails without it.
use Rattle.std.specs.Prelude.{List, ◌∷◌, [], ◌≡◌, None, refl, Some, ℕ, option_map, codes, true, ◌*◌, ◌^◌}
use Rattle.chan_types.specs.declared.journal.Entry.{Entry}
use Rattle.chan_types.specs.declared.journal.What.TheVariants.{Start, Arrive, Expire, Fault, Destroy}
use Rattle.chan_types.specs.declared.spec.Spec.TheVariants.{Query, Search}
use Rattle.dns_message.specs.Spelling.{message_bytes}
use Rattle.resolv_options.specs.Defaults.{plain_values, plain_flags}
use Rattle.channel_model.specs.Choice.{failures, wait_of}
use Rattle.channel_model.specs.Journal.{past_of}
use Rattle.channel_model.specs.Legs.{leg_of}
use Rattle.dns_message.specs.Numbers.{kind_a, class_in}
use Rattle.channel_model.specs.Past.{leg_query}
use Rattle.channel_model.specs.Questions.{candidates_of}
use Rattle.channel_model.specs.Setting.{Setting}
use Rattle.channel_model.specs.Tests.{first_unlawful}
use Rattle.channel_examples.specs.Words.{channel_with, one_server, two_servers, journal_of, accepts, ask_x, instead, cut_to, flights, flying_behind, message, question, x_test, good_reply, reply_with_flags}
use Rattle.dns_message.specs.NameText as NameText
use Rattle.dns_message.specs.Reading as Reading

abbrev pub setting : Setting
setting = channel_with (record plain_values { servers = one_server })

-- a truncated reply has the leg ask over TCP, and there it stays when an attempt fails
abbrev pub stays_on_tcp : List Entry
stays_on_tcp = journal_of (
    accepts 1 ask_x
    ∷ Start 1 0 0 0 7 None 0
    ∷ Arrive 0 0 (reply_with_flags 7 0x8380)
    ∷ Start 1 0 0 1 8 None 1
    ∷ Fault 0 1 2
    ∷ Start 1 0 0 2 9 None 2
    ∷ [])

pub over_tcp_again : first_unlawful setting stays_on_tcp ≡ None
unfolding NameText.units_of Reading.message_read Reading.question_of Reading.record_of Reading.name_of Reading.run_of
over_tcp_again = refl

pub back_to_udp : first_unlawful setting (instead 5 (Start 1 0 0 0 9 None 2) stays_on_tcp) ≡ Some 5
unfolding NameText.units_of Reading.message_read Reading.question_of Reading.record_of Reading.name_of Reading.run_of
back_to_udp = refl

-- the reply that refuses the OPT record
abbrev pub refusal : ℕ → List ℕ
refusal id = message_bytes (message id 0x8181 (question x_test kind_a) [] [])

-- it has the leg ask without one, and so it does when an attempt has failed
abbrev pub stays_without_opt : List Entry
stays_without_opt = journal_of (accepts 1 ask_x ∷ Start 1 0 0 0 7 None 0 ∷ Arrive 0 0 (refusal 7) ∷ Start 1 0 0 0 8 None 0 ∷ Expire 1 0 2000 ∷ [])

pub without_opt_again : option_map (λ query. query.additionals) (leg_query setting (leg_of 1 0) 9 None (past_of stays_without_opt)) ≡ Some []
unfolding NameText.units_of Reading.message_read Reading.question_of Reading.record_of Reading.name_of Reading.run_of
without_opt_again = refl

-- a reply with the question twice is no reply
abbrev pub two_questions : List ℕ
two_questions = message_bytes (record (message 7 0x8180 (question x_test kind_a) [] []) { questions = question x_test kind_a ∷ question x_test kind_a ∷ [] })

pub asked_twice : flying_behind setting stays_on_tcp two_questions ≡ 1
unfolding NameText.units_of Reading.message_read Reading.question_of Reading.record_of Reading.name_of Reading.run_of
asked_twice = refl

pub asked_once : flying_behind setting stays_on_tcp (good_reply 7) ≡ 0
unfolding NameText.units_of Reading.message_read Reading.question_of Reading.record_of Reading.name_of Reading.run_of
asked_once = refl

-- the first of two servers has failed once, and is asked again
abbrev pub two : Setting
two = channel_with (record plain_values { servers = two_servers })

abbrev pub failed_once : List Entry
failed_once = journal_of (accepts 1 ask_x ∷ Start 1 0 0 0 7 None 0 ∷ Expire 1 0 2000 ∷ Start 1 0 1 0 8 None 2000 ∷ Expire 1 0 4000 ∷ Start 1 0 0 0 9 None 4000 ∷ [])

-- a reply that ends the leg forgives its server
pub final_reply_forgives : failures two 0 (past_of (cut_to 6 (Arrive 0 0 (good_reply 9)) failed_once)) ≡ 0
unfolding NameText.units_of Reading.message_read Reading.question_of Reading.record_of Reading.name_of Reading.run_of
final_reply_forgives = refl

-- so does one that has the question asked without an OPT record
pub refused_opt_forgives : failures two 0 (past_of (cut_to 6 (Arrive 0 0 (refusal 9)) failed_once)) ≡ 0
unfolding NameText.units_of Reading.message_read Reading.question_of Reading.record_of Reading.name_of Reading.run_of
refused_opt_forgives = refl

-- one that says that the server failed counts as a failure
pub failed_reply_counts : failures two 0 (past_of (cut_to 6 (Arrive 0 0 (reply_with_flags 9 0x8182)) failed_once)) ≡ 2
unfolding NameText.units_of Reading.message_read Reading.question_of Reading.record_of Reading.name_of Reading.run_of
failed_reply_counts = refl

-- the second request goes to the second server, whose link isn't the first server's
abbrev pub links_of_two : Setting
links_of_two = channel_with (record plain_values { servers = two_servers; rotate = true; flags = record plain_flags { usevc = true } })

abbrev pub two_links : List Entry
two_links = journal_of (accepts 1 ask_x ∷ accepts 2 ask_x ∷ Start 1 0 0 1 7 None 0 ∷ Start 2 0 1 2 8 None 0 ∷ [])

pub each_its_own : first_unlawful links_of_two two_links ≡ None
unfolding NameText.units_of
each_its_own = refl

pub link_of_another_server : first_unlawful links_of_two (instead 3 (Start 2 0 1 1 8 None 0) two_links) ≡ Some 3
unfolding NameText.units_of
link_of_another_server = refl

-- a Query isn't searched, and a Search is
abbrev pub with_domain : Setting
with_domain = channel_with (record plain_values { domains = (codes "a" ∷ codes "test" ∷ []) ∷ [] })

pub query_as_it_is : candidates_of with_domain (Query (codes "www") kind_a class_in) ≡ (codes "www" ∷ []) ∷ []
unfolding NameText.units_of
query_as_it_is = refl

pub search_by_domains : candidates_of with_domain (Search (codes "www") kind_a class_in) ≡ (codes "www" ∷ codes "a" ∷ codes "test" ∷ []) ∷ (codes "www" ∷ []) ∷ []
unfolding NameText.units_of
search_by_domains = refl

-- a Destroy ends what is in flight
pub destroy_ends_flights : flights setting (journal_of (accepts 1 ask_x ∷ Start 1 0 0 0 7 None 0 ∷ Destroy ∷ [])) ≡ 0
unfolding NameText.units_of
destroy_ends_flights = refl

pub expire_behind_a_destroy : first_unlawful setting (journal_of (accepts 1 ask_x ∷ Start 1 0 0 0 7 None 0 ∷ Destroy ∷ Expire 1 0 2000 ∷ [])) ≡ Some 3
unfolding NameText.units_of
expire_behind_a_destroy = refl

-- waits are doubled nine times at most
pub nine_doublings : wait_of plain_values 9 1 ≡ 2000 * 2 ^ 9
nine_doublings = refl

pub no_tenth : wait_of plain_values 10 1 ≡ 2000 * 2 ^ 9
no_tenth = refl
