-- A name with too few dots is searched: with each domain, then as it is. The candidates end with NotFound, NoData and NotFound, so the request ends with NoData.
use Rattle.std.specs.Prelude.{codes, ◌∷◌, [], ℕ, List, ◌≡◌, refl, None, Some, true}
use Rattle.chan_types.specs.declared.journal.Entry.{Entry}
use Rattle.chan_types.specs.declared.journal.What.TheVariants.{Start, Arrive, Take}
use Rattle.chan_types.specs.declared.spec.Spec.{Spec}
use Rattle.chan_types.specs.declared.spec.Spec.TheVariants.{Search, Query}
use Rattle.chan_types.specs.declared.status.Status.TheVariants.{NoData, Refused, NotFound, BadName}
use Rattle.dns_message.specs.Spelling.{message_bytes}
use Rattle.dns_message.specs.declared.name.Name.{Name}
use Rattle.resolv_options.specs.Defaults.{plain_values, plain_flags}
use Rattle.channel_model.specs.Completion.{pending}
use Rattle.channel_model.specs.Journal.{past_of}
use Rattle.channel_model.specs.Merge.{bare}
use Rattle.dns_message.specs.Numbers.{kind_a, class_in}
use Rattle.channel_model.specs.Questions.{candidates_of}
use Rattle.channel_model.specs.Setting.{Setting}
use Rattle.channel_model.specs.Tests.{first_unlawful}
use Rattle.channel_examples.specs.Words.{channel_with, one_server, message, question, journal_of, accepts, fate_in, instead, flights, cut_to, status_in}
use Rattle.dns_message.specs.NameText as NameText
use Rattle.dns_message.specs.Reading as Reading

abbrev pub setting : Setting
setting = channel_with (record plain_values { servers = one_server; domains = (codes "a" ∷ codes "test" ∷ []) ∷ (codes "b" ∷ codes "test" ∷ []) ∷ [] })

-- the search for www
abbrev pub search_www : Spec
search_www = Search (codes "www") kind_a class_in

abbrev pub www_a : Name
www_a = codes "www" ∷ codes "a" ∷ codes "test" ∷ []

abbrev pub www_b : Name
www_b = codes "www" ∷ codes "b" ∷ codes "test" ∷ []

abbrev pub www : Name
www = codes "www" ∷ []

-- the reply without an answer to the question for a name, with these flags
abbrev pub empty_reply : ℕ → ℕ → Name → List ℕ
empty_reply id flags name = message_bytes (message id flags (question name kind_a) [] [])

abbrev pub journal : List Entry
journal = journal_of (
    accepts 1 search_www
    ∷ Start 1 0 0 0 7 None 0
    ∷ Arrive 0 0 (empty_reply 7 0x8183 www_a)
    ∷ Start 1 2 0 0 8 None 0
    ∷ Arrive 0 0 (empty_reply 8 0x8180 www_b)
    ∷ Start 1 4 0 0 9 None 0
    ∷ Arrive 0 0 (empty_reply 9 0x8183 www)
    ∷ Take 1
    ∷ [])

pub asked : candidates_of setting search_www ≡ www_a ∷ www_b ∷ www ∷ []
unfolding NameText.units_of Reading.message_read Reading.question_of Reading.record_of Reading.name_of Reading.run_of
asked = refl

pub is_lawful : first_unlawful setting journal ≡ None
unfolding NameText.units_of Reading.message_read Reading.question_of Reading.record_of Reading.name_of Reading.run_of
is_lawful = refl

-- the message is the last reply all the same
pub has_no_data : fate_in setting journal 1 ≡ Some (bare 1 NoData (empty_reply 9 0x8183 www))
unfolding NameText.units_of Reading.message_read Reading.question_of Reading.record_of Reading.name_of Reading.run_of
has_no_data = refl

-- the first candidate has ended, and isn't asked again
pub first_again : first_unlawful setting (instead 3 (Start 1 0 0 0 8 None 0) journal) ≡ Some 3
unfolding NameText.units_of Reading.message_read Reading.question_of Reading.record_of Reading.name_of Reading.run_of
first_again = refl

pub third_before_second : first_unlawful setting (instead 3 (Start 1 4 0 0 8 None 0) journal) ≡ Some 3
unfolding NameText.units_of Reading.message_read Reading.question_of Reading.record_of Reading.name_of Reading.run_of
third_before_second = refl

pub fourth_candidate : first_unlawful setting (instead 7 (Start 1 6 0 0 10 None 0) journal) ≡ Some 7
unfolding NameText.units_of Reading.message_read Reading.question_of Reading.record_of Reading.name_of Reading.run_of
fourth_candidate = refl

-- a reply to the first candidate's question isn't one to the second's
pub old_question : flights setting (cut_to 4 (Arrive 0 0 (empty_reply 8 0x8183 www_a)) journal) ≡ 1
unfolding NameText.units_of Reading.message_read Reading.question_of Reading.record_of Reading.name_of Reading.run_of
old_question = refl

-- a status other than these ends the search: here each attempt is refused, and the last one ends the leg
pub refused : status_in setting (journal_of (accepts 1 search_www ∷ Start 1 0 0 0 7 None 0 ∷ Arrive 0 0 (empty_reply 7 0x8185 www_a) ∷ Start 1 0 0 0 8 None 0 ∷ Arrive 0 0 (empty_reply 8 0x8185 www_a) ∷ Start 1 0 0 0 9 None 0 ∷ Arrive 0 0 (empty_reply 9 0x8185 www_a) ∷ [])) 1 ≡ Some Refused
unfolding NameText.units_of Reading.message_read Reading.question_of Reading.record_of Reading.name_of Reading.run_of
refused = refl

-- a name below `onion` is answered at once, and nothing is asked
pub hidden_service : status_in setting (journal_of (accepts 1 (Query (codes "x.onion") kind_a class_in) ∷ [])) 1 ≡ Some NotFound
unfolding NameText.units_of Reading.message_read Reading.question_of Reading.record_of Reading.name_of Reading.run_of
hidden_service = refl

-- so is a text that is no name
pub no_name : status_in setting (journal_of (accepts 1 (Query (codes "a..b") kind_a class_in) ∷ [])) 1 ≡ Some BadName
unfolding NameText.units_of Reading.message_read Reading.question_of Reading.record_of Reading.name_of Reading.run_of
no_name = refl

-- where a server's failure counts, it makes the next candidate current
pub failure_goes_on : pending (channel_with (record plain_values { servers = one_server; domains = (codes "a" ∷ codes "test" ∷ []) ∷ []; flags = record plain_flags { nocheckresp = true } }))
    (past_of (journal_of (accepts 1 search_www ∷ Start 1 0 0 0 7 None 0 ∷ Arrive 0 0 (empty_reply 7 0x8182 www_a) ∷ []))) ≡ 1 ∷ []
unfolding NameText.units_of Reading.message_read Reading.question_of Reading.record_of Reading.name_of Reading.run_of
failure_goes_on = refl

-- names that repeat an earlier one, ignoring case, and hidden services are passed over
pub passed_over : candidates_of (channel_with (record plain_values { domains = (codes "A" ∷ codes "test" ∷ []) ∷ (codes "onion" ∷ []) ∷ (codes "a" ∷ codes "Test" ∷ []) ∷ [] })) search_www
    ≡ (codes "www" ∷ codes "A" ∷ codes "test" ∷ []) ∷ www ∷ []
unfolding NameText.units_of Reading.message_read Reading.question_of Reading.record_of Reading.name_of Reading.run_of
passed_over = refl
