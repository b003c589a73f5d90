-- A question in mixed case: its letters are in the case of drawn bits, and the reply has to repeat it.
use Rattle.std.specs.Prelude.{List, ◌∷◌, [], ◌≡◌, None, refl, Some, take, ℕ, option_map, codes, true, false}
use Rattle.chan_types.specs.declared.journal.Entry.{Entry}
use Rattle.chan_types.specs.declared.journal.What.TheVariants.{Start, Take, Arrive}
use Rattle.chan_types.specs.declared.spec.Spec.{Spec}
use Rattle.chan_types.specs.declared.spec.Spec.TheVariants.{Query}
use Rattle.chan_types.specs.declared.status.Status.TheVariants.{Success}
use Rattle.dns_message.specs.Mixing.{mixed_name}
use Rattle.dns_message.specs.Spelling.{message_bytes}
use Rattle.dns_message.specs.declared.name.Name.{Name}
use Rattle.resolv_options.specs.Defaults.{plain_values, plain_flags}
use Rattle.resolv_options.specs.declared.flags.Flags.{Flags}
use Rattle.channel_model.specs.Journal.{past_of}
use Rattle.channel_model.specs.Legs.{leg_of}
use Rattle.dns_message.specs.Numbers.{kind_a, class_in}
use Rattle.channel_model.specs.Past.{leg_query}
use Rattle.channel_model.specs.Setting.{Setting}
use Rattle.channel_model.specs.Tests.{first_unlawful}
use Rattle.channel_examples.specs.Words.{channel_with, one_server, journal_of, accepts, status_in, instead, cut_to, flights, message, question, answer}
use Rattle.dns_message.specs.NameText as NameText
use Rattle.dns_message.specs.Reading as Reading

-- a channel with these flags, whose queries have no OPT record
abbrev pub flagged : Flags → Setting
flagged flags = channel_with (record plain_values { servers = one_server; flags = record flags { edns = false } })

abbrev pub setting : Setting
setting = flagged (record plain_flags { mix = true })

abbrev pub ask_example : Spec
ask_example = Query (codes "example.com") kind_a class_in

-- the reply with the address 192.0.2.1 to the question for a name
abbrev pub reply_to_name : Name → List ℕ
reply_to_name name = message_bytes (message 0x1234 0x8180 (question name kind_a) (answer name kind_a (192 ∷ 0 ∷ 2 ∷ 1 ∷ []) ∷ []) [])

-- the words 0x1234 and 0x0005 are drawn: the letters 0 and 2 are in upper case
abbrev pub journal : List Entry
journal = journal_of (
    accepts 1 ask_example
    ∷ Start 1 0 0 0 0x1234 (Some 0x0005) 0
    ∷ Arrive 0 0 (reply_to_name (codes "example" ∷ codes "com" ∷ []))
    ∷ Arrive 0 0 (reply_to_name (codes "ExAmple" ∷ codes "com" ∷ []))
    ∷ Take 1
    ∷ [])

-- the query for these words: a header, and the question
abbrev pub mixed_query : List ℕ
mixed_query =
    0x12 ∷ 0x34 ∷ 0x01 ∷ 0x00 ∷ 0x00 ∷ 0x01 ∷ 0x00 ∷ 0x00 ∷ 0x00 ∷ 0x00 ∷ 0x00 ∷ 0x00
    ∷ 0x07 ∷ 0x45 ∷ 0x78 ∷ 0x41 ∷ 0x6d ∷ 0x70 ∷ 0x6c ∷ 0x65 ∷ 0x03 ∷ 0x63 ∷ 0x6f ∷ 0x6d ∷ 0x00 ∷ 0x00 ∷ 0x01 ∷ 0x00 ∷ 0x01 ∷ []

pub query : option_map message_bytes (leg_query setting (leg_of 1 0) 0x1234 (Some 0x0005) (past_of (take 1 journal))) ≡ Some mixed_query
unfolding NameText.units_of
query = refl

pub is_lawful : first_unlawful setting journal ≡ None
unfolding NameText.units_of Reading.message_read Reading.question_of Reading.record_of Reading.name_of Reading.run_of
is_lawful = refl

-- a reply in plain case is a stray
pub plain_case_is_a_stray : flights setting (take 3 journal) ≡ 1
unfolding NameText.units_of Reading.message_read Reading.question_of Reading.record_of Reading.name_of Reading.run_of
plain_case_is_a_stray = refl

-- one that repeats the question is taken
pub repeated_is_taken : status_in setting (take 4 journal) 1 ≡ Some Success
unfolding NameText.units_of Reading.message_read Reading.question_of Reading.record_of Reading.name_of Reading.run_of
repeated_is_taken = refl

-- without the flag a reply in any case is taken
pub without_bits_case_is_ignored : flights (flagged plain_flags) (instead 1 (Start 1 0 0 0 0x1234 None 0) (cut_to 2 (Arrive 0 0 (reply_to_name (codes "EXAMPLE" ∷ codes "com" ∷ []))) journal)) ≡ 0
unfolding NameText.units_of Reading.message_read Reading.question_of Reading.record_of Reading.name_of Reading.run_of
without_bits_case_is_ignored = refl

-- bits are there only where the flag is set
pub bits_without_the_flag : first_unlawful (flagged plain_flags) journal ≡ Some 1
unfolding NameText.units_of Reading.message_read Reading.question_of Reading.record_of Reading.name_of Reading.run_of
bits_without_the_flag = refl

-- and there they are
pub no_bits_with_the_flag : first_unlawful setting (instead 1 (Start 1 0 0 0 0x1234 None 0) journal) ≡ Some 1
unfolding NameText.units_of Reading.message_read Reading.question_of Reading.record_of Reading.name_of Reading.run_of
no_bits_with_the_flag = refl

-- but not over TCP
abbrev pub over_tcp : Setting
over_tcp = flagged (record plain_flags { mix = true; usevc = true })

pub no_bits_over_tcp : first_unlawful over_tcp (cut_to 1 (Start 1 0 0 1 7 None 0) journal) ≡ None
unfolding NameText.units_of
no_bits_over_tcp = refl

pub bits_over_tcp : first_unlawful over_tcp (cut_to 1 (Start 1 0 0 1 7 (Some 5) 0) journal) ≡ Some 1
unfolding NameText.units_of
bits_over_tcp = refl

-- the bits repeat: of 17 letters the letters 0 and 16 are in upper case
pub seventeen_letters : mixed_name 0x0001 (codes "aaaaaaaaaaaaaaaaa" ∷ []) ≡ codes "AaaaaaaaaaaaaaaaA" ∷ []
seventeen_letters = refl

-- letters alone are counted, across labels
pub counted_across_labels : mixed_name 0x0002 (codes "a1" ∷ codes "b" ∷ []) ≡ codes "a1" ∷ codes "B" ∷ []
counted_across_labels = refl
