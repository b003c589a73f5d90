-- Servers that are set while a request is pending: the attempts on those that left are closed, a server that stays keeps its key, and a new one gets the next.
use Rattle.std.specs.Prelude.{List, ◌∷◌, [], ◌≡◌, None, refl, Some, take, ℕ, ◌+◌}
use Rattle.chan_types.specs.declared.journal.Entry.{Entry}
use Rattle.chan_types.specs.declared.journal.What.TheVariants.{Start, Expire, Take, Arrive, Destroy, Servers}
use Rattle.chan_types.specs.declared.server_key.ServerKey.{ServerKey}
use Rattle.chan_types.specs.declared.status.Status.TheVariants.{TimedOut}
use Rattle.net_addr.specs.declared.addr.Addr.TheVariants.{V4}
use Rattle.net_addr.specs.declared.addr.ServerAddr.{ServerAddr}
use Rattle.resolv_options.specs.Defaults.{plain_values}
use Rattle.channel_model.specs.Choice.{failures}
use Rattle.channel_model.specs.Journal.{past_of}
use Rattle.channel_model.specs.Lawful.{first_due}
use Rattle.channel_model.specs.Legs.{leg_of}
use Rattle.channel_model.specs.Servers.{keys_for}
use Rattle.channel_model.specs.Setting.{Setting}
use Rattle.channel_model.specs.Tests.{first_unlawful}
use Rattle.channel_examples.specs.Words.{channel_with, journal_of, accepts, ask_x, status_in, instead, cut_to, flights, good_reply, reply_with_flags}
use Rattle.dns_message.specs.NameText as NameText
use Rattle.dns_message.specs.Reading as Reading

-- the server at 192.0.2.k
abbrev pub at_host : ℕ → ServerAddr
at_host k = record { address = V4 (3221225984 + k); port = 53 }

-- the same with a key
abbrev pub keyed : ℕ → ℕ → ServerKey
keyed key k = record { key = key; address = at_host k }

abbrev pub setting : Setting
setting = channel_with (record plain_values { servers = at_host 1 ∷ at_host 2 ∷ []; tries = 2 })

-- 192.0.2.2 stays, 192.0.2.1 leaves, and 192.0.2.3 comes
abbrev pub journal : List Entry
journal = journal_of (
    accepts 1 ask_x
    ∷ Start 1 0 0 0 7 None 0
    ∷ Servers (keyed 1 2 ∷ keyed 2 3 ∷ [])
    ∷ Start 1 0 1 0 8 None 0
    ∷ Expire 1 0 2000
    ∷ Start 1 0 2 0 9 None 2000
    ∷ Expire 1 0 4000
    ∷ Start 1 0 1 0 10 None 4000
    ∷ Expire 1 0 8000
    ∷ Start 1 0 2 0 11 None 8000
    ∷ Expire 1 0 12000
    ∷ Take 1
    ∷ [])

pub is_lawful : first_unlawful setting journal ≡ None
unfolding NameText.units_of
is_lawful = refl

pub times_out : status_in setting journal 1 ≡ Some TimedOut
unfolding NameText.units_of
times_out = refl

-- the attempt on the server that left is closed, and none is spent with it
pub closed_with_its_server : flights setting (take 3 journal) ≡ 0
unfolding NameText.units_of
closed_with_its_server = refl

-- an attempt on a server that stays goes on
pub stays_in_flight : flights setting (instead 2 (Servers (keyed 0 1 ∷ keyed 2 3 ∷ [])) (take 3 journal)) ≡ 1
unfolding NameText.units_of
stays_in_flight = refl

-- a server that comes back gets a new key
pub comes_back : first_unlawful setting (cut_to 12 (Servers (keyed 3 1 ∷ [])) journal) ≡ None
unfolding NameText.units_of
comes_back = refl

-- a reply of the server that left is a stray
pub old_server_is_a_stray : flights setting (cut_to 4 (Arrive 0 0 (good_reply 8)) journal) ≡ 1
unfolding NameText.units_of Reading.message_read Reading.question_of Reading.record_of Reading.name_of Reading.run_of
old_server_is_a_stray = refl

pub new_server_is_none : flights setting (cut_to 4 (Arrive 1 0 (good_reply 8)) journal) ≡ 0
unfolding NameText.units_of Reading.message_read Reading.question_of Reading.record_of Reading.name_of Reading.run_of
new_server_is_none = refl

-- a key isn't given twice
pub key_twice : first_unlawful setting (instead 2 (Servers (keyed 1 2 ∷ keyed 1 3 ∷ [])) journal) ≡ Some 2
unfolding NameText.units_of
key_twice = refl

-- nor is one left out
pub key_left_out : first_unlawful setting (instead 2 (Servers (keyed 1 2 ∷ keyed 3 3 ∷ [])) journal) ≡ Some 2
unfolding NameText.units_of
key_left_out = refl

-- nor is the key of a server that left given again
pub key_of_one_that_left : first_unlawful setting (cut_to 12 (Servers (keyed 0 1 ∷ [])) journal) ≡ Some 12
unfolding NameText.units_of
key_of_one_that_left = refl

-- a server that stays keeps its key
pub key_changed : first_unlawful setting (instead 2 (Servers (keyed 2 2 ∷ keyed 3 3 ∷ [])) journal) ≡ Some 2
unfolding NameText.units_of
key_changed = refl

-- there is one server at least, and there are eight at most
pub empty_list : first_unlawful setting (instead 2 (Servers []) journal) ≡ Some 2
unfolding NameText.units_of
empty_list = refl

abbrev pub nine : List ServerKey
nine = keyed 1 2 ∷ keyed 2 3 ∷ keyed 3 4 ∷ keyed 4 5 ∷ keyed 5 6 ∷ keyed 6 7 ∷ keyed 7 8 ∷ keyed 8 9 ∷ keyed 9 10 ∷ []

pub nine_servers : first_unlawful setting (instead 2 (Servers nine) journal) ≡ Some 2
unfolding NameText.units_of
nine_servers = refl

pub eight_servers : first_unlawful setting (cut_to 2 (Servers (take 8 nine)) journal) ≡ None
unfolding NameText.units_of
eight_servers = refl

-- a channel that was destroyed takes no servers
pub behind_a_destroy : first_unlawful setting (journal_of (Destroy ∷ Servers (keyed 1 2 ∷ []) ∷ [])) ≡ Some 1
unfolding NameText.units_of
behind_a_destroy = refl

-- no attempt goes to a server that left
pub server_that_left : first_unlawful setting (instead 3 (Start 1 0 0 0 8 None 0) journal) ≡ Some 3
unfolding NameText.units_of
server_that_left = refl

-- the server with the greatest key leaves, and then another comes: it gets the next key all the same
abbrev pub narrowed : ℕ → List Entry
narrowed key = journal_of (Servers (keyed 1 2 ∷ keyed 2 3 ∷ []) ∷ Servers (keyed 1 2 ∷ []) ∷ Servers (keyed 1 2 ∷ keyed key 4 ∷ []) ∷ [])

pub next_key : first_unlawful setting (narrowed 3) ≡ None
unfolding NameText.units_of
next_key = refl

pub greatest_key_again : first_unlawful setting (narrowed 2) ≡ Some 2
unfolding NameText.units_of
greatest_key_again = refl

-- two servers of one address and port are two: the first keeps its key, and the second gets the next
pub same_address_twice : keys_for setting (at_host 2 ∷ at_host 2 ∷ []) [] ≡ keyed 1 2 ∷ keyed 2 2 ∷ []
unfolding NameText.units_of
same_address_twice = refl

-- the question is to go to the first server again, over TCP; but that has left
abbrev pub forced : List Entry
forced = journal_of (
    accepts 1 ask_x
    ∷ Start 1 0 0 0 7 None 0
    ∷ Arrive 0 0 (reply_with_flags 7 0x8380)
    ∷ Servers (keyed 1 2 ∷ keyed 2 3 ∷ [])
    ∷ Start 1 0 1 1 8 None 1
    ∷ [])

pub goes_elsewhere : first_unlawful setting forced ≡ None
unfolding NameText.units_of Reading.message_read Reading.question_of Reading.record_of Reading.name_of Reading.run_of
goes_elsewhere = refl

pub forced_server_that_left : first_unlawful setting (instead 4 (Start 1 0 0 1 8 None 1) forced) ≡ Some 4
unfolding NameText.units_of Reading.message_read Reading.question_of Reading.record_of Reading.name_of Reading.run_of
forced_server_that_left = refl

-- where it stays it is asked again
pub forced_while_it_stays : first_unlawful setting (instead 4 (Start 1 0 0 1 8 None 1) (instead 3 (Servers (keyed 2 3 ∷ keyed 0 1 ∷ [])) forced)) ≡ None
unfolding NameText.units_of Reading.message_read Reading.question_of Reading.record_of Reading.name_of Reading.run_of
forced_while_it_stays = refl

-- a server that stays keeps its failures; one that comes back has another key, and so none
abbrev pub failed_once : List Entry
failed_once = journal_of (accepts 1 ask_x ∷ Start 1 0 0 0 7 None 0 ∷ Expire 1 0 2000 ∷ Servers (keyed 0 1 ∷ []) ∷ Servers (keyed 2 2 ∷ []) ∷ Servers (keyed 3 1 ∷ []) ∷ [])

pub keeps_failures : failures setting 0 (past_of (take 4 failed_once)) ≡ 1
unfolding NameText.units_of
keeps_failures = refl

pub comes_back_without_failures : failures setting 3 (past_of failed_once) ≡ 0
unfolding NameText.units_of
comes_back_without_failures = refl

-- how long an attempt waits is settled where it begins: here in the second round of two servers, of which one leaves then
abbrev pub second_round : List Entry
second_round = journal_of (
    accepts 1 ask_x
    ∷ Start 1 0 0 0 7 None 0
    ∷ Expire 1 0 2000
    ∷ Start 1 0 1 0 8 None 2000
    ∷ Expire 1 0 4000
    ∷ Start 1 0 0 0 9 None 4000
    ∷ Servers (keyed 0 1 ∷ [])
    ∷ Expire 1 0 8000
    ∷ [])

pub second_round_is_lawful : first_unlawful setting second_round ≡ None
unfolding NameText.units_of
second_round_is_lawful = refl

pub due_as_it_began : first_due setting (past_of (take 7 second_round)) ≡ Some (record { at = 8000; leg = leg_of 1 0 })
unfolding NameText.units_of
due_as_it_began = refl

pub not_before : first_unlawful setting (instead 7 (Expire 1 0 7999) second_round) ≡ Some 7
unfolding NameText.units_of
not_before = refl

-- but how many attempts a leg may spend is settled where one fails: two tries of the server that is left were spent, so it ends
pub ends_by_the_servers_there : status_in setting second_round 1 ≡ Some TimedOut
unfolding NameText.units_of
ends_by_the_servers_there = refl
