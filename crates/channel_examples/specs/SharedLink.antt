-- Two requests over one TCP link, which ends: one Fault fails both attempts, and both go on over the next link.
use Rattle.std.specs.Prelude.{true, List, ◌∷◌, [], ◌≡◌, None, refl, take, Some}
use Rattle.chan_types.specs.declared.journal.Entry.{Entry}
use Rattle.chan_types.specs.declared.journal.What.TheVariants.{Start, Fault}
use Rattle.resolv_options.specs.Defaults.{plain_values, plain_flags}
use Rattle.channel_model.specs.Choice.{failures}
use Rattle.channel_model.specs.Journal.{past_of}
use Rattle.channel_model.specs.Setting.{Setting}
use Rattle.channel_model.specs.Tests.{first_unlawful}
use Rattle.channel_examples.specs.Words.{channel_with, one_server, journal_of, accepts, ask_x, flights, instead}
use Rattle.dns_message.specs.NameText as NameText

abbrev pub setting : Setting
setting = channel_with (record plain_values { servers = one_server; flags = record plain_flags { usevc = true } })

abbrev pub journal : List Entry
journal = journal_of (
    accepts 1 ask_x
    ∷ accepts 2 ask_x
    ∷ Start 1 0 0 1 7 None 0
    ∷ Start 2 0 0 1 8 None 0
    ∷ Fault 0 1 5
    ∷ Start 1 0 0 2 9 None 5
    ∷ Start 2 0 0 2 10 None 5
    ∷ [])

pub is_lawful : first_unlawful setting journal ≡ None
unfolding NameText.units_of
is_lawful = refl

-- both were in flight, and the Fault counts once against the server
pub both_flew : flights setting (take 4 journal) ≡ 2
unfolding NameText.units_of
both_flew = refl

pub none_flies : flights setting (take 5 journal) ≡ 0
unfolding NameText.units_of
none_flies = refl

pub one_failure : failures setting 0 (past_of (take 5 journal)) ≡ 1
unfolding NameText.units_of
one_failure = refl

pub second_link_for_the_second : first_unlawful setting (instead 3 (Start 2 0 0 2 8 None 0) journal) ≡ Some 3
unfolding NameText.units_of
second_link_for_the_second = refl

-- the number of a link that ended isn't used again
pub ended_link_again : first_unlawful setting (instead 5 (Start 1 0 0 1 9 None 5) journal) ≡ Some 5
unfolding NameText.units_of
ended_link_again = refl

pub over_udp : first_unlawful setting (instead 2 (Start 1 0 0 0 7 None 0) journal) ≡ Some 2
unfolding NameText.units_of
over_udp = refl

-- an identifier that is in flight isn't used for another attempt
pub identifier_in_use : first_unlawful setting (instead 6 (Start 2 0 0 2 9 None 5) journal) ≡ Some 6
unfolding NameText.units_of
identifier_in_use = refl

-- the lesser request starts first
pub second_request_first : first_unlawful setting (instead 2 (Start 2 0 0 1 7 None 0) journal) ≡ Some 2
unfolding NameText.units_of
second_request_first = refl

-- numbers count the accepted requests
pub number_again : first_unlawful setting (instead 1 (accepts 1 ask_x) journal) ≡ Some 1
unfolding NameText.units_of
number_again = refl

pub number_left_out : first_unlawful setting (instead 1 (accepts 3 ask_x) journal) ≡ Some 1
unfolding NameText.units_of
number_left_out = refl
