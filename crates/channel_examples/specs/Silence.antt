-- Two servers, two tries of each, and silence: the servers are asked in turn, the second round waits twice as long, and then the request has timed out.
use Rattle.std.specs.Prelude.{List, ◌∷◌, [], ◌≡◌, None, refl, Some}
use Rattle.chan_types.specs.declared.journal.Entry.{Entry}
use Rattle.chan_types.specs.declared.journal.What.TheVariants.{Start, Expire, Take}
use Rattle.chan_types.specs.declared.status.Status.TheVariants.{TimedOut}
use Rattle.resolv_options.specs.Defaults.{plain_values}
use Rattle.channel_model.specs.Setting.{Setting}
use Rattle.channel_model.specs.Tests.{first_unlawful}
use Rattle.channel_examples.specs.Words.{channel_with, two_servers, journal_of, accepts, ask_x, status_in, instead, cut_to}
use Rattle.dns_message.specs.NameText as NameText

abbrev pub setting : Setting
setting = channel_with (record plain_values { servers = two_servers; tries = 2 })

abbrev pub journal : List Entry
journal = journal_of (
    accepts 1 ask_x
    ∷ Start 1 0 0 0 7 None 0
    ∷ Expire 1 0 2000
    ∷ Start 1 0 1 0 8 None 2000
    ∷ Expire 1 0 4000
    ∷ Start 1 0 0 0 9 None 4000
    ∷ Expire 1 0 8000
    ∷ Start 1 0 1 0 10 None 8000
    ∷ Expire 1 0 12000
    ∷ Take 1
    ∷ [])

pub is_lawful : first_unlawful setting journal ≡ None
unfolding NameText.units_of
is_lawful = refl

pub times_out : status_in setting journal 1 ≡ Some TimedOut
unfolding NameText.units_of
times_out = refl

-- an attempt doesn't expire before its time
pub early_expire : first_unlawful setting (instead 2 (Expire 1 0 1999) journal) ≡ Some 2
unfolding NameText.units_of
early_expire = refl

pub early_in_the_second_round : first_unlawful setting (instead 6 (Expire 1 0 7999) journal) ≡ Some 6
unfolding NameText.units_of
early_in_the_second_round = refl

-- the second attempt goes to the server that hasn't failed
pub wrong_server : first_unlawful setting (instead 3 (Start 1 0 0 0 8 None 2000) journal) ≡ Some 3
unfolding NameText.units_of
wrong_server = refl

-- what hasn't completed isn't taken
pub early_take : first_unlawful setting (instead 8 (Take 1) journal) ≡ Some 8
unfolding NameText.units_of
early_take = refl

-- there is no fifth attempt
pub fifth_attempt : first_unlawful setting (cut_to 9 (Start 1 0 0 0 11 None 12000) journal) ≡ Some 9
unfolding NameText.units_of
fifth_attempt = refl

-- what was taken isn't taken again
pub second_take : first_unlawful setting (cut_to 10 (Take 1) journal) ≡ Some 10
unfolding NameText.units_of
second_take = refl
