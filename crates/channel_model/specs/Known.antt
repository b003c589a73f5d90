-- What a desk knows of its channel, and what a call adds to it. A desk is a way to use a channel: one owner's or one thread's.
use Rattle.std.specs.List.{AllByRecursion}
use Rattle.std.specs.Prelude.{ℕ, List, Option, ◌≡◌, ◌++◌, ◌≢◌}
use base.Stored.{Gv}
use Rattle.chan_types.specs.declared.journal.Entry.{Entry}
use Rattle.chan_types.specs.declared.journal.What.{What}
use Rattle.channel_model.specs.Journal.{own_entries, past_of}
use Rattle.channel_model.specs.Lawful.{IsLawful}
use Rattle.channel_model.specs.Meanings.{Meaning}
use Rattle.channel_model.specs.Names.{Names, NamesBecome, NamesStay}
use Rattle.channel_model.specs.Seen.{entries_of}
use Rattle.channel_model.specs.Setting.{Setting}

-- the channel's setting; which channel it is, where there are several; the desk's seat; the request whose callback's commands it performs, or 0; the entries that it made; a journal with which the channel's begins; and the names of the tokens in it, if it has the channel alone
pub record Known : Type 0 where
  pub setting : Setting
  pub home : Gv
  pub seat : ℕ
  pub voice : ℕ
  pub own : List Entry
  pub seen : List Entry
  pub names : Option Names

-- the journal stood so when a call took effect: what stands there behind what the desk had seen was made by other seats
pub record StandsAt (old : Known) (here : List Entry) : Type 0 where
  pub others : List Entry
  pub parts : here ≡ old.seen ++ others
  pub by_others : AllByRecursion (λ entry. entry.seat ≢ old.seat) others

-- the setting, the channel, the seat and the voice are as before
pub record IsSameDesk (old new : Known) : Type 0 where
  pub setting : new.setting ≡ old.setting
  pub home : new.home ≡ old.home
  pub seat : new.seat ≡ old.seat
  pub voice : new.voice ≡ old.voice

-- a call with this meaning was made through a desk, on this request's command or on nobody's: it took effect where the journal stood at `here`, and added there what it means; the journal is lawful with it
pub record Calls (meaning : Meaning) (by : ℕ) (old new : Known) : Type 0 where
  pub here : List Entry
  pub added : Option What
  pub meant : meaning old.setting (past_of here) added
  pub desk : IsSameDesk old new
  pub stands : StandsAt old here
  pub seen : new.seen ≡ here ++ entries_of old.seat by added
  pub own : new.own ≡ old.own ++ entries_of old.seat by added
  pub names : NamesBecome added old.names new.names
  pub lawful : IsLawful new.setting new.seen

-- between two moments the desk stayed the same, the journal that it has seen went on and is lawful if it was, the desk made those of the new entries that have its seat, and tokens stayed but those of requests that were accepted or taken
pub record GoesOn (old new : Known) : Type 0 where
  pub desk : IsSameDesk old new
  pub since : List Entry
  pub seen : new.seen ≡ old.seen ++ since
  pub lawful : IsLawful old.setting old.seen → IsLawful new.setting new.seen
  pub own : new.own ≡ old.own ++ own_entries old.seat since
  pub names : NamesStay since old.names new.names
