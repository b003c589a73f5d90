-- What the seats of a channel did, each one thing after the other.
use Rattle.std.specs.List.{AllByRecursion, list_all}
use Rattle.std.specs.Prelude.{Bool, IsTrue, List, Some, [], flat_map, is_some, length, map, min, nat_lt, not, sum_by, ℕ, ⊤, ◌&&◌, ◌+◌, ◌++◌, ◌-◌, ◌==◌, ◌^◌, ◌∷◌, ◌≡◌, ◌≢◌, ◌≤◌}
use Rattle.chan_types.specs.Gives.{gives}
use Rattle.chan_types.specs.Plans.{Plan}
use Rattle.chan_types.specs.declared.answer.Answer.{Answer}
use Rattle.chan_types.specs.declared.journal.Entry.{Entry}
use Rattle.chan_types.specs.declared.journal.What.TheVariants.{Take}
use Rattle.chan_types.specs.declared.orders.Orders.{Orders}
use Rattle.channel_model.specs.Completion.{fate, occurrences, taken, taken_by}
use Rattle.channel_model.specs.Journal.{own_entries, past_of, script_of}
use Rattle.channel_model.specs.Known.{Known}
use Rattle.channel_model.specs.Lawful.{IsLawful}
use Rattle.channel_model.specs.Setting.{Setting}
use Rattle.ticket_delivery.specs.Performing.{Performs}

-- a callback's call: the answer that it was told, its script, and how many of the requests that it asked were lost, as far as a count goes
pub record Telling : Type 0 where
  pub answer : Answer
  pub script : Plan
  pub lost : ℕ

-- what a seat does: something on nobody's command by which it takes nothing; it takes a request whose callback another seat calls; it calls the callback of a request that another seat took; or it takes a request and calls its callback right behind that
pub data Work : Type 0 where
  freely : Work
  taking : ℕ → Work
  calling : Telling → Work
  delivering : Telling → Work

-- the calls of callbacks among what a seat did, in order
abbrev pub tellings : List Work → List Telling
tellings [] = []
tellings (freely ∷ works) = tellings works
tellings (taking request ∷ works) = tellings works
tellings (calling telling ∷ works) = telling ∷ tellings works
tellings (delivering telling ∷ works) = telling ∷ tellings works

-- the requests whose callbacks it called
abbrev pub requests_told : List Work → List ℕ
requests_told works = map (λ telling. telling.answer.number) (tellings works)

-- those of requests that other seats took
abbrev pub called_for : List Work → List ℕ
called_for [] = []
called_for (freely ∷ works) = called_for works
called_for (taking request ∷ works) = called_for works
called_for (calling telling ∷ works) = telling.answer.number ∷ called_for works
called_for (delivering telling ∷ works) = called_for works

-- the requests that it took for others
abbrev pub handed_over : List Work → List ℕ
handed_over [] = []
handed_over (freely ∷ works) = handed_over works
handed_over (taking request ∷ works) = request ∷ handed_over works
handed_over (calling telling ∷ works) = handed_over works
handed_over (delivering telling ∷ works) = handed_over works

-- the entry takes no request, and is on nobody's command
abbrev pub is_free : Entry → Bool
is_free entry = not (is_some (taken_by entry.what)) && (entry.by == 0)

-- the entry by which a seat takes a request
abbrev pub taking_entry : ℕ → ℕ → Entry
taking_entry seat request = record { seat = seat; by = 0; what = Take request }

-- what a desk has seen of the journal went on, and these of the new entries are its seat's
pub record Makes (made : List Entry) (old new : Known) : Type 0 where
  pub since : List Entry
  pub seen : new.seen ≡ old.seen ++ since
  pub own : own_entries old.seat since ≡ made
  pub setting : new.setting ≡ old.setting
  pub seat : new.seat ≡ old.seat

module _ (orders : Orders) where
  -- what a callback commands by its script was performed through a desk, and so many of its requests were lost
  abbrev pub Obeys : Telling → Known → Known → Type 0
  Obeys telling old new = Performs (gives telling.script telling.answer orders) telling.answer.number old new telling.lost

  -- one of these was done through a desk
  abbrev pub DoesWork : Work → Known → Known → Type 0
  DoesWork freely old new = (made : List Entry) × Makes made old new × IsTrue (list_all is_free made)
  DoesWork (taking request) old new = Makes (taking_entry old.seat request ∷ []) old new
  DoesWork (calling telling) old new = Obeys telling old new
  DoesWork (delivering telling) old new =
      (middle : Known) × Makes (taking_entry old.seat telling.answer.number ∷ []) old middle × Obeys telling middle new

  -- these were done, one after the other, and nothing else
  abbrev pub DoesWorks : List Work → Known → Known → Type 0
  DoesWorks [] old new = new ≡ old
  DoesWorks (work ∷ works) old new = (middle : Known) × DoesWork work old middle × DoesWorks works middle new

-- a seat's time in a channel: what its desk knew first, what it did, and what it knew behind that
pub record Shift : Type 0 where
  pub before : Known
  pub works : List Work
  pub after : Known

-- the callback was told its request's fate, and is the one with which the request was accepted
pub record IsOfRequest (setting : Setting) (journal : List Entry) (telling : Telling) : Type 0 where
  pub fated : fate setting telling.answer.number (past_of journal) ≡ Some telling.answer
  pub scripted : script_of telling.answer.number (past_of journal) ≡ Some telling.script

module _ (setting : Setting) (journal : List Entry) (orders : Orders) (last : ℕ) where
  -- all that this seat did in a channel of this journal
  pub record IsShift (seat : ℕ) (shift : Shift) : Type 0 where
    pub seat_is : shift.before.seat ≡ seat
    pub setting_is : shift.before.setting ≡ setting
    -- it had seen nothing before
    pub unseen : shift.before.seen ≡ []
    pub does : DoesWorks orders shift.works shift.before shift.after
    -- what it had seen then is no longer than up to the last position
    pub in_time : length shift.after.seen ≤ last
    -- and the journal goes on behind it with no entry of its that takes a request or is on a callback's command
    pub behind : List Entry
    pub parts : journal ≡ shift.after.seen ++ behind
    pub free_behind : IsTrue (list_all is_free (own_entries seat behind))
    pub of_requests : AllByRecursion (IsOfRequest setting journal) (tellings shift.works)
    -- what it called for other seats it hadn't taken
    pub apart : (request : ℕ) → occurrences request (called_for shift.works) ≢ 0 → occurrences request (handed_over shift.works) ≡ 0

  -- these are the shifts of the seats with these numbers, one by one
  abbrev pub AreShiftsFrom : ℕ → List Shift → Type 0
  AreShiftsFrom seat [] = ⊤
  AreShiftsFrom seat (shift ∷ shifts) = IsShift seat shift × AreShiftsFrom (seat + 1) shifts

  -- these are the shifts of all seats of the channel, and each request that was taken was told to its callback once
  pub record AreShiftsOf (shifts : List Shift) : Type 0 where
    pub lawful : IsLawful setting journal
    pub each : AreShiftsFrom 0 shifts
    pub makers : IsTrue (list_all (λ entry. nat_lt entry.seat (length shifts)) journal)
    pub once : (request : ℕ) → occurrences request (flat_map (λ shift. requests_told shift.works) shifts) ≡ occurrences request (taken (past_of journal))

-- how many requests were lost through a seat, each call's as far as a count goes
abbrev pub lost_through : Shift → ℕ
lost_through shift = sum_by (λ telling. telling.lost) (tellings shift.works)

-- so many were lost as all counted, as far as a count goes
abbrev pub IsLostCount : List Shift → ℕ → Type 0
IsLostCount shifts lost = min (sum_by lost_through shifts) (2 ^ 64 - 1) ≡ min lost (2 ^ 64 - 1)
