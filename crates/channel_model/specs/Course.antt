-- How a run goes: turns in order, with waits between them, and between two turns all that was ready is delivered.
use Rattle.std.specs.List.{list_all}
use Rattle.std.specs.Option.{option_map_or}
use Rattle.std.specs.Prelude.{Bool, IsTrue, List, None, Option, Some, [], false, flat_map, length, map, min, nat_lt, not, sum_by, true, ℕ, ⊤, ◌&&◌, ◌++◌, ◌+◌, ◌-◌, ◌==◌, ◌^◌, ◌||◌, ◌∷◌, ◌≡◌, ◌⊎◌}
use mathlib.Core.List.{IsPrefix}
use Rattle.chan_types.specs.declared.journal.Entry.{Entry}
use Rattle.net_addr.specs.declared.addr.ServerAddr.{ServerAddr}
use Rattle.net_world.specs.declared.answers.Waited.{Waited}
use Rattle.net_world.specs.declared.log.WorldCall.{WorldCall}
use Rattle.net_world.specs.declared.log.WorldCall.TheVariants.{Now, Serve, Wait}
use Rattle.channel_model.specs.Completion.{pending, ready, waiting}
use Rattle.channel_model.specs.Flight.{in_flight}
use Rattle.channel_model.specs.Journal.{Past}
use Rattle.channel_model.specs.Lawful.{first_due}
use Rattle.channel_model.specs.Setting.{Setting}
use Rattle.channel_model.specs.Stretch.{Standing, beginning, behind}
use Rattle.channel_model.specs.Turn.{IsCutTurn, IsTurn, most_entries, parts_of_entry}

-- one wait: up to which moment, and how it ended
pub record Rest : Type 0 where
  pub until : ℕ
  pub outcome : Waited

-- one turn, what stands behind it up to the next, the readings of the clock there that are no turn's, and the wait there if there is one
pub record Round : Type 0 where
  pub reading : ℕ
  pub entries : List Entry
  pub calls : List WorldCall
  pub new : Standing
  pub between : List Entry
  pub asides : List ℕ
  pub rest : Option Rest

-- the calls of a wait, if there is one
abbrev pub calls_of_rest : Option Rest → List WorldCall
calls_of_rest None = []
calls_of_rest (Some rest) = Wait rest.until rest.outcome ∷ []

-- the entries of a turn, and those behind it
abbrev pub entries_of : Round → List Entry
entries_of round = round.entries ++ round.between

-- readings of the clock, one behind the other
abbrev pub readings : List ℕ → List WorldCall
readings moments = map (λ moment. Now moment) moments

-- the calls of a turn, the readings behind it that are no turn's, and the wait there
abbrev pub calls_of : Round → List WorldCall
calls_of round = round.calls ++ readings round.asides ++ calls_of_rest round.rest

-- how many readings of the clock stand behind these turns that are no turn's
abbrev pub asides_of : List Round → ℕ
asides_of rounds = sum_by (λ round. length round.asides) rounds

-- the servers are told, each with its number, from this one on
abbrev pub serves_from : ℕ → List ServerAddr → List WorldCall
serves_from server [] = []
serves_from server (address ∷ addresses) = Serve server address ∷ serves_from (server + 1) addresses

-- only a turn makes such an entry
abbrev pub is_of_turn : Entry → Bool
is_of_turn entry = not (length (parts_of_entry entry.what) == 0)

-- no entry is one that only a turn makes
abbrev pub has_no_turn : List Entry → Bool
has_no_turn entries = list_all (λ entry. not (is_of_turn entry)) entries

-- the standing behind these turns, from a standing on
abbrev pub standing_after : Standing → List Round → Standing
standing_after standing [] = standing
standing_after standing (round ∷ rounds) = standing_after (behind round.new round.between) rounds

-- what may be tested of a position: what happened before it, and the entries behind it
abbrev pub Test : Type 0
Test = Past → List Entry → Bool

-- the test holds here, or at a later position before the first entry that stops the search
abbrev pub holds_before : (Entry → Bool) → Test → Test
holds_before stops test past [] = test past []
holds_before stops test past (entry ∷ entries) = test past (entry ∷ entries) || (not (stops entry) && holds_before stops test (entry.what ∷ past) entries)

-- the test holds at a position from this past on, up to the end of these entries
abbrev pub anywhere : Test → Test
anywhere test = holds_before (λ entry. false) test

-- the test holds here, or at a later position before the seat's next entry
abbrev pub soon : ℕ → Test → Test
soon seat test = holds_before (λ entry. entry.seat == seat) test

-- no entry is the seat's
abbrev pub has_none_of : ℕ → List Entry → Bool
has_none_of seat entries = list_all (λ entry. not (entry.seat == seat)) entries

module _ (setting : Setting) where
  -- the run was cut short while it told the servers
  pub record IsCutServing (journal : List Entry) (log : List WorldCall) : Type 0 where
    pub told_so_far : IsPrefix log (serves_from 0 setting.options.servers)
    pub no_turn : IsTrue (has_no_turn journal)

  -- here a run goes on without a wait: nothing is pending, or something is ready, or a leg waits and an identifier is left
  abbrev pub skips : Past → Bool
  skips past =
      (length (pending setting past) == 0)
      || not (length (ready setting past) == 0)
      || (not (length (waiting setting past) == 0) && nat_lt (length (in_flight setting past)) most_entries)

  -- the moment up to which a run waits here: the earlier of the first deadline in flight and the last reading plus the slice; moments stop at the greatest of 64 bits
  abbrev pub wakes_at : ℕ → ℕ → Past → ℕ
  wakes_at reading slice past =
      let latest = min (reading + slice) (2 ^ 64 - 1) in
      option_map_or (λ due. min due.at latest) (first_due setting past) latest

  module _ (seat slice : ℕ) where
    -- here a wait is called for, and soon there is a position whose moment it is up to, and there the test holds
    abbrev pub waits_there : ℕ → ℕ → Test → Test
    waits_there reading until test past entries =
        not (skips past) && soon seat (λ here later. (until == wakes_at reading slice here) && test here later) past entries

    -- here the wait stands that is called for, or there is none, and none is called for; and soon the test holds
    abbrev pub rests_there : ℕ → Option Rest → Test → Test
    rests_there reading None test past entries = skips past && soon seat test past entries
    rests_there reading (Some rest) test past entries = waits_there reading rest.until (soon seat test) past entries

    -- the wait behind a turn, if there is one, is called for at a position there, and is up to the moment that is given there; before it has both the seat makes no entry
    abbrev pub is_timely : Round → Bool
    is_timely round =
        option_map_or (λ rest. anywhere (waits_there round.reading rest.until (λ here later. true)) round.new.past round.between) round.rest true

    -- behind a turn there is a position at which nothing is ready, and there or soon behind it the test holds
    abbrev pub delivers_then : Test → Round → Bool
    delivers_then test round = anywhere (λ past entries. (length (ready setting past) == 0) && soon seat test past entries) round.new.past round.between

    -- behind a turn nothing is ready, then there is a wait, or none is called for, and then a request is pending; all that without an entry of the seat, which makes none from there on
    abbrev pub goes_on : Round → Bool
    goes_on round = delivers_then (rests_there round.reading round.rest (λ here later. not (length (pending setting here) == 0) && has_none_of seat later)) round

    -- another turn follows only where the run goes on
    abbrev pub may_follow : Round → List Round → Bool
    may_follow round [] = true
    may_follow round (next ∷ rounds) = goes_on round

    -- from a standing on, these are turns of the seat, one behind the other
    abbrev pub AreTurns : Standing → List Round → Type 0
    AreTurns standing [] = ⊤
    AreTurns standing (round ∷ rounds) =
        IsTurn setting seat round.reading standing round.entries round.calls round.new
        × IsTrue (has_no_turn round.between)
        × IsTrue (is_timely round)
        × IsTrue (may_follow round rounds)
        × AreTurns (behind round.new round.between) rounds

    -- the journal and the log of a run fall into so many turns of the seat, and so many readings of the clock that are no turn's: before the first turn the servers are told, and nothing waits
    pub record IsCourse (journal : List Entry) (log : List WorldCall) (turns asides : ℕ) : Type 0 where
      pub first : List Entry
      pub first_asides : List ℕ
      pub rounds : List Round
      pub journal_is : journal ≡ first ++ flat_map entries_of rounds
      pub log_is : log ≡ serves_from 0 setting.options.servers ++ readings first_asides ++ flat_map calls_of rounds
      pub before : IsTrue (has_no_turn first)
      pub turns_are : AreTurns (behind beginning first) rounds
      pub count : length rounds ≡ turns
      pub asides_are : length first_asides + asides_of rounds ≡ asides
      -- no other seat makes such entries
      pub of_seat : IsTrue (list_all (λ entry. not (is_of_turn entry) || (entry.seat == seat)) journal)

    -- the run was cut short in the last of so many turns
    pub record IsCutCourse (journal : List Entry) (log : List WorldCall) (turns asides : ℕ) : Type 0 where
      pub whole : ℕ
      pub count : turns ≡ whole + 1
      pub earlier : List Entry
      pub cut : List Entry
      pub later : List Entry
      pub calls_earlier : List WorldCall
      pub calls_cut : List WorldCall
      pub reading : ℕ
      pub course : IsCourse earlier calls_earlier whole asides
      pub going_on : IsTrue (list_all goes_on course.rounds)
      pub turn : IsCutTurn setting seat reading (standing_after (behind beginning course.first) course.rounds) cut calls_cut
      pub no_turn : IsTrue (has_no_turn later)
      pub journal_is : journal ≡ earlier ++ cut ++ later
      pub log_is : log ≡ calls_earlier ++ calls_cut
      -- no other seat makes entries of turns
      pub of_seat : IsTrue (list_all (λ entry. not (is_of_turn entry) || (entry.seat == seat)) journal)

    -- a run that wanted memory: so many turns were made, the last of which may have been cut short, or it was cut short before the first
    abbrev pub IsCourseSoFar : List Entry → List WorldCall → ℕ → ℕ → Type 0
    IsCourseSoFar journal log turns asides =
        IsCourse journal log turns asides ⊎ IsCutCourse journal log turns asides ⊎ (IsCutServing journal log × (turns ≡ 0) × (asides ≡ 0))
