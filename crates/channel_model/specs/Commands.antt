-- The commands of callbacks are obeyed: each has its place in the journal, where its entry stands if it leaves one.
use Rattle.std.specs.List.{list_all, list_any}
use Rattle.std.specs.Option.{option_map_or}
use Rattle.std.specs.Prelude.{Bool, IsFalse, IsTrue, List, None, Option, Some, [], count_by, false, filter_map, if◌then◌else◌, length, map, nat_le, nat_lt, not, option_map, position, slice_get, sum_by, take, true, ℕ, ⊤, ◌&&◌, ◌++◌, ◌+◌, ◌==◌, ◌||◌, ◌∷◌, ◌≡◌, ◌≤◌, ◌<◌}
use Rattle.chan_types.specs.Gives.{gives}
use Rattle.chan_types.specs.Plans.{Plan}
use Rattle.chan_types.specs.declared.command.Command.{Command}
use Rattle.chan_types.specs.declared.command.Command.TheVariants.{Ask}
use Rattle.chan_types.specs.declared.journal.Entry.{Entry}
use Rattle.chan_types.specs.declared.journal.What.{What}
use Rattle.chan_types.specs.declared.journal.What.TheVariants.{Accept}
use Rattle.chan_types.specs.declared.orders.Orders.{Orders}
use Rattle.chan_types.specs.declared.spec.Spec.{Spec}
use Rattle.channel_model.specs.Completion.{taken, taken_by, fate, pending, requests}
use Rattle.channel_model.specs.Journal.{Past, accepted_by, is_destroy, is_destroyed, past_of, script_of}
use Rattle.channel_model.specs.Setting.{Setting}

-- what became of a command: it left its entry at this position, or it left none there, or it is a request that was lost there for want of memory
pub data Outcome : Type 0 where
  left : ℕ → Outcome
  passed : ℕ → Outcome
  lost : ℕ → Outcome

-- the position at which a command was performed
abbrev pub position_of : Outcome → ℕ
position_of (left position) = position
position_of (passed position) = position
position_of (lost position) = position

-- the first position at which the next command may be performed: one further, where an entry was left
abbrev pub position_behind : Outcome → ℕ
position_behind (left position) = position + 1
position_behind (passed position) = position
position_behind (lost position) = position

-- the positions at which commands left an entry
abbrev pub positions_left : List Outcome → List ℕ
positions_left [] = []
positions_left (left position ∷ outcomes) = position ∷ positions_left outcomes
positions_left (passed position ∷ outcomes) = positions_left outcomes
positions_left (lost position ∷ outcomes) = positions_left outcomes

-- the request was lost
abbrev pub is_lost : Outcome → Bool
is_lost (left position) = false
is_lost (passed position) = false
is_lost (lost position) = true

-- the positions of the entries that satisfy a test, the first entry having this one
abbrev pub positions_from : (Entry → Bool) → ℕ → List Entry → List ℕ
positions_from test position [] = []
positions_from test position (entry ∷ entries) =
    (if test entry then position ∷ [] else []) ++ positions_from test (position + 1) entries

-- the positions of the entries that a request's callback commanded
abbrev pub commanded_by : ℕ → List Entry → List ℕ
commanded_by request journal = positions_from (λ entry. entry.by == request) 0 journal

-- the request is one of these
abbrev pub is_one_of : List ℕ → ℕ → Bool
is_one_of requests request = list_any (λ other. other == request) requests

-- the seat takes the request with this entry
abbrev pub is_own_take : ℕ → ℕ → Entry → Bool
is_own_take seat request entry = (entry.seat == seat) && option_map_or (λ number. number == request) (taken_by entry.what) false

-- where the seat took the request, the position is behind that
abbrev pub is_behind_take : List Entry → ℕ → ℕ → ℕ → Bool
is_behind_take journal seat request position =
    list_all (λ position_of_take. nat_lt position_of_take position) (positions_from (is_own_take seat request) 0 journal)

-- the seat makes such an entry on another command than this request's, or on nobody's
abbrev pub is_other_work : ℕ → ℕ → Entry → Bool
is_other_work seat request entry = (entry.seat == seat) && not (entry.by == request)

-- the position isn't behind the first of these that is behind the other position
abbrev pub is_before_next : ℕ → ℕ → List ℕ → Bool
is_before_next position from [] = true
is_before_next position from (next ∷ positions) = if nat_lt from next then nat_le position next else is_before_next position from positions

-- where the seat took the request, the position isn't behind what the seat did next beside the request's commands
abbrev pub is_before_other_work : List Entry → ℕ → ℕ → ℕ → Bool
is_before_other_work journal seat request position =
    list_all (λ position_of_take. is_before_next position position_of_take (positions_from (is_other_work seat request) 0 journal))
    (positions_from (is_own_take seat request) 0 journal)

-- what happened before a position of the journal
abbrev pub past_at : List Entry → ℕ → Past
past_at journal position = past_of (take position journal)

-- the command asks a request
abbrev pub is_ask : Command → Bool
is_ask (Ask spec script) = true
is_ask Command.Cancel = false
is_ask Command.Destroy = false

-- the entry is the command's: for a request its Accept, with what is asked and the script of the callback
abbrev pub IsEntryOf : Command → What → Type 0
IsEntryOf (Ask spec script) what = (number : ℕ) × (what ≡ Accept number spec script)
IsEntryOf Command.Cancel what = what ≡ What.Cancel
IsEntryOf Command.Destroy what = what ≡ What.Destroy

-- the command's entry stands at this position of the journal
pub record IsAt (journal : List Entry) (command : Command) (position : ℕ) : Type 0 where
  pub entry : Entry
  pub stands : slice_get journal position ≡ Some entry
  pub is_its : IsEntryOf command entry.what

-- a request that is asked, and the script of its callback
pub record Asking : Type 0 where
  pub spec : Spec
  pub script : Plan

-- the request that a command asks
abbrev pub asking_of : Command → Option Asking
asking_of (Ask spec script) = Some (record { spec = spec; script = script })
asking_of Command.Cancel = None
asking_of Command.Destroy = None

-- the request that an entry accepts, as it was asked
abbrev pub asking_in : What → Option Asking
asking_in what = option_map (λ request. record { spec = request.spec; script = request.script }) (accepted_by what)

-- the requests that were accepted on the command of a request's callback, in order
abbrev pub accepted_for : ℕ → List Entry → List Asking
accepted_for request journal = filter_map (λ entry. if entry.by == request then asking_in entry.what else None) journal

-- the commands that left no entry, in order
abbrev pub without_entry : List Command → List Outcome → List Command
without_entry [] outcomes = []
without_entry (command ∷ commands) [] = []
without_entry (command ∷ commands) (left position ∷ outcomes) = without_entry commands outcomes
without_entry (command ∷ commands) (passed position ∷ outcomes) = command ∷ without_entry commands outcomes
without_entry (command ∷ commands) (lost position ∷ outcomes) = command ∷ without_entry commands outcomes

-- the position of the Destroy that no callback commanded, or the journal's length where there is none
abbrev pub closing_from : ℕ → List Entry → ℕ
closing_from position [] = position
closing_from position (entry ∷ entries) =
    if is_destroy entry.what && (entry.by == 0) then position else closing_from (position + 1) entries

-- how a callback's commands were performed: of which request, by which seat, and what became of each
pub record Performance : Type 0 where
  pub request : ℕ
  pub seat : ℕ
  pub outcomes : List Outcome

module _ (setting : Setting) where
  -- the command leaves an entry, where this happened before: a request is refused and a second destroy does nothing once the channel is destroyed, and a cancel does nothing where nothing is pending
  abbrev pub leaves : Command → Past → Bool
  leaves (Ask spec script) past = not (is_destroyed past)
  leaves Command.Cancel past = not (length (pending setting past) == 0)
  leaves Command.Destroy past = not (is_destroyed past)

  module _ (journal : List Entry) where
    -- the commands of a request's callback: what its script gives for the answer with which it completed
    abbrev pub commands_for : Orders → ℕ → List Command
    commands_for orders request =
        option_map_or (λ script. option_map_or (λ answer. gives script answer orders) (fate setting request (past_of journal)) []) (script_of request (past_of journal)) []

    -- this became of the command: it left its entry exactly where it leaves one, but for a request that was lost
    abbrev pub Became : Command → Outcome → Type 0
    Became command (left position) = IsAt journal command position × IsTrue (leaves command (past_at journal position))
    Became command (passed position) = (position ≤ length journal) × IsFalse (leaves command (past_at journal position))
    Became command (lost position) = (position ≤ length journal) × IsTrue (is_ask command) × IsTrue (leaves command (past_at journal position))

    -- the command had nothing to do at a position up to the last one
    abbrev pub HadNothing : ℕ → Command → Type 0
    HadNothing last command = (position : ℕ) × (position ≤ last) × IsFalse (leaves command (past_at journal position))

    -- the commands were performed one after the other, from a position on
    abbrev pub AllBecame : ℕ → List Command → List Outcome → Type 0
    AllBecame from [] [] = ⊤
    AllBecame from [] (outcome ∷ outcomes) = ⊥
    AllBecame from (command ∷ commands) [] = ⊥
    AllBecame from (command ∷ commands) (outcome ∷ outcomes) =
        (from ≤ position_of outcome) × Became command outcome × AllBecame (position_behind outcome) commands outcomes

    -- one of so many seats performed the commands of the request's callback, none behind the last position
    pub record IsPerformed (seats : ℕ) (orders : Orders) (last : ℕ) (p : Performance) : Type 0 where
      pub seated : p.seat < seats
      -- each command has its outcome, in order
      pub became : AllBecame 0 (commands_for orders p.request) p.outcomes
      -- the entries that the callback commanded are theirs, and no other
      pub entries_are : commanded_by p.request journal ≡ positions_left p.outcomes
      -- that seat made them
      pub of_seat : IsTrue (list_all (λ entry. not (entry.by == p.request) || (entry.seat == p.seat)) journal)
      pub in_time : IsTrue (list_all (λ outcome. nat_le (position_of outcome) last) p.outcomes)
      -- where that seat took the request, it performed them behind that
      pub behind_take : IsTrue (list_all (λ outcome. is_behind_take journal p.seat p.request (position_of outcome)) p.outcomes)
      -- and before it did anything else
      pub before_other_work : IsTrue (list_all (λ outcome. is_before_other_work journal p.seat p.request (position_of outcome)) p.outcomes)

    -- each of these was performed
    abbrev pub ArePerformed : ℕ → Orders → ℕ → List Performance → Type 0
    ArePerformed seats orders last [] = ⊤
    ArePerformed seats orders last (p ∷ ps) = IsPerformed seats orders last p × ArePerformed seats orders last ps

    -- the commands of the callbacks of all taken requests were performed by so many seats, none behind the last position, and so many requests were lost
    pub record ObeysOrders (seats : ℕ) (orders : Orders) (last : ℕ) (count_lost : ℕ) : Type 0 where
      pub performances : List Performance
      pub requests_are : map (λ p. p.request) performances ≡ taken (past_of journal)
      pub performed : ArePerformed seats orders last performances
      -- no other request's callback commanded an entry
      pub givers : IsTrue (list_all (λ entry. (entry.by == 0) || is_one_of (taken (past_of journal)) entry.by) journal)
      pub lost_are : count_lost ≡ sum_by (λ p. count_by is_lost p.outcomes) performances

-- the position of the Destroy that no callback commanded, or the journal's length where there is none
abbrev pub closing_position : List Entry → ℕ
closing_position journal = closing_from 0 journal
