-- The servers that are set behind a run's first turn.
use Rattle.std.specs.List.{list_any}
use Rattle.std.specs.Prelude.{Bool, IsFalse, IsTrue, List, None, Option, Some, [], is_some, ℕ, ◌++◌, ◌∷◌, ◌≡◌, ◌≤◌, ◌⊎◌}
use Rattle.chan_types.specs.declared.journal.Entry.{Entry}
use Rattle.chan_types.specs.declared.journal.What.TheVariants.{Servers}
use Rattle.channel_model.specs.Course.{IsCourse}
use Rattle.channel_model.specs.Journal.{is_destroyed, own_entries, past_of}
use Rattle.channel_model.specs.Servers.{keys_for, servers_set_by}
use Rattle.channel_model.specs.Setting.{Setting}
use Rattle.net_addr.specs.declared.addr.ServerAddr.{ServerAddr}
use Rattle.net_world.specs.declared.log.WorldCall.{WorldCall}
use Rattle.worker_session.specs.Turning.{longest_pause}

-- one of the entries sets servers
abbrev pub has_set : List Entry → Bool
has_set entries = list_any (λ entry. is_some (servers_set_by entry.what)) entries

-- the seat's own of these entries set none
abbrev pub SetsNone : ℕ → List Entry → Type 0
SetsNone seat entries = IsFalse (has_set (own_entries seat entries))

-- the entry by which the seat sets these servers behind a journal, on nobody's command
abbrev pub setting_entry : Setting → ℕ → List ServerAddr → List Entry → Entry
setting_entry setting seat addresses earlier = record { seat = seat; by = 0; what = Servers (keys_for setting addresses (past_of earlier)) }

-- a journal and a beginning of these calls fall into one turn of the seat
pub record IsOneTurn (setting : Setting) (seat : ℕ) (journal : List Entry) (calls : List WorldCall) : Type 0 where
  pub calls_earlier : List WorldCall
  pub calls_behind : List WorldCall
  pub calls_are : calls ≡ calls_earlier ++ calls_behind
  pub course : IsCourse setting seat longest_pause journal calls_earlier 1 0

-- behind the first turn of the seat, and before it made any other entry
pub record IsBehindFirst (setting : Setting) (seat : ℕ) (earlier : List Entry) (calls : List WorldCall) : Type 0 where
  pub first : List Entry
  pub others : List Entry
  pub parts : earlier ≡ first ++ others
  pub by_others : own_entries seat others ≡ []
  pub turn : IsOneTurn setting seat first calls

-- there the seat set these servers, once
pub record AreSet (setting : Setting) (seat : ℕ) (addresses : List ServerAddr) (journal : List Entry) (calls : List WorldCall) : Type 0 where
  pub earlier : List Entry
  pub behind : List Entry
  pub parts : journal ≡ earlier ++ setting_entry setting seat addresses earlier ∷ behind
  pub place : IsBehindFirst setting seat earlier calls
  pub none_earlier : SetsNone seat earlier
  pub none_behind : SetsNone seat behind

-- it set none, since the channel was destroyed there
pub record AreNotSet (setting : Setting) (seat : ℕ) (journal : List Entry) (calls : List WorldCall) : Type 0 where
  pub earlier : List Entry
  pub behind : List Entry
  pub parts : journal ≡ earlier ++ behind
  pub place : IsBehindFirst setting seat earlier calls
  pub destroyed : IsTrue (is_destroyed (past_of earlier))
  pub none : SetsNone seat journal

-- in so many turns the seat set these servers, if there are some, behind the first turn, unless the channel was destroyed before that or there was no turn; and no others
abbrev pub SetsBehindFirst : Setting → ℕ → Option (List ServerAddr) → ℕ → List Entry → List WorldCall → Type 0
SetsBehindFirst setting seat None made journal calls = SetsNone seat journal
SetsBehindFirst setting seat (Some addresses) made journal calls =
    ((made ≡ 0) × SetsNone seat journal) ⊎ AreSet setting seat addresses journal calls ⊎ AreNotSet setting seat journal calls

-- the same of a run that wanted memory: where it made no second turn, it may have set none
abbrev pub SetsSoFar : Setting → ℕ → Option (List ServerAddr) → ℕ → List Entry → List WorldCall → Type 0
SetsSoFar setting seat later made journal calls = SetsBehindFirst setting seat later made journal calls ⊎ ((made ≤ 1) × SetsNone seat journal)
