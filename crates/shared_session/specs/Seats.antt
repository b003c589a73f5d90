-- Who makes the entries of a session's channel, and when its requests are asked.
use Rattle.std.specs.List.{list_all}
use Rattle.std.specs.Prelude.{Bool, IsTrue, List, [], if◌then◌else◌, is_some, nat_lt, not, ℕ, ◌&&◌, ◌+◌, ◌++◌, ◌==◌, ◌||◌, ◌≡◌}
use Rattle.chan_types.specs.declared.journal.Entry.{Entry}
use Rattle.channel_model.specs.Commands.{accepted_for}
use Rattle.channel_model.specs.Completion.{taken_by}
use Rattle.channel_model.specs.Course.{is_of_turn}
use Rattle.channel_model.specs.Journal.{accepted_by, is_destroy, own_entries}
use Rattle.channel_model.specs.Servers.{servers_set_by}

-- the seats of a session with so many workers: its turner's, its owner's, and one for each worker
abbrev pub seats_for : ℕ → ℕ
seats_for workers = workers + 2

-- what a session does for itself through its first seat: it asks, makes turns, sets servers, destroys the channel, and takes what is left
abbrev pub is_first_work : Entry → Bool
is_first_work entry = is_some (accepted_by entry.what) || is_of_turn entry || is_some (servers_set_by entry.what) || is_destroy entry.what || is_some (taken_by entry.what)

-- what it does for itself: so much through its first seat, and through its second it takes requests
abbrev pub is_own_work : Entry → Bool
is_own_work entry = ((entry.seat == 0) && is_first_work entry) || ((entry.seat == 1) && is_some (taken_by entry.what))

-- what callbacks command: it is no turn's, and neither takes a request nor sets servers
abbrev pub is_command : Entry → Bool
is_command entry = not (is_of_turn entry) && not (is_some (servers_set_by entry.what)) && not (is_some (taken_by entry.what))

-- the entry is of one of these seats; and a callback commanded it, or the session made it for itself
abbrev pub is_seated : ℕ → Entry → Bool
is_seated workers entry = nat_lt entry.seat (seats_for workers) && (if entry.by == 0 then is_own_work entry else is_command entry)

abbrev pub AreSeated : ℕ → List Entry → Type 0
AreSeated workers journal = IsTrue (list_all (is_seated workers) journal)

-- the entry accepts a request on nobody's command
abbrev pub is_asking : Entry → Bool
is_asking entry = (entry.by == 0) && is_some (accepted_by entry.what)

-- the requests on nobody's command were accepted through the first seat before anything else was done through it
pub record AsksFirst (journal : List Entry) : Type 0 where
  pub asking : List Entry
  pub behind : List Entry
  pub parts : own_entries 0 journal ≡ asking ++ behind
  pub asks_only : IsTrue (list_all is_asking asking)
  pub none_behind : accepted_for 0 behind ≡ []
