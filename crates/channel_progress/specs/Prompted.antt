-- Whether requests that are accepted between two turns are accepted because one has completed.
use Rattle.std.specs.List.{list_any}
use Rattle.std.specs.Prelude.{Bool, List, count_by, is_some, length, not, ℕ, ◌&&◌, ◌==◌, ◌||◌}
use Rattle.chan_types.specs.declared.journal.Entry.{Entry}
use Rattle.channel_model.specs.Completion.{ready}
use Rattle.channel_model.specs.Course.{Round}
use Rattle.channel_model.specs.Journal.{accepted_by, followed_by}
use Rattle.channel_model.specs.Setting.{Setting}

-- a request is accepted by one of the entries
abbrev pub accepts_some : List Entry → Bool
accepts_some entries = list_any (λ entry. is_some (accepted_by entry.what)) entries

module _ (setting : Setting) where
  -- a request is accepted behind the turn, though none was ready there, or though one stays ready
  abbrev pub is_unprompted : Round → Bool
  is_unprompted round =
      accepts_some round.between
      && ((length (ready setting round.new.past) == 0) || not (length (ready setting (followed_by round.new.past round.between)) == 0))

  -- how often that is so
  abbrev pub unprompted_in : List Round → ℕ
  unprompted_in rounds = count_by is_unprompted rounds
