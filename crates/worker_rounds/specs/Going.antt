-- How the places of a channel go on while its owner does what there is to do, and workers call callbacks.
use Rattle.std.specs.List.{AllByRecursion, Contains, list_all}
use Rattle.std.specs.Prelude.{Bool, IsTrue, List, [], is_some, map, not, ◌&&◌, ◌++◌, ◌==◌, ◌∷◌, ◌≡◌, ◌⊎◌, ⊤}
use mathlib.Core.List.{IsPrefix}
use Rattle.chan_types.specs.declared.answer.Answer.{Answer}
use Rattle.chan_types.specs.declared.journal.Entry.{Entry}
use Rattle.channel_model.specs.Completion.{taken_by}
use Rattle.channel_model.specs.Journal.{own_entries}
use Rattle.channel_model.specs.Known.{GoesOn, Known}
use Rattle.channel_table.specs.Commanded.{IsOfCommand}
use Rattle.shared_channel.specs.Passes.{PassView}

-- the entry takes no request, and is on nobody's command
abbrev pub is_free : Entry → Bool
is_free entry = not (is_some (taken_by entry.what)) && (entry.by == 0)

-- a desk went on, and made such entries alone
pub record GoesFreely (old new : Known) : Type 0 where
  pub goes_on : GoesOn old new
  pub own : IsTrue (list_all is_free (own_entries old.seat goes_on.since))

-- the entry was made on the command of the callback that was told one of these answers
abbrev pub IsCommanded : List Answer → Entry → Type 0
IsCommanded answers entry = Contains (map (λ answer. answer.number) answers) entry.by × IsOfCommand entry.what

-- the entry was made on nobody's command, or such a callback commanded it
abbrev pub IsOwners : List Answer → Entry → Type 0
IsOwners answers entry = (entry.by ≡ 0) ⊎ IsCommanded answers entry

-- it is the same place still; answers were told through it, and of the entries that were made through it since each is such a one, by the answers that were told through it
pub record GoesAs (IsSuch : List Answer → Entry → Type 0) (old new : PassView) : Type 0 where
  pub same : new ≡ record old { own = new.own; seen = new.seen; calls = new.calls; lost = new.lost }
  pub told : List Answer
  pub calls : new.calls ≡ old.calls ++ told
  pub made : List Entry
  pub own : new.own ≡ old.own ++ made
  pub seen : IsPrefix old.seen new.seen
  pub each : AllByRecursion (IsSuch new.calls) made

-- the same of each of these places, one by one
abbrev pub AllGoAs : (List Answer → Entry → Type 0) → List PassView → List PassView → Type 0
AllGoAs IsSuch [] [] = ⊤
AllGoAs IsSuch [] (new ∷ news) = ⊥
AllGoAs IsSuch (old ∷ olds) [] = ⊥
AllGoAs IsSuch (old ∷ olds) (new ∷ news) = GoesAs IsSuch old new × AllGoAs IsSuch olds news
