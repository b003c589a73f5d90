-- What is done through a pass.
use Rattle.std.specs.Prelude.{Bool, IsTrue, List, Some, map, ◌++◌, ◌≡◌}
use Rattle.chan_types.specs.declared.journal.Entry.{Entry}
use Rattle.chan_types.specs.declared.spec.Spec.{Spec}
use Rattle.shared_channel.specs.Passes.{PassView}
use Rattle.shared_channel.specs.Staying.{StaysSettled}
use Rattle.thread_lookups.specs.Asking.{uses_in, free_use, quiet_ask}

-- each request that was taken through a pass was told its answer there, and beside takings, turns and what callbacks commanded nothing was done
pub record OnlyRuns (old new : PassView) : Type 0 where
  pub stays : StaysSettled old new
  pub uses : uses_in new.own ≡ uses_in old.own

-- the pass made these entries
pub record Makes (entries : List Entry) (old new : PassView) : Type 0 where
  pub stays : StaysSettled old new
  pub own : new.own ≡ old.own ++ entries

-- the pass asked these requests, in order, each with a callback that commands nothing, and did nothing else
pub record AsksEach (specs : List Spec) (old new : PassView) : Type 0 where
  pub entries : List Entry
  pub makes : Makes entries old new
  pub asked : map free_use entries ≡ map (λ spec. Some (quiet_ask spec)) specs

-- a thread was to ask these requests through a pass: it asked all of them, or up to one that was refused
pub record HasAsked (specs : List Spec) (all : Bool) (old new : PassView) : Type 0 where
  pub stays : StaysSettled old new
  pub asked : IsTrue all → AsksEach specs old new
