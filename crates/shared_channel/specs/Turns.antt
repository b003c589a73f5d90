-- What a turn under the lock tells a pass.
use Rattle.std.specs.Prelude.{List, Option, option_to_list, ℕ, ◌++◌, ◌≡◌}
use Rattle.chan_types.specs.declared.journal.Entry.{Entry}
use Rattle.channel_model.specs.Known.{StandsAt}
use Rattle.hosts_file.specs.declared.hosts.Hosts.{Hosts}
use Rattle.resolv_options.specs.declared.options.Options.{Options}
use Rattle.shared_channel.specs.Passes.{PassView, desk_of}
use Rattle.shared_channel.specs.Under.{setting_by}

-- an operation with this meaning ran once for the pass, alone, where the journal stood at `here`; the entry that it made there, or none, is all that is new to the pass's own
pub record IsPassTurn {R : Type 0} (means : Options × Hosts → List Entry → ℕ → R → List Entry → Type 0) (old : PassView) (reply : R) (new : PassView) : Type 0 where
  pub setting : Options × Hosts
  pub is_set : old.setting ≡ setting_by setting
  pub here : List Entry
  pub stands : StandsAt (desk_of old) here
  pub meant : means setting here old.number reply new.seen
  pub made : Option Entry
  pub seen : new.seen ≡ here ++ option_to_list made
  pub own : new.own ≡ old.own ++ option_to_list made
  pub rest : new ≡ record old { own = new.own; seen = new.seen }
