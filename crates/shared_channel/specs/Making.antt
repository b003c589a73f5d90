-- How a channel is made with its passes.
use Rattle.std.specs.Prelude.{IsSome, List, [], length, slice_index_or, ℕ, ◌<◌, ◌∷◌, ◌≡◌, ⊤}
use Rattle.atomic_table.specs.Seated.{TableId}
use Rattle.chan_types.specs.declared.journal.Entry.{Entry}
use Rattle.channel_model.specs.Setting.{Setting}
use Rattle.hosts_file.specs.declared.hosts.Hosts.{Hosts}
use Rattle.resolv_options.specs.Defaults.{plain_values}
use Rattle.resolv_options.specs.declared.options.Options.{Options}
use Rattle.seat_lock.specs.History.{SeatView}
use Rattle.shared_channel.specs.Passes.{PassView, pass_of}

-- the pass with this number, as it is made
abbrev pub new_pass : TableId → Setting → ℕ → ℕ → PassView
new_pass lock setting seats number =
    record { lock = lock; seats = seats; number = number; setting = setting; own = []; seen = []; joined = []; calls = []; lost = 0 }

-- these are all of the channel's passes, numbered from 0, and none has made or seen an entry
pub record IsNewChannel (lock : TableId) (setting : Setting) (count : ℕ) (passes : List PassView) : Type 0 where
  pub all : length passes ≡ count
  pub each : (k : ℕ) (d : PassView) → k < count → slice_index_or passes k d ≡ new_pass lock setting count k

-- the setting of the default options and of no hosts
abbrev pub plain_setting : Setting
plain_setting = record { options = plain_values; hosts = [] }

-- the pass has this seat, and nothing was told or lost through it
abbrev pub IsPassOf : SeatView Entry (Options × Hosts) → PassView → Type 0
IsPassOf seat pass = (is_set : IsSome seat.setting) × (pass ≡ pass_of seat is_set [] 0)

-- there is a pass for each seat, in their order
abbrev pub ArePassesOf : List (SeatView Entry (Options × Hosts)) → List PassView → Type 0
ArePassesOf [] [] = ⊤
ArePassesOf [] (pass ∷ passes) = ⊥
ArePassesOf (seat ∷ seats) [] = ⊥
ArePassesOf (seat ∷ seats) (pass ∷ passes) = IsPassOf seat pass × ArePassesOf seats passes
