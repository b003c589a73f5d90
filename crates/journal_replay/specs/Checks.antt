-- What a check of a stored journal says.
use Rattle.std.specs.Prelude.{List, length, ℕ, ⊤, ◌++◌, ◌∷◌, ◌≡◌}
use Rattle.chan_types.specs.declared.journal.Entry.{Entry}
use Rattle.channel_model.specs.Journal.{past_of}
use Rattle.channel_model.specs.Lawful.{IsAllowed, IsLawful}
use Rattle.channel_model.specs.Setting.{Setting}
use Rattle.hosts_file.specs.File.{hosts_of}
use Rattle.resolv_options.specs.declared.options.Options.{Options}
use Rattle.journal_replay.specs.declared.checking.Checked.{Checked}
use Rattle.journal_replay.specs.declared.checking.Checked.TheVariants.{Lawful, Unlawful}

-- the setting of a channel with these options and the hosts file of these bytes
abbrev pub setting_of : Options → List ℕ → Setting
setting_of options bytes = record { options = options; hosts = hosts_of bytes }

-- the entry at this position isn't allowed there, and what stands before it is lawful
pub record IsFirstUnlawful (setting : Setting) (journal : List Entry) (position : ℕ) : Type 0 where
  pub before : List Entry
  pub entry : Entry
  pub behind : List Entry
  pub parts : journal ≡ before ++ entry ∷ behind
  pub stands_at : position ≡ length before
  pub lawful : IsLawful setting before
  pub not_allowed : ¬ IsAllowed setting (past_of before) entry.what

-- the position that a check names, if it names one, is that of the first entry that isn't allowed
abbrev pub IsWhere : Setting → List Entry → Checked → Type 0
IsWhere setting journal Lawful = ⊤
IsWhere setting journal (Unlawful position) = IsFirstUnlawful setting journal position
