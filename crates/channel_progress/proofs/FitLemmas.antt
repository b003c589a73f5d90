-- Lawful pasts up to which no more servers are in use, and none are set more often, than up to the end of their journal.
use Rattle.std.proofs.Common.{◌*◌, ◌≤◌, List, [], ◌∷◌, arith}
use Rattle.chan_types.specs.declared.journal.Entry.{Entry}
use Rattle.chan_types.specs.declared.journal.What.{What}
use Rattle.channel_model.proofs.Theorems.{IsLawfulPast-before}
use Rattle.channel_model.specs.Journal.{Past, followed_by}
use Rattle.channel_model.specs.Lawful.{IsLawfulPast}
use Rattle.channel_model.specs.Setting.{Setting}
use Rattle.channel_progress.specs.Allowed.{in_use_most, times_set}
use Rattle.channel_progress.proofs.MostLemmas.{in_use_most-later, times_set-later}

module _ (setting : Setting) (end : Past) where
  -- the past is lawful, and what a leg may spend up to the end is enough for it
  pub record IsFit (past : Past) : Type 0 where
    pub lawful : IsLawfulPast setting past
    pub used_most : in_use_most setting past ≤ in_use_most setting end
    pub set_most : times_set past ≤ times_set end
    -- there is a server to try
    pub some_try : 1 ≤ in_use_most setting end * setting.options.tries

  -- and so is what stands before
  pub fit_before : (past : Past) (entries : List Entry) → IsFit (followed_by past entries) → IsFit past
  fit_before past entries fit =
      record {
        lawful = IsLawfulPast-before setting past entries fit.lawful;
        used_most = omega (arith, fit.used_most, in_use_most-later setting past entries);
        set_most = omega (arith, fit.set_most, times_set-later past entries);
        some_try = fit.some_try;
      }

  -- and before the last entry
  pub fit_one : (what : What) (past : Past) → IsFit (what ∷ past) → IsFit past
  fit_one what past fit = fit_before past (record { seat = 0; by = 0; what = what } ∷ []) fit
