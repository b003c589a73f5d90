-- How many servers are in use at most, and how often servers are set.
use Rattle.std.proofs.Common.{◌≡◌, ◌∙◌, ℕ, ◌+◌, ◌*◌, ◌≤◌, List, [], ◌∷◌, None, refl, ap, ap₂, cond, arith, length, take}
use Rattle.std.proofs.Math.Nat.{le-max_left, le-max_right, max-eq_left}
use Rattle.std.proofs.lemmas.List.Sums.{sum_by-cons}
use Rattle.std.specs.List.{AllByRecursion}
use Rattle.std.specs.Prelude.{is_some, max}
use Rattle.chan_types.specs.declared.journal.Entry.{Entry}
use Rattle.chan_types.specs.declared.journal.What.{What}
use Rattle.channel_model.proofs.Theorems.{opening_stays}
use Rattle.channel_model.specs.Journal.{Past, followed_by}
use Rattle.channel_model.specs.Servers.{attempts, in_use, servers_set_by}
use Rattle.channel_model.specs.Setting.{Setting}
use Rattle.channel_progress.specs.Allowed.{attempts_of_leg, in_use_most, times_set}

-- no entry sets servers
abbrev pub SetsNone : Past → Type 0
SetsNone past = AllByRecursion (λ what. servers_set_by what ≡ None) past

-- an entry counts where it sets servers
pub times_set-one : (what : What) (past : Past) → times_set (what ∷ past) ≡ cond (is_some (servers_set_by what)) 1 0 + times_set past
times_set-one what past = sum_by-cons (λ w. cond (is_some (servers_set_by w)) 1 0) what past

-- no entries take back a time that servers were set
pub times_set-later : (past : Past) (entries : List Entry) → times_set past ≤ times_set (followed_by past entries)
times_set-later past [] = omega arith
times_set-later past (entry ∷ entries) = omega (arith, times_set-one entry.what past, times_set-later (entry.what ∷ past) entries)

-- where no entry sets servers, none were set
none_set : (past : Past) → SetsNone past → times_set past ≡ 0
none_set [] none = refl
none_set (what ∷ past) none = times_set-one what past ∙ ap₂ (λ o n. cond (is_some o) 1 0 + n) none.0 (none_set past none.1)

module _ (setting : Setting) where
  -- no more servers are in use than the most
  pub in_use-most : (past : Past) → in_use setting past ≤ in_use_most setting past
  in_use-most [] = omega arith
  in_use-most (what ∷ past) = le-max_right (in_use_most setting past) (in_use setting (what ∷ past))

  -- the most are as many later
  pub in_use_most-later : (past : Past) (entries : List Entry) → in_use_most setting past ≤ in_use_most setting (followed_by past entries)
  in_use_most-later past [] = omega arith
  in_use_most-later past (entry ∷ entries) = omega (arith, le-max_left (in_use_most setting past) (in_use setting (entry.what ∷ past)), in_use_most-later (entry.what ∷ past) entries)

  -- where no entry sets servers, as many are in use as at the beginning
  in_use_stays : (past : Past) → SetsNone past → in_use setting past ≡ in_use setting []
  in_use_stays past none = ap (λ servers. length (cond setting.options.flags.primary (take 1 servers) servers)) (opening_stays setting past none)

  -- and these are the most
  most_stays : (past : Past) → SetsNone past → in_use_most setting past ≡ in_use setting []
  most_stays [] none = refl
  most_stays (what ∷ past) none = ap₂ max (most_stays past none.1) (in_use_stays (what ∷ past) none) ∙ max-eq_left (omega arith)

  -- so that a leg may spend as many attempts as at the beginning
  pub attempts_stay : (past : Past) → SetsNone past → attempts_of_leg setting past ≡ attempts setting []
  attempts_stay past none = ap₂ (λ m c. m * setting.options.tries + c) (most_stays past none) (none_set past none) ∙ add_none (attempts setting [])
    where
      add_none : (n : ℕ) → n + 0 ≡ n
      add_none n = omega arith
