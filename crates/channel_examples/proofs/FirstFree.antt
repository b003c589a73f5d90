-- The identifier of an attempt is the first from its word upwards that no attempt in flight has.
use Rattle.std.proofs.Common.{◌≡◌, ℕ, zero, suc, ◌+◌, ◌<◌, ◌%◌, ◌^◌, [], ◌∷◌, None, refl, arith, true}
use Rattle.std.specs.Prelude.{IsTrue}
use Rattle.chan_types.specs.declared.journal.What.TheVariants.{Start}
use Rattle.resolv_options.specs.Defaults.{plain_values}
use Rattle.channel_model.specs.Identifiers.{IsFirstFree}
use Rattle.channel_model.specs.Journal.{Past}
use Rattle.channel_model.specs.Lawful.{is_used}
use Rattle.channel_model.specs.Setting.{Setting}
use Rattle.channel_examples.specs.Words.{channel_with, one_server, ask_x, accepts}
use Rattle.dns_message.specs.NameText as NameText

abbrev pub setting : Setting
setting = channel_with (record plain_values { servers = one_server })

-- a request waits
abbrev pub one_waits : Past
one_waits = accepts 1 ask_x ∷ []

-- one of two is in flight with the identifier 7, and the other waits
abbrev pub seven_used : Past
seven_used = Start 1 0 0 0 7 None 0 ∷ accepts 2 ask_x ∷ accepts 1 ask_x ∷ []

-- a word that is free is the identifier, and nothing else is
pub another_than_the_word : IsFirstFree setting 8 7 one_waits → ⊥
another_than_the_word free = by_steps free.steps free.reached free.passed
  where
    by_steps : (steps : ℕ) → 7 ≡ (8 + steps) % 2 ^ 16 → ((step : ℕ) → step < steps → IsTrue (is_used setting ((8 + step) % 2 ^ 16) one_waits)) → ⊥
    by_steps zero reached passed = let same : ◌≡◌ {A = ℕ} 7 8 = reached in omega (arith, same)
    by_steps (suc steps) reached passed = let used : is_used setting 8 one_waits ≡ true = passed 0 (omega arith) in cc used

-- one that is used is passed over
pub next_one : IsFirstFree setting 7 8 seven_used
unfolding NameText.units_of
next_one = record { steps = 1; few = omega arith; reached = refl; free = refl; passed = only_seven }
  where
    only_seven : (step : ℕ) → step < 1 → IsTrue (is_used setting ((7 + step) % 2 ^ 16) seven_used)
    only_seven zero before = refl
    only_seven (suc step) before = absurd (omega (arith, before))

-- but none that is free
pub one_too_far : IsFirstFree setting 7 9 seven_used → ⊥
unfolding NameText.units_of
one_too_far free = by_steps free.steps free.reached free.passed
  where
    by_steps : (steps : ℕ) → 9 ≡ (7 + steps) % 2 ^ 16 → ((step : ℕ) → step < steps → IsTrue (is_used setting ((7 + step) % 2 ^ 16) seven_used)) → ⊥
    by_steps zero reached passed = let same : ◌≡◌ {A = ℕ} 9 7 = reached in omega (arith, same)
    by_steps (suc zero) reached passed = let same : ◌≡◌ {A = ℕ} 9 8 = reached in omega (arith, same)
    by_steps (suc (suc steps)) reached passed = let used : is_used setting 8 seven_used ≡ true = passed 1 (omega arith) in cc used

-- and behind the greatest comes the least: 65,535 is used
abbrev pub greatest_used : Past
greatest_used = Start 1 0 0 0 65535 None 0 ∷ accepts 2 ask_x ∷ accepts 1 ask_x ∷ []

pub begins_again : IsFirstFree setting 65535 0 greatest_used
unfolding NameText.units_of
begins_again = record { steps = 1; few = omega arith; reached = refl; free = refl; passed = only_greatest }
  where
    only_greatest : (step : ℕ) → step < 1 → IsTrue (is_used setting ((65535 + step) % 2 ^ 16) greatest_used)
    only_greatest zero before = refl
    only_greatest (suc step) before = absurd (omega (arith, before))
