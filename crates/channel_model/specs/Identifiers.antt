-- Which identifier a new attempt has: identifiers have 16 bits (RFC 1035, section 4.1.1), and no two attempts in flight share one.
use Rattle.std.specs.Prelude.{ℕ, ◌<◌, ◌^◌, ◌≡◌, ◌+◌, ◌%◌, IsFalse, IsTrue}
use Rattle.channel_model.specs.Journal.{Past}
use Rattle.channel_model.specs.Lawful.{is_used}
use Rattle.channel_model.specs.Setting.{Setting}

module _ (setting : Setting) where
  -- the identifier is the first from the word upwards, modulo 2 ^ 16, that no attempt in flight has
  pub record IsFirstFree (word id : ℕ) (past : Past) : Type 0 where
    pub steps : ℕ
    pub few : steps < 2 ^ 16
    pub reached : id ≡ (word + steps) % 2 ^ 16
    pub free : IsFalse (is_used setting id past)
    pub passed : (step : ℕ) → step < steps → IsTrue (is_used setting ((word + step) % 2 ^ 16) past)

  -- all identifiers are in flight
  abbrev pub AllUsed : Past → Type 0
  AllUsed past = (id : ℕ) → id < 2 ^ 16 → IsTrue (is_used setting id past)

  -- an identifier isn't in flight
  abbrev pub SomeFree : Past → Type 0
  SomeFree past = (id : ℕ) × (id < 2 ^ 16) × IsFalse (is_used setting id past)
