-- What a whole turn does, and one that want of memory cut short.
use Rattle.std.specs.Prelude.{List, [], ℕ, ◌≡◌, ◌⊎◌}
use Rattle.chan_types.specs.declared.journal.Entry.{Entry}
use Rattle.net_world.specs.declared.log.WorldCall.{WorldCall}
use Rattle.channel_model.specs.Setting.{Setting}
use Rattle.channel_model.specs.Stretch.{Standing}
use Rattle.channel_model.specs.Turn.{IsCutTurn, IsTurn}
use Rattle.event_runner.specs.declared.answers.Turned.{Turned}
use Rattle.event_runner.specs.Parts.{Counts}

-- a turn was made with this reading of the clock, and received, let expire and started so much
pub record MakesTurn (turned : Turned) (setting : Setting) (seat : ℕ) (old : Standing) (entries : List Entry) (calls : List WorldCall) (new : Standing) : Type 0 where
  pub turn : IsTurn setting seat turned.reading old entries calls new
  pub counts : Counts seat entries calls turned.received turned.expired turned.started

-- want of memory came before the turn read the clock, or cut it short
abbrev pub IsCutShort : Setting → ℕ → Standing → List Entry → List WorldCall → Type 0
IsCutShort setting seat old entries calls = ((entries ≡ []) × (calls ≡ [])) ⊎ ((reading : ℕ) × IsCutTurn setting seat reading old entries calls)
