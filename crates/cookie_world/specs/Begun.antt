-- How the log of a World stood when its calls began to be counted.
use Rattle.std.specs.Prelude.{◌-◌, ℕ, if◌then◌else◌, List, length, take, Option, option_map, Result, is_ok}
use Rattle.std.specs.Coded.{Coded, codes}
use base.Stored.{Gv, gcons}
use Rattle.item_list.specs.declared.no_memory.NoMemory.{NoMemory}
use Rattle.net_world.specs.declared.log.WorldCall.{WorldCall}

-- a log that is told, as it stood so many calls ago
abbrev pub calls_ago : ℕ → Option (List WorldCall) → Option (List WorldCall)
calls_ago count log = option_map (λ calls. take (length calls - count) calls) log

-- how the logic stores a log, or that none is told
pub log_code : Coded (Option (List WorldCall))
log_code = Prim.hlevel codes

-- what tells how a World was made, and how its log stood when its calls began to be counted
abbrev pub begun_origin : Gv → Option (List WorldCall) → Gv
begun_origin origin began = gcons origin (log_code.code began)

-- a call that answers something counts, and one that answers want of memory doesn't
abbrev pub counted : {T : Type 0} → Result T NoMemory → ℕ
counted result = if is_ok result then 1 else 0
