-- What `--cookie` changes: the network of the run is one with cookies, around the one that was handed in.
use Rattle.std.specs.Prelude.{List, option_map, ◌≡◌}
use Rattle.net_world.specs.declared.log.WorldCall.{WorldCall}
use Rattle.tool_line.specs.Outside.{NetworkTold, Outside}
use Rattle.cookie_world.specs.Agreement.{Stands}
use Rattle.cookie_world.specs.State.{CookieState}
use Rattle.run_end.specs.declared.ended.Ended.{Ended as OwnEnd}
use Rattle.adig_tool.specs.declared.ended.Ended.{Ended}

-- how the run ended, without the calls of a network with cookies
abbrev pub own_end : Ended → OwnEnd
own_end ended = record { status = ended.status; journal = ended.journal; calls = ended.calls }

-- what a network with cookies tells that has made these calls: them, where the one around which it stands tells its calls; its waits fail where those of that one do
abbrev pub with_cookies : List WorldCall → NetworkTold → NetworkTold
with_cookies calls network = record { log = option_map (λ _. calls) network.log; wait_faults = network.wait_faults }

-- what the outside tells where its network has such a one around it
abbrev pub around : List WorldCall → Outside → Outside
around calls outside = record { network = with_cookies calls outside.network; output = outside.output }

-- the calls of a network with cookies, and those that they made of the network that was handed in: where that one tells its calls, it told these before, and behind them those that these calls come to by their meaning, one after the other, and no others
pub record AreMadeOf (outer : List WorldCall) (before after : NetworkTold) : Type 0 where
  pub state : CookieState
  pub own : state.log ≡ outer
  pub stands : Stands before.log after.log state
