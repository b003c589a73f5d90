-- What a contract sees of a World with cookies.
use Rattle.std.specs.Prelude.{List, Option}
use Rattle.net_world.specs.declared.log.WorldCall.{WorldCall}
use Rattle.cookie_world.specs.State.{CookieState}

-- the World that it stands around, that one's log as it was at the making, where it is told, and where it stands itself
pub record CookieView (W : Type 0) : Type 0 where
  pub inner : W
  pub began : Option (List WorldCall)
  pub state : CookieState
