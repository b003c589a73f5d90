-- The parts of a receive: what comes next, and what becomes of it.
use Rattle.std.specs.Prelude.{◌≡◌, ◌++◌, List, Option, None, option_map, Result, Ok, Err, ℕ}
use Rattle.item_list.specs.declared.no_memory.NoMemory.{NoMemory}
use Rattle.net_world.specs.declared.answers.Got.{Got}
use Rattle.net_world.specs.declared.answers.Got.TheVariants.{Datagram}
use Rattle.net_world.specs.declared.log.WorldCall.{WorldCall}
use Rattle.net_world.specs.declared.log.WorldCall.TheVariants.{Receive}
use Rattle.cookie_world.specs.Rounds.{Becomes, Answers, IsNext, receiving, told}
use Rattle.cookie_world.specs.State.{CookieState, CanHold}
use Rattle.cookie_world.specs.declared.state.Kept.{Kept}
use Rattle.cookie_world.specs.declared.verdict.Verdict.{Verdict}

-- what is held comes next, and is held no more; else what the inner World gives. Want of memory leaves all
abbrev pub TakesNext : Result Got NoMemory → Option (List WorldCall) → Option (List WorldCall) → Kept → Kept → Type 0
TakesNext (Ok came) log_old log_new old new =
    IsNext old.held came × (log_new ≡ option_map (λ calls. calls ++ receiving old.held came) log_old) × (new ≡ record old { held = None })
TakesNext (Err e) log_old log_new old new = (log_new ≡ log_old) × (new ≡ old)

-- the datagram became what the verdict says; or memory was wanting: it is given back, and all is as before
abbrev pub Carries : ℕ → List ℕ → Verdict → Result Got Got → Option (List WorldCall) → Option (List WorldCall) → CookieState → CookieState → Type 0
Carries server bytes verdict (Ok got) log_old log_new old new =
    (calls : List WorldCall) × (judged : CookieState) × (log_new ≡ option_map (λ before. before ++ calls) log_old)
    × Becomes server bytes verdict got calls old judged × (new ≡ told (Receive got) judged)
Carries server bytes verdict (Err back) log_old log_new old new = (back ≡ Datagram server bytes) × (log_new ≡ log_old) × (new ≡ old)

-- what came became what it becomes; or memory was wanting: it is given back, can be held, and all is as before
abbrev pub Hands : Got → Result Got Got → Option (List WorldCall) → Option (List WorldCall) → CookieState → CookieState → Type 0
Hands came (Ok got) log_old log_new old new =
    (calls : List WorldCall) × (judged : CookieState) × (log_new ≡ option_map (λ before. before ++ calls) log_old)
    × Answers came got calls old judged × (new ≡ told (Receive got) judged)
Hands came (Err back) log_old log_new old new = (back ≡ came) × CanHold came × (log_new ≡ log_old) × (new ≡ old)
