-- What the calls of a server's side of the network do to its log, and which answers tell a failure.
use Rattle.std.specs.Prelude.{◌≡◌, List, [], ◌∷◌, ◌++◌, Bool, true, false, Option, option_map, Result, Ok, Err}
use Rattle.item_list.specs.declared.no_memory.NoMemory.{NoMemory}
use Rattle.net_world.specs.Cause.{is_not_sent}
use Rattle.test_nameserver.specs.declared.listener.Heard.{Heard}
use Rattle.test_nameserver.specs.declared.listener.Heard.TheVariants.{Message, Failed as NotHeard}
use Rattle.test_nameserver.specs.declared.listener.ListenerCall.{ListenerCall}
use Rattle.test_nameserver.specs.declared.listener.ListenerCall.TheVariants.{Listen, Next, Reply}

-- nothing was heard
abbrev pub is_not_heard : Heard → Bool
is_not_heard (Message tcp bytes) = false
is_not_heard NotHeard = true

-- the call failed
abbrev pub has_failed : ListenerCall → Bool
has_failed (Listen port sent) = is_not_sent sent
has_failed (Next heard) = is_not_heard heard
has_failed (Reply bytes sent) = is_not_sent sent

-- a log that is told goes on with this call and its answer; want of memory leaves it
abbrev pub Logs : {T : Type 0} → Option (List ListenerCall) → Option (List ListenerCall) → Result T NoMemory → (T → ListenerCall) → Type 0
Logs old new (Ok answer) call = new ≡ option_map (λ calls. calls ++ call answer ∷ []) old
Logs old new (Err e) call = new ≡ old
