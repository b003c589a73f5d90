-- Questions as they are held.
use Rattle.std.specs.Prelude.{ℕ, List, map}
use Rattle.std.specs.Global.{Vec}
use Rattle.indexmap.specs.IndexSet.{IndexSet}
use Rattle.net_world.specs.declared.answers.Got.{Got}
use Rattle.test_nameserver.specs.declared.hearing.Heard.{Heard}

-- the keys of a set, in order
abbrev pub keys_of : {S : Type 0} → IndexSet (Vec ℕ) S → List (List ℕ)
keys_of asked = map (λ key. key.items) asked.keys

-- the key of what was heard
abbrev pub key_heard : Heard → List ℕ
key_heard heard = heard.key.items

-- the reply to what was heard
abbrev pub got_heard : Heard → Got
got_heard heard = heard.got
