-- A sink in memory: what a put answers, and what it leaves.
use Rattle.std.specs.Prelude.{◌≡◌, ℕ, List, [], ◌∷◌, ◌++◌, Bool, true, if◌then◌else◌}
use Rattle.net_world.specs.declared.answers.PutEnd.{PutEnd}
use Rattle.net_world.specs.declared.answers.PutEnd.TheVariants.{Done, Failed as NotPut}
use Rattle.net_world.specs.declared.put_call.PutCall.{PutCall}
use Rattle.net_world.specs.Cause.{raised, fails_at}

-- where a sink in memory stands
pub record SinkState : Type 0 where
  pub bytes : List ℕ
  -- the number of the next call, which stays at the greatest number of 64 bits
  pub calls : ℕ
  -- the numbers of the calls that fail
  pub fails : List ℕ
  pub faults : ℕ
  -- the puts so far, with their ends
  pub puts : List PutCall

-- the next put fails
abbrev pub fails_now : SinkState → Bool
fails_now state = fails_at state.fails state.calls

-- all of the text is added, or the call fails and adds nothing
pub record PutsWhole (text : List ℕ) (old new : SinkState) (answer : PutEnd) : Type 0 where
  pub end : answer ≡ (if fails_now old then NotPut else Done)
  pub state : new ≡ record old {
    bytes = if fails_now old then old.bytes else old.bytes ++ text;
    calls = raised true old.calls;
    faults = raised (fails_now old) old.faults;
    puts = old.puts ++ record { text = text; end = answer } ∷ [];
  }
