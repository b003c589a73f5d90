-- What a call on C's word says, from what it found there.
use Rattle.std.proofs.Common.{subst, sym, true≢false}
use Rattle.std.specs.Prelude.{Bool, IsSomeAnd, MatchBool, None, Option, Some, false, is_some, true, ℕ, ◌==◌, ◌≡◌, ⊤}
use Rattle.boxed_channel.specs.declared.state.ChannelState.{ChannelState}
use Rattle.c_types.specs.Told.{UnlessDone}
use Rattle.channel_word.specs.Calls.{OnState}

-- there was no channel
pub on_absent : (old new : Option ChannelState) (answer : ℕ) (meaning : ChannelState → ChannelState → Type 0) → is_some old ≡ false → new ≡ old → answer ≡ 10 → OnState old new answer meaning
on_absent None new answer meaning nothing same told = (told, same)
on_absent (Some state) new answer meaning nothing same told = absurd (true≢false nothing)

-- there was one
pub on_there : (old new : Option ChannelState) (before behind : ChannelState) (answer : ℕ) (meaning : ChannelState → ChannelState → Type 0) → old ≡ Some before → new ≡ Some behind → meaning before behind → OnState old new answer meaning
on_there old new before behind answer meaning was is holds = subst (λ (o : Option ChannelState). OnState o new answer meaning) (sym was) (subst (λ (n : Option ChannelState). IsSomeAnd n (meaning before)) (sym is) holds)

match_first : (done : Bool) (A B : Type 0) → MatchBool done ⊤ (A × B) → MatchBool done ⊤ A
match_first true A B both = tt
match_first false A B both = both.0

match_second : (done : Bool) (A B : Type 0) → MatchBool done ⊤ (A × B) → MatchBool done ⊤ B
match_second true A B both = tt
match_second false A B both = both.1

-- of two things that hold where a call didn't do what it is for, the first does
pub unless_first : (answer : ℕ) (A B : Type 0) → UnlessDone answer (A × B) → UnlessDone answer A
unless_first answer = match_first (answer == 0)

-- and the second
pub unless_second : (answer : ℕ) (A B : Type 0) → UnlessDone answer (A × B) → UnlessDone answer B
unless_second answer = match_second (answer == 0)
