-- What a call on C's word says.
use Rattle.std.specs.Prelude.{IsSomeAnd, None, Option, Some, ℕ, ◌≡◌}
use Rattle.boxed_channel.specs.declared.state.ChannelState.{ChannelState}
use Rattle.channel_word.specs.declared.word.ChannelWord.{ChannelWord}

-- where there was a channel, this is so of it before and behind; where there was none, the answer is 10, and still there is none
abbrev pub OnState : Option ChannelState → Option ChannelState → ℕ → (ChannelState → ChannelState → Type 0) → Type 0
OnState None new answer meaning = (answer ≡ 10) × (new ≡ None)
OnState (Some old) new answer meaning = IsSomeAnd new (meaning old)

-- the same of a word
abbrev pub OnChannel : ChannelWord → ChannelWord → ℕ → (ChannelState → ChannelState → Type 0) → Type 0
OnChannel old new = OnState old.pointer.state new.pointer.state
