-- What becomes of C's word while the channel behind it is lent.
use Rattle.std.specs.Borrow.{Fml, Lends, MutBor}
use Rattle.boxed_channel.specs.contracts.boxed.BoxedChannel.{the_row}
use Rattle.boxed_channel.specs.contracts.state.ChannelState.{the_row as state_row}
use Rattle.boxed_channel.specs.declared.boxed.BoxedChannel.{BoxedChannel}
use Rattle.boxed_channel.specs.declared.state.ChannelState.{ChannelState}

-- the word with another channel behind it
abbrev pub with_state : BoxedChannel → ChannelState → BoxedChannel
with_state boxed state = record boxed { state = state }

-- the word ends with the channel as it is at the end of the loan
abbrev pub LendsState : MutBor BoxedChannel → MutBor ChannelState → Fml
LendsState boxed state = Lends the_row state_row boxed state (with_state boxed.now)
