-- What becomes of C's pointer while the channel that lies there is lent.
use Rattle.std.specs.Prelude.{Some}
use Rattle.std.specs.Borrow.{Fml, Lends, MutBor}
use Rattle.boxed_channel.specs.contracts.state.ChannelState.{the_row as state_row}
use Rattle.boxed_channel.specs.declared.state.ChannelState.{ChannelState}
use Rattle.channel_word.specs.contracts.pointer.ChannelPointer.{the_row}
use Rattle.channel_word.specs.declared.pointer.ChannelPointer.{ChannelPointer}

-- the pointer with this channel
abbrev pub with_state : ChannelPointer → ChannelState → ChannelPointer
with_state pointer state = record pointer { state = Some state }

-- the pointer ends with the channel as it is at the end of the loan
abbrev pub LendsState : MutBor ChannelPointer → MutBor ChannelState → Fml
LendsState pointer state = Lends the_row state_row pointer state (with_state pointer.now)
