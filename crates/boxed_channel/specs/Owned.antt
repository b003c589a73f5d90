-- What the word of a channel on the heap owns.
use base.Fml.{Fml}
use denote.RawPtr.{Ptr}
use Rattle.std.specs.Box.Ownership.{box_owns}
use Rattle.std.specs.contracts.alloc.Global.{the_row as heap_row}
use Rattle.std.specs.contracts.impls.GlobalAllocator.TheImpl.{ghosts}
use Rattle.boxed_channel.specs.declared.state.ChannelState.{ChannelState}
use Rattle.boxed_channel.specs.contracts.state.ChannelState.{the_row}

-- the channel that lies at this pointer on the heap, and the right to free its block
abbrev pub owns_channel : heap_row.Denot → Ptr → ChannelState → Fml
owns_channel alloc at state = box_owns (ghosts.dealloc_token alloc) the_row at state
