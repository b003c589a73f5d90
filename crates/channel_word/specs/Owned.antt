-- What a word's pointer owns.
use base.Fml.{Fml, ftrue}
use denote.RawPtr.{Ptr}
use Rattle.std.specs.Prelude.{None, Option, Some}
use Rattle.std.specs.Box.Ownership.{box_owns}
use Rattle.std.specs.contracts.alloc.Global.{the_row as heap_row}
use Rattle.std.specs.contracts.impls.GlobalAllocator.TheImpl.{ghosts}
use Rattle.boxed_channel.specs.declared.state.ChannelState.{ChannelState}
use Rattle.boxed_channel.specs.contracts.state.ChannelState.{the_row}

-- the channel that lies at this pointer on the heap, and the right to free its block; or nothing, where no channel is known of
abbrev pub owns_if_known : heap_row.Denot → Ptr → Option ChannelState → Fml
owns_if_known alloc at None = ftrue
owns_if_known alloc at (Some state) = box_owns (ghosts.dealloc_token alloc) the_row at state
