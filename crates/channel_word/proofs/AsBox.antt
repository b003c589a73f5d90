-- The pointer to a channel, and its parts, own what a box of the channel owns.
use mir.Syntax.{impl, tnil, dnil}
use mathlib.Core.List.{[]}
use denote.Signature.{Slot, plain}
use Rattle.std_alloc.proofs.BoxSteps.Form.{Bx}
use Rattle.std.specs.contracts.alloc.Global as Heap
use Rattle.std.specs.contracts.impls.GlobalAllocator.TheImpl.{ghosts, dict}
use Rattle.std.proofs.alloc.Global.TheLaws as heap
use Rattle.boxed_channel.specs.contracts.state.ChannelState as State
use Rattle.boxed_channel.proofs.state.ChannelState.TheLaws as state
use Rattle.box_parts.specs.contracts.Parts as Parts
use Rattle.channel_word.specs.contracts.pointer.ChannelPointer as Pointer

abbrev pub E : Bx
E = record { row = State.the_row; laws = state.the_row_laws; al = record { row = Heap.the_row; laws = heap.the_row_laws; g = ghosts; d = dict; drops = impl [] tnil dnil } }

abbrev pub FromParts : Slot 0
FromParts = plain (λ _. Parts.the_row State.the_row Heap.the_row ghosts)

abbrev pub FromPointer : Slot 0
FromPointer = plain (λ _. Pointer.the_row)
