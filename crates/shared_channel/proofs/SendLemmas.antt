-- Passes, places and tickets may go to another thread, and a channel may be lent to several, where callbacks' bodies and the journal may go to another thread.
use denote.RattleType.{RattleType}
use denote.Param.Send.{AllSend, IsSend, IsSync, recorded_send, sendable, struct_send, view_send}
use denote.Ref.{NamedLft}
use denote.Struct.Declared.{shape}
use Rattle.std.proofs.Crossing.{crosses}
use Rattle.std.proofs.alloc.Global.TheSendSync as global
use Rattle.std.proofs.collections.LinkedList.TheSendSync as linked
use Rattle.std.proofs.collections.VecDeque.TheSendSync as deque
use Rattle.std.proofs.marker.PhantomData.TheSendSync as phantom
use Rattle.std.proofs.option.Option.TheSendSync as option
use Rattle.std.proofs.rt.Memory.TheSendSync as memory
use Rattle.seat_lock.proofs.lock.SeatLock.TheSendSync as lock
use Rattle.chan_types.specs.contracts.answer.Answer as Answer
use Rattle.chan_types.specs.contracts.call.Call as Call
use Rattle.channel_table.specs.contracts.row.Row as Row
use Rattle.chan_types.specs.contracts.ticket.Ticket as Ticket
use Rattle.channel_table.specs.contracts.lookup.Lookup as Lookup
use Rattle.chan_types.specs.contracts.journal.Entry as Entry
use Rattle.chan_types.proofs.answer.Answer.TheSendSync as answer
use Rattle.chan_types.proofs.orders.Need.TheSendSync as need
use Rattle.chan_types.proofs.orders.Orders.TheSendSync as orders
use Rattle.chan_types.proofs.orders.When.TheSendSync as when
use Rattle.chan_types.proofs.refusal.Refusal.TheSendSync as refusal
use Rattle.chan_types.proofs.spec.Spec.TheSendSync as spec
use Rattle.chan_types.proofs.status.Status.TheSendSync as status
use Rattle.chan_types.proofs.server_key.ServerKey.TheSendSync as server_key
use Rattle.dns_message.proofs.name.Name.TheSendSync as name
use Rattle.dns_message.proofs.message.Question.TheSendSync as question
use Rattle.net_addr.proofs.addr.Addr.TheSendSync as addr
use Rattle.net_addr.proofs.addr.Family.TheSendSync as family
use Rattle.net_addr.proofs.addr.ServerAddr.TheSendSync as server_addr
use Rattle.channel_table.proofs.wanted.Wanted.TheSendSync as wanted
use Rattle.channel_table.proofs.lookup.Lookup.TheSendSync as lookup
use Rattle.channel_table.proofs.table.channel_servers.ChannelServers.TheSendSync as channel_servers
use Rattle.channel_table.proofs.table.flown.Flown.TheSendSync as flown
use Rattle.leg_index.proofs.waiting.Waiting.TheSendSync as waiting
use Rattle.hosts_file.proofs.hosts.HostLine.TheSendSync as host_line
use Rattle.hosts_file.proofs.hosts.Hosts.TheSendSync as hosts
use Rattle.query_machine.proofs.leg.Flying.TheSendSync as flying
use Rattle.query_machine.proofs.leg.Leg.TheSendSync as leg
use Rattle.query_machine.proofs.leg.Phase.TheSendSync as phase
use Rattle.query_machine.proofs.servers.FailureCount.TheSendSync as failures
use Rattle.query_machine.proofs.servers.Servers.TheSendSync as servers
use Rattle.resolv_options.proofs.flags.Flags.TheSendSync as flags
use Rattle.resolv_options.proofs.lookups.Lookups.TheSendSync as lookups
use Rattle.resolv_options.proofs.options.Options.TheSendSync as options
use Rattle.seat_lock.proofs.seat.Seat.TheSendSync as seat
use Rattle.chan_types.proofs.script.Script.TheLaws.TheKnot as script
use Rattle.chan_types.proofs.runs.Runs.TheLaws.TheKnot as runs
use Rattle.chan_types.specs.contracts.calls.Calls as Calls
use Rattle.chan_types.specs.declared.token.Token as token
use Rattle.completion_ticket.specs.declared.done.Done as done
use Rattle.completion_ticket.specs.contracts.body.Body as Body
use Rattle.completion_ticket.specs.contracts.scripted.Scripted as Scripted
use Rattle.completion_ticket.specs.contracts.hand.Hand as Hand
use Rattle.completion_ticket.specs.contracts.callback.Callback as Callback
use Rattle.channel_journal.specs.contracts.kept.KeptJournal as KeptJournal
use Rattle.channel_journal.specs.declared.journal.ChannelJournal.{Ghosts as JournalGhosts}
use Rattle.channel_table.specs.contracts.held.Held as Held
use Rattle.channel_table.specs.contracts.table.Table as Table
use Rattle.channel_table.specs.contracts.table.Table.TheInside as table_inside
use Rattle.channel_table.specs.contracts.table.rows.Rows as Rows
use Rattle.shared_channel.specs.contracts.channel.Channel as Channel
use Rattle.std.specs.contracts.collections.VecDeque as VecDeque
use Rattle.std.specs.contracts.alloc.Global as Global
use Rattle.std.specs.contracts.impls.GlobalAllocator.TheImpl as OfGlobal
use Rattle.std.below.std_heap.proofs.GlobalAllocator.TheSendSync as allocator
use Rattle.shared_channel.specs.contracts.pass.Pass as Pass
use Rattle.shared_channel.specs.contracts.place.Place as Place
use Rattle.shared_channel.specs.contracts.place.Place.TheInside as inside
use Rattle.shared_channel.specs.contracts.turns.Turns as Turns
use Rattle.shared_channel.specs.contracts.turns.Turns.TheInside as at_lock
use Rattle.shared_channel.specs.contracts.account.Account as Account
use Rattle.shared_channel.specs.contracts.state.SharedTable as SharedTable

-- the plain structs of which a channel's state is made
pub ruleset plain = (answer.the_field_send, answer.the_send, need.the_field_send, need.the_send, orders.the_field_send, orders.the_send, when.the_field_send, when.the_send, spec.the_field_send, spec.the_send, status.the_field_send, status.the_send, server_key.the_field_send, server_key.the_send, name.the_send, question.the_field_send, question.the_send, addr.the_field_send, addr.the_send, family.the_field_send, family.the_send, server_addr.the_field_send, server_addr.the_send, wanted.the_field_send, wanted.the_send, lookup.the_field_send, lookup.the_send, host_line.the_field_send, host_line.the_send, hosts.the_send, flying.the_field_send, flying.the_send, leg.the_field_send, leg.the_send, phase.the_field_send, phase.the_send, failures.the_field_send, failures.the_send, servers.the_send, channel_servers.the_field_send, channel_servers.the_send, flags.the_field_send, flags.the_send, lookups.the_field_send, lookups.the_send, options.the_send)

-- allocators and what holds at most one item
pub ruleset owners = (global.the_field_send, global.the_send, global.the_field_sync, global.the_sync, option.the_field_send, option.the_send, option.the_field_sync, option.the_sync, phantom.the_field_send, phantom.the_send, phantom.the_field_sync, phantom.the_sync, memory.the_field_send, memory.the_send, memory.the_field_sync, memory.the_sync)

-- the parts of a state may go to another thread
pub answer_send : IsSend Answer.the_row
answer_send = search (plain, owners, crosses, script.crosses, sendable) depth 60 fits 20000

pub entry_send : IsSend Entry.the_row
entry_send = search (plain, owners, crosses, script.crosses, sendable) depth 60 fits 20000

pub lookup_send : IsSend Lookup.the_row
lookup_send = search (plain, owners, crosses, sendable) depth 60 fits 20000

pub call_send : IsSend Call.the_row
call_send = search (linked.the_send, answer_send, owners, crosses, runs.crosses, sendable) depth 60 fits 20000

pub calls_send : IsSend Calls.the_row
calls_send = search (linked.the_send, answer_send, owners, crosses, runs.crosses, sendable) depth 60 fits 20000

pub hand_send : IsSend Hand.the_row
hand_send = search (crosses, script.crosses, sendable) depth 60 fits 20000

-- a journal that is kept may go to another thread
pub kept_send : IsSend KeptJournal.the_row
kept_send = search (entry_send, owners, crosses, script.crosses, sendable) depth 60 fits 20000

-- a body that performs its script may go to another thread
pub scripted_send : IsSend Scripted.the_row
scripted_send = search (refusal.the_send, owners, crosses, script.crosses, sendable) depth 60 fits 20000

module _ (B : RattleType) (g : done.Ghosts B.Denot) (b : IsSend B) where
  -- what stands in a callback may go to another thread, whoever gave it
  body_field_send : IsSend (Body.the_field B).row
  body_field_send = search (b, scripted_send, crosses, sendable) depth 60 fits 20000

  body_send : IsSend (Body.the_row B)
  body_send = recorded_send (Body.the_field B).row _ _ (Body.the_type B).to_one body_field_send

  -- and so may a callback
  pub callback_send : IsSend (Callback.the_row B g)
  callback_send = record { owned = λ x vs d. search (body_send.owned, sendable); leaving = λ k x w. search sendable }

  -- a callback with such a body
  abbrev pub Told : RattleType
  Told = Callback.the_row B g

  -- and so may what a table keeps of its requests, and the table
  pub ticket_field_send : IsSend (Ticket.the_field Told).row
  ticket_field_send = struct_send (shape (Ticket.the_type Told)) (search (callback_send, call_send, plain, owners, crosses, script.crosses, sendable) depth 60 fits 20000)

  pub ticket_send : IsSend (Ticket.the_row Told)
  ticket_send = recorded_send (Ticket.the_field Told).row _ _ (Ticket.the_type Told).to_one ticket_field_send

  pub row_send : IsSend (Row.the_row Told)
  row_send =
      let sent = λ (all : AllSend (shape (Row.the_type Told)).fields). recorded_send (Row.the_field Told).row _ _ (Row.the_type Told).to_one (struct_send (shape (Row.the_type Told)) all) in
      sent (search sendable, (search (plain, owners, crosses, script.crosses, sendable) depth 60 fits 20000, (search sendable, (search (plain, owners, crosses, script.crosses, sendable) depth 60 fits 20000, (search (lookup_send, plain, owners, crosses, script.crosses, sendable) depth 60 fits 20000, (search (callback_send, sendable) depth 60 fits 20000, (search (call_send, sendable) depth 60 fits 20000, tt)))))))

  pub held_send : (t : token.Ghosts Told.Denot) → IsSend (Held.the_row Told t)
  held_send t = search (row_send, owners, crosses, sendable) depth 60 fits 20000

  -- a request on the heap, the list of them, and the rows with their indexes
  pub list_send : (t : token.Ghosts Told.Denot) → IsSend (VecDeque.the_row (Held.the_row Told t) Global.the_row OfGlobal.ghosts)
  list_send t = deque.the_send _ _ _ (held_send t) global.the_send allocator.the_frees

  pub rows_send : (t : token.Ghosts Told.Denot) → IsSend (Rows.the_row Told t)
  rows_send t = search (list_send, waiting.the_send, flown.the_field_send, owners, crosses, script.crosses, sendable) depth 60 fits 20000

  module _ (J : RattleType) (k : JournalGhosts J.Denot) (j : IsSend J) where
    table_inside_send : (t : token.Ghosts Told.Denot) → IsSend (table_inside.the_row Told J t k)
    table_inside_send t =
        recorded_send (table_inside.the_field Told J t k).row _ _ (table_inside.the_type Told J t k).to_one (struct_send (shape (table_inside.the_type Told J t k)) (search (rows_send, plain, owners, crosses, script.crosses, sendable) depth 60 fits 20000, (search (rows_send, plain, owners, crosses, script.crosses, sendable) depth 60 fits 20000, (search (rows_send, plain, owners, crosses, script.crosses, sendable) depth 60 fits 20000, (search (rows_send, plain, owners, crosses, script.crosses, sendable) depth 60 fits 20000, (deque.the_send _ _ _ ticket_send global.the_send allocator.the_frees, (j, (search (plain, owners, crosses, sendable) depth 60 fits 20000, (search sendable, (search sendable, tt))))))))))

    pub table_send : (t : token.Ghosts Told.Denot) → IsSend (Table.the_row Told J t k)
    table_send t = view_send (table_inside.the_row Told J t k) _ _ _ _ (table_inside_send t)

    pub state_send : IsSend (SharedTable.the_row B J g k)
    state_send = search (table_send, crosses, sendable) depth 60 fits 20000

    -- what a thread has at a channel may go to another thread
    pub account_send : IsSend (Account.the_row B J g k)
    account_send = search (state_send, calls_send, seat.the_send, crosses, script.crosses, sendable) depth 60 fits 20000

    pub pass_send : IsSend (Pass.the_row B J g k)
    pass_send = search (account_send, hand_send, crosses, sendable) depth 60 fits 20000

    -- and several threads may be lent a channel
    pub channel_sync : IsSync (Channel.the_row B J g k)
    channel_sync = search (state_send, lock.the_sync, crosses, sendable) depth 60 fits 20000

    -- a place is a pass at a channel, and its thread's handle
    module _ (κ : NamedLft) (R : RattleType) (handle : IsSync R) where
      at_lock_send : IsSend (at_lock.the_row κ B R J g k)
      at_lock_send = recorded_send (at_lock.the_field κ B R J g k).row _ _ (at_lock.the_type κ B R J g k).to_one (struct_send (shape (at_lock.the_type κ B R J g k)) (search (handle, sendable) depth 20 fits 20000, (search (state_send, lock.the_sync, crosses, sendable) depth 60 fits 20000, (search (account_send, sendable) depth 20 fits 20000, tt))))

      turns_send : IsSend (Turns.the_row κ B R J g k)
      turns_send = view_send (at_lock.the_row κ B R J g k) _ _ _ _ at_lock_send

      inside_send : IsSend (inside.the_row κ B R J g k)
      inside_send = recorded_send (inside.the_field κ B R J g k).row _ _ (inside.the_type κ B R J g k).to_one (struct_send (shape (inside.the_type κ B R J g k)) (search (turns_send, sendable) depth 20 fits 20000, (search (hand_send, sendable) depth 20 fits 20000, tt)))

      pub place_send : IsSend (Place.the_row κ B R J g k)
      place_send = view_send (inside.the_row κ B R J g k) _ _ _ _ inside_send
