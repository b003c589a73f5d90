use Rattle.std.proofs.Common.{◌≡◌, ◌-◌, ◌≤◌, vec_capacity, vec_len}
use Rattle.ticket_queue.specs.Passes.{new_pass, receivers_of}
use Rattle.ticket_queue.proofs.making.add_receivers.Given as goal

abbrev pub invariant-loop : goal.invariant-loop
invariant-loop g l =
    (l.first ≡ new_pass l.queue (1024 - l.counter)) × (l.all.items ≡ receivers_of l.queue l.counter) × (vec_len l.all ≡ l.counter) × (vec_capacity l.all ≡ vec_capacity l.fn.all) × (l.counter ≤ l.receivers)
