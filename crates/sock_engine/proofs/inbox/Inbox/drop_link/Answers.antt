use Rattle.sock_engine.proofs.InboxLemmas.{others_taken, other_held, bytes_left}
use Rattle.sock_engine.proofs.inbox.Inbox.drop_link.Goals as goal

pub invariant_of-self : goal.invariant_of-self
invariant_of-self c =
    let items = c.self.inside.items.items in
    let held = c.self.inside.held in
    let taken = others_taken c.args.link items c.self.invariant.0 in
    let inside = other_held c.args.link c.self.inside.buffer.items held c.self.invariant.1 in
    let few = bytes_left c.args.link held items c.self.inside.bytes c.self.invariant.3 in
    (rw c.keep_others.ensures taken, rw c.other_than-self-inside.ensures inside, c.self.invariant.2, rw (c.keep_others.ensures, c.other_than-self-inside.ensures) few, c.self.invariant.4)
