use Rattle.std.proofs.Common.{◌≡◌, Some, None, sym, rules}
use Rattle.std.specs.Prelude.{position}
use Rattle.test_nameserver.specs.PeerCalls.{has_number}
use Rattle.test_nameserver.proofs.LinkLemmas.{first_keeps, none_keeps}
use Rattle.test_nameserver.proofs.links.keep_unread.Goals as goal

pub returns-in-Some : goal.returns-in-Some
returns-in-Some c =
    let at : position (has_number c.args.link) c.args.links.now.items ≡ Some c.in-Some.at = search rules in
    rw c.index_mut.ensures.value (first_keeps c.args.link c.args.unread c.args.links.now.items c.in-Some.at c.index_mut.result.now at)

pub returns-in-None : goal.returns-in-None
returns-in-None c =
    let none : position (has_number c.args.link) c.args.links.now.items ≡ None = search rules in
    sym (none_keeps c.args.link c.args.unread c.args.links.now.items none)
