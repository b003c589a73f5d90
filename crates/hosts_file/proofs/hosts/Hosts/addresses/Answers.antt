use Rattle.hosts_file.proofs.SearchLemmas.{passed_again, passed_more, passed_all}
use Rattle.hosts_file.proofs.hosts.Hosts.addresses.Goals as goal
use Rattle.hosts_file.proofs.hosts.Hosts.addresses.Goals.{then-number-next+in_ok-add_address, else-number-next}

pub loop-like-preserved : goal.loop-like-preserved
loop-like-preserved c = elim c.if-number-next.branch [
  | then-number-next+in_ok-add_address w ↦
      rw (w.next-is, w.addresses-is)
      (passed_more c.args.name.now c.args.family c.args.self.now c.names_like-found.result.now c.names_like-found.ensures c.loop-like.like-index c.loop-like.next c.loop-like.addresses _ _ w.line.result.now
      c.loop-like-test.true w.if-number-next.true w.line.ensures w.in_ok-add_address.ensures c.loop-like.invariant)
  | else-number-next w ↦
      rw (w.next-is, w.addresses-is)
      (passed_again c.args.name.now c.args.family c.args.self.now c.names_like-found.result.now c.names_like-found.ensures c.loop-like.like-index c.loop-like.next c.loop-like.addresses _
      c.loop-like-test.true w.if-number-next.false c.loop-like.invariant)
]

pub returns : goal.returns
returns c =
    passed_all c.args.name.now c.args.family c.args.self.now c.names_like-found.result.now c.names_like-found.ensures c.loop-like.like-index c.loop-like.next c.loop-like.addresses
    c.loop-like-test.false c.loop-like.invariant
