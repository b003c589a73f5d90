use Rattle.std.proofs.Common.{arith}
use Rattle.worker_rounds.proofs.ServingLemmas.{right_at, right_new, right_sends, rights_len, rights_new, rights_some}
use Rattle.worker_rounds.proofs.serving.take_right.Goals as goal

pub remove-requires : goal.remove-requires
remove-requires g c = omega (arith, rights_some c.args.workers c.args.pool.now.pool c.args.rights.now.items c.requires, c.args.rights.now.ok.0)

pub returns-clause-new : goal.returns-clause-new
returns-clause-new g c = right_new c.args.workers c.args.pool.now.pool c.args.rights.now.items c.remove.new.self.items c.remove.result c.requires c.remove.ensures.value c.remove.ensures.items

pub returns-clause-at : goal.returns-clause-at
returns-clause-at g c = right_at c.args.workers c.args.pool.now.pool c.args.rights.now.items c.remove.new.self.items c.remove.result c.requires c.remove.ensures.value c.remove.ensures.items

pub returns-clause-sender : goal.returns-clause-sender
returns-clause-sender g c = right_sends c.args.workers c.args.pool.now.pool c.args.rights.now.items c.remove.new.self.items c.remove.result c.requires c.remove.ensures.value c.remove.ensures.items

pub returns-clause-others : goal.returns-clause-others
returns-clause-others g c = rights_new c.args.workers c.args.pool.now.pool c.args.rights.now.items c.remove.new.self.items c.remove.result c.requires c.remove.ensures.value c.remove.ensures.items

pub returns-clause-as_many : goal.returns-clause-as_many
returns-clause-as_many g c =
    omega (arith, rights_len c.args.workers c.args.pool.now.pool c.args.rights.now.items c.remove.new.self.items c.remove.result c.requires c.remove.ensures.value c.remove.ensures.items, c.remove.new.self.ok.0)

pub returns-clause-room : goal.returns-clause-room
returns-clause-room g c =
    let len = rights_len c.args.workers c.args.pool.now.pool c.args.rights.now.items c.remove.new.self.items c.remove.result c.requires c.remove.ensures.value c.remove.ensures.items in
    (c.remove.ensures.capacity, omega (arith, len, c.remove.new.self.ok.0, c.remove.ensures.len, c.remove.ensures.capacity, c.args.rights.now.ok.1))
