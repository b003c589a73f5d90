use Rattle.test_nameserver.specs.Ending.{number_of}
use Rattle.test_nameserver.specs.Order.{order_seen}
use Rattle.test_nameserver.specs.Service.{IsServiceOf}
use Rattle.test_nameserver.proofs.EndLemmas.{service_none}
use Rattle.test_nameserver.proofs.ReadLemmas.{read_ended, read_served}
use Rattle.test_nameserver.proofs.TurnLemmas.{logs_none}
use Rattle.test_nameserver.proofs.running.carry_out.Goals as goal

pub returns-in-Err-clause-service : goal.returns-in-Err-clause-service
returns-in-Err-clause-service g c =
    logs_none (IsServiceOf (g.F.Files.files c.args.files.now) (order_seen c.args.order.now) (number_of c.in-Err.end)) _
    (service_none (g.F.Files.files c.args.files.now) (order_seen c.args.order.now) c.in-Err.end _ _ c.in-Err.ensures.opens)

pub returns-in-Ok-clause-reads : goal.returns-in-Ok-clause-reads
returns-in-Ok-clause-reads g c = read_served _ c.in-Ok.zone _ _ _ c.in-Ok.ensures.reads

pub returns-in-Err-clause-reads : goal.returns-in-Err-clause-reads
returns-in-Err-clause-reads g c = read_ended _ c.in-Err.end _ _ c.in-Err.ensures.reads
