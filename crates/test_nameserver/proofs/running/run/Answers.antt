use Rattle.std.proofs.Common.{rules}
use Rattle.test_nameserver.specs.Ending.{number_of}
use Rattle.test_nameserver.specs.Order.{order_seen}
use Rattle.test_nameserver.specs.Service.{GoesOnWith, IsServiceOf}
use Rattle.test_nameserver.proofs.EndLemmas.{end_cause, end_refused, exit_cause, exit_refused, for_none, for_words, only_order, none_ordered, service_said}
use Rattle.test_nameserver.proofs.ReadLemmas.{read_told}
use Rattle.test_nameserver.specs.Reading.{ReadsOnce}
use Rattle.test_nameserver.proofs.running.run.Goals as goal

pub returns-in-Some-clause-status : goal.returns-in-Some-clause-status
returns-in-Some-clause-status g c =
    exit_cause _ c.carry_out.result c.tell.result (g.F.Files.files c.args.files.now) _ _ _ _ _ _ c.tell.ensures.known c.tell.ensures.sink_fault
    (order_seen c.in-Some.order) (only_order _ c.in-Some.order c.in-Some.ensures.only) c.carry_out.ensures.cause

pub returns-in-Some-clause-output : goal.returns-in-Some-clause-output
returns-in-Some-clause-output g c = record {
  whole = λ sink memory. search rules;
  part = (number_of c.carry_out.result, end_cause _ c.carry_out.result (g.F.Files.files c.args.files.now) _ _ _ _ _ _ (order_seen c.in-Some.order) (only_order _ c.in-Some.order c.in-Some.ensures.only) c.carry_out.ensures.cause, c.tell.ensures.part);
  memory = c.tell.ensures.memory;
}

pub returns-in-Some-clause-service : goal.returns-in-Some-clause-service
returns-in-Some-clause-service g c =
    service_said _ (order_seen c.in-Some.order) (g.F.Files.files c.args.files.now) c.carry_out.result c.tell.result _ _
    (only_order _ c.in-Some.order c.in-Some.ensures.only) c.tell.ensures.known c.carry_out.ensures.service

pub returns-in-None-clause-status : goal.returns-in-None-clause-status
returns-in-None-clause-status g c =
    exit_refused _ c.tell-in-None.result (g.F.Files.files c.args.files.now) _ _ _ _ _ _
    (none_ordered _ c.in-None.ensures.only) c.tell-in-None.ensures.known c.tell-in-None.ensures.sink_fault

pub returns-in-None-clause-output : goal.returns-in-None-clause-output
returns-in-None-clause-output g c = record {
  whole = λ sink memory. search rules;
  part = (2, end_refused _ (g.F.Files.files c.args.files.now) _ _ _ _ _ _ (none_ordered _ c.in-None.ensures.only), c.tell-in-None.ensures.part);
  memory = c.tell-in-None.ensures.memory;
}

pub returns-in-None-clause-service : goal.returns-in-None-clause-service
returns-in-None-clause-service g c =
    for_none _ (λ order. GoesOnWith (IsServiceOf (g.F.Files.files c.args.files.now) order c.tell-in-None.result) (g.L.Listener.log c.args.listener.now) (g.L.Listener.log c.args.listener.now))
    (none_ordered _ c.in-None.ensures.only)

pub returns-in-Some-clause-puts : goal.returns-in-Some-clause-puts
returns-in-Some-clause-puts g c =
    (number_of c.carry_out.result, end_cause _ c.carry_out.result (g.F.Files.files c.args.files.now) _ _ _ _ _ _ (order_seen c.in-Some.order) (only_order _ c.in-Some.order c.in-Some.ensures.only) c.carry_out.ensures.cause, c.tell.ensures.puts)

pub returns-in-Some-clause-reads : goal.returns-in-Some-clause-reads
returns-in-Some-clause-reads g c =
    for_words _ (order_seen c.in-Some.order) (λ order. ReadsOnce order.path c.tell.result (g.F.Files.reads c.args.files.now) (g.F.Files.reads c.carry_out.new.files)) (only_order _ c.in-Some.order c.in-Some.ensures.only)
    (read_told _ c.carry_out.result _ _ _ _ _ c.tell.ensures.puts c.carry_out.ensures.reads)

pub returns-in-None-clause-puts : goal.returns-in-None-clause-puts
returns-in-None-clause-puts g c = (2, end_refused _ (g.F.Files.files c.args.files.now) _ _ _ _ _ _ (none_ordered _ c.in-None.ensures.only), c.tell-in-None.ensures.puts)

pub returns-in-None-clause-reads : goal.returns-in-None-clause-reads
returns-in-None-clause-reads g c =
    for_none _ (λ order. ReadsOnce order.path c.tell-in-None.result (g.F.Files.reads c.args.files.now) (g.F.Files.reads c.args.files.now)) (none_ordered _ c.in-None.ensures.only)
