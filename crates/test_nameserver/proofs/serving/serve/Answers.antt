use Rattle.std.proofs.Common.{◌≡◌, ◌∷◌, []}
use Rattle.net_world.specs.declared.answers.Sent.{Sent}
use Rattle.net_world.specs.declared.answers.Sent.TheVariants.{Sent as WasSent, Failed as NotSent}
use Rattle.test_nameserver.specs.Turns.{Serves, TurnTo}
use Rattle.test_nameserver.specs.declared.ending.End.TheVariants.{SocketFault}
use Rattle.test_nameserver.specs.declared.listener.ListenerCall.TheVariants.{Listen}
use Rattle.test_nameserver.proofs.TurnLemmas.{logs_as, logs_call, logs_trans, serves_none, serves_turns}
use Rattle.test_nameserver.proofs.serving.serve.Goals as goal

pub returns-in-Ok-Sent-clause-serves : goal.returns-in-Ok-Sent-clause-serves
returns-in-Ok-Sent-clause-serves g c =
    logs_trans (λ calls. calls ≡ Listen c.args.port WasSent ∷ []) (TurnTo c.args.zone.now c.args.count c.take_turns.result) (Serves c.args.zone.now c.args.port c.args.count c.take_turns.result) _ _ _
    (serves_turns c.args.zone.now c.args.port c.args.count c.take_turns.result)
    (rw c.in-Ok-Sent.field-0-is at (logs_call {T = Sent} _ _ (λ sent. Listen c.args.port sent) c.in-Ok-Sent.field-0 c.in-Ok-Sent.ensures.log)) c.take_turns.ensures.turns

pub returns-in-Ok-Failed-clause-serves : goal.returns-in-Ok-Failed-clause-serves
returns-in-Ok-Failed-clause-serves g c =
    logs_as (λ calls. calls ≡ Listen c.args.port NotSent ∷ []) (Serves c.args.zone.now c.args.port c.args.count SocketFault) _ _
    (serves_none c.args.zone.now c.args.port c.args.count)
    (rw c.in-Ok-Failed.field-0-is at (logs_call {T = Sent} _ _ (λ sent. Listen c.args.port sent) c.in-Ok-Failed.field-0 c.in-Ok-Failed.ensures.log))
