use Rattle.acache_tool.specs.Naming.{scene_of}
use Rattle.acache_tool.proofs.AskLemmas.{sends_cut, sends_unshown, shows_as}
use Rattle.acache_tool.proofs.IdleLemmas.{open_asked}
use Rattle.acache_tool.proofs.asking.send.Goals as goal

pub bring-requires : goal.bring-requires
bring-requires g c = record { asked = open_asked c.args.name.now c.args.asker.now.alone c.accept.new.alone c.requires.idle c.in_ok-accept.ensures.asks }

pub returns-in_err-answer-clause-sends : goal.returns-in_err-answer-clause-sends
returns-in_err-answer-clause-sends g c = λ at missed.
    sends_cut (g.W.World.wait_faults c.args.world.now) (g.W.World.wait_faults c.bring.new.world) c.args.name.now at c.args.asker.now c.args.shown.now (g.W.World.log c.args.world.now) missed c.accept.new.alone c.in_ok-accept.ensures.asks
    (scene_of c.bring.new.asker c.args.shown.now (g.W.World.log c.bring.new.world)) c.from_residual-in_err-answer.result c.in_err-answer.field-0.0 c.from_residual-in_err-answer.ensures.0 c.in_err-answer.ensures.brings

pub returns-in_err-show_sent-in-Answered-clause-sends : goal.returns-in_err-show_sent-in-Answered-clause-sends
returns-in_err-show_sent-in-Answered-clause-sends g c = λ at missed.
    sends_unshown (g.W.World.wait_faults c.args.world.now) (g.W.World.wait_faults c.bring.new.world) c.args.name.now at c.args.asker.now c.args.shown.now (g.W.World.log c.args.world.now) missed c.accept.new.alone c.in_ok-accept.ensures.asks
    (scene_of c.bring.new.asker c.show_sent.new.shown (g.W.World.log c.bring.new.world)) c.from_residual-in_err-show_sent-in-Answered.result c.in-Answered.answer c.from_residual-in_err-show_sent-in-Answered.ensures.0
    (rw c.in-Answered.is at c.in_ok-answer.ensures.brings)

pub returns-in_ok-show_sent-in-Answered-clause-sends : goal.returns-in_ok-show_sent-in-Answered-clause-sends
returns-in_ok-show_sent-in-Answered-clause-sends g c = λ at missed. record {
  channel = c.accept.new.alone;
  asked = record { missed = missed; asks = c.in_ok-accept.ensures.asks };
  answer = c.in-Answered.answer;
  brings = rw c.in-Answered.is at c.in_ok-answer.ensures.brings;
  shows = shows_as c.args.name.now _ _ c.in-Answered.answer _ _ c.args.shown.now c.show_sent.new.shown c.requires.is_name c.reading-at.ensures c.in_ok-show_sent-in-Answered.ensures;
}

pub returns-in-WaitFault-clause-sends : goal.returns-in-WaitFault-clause-sends
returns-in-WaitFault-clause-sends g c = λ at missed. record {
  channel = c.accept.new.alone;
  asked = record { missed = missed; asks = c.in_ok-accept.ensures.asks };
  brings = rw c.in-WaitFault.is at c.in_ok-answer.ensures.brings;
}

pub returns-in-Stalled-clause-sends : goal.returns-in-Stalled-clause-sends
returns-in-Stalled-clause-sends g c = λ at missed. record {
  channel = c.accept.new.alone;
  asked = record { missed = missed; asks = c.in_ok-accept.ensures.asks };
  brings = rw c.in-Stalled.is at c.in_ok-answer.ensures.brings;
}
