use Rattle.std.proofs.Common.{inl, map, subst, ◌∙◌}
use Rattle.acache_tool.specs.Asked.{asked_of, setting_for}
use Rattle.acache_tool.specs.Leaving.{AsksAll}
use Rattle.acache_tool.specs.Naming.{scene_of}
use Rattle.acache_tool.specs.Output.{text_at}
use Rattle.tool_line.specs.Put.{IsPut}
use Rattle.acache_tool.proofs.BeginLemmas.{asks_open, at_begin}
use Rattle.acache_tool.proofs.PromiseLemmas.{promised, told_nothing, unbegun}
use Rattle.acache_tool.proofs.running.ask.Goals as goal

pub close-requires : goal.close-requires
close-requires g c =
    let open_ = asks_open c.ask_all-loop_end.result _ _ _ _ _ _ _ (scene_of c.ask_all-loop_end.new.asker c.ask_all-loop_end.new.shown (g.W.World.log c.ask_all-loop_end.new.world))
    (c.ask_all-loop_end.ensures.asks c.args.asked.room (setting_for c.args.asked.server) c.args.turns (g.W.World.log c.args.world.now) (at_begin c.args.asked.room c.args.asked.server c.args.turns c.in-Ok-begin.asker c.in-Ok.shown (g.W.World.log c.args.world.now) (g.W.World.log c.begin.new.world) c.in-Ok-begin.ensures.begins c.in-Ok.ensures.0 c.in-Ok.ensures.1 c.in-Ok.ensures.2)) in
    record { undestroyed = open_.0; silent = open_.1 }

pub returns-in_default-clause-promise : goal.returns-in_default-clause-promise
returns-in_default-clause-promise g c = rw (c.early.ensures, c.number.ensures) (unbegun (asked_of c.args.asked) c.args.turns _ _ _ _ _ (told_nothing c.args.asked.server (g.W.World.log c.args.world.now)))

pub returns-in_default-begin-clause-promise : goal.returns-in_default-begin-clause-promise
returns-in_default-begin-clause-promise g c = rw (c.early-in_default-begin.ensures, c.number-in_default-begin.ensures) (unbegun (asked_of c.args.asked) c.args.turns _ _ _ _ _ c.in_default-begin.ensures.begins)

pub returns-clause-promise : goal.returns-clause-promise
returns-clause-promise g c =
    rw (c.into_journal.ensures ∙ c.close-2.ensures)
    (inl (promised (asked_of c.args.asked) c.args.turns (g.W.World.wait_faults c.args.world.now) (g.W.World.wait_faults c.ask_all-loop_end.new.world) (g.W.World.log c.args.world.now) (scene_of c.ask_all-loop_end.new.asker c.ask_all-loop_end.new.shown (g.W.World.log c.ask_all-loop_end.new.world)) c.close.new.alone c.close.new.calls c.close.ensures c.tell-status.result
    (record { bytes = g.K.Sink.bytes c.args.sink.now; faults = g.K.Sink.faults c.args.sink.now; puts = g.K.Sink.puts c.args.sink.now })
    (record { bytes = g.K.Sink.bytes c.tell-status.new.sink; faults = g.K.Sink.faults c.tell-status.new.sink; puts = g.K.Sink.puts c.tell-status.new.sink })
    c.ask_all-loop_end.result c.end_of-end.result c.end_of-end.ensures
    (subst (λ t. IsPut (text_at t c.end_of-end.result) c.end_of-end.result c.tell-status.result (record { bytes = g.K.Sink.bytes c.args.sink.now; faults = g.K.Sink.faults c.args.sink.now; puts = g.K.Sink.puts c.args.sink.now }) (record { bytes = g.K.Sink.bytes c.tell-status.new.sink; faults = g.K.Sink.faults c.tell-status.new.sink; puts = g.K.Sink.puts c.tell-status.new.sink })) c.as_slice.ensures.value c.tell-status.ensures)
    (subst (λ k. AsksAll c.ask_all-loop_end.result c.args.asked.room (setting_for c.args.asked.server) c.args.turns (map (λ name. name.now) c.args.asked.names.now) (g.W.World.log c.args.world.now) k (g.W.World.wait_faults c.ask_all-loop_end.new.world) (scene_of c.ask_all-loop_end.new.asker c.ask_all-loop_end.new.shown (g.W.World.log c.ask_all-loop_end.new.world))) c.begin.ensures.waits
    (c.ask_all-loop_end.ensures.asks c.args.asked.room (setting_for c.args.asked.server) c.args.turns (g.W.World.log c.args.world.now) (at_begin c.args.asked.room c.args.asked.server c.args.turns c.in-Ok-begin.asker c.in-Ok.shown (g.W.World.log c.args.world.now) (g.W.World.log c.begin.new.world) c.in-Ok-begin.ensures.begins c.in-Ok.ensures.0 c.in-Ok.ensures.1 c.in-Ok.ensures.2)))))
