use Rattle.std.proofs.Common.{◌∙◌, ◌∷◌, ap, subst, sym}
use Rattle.shared_session.specs.Serving.{EndsIf, ends_of}
use Rattle.pooled_places.proofs.Theorems.{still_more}
use Rattle.shared_session.specs.Turnings.{ends_at, steps_at, turning_at}
use Rattle.shared_session.proofs.GoneLemmas.{gone_looked, gone_more, gone_served, gone_turned}
use Rattle.shared_session.proofs.RoundLemmas.{between_kept, between_served, ends_if, kept_served, still_at}
use Rattle.shared_session.proofs.SettlingLemmas.{looked_settled, looked_still}
use mir.Syntax.{named, ty_unit}
use denote.Exit.{no}
use denote.RattleType.{RattleType}
use denote.Param.{arg, param}
use denote.Param.Send.{IsSend, arg_send, param_send}
use denote.Ref.{NamedLft}
use Rattle.channel_journal.specs.contracts.kept.KeptJournal as Kept
use Rattle.channel_journal.specs.contracts.kept.KeptJournalChannelJournal.TheImpl as KeptImpl
use Rattle.completion_ticket.specs.contracts.callback.Callback as Callback
use Rattle.completion_ticket.specs.contracts.callback.CallbackToken.TheImpl as TokenImpl
use Rattle.shared_channel.specs.contracts.place.Place as Place
use Rattle.shared_channel.specs.contracts.place.PlaceDesk.TheImpl as DeskImpl
use Rattle.turner_rounds.specs.contracts.pump.TurnerPump as TurnerPump
use Rattle.shared_session.proofs.SendLemmas.{placed, pump_send}
use Rattle.shared_session.proofs.serving.serve_once.Goals as goal

pub look_through-team-requires : goal.look_through-team-requires
look_through-team-requires g c = still_at c.args.channel.now (c.args.team.owner ∷ c.args.team.workers.items) (c.serve-team.result.team.owner ∷ c.serve-team.result.team.workers.items) c.serve-team.ensures.still c.requires.at

pub returns-then-refused-clause-gone : goal.returns-then-refused-clause-gone
returns-then-refused-clause-gone g c =
    gone_served c.args.orders steps_at ends_at turning_at (λ old before new behind s. s.0)
    c.args.team.owner c.args.team.workers.items c.args.pump c.serve-team.result.team.owner c.serve-team.result.team.workers.items c.serve-team.result.pump c.serve-team.result.refused c.serve-team.ensures.serves

pub returns-clause-gone : goal.returns-clause-gone
returns-clause-gone g c =
    gone_more c.args.orders c.args.team.owner c.args.team.workers.items (turning_at c.args.pump)
    c.serve-team.result.team.owner c.serve-team.result.team.workers.items (turning_at c.serve-team.result.pump)
    c.look_through-team.result.0.owner c.look_through-team.result.0.workers.items (turning_at c.look_once-pump.result.0)
    (gone_served c.args.orders steps_at ends_at turning_at (λ old before new behind s. s.0)
    c.args.team.owner c.args.team.workers.items c.args.pump c.serve-team.result.team.owner c.serve-team.result.team.workers.items c.serve-team.result.pump c.serve-team.result.refused c.serve-team.ensures.serves)
    (gone_more c.args.orders c.serve-team.result.team.owner c.serve-team.result.team.workers.items (turning_at c.serve-team.result.pump)
    c.look_through-team.result.0.owner c.look_through-team.result.0.workers.items (turning_at c.serve-team.result.pump)
    c.look_through-team.result.0.owner c.look_through-team.result.0.workers.items (turning_at c.look_once-pump.result.0)
    (gone_looked c.args.orders c.serve-team.result.team.owner c.serve-team.result.team.workers.items (turning_at c.serve-team.result.pump) c.look_through-team.result.0.owner c.look_through-team.result.0.workers.items
    c.look_through-team.result.1 c.look_through-team.result.1 c.look_through-team.ensures.looks.owner_looks c.look_through-team.ensures.looks.workers_look)
    (gone_turned c.args.orders c.look_through-team.result.0.owner c.look_through-team.result.0.workers.items (turning_at c.serve-team.result.pump) (turning_at c.look_once-pump.result.0) c.look_once-pump.ensures.looks.steps))

pub returns-clause-still : goal.returns-clause-still
returns-clause-still g c =
    still_more (c.args.team.owner ∷ c.args.team.workers.items) (c.serve-team.result.team.owner ∷ c.serve-team.result.team.workers.items) (c.look_through-team.result.0.owner ∷ c.look_through-team.result.0.workers.items) c.serve-team.ensures.still
    (looked_still c.serve-team.result.team.owner c.serve-team.result.team.workers.items c.look_through-team.result.0.owner c.look_through-team.result.0.workers.items c.look_through-team.result.1 c.look_through-team.result.1 c.look_through-team.ensures.looks.owner_looks c.look_through-team.ensures.looks.workers_look)

pub returns-clause-settled : goal.returns-clause-settled
returns-clause-settled g c =
    λ was. looked_settled c.serve-team.result.team.owner c.serve-team.result.team.workers.items c.look_through-team.result.0.owner c.look_through-team.result.0.workers.items c.look_through-team.result.1 c.look_through-team.result.1 c.look_through-team.ensures.looks.owner_looks c.look_through-team.ensures.looks.workers_look
    (c.serve-team.ensures.settled was)

pub returns-then-refused-clause-between : goal.returns-then-refused-clause-between
returns-then-refused-clause-between g c =
    between_served steps_at ends_at turning_at (λ pump. g.W.World.origin pump.turner.world) (λ old before new behind s. s.1) (λ pump known is. is)
    c.args.orders c.args.team.owner c.args.team.workers.items c.args.pump c.serve-team.result.team.owner c.serve-team.result.team.workers.items c.serve-team.result.pump c.serve-team.result.refused c.serve-team.ensures.serves c.requires.between

pub returns-clause-between : goal.returns-clause-between
returns-clause-between g c =
    between_kept c.look_once-pump.result.1 (turning_at c.serve-team.result.pump) (turning_at c.look_once-pump.result.0) c.look_once-pump.ensures.looks
    (between_served steps_at ends_at turning_at (λ pump. g.W.World.origin pump.turner.world) (λ old before new behind s. s.1) (λ pump known is. is)
    c.args.orders c.args.team.owner c.args.team.workers.items c.args.pump c.serve-team.result.team.owner c.serve-team.result.team.workers.items c.serve-team.result.pump c.serve-team.result.refused c.serve-team.ensures.serves c.requires.between)

pub returns-clause-origin : goal.returns-clause-origin
returns-clause-origin g c =
    c.look_once-pump.ensures.origin
    ∙ kept_served steps_at ends_at turning_at (λ pump. g.W.World.origin pump.turner.world) (λ old before new behind s. s.1) (λ pump known is. is)
    c.args.orders c.args.team.owner c.args.team.workers.items c.args.pump c.serve-team.result.team.owner c.serve-team.result.team.workers.items c.serve-team.result.pump c.serve-team.result.refused c.serve-team.ensures.serves

pub returns-clause-ends : goal.returns-clause-ends
returns-clause-ends g c =
    subst (λ e. EndsIf e (turning_at c.look_once-pump.result.0) (c.look_through-team.result.0.owner ∷ c.look_through-team.result.0.workers.items))
    (sym (c.end_of-end.ensures ∙ ap (λ b. ends_of c.look_once-pump.result.0.turner.coming b) c.both.ensures))
    (ends_if c.look_through-team.result.1 c.look_once-pump.result.1 c.serve-team.result.team.owner c.serve-team.result.team.workers.items c.look_through-team.result.0.owner c.look_through-team.result.0.workers.items
    (turning_at c.serve-team.result.pump) (turning_at c.look_once-pump.result.0) c.look_through-team.ensures.looks c.look_once-pump.ensures.looks)

pub serve-team-requires-send-P : goal.serve-team-requires-send-P
serve-team-requires-send-P g c κs within =
    let lft : NamedLft = record { mir = named 4; lft = κs.1.1.1.1.0 } in
    let Pump : RattleType = TurnerPump.the_row (Place.the_row lft (param 0 g.row.B) (param 2 g.row.R) Kept.the_row g.B.Done KeptImpl.ghosts) (param 1 g.row.W) (Callback.the_row (param 0 g.row.B) g.B.Done)
    (DeskImpl.ghosts (param 0 g.row.B) (param 2 g.row.R) Kept.the_row g.B.Done DeskImpl.no_dict g.R.Wait DeskImpl.no_dict KeptImpl.ghosts DeskImpl.no_dict DeskImpl.no_dict DeskImpl.no_dict)
    (TokenImpl.ghosts (param 0 g.row.B) g.B.Done TokenImpl.no_dict TokenImpl.no_dict) g.W.World in
    let own : IsSend Pump = pump_send (Place.the_row lft (param 0 g.row.B) (param 2 g.row.R) Kept.the_row g.B.Done KeptImpl.ghosts) (param 1 g.row.W) (Callback.the_row (param 0 g.row.B) g.B.Done)
    (DeskImpl.ghosts (param 0 g.row.B) (param 2 g.row.R) Kept.the_row g.B.Done DeskImpl.no_dict g.R.Wait DeskImpl.no_dict KeptImpl.ghosts DeskImpl.no_dict DeskImpl.no_dict DeskImpl.no_dict)
    (TokenImpl.ghosts (param 0 g.row.B) g.B.Done TokenImpl.no_dict TokenImpl.no_dict) g.W.World
    (placed (param 0 g.row.B) g.B.Done c.type_bounds.send-B lft (param 2 g.row.R) c.type_bounds.sync-R) c.type_bounds.send-W in
    let sent = param_send 1 (arg ty_unit no Pump) (arg_send ty_unit no Pump own) in
    record { owned = sent.owned; leaving = sent.leaving }
