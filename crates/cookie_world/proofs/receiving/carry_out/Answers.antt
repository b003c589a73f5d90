use Rattle.std.proofs.Common.{ℕ, List, [], ◌∷◌, ◌++◌, refl, sym, ap, ◌∙◌}
use Rattle.std.specs.Prelude.{option_map}
use Rattle.net_world.specs.declared.answers.Got.TheVariants.{Datagram}
use Rattle.net_world.specs.declared.log.WorldCall.{WorldCall}
use Rattle.net_world.specs.declared.log.WorldCall.TheVariants.{Receive, Send}
use Rattle.cookie_world.specs.Rounds.{told, with_cookie}
use Rattle.cookie_world.specs.State.{state_of}
use Rattle.cookie_world.specs.declared.verdict.Verdict.TheVariants.{Pass, Teach}
use Rattle.cookie_world.proofs.LogLemmas.{none_more}
use Rattle.cookie_world.proofs.ReceivingLemmas.{carries_on, carries_again}
use Rattle.cookie_world.proofs.receiving.carry_out.Goals as goal

pub returns-in-Pass-clause-carries : goal.returns-in-Pass-clause-carries
returns-in-Pass-clause-carries g c =
    rw c.in-Pass.is (carries_on _ _ _ c.args.server c.args.bytes Pass (state_of c.args.kept.now) _ (refl, refl, refl) c.hand_on.ensures.ok c.hand_on.ensures.err)

pub returns-in-Lose-clause-carries : goal.returns-in-Lose-clause-carries
returns-in-Lose-clause-carries g c =
    rw c.in-Lose.is (
      [],
      state_of c.args.kept.now,
      none_more _,
      (ap (Datagram c.args.server) c.new-in-Lose.ensures, refl, refl),
      c.tell.ensures ∙ ap (λ (b : List ℕ). told (Receive (Datagram c.args.server b)) (state_of c.args.kept.now)) (c.new.ensures ∙ sym c.new-in-Lose.ensures),
    )

pub returns-in-Teach-clause-carries : goal.returns-in-Teach-clause-carries
returns-in-Teach-clause-carries g c =
    rw c.in-Teach.is
    (carries_on _ _ _ c.args.server c.args.bytes (Teach c.in-Teach.peer) (with_cookie c.in-Teach.peer (state_of c.args.kept.now)) _ (refl, refl, refl) c.teach.ensures.ok c.teach.ensures.err)

pub returns-in-Ok-clause-carries : goal.returns-in-Ok-clause-carries
returns-in-Ok-clause-carries g c =
    rw c.in-Again.is
    (
    carries_again _ _ _ _ c.args.server c.args.bytes c.in-Again.peer c.in-Again.query c.in-Again.sent c.in-Ok.outcome _
    (c.in-Ok.ensures.log ∙ ap (λ (b : List ℕ). option_map (λ (calls : List WorldCall). calls ++ Send c.args.server b c.in-Ok.outcome ∷ []) (g.W.World.log c.args.world.now)) c.as_slice.ensures)
    c.note_again.ensures.given c.note_again.ensures.state
    )
