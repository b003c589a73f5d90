use Rattle.std.proofs.Common.{refl, subst}
use Rattle.net_world.specs.World.{IsWhole}
use Rattle.net_world.specs.declared.answers.Got.TheVariants.{Ended, Nothing, Failed as LinkFailed}
use Rattle.cookie_world.proofs.ReceivingLemmas.{hands_plain, hands_piece}
use Rattle.cookie_world.proofs.receiving.hand.Goals as goal

pub returns-in-Piece-clause-hands : goal.returns-in-Piece-clause-hands
returns-in-Piece-clause-hands g c =
    rw c.in-Piece.is (hands_piece _ _ _ c.in-Piece.link c.in-Piece.bytes _ (subst IsWhole c.in-Piece.is c.requires.whole) c.hand_piece.ensures.ok c.hand_piece.ensures.err)

pub returns-in-Ended-clause-hands : goal.returns-in-Ended-clause-hands
returns-in-Ended-clause-hands g c = rw c.in-Ended.is (hands_plain _ _ _ (Ended c.in-Ended.link) (refl, refl, refl) c.tell.ensures)

pub returns-in-Nothing-clause-hands : goal.returns-in-Nothing-clause-hands
returns-in-Nothing-clause-hands g c = rw c.in-Nothing.is (hands_plain _ _ _ Nothing (refl, refl, refl) c.tell-in-Nothing.ensures)

pub returns-in-Failed-clause-hands : goal.returns-in-Failed-clause-hands
returns-in-Failed-clause-hands g c = rw c.in-Failed.is (hands_plain _ _ _ (LinkFailed c.in-Failed.server c.in-Failed.link) (refl, refl, refl) c.tell-in-Failed.ensures)
