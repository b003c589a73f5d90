use Rattle.seat_lock.proofs.MakingLemmas.{opened}
use Rattle.seat_lock.proofs.making.lay.Goals as goal

pub vacant-requires : goal.vacant-requires
vacant-requires g c = opened g.S.Kept.stands g.S.Kept.maker g.S.Kept.setting c.args.about.now c.requires.0 c.requires.1
