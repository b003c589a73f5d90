use Rattle.host_lookups.proofs.GoingLemmas.{none_by, one_set, rose_from, stands_new}
use Rattle.host_lookups.proofs.one.look_up.Goals as goal

pub returns-clause-none : goal.returns-clause-none
returns-clause-none g c =
    none_by _ _ _ _ _ c.ask-answer.result c.ask-answer.ensures.none (rose_from _ _ _ c.in_ok-session.ensures.waits)
    (λ stalls. one_set c.args.options c.args.hosts c.in_ok-channel.channel c.in_ok-channel.ensures _ _ _ _
    (stalls _ (stands_new c.args.options c.args.hosts _ _ _ _ c.in_ok-channel.ensures c.in_ok-session.ensures.opens c.in_ok-session.ensures.fresh c.in_ok-session.ensures.unturned)))
