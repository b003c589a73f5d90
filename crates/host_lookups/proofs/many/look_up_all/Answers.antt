use Rattle.host_lookups.proofs.GoingLemmas.{all_by, all_set, many_set, part_by, rose_from, stands_new}
use Rattle.host_lookups.proofs.many.look_up_all.Goals as goal

pub returns-in_err-session-clause-told : goal.returns-in_err-session-clause-told
returns-in_err-session-clause-told g c = λ some. absurd (some c.requires.none)

pub returns-in_err-channel-clause-told : goal.returns-in_err-channel-clause-told
returns-in_err-channel-clause-told g c = λ some. absurd (some c.requires.none)

pub returns-clause-part : goal.returns-clause-part
returns-clause-part g c =
    part_by _ _ _ _ _ _ c.ask_all-came.result c.ask_all-came.ensures.part (rose_from _ _ _ c.in_ok-session.ensures.waits)
    (λ stalls. many_set c.args.options c.args.hosts c.in_ok-channel.channel c.in_ok-channel.ensures _ _ _ _ _
    (stalls _ (stands_new c.args.options c.args.hosts _ _ _ _ c.in_ok-channel.ensures c.in_ok-session.ensures.opens c.in_ok-session.ensures.fresh c.in_ok-session.ensures.unturned)))

pub returns-clause-all : goal.returns-clause-all
returns-clause-all g c =
    all_by _ _ _ c.ask_all-came.result c.ask_all-came.ensures.all
    (all_set c.args.options c.args.hosts c.in_ok-channel.channel c.in_ok-channel.ensures _ _)
