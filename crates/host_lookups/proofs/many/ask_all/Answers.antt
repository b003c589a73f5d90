use Rattle.std.proofs.Common.{arith}
use Rattle.host_lookups.proofs.ExtendLemmas.{fates_begun}
use Rattle.host_lookups.proofs.ManyLemmas.{are_all_answered, are_answered, none_taken}
use Rattle.host_lookups.proofs.GoingLemmas.{all_by, are_stalled, part_by}
use Rattle.host_lookups.proofs.many.ask_all.Goals as goal

pub tell_all-requires : goal.tell_all-requires
tell_all-requires g c = record { fates = fates_begun _ _ _ c.requires.none c.requires.new c.accept_all.ensures.extends (none_taken _ _ _ c.in_ok-accept_all.ensures.adds) }

pub returns-clause-told : goal.returns-clause-told
returns-clause-told g c = λ some. are_answered _ _ _ _ _ _ c.accept_all.ensures.extends c.in_ok-accept_all.ensures.adds c.tell_all.ensures.extends c.tell_all.ensures.fates

pub returns-in_err-accept_all-clause-told : goal.returns-in_err-accept_all-clause-told
returns-in_err-accept_all-clause-told g c = λ some. absurd (some c.requires.none)

pub returns-clause-all : goal.returns-clause-all
returns-clause-all g c =
    all_by _ _ _ c.tell_all.result c.tell_all.ensures.over
    (are_all_answered _ _ _ _ _ _ c.accept_all.ensures.extends c.in_ok-accept_all.ensures.adds c.tell_all.ensures.extends c.tell_all.ensures.fates)

pub returns-clause-part : goal.returns-clause-part
returns-clause-part g c =
    part_by _ _ _ _ _ _ c.tell_all.result c.tell_all.ensures.part (λ rose. rose)
    (λ stalls. are_stalled _ _ _ _ _ _ _ _ _ _ _ (omega arith) c.accept_all.ensures.extends c.accept_all.ensures.stands c.in_ok-accept_all.ensures.adds c.tell_all.ensures.extends c.tell_all.ensures.fates stalls)
