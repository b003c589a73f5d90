use Rattle.addr_lookup.proofs.MergeLemmas.{both_is, first_is, second_is, over_ok}
use Rattle.addr_lookup.proofs.merging.merge.Goals as goal

pub returns-clause-both : goal.returns-clause-both
returns-clause-both c = over_ok _ _ c.merge_legs.result (λ answer is channel first second o l r. both_is channel _ _ _ _ _ first second answer l r (is channel o)) c.merge_legs.ensures

pub returns-clause-left : goal.returns-clause-left
returns-clause-left c = over_ok _ _ c.merge_legs.result (λ answer is channel end o l u. first_is channel _ _ _ _ _ end answer l u (is channel o)) c.merge_legs.ensures

pub returns-clause-right : goal.returns-clause-right
returns-clause-right c = over_ok _ _ c.merge_legs.result (λ answer is channel end o r u. second_is channel _ _ _ _ _ end answer r u (is channel o)) c.merge_legs.ensures
