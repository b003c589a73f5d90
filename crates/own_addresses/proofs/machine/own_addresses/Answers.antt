use Rattle.std.proofs.Common.{ap, arith, rules, subst, ◌∙◌}
use Rattle.std.specs.Prelude.{codes}
use Rattle.net_world.proofs.CauseLemmas.{rose_within}
use Rattle.net_world.specs.Cause.{is_not_read}
use Rattle.net_world.specs.Files.{IsReadOf}
use Rattle.own_addresses.proofs.ReadLemmas.{all_read, on_err, one_read, read_three, two_read}
use Rattle.own_addresses.proofs.machine.own_addresses.Goals as goal

pub returns-clause-own : goal.returns-clause-own
returns-clause-own g c = record {
  routes = c.in_ok-routes.routes;
  interfaces = c.in_ok-interfaces.interfaces;
  leaves = c.in_ok-leaves.leaves;
  routes_read = c.in_ok-routes.ensures.answer;
  interfaces_read = subst (λ files. IsReadOf files (codes "/proc/net/if_inet6") 1048576 c.in_ok-interfaces.interfaces) c.read.ensures.files c.in_ok-interfaces.ensures.answer;
  leaves_read = subst (λ files. IsReadOf files (codes "/proc/net/fib_trie") 1048576 c.in_ok-leaves.leaves) (c.read-2.ensures.files ∙ c.read.ensures.files) c.in_ok-leaves.ensures.answer;
  reads = read_three _ _ _ _ _ _ _ c.in_ok-routes.ensures.reads c.in_ok-interfaces.ensures.reads c.in_ok-leaves.ensures.reads;
  routes_fault = λ is. rose_within _ _ _ _ (omega arith) c.read.ensures.cause.later (c.in_ok-routes.ensures.cause.cause (ap is_not_read is)) (omega (arith, c.read-2.ensures.cause.later, c.read-3.ensures.cause.later));
  interfaces_fault = λ is. rose_within _ _ _ _ c.read.ensures.cause.later c.read-2.ensures.cause.later (c.in_ok-interfaces.ensures.cause.cause (ap is_not_read is)) c.read-3.ensures.cause.later;
  leaves_fault = λ is. rose_within _ _ _ _ (omega (arith, c.read.ensures.cause.later, c.read-2.ensures.cause.later)) c.read-3.ensures.cause.later (c.in_ok-leaves.ensures.cause.cause (ap is_not_read is)) (omega arith);
  chosen = search rules;
}

-- the first was read, and memory was wanting at the second
pub returns-in_err-interfaces-clause-err : goal.returns-in_err-interfaces-clause-err
returns-in_err-interfaces-clause-err g c = on_err _ (one_read c.in_ok-routes.routes _ _ (c.in_err-interfaces.ensures.reads ∙ c.in_ok-routes.ensures.reads))

-- two were read, and memory was wanting at the third
pub returns-in_err-leaves-clause-err : goal.returns-in_err-leaves-clause-err
returns-in_err-leaves-clause-err g c =
    on_err _ (two_read c.in_ok-routes.routes c.in_ok-interfaces.interfaces _ _ _ c.in_ok-routes.ensures.reads (c.in_err-leaves.ensures.reads ∙ c.in_ok-interfaces.ensures.reads))

-- all were read, and memory was wanting for what they tell, or for what is taken of it
pub returns-in_err-told-clause-err : goal.returns-in_err-told-clause-err
returns-in_err-told-clause-err g c =
    on_err _ (all_read c.in_ok-routes.routes c.in_ok-interfaces.interfaces c.in_ok-leaves.leaves _ _ _ _ c.in_ok-routes.ensures.reads c.in_ok-interfaces.ensures.reads c.in_ok-leaves.ensures.reads)

pub returns-in_err-chosen-clause-err : goal.returns-in_err-chosen-clause-err
returns-in_err-chosen-clause-err g c =
    on_err _ (all_read c.in_ok-routes.routes c.in_ok-interfaces.interfaces c.in_ok-leaves.leaves _ _ _ _ c.in_ok-routes.ensures.reads c.in_ok-interfaces.ensures.reads c.in_ok-leaves.ensures.reads)
