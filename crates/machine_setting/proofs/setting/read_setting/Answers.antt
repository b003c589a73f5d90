use Rattle.std.proofs.Common.{ap, arith, subst, ◌∙◌}
use Rattle.std.specs.Prelude.{codes}
use Rattle.net_world.proofs.CauseLemmas.{rose_within}
use Rattle.net_world.specs.Cause.{is_not_read}
use Rattle.net_world.specs.Files.{IsReadOf}
use Rattle.machine_setting.proofs.ReadLemmas.{on_err, one_read, read_both, two_read}
use Rattle.machine_setting.proofs.setting.read_setting.Goals as goal

-- both were read, and say this
pub returns-clause-set : goal.returns-clause-set
returns-clause-set g c =
    record {
      resolv = c.in_ok-resolv.resolv;
      resolv_read = c.in_ok-resolv.ensures.answer;
      hosts_file = c.in_ok-hosts.hosts;
      hosts_read = subst (λ files. IsReadOf files (codes "/etc/hosts") 4194304 c.in_ok-hosts.hosts) c.read.ensures.files c.in_ok-hosts.ensures.answer;
      reads = read_both _ _ _ _ _ c.in_ok-resolv.ensures.reads c.in_ok-hosts.ensures.reads;
      resolv_fault = λ is. rose_within _ _ _ _ (omega arith) c.read.ensures.cause.later (c.in_ok-resolv.ensures.cause.cause (ap is_not_read is)) c.read-2.ensures.cause.later;
      hosts_fault = λ is. rose_within _ _ _ _ c.read.ensures.cause.later c.read-2.ensures.cause.later (c.in_ok-hosts.ensures.cause.cause (ap is_not_read is)) (omega arith);
      options_are = c.in_ok-options_by.ensures;
      hosts_are = c.in_ok-hosts_by.ensures;
    }

-- the first was read, and memory was wanting at the second
pub returns-in_err-hosts-clause-err : goal.returns-in_err-hosts-clause-err
returns-in_err-hosts-clause-err g c = on_err _ (one_read c.in_ok-resolv.resolv _ _ (c.in_err-hosts.ensures.reads ∙ c.in_ok-resolv.ensures.reads))

-- both were read, and memory was wanting for what the first one says, or the second
pub returns-in_err-options_by-clause-err : goal.returns-in_err-options_by-clause-err
returns-in_err-options_by-clause-err g c = on_err _ (two_read c.in_ok-resolv.resolv c.in_ok-hosts.hosts _ _ _ c.in_ok-resolv.ensures.reads c.in_ok-hosts.ensures.reads)

pub returns-in_err-hosts_by-clause-err : goal.returns-in_err-hosts_by-clause-err
returns-in_err-hosts_by-clause-err g c = on_err _ (two_read c.in_ok-resolv.resolv c.in_ok-hosts.hosts _ _ _ c.in_ok-resolv.ensures.reads c.in_ok-hosts.ensures.reads)
