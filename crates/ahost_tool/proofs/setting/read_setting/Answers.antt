use Rattle.std.proofs.Common.{arith, refl, ◌∙◌}
use Rattle.std.proofs.lemmas.Result.{err_from_is_err_and}
use Rattle.tool_line.proofs.ReadLemmas.{read_then}
use Rattle.ahost_tool.proofs.SettingLemmas.{hosts_fault, none_read, one_read, reads_both, resolv_fault, was_read}
use Rattle.ahost_tool.proofs.setting.read_setting.Goals as goal

-- memory was wanting at the first read
pub returns-in_err-file-clause-reads : goal.returns-in_err-file-clause-reads
returns-in_err-file-clause-reads g c =
    let p = err_from_is_err_and c.from_residual.result c.from_residual.ensures.1 in
    rw (p.1, p.2) (none_read _ _ _ _ _ c.in_err-file.ensures.reads)

-- resolv.conf has a fault, or memory was wanting for what it says
pub returns-in_err-options-clause-reads : goal.returns-in_err-options-clause-reads
returns-in_err-options-clause-reads g c =
    let p = err_from_is_err_and c.from_residual-in_err-options.result c.from_residual-in_err-options.ensures.1 in
    rw (p.1, p.2)
    (resolv_fault _ _ _ _ _ c.in_ok-file.file
    (was_read _ _ _ _ _ _ _ _ _ _ c.in_ok-file.file refl (omega arith) (omega arith) c.in_ok-file.ensures.answer c.in_ok-file.ensures.cause _)
    c.in_ok-file.ensures.reads _ c.in_err-options.ensures.fault)

-- memory was wanting at the second read
pub returns-in_err-lines-clause-reads : goal.returns-in_err-lines-clause-reads
returns-in_err-lines-clause-reads g c =
    let p = err_from_is_err_and c.from_residual-in_err-lines.result c.from_residual-in_err-lines.ensures.1 in
    rw (p.1, p.2)
    (one_read _ _ _ _ _ c.in_ok-file.file
    (was_read _ _ _ _ _ _ _ _ _ _ c.in_ok-file.file refl (omega arith) c.read-2.ensures.cause.later c.in_ok-file.ensures.answer c.in_ok-file.ensures.cause _)
    (c.in_err-lines.ensures.reads ∙ c.in_ok-file.ensures.reads))

-- the hosts file has a fault, or memory was wanting for what it says
pub returns-in_err-hosts-clause-reads : goal.returns-in_err-hosts-clause-reads
returns-in_err-hosts-clause-reads g c =
    let p = err_from_is_err_and c.from_residual-in_err-hosts.result c.from_residual-in_err-hosts.ensures.1 in
    rw (p.1, p.2)
    (hosts_fault _ _ _ _ _ c.in_ok-file.file c.in_ok-lines.lines _
    (was_read _ _ _ _ _ _ _ _ _ _ c.in_ok-file.file refl (omega arith) c.read-2.ensures.cause.later c.in_ok-file.ensures.answer c.in_ok-file.ensures.cause _)
    c.in_ok-options.ensures.read
    (was_read _ _ _ _ _ _ _ _ _ _ c.in_ok-lines.lines c.read.ensures.files c.read.ensures.cause.later (omega arith) c.in_ok-lines.ensures.answer c.in_ok-lines.ensures.cause _)
    (read_then _ _ _ _ _ c.in_ok-file.ensures.reads c.in_ok-lines.ensures.reads) _ c.in_err-hosts.ensures.fault)

-- both were read, and say this
pub returns-clause-reads : goal.returns-clause-reads
returns-clause-reads g c =
    reads_both _ _ _ _ _ c.in_ok-file.file c.in_ok-lines.lines _
    (was_read _ _ _ _ _ _ _ _ _ _ c.in_ok-file.file refl (omega arith) c.read-2.ensures.cause.later c.in_ok-file.ensures.answer c.in_ok-file.ensures.cause _)
    c.in_ok-options.ensures.read
    (was_read _ _ _ _ _ _ _ _ _ _ c.in_ok-lines.lines c.read.ensures.files c.read.ensures.cause.later (omega arith) c.in_ok-lines.ensures.answer c.in_ok-lines.ensures.cause _)
    (read_then _ _ _ _ _ c.in_ok-file.ensures.reads c.in_ok-lines.ensures.reads) _ _ c.in_ok-hosts.ensures.read c.bytes_of.ensures
