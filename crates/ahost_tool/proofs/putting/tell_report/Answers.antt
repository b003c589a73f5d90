use Rattle.ahost_tool.proofs.putting.tell_report.Goals as goal

-- the report is put as it was made
pub returns-clause-put : goal.returns-clause-put
returns-clause-put g c = rw c.ended.ensures (c.put_report-status.ensures _ c.report_of-text.ensures.text)
