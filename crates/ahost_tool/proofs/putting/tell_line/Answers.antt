use Rattle.ahost_tool.proofs.putting.tell_line.Goals as goal

-- the line is put
pub returns-clause-put : goal.returns-clause-put
returns-clause-put g c = rw c.ended.ensures c.put_line-status.ensures
