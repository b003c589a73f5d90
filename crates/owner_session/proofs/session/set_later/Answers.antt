use Rattle.std.proofs.Common.{Ok, Err, ◌∙◌, sym}
use Rattle.owner_session.proofs.SetLemmas.{set_closed, set_none, set_ok, sets_later}
use Rattle.owner_session.proofs.session.set_later.Goals as goal

pub returns-in-Ok : goal.returns-in-Ok
returns-in-Ok g c = record {
  sets = sets_later _ c.in-Some.servers (Ok tt) _ _ (sym c.take.ensures.value ∙ c.in-Some.is) (set_ok _ _ c.as_slice.ensures _ _ c.in-Ok.field-0 c.in-Ok.ensures.done);
  left = c.take.ensures.after;
}

pub returns-in-Err-Closed : goal.returns-in-Err-Closed
returns-in-Err-Closed g c = record {
  sets = sets_later _ c.in-Some.servers (Ok tt) _ _ (sym c.take.ensures.value ∙ c.in-Some.is)
      (set_closed _ _ c.as_slice.ensures _ _ c.in-Err-Closed.field-0 c.in-Err-Closed.field-0-is c.in-Err-Closed.ensures.done);
  left = c.take.ensures.after;
}

pub returns-in-Err-Full : goal.returns-in-Err-Full
returns-in-Err-Full g c = record {
  sets = sets_later _ c.in-Some.servers (Err _) _ _ (sym c.take.ensures.value ∙ c.in-Some.is) (set_none _ _ c.as_slice.ensures _ _ c.in-Err-Full.field-0 c.in-Err-Full.ensures.done);
  left = c.take.ensures.after;
}

-- want of memory
pub returns : goal.returns
returns g c = record {
  sets = sets_later _ c.in-Some.servers (Err _) _ _ (sym c.take.ensures.value ∙ c.in-Some.is) (set_none _ _ c.as_slice.ensures _ _ c.in-Err-NoMemory.field-0 c.in-Err-NoMemory.ensures.done);
  left = c.take.ensures.after;
}
