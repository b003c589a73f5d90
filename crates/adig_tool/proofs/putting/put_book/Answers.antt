use Rattle.std.proofs.Common.{◌∙◌}
use Rattle.adig_tool.proofs.PuttingLemmas.{put_same}
use Rattle.adig_tool.proofs.putting.put_book.Goals as goal

pub returns-in-Ok : goal.returns-in-Ok
returns-in-Ok g c = put_same _ _ _ _ _ _ (c.as_slice.ensures ∙ c.in-Ok.ensures) c.put.ensures
