use Rattle.std.proofs.Common.{map}
use Rattle.tool_line.specs.Ahost.{AhostAsks}
use Rattle.tool_help.proofs.TakenLemmas.{tells_taken}
use Rattle.tool_help.proofs.taking.are_ahosts.Goals as goal

pub returns : goal.returns
returns c = tells_taken (AhostAsks (map (λ word. word.now) c.args.words.now)) c.ahost_ask.result c.is_taken.result c.is_taken.ensures c.ahost_ask.ensures.read c.ahost_ask.ensures.refused
