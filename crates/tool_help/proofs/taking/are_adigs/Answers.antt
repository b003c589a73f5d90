use Rattle.std.proofs.Common.{map}
use Rattle.tool_line.specs.Adig.{AdigAsks}
use Rattle.tool_help.proofs.TakenLemmas.{tells_taken}
use Rattle.tool_help.proofs.taking.are_adigs.Goals as goal

pub returns : goal.returns
returns c = tells_taken (AdigAsks (map (λ word. word.now) c.args.words.now)) c.adig_ask.result c.is_taken.result c.is_taken.ensures c.adig_ask.ensures.read c.adig_ask.ensures.refused
