use Rattle.std.proofs.Common.{◌∙◌}
use Rattle.clap.specs.Matches.{found_of}
use Rattle.tool_line.proofs.SaidLemmas.{some_said}
use Rattle.tool_line.proofs.words.Words.has.Goals as goal

pub returns : goal.returns
returns c = c.contains_id.ensures ∙ some_said (found_of c.args.self.now.matches) c.args.name.now
