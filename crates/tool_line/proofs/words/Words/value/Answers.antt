use Rattle.std.proofs.Common.{◌∙◌}
use Rattle.clap.specs.Matches.{found_of}
use Rattle.tool_line.proofs.SaidLemmas.{first_said}
use Rattle.tool_line.proofs.words.Words.value.Goals as goal

pub returns : goal.returns
returns c = c.get_str.ensures ∙ first_said (found_of c.args.self.now.matches) c.args.name.now
