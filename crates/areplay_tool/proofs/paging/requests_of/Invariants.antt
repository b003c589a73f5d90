use Rattle.std.proofs.Common.{◌≡◌, take}
use Rattle.channel_model.specs.Completion.{requests}
use Rattle.channel_model.specs.Journal.{past_of}
use Rattle.areplay_tool.proofs.paging.requests_of.Given as goal

-- the numbers so far are those of the requests that the entries so far accept
abbrev pub invariant-loop-index : goal.invariant-loop-index
invariant-loop-index l = l.numbers.items ≡ requests (past_of (take l.index l.journal))
