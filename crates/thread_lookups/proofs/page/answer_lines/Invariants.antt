use Rattle.std.proofs.Common.{◌≡◌, ◌++◌}
use Rattle.std.specs.List.{flat_map}
use Rattle.thread_lookups.specs.Page.{line_in}
use Rattle.thread_lookups.specs.Shared.{journal_of}
use Rattle.thread_lookups.proofs.page.answer_lines.Given as goal

-- with the lines of the answers that are left these are those of all
abbrev pub invariant-loop-answer : goal.invariant-loop-answer
invariant-loop-answer l =
    l.lines.items ++ flat_map (line_in (journal_of l.finished)) l.answer-iterator ≡ flat_map (line_in (journal_of l.finished)) l.finished.calls
