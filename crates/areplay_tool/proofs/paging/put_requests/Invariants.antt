use Rattle.std.proofs.Common.{◌≡◌, ◌++◌, take}
use Rattle.areplay_tool.specs.Page.{request_lines, setting_of_book}
use Rattle.areplay_tool.proofs.paging.put_requests.Given as goal

-- the lines so far are those of the requests so far
abbrev pub invariant-loop-number : goal.invariant-loop-number
invariant-loop-number l = l.page.items ≡ l.initial.page.items ++ request_lines (setting_of_book l.book) l.book.journal (take l.number-index l.requests)
