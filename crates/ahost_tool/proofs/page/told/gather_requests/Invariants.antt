use Rattle.std.proofs.Common.{ℕ, ◌≡◌, take}
use Rattle.ahost_tool.specs.Told.{requests_at, requests_by}
use Rattle.ahost_tool.proofs.page.told.gather_requests.Given as goal

-- the requests of the entries so far are kept
abbrev pub invariant-loop-entry : goal.invariant-loop-entry
invariant-loop-entry l = (by : ℕ) → requests_at l.requests by ≡ requests_by by (take l.entry-index l.entries)
