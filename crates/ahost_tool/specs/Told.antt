-- What a page tells of, by request: what the request's callback asked, and the answer that it was called with.
use Rattle.std.specs.Borrow.{Bor}
use Rattle.std.specs.HashMap.{HashMap, get}
use Rattle.std.specs.List.{filter_map}
use Rattle.std.specs.Option.{option_map_or}
use Rattle.std.specs.Prelude.{◌≡◌, List, [], map, nat_eq, option_map, ℕ, Vec, ◌++◌, ◌+◌}
use Rattle.chan_types.specs.declared.answer.Answer.{Answer}
use Rattle.chan_types.specs.declared.journal.Entry.{Entry}
use Rattle.chan_types.specs.declared.spec.Spec.{Spec}
use Rattle.tool_line.specs.Words.{Text}
use Rattle.ahost_tool.specs.Page.{answer_for, asked_in, blocks, lines_of}
use Rattle.ahost_tool.specs.declared.page.told.Request.{Request}

-- a request as the page tells of it: its number, and what it asks
abbrev pub as_told : Request → ℕ × Spec
as_told request = (request.number, request.spec.now)

-- the requests that a request's callback asked, or with 0 those that none did, in order
abbrev pub requests_by : ℕ → List Entry → List (ℕ × Spec)
requests_by by journal = filter_map (λ entry. option_map (λ request. (request.number, request.spec)) (asked_in by entry)) journal

-- the block of a request: its lines, and the blocks of the requests that its callback asked
abbrev pub request_block : List Entry → List Answer → ℕ → ℕ → ℕ × Spec → Text
request_block journal calls most depth request = lines_of calls depth request.0 request.1 ++ blocks journal calls most (depth + 1) request.0

module _ {S A : Type 0} where
  -- the requests that are kept under a number
  abbrev pub requests_at : HashMap ℕ (Vec Request A) S → ℕ → List (ℕ × Spec)
  requests_at requests by = option_map_or (λ asked. map as_told asked.items) (get nat_eq requests by) []

  -- under each number are the requests that its callback asked
  abbrev pub HasRequests : HashMap ℕ (Vec Request A) S → List Entry → Type 0
  HasRequests requests journal = (by : ℕ) → requests_at requests by ≡ requests_by by journal

-- under each number is the answer that its callback was called with, if it was called
abbrev pub HasAnswers : {S : Type 0} → HashMap ℕ (Bor Answer) S → List Answer → Type 0
HasAnswers answers calls = (number : ℕ) → option_map (λ answer. answer.now) (get nat_eq answers number) ≡ answer_for number calls
