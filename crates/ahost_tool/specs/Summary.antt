-- The summary of a load: seven lines, each a word and a number behind a blank (this project's profile).
use Rattle.std.specs.Prelude.{Bool, List, [], codes, cond, count_by, decimal, is_some, length, not, ℕ, ◌+◌, ◌++◌, ◌==◌, ◌∷◌, ◌≡◌}
use Rattle.chan_types.specs.Statuses.{code_of}
use Rattle.chan_types.specs.declared.answer.Answer.{Answer}
use Rattle.chan_types.specs.declared.journal.Entry.{Entry}
use Rattle.chan_types.specs.declared.journal.What.{What}
use Rattle.channel_model.specs.Flight.{begun_by}
use Rattle.channel_model.specs.Journal.{accepted_by}
use Rattle.channel_model.specs.Turn.{is_expire}
use Rattle.tool_line.specs.Words.{Text}
use Rattle.tool_line.specs.declared.ahost.Load.{Load}
use Rattle.ahost_tool.specs.declared.summary.Counts.{Counts}

-- a request was accepted
abbrev pub is_accept : What → Bool
is_accept what = is_some (accepted_by what)

-- a query was begun
abbrev pub is_start : What → Bool
is_start what = is_some (begun_by what)

-- a request ended well
abbrev pub is_good : Answer → Bool
is_good answer = code_of answer.status == 0

-- a word, and a number behind a blank
abbrev pub numbered : Text → ℕ → Text
numbered word number = word ++ 32 ∷ decimal number

-- the same as a line
abbrev pub count_line : Text → ℕ → Text
count_line word number = numbered word number ++ 10 ∷ []

-- the line of what is asked: how many names, and the seed of what is lost
abbrev pub load_line : Load → Text
load_line load = numbered (codes "load") load.names ++ numbered (codes " seed") load.seed ++ 10 ∷ []

-- the summary: what was asked; how many requests were accepted; how many callbacks were called, and with how many good answers and others; how many queries were begun, and how many deadlines passed
abbrev pub summary_of : Load → List Entry → List Answer → Text
summary_of load journal calls =
    load_line load
    ++ count_line (codes "accepted") (count_by (λ entry. is_accept entry.what) journal)
    ++ count_line (codes "called") (length calls)
    ++ count_line (codes "good") (count_by is_good calls)
    ++ count_line (codes "bad") (count_by (λ answer. not (is_good answer)) calls)
    ++ count_line (codes "starts") (count_by (λ entry. is_start entry.what) journal)
    ++ count_line (codes "expires") (count_by (λ entry. is_expire entry.what) journal)

-- these are the counts of so many answers
pub record AreCountsOf (calls : List Answer) (counts : Counts) : Type 0 where
  pub called : counts.called ≡ length calls
  pub good : counts.good ≡ count_by is_good calls
  pub bad : counts.bad ≡ count_by (λ answer. not (is_good answer)) calls

-- the counts with one answer more
abbrev pub counts_with : Counts → Answer → Counts
counts_with counts answer = record {
  called = counts.called + 1;
  good = counts.good + cond (is_good answer) 1 0;
  bad = counts.bad + cond (not (is_good answer)) 1 0;
}
