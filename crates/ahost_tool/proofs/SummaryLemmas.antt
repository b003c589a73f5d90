-- Counts of the answers that were gone through so far.
use Rattle.std.proofs.Common.{◌≡◌, ◌∙◌, ℕ, ◌+◌, cond, not, List, [], ◌∷◌, fold, length, ap, sym, arith}
use Rattle.std.specs.Prelude.{count_by}
use Rattle.chan_types.specs.declared.answer.Answer.{Answer}
use Rattle.ahost_tool.specs.Summary.{AreCountsOf, counts_with, is_good}
use Rattle.ahost_tool.specs.declared.summary.Counts.{Counts}

abbrev with_good : ℕ → Answer → ℕ
with_good count answer = count + cond (is_good answer) 1 0

abbrev with_bad : ℕ → Answer → ℕ
with_bad count answer = count + cond (not (is_good answer)) 1 0

-- the counts so far, and what is left to be counted, come to the counts of all
pub record CountsOn (all : List Answer) (counts : Counts) (left : List Answer) : Type 0 where
  pub called : counts.called + length left ≡ length all
  pub good : fold with_good counts.good left ≡ count_by is_good all
  pub bad : fold with_bad counts.bad left ≡ count_by (λ answer. not (is_good answer)) all

-- before the first answer
pub counts_none : (all left : List Answer) → left ≡ all → CountsOn all (record { called = 0; good = 0; bad = 0 }) left
counts_none all left is = record { called = omega (arith, ap length is); good = ap (fold with_good 0) is; bad = ap (fold with_bad 0) is }

-- with one answer more
pub counts_more : (all : List Answer) (counts more : Counts) (left rest : List Answer) (answer : Answer) → left ≡ answer ∷ rest → more ≡ counts_with counts answer → CountsOn all counts left → CountsOn all more rest
counts_more all counts more left rest answer step one so = record {
  called = omega (arith, ap length step, ap (λ c. c.called) one, so.called);
  good = ap (λ c. fold with_good c.good rest) one ∙ ap (fold with_good counts.good) (sym step) ∙ so.good;
  bad = ap (λ c. fold with_bad c.bad rest) one ∙ ap (fold with_bad counts.bad) (sym step) ∙ so.bad;
}

-- behind the last
pub counts_all : (all : List Answer) (counts : Counts) (left : List Answer) → left ≡ [] → CountsOn all counts left → AreCountsOf all counts
counts_all all counts left none so = record {
  called = omega (arith, ap length none, so.called);
  good = ap (fold with_good counts.good) (sym none) ∙ so.good;
  bad = ap (fold with_bad counts.bad) (sym none) ∙ so.bad;
}
