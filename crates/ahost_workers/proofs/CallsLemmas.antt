-- The answers of a channel that was finished, one for each request that was accepted.
use Rattle.std.proofs.Common.{◌≡◌, ◌∙◌, ℕ, ◌+◌, ◌==◌, Bool, true, false, List, [], ◌∷◌, cond, length, map, refl, ap, sym, arith}
use Rattle.std.proofs.lemmas.List.Sorted.{sum_by-IsPermutation}
use Rattle.std.proofs.lemmas.List.Sums.{sum_by-cons}
use Rattle.std.specs.List.{range_with_len}
use Rattle.std.specs.List.Sorted.{IsPermutation}
use Rattle.std.specs.Prelude.{sum_by}
use Rattle.chan_types.specs.declared.answer.Answer.{Answer}
use Rattle.chan_types.specs.declared.journal.Entry.{Entry}
use Rattle.channel_model.specs.Completion.{occurrences, requests}
use Rattle.channel_model.specs.Journal.{accepted, past_of}
use Rattle.channel_model.specs.Lawful.{IsLawful}
use Rattle.channel_model.specs.Setting.{Setting}
use Rattle.channel_model.proofs.Theorems.{requests_numbered}
use Rattle.shared_channel.specs.Finishing.{AnswersAll}

-- an occurrence is one of a sum
occurrences-sum : (n : ℕ) (ms : List ℕ) → occurrences n ms ≡ sum_by (λ m. cond (m == n) 1 0) ms
occurrences-sum n [] = refl
occurrences-sum n (m ∷ ms) = by_test (m == n) (occurrences-sum n ms) ∙ sym (sum_by-cons (λ k. cond (k == n) 1 0) m ms)
  where
    by_test : (b : Bool) → occurrences n ms ≡ sum_by (λ k. cond (k == n) 1 0) ms → cond b (occurrences n ms + 1) (occurrences n ms) ≡ cond b 1 0 + sum_by (λ k. cond (k == n) 1 0) ms
    by_test true rest = omega (arith, rest)
    by_test false rest = omega (arith, rest)

-- in another order a number stands as often
occurrences-permutation : (n : ℕ) (ms ks : List ℕ) → IsPermutation ms ks → occurrences n ks ≡ occurrences n ms
occurrences-permutation n ms ks p = occurrences-sum n ks ∙ sum_by-IsPermutation (λ m. cond (m == n) 1 0) ms ks p ∙ sym (occurrences-sum n ms)

-- each request has as many answers as it was accepted
pub called_once : (setting : Setting) (journal : List Entry) (count : ℕ) (answers : List Answer) → IsLawful setting journal → count ≡ length (accepted (past_of journal)) → AnswersAll setting journal count answers →
    (request : ℕ) → occurrences request (map (λ answer. answer.number) answers) ≡ occurrences request (requests (past_of journal))
called_once setting journal count answers lawful count_is all request =
    occurrences-permutation request (range_with_len 1 count) (map (λ answer. answer.number) answers) all.numbers
    ∙ ap (λ k. occurrences request (range_with_len 1 k)) count_is ∙ ap (occurrences request) (sym (requests_numbered setting (past_of journal) lawful.allowed))
