-- What a request's callback was told is the request's fate.
use Rattle.std.proofs.Common.{ap₂, arith, cond, eqb-true, inl, inr, subst, sym, ◌∙◌, ⊎_elim}
use Rattle.std.specs.List.{AllByRecursion}
use Rattle.std.specs.Prelude.{Bool, List, None, Option, Some, [], false, map, refl, true, ℕ, ◌+◌, ◌==◌, ◌∷◌, ◌≡◌, ◌≢◌, ◌≤◌, ◌⊎◌}
use Rattle.chan_types.specs.declared.answer.Answer.{Answer}
use Rattle.channel_model.proofs.Theorems.{unasked_fate}
use Rattle.channel_model.specs.Completion.{fate, occurrences, requests}
use Rattle.channel_model.specs.Journal.{Past}
use Rattle.channel_model.specs.Setting.{Setting}
use Rattle.status_laws.proofs.CauseLemmas.{has_number}
use Rattle.journal_laws.specs.Telling.{told_to}

-- the numbers of answers
abbrev pub numbers_of : List Answer → List ℕ
numbers_of calls = map (λ (answer : Answer). answer.number) calls

module _ (setting : Setting) (past : Past) where
  -- each answer is the fate of its request
  abbrev pub AreFates : List Answer → Type 0
  AreFates calls = AllByRecursion (λ (answer : Answer). fate setting answer.number past ≡ Some answer) calls

  -- none was told, or its request's fate
  abbrev IsFound : ℕ → Option Answer → Type 0
  IsFound request told = (told ≡ None) ⊎ (told ≡ fate setting request past)

  found_first : (request : ℕ) (answer : Answer) (others : Option Answer) → fate setting answer.number past ≡ Some answer → IsFound request others
      → (b : Bool) → (answer.number == request) ≡ b → IsFound request (cond b (Some answer) others)
  found_first request answer others own rest true same = inr (sym (subst (λ (n : ℕ). fate setting n past ≡ Some answer) (eqb-true answer.number request same) own))
  found_first request answer others own rest false other = rest

  found_is : (request : ℕ) (calls : List Answer) → AreFates calls → IsFound request (told_to request calls)
  found_is request [] fates = inl refl
  found_is request (answer ∷ calls) fates =
      found_first request answer (told_to request calls) fates.0 (found_is request calls fates.1) (answer.number == request) refl

-- where none is found, the number stands nowhere
none_first : (answer : Answer) (others : Option Answer) (count : ℕ) → (others ≡ None → count ≡ 0) → (b : Bool) → cond b (Some answer) others ≡ None → cond b (count + 1) count ≡ 0
none_first answer others count rest true found = absurd (cc found)
none_first answer others count rest false missing = rest missing

none_found : (request : ℕ) (calls : List Answer) → told_to request calls ≡ None → occurrences request (numbers_of calls) ≡ 0
none_found request [] none = refl
none_found request (answer ∷ calls) none =
    none_first answer (told_to request calls) (occurrences request (numbers_of calls)) (none_found request calls) (answer.number == request) none

module _ (setting : Setting) (past : Past) (calls : List Answer) (once : (request : ℕ) → occurrences request (numbers_of calls) ≡ occurrences request (requests past)) where
  -- a request's fate is what its callback was told
  pub told_fates : AreFates setting past calls → (request : ℕ) → fate setting request past ≡ told_to request calls
  told_fates fates request = ⊎_elim
      (λ none. unasked_fate setting request past (sym (once request) ∙ none_found request calls none) ∙ sym none)
      (λ found. sym found)
      (found_is setting past request calls fates)

  -- and the callback of each accepted request was called
  pub told_each : (request : ℕ) → 1 ≤ occurrences request (requests past) → told_to request calls ≢ None
  told_each request asked none = absurd (omega (arith, asked, once request, none_found request calls none))

-- answers that are the fates of these requests, in order, have their numbers
pub fates_in_order : (setting : Setting) (past : Past) (calls : List Answer) (numbers : List ℕ) → map Some calls ≡ map (λ request. fate setting request past) numbers
    → (numbers_of calls ≡ numbers) × AreFates setting past calls
fates_in_order setting past [] [] same = (refl, tt)
fates_in_order setting past [] (number ∷ numbers) same = absurd (cc same)
fates_in_order setting past (answer ∷ calls) [] same = absurd (cc same)
fates_in_order setting past (answer ∷ calls) (number ∷ numbers) same =
    let first : fate setting number past ≡ Some answer = cc same in
    let others : map Some calls ≡ map (λ request. fate setting request past) numbers = cc same in
    let own : answer.number ≡ number = has_number setting number answer past first in
    let rest = fates_in_order setting past calls numbers others in
    (ap₂ (λ (n : ℕ) (ns : List ℕ). n ∷ ns) own rest.0, (subst (λ (n : ℕ). fate setting n past ≡ Some answer) (sym own) first, rest.1))
