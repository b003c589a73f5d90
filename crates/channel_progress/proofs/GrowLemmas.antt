-- In a longer journal requests may spend as many attempts.
use Rattle.std.proofs.Common.{ℕ, ◌*◌, ◌≤◌, Bool, true, false, List, [], ◌∷◌, ◌++◌, ap, cond, arith, length, mul-le-mul_left, mul-le-mul_right}
use Rattle.std.proofs.lemmas.List.Sums.{sum_by-append, sum_by-cons}
use Rattle.std.specs.Prelude.{is_some, option_to_list, sum_by}
use Rattle.chan_types.specs.declared.journal.Entry.{Entry}
use Rattle.channel_model.proofs.Theorems.{followed_by-append}
use Rattle.channel_model.specs.AtOnce.{at_once}
use Rattle.channel_model.specs.Journal.{Accepted, Past, accepted, accepted_by, followed_by, past_of}
use Rattle.channel_model.specs.Legs.{legs_of}
use Rattle.channel_model.specs.Questions.{candidates_of}
use Rattle.channel_model.specs.Setting.{Setting}
use Rattle.channel_progress.specs.Allowed.{attempts_allowed, attempts_for, attempts_of_leg, attempts_of_request}
use Rattle.channel_progress.proofs.MostLemmas.{in_use_most-later, times_set-later}

-- of what each request counts, no more is counted where each counts no more
sum_grows : (f g : Accepted → ℕ) → ((request : Accepted) → f request ≤ g request) → (xs : List Accepted) → sum_by f xs ≤ sum_by g xs
sum_grows f g more [] = omega arith
sum_grows f g more (x ∷ xs) = omega (arith, more x, sum_grows f g more xs, sum_by-cons f x xs, sum_by-cons g x xs)

-- nor before more requests are accepted
asked_grow : (f : Accepted → ℕ) (past : Past) (entries : List Entry) → sum_by f (accepted past) ≤ sum_by f (accepted (followed_by past entries))
asked_grow f past [] = omega arith
asked_grow f past (entry ∷ entries) = omega (arith, sum_by-append f (accepted past) (option_to_list (accepted_by entry.what)), asked_grow f (entry.what ∷ past) entries)

module _ (setting : Setting) where
  -- a leg may spend as many attempts in a longer journal
  leg_grows : (past : Past) (entries : List Entry) → attempts_of_leg setting past ≤ attempts_of_leg setting (followed_by past entries)
  leg_grows past entries = omega (arith, mul-le-mul_right setting.options.tries (in_use_most-later setting past entries), times_set-later past entries)

  -- and a request
  request_grows : (past : Past) (entries : List Entry) (request : Accepted) → attempts_of_request setting past request ≤ attempts_of_request setting (followed_by past entries) request
  request_grows past entries request = by (is_some (at_once setting request.number request.spec))
    where
      by : (b : Bool) → cond b 0 (attempts_for setting past request.spec) ≤ cond b 0 (attempts_for setting (followed_by past entries) request.spec)
      by true = omega arith
      by false = mul-le-mul_left (length (candidates_of setting request.spec) * length (legs_of request.spec 0)) (leg_grows past entries)

  -- and all requests
  pub allowed_grows : (journal more : List Entry) → attempts_allowed setting journal ≤ attempts_allowed setting (journal ++ more)
  allowed_grows journal more =
      let longer : Past = followed_by (past_of journal) more in
      omega (
        arith,
        sum_grows (attempts_of_request setting (past_of journal)) (attempts_of_request setting longer) (request_grows (past_of journal) more) (accepted (past_of journal)),
        asked_grow (attempts_of_request setting longer) (past_of journal) more,
        ap (λ past. sum_by (attempts_of_request setting past) (accepted past)) (followed_by-append [] journal more),
      )
