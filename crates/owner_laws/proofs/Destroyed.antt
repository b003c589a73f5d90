-- What a Destroy leaves.
use Rattle.std.proofs.Common.{◌≡◌, ◌∙◌, ℕ, ◌==◌, Bool, true, false, if◌then◌else◌, List, [], ◌∷◌, ◌++◌, map, refl, ap, subst, eq-eqb}
use Rattle.std.specs.Option.{option_or}
use Rattle.std.specs.Prelude.{Option, Some, None, filter, find, is_none, is_some, option_map}
use Rattle.std.proofs.lemmas.List.{append-nil, append_assoc}
use Rattle.chan_types.specs.declared.answer.Answer.{Answer}
use Rattle.chan_types.specs.declared.journal.What.TheVariants.{Destroy}
use Rattle.chan_types.specs.declared.status.Status.TheVariants.{Destruction}
use Rattle.channel_model.specs.Completion.{fate, is_open, pending}
use Rattle.channel_model.specs.Journal.{Accepted, Past, accepted}
use Rattle.channel_model.specs.Merge.{bare}
use Rattle.channel_model.specs.Setting.{Setting}

-- behind a Destroy nothing is pending
module _ (setting : Setting) (past : Past) where
  abbrev destroyed_answer : ℕ → List Accepted → Option Answer
  destroyed_answer n xs = option_map (λ spec. bare n Destruction []) (option_map (λ r. r.spec) (find (λ r. r.number == n) xs))

  closed : (found : Option Answer) (n : ℕ) (xs : List Accepted) → is_some (find (λ r. r.number == n) xs) ≡ true → is_none (option_or found (destroyed_answer n xs)) ≡ false
  closed (Some a) n xs h = refl
  closed None n xs h = by (find (λ r. r.number == n) xs) h
    where
      by : (f : Option Accepted) → is_some f ≡ true → is_none (option_map (λ spec. bare n Destruction []) (option_map (λ r. r.spec) f)) ≡ false
      by None h = absurd (cc h)
      by (Some r) h = refl

  -- a request of the list is found in it, behind others too
  found_behind : (front : List Accepted) (r : Accepted) (xs : List Accepted) → is_some (find (λ q. q.number == r.number) (front ++ r ∷ xs)) ≡ true
  found_behind [] r xs = rw (eq-eqb r.number r.number refl) refl
  found_behind (f ∷ front) r xs = by (f.number == r.number) (found_behind front r xs)
    where
      by : (b : Bool) → is_some (find (λ q. q.number == r.number) (front ++ r ∷ xs)) ≡ true → is_some (if b then Some f else find (λ q. q.number == r.number) (front ++ r ∷ xs)) ≡ true
      by true h = refl
      by false h = h

  none_open : (front xs : List Accepted) → filter (λ n. is_none (option_or (fate setting n past) (destroyed_answer n (front ++ xs)))) (map (λ r. r.number) xs) ≡ []
  none_open front [] = refl
  none_open front (x ∷ xs) =
      rw (closed (fate setting x.number past) x.number (front ++ x ∷ xs) (found_behind front x xs))
      (subst (λ l. filter (λ n. is_none (option_or (fate setting n past) (destroyed_answer n l))) (map (λ r. r.number) xs) ≡ []) (append_assoc front (x ∷ []) xs) (none_open (front ++ x ∷ []) xs))

  pub pending_destroyed : pending setting (Destroy ∷ past) ≡ []
  pending_destroyed =
      ap (λ l. filter (is_open setting (Destroy ∷ past)) (map (λ r. r.number) l)) (append-nil (accepted past)) ∙ none_open [] (accepted past)
