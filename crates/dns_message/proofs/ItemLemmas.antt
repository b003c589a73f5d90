-- A list of items: one of them, and those behind it.
use Rattle.std.proofs.Common.{◌≡◌, ℕ, suc, ◌+◌, ◌-◌, ◌<◌, ◌≤◌, List, [], ◌∷◌, ◌++◌, Result, Ok, Err, refl, sym, ap, append_assoc, arith}
use Rattle.std.proofs.lemmas.List.{append-nil}
use Rattle.dns_message.specs.declared.fault.MessageFault.{MessageFault}
use Rattle.dns_message.specs.Reading.{◌>>=◌, items_of, joined_of, appended}

-- items in front of those that are read
abbrev pub prefixed : {A : Type 0} → List A → Result (List A × ℕ) MessageFault → Result (List A × ℕ) MessageFault
prefixed front read = read >>= λ found. Ok (front ++ found.0, found.1)

prefixed_one : {A : Type 0} (front : List A) (x : A) (read : Result (List A × ℕ) MessageFault) → prefixed front (read >>= λ found. Ok (x ∷ found.0, found.1)) ≡ prefixed (front ++ x ∷ []) read
prefixed_one front x (Ok found) = ap (λ all. Ok (all, found.1)) (sym (append_assoc front (x ∷ []) found.0))
prefixed_one front x (Err fault) = refl

module _ {A : Type 0} (item : ℕ → Result (A × ℕ) MessageFault) where
  pub items_more : (front : List A) (count i p : ℕ) (x : A) (next : ℕ) → i < count → item p ≡ Ok (x, next) → prefixed front (items_of item (count - i) p) ≡ prefixed (front ++ x ∷ []) (items_of item (count - (i + 1)) next)
  items_more front count i p x next lt e =
      let k : count - i ≡ suc (count - (i + 1)) = omega arith in
      rw (k, e) (prefixed_one front x (items_of item (count - (i + 1)) next))

  pub items_stop : (front : List A) (count i p : ℕ) (fault : MessageFault) → i < count → item p ≡ Err fault → prefixed front (items_of item (count - i) p) ≡ Err fault
  items_stop front count i p fault lt e = let k : count - i ≡ suc (count - (i + 1)) = omega arith in rw (k, e) refl

  pub items_end : (front : List A) (count i p : ℕ) → count ≤ i → prefixed front (items_of item (count - i) p) ≡ Ok (front, p)
  items_end front count i p past = let k : count - i ≡ 0 = omega arith in rw k (ap (λ all. Ok (all, p)) (append-nil front))

-- ---- the same of bytes one behind the other

pub appended_one : (front added : List ℕ) (read : Result (List ℕ × ℕ) MessageFault) → appended front (read >>= λ found. Ok (added ++ found.0, found.1)) ≡ appended (front ++ added) read
appended_one front added (Ok found) = ap (λ (all : List ℕ). Ok (all, found.1)) (sym (append_assoc front added found.0))
appended_one front added (Err fault) = refl

module _ (item : ℕ → Result (List ℕ × ℕ) MessageFault) where
  pub joined_more : (front : List ℕ) (count i p : ℕ) (added : List ℕ) (next : ℕ) → i < count → item p ≡ Ok (added, next) → appended front (joined_of item (count - i) p) ≡ appended (front ++ added) (joined_of item (count - (i + 1)) next)
  joined_more front count i p added next lt e =
      let k : count - i ≡ suc (count - (i + 1)) = omega arith in
      rw (k, e) (appended_one front added (joined_of item (count - (i + 1)) next))

  pub joined_stop : (front : List ℕ) (count i p : ℕ) (fault : MessageFault) → i < count → item p ≡ Err fault → appended front (joined_of item (count - i) p) ≡ Err fault
  joined_stop front count i p fault lt e = let k : count - i ≡ suc (count - (i + 1)) = omega arith in rw (k, e) refl

-- ---- one fault in place of any
