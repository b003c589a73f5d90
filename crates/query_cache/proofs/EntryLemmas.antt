-- Entries by their questions in lower case, and what is found among them.
use Rattle.std.proofs.Common.{◌≡◌, ℕ, zero, suc, Bool, true, false, cond, not, ◌||◌, Option, Some, None, List, [], ◌∷◌, map, take, refl, ap, subst, ◌∙◌, is_some}
use Rattle.std.specs.List.{AllByRecursion, list_any, filter, find}
use Rattle.std.specs.Prelude.{slice_get}
use Rattle.dns_message.specs.Question.{same_question}
use Rattle.dns_message.specs.declared.message.Question.{Question}
use Rattle.query_cache.specs.Cache.{is_of, entry_of, others}
use Rattle.query_cache.specs.declared.kept.Kept.{Kept}
use Rattle.query_cache.proofs.QuestionLemmas.{low, tests}
use Rattle.query_cache.proofs.RecentLemmas.{member, without}

-- ---- lists

module _ {X : Type 0} where
  pub map-take : {Y : Type 0} (f : X → Y) (n : ℕ) (xs : List X) → map f (take n xs) ≡ take n (map f xs)
  map-take f zero xs = refl
  map-take f (suc n) [] = refl
  map-take f (suc n) (x ∷ xs) = ap (λ l. f x ∷ l) (map-take f n xs)

  pub take-none : (n : ℕ) → take {A = X} n [] ≡ []
  take-none zero = refl
  take-none (suc n) = refl

  pub get-take : (n i : ℕ) (xs : List X) (x : X) → slice_get (take n xs) i ≡ Some x → slice_get xs i ≡ Some x
  get-take zero i xs x e = cc
  get-take (suc n) i [] x e = e
  get-take (suc n) zero (y ∷ ys) x e = e
  get-take (suc n) (suc i) (y ∷ ys) x e = get-take n i ys x e

  pub get-map : {Y : Type 0} (f : X → Y) (i : ℕ) (xs : List X) (x : X) → slice_get xs i ≡ Some x → slice_get (map f xs) i ≡ Some (f x)
  get-map f i [] x e = cc
  get-map f zero (y ∷ ys) x e = let same : y ≡ x = cc in ap (λ z. Some (f z)) same
  get-map f (suc i) (y ∷ ys) x e = get-map f i ys x e

  -- what holds of each holds of the first ones, and of those that pass a test what follows there
  pub all-take : (P : X → Type 0) (n : ℕ) (xs : List X) → AllByRecursion P xs → AllByRecursion P (take n xs)
  all-take P zero xs all = tt
  all-take P (suc n) [] all = tt
  all-take P (suc n) (x ∷ xs) all = (all.0, all-take P n xs all.1)

  pub all-filter : (test : X → Bool) (P Q : X → Type 0) → ((x : X) → test x ≡ true → P x → Q x) → (xs : List X) → AllByRecursion P xs → AllByRecursion Q (filter test xs)
  all-filter test P Q turn [] all = tt
  all-filter test P Q turn (x ∷ xs) all = by (test x) refl (all-filter test P Q turn xs all.1)
    where
      by : (b : Bool) → test x ≡ b → AllByRecursion Q (filter test xs) → AllByRecursion Q (cond b (x ∷ filter test xs) (filter test xs))
      by true t rest = (turn x t all.0, rest)
      by false t rest = rest

  -- what is found passes the test, and what holds of each holds of it
  pub found : (P : X → Type 0) (test : X → Bool) (xs : List X) (x : X) → AllByRecursion P xs → find test xs ≡ Some x → P x × (test x ≡ true)
  found P test [] x all e = cc
  found P test (y ∷ ys) x all e = by (test y) refl e (found P test ys x all.1)
    where
      by : (b : Bool) → test y ≡ b → cond b (Some y) (find test ys) ≡ Some x → (find test ys ≡ Some x → P x × (test x ≡ true)) → P x × (test x ≡ true)
      by true t e rest = let same : y ≡ x = cc in (subst P same all.0, subst (λ z. test z ≡ true) same t)
      by false t e rest = rest e

-- ---- entries

-- the entry's question in lower case
abbrev pub low_asked : Kept → Question
low_asked entry = low entry.asked

-- the entries of other questions
pub map-others : (q : Question) (es : List Kept) → map low_asked (others q es) ≡ without tests (low q) (map low_asked es)
map-others q [] = refl
map-others q (e ∷ es) = by (same_question q e.asked) (map-others q es)
  where
    by : (b : Bool) → map low_asked (others q es) ≡ without tests (low q) (map low_asked es) → map low_asked (cond (not b) (e ∷ others q es) (others q es)) ≡ cond b (without tests (low q) (map low_asked es)) (low_asked e ∷ without tests (low q) (map low_asked es))
    by true rest = rest
    by false rest = ap (λ l. low_asked e ∷ l) rest

-- whether the question has an entry
pub has-entry : (q : Question) (es : List Kept) → is_some (entry_of q es) ≡ member tests (low q) (map low_asked es)
has-entry q [] = refl
has-entry q (e ∷ es) = by (same_question q e.asked) (has-entry q es)
  where
    by : (b : Bool) → is_some (entry_of q es) ≡ member tests (low q) (map low_asked es) → is_some (cond b (Some e) (entry_of q es)) ≡ (b || member tests (low q) (map low_asked es))
    by true rest = refl
    by false rest = rest

-- questions that are the same have the same entry
pub same-entry : (q r : Question) → low q ≡ low r → (es : List Kept) → entry_of q es ≡ entry_of r es
same-entry q r same [] = refl
same-entry q r same (e ∷ es) =
    ap (λ l. cond (tests l (low_asked e)) (Some e) (entry_of q es)) same ∙ ap (λ o. cond (same_question r e.asked) (Some e) o) (same-entry q r same es)

-- whether the question is among questions
pub member-map : (q : Question) (rs : List Question) → list_any (same_question q) rs ≡ member tests (low q) (map low rs)
member-map q [] = refl
member-map q (r ∷ rs) = ap (λ b. same_question q r || b) (member-map q rs)
