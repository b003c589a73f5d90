-- Lists of a session's numbers and entries, and a log that stays.
use Rattle.std.proofs.Common.{◌≡◌, ◌≢◌, ◌∙◌, ℕ, ◌≤◌, ◌==◌, Bool, true, false, not, cond, List, [], ◌∷◌, ◌++◌, Option, Some, None, length, take, refl, sym, ap, arith, eq-eqb}
use Rattle.std.proofs.lemmas.Bool.{and_from}
use Rattle.std.proofs.lemmas.List.{append-nil}
use Rattle.std.specs.List.{list_all}
use Rattle.chan_types.specs.declared.journal.Entry.{Entry}
use Rattle.channel_model.specs.Completion.{occurrences}
use Rattle.channel_model.specs.Journal.{own_entries}
use Rattle.net_world.specs.Logs.{LogGets}
use Rattle.net_world.specs.declared.log.WorldCall.{WorldCall}

-- a test fails whose negation holds
pub denies : (b : Bool) → not b ≡ true → b ≡ false
denies true is = absurd (cc is)
denies false is = refl

-- the front of two lists
pub take_front : {A : Type 0} (xs ys : List A) → take (length xs) (xs ++ ys) ≡ xs
take_front [] ys = refl
take_front (x ∷ xs) ys = ap (λ l. x ∷ l) (take_front xs ys)

-- the first items of equal lists, and the rests
pub heads : {A : Type 0} (x y : A) (xs ys : List A) → x ∷ xs ≡ y ∷ ys → x ≡ y
heads x y xs ys e = cc

pub tails : {A : Type 0} (x y : A) (xs ys : List A) → x ∷ xs ≡ y ∷ ys → xs ≡ ys
tails x y xs ys e = cc

-- a list without an item
pub no_items : {A : Type 0} (xs : List A) → length xs ≡ 0 → xs ≡ []
no_items [] none = refl
no_items (x ∷ xs) none = absurd (omega (arith, none))

-- a count tells whether there is an item
pub some_counted : (count : ℕ) (xs : List ℕ) → count ≡ length xs → count ≢ 0 → xs ≢ []
some_counted count xs is some none = some (is ∙ ap length none)

pub none_counted : (count : ℕ) (xs : List ℕ) → count ≡ length xs → count ≡ 0 → xs ≡ []
none_counted count [] is none = refl
none_counted count (x ∷ xs) is none = let h : length (x ∷ xs) ≡ 0 = sym is ∙ none in absurd (omega (arith, h))

-- the first item stands in a list
pub stands_first : (x : ℕ) (xs : List ℕ) → 1 ≤ occurrences x (x ∷ xs)
stands_first x xs = rw (eq-eqb x x refl) (omega arith)

-- the entries of a seat have it
pub own_seats : (seat : ℕ) (es : List Entry) → list_all (λ e. e.seat == seat) (own_entries seat es) ≡ true
own_seats seat [] = refl
own_seats seat (e ∷ es) = by_seat (e.seat == seat) refl (own_seats seat es)
  where
    by_seat : (b : Bool) → (e.seat == seat) ≡ b → list_all (λ x. x.seat == seat) (own_entries seat es) ≡ true → list_all (λ x. x.seat == seat) (cond b (e ∷ own_entries seat es) (own_entries seat es)) ≡ true
    by_seat true is rest = and_from (e.seat == seat) (list_all (λ x. x.seat == seat) (own_entries seat es)) is rest
    by_seat false is rest = rest

-- a log that nothing was added to
pub log_same : (P : List WorldCall → Type 0) → P [] → (log : Option (List WorldCall)) → LogGets P log log
log_same P holds None = refl
log_same P holds (Some log) = ([], ap Some (sym (append-nil log)), holds)
