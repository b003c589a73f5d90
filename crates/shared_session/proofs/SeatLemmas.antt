-- Tests that all entries of a journal pass, seat by seat.
use Rattle.std.proofs.Common.{◌≡◌, ◌∙◌, ◌<◌, ℕ, zero, suc, ◌==◌, ◌&&◌, ◌||◌, Bool, true, false, not, cond, List, [], ◌∷◌, ◌++◌, is_some, length, map, refl, sym, ap, subst, arith, eq-eqb}
use Rattle.std.proofs.lemmas.Bool.{and_from, and_parts}
use Rattle.std.proofs.lemmas.List.Folds.{list_all-append}
use Rattle.std.specs.List.{AllByRecursion, Contains, list_all}
use Rattle.std.specs.Prelude.{slice_index_or}
use Rattle.chan_types.specs.declared.journal.Entry.{Entry}
use Rattle.chan_types.specs.declared.journal.What.{What}
use Rattle.chan_types.specs.declared.journal.What.TheVariants.{Accept, Arrive, Cancel, Destroy, Expire, Fault, Servers, Start, Take}
use Rattle.channel_model.proofs.Theorems.{own-append}
use Rattle.channel_model.specs.Completion.{taken_by}
use Rattle.channel_model.specs.Course.{is_of_turn}
use Rattle.channel_model.specs.Journal.{is_destroy, own_entries}
use Rattle.channel_model.specs.Servers.{servers_set_by}
use Rattle.channel_table.specs.Commanded.{IsOfCommand}
use Rattle.shared_channel.specs.Passes.{PassView}
use Rattle.worker_session.specs.Setting.{has_set}

-- where each seat's own entries pass, all do
pub seats_pass : (f : Entry → Bool) (ns : List ℕ) (es : List Entry) → AllByRecursion (λ (e : Entry). Contains ns e.seat) es → ((n : ℕ) → Contains ns n → list_all f (own_entries n es) ≡ true) → list_all f es ≡ true
seats_pass f ns [] makers own = refl
seats_pass f ns (e ∷ es) makers own =
    and_from (f e) (list_all f es) (here (e.seat == e.seat) (eq-eqb e.seat e.seat refl) (own e.seat makers.0))
    (seats_pass f ns es makers.1 (λ n is. behind n (e.seat == n) (own n is)))
  where
    here : (b : Bool) → b ≡ true → list_all f (cond b (e ∷ own_entries e.seat es) (own_entries e.seat es)) ≡ true → f e ≡ true
    here true is all = (and_parts (f e) (list_all f (own_entries e.seat es)) all).0
    here false is all = absurd (cc is)

    behind : (n : ℕ) (b : Bool) → list_all f (cond b (e ∷ own_entries n es) (own_entries n es)) ≡ true → list_all f (own_entries n es) ≡ true
    behind n true all = (and_parts (f e) (list_all f (own_entries n es)) all).1
    behind n false all = all

-- what is so of each pass's number is so of a number of one of them
pub of_number : (Q : ℕ → Type 0) (ps : List PassView) → AllByRecursion (λ (p : PassView). Q p.number) ps → (n : ℕ) → Contains (map (λ (p : PassView). p.number) ps) n → Q n
of_number Q ps each n is = by ps each is.0 is.1 is.2
  where
    by : (qs : List PassView) → AllByRecursion (λ (p : PassView). Q p.number) qs → (k : ℕ) → k < length (map (λ (p : PassView). p.number) qs) → slice_index_or (map (λ (p : PassView). p.number) qs) k n ≡ n → Q n
    by [] each k lt same = absurd (omega (arith, lt))
    by (q ∷ qs) each zero lt same = subst Q same each.0
    by (q ∷ qs) each (suc k) lt same = by qs each.1 k (omega (arith, lt)) same

-- a seat's entries in the two parts of a journal
pub own_parts : (f : Entry → Bool) (n : ℕ) (journal xs ys : List Entry) → journal ≡ xs ++ ys → list_all f (own_entries n journal) ≡ true → (list_all f (own_entries n xs) ≡ true) × (list_all f (own_entries n ys) ≡ true)
own_parts f n journal xs ys parts all =
    and_parts (list_all f (own_entries n xs)) (list_all f (own_entries n ys))
    (sym (list_all-append f (own_entries n xs) (own_entries n ys)) ∙ ap (list_all f) (sym (own-append n xs ys)) ∙ ap (λ j. list_all f (own_entries n j)) (sym parts) ∙ all)

-- a seat's own entries have its number
pub own_seated : (n : ℕ) (es : List Entry) → list_all (λ e. e.seat == n) (own_entries n es) ≡ true
own_seated n [] = refl
own_seated n (e ∷ es) = by (e.seat == n) refl (own_seated n es)
  where
    by : (b : Bool) → (e.seat == n) ≡ b → list_all (λ x. x.seat == n) (own_entries n es) ≡ true → list_all (λ x. x.seat == n) (cond b (e ∷ own_entries n es) (own_entries n es)) ≡ true
    by true is rest = and_from (e.seat == n) (list_all (λ x. x.seat == n) (own_entries n es)) is rest
    by false is rest = rest

-- what holds of each of some entries
pub each_kept : (P : Entry → Type 0) (xs ys : List Entry) → AllByRecursion P (xs ++ ys) → AllByRecursion P xs × AllByRecursion P ys
each_kept P [] ys each = (tt, each)
each_kept P (x ∷ xs) ys each = let rest = each_kept P xs ys each.1 in ((each.0, rest.0), rest.1)

-- ---- kinds of entries

-- the entry is no turn's, and sets no servers
abbrev pub is_plain : Entry → Bool
is_plain entry = not (is_of_turn entry) && not (is_some (servers_set_by entry.what))

-- what a callback commands is so
pub command_plain : (seat by : ℕ) (what : What) → IsOfCommand what → is_plain (record { seat = seat; by = by; what = what }) ≡ true
command_plain seat by (Accept number spec script) is = refl
command_plain seat by Cancel is = refl
command_plain seat by Destroy is = refl
command_plain seat by (Take number) is = refl
command_plain seat by (Start number leg server link id mix moment) is = absurd is
command_plain seat by (Arrive server link bytes) is = absurd is
command_plain seat by (Expire number leg moment) is = absurd is
command_plain seat by (Fault server link moment) is = absurd is
command_plain seat by (Servers list) is = absurd is

-- and what takes a request
pub take_plain : (seat by : ℕ) (what : What) → is_some (taken_by what) ≡ true → is_plain (record { seat = seat; by = by; what = what }) ≡ true
take_plain seat by (Accept number spec script) is = refl
take_plain seat by Cancel is = refl
take_plain seat by Destroy is = refl
take_plain seat by (Take number) is = refl
take_plain seat by (Start number leg server link id mix moment) is = absurd (cc is)
take_plain seat by (Arrive server link bytes) is = absurd (cc is)
take_plain seat by (Expire number leg moment) is = absurd (cc is)
take_plain seat by (Fault server link moment) is = absurd (cc is)
take_plain seat by (Servers list) is = absurd (cc is)

-- what takes a request destroys nothing
pub take_open : (what : What) (b : Bool) → is_some (taken_by what) ≡ true → not (is_destroy what && b) ≡ true
take_open (Accept number spec script) b is = refl
take_open Cancel b is = refl
take_open Destroy b is = absurd (cc is)
take_open (Take number) b is = refl
take_open (Start number leg server link id mix moment) b is = refl
take_open (Arrive server link bytes) b is = refl
take_open (Expire number leg moment) b is = refl
take_open (Fault server link moment) b is = refl
take_open (Servers list) b is = refl

-- plain entries are no turn's, and none of them sets servers
pub plain_turns : (es : List Entry) → list_all is_plain es ≡ true → list_all (λ e. not (is_of_turn e)) es ≡ true
plain_turns [] all = refl
plain_turns (e ∷ es) all =
    let parts = and_parts (is_plain e) (list_all is_plain es) all in
    and_from (not (is_of_turn e)) (list_all (λ x. not (is_of_turn x)) es) (and_parts (not (is_of_turn e)) (not (is_some (servers_set_by e.what))) parts.0).0 (plain_turns es parts.1)

pub none_set : (es : List Entry) → list_all is_plain es ≡ true → has_set es ≡ false
none_set [] all = refl
none_set (e ∷ es) all =
    let now = and_parts (is_plain e) (list_all is_plain es) all in
    by (is_some (servers_set_by e.what)) (and_parts (not (is_of_turn e)) (not (is_some (servers_set_by e.what))) now.0).1 (none_set es now.1)
  where
    by : (b : Bool) → not b ≡ true → has_set es ≡ false → (b || has_set es) ≡ false
    by true is rest = absurd (cc is)
    by false is rest = rest

-- no turn's entry, unless it is this seat's
abbrev pub is_owned : ℕ → Entry → Bool
is_owned seat entry = not (is_of_turn entry) || (entry.seat == seat)

pub plain_owned : (n : ℕ) (e : Entry) → is_plain e ≡ true → is_owned n e ≡ true
plain_owned n e plain = ap (λ b. b || (e.seat == n)) (and_parts (not (is_of_turn e)) (not (is_some (servers_set_by e.what))) plain).0

pub seated_owned : (n : ℕ) (e : Entry) → (e.seat == n) ≡ true → is_owned n e ≡ true
seated_owned n e is = by (not (is_of_turn e)) (e.seat == n) is
  where
    by : (x y : Bool) → y ≡ true → (x || y) ≡ true
    by true y is = refl
    by false y is = is
