-- Strings and labels of bytes, one behind the other.
use Rattle.std.proofs.Common.{◌≡◌, ◌≢◌, ◌&&◌, ℕ, zero, suc, ◌<◌, ◌≤◌, Bool, true, false, cond, eqb, ltb, List, [], ◌∷◌, ◌++◌, length, take, drop, Option, Some, None, refl, sym, ap, append_assoc, arith}
use Rattle.std.specs.Prelude.{option_map, nat_le, Result, Ok, Err, IfOk, IfErr}
use Rattle.std.specs.List.{list_all, AllByRecursion}
use Rattle.std.proofs.lemmas.Bool.Decides.{nat_tests}
use Rattle.std.proofs.lemmas.List.{append-nil, length-drop}
use Rattle.dns_message.specs.Name.{IsLabel, IsName, wire_length}
use Rattle.dns_message.specs.NameText.{is_label, is_name}
use Rattle.dns_message.specs.Faults.{HasNameCause}
use Rattle.dns_message.specs.declared.fault.NameFault.{NameFault}
use Rattle.dns_message.specs.declared.fault.NameFault.TheVariants.{EmptyLabel, LongLabel, LongName, BadEscape, NoMemory}
use Rattle.dns_message.proofs.Theorems.{name_passes}
use Rattle.dns_rdata.specs.declared.fault.RdataFault.{RdataFault}
use Rattle.dns_rdata.specs.declared.fault.RdataFault.TheVariants as rdata_fault
use Rattle.dns_rdata.specs.Parts.{Gives, name_in, first_string, then_strings, strings_within, strings_in, then_labels, labels_within, labels_in}

-- what a test kept
kept : {A : Type 0} (b : Bool) (x y : A) → cond b None (Some x) ≡ Some y → x ≡ y
kept true x y e = absurd cc
kept false x y e = cc

-- behind a string there are fewer bytes
first_shorter : (bytes string rest : List ℕ) → first_string bytes ≡ Some (string, rest) → length rest < length bytes
first_shorter [] string rest e = absurd cc
first_shorter (len ∷ bytes) string rest e =
    let behind : drop len bytes ≡ rest = ap (λ (p : List ℕ × List ℕ). p.1) (kept (ltb (length bytes) len) (take len bytes, drop len bytes) (string, rest) e) in
    omega (arith, length-drop len bytes, ap length behind)

-- ---- strings

-- two ways of reading what is behind a string are one where they agree on fewer bytes
strings_same : (more others : List ℕ → Option (List (List ℕ))) (bytes : List ℕ) (first : Option (List ℕ × List ℕ)) → first_string bytes ≡ first
    → ((rest : List ℕ) → length rest < length bytes → more rest ≡ others rest) → then_strings more first ≡ then_strings others first
strings_same more others bytes None e same = refl
strings_same more others bytes (Some first) e same =
    ap (option_map (λ (strings : List (List ℕ)). first.0 ∷ strings)) (same first.1 (first_shorter bytes first.0 first.1 e))

-- any number of strings will do that is enough
strings_enough : (n m : ℕ) (bytes : List ℕ) → length bytes ≤ n → length bytes ≤ m → strings_within n bytes ≡ strings_within m bytes
strings_enough zero zero bytes a b = refl
strings_enough zero (suc m) [] a b = refl
strings_enough (suc n) zero [] a b = refl
strings_enough (suc n) (suc m) [] a b = refl
strings_enough zero (suc m) (len ∷ bytes) a b = absurd (omega arith)
strings_enough (suc n) zero (len ∷ bytes) a b = absurd (omega arith)
strings_enough (suc n) (suc m) (len ∷ bytes) a b =
    strings_same (strings_within n) (strings_within m) (len ∷ bytes) (first_string (len ∷ bytes)) refl
    (λ (rest : List ℕ) (lt : length rest < length (len ∷ bytes)). strings_enough n m rest (omega arith) (omega arith))

pub strings_cons : (len : ℕ) (bytes : List ℕ) → strings_in (len ∷ bytes) ≡ then_strings strings_in (first_string (len ∷ bytes))
unfolding strings_in
strings_cons len bytes =
    strings_same (strings_within (length bytes)) strings_in (len ∷ bytes) (first_string (len ∷ bytes)) refl
    (λ (rest : List ℕ) (lt : length rest < length (len ∷ bytes)). strings_enough (length bytes) (length rest) rest (omega arith) (omega arith))

-- strings in front of those that are read
abbrev pub after : List (List ℕ) → Option (List (List ℕ)) → Option (List (List ℕ))
after front strings = option_map (λ others. front ++ others) strings

after_one : (front : List (List ℕ)) (string : List ℕ) (strings : Option (List (List ℕ))) → after front (option_map (λ others. string ∷ others) strings) ≡ after (front ++ string ∷ []) strings
after_one front string None = refl
after_one front string (Some others) = ap (λ (all : List (List ℕ)). Some all) (sym (append_assoc front (string ∷ []) others))

pub after_none : (strings : Option (List (List ℕ))) → after [] strings ≡ strings
after_none None = refl
after_none (Some others) = refl

pub strings_more : (front : List (List ℕ)) (bytes string rest : List ℕ) → first_string bytes ≡ Some (string, rest) → after front (strings_in bytes) ≡ after (front ++ string ∷ []) (strings_in rest)
strings_more front [] string rest e = absurd cc
strings_more front (len ∷ bytes) string rest e = rw (strings_cons, e) (after_one front string (strings_in rest))

pub strings_stop : (front : List (List ℕ)) (bytes : List ℕ) → bytes ≢ [] → first_string bytes ≡ None → after front (strings_in bytes) ≡ None
strings_stop front [] some e = absurd (some refl)
strings_stop front (len ∷ bytes) some e = rw (strings_cons, e) refl

pub strings_end : (front : List (List ℕ)) → after front (strings_in []) ≡ Some front
unfolding strings_in
strings_end front = ap (λ (all : List (List ℕ)). Some all) (append-nil front)

-- ---- labels

labels_same : (more others : List ℕ → Option (List (List ℕ) × List ℕ)) (bytes : List ℕ) (first : Option (List ℕ × List ℕ)) → first_string bytes ≡ first
    → ((rest : List ℕ) → length rest < length bytes → more rest ≡ others rest) → then_labels more first ≡ then_labels others first
labels_same more others bytes None e same = refl
labels_same more others bytes (Some ([], rest)) e same = refl
labels_same more others bytes (Some (b ∷ label, rest)) e same =
    ap (option_map (λ (found : List (List ℕ) × List ℕ). ((b ∷ label) ∷ found.0, found.1))) (same rest (first_shorter bytes (b ∷ label) rest e))

labels_enough : (n m : ℕ) (bytes : List ℕ) → length bytes ≤ n → length bytes ≤ m → labels_within n bytes ≡ labels_within m bytes
labels_enough zero zero bytes a b = refl
labels_enough zero (suc m) [] a b = refl
labels_enough (suc n) zero [] a b = refl
labels_enough zero (suc m) (len ∷ bytes) a b = absurd (omega arith)
labels_enough (suc n) zero (len ∷ bytes) a b = absurd (omega arith)
labels_enough (suc n) (suc m) bytes a b =
    labels_same (labels_within n) (labels_within m) bytes (first_string bytes) refl
    (λ (rest : List ℕ) (lt : length rest < length bytes). labels_enough n m rest (omega arith) (omega arith))

pub labels_cons : (bytes : List ℕ) → labels_in bytes ≡ then_labels labels_in (first_string bytes)
unfolding labels_in
labels_cons [] = refl
labels_cons (len ∷ bytes) =
    labels_same (labels_within (length bytes)) labels_in (len ∷ bytes) (first_string (len ∷ bytes)) refl
    (λ (rest : List ℕ) (lt : length rest < length (len ∷ bytes)). labels_enough (length bytes) (length rest) rest (omega arith) (omega arith))

-- labels in front of those that are read
abbrev pub behind : List (List ℕ) → Option (List (List ℕ) × List ℕ) → Option (List (List ℕ) × List ℕ)
behind front read = option_map (λ found. (front ++ found.0, found.1)) read

behind_one : (front : List (List ℕ)) (label : List ℕ) (read : Option (List (List ℕ) × List ℕ)) → behind front (option_map (λ found. (label ∷ found.0, found.1)) read) ≡ behind (front ++ label ∷ []) read
behind_one front label None = refl
behind_one front label (Some found) = ap (λ (all : List (List ℕ)). Some (all, found.1)) (sym (append_assoc front (label ∷ []) found.0))

pub behind_none : (read : Option (List (List ℕ) × List ℕ)) → behind [] read ≡ read
behind_none None = refl
behind_none (Some found) = refl

pub labels_more : (front : List (List ℕ)) (bytes label rest : List ℕ) → first_string bytes ≡ Some (label, rest) → label ≢ [] → behind front (labels_in bytes) ≡ behind (front ++ label ∷ []) (labels_in rest)
labels_more front bytes [] rest e some = absurd (some refl)
labels_more front bytes (b ∷ label) rest e some = rw (labels_cons bytes, e) (behind_one front (b ∷ label) (labels_in rest))

pub labels_end : (front : List (List ℕ)) (bytes rest : List ℕ) → first_string bytes ≡ Some ([], rest) → behind front (labels_in bytes) ≡ Some (front, rest)
labels_end front bytes rest e = rw (labels_cons bytes, e) (ap (λ (all : List (List ℕ)). Some (all, rest)) (append-nil front))

pub labels_stop : (front : List (List ℕ)) (bytes : List ℕ) → first_string bytes ≡ None → behind front (labels_in bytes) ≡ None
labels_stop front bytes e = rw (labels_cons bytes, e) refl

-- what isn't empty has a byte
pub some_left : (rest : List ℕ) → eqb (length rest) 0 ≡ false → rest ≢ []
some_left rest test end =
    let none : eqb (length rest) 0 ≡ true = ap (λ (x : List ℕ). eqb (length x) 0) end in
    cc

-- ---- names

and_parts : (a b : Bool) → (a && b) ≡ true → (a ≡ true) × (b ≡ true)
and_parts true b test = (refl, test)
and_parts false b test = absurd cc

-- labels that pass the test are a name
each_passed : (labels : List (List ℕ)) → list_all is_label labels ≡ true → AllByRecursion IsLabel labels
each_passed [] test = tt
each_passed (label ∷ labels) test =
    let both : (is_label label ≡ true) × (list_all is_label labels ≡ true) = and_parts _ _ test in
    let first : (nat_le 1 (length label) ≡ true) × (nat_le (length label) 63 ≡ true) = and_parts _ _ both.0 in
    (record { some = grind (arith, nat_tests); few = grind (arith, nat_tests) }, each_passed labels both.1)

pub passed : (labels : List (List ℕ)) → is_name labels ≡ true → IsName labels
passed labels test =
    let both : (list_all is_label labels ≡ true) × (nat_le (wire_length labels) 255 ≡ true) = and_parts _ _ test in
    record { each = each_passed labels both.0; short = grind (arith, nat_tests) }

-- labels in front of the bytes are a name, or they aren't
pub named : (bytes : List ℕ) (labels : List (List ℕ)) (rest : List ℕ) → labels_in bytes ≡ Some (labels, rest) → IsName labels → name_in bytes ≡ Some (labels, rest)
named bytes labels rest read name = rw (read, name_passes labels name) refl

pub unnamed : (bytes : List ℕ) (labels : List (List ℕ)) (rest : List ℕ) → labels_in bytes ≡ Some (labels, rest) → ¬ IsName labels → name_in bytes ≡ None
unnamed bytes labels rest read none = rw read (tested (is_name labels) refl) where
  tested : (test : Bool) → is_name labels ≡ test → cond {A = Option (List (List ℕ) × List ℕ)} test (Some (labels, rest)) None ≡ None
  tested true is = absurd (none (passed labels is))
  tested false is = refl

-- a fault that is not want of memory has its cause
pub has_cause : (Cause : Type 0) (fault : NameFault) → HasNameCause Cause fault → fault ≢ NoMemory → Cause
has_cause Cause (EmptyLabel at) cause other = cause
has_cause Cause (LongLabel at) cause other = cause
has_cause Cause (LongName at) cause other = cause
has_cause Cause (BadEscape at) cause other = cause
has_cause Cause NoMemory cause other = absurd (other refl)

-- ---- what a call gave

pub given : {A : Type 0} (result : Result A RdataFault) (read : Option A) → Gives result read → IfOk result (λ x. read ≡ Some x)
given (Ok x) read gives = gives
given (Err fault) read gives = tt

pub not_given : {A : Type 0} (result : Result A RdataFault) (read : Option A) → Gives result read → IfErr result (λ fault. fault ≢ rdata_fault.NoMemory → read ≡ None)
not_given (Ok x) read gives = tt
not_given (Err fault) read gives = gives
