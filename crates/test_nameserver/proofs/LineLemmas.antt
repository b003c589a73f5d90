-- Lines that are read one by one: what those in front say, and what is left to read.
use Rattle.std.proofs.Common.{◌≡◌, ℕ, suc, ◌+◌, ◌<◌, ◌≤◌, nat_lt, Bool, true, false, cond, List, [], ◌∷◌, ◌++◌, length, Option, Some, None, Result, Ok, Err, if◌then◌else◌, refl, ap, sym, append_assoc, append-nil, arith}
use Rattle.std.specs.Prelude.{◌==◌, filter_map, position, option_map}
use Rattle.std.specs.List.{position_or_len, count_by}
use Rattle.std.proofs.lemmas.Grind.{common_steps}
use Rattle.std.proofs.lemmas.List.Splits.{length-slice_split}
use Rattle.dns_message.specs.declared.message.Record.{Record}
use Rattle.text_lines.specs.Lines.{lines_of}
use Rattle.test_nameserver.specs.Words.{words_of}
use Rattle.test_nameserver.specs.Lines.{Gives, is_comment, is_bad, record_of_words, record_of_line, added, line_added, lines_read, records_or}
use Rattle.test_nameserver.specs.declared.fault.ZoneFault.{ZoneFault}
use Rattle.test_nameserver.specs.declared.fault.ZoneFault.TheVariants.{TooLarge, BadLine, NoMemory}

-- fewer words than three are no record
pub few_words : (words : List (List ℕ)) → length words < 3 → None ≡ record_of_words words
few_words [] few = refl
few_words (name ∷ []) few = refl
few_words (name ∷ ttl ∷ []) few = refl
few_words (name ∷ ttl ∷ type ∷ values) few = absurd (omega (arith, few))

module _ {X : Type 0} (p : X → Bool) (x : X) (xs : List X) where
  place_by : (n m : ℕ) → cond (nat_lt (1 + n) (suc m)) (Some (1 + n)) None ≡ option_map (λ i. i + 1) (cond (nat_lt n m) (Some n) None)
  place_by n m = grind (arith, common_steps)

  first_by : (m : ℕ) → cond {A = Option ℕ} (nat_lt 0 (suc m)) (Some 0) None ≡ Some 0
  first_by m = grind (arith, common_steps)

  -- the first that passes isn't this one
  pub position_behind : p x ≡ false → position p (x ∷ xs) ≡ option_map (λ i. i + 1) (position p xs)
  position_behind fails = rw fails (place_by (position_or_len p xs) (length xs))

  -- it is this one
  pub position_here : p x ≡ true → position p (x ∷ xs) ≡ Some 0
  position_here passes = rw passes (first_by (length xs))

-- the records so far and those of the lines that are left, or the number of the first bad one of these
abbrev rest_by : ℕ → List Record → List (List ℕ) → Option ℕ → Result (List Record) ZoneFault
rest_by number records lines None = Ok (records ++ filter_map record_of_line lines)
rest_by number records lines (Some index) = Err (BadLine (number + index))

abbrev pub rest_read : ℕ → List Record → List (List ℕ) → Result (List Record) ZoneFault
rest_read number records lines = rest_by number records lines (position is_bad lines)

all_by : (lines : List (List ℕ)) (bad : Option ℕ) → rest_by 1 [] lines bad ≡ records_or lines bad
all_by lines None = refl
all_by lines (Some index) = let one : 1 + index ≡ index + 1 = omega arith in rw one refl

-- at the beginning all is left
pub all_left : (lines : List (List ℕ)) → rest_read 1 [] lines ≡ lines_read lines
all_left lines = all_by lines (position is_bad lines)

-- at the end nothing is
pub none_left : (number : ℕ) (records : List Record) → rest_read number records [] ≡ Ok records
none_left number records = ap Ok (append-nil records)

module _ (number : ℕ) (records : List Record) (line : List ℕ) (lines : List (List ℕ)) where
  silent_by : (bad : Option ℕ) → record_of_line line ≡ None → rest_by number records (line ∷ lines) (option_map (λ i. i + 1) bad) ≡ rest_by (number + 1) records lines bad
  silent_by None silent = rw silent refl
  silent_by (Some index) silent = let more : number + (index + 1) ≡ number + 1 + index = omega arith in rw more refl

  said_by : (rr : Record) (bad : Option ℕ) → record_of_line line ≡ Some rr → rest_by number records (line ∷ lines) (option_map (λ i. i + 1) bad) ≡ rest_by (number + 1) (records ++ rr ∷ []) lines bad
  said_by rr None said = rw said (ap Ok (sym (append_assoc records (rr ∷ []) (filter_map record_of_line lines))))
  said_by rr (Some index) said = let more : number + (index + 1) ≡ number + 1 + index = omega arith in rw more refl

  gone_on : (comment : Bool) (found : Option Record) (after : List Record) → is_comment line ≡ comment → record_of_words (words_of line) ≡ found
      → (if comment then Ok records else added records number found) ≡ Ok after → rest_read number records (line ∷ lines) ≡ rest_read (number + 1) after lines
  gone_on true found after comment is ok =
      let same : records ≡ after = cc in
      let fine : is_bad line ≡ false = rw comment refl in
      let silent : record_of_line line ≡ None = rw comment refl in
      rw (position_behind is_bad line lines fine, sym same) (silent_by (position is_bad lines) silent)
  gone_on false None after comment is ok = absurd (cc)
  gone_on false (Some rr) after comment is ok =
      let same : records ++ rr ∷ [] ≡ after = cc in
      let fine : is_bad line ≡ false = rw (comment, is) refl in
      let said : record_of_line line ≡ Some rr = rw (comment, is) refl in
      rw (position_behind is_bad line lines fine, sym same) (said_by rr (position is_bad lines) said)

  -- where a line was taken, the others are left
  pub line_taken : (after : List Record) → line_added records line number ≡ Ok after → rest_read number records (line ∷ lines) ≡ rest_read (number + 1) after lines
  line_taken after ok = gone_on (is_comment line) (record_of_words (words_of line)) after refl refl ok

  stopped : (comment : Bool) (found : Option Record) (fault : ZoneFault) → is_comment line ≡ comment → record_of_words (words_of line) ≡ found
      → Gives (Err fault) (if comment then Ok records else added records number found) → Gives (Err fault) (rest_read number records (line ∷ lines))
  stopped comment found NoMemory is are gives = tt
  stopped true found TooLarge is are gives = absurd (cc)
  stopped true found (BadLine k) is are gives = absurd (cc)
  stopped false (Some rr) TooLarge is are gives = absurd (cc)
  stopped false (Some rr) (BadLine k) is are gives = absurd (cc)
  stopped false None TooLarge is are gives = absurd (cc)
  stopped false None (BadLine k) is are gives =
      let bad : is_bad line ≡ true = rw (is, are) refl in
      let start : number + 0 ≡ number = omega arith in
      rw (position_here is_bad line lines bad, start) gives

  -- where a line was refused, reading gives that fault
  pub line_refused : (fault : ZoneFault) → Gives (Err fault) (line_added records line number) → Gives (Err fault) (rest_read number records (line ∷ lines))
  line_refused fault gives = stopped (is_comment line) (record_of_words (words_of line)) fault refl refl gives

count_few : {X : Type 0} (p : X → Bool) (xs : List X) → count_by p xs ≤ length xs
count_few p [] = omega arith
count_few p (x ∷ xs) = grind (arith, common_steps, count_few p xs)

-- there are at most as many lines as bytes, and one
pub few_lines : (text : List ℕ) → length (lines_of text) ≤ length text + 1
few_lines text = omega (arith, length-slice_split (λ byte. byte == 10) text, count_few (λ byte. byte == 10) text)
