-- A word is read as a type or a class exactly where it names one.
use Rattle.std.proofs.Common.{◌≡◌, ◌≢◌, ◌&&◌, ℕ, ◌+◌, ◌-◌, ◌*◌, ◌<◌, ◌≤◌, Bool, true, false, cond, eqb, List, [], ◌∷◌, ◌++◌, length, get_or, take, drop, map, Option, Some, None, inl, inr, refl, sym, ap, subst, ◌∙◌, arith}
use Rattle.std.specs.Prelude.{⊤, codes, decimal, find, nat_le, IfSome}
use Rattle.std.specs.Char.{is_ascii_digit, to_ascii_lowercase, digit_value}
use Rattle.std.specs.Cmp.Lexicographic.{bytes_decides}
use Rattle.std.specs.List.{AllByRecursion}
use Rattle.std.specs.Str.{bytes_eq}
use Rattle.std.specs.Str.Parse.{AllDigits, digits_value, digits_value_after}
use Rattle.std.proofs.lemmas.Bool.Decides.{nat_tests}
use Rattle.std.proofs.lemmas.Fmt.{decimal-digits_value}
use Rattle.std.proofs.lemmas.List.{length-map, map-append, take_at, drop_at, take-append-drop}
use Rattle.std.proofs.lemmas.Option.{same_Some}
use Rattle.std.proofs.lemmas.Str.Parse.{numerals_by_value, tells_digits}
use Rattle.dns_message.specs.Numbers.{kind_a, kind_ns, kind_cname, kind_soa, kind_ptr, kind_hinfo, kind_mx, kind_txt, kind_aaaa, kind_srv, kind_opt, kind_any, class_in, class_ch, class_any}
use Rattle.dns_rdata.specs.Table.{kind_name, class_name, kind_words, class_words, same_letters, is_named, read_on, number_in, numbered, or_numbered, kind_word, class_word}
use Rattle.dns_rdata.specs.Words.{IsListed, IsNumbered, NamesKind, NamesClass}
use Rattle.dns_rdata.proofs.WordLemmas.{either, number_printed}

-- ---- numbers

-- what is read on are digits, and the number is theirs
digits_read : (digits : List ℕ) (from n : ℕ) → from ≤ 65535 → read_on from digits ≡ Some n → AllDigits 10 digits × (digits_value_after 10 from digits ≡ n) × (n ≤ 65535)
digits_read [] from n few read = let same : from ≡ n = same_Some from n read in (tt, same, omega arith)
digits_read (c ∷ digits) from n few read = tested (is_ascii_digit c) (nat_le (from * 10 + (c - 48)) 65535) (digits_read digits (from * 10 + (c - 48)) n) refl refl read where
  tested : (digit short : Bool)
      → (from * 10 + (c - 48) ≤ 65535 → read_on (from * 10 + (c - 48)) digits ≡ Some n → AllDigits 10 digits × (digits_value_after 10 (from * 10 + (c - 48)) digits ≡ n) × (n ≤ 65535))
      → is_ascii_digit c ≡ digit → nat_le (from * 10 + (c - 48)) 65535 ≡ short
      → cond (digit && short) (read_on (from * 10 + (c - 48)) digits) None ≡ Some n
      → AllDigits 10 (c ∷ digits) × (digits_value_after 10 from (c ∷ digits) ≡ n) × (n ≤ 65535)
  tested false short below is fits read = absurd cc
  tested true false below is fits read = absurd cc
  tested true true below is fits read =
      let low : 48 ≤ c = grind (arith, nat_tests, is) in
      let high : c ≤ 57 = grind (arith, nat_tests, is) in
      let value : digit_value c ≡ c - 48 = grind (arith, nat_tests) in
      let more = below (grind (arith, nat_tests, fits)) read in
      ((omega (arith, value), more.0), ap (λ v. digits_value_after 10 (from * 10 + v) digits) value ∙ more.1, more.2)

-- digits without a zero in front are their number's
digits_are : (digits : List ℕ) (n : ℕ) → 0 < length digits → (get_or digits 0 0 ≡ 48 → length digits ≡ 1) → read_on 0 digits ≡ Some n → (digits ≡ decimal n) × (n ≤ 65535)
digits_are digits n some front read =
    let parts = digits_read digits 0 n (omega arith) read in
    let own = numerals_by_value (AllDigits 10) tells_digits in
    let written : decimal (digits_value 10 digits) ≡ digits = decimal-digits_value own digits parts.0 some front (omega (arith, parts.1, parts.2)) in
    (sym written ∙ ap decimal parts.1, parts.2)

-- what is read as a number are its decimal digits
number_is : (digits : List ℕ) (n : ℕ) → number_in digits ≡ Some n → (digits ≡ decimal n) × (n ≤ 65535)
number_is [] n read = absurd cc
number_is (c ∷ []) n read = digits_are (c ∷ []) n (omega arith) (λ _. refl) read
number_is (c ∷ d ∷ digits) n read = tested (eqb c 48) refl read where
  tested : (test : Bool) → eqb c 48 ≡ test → cond test None (read_on 0 (c ∷ d ∷ digits)) ≡ Some n → (c ∷ d ∷ digits ≡ decimal n) × (n ≤ 65535)
  tested true is read = absurd cc
  tested false is read = digits_are (c ∷ d ∷ digits) n (omega arith) (λ zero_front. absurd (grind (arith, nat_tests, is, zero_front))) read

-- a number behind a front
module _ (front word : List ℕ) (n : ℕ) where
  -- what is read behind the front is a number behind it
  pub numbered_is : numbered front word ≡ Some n → IsNumbered front word n
  numbered_is read = tested (same_letters (take (length front) word) front) refl read where
    tested : (test : Bool) → same_letters (take (length front) word) front ≡ test → cond test (number_in (drop (length front) word)) None ≡ Some n → IsNumbered front word n
    tested false is read = absurd cc
    tested true is read =
        let number = number_is (drop (length front) word) n read in
        record {
          letters = take (length front) word;
          same = (bytes_decides (map to_ascii_lowercase (take (length front) word)) (map to_ascii_lowercase front)).0 is;
          few = number.1;
          spelled = sym (take-append-drop (length front) word) ∙ ap (λ digits. take (length front) word ++ digits) number.0;
        }

  -- and a number behind the front is read
  pub numbered_reads : IsNumbered front word n → numbered front word ≡ Some n
  numbered_reads is =
      let long : length is.letters ≡ length front = sym (length-map is.letters to_ascii_lowercase) ∙ ap length is.same ∙ length-map front to_ascii_lowercase in
      let first : take (length front) word ≡ is.letters = ap (take (length front)) is.spelled ∙ take_at is.letters (decimal n) (length front) long in
      let digits : drop (length front) word ≡ decimal n = ap (drop (length front)) is.spelled ∙ drop_at is.letters (decimal n) (length front) long in
      let same : same_letters is.letters front ≡ true = (bytes_decides (map to_ascii_lowercase is.letters) (map to_ascii_lowercase front)).1 is.same in
      let few : n < 65536 = omega (arith, is.few) in
      rw (first, digits, same) (number_printed n few)

-- ---- names

-- a name that passes the test of a word is the word
listed_is : (word : List ℕ) (name : Option (List ℕ)) → is_named word name ≡ true → IsListed word name
listed_is word None test = absurd cc
listed_is word (Some name) test = (bytes_decides (map to_ascii_lowercase word) (map to_ascii_lowercase name)).0 test

-- what is found passes the test, and holds what all items do
found_is : (test : ℕ → Bool) (P : ℕ → Type 0) (xs : List ℕ) (x : ℕ) → AllByRecursion P xs → find test xs ≡ Some x → (test x ≡ true) × P x
found_is test P [] x all read = absurd cc
found_is test P (y ∷ xs) x all read = tested (test y) (found_is test P xs x all.1) refl read where
  tested : (passes : Bool) → (find test xs ≡ Some x → (test x ≡ true) × P x) → test y ≡ passes → cond passes (Some y) (find test xs) ≡ Some x → (test x ≡ true) × P x
  tested false below is read = below read
  tested true below is read =
      let same : y ≡ x = same_Some y x read in
      (subst (λ z. test z ≡ true) same is, subst P same all.0)

-- the test of a word by its letters in lower case
abbrev is_lower : List ℕ → Option (List ℕ) → Bool
is_lower lower None = false
is_lower lower (Some name) = bytes_eq lower (map to_ascii_lowercase name)

-- the letters of a number's front, in lower case
lower_front : (front word : List ℕ) (n : ℕ) (is : IsNumbered front word n) → map to_ascii_lowercase word ≡ map to_ascii_lowercase front ++ map to_ascii_lowercase (decimal n)
lower_front front word n is =
    ap (map to_ascii_lowercase) is.spelled ∙ map-append to_ascii_lowercase is.letters (decimal n) ∙ ap (λ letters. letters ++ map to_ascii_lowercase (decimal n)) is.same

-- ---- types

-- what is read as a type names it
kind_is : (word : List ℕ) (kind : ℕ) → kind_word word ≡ Some kind → NamesKind word kind
kind_is word kind read = by_table (find (λ kind. is_named word (kind_name kind)) kind_words) refl read where
  by_table : (found : Option ℕ) → find (λ kind. is_named word (kind_name kind)) kind_words ≡ found → or_numbered (codes "TYPE") word found ≡ Some kind → NamesKind word kind
  by_table None is read = inr (numbered_is (codes "TYPE") word kind read)
  by_table (Some x) is read =
      let same : x ≡ kind = same_Some x kind read in
      let found = found_is (λ kind. is_named word (kind_name kind)) (λ kind. eqb kind kind_opt ≡ false) kind_words kind
      (refl, (refl, (refl, (refl, (refl, (refl, (refl, (refl, (refl, (refl, (refl, tt))))))))))) (is ∙ ap (λ x. Some x) same) in
      inl (λ opt. absurd (grind (arith, nat_tests, found.1, opt)), listed_is word (kind_name kind) found.0)

-- so an answer is a type that the word names
pub kind_found : (word : List ℕ) → IfSome (kind_word word) (NamesKind word)
kind_found word = by_answer (kind_word word) refl where
  by_answer : (answer : Option ℕ) → kind_word word ≡ answer → IfSome answer (NamesKind word)
  by_answer None is = tt
  by_answer (Some kind) is = kind_is word kind is

module _ (word : List ℕ) where
  -- the type that letters in lower case name, or else the number of the word
  abbrev kind_by : List ℕ → Option ℕ
  kind_by lower = or_numbered (codes "TYPE") word (find (λ kind. is_lower lower (kind_name kind)) kind_words)

  abbrev ReadsListed : ℕ → Type 0
  ReadsListed kind = kind ≢ kind_opt → IsListed word (kind_name kind) → kind_word word ≡ Some kind

  -- a name of the table is read as its type
  kind_listed : (kind : ℕ) → ReadsListed kind
  kind_listed kind =
      either ReadsListed kind_a kind (λ ask is. ap kind_by is) (λ a.
      either ReadsListed kind_ns kind (λ ask is. ap kind_by is) (λ b.
      either ReadsListed kind_cname kind (λ ask is. ap kind_by is) (λ c.
      either ReadsListed kind_soa kind (λ ask is. ap kind_by is) (λ d.
      either ReadsListed kind_ptr kind (λ ask is. ap kind_by is) (λ e.
      either ReadsListed kind_hinfo kind (λ ask is. ap kind_by is) (λ f.
      either ReadsListed kind_mx kind (λ ask is. ap kind_by is) (λ g.
      either ReadsListed kind_txt kind (λ ask is. ap kind_by is) (λ h.
      either ReadsListed kind_aaaa kind (λ ask is. ap kind_by is) (λ i.
      either ReadsListed kind_srv kind (λ ask is. ap kind_by is) (λ j.
      either ReadsListed kind_opt kind (λ ask is. absurd (ask refl)) (λ k.
      either ReadsListed kind_any kind (λ ask is. ap kind_by is) (λ l.
      λ ask is. absurd (rw (a, b, c, d, e, f, g, h, i, j, k, l) at is)))))))))))))

  -- a word that names a type is read as it
  pub kind_only : (kind : ℕ) → NamesKind word kind → kind_word word ≡ Some kind
  kind_only kind (inl listed) = kind_listed kind listed.0 listed.1
  kind_only kind (inr is) = ap kind_by (lower_front (codes "TYPE") word kind is) ∙ numbered_reads (codes "TYPE") word kind is

-- ---- classes

-- what is read as a class names it
class_is : (word : List ℕ) (class : ℕ) → class_word word ≡ Some class → NamesClass word class
class_is word class read = by_table (find (λ class. is_named word (class_name class)) class_words) refl read where
  by_table : (found : Option ℕ) → find (λ class. is_named word (class_name class)) class_words ≡ found → or_numbered (codes "CLASS") word found ≡ Some class → NamesClass word class
  by_table None is read = inr (numbered_is (codes "CLASS") word class read)
  by_table (Some x) is read =
      let same : x ≡ class = same_Some x class read in
      let found = found_is (λ class. is_named word (class_name class)) (λ _. ⊤) class_words class (tt, (tt, (tt, tt))) (is ∙ ap (λ x. Some x) same) in
      inl (listed_is word (class_name class) found.0)

-- so an answer is a class that the word names
pub class_found : (word : List ℕ) → IfSome (class_word word) (NamesClass word)
class_found word = by_answer (class_word word) refl where
  by_answer : (answer : Option ℕ) → class_word word ≡ answer → IfSome answer (NamesClass word)
  by_answer None is = tt
  by_answer (Some class) is = class_is word class is

module _ (word : List ℕ) where
  -- the class that letters in lower case name, or else the number of the word
  abbrev class_by : List ℕ → Option ℕ
  class_by lower = or_numbered (codes "CLASS") word (find (λ class. is_lower lower (class_name class)) class_words)

  abbrev ReadsClassListed : ℕ → Type 0
  ReadsClassListed class = IsListed word (class_name class) → class_word word ≡ Some class

  -- a name of the table is read as its class
  class_listed : (class : ℕ) → ReadsClassListed class
  class_listed class =
      either ReadsClassListed class_in class (λ is. ap class_by is) (λ a.
      either ReadsClassListed class_ch class (λ is. ap class_by is) (λ b.
      either ReadsClassListed class_any class (λ is. ap class_by is) (λ c.
      λ is. absurd (rw (a, b, c) at is))))

  -- a word that names a class is read as it
  pub class_only : (class : ℕ) → NamesClass word class → class_word word ≡ Some class
  class_only class (inl is) = class_listed class is
  class_only class (inr is) = ap class_by (lower_front (codes "CLASS") word class is) ∙ numbered_reads (codes "CLASS") word class is
