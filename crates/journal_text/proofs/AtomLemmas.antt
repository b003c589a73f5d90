-- A word that is printed for a value is read as the value.
use Rattle.std.proofs.Common.{◌≡◌, ℕ, ◌^◌, ◌<◌, ◌≤◌, Bool, true, false, cond, ◌&&◌, eqb, leb, List, [], ◌∷◌, Option, Some, None, refl, sym, ap, subst, ◌∙◌, arith}
use Rattle.std.specs.Prelude.{decimal, bytes_eq, codes}
use Rattle.std.specs.Char.{is_ascii_digit}
use Rattle.std.proofs.lemmas.Bool.{and_parts, and_right, leb-true, eqb-true}
use Rattle.std.proofs.lemmas.Slice.Eq.{bytes_eq-Decides}
use Rattle.hex.specs.Hex.{IsBytes, encode_with, lower_digits}
use Rattle.hex.proofs.HexLemmas.{decode_of-encode_lower}
use Rattle.dns_message.specs.NamePrinting.{text_of as name_text}
use Rattle.dns_message.proofs.PrintingLemmas.{printed_back}
use Rattle.net_addr.specs.Addr.{IsAddr}
use Rattle.net_addr.specs.Text.{text_of as address_text}
use Rattle.net_addr.specs.declared.addr.Addr.{Addr}
use Rattle.net_addr.specs.declared.addr.Family.{Family}
use Rattle.net_addr.specs.declared.addr.Family.TheVariants.{Any, V4, V6}
use Rattle.net_addr.proofs.ReadingLemmas.{address_by_spelling}
use Rattle.net_addr.proofs.TextLemmas.{spelled_by_text}
use Rattle.resolv_options.specs.declared.lookups.Lookups.{Lookups}
use Rattle.resolv_options.specs.declared.lookups.Lookups.TheVariants.{FilesDns, Dns, Files}
use Rattle.resolv_options.specs.declared.flags.Flags.{Flags}
use Rattle.chan_types.specs.declared.orders.When.{When}
use Rattle.chan_types.specs.declared.orders.When.TheVariants as when
use Rattle.chan_types.specs.declared.orders.Need.{Need}
use Rattle.chan_types.specs.declared.orders.Need.TheVariants as need
use Rattle.journal_text.specs.Words.{Word, bytes_word, mix_word, digit, flags_word, truth_number, family_number, lookups_number, when_number, need_number}
use Rattle.journal_text.specs.Fits.{FitsName, FitsMix}
use Rattle.journal_text.specs.Reads.{printed_as, first_word}
use Rattle.journal_text.specs.Atoms.{number_in, number_from, truth_from, bytes_said, bytes_from, address_in, address_from, name_from, mix_from, flags_said, flags_from, family_from, lookups_from, when_from, need_from}
use Rattle.journal_text.proofs.DigitLemmas.{digits_again, BeginsWithDigit, decimal_begins}

-- a word is equal to itself
pub same_word : (word : Word) → bytes_eq word word ≡ true
same_word word = (bytes_eq-Decides word word).1 refl

-- the word that is printed for a value, where its loose reading is the value
pub word_again : {A : Type 0} (printed : A → Word) (said : Word → Option A) (item : A) (rest : List Word) → said (printed item) ≡ Some item
    → first_word (λ word. printed_as printed word (said word)) (printed item ∷ rest) ≡ Some (item, rest)
word_again printed said item rest is = rw (is, same_word (printed item)) refl

pub number_again : (most n : ℕ) (rest : List Word) → n ≤ most → n < 2 ^ 64 → number_from most (decimal n ∷ rest) ≡ Some (n, rest)
unfolding number_from
number_again most n rest few small = rw (digits_again most n few small, same_word (decimal n)) refl

-- the same of a word alone
pub number_in_again : (most n : ℕ) → n ≤ most → n < 2 ^ 64 → number_in most (decimal n) ≡ Some n
number_in_again most n few small = rw (digits_again most n few small, same_word (decimal n)) refl

pub truth_again : (truth : Bool) (rest : List Word) → truth_from (decimal (truth_number truth) ∷ rest) ≡ Some (truth, rest)
unfolding truth_from
truth_again true rest = rw (number_again 1 1 rest (omega arith) (omega arith)) refl
truth_again false rest = rw (number_again 1 0 rest (omega arith) (omega arith)) refl

-- two digits or more are no hyphen
bytes_said_again : (bytes : List ℕ) → IsBytes bytes → bytes_said (bytes_word bytes) ≡ Some bytes
unfolding encode_with
bytes_said_again [] fits = refl
bytes_said_again (byte ∷ bytes) fits =
    rw (and_right _ false refl, decode_of-encode_lower (byte ∷ bytes) fits) refl

pub bytes_again : (bytes : List ℕ) (rest : List Word) → IsBytes bytes → bytes_from (bytes_word bytes ∷ rest) ≡ Some (bytes, rest)
unfolding bytes_from
bytes_again bytes rest fits = rw (bytes_said_again bytes fits, same_word (bytes_word bytes)) refl

pub address_again : (address : Addr) (rest : List Word) → IsAddr address → address_from (address_text address ∷ rest) ≡ Some (address, rest)
unfolding address_from
address_again address rest fits =
    rw (address_by_spelling (address_text address) address (spelled_by_text address fits), same_word (address_text address)) refl

pub address_in_again : (address : Addr) → IsAddr address → address_in (address_text address) ≡ Some address
address_in_again address fits =
    rw (address_by_spelling (address_text address) address (spelled_by_text address fits), same_word (address_text address)) refl

pub name_again : (name : List (List ℕ)) (rest : List Word) → FitsName name → name_from (name_text name ∷ rest) ≡ Some (name, rest)
unfolding name_from
name_again name rest fits = rw (printed_back name fits.0 fits.1, same_word (name_text name)) refl

clash : {A : Type 0} (test : Bool) → test ≡ true → test ≡ false → A
clash test is other = absurd cc

-- a word that begins with a digit is another than one that doesn't
differs : (word : Word) (begins : BeginsWithDigit word) (first : ℕ) (others : Word) → is_ascii_digit first ≡ false → bytes_eq word (first ∷ others) ≡ false
differs word begins first others other = rw begins.parts (apart (eqb begins.first first) refl) where
  apart : (test : Bool) → eqb begins.first first ≡ test → (test && bytes_eq begins.others others) ≡ false
  apart true is = clash (is_ascii_digit first) (subst (λ (d : ℕ). is_ascii_digit d ≡ true) (eqb-true begins.first first is) begins.is_digit) other
  apart false is = refl

-- so is a number
pub number_differs : (n first : ℕ) (others : Word) → n < 2 ^ 64 → is_ascii_digit first ≡ false → bytes_eq (decimal n) (first ∷ others) ≡ false
number_differs n first others small other = differs (decimal n) (decimal_begins n small) first others other

pub mix_again : (mix : Option ℕ) (rest : List Word) → FitsMix mix → mix_from (mix_word mix ∷ rest) ≡ Some (mix, rest)
unfolding mix_from
mix_again None rest fits = refl
mix_again (Some mix) rest fits =
    rw (number_differs mix 45 [] (omega arith) refl, digits_again 65535 mix (omega arith) (omega arith), same_word (decimal mix)) refl

-- a switch is read off its digit
digit_again : (truth : Bool) → eqb (digit truth) 49 ≡ truth
digit_again true = refl
digit_again false = refl

flags_said_again : (flags : Flags) → flags_said (flags_word flags) ≡ Some flags
flags_said_again flags =
    rw (digit_again flags.usevc, digit_again flags.primary, digit_again flags.igntc, digit_again flags.norecurse, digit_again flags.nosearch, digit_again flags.nocheckresp, digit_again flags.edns, digit_again flags.mix) refl

pub flags_again : (flags : Flags) (rest : List Word) → flags_from (flags_word flags ∷ rest) ≡ Some (flags, rest)
unfolding flags_from
flags_again flags rest = word_again flags_word flags_said flags rest (flags_said_again flags)

pub family_again : (family : Family) (rest : List Word) → family_from (decimal (family_number family) ∷ rest) ≡ Some (family, rest)
unfolding family_from
family_again Any rest = rw (number_again 2 0 rest (omega arith) (omega arith)) refl
family_again V4 rest = rw (number_again 2 1 rest (omega arith) (omega arith)) refl
family_again V6 rest = rw (number_again 2 2 rest (omega arith) (omega arith)) refl

pub lookups_again : (lookups : Lookups) (rest : List Word) → lookups_from (decimal (lookups_number lookups) ∷ rest) ≡ Some (lookups, rest)
unfolding lookups_from
lookups_again FilesDns rest = rw (number_again 2 0 rest (omega arith) (omega arith)) refl
lookups_again Dns rest = rw (number_again 2 1 rest (omega arith) (omega arith)) refl
lookups_again Files rest = rw (number_again 2 2 rest (omega arith) (omega arith)) refl

pub when_again : (w : When) (rest : List Word) → when_from (decimal (when_number w) ∷ rest) ≡ Some (w, rest)
unfolding when_from
when_again when.Always rest = rw (number_again 2 0 rest (omega arith) (omega arith)) refl
when_again when.Good rest = rw (number_again 2 1 rest (omega arith) (omega arith)) refl
when_again when.Bad rest = rw (number_again 2 2 rest (omega arith) (omega arith)) refl

pub need_again : (n : Need) (rest : List Word) → need_from (decimal (need_number n) ∷ rest) ≡ Some (n, rest)
unfolding need_from
need_again need.Nothing rest = rw (number_again 3 0 rest (omega arith) (omega arith)) refl
need_again need.Follow rest = rw (number_again 3 1 rest (omega arith) (omega arith)) refl
need_again need.First rest = rw (number_again 3 2 rest (omega arith) (omega arith)) refl
need_again need.Quit rest = rw (number_again 3 3 rest (omega arith) (omega arith)) refl
