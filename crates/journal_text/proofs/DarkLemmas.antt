-- No word has a blank or a line feed: each of its bytes is above 32.
use Rattle.std.proofs.Common.{◌≡◌, ℕ, zero, suc, ◌+◌, ◌/◌, ◌%◌, ◌^◌, ◌<◌, ◌≤◌, ◌⊎◌, Bool, true, false, cond, leb, eqb, ◌||◌, ◌&&◌, List, [], ◌∷◌, ◌++◌, length, get_or, take, drop, Option, Some, None, All, refl, arith, inl, inr}
use Rattle.std.specs.Prelude.{decimal, codes, flat_map, bytes_eq}
use Rattle.std.specs.Int.{IsInRange}
use Rattle.std.specs.List.{AllByRecursion, list_all}
use Rattle.std.specs.Net.Text.{ipv4_text, ipv6_text, hex_groups_text}
use Rattle.std.specs.Net.Addr.{octets_of}
use Rattle.std.proofs.lemmas.Bool.{cond_both, leb-true, eqb-true, and_parts}
use Rattle.std.proofs.lemmas.Bool.Decides.{nat_tests}
use Rattle.std.proofs.lemmas.List.Elements.{All-nil, All-cons, All-append, All-from_get_or, All-get_or, All-from_recursion, All-weaker}
use Rattle.std.proofs.lemmas.List.Concat.{flat_map-cons}
use Rattle.std.proofs.lemmas.Fmt.{decimal_is_IsNumeral}
use Rattle.std.proofs.lemmas.Str.Parse.{digit_at}
use Rattle.std.proofs.NetLemmas.Alphabet.{IsDigitOrDot, IsHexOrColon, All-ipv4_text, All-hex_groups_text}
use Rattle.hex.specs.Hex.{IsBytes, encode_with, lower_digits}
use Rattle.dns_message.specs.NamePrinting.{text_of as name_text, printed_byte, printed_label, AreBytes}
use Rattle.net_addr.specs.Addr.{IsAddr, octets, groups}
use Rattle.net_addr.specs.Text.{text_of as address_text}
use Rattle.net_addr.specs.declared.addr.Addr.{Addr}
use Rattle.net_addr.specs.declared.addr.Addr.TheVariants.{V4, V6}
use Rattle.net_addr.proofs.AddrLemmas.{groups_fit}
use Rattle.resolv_options.specs.declared.flags.Flags.{Flags}
use Rattle.journal_text.specs.Words.{Word, bytes_word, mix_word, digit, flags_word}
use Rattle.journal_text.specs.Fits.{FitsName, FitsMix}

-- the byte is neither a blank nor a line feed, nor any other below
abbrev pub IsDark : ℕ → Type 0
IsDark byte = 33 ≤ byte

abbrev pub AreDark : Word → Type 0
AreDark word = All IsDark word

-- for words that are written out, where the test is seen by computing
pub dark_word : (word : Word) → list_all (λ byte. leb 33 byte) word ≡ true → AreDark word
dark_word [] tested = All-nil IsDark
dark_word (byte ∷ word) tested =
    let both = and_parts (leb 33 byte) (list_all (λ b. leb 33 b) word) tested in
    All-cons IsDark byte word (leb-true 33 byte both.0) (dark_word word both.1)

dark_all : (word : Word) → AllByRecursion IsDark word → AreDark word
dark_all word each = All-from_recursion IsDark word each

pub dark_decimal : (n : ℕ) → n < 2 ^ 64 → AreDark (decimal n)
dark_decimal n small = All-from_get_or IsDark (decimal n) 0 (λ i within. let range = digit_at (decimal n) i (decimal_is_IsNumeral n small).0.1 within in omega (arith, range))

dark_digits : AreDark lower_digits
dark_digits = dark_word lower_digits refl

dark_hex : (bytes : List ℕ) → IsBytes bytes → AreDark (encode_with lower_digits bytes)
unfolding encode_with
dark_hex [] fits = All-nil IsDark
dark_hex (byte ∷ bytes) fits =
    let small : byte < 256 = fits 0 in
    All-cons IsDark (get_or lower_digits (byte / 16) 0) (get_or lower_digits (byte % 16) 0 ∷ encode_with lower_digits bytes) (All-get_or IsDark lower_digits (byte / 16) 0 (omega arith) dark_digits)
    (All-cons IsDark (get_or lower_digits (byte % 16) 0) (encode_with lower_digits bytes) (All-get_or IsDark lower_digits (byte % 16) 0 (omega arith) dark_digits) (dark_hex bytes (λ i. fits (suc i))))

pub dark_bytes : (bytes : List ℕ) → IsBytes bytes → AreDark (bytes_word bytes)
dark_bytes [] fits = dark_word (codes "-") refl
dark_bytes (byte ∷ bytes) fits = dark_hex (byte ∷ bytes) fits

pub dark_mix : (mix : Option ℕ) → FitsMix mix → AreDark (mix_word mix)
dark_mix None fits = dark_word (codes "-") refl
dark_mix (Some mix) fits = dark_decimal mix (omega (arith, fits))

dark_dotted : (o : List ℕ) → ((k : ℕ) → get_or o k 0 < 2 ^ 8) → AreDark (ipv4_text o)
dark_dotted o fits = All-weaker IsDigitOrDot IsDark seen (ipv4_text o) (All-ipv4_text o fits) where
  seen : (c : ℕ) → IsDigitOrDot c → IsDark c
  seen c (inl range) = omega (arith, range)
  seen c (inr dot) = omega (arith, dot)

octets_of_fit : (segments : List ℕ) → ((k : ℕ) → get_or segments k 0 < 2 ^ 16) → (k : ℕ) → get_or (octets_of segments) k 0 < 2 ^ 8
octets_of_fit [] fits k = omega arith
octets_of_fit (s ∷ segments) fits zero = let small : s < 2 ^ 16 = fits 0 in omega arith
octets_of_fit (s ∷ segments) fits (suc zero) = omega arith
octets_of_fit (s ∷ segments) fits (suc (suc k)) = octets_of_fit segments (λ j. fits (suc j)) k

dark_groups : (segments : List ℕ) → ((k : ℕ) → get_or segments k 0 < 2 ^ 16) → AreDark (hex_groups_text segments)
dark_groups segments fits = All-weaker IsHexOrColon IsDark seen (hex_groups_text segments) (All-hex_groups_text segments fits) where
  seen : (c : ℕ) → IsHexOrColon c → IsDark c
  seen c (inl range) = omega (arith, range)
  seen c (inr range) = omega (arith, range)

octets_fit : (a : ℕ) → a < 2 ^ 32 → (k : ℕ) → get_or (octets a) k 0 < 2 ^ 8
octets_fit a fits zero = omega arith
octets_fit a fits (suc zero) = omega arith
octets_fit a fits (suc (suc zero)) = omega arith
octets_fit a fits (suc (suc (suc zero))) = omega arith
octets_fit a fits (suc (suc (suc (suc k)))) = omega arith

later_fit : (segments : List ℕ) → ((k : ℕ) → get_or segments k 0 < 2 ^ 16) → (n : ℕ) → (k : ℕ) → get_or (drop n segments) k 0 < 2 ^ 16
later_fit segments fits zero k = fits k
later_fit [] fits (suc n) k = omega arith
later_fit (s ∷ segments) fits (suc n) k = later_fit segments (λ j. fits (suc j)) n k

pub dark_address : (address : Addr) → IsAddr address → AreDark (address_text address)
unfolding ipv6_text
dark_address (V4 a) fits = dark_dotted (octets a) (octets_fit a fits)
dark_address (V6 a) fits =
    cond_both (bytes_eq (take 6 (groups a)) (0 ∷ 0 ∷ 0 ∷ 0 ∷ 0 ∷ 65535 ∷ [])) (codes "::ffff:" ++ ipv4_text (octets_of (drop 6 (groups a)))) (hex_groups_text (groups a)) AreDark
    (λ _. All-append IsDark (codes "::ffff:") (ipv4_text (octets_of (drop 6 (groups a)))) (dark_word (codes "::ffff:") refl)
    (dark_dotted (octets_of (drop 6 (groups a))) (octets_of_fit (drop 6 (groups a)) (later_fit (groups a) (groups_fit a fits) 6))))
    (λ _. dark_groups (groups a) (groups_fit a fits))

dark_escaped : (b : ℕ) (dot slash : Bool) → eqb b 46 ≡ dot → eqb b 92 ≡ slash → (dot || slash) ≡ true → 33 ≤ b
dark_escaped b true slash is_dot is_slash either = omega (arith, eqb-true b 46 is_dot)
dark_escaped b false true is_dot is_slash either = omega (arith, eqb-true b 92 is_slash)
dark_escaped b false false is_dot is_slash either = absurd cc

dark_byte : (b : ℕ) → AreDark (printed_byte b)
dark_byte b =
    let digits = 92 ∷ (48 + b / 100) ∷ (48 + b / 10 % 10) ∷ (48 + b % 10) ∷ [] in
    cond_both (eqb b 46 || eqb b 92) (92 ∷ b ∷ []) (cond (leb 33 b && leb b 126) (b ∷ []) digits) AreDark
    (λ escaped. dark_all (92 ∷ b ∷ []) (omega arith, (dark_escaped b (eqb b 46) (eqb b 92) refl refl escaped, tt)))
    (λ _. cond_both (leb 33 b && leb b 126) (b ∷ []) digits AreDark
    (λ plain. dark_all (b ∷ []) (leb-true 33 b (and_parts (leb 33 b) (leb b 126) plain).0, tt))
    (λ _. dark_all digits (omega arith, (omega arith, (omega arith, (omega arith, tt))))))

dark_bytes_of : (label : List ℕ) → AllByRecursion (λ b. b < 256) label → AreDark (flat_map printed_byte label)
dark_bytes_of [] fits = All-nil IsDark
dark_bytes_of (b ∷ label) fits = rw (flat_map-cons printed_byte b label) (All-append IsDark (printed_byte b) (flat_map printed_byte label) (dark_byte b) (dark_bytes_of label fits.1))

dark_labels : (labels : List (List ℕ)) → AreBytes labels → AreDark (flat_map printed_label labels)
dark_labels [] fits = All-nil IsDark
dark_labels (label ∷ labels) fits =
    rw (flat_map-cons printed_label label labels)
    (All-append IsDark (printed_label label) (flat_map printed_label labels)
    (All-append IsDark (flat_map printed_byte label) (46 ∷ []) (dark_bytes_of label fits.0) (dark_word (46 ∷ []) refl))
    (dark_labels labels fits.1))

pub dark_name : (name : List (List ℕ)) → FitsName name → AreDark (name_text name)
dark_name [] fits = dark_word (46 ∷ []) refl
dark_name (label ∷ labels) fits = dark_labels (label ∷ labels) fits.1

dark_digit : (truth : Bool) → IsDark (digit truth)
dark_digit true = omega arith
dark_digit false = omega arith

pub dark_flags : (flags : Flags) → AreDark (flags_word flags)
dark_flags flags =
    dark_all (flags_word flags)
    (dark_digit flags.usevc, (dark_digit flags.primary, (dark_digit flags.igntc, (dark_digit flags.norecurse, (dark_digit flags.nosearch, (dark_digit flags.nocheckresp, (dark_digit flags.edns, (dark_digit flags.mix, tt))))))))
