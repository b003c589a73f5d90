-- The address of a text is the one that the text spells.
use Rattle.std.proofs.Common.{◌≡◌, ◌≢◌, ℕ, zero, suc, ◌+◌, ◌-◌, ◌*◌, ◌^◌, ◌<◌, ◌≤◌, Bool, List, [], ◌∷◌, ◌++◌, length, replicate, Option, Some, None, option_map, refl, sym, ap, ◌∙◌, subst, inl, inr, arith, lit≤, append-nil, length-append, ne_eqb}
use Rattle.std.proofs.lemmas.Int.Digits.{digits_value-lt}
use Rattle.std.proofs.Math.Nat.{pow-le-pow_right}
use Rattle.std.proofs.lemmas.List.{length-replicate}
use Rattle.std.specs.Option.{option_or}
use Rattle.std.specs.Net.Addr.{segments_of}
use Rattle.std.specs.Net.Grammar.{IsDotted, IsGroup, IsGroupsAfter, IsColonHex}
use Rattle.std.specs.Net.Reader.{Read, read_ipv4, read_ipv6, whole_value}
use Rattle.std.proofs.NetLemmas.Arrays.{eight_items}
use Rattle.std.proofs.NetLemmas.Ipv4.{read_ipv4_complete, read_ipv4_sound}
use Rattle.std.proofs.NetLemmas.Ipv6.{read_ipv6_complete, read_ipv6_sound, EndsGroups-nil, IsDotted-not_colon_hex}
use Rattle.std.proofs.NetLemmas.Texts.{AllSegments}
use Rattle.net_addr.specs.declared.addr.Addr.{Addr}
use Rattle.net_addr.specs.declared.addr.Addr.TheVariants.{V4, V6}
use Rattle.net_addr.specs.Addr.{octets, groups}
use Rattle.net_addr.specs.Reading.{number_of, address_of}
use Rattle.net_addr.specs.Text.{Spells}
use Rattle.net_addr.proofs.AddrLemmas.{same_four, same_eight}
use Rattle.net_addr.proofs.TextLemmas.{spelled_by_octets, dotted_by_spelling}

group_small : (text : List ℕ) (s : ℕ) → IsGroup text s → s < 2 ^ 16
group_small text s h =
    let below = digits_value-lt 16 text h.0.0.1 in
    let most : 16 ^ length text ≤ 16 ^ 4 = pow-le-pow_right (lit≤ tt) h.1 in
    omega (arith, h.0.1)

-- the two groups of an IPv4 address
pair_small : (text octets : List ℕ) → IsDotted text octets → AllSegments (segments_of octets)
pair_small text octets h = rw h.value (λ k. two_small (h.a * 256 + h.b) (h.c * 256 + h.d) (omega (arith, h.fit)) (omega (arith, h.fit)) k)
  where
    two_small : (a b : ℕ) → a < 2 ^ 16 → b < 2 ^ 16 → AllSegments (a ∷ b ∷ [])
    two_small a b fa fb zero = fa
    two_small a b fa fb (suc zero) = fb
    two_small a b fa fb (suc (suc k)) = omega arith

groups_small : (ipv4 : Bool) (lead text segments : List ℕ) → IsGroupsAfter ipv4 lead text segments → AllSegments segments
groups_small ipv4 lead text [] h k = omega arith
groups_small ipv4 lead text (s ∷ segments) (inl h) zero = group_small h.0 s h.3
groups_small ipv4 lead text (s ∷ segments) (inl h) (suc k) = groups_small ipv4 (58 ∷ []) h.1 segments h.4 k
groups_small ipv4 lead text (s ∷ segments) (inr h) k = subst AllSegments (sym h.5) (pair_small h.0 h.1 h.4) k

all_append : (xs ys : List ℕ) → AllSegments xs → AllSegments ys → AllSegments (xs ++ ys)
all_append [] ys h g k = g k
all_append (x ∷ xs) ys h g zero = h 0
all_append (x ∷ xs) ys h g (suc k) = all_append xs ys (λ j. h (suc j)) g k

all_zeros : (n : ℕ) → AllSegments (replicate n 0)
all_zeros zero k = omega arith
all_zeros (suc n) zero = omega arith
all_zeros (suc n) (suc k) = all_zeros n k

-- eight groups of 16 bits
colon_hex_fits : (text segments : List ℕ) → IsColonHex text segments → (length segments ≡ 8) × AllSegments segments
colon_hex_fits text segments (inl h) = (h.1, groups_small _ _ _ _ h.0)
colon_hex_fits text segments (inr e) =
    let gap = 8 - length e.head - length e.tail in
    let front = groups_small _ _ _ _ e.head_groups in
    let back = groups_small _ _ _ _ e.tail_groups in
    rw e.value
    (simp (length-append, length-replicate) (omega (arith, e.room)), all_append _ e.tail (all_append e.head (replicate gap 0) front (all_zeros gap)) back)

octets-number_of : (text o : List ℕ) → IsDotted text o → octets (number_of (2 ^ 8) o) ≡ o
octets-number_of text o h = rw h.value (same_four (omega (arith, h.fit)))

groups-number_of : (s : List ℕ) → length s ≡ 8 → AllSegments s → groups (number_of (2 ^ 16) s) ≡ s
groups-number_of s eight fits =
    let all = eight_items s eight in
    let f0 = fits 0 in
    let f1 = fits 1 in
    let f2 = fits 2 in
    let f3 = fits 3 in
    let f4 = fits 4 in
    let f5 = fits 5 in
    let f6 = fits 6 in
    let f7 = fits 7 in
    ap (λ x. groups (number_of (2 ^ 16) x)) all ∙ same_eight (omega arith) ∙ sym all

number_of-octets : (a : ℕ) → number_of (2 ^ 8) (octets a) ≡ a
number_of-octets a = omega arith

number_of-groups : (a : ℕ) → number_of (2 ^ 16) (groups a) ≡ a
number_of-groups a = omega arith

-- what is read as a whole leaves nothing
whole_some : (r : Read (List ℕ)) (x : List ℕ) → whole_value r ≡ Some x → r ≡ Some (x, [])
whole_some None x e = cc
whole_some (Some p) x e = whole_rest p.0 p.1 x e
  where
    whole_rest : (y rest x : List ℕ) → whole_value (Some (y, rest)) ≡ Some x → ◌≡◌ {A = Read (List ℕ)} (Some (y, rest)) (Some (x, []))
    whole_rest y [] x e = let same : y ≡ x = cc in ap (λ z. Some (z, [])) same
    whole_rest y (c ∷ rest) x e =
        let more : length (c ∷ rest) ≢ 0 = omega arith in
        let none : ◌≡◌ {A = Option (List ℕ)} None (Some x) = rw (ne_eqb _ _ more) at e in
        cc

dotted_from : (text o : List ℕ) → whole_value (read_ipv4 text) ≡ Some o → IsDotted text o
dotted_from text o e =
    let (front, split, dotted) = read_ipv4_sound text o [] (whole_some _ o e) in
    subst (λ t. IsDotted t o) (sym (split ∙ append-nil front)) dotted

colon_hex_from : (text s : List ℕ) → whole_value (read_ipv6 text) ≡ Some s → IsColonHex text s
colon_hex_from text s e =
    let (front, split, hex) = read_ipv6_sound text s [] (whole_some _ s e) in
    subst (λ t. IsColonHex t s) (sym (split ∙ append-nil front)) hex

whole_ipv4 : (text o : List ℕ) → IsDotted text o → whole_value (read_ipv4 text) ≡ Some o
whole_ipv4 text o h = rw (rw (append-nil text) at (read_ipv4_complete text o [] h (lit≤ tt)))

whole_ipv6 : (text s : List ℕ) → IsColonHex text s → whole_value (read_ipv6 text) ≡ Some s
whole_ipv6 text s h = rw (rw (append-nil text) at (read_ipv6_complete text s [] h EndsGroups-nil))

-- a text of an IPv6 address is none of an IPv4 address
no_ipv4 : (text s : List ℕ) → IsColonHex text s → (w : Option (List ℕ)) → whole_value (read_ipv4 text) ≡ w → w ≡ None
no_ipv4 text s h None e = refl
no_ipv4 text s h (Some o) e = absurd (IsDotted-not_colon_hex text o s (dotted_from text o e) h)

pub address_by_spelling : (text : List ℕ) (a : Addr) → Spells text a → address_of text ≡ Some a
unfolding address_of
address_by_spelling text (V4 a) h =
    rw (whole_ipv4 text (octets a) (dotted_by_spelling text a h)) (ap (λ n. Some (V4 n)) (number_of-octets a))
address_by_spelling text (V6 a) h =
    rw (no_ipv4 text (groups a) h _ refl, whole_ipv6 text (groups a) h) (ap (λ n. Some (V6 n)) (number_of-groups a))

spelled_dotted : (text o : List ℕ) → IsDotted text o → Spells text (V4 (number_of (2 ^ 8) o))
spelled_dotted text o h = spelled_by_octets text _ (subst (IsDotted text) (sym (octets-number_of text o h)) h)

spelled_colon_hex : (text s : List ℕ) → IsColonHex text s → Spells text (V6 (number_of (2 ^ 16) s))
spelled_colon_hex text s h =
    let (eight, fits) = colon_hex_fits text s h in
    subst (IsColonHex text) (sym (groups-number_of s eight fits)) h

pub spelled_by_address : (text : List ℕ) (a : Addr) → address_of text ≡ Some a → Spells text a
unfolding address_of
spelled_by_address text a h = by_ipv4 (whole_value (read_ipv4 text)) (whole_value (read_ipv6 text)) refl refl h
  where
    by_ipv4 : (v w : Option (List ℕ)) → whole_value (read_ipv4 text) ≡ v → whole_value (read_ipv6 text) ≡ w
        → option_or (option_map (λ o. V4 (number_of (2 ^ 8) o)) v) (option_map (λ s. V6 (number_of (2 ^ 16) s)) w) ≡ Some a → Spells text a
    by_ipv4 (Some o) w e f h =
        let is : V4 (number_of (2 ^ 8) o) ≡ a = cc in
        subst (Spells text) is (spelled_dotted text o (dotted_from text o e))
    by_ipv4 None (Some s) e f h =
        let is : V6 (number_of (2 ^ 16) s) ≡ a = cc in
        subst (Spells text) is (spelled_colon_hex text s (colon_hex_from text s f))
    by_ipv4 None None e f h = absurd (let no : ⊥ = cc in no)

-- no address is that of a text that spells none
pub no_address : (text : List ℕ) → ((a : Addr) → ¬ (Spells text a)) → address_of text ≡ None
no_address text none = by_answer (address_of text) refl
  where
    by_answer : (o : Option Addr) → address_of text ≡ o → address_of text ≡ None
    by_answer None e = e
    by_answer (Some a) e = absurd (none a (spelled_by_address text a e))
