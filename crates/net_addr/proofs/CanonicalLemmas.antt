-- The printed text is canonical: std's longest run of zeros is the first longest one.
use Rattle.std.proofs.Common.{◌≡◌, ◌==◌, ℕ, ◌/◌, ◌%◌, ◌^◌, Bool, true, false, cond, List, [], ◌∷◌, ◌++◌, take, drop, codes, bytes_eq, MatchBool, refl, ap, arith}
use Rattle.std.proofs.lemmas.Bool.Decides.{same_from_decides, Decides-eqb}
use Rattle.std.proofs.lemmas.Slice.Eq.{bytes_eq-Decides}
use Rattle.std.specs.Net.Addr.{octets_of}
use Rattle.std.specs.Net.Text.{ipv4_text, longest_zero_run, hex_groups_text, ipv6_text}
use Rattle.std.proofs.NetLemmas.Texts.{IsZeroRun-longest_zero_run, longest_zero_run_first}
use Rattle.net_addr.specs.declared.addr.Addr.{Addr}
use Rattle.net_addr.specs.declared.addr.Addr.TheVariants.{V4, V6}
use Rattle.net_addr.specs.Canonical.{IsFirstLongest, IsShortened, IsCanonical}
use Rattle.net_addr.specs.Addr.{octets, groups}
use Rattle.net_addr.proofs.AddrLemmas.{same_four}
use Rattle.net_addr.specs.Text.{text_of}

first_longest : (all : List ℕ) → IsFirstLongest all (longest_zero_run all).0 (longest_zero_run all).1
first_longest all =
    let most = longest_zero_run_first all in
    let (within, zeros) = IsZeroRun-longest_zero_run all in
    record {
      run = record { within = within; zeros = zeros };
      longest = λ s l run. (most s l (run.within, run.zeros)).0;
      first = λ s run. (most s _ (run.within, run.zeros)).1 refl;
    }

matched : {X : Type 0} (b : Bool) (x y : X) → MatchBool b (cond b x y ≡ x) (cond b x y ≡ y)
matched true x y = refl
matched false x y = refl

shortened : (all : List ℕ) → IsShortened (hex_groups_text all) all
unfolding hex_groups_text
shortened all = record { start = _; len = _; run = first_longest all; spelled = matched _ _ _ }

-- the first six groups say whether the address is mapped
mapped_groups : (a : ℕ) → (take 6 (groups a) ≡ 0 ∷ 0 ∷ 0 ∷ 0 ∷ 0 ∷ 0xffff ∷ []) → a / 2 ^ 32 ≡ 0xffff
mapped_groups a e =
    let zeros : (a / 2 ^ 112 ≡ 0) × (a / 2 ^ 96 % 2 ^ 16 ≡ 0) × (a / 2 ^ 80 % 2 ^ 16 ≡ 0) × (a / 2 ^ 64 % 2 ^ 16 ≡ 0) × (a / 2 ^ 48 % 2 ^ 16 ≡ 0) = (cc, cc, cc, cc, cc) in
    let ones : a / 2 ^ 32 % 2 ^ 16 ≡ 0xffff = cc in
    omega arith

groups_mapped : (a : ℕ) → a / 2 ^ 32 ≡ 0xffff → take 6 (groups a) ≡ 0 ∷ 0 ∷ 0 ∷ 0 ∷ 0 ∷ 0xffff ∷ []
groups_mapped a e =
    let zeros : (a / 2 ^ 112 ≡ 0) × (a / 2 ^ 96 % 2 ^ 16 ≡ 0) × (a / 2 ^ 80 % 2 ^ 16 ≡ 0) × (a / 2 ^ 64 % 2 ^ 16 ≡ 0) × (a / 2 ^ 48 % 2 ^ 16 ≡ 0) × (a / 2 ^ 32 % 2 ^ 16 ≡ 0xffff) = omega arith in
    cc

mapped_test : (a : ℕ) → bytes_eq (take 6 (groups a)) (0 ∷ 0 ∷ 0 ∷ 0 ∷ 0 ∷ 0xffff ∷ []) ≡ (a / 2 ^ 32 == 0xffff)
mapped_test a =
    let by_groups = bytes_eq-Decides (take 6 (groups a)) (0 ∷ 0 ∷ 0 ∷ 0 ∷ 0 ∷ 0xffff ∷ []) in
    let by_number = Decides-eqb (a / 2 ^ 32) 0xffff in
    same_from_decides _ _ by_groups (λ t. groups_mapped a (by_number.0 t), λ e. by_number.1 (mapped_groups a e))

last_octets : (a : ℕ) → octets_of (drop 6 (groups a)) ≡ octets (a % 2 ^ 32)
last_octets a = same_four (omega arith)

-- what holds of each text holds of the chosen one
by_test : (b : Bool) (x y : List ℕ) (P Q : List ℕ → Type 0) → P x → Q y → MatchBool b (P (cond b x y)) (Q (cond b x y))
by_test true x y P Q p q = p
by_test false x y P Q p q = q

pub canonical : (a : Addr) → IsCanonical (text_of a) a
unfolding ipv6_text
canonical (V4 a) = refl
canonical (V6 a) =
    let dotted = ap (λ o. codes "::ffff:" ++ ipv4_text o) (last_octets a) in
    rw (mapped_test a)
    (by_test (a / 2 ^ 32 == 0xffff) _ _ (λ t. t ≡ codes "::ffff:" ++ ipv4_text (octets (a % 2 ^ 32)))
    (λ t. IsShortened t (groups a)) dotted (shortened (groups a)))
