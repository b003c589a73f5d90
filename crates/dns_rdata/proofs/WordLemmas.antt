-- Numbers in decimal digits, types and classes are read as they are printed.
use Rattle.std.proofs.Common.{◌≡◌, ◌&&◌, ℕ, zero, suc, ◌+◌, ◌-◌, ◌*◌, ◌/◌, ◌%◌, ◌<◌, ◌≤◌, Bool, true, false, cond, eqb, List, [], ◌∷◌, ◌++◌, length, get_or, Some, None, refl, sym, ap, subst, ◌∙◌, ◌≢◌, arith}
use Rattle.std.specs.Prelude.{decimal, nat_le}
use Rattle.std.specs.Char.{is_ascii_digit}
use Rattle.std.proofs.lemmas.Bool.{eqb-true}
use Rattle.std.proofs.lemmas.Bool.Decides.{nat_tests}
use Rattle.std.proofs.lemmas.Fmt.{decimal_by_steps, decimal_digit, decimal_nonempty, first_decimal}
use Rattle.dns_message.specs.Numbers.{kind_a, kind_ns, kind_cname, kind_soa, kind_ptr, kind_hinfo, kind_mx, kind_txt, kind_aaaa, kind_srv, kind_opt, kind_any, class_in, class_ch, class_any}
use Rattle.dns_rdata.specs.Table.{read_on, number_in, kind_text, class_text, kind_word, class_word}

-- digits are read one behind the other
read_behind : (digits : List ℕ) (from to c : ℕ) → read_on from digits ≡ Some to → read_on from (digits ++ c ∷ []) ≡ read_on to (c ∷ [])
read_behind [] from to c read = let same : from ≡ to = cc in ap (λ (n : ℕ). read_on n (c ∷ [])) same
read_behind (d ∷ digits) from to c read = tested (is_ascii_digit d && nat_le (from * 10 + (d - 48)) 65535) (read_behind digits (from * 10 + (d - 48)) to c) read where
  tested : (test : Bool)
      → (read_on (from * 10 + (d - 48)) digits ≡ Some to → read_on (from * 10 + (d - 48)) (digits ++ c ∷ []) ≡ read_on to (c ∷ []))
      → cond test (read_on (from * 10 + (d - 48)) digits) None ≡ Some to
      → cond test (read_on (from * 10 + (d - 48)) (digits ++ c ∷ [])) None ≡ read_on to (c ∷ [])
  tested true more read = more read
  tested false more read = absurd cc

-- one digit makes the number ten times as large and adds itself
read_one : (from d to : ℕ) → d < 10 → from * 10 + d ≡ to → to < 65536 → read_on from ((48 + d) ∷ []) ≡ Some to
read_one from d to small is few =
    let value : 48 + d - 48 ≡ d = omega arith in
    let digit : is_ascii_digit (48 + d) ≡ true = grind (arith, nat_tests) in
    rw (digit, value, is) (grind (arith, nat_tests))

decimal_read : (n : ℕ) → n < 65536 → read_on 0 (decimal n) ≡ Some n
decimal_read n few = decimal_by_steps
    (λ (n : ℕ) (digits : List ℕ). n < 65536 → read_on 0 digits ≡ Some n)
    (λ (n : ℕ) (small : n < 10) (few : n < 65536). read_one 0 n n small (omega arith) few)
    (λ (n : ℕ) (digits : List ℕ) (large : 10 ≤ n) (read : n / 10 < 65536 → read_on 0 digits ≡ Some (n / 10)) (few : n < 65536).
    read_behind digits 0 (n / 10) (48 + n % 10) (read (omega arith)) ∙ read_one (n / 10) (n % 10) n (omega arith) (omega arith) few)
    n (omega arith) few

-- digits without a zero in front are a number
plain_number : (digits : List ℕ) → 0 < length digits → (get_or digits 0 0 ≡ 48 → length digits ≡ 1) → number_in digits ≡ read_on 0 digits
plain_number [] some front = absurd (omega arith)
plain_number (c ∷ []) some front = refl
plain_number (c ∷ d ∷ digits) some front = tested (eqb c 48) refl where
  tested : (test : Bool) → eqb c 48 ≡ test → cond test None (read_on 0 (c ∷ d ∷ digits)) ≡ read_on 0 (c ∷ d ∷ digits)
  tested true is = let zero_front : c ≡ 48 = eqb-true c 48 is in absurd (omega (arith, front zero_front))
  tested false is = refl

decimal_front : (n : ℕ) → n < 65536 → get_or (decimal n) 0 0 ≡ 48 → length (decimal n) ≡ 1
decimal_front zero few front = ap length (decimal_digit 0 (omega arith))
decimal_front (suc n) few front = absurd (omega (arith, first_decimal (suc n) (omega arith) (omega arith)))

pub number_printed : (n : ℕ) → n < 65536 → number_in (decimal n) ≡ Some n
number_printed n few = plain_number (decimal n) (decimal_nonempty n (omega arith)) (decimal_front n few) ∙ decimal_read n few

-- a fact on a number, where it holds of one number and of all others
pub either : (P : ℕ → Type 0) (k n : ℕ) → P k → (eqb n k ≡ false → P n) → P n
either P k n here others = tested (eqb n k) refl where
  tested : (test : Bool) → eqb n k ≡ test → P n
  tested true is = let same : k ≡ n = sym (eqb-true n k is) in subst P same here
  tested false is = others is

-- a type's word is read as itself
abbrev ReadsKind : ℕ → Type 0
ReadsKind kind = kind < 65536 → kind ≢ kind_opt → kind_word (kind_text kind) ≡ Some kind

abbrev ReadsClass : ℕ → Type 0
ReadsClass class = class < 65536 → class_word (class_text class) ≡ Some class

pub kind_printed : (kind : ℕ) → ReadsKind kind
kind_printed kind =
    either ReadsKind kind_a kind (λ few other. refl) (λ a.
    either ReadsKind kind_ns kind (λ few other. refl) (λ b.
    either ReadsKind kind_cname kind (λ few other. refl) (λ c.
    either ReadsKind kind_soa kind (λ few other. refl) (λ d.
    either ReadsKind kind_ptr kind (λ few other. refl) (λ e.
    either ReadsKind kind_hinfo kind (λ few other. refl) (λ f.
    either ReadsKind kind_mx kind (λ few other. refl) (λ g.
    either ReadsKind kind_txt kind (λ few other. refl) (λ h.
    either ReadsKind kind_aaaa kind (λ few other. refl) (λ i.
    either ReadsKind kind_srv kind (λ few other. refl) (λ j.
    either ReadsKind kind_opt kind (λ few other. absurd (other refl)) (λ k.
    either ReadsKind kind_any kind (λ few other. refl) (λ l.
    λ few other. rw (a, b, c, d, e, f, g, h, i, j, k, l) (number_printed kind few)))))))))))))

pub class_printed : (class : ℕ) → ReadsClass class
class_printed class =
    either ReadsClass class_in class (λ few. refl) (λ a.
    either ReadsClass class_ch class (λ few. refl) (λ b.
    either ReadsClass class_any class (λ few. refl) (λ c.
    λ few. rw (a, b, c) (number_printed class few))))
