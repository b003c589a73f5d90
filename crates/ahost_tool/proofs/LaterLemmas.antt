-- Servers that the words set later are 1 to 8.
use Rattle.std.proofs.Common.{◌≡◌, ℕ, ◌≤◌, ◌==◌, Bool, true, false, cond, nat_le, List, [], ◌∷◌, Option, Some, None, IfSome, length, option_map, option_and_then, refl, ap, sym, subst, arith, leb-true, codes}
use Rattle.std.specs.Prelude.{unwrap_or}
use Rattle.std.proofs.lemmas.List.Splits.{length-slice_split}
use Rattle.net_addr.specs.declared.addr.Addr.{Addr}
use Rattle.net_addr.specs.declared.addr.ServerAddr.{ServerAddr}
use Rattle.tool_line.specs.Ahost.{AhostAsks, later_for, later_in}
use Rattle.tool_line.specs.Lookup.{Lookup, is_used, lookup, read_if, value_under}
use Rattle.tool_line.specs.Settings.{servers_at}
use Rattle.net_addr.specs.Reading.{address_of}
use Rattle.tool_line.specs.Values.{addresses_in, addresses_of, number_in, parts_of}
use Rattle.tool_line.specs.Words.{Text}
use Rattle.tool_line.specs.declared.ahost.AhostAsk.{AhostAsk}

-- these are 1 to 8
abbrev pub AreFew : {A : Type 0} → List A → Type 0
AreFew items = (1 ≤ length items) × (length items ≤ 8)

-- as many addresses as texts
as_many : (texts : List Text) (addresses : List Addr) → addresses_of texts ≡ Some addresses → length addresses ≡ length texts
as_many [] addresses is = ap length (let h : Some addresses ≡ Some [] = sym is in let same : addresses ≡ [] = cc in same)
as_many (text ∷ texts) addresses is = by (address_of text) (addresses_of texts) (λ rest same. as_many texts rest same) is
  where
    by : (found : Option Addr) (others : Option (List Addr)) → ((rest : List Addr) → others ≡ Some rest → length rest ≡ length texts) →
        option_and_then (λ address. option_map (λ rest. address ∷ rest) others) found ≡ Some addresses → length addresses ≡ length (text ∷ texts)
    by None others step is = absurd (cc is)
    by (Some a) None step is = absurd (cc is)
    by (Some a) (Some rest) step is =
        let all : a ∷ rest ≡ addresses = let h : Some (a ∷ rest) ≡ Some addresses = is in cc in
        omega (arith, ap length all, step rest refl)

-- as many servers as addresses
mapped : (port : ℕ) (addresses : List Addr) → length (servers_at port addresses) ≡ length addresses
mapped port [] = refl
mapped port (a ∷ addresses) = omega (arith, mapped port addresses)

-- the addresses of a value are 1 to 8
few_in : (word : Text) (addresses : List Addr) → addresses_in word ≡ Some addresses → AreFew addresses
few_in word addresses is = by (nat_le (length (parts_of word)) 8) refl is
  where
    by : (b : Bool) → nat_le (length (parts_of word)) 8 ≡ b → cond b (addresses_of (parts_of word)) None ≡ Some addresses → AreFew addresses
    by true few is =
        let many = as_many (parts_of word) addresses is in
        (omega (arith, many, length-slice_split (λ byte. byte == 44) word), omega (arith, many, leb-true (length (parts_of word)) 8 few))
    by false few is = absurd (cc is)

-- so are servers that the words set later
few_for : (loads : Bool) (port : Option ℕ) (value : Option Text) (later : Option (List ServerAddr)) → option_and_then (λ addresses. later_for loads port addresses) (read_if addresses_in value) ≡ Some later → IfSome later AreFew
few_for loads port None None is = tt
few_for loads port None (Some servers) is = absurd (cc is)
few_for loads port (Some word) later is = by (addresses_in word) refl is
  where
    of_some : (b : Bool) (addresses : List Addr) → AreFew addresses → later_for b port (Some addresses) ≡ Some later → IfSome later AreFew
    of_some true addresses few is = absurd (cc is)
    of_some false addresses few is =
        let same : Some (servers_at (unwrap_or port 53) addresses) ≡ later = let h : Some (Some (servers_at (unwrap_or port 53) addresses)) ≡ Some later = is in cc in
        let many : length (servers_at (unwrap_or port 53) addresses) ≡ length addresses = mapped (unwrap_or port 53) addresses in
        subst (λ l. IfSome l AreFew) same (omega (arith, few.0, many), omega (arith, few.1, many))

    by : (found : Option (List Addr)) → addresses_in word ≡ found → option_and_then (λ addresses. later_for loads port addresses) (option_map Some found) ≡ Some later → IfSome later AreFew
    by None same is = absurd (cc is)
    by (Some addresses) same is = of_some loads addresses (few_in word addresses same) is

later_few : (under : Lookup) (later : Option (List ServerAddr)) → later_in under ≡ Some later → IfSome later AreFew
later_few under later is = by (read_if (number_in 1 65535) (value_under under (codes "port"))) is
  where
    by : (port : Option (Option ℕ)) → option_and_then (λ p. option_and_then (λ addresses. later_for (is_used under (codes "load")) p addresses) (read_if addresses_in (value_under under (codes "then")))) port ≡ Some later → IfSome later AreFew
    by None is = absurd (cc is)
    by (Some port) is = few_for (is_used under (codes "load")) port (value_under under (codes "then")) later is

pub asked_few : (words : List Text) (ask : AhostAsk) → AhostAsks words ask → IfSome ask.later AreFew
asked_few words ask asks = later_few (lookup asks.uses) ask.later asks.say.later
