-- The addresses of records, one record behind the other.
use Rattle.std.proofs.Common.{◌≡◌, ℕ, ◌+◌, ◌<◌, List, ◌∷◌, ◌++◌, length, drop, get_or, Bool, true, false, refl, ap, sym, ◌∙◌}
use Rattle.std.specs.Prelude.{option_to_list, if◌then◌else◌}
use Rattle.std.proofs.lemmas.List.{drop_more}
use Rattle.dns_message.specs.declared.message.Record.{Record}
use Rattle.channel_model.specs.Merge.{canonical_name, is_alias, target_of}
use Rattle.dns_message.specs.Numbers.{kind_a, kind_aaaa}
use Rattle.channel_model.specs.Verdict.{is_of_kind}
use Rattle.dns_message.specs.declared.name.Name.{Name}
use Rattle.addr_lookup.specs.Kinds.{addresses_of_kind, address_of_kind}
use Rattle.addr_lookup.specs.declared.records.Kind.{Kind}
use Rattle.addr_lookup.specs.declared.records.Kind.TheVariants.{A, Aaaa}

-- the first record's address stands in front
first_address : (kind : Kind) (rr : Record) (records : List Record) → addresses_of_kind kind (rr ∷ records) ≡ option_to_list (address_of_kind kind rr) ++ addresses_of_kind kind records
first_address A rr records = tested (is_of_kind kind_a rr) refl where
  tested : (test : Bool) → is_of_kind kind_a rr ≡ test → addresses_of_kind A (rr ∷ records) ≡ option_to_list (address_of_kind A rr) ++ addresses_of_kind A records
  tested true e = rw e refl
  tested false e = rw e refl
first_address Aaaa rr records = tested (is_of_kind kind_aaaa rr) refl where
  tested : (test : Bool) → is_of_kind kind_aaaa rr ≡ test → addresses_of_kind Aaaa (rr ∷ records) ≡ option_to_list (address_of_kind Aaaa rr) ++ addresses_of_kind Aaaa records
  tested true e = rw e refl
  tested false e = rw e refl

-- the addresses from a place on
pub addresses_from : (kind : Kind) (records : List Record) (i : ℕ) (rr : Record) → i < length records → rr ≡ get_or records i rr
    → addresses_of_kind kind (drop i records) ≡ option_to_list (address_of_kind kind rr) ++ addresses_of_kind kind (drop (i + 1) records)
addresses_from kind records i rr less is = ap (addresses_of_kind kind) (drop_more records i rr less ∙ ap (λ x. x ∷ drop (i + 1) records) (sym is)) ∙ first_address kind rr (drop (i + 1) records)

-- the name behind the aliases from a place on
pub name_from : (name : Name) (records : List Record) (i : ℕ) (rr : Record) → i < length records → rr ≡ get_or records i rr
    → canonical_name name (drop i records) ≡ canonical_name (if is_alias name rr then target_of rr else name) (drop (i + 1) records)
name_from name records i rr less is = ap (canonical_name name) (drop_more records i rr less ∙ ap (λ x. x ∷ drop (i + 1) records) (sym is))
