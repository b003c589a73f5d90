-- What records that are well formed say.
use Rattle.std.proofs.Common.{◌≡◌, ℕ, List, [], ◌∷◌, ◌++◌, length, Some, None, Ok, true, sym, ap, subst, ◌∙◌, arith}
use Rattle.std.specs.Prelude.{option_map, ◌==◌}
use Rattle.std.specs.Option.{option_and_then}
use Rattle.std.specs.List.{flat_map, AllByRecursion}
use Rattle.std.proofs.lemmas.Bool.{and_parts}
use Rattle.std.proofs.lemmas.Bool.Decides.{nat_tests}
use Rattle.std.proofs.lemmas.List.{append-nil}
use Rattle.byteorder.specs.Endian.{big_from}
use Rattle.dns_message.proofs.Theorems.{stands_from, name_is_read, name_written}
use Rattle.dns_message.specs.Name.{IsName, wire_length}
use Rattle.dns_message.specs.Reading.{name_of}
use Rattle.dns_message.specs.Shapes.{shape_by}
use Rattle.dns_message.specs.Spelling.{name_bytes}
use Rattle.dns_message.specs.Validity.{HasShape, HoldsNames, IsWellFormed}
use Rattle.dns_message.specs.declared.message.Record.{Record}
use Rattle.dns_rdata.proofs.Theorems.{name_spelled}
use Rattle.dns_rdata.specs.Parts.{whole_name, name_in, alone}
use Rattle.dns_rdata.specs.Rdata.{data_of, data_in}
use Rattle.dns_rdata.specs.declared.data.RecordData.TheVariants.{Cname}
use Rattle.dns_rdata.specs.declared.data.RecordData.{RecordData}
use Rattle.net_addr.specs.declared.addr.Addr.TheVariants.{V6}
use Rattle.channel_model.specs.Merge.{target_of, labels_read}
use Rattle.dns_message.specs.Numbers.{kind_aaaa, class_in}
use Rattle.channel_model.specs.Verdict.{is_of_kind}
use Rattle.addr_lookup.proofs.NumberLemmas.{number_is}
use Rattle.addr_lookup.specs.Kinds.{address_of_kind}
use Rattle.addr_lookup.specs.declared.records.Kind.{Kind}
use Rattle.addr_lookup.specs.declared.records.Kind.TheVariants.{Aaaa}

-- the shape by kind and class, where these are known
shaped : (rr : Record) (kind class : ℕ) → rr.kind ≡ kind → rr.class ≡ class → IsWellFormed rr → HasShape (shape_by kind class) rr.rdata
shaped rr kind class k c formed = subst (λ (n : ℕ). HasShape (shape_by kind n) rr.rdata) c (subst (λ (n : ℕ). HasShape (shape_by n rr.class) rr.rdata) k formed)

-- an IPv4 address has four bytes
pub four_bytes : (rr : Record) → rr.kind ≡ 1 → rr.class ≡ 1 → IsWellFormed rr → length rr.rdata ≡ 4
four_bytes rr k c formed = shaped rr 1 1 k c formed

-- an IPv6 address has sixteen bytes
pub sixteen_bytes : (rr : Record) → rr.kind ≡ 28 → rr.class ≡ 1 → IsWellFormed rr → length rr.rdata ≡ 16
sixteen_bytes rr k c formed = shaped rr 28 1 k c formed

-- the bytes of a name read as the name
plain_name : (labels : List (List ℕ)) → IsName labels → name_of (name_bytes labels) 0 ≡ Ok (labels, wire_length labels)
plain_name labels name =
    name_is_read (name_bytes labels) 0 labels (wire_length labels)
    (name_written (name_bytes labels) 0 labels (wire_length labels) name (omega arith) (stands_from (name_bytes labels) 0 (name_bytes labels) [] (sym (append-nil (name_bytes labels)))))

whole_plain : (labels : List (List ℕ)) → IsName labels → whole_name (name_bytes labels) ≡ Some labels
whole_plain labels name =
    let read : name_in (name_bytes labels) ≡ Some (labels, []) = subst (λ (bytes : List ℕ). name_in bytes ≡ Some (labels, [])) (append-nil (name_bytes labels)) (name_spelled labels [] name) in
    ap (option_and_then alone) read

-- rdata that is a name
only_name : (rdata : List ℕ) (holds : HoldsNames (record { front = 0; names = 1; back = 0 }) rdata) → (labels : List (List ℕ)) × IsName labels × (rdata ≡ name_bytes labels)
only_name rdata holds = one holds.front holds.names holds.back holds.before holds.count holds.each holds.behind holds.parts where
  one : (front : List ℕ) (names : List (List (List ℕ))) (back : List ℕ) → length front ≡ 0 → length names ≡ 1 → AllByRecursion IsName names → length back ≡ 0 → rdata ≡ front ++ flat_map name_bytes names ++ back
      → (labels : List (List ℕ)) × IsName labels × (rdata ≡ name_bytes labels)
  one [] (labels ∷ []) [] before count each behind parts = (labels, each.0, parts ∙ append-nil _ ∙ append-nil (name_bytes labels))
  one (b ∷ front) names back before count each behind parts = absurd (omega (arith, before))
  one [] [] back before count each behind parts = absurd (omega (arith, count))
  one [] (labels ∷ more ∷ names) back before count each behind parts = absurd (omega (arith, count))
  one [] (labels ∷ []) (b ∷ back) before count each behind parts = absurd (omega (arith, behind))

-- an alias has a typed form: the name that it stands for
pub alias_says : (rr : Record) → rr.kind ≡ 5 → IsWellFormed rr → data_of rr ≡ Some (Cname (target_of rr))
unfolding data_of
alias_says rr k formed =
    let shape : HoldsNames (record { front = 0; names = 1; back = 0 }) rr.rdata = subst (λ (n : ℕ). HasShape (shape_by n rr.class) rr.rdata) k formed in
    let only = only_name rr.rdata shape in
    let by_kind = ap (λ (n : ℕ). data_in n rr.class rr.rdata) k in
    let typed : option_map Cname (whole_name rr.rdata) ≡ Some (Cname only.0) = ap (λ (bytes : List ℕ). option_map Cname (whole_name bytes)) only.2 ∙ ap (option_map Cname) (whole_plain only.0 only.1) in
    let read : name_of rr.rdata 0 ≡ Ok (only.0, wire_length only.0) = ap (λ (bytes : List ℕ). name_of bytes 0) only.2 ∙ plain_name only.0 only.1 in
    by_kind ∙ typed ∙ sym (ap (λ r. Some (Cname (labels_read r))) read)

-- so what is read of an alias is that name
pub alias_is : (rr : Record) (typed : RecordData) → rr.kind ≡ 5 → IsWellFormed rr → data_of rr ≡ Some typed → typed ≡ Cname (target_of rr)
alias_is rr typed k formed read = let says = alias_says rr k formed in cc

-- and it is read
pub alias_reads : (rr : Record) → rr.kind ≡ 5 → IsWellFormed rr → data_of rr ≡ None → ⊥
alias_reads rr k formed none = let says = alias_says rr k formed in absurd cc

-- an IPv6 address is that of a record of its kind
pub sixteen_say : (kind : Kind) (rr : Record) (n : ℕ) (bytes : List ℕ) → kind ≡ Aaaa → is_of_kind kind_aaaa rr ≡ true → IsWellFormed rr → bytes ≡ rr.rdata → n ≡ big_from 0 16 bytes
    → Some (V6 n) ≡ address_of_kind kind rr
sixteen_say kind rr n bytes k is formed same number =
    let parts = and_parts (rr.kind == kind_aaaa) (rr.class == class_in) is in
    let kind_is : rr.kind ≡ 28 = grind (arith, nat_tests) in
    let class_is : rr.class ≡ 1 = grind (arith, nat_tests) in
    let length_is = sixteen_bytes rr kind_is class_is formed in
    rw (k, is) (ap (λ m. Some (V6 m)) (number ∙ ap (big_from 0 16) same ∙ sym (number_is rr.rdata 16 length_is)))
