-- Rdata has a typed form exactly where it has the shape of its type and class, and that form spells it.
use Rattle.std.proofs.Common.{◌≡◌, ℕ, ◌≤◌, Bool, true, false, cond, eqb, ltb, List, [], ◌∷◌, ◌++◌, length, take, drop, Option, Some, None, refl, sym, ap, subst, ◌∙◌, append_assoc, append-nil, arith}
use Rattle.std.specs.Prelude.{◌≢◌, ⊤, option_map, flat_map, Result, Ok, Err, IfOk, IfErr}
use Rattle.std.specs.Option.{option_and_then}
use Rattle.std.specs.List.{AllByRecursion}
use Rattle.std.proofs.lemmas.Bool.{eqb-true, eq-eqb}
use Rattle.std.proofs.lemmas.Bool.Decides.{nat_tests}
use Rattle.std.proofs.lemmas.List.{length-append, length-take-le, take-append-drop, drop_all, drop_at}
use Rattle.std.proofs.lemmas.Option.{same_Some}
use Rattle.byteorder.specs.Endian.{big_from, big_bytes}
use Rattle.dns_message.specs.Name.{IsName}
use Rattle.dns_message.specs.Numbers.{kind_a, kind_ns, kind_cname, kind_soa, kind_ptr, kind_hinfo, kind_mx, kind_txt, kind_aaaa, kind_srv, kind_opt, class_in}
use Rattle.dns_message.specs.Shapes.{shape_by, names_shape}
use Rattle.dns_message.specs.Spelling.{label_bytes, name_bytes}
use Rattle.dns_message.specs.Validity.{HasShape, HoldsStrings, IsWellFormed, well_formed, IsWritable, IsValid}
use Rattle.dns_message.specs.declared.message.Message.{Message}
use Rattle.dns_message.specs.declared.message.Record.{Record}
use Rattle.net_addr.specs.declared.addr.Addr.TheVariants.{V4, V6}
use Rattle.dns_rdata.specs.declared.data.RecordData.{RecordData}
use Rattle.dns_rdata.specs.declared.data.RecordData.TheVariants.{A, Ns, Cname, Soa, Ptr, Hinfo, Mx, Txt, Aaaa, Srv, Opt, Raw}
use Rattle.dns_message.proofs.Theorems.{well_formed_says}
use Rattle.dns_rdata.specs.declared.fault.RdataFault.{RdataFault}
use Rattle.dns_rdata.specs.declared.fault.RdataFault.TheVariants.{BadRdata, NoMemory}
use Rattle.dns_rdata.specs.Parts.{Gives, name_in, strings_in, whole_name, alone}
use Rattle.dns_rdata.specs.Rdata.{v4_in, v6_in, soa_of, soa_in, hinfo_of, hinfo_in, mx_in, srv_in, data_in, data_of, IsTyped, AreTyped}
use Rattle.dns_rdata.specs.Spelling.{data_bytes}
use Rattle.dns_rdata.proofs.NumberLemmas.{AreBytes, number_spelled, number_front, behind_bytes}
use Rattle.dns_rdata.proofs.SpellingLemmas.{name_spelled, name_is, strings_spelled, strings_are}
use Rattle.dns_rdata.proofs.WordLemmas.{either}

-- what a value is that was mapped
mapped : {A B : Type 0} (f : A → B) (o : Option A) (y : B) → option_map f o ≡ Some y → (x : A) × (o ≡ Some x) × (f x ≡ y)
mapped f None y e = absurd cc
mapped f (Some x) y e = (x, refl, same_Some (f x) y e)

-- what a value is that was taken on
chained : {A B : Type 0} (f : A → Option B) (o : Option A) (y : B) → option_and_then f o ≡ Some y → (x : A) × (o ≡ Some x) × (f x ≡ Some y)
chained f None y e = absurd cc
chained f (Some x) y e = (x, refl, e)

-- what a test let through
passed : {A : Type 0} (test : Bool) (o : Option A) (y : A) → cond test o None ≡ Some y → (test ≡ true) × (o ≡ Some y)
passed true o y e = (refl, e)
passed false o y e = absurd cc

-- what a test didn't refuse
kept : {A : Type 0} (test : Bool) (o : Option A) (y : A) → cond test None o ≡ Some y → (test ≡ false) × (o ≡ Some y)
kept true o y e = absurd cc
kept false o y e = (refl, e)

-- ---- what is told of bytes that have a typed form

-- they have their shape, and the form spells them
record IsTold (Shaped : Type 0) (bytes : List ℕ) (typed : RecordData) : Type 0 where
  shaped : Shaped
  spelled : AreBytes bytes → bytes ≡ data_bytes typed

-- rdata of a type that has no form of its own is any bytes
raw_told : (bytes : List ℕ) (typed : RecordData) → Some (Raw bytes) ≡ Some typed → IsTold ⊤ bytes typed
raw_told bytes typed read =
    let same : Raw bytes ≡ typed = same_Some (Raw bytes) typed read in
    record { shaped = tt; spelled = λ are. ap data_bytes same }

-- options are any bytes
opt_told : (bytes : List ℕ) (typed : RecordData) → Some (Opt bytes) ≡ Some typed → IsTold ⊤ bytes typed
opt_told bytes typed read =
    let same : Opt bytes ≡ typed = same_Some (Opt bytes) typed read in
    record { shaped = tt; spelled = λ are. ap data_bytes same }

-- an IPv4 address is four bytes
v4_told : (bytes : List ℕ) (typed : RecordData) → option_map A (v4_in bytes) ≡ Some typed → IsTold (length bytes ≡ 4) bytes typed
v4_told bytes typed read =
    let (address, made, is) = mapped A (v4_in bytes) typed read in
    let (test, some) = passed (eqb (length bytes) 4) (Some (V4 (big_from 0 4 bytes))) address made in
    let long : length bytes ≡ 4 = eqb-true (length bytes) 4 test in
    let number : V4 (big_from 0 4 bytes) ≡ address = same_Some (V4 (big_from 0 4 bytes)) address some in
    record { shaped = long; spelled = λ are. number_spelled 4 bytes long are ∙ ap (λ address. data_bytes (A address)) number ∙ ap data_bytes is }

-- an IPv6 address is sixteen bytes
v6_told : (bytes : List ℕ) (typed : RecordData) → option_map Aaaa (v6_in bytes) ≡ Some typed → IsTold (length bytes ≡ 16) bytes typed
v6_told bytes typed read =
    let (address, made, is) = mapped Aaaa (v6_in bytes) typed read in
    let (test, some) = passed (eqb (length bytes) 16) (Some (V6 (big_from 0 16 bytes))) address made in
    let long : length bytes ≡ 16 = eqb-true (length bytes) 16 test in
    let number : V6 (big_from 0 16 bytes) ≡ address = same_Some (V6 (big_from 0 16 bytes)) address some in
    record { shaped = long; spelled = λ are. number_spelled 16 bytes long are ∙ ap (λ address. data_bytes (Aaaa address)) number ∙ ap data_bytes is }

-- ---- names

-- bytes that are read as a name alone
whole_is : (bytes : List ℕ) (labels : List (List ℕ)) → whole_name bytes ≡ Some labels → IsName labels × (bytes ≡ name_bytes labels)
whole_is bytes labels read =
    let (found, first, rest) = chained alone (name_in bytes) labels read in
    by_rest found.0 found.1 first rest where
      by_rest : (name : List (List ℕ)) (rest : List ℕ) → name_in bytes ≡ Some (name, rest) → alone (name, rest) ≡ Some labels → IsName labels × (bytes ≡ name_bytes labels)
      by_rest name (b ∷ rest) first read = absurd cc
      by_rest name [] first read =
          let same : name ≡ labels = same_Some name labels read in
          let (is, spelled) = name_is bytes name [] first in
          (subst IsName same is, spelled ∙ append-nil (name_bytes name) ∙ ap name_bytes same)

-- a name alone is read
whole_reads : (labels : List (List ℕ)) → IsName labels → whole_name (name_bytes labels) ≡ Some labels
whole_reads labels name =
    let read : name_in (name_bytes labels) ≡ Some (labels, []) = ap name_in (sym (append-nil (name_bytes labels))) ∙ name_spelled labels [] name in
    ap (option_and_then alone) read

-- so many bytes and a name
one_name : (n : ℕ) (bytes : List ℕ) (labels : List (List ℕ)) → n ≤ length bytes → IsName labels → drop n bytes ≡ name_bytes labels → HasShape (names_shape n 1 0) bytes
one_name n bytes labels fits name is = record {
  front = take n bytes;
  names = labels ∷ [];
  back = [];
  before = length-take-le n bytes fits;
  count = refl;
  each = (name, tt);
  behind = refl;
  parts = sym (take-append-drop n bytes) ∙ ap (λ rest. take n bytes ++ rest) (is ∙ sym (append-nil (name_bytes labels))) ∙ sym (append-nil (take n bytes ++ (name_bytes labels ++ [])));
}

-- the name behind so many bytes
name_held : (n : ℕ) (bytes : List ℕ) → HasShape (names_shape n 1 0) bytes → (labels : List (List ℕ)) × (n ≤ length bytes) × IsName labels × (drop n bytes ≡ name_bytes labels)
name_held n bytes holds = by_parts holds.front holds.names holds.back holds.before holds.count holds.each holds.behind holds.parts where
  by_parts : (front : List ℕ) (names : List (List (List ℕ))) (back : List ℕ) → length front ≡ n → length names ≡ 1 → AllByRecursion IsName names → length back ≡ 0
      → bytes ≡ front ++ flat_map name_bytes names ++ back → (labels : List (List ℕ)) × (n ≤ length bytes) × IsName labels × (drop n bytes ≡ name_bytes labels)
  by_parts front [] back before count each behind parts = absurd (omega arith)
  by_parts front (labels ∷ more ∷ names) back before count each behind parts = absurd (omega arith)
  by_parts front (labels ∷ []) (b ∷ back) before count each behind parts = absurd (omega arith)
  by_parts front (labels ∷ []) [] before count each behind parts =
      let whole : bytes ≡ front ++ name_bytes labels = parts ∙ append-nil (front ++ (name_bytes labels ++ [])) ∙ ap (λ rest. front ++ rest) (append-nil (name_bytes labels)) in
      (labels, omega (arith, ap length whole, length-append front (name_bytes labels)), each.0, ap (drop n) whole ∙ drop_at front (name_bytes labels) n before)

-- a type whose rdata is a name alone
alone_told : (said : List (List ℕ) → RecordData) (bytes : List ℕ) (typed : RecordData) → ((labels : List (List ℕ)) → name_bytes labels ≡ data_bytes (said labels))
    → option_map said (whole_name bytes) ≡ Some typed → IsTold (HasShape (names_shape 0 1 0) bytes) bytes typed
alone_told said bytes typed spells read =
    let (labels, made, is) = mapped said (whole_name bytes) typed read in
    let (name, spelled) = whole_is bytes labels made in
    record { shaped = one_name 0 bytes labels (omega arith) name spelled; spelled = λ are. spelled ∙ spells labels ∙ ap data_bytes is }

-- and it is read
alone_reads : (said : List (List ℕ) → RecordData) (bytes : List ℕ) → HasShape (names_shape 0 1 0) bytes → (typed : RecordData) × (option_map said (whole_name bytes) ≡ Some typed)
alone_reads said bytes holds =
    let (labels, fits, name, spelled) = name_held 0 bytes holds in
    (said labels, ap (λ bytes. option_map said (whole_name bytes)) spelled ∙ ap (option_map said) (whole_reads labels name))

-- a type whose rdata is so many bytes and a name
behind_reads : (n : ℕ) (said : List (List ℕ) → RecordData) (bytes : List ℕ) → HasShape (names_shape n 1 0) bytes
    → (typed : RecordData) × (cond (ltb (length bytes) n) None (option_map said (whole_name (drop n bytes))) ≡ Some typed)
behind_reads n said bytes holds =
    let (labels, fits, name, spelled) = name_held n bytes holds in
    let long : ltb (length bytes) n ≡ false = grind (arith, nat_tests, fits) in
    (said labels, rw (long, spelled) (ap (option_map said) (whole_reads labels name)))

-- a number of 16 bits and a name
mx_told : (bytes : List ℕ) (typed : RecordData) → mx_in bytes ≡ Some typed → IsTold (HasShape (names_shape 2 1 0) bytes) bytes typed
mx_told bytes typed read =
    let (test, some) = kept (ltb (length bytes) 2) (option_map (Mx (big_from 0 2 bytes)) (whole_name (drop 2 bytes))) typed read in
    let fits : 2 ≤ length bytes = grind (arith, nat_tests, test) in
    let (labels, made, is) = mapped (Mx (big_from 0 2 bytes)) (whole_name (drop 2 bytes)) typed some in
    let (name, spelled) = whole_is (drop 2 bytes) labels made in
    record {
      shaped = one_name 2 bytes labels fits name spelled;
      spelled = λ are. number_front 2 0 2 bytes refl fits are ∙ ap (λ rest. big_bytes 2 (big_from 0 2 bytes) ++ rest) spelled ∙ ap data_bytes is;
    }

-- three numbers of 16 bits and a name
srv_told : (bytes : List ℕ) (typed : RecordData) → srv_in bytes ≡ Some typed → IsTold (HasShape (names_shape 6 1 0) bytes) bytes typed
srv_told bytes typed read =
    let said = Srv (big_from 0 2 bytes) (big_from 2 2 bytes) (big_from 4 2 bytes) in
    let (test, some) = kept (ltb (length bytes) 6) (option_map said (whole_name (drop 6 bytes))) typed read in
    let fits : 6 ≤ length bytes = grind (arith, nat_tests, test) in
    let (labels, made, is) = mapped said (whole_name (drop 6 bytes)) typed some in
    let (name, spelled) = whole_is (drop 6 bytes) labels made in
    record {
      shaped = one_name 6 bytes labels fits name spelled;
      spelled = λ are.
          let a = big_bytes 2 (big_from 0 2 bytes) in
          let b = big_bytes 2 (big_from 2 2 bytes) in
          let c = big_bytes 2 (big_from 4 2 bytes) in
          let first = number_front 2 0 2 bytes refl (omega arith) are in
          let second = number_front 2 2 4 bytes refl (omega arith) are in
          let third = number_front 2 4 6 bytes refl fits are in
          let whole : bytes ≡ a ++ (b ++ (c ++ name_bytes labels)) = first ∙ ap (λ rest. a ++ rest) (second ∙ ap (λ rest. b ++ rest) (third ∙ ap (λ rest. c ++ rest) spelled)) in
          let flat : a ++ (b ++ (c ++ name_bytes labels)) ≡ data_bytes (said labels) = simp append_assoc in
          whole ∙ flat ∙ ap data_bytes is;
    }

-- twenty bytes are five numbers
five_spelled : (back : List ℕ) → length back ≡ 20 → AreBytes back
    → back ≡ big_bytes 4 (big_from 0 4 back) ++ (big_bytes 4 (big_from 4 4 back) ++ (big_bytes 4 (big_from 8 4 back) ++ (big_bytes 4 (big_from 12 4 back) ++ big_bytes 4 (big_from 16 4 back))))
five_spelled back long are =
    let at = λ (i : ℕ). big_bytes 4 (big_from i 4 back) in
    let none : drop 20 back ≡ [] = drop_all 20 back (omega arith) in
    let a = number_front 4 0 4 back refl (omega arith) are in
    let b = number_front 4 4 8 back refl (omega arith) are in
    let c = number_front 4 8 12 back refl (omega arith) are in
    let d = number_front 4 12 16 back refl (omega arith) are in
    let e : drop 16 back ≡ at 16 = number_front 4 16 20 back refl (omega arith) are ∙ ap (λ rest. at 16 ++ rest) none ∙ append-nil (at 16) in
    a ∙ ap (λ rest. at 0 ++ rest) (b ∙ ap (λ rest. at 4 ++ rest) (c ∙ ap (λ rest. at 8 ++ rest) (d ∙ ap (λ rest. at 12 ++ rest) e)))

-- two names and what is behind them
name_pair : (mname rname : List (List ℕ)) (back : List ℕ) → [] ++ flat_map name_bytes (mname ∷ rname ∷ []) ++ back ≡ name_bytes mname ++ (name_bytes rname ++ back)
name_pair mname rname back = simp (append_assoc, append-nil)

-- two names and twenty bytes
soa_told : (bytes : List ℕ) (typed : RecordData) → soa_in bytes ≡ Some typed → IsTold (HasShape (names_shape 0 2 20) bytes) bytes typed
soa_told bytes typed read =
    let (first, mname_in, behind) = chained (λ found. option_and_then (soa_of found.0) (name_in found.1)) (name_in bytes) typed read in
    let (second, rname_in, numbers) = chained (soa_of first.0) (name_in first.1) typed behind in
    let (mname, front) = name_is bytes first.0 first.1 mname_in in
    let (rname, middle) = name_is first.1 second.0 second.1 rname_in in
    let back = second.1 in
    let said = Soa first.0 second.0 (big_from 0 4 back) (big_from 4 4 back) (big_from 8 4 back) (big_from 12 4 back) (big_from 16 4 back) in
    let (test, some) = passed (eqb (length back) 20) (Some said) typed numbers in
    let long : length back ≡ 20 = eqb-true (length back) 20 test in
    let same : said ≡ typed = same_Some said typed some in
    let whole : bytes ≡ name_bytes first.0 ++ (name_bytes second.0 ++ back) = front ∙ ap (λ rest. name_bytes first.0 ++ rest) middle in
    record {
      shaped = record {
        front = [];
        names = first.0 ∷ second.0 ∷ [];
        back = back;
        before = refl;
        count = refl;
        each = (mname, (rname, tt));
        behind = long;
        parts = whole ∙ sym (name_pair first.0 second.0 back);
      };
      spelled = λ are.
          let left : AreBytes back = behind_bytes (name_bytes second.0) back (subst AreBytes middle (behind_bytes (name_bytes first.0) first.1 (subst AreBytes front are))) in
          let flat : name_bytes first.0 ++ (name_bytes second.0 ++ (big_bytes 4 (big_from 0 4 back) ++ (big_bytes 4 (big_from 4 4 back) ++ (big_bytes 4 (big_from 8 4 back) ++ (big_bytes 4 (big_from 12 4 back) ++ big_bytes 4 (big_from 16 4 back)))))) ≡ data_bytes said = simp append_assoc in
          whole ∙ ap (λ rest. name_bytes first.0 ++ (name_bytes second.0 ++ rest)) (five_spelled back long left) ∙ flat ∙ ap data_bytes same;
    }

-- and they are read
soa_reads : (bytes : List ℕ) → HasShape (names_shape 0 2 20) bytes → (typed : RecordData) × (soa_in bytes ≡ Some typed)
soa_reads bytes holds = by_parts holds.front holds.names holds.back holds.before holds.count holds.each holds.behind holds.parts where
  by_parts : (front : List ℕ) (names : List (List (List ℕ))) (back : List ℕ) → length front ≡ 0 → length names ≡ 2 → AllByRecursion IsName names → length back ≡ 20
      → bytes ≡ front ++ flat_map name_bytes names ++ back → (typed : RecordData) × (soa_in bytes ≡ Some typed)
  by_parts (b ∷ front) names back before count each behind parts = absurd (omega arith)
  by_parts [] [] back before count each behind parts = absurd (omega arith)
  by_parts [] (mname ∷ []) back before count each behind parts = absurd (omega arith)
  by_parts [] (mname ∷ rname ∷ more ∷ names) back before count each behind parts = absurd (omega arith)
  by_parts [] (mname ∷ rname ∷ []) back before count each behind parts =
      let whole : bytes ≡ name_bytes mname ++ (name_bytes rname ++ back) = parts ∙ name_pair mname rname back in
      let first : name_in bytes ≡ Some (mname, name_bytes rname ++ back) = ap name_in whole ∙ name_spelled mname (name_bytes rname ++ back) each.0 in
      let second : name_in (name_bytes rname ++ back) ≡ Some (rname, back) = name_spelled rname back each.1.0 in
      let test : eqb (length back) 20 ≡ true = eq-eqb (length back) 20 behind in
      (Soa mname rname (big_from 0 4 back) (big_from 4 4 back) (big_from 8 4 back) (big_from 12 4 back) (big_from 16 4 back), rw (first, second, test) refl)

-- ---- strings

-- two strings
hinfo_told : (bytes : List ℕ) (typed : RecordData) → hinfo_in bytes ≡ Some typed → IsTold (HoldsStrings 2 bytes) bytes typed
hinfo_told bytes typed read =
    let (strings, made, two) = chained hinfo_of (strings_in bytes) typed read in
    by_strings strings (strings_are bytes strings made) two where
      by_strings : (strings : List (List ℕ)) → bytes ≡ flat_map label_bytes strings → hinfo_of strings ≡ Some typed → IsTold (HoldsStrings 2 bytes) bytes typed
      by_strings [] parts two = absurd cc
      by_strings (cpu ∷ []) parts two = absurd cc
      by_strings (cpu ∷ os ∷ third ∷ strings) parts two = absurd cc
      by_strings (cpu ∷ os ∷ []) parts two =
          let same : Hinfo cpu os ≡ typed = same_Some (Hinfo cpu os) typed two in
          let flat : flat_map label_bytes (cpu ∷ os ∷ []) ≡ label_bytes cpu ++ label_bytes os = simp append-nil in
          let spelled : bytes ≡ label_bytes cpu ++ label_bytes os = parts ∙ flat in
          record { shaped = (cpu ∷ os ∷ [], refl, parts); spelled = λ are. spelled ∙ ap data_bytes same }

-- and they are read
hinfo_reads : (bytes : List ℕ) → HoldsStrings 2 bytes → (typed : RecordData) × (hinfo_in bytes ≡ Some typed)
hinfo_reads bytes (strings, count, parts) = by_strings strings count (ap strings_in parts ∙ strings_spelled strings) where
  by_strings : (strings : List (List ℕ)) → length strings ≡ 2 → strings_in bytes ≡ Some strings → (typed : RecordData) × (hinfo_in bytes ≡ Some typed)
  by_strings [] count read = absurd (omega arith)
  by_strings (cpu ∷ []) count read = absurd (omega arith)
  by_strings (cpu ∷ os ∷ third ∷ strings) count read = absurd (omega arith)
  by_strings (cpu ∷ os ∷ []) count read = (Hinfo cpu os, ap (option_and_then hinfo_of) read)

-- strings
txt_told : (bytes : List ℕ) (typed : RecordData) → option_map Txt (strings_in bytes) ≡ Some typed → IsTold ((count : ℕ) × HoldsStrings count bytes) bytes typed
txt_told bytes typed read =
    let (strings, made, is) = mapped Txt (strings_in bytes) typed read in
    let parts : bytes ≡ flat_map label_bytes strings = strings_are bytes strings made in
    record { shaped = (length strings, (strings, refl, parts)); spelled = λ are. parts ∙ ap data_bytes is }

-- and they are read
txt_reads : (bytes : List ℕ) → (count : ℕ) × HoldsStrings count bytes → (typed : RecordData) × (option_map Txt (strings_in bytes) ≡ Some typed)
txt_reads bytes (count, (strings, many, parts)) = (Txt strings, ap (option_map Txt) (ap strings_in parts ∙ strings_spelled strings))

-- ---- by type and class

-- what is told by type and class of bytes that have a typed form
abbrev Tells : List ℕ → ℕ → ℕ → Type 0
Tells bytes class kind = (typed : RecordData) → data_in kind class bytes ≡ Some typed → IsTold (HasShape (shape_by kind class) bytes) bytes typed

-- what is told by type and class
data_told : (bytes : List ℕ) (class kind : ℕ) → Tells bytes class kind
data_told bytes class kind =
    either (Tells bytes class) kind_a kind (either (λ n. Tells bytes n kind_a) class_in class (v4_told bytes) (λ no. rw no (raw_told bytes))) (λ a.
    either (Tells bytes class) kind_ns kind (λ typed. alone_told Ns bytes typed (λ labels. refl)) (λ b.
    either (Tells bytes class) kind_cname kind (λ typed. alone_told Cname bytes typed (λ labels. refl)) (λ c.
    either (Tells bytes class) kind_soa kind (soa_told bytes) (λ d.
    either (Tells bytes class) kind_ptr kind (λ typed. alone_told Ptr bytes typed (λ labels. refl)) (λ e.
    either (Tells bytes class) kind_hinfo kind (hinfo_told bytes) (λ f.
    either (Tells bytes class) kind_mx kind (mx_told bytes) (λ g.
    either (Tells bytes class) kind_txt kind (txt_told bytes) (λ h.
    either (Tells bytes class) kind_aaaa kind (either (λ n. Tells bytes n kind_aaaa) class_in class (v6_told bytes) (λ no. rw no (raw_told bytes))) (λ i.
    either (Tells bytes class) kind_srv kind (either (λ n. Tells bytes n kind_srv) class_in class (srv_told bytes) (λ no. rw no (raw_told bytes))) (λ j.
    either (Tells bytes class) kind_opt kind (opt_told bytes) (λ k.
    rw (a, b, c, d, e, f, g, h, i, j, k) (raw_told bytes))))))))))))

-- bytes that have the shape of their type and class have a typed form
abbrev Reads : List ℕ → ℕ → ℕ → Type 0
Reads bytes class kind = HasShape (shape_by kind class) bytes → (typed : RecordData) × (data_in kind class bytes ≡ Some typed)

-- bytes of each shape are read
raw_reads : (bytes : List ℕ) → ⊤ → (typed : RecordData) × (Some (Raw bytes) ≡ Some typed)
raw_reads bytes shaped = (Raw bytes, refl)

v4_reads : (bytes : List ℕ) → length bytes ≡ 4 → (typed : RecordData) × (option_map A (v4_in bytes) ≡ Some typed)
v4_reads bytes long = (A (V4 (big_from 0 4 bytes)), rw (eq-eqb (length bytes) 4 long) refl)

v6_reads : (bytes : List ℕ) → length bytes ≡ 16 → (typed : RecordData) × (option_map Aaaa (v6_in bytes) ≡ Some typed)
v6_reads bytes long = (Aaaa (V6 (big_from 0 16 bytes)), rw (eq-eqb (length bytes) 16 long) refl)

mx_reads : (bytes : List ℕ) → HasShape (names_shape 2 1 0) bytes → (typed : RecordData) × (mx_in bytes ≡ Some typed)
mx_reads bytes = behind_reads 2 (Mx (big_from 0 2 bytes)) bytes

srv_reads : (bytes : List ℕ) → HasShape (names_shape 6 1 0) bytes → (typed : RecordData) × (srv_in bytes ≡ Some typed)
srv_reads bytes = behind_reads 6 (Srv (big_from 0 2 bytes) (big_from 2 2 bytes) (big_from 4 2 bytes)) bytes

-- bytes are read by type and class
data_reads : (bytes : List ℕ) (class kind : ℕ) → Reads bytes class kind
data_reads bytes class kind =
    either (Reads bytes class) kind_a kind (either (λ n. Reads bytes n kind_a) class_in class (v4_reads bytes) (λ no. rw no (raw_reads bytes))) (λ a.
    either (Reads bytes class) kind_ns kind (alone_reads Ns bytes) (λ b.
    either (Reads bytes class) kind_cname kind (alone_reads Cname bytes) (λ c.
    either (Reads bytes class) kind_soa kind (soa_reads bytes) (λ d.
    either (Reads bytes class) kind_ptr kind (alone_reads Ptr bytes) (λ e.
    either (Reads bytes class) kind_hinfo kind (hinfo_reads bytes) (λ f.
    either (Reads bytes class) kind_mx kind (mx_reads bytes) (λ g.
    either (Reads bytes class) kind_txt kind (txt_reads bytes) (λ h.
    either (Reads bytes class) kind_aaaa kind (either (λ n. Reads bytes n kind_aaaa) class_in class (v6_reads bytes) (λ no. rw no (raw_reads bytes))) (λ i.
    either (Reads bytes class) kind_srv kind (either (λ n. Reads bytes n kind_srv) class_in class (srv_reads bytes) (λ no. rw no (raw_reads bytes))) (λ j.
    either (Reads bytes class) kind_opt kind (λ shaped. (Opt bytes, refl)) (λ k.
    rw (a, b, c, d, e, f, g, h, i, j, k) (raw_reads bytes))))))))))))

-- ---- records

-- a record with a typed form is well formed
pub typed_is_formed : (rr : Record) → IsTyped rr → IsWellFormed rr
unfolding data_of
typed_is_formed rr (typed, read) = (data_told rr.rdata rr.class rr.kind typed read).shaped

-- a well-formed record has a typed form
pub formed_is_typed : (rr : Record) → IsWellFormed rr → IsTyped rr
unfolding data_of
formed_is_typed rr formed = data_reads rr.rdata rr.class rr.kind formed

-- and so do the records of a section that can be written
each_typed : (records : List Record) → AllByRecursion IsWritable records → AllByRecursion IsTyped records
each_typed [] each = tt
each_typed (rr ∷ records) each = (formed_is_typed rr each.0.shaped, each_typed records each.1)

-- and those of a valid message
pub message_typed : (m : Message) → IsValid m → AreTyped m
message_typed m valid = record {
  answers = each_typed m.answers valid.answers.each;
  authorities = each_typed m.authorities valid.authorities.each;
  additionals = each_typed m.additionals valid.additionals.each;
}

-- ---- what a call answers

-- a record that isn't well formed has no typed form
pub unformed_is_bare : (rr : Record) → well_formed rr ≡ false → data_of rr ≡ None
unformed_is_bare rr test = by_form (data_of rr) refl where
  by_form : (form : Option RecordData) → data_of rr ≡ form → data_of rr ≡ None
  by_form None is = is
  by_form (Some typed) is = let formed : well_formed rr ≡ true = (well_formed_says rr).1 (typed_is_formed rr (typed, is)) in absurd cc

-- a record that is well formed doesn't lack a typed form
pub formed_is_not_bare : (rr : Record) → well_formed rr ≡ true → data_of rr ≢ None
formed_is_not_bare rr test none = let typed = formed_is_typed rr ((well_formed_says rr).0 test) in let read = typed.1 in absurd cc

-- so reading it is refused for want of memory alone
pub only_memory : (result : Result RecordData RdataFault) (rr : Record) → well_formed rr ≡ true → Gives result (data_of rr) → IfErr result (λ fault. fault ≡ NoMemory)
only_memory (Ok typed) rr test gives = tt
only_memory (Err BadRdata) rr test gives = absurd (formed_is_not_bare rr test (gives (λ same. absurd cc)))
only_memory (Err NoMemory) rr test gives = refl

-- and what is read is spelled by the bytes
pub given_is_spelled : (result : Result RecordData RdataFault) (kind class : ℕ) (bytes : List ℕ) → AreBytes bytes → Gives result (data_in kind class bytes) → IfOk result (λ typed. bytes ≡ data_bytes typed)
given_is_spelled (Ok typed) kind class bytes are gives = (data_told bytes class kind typed gives).spelled are
given_is_spelled (Err fault) kind class bytes are gives = tt
