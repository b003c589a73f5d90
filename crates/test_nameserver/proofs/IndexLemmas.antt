-- Where the items stand that pass a test, and names by their keys.
use Rattle.std.proofs.Common.{get_or, take, ⊎_elim, append-nil, zero, ◌≡◌, ℕ, suc, ◌+◌, ◌-◌, ◌<◌, ◌≤◌, Bool, true, false, cond, IsTrue, ◌↔◌, List, [], ◌∷◌, ◌++◌, length, filter, Option, Some, None, refl, ap, sym, ◌∙◌, arith, if◌then◌else◌}
use Rattle.std.specs.List.{AllByRecursion}
use Rattle.std.specs.Str.{bytes_eq}
use Rattle.std.specs.Cmp.Lexicographic.{bytes_decides}
use Rattle.std.specs.Global.{Vec}
use Rattle.std.specs.Option.{option_map_or, unwrap_or}
use Rattle.std.specs.Ordering.{nat_cmp}
use Rattle.std.specs.Cmp.Lexicographic.{slice_cmp}
use Rattle.std.specs.BTreeMap.{UpdatesBy}
use Rattle.std.proofs.lemmas.Bool.{cases_Bool, cond-true, cond-false}
use Rattle.std.proofs.lemmas.List.{take_more, take_all}
use Rattle.std.proofs.lemmas.Grind.{common_steps}
use Rattle.dns_message.specs.Name.{IsName, SameName, same_name}
use Rattle.dns_message.specs.Wire.{wire_bytes}
use Rattle.dns_message.specs.declared.message.Record.{Record}
use Rattle.dns_message.proofs.Theorems.{same_name_says, one_test, same_labels, same_bytes}
use Rattle.test_nameserver.specs.Zone.{is_of}
use Rattle.test_nameserver.specs.Index.{key_of, has_key, places_from, Indexes, places_at, with_index, IsIndexed}
use Rattle.test_nameserver.proofs.MapLemmas.{found_at, found_after}

-- names are the same exactly where their keys are equal
pub key_same : (name other : List (List ℕ)) → IsName name → IsName other → bytes_eq (key_of other) (key_of name) ≡ same_name name other
key_same name other is is_other =
    let both : IsTrue (bytes_eq (key_of other) (key_of name)) ↔ SameName name other = (
      λ equal. same_labels (wire_bytes name) (wire_bytes other) name other refl refl is is_other (sym ((bytes_decides (key_of other) (key_of name)).0 equal)),
      λ same. (bytes_decides (key_of other) (key_of name)).1 (sym (same_bytes (wire_bytes name) (wire_bytes other) name other refl refl is is_other same)),
    ) in
    one_test (bytes_eq (key_of other) (key_of name)) (same_name name other) both (same_name_says name other)

-- the records of a name are those that have its key
pub records_by_key : (name : List (List ℕ)) (records : List Record) → IsName name → AllByRecursion (λ rr. IsName rr.name) records → filter (has_key (key_of name)) records ≡ filter (is_of name) records
records_by_key name [] is each = refl
records_by_key name (rr ∷ records) is each = rw (key_same name rr.name is each.0, records_by_key name records is each.1) refl

module _ {X : Type 0} (test : X → Bool) where
  one_more : (b : Bool) (index : ℕ) (x : X) (xs : List X) (y : X) → test x ≡ b → places_from (index + 1) test (xs ++ y ∷ []) ≡ places_from (index + 1) test xs ++ (if test y then (index + 1 + length xs) ∷ [] else [])
      → places_from index test (x ∷ xs ++ y ∷ []) ≡ places_from index test (x ∷ xs) ++ (if test y then (index + length (x ∷ xs)) ∷ [] else [])
  one_more true index x xs y is rest =
      let more : index + length (x ∷ xs) ≡ index + 1 + length xs = omega arith in
      rw (is, more) (ap (λ (others : List ℕ). index ∷ others) rest)
  one_more false index x xs y is rest =
      let more : index + length (x ∷ xs) ≡ index + 1 + length xs = omega arith in
      rw (is, more) rest

  -- one item more, at the end
  pub places_more : (index : ℕ) (xs : List X) (y : X) → places_from index test (xs ++ y ∷ []) ≡ places_from index test xs ++ (if test y then (index + length xs) ∷ [] else [])
  places_more index [] y = let none : index + length {A = X} [] ≡ index = omega arith in rw none (grind (arith, common_steps))
  places_more index (x ∷ xs) y = one_more (test x) index x xs y refl (places_more (index + 1) xs y)

  -- a place of an item that passes: which item stands there, where the first has this index
  pub record IsPlace (index : ℕ) (xs : List X) (k : ℕ) (d : X) (place : ℕ) : Type 0 where
    pub from : index ≤ place
    pub below : place < index + length xs
    pub item : get_or (filter test xs) k d ≡ get_or xs (place - index) d

  behind : (index : ℕ) (x : X) (xs : List X) (k : ℕ) (d : X) (place : ℕ) → test x ≡ true → IsPlace (index + 1) xs k d place → IsPlace index (x ∷ xs) (suc k) d place
  behind index x xs k d place is at =
      let one : place - index ≡ suc (place - (index + 1)) = omega (arith, at.from) in
      record { from = omega (arith, at.from); below = omega (arith, at.below); item = rw (is, one) at.item }

  passed : (index : ℕ) (x : X) (xs : List X) (k : ℕ) (d : X) (place : ℕ) → test x ≡ false → IsPlace (index + 1) xs k d place → IsPlace index (x ∷ xs) k d place
  passed index x xs k d place is at =
      let one : place - index ≡ suc (place - (index + 1)) = omega (arith, at.from) in
      record { from = omega (arith, at.from); below = omega (arith, at.below); item = rw (is, one) at.item }

  here : (index : ℕ) (x : X) (xs : List X) (d : X) → test x ≡ true → IsPlace index (x ∷ xs) 0 d index
  here index x xs d is =
      let none : index - index ≡ 0 = omega arith in
      record { from = omega arith; below = omega arith; item = rw (is, none) refl }

  place_by : (b : Bool) (index : ℕ) (x : X) (xs : List X) (k : ℕ) (d : X) → test x ≡ b
      → ((j : ℕ) → j < length (places_from (index + 1) test xs) → IsPlace (index + 1) xs j d (get_or (places_from (index + 1) test xs) j 0))
      → k < length (if b then index ∷ places_from (index + 1) test xs else places_from (index + 1) test xs)
      → IsPlace index (x ∷ xs) k d (get_or (if b then index ∷ places_from (index + 1) test xs else places_from (index + 1) test xs) k 0)
  place_by true index x xs zero d is rest within = here index x xs d is
  place_by true index x xs (suc k) d is rest within = behind index x xs k d _ is (rest k (omega arith))
  place_by false index x xs k d is rest within = passed index x xs k d _ is (rest k within)

  -- which items stand at the places
  pub place_is : (index : ℕ) (xs : List X) (k : ℕ) (d : X) → k < length (places_from index test xs) → IsPlace index xs k d (get_or (places_from index test xs) k 0)
  place_is index [] k d within = absurd (omega arith)
  place_is index (x ∷ xs) k d within = place_by (test x) index x xs k d refl (λ j. place_is (index + 1) xs j d) within

  as_many_by : (b : Bool) (index : ℕ) (x : X) (xs : List X) → length (places_from (index + 1) test xs) ≡ length (filter test xs)
      → length (if b then index ∷ places_from (index + 1) test xs else places_from (index + 1) test xs) ≡ length (cond b (x ∷ filter test xs) (filter test xs))
  as_many_by true index x xs rest = omega (arith, rest)
  as_many_by false index x xs rest = rest

  -- as many places as items that pass
  pub as_many : (index : ℕ) (xs : List X) → length (places_from index test xs) ≡ length (filter test xs)
  as_many index [] = refl
  as_many index (x ∷ xs) = as_many_by (test x) index x xs (as_many (index + 1) xs)

  -- the item at the next place is the next that passes
  pub next_item : (places : List ℕ) (xs : List X) (k : ℕ) (d : X) → places ≡ places_from 0 test xs → k < length places
      → take (k + 1) (filter test xs) ≡ take k (filter test xs) ++ get_or xs (get_or places k 0) d ∷ []
  next_item places xs k d are within =
      let at = place_is 0 xs k d (omega (arith, ap length are)) in
      let start : get_or (places_from 0 test xs) k 0 - 0 ≡ get_or (places_from 0 test xs) k 0 = omega arith in
      rw are (take_more (filter test xs) k d (omega (arith, as_many 0 xs, ap length are)) ∙ rw (at.item, start) refl)

  -- each place is below the end
  pub place_below : (places : List ℕ) (xs : List X) (k : ℕ) → places ≡ places_from 0 test xs → k < length places → get_or places k 0 < length xs
  place_below places [] k are within = absurd (omega (arith, ap length are))
  place_below places (x ∷ xs) k are within = rw are (omega (arith, (place_is 0 (x ∷ xs) k x (omega (arith, ap length are))).below))

  -- behind the last place all that pass are there
  pub all_items : (places : List ℕ) (xs : List X) (k : ℕ) → places ≡ places_from 0 test xs → length places ≤ k → take k (filter test xs) ≡ filter test xs
  all_items places xs k are past = take_all k (filter test xs) (omega (arith, as_many 0 xs, ap length are))

-- one record more, whose index stands at its key
all_more : (records : List Record) (rr : Record) → AllByRecursion (λ other. IsName other.name) records → IsName rr.name → AllByRecursion (λ other. IsName other.name) (records ++ rr ∷ [])
all_more [] rr each is = (is, tt)
all_more (first ∷ records) rr each is = (each.0, all_more records rr each.1 is)

pub indexed_more : (old new : Indexes) (records : List Record) (rr : Record) → IsIndexed old records → IsName rr.name → with_index old (key_of rr.name) (length records) new → IsIndexed new (records ++ rr ∷ [])
indexed_more old new records rr indexed is more = record {
  names = all_more records rr indexed.names is;
  places = λ key.
      let start : 0 + length records ≡ length records = omega arith in
      more key ∙ rw (places_more (has_key key) 0 records rr, indexed.places key, start) refl;
}

items_or : Option (Vec ℕ) → List ℕ
items_or found = option_map_or (λ indexes. indexes.items) found []

-- the indexes that were taken out of a map
pub taken_items : (m : Indexes) (key looked : List ℕ) (removed : Option (Vec ℕ)) (empty taken : Vec ℕ) → looked ≡ key → removed ≡ found_at m looked → empty.items ≡ [] → taken ≡ unwrap_or removed empty → taken.items ≡ places_at m key
unfolding items_or
taken_items m key looked None empty taken is was none got = ap (λ v. v.items) got ∙ none ∙ ap items_or (was ∙ ap (found_at m) is)
taken_items m key looked (Some v) empty taken is was none got = ap (λ v. v.items) got ∙ ap items_or (was ∙ ap (found_at m) is)

-- an index more at a key, whose indexes were taken out and put back
pub index_more : (old mid new : Indexes) (key looked : List ℕ) (index : ℕ) (indexes : Vec ℕ)
    → looked ≡ key
    → UpdatesBy (λ x y. slice_cmp nat_cmp x.items y.items) (λ other. slice_cmp nat_cmp looked other.items) old mid None
    → UpdatesBy (λ x y. slice_cmp nat_cmp x.items y.items) (λ other. slice_cmp nat_cmp key other.items) mid new (Some indexes)
    → indexes.items ≡ places_at old key ++ index ∷ []
    → with_index old key index new
unfolding items_or
index_more old mid new key looked index indexes is taken put items other =
    ⊎_elim
    (λ same.
    let at : key ≡ other = (bytes_decides key other).0 same in
    let put_here : places_at new other ≡ indexes.items = ap items_or (found_after key mid new (Some indexes) put other ∙ cond-true _ _ _ same) in
    put_here ∙ items ∙ rw same (ap (λ (bytes : List ℕ). places_at old bytes ++ index ∷ []) at))
    (λ differ.
    let as_before : places_at new other ≡ places_at old other = ap items_or (found_after key mid new (Some indexes) put other ∙ cond-false _ _ _ differ ∙ found_after looked old mid None taken other ∙ cond-false _ _ _ (ap (λ (bytes : List ℕ). bytes_eq bytes other) is ∙ differ)) in
    as_before ∙ rw differ (sym (append-nil (places_at old other))))
    (cases_Bool (bytes_eq key other))
