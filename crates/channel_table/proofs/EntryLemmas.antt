-- How a finite map follows a list whose items have its entries, where one item changes.
use Rattle.channel_table.proofs.Base.{◌≡◌, ◌∙◌, Bool, true, false, cond, List, [], ◌∷◌, ◌++◌, Option, Some, None, refl, ap, ap₂, sym, flat_map-append, eq_by_cmp, flat_map, if◌then◌else◌, option_to_list, Ordering, value_at}
use Rattle.std.specs.Cmp.{IsTotalOrder, Equal-is}
use Rattle.std.specs.FinMap as map
use Rattle.std.specs.FinMap.{FinMap}
use Rattle.channel_table.specs.Flown.{HasEntries}

-- an item among those of an option is the only one
only_one : {V : Type 0} (xs ys : List V) (v : V) (o : Option V) → xs ++ v ∷ ys ≡ option_to_list o → (xs ≡ []) × (ys ≡ []) × (o ≡ Some v)
only_one [] ys v None e = absurd cc
only_one [] ys v (Some w) e = (refl, let rest : ys ≡ [] = cc in rest, let same : v ≡ w = cc in ap Some (sym same))
only_one (x ∷ []) ys v None e = absurd cc
only_one (x ∷ []) ys v (Some w) e = absurd cc
only_one (x ∷ z ∷ xs) ys v None e = absurd cc
only_one (x ∷ z ∷ xs) ys v (Some w) e = absurd cc

no_items : {V : Type 0} (xs ys : List V) → xs ++ ys ≡ [] → (xs ≡ []) × (ys ≡ [])
no_items [] ys e = (refl, e)
no_items (x ∷ xs) ys e = absurd cc

module _ {K V X : Type 0} {R : K → K → Ordering} (o : IsTotalOrder R) (entry : X → Option (K × V)) where
  abbrev values : K → List X → List V
  values key xs = flat_map (λ x. value_at R key (entry x)) xs

  parts : (key : K) (xs ys : List X) (x : X) → values key (xs ++ x ∷ ys) ≡ values key xs ++ (value_at R key (entry x) ++ values key ys)
  parts key xs ys x = flat_map-append (λ z. value_at R key (entry z)) xs (x ∷ ys)

  -- another item with the same entry in the place of one
  pub same_entry : (m : FinMap R V) (xs ys : List X) (x new : X) → entry x ≡ entry new → HasEntries R entry m (xs ++ x ∷ ys) → HasEntries R entry m (xs ++ new ∷ ys)
  same_entry m xs ys x new same has key =
      parts key xs ys new ∙ ap (λ e. values key xs ++ (value_at R key e ++ values key ys)) (sym same) ∙ sym (parts key xs ys x) ∙ has key

  -- an item without an entry is none
  pub no_entry : (m : FinMap R V) (xs ys : List X) (x : X) → entry x ≡ None → HasEntries R entry m (xs ++ x ∷ ys) → HasEntries R entry m (xs ++ ys)
  no_entry m xs ys x none has key =
      flat_map-append (λ z. value_at R key (entry z)) xs ys ∙ ap (λ e. values key xs ++ (value_at R key e ++ values key ys)) (sym none) ∙ sym (parts key xs ys x) ∙ has key

  pub more_entry : (m : FinMap R V) (xs ys : List X) (x : X) → entry x ≡ None → HasEntries R entry m (xs ++ ys) → HasEntries R entry m (xs ++ x ∷ ys)
  more_entry m xs ys x none has key =
      parts key xs ys x ∙ ap (λ e. values key xs ++ (value_at R key e ++ values key ys)) none ∙ sym (flat_map-append (λ z. value_at R key (entry z)) xs ys) ∙ has key

  -- an item that loses its entry
  pub entry_removed : (m : FinMap R V) (xs ys : List X) (x new : X) (k : K) (v : V) → entry x ≡ Some (k, v) → entry new ≡ None → HasEntries R entry m (xs ++ x ∷ ys) → HasEntries R entry (map.remove m k) (xs ++ new ∷ ys)
  entry_removed m xs ys x new k v is none has key =
      parts key xs ys new ∙ ap (λ e. values key xs ++ (value_at R key e ++ values key ys)) none ∙ by_test (eq_by_cmp R key k) (ap (λ e. values key xs ++ (value_at R key e ++ values key ys)) (sym is) ∙ sym (parts key xs ys x) ∙ has key)
      ∙ ap option_to_list (sym (map.get-remove o m k key))
    where
      by_test : (b : Bool) → values key xs ++ ((if b then v ∷ [] else []) ++ values key ys) ≡ option_to_list (map.get m key) → values key xs ++ values key ys ≡ option_to_list (cond b None (map.get m key))
      by_test true e = let only = only_one (values key xs) (values key ys) v (map.get m key) e in ap₂ (λ us ws. us ++ ws) only.0 only.1
      by_test false e = e

  -- an item that gets one, of a new key
  pub entry_put : (m : FinMap R V) (xs ys : List X) (x new : X) (k : K) (v : V) → entry x ≡ None → entry new ≡ Some (k, v) → map.get m k ≡ None → HasEntries R entry m (xs ++ x ∷ ys) → HasEntries R entry (map.insert m k v) (xs ++ new ∷ ys)
  entry_put m xs ys x new k v none is fresh has key =
      parts key xs ys new ∙ ap (λ e. values key xs ++ (value_at R key e ++ values key ys)) is ∙ by_test (eq_by_cmp R key k) refl (ap (λ e. values key xs ++ (value_at R key e ++ values key ys)) (sym none) ∙ sym (parts key xs ys x) ∙ has key)
      ∙ ap option_to_list (sym (map.get-insert o m k v key))
    where
      by_test : (b : Bool) → eq_by_cmp R key k ≡ b → values key xs ++ values key ys ≡ option_to_list (map.get m key) → values key xs ++ ((if b then v ∷ [] else []) ++ values key ys) ≡ option_to_list (cond b (Some v) (map.get m key))
      by_test true tie e =
          let gone : map.get m key ≡ None = sym (map.get_tied o m key k ((Equal-is (R key k)).0 tie)) ∙ fresh in
          let nothing = no_items (values key xs) (values key ys) (e ∙ ap option_to_list gone) in
          ap₂ (λ us ws. us ++ v ∷ ws) nothing.0 nothing.1
      by_test false tie e = e

  -- the map has a value where an item has it
  pub entry_there : (m : FinMap R V) (xs ys : List X) (x : X) (k : K) (v : V) → entry x ≡ Some (k, v) → HasEntries R entry m (xs ++ x ∷ ys) → map.get m k ≡ Some v
  entry_there m xs ys x k v is has = by_test (eq_by_cmp R k k) refl (ap (λ e. values k xs ++ (value_at R k e ++ values k ys)) (sym is) ∙ sym (parts k xs ys x) ∙ has k)
    where
      by_test : (b : Bool) → eq_by_cmp R k k ≡ b → values k xs ++ ((if b then v ∷ [] else []) ++ values k ys) ≡ option_to_list (map.get m k) → map.get m k ≡ Some v
      by_test true tie e = (only_one (values k xs) (values k ys) v (map.get m k) e).2
      by_test false tie e = absurd (let t : true ≡ false = sym ((Rattle.std.proofs.lemmas.Cmp.eq_by_cmp_equiv o).refl k) ∙ tie in cc)
