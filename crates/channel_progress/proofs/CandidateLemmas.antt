-- A request that isn't answered at once has a candidate to ask for.
use Rattle.std.proofs.Common.{◌≡◌, ◌∙◌, ℕ, Bool, true, false, List, [], ◌∷◌, ◌++◌, Option, Some, None, refl, ap, subst, cond, inl}
use Rattle.std.proofs.lemmas.Bool.{and_from, and_parts}
use Rattle.std.specs.Option.{option_or}
use Rattle.std.specs.List.{list_all}
use Rattle.std.specs.Prelude.{codes, filter, nat_le, not, option_and_then, option_map, unwrap_or, ◌||◌}
use Rattle.std.specs.Str.{bytes_eq}
use Rattle.chan_types.specs.declared.answer.Answer.{Answer}
use Rattle.chan_types.specs.declared.spec.Spec.{Spec}
use Rattle.chan_types.specs.declared.spec.Spec.TheVariants.{Address, Query, Reverse, Search}
use Rattle.chan_types.specs.declared.status.Status.TheVariants.{NotFound}
use Rattle.dns_message.specs.Name.{last_is, wire_length}
use Rattle.dns_message.specs.NameText.{ended, is_label, is_name, name_text, named, pieces, units_of}
use Rattle.dns_message.specs.declared.name.Name.{Name}
use Rattle.dns_message.specs.declared.name.NameText.{NameText}
use Rattle.net_addr.specs.Reverse.{reverse_labels}
use Rattle.resolv_options.specs.Search.{candidates, dots, may_be_asked, search_order, with_domains, without_repeats}
use Rattle.resolv_options.specs.declared.options.Options.{Options}
use Rattle.channel_model.specs.AtOnce.{at_once, known_host, unless_asked}
use Rattle.channel_model.specs.Merge.{bare}
use Rattle.channel_model.specs.Questions.{candidates_of, name_of_text, search_list}
use Rattle.channel_model.specs.Setting.{Setting}
use Rattle.channel_progress.proofs.ListLemmas.{Has, filter-has, has-right}

-- a list that has an item
abbrev pub IsSomeList : {X : Type 0} → List X → Type 0
IsSomeList {X} xs = (x : X) × (rest : List X) × (xs ≡ x ∷ rest)

-- a list in which something stands
some_list : {X : Type 0} (x : X) (xs : List X) → Has x xs → IsSomeList xs
some_list x [] h = absurd h
some_list x (y ∷ ys) h = (y, ys, refl)

-- where neither of two has a value
or_none : {A : Type 0} (o p : Option A) → option_or o p ≡ None → (o ≡ None) × (p ≡ None)
or_none None p e = (refl, e)
or_none (Some x) p e = absurd cc

-- ---- a name that was read from a text takes 255 bytes at most

-- labels that are a name
named_says : (found read : List (List ℕ) × Bool) (b : Bool) → is_name found.0 ≡ b → cond b (Some found) None ≡ Some read → nat_le (wire_length read.0) 255 ≡ true
named_says found read true is e =
    let same : found ≡ read = cc in
    subst (λ r. nat_le (wire_length r.0) 255 ≡ true) same (and_parts (list_all is_label found.0) (nat_le (wire_length found.0) 255) is).1
named_says found read false is e = absurd cc

-- what follows from a value of which a second one is made
bound_says : {U V : Type 0} {P : Type 0} (f : U → Option V) (o : Option U) (v : V) → ((u : U) → f u ≡ Some v → P) → option_and_then f o ≡ Some v → P
bound_says f None v says e = absurd cc
bound_says f (Some u) v says e = says u e

-- the name that a text is
read_short : (text : List ℕ) (read : List (List ℕ) × Bool) → name_text text ≡ Some read → nat_le (wire_length read.0) 255 ≡ true
read_short text read e = by_test (bytes_eq text (codes ".")) e
  where
    by_test : (b : Bool) → cond b (Some ([], true)) (option_and_then (λ units. named (ended (pieces units))) (units_of text)) ≡ Some read → nat_le (wire_length read.0) 255 ≡ true
    by_test true e = let same : ◌≡◌ {A = List (List ℕ) × Bool} ([], true) read = cc in subst (λ r. nat_le (wire_length r.0) 255 ≡ true) same refl
    by_test false e = bound_says (λ units. named (ended (pieces units))) (units_of text) read (λ units h. named_says (ended (pieces units)) read (is_name (ended (pieces units)).0) refl h) e

-- and the name that a request asks for
text_short : (text : List ℕ) (read : NameText) → name_of_text text ≡ Some read → nat_le (wire_length read.name) 255 ≡ true
text_short text read e = by_read (name_text text) refl e
  where
    by_read : (o : Option (List (List ℕ) × Bool)) → name_text text ≡ o → option_map (λ r. record { name = r.0; absolute = r.1 }) o ≡ Some read → nat_le (wire_length read.name) 255 ≡ true
    by_read None is e = absurd cc
    by_read (Some r) is e =
        let same : ◌≡◌ {A = NameText} (record { name = r.0; absolute = r.1 }) read = cc in
        subst (λ (n : NameText). nat_le (wire_length n.name) 255 ≡ true) same (read_short text r is)

-- ---- so that a request that isn't answered at once has a candidate

-- a name is among those that are searched for it
name_searched : (text : NameText) (options : Options) → Has text.name (search_order text options)
name_searched text options = by_order (text.absolute || options.flags.nosearch) (nat_le options.ndots (dots text.name))
  where
    by_order : (alone early : Bool)
        → Has text.name (cond alone (text.name ∷ []) (cond early (text.name ∷ with_domains text.name options.domains) (with_domains text.name options.domains ++ text.name ∷ [])))
    by_order true early = inl refl
    by_order false true = inl refl
    by_order false false = has-right text.name (with_domains text.name options.domains) (text.name ∷ []) (inl refl)

-- without its repeats a list has an item where it had one
without_some : (names : List Name) → IsSomeList names → IsSomeList (without_repeats [] names)
without_some names some = (some.0, without_repeats ([] ++ some.0 ∷ []) some.1, ap (without_repeats []) some.2)

-- a name that may be asked for has a candidate
searched_some : (text : NameText) (options : Options) → nat_le (wire_length text.name) 255 ≡ true → last_is (codes "onion") text.name ≡ false → IsSomeList (candidates text options)
searched_some text options short plain =
    without_some (filter may_be_asked (search_order text options))
    (some_list text.name (filter may_be_asked (search_order text options))
    (filter-has text.name may_be_asked (search_order text options) (name_searched text options)
    (and_from (nat_le (wire_length text.name) 255) (not (last_is (codes "onion") text.name)) short (ap not plain))))

-- a text that isn't answered at once is a name, and no hidden service's
asked_says : (request : ℕ) (rules : NameText → Option Answer) (o : Option NameText) → unless_asked request rules o ≡ None → (read : NameText) × (o ≡ Some read) × (last_is (codes "onion") read.name ≡ false)
asked_says request rules None e = absurd cc
asked_says request rules (Some read) e = by_test (last_is (codes "onion") read.name) refl e
  where
    by_test : (b : Bool) → last_is (codes "onion") read.name ≡ b → cond b (Some (bare request NotFound [])) (rules read) ≡ None → (r : NameText) × (Some read ≡ Some r) × (last_is (codes "onion") r.name ≡ false)
    by_test true is e = absurd cc
    by_test false is e = (read, refl, is)

module _ (setting : Setting) where
  -- and has a candidate
  searched : (text : List ℕ) (read : NameText) → name_of_text text ≡ Some read → last_is (codes "onion") read.name ≡ false → IsSomeList (unwrap_or (option_map (search_list setting) (name_of_text text)) [])
  searched text read is plain =
      let some = searched_some read setting.options (text_short text read is) plain in
      (some.0, some.1, ap (λ o. unwrap_or (option_map (search_list setting) o) []) is ∙ some.2)

  -- the candidates of each kind of request
  pub candidates_some : (request : ℕ) (spec : Spec) → at_once setting request spec ≡ None → IsSomeList (candidates_of setting spec)
  candidates_some request (Query text kind class) none =
      let asked = asked_says request (λ read. None) (name_of_text text) none in
      (asked.0.name, [], ap (λ o. unwrap_or (option_map (λ (read : NameText). read.name ∷ []) o) []) asked.1)
  candidates_some request (Search text kind class) none =
      let asked = asked_says request (λ read. None) (name_of_text text) none in searched text asked.0 asked.1 asked.2
  candidates_some request (Address host family nosort) none =
      let asked = asked_says request (known_host setting request family nosort) (name_of_text host) (or_none _ (unless_asked request (known_host setting request family nosort) (name_of_text host)) none).1 in
      searched host asked.0 asked.1 asked.2
  candidates_some request (Reverse address) none = (reverse_labels address, [], refl)
