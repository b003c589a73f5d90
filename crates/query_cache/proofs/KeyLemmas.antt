-- What is held by keys, and what a put, a hit and a miss make of it.
use Rattle.std.proofs.Common.{◌≡◌, ℕ, zero, suc, ◌+◌, ◌-◌, ◌<◌, ◌≤◌, Bool, true, false, cond, not, Option, Some, None, List, [], ◌∷◌, length, map, take, refl, sym, ap, subst, ◌∙◌, is_some, arith}
use Rattle.std.specs.Bool.{Decides}
use Rattle.std.specs.Cmp.Lexicographic.{bytes_decides}
use Rattle.std.specs.List.{AllByRecursion, IsDistinct, find}
use Rattle.std.specs.Map.{lookup, lookup_entry, remove_entry, keys_of, values_of}
use Rattle.std.specs.Option.{option_map_or}
use Rattle.std.specs.Prelude.{nat_lt, slice_get}
use Rattle.std.proofs.lemmas.Bool.{false≢true, eqb-true, eq-eqb}
use Rattle.std.proofs.lemmas.Bool.Decides.{Decides-and, Decides-like, same_from_decides}
use Rattle.std.proofs.lemmas.List.{length-map, take_all}
use Rattle.dns_message.specs.Question.{same_question}
use Rattle.dns_message.specs.Wire.{wire_bytes}
use Rattle.dns_message.specs.declared.message.Question.{Question}
use Rattle.dns_message.proofs.Theorems.{same_labels, same_bytes}
use Rattle.lru.specs.LruCache.{LruCache, lru_cache, IsValid, promoted, put_entries}
use Rattle.query_cache.specs.Cache.{Cache, is_of, entry_of, others, used, used_if, is_before, answer_before}
use Rattle.query_cache.specs.Key.{key_eq, IsKeyOf, AreByKey, shown}
use Rattle.query_cache.specs.declared.key.Key.{Key}
use Rattle.query_cache.specs.declared.kept.Kept.{Kept}
use Rattle.query_cache.proofs.QuestionLemmas.{low, tests, tests_decide}
use Rattle.query_cache.proofs.EntryLemmas.{map-take, all-take, found, low_asked}

-- ---- keys

-- keys are equal where their parts are
parts_decide : (k j : Key) → Decides (key_eq k j) ((k.kind ≡ j.kind) × ((k.class ≡ j.class) × (k.name.items ≡ j.name.items)))
parts_decide k j = Decides-and _ _ (eqb-true k.kind j.kind, eq-eqb k.kind j.kind) (Decides-and _ _ (eqb-true k.class j.class, eq-eqb k.class j.class) (bytes_decides k.name.items j.name.items))

-- and where their questions are the same
key_says : (q x : Question) (k j : Key) → IsKeyOf q k → IsKeyOf x j → key_eq k j ≡ same_question q x
key_says q x k j a b =
    same_from_decides (key_eq k j) (same_question q x)
    (Decides-like (key_eq k j)
    (λ h.
    let name = same_labels (wire_bytes q.name) (wire_bytes x.name) q.name x.name refl refl a.is_name b.is_name (sym a.name ∙ h.1.1 ∙ b.name) in
    let kind : q.kind ≡ x.kind = sym a.kind ∙ h.0 ∙ b.kind in
    let class : q.class ≡ x.class = sym a.class ∙ h.1.0 ∙ b.class in
    λ i. record { name = name i; kind = kind i; class = class i })
    (λ e. (
      a.kind ∙ ap (λ r. r.kind) e ∙ sym b.kind,
      (
        a.class ∙ ap (λ r. r.class) e ∙ sym b.class,
        a.name ∙ same_bytes (wire_bytes q.name) (wire_bytes x.name) q.name x.name refl refl a.is_name b.is_name (ap (λ r. r.name) e) ∙ sym b.name,
      ),
    ))
    (parts_decide k j))
    (tests_decide (low q) (low x))

-- a key that equals the key of a question is its key
key_again : (q : Question) (k j : Key) → IsKeyOf q k → key_eq k j ≡ true → IsKeyOf q j
key_again q k j is e =
    let h = (parts_decide k j).0 e in
    record { kind = sym h.0 ∙ is.kind; class = sym h.1.0 ∙ is.class; name = sym h.1.1 ∙ is.name; is_name = is.is_name }

-- ---- entries

-- questions that are the same leave the same others
same-others : (q r : Question) → low q ≡ low r → (es : List Kept) → others q es ≡ others r es
same-others q r same [] = refl
same-others q r same (e ∷ es) =
    ap (λ l. cond (not (tests l (low_asked e))) (e ∷ others q es) (others q es)) same
    ∙ ap (λ l. cond (not (same_question r e.asked)) (e ∷ l) l) (same-others q r same es)

-- without an entry of the question all are others
all_others : (q : Question) (es : List Kept) → entry_of q es ≡ None → others q es ≡ es
all_others q [] none = refl
all_others q (e ∷ es) none = by (same_question q e.asked) none (all_others q es)
  where
    by : (b : Bool) → cond b (Some e) (entry_of q es) ≡ None → (entry_of q es ≡ None → others q es ≡ es) → cond (not b) (e ∷ others q es) (others q es) ≡ e ∷ es
    by true none rest = cc
    by false none rest = ap (λ l. e ∷ l) (rest none)

-- with one they are fewer
few_others : (q : Question) (es : List Kept) → length (others q es) ≤ length es
few_others q [] = omega arith
few_others q (e ∷ es) = by (same_question q e.asked) (few_others q es)
  where
    by : (b : Bool) → length (others q es) ≤ length es → length (cond (not b) (e ∷ others q es) (others q es)) ≤ suc (length es)
    by true rest = omega arith
    by false rest = omega arith

fewer_others : (q : Question) (es : List Kept) (x : Kept) → entry_of q es ≡ Some x → length (others q es) + 1 ≤ length es
fewer_others q [] x hit = cc
fewer_others q (e ∷ es) x hit = by (same_question q e.asked) hit (few_others q es) (fewer_others q es x)
  where
    by : (b : Bool) → cond b (Some e) (entry_of q es) ≡ Some x → length (others q es) ≤ length es → (entry_of q es ≡ Some x → length (others q es) + 1 ≤ length es)
        → length (cond (not b) (e ∷ others q es) (others q es)) + 1 ≤ suc (length es)
    by true hit few rest = omega arith
    by false hit few rest = let fewer : length (others q es) + 1 ≤ length es = rest hit in omega arith

-- ---- what is held

module _ (test : Key → Bool) where
  -- the pair that is found has the value that is found, and passes the test
  lookup_is : (es : List (Key × Kept)) (p : Key × Kept) → lookup_entry test es ≡ Some p → (lookup test es ≡ Some p.1) × (test p.0 ≡ true)
  lookup_is [] p e = cc
  lookup_is (x ∷ xs) p e = by (test x.0) refl e (lookup_is xs p)
    where
      by : (b : Bool) → test x.0 ≡ b → cond b (Some x) (lookup_entry test xs) ≡ Some p → (lookup_entry test xs ≡ Some p → (lookup test xs ≡ Some p.1) × (test p.0 ≡ true)) → (cond b (Some x.1) (lookup test xs) ≡ Some p.1) × (test p.0 ≡ true)
      by true t e rest = let same : x ≡ p = cc in (ap (λ y. Some y.1) same, subst (λ y. test y.0 ≡ true) same t)
      by false t e rest = rest e

  lookup_none : (es : List (Key × Kept)) → lookup_entry test es ≡ None → lookup test es ≡ None
  lookup_none [] e = refl
  lookup_none (x ∷ xs) e = by (test x.0) e (lookup_none xs)
    where
      by : (b : Bool) → cond b (Some x) (lookup_entry test xs) ≡ None → (lookup_entry test xs ≡ None → lookup test xs ≡ None) → cond b (Some x.1) (lookup test xs) ≡ None
      by true e rest = cc
      by false e rest = rest e

  -- what holds of each pair holds of the one that is found, and of those that are left without it
  pair_holds : (P : Key × Kept → Type 0) (es : List (Key × Kept)) (p : Key × Kept) → AllByRecursion P es → lookup_entry test es ≡ Some p → P p
  pair_holds P [] p all e = cc
  pair_holds P (x ∷ xs) p all e = by (test x.0) e (pair_holds P xs p all.1)
    where
      by : (b : Bool) → cond b (Some x) (lookup_entry test xs) ≡ Some p → (lookup_entry test xs ≡ Some p → P p) → P p
      by true e rest = let same : x ≡ p = cc in subst P same all.0
      by false e rest = rest e

  rest_holds : (P : Key × Kept → Type 0) (es : List (Key × Kept)) → AllByRecursion P es → AllByRecursion P (remove_entry test es)
  rest_holds P [] all = tt
  rest_holds P (x ∷ xs) all = by (test x.0) (rest_holds P xs all.1)
    where
      by : (b : Bool) → AllByRecursion P (remove_entry test xs) → AllByRecursion P (cond b xs (x ∷ remove_entry test xs))
      by true rest = all.1
      by false rest = (all.0, rest)

module _ (q : Question) (key : Key) (is : IsKeyOf q key) where
  -- what is found by the key is the question's entry
  lookup_entry_of : (es : List (Key × Kept)) → AreByKey es → lookup (key_eq key) es ≡ entry_of q (values_of es)
  lookup_entry_of [] all = refl
  lookup_entry_of (e ∷ es) all =
      ap (λ b. cond b (Some e.1) (lookup (key_eq key) es)) (key_says q e.1.asked key e.0 is all.0)
      ∙ ap (λ o. cond (same_question q e.1.asked) (Some e.1) o) (lookup_entry_of es all.1)

  -- those behind an entry of the question are others
  behind : (k : Key) (x : Kept) → IsKeyOf x.asked k → low q ≡ low_asked x → (es : List (Key × Kept)) → AreByKey es → AllByRecursion (λ j. key_eq k j ≡ false) (keys_of es) → others q (values_of es) ≡ values_of es
  behind k x its same [] all apart = refl
  behind k x its same (e ∷ es) all apart =
      let differ : same_question q e.1.asked ≡ false = ap (λ l. tests l (low_asked e.1)) same ∙ sym (key_says x.asked e.1.asked k e.0 its all.0) ∙ apart.0 in
      ap (λ b. cond (not b) (e.1 ∷ others q (values_of es)) (others q (values_of es))) differ ∙ ap (λ l. e.1 ∷ l) (behind k x its same es all.1 apart.1)

  -- without what is found by the key the others are left
  removed_others : (es : List (Key × Kept)) → AreByKey es → IsDistinct key_eq (keys_of es) → values_of (remove_entry (key_eq key) es) ≡ others q (values_of es)
  unfolding IsDistinct
  removed_others [] all apart = refl
  removed_others (e ∷ es) all apart =
      ap (λ b. values_of (cond b es (e ∷ remove_entry (key_eq key) es))) (key_says q e.1.asked key e.0 is all.0)
      ∙ by (same_question q e.1.asked) refl (removed_others es all.1 apart.1)
    where
      by : (b : Bool) → same_question q e.1.asked ≡ b → values_of (remove_entry (key_eq key) es) ≡ others q (values_of es)
          → values_of (cond b es (e ∷ remove_entry (key_eq key) es)) ≡ cond (not b) (e.1 ∷ others q (values_of es)) (others q (values_of es))
      by true t rest = sym (behind e.0 e.1 all.0 ((tests_decide (low q) (low_asked e.1)).0 t) es all.1 apart.0)
      by false t rest = ap (λ l. e.1 ∷ l) rest

  module _ (held : LruCache Key Kept) (all : AreByKey held.entries) (valid : IsValid key_eq held) where
    abbrev entries : List Kept
    entries = values_of held.entries

    abbrev shown_as : ℕ → List Kept → Cache
    shown_as most l = record { room = held.cap; most = most; entries = l }

    -- a use of an entry that is there leaves none out
    fits : (x e : Kept) → entry_of q entries ≡ Some x → take held.cap (e ∷ others q entries) ≡ e ∷ others q entries
    fits x e hit = take_all held.cap (e ∷ others q entries) (omega (arith, fewer_others q entries x hit, length-map held.entries (λ p. p.1), valid.1))

    -- the pair that is found
    found_pair : (p : Key × Kept) → lookup_entry (key_eq key) held.entries ≡ Some p → entry_of q entries ≡ Some p.1
    found_pair p e = sym (lookup_entry_of held.entries all) ∙ (lookup_is (key_eq key) held.entries p e).0

    -- ---- a put

    -- what is held after a put, by the pair that was found
    abbrev put_of : Kept → Option (Key × Kept) → List (Key × Kept)
    put_of v o = option_map_or (λ e. (e.0, v) ∷ remove_entry (key_eq key) held.entries) o ((key, v) ∷ take (held.cap - 1) held.entries)

    -- the entry comes first, and all are held by their keys
    put_by : (v : Kept) → v.asked ≡ q → (o : Option (Key × Kept)) → lookup_entry (key_eq key) held.entries ≡ o
        → (values_of (put_of v o) ≡ take held.cap (v ∷ others q entries)) × AreByKey (put_of v o)
    put_by v its None none =
        let hidden : entry_of q entries ≡ None = sym (lookup_entry_of held.entries all) ∙ lookup_none (key_eq key) held.entries none in (
          new_first held.cap valid.2 ∙ ap (λ l. take held.cap (v ∷ l)) (sym (all_others q entries hidden)),
          (subst (λ r. IsKeyOf r key) (sym its) is, all-take (λ e. IsKeyOf e.1.asked e.0) (held.cap - 1) held.entries all),
        )
      where
        new_first : (n : ℕ) → 0 < n → v ∷ values_of (take (n - 1) held.entries) ≡ take n (v ∷ entries)
        new_first zero some = absurd (omega (arith, some))
        new_first (suc n) some =
            let less : suc n - 1 ≡ n = omega arith in
            ap (λ l. v ∷ l) (map-take (λ (e : Key × Kept). e.1) (suc n - 1) held.entries ∙ ap (λ m. take m entries) less)
    put_by v its (Some p) hit =
        let its_key = (lookup_is (key_eq key) held.entries p hit).1 in (
          ap (λ l. v ∷ l) (removed_others held.entries all valid.0) ∙ sym (fits p.1 v (found_pair p hit)),
          (subst (λ r. IsKeyOf r p.0) (sym its) (key_again q key p.0 is its_key), rest_holds (key_eq key) (λ e. IsKeyOf e.1.asked e.0) held.entries all),
        )

    pub shown_put : (v : Kept) → v.asked ≡ q → (most : ℕ) → shown most (lru_cache (put_entries key_eq held key v) held.cap) ≡ used v (shown most held)
    shown_put v its most =
        ap (shown_as most)
        ((put_by v its (lookup_entry (key_eq key) held.entries) refl).0 ∙ ap (λ r. take held.cap (v ∷ others r entries)) (sym its))

    pub put_by_key : (v : Kept) → v.asked ≡ q → AreByKey (put_entries key_eq held key v)
    put_by_key v its = (put_by v its (lookup_entry (key_eq key) held.entries) refl).1

    -- ---- a look

    -- a hit finds a pair whose end is later
    hit_by : (at : ℕ) (o : Option (Key × Kept)) → lookup_entry (key_eq key) held.entries ≡ o → is_before at (lookup (key_eq key) held.entries) ≡ true
        → (p : Key × Kept) × (lookup_entry (key_eq key) held.entries ≡ Some p) × (nat_lt at p.1.end ≡ true)
    hit_by at None none good = absurd (false≢true (sym (ap (is_before at) (lookup_none (key_eq key) held.entries none)) ∙ good))
    hit_by at (Some p) found good = (p, found, sym (ap (is_before at) (lookup_is (key_eq key) held.entries p found).0) ∙ good)

    -- the pair that is found goes first
    shown_moved : (p : Key × Kept) → lookup_entry (key_eq key) held.entries ≡ Some p → (most : ℕ)
        → shown most (lru_cache (promoted (key_eq key) held.entries) held.cap) ≡ used_if (entry_of q entries) (shown most held)
    shown_moved p hit most =
        let its = pair_holds (key_eq key) (λ e. IsKeyOf e.1.asked e.0) held.entries p all hit in
        let same : low q ≡ low_asked p.1 = (tests_decide (low q) (low_asked p.1)).0 (sym (key_says q p.1.asked key p.0 is its) ∙ (lookup_is (key_eq key) held.entries p hit).1) in
        ap (λ (o : Option (Key × Kept)). shown_as most (values_of (option_map_or (λ e. e ∷ remove_entry (key_eq key) held.entries) o held.entries))) hit
        ∙ ap (λ l. shown_as most (p.1 ∷ l)) (removed_others held.entries all valid.0)
        ∙ ap (shown_as most) (sym (fits p.1 p.1 (found_pair p hit)))
        ∙ ap (λ l. shown_as most (take held.cap (p.1 ∷ l))) (same-others q p.1.asked same entries)
        ∙ sym (ap (λ o. used_if o (shown most held)) (found_pair p hit))

    promoted_by_key : (p : Key × Kept) → lookup_entry (key_eq key) held.entries ≡ Some p → AreByKey (promoted (key_eq key) held.entries)
    promoted_by_key p hit =
        let P = λ (e : Key × Kept). IsKeyOf e.1.asked e.0 in
        subst (λ (o : Option (Key × Kept)). AreByKey (option_map_or (λ e. e ∷ remove_entry (key_eq key) held.entries) o held.entries)) (sym hit)
        (pair_holds (key_eq key) P held.entries p all hit, rest_holds (key_eq key) P held.entries all)

    module _ (at : ℕ) (good : is_before at (lookup (key_eq key) held.entries) ≡ true) where
      abbrev hit : (p : Key × Kept) × (lookup_entry (key_eq key) held.entries ≡ Some p) × (nat_lt at p.1.end ≡ true)
      hit = hit_by at (lookup_entry (key_eq key) held.entries) refl good

      pub hit_by_key : AreByKey (promoted (key_eq key) held.entries)
      hit_by_key = promoted_by_key hit.0 hit.1

      pub hit_shown : (most : ℕ) → shown most (lru_cache (promoted (key_eq key) held.entries) held.cap) ≡ used_if (entry_of q entries) (shown most held)
      hit_shown = shown_moved hit.0 hit.1

      -- the first pair has the answer that is given
      pub hit_first : (k : Key) (x : Kept) → Some (k, x) ≡ slice_get (promoted (key_eq key) held.entries) 0 → Some x.answer ≡ answer_before at (entry_of q entries)
      hit_first k x first =
          let there : slice_get (promoted (key_eq key) held.entries) 0 ≡ Some hit.0 = ap (λ (o : Option (Key × Kept)). slice_get (option_map_or (λ e. e ∷ remove_entry (key_eq key) held.entries) o held.entries) 0) hit.1 in
          let same : (k, x) ≡ hit.0 = (let both = first ∙ there in cc) in
          ap (λ p. Some p.1.answer) same
          ∙ sym (ap (answer_before at) (found_pair hit.0 hit.1) ∙ ap (λ b. cond b (Some hit.0.1.answer) None) hit.2)

      -- there is a first pair
      pub hit_some : None ≡ slice_get (promoted (key_eq key) held.entries) 0 → ⊥
      hit_some none =
          let there : slice_get (promoted (key_eq key) held.entries) 0 ≡ Some hit.0 = ap (λ (o : Option (Key × Kept)). slice_get (option_map_or (λ e. e ∷ remove_entry (key_eq key) held.entries) o held.entries) 0) hit.1 in
          let both = none ∙ there in cc

    -- a miss gives no answer
    pub miss_gives : (at : ℕ) → is_before at (lookup (key_eq key) held.entries) ≡ false → None ≡ answer_before at (entry_of q entries)
    miss_gives at bad = by (entry_of q entries) (sym (ap (is_before at) (lookup_entry_of held.entries all)) ∙ bad)
      where
        by : (o : Option Kept) → is_before at o ≡ false → None ≡ answer_before at o
        by None bad = refl
        by (Some e) bad = sym (ap (λ b. cond b (Some e.answer) None) bad)
