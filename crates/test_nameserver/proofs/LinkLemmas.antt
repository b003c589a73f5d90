-- A link that keeps what it has unread.
use Rattle.std.proofs.Common.{◌≡◌, ℕ, suc, ◌+◌, Bool, true, false, List, [], ◌∷◌, set, get_or, Option, Some, None, refl, ap, sym, ◌∙◌, add-one}
use Rattle.std.specs.Prelude.{position, option_map}
use Rattle.test_nameserver.specs.PeerCalls.{has_number, with_unread}
use Rattle.test_nameserver.specs.declared.links.OpenLink.{OpenLink}
use Rattle.test_nameserver.proofs.LineLemmas.{position_behind, position_here}

no_index : (found : Option ℕ) → option_map (λ i. i + 1) found ≡ None → found ≡ None
no_index None is = refl
no_index (Some i) is = absurd (cc)

module _ (link : ℕ) (unread : List ℕ) where
  -- the link with other bytes unread
  abbrev other : OpenLink → OpenLink
  other found = record { number = found.number; unread = unread }

  behind_by : (found : Option ℕ) (first : OpenLink) (links : List OpenLink) (at : ℕ) (d : OpenLink) → option_map (λ i. i + 1) found ≡ Some at → has_number link first ≡ false
      → ((i : ℕ) → found ≡ Some i → set links i (other (get_or links i d)) ≡ with_unread link unread links)
      → set (first ∷ links) at (other (get_or (first ∷ links) at d)) ≡ with_unread link unread (first ∷ links)
  behind_by None first links at d is differs rest = absurd (cc)
  behind_by (Some i) first links at d is differs rest =
      let next : at ≡ suc i = let e : at ≡ i + 1 = cc in e ∙ add-one i in
      rw (next, differs) (ap (λ (others : List OpenLink). first ∷ others) (rest i refl))

  by_first : (same : Bool) (first : OpenLink) (links : List OpenLink) (at : ℕ) (d : OpenLink) → has_number link first ≡ same → position (has_number link) (first ∷ links) ≡ Some at
      → ((i : ℕ) → position (has_number link) links ≡ Some i → set links i (other (get_or links i d)) ≡ with_unread link unread links)
      → set (first ∷ links) at (other (get_or (first ∷ links) at d)) ≡ with_unread link unread (first ∷ links)
  by_first true first links at d same is rest =
      let start : at ≡ 0 = let e = sym is ∙ position_here (has_number link) first links same in cc in
      rw (start, same) refl
  by_first false first links at d differs is rest =
      behind_by (position (has_number link) links) first links at d (sym (position_behind (has_number link) first links differs) ∙ is) differs rest

  -- the first link of the number keeps the bytes
  pub first_keeps : (links : List OpenLink) (at : ℕ) (d : OpenLink) → position (has_number link) links ≡ Some at → set links at (other (get_or links at d)) ≡ with_unread link unread links
  first_keeps [] at d is = absurd (cc)
  first_keeps (first ∷ links) at d is = by_first (has_number link first) first links at d refl is (λ i. first_keeps links i d)

  none_by : (same : Bool) (first : OpenLink) (links : List OpenLink) → has_number link first ≡ same → position (has_number link) (first ∷ links) ≡ None
      → (position (has_number link) links ≡ None → with_unread link unread links ≡ links) → with_unread link unread (first ∷ links) ≡ first ∷ links
  none_by true first links same is rest = absurd (let e = sym is ∙ position_here (has_number link) first links same in cc)
  none_by false first links differs is rest =
      rw differs (ap (λ (others : List OpenLink). first ∷ others) (rest (no_index (position (has_number link) links) (sym (position_behind (has_number link) first links differs) ∙ is))))

  -- without a link of the number all stay
  pub none_keeps : (links : List OpenLink) → position (has_number link) links ≡ None → with_unread link unread links ≡ links
  none_keeps [] is = refl
  none_keeps (first ∷ links) is = none_by (has_number link first) first links refl is (none_keeps links)
