-- Which lines serve a name, and where the canonical name stands.
use Rattle.std.proofs.Common.{◌≡◌, ℕ, ◌+◌, ◌<◌, ◌≤◌, true, false, ◌↔◌, List, [], ◌∷◌, ◌++◌, length, map, filter, take, drop, get_or, Some, None, refl, ap, sym, subst, ◌∙◌, inl, inr, arith}
use Rattle.std.proofs.lemmas.Bool.{and_parts, both_ways, cases_lt, false_from_ne_true}
use Rattle.std.proofs.lemmas.List.{take-append-drop, take_all, take_more, drop_more, map-append, get_or_default}
use Rattle.std.proofs.lemmas.List.Elements.{filter-append}
use Rattle.net_addr.specs.declared.addr.Addr.{Addr}
use Rattle.net_addr.specs.declared.addr.Family.{Family}
use Rattle.net_addr.specs.Mapped.{allows}
use Rattle.hosts_file.specs.declared.hosts.HostLine.{HostLine}
use Rattle.hosts_file.specs.declared.index.HashedName.{HashedName}
use Rattle.hosts_file.specs.Hosts.{has_name, serves, lines_for, addresses_of, first_canonical, canonical_of}
use Rattle.hosts_file.specs.Index.{hashed, LeadToLines}
use Rattle.hosts_file.proofs.FilterLemmas.{filter_until}

module _ (name : List (List ℕ)) (family : Family) where
  -- where no line in front serves the name
  first_behind : (front : List HostLine) (line : HostLine) (behind : List HostLine) → lines_for name family front ≡ [] → serves name family line ≡ true
      → canonical_of name family (front ++ line ∷ behind) ≡ Some line.canonical
  first_behind front line behind none hit = rw (filter-append (serves name family) front (line ∷ behind), none, hit) refl

  -- where none of the lines so far serves the name, and the next does
  first_served : (lines : List HostLine) (i : ℕ) (line : HostLine) → i < length lines → line ≡ get_or lines i line
      → lines_for name family (take i lines) ≡ [] → serves name family line ≡ true → canonical_of name family lines ≡ Some line.canonical
  first_served lines i line lt is none hit =
      let parts : take i lines ++ line ∷ drop (i + 1) lines ≡ lines =
      ap (λ x. take i lines ++ x ∷ drop (i + 1) lines) is ∙ (ap (λ l. take i lines ++ l) (sym (drop_more lines i line lt)) ∙ take-append-drop i lines) in
      rw (← parts) (first_behind (take i lines) line (drop (i + 1) lines) none hit)

  -- there is a canonical name exactly where there is an address
  pub canonical_none : (lines : List HostLine) → (canonical_of name family lines ≡ None) ↔ (addresses_of name family lines ≡ [])
  canonical_none lines =
      elim (lines_for name family lines) as (λ (found : List HostLine). (first_canonical found ≡ None) ↔ (map (λ line. line.address) found ≡ [])) [
        | [] ↦ (λ e. refl, λ e. refl)
        | line ∷ found ↦ (λ e. absurd cc, λ e. absurd cc)
      ]

-- ---- lines that hashed names lead to

-- the lines of the names so far are before the next line, and the addresses are those of the lines before it
pub record HavePassed (name : List (List ℕ)) (family : Family) (lines : List HostLine) (found : List HashedName) (j next : ℕ) (addresses : List Addr) : Type 0 where
  pub seen : (k : ℕ) (e : HashedName) → k < j → (get_or found k e).line < next
  pub so_far : addresses ≡ addresses_of name family (take next lines)

-- no line of the names so far serves the name
abbrev pub NoneServes : List (List ℕ) → Family → List HostLine → List HashedName → ℕ → Type 0
NoneServes name family lines found j = (k : ℕ) (e : HashedName) (d : HostLine) → k < j → serves name family (get_or lines (get_or found k e).line d) ≡ false

module _ (name : List (List ℕ)) (family : Family) (lines : List HostLine) (found : List HashedName) (lead : LeadToLines name lines found) where
  -- no line from m on and before n serves the name, where those that serve it by the names so far are before m, and the others not before n
  none_between : (j m n : ℕ)
      → ((k : ℕ) (e : HashedName) (d : HostLine) → k < j → serves name family (get_or lines (get_or found k e).line d) ≡ true → (get_or found k e).line < m)
      → ((k : ℕ) (e : HashedName) → j ≤ k → k < length found → n ≤ (get_or found k e).line)
      → (i : ℕ) (d : HostLine) → m ≤ i → i < n → i < length lines → serves name family (get_or lines i d) ≡ false
  none_between j m n past ahead i d from to lt = false_from_ne_true (serves name family (get_or lines i d)) (λ hit.
      let there = lead.all_lines i d lt (and_parts (allows family (get_or lines i d).address) (has_name name (get_or lines i d)) hit).1 in
      let k : ℕ = there.0 in
      let line : (get_or found k (hashed i name)).line ≡ i = ap (λ (like : HashedName). like.line) there.2 in
      elim (cases_lt k j) [
        | inl early ↦
            let same_hit = subst (λ (number : ℕ). serves name family (get_or lines number d) ≡ true) (sym line) hit in
            absurd (omega (arith, line, from, past k (hashed i name) d early same_hit))
        | inr late ↦ absurd (omega (arith, line, to, ahead k (hashed i name) late there.1))
      ])

  -- the lines behind those of the names that are still to come
  at_next : (j : ℕ) (d : HashedName) (k : ℕ) (e : HashedName) → j ≤ k → k < length found → (get_or found j d).line ≤ (get_or found k e).line
  at_next j d k e upto lt =
      let first : get_or found j d ≡ get_or found j e = get_or_default found j d e (omega (arith, upto, lt)) in
      omega (arith, ap (λ (x : HashedName). x.line) first, lead.in_order j k e upto lt)

  -- the name at j is the one at an index that is neither below j nor above it
  the_same : (j k : ℕ) (d e : HashedName) → j < length found → k < j + 1 → j ≤ k → get_or found j d ≡ get_or found k e
  the_same j k d e lt upto late =
      let here : j ≡ k = omega (arith, upto, late) in
      get_or_default found j d e lt ∙ ap (λ (n : ℕ). get_or found n e) here

  -- ---- the addresses so far

  -- the line of the next name was there already
  pub passed_again : (j next : ℕ) (addresses : List Addr) (d : HashedName) → j < length found → (get_or found j d).line < next
      → HavePassed name family lines found j next addresses → HavePassed name family lines found (j + 1) next addresses
  passed_again j next addresses d lt before passed = record {
    seen = λ k e upto. elim (cases_lt k j) [
      | inl early ↦ passed.seen k e early
      | inr late ↦ omega (arith, ap (λ (x : HashedName). x.line) (the_same j k d e lt upto late), before)
    ];
    so_far = passed.so_far;
  }

  -- it was not, and then its address follows if it serves the name
  pub passed_more : (j next : ℕ) (addresses more : List Addr) (d : HashedName) (line : HostLine) → j < length found → next ≤ (get_or found j d).line
      → line ≡ get_or lines (get_or found j d).line line → more ≡ addresses ++ addresses_of name family (line ∷ [])
      → HavePassed name family lines found j next addresses → HavePassed name family lines found (j + 1) ((get_or found j d).line + 1) more
  passed_more j next addresses more d line lt behind line_is added passed =
      let number : ℕ = (get_or found j d).line in
      let within : number < length lines = lead.within j d lt in
      let skipped : filter (serves name family) (take number lines) ≡ filter (serves name family) (take next lines) =
      filter_until (serves name family) lines next number behind
      (none_between j next number (λ k e d early hit. passed.seen k e early) (at_next j d)) in
      let so_far : addresses_of name family (take number lines) ≡ addresses_of name family (take next lines) = ap (map (λ (l : HostLine). l.address)) skipped in
      let up : take (number + 1) lines ≡ take number lines ++ line ∷ [] = take_more lines number line within ∙ ap (λ (l : HostLine). take number lines ++ l ∷ []) (sym line_is) in
      let all : addresses_of name family (take (number + 1) lines) ≡ addresses_of name family (take number lines) ++ addresses_of name family (line ∷ []) =
      ap (addresses_of name family) up
      ∙ (ap (map (λ (l : HostLine). l.address)) (filter-append (serves name family) (take number lines) (line ∷ []))
      ∙ map-append (λ (l : HostLine). l.address) (lines_for name family (take number lines)) (lines_for name family (line ∷ []))) in
      record {
        seen = λ k e upto. elim (cases_lt k j) [
          | inl early ↦ omega (arith, passed.seen k e early, behind)
          | inr late ↦ omega (arith, ap (λ (x : HashedName). x.line) (the_same j k d e lt upto late))
        ];
        so_far = added ∙ (ap (λ (l : List Addr). l ++ addresses_of name family (line ∷ [])) (passed.so_far ∙ sym so_far) ∙ sym all);
      }

  -- behind the last name all addresses are there
  pub passed_all : (j next : ℕ) (addresses : List Addr) → length found ≤ j → HavePassed name family lines found j next addresses → addresses ≡ addresses_of name family lines
  passed_all j next addresses past passed =
      let end : ℕ = next + length lines in
      let skipped : filter (serves name family) (take end lines) ≡ filter (serves name family) (take next lines) =
      filter_until (serves name family) lines next end (omega arith)
      (none_between j next end (λ k e d early hit. passed.seen k e early) (λ k e late lt. absurd (omega (arith, past, late, lt)))) in
      passed.so_far ∙ (ap (map (λ (l : HostLine). l.address)) (sym skipped) ∙ ap (addresses_of name family) (take_all end lines (omega arith)))

  -- ---- the canonical name

  -- that of the next serves it, and none before
  pub canonical_here : (j : ℕ) (d : HashedName) (line : HostLine) → j < length found → line ≡ get_or lines (get_or found j d).line line → serves name family line ≡ true
      → NoneServes name family lines found j → canonical_of name family lines ≡ Some line.canonical
  canonical_here j d line lt line_is hit none =
      let number : ℕ = (get_or found j d).line in
      let before : lines_for name family (take number lines) ≡ [] =
      filter_until (serves name family) lines 0 number (omega arith)
      (none_between j 0 number (λ k e other early hit. absurd (both_ways _ (none k e other early) hit)) (at_next j d)) in
      first_served name family lines number line (lead.within j d lt) line_is before hit

  -- behind the last name none serves it
  pub canonical_nowhere : (j : ℕ) → length found ≤ j → NoneServes name family lines found j → canonical_of name family lines ≡ None
  canonical_nowhere j past none =
      let before : lines_for name family (take (length lines) lines) ≡ [] =
      filter_until (serves name family) lines 0 (length lines) (omega arith)
      (none_between j 0 (length lines) (λ k e d early hit. absurd (both_ways _ (none k e d early) hit)) (λ k e late lt. absurd (omega (arith, past, late, lt)))) in
      ap first_canonical (ap (lines_for name family) (sym (take_all (length lines) lines (omega arith))) ∙ before)
