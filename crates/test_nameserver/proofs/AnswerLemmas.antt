-- Aliases: what a CNAME record's rdata says, and the answers over them.
use Rattle.std.proofs.Common.{◌≡◌, ◌≢◌, ℕ, zero, suc, ◌+◌, ◌-◌, ◌<◌, ◌≤◌, ◌⊎◌, ⊎_elim, List, [], ◌∷◌, ◌++◌, length, Option, Some, None, refl, sym, ap, ◌∙◌, append_assoc, append-nil, arith}
use Rattle.std.proofs.lemmas.List.{length-append}
use Rattle.std.specs.Prelude.{option_map}
use Rattle.dns_message.specs.declared.message.Record.{Record}
use Rattle.dns_rdata.specs.declared.data.RecordData.{RecordData}
use Rattle.dns_rdata.specs.declared.data.RecordData.TheVariants.{Cname}
use Rattle.dns_rdata.specs.Parts.{whole_name}
use Rattle.dns_rdata.specs.Rdata.{data_of}
use Rattle.test_nameserver.specs.Zone.{records_of}
use Rattle.test_nameserver.specs.Answers.{of_kind, alias_of, followed_by, found_or, answers_over}
use Rattle.test_nameserver.specs.Target.{canonical_of}

cname_data : (rr : Record) → rr.kind ≡ 5 → data_of rr ≡ option_map Cname (whole_name rr.rdata)
unfolding data_of
cname_data rr is = rw is refl

canonical_by : (name : Option (List (List ℕ))) (typed : RecordData) → option_map Cname name ≡ Some typed → canonical_of typed ≡ name
canonical_by None typed is = absurd (cc)
canonical_by (Some name) typed is = let same : typed ≡ Cname name = cc in rw same refl

-- the name of an alias is the one that its rdata is
pub canonical_is : (rr : Record) (typed : RecordData) → rr.kind ≡ 5 → data_of rr ≡ Some typed → canonical_of typed ≡ whole_name rr.rdata
canonical_is rr typed is read = canonical_by (whole_name rr.rdata) typed (sym (cname_data rr is) ∙ read)

none_by : (name : Option (List (List ℕ))) → option_map Cname name ≡ None → name ≡ None
none_by None is = refl
none_by (Some name) is = absurd (cc)

-- where nothing can be read, the rdata is no name
pub canonical_none : (rr : Record) → rr.kind ≡ 5 → data_of rr ≡ None → whole_name rr.rdata ≡ None
canonical_none rr is read = none_by (whole_name rr.rdata) (sym (cname_data rr is) ∙ read)

found_first : (found others : List Record) → 0 < length found → found_or found others ≡ found
found_first [] others some = absurd (omega arith)
found_first (rr ∷ found) others some = refl

others_then : (found others : List Record) → length found ≡ 0 → found_or found others ≡ others
others_then [] others none = refl
others_then (rr ∷ found) others none = absurd (omega arith)

none_from : (found : List Record) → length found ≡ 0 → found ≡ []
none_from [] none = refl
none_from (rr ∷ found) none = absurd (omega arith)

module _ (zone : List Record) (kind : ℕ) (name : List (List ℕ)) where
  over_none : answers_over zone kind 0 name ≡ of_kind kind (records_of name zone)
  unfolding answers_over
  over_none = refl

  over_found : (aliases : ℕ) → 0 < length (of_kind kind (records_of name zone)) → answers_over zone kind aliases name ≡ of_kind kind (records_of name zone)
  unfolding answers_over
  over_found zero some = refl
  over_found (suc aliases) some = found_first (of_kind kind (records_of name zone)) (followed_by (answers_over zone kind aliases) (alias_of (records_of name zone))) some

  over_more : (aliases : ℕ) → aliases ≢ 0 → length (of_kind kind (records_of name zone)) ≡ 0
      → answers_over zone kind aliases name ≡ followed_by (answers_over zone kind (aliases - 1)) (alias_of (records_of name zone))
  unfolding answers_over
  over_more zero some none = absurd (some refl)
  over_more (suc aliases) some none =
      let less : suc aliases - 1 ≡ aliases = omega arith in
      rw less (others_then (of_kind kind (records_of name zone)) (followed_by (answers_over zone kind aliases) (alias_of (records_of name zone))) none)

  module _ (aliases : ℕ) (old new : List Record) (before after : ℕ) (grown : new ≡ old ++ of_kind kind (records_of name zone)) (was : before ≡ length old) (is : after ≡ length new) where
    long : length new ≡ length old + length (of_kind kind (records_of name zone))
    long = ap length grown ∙ length-append old (of_kind kind (records_of name zone))

    -- where there were records, or no alias may be followed, these are the answers
    pub answers_end : (before < after) ⊎ (aliases ≡ 0) → new ≡ old ++ answers_over zone kind aliases name
    answers_end ends =
        grown ∙ ap (λ (found : List Record). old ++ found) (sym (⊎_elim
        (λ some. over_found aliases (omega (arith, long, was, is, some)))
        (λ none. ap (λ (n : ℕ). answers_over zone kind n name) none ∙ over_none) ends))

    module _ (no_more : after ≤ before) (some : aliases ≢ 0) where
      nothing : length (of_kind kind (records_of name zone)) ≡ 0
      nothing = omega (arith, long, was, is, no_more)

      same : new ≡ old
      same = grown ∙ ap (λ (found : List Record). old ++ found) (none_from _ nothing) ∙ append-nil old

      -- without an alias there are none
      pub answers_none : None ≡ alias_of (records_of name zone) → new ≡ old ++ answers_over zone kind aliases name
      answers_none none =
          same ∙ sym (append-nil old) ∙ ap (λ (found : List Record). old ++ found)
          (sym (over_more aliases some nothing ∙ ap (followed_by (answers_over zone kind (aliases - 1))) (sym none)))

      -- with one, its record and what stands behind it
      pub answers_more : (rr : Record) (target : List (List ℕ)) (with_alias end : List Record) → Some (rr, target) ≡ alias_of (records_of name zone)
          → with_alias ≡ new ++ rr ∷ [] → end ≡ with_alias ++ answers_over zone kind (aliases - 1) target → end ≡ old ++ answers_over zone kind aliases name
      answers_more rr target with_alias end alias more rest =
          rest ∙ ap (λ (front : List Record). front ++ answers_over zone kind (aliases - 1) target) (more ∙ ap (λ (front : List Record). front ++ rr ∷ []) same)
          ∙ append_assoc old (rr ∷ []) (answers_over zone kind (aliases - 1) target)
          ∙ ap (λ (found : List Record). old ++ found) (sym (over_more aliases some nothing ∙ ap (followed_by (answers_over zone kind (aliases - 1))) (sym alias)))
