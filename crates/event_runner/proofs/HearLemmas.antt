-- Items that are received, one behind the other, up to the end of the receiving.
use Rattle.event_runner.proofs.Base.{◌≡◌, ◌∙◌, ℕ, ◌+◌, ◌<◌, Bool, false, List, [], ◌∷◌, ◌++◌, length, refl, ap, ap₂, sym, subst, arith, inl, inr, length-append, add-zero, list_any, append_assoc, list_any-append, IsPrefix, Entry, Got, Nothing, WorldCall, told-append, Link, told, Setting, Agrees, Standing, closes_made, is_nothing, losses, receives, receiving, Goes, Stops, CutHearing, CutPart, Hears, HearsNothing, MakesPart, State}
use Rattle.event_runner.proofs.GoesLemmas.{goes_as, goes_joined, goes_none, stops_joined}
use Rattle.event_runner.proofs.WithinLemmas.{counts_as, nearly_joined, within_joined, within_none}

-- a prefix stays one behind the same list
pub prefix_behind : {A : Type 0} (front xs ys : List A) → IsPrefix xs ys → IsPrefix (front ++ xs) (front ++ ys)
prefix_behind front xs ys p = (p.0, append_assoc front xs p.0 ∙ ap (λ l. front ++ l) p.1)

-- what two stretches of calls tell, where the second is read with the links of its standing
pub told_both : {A : Type 0} (tells : List Link → WorldCall → List A) {setting : Setting} {seat : ℕ} {a b : Standing} {es : List Entry} {cs : List WorldCall} (ds : List WorldCall) → Agrees setting seat a es cs b →
    told tells a.held (cs ++ ds) ≡ told tells a.held cs ++ told tells b.held ds
told_both tells {setting} {seat} {a} {b} {es} {cs} ds x = told-append tells a.held cs ds ∙ ap (λ h. told tells a.held cs ++ told tells h ds) (sym x.held_are)

none_of_both : (test : Got → Bool) (xs ys : List Got) → list_any test xs ≡ false → list_any test ys ≡ false → list_any test (xs ++ ys) ≡ false
none_of_both test xs ys x y = list_any-append test xs ys ∙ rw (x, y) refl

module _ (reading : ℕ) where
  pub hears_so_far : (a : State) → Goes (Hears reading 0) a a
  hears_so_far a = goes_none (Hears reading 0) (λ setting seat s. record { within = within_none s; items = refl; count_is = refl; closed = refl }) a

  pub hears_more : (count : ℕ) (a b c : State) → Goes (Hears reading count) a b → Goes (Hears reading 1) b c → Goes (Hears reading (count + 1)) a c
  hears_more count a b c = goes_joined (Hears reading count) (Hears reading 1) (Hears reading (count + 1))
      (λ setting seat x y z es fs cs ds p q.
      let gots = told_both receives ds p.within.agrees in
      record {
        within = within_joined p.within q.within;
        items = ap (list_any is_nothing) gots ∙ none_of_both is_nothing (told receives x.held cs) (told receives y.held ds) p.items q.items;
        count_is = ap length gots ∙ length-append (told receives x.held cs) (told receives y.held ds) ∙ ap₂ (λ m n. m + n) p.count_is q.count_is;
        closed =
            told_both closes_made ds p.within.agrees
            ∙ ap₂ (λ l m. l ++ m) p.closed q.closed
            ∙ sym (told_both losses ds p.within.agrees);
      }) a b c

  -- and then nothing was there
  pub hears_all : (count : ℕ) → count < 64 → (a b c : State) → Goes (Hears reading count) a b → Goes (HearsNothing reading) b c → Goes (MakesPart reading receiving count 0 0) a c
  hears_all count few a b c = goes_joined (Hears reading count) (HearsNothing reading) (MakesPart reading receiving count 0 0)
      (λ setting seat x y z es fs cs ds p q.
      let both = within_joined p.within q.within in
      let gots : told receives x.held (cs ++ ds) ≡ told receives x.held cs ++ Nothing ∷ [] =
      told_both receives ds p.within.agrees ∙ ap (λ l. told receives x.held cs ++ l) q.nothing in
      let size : length (told receives x.held (cs ++ ds)) ≡ count + 1 =
      ap length gots ∙ length-append (told receives x.held cs) (Nothing ∷ []) ∙ ap (λ n. n + 1) p.count_is in
      record {
        made = record {
          agrees = both.agrees;
          alone = both.alone;
          all = inl (record { items = told receives x.held cs; gots_are = gots; no_earlier = p.items }, rw size (omega (arith, few)));
          closed =
              told_both closes_made ds p.within.agrees
              ∙ ap₂ (λ l m. l ++ m) p.closed q.closed
              ∙ sym (told_both losses ds p.within.agrees);
        };
        counts = counts_as (add-zero count) refl refl both.counts;
      }) a b c

  -- or 64 items came
  pub hears_most : (count : ℕ) → count ≡ 64 → (a b : State) → Goes (Hears reading count) a b → Goes (MakesPart reading receiving 64 0 0) a b
  hears_most count all a b = goes_as (Hears reading count) (MakesPart reading receiving 64 0 0)
      (λ setting seat x y es cs p. record {
        made = record { agrees = p.within.agrees; alone = p.within.alone; all = inr (p.items, p.count_is ∙ all); closed = p.closed };
        counts = counts_as all refl refl p.within.counts;
      }) a b

  -- or want of memory came
  pub hears_stop : (count : ℕ) → count < 64 → (a b c : State) → Goes (Hears reading count) a b → Stops (CutHearing reading) b c → Stops (CutPart reading receiving) a c
  hears_stop count few a b c = stops_joined (Hears reading count) (CutHearing reading) (CutPart reading receiving)
      (λ setting seat x y es fs cs ds p q.
      let both = nearly_joined p.within q.within in
      let gots = told_both receives ds p.within.agrees in
      let size : length (told receives x.held (cs ++ ds)) ≡ count + length (told receives y.held ds) =
      ap length gots ∙ length-append (told receives x.held cs) (told receives y.held ds) ∙ ap (λ n. n + length (told receives y.held ds)) p.count_is in
      let all : IsPrefix (told closes_made x.held cs ++ told closes_made y.held ds) (told losses x.held cs ++ told losses y.held ds) =
      subst (λ l. IsPrefix (told closes_made x.held cs ++ told closes_made y.held ds) (l ++ told losses y.held ds)) p.closed
      (prefix_behind (told closes_made x.held cs) (told closes_made y.held ds) (told losses y.held ds) q.closed) in
      record {
        nearly = both.nearly;
        alone = both.alone;
        by_rule = (
          record {
            ends = inr (ap (list_any is_nothing) gots ∙ none_of_both is_nothing (told receives x.held cs) (told receives y.held ds) p.items q.items);
            few = rw size (omega (arith, few, q.few));
          },
          rw (told_both closes_made ds p.within.agrees, told_both losses ds p.within.agrees) all,
        );
      }) a b c
