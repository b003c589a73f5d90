-- Links that are written to, one behind the other, up to the end of the writing.
use Rattle.event_runner.proofs.Base.{◌≡◌, ◌∙◌, ℕ, ◌+◌, ◌<◌, ◌≤◌, ◌==◌, ◌||◌, Bool, true, false, List, [], ◌∷◌, ◌++◌, length, take, drop, map, refl, ap, ap₂, sym, subst, arith, true≢false, ne_eqb, add-one, suc, zero, length-take, get_or, Ok, Err, Option, not, list_all, and_from, and_parts, IsPrefix, append-nil, map-append, list_all-append, Entry, NoMemory, Writing, NotWritten, WorldCall, Close, Write, Row, link_of_row, Calls, Known, Link, told, without_link, Fails, Setting, Agrees, Standing, closes_made, is_flushed, last_took_nothing, losses, writes_astray, writing, wrotes, Goes, Stops, CutPart, CutWriting, Flushes, MakesPart, Writes, WritesAt, WritesTo, WritesUpTo, is_done, with_row, Gets, State}
use Rattle.event_runner.proofs.CallLemmas.{log_trans}
use Rattle.event_runner.proofs.GoesLemmas.{goes_joined, goes_none, stops_joined}
use Rattle.event_runner.proofs.HearLemmas.{prefix_behind, told_both}
use Rattle.event_runner.proofs.RowLemmas.{apart_split, rows_split, without_row}
use Rattle.event_runner.proofs.SoundLemmas.{Lacks, RowsApart}
use Rattle.event_runner.proofs.WithinLemmas.{nearly_joined}
use Rattle.event_runner.proofs.WriteLemmas.{Loses, cut_failed, cut_failing, goes_lost, goes_with, last_behind, others_joined, writes_joined, writes_none}

-- the front of a list
take_exact : {X : Type 0} (xs ys : List X) → take (length xs) (xs ++ ys) ≡ xs
take_exact [] ys = refl
take_exact (x ∷ xs) ys = ap (λ l. x ∷ l) (take_exact xs ys)

take_suc : {X : Type 0} (xs : List X) (y : X) (ys : List X) → take (suc (length xs)) (xs ++ y ∷ ys) ≡ xs ++ y ∷ []
take_suc [] y ys = refl
take_suc (x ∷ xs) y ys = ap (λ l. x ∷ l) (take_suc xs y ys)

take_whole : {X : Type 0} (n : ℕ) (xs : List X) → length xs ≤ n → take n xs ≡ xs
take_whole zero [] fits = refl
take_whole zero (x ∷ xs) fits = absurd (omega arith)
take_whole (suc n) [] fits = refl
take_whole (suc n) (x ∷ xs) fits = ap (λ l. x ∷ l) (take_whole n xs (omega arith))

pub links_size : (rows : List Row) → length (map link_of_row rows) ≡ length rows
links_size [] = refl
links_size (row ∷ rows) = ap suc (links_size rows)

-- the links in front of a row
module _ (held : List Link) (before : List Row) (row : Row) (after : List Row) (index : ℕ) (at : length before ≡ index) (is : held ≡ map link_of_row (before ++ row ∷ after)) where
  pub front_links : take index held ≡ map link_of_row before
  front_links =
      ap₂ (λ n h. take n h) (sym at ∙ sym (links_size before)) (is ∙ map-append link_of_row before (row ∷ after))
      ∙ take_exact (map link_of_row before) (map link_of_row (row ∷ after))

  pub next_links : take (index + 1) held ≡ map link_of_row before ++ link_of_row row ∷ []
  next_links =
      ap₂ (λ n h. take n h) (add-one index ∙ ap suc (sym at ∙ sym (links_size before))) (is ∙ map-append link_of_row before (row ∷ after))
      ∙ take_suc (map link_of_row before) (link_of_row row) (map link_of_row after)

lacks_links : (number : ℕ) (rows : List Row) → Lacks number rows → list_all (λ link. not (number == link.number)) (map link_of_row rows) ≡ true
lacks_links number [] lacks = refl
lacks_links number (row ∷ rows) lacks = and_from _ _ (ap not (ne_eqb number row.number (λ e. lacks.0 (sym e)))) (lacks_links number rows lacks.1)

module _ (reading : ℕ) where
  -- ---- one link

  pub writes_at_stays : (a b : State) (index : ℕ) (before : List Row) (row row' : Row) (after : List Row) → length before ≡ index → a.rows ≡ before ++ row ∷ after → Goes (Flushes reading row.number) a b → Goes (WritesAt reading index true) a b
  writes_at_stays a b index before row row' after at rows = goes_with (Flushes reading row.number) (WritesAt reading index true) a b
      (λ from to es cs sound later p.
      let is : from.held ≡ map link_of_row (before ++ row ∷ after) = sound.held_are ∙ ap (map link_of_row) rows in
      let apart = apart_split row after before (subst (λ r. RowsApart r) rows sound.differ) in
      let front = front_links from.held before row after index at is in
      record {
        writes = p.writes.writes;
        number = row.number;
        front = ap (take index) p.writes.held;
        apart = ap (list_all (λ link. not (row.number == link.number))) front ∙ lacks_links row.number before apart.0;
        others = p.writes.others;
        here = λ yes. (link_of_row row, ap (take (index + 1)) p.writes.held ∙ next_links from.held before row after index at is ∙ ap (λ l. l ++ link_of_row row ∷ []) (sym front), refl, p.flushed);
      })

  to_lost : (number : ℕ) (a b c : State) → Goes (WritesTo reading number) a b → Goes (Loses reading number) b c → Goes (Loses reading number) a c
  to_lost number a b c = goes_joined (WritesTo reading number) (Loses reading number) (Loses reading number)
      (λ setting seat x y z es fs cs ds p q. record {
        writes = writes_joined reading setting seat x y z es fs cs ds p.writes q.writes;
        held = q.held ∙ ap (without_link number) p.held;
        others = others_joined reading number setting seat x y z es cs ds p.writes.within.agrees p.others q.others;
      }) a b c

  writes_at_gone : (a b : State) (index : ℕ) (before : List Row) (row : Row) (after : List Row) → length before ≡ index → a.rows ≡ before ++ row ∷ after → Goes (Loses reading row.number) a b → Goes (WritesAt reading index false) a b
  writes_at_gone a b index before row after at rows = goes_with (Loses reading row.number) (WritesAt reading index false) a b
      (λ from to es cs sound later p.
      let is : from.held ≡ map link_of_row (before ++ row ∷ after) = sound.held_are ∙ ap (map link_of_row) rows in
      let differ = subst (λ r. RowsApart r) rows sound.differ in
      let apart = apart_split row after before differ in
      let front = front_links from.held before row after index at is in
      let left : to.held ≡ map link_of_row before ++ map link_of_row after =
      p.held ∙ ap (without_link row.number) is ∙ without_row before row after differ ∙ map-append link_of_row before after in
      let left_front : take index to.held ≡ map link_of_row before =
      ap₂ (λ n h. take n h) (sym at ∙ sym (links_size before)) left ∙ take_exact (map link_of_row before) (map link_of_row after) in
      record {
        writes = p.writes;
        number = row.number;
        front = left_front ∙ sym front;
        apart = ap (list_all (λ link. not (row.number == link.number))) front ∙ lacks_links row.number before apart.0;
        others = p.others;
        here = λ yes. absurd (true≢false (sym yes));
      })

  pub writes_gone : (a m b : State) (index : ℕ) (before : List Row) (row row' : Row) (after : List Row) (count : ℕ) (failed : Option (List WorldCall)) → length before ≡ index → a.rows ≡ before ++ row ∷ after → m.rows ≡ before ++ row' ∷ after →
      b.rows ≡ before ++ after → b.told ≡ m.told → b.mix ≡ m.mix → row'.number ≡ row.number → Goes (WritesTo reading row.number) a m → Gets (Write row'.number row'.unwritten NotWritten) m.log failed → Gets (Close row'.number) failed b.log →
      Calls (Fails row'.server row'.number reading (Ok count)) 0 m.known b.known → Goes (WritesAt reading index false) a b
  writes_gone a m b index before row row' after count failed at rows middle left keys mix same x got closed call =
      writes_at_gone a b index before row after at rows
      (to_lost row.number a m b x
      (subst (λ n. Goes (Loses reading n) m b) same
      (goes_lost reading m b before row' after middle count call left keys mix (log_trans (Write row'.number row'.unwritten NotWritten ∷ []) (Close row'.number ∷ []) m.log failed b.log got closed))))

  -- want of memory behind writes
  writes_cut : (number : ℕ) (a m b : State) → Goes (WritesTo reading number) a m → Stops (CutWriting reading) m b → Stops (CutWriting reading) a b
  writes_cut number a m b = stops_joined (WritesTo reading number) (CutWriting reading) (CutWriting reading)
      (λ setting seat x y es fs cs ds p q. cut_behind setting seat x y es fs cs ds p.writes q) a m b
    where
      cut_behind : (setting : Setting) (seat : ℕ) (x y : Standing) (es fs : List Entry) (cs ds : List WorldCall) → Writes reading setting seat x es cs y → CutWriting reading setting seat y fs ds → CutWriting reading setting seat x (es ++ fs) (cs ++ ds)
      cut_behind setting seat x y es fs cs ds p q = record {
        within = nearly_joined p.within q.within;
        to_held = told_both writes_astray ds p.within.agrees ∙ ap₂ (λ l m. l ++ m) p.to_held q.to_held;
        closed = rw (told_both closes_made ds p.within.agrees, told_both losses ds p.within.agrees)
            (subst (λ l. IsPrefix (told closes_made x.held cs ++ told closes_made y.held ds) (l ++ told losses y.held ds)) p.closed
            (prefix_behind (told closes_made x.held cs) (told closes_made y.held ds) (told losses y.held ds) q.closed));
      }

  pub stops_failing : (a m b : State) (before : List Row) (row row' : Row) (after : List Row) (unkept : NoMemory) → m.rows ≡ before ++ row' ∷ after → Goes (WritesTo reading row.number) a m → Gets (Write row'.number row'.unwritten NotWritten) m.log b.log →
      Calls (Fails row'.server row'.number reading (Err unkept)) 0 m.known b.known → Stops (CutWriting reading) a b
  stops_failing a m b before row row' after unkept middle x got call =
      writes_cut row.number a m b x (cut_failing reading m b before row' after middle (Fails row'.server row'.number reading (Err unkept)) call call.meant got)

  pub stops_closing : (a m b : State) (before : List Row) (row row' : Row) (after : List Row) (count : ℕ) → m.rows ≡ before ++ row' ∷ after → Goes (WritesTo reading row.number) a m → Gets (Write row'.number row'.unwritten NotWritten) m.log b.log →
      Calls (Fails row'.server row'.number reading (Ok count)) 0 m.known b.known → Stops (CutWriting reading) a b
  stops_closing a m b before row row' after count middle x got call = writes_cut row.number a m b x (cut_failed reading m b before row' after middle count call got)

  -- ---- many links

  pub upto_none : (a : State) → Goes (WritesUpTo reading 0) a a
  upto_none a = goes_none (WritesUpTo reading 0) (λ setting seat s. record { writes = writes_none reading setting seat s; done = refl }) a

  -- what is flushed stays so while another link is written to
  module _ (number : ℕ) (setting : Setting) (seat : ℕ) (x y z : Standing) (es : List Entry) (cs ds : List WorldCall) (agrees : Agrees setting seat x es cs y)
      (others : (k : ℕ) → (number == k) ≡ false → (told (wrotes k) y.held ds ≡ []) × (z.unwritten k ≡ y.unwritten k)) where
    still_flushed : (links : List Link) → list_all (λ link. not (number == link.number)) links ≡ true → list_all (is_flushed y.unwritten x.held cs) links ≡ true → list_all (is_flushed z.unwritten x.held (cs ++ ds)) links ≡ true
    still_flushed [] apart done = refl
    still_flushed (link ∷ links) apart done =
        let a = and_parts (not (number == link.number)) (list_all (λ l. not (number == l.number)) links) apart in
        let d = and_parts (is_flushed y.unwritten x.held cs link) (list_all (is_flushed y.unwritten x.held cs) links) done in
        let ne : (number == link.number) ≡ false = not_true (number == link.number) a.0 in
        let o = others link.number ne in
        let answers : told (wrotes link.number) x.held (cs ++ ds) ≡ told (wrotes link.number) x.held cs =
        told_both (wrotes link.number) ds agrees ∙ ap (λ l. told (wrotes link.number) x.held cs ++ l) o.0 ∙ append-nil (told (wrotes link.number) x.held cs) in
        and_from _ _ (ap₂ is_done o.1 answers ∙ d.0) (still_flushed links a.1 d.1)
      where
        not_true : (b : Bool) → not b ≡ true → b ≡ false
        not_true true h = absurd (true≢false (sym h))
        not_true false h = refl

  pub upto_gone : (index : ℕ) (a b c : State) → Goes (WritesUpTo reading index) a b → Goes (WritesAt reading index false) b c → Goes (WritesUpTo reading index) a c
  upto_gone index a b c = goes_joined (WritesUpTo reading index) (WritesAt reading index false) (WritesUpTo reading index)
      (λ setting seat x y z es fs cs ds p q. record {
        writes = writes_joined reading setting seat x y z es fs cs ds p.writes q.writes;
        done = ap (list_all (is_flushed z.unwritten x.held (cs ++ ds))) q.front ∙ still_flushed q.number setting seat x y z es cs ds p.writes.within.agrees q.others (take index y.held) q.apart p.done;
      }) a b c

  pub upto_stays : (index : ℕ) (a b c : State) → Goes (WritesUpTo reading index) a b → Goes (WritesAt reading index true) b c → Goes (WritesUpTo reading (index + 1)) a c
  upto_stays index a b c = goes_joined (WritesUpTo reading index) (WritesAt reading index true) (WritesUpTo reading (index + 1))
      (λ setting seat x y z es fs cs ds p q.
      let next = q.here refl in
      let link = next.0 in
      let earlier = still_flushed q.number setting seat x y z es cs ds p.writes.within.agrees q.others (take index y.held) q.apart p.done in
      let here : is_done (z.unwritten q.number) (told (wrotes q.number) x.held (cs ++ ds)) ≡ true =
      by_last (length (z.unwritten q.number) == 0) (told (wrotes q.number) x.held cs) (told (wrotes q.number) y.held ds) (told (wrotes q.number) x.held (cs ++ ds)) (told_both (wrotes q.number) ds p.writes.within.agrees) next.3 in
      record {
        writes = writes_joined reading setting seat x y z es fs cs ds p.writes q.writes;
        done =
            ap (list_all (is_flushed z.unwritten x.held (cs ++ ds))) next.1
            ∙ list_all-append (is_flushed z.unwritten x.held (cs ++ ds)) (take index y.held) (link ∷ [])
            ∙ and_from _ _ earlier (and_from _ _ (ap (λ n. is_done (z.unwritten n) (told (wrotes n) x.held (cs ++ ds))) next.2 ∙ here) refl);
      }) a b c
    where
      by_last : (b : Bool) (xs ys all : List Writing) → all ≡ xs ++ ys → (b || last_took_nothing ys) ≡ true → (b || last_took_nothing all) ≡ true
      by_last true xs ys all is h = refl
      by_last false xs ys all is h = ap last_took_nothing is ∙ last_behind xs ys h

  pub upto_all : (count : ℕ) (a b : State) → length b.rows ≤ count → Goes (WritesUpTo reading count) a b → Goes (MakesPart reading writing 0 0 0) a b
  upto_all count a b few = goes_with (WritesUpTo reading count) (MakesPart reading writing 0 0 0) a b
      (λ from to es cs sound later p.
      let size : length to.held ≡ length b.rows = ap length later.held_are ∙ links_size b.rows in
      record {
        made = record {
          agrees = p.writes.within.agrees;
          alone = p.writes.within.alone;
          all = ap (list_all (is_flushed to.unwritten from.held cs)) (sym (take_whole count to.held (omega (arith, size, few)))) ∙ p.done;
          to_held = p.writes.to_held;
          closed = p.writes.closed;
        };
        counts = p.writes.within.counts;
      })

  pub upto_stop : (count : ℕ) (a b c : State) → Goes (WritesUpTo reading count) a b → Stops (CutWriting reading) b c → Stops (CutPart reading writing) a c
  upto_stop count a b c = stops_joined (WritesUpTo reading count) (CutWriting reading) (CutPart reading writing)
      (λ setting seat x y es fs cs ds p q.
      let both = nearly_joined p.writes.within q.within in
      record {
        nearly = both.nearly;
        alone = both.alone;
        by_rule = (
          told_both writes_astray ds p.writes.within.agrees ∙ ap₂ (λ l m. l ++ m) p.writes.to_held q.to_held,
          rw (told_both closes_made ds p.writes.within.agrees, told_both losses ds p.writes.within.agrees)
              (subst (λ l. IsPrefix (told closes_made x.held cs ++ told closes_made y.held ds) (l ++ told losses y.held ds)) p.writes.closed
              (prefix_behind (told closes_made x.held cs) (told closes_made y.held ds) (told losses y.held ds) q.closed)),
        );
      }) a b c

-- ---- a link at its place among the runner's

pub placed_row : (rows : List Row) (index : ℕ) (row : Row) → index < length rows → row ≡ get_or rows index row → rows ≡ take index rows ++ row ∷ drop (index + 1) rows
placed_row rows index row within is = subst (λ r. rows ≡ take index rows ++ r ∷ drop (index + 1) rows) (sym is) (rows_split rows index row within)

pub front_size : (rows : List Row) (index : ℕ) → index < length rows → length (take index rows) ≡ index
front_size rows index within = simp length-take (omega arith)

module _ (reading : ℕ) (known : Known) (rows rows' before after : List Row) (row row' : Row) (keys : List ℕ) (mix : Bool) (l : Option (List WorldCall)) (index : ℕ) (size : length before ≡ index)
    (here : rows ≡ before ++ row ∷ after) (then_ : rows' ≡ before ++ row' ∷ after) where
  abbrev first_state : State
  first_state = record { known = known; rows = rows; told = keys; mix = mix; log = l }

  abbrev second_state : List Row → Option (List WorldCall) → State
  second_state r m = record { known = known; rows = r; told = keys; mix = mix; log = m }

  pub one_stays : (m : Option (List WorldCall)) → Goes (Flushes reading row.number) (with_row reading known before after keys mix row l) (with_row reading known before after keys mix row' m) → Goes (WritesAt reading index true) first_state (second_state rows' m)
  one_stays m x =
      subst (λ r. Goes (WritesAt reading index true) (record { known = known; rows = r; told = keys; mix = mix; log = l }) (second_state rows' m)) (sym here)
      (subst (λ r. Goes (WritesAt reading index true) (with_row reading known before after keys mix row l) (second_state r m)) (sym then_)
      (writes_at_stays reading (with_row reading known before after keys mix row l) (with_row reading known before after keys mix row' m) index before row row' after size refl x))

  pub one_err : (m : Option (List WorldCall)) → Stops (CutWriting reading) (with_row reading known before after keys mix row l) (with_row reading known before after keys mix row' m) → Stops (CutWriting reading) first_state (second_state rows' m)
  one_err m x =
      subst (λ r. Stops (CutWriting reading) (record { known = known; rows = r; told = keys; mix = mix; log = l }) (second_state rows' m)) (sym here)
      (subst (λ r. Stops (CutWriting reading) (with_row reading known before after keys mix row l) (second_state r m)) (sym then_) x)

  module _ (known' : Known) (m : Option (List WorldCall)) (failed : (middle : Option (List WorldCall)) × Goes (WritesTo reading row.number) (with_row reading known before after keys mix row l) (with_row reading known before after keys mix row' middle)
      × Gets (Write row'.number row'.unwritten NotWritten) middle m) where
    pub one_unkept : (unkept : NoMemory) → Calls (Fails row'.server row'.number reading (Err unkept)) 0 known known' → Stops (CutWriting reading) first_state (record { known = known'; rows = rows'; told = keys; mix = mix; log = m })
    one_unkept unkept call =
        subst (λ r. Stops (CutWriting reading) (record { known = known; rows = r; told = keys; mix = mix; log = l }) (record { known = known'; rows = rows'; told = keys; mix = mix; log = m })) (sym here)
        (stops_failing reading (with_row reading known before after keys mix row l) (with_row reading known before after keys mix row' failed.0) (record { known = known'; rows = rows'; told = keys; mix = mix; log = m })
        before row row' after unkept refl failed.1 failed.2 call)

    pub one_unclosed : (count : ℕ) (n : Option (List WorldCall)) → n ≡ m → Calls (Fails row'.server row'.number reading (Ok count)) 0 known known' → Stops (CutWriting reading) first_state (record { known = known'; rows = rows'; told = keys; mix = mix; log = n })
    one_unclosed count n same call =
        subst (λ r. Stops (CutWriting reading) (record { known = known; rows = r; told = keys; mix = mix; log = l }) (record { known = known'; rows = rows'; told = keys; mix = mix; log = n })) (sym here)
        (stops_closing reading (with_row reading known before after keys mix row l) (with_row reading known before after keys mix row' failed.0) (record { known = known'; rows = rows'; told = keys; mix = mix; log = n })
        before row row' after count refl failed.1 (same ∙ failed.2) call)

    pub one_gone : (count : ℕ) (n : Option (List WorldCall)) (left : List Row) → left ≡ before ++ after → row'.number ≡ row.number → Gets (Close row'.number) m n → Calls (Fails row'.server row'.number reading (Ok count)) 0 known known' →
        Goes (WritesAt reading index false) first_state (record { known = known'; rows = left; told = keys; mix = mix; log = n })
    one_gone count n left gone same closed call =
        subst (λ r. Goes (WritesAt reading index false) (record { known = known; rows = r; told = keys; mix = mix; log = l }) (record { known = known'; rows = left; told = keys; mix = mix; log = n })) (sym here)
        (writes_gone reading (with_row reading known before after keys mix row l) (with_row reading known before after keys mix row' failed.0) (record { known = known'; rows = left; told = keys; mix = mix; log = n })
        index before row row' after count m size refl refl gone refl refl same failed.1 failed.2 closed call)
