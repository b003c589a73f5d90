-- Bytes that are written to a link, call by call.
use Rattle.event_runner.proofs.Base.{◌≡◌, ◌≢◌, ◌∙◌, ℕ, ◌==◌, ◌||◌, Bool, true, false, List, [], ◌∷◌, ◌++◌, length, drop, refl, ap, ap₂, sym, subst, arith, inl, ⊎_elim, true≢false, eq-eqb, ne_eqb, cond, Err, None, Ok, Option, Result, Some, is_err, option_map, list_any, append-nil, map-append, Entry, What, Fault, NoMemory, Wrote, Count, NotWritten, WorldCall, Close, Write, agrees_nearly, flight-cases, agrees_written, AreOthers, agrees_step, noted-others, noted-own, without_taken, Row, link_of_row, Writing, followed_by, Calls, Known, held_after, held_link, told, without_link, Fails, Meaning, Setting, Agrees, Standing, arrived, asked, faulted, faults, is_start_on, noted, noticed, notices, opened, queued, closes_made, last_took_nothing, losses, writes_astray, wrotes, Break, Goes, Leads, Leaves, Stops, Stretch, CutWriting, FlushEnds, Flushes, Writes, WritesTo, is_done, Gets, IsTurnOwner, State}
use Rattle.event_runner.proofs.CallLemmas.{goes_add, goes_alone, own, own_none, own_one, past_behind, stops_add, stops_look}
use Rattle.event_runner.proofs.GoesLemmas.{goes_joined, goes_none, told_as}
use Rattle.event_runner.proofs.HearLemmas.{told_both}
use Rattle.event_runner.proofs.ReceiveLemmas.{stops_before}
use Rattle.event_runner.proofs.RowLemmas.{apart_again, apart_split, each_both, each_join, each_split, row_held, row_started, sound_lost, without_again}
use Rattle.event_runner.proofs.SoundLemmas.{Sound, sound_idle, sound_of, sound_one}
use Rattle.event_runner.proofs.WithinLemmas.{within_joined, within_none}

-- a relation that follows from another, where the states hold
pub goes_with : (one other : Stretch) (a b : State) →
    ((from to : Standing) (es : List Entry) (cs : List WorldCall) → Sound a.known.setting a.rows a.told from → Sound a.known.setting b.rows b.told to → one a.known.setting a.known.seat from es cs to → other a.known.setting a.known.seat from es cs to) →
    Goes one a b → Goes other a b
goes_with one other a b as_other x = record {
  goes_on = x.goes_on;
  made = x.made;
  told = told_as
      (λ cs. IsTurnOwner b.known → Leads one a b x.goes_on.since cs) (λ cs. IsTurnOwner b.known → Leads other a b x.goes_on.since cs)
      (λ cs p owner from holds.
      let to = p owner from holds in
      let sound : Sound a.known.setting b.rows b.told to.0 = subst (λ s. Sound s b.rows b.told to.0) x.goes_on.desk.setting (sound_of b to.0 to.2) in
      (to.0, as_other from to.0 x.goes_on.since cs (sound_of a from holds) sound to.1, to.2))
      a.log b.log x.told;
}

-- a part that is whole may be seen as one that was cut short behind it
pub stops_as : (one : Stretch) (cut : Break) (a b c : State) → c.known ≡ b.known → c.log ≡ b.log →
    ((setting : Setting) (seat : ℕ) (from to : Standing) (es : List Entry) (cs : List WorldCall) → one setting seat from es cs to → cut setting seat from es cs) → Goes one a b → Stops cut a c
stops_as one cut a b c known log as_cut x =
    let whole : Stops cut a b = record {
      goes_on = x.goes_on;
      made = x.made;
      told = told_as
          (λ cs. IsTurnOwner b.known → Leads one a b x.goes_on.since cs) (λ cs. IsTurnOwner b.known → Leaves cut a x.goes_on.since cs)
          (λ cs p owner from holds. let to = p owner from holds in as_cut a.known.setting a.known.seat from to.0 x.goes_on.since cs to.1)
          a.log b.log x.told;
    } in
    moved known log whole
  where
    moved : c.known ≡ b.known → c.log ≡ b.log → Stops cut a b → Stops cut a c
    moved known log s =
        subst (λ l. Stops cut a (record c { log = l })) (sym log) (subst (λ k. Stops cut a (record { known = k; rows = c.rows; told = c.told; mix = c.mix; log = b.log })) (sym known)
        (record { goes_on = s.goes_on; made = s.made; told = s.told }))

-- the last of the writes took nothing
pub last_behind : (xs ys : List Writing) → last_took_nothing ys ≡ true → last_took_nothing (xs ++ ys) ≡ true
last_behind [] ys h = h
last_behind (x ∷ []) [] h = absurd (true≢false (sym h))
last_behind (x ∷ []) (y ∷ ys) h = h
last_behind (x ∷ z ∷ xs) ys h = last_behind (z ∷ xs) ys h

nil_if : (b : Bool) → ◌≡◌ {A = List ℕ} (cond b [] []) []
nil_if true = refl
nil_if false = refl

module _ (reading : ℕ) where
  pub writes_joined : (setting : Setting) (seat : ℕ) (x y z : Standing) (es fs : List Entry) (cs ds : List WorldCall) → Writes reading setting seat x es cs y → Writes reading setting seat y fs ds z → Writes reading setting seat x (es ++ fs) (cs ++ ds) z
  writes_joined setting seat x y z es fs cs ds p q = record {
    within = within_joined p.within q.within;
    to_held = told_both writes_astray ds p.within.agrees ∙ ap₂ (λ l m. l ++ m) p.to_held q.to_held;
    closed =
        told_both closes_made ds p.within.agrees ∙ ap₂ (λ l m. l ++ m) p.closed q.closed
        ∙ sym (told_both losses ds p.within.agrees);
  }

  pub writes_none : (setting : Setting) (seat : ℕ) (s : Standing) → Writes reading setting seat s [] [] s
  writes_none setting seat s = record { within = within_none s; to_held = refl; closed = refl }

  pub others_joined : (number : ℕ) (setting : Setting) (seat : ℕ) (x y z : Standing) (es : List Entry) (cs ds : List WorldCall) → Agrees setting seat x es cs y →
      ((k : ℕ) → (number == k) ≡ false → (told (wrotes k) x.held cs ≡ []) × (y.unwritten k ≡ x.unwritten k)) → ((k : ℕ) → (number == k) ≡ false → (told (wrotes k) y.held ds ≡ []) × (z.unwritten k ≡ y.unwritten k)) →
      (k : ℕ) → (number == k) ≡ false → (told (wrotes k) x.held (cs ++ ds) ≡ []) × (z.unwritten k ≡ x.unwritten k)
  others_joined number setting seat x y z es cs ds agrees p q k ne =
      (told_both (wrotes k) ds agrees ∙ ap₂ (λ l m. l ++ m) (p k ne).0 (q k ne).0, (q k ne).1 ∙ (p k ne).1)

  pub to_joined : (number : ℕ) (a b c : State) → Goes (WritesTo reading number) a b → Goes (WritesTo reading number) b c → Goes (WritesTo reading number) a c
  to_joined number a b c = goes_joined (WritesTo reading number) (WritesTo reading number) (WritesTo reading number)
      (λ setting seat x y z es fs cs ds p q. record {
        writes = writes_joined setting seat x y z es fs cs ds p.writes q.writes;
        held = q.held ∙ p.held;
        others = others_joined number setting seat x y z es cs ds p.writes.within.agrees p.others q.others;
      }) a b c

  pub to_none : (number : ℕ) (a : State) → Goes (WritesTo reading number) a a
  to_none number a = goes_none (WritesTo reading number) (λ setting seat s. record { writes = writes_none setting seat s; held = refl; others = λ k ne. (refl, refl) }) a

  -- the last write took no byte
  pub to_flushed : (number : ℕ) (a b c : State) → Goes (WritesTo reading number) a b → Goes (Flushes reading number) b c → Goes (Flushes reading number) a c
  to_flushed number a b c = goes_joined (WritesTo reading number) (Flushes reading number) (Flushes reading number)
      (λ setting seat x y z es fs cs ds p q. record {
        writes = record {
          writes = writes_joined setting seat x y z es fs cs ds p.writes q.writes.writes;
          held = q.writes.held ∙ p.held;
          others = others_joined number setting seat x y z es cs ds p.writes.within.agrees p.others q.writes.others;
        };
        flushed = by_last (length (z.unwritten number) == 0) (told (wrotes number) x.held cs) (told (wrotes number) y.held ds) (told (wrotes number) x.held (cs ++ ds)) (told_both (wrotes number) ds p.writes.within.agrees) q.flushed;
      }) a b c
    where
      by_last : (b : Bool) (xs ys all : List Writing) → all ≡ xs ++ ys → (b || last_took_nothing ys) ≡ true → (b || last_took_nothing all) ≡ true
      by_last true xs ys all is h = refl
      by_last false xs ys all is h = ap last_took_nothing is ∙ last_behind xs ys h

  -- want of memory
  pub to_cut : (number : ℕ) (a b c : State) → c.known ≡ b.known → c.log ≡ b.log → Goes (WritesTo reading number) a b → Stops (CutWriting reading) a c
  to_cut number a b c known log = stops_as (WritesTo reading number) (CutWriting reading) a b c known log
      (λ setting seat from to es cs p. record {
        within = record { nearly = agrees_nearly setting seat from to es cs p.writes.within.agrees; alone = p.writes.within.alone };
        to_held = p.writes.to_held;
        closed = ([], append-nil (told closes_made from.held cs) ∙ p.writes.closed);
      })

  -- ---- one write

  module _ (known : Known) (before : List Row) (row : Row) (after : List Row) (keys : List ℕ) (mix : Bool) where
    -- the state with a row in the place
    abbrev at_row : Row → Option (List WorldCall) → State
    at_row r log = record { known = known; rows = before ++ r ∷ after; told = keys; mix = mix; log = log }

    abbrev left_row : ℕ → Row
    left_row count = record row { unwritten = drop count row.unwritten }

    -- the write of all that is left, with this answer
    abbrev offer : Wrote → Writing
    offer outcome = record { link = row.number; bytes = row.unwritten; outcome = outcome }

    sound_wrote : (setting : Setting) (count : ℕ) (s : Standing) (others : AreOthers known.seat []) → Sound setting (before ++ row ∷ after) keys s →
        Sound setting (before ++ left_row count ∷ after) keys (record { past = s.past; held = s.held; unwritten = without_taken setting known.seat s [] others row.number row.unwritten count })
    sound_wrote setting count s others sound =
        let row' : Row = left_row count in
        let apart = apart_split row after before sound.differ in
        let unwritten = each_split (λ (r : Row). s.unwritten r.number ≡ r.unwritten) before (row ∷ after) sound.unwritten_are in
        let opened_are = each_split (λ (r : Row). (r.number ≢ 0) × (list_any (is_start_on r.number) s.past ≡ true)) before (row ∷ after) sound.opened_are in
        let has = row_started setting keys before row after s sound in
        record {
          held_are = sound.held_are ∙ map-append link_of_row before (row ∷ after) ∙ sym (map-append link_of_row before (row' ∷ after));
          unwritten_are = each_join (λ (r : Row). cond (row.number == r.number) (drop count row.unwritten) (s.unwritten r.number) ≡ r.unwritten) before (row' ∷ after)
              (each_both (λ (r : Row). r.number ≢ row.number) (λ (r : Row). s.unwritten r.number ≡ r.unwritten) (λ (r : Row). cond (row.number == r.number) (drop count row.unwritten) (s.unwritten r.number) ≡ r.unwritten) before
              (λ r ne e. rw (ne_eqb row.number r.number (λ same. ne (sym same))) e) apart.0 unwritten.0) (
                rw (eq-eqb row.number row.number refl) refl,
                each_both (λ (r : Row). r.number ≢ row.number) (λ (r : Row). s.unwritten r.number ≡ r.unwritten) (λ (r : Row). cond (row.number == r.number) (drop count row.unwritten) (s.unwritten r.number) ≡ r.unwritten) after
                    (λ r ne e. rw (ne_eqb row.number r.number (λ same. ne (sym same))) e) apart.1 unwritten.1.1,
              );
          opened_are = each_join (λ (r : Row). (r.number ≢ 0) × (list_any (is_start_on r.number) s.past ≡ true)) before (row' ∷ after) opened_are.0 opened_are.1;
          differ = apart_again row after row' refl before sound.differ;
          fresh = λ k none.
              let other : row.number ≢ k = λ same. true≢false (sym has.1 ∙ ap (λ n. list_any (is_start_on n) s.past) same ∙ none) in
              rw (ne_eqb row.number k other) (sound.fresh k none);
          flying = sound.flying;
          told_are = sound.told_are;
        }

    module _ (count : ℕ) (log more : Option (List WorldCall)) (got : Gets (Write row.number row.unwritten (Count count)) log more) where
      write_leads : (from : Standing) → Sound known.setting (before ++ row ∷ after) keys from → (to : Standing) × (to.past ≡ followed_by from.past []) × WritesTo reading row.number known.setting known.seat from [] (Write row.number row.unwritten (Count count) ∷ []) to
          × (told (wrotes row.number) from.held (Write row.number row.unwritten (Count count) ∷ []) ≡ offer (Count count) ∷ []) × Sound known.setting (before ++ left_row count ∷ after) keys to
      write_leads from sound =
          let cs : List WorldCall = Write row.number row.unwritten (Count count) ∷ [] in
          let unwritten = each_split (λ (r : Row). from.unwritten r.number ≡ r.unwritten) before (row ∷ after) sound.unwritten_are in
          let held = row_held known.setting keys before row after from sound in (
            record { past = from.past; held = from.held; unwritten = without_taken known.setting known.seat from [] refl row.number row.unwritten count },
            refl,
            record {
              writes = record {
                within = record {
                  agrees = agrees_written known.setting known.seat from [] refl row.number row.unwritten count unwritten.1.0;
                  alone = refl;
                  counts = record { received_are = refl; expired_are = refl; started_are = refl };
                };
                to_held = rw held refl;
                closed = refl;
              };
              held = refl;
              others = λ k ne. (rw ne refl, rw ne refl);
            },
            rw (eq-eqb row.number row.number refl) refl,
            sound_wrote known.setting count from refl sound,
          )

      -- some bytes were taken
      pub goes_wrote : Goes (WritesTo reading row.number) (at_row row log) (at_row (left_row count) more)
      goes_wrote =
          goes_alone (at_row row log) (at_row (left_row count) more) refl (Write row.number row.unwritten (Count count) ∷ []) got (WritesTo reading row.number) refl
          (λ from sound. let x = write_leads from sound in (x.0, x.1, x.2, x.4))

    -- no byte was taken, though there was one
    pub goes_full : (log more : Option (List WorldCall)) → (length row.unwritten == 0) ≡ false → Gets (Write row.number row.unwritten (Count 0)) log more → Goes (Flushes reading row.number) (at_row row log) (at_row (left_row 0) more)
    goes_full log more some got =
        goes_alone (at_row row log) (at_row (left_row 0) more) refl (Write row.number row.unwritten (Count 0) ∷ []) got (Flushes reading row.number) refl
        (λ from sound. let x = write_leads 0 log more got from sound in (
          x.0,
          x.1,
          record { writes = x.2; flushed = taken (length (x.0.unwritten row.number) == 0) (told (wrotes row.number) from.held (Write row.number row.unwritten (Count 0) ∷ [])) x.3 some },
          x.4,
        ))
      where
        taken : (b : Bool) (writes : List Writing) → writes ≡ offer (Count 0) ∷ [] → (length row.unwritten == 0) ≡ false → (b || last_took_nothing writes) ≡ true
        taken true writes is some = refl
        taken false writes is some = ap last_took_nothing is ∙ rw some refl

    -- nothing is left
    pub goes_empty : (a : State) (log : Option (List WorldCall)) → row.unwritten ≡ [] → a.known.setting ≡ known.setting → Goes (WritesTo reading row.number) a (at_row row log) → Goes (Flushes reading row.number) a (at_row row log)
    goes_empty a log empty same x =
        goes_with (WritesTo reading row.number) (Flushes reading row.number) a (at_row row log)
        (λ from to es cs sound later p. record {
          writes = p;
          flushed = nothing (to.unwritten row.number) (told (wrotes row.number) from.held cs) ((each_split (λ (r : Row). to.unwritten r.number ≡ r.unwritten) before (row ∷ after) later.unwritten_are).1.0 ∙ empty);
        }) x
      where
        nothing : (unwritten : List ℕ) (answers : List Writing) → unwritten ≡ [] → is_done unwritten answers ≡ true
        nothing unwritten answers is = rw is refl

  -- ---- a write that failed

  abbrev failed_at : ℕ → ℕ → What
  failed_at server number = Fault server number reading

  -- the link is closed and gone
  pub record Loses (number : ℕ) (setting : Setting) (seat : ℕ) (old : Standing) (entries : List Entry) (calls : List WorldCall) (new : Standing) : Type 0 where
    pub writes : Writes reading setting seat old entries calls new
    pub held : new.held ≡ without_link number old.held
    pub others : (link : ℕ) → (number == link) ≡ false → (told (wrotes link) old.held calls ≡ []) × (new.unwritten link ≡ old.unwritten link)

  module _ (a b : State) (before : List Row) (row : Row) (after : List Row) (rows : a.rows ≡ before ++ row ∷ after) where
    abbrev failing : WorldCall
    failing = Write row.number row.unwritten NotWritten

    held_here : (from : Standing) → Sound a.known.setting a.rows a.told from → held_link row.number from.held ≡ Some (link_of_row row)
    held_here from sound = row_held a.known.setting a.told before row after from (subst (λ r. Sound a.known.setting r a.told from) rows sound)

    none_written : (k : ℕ) (bytes : List ℕ) (rest : List ℕ) → rest ≡ [] → cond (row.number == k) [] [] ++ rest ≡ []
    none_written k bytes rest is = ap₂ (λ l m. l ++ m) (nil_if (row.number == k)) is

    -- before its Fault
    pub cut_failing : (meaning : Meaning) (call : Calls meaning 0 a.known b.known) → call.added ≡ None → Gets failing a.log b.log → Stops (CutWriting reading) a b
    cut_failing meaning call none log =
        stops_look meaning a b call none (failing ∷ []) log (CutWriting reading)
        (λ os others idle from sound. record {
          within = record {
            nearly = record {
              arrivals = inl (noted-others a.known.seat arrived from.past os others);
              sends = inl (noted-others a.known.seat (asked a.known.setting) from.past os others);
              links = inl (noted-others a.known.seat opened from.past os others);
              writes = λ k. (
                from.unwritten k ++ noted a.known.seat (queued a.known.setting k) from.past os,
                ap (λ l. l ++ (from.unwritten k ++ noted a.known.seat (queued a.known.setting k) from.past os)) (none_written k row.unwritten [] refl),
              );
              faults_are = stops_before faults from.held failing (noted a.known.seat faulted from.past os) (noted-others a.known.seat faulted from.past os others);
              in_order = inl (stops_before notices from.held failing (noted a.known.seat (noticed a.known.setting) from.past os) (noted-others a.known.seat (noticed a.known.setting) from.past os others));
            };
            alone = rw (own_none a.known.seat os others) refl;
          };
          to_held = rw (held_here from sound) refl;
          closed = (told losses from.held (failing ∷ []), refl);
        })

    -- behind its Fault, before its close
    pub cut_failed : (count : ℕ) → Calls (Fails row.server row.number reading (Ok count)) 0 a.known b.known → Gets failing a.log b.log → Stops (CutWriting reading) a b
    cut_failed count call log =
        stops_add (Fails row.server row.number reading (Ok count)) a b call (failed_at row.server row.number) call.meant.0 refl (failing ∷ []) log (CutWriting reading)
        (λ os others idle from sound meant.
        let entry = own a.known.seat (failed_at row.server row.number) in
        let mine = own_one a.known.seat os entry others refl in
        record {
          within = record {
            nearly = record {
              arrivals = inl (noted-own a.known.seat arrived from.past os entry others refl);
              sends = inl (noted-own a.known.seat (asked a.known.setting) from.past os entry others refl);
              links = inl (noted-own a.known.seat opened from.past os entry others refl);
              writes = λ k. (
                from.unwritten k ++ noted a.known.seat (queued a.known.setting k) from.past (os ++ entry ∷ []),
                ap (λ l. l ++ (from.unwritten k ++ noted a.known.seat (queued a.known.setting k) from.past (os ++ entry ∷ []))) (none_written k row.unwritten [] refl),
              );
              faults_are = inl (noted-own a.known.seat faulted from.past os entry others refl ∙ rw (held_here from sound) refl);
              in_order = inl (inl (noted-own a.known.seat (noticed a.known.setting) from.past os entry others refl ∙ rw (held_here from sound) refl));
            };
            alone = rw (mine, eq-eqb reading reading refl) refl;
          };
          to_held = rw (held_here from sound) refl;
          closed = (told losses from.held (failing ∷ []), refl);
        })

    pub goes_lost : (count : ℕ) → Calls (Fails row.server row.number reading (Ok count)) 0 a.known b.known → b.rows ≡ before ++ after → b.told ≡ a.told → b.mix ≡ a.mix →
        b.log ≡ option_map (λ calls. calls ++ (failing ∷ Close row.number ∷ [])) a.log → Goes (Loses row.number) a b
    goes_lost count call left keys mix log =
        goes_add (Fails row.server row.number reading (Ok count)) a b call (failed_at row.server row.number) call.meant.0 refl (failing ∷ Close row.number ∷ []) log (Loses row.number) mix
        (λ os others idle from sound meant.
        let setting = a.known.setting in
        let seat = a.known.seat in
        let fault = failed_at row.server row.number in
        let entry = own seat fault in
        let cs : List WorldCall = failing ∷ Close row.number ∷ [] in
        let mine = own_one seat os entry others refl in
        let at : Sound setting (before ++ row ∷ after) a.told from = subst (λ r. Sound setting r a.told from) rows sound in
        let held = held_here from sound in
        let mid : Standing = record { past = followed_by from.past os; held = from.held; unwritten = from.unwritten } in
        let to : Standing = record { past = fault ∷ followed_by from.past os; held = held_after from.held cs; unwritten = from.unwritten } in
        let middle : Standing = record { past = fault ∷ followed_by from.past os; held = from.held; unwritten = from.unwritten } in
        let faulted_sound : Sound setting (before ++ row ∷ after) a.told middle = sound_one setting (before ++ row ∷ after) a.told fault mid refl (sound_idle setting (before ++ row ∷ after) a.told os from idle at) in
        let lost = sound_lost setting a.told before row after middle faulted_sound (λ leg x flies. ⊎_elim
        (λ h. absurd (cc (h.0)))
        (λ h. h.1)
        (flight-cases setting leg fault (followed_by from.past os) x flies)) in
        let gone : held_after from.held cs ≡ without_link row.number from.held =
        ap (without_link row.number) lost.held_are ∙ without_again before row after at.differ ∙ sym lost.held_are in (
          to,
          past_behind from os entry,
          record {
            writes = record {
              within = record {
                agrees = agrees_step setting seat from os others entry cs to refl refl refl refl refl refl
                    (λ k. append-nil (from.unwritten k) ∙ ap (λ l. l ++ from.unwritten k) (sym (none_written k row.unwritten [] refl))) (rw held refl) (rw held refl);
                alone = rw (mine, eq-eqb reading reading refl) refl;
                counts = record { received_are = refl; expired_are = rw mine refl; started_are = rw mine refl };
              };
              to_held = rw held refl;
              closed = rw held refl;
            };
            held = gone;
            others = λ k ne. (rw ne refl, refl);
          },
          subst (λ r. Sound setting r b.told to) (sym left) (subst (λ t. Sound setting (before ++ after) t to) (sym keys)
              (subst (λ h. Sound setting (before ++ after) a.told (record { past = fault ∷ followed_by from.past os; held = h; unwritten = from.unwritten })) (sym gone) lost)),
        ))

-- the same of another number
pub to_as : (reading n m : ℕ) (a b : State) → n ≡ m → Goes (WritesTo reading n) a b → Goes (WritesTo reading m) a b
to_as reading n m a b is x = subst (λ k. Goes (WritesTo reading k) a b) is x

pub flushed_as : (reading n m : ℕ) (a b : State) → n ≡ m → Goes (Flushes reading n) a b → Goes (Flushes reading m) a b
flushed_as reading n m a b is x = subst (λ k. Goes (Flushes reading k) a b) is x

-- behind want of memory
pub flush_err : (reading : ℕ) (result : Result Bool NoMemory) (state : Row → Option (List WorldCall) → State) (old new : Row) (log_old log_new : Option (List WorldCall)) → is_err result ≡ true →
    Stops (CutWriting reading) (state old log_old) (state new log_new) → FlushEnds reading result state old new log_old log_new
flush_err reading (Ok true) state old new log_old log_new err x = absurd (cc err)
flush_err reading (Ok false) state old new log_old log_new err x = absurd (cc err)
flush_err reading (Err fault) state old new log_old log_new err x = x

pub no_bytes : (bytes : List ℕ) → length bytes ≡ 0 → bytes ≡ []
no_bytes [] is = refl
no_bytes (x ∷ bytes) is = absurd (omega arith)
