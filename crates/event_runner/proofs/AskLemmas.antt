-- The query of an attempt that was begun: how it goes out, and how that is cut short.
use Rattle.event_runner.proofs.Base.{◌≡◌, ◌≢◌, ◌∙◌, ℕ, ◌+◌, ◌==◌, ◌||◌, Bool, true, false, List, [], ◌∷◌, ◌++◌, map, refl, ap, ap₂, sym, subst, arith, eq-eqb, eqb-true, ne_eqb, inl, inr, ⊎_elim, cond, nat_le, true≢false, IsSomeAnd, None, Option, Some, find, not, option_map, option_to_list, ◌⊎◌, then_some, AllByRecursion, list_any, option_map_or, and_from, and_parts, cases_Bool, or_parts, append-nil, map-append, list_any-append, Entry, What, Fault, Start, ServerKey, WasSent, WorldCall, Connect, Send, agrees_nearly, each_flies, flight-cases, chosen_link-cases, new_link-fresh, AreOthers, agrees_step, noted-others, noted-own, noted-append, told-quiet, own-append, Row, link_of_row, chosen_link, greatest_link, is_on_tcp, MayLackOne, NearlyAgrees, NearlyInOrder, Attempt, flight, in_flight, framed, Past, followed_by, own_entries, is_mixed, leg_of, Link, held_after, held_link, told, has_key, opening_servers, servers_at, Setting, Agrees, Standing, Parcel, Route, arrived, asked, connects, datagrams, faulted, faults, is_start_on, messages, noted, noticed, notices, notices_of, opened, query_bytes, queued, written, AreDrawn, Numbered, draws, is_start_to, numbered, served_by, words_of_look, Asks, CutAsking, NearlyServes, words_of, serve_unless, told_with, was_told}
use Rattle.event_runner.proofs.CallLemmas.{own, own_none, own_one}
use Rattle.event_runner.proofs.Outing.{Outing, Since, means}
use Rattle.event_runner.proofs.RowLemmas.{apart_again, apart_split, each_both, each_join, each_split, each_then, lacks_none}
use Rattle.event_runner.proofs.SoundLemmas.{HasLink, Lacks, RowsApart, Sound, sound_idle}
use Rattle.event_runner.proofs.QueryLemmas.{IsBegun, IsCore, agrees_serves, core_connect, core_none, core_send, few_left, find_says, found_test, has_bits, near_none, near_one, near_start, or_later, queued_not, queued_yes, served_list, serves_first, serves_new, serves_part, serves_quiet, serves_received, serves_sent, told_serves, words_split}

module _ (o : Outing) {setting : Setting} {seat : ℕ} {rows : List Row} {keys : List ℕ} (since : Since setting seat rows keys) where
  open o use {reading, word, bits, number, leg, server, address, link, id, message}
  open since use {os, others, idle, from, sound}

  -- the attempt, its entry, and what happened before it
  abbrev pub bits_if : Option ℕ
  bits_if = then_some (is_mixed setting link) bits

  abbrev pub begun : What
  begun = Start number leg server link id bits_if reading

  abbrev pub attempt : Attempt
  attempt = record { leg = leg_of number leg; server = server; link = link; id = id; mix = bits_if; moment = reading }

  abbrev pub here : Past
  here = followed_by from.past os

  abbrev pub mid : Standing
  mid = record { past = here; held = from.held; unwritten = from.unwritten }

  pub mid_sound : Sound setting rows keys mid
  mid_sound = sound_idle setting rows keys os from idle sound

  abbrev pub start_entry : Entry
  start_entry = own seat begun

  abbrev pub numbered_here : Numbered
  numbered_here = record { id = id; mix = bits_if; past = here }

  abbrev pub already : Bool
  already = was_told server keys

  -- the Start alone
  pub begun_one : IsBegun setting seat reading from.past here begun numbered_here (os ++ start_entry ∷ [])
  begun_one =
      let mine = own_one seat os start_entry others refl in
      record {
        alone = rw (mine, eq-eqb reading reading refl) refl;
        expired = rw mine refl;
        started = rw mine refl;
        numbered_is = noted-own seat numbered from.past os start_entry others refl;
        served_is = noted-own seat (served_by setting) from.past os start_entry others refl;
      }

  -- the Start, and its Fault behind entries of others
  pub begun_two : (more : List Entry) → AreOthers seat more → IsBegun setting seat reading from.past here begun numbered_here ((os ++ start_entry ∷ []) ++ (more ++ own seat (Fault server link reading) ∷ []))
  begun_two more more_others =
      let fault = own seat (Fault server link reading) in
      let mine : own_entries seat ((os ++ start_entry ∷ []) ++ (more ++ fault ∷ [])) ≡ start_entry ∷ fault ∷ [] =
      own-append seat (os ++ start_entry ∷ []) (more ++ fault ∷ []) ∙ ap₂ (λ l m. l ++ m) (own_one seat os start_entry others refl) (own_one seat more fault more_others refl) in
      record {
        alone = rw (mine, eq-eqb reading reading refl) refl;
        expired = rw mine refl;
        started = rw mine refl;
        numbered_is = noted-append seat numbered from.past (os ++ start_entry ∷ []) (more ++ fault ∷ [])
            ∙ ap₂ (λ l m. l ++ m) (noted-own seat numbered from.past os start_entry others refl) (noted-own seat numbered (followed_by from.past (os ++ start_entry ∷ [])) more fault more_others refl);
        served_is = noted-append seat (served_by setting) from.past (os ++ start_entry ∷ []) (more ++ fault ∷ [])
            ∙ ap₂ (λ l m. l ++ m) (noted-own seat (served_by setting) from.past os start_entry others refl) (noted-own seat (served_by setting) (followed_by from.past (os ++ start_entry ∷ [])) more fault more_others refl)
            ∙ append-nil (served_by setting here begun);
      }

  -- the Start, and then entries of others
  pub begun_then : (more : List Entry) → AreOthers seat more → IsBegun setting seat reading from.past here begun numbered_here ((os ++ start_entry ∷ []) ++ more)
  begun_then more more_others =
      let mine : own_entries seat ((os ++ start_entry ∷ []) ++ more) ≡ start_entry ∷ [] =
      own-append seat (os ++ start_entry ∷ []) more ∙ ap₂ (λ l m. l ++ m) (own_one seat os start_entry others refl) (own_none seat more more_others) in
      record {
        alone = rw (mine, eq-eqb reading reading refl) refl;
        expired = rw mine refl;
        started = rw mine refl;
        numbered_is = noted-append seat numbered from.past (os ++ start_entry ∷ []) more
            ∙ ap₂ (λ l m. l ++ m) (noted-own seat numbered from.past os start_entry others refl) (noted-others seat numbered (followed_by from.past (os ++ start_entry ∷ [])) more more_others);
        served_is = noted-append seat (served_by setting) from.past (os ++ start_entry ∷ []) more
            ∙ ap₂ (λ l m. l ++ m) (noted-own seat (served_by setting) from.past os start_entry others refl) (noted-others seat (served_by setting) (followed_by from.past (os ++ start_entry ∷ [])) more more_others)
            ∙ append-nil (served_by setting here begun);
      }

  module _ (meant : means o setting here (Some begun)) where
    -- the query's bytes
    pub query_is : query_bytes setting here attempt ≡ message
    query_is = bytes_of _ _ meant.4
      where
        bytes_of : {A : Type 0} (f : A → List ℕ) (o : Option A) → option_map f o ≡ Some message → option_map_or f o [] ≡ message
        bytes_of f None e = absurd (cc e)
        bytes_of f (Some x) e = cc

    -- the server is told exactly where it wasn't
    served_here : served_by setting here begun ≡ served_list server address already
    served_here = by_told already refl (mid_sound.told_are server)
      where
        found : (o : Option ServerKey) → option_map (λ (s : ServerKey). s.address) o ≡ Some address → ((s : ServerKey) → o ≡ Some s → (s.key == server) ≡ true) → option_to_list o ≡ record { key = server; address = address } ∷ []
        found None e keyed = absurd (cc e)
        found (Some s) e keyed =
            let key : s.key ≡ server = eqb-true s.key server (keyed s refl) in
            let at : s.address ≡ address = cc in
            ap (λ x. x ∷ []) (λ k. record { key = key k; address = at k })

        by_told : (b : Bool) → was_told server keys ≡ b → was_told server keys ≡ (has_key server (opening_servers setting) || list_any (is_start_to server) here) → served_by setting here begun ≡ served_list server address b
        by_told true is known = rw (sym known ∙ is) refl
        by_told false is known =
            rw (sym known ∙ is) (found (find (λ s. s.key == server) (servers_at setting here)) meant.3 (λ s e. found_test (λ (x : ServerKey). x.key == server) (servers_at setting here) s e))

    -- its words are its own
    drawn_here : (left : ℕ → Bool) (starts : List Numbered) (words : List ℕ) → AreDrawn setting left starts words → AreDrawn setting left (numbered_here ∷ starts) (words_of setting.options.flags.mix word bits ++ words)
    drawn_here left starts words rest =
        subst (λ l. AreDrawn setting left (numbered_here ∷ starts) l) (sym (words_split setting.options.flags.mix word bits words))
        (meant.2, has_bits setting.options.flags.mix (is_mixed setting link) bits setting (AreDrawn setting left starts) words rest)

    -- no word is drawn behind them
    drawn_alone : AreDrawn setting (λ left. nat_le left (words_of_look setting)) (numbered_here ∷ []) (words_of setting.options.flags.mix word bits)
    drawn_alone =
        subst (λ l. AreDrawn setting (λ left. nat_le left (words_of_look setting)) (numbered_here ∷ []) l) (append-nil (words_of setting.options.flags.mix word bits))
        (drawn_here (λ left. nat_le left (words_of_look setting)) [] [] (few_left setting [] (omega arith)))

    -- a server that has a Start was told
    told_before : (other : ℕ) → list_any (is_start_to other) from.past ≡ true → (server == other) ≡ true → already ≡ true
    told_before other started same =
        let is : server ≡ other = eqb-true server other same in
        sound.told_are server ∙ or_true (has_key server (opening_servers setting)) (list_any (is_start_to server) from.past) (ap (λ s. list_any (is_start_to s) from.past) is ∙ started)
      where
        or_true : (x y : Bool) → y ≡ true → (x || y) ≡ true
        or_true true y e = refl
        or_true false y e = e

    -- the query went out by these calls
    pub asks_of : (es : List Entry) (core : List WorldCall) (to : Standing) → IsBegun setting seat reading from.past here begun numbered_here es → IsCore server core → Agrees setting seat from es core to →
        ((other : ℕ) → list_any (is_start_to other) to.past ≡ false → (server == other) ≡ false) → Asks reading word bits setting seat from es (serve_unless already server address ++ core) to
    asks_of es core to is_begun is_core agrees started = record {
      within = record {
        agrees = agrees_serves server address setting seat from to es core already agrees;
        alone = and_from _ _ is_begun.alone (serves_part server address already core is_core);
        counts = record { received_are = serves_received server address already core is_core; expired_are = is_begun.expired; started_are = is_begun.started };
      };
      drawn = λ left starts words rest. rw is_begun.numbered_is (drawn_here left starts words rest);
      no_word = serves_quiet server address draws (λ held. refl) already from.held core ∙ is_core.draws_none from.held;
      served = is_begun.served_is ∙ served_here ∙ sym (told_serves server address already from.held core is_core);
      served_first = serves_first server address already core is_core;
      sent = λ other none. serves_sent server address already core is_core other (started other none);
      told_new = λ other before. rw (told_serves server address already from.held core is_core) (serves_new server address already other (told_before other before));
    }

    -- the asking was cut short behind the serve
    pub cut_of : (es : List Entry) (core : List WorldCall) → IsBegun setting seat reading from.past here begun numbered_here es → IsCore server core →
        NearlyAgrees setting seat from es (serve_unless already server address ++ core) → CutAsking reading word bits setting seat from es (serve_unless already server address ++ core)
    cut_of es core is_begun is_core nearly = record {
      within = record { nearly = nearly; alone = and_from _ _ is_begun.alone (serves_part server address already core is_core) };
      few = rw is_begun.started (omega arith);
      drawn = rw is_begun.numbered_is drawn_alone;
      no_word = serves_quiet server address draws (λ held. refl) already from.held core ∙ is_core.draws_none from.held;
      served = inl (is_begun.served_is ∙ served_here ∙ sym (told_serves server address already from.held core is_core));
      served_first = serves_first server address already core is_core;
      told_new = λ other before. rw (told_serves server address already from.held core is_core) (serves_new server address already other (told_before other before));
    }

    -- ---- standings behind the Start

    -- the standing behind the Start, with these links
    abbrev pub behind_start : List Link → Standing
    behind_start held = record { past = begun ∷ here; held = held; unwritten = λ k. from.unwritten k ++ queued setting k here begun }

    -- the servers that were told, behind the Start
    told_started : (other : ℕ) → list_any (λ key. key == other) (told_with already server keys) ≡ (has_key other (opening_servers setting) || list_any (is_start_to other) (begun ∷ here))
    told_started other = by_told already refl
      where
        with_known : (x y z : Bool) → x ≡ (y || z) → (server == other) ≡ true → ((server == other) ≡ true → x ≡ true) → x ≡ (y || ((server == other) || z))
        with_known x y z e is told_by = told_by is ∙ sym (or_later y ((server == other) || z) (rw is refl))

        shuffle : (x y z : Bool) → ((x || y) || (z || false)) ≡ (x || (z || y))
        shuffle true y z = refl
        shuffle false true true = refl
        shuffle false true false = refl
        shuffle false false true = refl
        shuffle false false false = refl

        by_told : (b : Bool) → already ≡ b → list_any (λ key. key == other) (told_with b server keys) ≡ (has_key other (opening_servers setting) || ((server == other) || list_any (is_start_to other) here))
        by_told true is = ⊎_elim
            (λ same. with_known (list_any (λ key. key == other) keys) (has_key other (opening_servers setting)) (list_any (is_start_to other) here) (mid_sound.told_are other) same
            (λ e. subst (λ s. was_told s keys ≡ true) (eqb-true server other e) is))
            (λ ne. mid_sound.told_are other ∙ sym (rw ne refl))
            (cases_Bool (server == other))
        by_told false is =
            list_any-append (λ key. key == other) keys (server ∷ []) ∙ ap (λ b. b || ((server == other) || false)) (mid_sound.told_are other)
            ∙ shuffle (has_key other (opening_servers setting)) (list_any (is_start_to other) here) (server == other)

    -- over another link nothing is queued
    queued_other : (k : ℕ) → (link == k) ≡ false → queued setting k here begun ≡ []
    queued_other k ne = queued_not (link == 0) (link == k) (framed (query_bytes setting here attempt)) ne

    -- what is common to all standings behind the Start
    started : (rows' : List Row) (held : List Link) → held ≡ map link_of_row rows' → AllByRecursion (λ row. from.unwritten row.number ++ queued setting row.number here begun ≡ row.unwritten) rows' →
        AllByRecursion (λ row. (row.number ≢ 0) × (list_any (is_start_on row.number) (begun ∷ here) ≡ true)) rows' → RowsApart rows' →
        (link ≢ 0 → HasLink link server held) → ((n s : ℕ) → HasLink n s from.held → HasLink n s held) → Sound setting rows' (told_with already server keys) (behind_start held)
    started rows' held held_are unwritten opened_are differ mine kept = record {
      held_are = held_are;
      unwritten_are = unwritten;
      opened_are = opened_are;
      differ = differ;
      fresh = λ k none.
          let parts = or_parts (link == k) (list_any (is_start_on k) here) none in
          ap₂ (λ l m. l ++ m) (mid_sound.fresh k parts.1) (queued_other k parts.0);
      flying = λ l a flies some. ⊎_elim
          (λ h. let same : attempt ≡ a = cc in
          let linked : link ≡ a.link = ap (λ (x : Attempt). x.link) same in
          let served : server ≡ a.server = ap (λ (x : Attempt). x.server) same in
          subst (λ n. HasLink n a.server held) linked (subst (λ s. HasLink link s held) served (mine (λ zero. some (sym linked ∙ zero)))))
          (λ h. kept a.link a.server (mid_sound.flying l a h.0 some))
          (flight-cases setting l begun here a flies);
      told_are = told_started;
    }

    still_started : (row : Row) → (row.number ≢ 0) × (list_any (is_start_on row.number) here ≡ true) → (row.number ≢ 0) × (list_any (is_start_on row.number) (begun ∷ here) ≡ true)
    still_started row h = (h.0, or_later (link == row.number) (list_any (is_start_on row.number) here) h.1)

    still_unwritten : (row : Row) → link ≢ row.number → from.unwritten row.number ≡ row.unwritten → from.unwritten row.number ++ queued setting row.number here begun ≡ row.unwritten
    still_unwritten row ne e = ap (λ l. from.unwritten row.number ++ l) (queued_other row.number (ne_eqb link row.number ne)) ∙ append-nil (from.unwritten row.number) ∙ e

    -- over UDP
    pub sent_sound : link ≡ 0 → Sound setting rows (told_with already server keys) (behind_start from.held)
    sent_sound udp = started rows from.held sound.held_are
        (each_both (λ (row : Row). (row.number ≢ 0) × (list_any (is_start_on row.number) here ≡ true)) (λ (row : Row). from.unwritten row.number ≡ row.unwritten) (λ (row : Row). from.unwritten row.number ++ queued setting row.number here begun ≡ row.unwritten) rows
        (λ row h e. still_unwritten row (λ same. h.0 (sym same ∙ udp)) e) mid_sound.opened_are sound.unwritten_are)
        (each_then (λ (row : Row). (row.number ≢ 0) × (list_any (is_start_on row.number) here ≡ true)) (λ (row : Row). (row.number ≢ 0) × (list_any (is_start_on row.number) (begun ∷ here) ≡ true)) rows still_started mid_sound.opened_are)
        sound.differ (λ some. absurd (some udp)) (λ n s h. h)

    -- where the link is one that was begun, or a new one
    pub link_cases : (link ≡ 0) ⊎ HasLink link server from.held ⊎ (list_any (is_start_on link) here ≡ false)
    link_cases = by_cases (chosen_link-cases setting server here (leg_of number leg))
      where
        by_cases : (chosen_link setting (leg_of number leg) server here ≡ 0)
            ⊎ ((a : Attempt) × (find (is_on_tcp setting server) (in_flight setting here) ≡ Some a) × (chosen_link setting (leg_of number leg) server here ≡ a.link))
            ⊎ (chosen_link setting (leg_of number leg) server here ≡ greatest_link here + 1) → (link ≡ 0) ⊎ HasLink link server from.held ⊎ (list_any (is_start_on link) here ≡ false)
        by_cases (inl zero) = inl (meant.1.over_link ∙ zero)
        by_cases (inr (inl x)) =
            let a = x.0 in
            let says = find_says (λ (y : Attempt). flight setting y.leg here ≡ Some y) (is_on_tcp setting server) (in_flight setting here) a (each_flies setting here) x.1 in
            let parts = and_parts (a.server == server) (not (a.link == 0)) says.0 in
            let some : a.link ≢ 0 = λ zero. true≢false (sym parts.1 ∙ ap not (eq-eqb a.link 0 zero)) in
            let same : a.server ≡ server = eqb-true a.server server parts.0 in
            let linked : link ≡ a.link = meant.1.over_link ∙ x.2 in
            let has : HasLink a.link a.server from.held = mid_sound.flying a.leg a says.1 some in
            inr (inl (subst (λ n. HasLink n server from.held) (sym linked) (subst (λ s. HasLink a.link s from.held) same has)))
        by_cases (inr (inr x)) = inr (inr (ap (λ n. list_any (is_start_on n) here) (meant.1.over_link ∙ x) ∙ new_link-fresh here))

    -- over a held link
    pub queued_sound : (before : List Row) (row : Row) (after : List Row) → rows ≡ before ++ row ∷ after → row.number ≡ link →
        Sound setting (before ++ record row { unwritten = row.unwritten ++ framed message } ∷ after) (told_with already server keys) (behind_start from.held)
    queued_sound before row after split is =
        let at : Sound setting (before ++ row ∷ after) keys mid = subst (λ r. Sound setting r keys mid) split mid_sound in
        let apart = apart_split row after before at.differ in
        let row' : Row = record row { unwritten = row.unwritten ++ framed message } in
        let unwritten = each_split (λ (r : Row). from.unwritten r.number ≡ r.unwritten) before (row ∷ after) at.unwritten_are in
        let opened_are = each_split (λ (r : Row). (r.number ≢ 0) × (list_any (is_start_on r.number) here ≡ true)) before (row ∷ after) at.opened_are in
        let tcp : (link == 0) ≡ false = ne_eqb link 0 (λ zero. opened_are.1.0.0 (is ∙ zero)) in
        let mine : queued setting row.number here begun ≡ framed message =
        queued_yes (link == 0) (link == row.number) (framed (query_bytes setting here attempt)) tcp (eq-eqb link row.number (sym is)) ∙ ap framed query_is in
        started (before ++ row' ∷ after) from.held
        (at.held_are ∙ map-append link_of_row before (row ∷ after) ∙ sym (map-append link_of_row before (row' ∷ after)))
        (each_join (λ (r : Row). from.unwritten r.number ++ queued setting r.number here begun ≡ r.unwritten) before (row' ∷ after)
        (each_both (λ (r : Row). r.number ≢ row.number) (λ (r : Row). from.unwritten r.number ≡ r.unwritten) (λ (r : Row). from.unwritten r.number ++ queued setting r.number here begun ≡ r.unwritten) before
        (λ r ne e. still_unwritten r (λ same. ne (sym same ∙ sym is)) e) apart.0 unwritten.0) (
          ap₂ (λ l m. l ++ m) unwritten.1.0 mine,
          each_both (λ (r : Row). r.number ≢ row.number) (λ (r : Row). from.unwritten r.number ≡ r.unwritten) (λ (r : Row). from.unwritten r.number ++ queued setting r.number here begun ≡ r.unwritten) after
              (λ r ne e. still_unwritten r (λ same. ne (sym same ∙ sym is)) e) apart.1 unwritten.1.1,
        ))
        (each_join (λ (r : Row). (r.number ≢ 0) × (list_any (is_start_on r.number) (begun ∷ here) ≡ true)) before (row' ∷ after)
        (each_then (λ (r : Row). (r.number ≢ 0) × (list_any (is_start_on r.number) here ≡ true)) (λ (r : Row). (r.number ≢ 0) × (list_any (is_start_on r.number) (begun ∷ here) ≡ true)) before still_started opened_are.0) (
          still_started row opened_are.1.0,
          each_then (λ (r : Row). (r.number ≢ 0) × (list_any (is_start_on r.number) here ≡ true)) (λ (r : Row). (r.number ≢ 0) × (list_any (is_start_on r.number) (begun ∷ here) ≡ true)) after still_started opened_are.1.1,
        ))
        (apart_again row after row' refl before at.differ)
        (λ some. has_mine at (opened_are.1.0.0) (opened_are.1.0.1) link_cases)
        (λ n s h. h)
      where
        has_mine : Sound setting (before ++ row ∷ after) keys mid → row.number ≢ 0 → list_any (is_start_on row.number) here ≡ true → (link ≡ 0) ⊎ HasLink link server from.held ⊎ (list_any (is_start_on link) here ≡ false) → HasLink link server from.held
        has_mine at some has (inl zero) = absurd (some (is ∙ zero))
        has_mine at some has (inr (inl h)) = h
        has_mine at some has (inr (inr none)) = absurd (true≢false (sym has ∙ ap (λ n. list_any (is_start_on n) here) is ∙ none))

    -- over a new link
    module _ (tcp : link ≢ 0) (none : held_link link (map link_of_row rows) ≡ None) where
      fresh_link : list_any (is_start_on link) here ≡ false
      fresh_link = by_cases link_cases
        where
          by_cases : (link ≡ 0) ⊎ HasLink link server from.held ⊎ (list_any (is_start_on link) here ≡ false) → list_any (is_start_on link) here ≡ false
          by_cases (inl zero) = absurd (tcp zero)
          by_cases (inr (inl h)) = absurd (rw (ap (held_link link) sound.held_are ∙ none) at h)
          by_cases (inr (inr e)) = e

      abbrev pub new_row : Row
      new_row = record { number = link; server = server; unread = []; unwritten = [] ++ framed message }

      abbrev pub new_link : Link
      new_link = record { number = link; server = server; unread = [] }

      queued_mine : queued setting link here begun ≡ framed message
      queued_mine = queued_yes (link == 0) (link == link) (framed (query_bytes setting here attempt)) (ne_eqb link 0 tcp) (eq-eqb link link refl) ∙ ap framed query_is

      apart_more : (before : List Row) → RowsApart before → Lacks link before → RowsApart (before ++ new_row ∷ [])
      apart_more [] apart lacks = (tt, tt)
      apart_more (r ∷ before) apart lacks = (each_join (λ (x : Row). x.number ≢ r.number) before (new_row ∷ []) apart.0 (λ e. lacks.0 (sym e), tt), apart_more before apart.1 lacks.1)

      find_more : (held : List Link) (n s : ℕ) → HasLink n s held → HasLink n s (held ++ new_link ∷ [])
      find_more [] n s h = absurd h
      find_more (l ∷ held) n s h = by_test (l.number == n) h (find_more held n s)
        where
          by_test : (b : Bool) → IsSomeAnd (cond b (Some l) (held_link n held)) (λ x. x.server ≡ s) → (HasLink n s held → HasLink n s (held ++ new_link ∷ [])) → IsSomeAnd (cond b (Some l) (held_link n (held ++ new_link ∷ []))) (λ x. x.server ≡ s)
          by_test true h rest = h
          by_test false h rest = rest h

      find_last : (held : List Row) → Lacks link held → HasLink link server (map link_of_row held ++ new_link ∷ [])
      find_last [] lacks = rw (eq-eqb link link refl) refl
      find_last (r ∷ held) lacks = rw (ne_eqb r.number link lacks.0) (find_last held lacks.1)

      pub connected_sound : Sound setting (rows ++ new_row ∷ []) (told_with already server keys) (behind_start (from.held ++ new_link ∷ []))
      connected_sound =
          let lacks = lacks_none link rows none in
          started (rows ++ new_row ∷ []) (from.held ++ new_link ∷ [])
          (ap (λ l. l ++ new_link ∷ []) sound.held_are ∙ sym (map-append link_of_row rows (new_row ∷ [])))
          (each_join (λ (r : Row). from.unwritten r.number ++ queued setting r.number here begun ≡ r.unwritten) rows (new_row ∷ [])
          (each_both (λ (r : Row). r.number ≢ link) (λ (r : Row). from.unwritten r.number ≡ r.unwritten) (λ (r : Row). from.unwritten r.number ++ queued setting r.number here begun ≡ r.unwritten) rows
          (λ r ne e. still_unwritten r (λ same. ne (sym same)) e) lacks sound.unwritten_are)
          (ap₂ (λ l m. l ++ m) (mid_sound.fresh link fresh_link) queued_mine, tt))
          (each_join (λ (r : Row). (r.number ≢ 0) × (list_any (is_start_on r.number) (begun ∷ here) ≡ true)) rows (new_row ∷ [])
          (each_then (λ (r : Row). (r.number ≢ 0) × (list_any (is_start_on r.number) here ≡ true)) (λ (r : Row). (r.number ≢ 0) × (list_any (is_start_on r.number) (begun ∷ here) ≡ true)) rows still_started mid_sound.opened_are)
          ((tcp, rw (eq-eqb link link refl) refl), tt))
          (apart_more rows sound.differ lacks)
          (λ some. subst (λ l. HasLink link server (l ++ new_link ∷ [])) (sym sound.held_are) (find_last rows lacks))
          (λ n s h. find_more from.held n s h)

  -- ---- the query goes out, or not

  module _ (meant : means o setting here (Some begun)) where
    -- the Start and the calls that tell of it
    agrees_begun : (core : List WorldCall) (held : List Link) → held ≡ held_after from.held core → told messages from.held core ≡ [] → asked setting here begun ≡ told datagrams from.held core →
        opened here begun ≡ told connects from.held core → ((k : ℕ) → told (written k) from.held core ≡ []) → told faults from.held core ≡ [] →
        notices_of [] (told datagrams from.held core) (told connects from.held core) [] ≡ told notices from.held core → Agrees setting seat from (os ++ start_entry ∷ []) core (behind_start meant held)
    agrees_begun core held after none sends links writes faults_none tells =
        agrees_step setting seat from os others start_entry core (behind_start meant held) refl refl after (sym none) sends links
        (λ k. ap (λ l. l ++ (from.unwritten k ++ queued setting k here begun)) (sym (writes k))) (sym faults_none) (ap₂ (λ asks opens. notices_of [] asks opens []) sends links ∙ tells)

    pub start_to : (held : List Link) (other : ℕ) → list_any (is_start_to other) (begun ∷ here) ≡ false → (server == other) ≡ false
    start_to held other none = (or_parts (server == other) (list_any (is_start_to other) here) none).0

    pub asked_udp : link ≡ 0 → asked setting here begun ≡ record { server = server; link = 0; bytes = message } ∷ []
    asked_udp udp = asked_yes (link == 0) (record { server = server; link = 0; bytes = query_bytes setting here attempt }) (eq-eqb link 0 udp) ∙ ap (λ b. record { server = server; link = 0; bytes = b } ∷ []) (query_is meant)
      where
        asked_yes : (b : Bool) (x : Parcel) → b ≡ true → cond b (x ∷ []) [] ≡ x ∷ []
        asked_yes true x e = refl
        asked_yes false x e = absurd (true≢false (sym e))

    pub asked_tcp : link ≢ 0 → asked setting here begun ≡ []
    asked_tcp tcp = asked_no (link == 0) (record { server = server; link = 0; bytes = query_bytes setting here attempt }) (ne_eqb link 0 tcp)
      where
        asked_no : (b : Bool) (x : Parcel) → b ≡ false → cond b (x ∷ []) [] ≡ []
        asked_no true x e = absurd (true≢false e)
        asked_no false x e = refl

    opened_none : (x : Route) (b c : Bool) → (b || c) ≡ true → cond (b || c) [] (x ∷ []) ≡ []
    opened_none x b c e = rw e refl

    opened_one : (x : Route) (b c : Bool) → (b || c) ≡ false → cond (b || c) [] (x ∷ []) ≡ x ∷ []
    opened_one x b c e = rw e refl

    pub opened_udp : link ≡ 0 → opened here begun ≡ []
    opened_udp udp = opened_none (record { server = server; link = link }) (link == 0) (list_any (is_start_on link) here) (rw (eq-eqb link 0 udp) refl)

    -- a datagram
    pub asks_datagram : link ≡ 0 → Asks reading word bits setting seat from (os ++ start_entry ∷ []) (serve_unless already server address ++ Send server message WasSent ∷ []) (behind_start meant from.held)
    asks_datagram udp =
        asks_of meant (os ++ start_entry ∷ []) (Send server message WasSent ∷ []) (behind_start meant from.held) begun_one (core_send server message WasSent)
        (agrees_begun (Send server message WasSent ∷ []) from.held refl refl (asked_udp udp) (opened_udp udp) (λ k. refl) refl refl) (start_to from.held)

    -- behind a held link's bytes
    pub asks_queued : (row : Row) → row.number ≡ link → row.number ≢ 0 → list_any (is_start_on row.number) here ≡ true →
        Asks reading word bits setting seat from (os ++ start_entry ∷ []) (serve_unless already server address ++ []) (behind_start meant from.held)
    asks_queued row is some has =
        let tcp : link ≢ 0 = λ zero. some (is ∙ zero) in
        asks_of meant (os ++ start_entry ∷ []) [] (behind_start meant from.held) begun_one (core_none server)
        (agrees_begun [] from.held refl refl (asked_tcp tcp)
        (opened_none (record { server = server; link = link }) (link == 0) (list_any (is_start_on link) here) (or_later (link == 0) (list_any (is_start_on link) here) (ap (λ n. list_any (is_start_on n) here) (sym is) ∙ has)))
        (λ k. refl) refl refl) (start_to from.held)

    module _ (tcp : link ≢ 0) (none : held_link link (map link_of_row rows) ≡ None) where
      pub opened_tcp : opened here begun ≡ record { server = server; link = link } ∷ []
      opened_tcp = opened_one (record { server = server; link = link }) (link == 0) (list_any (is_start_on link) here) (rw (ne_eqb link 0 tcp) (fresh_link meant tcp none))

      -- over a new link
      agrees_connected : Agrees setting seat from (os ++ start_entry ∷ []) (Connect server link WasSent ∷ []) (behind_start meant (from.held ++ new_link meant tcp none ∷ []))
      agrees_connected = agrees_begun (Connect server link WasSent ∷ []) (from.held ++ new_link meant tcp none ∷ []) refl refl (asked_tcp tcp) opened_tcp (λ k. refl) refl refl

      pub asks_connected : Asks reading word bits setting seat from (os ++ start_entry ∷ []) (serve_unless already server address ++ Connect server link WasSent ∷ []) (behind_start meant (from.held ++ new_link meant tcp none ∷ []))
      asks_connected =
          asks_of meant (os ++ start_entry ∷ []) (Connect server link WasSent ∷ []) (behind_start meant (from.held ++ new_link meant tcp none ∷ [])) begun_one (core_connect server link WasSent) agrees_connected
          (start_to from.held)

      -- memory was wanting behind the connect
      pub cut_connected : CutAsking reading word bits setting seat from (os ++ start_entry ∷ []) (serve_unless already server address ++ Connect server link WasSent ∷ [])
      cut_connected =
          cut_of meant (os ++ start_entry ∷ []) (Connect server link WasSent ∷ []) begun_one (core_connect server link WasSent)
          (agrees_nearly setting seat from (behind_start meant (from.held ++ new_link meant tcp none ∷ [])) (os ++ start_entry ∷ []) (serve_unless already server address ++ Connect server link WasSent ∷ [])
          (agrees_serves server address setting seat from (behind_start meant (from.held ++ new_link meant tcp none ∷ [])) (os ++ start_entry ∷ []) (Connect server link WasSent ∷ []) already agrees_connected))

    -- calls that tell nothing of a query: it isn't sent any more
    nearly_unsent : (cs : List WorldCall) → told messages from.held cs ≡ [] → told datagrams from.held cs ≡ [] → told connects from.held cs ≡ [] → ((k : ℕ) → told (written k) from.held cs ≡ []) → told faults from.held cs ≡ [] →
        NearlyAgrees setting seat from (os ++ start_entry ∷ []) cs
    nearly_unsent cs m d n w f = record {
      arrivals = inl (noted-own seat arrived from.past os start_entry others refl ∙ sym m);
      sends = subst (λ l. MayLackOne datagrams from.held cs l) (sym (noted-own seat (asked setting) from.past os start_entry others refl))
          (near_one datagrams from.held cs (link == 0) (record { server = server; link = 0; bytes = query_bytes setting here attempt }) d);
      links = subst (λ l. MayLackOne connects from.held cs l) (sym (noted-own seat opened from.past os start_entry others refl))
          (near_none connects from.held cs ((link == 0) || list_any (is_start_on link) here) (record { server = server; link = link }) n);
      writes = λ k. (from.unwritten k ++ noted seat (queued setting k) from.past (os ++ start_entry ∷ []), rw (w k) refl);
      faults_are = inl (noted-own seat faulted from.past os start_entry others refl ∙ sym f);
      in_order = subst (λ l. NearlyInOrder from.held cs l) (sym (noted-own seat (noticed setting) from.past os start_entry others refl))
          (near_start from.held cs (link == 0) (list_any (is_start_on link) here) (record { server = server; link = 0; bytes = query_bytes setting here attempt }) (record { server = server; link = link }) (told-quiet from.held cs m d n f));
    }

    -- memory was wanting behind the serve
    pub cut_told : CutAsking reading word bits setting seat from (os ++ start_entry ∷ []) (serve_unless already server address ++ [])
    cut_told =
        cut_of meant (os ++ start_entry ∷ []) [] begun_one (core_none server)
        (nearly_unsent (serve_unless already server address ++ [])
        (serves_quiet server address messages (λ h. refl) already from.held []) (serves_quiet server address datagrams (λ h. refl) already from.held []) (serves_quiet server address connects (λ h. refl) already from.held [])
        (λ k. serves_quiet server address (written k) (λ h. refl) already from.held []) (serves_quiet server address faults (λ h. refl) already from.held []))

    -- or before it
    pub cut_untold : CutAsking reading word bits setting seat from (os ++ start_entry ∷ []) []
    cut_untold = record {
      within = record { nearly = nearly_unsent [] refl refl refl (λ k. refl) refl; alone = and_from _ _ begun_one.alone refl };
      few = rw begun_one.started (omega arith);
      drawn = rw begun_one.numbered_is (drawn_alone meant);
      no_word = refl;
      served = by_told already refl (sound.told_are server);
      served_first = refl;
      told_new = λ other before. refl;
    }
      where
        by_told : (b : Bool) → already ≡ b → already ≡ (has_key server (opening_servers setting) || list_any (is_start_to server) from.past) → NearlyServes setting seat from (os ++ start_entry ∷ []) []
        by_told true is known = inl (begun_one.served_is ∙ served_here meant ∙ ap (served_list server address) is)
        by_told false is known = inr (
          record { last = record { key = server; address = address }; is_behind = begun_one.served_is ∙ served_here meant ∙ ap (served_list server address) is },
          refl,
          (or_parts (has_key server (opening_servers setting)) (list_any (is_start_to server) from.past) (sym known ∙ is)).1,
        )
