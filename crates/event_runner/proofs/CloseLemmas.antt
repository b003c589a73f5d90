-- Links that are looked at one behind the other, and closed where they aren't busy.
use Rattle.event_runner.proofs.Base.{◌≡◌, ◌≢◌, ◌∙◌, ℕ, ◌+◌, ◌≤◌, ◌==◌, ◌||◌, Bool, true, false, List, [], ◌∷◌, ◌++◌, length, map, refl, ap, ap₂, sym, subst, arith, true≢false, eq-eqb, ne_eqb, cond, length-append, not, list_all, list_any, and_from, and_parts, append-nil, append_assoc, map-append, list_all-append, list_any-append, Entry, WorldCall, Close, agrees_nearly, in_flight-none, agrees_calls, Row, link_of_row, went_over, Past, followed_by, Calls, Link, told, without_link, TellsBusy, Setting, Standing, closes_held, closes_made, closing, is_busy, is_looked_at, somewhere, Goes, Stops, ClosesUpTo, CutLook, CutPart, LinksApart, LooksAt, MakesPart, Within, is_closed, Gets, State}
use Rattle.event_runner.proofs.CallLemmas.{goes_look, log_stays, own_none, stops_look}
use Rattle.event_runner.proofs.FlushLemmas.{links_size}
use Rattle.event_runner.proofs.GoesLemmas.{goes_joined, goes_none, stops_joined}
use Rattle.event_runner.proofs.HearLemmas.{told_both}
use Rattle.event_runner.proofs.RowLemmas.{row_held, sound_lost}
use Rattle.event_runner.proofs.SoundLemmas.{Lacks, RowsApart, Sound, sound_idle}
use Rattle.event_runner.proofs.WithinLemmas.{nearly_joined, within_joined, within_none}
use Rattle.event_runner.proofs.WriteLemmas.{goes_with}

-- two ways to split a list at one place
split_same : {X : Type 0} (xs ys us vs : List X) → length xs ≡ length us → xs ++ ys ≡ us ++ vs → (xs ≡ us) × (ys ≡ vs)
split_same [] ys [] vs size is = (refl, is)
split_same [] ys (u ∷ us) vs size is = absurd (omega arith)
split_same (x ∷ xs) ys [] vs size is = absurd (omega arith)
split_same (x ∷ xs) ys (u ∷ us) vs size is =
    let first : x ≡ u = cc in
    let rest = split_same xs ys us vs (omega arith) (cc) in
    (ap₂ (λ h l. h ∷ l) first rest.0, rest.1)

-- a test that holds somewhere holds somewhere in a longer stretch
somewhere_more : (test : Past → Bool) (past : Past) (es fs : List Entry) → somewhere test past es ≡ true → somewhere test past (es ++ fs) ≡ true
somewhere_more test past [] [] h = h
somewhere_more test past [] (f ∷ fs) h = or_first (test past) (somewhere test (f.what ∷ past) fs) h
  where
    or_first : (b c : Bool) → b ≡ true → (b || c) ≡ true
    or_first true c h = refl
    or_first false c h = absurd (true≢false (sym h))
somewhere_more test past (e ∷ es) fs h = by_test (test past) h (λ k. somewhere_more test (e.what ∷ past) es fs k)
  where
    by_test : (b : Bool) → (b || somewhere test (e.what ∷ past) es) ≡ true → (somewhere test (e.what ∷ past) es ≡ true → somewhere test (e.what ∷ past) (es ++ fs) ≡ true) → (b || somewhere test (e.what ∷ past) (es ++ fs)) ≡ true
    by_test true h rest = refl
    by_test false h rest = rest h

-- and a test that holds at its end holds somewhere
somewhere_end : (test : Past → Bool) (past : Past) (es : List Entry) → test (followed_by past es) ≡ true → somewhere test past es ≡ true
somewhere_end test past [] h = h
somewhere_end test past (e ∷ es) h = or_then (test past) (somewhere test (e.what ∷ past) es) (somewhere_end test (e.what ∷ past) es h)
  where
    or_then : (b c : Bool) → c ≡ true → (b || c) ≡ true
    or_then true c h = refl
    or_then false c h = h

not_true : (b : Bool) → not b ≡ true → b ≡ false
not_true true h = absurd (true≢false (sym h))
not_true false h = refl

module _ (setting : Setting) (past : Past) (es fs : List Entry) where
  -- looked at by the same closes, in a longer stretch
  looked_more : (closes : List ℕ) (links : List Link) → list_all (is_looked_at setting past es closes) links ≡ true → list_all (is_looked_at setting past (es ++ fs) closes) links ≡ true
  looked_more closes [] h = refl
  looked_more closes (link ∷ links) h =
      let parts = and_parts (is_looked_at setting past es closes link) (list_all (is_looked_at setting past es closes) links) h in
      and_from _ _ (by_closed (is_closed closes link) parts.0) (looked_more closes links parts.1)
    where
      by_closed : (b : Bool) → cond b (somewhere (λ here. not (is_busy setting link here)) past es) (somewhere (is_busy setting link) past es) ≡ true
          → cond b (somewhere (λ here. not (is_busy setting link here)) past (es ++ fs)) (somewhere (is_busy setting link) past (es ++ fs)) ≡ true
      by_closed true h = somewhere_more (λ here. not (is_busy setting link here)) past es fs h
      by_closed false h = somewhere_more (is_busy setting link) past es fs h

-- a close of another link changes nothing of a link
closed_other : (closes : List ℕ) (number : ℕ) (link : Link) → (number == link.number) ≡ false → is_closed (closes ++ number ∷ []) link ≡ is_closed closes link
closed_other closes number link ne = list_any-append (λ n. n == link.number) closes (number ∷ []) ∙ by_last (is_closed closes link)
  where
    by_last : (b : Bool) → (b || ((number == link.number) || false)) ≡ b
    by_last true = refl
    by_last false = rw ne refl

looked_besides : (setting : Setting) (past : Past) (es : List Entry) (closes : List ℕ) (number : ℕ) (links : List Link) → list_all (λ link. not (number == link.number)) links ≡ true →
    list_all (is_looked_at setting past es closes) links ≡ true → list_all (is_looked_at setting past es (closes ++ number ∷ [])) links ≡ true
looked_besides setting past es closes number [] apart h = refl
looked_besides setting past es closes number (link ∷ links) apart h =
    let a = and_parts (not (number == link.number)) (list_all (λ l. not (number == l.number)) links) apart in
    let parts = and_parts (is_looked_at setting past es closes link) (list_all (is_looked_at setting past es closes) links) h in
    and_from _ _
    (ap (λ b. cond b (somewhere (λ here. not (is_busy setting link here)) past es) (somewhere (is_busy setting link) past es)) (closed_other closes number link (not_true (number == link.number) a.0)) ∙ parts.0)
    (looked_besides setting past es closes number links a.1 parts.1)

unclosed_besides : (closes : List ℕ) (number : ℕ) (links : List Link) → list_all (λ link. not (number == link.number)) links ≡ true →
    list_all (λ link. not (is_closed closes link)) links ≡ true → list_all (λ link. not (is_closed (closes ++ number ∷ []) link)) links ≡ true
unclosed_besides closes number [] apart h = refl
unclosed_besides closes number (link ∷ links) apart h =
    let a = and_parts (not (number == link.number)) (list_all (λ l. not (number == l.number)) links) apart in
    let parts = and_parts (not (is_closed closes link)) (list_all (λ l. not (is_closed closes l)) links) h in
    and_from _ _ (ap not (closed_other closes number link (not_true (number == link.number) a.0)) ∙ parts.0) (unclosed_besides closes number links a.1 parts.1)

-- a link between others has a number of its own
apart_between : (before : List Link) (link : Link) (after : List Link) → LinksApart (before ++ link ∷ after) → (list_all (λ l. not (link.number == l.number)) before ≡ true) × (list_all (λ l. not (link.number == l.number)) after ≡ true)
apart_between [] link after apart = (refl, apart.0)
apart_between (x ∷ before) link after apart =
    let rest = apart_between before link after apart.1 in
    let parts = and_parts (list_all (λ l. not (x.number == l.number)) before) (list_all (λ l. not (x.number == l.number)) (link ∷ after)) (sym (list_all-append (λ l. not (x.number == l.number)) before (link ∷ after)) ∙ apart.0) in
    let here = and_parts (not (x.number == link.number)) (list_all (λ l. not (x.number == l.number)) after) parts.1 in
    let ne : link.number ≢ x.number = λ e. true≢false (sym (eq-eqb x.number link.number (sym e)) ∙ not_true (x.number == link.number) here.0) in
    (and_from _ _ (ap not (ne_eqb link.number x.number ne)) rest.0, rest.1)

links_apart : (rows : List Row) → RowsApart rows → LinksApart (map link_of_row rows)
links_apart [] apart = tt
links_apart (row ∷ rows) apart = (lacks_apart row.number rows apart.0, links_apart rows apart.1)
  where
    lacks_apart : (number : ℕ) (rows : List Row) → Lacks number rows → list_all (λ l. not (number == l.number)) (map link_of_row rows) ≡ true
    lacks_apart number [] lacks = refl
    lacks_apart number (r ∷ rs) lacks = and_from _ _ (ap not (ne_eqb number r.number (λ e. lacks.0 (sym e)))) (lacks_apart number rs lacks.1)

module _ (reading : ℕ) where
  -- nothing was done yet
  record IsNothing (setting : Setting) (seat : ℕ) (old : Standing) (entries : List Entry) (calls : List WorldCall) (new : Standing) : Type 0 where
    pub within : Within reading closing 0 0 0 setting seat old entries calls new
    pub no_entry : entries ≡ []
    pub no_call : calls ≡ []
    pub held : new.held ≡ old.held

  none_closed : (links : List Link) (closes : List ℕ) → closes ≡ [] → list_all (λ link. not (is_closed closes link)) links ≡ true
  none_closed [] closes is = refl
  none_closed (link ∷ links) closes is = and_from _ _ (rw is refl) (none_closed links closes is)

  pub closes_none : (a : State) → Goes (ClosesUpTo reading 0) a a
  closes_none a =
      goes_with IsNothing (ClosesUpTo reading 0) a a
      (λ from to es cs sound later p. record {
        within = p.within;
        done = [];
        kept = [];
        rest = from.held;
        old_is = refl;
        new_is = p.held;
        count_is = refl;
        apart = subst LinksApart (sym sound.held_are) (links_apart a.rows sound.differ);
        looked = refl;
        unclosed = none_closed from.held (told closes_made from.held cs) (ap (told closes_made from.held) p.no_call);
        closed = ap (told closes_made from.held) p.no_call ∙ sym (ap (told closes_held from.held) p.no_call);
      })
      (goes_none IsNothing (λ setting seat s. record { within = within_none s; no_entry = refl; no_call = refl; held = refl }) a)

  -- ---- one look

  module _ (a b : State) (index : ℕ) (before : List Row) (row : Row) (after : List Row) (size : length before ≡ index) (rows : a.rows ≡ before ++ row ∷ after) (keys : b.told ≡ a.told) (mix : b.mix ≡ a.mix) where
    size_links : length (map link_of_row before) ≡ index
    size_links = links_size before ∙ size

    -- the link is busy
    pub look_stays : b.rows ≡ a.rows → b.log ≡ a.log → Calls (TellsBusy row.server row.number true) 0 a.known b.known → Goes (LooksAt reading index true) a b
    look_stays same log call =
        goes_look (TellsBusy row.server row.number true) a b call call.meant.nothing [] (log ∙ log_stays a.log) (LooksAt reading index true) mix
        (λ os others idle from sound meant.
        let to : Standing = record { past = followed_by from.past os; held = from.held; unwritten = from.unwritten } in
        let is : from.held ≡ map link_of_row before ++ link_of_row row ∷ map link_of_row after = sound.held_are ∙ ap (map link_of_row) rows ∙ map-append link_of_row before (row ∷ after) in (
          to,
          refl,
          record {
            within = record {
              agrees = agrees_calls a.known.setting a.known.seat from os others [] to refl refl refl refl refl (λ link. refl) refl;
              alone = rw (own_none a.known.seat os others) refl;
              counts = record { received_are = refl; expired_are = rw (own_none a.known.seat os others) refl; started_are = rw (own_none a.known.seat os others) refl };
            };
            before = map link_of_row before;
            link = link_of_row row;
            after = map link_of_row after;
            old_is = is;
            index_is = size_links;
            busy = sym meant.answer;
            calls_are = refl;
            new_is = is;
            closed = refl;
          },
          subst (λ r. Sound a.known.setting r b.told to) (sym same) (subst (λ t. Sound a.known.setting a.rows t to) (sym keys) (sound_idle a.known.setting a.rows a.told os from idle sound)),
        ))

    -- or it isn't, and is closed
    pub look_gone : b.rows ≡ before ++ after → Gets (Close row.number) a.log b.log → Calls (TellsBusy row.server row.number false) 0 a.known b.known → Goes (LooksAt reading index false) a b
    look_gone left log call =
        goes_look (TellsBusy row.server row.number false) a b call call.meant.nothing (Close row.number ∷ []) log (LooksAt reading index false) mix
        (λ os others idle from sound meant.
        let setting = a.known.setting in
        let mid : Standing = record { past = followed_by from.past os; held = from.held; unwritten = from.unwritten } in
        let to : Standing = record { past = followed_by from.past os; held = without_link row.number from.held; unwritten = from.unwritten } in
        let at : Sound setting (before ++ row ∷ after) a.told mid = subst (λ r. Sound setting r a.told mid) rows (sound_idle setting a.rows a.told os from idle sound) in
        let is : from.held ≡ map link_of_row before ++ link_of_row row ∷ map link_of_row after = sound.held_are ∙ ap (map link_of_row) rows ∙ map-append link_of_row before (row ∷ after) in
        let lost = sound_lost setting a.told before row after mid at (λ leg x flies. in_flight-none setting (λ y. went_over y row.server row.number) leg mid.past x flies (sym meant.answer)) in (
          to,
          refl,
          record {
            within = record {
              agrees = agrees_calls setting a.known.seat from os others (Close row.number ∷ []) to refl refl refl refl refl (λ link. refl) refl;
              alone = rw (own_none a.known.seat os others) refl;
              counts = record { received_are = refl; expired_are = rw (own_none a.known.seat os others) refl; started_are = rw (own_none a.known.seat os others) refl };
            };
            before = map link_of_row before;
            link = link_of_row row;
            after = map link_of_row after;
            old_is = is;
            index_is = size_links;
            busy = sym meant.answer;
            calls_are = refl;
            new_is = lost.held_are ∙ map-append link_of_row before after;
            closed = rw (row_held setting a.told before row after mid at) refl;
          },
          subst (λ r. Sound setting r b.told to) (sym left) (subst (λ t. Sound setting (before ++ after) t to) (sym keys) lost),
        ))

    -- memory was wanting at its close
    pub look_cut : b.log ≡ a.log → Calls (TellsBusy row.server row.number false) 0 a.known b.known → Stops (CutLook reading) a b
    look_cut log call =
        stops_look (TellsBusy row.server row.number false) a b call call.meant.nothing [] (log ∙ log_stays a.log) (CutLook reading)
        (λ os others idle from sound.
        let to : Standing = record { past = followed_by from.past os; held = from.held; unwritten = from.unwritten } in
        record {
          within = record {
            nearly = agrees_nearly a.known.setting a.known.seat from to os [] (agrees_calls a.known.setting a.known.seat from os others [] to refl refl refl refl refl (λ link. refl) refl);
            alone = rw (own_none a.known.seat os others) refl;
          };
          no_call = refl;
        })

  -- ---- many looks

  module _ (count : ℕ) (stays : Bool) (setting : Setting) (seat : ℕ) (x y z : Standing) (es fs : List Entry) (cs ds : List WorldCall) (p : ClosesUpTo reading count setting seat x es cs y) (q : LooksAt reading count stays setting seat y fs ds z) where
    both_within : Within reading closing 0 0 0 setting seat x (es ++ fs) (cs ++ ds) z
    both_within = within_joined p.within q.within

    split_here : (p.kept ≡ q.before) × (p.rest ≡ q.link ∷ q.after)
    split_here = split_same p.kept p.rest q.before (q.link ∷ q.after) (p.count_is ∙ sym q.index_is) (sym p.new_is ∙ q.old_is)

    old_both : x.held ≡ (p.done ++ q.link ∷ []) ++ q.after
    old_both = p.old_is ∙ ap (λ l. p.done ++ l) split_here.1 ∙ sym (append_assoc p.done (q.link ∷ []) q.after)

    closes_both : told closes_made x.held (cs ++ ds) ≡ told closes_made x.held cs ++ told closes_made y.held ds
    closes_both = told_both closes_made ds p.within.agrees

    closed_both : told closes_made x.held (cs ++ ds) ≡ told closes_held x.held (cs ++ ds)
    closed_both = closes_both ∙ ap₂ (λ l m. l ++ m) p.closed q.closed ∙ sym (told_both closes_held ds p.within.agrees)

    rest_unclosed : (not (is_closed (told closes_made x.held cs) q.link) ≡ true) × (list_all (λ link. not (is_closed (told closes_made x.held cs) link)) q.after ≡ true)
    rest_unclosed = and_parts _ _ (subst (λ l. list_all (λ link. not (is_closed (told closes_made x.held cs) link)) l ≡ true) split_here.1 p.unclosed)

    looked_before : list_all (is_looked_at setting x.past (es ++ fs) (told closes_made x.held cs)) p.done ≡ true
    looked_before = looked_more setting x.past es fs (told closes_made x.held cs) p.done p.looked

    busy_end : is_busy setting q.link (followed_by x.past (es ++ fs)) ≡ stays
    busy_end = ap (is_busy setting q.link) (sym both_within.agrees.past_is) ∙ q.busy

  closes_stays : (count : ℕ) (setting : Setting) (seat : ℕ) (x y z : Standing) (es fs : List Entry) (cs ds : List WorldCall) → ClosesUpTo reading count setting seat x es cs y → LooksAt reading count true setting seat y fs ds z →
      ClosesUpTo reading (count + 1) setting seat x (es ++ fs) (cs ++ ds) z
  closes_stays count setting seat x y z es fs cs ds p q =
      let closes : told closes_made x.held (cs ++ ds) ≡ told closes_made x.held cs =
      closes_both count true setting seat x y z es fs cs ds p q ∙ ap (λ l. told closes_made x.held cs ++ told closes_made y.held l) q.calls_are ∙ append-nil (told closes_made x.held cs) in
      let split = split_here count true setting seat x y z es fs cs ds p q in
      let open' = rest_unclosed count true setting seat x y z es fs cs ds p q in
      let here : is_looked_at setting x.past (es ++ fs) (told closes_made x.held cs) q.link ≡ true =
      stays_looked (is_closed (told closes_made x.held cs) q.link) (not_true (is_closed (told closes_made x.held cs) q.link) open'.0)
      (somewhere (λ h. not (is_busy setting q.link h)) x.past (es ++ fs)) (somewhere (is_busy setting q.link) x.past (es ++ fs))
      (somewhere_end (is_busy setting q.link) x.past (es ++ fs) (busy_end count true setting seat x y z es fs cs ds p q)) in
      record {
        within = both_within count true setting seat x y z es fs cs ds p q;
        done = p.done ++ q.link ∷ [];
        kept = p.kept ++ q.link ∷ [];
        rest = q.after;
        old_is = old_both count true setting seat x y z es fs cs ds p q;
        new_is = q.new_is ∙ ap (λ l. l ++ q.link ∷ q.after) (sym split.0) ∙ sym (append_assoc p.kept (q.link ∷ []) q.after);
        count_is = length-append p.kept (q.link ∷ []) ∙ ap (λ n. n + 1) p.count_is;
        apart = p.apart;
        looked =
            ap (λ c. list_all (is_looked_at setting x.past (es ++ fs) c) (p.done ++ q.link ∷ [])) closes
            ∙ list_all-append (is_looked_at setting x.past (es ++ fs) (told closes_made x.held cs)) p.done (q.link ∷ [])
            ∙ and_from _ _ (looked_before count true setting seat x y z es fs cs ds p q) (and_from _ _ here refl);
        unclosed = ap (λ c. list_all (λ link. not (is_closed c link)) q.after) closes ∙ open'.1;
        closed = closed_both count true setting seat x y z es fs cs ds p q;
      }
    where
      stays_looked : (b : Bool) → b ≡ false → (u v : Bool) → v ≡ true → cond b u v ≡ true
      stays_looked true is u v h = absurd (true≢false is)
      stays_looked false is u v h = h

  closes_gone : (count : ℕ) (setting : Setting) (seat : ℕ) (x y z : Standing) (es fs : List Entry) (cs ds : List WorldCall) → ClosesUpTo reading count setting seat x es cs y → LooksAt reading count false setting seat y fs ds z →
      ClosesUpTo reading count setting seat x (es ++ fs) (cs ++ ds) z
  closes_gone count setting seat x y z es fs cs ds p q =
      let closes : told closes_made x.held (cs ++ ds) ≡ told closes_made x.held cs ++ q.link.number ∷ [] =
      closes_both count false setting seat x y z es fs cs ds p q ∙ ap (λ l. told closes_made x.held cs ++ told closes_made y.held l) q.calls_are in
      let split = split_here count false setting seat x y z es fs cs ds p q in
      let open' = rest_unclosed count false setting seat x y z es fs cs ds p q in
      let between = apart_between p.done q.link q.after (subst LinksApart (p.old_is ∙ ap (λ l. p.done ++ l) split.1) p.apart) in
      let is_end : not (is_busy setting q.link (followed_by x.past (es ++ fs))) ≡ true = ap not (busy_end count false setting seat x y z es fs cs ds p q) in
      let here : is_looked_at setting x.past (es ++ fs) (told closes_made x.held cs ++ q.link.number ∷ []) q.link ≡ true =
      gone_looked (is_closed (told closes_made x.held cs ++ q.link.number ∷ []) q.link) (closed_last (told closes_made x.held cs) q.link)
      (somewhere (λ h. not (is_busy setting q.link h)) x.past (es ++ fs)) (somewhere (is_busy setting q.link) x.past (es ++ fs))
      (somewhere_end (λ h. not (is_busy setting q.link h)) x.past (es ++ fs) is_end) in
      record {
        within = both_within count false setting seat x y z es fs cs ds p q;
        done = p.done ++ q.link ∷ [];
        kept = p.kept;
        rest = q.after;
        old_is = old_both count false setting seat x y z es fs cs ds p q;
        new_is = q.new_is ∙ ap (λ l. l ++ q.after) (sym split.0);
        count_is = p.count_is;
        apart = p.apart;
        looked =
            ap (λ c. list_all (is_looked_at setting x.past (es ++ fs) c) (p.done ++ q.link ∷ [])) closes
            ∙ list_all-append (is_looked_at setting x.past (es ++ fs) (told closes_made x.held cs ++ q.link.number ∷ [])) p.done (q.link ∷ [])
            ∙ and_from _ _ (looked_besides setting x.past (es ++ fs) (told closes_made x.held cs) q.link.number p.done between.0 (looked_before count false setting seat x y z es fs cs ds p q)) (and_from _ _ here refl);
        unclosed = ap (λ c. list_all (λ link. not (is_closed c link)) q.after) closes ∙ unclosed_besides (told closes_made x.held cs) q.link.number q.after between.1 open'.1;
        closed = closed_both count false setting seat x y z es fs cs ds p q;
      }
    where
      closed_last : (closes : List ℕ) (link : Link) → is_closed (closes ++ link.number ∷ []) link ≡ true
      closed_last closes link = list_any-append (λ n. n == link.number) closes (link.number ∷ []) ∙ or_last (list_any (λ n. n == link.number) closes) (link.number == link.number) (eq-eqb link.number link.number refl)
        where
          or_last : (b c : Bool) → c ≡ true → (b || (c || false)) ≡ true
          or_last true c h = refl
          or_last false c h = rw h refl

      gone_looked : (b : Bool) → b ≡ true → (u v : Bool) → u ≡ true → cond b u v ≡ true
      gone_looked true is u v h = h
      gone_looked false is u v h = absurd (true≢false (sym is))

  pub closes_more : (count : ℕ) (a b c : State) → Goes (ClosesUpTo reading count) a b → Goes (LooksAt reading count true) b c → Goes (ClosesUpTo reading (count + 1)) a c
  closes_more count a b c = goes_joined (ClosesUpTo reading count) (LooksAt reading count true) (ClosesUpTo reading (count + 1)) (closes_stays count) a b c

  pub closes_less : (count : ℕ) (a b c : State) → Goes (ClosesUpTo reading count) a b → Goes (LooksAt reading count false) b c → Goes (ClosesUpTo reading count) a c
  closes_less count a b c = goes_joined (ClosesUpTo reading count) (LooksAt reading count false) (ClosesUpTo reading count) (closes_gone count) a b c

  -- all were looked at
  pub closes_all : (count : ℕ) (a b : State) → length b.rows ≤ count → Goes (ClosesUpTo reading count) a b → Goes (MakesPart reading closing 0 0 0) a b
  closes_all count a b few = goes_with (ClosesUpTo reading count) (MakesPart reading closing 0 0 0) a b
      (λ from to es cs sound later p.
      let size : length p.kept + length p.rest ≡ length b.rows = sym (length-append p.kept p.rest) ∙ ap length (sym p.new_is ∙ later.held_are) ∙ links_size b.rows in
      let done : from.held ≡ p.done = p.old_is ∙ ap (λ l. p.done ++ l) (no_links p.rest (omega (arith, size, few, p.count_is))) ∙ append-nil p.done in
      record {
        made = record {
          agrees = p.within.agrees;
          alone = p.within.alone;
          all = ap (list_all (is_looked_at a.known.setting from.past es (told closes_made from.held cs))) done ∙ p.looked;
          closed = p.closed;
        };
        counts = p.within.counts;
      })
    where
      no_links : (links : List Link) → length links ≡ 0 → links ≡ []
      no_links [] is = refl
      no_links (link ∷ links) is = absurd (omega arith)

  -- memory was wanting
  pub closes_stop : (count : ℕ) (a b c : State) → Goes (ClosesUpTo reading count) a b → Stops (CutLook reading) b c → Stops (CutPart reading closing) a c
  closes_stop count a b c = stops_joined (ClosesUpTo reading count) (CutLook reading) (CutPart reading closing)
      (λ setting seat x y es fs cs ds p q.
      let both = nearly_joined p.within q.within in
      let closes : told closes_made x.held (cs ++ ds) ≡ told closes_made x.held cs =
      told_both closes_made ds p.within.agrees ∙ ap (λ l. told closes_made x.held cs ++ told closes_made y.held l) q.no_call ∙ append-nil (told closes_made x.held cs) in
      let held : told closes_held x.held (cs ++ ds) ≡ told closes_held x.held cs =
      told_both closes_held ds p.within.agrees ∙ ap (λ l. told closes_held x.held cs ++ told closes_held y.held l) q.no_call ∙ append-nil (told closes_held x.held cs) in
      record {
        nearly = both.nearly;
        alone = both.alone;
        by_rule = (
          closes ∙ p.closed ∙ sym held,
          ap (λ c. list_all (λ link. not (is_closed c link) || somewhere (λ h. not (is_busy setting link h)) x.past (es ++ fs)) x.held) closes
              ∙ ap (list_all (λ link. not (is_closed (told closes_made x.held cs) link) || somewhere (λ h. not (is_busy setting link h)) x.past (es ++ fs))) p.old_is
              ∙ list_all-append (λ link. not (is_closed (told closes_made x.held cs) link) || somewhere (λ h. not (is_busy setting link h)) x.past (es ++ fs)) p.done p.rest
              ∙ and_from _ _
              (unbusy_done setting x.past (es ++ fs) (told closes_made x.held cs) p.done (looked_more setting x.past es fs (told closes_made x.held cs) p.done p.looked))
              (unbusy_rest setting x.past (es ++ fs) (told closes_made x.held cs) p.rest p.unclosed),
        );
      }) a b c
    where
      unbusy_done : (setting : Setting) (past : Past) (es : List Entry) (closes : List ℕ) (links : List Link) → list_all (is_looked_at setting past es closes) links ≡ true →
          list_all (λ link. not (is_closed closes link) || somewhere (λ h. not (is_busy setting link h)) past es) links ≡ true
      unbusy_done setting past es closes [] h = refl
      unbusy_done setting past es closes (link ∷ links) h =
          let parts = and_parts (is_looked_at setting past es closes link) (list_all (is_looked_at setting past es closes) links) h in
          and_from _ _ (by_closed (is_closed closes link) (somewhere (λ k. not (is_busy setting link k)) past es) (somewhere (is_busy setting link) past es) parts.0) (unbusy_done setting past es closes links parts.1)
        where
          by_closed : (b u v : Bool) → cond b u v ≡ true → (not b || u) ≡ true
          by_closed true u v h = h
          by_closed false u v h = refl

      unbusy_rest : (setting : Setting) (past : Past) (es : List Entry) (closes : List ℕ) (links : List Link) → list_all (λ link. not (is_closed closes link)) links ≡ true →
          list_all (λ link. not (is_closed closes link) || somewhere (λ h. not (is_busy setting link h)) past es) links ≡ true
      unbusy_rest setting past es closes [] h = refl
      unbusy_rest setting past es closes (link ∷ links) h =
          let parts = and_parts (not (is_closed closes link)) (list_all (λ l. not (is_closed closes l)) links) h in
          and_from _ _ (rw parts.0 refl) (unbusy_rest setting past es closes links parts.1)
