-- A piece of a held link, and the messages that become whole with it.
use Rattle.event_runner.proofs.Base.{◌≡◌, ◌∙◌, ℕ, ◌==◌, ◌||◌, ◌&&◌, Bool, true, false, List, [], ◌∷◌, ◌++◌, map, refl, ap, sym, subst, arith, inl, inr, cond, Err, Ok, OnOk, Result, count_by, filter_map, is_none, not, list_all, and_from, and_parts, append-nil, map-append, Entry, Arrive, Piece, WorldCall, Receive, Brings, agrees_piece, told-one, is_of_turn, begun_by, left_in, messages_in, Past, followed_by, own_entries, held_link, told, with_bytes, Setting, Standing, Row, Notice, Parcel, arrived, asked, brought, faulted, messages, noted, noticed, notices, of_message, opened, queued, is_among, is_at, is_expire, losses, parts_of_entry, receiving, NoMemory, Delivers, HasDelivered, HasDeliveredSome, NoteArrivals, Ends, Goes, Stops, CutHearing, Hears, Gets, State}
use Rattle.event_runner.proofs.CallLemmas.{begins_none, leads_by, other_quiet, owner_of}
use Rattle.event_runner.proofs.GoesLemmas.{goes_by, stops_by}
use Rattle.event_runner.proofs.RowLemmas.{row_held, sound_fed}
use Rattle.event_runner.proofs.SoundLemmas.{AreIdle, Sound, sound_idle, sound_of}
use Rattle.event_runner.proofs.TrailLemmas.{trail_of}

-- a message of a link, on its way
abbrev pub parcel_of : ℕ → ℕ → List ℕ → Parcel
parcel_of server link message = record { server = server; link = link; bytes = message }

-- the own entries are arrivals
abbrev AreArrivals : ℕ → ℕ → List (List ℕ) → List Entry → Type 0
AreArrivals server link ms mine = map (λ (e : Entry). e.what) mine ≡ map (λ m. Arrive server link m) ms

-- arrivals are of the receiving part, and let nothing expire or start
arrivals_alone : (reading server link : ℕ) (mine : List Entry) (ms : List (List ℕ)) → AreArrivals server link ms mine →
    (list_all (λ (e : Entry). is_among receiving (parts_of_entry e.what) && is_at reading e.what) mine ≡ true) × (count_by (λ (e : Entry). is_expire e.what) mine ≡ 0) × (filter_map (λ (e : Entry). begun_by e.what) mine ≡ [])
arrivals_alone reading server link [] ms notes = (refl, refl, refl)
arrivals_alone reading server link (e ∷ mine) [] notes = absurd (cc notes)
arrivals_alone reading server link (e ∷ mine) (m ∷ ms) notes =
    let first : e.what ≡ Arrive server link m = cc in
    let rest = arrivals_alone reading server link mine ms (cc) in
    (rw (first, rest.0) refl, rw (first, rest.1) refl, rw (first, rest.2) refl)

module _ (setting : Setting) (seat server link : ℕ) where
  -- arrivals note their messages
  arrivals_bring : (past : Past) (es : List Entry) (ms : List (List ℕ)) → NoteArrivals seat server link ms es → Brings setting seat past es (map (parcel_of server link) ms)
  arrivals_bring past [] [] notes = record { arrivals = refl; sends = refl; links = refl; writes = λ k. refl; faults_are = refl; in_order = refl }
  arrivals_bring past [] (m ∷ ms) notes = absurd (cc notes)
  arrivals_bring past (e ∷ es) ms notes = by_seat (e.seat == seat) refl ms notes (λ more h. arrivals_bring (e.what ∷ past) es more h)
    where
      by_seat : (b : Bool) → (e.seat == seat) ≡ b → (ms : List (List ℕ)) → map (λ (x : Entry). x.what) (cond b (e ∷ own_entries seat es) (own_entries seat es)) ≡ map (λ m. Arrive server link m) ms →
          ((more : List (List ℕ)) → NoteArrivals seat server link more es → Brings setting seat (e.what ∷ past) es (map (parcel_of server link) more)) →
          Brings setting seat past (e ∷ es) (map (parcel_of server link) ms)
      by_seat false is ms h rest =
          let x = rest ms h in
          record { arrivals = rw is x.arrivals; sends = rw is x.sends; links = rw is x.links; writes = λ k. rw is (x.writes k); faults_are = rw is x.faults_are; in_order = rw is x.in_order }
      by_seat true is [] h rest = absurd (cc h)
      by_seat true is (m ∷ ms) h rest =
          let first : e.what ≡ Arrive server link m = cc in
          let x = rest ms (cc) in
          record {
            arrivals = rw is (ap (λ w. arrived past w ++ noted seat arrived (e.what ∷ past) es) first ∙ ap (λ l. parcel_of server link m ∷ l) x.arrivals);
            sends = rw is (ap (λ w. asked setting past w ++ noted seat (asked setting) (e.what ∷ past) es) first ∙ x.sends);
            links = rw is (ap (λ w. opened past w ++ noted seat opened (e.what ∷ past) es) first ∙ x.links);
            writes = λ k. rw is (ap (λ w. queued setting k past w ++ noted seat (queued setting k) (e.what ∷ past) es) first ∙ x.writes k);
            faults_are = rw is (ap (λ w. faulted past w ++ noted seat faulted (e.what ∷ past) es) first ∙ x.faults_are);
            in_order = rw is (ap (λ w. noticed setting past w ++ noted seat (noticed setting) (e.what ∷ past) es) first ∙ ap (λ l. of_message (parcel_of server link m) ∷ l) x.in_order);
          }

  -- and begin no attempt
  arrivals_idle : (es : List Entry) (ms : List (List ℕ)) → list_all (λ entry. not (is_of_turn entry) || (entry.seat == seat)) es ≡ true → NoteArrivals seat server link ms es → AreIdle es
  arrivals_idle [] ms all notes = refl
  arrivals_idle (e ∷ es) ms all notes =
      let parts = and_parts (not (is_of_turn e) || (e.seat == seat)) (list_all (λ entry. not (is_of_turn entry) || (entry.seat == seat)) es) all in
      by_seat (e.seat == seat) parts.0 ms notes (λ more h. arrivals_idle es more parts.1 h)
    where
      by_seat : (b : Bool) → (not (is_of_turn e) || b) ≡ true → (ms : List (List ℕ)) → map (λ (x : Entry). x.what) (cond b (e ∷ own_entries seat es) (own_entries seat es)) ≡ map (λ m. Arrive server link m) ms →
          ((more : List (List ℕ)) → NoteArrivals seat server link more es → AreIdle es) → AreIdle (e ∷ es)
      by_seat false turn ms h rest = and_from _ _ (begins_none e.what (other_quiet (is_of_turn e) false turn refl)) (rest ms h)
      by_seat true turn [] h rest = absurd (cc h)
      by_seat true turn (m ∷ ms) h rest =
          let first : e.what ≡ Arrive server link m = cc in
          and_from _ _ (ap (λ w. is_none (begun_by w)) first) (rest ms (cc))

module _ (reading : ℕ) (a b : State) (before : List Row) (row : Row) (after : List Row) (bytes : List ℕ) (rows : a.rows ≡ before ++ row ∷ after) (log : Gets (Receive (Piece row.number bytes)) a.log b.log) where
  brought_is : (from : Standing) → Sound a.known.setting a.rows a.told from → brought (held_link row.number from.held) bytes ≡ map (parcel_of row.server row.number) (messages_in row.unread bytes)
  brought_is from sound =
      let at : Sound a.known.setting (before ++ row ∷ after) a.told from = subst (λ r. Sound a.known.setting r a.told from) rows sound in
      ap (λ o. brought o bytes) (row_held a.known.setting a.told before row after from at)

  -- all its messages were handed
  pub hears_piece : b.rows ≡ before ++ record row { unread = left_in row.unread bytes } ∷ after → b.told ≡ a.told → b.mix ≡ a.mix → HasDelivered row.server row.number (messages_in row.unread bytes) a.known b.known → Goes (Hears reading 1) a b
  hears_piece fed told_same mix delivered =
      let setting = a.known.setting in
      let seat = a.known.seat in
      let es : List Entry = delivered.goes_on.since in
      let trail = trail_of a.known b.known delivered.goes_on in
      goes_by (Hears reading 1) a b es (Receive (Piece row.number bytes) ∷ []) trail delivered.made log
      (λ owner. leads_by (Hears reading 1) a b es (Receive (Piece row.number bytes) ∷ []) trail mix (λ from sound past.
      let alone = arrivals_alone reading row.server row.number (own_entries seat es) (messages_in row.unread bytes) delivered.notes in
      let brings = arrivals_bring setting seat row.server row.number from.past es (messages_in row.unread bytes) delivered.notes in
      let idle = arrivals_idle setting seat row.server row.number es (messages_in row.unread bytes) (owner_of a.known b.known es trail owner) delivered.notes in
      let at : Sound setting (before ++ row ∷ after) a.told from = subst (λ r. Sound setting r a.told from) rows sound in
      let mid : Standing = record { past = followed_by from.past es; held = from.held; unwritten = from.unwritten } in
      let to : Standing = record { past = followed_by from.past es; held = map (with_bytes row.number bytes) from.held; unwritten = from.unwritten } in (
        to,
        refl,
        record {
          within = record {
            agrees = agrees_piece setting seat from es row.number bytes (subst (λ ps. Brings setting seat from.past es ps) (sym (brought_is from sound)) brings);
            alone = rw alone.0 refl;
            counts = record { received_are = refl; expired_are = alone.1; started_are = rw alone.2 refl };
          };
          items = refl;
          count_is = refl;
          closed = refl;
        },
        subst (λ r. Sound setting r b.told to) (sym fed) (subst (λ t. Sound setting (before ++ record row { unread = left_in row.unread bytes } ∷ after) t to) (sym told_same)
            (sound_fed setting a.told before row after bytes mid (sound_idle setting (before ++ row ∷ after) a.told es from idle at))),
      )))

  -- some of its messages were handed
  pub cut_piece : HasDeliveredSome row.server row.number (messages_in row.unread bytes) a.known b.known → Stops (CutHearing reading) a b
  cut_piece delivered =
      let setting = a.known.setting in
      let seat = a.known.seat in
      let es : List Entry = delivered.goes_on.since in
      let cs : List WorldCall = Receive (Piece row.number bytes) ∷ [] in
      let trail = trail_of a.known b.known delivered.goes_on in
      stops_by (CutHearing reading) a b es cs trail delivered.made log
      (λ owner from holds.
      let sound = sound_of a from holds in
      let alone = arrivals_alone reading row.server row.number (own_entries seat es) delivered.handed delivered.notes in
      let brings = arrivals_bring setting seat row.server row.number from.past es delivered.handed delivered.notes in
      let all : told messages from.held cs ≡ map (parcel_of row.server row.number) (messages_in row.unread bytes) = append-nil (brought (held_link row.number from.held) bytes) ∙ brought_is from sound in
      let rest = delivered.not_more.0 in
      let split : map (parcel_of row.server row.number) delivered.handed ++ map (parcel_of row.server row.number) rest ≡ told messages from.held cs =
      sym (map-append (parcel_of row.server row.number) delivered.handed rest) ∙ ap (map (parcel_of row.server row.number)) delivered.not_more.1 ∙ sym all in
      let handed : List Notice = map of_message (map (parcel_of row.server row.number) delivered.handed) in
      let missed : List Notice = map of_message (map (parcel_of row.server row.number) rest) in
      let told_all : handed ++ missed ≡ told notices from.held cs =
      sym (map-append of_message (map (parcel_of row.server row.number) delivered.handed) (map (parcel_of row.server row.number) rest)) ∙ ap (map of_message) split
      ∙ sym (append-nil (map of_message (told messages from.held cs))) ∙ sym (told-one from.held (Receive (Piece row.number bytes))) in
      record {
        within = record {
          nearly = record {
            arrivals = inr (record {
              earlier = [];
              last = Receive (Piece row.number bytes);
              calls_are = refl;
              reached = (noted seat arrived from.past es, refl);
              not_passed = (map (parcel_of row.server row.number) rest, rw brings.arrivals split);
            });
            sends = inl brings.sends;
            links = inl brings.links;
            writes = λ k. (from.unwritten k ++ noted seat (queued setting k) from.past es, refl);
            faults_are = inl brings.faults_are;
            in_order = inl (inr (record {
              earlier = [];
              last = Receive (Piece row.number bytes);
              calls_are = refl;
              reached = (noted seat (noticed setting) from.past es, refl);
              not_passed = (missed, rw brings.in_order told_all);
            }));
          };
          alone = rw alone.0 refl;
        };
        items = refl;
        few = omega arith;
        closed = (told losses from.held cs, refl);
      })

-- a piece of a held link, to its end
pub piece_ends : (reading : ℕ) (a b : State) (before : List Row) (row : Row) (after : List Row) (number : ℕ) (bytes : List ℕ) (fed : Row) (result : Result Unit NoMemory) →
    a.rows ≡ before ++ row ∷ after → row.number ≡ number → Gets (Receive (Piece number bytes)) a.log b.log → b.rows ≡ before ++ fed ∷ after → b.told ≡ a.told → b.mix ≡ a.mix →
    OnOk result (fed ≡ record row { unread = left_in row.unread bytes }) → Delivers row.server row.number (messages_in row.unread bytes) result a.known b.known →
    Ends (λ done. Hears reading 1) (CutHearing reading) result a b
piece_ends reading a b before row after number bytes fed (Ok done) rows is log new told_same mix left delivered =
    hears_piece reading a b before row after bytes rows (subst (λ n. Gets (Receive (Piece n bytes)) a.log b.log) (sym is) log) (new ∙ ap (λ r. before ++ r ∷ after) left) told_same mix delivered
piece_ends reading a b before row after number bytes fed (Err fault) rows is log new told_same mix left delivered =
    cut_piece reading a b before row after bytes rows (subst (λ n. Gets (Receive (Piece n bytes)) a.log b.log) (sym is) log) delivered
