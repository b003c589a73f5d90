-- A query that goes out, as a desk and a network did it.
use Rattle.event_runner.proofs.Base.{◌≡◌, ◌≢◌, ◌∙◌, ℕ, ◌==◌, Bool, true, false, List, [], ◌∷◌, ◌++◌, map, refl, ap, ap₂, sym, subst, inl, inr, ⊎_elim, Err, None, Ok, OnOk, Result, Some, option_map, then_some, list_any, or_parts, append-nil, Entry, What, Fault, Start, NoMemory, ServerAddr, NotSent, WasSent, WorldCall, Connect, Send, Serve, fault-behind, flight-cases, followed_by-append, AreOthers, noted-others, noted-own, noted-append, same_notices, told-one, Row, link_of_row, framed, Past, followed_by, Calls, Known, is_mixed, Link, held_after, held_link, told, without_link, Fails, Setting, Agrees, Standing, arrived, asked, connects, datagrams, faulted, faults, messages, noted, noticed, notices, notices_of, of_fault, opened, queued, written, is_start_to, AreMadeInTurns, Ends, Goes, Stops, Asks, CutAsking, HasTold, State, serve_unless, told_with, was_told}
use Rattle.event_runner.proofs.AskLemmas.{asked_tcp, asked_udp, asks_connected, asks_datagram, asks_of, asks_queued, begun_then, begun_two, behind_start, connected_sound, cut_connected, cut_of, cut_told, cut_untold, mid, mid_sound, opened_tcp, opened_udp, queued_sound, sent_sound}
use Rattle.event_runner.proofs.QueryLemmas.{IsCore, core_connect, core_send, serves_quiet}
use Rattle.event_runner.proofs.CallLemmas.{LeadsTo, call_idle, call_meant, call_others, goes_add, leads_by, log_stays, log_trans, own, past_behind, stops_add, trail_added, trail_none_added}
use Rattle.event_runner.proofs.Outing.{Outing, Since, means}
use Rattle.event_runner.proofs.GoesLemmas.{goes_by, owner_before, stops_by}
use Rattle.event_runner.proofs.RowLemmas.{row_started, sound_lost}
use Rattle.event_runner.proofs.SoundLemmas.{AreIdle, Sound, sound_idle, sound_of, sound_one}
use Rattle.event_runner.proofs.TrailLemmas.{Trail, made_one, made_others, made_trans, trail_trans}

-- the same rows and servers, otherwise written
sound_as : (setting : Setting) (rows rows' : List Row) (keys keys' : List ℕ) (s : Standing) → rows' ≡ rows → keys' ≡ keys → Sound setting rows keys s → Sound setting rows' keys' s
sound_as setting rows rows' keys keys' s r k sound = subst (λ x. Sound setting x keys' s) (sym r) (subst (λ x. Sound setting rows x s) (sym k) sound)

module _ (o : Outing) (a b : State) where
  open o use {reading, word, bits, number, leg, server, address, link, id, message}

  -- the meaning of the start, its entry, and the calls
  abbrev pub Start_is : Known → Known → Type 0
  Start_is x y = Calls (means o) 0 x y

  abbrev pub entry_is : What
  entry_is = Start number leg server link id (then_some (is_mixed a.known.setting link) bits) reading

  abbrev pub calls_are : List WorldCall → List WorldCall
  calls_are core = serve_unless (was_told server a.told) server address ++ core

  abbrev pub keys_are : List ℕ
  keys_are = told_with (was_told server a.told) server a.told

  module _ (start : Start_is a.known b.known) where
    -- the Start and these calls, where nothing is wanting
    goes_start : (core : List WorldCall) → b.mix ≡ a.mix → b.log ≡ option_map (λ calls. calls ++ calls_are core) a.log →
        ((since : Since a.known.setting a.known.seat a.rows a.told) → means o a.known.setting (followed_by since.from.past since.os) (Some entry_is) →
        LeadsTo (Asks reading word bits) a b since.from (since.os ++ own a.known.seat entry_is ∷ []) (calls_are core)) → Goes (Asks reading word bits) a b
    goes_start core mix log step =
        goes_add (means o) a b start entry_is start.meant.0 refl (calls_are core) log (Asks reading word bits) mix
        (λ os others idle from sound meant. step (record { os = os; others = others; idle = idle; from = from; sound = sound }) meant)

    -- and where memory is
    stops_start : (calls : List WorldCall) → b.log ≡ option_map (λ cs. cs ++ calls) a.log →
        ((since : Since a.known.setting a.known.seat a.rows a.told) → means o a.known.setting (followed_by since.from.past since.os) (Some entry_is) →
        CutAsking reading word bits a.known.setting a.known.seat since.from (since.os ++ own a.known.seat entry_is ∷ []) calls) → Stops (CutAsking reading word bits) a b
    stops_start calls log step =
        stops_add (means o) a b start entry_is start.meant.0 refl calls log (CutAsking reading word bits)
        (λ os others idle from sound meant. step (record { os = os; others = others; idle = idle; from = from; sound = sound }) meant)

    -- a datagram was sent
    pub goes_sent : link ≡ 0 → b.rows ≡ a.rows → b.told ≡ keys_are → b.mix ≡ a.mix → b.log ≡ option_map (λ calls. calls ++ calls_are (Send server message WasSent ∷ [])) a.log → Goes (Asks reading word bits) a b
    goes_sent udp rows keys mix log =
        goes_start (Send server message WasSent ∷ []) mix log
        (λ since meant. (
          behind_start o since meant since.from.held,
          past_behind since.from since.os (own a.known.seat entry_is),
          asks_datagram o since meant udp,
          sound_as a.known.setting _ b.rows _ b.told _ rows keys (sent_sound o since meant udp),
        ))

    -- the query stands behind a held link's bytes
    pub goes_queued : (before : List Row) (row : Row) (after : List Row) → a.rows ≡ before ++ row ∷ after → row.number ≡ link → b.rows ≡ before ++ record row { unwritten = row.unwritten ++ framed message } ∷ after →
        b.told ≡ keys_are → b.mix ≡ a.mix → b.log ≡ option_map (λ calls. calls ++ calls_are []) a.log → Goes (Asks reading word bits) a b
    goes_queued before row after split is rows keys mix log =
        goes_start [] mix log
        (λ since meant.
        let at : Sound a.known.setting (before ++ row ∷ after) a.told (mid o since) = subst (λ r. Sound a.known.setting r a.told (mid o since)) split (mid_sound o since) in
        let has = row_started a.known.setting a.told before row after (mid o since) at in (
          behind_start o since meant since.from.held,
          past_behind since.from since.os (own a.known.seat entry_is),
          asks_queued o since meant row is has.0 has.1,
          sound_as a.known.setting _ b.rows _ b.told _ rows keys (queued_sound o since meant before row after split is),
        ))

    -- a link was begun, and the query stands on it
    pub goes_connected : link ≢ 0 → held_link link (map link_of_row a.rows) ≡ None → b.rows ≡ a.rows ++ record { number = link; server = server; unread = []; unwritten = [] ++ framed message } ∷ [] →
        b.told ≡ keys_are → b.mix ≡ a.mix → b.log ≡ option_map (λ calls. calls ++ calls_are (Connect server link WasSent ∷ [])) a.log → Goes (Asks reading word bits) a b
    goes_connected tcp none rows keys mix log =
        goes_start (Connect server link WasSent ∷ []) mix log
        (λ since meant. (
          behind_start o since meant (since.from.held ++ record { number = link; server = server; unread = [] } ∷ []),
          past_behind since.from since.os (own a.known.seat entry_is),
          asks_connected o since meant tcp none,
          sound_as a.known.setting _ b.rows _ b.told _ rows keys (connected_sound o since meant tcp none),
        ))

    -- memory was wanting
    pub stops_untold : b.log ≡ option_map (λ calls. calls ++ []) a.log → Stops (CutAsking reading word bits) a b
    stops_untold log =
        stops_start [] log (λ since meant. cut_untold o since meant)

    pub stops_told : b.log ≡ option_map (λ calls. calls ++ calls_are []) a.log → Stops (CutAsking reading word bits) a b
    stops_told log =
        stops_start (calls_are []) log (λ since meant. cut_told o since meant)

    pub stops_connected : link ≢ 0 → held_link link (map link_of_row a.rows) ≡ None → b.log ≡ option_map (λ calls. calls ++ calls_are (Connect server link WasSent ∷ [])) a.log → Stops (CutAsking reading word bits) a b
    stops_connected tcp none log =
        stops_start (calls_are (Connect server link WasSent ∷ [])) log (λ since meant. cut_connected o since meant tcp none)

  -- ---- a failure

  -- what fails with the query: its datagram, or its link
  pub record IsFailure (core : List WorldCall) : Type 0 where
    pub is_core : IsCore server core
    pub no_message : (held : List Link) → told messages held core ≡ []
    pub no_bytes : (held : List Link) (k : ℕ) → told (written k) held core ≡ []
    pub failed : (held : List Link) → told faults held core ≡ record { server = server; link = link } ∷ []
    pub left : (held : List Link) → held_after held core ≡ held
    pub last : WorldCall
    pub core_is : core ≡ last ∷ []
    pub noted_are : (since : Since a.known.setting a.known.seat a.rows a.told) → means o a.known.setting (followed_by since.from.past since.os) (Some entry_is) →
        (asked a.known.setting (followed_by since.from.past since.os) entry_is ≡ told datagrams since.from.held core)
        × (opened (followed_by since.from.past since.os) entry_is ≡ told connects since.from.held core)

  module _ (m : Known) (start : Start_is a.known m) (core : List WorldCall) (is_failure : IsFailure core) where
    module _ (since : Since a.known.setting a.known.seat a.rows a.told) (meant : means o a.known.setting (followed_by since.from.past since.os) (Some entry_is))
        (more : List Entry) (more_others : AreOthers a.known.seat more) where
      open since use {os, others, idle, from, sound}

      sends : asked a.known.setting (followed_by from.past os) entry_is ≡ told datagrams from.held core
      sends = (is_failure.noted_are since meant).0

      links : opened (followed_by from.past os) entry_is ≡ told connects from.held core
      links = (is_failure.noted_are since meant).1

      abbrev first_entries : List Entry
      first_entries = os ++ own a.known.seat entry_is ∷ []

      abbrev fault_entry : Entry
      fault_entry = own a.known.seat (Fault server link reading)

      noted_two : {A : Type 0} (notes : Past → What → List A) → noted a.known.seat notes from.past (first_entries ++ (more ++ fault_entry ∷ []))
          ≡ notes (followed_by from.past os) entry_is ++ notes (followed_by (followed_by from.past first_entries) more) (Fault server link reading)
      noted_two notes =
          noted-append a.known.seat notes from.past first_entries (more ++ fault_entry ∷ [])
          ∙ ap₂ (λ l n. l ++ n) (noted-own a.known.seat notes from.past os (own a.known.seat entry_is) others refl) (noted-own a.known.seat notes (followed_by from.past first_entries) more fault_entry more_others refl)

      noted_then : {A : Type 0} (notes : Past → What → List A) → noted a.known.seat notes from.past (first_entries ++ more) ≡ notes (followed_by from.past os) entry_is
      noted_then notes =
          noted-append a.known.seat notes from.past first_entries more
          ∙ ap₂ (λ l n. l ++ n) (noted-own a.known.seat notes from.past os (own a.known.seat entry_is) others refl) (noted-others a.known.seat notes (followed_by from.past first_entries) more more_others)
          ∙ append-nil (notes (followed_by from.past os) entry_is)

      abbrev failed_standing : Standing
      failed_standing = record {
        past = Fault server link reading ∷ followed_by (entry_is ∷ followed_by from.past os) more;
        held = from.held;
        unwritten = λ k. from.unwritten k ++ queued a.known.setting k (followed_by from.past os) entry_is;
      }

      -- behind the Start and its Fault all is noted that the failure tells, the Fault last
      failure_in_order : noticed a.known.setting (followed_by from.past os) entry_is ++ of_fault (record { server = server; link = link }) ∷ [] ≡ told notices from.held core
      failure_in_order =
          fault-behind (asked a.known.setting (followed_by from.past os) entry_is) (opened (followed_by from.past os) entry_is) (record { server = server; link = link } ∷ [])
          ∙ same_notices (sym (is_failure.no_message from.held)) sends links (sym (is_failure.failed from.held)) ∙ sym told_core
        where
          told_core : told notices from.held core ≡ notices_of (told messages from.held core) (told datagrams from.held core) (told connects from.held core) (told faults from.held core)
          told_core =
              subst (λ c. told notices from.held c ≡ notices_of (told messages from.held c) (told datagrams from.held c) (told connects from.held c) (told faults from.held c)) (sym is_failure.core_is)
              (told-one from.held is_failure.last)

      past_two : Fault server link reading ∷ followed_by (entry_is ∷ followed_by from.past os) more ≡ followed_by from.past (first_entries ++ (more ++ fault_entry ∷ []))
      past_two =
          ap (λ p. Fault server link reading ∷ followed_by p more) (past_behind from os (own a.known.seat entry_is))
          ∙ sym (followed_by-append (followed_by from.past first_entries) more (fault_entry ∷ []))
          ∙ sym (followed_by-append from.past first_entries (more ++ fault_entry ∷ []))

      agrees_failed : Agrees a.known.setting a.known.seat from (first_entries ++ (more ++ fault_entry ∷ [])) core failed_standing
      agrees_failed = record {
        past_is = past_two;
        held_are = sym (is_failure.left from.held);
        arrivals = noted_two arrived ∙ sym (is_failure.no_message from.held);
        sends = noted_two (asked a.known.setting) ∙ append-nil (asked a.known.setting (followed_by from.past os) entry_is) ∙ sends;
        links = noted_two opened ∙ append-nil (opened (followed_by from.past os) entry_is) ∙ links;
        writes = λ k.
            ap (λ l. from.unwritten k ++ l) (noted_two (queued a.known.setting k) ∙ append-nil (queued a.known.setting k (followed_by from.past os) entry_is))
            ∙ ap (λ l. l ++ (from.unwritten k ++ queued a.known.setting k (followed_by from.past os) entry_is)) (sym (is_failure.no_bytes from.held k));
        faults_are = noted_two faulted ∙ sym (is_failure.failed from.held);
        in_order = noted_two (noticed a.known.setting) ∙ failure_in_order;
      }

      asks_failed : Asks reading word bits a.known.setting a.known.seat from (first_entries ++ (more ++ fault_entry ∷ [])) (calls_are core) failed_standing
      asks_failed =
          asks_of o since meant (first_entries ++ (more ++ fault_entry ∷ [])) core failed_standing
          (begun_two o since more more_others) is_failure.is_core agrees_failed
          (λ other none. start_first other none)
        where
          start_first : (other : ℕ) → list_any (is_start_to other) (followed_by (entry_is ∷ followed_by from.past os) more) ≡ false → (server == other) ≡ false
          start_first other none = (or_parts (server == other) (list_any (is_start_to other) (followed_by from.past os)) (any_before other more (entry_is ∷ followed_by from.past os) none)).0
            where
              any_before : (other : ℕ) (es : List Entry) (past : Past) → list_any (is_start_to other) (followed_by past es) ≡ false → list_any (is_start_to other) past ≡ false
              any_before other [] past e = e
              any_before other (x ∷ es) past e = (or_parts (is_start_to other x.what) (list_any (is_start_to other) past) (any_before other es (x.what ∷ past) e)).1

      -- the Fault found no memory
      cut_failed : CutAsking reading word bits a.known.setting a.known.seat from (first_entries ++ more) (calls_are core)
      cut_failed =
          cut_of o since meant (first_entries ++ more) core
          (begun_then o since more more_others) is_failure.is_core
          (record {
            arrivals = inl (noted_then arrived ∙ sym (serves_quiet server address messages (λ h. refl) (was_told server a.told) from.held core ∙ is_failure.no_message from.held));
            sends = inl (noted_then (asked a.known.setting) ∙ sends ∙ sym (serves_quiet server address datagrams (λ h. refl) (was_told server a.told) from.held core));
            links = inl (noted_then opened ∙ links ∙ sym (serves_quiet server address connects (λ h. refl) (was_told server a.told) from.held core));
            writes = λ k. (
              from.unwritten k ++ noted a.known.seat (queued a.known.setting k) from.past (first_entries ++ more),
              ap (λ l. l ++ (from.unwritten k ++ noted a.known.seat (queued a.known.setting k) from.past (first_entries ++ more)))
                  (serves_quiet server address (written k) (λ h. refl) (was_told server a.told) from.held core ∙ is_failure.no_bytes from.held k),
            );
            faults_are = inr (record {
              earlier = serve_unless (was_told server a.told) server address;
              last = is_failure.last;
              calls_are = ap (λ l. serve_unless (was_told server a.told) server address ++ l) is_failure.core_is;
              reached = (
                noted a.known.seat faulted from.past (first_entries ++ more),
                ap (λ l. l ++ noted a.known.seat faulted from.past (first_entries ++ more)) (none_told faults (λ h. refl) (was_told server a.told) from.held),
              );
              not_passed = (told faults from.held (calls_are core), ap (λ l. l ++ told faults from.held (calls_are core)) (noted_then faulted));
            });
            in_order = inl (inr (record {
              earlier = serve_unless (was_told server a.told) server address;
              last = is_failure.last;
              calls_are = ap (λ l. serve_unless (was_told server a.told) server address ++ l) is_failure.core_is;
              reached = (
                noted a.known.seat (noticed a.known.setting) from.past (first_entries ++ more),
                ap (λ l. l ++ noted a.known.seat (noticed a.known.setting) from.past (first_entries ++ more)) (none_told notices (λ h. refl) (was_told server a.told) from.held),
              );
              not_passed = (
                of_fault (record { server = server; link = link }) ∷ [],
                ap (λ l. l ++ of_fault (record { server = server; link = link }) ∷ []) (noted_then (noticed a.known.setting))
                    ∙ failure_in_order ∙ sym (serves_quiet server address notices (λ h. refl) (was_told server a.told) from.held core),
              );
            }));
          })
        where
          none_told : {A : Type 0} (tells : List Link → WorldCall → List A) → ((held : List Link) → tells held (Serve server address) ≡ []) → (already : Bool) (held : List Link) →
              told tells held (serve_unless already server address) ≡ []
          none_told tells none true held = refl
          none_told tells none false held = ap (λ l. l ++ []) (none held)

    module _ (count : ℕ) (fault : Calls (Fails server link reading (Ok count)) 0 m b.known) where
      abbrev fault_is : What
      fault_is = Fault server link reading

      fault_trail : Trail m b.known (fault.stands.others ++ own a.known.seat fault_is ∷ [])
      fault_trail = subst (λ s. Trail m b.known (fault.stands.others ++ own s fault_is ∷ [])) start.desk.seat (trail_added (Fails server link reading (Ok count)) m b.known fault fault_is fault.meant.0)

      fault_others : AreOthers a.known.seat fault.stands.others
      fault_others = subst (λ s. AreOthers s fault.stands.others) start.desk.seat (call_others (Fails server link reading (Ok count)) m b.known fault)

      start_trail : Trail a.known m (start.stands.others ++ own a.known.seat entry_is ∷ [])
      start_trail = trail_added (means o) a.known m start entry_is start.meant.0

      both_made : AreMadeInTurns a.known.seat ((start.stands.others ++ own a.known.seat entry_is ∷ []) ++ (fault.stands.others ++ own a.known.seat fault_is ∷ []))
      both_made = made_trans a.known m (start.stands.others ++ own a.known.seat entry_is ∷ []) (fault.stands.others ++ own a.known.seat fault_is ∷ []) start.desk.seat
          (made_one a.known.seat start.stands.others entry_is start.stands.by_others refl)
          (subst (λ s. AreMadeInTurns m.seat (fault.stands.others ++ own s fault_is ∷ [])) start.desk.seat (made_one m.seat fault.stands.others fault_is fault.stands.by_others refl))

      abbrev both_entries : List Entry
      both_entries = (start.stands.others ++ own a.known.seat entry_is ∷ []) ++ (fault.stands.others ++ own a.known.seat fault_is ∷ [])

      -- the attempt failed, where what the runner keeps is right behind the Fault
      pub goes_failed : b.mix ≡ a.mix → b.log ≡ option_map (λ calls. calls ++ calls_are core) a.log →
          ((since : Since a.known.setting a.known.seat a.rows a.told) → means o a.known.setting (followed_by since.from.past since.os) (Some entry_is) →
          (more : List Entry) → AreIdle more → Sound a.known.setting b.rows b.told (record {
            past = fault_is ∷ followed_by (entry_is ∷ followed_by since.from.past since.os) more;
            held = since.from.held;
            unwritten = λ k. since.from.unwritten k ++ queued a.known.setting k (followed_by since.from.past since.os) entry_is;
          })) →
          Goes (Asks reading word bits) a b
      goes_failed mix log step =
          let trail = trail_trans a.known m b.known (start.stands.others ++ own a.known.seat entry_is ∷ []) (fault.stands.others ++ own a.known.seat fault_is ∷ []) start_trail fault_trail in
          goes_by (Asks reading word bits) a b both_entries (calls_are core) trail both_made log
          (λ owner. leads_by (Asks reading word bits) a b both_entries (calls_are core) trail mix (λ from sound past.
          let since : Since a.known.setting a.known.seat a.rows a.told = record {
            os = start.stands.others;
            others = call_others (means o) a.known m start;
            idle = call_idle (means o) a.known m start (owner_before m b.known (fault.stands.others ++ own a.known.seat fault_is ∷ []) fault_trail owner);
            from = from;
            sound = sound;
          } in
          let meant : means o a.known.setting (followed_by from.past start.stands.others) (Some entry_is) =
          subst (λ w. means o a.known.setting (followed_by from.past start.stands.others) w) start.meant.0 (call_meant (means o) a.known m start from.past past) in (
            failed_standing since meant fault.stands.others fault_others,
            past_two since meant fault.stands.others fault_others,
            asks_failed since meant fault.stands.others fault_others,
            step since meant fault.stands.others (call_idle (Fails server link reading (Ok count)) m b.known fault owner),
          )))

    -- the Fault found no memory
    module _ (unkept : NoMemory) (fault : Calls (Fails server link reading (Err unkept)) 0 m b.known) where
      pub stops_failed : b.log ≡ option_map (λ calls. calls ++ calls_are core) a.log → Stops (CutAsking reading word bits) a b
      stops_failed log =
          let first = trail_added (means o) a.known m start entry_is start.meant.0 in
          let then_ = trail_none_added (Fails server link reading (Err unkept)) m b.known fault fault.meant in
          let os : List Entry = start.stands.others in
          let more : List Entry = fault.stands.others in
          let more_others : AreOthers a.known.seat more = subst (λ s. AreOthers s more) start.desk.seat (call_others (Fails server link reading (Err unkept)) m b.known fault) in
          stops_by (CutAsking reading word bits) a b ((os ++ own a.known.seat entry_is ∷ []) ++ more) (calls_are core) (trail_trans a.known m b.known (os ++ own a.known.seat entry_is ∷ []) more first then_)
          (made_trans a.known m (os ++ own a.known.seat entry_is ∷ []) more start.desk.seat (made_one a.known.seat os entry_is start.stands.by_others refl) (made_others m.seat more fault.stands.by_others)) log
          (λ owner from holds.
          let meant : means o a.known.setting (followed_by from.past os) (Some entry_is) =
          subst (λ w. means o a.known.setting (followed_by from.past os) w) start.meant.0 (call_meant (means o) a.known m start from.past holds.fits.past_is) in
          cut_failed (record {
            os = os;
            others = call_others (means o) a.known m start;
            idle = call_idle (means o) a.known m start (owner_before m b.known more then_ owner);
            from = from;
            sound = sound_of a from holds;
          }) meant more more_others)

-- a datagram that failed
module _ (o : Outing) (a b : State) (udp : o.link ≡ 0) where
  pub datagram_failure : IsFailure o a b (Send o.server o.message NotSent ∷ [])
  datagram_failure = record {
    is_core = core_send o.server o.message NotSent;
    no_message = λ held. refl;
    no_bytes = λ held k. refl;
    failed = λ held. ap (λ n. record { server = o.server; link = n } ∷ []) (sym udp);
    left = λ held. refl;
    last = Send o.server o.message NotSent;
    core_is = refl;
    noted_are = λ since meant. (asked_udp o since meant udp, opened_udp o since meant udp);
  }

  pub goes_unsent : (m : Known) (start : Start_is o a b a.known m) (count : ℕ) → Calls (Fails o.server o.link o.reading (Ok count)) 0 m b.known →
      b.rows ≡ a.rows → b.told ≡ keys_are o a b → b.mix ≡ a.mix → b.log ≡ option_map (λ calls. calls ++ calls_are o a b (Send o.server o.message NotSent ∷ [])) a.log →
      Goes (Asks o.reading o.word o.bits) a b
  goes_unsent m start count fault rows keys mix log =
      goes_failed o a b m start (Send o.server o.message NotSent ∷ []) datagram_failure count fault mix log
      (λ since meant more more_idle.
      let sent = sound_as a.known.setting _ b.rows _ b.told _ rows keys (sent_sound o since meant udp) in
      sound_one a.known.setting b.rows b.told (Fault o.server o.link o.reading) _ refl (sound_idle a.known.setting b.rows b.told more _ more_idle sent))

-- a link that failed to begin
module _ (o : Outing) (a b : State) (tcp : o.link ≢ 0) (none : held_link o.link (map link_of_row a.rows) ≡ None) where
  pub link_failure : IsFailure o a b (Connect o.server o.link NotSent ∷ [])
  link_failure = record {
    is_core = core_connect o.server o.link NotSent;
    no_message = λ held. refl;
    no_bytes = λ held k. refl;
    failed = λ held. refl;
    left = λ held. refl;
    last = Connect o.server o.link NotSent;
    core_is = refl;
    noted_are = λ since meant. (asked_tcp o since meant tcp, opened_tcp o since meant tcp none);
  }

  pub goes_unlinked : (m : Known) (start : Start_is o a b a.known m) (count : ℕ) → Calls (Fails o.server o.link o.reading (Ok count)) 0 m b.known →
      b.rows ≡ a.rows → b.told ≡ keys_are o a b → b.mix ≡ a.mix → b.log ≡ option_map (λ calls. calls ++ calls_are o a b (Connect o.server o.link NotSent ∷ [])) a.log →
      Goes (Asks o.reading o.word o.bits) a b
  goes_unlinked m start count fault rows keys mix log =
      goes_failed o a b m start (Connect o.server o.link NotSent ∷ []) link_failure count fault mix log
      (λ since meant more more_idle.
      let row : Row = record { number = o.link; server = o.server; unread = []; unwritten = [] ++ framed o.message } in
      let past : Past = entry_is o a b ∷ followed_by since.from.past since.os in
      let linked = connected_sound o since meant tcp none in
      let later = sound_idle a.known.setting (a.rows ++ row ∷ []) (keys_are o a b) more _ more_idle linked in
      let faulted_ = sound_one a.known.setting (a.rows ++ row ∷ []) (keys_are o a b) (Fault o.server o.link o.reading) _ refl later in
      let lost = sound_lost a.known.setting (keys_are o a b) a.rows row [] _ faulted_
      (λ l x flies. ⊎_elim (λ h. absurd (cc (h.0))) (λ h. h.1) (flight-cases a.known.setting l (Fault o.server o.link o.reading) (followed_by past more) x flies)) in
      let same : lost_held since.from.held ≡ since.from.held = lost.held_are ∙ ap (map link_of_row) (append-nil a.rows) ∙ sym since.sound.held_are in
      sound_as a.known.setting (a.rows ++ []) b.rows (keys_are o a b) b.told _ (rows ∙ sym (append-nil a.rows)) keys
      (subst (λ h. Sound a.known.setting (a.rows ++ []) (keys_are o a b) (record {
        past = Fault o.server o.link o.reading ∷ followed_by past more;
        held = h;
        unwritten = λ k. since.from.unwritten k ++ queued a.known.setting k (followed_by since.from.past since.os) (entry_is o a b);
      })) same lost))
    where
      lost_held : List Link → List Link
      lost_held held = without_link o.link (held ++ record { number = o.link; server = o.server; unread = [] } ∷ [])

-- a server that is told, or isn't any more
pub tells_already : (server : ℕ) (address : ServerAddr) (a b : State) → was_told server a.told ≡ true → b ≡ a → HasTold server address a b
tells_already server address a b is same = subst (λ x. HasTold server address a x) (sym same) (record {
  known = refl;
  rows = refl;
  mix = refl;
  told = ap (λ b. told_with b server a.told) (sym is);
  log = log_stays a.log ∙ ap (λ b. option_map (λ calls. calls ++ serve_unless b server address) a.log) (sym is);
})

-- a query that is put behind a held link's bytes, to its end
pub queued_ends : (o : Outing) (a t b : State) (start : Start_is o a b a.known b.known) (before : List Row) (row fed : Row) (after : List Row) (result : Result Unit NoMemory) →
    HasTold o.server o.address a t → t.rows ≡ before ++ row ∷ after → row.number ≡ o.link → b.rows ≡ before ++ fed ∷ after → b.told ≡ t.told → b.mix ≡ t.mix → b.log ≡ t.log →
    OnOk result (fed ≡ record row { unwritten = row.unwritten ++ framed o.message }) → Ends (λ done. Asks o.reading o.word o.bits) (CutAsking o.reading o.word o.bits) result a b
queued_ends o a t b start before row fed after result told split is rows keys mix log put = by result put
  where
    logged : b.log ≡ option_map (λ calls. calls ++ calls_are o a b []) a.log
    logged = log ∙ log_trans (serve_unless (was_told o.server a.told) o.server o.address) [] a.log t.log t.log told.log (log_stays t.log)

    by : (r : Result Unit NoMemory) → OnOk r (fed ≡ record row { unwritten = row.unwritten ++ framed o.message }) → Ends (λ done. Asks o.reading o.word o.bits) (CutAsking o.reading o.word o.bits) r a b
    by (Ok done) is_put = goes_queued o a b start before row after (sym told.rows ∙ split) is (rows ∙ ap (λ r. before ++ r ∷ after) is_put) (keys ∙ told.told) (mix ∙ told.mix) logged
    by (Err fault) is_put = stops_told o a b start logged
