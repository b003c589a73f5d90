-- Items that are received, one by one.
use Rattle.event_runner.proofs.Base.{◌≡◌, ◌∙◌, ℕ, false, List, [], ◌∷◌, ◌++◌, map, refl, ap, sym, subst, arith, eq-eqb, inl, inr, ⊎_elim, None, Ok, Some, option_map, append-nil, Entry, What, Arrive, Fault, Got, Datagram, Ended, LinkFailed, Nothing, Piece, WorldCall, Close, Receive, Landed, agrees_nearly, flight-cases, AreOthers, agrees_calls, agrees_datagram, agrees_nothing, agrees_step, noted-others, noted-own, agrees_none, FallsShort, NearlyAgrees, went_over, followed_by, Calls, Link, held_after, held_by_receive, held_link, told, with_bytes, without_link, Arrives, Fails, Meaning, Setting, Standing, Row, link_of_row, arrived, asked, fault_received, faulted, faults, messages, messages_of, noted, noticed, notices, opened, queued, if_held, is_nothing, losses, lost_receiving, Goes, Stops, CutHearing, Hears, HearsNothing, Gets, State}
use Rattle.event_runner.proofs.CallLemmas.{goes_add, goes_alone, log_stays, own, own_none, own_one, past_behind, stops_add, stops_alone, stops_look}
use Rattle.event_runner.proofs.DeliverLemmas.{arrive_adds}
use Rattle.event_runner.proofs.RowLemmas.{lacks_none, row_held, sound_lost, with_bytes_lacks, without_again, without_lacks}
use Rattle.event_runner.proofs.SoundLemmas.{Sound, sound_idle, sound_one}

-- what the runner keeps is the same
pub record Keeps (a b : State) : Type 0 where
  pub rows : b.rows ≡ a.rows
  pub told : b.told ≡ a.told
  pub mix : b.mix ≡ a.mix

pub sound_kept : (setting : Setting) (a b : State) (s : Standing) → Keeps a b → Sound setting a.rows a.told s → Sound setting b.rows b.told s
sound_kept setting a b s keeps sound = subst (λ t. Sound setting b.rows t s) (sym keeps.told) (subst (λ r. Sound setting r a.told s) (sym keeps.rows) sound)

-- the journal notes nothing of the one call
pub stops_before : {A : Type 0} (tells : List Link → WorldCall → List A) (held : List Link) (call : WorldCall) (notes : List A) → notes ≡ [] → FallsShort tells held (call ∷ []) notes
stops_before tells held call notes none = inr (record {
  earlier = [];
  last = call;
  calls_are = refl;
  reached = (notes, refl);
  not_passed = (told tells held (call ∷ []), rw none refl);
})

-- nothing is noted of what was received
pub nearly_before : (setting : Setting) (seat : ℕ) (from : Standing) (os : List Entry) (got : Got) → AreOthers seat os → NearlyAgrees setting seat from os (Receive got ∷ [])
nearly_before setting seat from os got others = record {
  arrivals = stops_before messages from.held (Receive got) (noted seat arrived from.past os) (noted-others seat arrived from.past os others);
  sends = inl (noted-others seat (asked setting) from.past os others);
  links = inl (noted-others seat opened from.past os others);
  writes = λ link. (from.unwritten link ++ noted seat (queued setting link) from.past os, refl);
  faults_are = stops_before faults from.held (Receive got) (noted seat faulted from.past os) (noted-others seat faulted from.past os others);
  in_order = inl (stops_before notices from.held (Receive got) (noted seat (noticed setting) from.past os) (noted-others seat (noticed setting) from.past os others));
}

-- what was received ends a link or tells its failure
pub record IsLoss (got : Got) (number : ℕ) : Type 0 where
  pub item : is_nothing got ≡ false
  pub no_message : (held : List Link) → messages_of held got ≡ []
  pub fault : (held : List Link) (link : Link) → held_link number held ≡ Some link → fault_received held got ≡ record { server = link.server; link = link.number } ∷ []
  pub loss : (held : List Link) → lost_receiving held got ≡ if_held held number
  pub left : (held : List Link) → held_by_receive held got ≡ without_link number held

pub end_loss : (number : ℕ) → IsLoss (Ended number) number
end_loss number = record { item = refl; no_message = λ held. refl; fault = λ held link is. rw is refl; loss = λ held. refl; left = λ held. refl }

pub failure_loss : (server number : ℕ) → IsLoss (LinkFailed server number) number
failure_loss server number = record { item = refl; no_message = λ held. refl; fault = λ held link is. rw is refl; loss = λ held. refl; left = λ held. refl }

module _ (reading : ℕ) where
  -- a datagram, and its Arrive
  pub hears_datagram : (a b : State) (server : ℕ) (bytes : List ℕ) (landed : Landed) → Keeps a b → Gets (Receive (Datagram server bytes)) a.log b.log →
      Calls (Arrives server 0 bytes (Ok landed)) 0 a.known b.known → Goes (Hears reading 1) a b
  hears_datagram a b server bytes landed keeps log call =
      goes_add (Arrives server 0 bytes (Ok landed)) a b call (Arrive server 0 bytes) (arrive_adds server 0 bytes landed a.known.setting _ call.added call.meant) refl (Receive (Datagram server bytes) ∷ []) log (Hears reading 1) keeps.mix
      (λ os others idle from sound meant.
      let entry = own a.known.seat (Arrive server 0 bytes) in
      let mid : Standing = record { past = followed_by from.past os; held = from.held; unwritten = from.unwritten } in
      let to : Standing = record { past = Arrive server 0 bytes ∷ followed_by from.past os; held = from.held; unwritten = from.unwritten } in
      let mine = own_one a.known.seat os entry others refl in (
        to,
        past_behind from os entry,
        record {
          within = record {
            agrees = agrees_datagram a.known.setting a.known.seat from os others entry server bytes refl refl;
            alone = rw mine refl;
            counts = record { received_are = refl; expired_are = rw mine refl; started_are = rw mine refl };
          };
          items = refl;
          count_is = refl;
          closed = refl;
        },
        sound_kept a.known.setting a b to keeps (sound_one a.known.setting a.rows a.told (Arrive server 0 bytes) mid refl (sound_idle a.known.setting a.rows a.told os from idle sound)),
      ))

  -- an item of which nothing is noted
  cut_before : (setting : Setting) (seat : ℕ) (from : Standing) (os : List Entry) (got : Got) → is_nothing got ≡ false → AreOthers seat os → CutHearing reading setting seat from os (Receive got ∷ [])
  cut_before setting seat from os got item others = record {
    within = record { nearly = nearly_before setting seat from os got others; alone = rw (own_none seat os others) refl };
    items = rw item refl;
    few = omega arith;
    closed = (told losses from.held (Receive got ∷ []), refl);
  }

  pub cut_item : (a b : State) (got : Got) (meaning : Meaning) → is_nothing got ≡ false → Gets (Receive got) a.log b.log →
      (call : Calls meaning 0 a.known b.known) → call.added ≡ None → Stops (CutHearing reading) a b
  cut_item a b got meaning item log call none =
      stops_look meaning a b call none (Receive got ∷ []) log (CutHearing reading) (λ os others idle from sound. cut_before a.known.setting a.known.seat from os got item others)

  -- want of memory before an item
  pub cut_receive : (a b : State) → b.known ≡ a.known → b.log ≡ a.log → Stops (CutHearing reading) a b
  cut_receive a b same log =
      stops_alone a b same [] (log ∙ log_stays a.log) (CutHearing reading) (λ from sound. record {
        within = record { nearly = agrees_nearly a.known.setting a.known.seat from from [] [] (agrees_none a.known.setting a.known.seat from); alone = refl };
        items = refl;
        few = omega arith;
        closed = ([], refl);
      })

  -- nothing to receive
  pub hears_nothing : (a b : State) → b.known ≡ a.known → Keeps a b → Gets (Receive Nothing) a.log b.log → Goes (HearsNothing reading) a b
  hears_nothing a b same keeps log =
      goes_alone a b same (Receive Nothing ∷ []) log (HearsNothing reading) keeps.mix
      (λ from sound. (
        from,
        refl,
        record {
          within = record { agrees = agrees_nothing a.known.setting a.known.seat from [] refl; alone = refl; counts = record { received_are = refl; expired_are = refl; started_are = refl } };
          nothing = refl;
          closed = refl;
        },
        sound_kept a.known.setting a b from keeps sound,
      ))

  -- ---- a link that ended or failed

  -- an own Fault
  abbrev fault_at : ℕ → ℕ → What
  fault_at server number = Fault server number reading

  module _ (a b : State) (got : Got) (number : ℕ) (is_loss : IsLoss got number) where
    -- behind the Fault of a held link, before its close
    loss_nearly : (setting : Setting) (seat : ℕ) (from : Standing) (os : List Entry) (row : Row) → AreOthers seat os → row.number ≡ number → held_link number from.held ≡ Some (link_of_row row) →
        CutHearing reading setting seat from (os ++ own seat (fault_at row.server number) ∷ []) (Receive got ∷ [])
    loss_nearly setting seat from os row others is held =
        let entry = own seat (fault_at row.server number) in
        let mine = own_one seat os entry others refl in
        record {
          within = record {
            nearly = record {
              arrivals = inl (noted-own seat arrived from.past os entry others refl ∙ rw (is_loss.no_message from.held) refl);
              sends = inl (noted-own seat (asked setting) from.past os entry others refl);
              links = inl (noted-own seat opened from.past os entry others refl);
              writes = λ link. (from.unwritten link ++ noted seat (queued setting link) from.past (os ++ entry ∷ []), refl);
              faults_are = inl (noted-own seat faulted from.past os entry others refl ∙ rw (is_loss.fault from.held (link_of_row row) held, is) refl);
              in_order = inl (inl (noted-own seat (noticed setting) from.past os entry others refl ∙ rw (is_loss.no_message from.held, is_loss.fault from.held (link_of_row row) held, is) refl));
            };
            alone = rw (mine, eq-eqb reading reading refl) refl;
          };
          items = rw is_loss.item refl;
          few = omega arith;
          closed = (told losses from.held (Receive got ∷ []), refl);
        }

    pub cut_close : (before : List Row) (row : Row) (after : List Row) (count : ℕ) → a.rows ≡ before ++ row ∷ after → row.number ≡ number → Gets (Receive got) a.log b.log →
        Calls (Fails row.server number reading (Ok count)) 0 a.known b.known → Stops (CutHearing reading) a b
    cut_close before row after count rows is log call =
        stops_add (Fails row.server number reading (Ok count)) a b call (fault_at row.server number) call.meant.0 refl (Receive got ∷ []) log (CutHearing reading)
        (λ os others idle from sound meant.
        let at : Sound a.known.setting (before ++ row ∷ after) a.told from = subst (λ r. Sound a.known.setting r a.told from) rows sound in
        loss_nearly a.known.setting a.known.seat from os row others is (subst (λ n. held_link n from.held ≡ Some (link_of_row row)) is (row_held a.known.setting a.told before row after from at)))

    pub hears_loss : (before : List Row) (row : Row) (after : List Row) (count : ℕ) → a.rows ≡ before ++ row ∷ after → b.rows ≡ before ++ after → b.told ≡ a.told → b.mix ≡ a.mix → row.number ≡ number →
        b.log ≡ option_map (λ calls. calls ++ (Receive got ∷ Close number ∷ [])) a.log → Calls (Fails row.server number reading (Ok count)) 0 a.known b.known → Goes (Hears reading 1) a b
    hears_loss before row after count rows left told_same mix is log call =
        goes_add (Fails row.server number reading (Ok count)) a b call (fault_at row.server number) call.meant.0 refl (Receive got ∷ Close number ∷ []) log (Hears reading 1) mix
        (λ os others idle from sound meant.
        let setting = a.known.setting in
        let seat = a.known.seat in
        let entry = own seat (fault_at row.server number) in
        let cs : List WorldCall = Receive got ∷ Close number ∷ [] in
        let mine = own_one seat os entry others refl in
        let at : Sound setting (before ++ row ∷ after) a.told from = subst (λ r. Sound setting r a.told from) rows sound in
        let held : held_link number from.held ≡ Some (link_of_row row) = subst (λ n. held_link n from.held ≡ Some (link_of_row row)) is (row_held setting a.told before row after from at) in
        let mid : Standing = record { past = followed_by from.past os; held = from.held; unwritten = from.unwritten } in
        let to : Standing = record { past = fault_at row.server number ∷ followed_by from.past os; held = held_after from.held cs; unwritten = from.unwritten } in
        let middle : Standing = record { past = fault_at row.server number ∷ followed_by from.past os; held = from.held; unwritten = from.unwritten } in
        let faulted_sound : Sound setting (before ++ row ∷ after) a.told middle = sound_one setting (before ++ row ∷ after) a.told (fault_at row.server number) mid refl (sound_idle setting (before ++ row ∷ after) a.told os from idle at) in
        let lost = sound_lost setting a.told before row after middle faulted_sound (λ leg x flies. ⊎_elim
        (λ h. absurd (cc (h.0)))
        (λ h. subst (λ n. went_over x row.server n ≡ false) (sym is) h.1)
        (flight-cases setting leg (fault_at row.server number) (followed_by from.past os) x flies)) in
        let gone : held_after from.held cs ≡ without_link row.number from.held =
        ap (without_link number) (is_loss.left from.held) ∙ ap (λ n. without_link n (without_link n from.held)) (sym is)
        ∙ ap (without_link row.number) lost.held_are ∙ without_again before row after at.differ ∙ sym lost.held_are in (
          to,
          past_behind from os entry,
          record {
            within = record {
              agrees = agrees_step setting seat from os others entry cs to refl refl refl (rw (is_loss.no_message from.held) refl) refl refl (λ link. append-nil (from.unwritten link)) (rw (is_loss.fault from.held (link_of_row row) held, is) refl)
                  (rw (is_loss.no_message from.held, is_loss.fault from.held (link_of_row row) held, is) refl);
              alone = rw (mine, eq-eqb reading reading refl) refl;
              counts = record { received_are = rw is_loss.item refl; expired_are = rw mine refl; started_are = rw mine refl };
            };
            items = rw is_loss.item refl;
            count_is = refl;
            closed = rw (is_loss.loss from.held, held) (rw is refl);
          },
          subst (λ r. Sound setting r b.told to) (sym left) (subst (λ t. Sound setting (before ++ after) t to) (sym told_same)
              (subst (λ h. Sound setting (before ++ after) a.told (record { past = fault_at row.server number ∷ followed_by from.past os; held = h; unwritten = from.unwritten })) (sym gone) lost)),
        ))

  -- ---- what is of a link that isn't held

  module _ (a b : State) (number : ℕ) (none : held_link number (map link_of_row a.rows) ≡ None) where
    not_held : (from : Standing) → Sound a.known.setting a.rows a.told from → held_link number from.held ≡ None
    not_held from sound = ap (held_link number) sound.held_are ∙ none

    stays_held : (from : Standing) → Sound a.known.setting a.rows a.told from → without_link number from.held ≡ from.held
    stays_held from sound = ap (without_link number) sound.held_are ∙ without_lacks number a.rows (lacks_none number a.rows none) ∙ sym sound.held_are

    -- an end is passed over
    pub passes_end : b.known ≡ a.known → Keeps a b → Gets (Receive (Ended number)) a.log b.log → Goes (Hears reading 1) a b
    passes_end same keeps log =
        goes_alone a b same (Receive (Ended number) ∷ []) log (Hears reading 1) keeps.mix
        (λ from sound.
        let to : Standing = record { past = from.past; held = without_link number from.held; unwritten = from.unwritten } in (
          to,
          refl,
          record {
            within = record {
              agrees = agrees_calls a.known.setting a.known.seat from [] refl (Receive (Ended number) ∷ []) to refl refl refl refl refl (λ link. refl) (rw (not_held from sound) refl);
              alone = refl;
              counts = record { received_are = refl; expired_are = refl; started_are = refl };
            };
            items = refl;
            count_is = refl;
            closed = rw (not_held from sound) refl;
          },
          sound_kept a.known.setting a b to keeps
              (subst (λ h. Sound a.known.setting a.rows a.told (record { past = from.past; held = h; unwritten = from.unwritten })) (sym (stays_held from sound)) sound),
        ))

    -- a piece is passed over
    pub passes_piece : (bytes : List ℕ) → b.known ≡ a.known → Keeps a b → Gets (Receive (Piece number bytes)) a.log b.log → Goes (Hears reading 1) a b
    passes_piece bytes same keeps log =
        goes_alone a b same (Receive (Piece number bytes) ∷ []) log (Hears reading 1) keeps.mix
        (λ from sound.
        let to : Standing = record { past = from.past; held = map (with_bytes number bytes) from.held; unwritten = from.unwritten } in
        let stays : map (with_bytes number bytes) from.held ≡ from.held =
        ap (map (with_bytes number bytes)) sound.held_are ∙ with_bytes_lacks number bytes a.rows (lacks_none number a.rows none) ∙ sym sound.held_are in (
          to,
          refl,
          record {
            within = record {
              agrees = agrees_calls a.known.setting a.known.seat from [] refl (Receive (Piece number bytes) ∷ []) to refl refl (rw (not_held from sound) refl) refl refl (λ link. refl) refl;
              alone = refl;
              counts = record { received_are = refl; expired_are = refl; started_are = refl };
            };
            items = refl;
            count_is = refl;
            closed = refl;
          },
          sound_kept a.known.setting a b to keeps
              (subst (λ h. Sound a.known.setting a.rows a.told (record { past = from.past; held = h; unwritten = from.unwritten })) (sym stays) sound),
        ))

    -- a failure's Fault has the numbers as given
    pub hears_failure : (server count : ℕ) → Keeps a b → Gets (Receive (LinkFailed server number)) a.log b.log → Calls (Fails server number reading (Ok count)) 0 a.known b.known → Goes (Hears reading 1) a b
    hears_failure server count keeps log call =
        goes_add (Fails server number reading (Ok count)) a b call (fault_at server number) call.meant.0 refl (Receive (LinkFailed server number) ∷ []) log (Hears reading 1) keeps.mix
        (λ os others idle from sound meant.
        let entry = own a.known.seat (fault_at server number) in
        let cs : List WorldCall = Receive (LinkFailed server number) ∷ [] in
        let mine = own_one a.known.seat os entry others refl in
        let mid : Standing = record { past = followed_by from.past os; held = from.held; unwritten = from.unwritten } in
        let to : Standing = record { past = fault_at server number ∷ followed_by from.past os; held = without_link number from.held; unwritten = from.unwritten } in (
          to,
          past_behind from os entry,
          record {
            within = record {
              agrees = agrees_step a.known.setting a.known.seat from os others entry cs to refl refl refl refl refl refl (λ link. append-nil (from.unwritten link)) (rw (not_held from sound) refl)
                  (rw (not_held from sound) refl);
              alone = rw (mine, eq-eqb reading reading refl) refl;
              counts = record { received_are = refl; expired_are = rw mine refl; started_are = rw mine refl };
            };
            items = refl;
            count_is = refl;
            closed = rw (not_held from sound) refl;
          },
          sound_kept a.known.setting a b to keeps
              (subst (λ h. Sound a.known.setting a.rows a.told (record { past = fault_at server number ∷ followed_by from.past os; held = h; unwritten = from.unwritten })) (sym (stays_held from sound))
              (sound_one a.known.setting a.rows a.told (fault_at server number) mid refl (sound_idle a.known.setting a.rows a.told os from idle sound))),
        ))
