-- The bodies of a run's requests stay at their places through each part of a run.
use Rattle.std.proofs.Common.{◌≡◌, ◌≢◌, ◌∙◌, ℕ, ◌+◌, ◌-◌, ◌≤◌, ◌==◌, ◌&&◌, Bool, true, false, not, cond, List, [], ◌∷◌, ◌++◌, Option, Some, None, is_some, length, refl, sym, ap, subst, inl, inr, arith, eq-eqb, ne_eqb}
use Rattle.std.proofs.lemmas.Bool.{and_from, and_parts}
use Rattle.std.proofs.lemmas.List.{append-nil}
use Rattle.std.specs.FinMap as finite
use Rattle.std.specs.List.{AllByRecursion, list_all}
use Rattle.std.specs.Option.{option_map_or, unwrap_or}
use Rattle.std.specs.Prelude.{Err, Ok, Result, filter_map, slice_set}
use Rattle.item_list.specs.declared.no_memory.NoMemory.{NoMemory as OutOfMemory}
use Rattle.net_addr.specs.declared.addr.ServerAddr.{ServerAddr}
use Rattle.chan_types.specs.declared.journal.Entry.{Entry}
use Rattle.chan_types.specs.declared.journal.What.TheVariants.{Destroy, Take}
use Rattle.chan_types.specs.declared.refusal.Refusal.{Refusal}
use Rattle.chan_types.specs.declared.ticket.Ticket.{Ticket}
use Rattle.channel_model.proofs.Theorems.{occurrences-append}
use Rattle.channel_model.specs.Completion.{occurrences, taken, taken_by}
use Rattle.channel_model.specs.Journal.{past_of}
use Rattle.channel_model.specs.Known.{Calls, GoesOn}
use Rattle.channel_model.specs.Lawful.{IsLawful}
use Rattle.channel_model.specs.Meanings.{Destroys, Takes}
use Rattle.channel_model.specs.Names.{Names, NamesBecome, NamesStay}
use Rattle.channel_table.specs.Calling.{Owned, known_by_owner}
use Rattle.completion_ticket.specs.States.{CallbackState, CalledState, token_name}
use Rattle.event_runner.specs.Goes.{AreMadeInTurns}
use Rattle.owner_session.specs.Closing.{Closes}
use Rattle.owner_session.specs.Delivering.{DeliversOne, DeliversSome, IsIdle, Spends}
use Rattle.owner_session.specs.Kinds.{is_ruled}
use Rattle.owner_session.specs.Places.{PlacesState}
use Rattle.owner_session.specs.Returning.{ArePlacedFrom, AreBack, AreUnasked, HaveAsked, IsLeftOf, KeepsPlaces, PutsBack, numbers_asked}
use Rattle.owner_session.specs.Session.{CountsPending, HasObeyed, IsKept, SetsLater, servers_entry}
use Rattle.owner_session.specs.declared.caller.Caller.{Caller}
use Rattle.seat_laws.proofs.ListLemmas.{each_passes}
use Rattle.seat_laws.proofs.PerformedLemmas.{takes_it}
use Rattle.owner_session.proofs.ClosingLemmas.{closes_lawful, destroy_is}
use Rattle.owner_session.proofs.DeliveryLemmas.{commanded_taken, take_entry}
use Rattle.owner_session.proofs.KeptLemmas.{kept_more}
use Rattle.owner_session.proofs.ListLemmas.{all_pass, apart_by}
use Rattle.owner_session.proofs.MoveLemmas.{Moves, commanded_asks, moves_kept, moves_trans, moves_turn, one_commanded, one_lawful, one_names, one_numbered, one_seen, one_untaken, quiet_some, same_none, turn_plain}
use Rattle.owner_session.proofs.ObeyLemmas.{is_plain, past_on}
use Rattle.owner_session.proofs.PlaceLemmas.{all_back, numbers_none, numbers_parts, placed_more, places_put, still_accepted, still_named}
use Rattle.owner_session.proofs.PromiseLemmas.{Ends, ends_are, ends_asked, ends_of}
use Rattle.owner_session.proofs.ThenLemmas.{moves_set}
use Rattle.owner_laws.proofs.Owner.{owner_called}
use Rattle.ticket_delivery.proofs.Theorems.{IsCommanded, command_takes}
use Rattle.ticket_delivery.specs.Performing.{plan_of}

-- plain entries take nothing
plain_untaken : (es : List Entry) → list_all is_plain es ≡ true → list_all (λ e. not (is_some (taken_by e.what))) es ≡ true
plain_untaken es plain = all_pass is_plain (λ e. not (is_some (taken_by e.what))) (λ e h. (and_parts ((e.seat == 0) && (e.by == 0)) (not (is_some (taken_by e.what))) h).1) es plain

-- a destroy leaves the tokens as they are
destroy_named : (is_first : Bool) (a d : Owned) → Calls (Destroys is_first) 0 (known_by_owner a) (known_by_owner d) → d.names ≡ a.names
destroy_named is_first a d call = by is_first call
  where
    kept : (names : Names) → Some d.names ≡ Some names → names ≡ a.names → d.names ≡ a.names
    kept names known same = ap (λ (found : Option Names). unwrap_or found a.names) known ∙ same

    by : (f : Bool) → Calls (Destroys f) 0 (known_by_owner a) (known_by_owner d) → d.names ≡ a.names
    by true c =
        let become : NamesBecome (Some Destroy) (Some a.names) (Some d.names) = subst (λ o. NamesBecome o (Some a.names) (Some d.names)) (owner_called (Destroys true) 0 a d c).meant.entry c.names in
        kept become.0 become.1 become.2
    by false c =
        let become : NamesBecome None (Some a.names) (Some d.names) = subst (λ o. NamesBecome o (Some a.names) (Some d.names)) (owner_called (Destroys false) 0 a d c).meant.entry c.names in
        kept become.0 become.1 become.2

-- and what is kept of the channel
kept_closing : {B : Type 0} (is_first : Bool) (a : Caller B) (d : Owned) → Calls (Destroys is_first) 0 (known_by_owner a.alone) (known_by_owner d) → IsKept a → IsKept (record a { alone = d })
kept_closing is_first a d call kept =
    let e : Ends a.alone d = ends_of a.alone d (destroy_is is_first a.alone d call) in (
      record { no_command = kept.0.no_command; own_voice = call.desk.voice ∙ kept.0.own_voice },
      subst (λ k. HasObeyed k d.seen a.hand.orders a.calls a.lost) (sym call.desk.setting)
          (subst (λ j. HasObeyed a.alone.setting j a.hand.orders a.calls a.lost) (sym e.seen)
          (kept_more a.alone.setting a.alone.seen a.hand.orders a.calls a.lost kept.1 e.more
          (subst (IsLawful a.alone.setting) e.seen (subst (λ k. IsLawful k d.seen) call.desk.setting call.lawful))
          (ends_are a.alone d e (list_all is_plain) true refl refl) (ends_are a.alone d e (list_all is_ruled) true refl refl))),
    )

module _ {B : Type 0} (name : B → ℕ) (told : B → Option ℕ) where
  -- nothing was done
  pub keeps_none : (a : Caller B) → KeepsPlaces name told a a
  keeps_none a = record { rest = refl; placed = λ kept bodies are. are }

  -- one part and then another
  pub keeps_trans : (a b c : Caller B) → Moves a b → KeepsPlaces name told a b → KeepsPlaces name told b c → KeepsPlaces name told a c
  keeps_trans a b c m p q = record {
    rest = q.rest ∙ p.rest;
    placed = λ kept bodies are. q.placed (moves_kept a b m kept) bodies (p.placed kept bodies are);
  }

  -- ---- a delivery

  -- a request was taken with the token of its number, and what is left of its callback was put back
  pub keeps_one : (called : CalledState) (a b : Caller B) (places : PlacesState B) → IsIdle a → DeliversOne (Some called) a b → PutsBack name told called b.places places → KeepsPlaces name told a (record b { places = places })
  keeps_one called a b places idle d puts = record {
    rest = puts.rest ∙ ap (λ (p : PlacesState B). p.rest) d.4.places;
    placed = λ kept bodies are.
        let ticket : Ticket CallbackState = d.0 in
        let took : Owned = d.1 in
        let call : Calls (Takes plan_of (Some ticket)) 0 (known_by_owner a.alone) (known_by_owner took) = d.2 in
        let named : finite.get a.alone.names ticket.call.number ≡ Some (token_name ticket.token) = d.3 in
        let s : Spends ticket called (record a { alone = took }) b = d.4 in
        let number : ℕ = ticket.call.number in
        let since : List Entry = take_entry number ∷ s.performed.since in
        let commanded : AllByRecursion (IsCommanded number) s.performed.since = one_commanded called a b idle ticket took call s in
        let seen : b.alone.seen ≡ a.alone.seen ++ since = one_seen called a b idle ticket took call s in
        let names : NamesStay since (Some a.alone.names) (Some b.alone.names) = one_names called a b idle ticket took call s in
        let lawful : IsLawful b.alone.setting b.alone.seen = one_lawful called a b idle ticket took call s in
        let numbered : number ≢ 0 = one_numbered called a b idle ticket took call s in
        let taken_is : taken (past_of b.alone.seen) ≡ taken (past_of a.alone.seen) ++ number ∷ [] =
        ap taken (ap past_of seen ∙ past_on a.alone.seen since) ∙ commanded_taken number (Take number ∷ past_of a.alone.seen) s.performed.since commanded in
        let some : 1 ≤ called.number = omega (arith, some_number number numbered, ap (λ (c : CalledState). c.number) s.is_called) in
        let back_is : places.back ≡ slice_set a.places.back (number - 1) puts.left =
        puts.back some ∙ ap (λ (c : CalledState). slice_set b.places.back (c.number - 1) puts.left) s.is_called ∙ ap (λ (p : PlacesState B). slice_set p.back (number - 1) puts.left) s.places in
        record {
          numbered = ap numbers_asked seen ∙ numbers_parts a.alone.seen since
              ∙ ap (λ ns. numbers_asked a.alone.seen ++ ns) (numbers_none since (commanded_asks number numbered s.performed.since commanded)) ∙ append-nil (numbers_asked a.alone.seen) ∙ are.numbered;
          few = omega (arith, are.few, still_accepted a.alone b.alone since seen names b.alone.setting lawful);
          placed = subst (ArePlacedFrom name told b.alone.names (taken (past_of b.alone.seen)) 1 bodies) (sym back_is)
              (places_put name told a.alone.names b.alone.names (taken (past_of a.alone.seen)) (taken (past_of b.alone.seen)) number (length bodies) ticket.token puts.left named
              (subst (λ c. IsLeftOf name told c puts.left) s.is_called puts.is_left) (one_untaken called a b idle ticket took call s)
              (omega (arith, ap (occurrences number) taken_is, occurrences-append number (taken (past_of a.alone.seen)) (number ∷ []), itself number))
              (λ other differs high. (
                still_named a.alone b.alone since seen names b.alone.setting lawful other (omega (arith, high, are.few)) (others_untaken number other (λ same. differs (sym same)) s.performed.since commanded),
                ap (occurrences other) taken_is ∙ occurrences-append other (taken (past_of a.alone.seen)) (number ∷ []) ∙ none_more other number (λ same. differs (sym same)) (taken (past_of a.alone.seen)),
              ))
              1 (number - 1) bodies a.places.back (omega (arith, some_number number numbered)) (omega arith) are.placed);
        };
  }
    where
      some_number : (n : ℕ) → n ≢ 0 → 1 ≤ n
      some_number n some = omega (arith, some)

      itself : (n : ℕ) → 1 ≤ occurrences n (n ∷ [])
      itself n = by (n == n) (eq-eqb n n refl)
        where
          by : (b : Bool) → b ≡ true → 1 ≤ cond b 1 0
          by true is = omega arith
          by false is = absurd (cc is)

      none_more : (n m : ℕ) → m ≢ n → (ts : List ℕ) → occurrences n ts + occurrences n (m ∷ []) ≡ occurrences n ts
      none_more n m differs ts = by (m == n) (ne_eqb m n differs)
        where
          by : (b : Bool) → b ≡ false → occurrences n ts + cond b 1 0 ≡ occurrences n ts
          by true is = absurd (cc is)
          by false is = omega arith

      others_untaken : (n m : ℕ) → n ≢ m → (es : List Entry) → AllByRecursion (IsCommanded n) es → list_all (λ e. not (takes_it m e)) (take_entry n ∷ es) ≡ true
      others_untaken n m differs es commanded =
          and_from (not (n == m)) (list_all (λ e. not (takes_it m e)) es) (apart_by n m differs)
          (each_passes (IsCommanded n) (λ e. not (takes_it m e)) (λ e c. ap (λ found. not (option_map_or (λ k. k == m) found false)) (command_takes e.what c.2)) es commanded)

  -- one more delivery behind others
  pub keeps_next : (called : List CalledState) (last : CalledState) (a b c : Caller B) (places : PlacesState B) → IsIdle a → DeliversSome called a b → IsIdle b → DeliversOne (Some last) b c → PutsBack name told last c.places places →
      KeepsPlaces name told a b → KeepsPlaces name told a (record c { places = places })
  keeps_next called last a b c places idle some idle_b one puts keeps =
      keeps_trans a b (record c { places = places }) (quiet_some called a b idle some).0 keeps (keeps_one last b c places idle_b one puts)

  -- none was ready
  pub keeps_last : (a b c : Caller B) → DeliversOne None b c → KeepsPlaces name told a b → KeepsPlaces name told a c
  keeps_last a b c none keeps = subst (KeepsPlaces name told a) (sym (same_none b c none)) keeps

  -- ---- between deliveries

  -- the channel is as it was
  pub keeps_same : (a b : Caller B) (c : Owned) → c ≡ b.alone → KeepsPlaces name told a b → KeepsPlaces name told a (record b { alone = c })
  keeps_same a b c same keeps = subst (λ o. KeepsPlaces name told a (record b { alone = o })) (sym same) keeps

  module _ (a b : Caller B) (moves : Moves a b) (keeps : KeepsPlaces name told a b) where
    -- a turn, or a part of one
    pub keeps_turn : (c : Owned) (goes : GoesOn (known_by_owner b.alone) (known_by_owner c)) → AreMadeInTurns 0 goes.since → KeepsPlaces name told a (record b { alone = c })
    keeps_turn c goes made =
        let m : Moves b (record b { alone = c }) = moves_turn b c goes made in record {
          rest = keeps.rest;
          placed = λ kept bodies are.
              let kept_b : IsKept b = moves_kept a b moves kept in
              placed_more name told c.setting b.alone c m.since m.seen m.names (m.lawful kept_b.1.lawful) (plain_untaken m.since (turn_plain b c goes made)) m.asked_none bodies b.places.back (keeps.placed kept bodies are);
        }

    -- servers that are set
    pub keeps_set : (left : Option (List ServerAddr)) (result : Result (Unit {0}) OutOfMemory) (c : Owned) → SetsLater left result b.alone c → KeepsPlaces name told a (record b { alone = c })
    keeps_set None result c same = keeps_same a b c same keeps
    keeps_set (Some addresses) (Err fault) c same = keeps_same a b c same keeps
    keeps_set (Some addresses) (Ok done) c (inr closed) = keeps_same a b c closed.1 keeps
    keeps_set (Some addresses) (Ok done) c (inl set) = record {
      rest = keeps.rest;
      placed = λ kept bodies are.
          placed_more name told c.setting b.alone c (servers_entry b.alone.setting addresses (past_of b.alone.seen) ∷ []) (ap (λ o. o.seen) set.1) (c.names, refl, λ number none. ap (λ o. finite.get o.names number) set.1) set.2 refl refl bodies b.places.back (keeps.placed kept bodies are);
    }

  -- a round: requests were counted, a turn was made, servers were set, and what was ready was delivered
  module _ (a b : Caller B) (moves : Moves a b) (keeps : KeepsPlaces name told a b) (count : ℕ) (c : Owned) (counts : CountsPending count b.alone c) where
    pub keeps_counted : KeepsPlaces name told a (record b { alone = c })
    keeps_counted = keeps_same a b c counts.same keeps

    counted_moves : Moves a (record b { alone = c })
    counted_moves = subst (λ o. Moves a (record b { alone = o })) (sym counts.same) moves

    pub keeps_turned : (d : Owned) (goes : GoesOn (known_by_owner c) (known_by_owner d)) → AreMadeInTurns 0 goes.since → KeepsPlaces name told a (record b { alone = d })
    keeps_turned d goes made = keeps_turn a (record b { alone = c }) counted_moves keeps_counted d goes made

    module _ (d : Owned) (goes : GoesOn (known_by_owner c) (known_by_owner d)) (made : AreMadeInTurns 0 goes.since) (left : Option (List ServerAddr)) (result : Result (Unit {0}) OutOfMemory) (e : Owned) (sets : SetsLater left result d e) where
      turned_moves : Moves a (record b { alone = d })
      turned_moves = moves_trans a (record b { alone = c }) (record b { alone = d }) counted_moves (moves_turn (record b { alone = c }) d goes made)

      pub keeps_then : KeepsPlaces name told a (record b { alone = e })
      keeps_then = keeps_set a (record b { alone = d }) turned_moves (keeps_turned d goes made) left result e sets

      pub keeps_round : (f : Caller B) → KeepsPlaces name told (record b { alone = e }) f → KeepsPlaces name told a f
      keeps_round f delivered =
          keeps_trans a (record b { alone = e }) f (moves_trans a (record b { alone = d }) (record b { alone = e }) turned_moves (moves_set left result (record b { alone = d }) e sets).0) keeps_then delivered

  -- ---- the closing

  -- the owner destroyed the channel, and delivered what was ready then
  pub keeps_closed : (is_first : Bool) (a : Caller B) (d : Owned) (b : Caller B) → IsIdle a → Calls (Destroys is_first) a.alone.voice (known_by_owner a.alone) (known_by_owner d) →
      KeepsPlaces name told (record a { alone = d }) b → KeepsPlaces name told a b
  keeps_closed is_first a d b idle voiced delivered =
      let call : Calls (Destroys is_first) 0 (known_by_owner a.alone) (known_by_owner d) = subst (λ v. Calls (Destroys is_first) v (known_by_owner a.alone) (known_by_owner d)) idle.own_voice voiced in
      let e : Ends a.alone d = ends_of a.alone d (destroy_is is_first a.alone d call) in
      record {
        rest = delivered.rest;
        placed = λ kept bodies are. delivered.placed (kept_closing is_first a d call kept) bodies
            (placed_more name told d.setting a.alone d e.more e.seen (d.names, refl, λ number none. ap (λ m. finite.get m number) (destroy_named is_first a.alone d call)) call.lawful
            (ends_are a.alone d e (list_all (λ x. not (is_some (taken_by x.what)))) true refl refl) (ends_asked a.alone d e) bodies a.places.back are);
      }

  -- ---- a session

  module _ (refusal : B → Option Refusal) where
    pub have_kept : (given : List B) (a b : Caller B) → IsKept a → HaveAsked name told refusal given a.alone a.places → KeepsPlaces name told a b → HaveAsked name told refusal given b.alone b.places
    have_kept given a b kept have keeps = record {
      asked = have.asked;
      unasked = have.unasked;
      parts = have.parts;
      placed = keeps.placed kept have.asked have.placed;
      left = subst (λ rest. AreUnasked name told refusal have.unasked rest) (sym keeps.rest) have.left;
    }

    -- ---- a whole run

    -- behind the closing all are back
    pub all_returned : (given bodies items : List B) (a b : Caller B) (journal : List Entry) → IsKept a → HaveAsked name told refusal given a.alone a.places → Closes a b → KeepsPlaces name told a b → given ≡ bodies → journal ≡ b.alone.seen →
        items ≡ filter_map (λ place. place) b.places.back ++ b.places.rest → AreBack name told refusal (numbers_asked journal) bodies items
    all_returned given bodies items a b journal kept have closes keeps given_is journal_is items_are =
        subst (λ j. AreBack name told refusal (numbers_asked j) bodies items) (sym journal_is)
        (subst (λ xs. AreBack name told refusal (numbers_asked b.alone.seen) bodies xs) (sym items_are)
        (subst (λ xs. AreBack name told refusal (numbers_asked b.alone.seen) xs (filter_map (λ place. place) b.places.back ++ b.places.rest)) given_is
        (all_back name told refusal b.alone.setting given b.alone b.places (closes_lawful a b kept.0 closes) closes.none_pending closes.none_ready (have_kept given a b kept have keeps))))
