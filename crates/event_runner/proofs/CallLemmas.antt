-- One or two calls of a desk, with the calls of the network that go with them.
use Rattle.event_runner.proofs.Base.{◌≡◌, ◌∙◌, ℕ, ◌==◌, ◌&&◌, ◌||◌, Bool, true, false, List, [], ◌∷◌, ◌++◌, length, refl, ap, sym, subst, true≢false, cond, eq-eqb, None, Option, Some, is_none, not, option_map, list_all, and_from, and_parts, append-nil, append_assoc, list_all-append, Entry, What, Accept, Arrive, Cancel, Destroy, Expire, Fault, Servers, Start, Take, WorldCall, others_are, followed_by-append, AreOthers, own-append, is_of_turn, begun_by, Past, followed_by, own_entries, past_of, Calls, Known, Meaning, entries_of, Setting, Standing, parts_of_entry, Break, Goes, Leads, Stops, Stretch, IsTurnOwner, State}
use Rattle.event_runner.proofs.GoesLemmas.{goes_by, stops_by}
use Rattle.event_runner.proofs.SoundLemmas.{AreIdle, Sound, holds_of, sound_of}
use Rattle.event_runner.proofs.TrailLemmas.{Trail, made_one, made_others, trail_call, trail_none}

-- an entry of a seat, which no request's callback commanded
abbrev pub own : ℕ → What → Entry
own seat what = record { seat = seat; by = 0; what = what }

-- entries that aren't of a turn begin no attempt
pub begins_none : (what : What) → not (length (parts_of_entry what) == 0) ≡ false → is_none (begun_by what) ≡ true
begins_none (Accept number spec script) quiet = refl
begins_none Cancel quiet = refl
begins_none Destroy quiet = refl
begins_none (Take number) quiet = refl
begins_none (Start number leg server link id mix moment) quiet = absurd (true≢false quiet)
begins_none (Arrive server link bytes) quiet = refl
begins_none (Expire number leg moment) quiet = refl
begins_none (Fault server link moment) quiet = refl
begins_none (Servers list) quiet = refl

-- an entry of another seat, where the seat owns the turns
pub other_quiet : (turn own_seat : Bool) → (not turn || own_seat) ≡ true → not own_seat ≡ true → turn ≡ false
other_quiet false s h o = refl
other_quiet true true h o = absurd (true≢false (sym o))
other_quiet true false h o = absurd (true≢false (sym h))

pub others_idle : (seat : ℕ) (os : List Entry) → list_all (λ entry. not (is_of_turn entry) || (entry.seat == seat)) os ≡ true → AreOthers seat os → AreIdle os
others_idle seat [] all others = refl
others_idle seat (o ∷ os) all others =
    let a = and_parts (not (is_of_turn o) || (o.seat == seat)) (list_all (λ entry. not (is_of_turn entry) || (entry.seat == seat)) os) all in
    let b = and_parts (not (o.seat == seat)) (list_all (λ entry. not (entry.seat == seat)) os) others in
    and_from _ _ (begins_none o.what (other_quiet (is_of_turn o) (o.seat == seat) a.0 b.0)) (others_idle seat os a.1 b.1)

-- the entries of a trail are the owner's, or not of a turn
pub owner_of : (a b : Known) (es : List Entry) → Trail a b es → IsTurnOwner b → list_all (λ entry. not (is_of_turn entry) || (entry.seat == a.seat)) es ≡ true
owner_of a b es t owner =
    let test : Entry → Bool = λ entry. not (is_of_turn entry) || (entry.seat == a.seat) in
    let all : list_all test (a.seen ++ es) ≡ true =
    subst (λ l. list_all test l ≡ true) t.seen (subst (λ seat. list_all (λ entry. not (is_of_turn entry) || (entry.seat == seat)) b.seen ≡ true) t.desk.seat owner) in
    (and_parts (list_all test a.seen) (list_all test es) (sym (list_all-append test a.seen es) ∙ all)).1

-- a standing leads to a standing, in plain words
abbrev pub LeadsTo : Stretch → State → State → Standing → List Entry → List WorldCall → Type 0
LeadsTo relation a b from es cs =
    (to : Standing) × (to.past ≡ followed_by from.past es) × relation a.known.setting a.known.seat from es cs to × Sound a.known.setting b.rows b.told to

pub leads_by : (relation : Stretch) (a b : State) (es : List Entry) (cs : List WorldCall) → Trail a.known b.known es → b.mix ≡ a.mix →
    ((from : Standing) → Sound a.known.setting a.rows a.told from → from.past ≡ past_of a.known.seen → LeadsTo relation a b from es cs) → Leads relation a b es cs
leads_by relation a b es cs trail mix step from holds =
    let to = step from (sound_of a from holds) holds.fits.past_is in
    let past : to.0.past ≡ past_of b.known.seen =
    to.1 ∙ ap (λ p. followed_by p es) holds.fits.past_is ∙ sym (followed_by-append [] a.known.seen es) ∙ ap past_of (sym trail.seen) in
    (to.0, to.2, holds_of b to.0 past (mix ∙ holds.mixes ∙ ap (λ (s : Setting). s.options.flags.mix) (sym trail.desk.setting)) (subst (λ s. Sound s b.rows b.told to.0) (sym trail.desk.setting) to.3))

-- what one call of a desk tells
module _ (meaning : Meaning) (a b : Known) (call : Calls meaning 0 a b) where
  pub call_others : AreOthers a.seat call.stands.others
  call_others = others_are a.seat call.stands.others call.stands.by_others

  pub call_idle : IsTurnOwner b → AreIdle call.stands.others
  call_idle owner =
      let all = owner_of a b (call.stands.others ++ entries_of a.seat 0 call.added) (trail_call meaning 0 a b call) owner in
      let test : Entry → Bool = λ entry. not (is_of_turn entry) || (entry.seat == a.seat) in
      others_idle a.seat call.stands.others
      (and_parts (list_all test call.stands.others) (list_all test (entries_of a.seat 0 call.added)) (sym (list_all-append test call.stands.others (entries_of a.seat 0 call.added)) ∙ all)).0 call_others

  pub call_meant : (past : Past) → past ≡ past_of a.seen → meaning a.setting (followed_by past call.stands.others) call.added
  call_meant past is =
      let same : past_of call.here ≡ followed_by past call.stands.others =
      ap past_of call.stands.parts ∙ followed_by-append [] a.seen call.stands.others ∙ ap (λ p. followed_by p call.stands.others) (sym is) in
      subst (λ p. meaning a.setting p call.added) same call.meant

  pub trail_none_added : call.added ≡ None → Trail a b call.stands.others
  trail_none_added none =
      subst (Trail a b) (ap (λ o. call.stands.others ++ entries_of a.seat 0 o) none ∙ append-nil call.stands.others) (trail_call meaning 0 a b call)

  pub trail_added : (what : What) → call.added ≡ Some what → Trail a b (call.stands.others ++ own a.seat what ∷ [])
  trail_added what adds = subst (Trail a b) (ap (λ o. call.stands.others ++ entries_of a.seat 0 o) adds) (trail_call meaning 0 a b call)

-- a call that adds nothing
module _ (meaning : Meaning) (a b : State) (call : Calls meaning 0 a.known b.known) (none : call.added ≡ None) (cs : List WorldCall) (log : b.log ≡ option_map (λ calls. calls ++ cs) a.log) where
  pub goes_look : (relation : Stretch) → b.mix ≡ a.mix →
      ((os : List Entry) → AreOthers a.known.seat os → AreIdle os → (from : Standing) → Sound a.known.setting a.rows a.told from → meaning a.known.setting (followed_by from.past os) None → LeadsTo relation a b from os cs) →
      Goes relation a b
  goes_look relation mix step =
      let os : List Entry = call.stands.others in
      let trail = trail_none_added meaning a.known b.known call none in
      goes_by relation a b os cs trail (made_others a.known.seat os call.stands.by_others) log
      (λ owner. leads_by relation a b os cs trail mix (λ from sound past.
      step os (call_others meaning a.known b.known call) (call_idle meaning a.known b.known call owner) from sound
      (subst (λ o. meaning a.known.setting (followed_by from.past os) o) none (call_meant meaning a.known b.known call from.past past))))

  pub stops_look : (relation : Break) →
      ((os : List Entry) → AreOthers a.known.seat os → AreIdle os → (from : Standing) → Sound a.known.setting a.rows a.told from → relation a.known.setting a.known.seat from os cs) →
      Stops relation a b
  stops_look relation step =
      let os : List Entry = call.stands.others in
      let trail = trail_none_added meaning a.known b.known call none in
      stops_by relation a b os cs trail (made_others a.known.seat os call.stands.by_others) log
      (λ owner from holds. step os (call_others meaning a.known b.known call) (call_idle meaning a.known b.known call owner) from (sound_of a from holds))

-- a call that adds an entry, which only a turn makes
module _ (meaning : Meaning) (a b : State) (call : Calls meaning 0 a.known b.known) (what : What) (adds : call.added ≡ Some what) (of_turn : not (length (parts_of_entry what) == 0) ≡ true) (cs : List WorldCall) (log : b.log ≡ option_map (λ calls. calls ++ cs) a.log) where
  pub goes_add : (relation : Stretch) → b.mix ≡ a.mix →
      ((os : List Entry) → AreOthers a.known.seat os → AreIdle os → (from : Standing) → Sound a.known.setting a.rows a.told from → meaning a.known.setting (followed_by from.past os) (Some what)
      → LeadsTo relation a b from (os ++ own a.known.seat what ∷ []) cs) →
      Goes relation a b
  goes_add relation mix step =
      let os : List Entry = call.stands.others in
      let trail = trail_added meaning a.known b.known call what adds in
      goes_by relation a b (os ++ own a.known.seat what ∷ []) cs trail (made_one a.known.seat os what call.stands.by_others of_turn) log
      (λ owner. leads_by relation a b (os ++ own a.known.seat what ∷ []) cs trail mix (λ from sound past.
      step os (call_others meaning a.known b.known call) (call_idle meaning a.known b.known call owner) from sound
      (subst (λ o. meaning a.known.setting (followed_by from.past os) o) adds (call_meant meaning a.known b.known call from.past past))))

  pub stops_add : (relation : Break) →
      ((os : List Entry) → AreOthers a.known.seat os → AreIdle os → (from : Standing) → Sound a.known.setting a.rows a.told from → meaning a.known.setting (followed_by from.past os) (Some what)
      → relation a.known.setting a.known.seat from (os ++ own a.known.seat what ∷ []) cs) →
      Stops relation a b
  stops_add relation step =
      let os : List Entry = call.stands.others in
      let trail = trail_added meaning a.known b.known call what adds in
      stops_by relation a b (os ++ own a.known.seat what ∷ []) cs trail (made_one a.known.seat os what call.stands.by_others of_turn) log
      (λ owner from holds. step os (call_others meaning a.known b.known call) (call_idle meaning a.known b.known call owner) from (sound_of a from holds)
      (subst (λ o. meaning a.known.setting (followed_by from.past os) o) adds (call_meant meaning a.known b.known call from.past holds.fits.past_is)))

-- calls of the network alone
module _ (a b : State) (same : b.known ≡ a.known) (cs : List WorldCall) (log : b.log ≡ option_map (λ calls. calls ++ cs) a.log) where
  trail_same : Trail a.known b.known []
  trail_same = subst (λ k. Trail a.known k []) (sym same) (trail_none a.known)

  pub goes_alone : (relation : Stretch) → b.mix ≡ a.mix → ((from : Standing) → Sound a.known.setting a.rows a.told from → LeadsTo relation a b from [] cs) → Goes relation a b
  goes_alone relation mix step =
      goes_by relation a b [] cs trail_same refl log (λ owner. leads_by relation a b [] cs trail_same mix (λ from sound past. step from sound))

  pub stops_alone : (relation : Break) → ((from : Standing) → Sound a.known.setting a.rows a.told from → relation a.known.setting a.known.seat from [] cs) → Stops relation a b
  stops_alone relation step = stops_by relation a b [] cs trail_same refl log (λ owner from holds. step from (sound_of a from holds))

-- entries of others are none of the seat's own, and one behind them is
pub own_none : (seat : ℕ) (os : List Entry) → AreOthers seat os → own_entries seat os ≡ []
own_none seat [] others = refl
own_none seat (o ∷ os) others = by_seat (o.seat == seat) others (λ rest. own_none seat os rest)
  where
    by_seat : (b : Bool) → (not b && list_all (λ entry. not (entry.seat == seat)) os) ≡ true → (list_all (λ entry. not (entry.seat == seat)) os ≡ true → own_entries seat os ≡ []) →
        cond b (o ∷ own_entries seat os) (own_entries seat os) ≡ []
    by_seat true h ih = absurd (cc h)
    by_seat false h ih = ih h

-- a log that stays, and one that goes on twice
pub log_stays : (l : Option (List WorldCall)) → l ≡ option_map (λ calls. calls ++ []) l
log_stays None = refl
log_stays (Some x) = ap Some (sym (append-nil x))

pub log_trans : (cs ds : List WorldCall) (l m n : Option (List WorldCall)) → m ≡ option_map (λ calls. calls ++ cs) l → n ≡ option_map (λ calls. calls ++ ds) m → n ≡ option_map (λ calls. calls ++ (cs ++ ds)) l
log_trans cs ds None m n x y = y ∙ ap (option_map (λ calls. calls ++ ds)) x
log_trans cs ds (Some l) m n x y = y ∙ ap (option_map (λ calls. calls ++ ds)) x ∙ ap Some (append_assoc l cs ds)

-- an own entry behind those of others, and the past behind it
pub own_one : (seat : ℕ) (os : List Entry) (entry : Entry) → AreOthers seat os → entry.seat ≡ seat → own_entries seat (os ++ entry ∷ []) ≡ entry ∷ []
own_one seat os entry others is = own-append seat os (entry ∷ []) ∙ ap (λ l. l ++ own_entries seat (entry ∷ [])) (own_none seat os others) ∙ rw (eq-eqb entry.seat seat is) refl

pub past_behind : (standing : Standing) (os : List Entry) (entry : Entry) → entry.what ∷ followed_by standing.past os ≡ followed_by standing.past (os ++ entry ∷ [])
past_behind standing os entry = sym (followed_by-append standing.past os (entry ∷ []))
