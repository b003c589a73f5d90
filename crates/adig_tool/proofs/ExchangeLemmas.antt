-- Which calls of the network an entry of the journal tells of, and in which order, where no TCP link is begun.
use Rattle.std.proofs.Common.{◌≡◌, ℕ, ◌+◌, ◌==◌, not, List, [], ◌∷◌, ◌++◌, length, refl, sym, ap, subst, ◌∙◌, Bool, true, false, inl, inr, arith, eq-eqb}
use Rattle.std.specs.Prelude.{Some, flat_map, is_none, ◌⊎◌}
use Rattle.std.proofs.lemmas.List.{append-nil, append_assoc}
use Rattle.chan_types.specs.declared.journal.Entry.{Entry}
use Rattle.chan_types.specs.declared.journal.What.{What}
use Rattle.chan_types.specs.declared.journal.What.TheVariants.{Accept, Arrive, Cancel, Destroy, Expire, Fault, Start, Take, Servers}
use Rattle.net_world.specs.declared.answers.Got.TheVariants.{Datagram, Ended, Failed as LinkFailed, Nothing, Piece}
use Rattle.net_world.specs.declared.answers.Sent.TheVariants.{Sent as WasSent}
use Rattle.net_world.specs.declared.answers.Wrote.TheVariants.{Count, Failed as NotWritten}
use Rattle.net_world.specs.declared.log.WorldCall.{WorldCall}
use Rattle.net_world.specs.declared.log.WorldCall.TheVariants.{Close, Connect, Now, Receive, Send, Serve, Wait, Word, Write}
use Rattle.channel_model.specs.Calls.{connected_by}
use Rattle.channel_model.specs.Course.{AreTurns, IsCourse, Round, asides_of, calls_of, calls_of_rest, entries_of, has_no_turn, is_of_turn, readings, serves_from}
use Rattle.channel_model.specs.Flight.{Attempt, begun_by}
use Rattle.channel_model.specs.Journal.{Past, followed_by, past_of}
use Rattle.channel_model.specs.Links.{held_after, held_by, told}
use Rattle.channel_model.specs.Setting.{Setting}
use Rattle.channel_model.specs.Stretch.{Agrees, Standing, beginning, behind}
use Rattle.channel_model.specs.Traffic.{Parcel, arrived, messages, noted, noticed, notices, of_datagram, query_bytes}
use Rattle.channel_model.specs.Turn.{IsTurn, is_among, parts_of_entry, receiving}
use Rattle.channel_model.proofs.Theorems.{agrees_none, agrees_trans, noted-append, turn_agrees}
use Rattle.channel_model.proofs.Theorems.{rounds_agree, serves_agree}
use Rattle.channel_model.proofs.Theorems.{receives_first}
use Rattle.adig_tool.specs.Answered.{WasExchanged, opens_no_link}
use Rattle.owner_laws.proofs.ListLemmas.{heads, tails}
use Rattle.adig_tool.proofs.ListLemmas.{InFirst, InSecond, first_passes, item_passes, not_there, split_at, two_pass}
use Rattle.adig_tool.proofs.SentLemmas.{HasFault, start_first, taken_datagram}

-- ---- calls that begin no link

-- the call begins no link
abbrev keeps_none : WorldCall → Bool
keeps_none call = is_none (connected_by call)

-- where no link is held, none is behind such a call
held_still : (call : WorldCall) → keeps_none call ≡ true → held_by [] call ≡ []
held_still (Serve server address) h = refl
held_still (Now reading) h = refl
held_still (Word word) h = refl
held_still (Send server bytes outcome) h = refl
held_still (Connect server link outcome) h = absurd (cc h)
held_still (Write link bytes (Count n)) h = refl
held_still (Write link bytes NotWritten) h = refl
held_still (Receive (Datagram server bytes)) h = refl
held_still (Receive (Piece link bytes)) h = refl
held_still (Receive (Ended link)) h = refl
held_still (Receive Nothing) h = refl
held_still (Receive (LinkFailed server link)) h = refl
held_still (Close link) h = refl
held_still (Wait until outcome) h = refl

held_never : (calls : List WorldCall) → opens_no_link calls ≡ true → held_after [] calls ≡ []
held_never [] h = refl
held_never (call ∷ calls) h =
    let now = first_passes keeps_none call calls h in
    ap (λ held. held_after held calls) (held_still call now.0) ∙ held_never calls now.1

-- the parcel came as a datagram
record Came (calls : List WorldCall) (p : Parcel) : Type 0 where
  before : List WorldCall
  behind : List WorldCall
  calls_are : calls ≡ before ++ Receive (Datagram p.server p.bytes) ∷ behind
  direct : p.link ≡ 0

came_now : (call : WorldCall) (calls : List WorldCall) (front rest : List Parcel) (p : Parcel) → messages [] call ≡ front ++ p ∷ rest → Came (call ∷ calls) p
came_now (Serve server address) calls front rest p is = absurd (not_there front rest p is)
came_now (Now reading) calls front rest p is = absurd (not_there front rest p is)
came_now (Word word) calls front rest p is = absurd (not_there front rest p is)
came_now (Send server bytes outcome) calls front rest p is = absurd (not_there front rest p is)
came_now (Connect server link outcome) calls front rest p is = absurd (not_there front rest p is)
came_now (Write link bytes outcome) calls front rest p is = absurd (not_there front rest p is)
came_now (Receive (Datagram server bytes)) calls [] rest p is =
    let same : record { server = server; link = 0; bytes = bytes } ≡ p = heads (record { server = server; link = 0; bytes = bytes }) p [] rest is in
    record { before = []; behind = calls; calls_are = ap (λ q. Receive (Datagram q.server q.bytes) ∷ calls) same; direct = sym (ap (λ q. q.link) same) }
came_now (Receive (Datagram server bytes)) calls (q ∷ front) rest p is = absurd (not_there front rest p (tails (record { server = server; link = 0; bytes = bytes }) q [] (front ++ p ∷ rest) is))
came_now (Receive (Piece link bytes)) calls front rest p is = absurd (not_there front rest p is)
came_now (Receive (Ended link)) calls front rest p is = absurd (not_there front rest p is)
came_now (Receive Nothing) calls front rest p is = absurd (not_there front rest p is)
came_now (Receive (LinkFailed server link)) calls front rest p is = absurd (not_there front rest p is)
came_now (Close link) calls front rest p is = absurd (not_there front rest p is)
came_now (Wait until outcome) calls front rest p is = absurd (not_there front rest p is)

came : (calls : List WorldCall) → opens_no_link calls ≡ true → (front back : List Parcel) (p : Parcel) → told messages [] calls ≡ front ++ p ∷ back → Came calls p
came [] h front back p is = absurd (not_there front back p is)
came (call ∷ calls) h front back p is =
    let now = first_passes keeps_none call calls h in
    by (λ f b e. came calls now.1 f b p e)
    (split_at (messages [] call) (told messages [] calls) front back p
    (subst (λ held. messages [] call ++ told messages held calls ≡ front ++ p ∷ back) (held_still call now.0) is))
  where
    by : ((f b : List Parcel) → told messages [] calls ≡ f ++ p ∷ b → Came calls p) →
        InFirst (messages [] call) (told messages [] calls) front back p ⊎ InSecond (messages [] call) (told messages [] calls) front back p → Came (call ∷ calls) p
    by later (inl a) = came_now call calls front a.0 p a.1
    by later (inr b) = let c = later b.0 back b.2 in record { before = call ∷ c.before; behind = c.behind; calls_are = ap (λ l. call ∷ l) c.calls_are; direct = c.direct }

-- the calls of a round behind its turn
abbrev readings_of : Round → List WorldCall
readings_of r = readings r.asides ++ calls_of_rest r.rest

-- ---- an Arrive, and what stands before it in its turn

module _ (setting : Setting) (slice server link : ℕ) (bytes : List ℕ) where
  -- the parcel of the Arrive
  abbrev the_parcel : Parcel
  the_parcel = record { server = server; link = link; bytes = bytes }

  -- an Arrive of a seat notes its parcel
  noted_first : (who : ℕ) (past : Past) (back : List Entry) (e : Entry) → e.seat ≡ who → e.what ≡ Arrive server link bytes → noted who arrived past (e ∷ back) ≡ the_parcel ∷ noted who arrived (e.what ∷ past) back
  noted_first who past back e seat is = rw (eq-eqb e.seat who seat, noted) (ap (λ l. l ++ noted who arrived (e.what ∷ past) back) (ap (arrived past) is))

  noted_there : (who : ℕ) (past : Past) (front back : List Entry) (e : Entry) → e.seat ≡ who → e.what ≡ Arrive server link bytes →
      noted who arrived past (front ++ e ∷ back) ≡ noted who arrived past front ++ the_parcel ∷ noted who arrived (e.what ∷ followed_by past front) back
  noted_there who past front back e seat is =
      noted-append who arrived past front (e ∷ back) ∙ ap (λ l. noted who arrived past front ++ l) (noted_first who (followed_by past front) back e seat is)

  -- where the journal's part meets the Arrive: what stands before it agrees with calls, and behind those comes its datagram; no Start stands between
  record Meets (s : Standing) (log : List WorldCall) (front : List Entry) : Type 0 where
    earlier : List Entry
    since : List Entry
    calls_before : List WorldCall
    before : List WorldCall
    behind : List WorldCall
    mid : Standing
    front_is : front ≡ earlier ++ since
    calls_are : log ≡ calls_before ++ (before ++ Receive (Datagram server bytes) ∷ behind)
    agrees : Agrees setting 0 s earlier calls_before mid
    no_start : (f b : List Entry) (e : Entry) → since ≡ f ++ e ∷ b → e.seat ≡ 0 → is_among receiving (parts_of_entry e.what) ≡ false → ⊥
    direct : link ≡ 0

  -- in a turn
  turn_meets : (s : Standing) (r : Round) (more : List WorldCall) (front back : List Entry) (e : Entry) → IsTurn setting 0 r.reading s r.entries r.calls r.new → s.held ≡ [] → opens_no_link r.calls ≡ true →
      r.entries ≡ front ++ e ∷ back → e.seat ≡ 0 → e.what ≡ Arrive server link bytes → Meets s (r.calls ++ more) front
  turn_meets s r more front back e turn none opens is seat arrive =
      let agrees = turn_agrees setting 0 r.reading s r.entries r.calls r.new turn in
      let rest : List Parcel = noted 0 arrived (e.what ∷ followed_by s.past front) back in
      let messages_are : told messages [] r.calls ≡ noted 0 arrived s.past front ++ the_parcel ∷ rest =
      ap (λ held. told messages held r.calls) (sym none) ∙ sym agrees.arrivals ∙ ap (noted 0 arrived s.past) is ∙ noted_there 0 s.past front back e seat arrive in
      let c = came r.calls opens (noted 0 arrived s.past front) rest the_parcel messages_are in
      record {
        earlier = [];
        since = front;
        calls_before = [];
        before = c.before;
        behind = c.behind ++ more;
        mid = s;
        front_is = refl;
        calls_are = ap (λ l. l ++ more) c.calls_are ∙ append_assoc c.before (Receive (Datagram server bytes) ∷ c.behind) more;
        agrees = agrees_none setting 0 s;
        no_start = λ f b x same own not_receiving.
            let whole : r.entries ≡ f ++ x ∷ (b ++ e ∷ back) = is ∙ ap (λ l. l ++ e ∷ back) same ∙ append_assoc f (x ∷ b) (e ∷ back) in
            let quiet : noted 0 arrived [] (b ++ e ∷ back) ≡ [] = receives_first setting 0 r.reading s r.entries r.calls r.new turn f (b ++ e ∷ back) x whole own not_receiving [] in
            not_there (noted 0 arrived [] b) (noted 0 arrived (e.what ∷ followed_by [] b) back) the_parcel (sym quiet ∙ noted_there 0 [] b back e seat arrive);
        direct = c.direct;
      }

  -- an Arrive is of a turn
  not_between : (front back : List Entry) (e : Entry) → has_no_turn (front ++ e ∷ back) ≡ true → e.what ≡ Arrive server link bytes → ⊥
  not_between front back e none arrive =
      let h : not (is_of_turn e) ≡ true = item_passes (λ entry. not (is_of_turn entry)) front back e none in
      absurd (let k : not (not (length (parts_of_entry (Arrive server link bytes)) == 0)) ≡ true = subst (λ w. not (not (length (parts_of_entry w) == 0)) ≡ true) arrive h in cc k)

  -- in turns, one behind the other
  rounds_meet : (s : Standing) (rounds : List Round) → AreTurns setting 0 slice s rounds → s.held ≡ [] → opens_no_link (flat_map calls_of rounds) ≡ true → (front back : List Entry) (e : Entry) →
      flat_map entries_of rounds ≡ front ++ e ∷ back → e.seat ≡ 0 → e.what ≡ Arrive server link bytes → Meets s (flat_map calls_of rounds) front
  rounds_meet s [] turns none opens front back e is seat arrive = absurd (not_there front back e is)
  rounds_meet s (r ∷ rs) turns none opens front back e is seat arrive =
      let opened = two_pass keeps_none (calls_of r) (flat_map calls_of rs) opens in
      let opened_turn = two_pass keeps_none r.calls (readings r.asides) (two_pass keeps_none (r.calls ++ readings r.asides) (calls_of_rest r.rest) opened.0).0 in
      let round = rounds_agree setting 0 slice s (r ∷ []) (turns.0, turns.1, turns.2, refl, tt) in
      let one : Agrees setting 0 s (entries_of r) (calls_of r) (behind r.new r.between) =
      subst (λ es. Agrees setting 0 s es (calls_of r) (behind r.new r.between)) (append-nil (entries_of r))
      (subst (λ cs. Agrees setting 0 s (entries_of r ++ []) cs (behind r.new r.between)) (append-nil (calls_of r)) round) in
      let held : r.new.held ≡ [] = one.held_are ∙ ap (λ h. held_after h (calls_of r)) none ∙ held_never (calls_of r) opened.0 in
      by (λ f b h. rounds_meet (behind r.new r.between) rs turns.4 held opened.1 f b e h seat arrive) one opened_turn.0 (split_at (entries_of r) (flat_map entries_of rs) front back e is)
    where
      in_round : (rest : List Entry) → opens_no_link r.calls ≡ true → InFirst r.entries r.between front rest e ⊎ InSecond r.entries r.between front rest e → Meets s (calls_of r ++ flat_map calls_of rs) front
      in_round rest open_turn (inl a) =
          subst (λ l. Meets s l front) (sym (ap (λ l. l ++ flat_map calls_of rs) (append_assoc r.calls (readings r.asides) (calls_of_rest r.rest)) ∙ append_assoc r.calls (readings_of r) (flat_map calls_of rs)))
          (turn_meets s r (readings_of r ++ flat_map calls_of rs) front a.0 e turns.0 none open_turn a.1 seat arrive)
      in_round rest open_turn (inr b) = absurd (not_between b.0 rest e (subst (λ l. has_no_turn l ≡ true) b.2 turns.1) arrive)

      by : ((f b : List Entry) → flat_map entries_of rs ≡ f ++ e ∷ b → Meets (behind r.new r.between) (flat_map calls_of rs) f) → Agrees setting 0 s (entries_of r) (calls_of r) (behind r.new r.between) → opens_no_link r.calls ≡ true →
          InFirst (entries_of r) (flat_map entries_of rs) front back e ⊎ InSecond (entries_of r) (flat_map entries_of rs) front back e → Meets s (calls_of r ++ flat_map calls_of rs) front
      by later one open_turn (inl a) = in_round a.0 open_turn (split_at r.entries r.between front a.0 e a.1)
      by later one open_turn (inr b) =
          let m = later b.0 back b.2 in
          record {
            earlier = entries_of r ++ m.earlier;
            since = m.since;
            calls_before = calls_of r ++ m.calls_before;
            before = m.before;
            behind = m.behind;
            mid = m.mid;
            front_is = b.1 ∙ ap (λ l. entries_of r ++ l) m.front_is ∙ sym (append_assoc (entries_of r) m.earlier m.since);
            calls_are = ap (λ l. calls_of r ++ l) m.calls_are ∙ sym (append_assoc (calls_of r) m.calls_before (m.before ++ Receive (Datagram server bytes) ∷ m.behind));
            agrees = agrees_trans setting 0 s (behind r.new r.between) m.mid (entries_of r) m.earlier (calls_of r) m.calls_before one m.agrees;
            no_start = m.no_start;
            direct = m.direct;
          }

  -- ---- in a whole course

  -- a Start isn't made while a turn receives
  start_apart : (what : What) (a : Attempt) → begun_by what ≡ Some a → is_among receiving (parts_of_entry what) ≡ false
  start_apart (Accept number spec script) a is = refl
  start_apart Cancel a is = refl
  start_apart Destroy a is = refl
  start_apart (Take number) a is = refl
  start_apart (Start number leg to over id mix moment) a is = refl
  start_apart (Arrive from over content) a is = absurd (cc is)
  start_apart (Expire number leg moment) a is = refl
  start_apart (Fault to over moment) a is = absurd (cc is)
  start_apart (Servers list) a is = refl

  -- nothing is in a list of no length
  no_length : {A : Type 0} (xs : List A) (rest : ℕ) → length xs + rest ≡ 0 → xs ≡ []
  no_length [] rest h = refl
  no_length (x ∷ xs) rest h = absurd (omega (arith, h))

  -- the whole of a course, up to what meets the Arrive
  course_meets : (journal : List Entry) (log : List WorldCall) (turns : ℕ) → IsCourse setting 0 slice journal log turns 0 → opens_no_link log ≡ true → (front back : List Entry) (e : Entry) →
      journal ≡ front ++ e ∷ back → e.seat ≡ 0 → e.what ≡ Arrive server link bytes → Meets beginning log front
  course_meets journal log turns course opens front back e is seat arrive =
      let serves : List WorldCall = serves_from 0 setting.options.servers in
      let no_asides : course.first_asides ≡ [] = no_length course.first_asides (asides_of course.rounds) course.asides_are in
      let log_is : log ≡ serves ++ flat_map calls_of course.rounds = course.log_is ∙ ap (λ l. serves ++ readings l ++ flat_map calls_of course.rounds) no_asides ∙ ap (λ l. l ++ flat_map calls_of course.rounds) (append-nil serves) in
      let opened : opens_no_link (flat_map calls_of course.rounds) ≡ true = (two_pass keeps_none serves (flat_map calls_of course.rounds) (subst (λ l. opens_no_link l ≡ true) log_is opens)).1 in
      let first = serves_agree setting 0 beginning course.first 0 setting.options.servers course.before in
      by (λ fr h. rounds_meet (behind beginning course.first) course.rounds course.turns_are refl opened fr back e h seat arrive) serves log_is first
      (split_at course.first (flat_map entries_of course.rounds) front back e (sym course.journal_is ∙ is))
    where
      by : ((fr : List Entry) → flat_map entries_of course.rounds ≡ fr ++ e ∷ back → Meets (behind beginning course.first) (flat_map calls_of course.rounds) fr) → (serves : List WorldCall) →
          log ≡ serves ++ flat_map calls_of course.rounds → Agrees setting 0 beginning course.first serves (behind beginning course.first) →
          InFirst course.first (flat_map entries_of course.rounds) front back e ⊎ InSecond course.first (flat_map entries_of course.rounds) front back e → Meets beginning log front
      by later serves log_is first (inl a) = absurd (not_between front a.0 e (subst (λ l. has_no_turn l ≡ true) a.1 course.before) arrive)
      by later serves log_is first (inr b) =
          let m = later b.0 b.2 in
          record {
            earlier = course.first ++ m.earlier;
            since = m.since;
            calls_before = serves ++ m.calls_before;
            before = m.before;
            behind = m.behind;
            mid = m.mid;
            front_is = b.1 ∙ ap (λ l. course.first ++ l) m.front_is ∙ sym (append_assoc course.first m.earlier m.since);
            calls_are = log_is ∙ ap (λ l. serves ++ l) m.calls_are ∙ sym (append_assoc serves m.calls_before (m.before ++ Receive (Datagram server bytes) ∷ m.behind));
            agrees = agrees_trans setting 0 beginning (behind beginning course.first) m.mid course.first m.earlier serves m.calls_before first m.agrees;
            no_start = m.no_start;
            direct = m.direct;
          }

  -- the query of a Start went before the message of an Arrive behind it came, where no fault of its way stands between
  pub exchanged : (journal : List Entry) (log : List WorldCall) (turns : ℕ) → IsCourse setting 0 slice journal log turns 0 → opens_no_link log ≡ true → (front back f b : List Entry) (e x : Entry) (a : Attempt) →
      journal ≡ front ++ e ∷ back → e.seat ≡ 0 → e.what ≡ Arrive server link bytes → front ≡ f ++ x ∷ b → x.seat ≡ 0 → begun_by x.what ≡ Some a → a.server ≡ server → a.link ≡ link →
      (HasFault setting b (record { server = a.server; link = a.link }) → ⊥) → WasExchanged server (query_bytes setting (past_of f) a) bytes log
  exchanged journal log turns course opens front back f b e x a is seat arrive parts own begun to over none =
      by m (split_at m.earlier m.since f b x (sym m.front_is ∙ parts))
    where
      m : Meets beginning log front
      m = course_meets journal log turns course opens front back e is seat arrive

      direct : a.link ≡ 0
      direct = over ∙ m.direct

      parcel : Parcel
      parcel = record { server = a.server; link = 0; bytes = query_bytes setting (past_of f) a }

      -- a fault of the way in a part of what stands between is one there
      none_in : (rest since : List Entry) → b ≡ rest ++ since → HasFault setting rest (record { server = a.server; link = 0 }) → ⊥
      none_in rest since between h =
          none (record {
            front = h.front;
            entry = h.entry;
            back = h.back ++ since;
            moment = h.moment;
            parts = between ∙ ap (λ l. l ++ since) h.parts ∙ append_assoc h.front (h.entry ∷ h.back) since;
            is = h.is ∙ ap (λ k. Fault a.server k h.moment) (sym direct);
          })

      by : (m : Meets beginning log front) → InFirst m.earlier m.since f b x ⊎ InSecond m.earlier m.since f b x → WasExchanged server (query_bytes setting (past_of f) a) bytes log
      by m (inr s) = absurd (m.no_start s.0 b x s.2 own (start_apart x.what a begun))
      by m (inl r) =
          let told_are : told notices [] m.calls_before ≡ noted 0 (noticed setting) [] f ++ of_datagram parcel ∷ noted 0 (noticed setting) (x.what ∷ past_of f) r.0 =
          sym m.agrees.in_order ∙ ap (noted 0 (noticed setting) []) r.1 ∙ noted-append 0 (noticed setting) [] f (x ∷ r.0)
          ∙ ap (λ l. noted 0 (noticed setting) [] f ++ l) (start_first setting 0 (past_of f) r.0 x a own begun direct) in
          let w = taken_datagram setting [] m.calls_before (noted 0 (noticed setting) [] f) parcel 0 (x.what ∷ past_of f) r.0 told_are (none_in r.0 m.since r.2) in
          record {
            before = w.before;
            between = w.behind ++ m.before;
            behind = m.behind;
            calls_are = m.calls_are ∙ ap (λ l. l ++ (m.before ++ Receive (Datagram server bytes) ∷ m.behind)) w.calls_are
                ∙ append_assoc w.before (Send a.server (query_bytes setting (past_of f) a) WasSent ∷ w.behind) (m.before ++ Receive (Datagram server bytes) ∷ m.behind)
                ∙ ap (λ l. w.before ++ Send a.server (query_bytes setting (past_of f) a) WasSent ∷ l) (sym (append_assoc w.behind m.before (Receive (Datagram server bytes) ∷ m.behind)))
                ∙ ap (λ k. w.before ++ Send k (query_bytes setting (past_of f) a) WasSent ∷ ((w.behind ++ m.before) ++ Receive (Datagram server bytes) ∷ m.behind)) to;
          }
