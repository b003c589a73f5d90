-- A datagram behind which no fault of its way is noted is one that the network took.
use Rattle.std.proofs.Common.{◌≡◌, ℕ, ◌==◌, ◌||◌, List, [], ◌∷◌, ◌++◌, map, refl, sym, ap, subst, ◌∙◌, Bool, true, false, if◌then◌else◌, inl, inr, eq-eqb}
use Rattle.std.specs.List.{list_any}
use Rattle.std.specs.Prelude.{Some, ◌⊎◌}
use Rattle.std.proofs.lemmas.List.{append_assoc, append_cancel_right}
use Rattle.chan_types.specs.declared.journal.Entry.{Entry}
use Rattle.chan_types.specs.declared.journal.What.{What}
use Rattle.chan_types.specs.declared.journal.What.TheVariants.{Accept, Arrive, Cancel, Destroy, Expire, Fault, Start, Take, Servers}
use Rattle.net_world.specs.declared.answers.Sent.{Sent}
use Rattle.net_world.specs.declared.answers.Sent.TheVariants.{Failed as NotSent, Sent as WasSent}
use Rattle.net_world.specs.declared.log.WorldCall.{WorldCall}
use Rattle.net_world.specs.declared.log.WorldCall.TheVariants.{Close, Connect, Now, Receive, Send, Serve, Wait, Word, Write}
use Rattle.channel_model.specs.Flight.{Attempt, begun_by, closes, went_over}
use Rattle.channel_model.specs.InFlight.{NoneCloses}
use Rattle.channel_model.specs.Journal.{Past, followed_by}
use Rattle.channel_model.specs.Legs.{leg_of}
use Rattle.channel_model.specs.Links.{Link, held_by, told}
use Rattle.channel_model.specs.Setting.{Setting}
use Rattle.channel_model.specs.Traffic.{Notice, Parcel, Route, connects, fault_received, fault_sent, fault_written, faults, is_start_on, messages, noted, noticed, notices, notices_of, of_datagram, of_fault, of_link, of_message, query_bytes}
use Rattle.owner_laws.proofs.ListLemmas.{heads, tails}
use Rattle.adig_tool.proofs.ListLemmas.{InFirst, InSecond, not_there, split_at}

-- ---- what calls tell of one datagram

-- messages, links and faults have no datagram among them
none_sent : (ms : List Parcel) (ks fs : List Route) (front rest : List Notice) (p : Parcel) → notices_of ms [] ks fs ≡ front ++ of_datagram p ∷ rest → ⊥
none_sent [] [] [] front rest p is = not_there front rest (of_datagram p) is
none_sent [] [] (f ∷ fs) [] rest p is = cc is
none_sent [] [] (f ∷ fs) (n ∷ front) rest p is = none_sent [] [] fs front rest p (tails (of_fault f) n (notices_of [] [] [] fs) (front ++ of_datagram p ∷ rest) is)
none_sent [] (k ∷ ks) fs [] rest p is = cc is
none_sent [] (k ∷ ks) fs (n ∷ front) rest p is = none_sent [] ks fs front rest p (tails (of_link k) n (notices_of [] [] ks fs) (front ++ of_datagram p ∷ rest) is)
none_sent (m ∷ ms) ks fs [] rest p is = cc is
none_sent (m ∷ ms) ks fs (n ∷ front) rest p is = none_sent ms ks fs front rest p (tails (of_message m) n (notices_of ms [] ks fs) (front ++ of_datagram p ∷ rest) is)

-- the parcel went as a datagram, and these notices are its failure, if it failed, and what is told later
record Went (calls : List WorldCall) (p : Parcel) (rest : List Notice) : Type 0 where
  pub outcome : Sent
  pub held : List Link
  pub before : List WorldCall
  pub behind : List WorldCall
  pub calls_are : calls ≡ before ++ Send p.server p.bytes outcome ∷ behind
  pub rest_is : rest ≡ map of_fault (fault_sent p.server 0 outcome) ++ told notices held behind

went_now : (held : List Link) (call : WorldCall) (calls : List WorldCall) (front rest : List Notice) (p : Parcel) → notices held call ≡ front ++ of_datagram p ∷ rest →
    Went (call ∷ calls) p (rest ++ told notices (held_by held call) calls)
went_now held (Serve server address) calls front rest p is = absurd (none_sent [] [] [] front rest p is)
went_now held (Now reading) calls front rest p is = absurd (none_sent [] [] [] front rest p is)
went_now held (Word word) calls front rest p is = absurd (none_sent [] [] [] front rest p is)
went_now held (Send server bytes outcome) calls [] rest p is =
    let made : Parcel = record { server = server; link = 0; bytes = bytes } in
    let first : of_datagram made ≡ of_datagram p = heads (of_datagram made) (of_datagram p) (map of_fault (fault_sent server 0 outcome)) rest is in
    let same : made ≡ p = cc in
    let others : map of_fault (fault_sent server 0 outcome) ≡ rest = tails (of_datagram made) (of_datagram p) (map of_fault (fault_sent server 0 outcome)) rest is in
    record {
      outcome = outcome;
      held = held;
      before = [];
      behind = calls;
      calls_are = ap (λ q. Send q.server q.bytes outcome ∷ calls) same;
      rest_is = ap (λ r. r ++ told notices held calls) (sym others ∙ ap (λ q. map of_fault (fault_sent q.server 0 outcome)) same);
    }
went_now held (Send server bytes outcome) calls (n ∷ front) rest p is =
    let made : Parcel = record { server = server; link = 0; bytes = bytes } in
    absurd (none_sent [] [] (fault_sent server 0 outcome) front rest p (tails (of_datagram made) n (map of_fault (fault_sent server 0 outcome)) (front ++ of_datagram p ∷ rest) is))
went_now held (Connect server link outcome) calls front rest p is = absurd (none_sent [] (connects held (Connect server link outcome)) (faults held (Connect server link outcome)) front rest p is)
went_now held (Write link bytes outcome) calls front rest p is = absurd (none_sent [] [] (fault_written held link outcome) front rest p is)
went_now held (Receive got) calls front rest p is = absurd (none_sent (messages held (Receive got)) [] (fault_received held got) front rest p is)
went_now held (Close link) calls front rest p is = absurd (none_sent [] [] [] front rest p is)
went_now held (Wait until outcome) calls front rest p is = absurd (none_sent [] [] [] front rest p is)

went : (held : List Link) (calls : List WorldCall) (front back : List Notice) (p : Parcel) → told notices held calls ≡ front ++ of_datagram p ∷ back → Went calls p back
went held [] front back p is = absurd (not_there front back (of_datagram p) is)
went held (call ∷ calls) front back p is =
    by (λ f b e. went (held_by held call) calls f b p e) (split_at (notices held call) (told notices (held_by held call) calls) front back (of_datagram p) is)
  where
    by : ((f b : List Notice) → told notices (held_by held call) calls ≡ f ++ of_datagram p ∷ b → Went calls p b) →
        InFirst (notices held call) (told notices (held_by held call) calls) front back (of_datagram p) ⊎ InSecond (notices held call) (told notices (held_by held call) calls) front back (of_datagram p) → Went (call ∷ calls) p back
    by later (inl a) = subst (Went (call ∷ calls) p) (sym a.2) (went_now held call calls front a.0 p a.1)
    by later (inr b) =
        let w = later b.0 back b.2 in
        record { outcome = w.outcome; held = w.held; before = call ∷ w.before; behind = w.behind; calls_are = ap (λ l. call ∷ l) w.calls_are; rest_is = w.rest_is }

module _ (setting : Setting) where
  -- ---- what entries note of it

  -- the Start of an attempt over link 0 notes its query alone
  start_notices : (past : Past) (what : What) (a : Attempt) → begun_by what ≡ Some a → a.link ≡ 0 →
      noticed setting past what ≡ of_datagram (record { server = a.server; link = 0; bytes = query_bytes setting past a }) ∷ []
  start_notices past (Accept number spec script) a begun direct = absurd (cc begun)
  start_notices past Cancel a begun direct = absurd (cc begun)
  start_notices past Destroy a begun direct = absurd (cc begun)
  start_notices past (Take number) a begun direct = absurd (cc begun)
  start_notices past (Start number leg server link id mix moment) a begun direct =
      let made : Attempt = record { leg = leg_of number leg; server = server; link = link; id = id; mix = mix; moment = moment } in
      let same : made ≡ a = (let e : Some made ≡ Some a = begun in cc) in
      by (link == 0) (eq-eqb link 0 (ap (λ x. x.link) same ∙ direct)) same
    where
      made_here : Attempt
      made_here = record { leg = leg_of number leg; server = server; link = link; id = id; mix = mix; moment = moment }

      by : (b : Bool) → b ≡ true → made_here ≡ a →
          notices_of [] (if b then record { server = server; link = 0; bytes = query_bytes setting past made_here } ∷ [] else [])
          (if b || list_any (is_start_on link) past then [] else record { server = server; link = link } ∷ []) []
          ≡ of_datagram (record { server = a.server; link = 0; bytes = query_bytes setting past a }) ∷ []
      by true is same = ap (λ x. of_datagram (record { server = x.server; link = 0; bytes = query_bytes setting past x }) ∷ []) same
      by false is same = absurd (cc is)
  start_notices past (Arrive server link bytes) a begun direct = absurd (cc begun)
  start_notices past (Expire number leg moment) a begun direct = absurd (cc begun)
  start_notices past (Fault server link moment) a begun direct = absurd (cc begun)
  start_notices past (Servers list) a begun direct = absurd (cc begun)

  pub start_first : (who : ℕ) (past : Past) (back : List Entry) (e : Entry) (a : Attempt) → e.seat ≡ who → begun_by e.what ≡ Some a → a.link ≡ 0 →
      noted who (noticed setting) past (e ∷ back) ≡ of_datagram (record { server = a.server; link = 0; bytes = query_bytes setting past a }) ∷ noted who (noticed setting) (e.what ∷ past) back
  start_first who past back e a seat begun direct =
      rw (eq-eqb e.seat who seat, noted) (ap (λ l. l ++ noted who (noticed setting) (e.what ∷ past) back) (start_notices past e.what a begun direct))

  -- the fault of this way stands among the entries
  pub record HasFault (entries : List Entry) (way : Route) : Type 0 where
    pub front : List Entry
    pub entry : Entry
    pub back : List Entry
    pub moment : ℕ
    pub parts : entries ≡ front ++ entry ∷ back
    pub is : entry.what ≡ Fault way.server way.link moment

  -- what is noted first as a fault is one of them
  fault_noted : (who : ℕ) (past : Past) (entries : List Entry) (way : Route) (rest : List Notice) → noted who (noticed setting) past entries ≡ of_fault way ∷ rest → HasFault entries way
  fault_noted who past [] way rest is = absurd (cc is)
  fault_noted who past (e ∷ entries) way rest is = of_seat (e.seat == who) (λ h. fault_noted who (e.what ∷ past) entries way rest h) is
    where
      more : List Notice
      more = noted who (noticed setting) (e.what ∷ past) entries

      later : HasFault entries way → HasFault (e ∷ entries) way
      later f = record { front = e ∷ f.front; entry = f.entry; back = f.back; moment = f.moment; parts = ap (λ l. e ∷ l) f.parts; is = f.is }

      started : (b c : Bool) (p : Parcel) (k : Route) → (more ≡ of_fault way ∷ rest → HasFault entries way) →
          notices_of [] (if b then p ∷ [] else []) (if c then [] else k ∷ []) [] ++ more ≡ of_fault way ∷ rest → HasFault (e ∷ entries) way
      started true c p k again h = absurd (cc h)
      started false true p k again h = later (again h)
      started false false p k again h = absurd (cc h)

      of_what : (what : What) → e.what ≡ what → (more ≡ of_fault way ∷ rest → HasFault entries way) → noticed setting past what ++ more ≡ of_fault way ∷ rest → HasFault (e ∷ entries) way
      of_what (Accept number spec script) it again h = later (again h)
      of_what Cancel it again h = later (again h)
      of_what Destroy it again h = later (again h)
      of_what (Take number) it again h = later (again h)
      of_what (Start number leg server link id mix moment) it again h =
          let made : Attempt = record { leg = leg_of number leg; server = server; link = link; id = id; mix = mix; moment = moment } in
          started (link == 0) ((link == 0) || list_any (is_start_on link) past) (record { server = server; link = 0; bytes = query_bytes setting past made }) (record { server = server; link = link }) again h
      of_what (Arrive server link bytes) it again h = absurd (cc h)
      of_what (Expire number leg moment) it again h = later (again h)
      of_what (Fault server link moment) it again h =
          let made : Route = record { server = server; link = link } in
          let first : of_fault made ≡ of_fault way = heads (of_fault made) (of_fault way) more rest h in
          let same : made ≡ way = cc in
          record { front = []; entry = e; back = entries; moment = moment; parts = refl; is = it ∙ ap (λ r. Fault r.server r.link moment) same }
      of_what (Servers list) it again h = later (again h)

      of_seat : (b : Bool) → (more ≡ of_fault way ∷ rest → HasFault entries way) → (if b then noticed setting past e.what else []) ++ more ≡ of_fault way ∷ rest → HasFault (e ∷ entries) way
      of_seat true again h = of_what e.what refl again h
      of_seat false again h = later (again h)

  -- a datagram that calls tell, and behind which the entries note no fault of its way, was taken
  pub record WasTaken (calls : List WorldCall) (p : Parcel) : Type 0 where
    pub before : List WorldCall
    pub behind : List WorldCall
    pub calls_are : calls ≡ before ++ Send p.server p.bytes WasSent ∷ behind

  pub taken_datagram : (held : List Link) (calls : List WorldCall) (front : List Notice) (p : Parcel) (who : ℕ) (past : Past) (entries : List Entry) →
      told notices held calls ≡ front ++ of_datagram p ∷ noted who (noticed setting) past entries → (HasFault entries (record { server = p.server; link = 0 }) → ⊥) → WasTaken calls p
  taken_datagram held calls front p who past entries are none = by (went held calls front (noted who (noticed setting) past entries) p are)
    where
      taken : (outcome : Sent) (more : List Notice) → noted who (noticed setting) past entries ≡ map of_fault (fault_sent p.server 0 outcome) ++ more → outcome ≡ WasSent
      taken WasSent more is = refl
      taken NotSent more is = absurd (none (fault_noted who past entries (record { server = p.server; link = 0 }) more is))

      by : Went calls p (noted who (noticed setting) past entries) → WasTaken calls p
      by w = record {
        before = w.before;
        behind = w.behind;
        calls_are = subst (λ o. calls ≡ w.before ++ Send p.server p.bytes o ∷ w.behind) (taken w.outcome (told notices w.held w.behind) w.rest_is) w.calls_are;
      }

  -- ---- while an attempt is in flight, no fault of its way is noted

  -- what happened in these entries, the newest first
  abbrev happened : List Entry → List What
  happened [] = []
  happened (e ∷ es) = happened es ++ e.what ∷ []

  happened_behind : (past : Past) (es : List Entry) → followed_by past es ≡ happened es ++ past
  happened_behind past [] = refl
  happened_behind past (e ∷ es) = happened_behind (e.what ∷ past) es ∙ sym (append_assoc (happened es) (e.what ∷ []) past)

  happened_parts : (front back : List Entry) (e : Entry) → happened (front ++ e ∷ back) ≡ happened back ++ e.what ∷ happened front
  happened_parts [] back e = refl
  happened_parts (x ∷ front) back e = ap (λ l. l ++ x.what ∷ []) (happened_parts front back e) ∙ append_assoc (happened back) (e.what ∷ happened front) (x.what ∷ [])

  spares_each : (a : Attempt) (newer : List What) (what : What) (older : List What) (past : Past) → NoneCloses setting a (newer ++ what ∷ older) past → closes setting a what (older ++ past) ≡ false
  spares_each a [] what older past spared = spared.0
  spares_each a (w ∷ newer) what older past spared = spares_each a newer what older past spared.1

  pub no_fault : (a : Attempt) (past : Past) (entries : List Entry) (newer : List What) → followed_by past entries ≡ newer ++ past → NoneCloses setting a newer past →
      HasFault entries (record { server = a.server; link = a.link }) → ⊥
  no_fault a past entries newer is spared f =
      let same : newer ≡ happened f.back ++ f.entry.what ∷ happened f.front =
      append_cancel_right newer (happened f.back ++ f.entry.what ∷ happened f.front) past
      (sym is ∙ happened_behind past entries ∙ ap (λ l. l ++ past) (ap happened f.parts ∙ happened_parts f.front f.back f.entry)) in
      let stays : closes setting a f.entry.what (happened f.front ++ past) ≡ false =
      spares_each a (happened f.back) f.entry.what (happened f.front) past (subst (λ n. NoneCloses setting a n past) same spared) in
      let went : went_over a a.server a.link ≡ false = subst (λ w. closes setting a w (happened f.front ++ past) ≡ false) f.is stays in
      absurd (let h : true ≡ false = sym (rw (eq-eqb a.server a.server refl, eq-eqb a.link a.link refl) refl) ∙ went in cc h)
