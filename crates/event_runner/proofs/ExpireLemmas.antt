-- Attempts that expire, one by one.
use Rattle.event_runner.proofs.Base.{◌≡◌, ◌∙◌, ℕ, ◌+◌, ◌≤◌, ◌^◌, List, [], ◌∷◌, refl, sym, subst, arith, eq-eqb, inl, inr, add-zero, Ok, Err, Entry, Expire, NoMemory, WorldCall, Expired, NotDue, agrees_nearly, AreOthers, agrees_calls, agrees_expire, followed_by, Calls, Expires, Setting, Standing, NoneDue, expired_in, expiring, Goes, Stops, CutPart, MakesPart, NearlyWithin, Within, State}
use Rattle.event_runner.proofs.CallLemmas.{goes_add, goes_look, log_stays, own, own_none, own_one, past_behind, stops_look}
use Rattle.event_runner.proofs.GoesLemmas.{goes_as, goes_joined, goes_none, stops_joined}
use Rattle.event_runner.proofs.SoundLemmas.{Sound, sound_idle, sound_one}
use Rattle.event_runner.proofs.WithinLemmas.{counts_as, expired-append, nearly_joined, within_joined, within_none}

module _ (reading : ℕ) where
  -- nothing is due
  pub record FindsNoneDue (setting : Setting) (seat : ℕ) (old : Standing) (entries : List Entry) (calls : List WorldCall) (new : Standing) : Type 0 where
    pub within : Within reading expiring 0 0 0 setting seat old entries calls new
    pub none : NoneDue setting reading new.past

  -- one expire is cut short
  pub record CutExpire (setting : Setting) (seat : ℕ) (old : Standing) (entries : List Entry) (calls : List WorldCall) : Type 0 where
    pub within : NearlyWithin reading expiring setting seat old entries calls
    pub none : expired_in seat entries ≡ 0

  -- entries of others alone
  others_within : (setting : Setting) (seat : ℕ) (from : Standing) (os : List Entry) → AreOthers seat os →
      Within reading expiring 0 0 0 setting seat from os [] (record { past = followed_by from.past os; held = from.held; unwritten = from.unwritten })
  others_within setting seat from os others = record {
    agrees = agrees_calls setting seat from os others [] (record { past = followed_by from.past os; held = from.held; unwritten = from.unwritten }) refl refl refl refl refl (λ link. refl) refl;
    alone = rw (own_none seat os others) refl;
    counts = record { received_are = refl; expired_are = rw (own_none seat os others) refl; started_are = rw (own_none seat os others) refl };
  }

  -- one attempt expires
  pub expires_one : (a b : State) (number leg : ℕ) → b.rows ≡ a.rows → b.told ≡ a.told → b.mix ≡ a.mix → b.log ≡ a.log → Calls (Expires reading (Ok (Expired number leg))) 0 a.known b.known → Goes (Within reading expiring 0 1 0) a b
  expires_one a b number leg rows told mix log call =
      goes_add (Expires reading (Ok (Expired number leg))) a b call (Expire number leg reading) call.meant.0 refl [] (log ∙ log_stays a.log) (Within reading expiring 0 1 0) mix
      (λ os others idle from sound meant.
      let entry = own a.known.seat (Expire number leg reading) in
      let mid : Standing = record { past = followed_by from.past os; held = from.held; unwritten = from.unwritten } in
      let to : Standing = record { past = Expire number leg reading ∷ followed_by from.past os; held = from.held; unwritten = from.unwritten } in
      let mine = own_one a.known.seat os entry others refl in (
        to,
        past_behind from os entry,
        record {
          agrees = agrees_expire a.known.setting a.known.seat from os others entry number leg reading refl refl;
          alone = rw (mine, eq-eqb reading reading refl) refl;
          counts = record { received_are = refl; expired_are = rw mine refl; started_are = rw mine refl };
        },
        subst (λ t. Sound a.known.setting b.rows t to) (sym told) (subst (λ r. Sound a.known.setting r a.told to) (sym rows)
            (sound_one a.known.setting a.rows a.told (Expire number leg reading) mid refl (sound_idle a.known.setting a.rows a.told os from idle sound))),
      ))

  -- none is due
  pub expires_none : (a b : State) → b.rows ≡ a.rows → b.told ≡ a.told → b.mix ≡ a.mix → b.log ≡ a.log → Calls (Expires reading (Ok NotDue)) 0 a.known b.known → Goes (FindsNoneDue) a b
  expires_none a b rows told mix log call =
      goes_look (Expires reading (Ok NotDue)) a b call call.meant.0 [] (log ∙ log_stays a.log) FindsNoneDue mix
      (λ os others idle from sound meant.
      let to : Standing = record { past = followed_by from.past os; held = from.held; unwritten = from.unwritten } in (
        to,
        refl,
        record { within = others_within a.known.setting a.known.seat from os others; none = meant.1 },
        subst (λ t. Sound a.known.setting b.rows t to) (sym told) (subst (λ r. Sound a.known.setting r a.told to) (sym rows) (sound_idle a.known.setting a.rows a.told os from idle sound)),
      ))

  -- want of memory
  expires_cut : (a b : State) (fault : NoMemory) → b.log ≡ a.log → Calls (Expires reading (Err fault)) 0 a.known b.known → Stops CutExpire a b
  expires_cut a b fault log call =
      stops_look (Expires reading (Err fault)) a b call call.meant.0 [] (log ∙ log_stays a.log) CutExpire
      (λ os others idle from sound.
      let within = others_within a.known.setting a.known.seat from os others in
      record {
        within = record { nearly = agrees_nearly a.known.setting a.known.seat from (record { past = followed_by from.past os; held = from.held; unwritten = from.unwritten }) os [] within.agrees; alone = within.alone };
        none = within.counts.expired_are;
      })

  -- so many attempts expired so far
  pub expires_so_far : (a : State) → Goes (Within reading expiring 0 0 0) a a
  expires_so_far a = goes_none (Within reading expiring 0 0 0) (λ setting seat s. within_none s) a

  pub expires_more : (count : ℕ) (a b c : State) → Goes (Within reading expiring 0 count 0) a b → Goes (Within reading expiring 0 1 0) b c → Goes (Within reading expiring 0 (count + 1) 0) a c
  expires_more count a b c = goes_joined (Within reading expiring 0 count 0) (Within reading expiring 0 1 0) (Within reading expiring 0 (count + 1) 0)
      (λ setting seat x y z es fs cs ds p q. within_joined p q) a b c

  -- and then none was due
  pub expires_all : (count : ℕ) → count ≤ 2 ^ 16 → (a b c : State) → Goes (Within reading expiring 0 count 0) a b → Goes FindsNoneDue b c → Goes (MakesPart reading expiring 0 count 0) a c
  expires_all count few a b c = goes_joined (Within reading expiring 0 count 0) FindsNoneDue (MakesPart reading expiring 0 count 0)
      (λ setting seat x y z es fs cs ds p q.
      let both = within_joined p q.within in
      let counts = counts_as refl (add-zero count) refl both.counts in
      record { made = record { agrees = both.agrees; alone = both.alone; all = inl q.none; few = rw counts.expired_are few }; counts = counts }) a b c

  -- or as many as a turn makes
  most : (a b : State) → Goes (Within reading expiring 0 65536 0) a b → Goes (MakesPart reading expiring 0 65536 0) a b
  most a b = goes_as (Within reading expiring 0 65536 0) (MakesPart reading expiring 0 65536 0)
      (λ setting seat x y es cs p. record { made = record { agrees = p.agrees; alone = p.alone; all = inr p.counts.expired_are; few = rw p.counts.expired_are (omega arith) }; counts = p.counts }) a b

  pub expires_most : (count : ℕ) → count ≡ 65536 → (a b : State) → Goes (Within reading expiring 0 count 0) a b → Goes (MakesPart reading expiring 0 65536 0) a b
  expires_most count all a b so_far = most a b (subst (λ n. Goes (Within reading expiring 0 n 0) a b) all so_far)

  -- or want of memory came
  pub expires_stop : (count : ℕ) → count ≤ 2 ^ 16 → (a b c : State) (fault : NoMemory) → Goes (Within reading expiring 0 count 0) a b → c.log ≡ b.log → Calls (Expires reading (Err fault)) 0 b.known c.known → Stops (CutPart reading expiring) a c
  expires_stop count few a b c fault so_far log call = stops_joined (Within reading expiring 0 count 0) CutExpire (CutPart reading expiring)
      (λ setting seat x y es fs cs ds p q.
      let both = nearly_joined p q.within in
      record { nearly = both.nearly; alone = both.alone; by_rule = rw (expired-append seat es fs, p.counts.expired_are, q.none) (omega (arith, few)) }) a b c so_far (expires_cut b c fault log call)
