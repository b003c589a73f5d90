-- A whole session: it begins, its requests are accepted, and turns are made.
use Rattle.std.proofs.Common.{◌≡◌, ◌∙◌, ℕ, ◌==◌, ◌&&◌, ◌||◌, Bool, true, false, List, [], ◌++◌, map, not, is_some, refl, ap, sym, subst, inl, inr, arith}
use Rattle.std.specs.Prelude.{Err, Ok, Option, Result, is_err, option_map}
use Rattle.std.specs.List.{list_all}
use Rattle.std.proofs.lemmas.Bool.{and_from, and_parts}
use Rattle.std.proofs.lemmas.List.{append-nil}
use mathlib.Core.List.{IsPrefix}
use Rattle.item_list.specs.declared.no_memory.NoMemory.{NoMemory}
use Rattle.resolv_options.specs.Values.{OptionValues}
use Rattle.net_addr.specs.declared.addr.ServerAddr.{ServerAddr}
use Rattle.net_world.specs.declared.log.WorldCall.{WorldCall}
use Rattle.chan_types.specs.declared.journal.Entry.{Entry}
use Rattle.chan_types.specs.declared.journal.What.{What}
use Rattle.chan_types.specs.declared.journal.What.TheVariants.{Accept, Arrive, Cancel, Destroy, Expire, Fault, Servers, Start, Take}
use Rattle.chan_types.specs.declared.orders.Orders.{Orders}
use Rattle.channel_model.specs.Commands.{Asking, accepted_for}
use Rattle.channel_model.specs.Completion.{taken_by}
use Rattle.channel_model.specs.Course.{has_no_turn, is_of_turn, serves_from}
use Rattle.channel_model.specs.Journal.{accepted_by, is_destroy}
use Rattle.channel_model.specs.Known.{GoesOn}
use Rattle.channel_model.specs.Lawful.{IsLawful}
use Rattle.channel_model.specs.Servers.{keyed_from}
use Rattle.channel_model.specs.Setting.{Setting}
use Rattle.channel_table.specs.Calling.{Owned, known_by_owner}
use Rattle.event_runner.proofs.Theorems.{ran_so_far, runs_begin, runs_behind, runs_unbegun, told_as}
use Rattle.event_runner.specs.Running.{Running}
use Rattle.event_runner.specs.State.{IsTurnOwner}
use Rattle.event_runner.specs.UnderWay.{IsSoFar, RanSince, RunsSince, rested}
use Rattle.net_world.specs.Logs.{LogGets}
use Rattle.owner_session.specs.Delivering.{IsIdle}
use Rattle.owner_session.specs.Kinds.{has_servers, is_cancel, is_of_session, is_ruled, is_servers}
use Rattle.owner_session.specs.Places.{PlacesState}
use Rattle.owner_session.specs.Session.{AcceptsAll, AsksFirst, FallsIntoTurns, HasAccepted, HasObeyed, IsKept, IsNew, IsSession, MakesTurns, is_asking}
use Rattle.owner_laws.specs.Sessions.{longest_slice}
use Rattle.owner_session.specs.declared.caller.Caller.{Caller}
use Rattle.run_end.specs.declared.loop_end.LoopEnd.{LoopEnd}
use Rattle.seat_laws.proofs.ListLemmas.{or_right}
use Rattle.owner_session.proofs.KeptLemmas.{kept_more}
use Rattle.owner_session.proofs.ListLemmas.{all_pass, none_any, none_of}
use Rattle.owner_session.proofs.LoopLemmas.{falls_short}
use Rattle.owner_laws.proofs.Well.{well_unbegun}
use Rattle.owner_session.proofs.MoveLemmas.{own_all, ruled_seats, session_ruled}
use Rattle.owner_session.proofs.SilentLemmas.{accepted_parts}
use Rattle.owner_session.proofs.ObeyLemmas.{is_plain}
use Rattle.owner_session.proofs.ThenLemmas.{SetsShort, at_most_none}

-- ---- before the first entry

-- nothing was asked, told or lost
nothing_yet : (setting : Setting) (orders : Orders) → HasObeyed setting [] orders [] 0
nothing_yet setting orders = record {
  lawful = record { allowed = tt };
  ruled = refl;
  total = 0;
  total_is = omega arith;
  obeyed = record { performances = []; requests_are = refl; performed = tt; givers = refl; lost_are = refl };
  called = refl;
  fates = tt;
  silent = λ commands. (refl, refl);
}

-- ---- entries that accept requests on nobody's command

-- what accepts a request takes nothing, and is neither a Cancel nor a Destroy, nor does it set servers, nor is it of a turn
asking_is : (what : What) → is_some (accepted_by what) ≡ true →
    (not (is_some (taken_by what)) ≡ true) × ((is_cancel what || is_destroy what) ≡ false) × (is_servers what ≡ false) × (not (is_of_turn (record { seat = 0; by = 0; what = what })) ≡ true)
asking_is (Accept number spec script) is = (refl, refl, refl, refl)
asking_is Cancel is = absurd (cc is)
asking_is Destroy is = absurd (cc is)
asking_is (Take number) is = absurd (cc is)
asking_is (Start number leg server link id mix moment) is = absurd (cc is)
asking_is (Arrive server link bytes) is = absurd (cc is)
asking_is (Expire number leg moment) is = absurd (cc is)
asking_is (Fault server link moment) is = absurd (cc is)
asking_is (Servers list) is = absurd (cc is)

asking_parts : (e : Entry) → is_asking e ≡ true → ((e.seat == 0) ≡ true) × ((e.by == 0) ≡ true) × (is_some (accepted_by e.what) ≡ true)
asking_parts e h =
    let one = and_parts ((e.seat == 0) && (e.by == 0)) (is_some (accepted_by e.what)) h in
    let two = and_parts (e.seat == 0) (e.by == 0) one.0 in
    (two.0, two.1, one.1)

asking_plain : (e : Entry) → is_asking e ≡ true → is_plain e ≡ true
asking_plain e h =
    let is = asking_parts e h in
    and_from ((e.seat == 0) && (e.by == 0)) (not (is_some (taken_by e.what))) (and_from (e.seat == 0) (e.by == 0) is.0 is.1) (asking_is e.what is.2).0

asking_of_session : (e : Entry) → is_asking e ≡ true → is_of_session e ≡ true
asking_of_session e h =
    let is = asking_parts e h in
    let none = none_of (is_cancel e.what) (is_destroy e.what) (asking_is e.what is.2).1 in
    and_from (is_ruled e) (not ((e.by == 0) && is_destroy e.what))
    (and_from (e.seat == 0) (not ((e.by == 0) && is_cancel e.what)) is.0 (by (e.by == 0) (is_cancel e.what) none.0))
    (by (e.by == 0) (is_destroy e.what) none.1)
  where
    by : (x y : Bool) → y ≡ false → not (x && y) ≡ true
    by true y fails = ap not fails
    by false y fails = refl

-- ---- the whole

-- who made all entries owned the turns
owner_of : (es : List Entry) → list_all is_ruled es ≡ true → list_all (λ e. not (is_of_turn e) || (e.seat == 0)) es ≡ true
owner_of es ruled = all_pass (λ e. e.seat == 0) (λ e. not (is_of_turn e) || (e.seat == 0)) (λ e h. or_right (not (is_of_turn e)) (e.seat == 0) h) es (ruled_seats es ruled)

module _ {B : Type 0} (a : Caller B) (new : IsNew a) (l m : Option (List WorldCall)) where
  pub kept_new : HasObeyed a.alone.setting a.alone.seen a.hand.orders a.calls a.lost
  kept_new =
      subst (λ n. HasObeyed a.alone.setting a.alone.seen a.hand.orders a.calls n) (sym new.unlost)
      (subst (λ cs. HasObeyed a.alone.setting a.alone.seen a.hand.orders cs 0) (sym new.uncalled)
      (subst (λ j. HasObeyed a.alone.setting j a.hand.orders [] 0) (sym new.empty) (nothing_yet a.alone.setting a.hand.orders)))

  no_turn_new : has_no_turn a.alone.seen ≡ true
  no_turn_new = ap has_no_turn new.empty

  -- want of memory came while the servers were told
  pub unbegun : (options : OptionValues) → options ≡ a.alone.setting.options → LogGets (λ told. IsPrefix told (serves_from 0 options.servers)) l m → RanSince longest_slice 0 0 (known_by_owner a.alone) l m
  unbegun options same told = runs_unbegun longest_slice (known_by_owner a.alone) l m no_turn_new (subst (λ (o : OptionValues). LogGets (λ calls. IsPrefix calls (serves_from 0 o.servers)) l m) same told)

  -- the servers were told
  pub begun : (options : OptionValues) (running : Running) → options ≡ a.alone.setting.options →
      running ≡ record running { reading = 0; broken = false; rows = []; mix = options.flags.mix } →
      (running.told ≡ map (λ server. server.key) (keyed_from 0 options.servers)) × (m ≡ option_map (λ told. told ++ serves_from 0 options.servers) l) → RunsSince longest_slice 0 0 rested (known_by_owner a.alone) running l m
  begun options running same fresh opens =
      let begins : OptionValues → Running = λ o. record running { reading = 0; broken = false; rows = []; mix = o.flags.mix } in
      runs_begin longest_slice rested (known_by_owner a.alone) running l m no_turn_new (fresh ∙ ap begins same) (opens.0 ∙ ap (λ (o : OptionValues). map (λ server. server.key) (keyed_from 0 o.servers)) same)
      (opens.1 ∙ ap (λ (o : OptionValues). option_map (λ told. told ++ serves_from 0 o.servers) l) same)

-- want of memory came, before turns were made
module _ {B : Type 0} (askings : List Asking) (later : Option (List ServerAddr)) (turns : ℕ) (a : Caller B) (l m : Option (List WorldCall)) where
  session_cut : (result : Result LoopEnd NoMemory) (b : Caller B) → is_err result ≡ true → b.alone.setting ≡ a.alone.setting → b.hand ≡ a.hand → IsKept b → list_all is_of_session b.alone.seen ≡ true → IsPrefix (accepted_for 0 b.alone.seen) askings → AsksFirst b.alone.seen → has_servers b.alone.seen ≡ false →
      RanSince longest_slice 0 0 (known_by_owner b.alone) l m → IsSession askings later turns result a b l m
  session_cut (Ok end) b err setting hand kept unclosed accepted asks unset ran = absurd (cc err)
  session_cut (Err fault) b err setting hand kept unclosed accepted asks unset ran = record {
    setting = setting;
    hand = hand;
    kept = kept;
    unclosed = unclosed;
    asked = accepted;
    asked_first = asks;
    left = tt;
    sets = at_most_none b.alone.setting later b.alone.seen unset;
    told = told_as (λ calls. IsTurnOwner (known_by_owner b.alone) → FallsIntoTurns later turns (Err fault) b.alone calls) (FallsIntoTurns later turns (Err fault) b.alone)
        (λ calls falls. falls (owner_of b.alone.seen kept.1.ruled)) l m
        (falls_short later turns 0 0 fault b.alone l m (omega arith) (omega arith) ran (well_unbegun b.alone l m ran)
        (told_as (λ calls. IsTurnOwner (known_by_owner b.alone) → IsSoFar longest_slice 0 0 (known_by_owner b.alone) calls) (SetsShort later 0 b.alone) (λ calls far owner made few. inr (few, unset)) l m ran));
  }

  -- while the servers were told
  pub session_unasked : (result : Result LoopEnd NoMemory) → IsNew a → is_err result ≡ true → RanSince longest_slice 0 0 (known_by_owner a.alone) l m → IsSession askings later turns result a a l m
  session_unasked result new err ran =
      session_cut result a err refl refl (new.idle, kept_new a new l m) (ap (list_all is_of_session) new.empty) (askings, ap (λ j. accepted_for 0 j ++ askings) new.empty)
      (record { asking = []; behind = []; parts = new.empty; asks_only = refl; none_behind = refl }) (ap has_servers new.empty) ran

module _ {B : Type 0} (askings : List Asking) (later : Option (List ServerAddr)) (turns : ℕ) (a : Caller B) (new : IsNew a) (l m : Option (List WorldCall)) (c : Owned) (places : PlacesState B) (accepting : Result (Unit {0}) NoMemory)
    (x : AcceptsAll askings accepting a.alone c) (running : Running) (since : RunsSince longest_slice 0 0 rested (known_by_owner a.alone) running l m) where
  abbrev b : Caller B
  b = record a { alone = c; places = places }

  plain : list_all is_plain x.since ≡ true
  plain = all_pass is_asking is_plain asking_plain x.since x.accepts_only

  of_session_b : list_all is_of_session x.since ≡ true
  of_session_b = all_pass is_asking is_of_session asking_of_session x.since x.accepts_only

  c_lawful : IsLawful c.setting c.seen
  c_lawful = x.lawful (kept_new a new l m).lawful

  kept_b : HasObeyed c.setting c.seen a.hand.orders a.calls a.lost
  kept_b =
      subst (λ s. HasObeyed s c.seen a.hand.orders a.calls a.lost) (sym x.setting)
      (subst (λ j. HasObeyed a.alone.setting j a.hand.orders a.calls a.lost) (sym x.seen)
      (kept_more a.alone.setting a.alone.seen a.hand.orders a.calls a.lost (kept_new a new l m) x.since
      (subst (IsLawful a.alone.setting) x.seen (subst (λ s. IsLawful s c.seen) x.setting c_lawful)) plain
      (session_ruled x.since of_session_b)))

  idle_b : IsIdle b
  idle_b = record { no_command = new.idle.no_command; own_voice = x.voice ∙ new.idle.own_voice }

  -- what was kept is so yet
  pub asked_kept : IsKept b
  asked_kept = (idle_b, kept_b)

  c_seen : c.seen ≡ x.since
  c_seen = x.seen ∙ ap (λ j. j ++ x.since) new.empty

  unset_b : has_servers c.seen ≡ false
  unset_b = ap has_servers c_seen ∙ none_any is_asking (λ e. is_servers e.what) (λ e h. (asking_is e.what (asking_parts e h).2).2) x.since x.accepts_only

  seats : list_all (λ e. e.seat == 0) x.since ≡ true
  seats = all_pass is_asking (λ e. e.seat == 0) (λ e h. (asking_parts e h).0) x.since x.accepts_only

  abbrev goes : GoesOn (known_by_owner a.alone) (known_by_owner c)
  goes = record {
    desk = record { setting = x.setting; home = refl; seat = refl; voice = x.voice };
    since = x.since;
    seen = x.seen;
    lawful = x.lawful;
    own = x.seen ∙ ap (λ es. a.alone.seen ++ es) (sym (own_all x.since seats));
    names = x.names;
  }

  behind_b : RunsSince longest_slice 0 0 rested (known_by_owner c) running l m
  behind_b =
      runs_behind longest_slice 0 0 l m rested (known_by_owner a.alone) (known_by_owner c) running goes
      (ap has_no_turn (own_all x.since seats) ∙ all_pass is_asking (λ e. not (is_of_turn e)) (λ e h. (asking_is e.what (asking_parts e h).2).3) x.since x.accepts_only) (inl refl) since

  -- want of memory came while requests were accepted
  pub session_refused : (result : Result LoopEnd NoMemory) → is_err result ≡ true → is_err accepting ≡ true → IsSession askings later turns result a b l m
  session_refused result err failed =
      session_cut askings later turns a l m result b err x.setting refl (idle_b, kept_b) (ap (list_all is_of_session) c_seen ∙ of_session_b) (first accepting failed x.accepts_are)
      (record { asking = x.since; behind = []; parts = c_seen ∙ sym (append-nil x.since); asks_only = x.accepts_only; none_behind = refl }) unset_b
      (ran_so_far longest_slice 0 0 l m rested (known_by_owner c) running behind_b)
    where
      first : (accepting : Result (Unit {0}) NoMemory) → is_err accepting ≡ true → HasAccepted askings accepting (accepted_for 0 x.since) → IsPrefix (accepted_for 0 c.seen) askings
      first (Ok done) failed has = absurd (cc failed)
      first (Err fault) failed has = subst (λ j. IsPrefix (accepted_for 0 j) askings) (sym c_seen) has

  -- turns were made
  pub session_asked : (result : Result LoopEnd NoMemory) (d : Caller B) (n : Option (List WorldCall)) (done : Unit {0}) → accepting ≡ Ok done → MakesTurns later turns result b d running m n → IsSession askings later turns result a d l n
  session_asked result d n done all made =
      let kept : IsKept d = made.kept (idle_b, kept_b) in
      let d_seen : d.alone.seen ≡ x.since ++ made.since = made.seen ∙ ap (λ j. j ++ made.since) c_seen in
      record {
        setting = made.setting ∙ x.setting;
        hand = made.hand;
        kept = kept;
        unclosed = made.unclosed (ap (list_all is_of_session) c_seen ∙ of_session_b);
        asked = asked result
            (ap (accepted_for 0) d_seen ∙ accepted_parts 0 x.since made.since ∙ ap (λ xs. accepted_for 0 x.since ++ xs) made.asked_none ∙ append-nil (accepted_for 0 x.since)
            ∙ subst (λ r. HasAccepted askings r (accepted_for 0 x.since)) all x.accepts_are);
        asked_first = record { asking = x.since; behind = made.since; parts = d_seen; asks_only = x.accepts_only; none_behind = made.asked_none };
        left = made.left;
        sets = made.sets unset_b;
        told = told_as (λ calls. IsTurnOwner (known_by_owner d.alone) → FallsIntoTurns later turns result d.alone calls) (FallsIntoTurns later turns result d.alone)
            (λ calls falls. falls (owner_of d.alone.seen kept.1.ruled)) l n (made.told l behind_b unset_b);
      }
    where
      asked : (result : Result LoopEnd NoMemory) → accepted_for 0 d.alone.seen ≡ askings → HasAccepted askings result (accepted_for 0 d.alone.seen)
      asked (Ok end) is = is
      asked (Err fault) is = ([], append-nil (accepted_for 0 d.alone.seen) ∙ is)
