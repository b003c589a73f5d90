-- From where a run stands it follows what it called of the network, in a journal that others have made too.
use Rattle.std.proofs.Common.{◌≡◌, ◌≢◌, ◌∙◌, ℕ, ◌+◌, ◌≤◌, true, false, List, [], ◌++◌, Option, Some, None, refl, sym, subst, inl, inr, arith}
use Rattle.std.proofs.lemmas.List.{append-nil}
use Rattle.std.specs.Prelude.{◌⊎◌}
use Rattle.chan_types.specs.declared.journal.Entry.{Entry}
use Rattle.channel_model.proofs.Theorems.{course_agrees, so_far_nearly, so_far_reads}
use Rattle.channel_model.specs.Endings.{IsStalledBehind}
use Rattle.channel_model.specs.Setting.{Setting}
use Rattle.channel_progress.specs.Waking.{NoWaitFailed}
use Rattle.event_runner.proofs.Theorems.{course_then, so_far_then, stalled_then, told_as, told_both, way_stalls}
use Rattle.event_runner.specs.State.{IsTurnOwner}
use Rattle.event_runner.specs.UnderWay.{IsSoFar, IsUnderWay, Reach, RunsSince}
use Rattle.net_addr.specs.declared.addr.ServerAddr.{ServerAddr}
use Rattle.net_world.specs.Logs.{LogGets}
use Rattle.net_world.specs.declared.log.WorldCall.{WorldCall}
use Rattle.owner_laws.specs.Sessions.{EndsWithFailedWait}
use Rattle.turner_laws.specs.Traffic.{GoesOnBehind, IsTrafficBeside}
use Rattle.worker_session.proofs.Theorems.{sets_more, so_far_more}
use Rattle.worker_session.specs.Setting.{SetsBehindFirst, SetsSoFar}
use Rattle.worker_session.specs.Standing.{AreDone, AreLeft, HasCome, HasSet, StandsIn, Told}
use Rattle.worker_session.specs.Turning.{OwesNone, Turning, longest_pause, pending_of}
use Rattle.worker_session.specs.declared.coming.Coming.{Coming}
use Rattle.worker_session.specs.declared.coming.Coming.TheVariants.{OutOfMemory, Stalled, UnderWay, WaitFault}

-- ---- servers

-- fewer turns may have been made by a run that wanted memory
sets_fewer : (setting : Setting) (seat : ℕ) (later : Option (List ServerAddr)) (made fewer : ℕ) (journal : List Entry) (calls : List WorldCall) → fewer ≤ made → SetsSoFar setting seat later made journal calls → SetsSoFar setting seat later fewer journal calls
sets_fewer setting seat None made fewer journal calls le (inl sets) = inl sets
sets_fewer setting seat (Some addresses) made fewer journal calls le (inl (inl none)) = inl (inl (omega (arith, le, none.0), none.1))
sets_fewer setting seat (Some addresses) made fewer journal calls le (inl (inr set)) = inl (inr set)
sets_fewer setting seat later made fewer journal calls le (inr unset) = inr (omega (arith, le, unset.0), unset.1)

-- servers that are still to be set weren't owed, so no turn was made
unset_yet : (addresses : List ServerAddr) (later : Option (List ServerAddr)) (made : ℕ) (t : Turning) (calls : List WorldCall) → AreLeft addresses later made t → t.behind_turn ≡ false → SetsBehindFirst t.known.setting t.known.seat later made t.known.seen calls
unset_yet addresses later made t calls left rested =
    subst (λ l. SetsBehindFirst t.known.setting t.known.seat l made t.known.seen calls) (sym left.same) (inl (none_made made left.few (λ one. absurd (let clash : true ≡ false = sym (left.behind one) ∙ rested in cc)), left.none))
  where
    none_made : (n : ℕ) → n ≤ 1 → n ≢ 1 → n ≡ 0
    none_made n few other = omega (arith, few, other)

module _ (later : Option (List ServerAddr)) (began : Option (List WorldCall)) (t : Turning) (made : ℕ) where
  abbrev SetSo : List WorldCall → Type 0
  SetSo calls = IsTurnOwner t.known → SetsBehindFirst t.known.setting t.known.seat later made t.known.seen calls

  left_or_done : (left : Option (List ServerAddr)) → t.later ≡ left → OwesNone t → (W : List WorldCall → Type 0) → LogGets W began t.log → (left ≡ None → AreDone later made began t) → ((addresses : List ServerAddr) → left ≡ Some addresses → AreLeft addresses later made t) → LogGets SetSo began t.log
  left_or_done None is owes W log done left = (done refl).1
  left_or_done (Some addresses) is (inl none) W log done left = absurd (let clash : None ≡ Some addresses = sym none ∙ is in cc)
  left_or_done (Some addresses) is (inr rested) W log done left = told_as W SetSo (λ calls w owner. unset_yet addresses later made t calls (left addresses refl) rested) began t.log log

  -- by how it came, but for want of memory
  pub sets_told : (coming : Coming) → coming ≢ OutOfMemory → (coming ≡ UnderWay → OwesNone t) → HasSet coming t.later later made began t → (W : List WorldCall → Type 0) → LogGets W began t.log → LogGets SetSo began t.log
  sets_told coming served owes sets W log = by coming served owes t.later refl sets
    where
      by : (c : Coming) → c ≢ OutOfMemory → (c ≡ UnderWay → OwesNone t) → (left : Option (List ServerAddr)) → t.later ≡ left → HasSet c left later made began t → LogGets SetSo began t.log
      by UnderWay served owes None is sets = sets.1
      by UnderWay served owes (Some addresses) is sets = left_or_done (Some addresses) is (owes refl) W log (λ none. absurd (cc none)) (λ other same. subst (λ a. AreLeft a later made t) (cc same) sets)
      by WaitFault served owes None is sets = sets.1
      by WaitFault served owes (Some addresses) is sets = absurd sets
      by Stalled served owes None is sets = sets.1
      by Stalled served owes (Some addresses) is sets = left_or_done (Some addresses) is (inr sets.1) W log (λ none. absurd (cc none)) (λ other same. subst (λ a. AreLeft a later made t) (cc same) sets.0)
      by OutOfMemory served owes left is sets = absurd (served refl)

-- ---- the traffic

module _ (turns : ℕ) (later : Option (List ServerAddr)) (t : Turning) (more : List Entry) (behind : GoesOnBehind t more) where
  abbrev setting : Setting
  setting = t.known.setting

  abbrev seat : ℕ
  seat = t.known.seat

  abbrev whole : List Entry
  whole = t.known.seen ++ more

  traffic_whole : (coming : Coming) (made : ℕ) (reach : Reach) (calls : List WorldCall) → made ≤ turns → IsUnderWay longest_pause made 0 reach t.known t.running calls → SetsBehindFirst setting seat later made t.known.seen calls →
      NoWaitFailed calls ⊎ EndsWithFailedWait calls → (coming ≡ WaitFault → EndsWithFailedWait calls) → (coming ≢ WaitFault → NoWaitFailed calls) → (coming ≡ Stalled → (made ≡ turns) × (pending_of t.known ≢ [])) →
      IsTrafficBeside setting seat later turns coming whole calls
  traffic_whole coming made reach calls few way sets waits last_wait none_failed stalls =
      let course = course_then setting seat longest_pause t.known.seen more calls made 0 behind.no_turn way.course in
      let set : SetsBehindFirst setting seat later made whole calls =
      subst (SetsBehindFirst setting seat later made whole) (append-nil calls) (sets_more setting seat t.known.seen more calls [] behind.sets_none later made made (λ is. is) sets) in
      record {
        made = made;
        few = few;
        readings = so_far_reads setting seat longest_pause whole calls made 0 (inl course) ∙ omega arith;
        course = λ served. course;
        course_so_far = inl course;
        sets = λ served. set;
        sets_so_far = inl set;
        agrees = λ served. course_agrees setting seat longest_pause whole calls made 0 course;
        nearly_agrees = so_far_nearly setting seat longest_pause whole calls made 0 (inl course);
        waits = waits;
        last_wait = last_wait;
        none_failed = none_failed;
        stalled = λ is.
            let some = stalls is in
            stalled_then setting seat longest_pause t.known.seen more calls turns behind.no_turn
            (subst (λ n. IsStalledBehind setting seat longest_pause n t.known.seen calls) some.0 (way_stalls longest_pause made reach t.known t.running calls some.1 way));
      }

  traffic_cut : (made : ℕ) (calls : List WorldCall) → made ≤ turns → IsSoFar longest_pause made 0 t.known calls → SetsSoFar setting seat later made t.known.seen calls → NoWaitFailed calls → IsTrafficBeside setting seat later turns OutOfMemory whole calls
  traffic_cut made calls few far sets waits =
      let so_far = so_far_then setting seat longest_pause t.known.seen more calls far.0 0 behind.no_turn far.2 in
      record {
        made = far.0;
        few = omega (arith, few, far.1);
        readings = so_far_reads setting seat longest_pause whole calls far.0 0 so_far ∙ omega arith;
        course = λ served. absurd (served refl);
        course_so_far = so_far;
        sets = λ served. absurd (served refl);
        sets_so_far = so_far_more setting seat later far.0 t.known.seen more calls behind.sets_none (sets_fewer setting seat later made far.0 t.known.seen calls far.1 sets);
        agrees = λ served. absurd (served refl);
        nearly_agrees = so_far_nearly setting seat longest_pause whole calls far.0 0 so_far;
        waits = inl waits;
        last_wait = λ is. absurd (cc is);
        none_failed = λ other. waits;
        stalled = λ is. absurd (cc is);
      }

  module _ (began : Option (List WorldCall)) (made : ℕ) (counts : made + t.left ≡ turns) where
    abbrev few : made ≤ turns
    few = omega (arith, counts)

    abbrev WayBy : Reach → List WorldCall → Type 0
    WayBy reach calls = IsTurnOwner t.known → IsUnderWay longest_pause made 0 reach t.known t.running calls

    -- a run that came so far, with what its log tells
    told_so : (coming : Coming) (reach : Reach) → RunsSince longest_pause made 0 reach t.known t.running began t.log → (F : List WorldCall → Type 0) → Told F began t → coming ≢ OutOfMemory → (coming ≡ UnderWay → OwesNone t) → HasSet coming t.later later made began t →
        ((calls : List WorldCall) → F calls → (NoWaitFailed calls ⊎ EndsWithFailedWait calls) × (coming ≡ WaitFault → EndsWithFailedWait calls) × (coming ≢ WaitFault → NoWaitFailed calls)) →
        (coming ≡ Stalled → (made ≡ turns) × (pending_of t.known ≢ [])) → LogGets (IsTrafficBeside setting seat later turns coming whole) began t.log
    told_so coming reach runs F facts served owes sets shows stalls =
        let all = told_both (WayBy reach) (λ calls. (IsTurnOwner t.known → F calls) × SetSo later began t made calls) began t.log runs
        (told_both (λ calls. IsTurnOwner t.known → F calls) (SetSo later began t made) began t.log facts (sets_told later began t made coming served owes sets (WayBy reach) runs)) in
        told_as (λ calls. WayBy reach calls × ((IsTurnOwner t.known → F calls) × SetSo later began t made calls)) (IsTrafficBeside setting seat later turns coming whole)
        (λ calls a.
        let shown = shows calls (a.1.0 behind.owner) in
        traffic_whole coming made reach calls few (a.0 behind.owner) (a.1.1 behind.owner) shown.0 shown.1 shown.2 stalls) began t.log all

    by_coming : (coming : Coming) → (coming ≡ UnderWay → OwesNone t) → HasCome coming made began t → HasSet coming t.later later made began t → LogGets (IsTrafficBeside setting seat later turns coming whole) began t.log
    by_coming UnderWay owes come sets =
        told_so UnderWay _ come.1 NoWaitFailed come.2 (λ is. cc is) owes sets (λ calls none. (inl none, λ is. absurd (cc is), λ other. none)) (λ is. absurd (cc is))
    by_coming WaitFault owes come sets =
        told_so WaitFault _ come.0 EndsWithFailedWait come.1 (λ is. cc is) owes sets (λ calls last. (inr last, λ is. last, λ other. absurd (other refl))) (λ is. absurd (cc is))
    by_coming Stalled owes come sets =
        told_so Stalled _ come.2 NoWaitFailed come.3 (λ is. cc is) owes sets (λ calls none. (inl none, λ is. absurd (cc is), λ other. none)) (λ is. (omega (arith, counts, come.0), come.1))
    by_coming OutOfMemory owes come sets =
        told_as (λ calls. (IsTurnOwner t.known → IsSoFar longest_pause made 0 t.known calls) × ((IsTurnOwner t.known → NoWaitFailed calls) × (IsTurnOwner t.known → SetsSoFar setting seat later made t.known.seen calls)))
        (IsTrafficBeside setting seat later turns OutOfMemory whole)
        (λ calls a. traffic_cut made calls few (a.0 behind.owner) (a.1.1 behind.owner) (a.1.0 behind.owner)) began t.log
        (told_both (λ calls. IsTurnOwner t.known → IsSoFar longest_pause made 0 t.known calls) (λ calls. (IsTurnOwner t.known → NoWaitFailed calls) × (IsTurnOwner t.known → SetsSoFar setting seat later made t.known.seen calls)) began t.log come.0
        (told_both (λ calls. IsTurnOwner t.known → NoWaitFailed calls) (λ calls. IsTurnOwner t.known → SetsSoFar setting seat later made t.known.seen calls) began t.log come.1 sets))

pub traffic_kept : (turns : ℕ) (later : Option (List ServerAddr)) (began : Option (List WorldCall)) (t : Turning) (more : List Entry) → StandsIn turns later began t → (t.coming ≡ UnderWay → OwesNone t) → GoesOnBehind t more →
    LogGets (IsTrafficBeside t.known.setting t.known.seat later turns t.coming (t.known.seen ++ more)) began t.log
traffic_kept turns later began t more stands owes behind = by_coming turns later t more behind began stands.made stands.counts t.coming owes stands.come stands.sets
