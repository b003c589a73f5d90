-- One step of a session's loop behind others, and what a session comes to from an earlier moment on.
use Rattle.std.proofs.Common.{◌≡◌, ◌≢◌, ℕ, ◌+◌, ◌<◌, ◌≤◌, Bool, true, false, List, [], ◌∷◌, ◌++◌, ◌∙◌, ap, append_assoc, refl, sym, subst, inl, inr, ⊎_elim, arith, ltb-false, ltb-true}
use Rattle.std.specs.Prelude.{Err, None, Ok, Option, Result, Some, is_err, nat_lt, ◌^◌, ⊤}
use Rattle.item_list.specs.declared.no_memory.NoMemory.{NoMemory}
use Rattle.chan_types.specs.declared.script.Script.{Script}
use Rattle.chan_types.specs.declared.ticket.Ticket.{Ticket}
use Rattle.net_world.specs.Cause.{Rose}
use Rattle.net_world.specs.declared.answers.Waited.TheVariants.{Failed}
use Rattle.net_world.specs.declared.log.WorldCall.{WorldCall}
use Rattle.net_world.specs.declared.log.WorldCall.TheVariants.{Wait}
use Rattle.channel_model.proofs.Theorems.{call_goes_on, goes_on_refl, goes_on_trans}
use Rattle.channel_model.specs.Known.{Calls, GoesOn, Known}
use Rattle.channel_model.specs.Meanings.{Takes}
use Rattle.channel_model.specs.Names.{GivesName}
use Rattle.event_runner.proofs.Theorems.{ran_at_most, told_trans}
use Rattle.event_runner.specs.Running.{HasLooked}
use Rattle.event_runner.specs.declared.answers.Paused.{Paused}
use Rattle.event_runner.specs.declared.answers.Paused.TheVariants.{Skipped, WaitFault, Woken}
use Rattle.channel_session.specs.Advancing.{Advances, ComesToRest, IsCutOff, LogGrows}
use Rattle.channel_session.specs.Left.{IsOver, pending_of, ready_of}
use Rattle.channel_session.specs.Progressing.{ComesBy, ComesTo, EndsWithWait, HasTaken, IsComeBy, IsDisturbed, IsLeftOver}
use Rattle.channel_session.specs.Sitting.{Moment, Sitting, longest_pause, moment_of}
use Rattle.channel_session.specs.Stepping.{Rests, Steps, nothing_by}
use Rattle.channel_session.specs.declared.progress.Progress.{Progress}
use Rattle.channel_session.specs.declared.progress.Progress.TheVariants.{Completed, Disturbed, Over, Stalled, WaitFault as WaitFaulted}
use Rattle.channel_session.specs.declared.progress.Stepped.{Stepped}
use Rattle.channel_session.specs.declared.progress.Stepped.TheVariants.{Disturbed as WasDisturbed, Over as WasOver, WaitFault as NotWaited}
use Rattle.channel_session.proofs.AdvanceLemmas.{advances_then, rests_then}
use Rattle.channel_session.proofs.LeftLemmas.{none_ready}
use Rattle.channel_session.proofs.PartLemmas.{advances_looked, looked_then, rests_looked, took, took_none}

-- more turns are allowed
pub cut_more : (m n : ℕ) (a b : Moment) → m ≤ n → IsCutOff m a b → IsCutOff n a b
cut_more m n a b more x = record {
  goes_on = x.goes_on;
  own = x.own;
  takes = x.takes;
  grows = x.grows;
  ran = λ began turns asides here. ran_at_most longest_pause (turns + m) (turns + n) asides b.known began b.log (omega (arith, more)) (x.ran began turns asides here);
}

-- want of memory is handed on
pub steps_err : (f g : ℕ) (result : Result Stepped NoMemory) → is_err result ≡ true → (a b : Moment) → IsCutOff 1 a b → Steps f g result a b
steps_err f g (Ok stepped) err a b cut = absurd (cc err)
steps_err f g (Err fault) err a b cut = cut

pub comes_err : {T : Type 0} (plan : T → Script) (name : T → ℕ) (most left f g : ℕ) (result : Result (Progress T) NoMemory) → is_err result ≡ true → (a b : Moment) → IsCutOff most a b → ComesBy plan name most left f g result a b
comes_err plan name most left f g (Ok progress) err a b cut = absurd (cc err)
comes_err plan name most left f g (Err fault) err a b cut = cut

module _ (f g : ℕ) (a : Moment) (old new : Known) (sitting : Sitting) (log : Option (List WorldCall)) (looked : HasLooked old new) where
  -- none is pending behind a wait, where one was
  disturbed_woken : Rests (Ok Woken) a (moment_of old sitting log) → pending_of new ≡ [] → Steps f g (Ok WasDisturbed) a (moment_of new sitting log)
  disturbed_woken rests none_pending = (
    inr (rests_looked 0 a old new sitting sitting log refl looked rests.0),
    record {
      before = rests.1.middle;
      after = new;
      from = rests.1.looked.goes_on;
      looked = looked_then rests.1.middle old new rests.1.looked_again looked;
      then_ = goes_on_refl new;
      changed = inr (rests.1.some_pending, none_pending);
    },
  )

  -- a request is ready behind the pause, where none was
  pub disturbed_ready : (paused : Paused) → paused ≢ WaitFault → Rests (Ok paused) a (moment_of old sitting log) → ready_of a.known ≡ [] → (pending_of new ≡ []) × (ready_of new ≢ []) →
      Steps f g (Ok WasDisturbed) a (moment_of new sitting log)
  disturbed_ready Skipped not_failed rests none left = (
    inl (advances_then 0 0 [] a (moment_of old sitting log) (moment_of new sitting log) rests.1 (advances_looked old new sitting log looked)),
    record { before = a.known; after = new; from = goes_on_refl a.known; looked = looked_then a.known old new rests.2 looked; then_ = goes_on_refl new; changed = inl (none, left.1) },
  )
  disturbed_ready Woken not_failed rests none left = disturbed_woken rests left.0
  disturbed_ready WaitFault not_failed rests none left = absurd (not_failed refl)

  -- nothing is left where it had no reason to wait
  over_here : Rests (Ok Skipped) a (moment_of old sitting log) → IsOver new → Steps f g (Ok WasOver) a (moment_of new sitting log)
  over_here rests over = (advances_then 0 0 [] a (moment_of old sitting log) (moment_of new sitting log) rests.1 (advances_looked old new sitting log looked), over)

  -- nothing is left, by how the pause ended
  pub nothing_here : (paused : Paused) → paused ≢ WaitFault → (stepped : Stepped) → stepped ≡ nothing_by paused → Rests (Ok paused) a (moment_of old sitting log) → IsOver new →
      Steps f g (Ok stepped) a (moment_of new sitting log)
  nothing_here paused not_failed stepped is rests over = subst (λ s. Steps f g (Ok s) a (moment_of new sitting log)) (sym is) (by_pause paused not_failed rests)
    where
      by_pause : (paused : Paused) → paused ≢ WaitFault → Rests (Ok paused) a (moment_of old sitting log) → Steps f g (Ok (nothing_by paused)) a (moment_of new sitting log)
      by_pause Skipped not_failed rests = over_here rests over
      by_pause Woken not_failed rests = disturbed_woken rests over.0
      by_pause WaitFault not_failed rests = absurd (not_failed refl)

  -- a rest, and a look behind it
  pub rests_on : (paused : Paused) → Rests (Ok paused) a (moment_of old sitting log) → ComesToRest 0 a (moment_of new sitting log)
  rests_on Skipped rests = rests_looked 0 a old new sitting sitting log refl looked rests.0
  rests_on Woken rests = rests_looked 0 a old new sitting sitting log refl looked rests.0
  rests_on WaitFault rests = rests_looked 0 a old new sitting sitting log refl looked rests.0

-- a count that rose later rose since
pub rose_since : (a b c : ℕ) → a ≤ b → b ≤ c → Rose b c → Rose a c
rose_since a b c first then_ rose = λ room. rises (nat_lt (b + 1) (2 ^ 64)) refl room
  where
    rises : (fits : Bool) → nat_lt (b + 1) (2 ^ 64) ≡ fits → a + 1 < 2 ^ 64 → a < c
    rises true fits room = let more : b < c = rose (ltb-true (b + 1) (2 ^ 64) fits) in omega (arith, more, first)
    rises false full room = omega (arith, ltb-false (b + 1) (2 ^ 64) full, then_, room)

-- what it settles where all turns were made: the ticket was taken here, or nothing is left, or something is
module _ {T : Type 0} (plan : T → Script) where
  pub taken_settled : (name : T → ℕ) (ticket : Ticket T) (old new : Known) (sitting : Sitting) (log : Option (List WorldCall)) → Calls (Takes plan (Some ticket)) 0 old new → GivesName name (Some ticket) old.names →
      Advances 0 (ticket.call.number ∷ []) (moment_of old sitting log) (moment_of new sitting log) × HasTaken plan name ticket old new
  taken_settled name ticket old new sitting log call named =
      (took plan ticket old new sitting log call, record { before = old; goes_on = goes_on_refl old; takes = call; named = named })

  looked_settled : (a b c : Known) (sitting : Sitting) (log : Option (List WorldCall)) → Calls (Takes {T = T} plan None) 0 a b → HasLooked b c → Advances 0 [] (moment_of a sitting log) (moment_of c sitting log)
  looked_settled a b c sitting log none looked =
      advances_then 0 0 [] (moment_of a sitting log) (moment_of b sitting log) (moment_of c sitting log) (took_none plan a b sitting log none) (advances_looked b c sitting log looked)

  pub stalled_settled : (a b c : Known) (sitting : Sitting) (log : Option (List WorldCall)) → Calls (Takes {T = T} plan None) 0 a b → HasLooked b c → ¬ IsOver c →
      Advances 0 [] (moment_of a sitting log) (moment_of c sitting log) × (◌≡◌ {A = ℕ} 0 0) × IsLeftOver a c
  stalled_settled a b c sitting log none looked left = (
    looked_settled a b c sitting log none looked,
    refl,
    record { before = b; from = call_goes_on (Takes {T = T} plan None) 0 a b none; none_ready = none_ready plan a b none; looked = looked; some = left },
  )

  pub over_settled : (a b c : Known) (sitting : Sitting) (log : Option (List WorldCall)) → Calls (Takes {T = T} plan None) 0 a b → HasLooked b c → IsOver c →
      Advances 0 [] (moment_of a sitting log) (moment_of c sitting log) × IsOver c
  over_settled a b c sitting log none looked over = (looked_settled a b c sitting log none looked, over)

-- others changed the channel later
disturbed_since : (a b c : Known) → GoesOn a b → IsDisturbed b c → IsDisturbed a c
disturbed_since a b c goes is = record { before = is.before; after = is.after; from = goes_on_trans a b is.before goes is.from; looked = is.looked; then_ = is.then_; changed = is.changed }

-- so many turns more, where so many were made
pub same_turns : (m n : ℕ) (taken : List ℕ) (a b : Moment) → m ≡ n → Advances m taken a b → Advances n taken a b
same_turns m n taken a b is = subst (λ k. Advances k taken a b) is

-- the last of these calls is a wait that failed
abbrev IsLastWait : List WorldCall → Type 0
IsLastWait calls = (earlier : List WorldCall) × (until : ℕ) × (calls ≡ earlier ++ Wait until Failed ∷ [])

-- it is the last call, whatever was called before
ends_then : (l m n : Option (List WorldCall)) → LogGrows l m → EndsWithWait m n → EndsWithWait l n
ends_then l m n =
    told_trans (λ cs. ⊤) IsLastWait IsLastWait
    (λ cs ds any last. (cs ++ last.0, last.1, ap (λ ws. cs ++ ws) last.2 ∙ sym (append_assoc cs last.0 (Wait last.1 Failed ∷ []))))
    l m n

module _ {T : Type 0} (plan : T → Script) (name : T → ℕ) (f0 f g : ℕ) (first : f0 ≤ f) (later : f ≤ g) (m : ℕ) (a b c : Moment) (x : Advances m [] a b) where
  -- a step behind so many turns
  pub over_then : (most left : ℕ) → m + 0 + left ≡ most → Steps f g (Ok WasOver) b c → ComesBy plan name most left f0 g (Ok Over) a c
  over_then most left fits s = (m + 0, fits, (advances_then m 0 [] a b c x s.0, s.1))

  pub fault_then : (most left : ℕ) → m + 0 + left ≡ most → Steps f g (Ok NotWaited) b c → ComesBy plan name most left f0 g (Ok WaitFaulted) a c
  fault_then most left fits s = (m + 0, fits, (rests_then m 0 a b c x s.0, ends_then a.log b.log c.log x.grows s.1, rose_since f0 f g first later s.2))

  pub disturbed_then : (most left : ℕ) → m + 0 + left ≡ most → Steps f g (Ok WasDisturbed) b c → ComesBy plan name most left f0 g (Ok Disturbed) a c
  disturbed_then most left fits s = (
    m + 0,
    fits,
    (
      ⊎_elim (λ y. inl (advances_then m 0 [] a b c x y)) (λ y. inr (rests_then m 0 a b c x y)) s.0,
      disturbed_since a.known b.known c.known x.goes_on s.1,
    ),
  )

  -- a request was taken behind so many turns
  pub completed_then : (most left : ℕ) (ticket : Ticket T) → m + 0 + left ≡ most → Advances 0 (ticket.call.number ∷ []) b c → Calls (Takes plan (Some ticket)) 0 b.known c.known →
      GivesName name (Some ticket) b.known.names → ComesBy plan name most left f0 g (Ok (Completed ticket)) a c
  completed_then most left ticket fits y call named =
      (m + 0, fits, (advances_then m 0 (ticket.call.number ∷ []) a b c x y, record { before = b.known; goes_on = x.goes_on; takes = call; named = named }))

  -- all turns were made
  pub come_then : (most left : ℕ) (progress : Progress T) → m + 0 + left ≡ most → left ≡ 0 → IsComeBy plan name 0 0 f g progress b c → ComesBy plan name most left f0 g (Ok progress) a c
  come_then most left (Completed ticket) fits none is = (
    m + 0,
    fits,
    (
      advances_then m 0 (ticket.call.number ∷ []) a b c x is.0,
      record { before = is.1.before; goes_on = goes_on_trans a.known b.known is.1.before x.goes_on is.1.goes_on; takes = is.1.takes; named = is.1.named },
    ),
  )
  come_then most left Over fits none is = (m + 0, fits, (advances_then m 0 [] a b c x is.0, is.1))
  come_then most left WaitFaulted fits none is = (m + 0, fits, (rests_then m 0 a b c x is.0, ends_then a.log b.log c.log x.grows is.1, rose_since f0 f g first later is.2))
  come_then most left Stalled fits none is = (
    m + 0,
    fits,
    (
      advances_then m 0 [] a b c x is.0,
      none,
      record {
        before = is.2.before;
        from = goes_on_trans a.known b.known is.2.before x.goes_on is.2.from;
        none_ready = is.2.none_ready;
        looked = is.2.looked;
        some = is.2.some;
      },
    ),
  )
  come_then most left Disturbed fits none is = (
    m + 0,
    fits,
    (
      ⊎_elim (λ y. inl (advances_then m 0 [] a b c x y)) (λ y. inr (rests_then m 0 a b c x y)) is.0,
      disturbed_since a.known b.known c.known x.goes_on is.1,
    ),
  )

-- whatever it comes to with some turns left, it comes to with that many turns at most
pub comes_at_most : {T : Type 0} (plan : T → Script) (name : T → ℕ) (most left f g : ℕ) (result : Result (Progress T) NoMemory) (a b : Moment) →
    ComesBy plan name most left f g result a b → ComesTo plan name most f g result a b
comes_at_most plan name most left f g (Ok (Completed ticket)) a b is = ((is.0, omega (arith, is.1), is.2.0), is.2.1)
comes_at_most plan name most left f g (Ok Over) a b is = ((is.0, omega (arith, is.1), is.2.0), is.2.1)
comes_at_most plan name most left f g (Ok WaitFaulted) a b is = ((is.0, omega (arith, is.1), is.2.0), is.2.1, is.2.2)
comes_at_most plan name most left f g (Ok Stalled) a b is = (same_turns is.0 most [] a b (omega (arith, is.1, is.2.1)) is.2.0, is.2.2)
comes_at_most plan name most left f g (Ok Disturbed) a b is =
    (⊎_elim (λ y. inl (is.0, omega (arith, is.1), y)) (λ y. inr (is.0, omega (arith, is.1), y)) is.2.0, is.2.1)
comes_at_most plan name most left f g (Err fault) a b cut = cut
