-- What stands between two turns: requests are accepted there only where one was ready before, and then none is ready behind.
use Rattle.std.proofs.Common.{◌≡◌, ◌≢◌, ◌∙◌, ℕ, ◌==◌, ◌&&◌, ◌||◌, Bool, true, false, List, [], ◌∷◌, ◌++◌, Option, None, Some, length, not, cond, refl, ap, sym, subst, inl, inr, arith, ne_eqb}
use Rattle.std.proofs.lemmas.List.{append-nil, append_cancel_left}
use Rattle.std.proofs.lemmas.List.Sums.{sum_by-cons}
use Rattle.std.specs.Prelude.{is_some, ◌⊎◌}
use Rattle.chan_types.specs.declared.journal.Entry.{Entry}
use Rattle.channel_model.proofs.Theorems.{followed_by-append}
use Rattle.channel_model.specs.Completion.{ready}
use Rattle.channel_model.specs.Course.{Round, has_no_turn}
use Rattle.channel_model.specs.Journal.{Past, accepted_by, followed_by, past_of}
use Rattle.channel_model.specs.Lawful.{first}
use Rattle.channel_model.specs.Meanings.{Takes}
use Rattle.channel_model.specs.Setting.{Setting}
use Rattle.channel_progress.specs.Prompted.{accepts_some, is_unprompted, unprompted_in}
use Rattle.completion_ticket.specs.States.{CalledState}
use Rattle.event_runner.proofs.Theorems.{AreBetween}
use Rattle.owner_session.specs.Delivering.{DeliversAll, DeliversOne, DeliversSome}
use Rattle.ticket_delivery.specs.Performing.{plan_of}
use Rattle.owner_session.specs.declared.caller.Caller.{Caller}
use Rattle.owner_session.proofs.ListLemmas.{any_of}
use Rattle.owner_session.proofs.MoveLemmas.{Moves, same_none}
use Rattle.owner_session.proofs.ObeyLemmas.{past_on}
use Rattle.owner_laws.proofs.Owner.{owner_called}

module _ (setting : Setting) where
  -- behind this past these entries accept no request, and what is ready stays so; or some request was ready, and then none is
  abbrev pub IsPrompted : Past → List Entry → Type 0
  IsPrompted past entries =
      ((accepts_some entries ≡ false) × (ready setting (followed_by past entries) ≡ ready setting past))
      ⊎ ((ready setting past ≢ []) × (ready setting (followed_by past entries) ≡ []))

  -- no entries
  pub prompted_none : (past : Past) → IsPrompted past []
  prompted_none past = inl (refl, refl)

  -- some, and others behind them
  pub prompted_trans : (past : Past) (es fs : List Entry) → IsPrompted past es → IsPrompted (followed_by past es) fs → IsPrompted past (es ++ fs)
  prompted_trans past es fs (inl p) (inl q) = inl (any_of (λ entry. is_some (accepted_by entry.what)) es fs p.0 q.0, ap (ready setting) (followed_by-append past es fs) ∙ q.1 ∙ p.1)
  prompted_trans past es fs (inl p) (inr q) = inr (λ none. q.0 (p.1 ∙ none), ap (ready setting) (followed_by-append past es fs) ∙ q.1)
  prompted_trans past es fs (inr p) (inl q) = inr (p.0, ap (ready setting) (followed_by-append past es fs) ∙ q.1 ∙ p.1)
  prompted_trans past es fs (inr p) (inr q) = inr (p.0, ap (ready setting) (followed_by-append past es fs) ∙ q.1)

  -- then no request is accepted unprompted there
  prompted_one : (round : Round) → IsPrompted round.new.past round.between → is_unprompted setting round ≡ false
  prompted_one round (inl p) = ap (λ b. b && ((length (ready setting round.new.past) == 0) || not (length (ready setting (followed_by round.new.past round.between)) == 0))) p.0
  prompted_one round (inr p) = by (accepts_some round.between) (ready setting round.new.past) (ready setting (followed_by round.new.past round.between)) p.0 p.1
    where
      by : (b : Bool) (xs ys : List ℕ) → xs ≢ [] → ys ≡ [] → (b && ((length xs == 0) || not (length ys == 0))) ≡ false
      by false xs ys some none = refl
      by true [] ys some none = absurd (some refl)
      by true (x ∷ xs) ys some none =
          ap (λ c. c || not (length ys == 0)) (ne_eqb (length (x ∷ xs)) 0 (λ zero_. omega (arith, zero_))) ∙ ap (λ l. not (length l == 0)) none

  pub none_unprompted : (rounds : List Round) → AreBetween IsPrompted rounds → unprompted_in setting rounds ≡ 0
  none_unprompted [] all = refl
  none_unprompted (round ∷ rounds) all =
      let here : ◌≡◌ {A = ℕ} (cond (is_unprompted setting round) 1 0) 0 = ap (λ b. cond b 1 0) (prompted_one round all.0) in
      omega (arith, here, none_unprompted rounds all.1, sum_by-cons (λ r. cond (is_unprompted setting r) 1 0) round rounds)

-- a part between two turns
abbrev pub MovesBetween : {B : Type 0} → Caller B → Caller B → Type 0
MovesBetween a b = (m : Moves a b) × (has_no_turn m.since ≡ true) × IsPrompted a.alone.setting (past_of a.alone.seen) m.since

module _ {B : Type 0} (a b : Caller B) where
  -- what is delivered was ready
  some_ready : (called : CalledState) → DeliversOne (Some called) a b → ready a.alone.setting (past_of a.alone.seen) ≢ []
  some_ready called d none =
      let is : first (ready a.alone.setting (past_of a.alone.seen)) ≡ Some d.0.call.number = (owner_called (Takes plan_of (Some d.0)) 0 a.alone d.1 d.2).meant.1 in
      absurd (let h : ◌≡◌ {A = Option ℕ} None (Some d.0.call.number) = sym (ap first none) ∙ is in cc)

-- all that was ready was delivered, until none was
pub prompted_all : {B : Type 0} (a b : Caller B) → DeliversAll a b → (m : Moves a b) → ready b.alone.setting (past_of b.alone.seen) ≡ [] → IsPrompted a.alone.setting (past_of a.alone.seen) m.since
prompted_all a b d m none = by d.called d.some
  where
    none_left : ready a.alone.setting (followed_by (past_of a.alone.seen) m.since) ≡ []
    none_left = ap (ready a.alone.setting) (sym (ap past_of m.seen ∙ past_on a.alone.seen m.since)) ∙ subst (λ s. ready s (past_of b.alone.seen) ≡ []) m.setting none

    by : (called : List CalledState) → DeliversSome called a d.middle → IsPrompted a.alone.setting (past_of a.alone.seen) m.since
    by [] same =
        let kept : b.alone.seen ≡ a.alone.seen = ap (λ c. c.alone.seen) (same_none d.middle b d.none ∙ same) in
        let nothing : m.since ≡ [] = sym (append_cancel_left a.alone.seen [] m.since (append-nil a.alone.seen ∙ sym kept ∙ m.seen)) in
        subst (IsPrompted a.alone.setting (past_of a.alone.seen)) (sym nothing) (prompted_none a.alone.setting (past_of a.alone.seen))
    by (called ∷ more) some = inr (some_ready a some.0 called some.2, none_left)
