-- One part of a session: rounds over a pool, and looks behind them.
use Rattle.std.proofs.Common.{◌≡◌, ◌≢◌, ◌∙◌, ◌<◌, ℕ, ◌+◌, ◌&&◌, Bool, true, false, List, [], ◌∷◌, ◌++◌, length, refl, sym, ap, ap₂, subst, inl, inr, arith, append_assoc}
use Rattle.std.specs.List.{AllByRecursion}
use Rattle.std.specs.Prelude.{remove, slice_index_or, ◌⊎◌}
use Rattle.std.proofs.lemmas.Bool.{and_parts}
use Rattle.std.proofs.lemmas.List.{append-nil, length-append}
use Rattle.atomic_table.specs.Seated.{TableId}
use Rattle.chan_types.specs.declared.orders.Orders.{Orders}
use Rattle.channel_model.specs.Known.{Known}
use Rattle.pooled_places.specs.Standing.{AreStill}
use Rattle.shared_channel.specs.Passes.{PassView, desk_of}
use Rattle.shared_channel.specs.Staying.{AreAt}
use Rattle.turner_rounds.proofs.Theorems.{kept_by}
use Rattle.turner_rounds.specs.Pumping.{HasEnded}
use Rattle.worker_rounds.proofs.Theorems.{desk_same}
use Rattle.worker_rounds.specs.Serving.{Serves}
use Rattle.worker_session.specs.Turning.{OwesNone, Turning, pending_of, ready_of}
use Rattle.worker_session.specs.declared.coming.Coming.{Coming}
use Rattle.worker_session.specs.declared.coming.Coming.TheVariants.{OutOfMemory, Stalled, UnderWay, WaitFault}
use Rattle.shared_session.specs.Looking.{LookEach, Looks, LooksBoth, SeesNothing}
use Rattle.shared_session.specs.Serving.{EndsIf, IsBetween, LooksOnce, ends_of}

-- ---- looks through passes

-- what is seen through all is seen through fewer
fewer_looks : (none other : Bool) (old new : PassView) → Looks none old new → Looks (none && other) old new
fewer_looks none other old new looks = record { looked = looks.looked; nothing = λ both. looks.nothing (and_parts none other both).0 }

fewer_look : (none other : Bool) (olds news : List PassView) → LookEach none olds news → LookEach (none && other) olds news
fewer_look none other [] [] looks = tt
fewer_look none other [] (n ∷ ns) looks = absurd looks
fewer_look none other (o ∷ os) [] looks = absurd looks
fewer_look none other (o ∷ os) (n ∷ ns) looks = (fewer_looks none other o n looks.0, fewer_look none other os ns looks.1)

more_looks : (none other : Bool) (old new : PassView) → Looks other old new → Looks (none && other) old new
more_looks none other old new looks = record { looked = looks.looked; nothing = λ both. looks.nothing (and_parts none other both).1 }

more_look : (none other : Bool) (olds news : List PassView) → LookEach other olds news → LookEach (none && other) olds news
more_look none other [] [] looks = tt
more_look none other [] (n ∷ ns) looks = absurd looks
more_look none other (o ∷ os) [] looks = absurd looks
more_look none other (o ∷ os) (n ∷ ns) looks = (more_looks none other o n looks.0, more_look none other os ns looks.1)

push_look : (none : Bool) (olds news : List PassView) (old new : PassView) → LookEach none olds news → Looks none old new → LookEach none (olds ++ old ∷ []) (news ++ new ∷ [])
push_look none [] [] old new looks one = (one, tt)
push_look none [] (n ∷ ns) old new looks one = absurd looks
push_look none (o ∷ os) [] old new looks one = absurd looks
push_look none (o ∷ os) (n ∷ ns) old new looks one = (looks.0, push_look none os ns old new looks.1 one)

look_len : (none : Bool) (olds news : List PassView) → LookEach none olds news → length news ≡ length olds
look_len none [] [] looks = refl
look_len none [] (n ∷ ns) looks = absurd looks
look_len none (o ∷ os) [] looks = absurd looks
look_len none (o ∷ os) (n ∷ ns) looks = omega (arith, look_len none os ns looks.1)

-- the first of these passes have looked, and stand behind the others
pub record IsLooking (none : Bool) (all now : List PassView) (count : ℕ) : Type 0 where
  pub done : List PassView
  pub rest : List PassView
  pub looked : List PassView
  pub parts : all ≡ done ++ rest
  pub now_is : now ≡ rest ++ looked
  pub looks : LookEach none done looked
  pub counted : length looked ≡ count

pub looking_none : (none : Bool) (all : List PassView) → IsLooking none all all 0
looking_none none all = record { done = []; rest = all; looked = []; parts = refl; now_is = sym (append-nil all); looks = tt; counted = refl }

pub looking_both : (none over : Bool) (owner : PassView) (workers : List PassView) (owner_new : PassView) (workers_new : List PassView) → Looks none owner owner_new → LookEach over workers workers_new → LooksBoth (none && over) owner workers owner_new workers_new
looking_both none over owner workers owner_new workers_new looks each = record { owner_looks = fewer_looks none over owner owner_new looks; workers_look = more_look none over workers workers_new each }

-- a pass that looks is at its channel
pub looked_at : (lock : TableId) (none : Bool) (old new : PassView) → Looks none old new → old.lock ≡ lock → new.lock ≡ lock
looked_at lock none old new looks at = ap (λ (p : PassView). p.lock) (desk_same old new looks.looked.goes_on.desk) ∙ at

pub push_at : (lock : TableId) (passes : List PassView) (new : PassView) → AreAt lock passes → new.lock ≡ lock → AreAt lock (passes ++ new ∷ [])
push_at lock [] new at one = (one, tt)
push_at lock (p ∷ ps) new at one = (at.0, push_at lock ps new at.1 one)

-- ---- the same passes are at the same channel

pub still_at : (lock : TableId) (olds news : List PassView) → AreStill olds news → AreAt lock olds → AreAt lock news
still_at lock [] [] still at = tt
still_at lock [] (n ∷ ns) still at = absurd still
still_at lock (o ∷ os) [] still at = absurd still
still_at lock (o ∷ os) (n ∷ ns) still at = (ap (λ (p : PassView). p.lock) still.0 ∙ at.0, still_at lock os ns still.1 at.1)

-- ---- how it ended

each_sees : (none : Bool) (olds news : List PassView) → none ≡ true → LookEach none olds news → AllByRecursion SeesNothing news
each_sees none [] [] is looks = tt
each_sees none [] (n ∷ ns) is looks = absurd looks
each_sees none (o ∷ os) [] is looks = absurd looks
each_sees none (o ∷ os) (n ∷ ns) is looks = (looks.0.nothing is, each_sees none os ns is looks.1)

-- where it rested or owes none, it does so behind a look
pub between_kept : (done : Bool) (old new : Turning) → LooksOnce done old new → IsBetween old → IsBetween new
between_kept done old new looks between under_way = by (between (sym looks.kept.2 ∙ under_way))
  where
    by : OwesNone old → OwesNone new
    by (inl none) = inl (looks.kept.0 ∙ none)
    by (inr rested) = inr (looks.kept.1 ∙ rested)

pub ends_if : (over done : Bool) (owner : PassView) (workers : List PassView) (owner_new : PassView) (workers_new : List PassView) (old new : Turning) → LooksBoth over owner workers owner_new workers_new → LooksOnce done old new →
    EndsIf (ends_of new.coming (over && done)) new (owner_new ∷ workers_new)
ends_if over done owner workers owner_new workers_new old new both once = by new.coming refl (over && done) refl
  where
    by : (coming : Coming) → new.coming ≡ coming → (all : Bool) → (over && done) ≡ all → EndsIf (ends_of coming all) new (owner_new ∷ workers_new)
    by UnderWay is true all =
        let parts = and_parts over done all in
        let quiet : (ready_of new.known ≡ []) × (pending_of new.known ≡ []) × OwesNone new = quiet_of (once.ended parts.1) in
        (is, quiet.0, quiet.1, (both.owner_looks.nothing parts.0, each_sees over workers workers_new parts.0 both.workers_look))
      where
        quiet_of : (new.coming ≢ UnderWay) ⊎ ((ready_of new.known ≡ []) × (pending_of new.known ≡ []) × OwesNone new) → (ready_of new.known ≡ []) × (pending_of new.known ≡ []) × OwesNone new
        quiet_of (inl other) = absurd (other is)
        quiet_of (inr quiet) = quiet
    by UnderWay is false all = is
    by WaitFault is all same = is
    by Stalled is all same = is
    by OutOfMemory is all same = inl is

-- ---- lists

-- the first item of a list, apart from the others
pub front : {X : Type 0} (xs : List X) (x : X) (rest : List X) → 0 < length xs → x ≡ slice_index_or xs 0 x → rest ≡ remove xs 0 → xs ≡ x ∷ rest
front [] x rest some is rest_is = absurd (omega (arith, some))
front (y ∷ ys) x rest some is rest_is = ap₂ (λ h t. h ∷ t) (sym is) (sym rest_is)

-- one more pass has looked
pub looking_more : (none other : Bool) (all now rest more : List PassView) (old new : PassView) (count : ℕ) → IsLooking none all now count → count < length all → now ≡ old ∷ rest → Looks other old new → more ≡ rest ++ new ∷ [] → IsLooking (none && other) all more (count + 1)
looking_more none other all now rest more old new count looked few front_is one more_is = by looked.done looked.rest looked.looked looked.parts (sym front_is ∙ looked.now_is) looked.looks looked.counted
  where
    by : (done left seen : List PassView) → all ≡ done ++ left → old ∷ rest ≡ left ++ seen → LookEach none done seen → length seen ≡ count → IsLooking (none && other) all more (count + 1)
    by done [] seen parts is looks counted = absurd (omega (arith, few, counted, look_len none done seen looks, ap length parts, length-append done []))
    by done (x ∷ left) seen parts is looks counted =
        let here : old ≡ x = cc is in
        let behind : rest ≡ left ++ seen = cc is in
        record {
          done = done ++ x ∷ [];
          rest = left;
          looked = seen ++ new ∷ [];
          parts = parts ∙ sym (append_assoc done (x ∷ []) left);
          now_is = more_is ∙ ap (λ l. l ++ new ∷ []) behind ∙ append_assoc left seen (new ∷ []);
          looks = push_look (none && other) done seen x new (fewer_look none other done seen looks) (more_looks none other x new (subst (λ p. Looks other p new) here one));
          counted = omega (arith, counted, length-append seen (new ∷ []));
        }

-- and all have
pub looking_all : (none : Bool) (all now : List PassView) (count : ℕ) → IsLooking none all now count → count ≡ length all → LookEach none all now
looking_all none all now count looked full = by looked.done looked.rest looked.looked looked.parts looked.now_is looked.looks (looked.counted ∙ full)
  where
    by : (done left seen : List PassView) → all ≡ done ++ left → now ≡ left ++ seen → LookEach none done seen → length seen ≡ length all → LookEach none all now
    by done [] seen parts is looks full_ = subst (λ l. LookEach none l now) (sym (parts ∙ append-nil done)) (subst (LookEach none done) (sym is) looks)
    by done (x ∷ left) seen parts is looks full_ = absurd (omega (arith, full_, look_len none done seen looks, ap length parts, length-append done (x ∷ left)))

-- ---- behind rounds

module _ {P X : Type 0} (steps : P → Known → P → Known → Type 0) (ends : P → Known → Type 0) (turning : P → Turning) (of : P → X) (keeps : (old : P) (before : Known) (new : P) (behind : Known) → steps old before new behind → of new ≡ of old)
    (has_ended : (pump : P) (known : Known) → ends pump known → HasEnded (turning pump)) (orders : Orders) (owner : PassView) (workers : List PassView) (pump : P) (owner_new : PassView) (workers_new : List PassView) (pump_new : P) where
  pub between_served : (refused : Bool) → Serves steps ends orders refused owner workers pump owner_new workers_new pump_new → IsBetween (turning pump) → IsBetween (turning pump_new)
  between_served true same between under_way = subst (λ p. IsBetween (turning p)) (sym same.2) between under_way
  between_served false served between under_way = by (has_ended pump_new (desk_of owner_new) served.ended)
    where
      by : HasEnded (turning pump_new) → OwesNone (turning pump_new)
      by (inl other) = absurd (other under_way)
      by (inr quiet) = quiet.2

  pub kept_served : (refused : Bool) → Serves steps ends orders refused owner workers pump owner_new workers_new pump_new → of pump_new ≡ of pump
  kept_served true same = ap of same.2
  kept_served false served = kept_by steps of keeps orders served.deeds (owner, pump) (owner_new, pump_new) served.course
