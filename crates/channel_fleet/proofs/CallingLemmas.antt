-- Calls through a fleet's berths.
use Rattle.std.proofs.Common.{◌≡◌, ◌∙◌, ◌<◌, ℕ, suc, ◌+◌, List, [], ◌∷◌, ◌++◌, length, map, refl, ap, sym, subst, arith, append_assoc}
use Rattle.std.proofs.lemmas.List.{append-nil, drop_at, drop_more, get_or-map, get_or_read, length-append, length-map, length-take-le, set_split, take-append-drop, take_at}
use Rattle.std.proofs.lemmas.List.Sums.{sum_by_push}
use Rattle.std.proofs.lemmas.Nat.{mod_below}
use Rattle.std.specs.Char.{to_ascii_lowercase}
use Rattle.std.specs.Prelude.{Bool, cond, count_by, drop, min, set, slice_index_or, sum, sum_by, take, ◌-◌, ◌^◌}
use Rattle.chan_types.specs.declared.spec.Spec.{Spec}
use Rattle.channel_fleet.specs.Routing.{route_of, text_of}
use Rattle.atomic_table.specs.Seated.{TableId}
use Rattle.channel_fleet.specs.Calling.{CallsBerth, CallsEach, CallsPass, ChangesAt}
use Rattle.channel_fleet.specs.Views.{BerthView, IsAtFleet}
use Rattle.channel_model.specs.Known.{Calls}
use Rattle.channel_model.specs.Meanings.{Meaning}
use Rattle.shared_channel.specs.Passes.{PassView, belongings_code, belongings_of, desk_of}

-- behind a call of its desk a pass is the same pass still
pub calls_pass : (meaning : Meaning) (old new : PassView) → Calls meaning 0 (desk_of old) (desk_of new) → CallsPass meaning old new
calls_pass meaning old new call = record { call = call; same = same }
  where
    has : belongings_of new ≡ belongings_of old
    has = belongings_code.inj (belongings_of new) (belongings_of old) call.desk.home

    same : new ≡ record old { own = new.own; seen = new.seen }
    same = λ i. record {
      lock = (has i).lock;
      seats = (has i).seats;
      number = call.desk.seat i;
      setting = call.desk.setting i;
      own = new.own;
      seen = new.seen;
      joined = (has i).joined;
      calls = (has i).calls;
      lost = (has i).lost;
    }

-- and so is the pass of a berth whose reader has seen no more
pub calls_berth : (meaning : Meaning) (old new : BerthView) → CallsPass meaning old.pass new.pass → new.shown ≡ old.shown → CallsBerth meaning old new
calls_berth meaning old new call unseen = record { pass = call; unseen = unseen }

-- the berth with this index has changed
pub changes_set : (index : ℕ) (changes : BerthView → BerthView → Type 0) (old : List BerthView) (d to : BerthView) → index < length old → changes (slice_index_or old index d) to → ChangesAt index changes old (set old index to)
changes_set index changes old d to here changed =
    let next : index + 1 ≡ suc index = omega arith in
    record {
      earlier = take index old;
      here = length-take-le index old (omega (arith, here));
      from = slice_index_or old index d;
      to = to;
      behind = drop (suc index) old;
      was = sym (take-append-drop index old) ∙ ap (λ l. take index old ++ l) (drop_more old index d here) ∙ ap (λ n. take index old ++ slice_index_or old index d ∷ drop n old) next;
      is = set_split old index to here;
      changed = changed;
    }

-- the same of the berths of a pass that is at its fleet
pub changes_nth : (index : ℕ) (changes : BerthView → BerthView → Type 0) (fleet : List TableId) (old : List BerthView) (from to : BerthView) → IsAtFleet fleet old → index < length fleet → from ≡ slice_index_or old index from → changes from to → ChangesAt index changes old (set old index to)
changes_nth index changes fleet old from to at here is changed = changes_set index changes old from to (omega (arith, here, ap length at, length-map old (λ b. b.pass.lock))) (subst (λ b. changes b to) is changed)

-- one berth after the other: those before this one were called, and those from it on are as they were
pub record CallsSoFar {A : Type 0} (means : A → Meaning) (answers : List A) (count : ℕ) (old now : List BerthView) : Type 0 where
  pub olds : List BerthView
  pub nows : List BerthView
  pub rest : List BerthView
  pub was : old ≡ olds ++ rest
  pub is : now ≡ nows ++ rest
  pub so_far : length nows ≡ count
  pub called : CallsEach means answers olds nows

module _ {A : Type 0} (means : A → Meaning) where
  each_more : (answers : List A) (answer : A) (olds nows : List BerthView) (old now : BerthView) → CallsEach means answers olds nows → CallsBerth (means answer) old now → CallsEach means (answers ++ answer ∷ []) (olds ++ old ∷ []) (nows ++ now ∷ [])
  each_more [] answer [] [] old now each call = (call, tt)
  each_more [] answer [] (n ∷ ns) old now each call = absurd each
  each_more [] answer (o ∷ os) nows old now each call = absurd each
  each_more (a ∷ more) answer [] nows old now each call = absurd each
  each_more (a ∷ more) answer (o ∷ os) [] old now each call = absurd each
  each_more (a ∷ more) answer (o ∷ os) (n ∷ ns) old now each call = (each.0, each_more more answer os ns old now each.1 call)

  pub calls_none : (old : List BerthView) → CallsSoFar means [] 0 old old
  calls_none old = record { olds = []; nows = []; rest = old; was = refl; is = refl; so_far = refl; called = tt }

  -- the next one is called
  pub calls_more : {answers : List A} {count next : ℕ} {old now new : List BerthView} (answer : A) → next ≡ suc count → CallsSoFar means answers count old now → ChangesAt count (CallsBerth (means answer)) now new → CallsSoFar means (answers ++ answer ∷ []) next old new
  calls_more {answers} {count} {next} {old} {now} {new} answer next_is so_far changes =
      let same : so_far.nows ++ so_far.rest ≡ changes.earlier ++ changes.from ∷ changes.behind = sym so_far.is ∙ changes.was in
      let nows_are : so_far.nows ≡ changes.earlier =
      sym (take_at so_far.nows so_far.rest count so_far.so_far) ∙ ap (take count) same ∙ take_at changes.earlier (changes.from ∷ changes.behind) count changes.here in
      let rest_is : so_far.rest ≡ changes.from ∷ changes.behind =
      sym (drop_at so_far.nows so_far.rest count so_far.so_far) ∙ ap (drop count) same ∙ drop_at changes.earlier (changes.from ∷ changes.behind) count changes.here in
      record {
        olds = so_far.olds ++ changes.from ∷ [];
        nows = so_far.nows ++ changes.to ∷ [];
        rest = changes.behind;
        was = so_far.was ∙ ap (λ l. so_far.olds ++ l) rest_is ∙ sym (append_assoc so_far.olds (changes.from ∷ []) changes.behind);
        is = changes.is ∙ ap (λ l. l ++ changes.to ∷ changes.behind) (sym nows_are) ∙ sym (append_assoc so_far.nows (changes.to ∷ []) changes.behind);
        so_far = length-append so_far.nows (changes.to ∷ []) ∙ omega (arith, so_far.so_far, next_is);
        called = each_more answers answer so_far.olds so_far.nows changes.from changes.to so_far.called changes.changed;
      }

  -- all are
  pub calls_end : {answers : List A} {count : ℕ} {old now : List BerthView} → CallsSoFar means answers count old now → count ≡ length now → CallsEach means answers old now
  calls_end {answers} {count} {old} {now} so_far all = go so_far.rest so_far.was so_far.is
    where
      go : (rest : List BerthView) → old ≡ so_far.olds ++ rest → now ≡ so_far.nows ++ rest → CallsEach means answers old now
      go [] was is = subst (λ l. CallsEach means answers l now) (sym (was ∙ append-nil so_far.olds)) (subst (CallsEach means answers so_far.olds) (sym (is ∙ append-nil so_far.nows)) so_far.called)
      go (b ∷ bs) was is = absurd (omega (arith, all, so_far.so_far, ap length is, length-append so_far.nows (b ∷ bs)))

-- berths stay at their fleet when one is called
pub changed_at : {channel : ℕ} {meaning : Meaning} {fleet : List TableId} {old new : List BerthView} → ChangesAt channel (CallsBerth meaning) old new → IsAtFleet fleet old → IsAtFleet fleet new
changed_at {channel} {meaning} {fleet} {old} {new} its at =
    ap (map (λ (b : BerthView). b.pass.lock)) its.is ∙ same its.earlier ∙ ap (map (λ (b : BerthView). b.pass.lock)) (sym its.was) ∙ at
  where
    same : (bs : List BerthView) → map (λ (b : BerthView). b.pass.lock) (bs ++ its.to ∷ its.behind) ≡ map (λ (b : BerthView). b.pass.lock) (bs ++ its.from ∷ its.behind)
    same [] = λ i. (its.changed.pass.same i).lock ∷ map (λ (b : BerthView). b.pass.lock) its.behind
    same (b ∷ bs) = ap (λ l. b.pass.lock ∷ l) (same bs)

-- a berth has its channel's lock
pub lock_at : (fleet : List TableId) (berths : List BerthView) (index : ℕ) (lock : TableId) (berth : BerthView) → IsAtFleet fleet berths → index < length fleet → lock ≡ slice_index_or fleet index lock → berth ≡ slice_index_or berths index berth → berth.pass.lock ≡ lock
lock_at fleet berths index lock berth at here lock_is berth_is =
    ap (λ (b : BerthView). b.pass.lock) (get_or_read berths index berth (omega (arith, here, ap length at, length-map berths (λ b. b.pass.lock))) berth_is berth)
    ∙ sym (get_or-map (λ (b : BerthView). b.pass.lock) berths index berth lock (omega (arith, here, ap length at, length-map berths (λ b. b.pass.lock)))) ∙ ap (λ l. slice_index_or l index lock) at ∙ sym lock_is

-- a request is routed to one of the channels
pub route_below : (spec : Spec) (channels : ℕ) → 0 < channels → route_of spec channels < channels
route_below spec channels some = mod_below (sum_by to_ascii_lowercase (text_of spec)) channels some

-- one answer more of those that are counted
pub count_more : (answers : List Bool) (answer : Bool) (one count next : ℕ) → count ≡ count_by (λ x. x) answers → next ≡ count + one → cond answer 1 0 ≡ one → next ≡ count_by (λ x. x) (answers ++ answer ∷ [])
count_more answers answer one count next is next_is one_is =
    let push : count_by (λ x. x) (answers ++ answer ∷ []) ≡ count_by (λ x. x) answers + cond answer 1 0 = sum_by_push (λ x. cond x 1 0) answers answer in
    omega (arith, is, next_is, one_is, push)

-- one answer more of those that are added up, as far as a count goes
pub sum_more : (answers : List ℕ) (answer count : ℕ) → count ≡ min (sum answers) (2 ^ 64 - 1) → min (count + answer) (2 ^ 64 - 1) ≡ min (sum (answers ++ answer ∷ [])) (2 ^ 64 - 1)
sum_more answers answer count is =
    let push : sum (answers ++ answer ∷ []) ≡ sum answers + answer = sum_by_push (λ x. x) answers answer in
    omega (arith, is, push)
