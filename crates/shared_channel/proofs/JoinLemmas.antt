-- How passes are joined from the last to the first.
use Rattle.std.proofs.Common.{◌≡◌, ◌∙◌, ◌<◌, ℕ, ◌+◌, ◌-◌, ◌^◌, List, [], ◌∷◌, ◌++◌, map, refl, ap, ap₂, sym, subst, arith, append_assoc}
use Rattle.std.proofs.lemmas.List.{append-nil}
use Rattle.std.proofs.lemmas.List.Concat.{flat_map-cons}
use Rattle.std.proofs.lemmas.List.Sums.{sum_by-cons}
use Rattle.std.specs.List.{AllByRecursion}
use Rattle.std.specs.Prelude.{min, sum_by}
use mathlib.Core.List.{IsPrefix}
use Rattle.atomic_table.specs.Seated.{TableId}
use Rattle.hosts_file.specs.declared.hosts.Hosts.{Hosts}
use Rattle.resolv_options.specs.declared.options.Options.{Options}
use Rattle.shared_channel.specs.Finishing.{HasSeenOwn, IsAlone, IsJoined, JoinsPass, left_by_pass, share_left, share_of}
use Rattle.shared_channel.specs.Passes.{PassView, the}

abbrev Both : Type 0
Both = Options × Hosts

pub prefix_trans : {A : Type 0} (xs ys zs : List A) → IsPrefix xs ys → IsPrefix ys zs → IsPrefix xs zs
prefix_trans xs ys zs p q = (p.0 ++ q.0, sym (append_assoc xs p.0 q.0) ∙ (ap (λ l. l ++ q.0) p.1 ∙ q.1))

-- one pass alone
pub joined_one : (lock : TableId) (pass : PassView) → pass.lost < 2 ^ 64 → HasSeenOwn pass → IsAlone lock pass → IsJoined (pass ∷ []) pass
joined_one lock pass few own alone = record {
  first = refl;
  shares = ap (λ js. share_of pass ∷ map share_left js) alone.1;
  seen = (([], append-nil pass.seen), tt);
  own = (own, tt);
  calls = sym (flat_map-cons (λ (p : PassView). p.calls) pass [] ∙ append-nil pass.calls);
  lost = omega (arith, few, sum_by-cons (λ (p : PassView). p.lost) pass []);
}

-- and one more before those that are joined
pub joined_more : (lock : TableId) (next : PassView) (rest : List PassView) (all now : PassView) → IsAlone lock next → HasSeenOwn next → IsJoined rest all → JoinsPass next all now → IsJoined (next ∷ rest) now
joined_more lock next rest all now alone own joined joins = record {
  first = joins.rest;
  shares = ap₂ (λ s js. s ∷ map share_left js) (ap share_of joins.rest) (joins.joined ∙ ap (λ js. js ++ left_by_pass all ∷ all.joined) alone.1) ∙ ap (λ ss. share_of next ∷ ss) joined.shares;
  seen = (joins.seen_left, each_prefix rest joined.seen);
  own = (own, joined.own);
  calls = joins.calls ∙ ap (λ cs. next.calls ++ cs) joined.calls ∙ sym (flat_map-cons (λ (p : PassView). p.calls) next rest);
  lost = joins.lost ∙ ap (λ n. min (next.lost + n) (2 ^ 64 - 1)) joined.lost ∙ capped next.lost (sum_by (λ (p : PassView). p.lost) rest)
      ∙ ap (λ n. min n (2 ^ 64 - 1)) (sym (sum_by-cons (λ (p : PassView). p.lost) next rest));
}
  where
    each_prefix : (ps : List PassView) → AllByRecursion (λ (p : PassView). IsPrefix p.seen all.seen) ps → AllByRecursion (λ (p : PassView). IsPrefix p.seen now.seen) ps
    each_prefix [] each = tt
    each_prefix (p ∷ ps) each = (prefix_trans p.seen all.seen now.seen each.0 joins.seen_right, each_prefix ps each.1)

    capped : (a b : ℕ) → min (a + min b (2 ^ 64 - 1)) (2 ^ 64 - 1) ≡ min (a + b) (2 ^ 64 - 1)
    capped a b = omega arith

-- the row of passes that are left, and those that are joined already
pub record HasJoined (lock : TableId) (passes left : List PassView) (all : PassView) : Type 0 where
  pub rest : List PassView
  pub parts : passes ≡ left ++ rest
  pub joined : IsJoined rest all
  pub lock_is : all.lock ≡ lock
  pub alone : AllByRecursion (IsAlone lock) left

-- what holds of each in two rows
first_of : {A : Type 0} (P : A → Type 0) (xs : List A) (x : A) → AllByRecursion P (xs ++ x ∷ []) → AllByRecursion P xs × P x
first_of P [] x each = (tt, each.0)
first_of P (y ∷ ys) x each = let more = first_of P ys x each.1 in ((each.0, more.0), more.1)

pub joins_begin : (lock : TableId) (passes front : List PassView) (last : PassView) → passes ≡ front ++ last ∷ [] → last.lost < 2 ^ 64 → HasSeenOwn last → AllByRecursion (IsAlone lock) passes → HasJoined lock passes front last
joins_begin lock passes front last is few own each =
    let parts = first_of (IsAlone lock) front last (subst (AllByRecursion (IsAlone lock)) is each) in
    record { rest = last ∷ []; parts = is; joined = joined_one lock last few own parts.1; lock_is = parts.1.0; alone = parts.0 }

pub joins_go_on : (lock : TableId) (passes left front : List PassView) (next all now : PassView) → left ≡ front ++ next ∷ [] → HasJoined lock passes left all → HasSeenOwn next → JoinsPass next all now → HasJoined lock passes front now
joins_go_on lock passes left front next all now is has own joins =
    let parts = first_of (IsAlone lock) front next (subst (AllByRecursion (IsAlone lock)) is has.alone) in
    record {
      rest = next ∷ has.rest;
      parts = has.parts ∙ ap (λ l. l ++ has.rest) is ∙ append_assoc front (next ∷ []) has.rest;
      joined = joined_more lock next has.rest all now parts.1 own has.joined joins;
      lock_is = ap (λ p. p.lock) joins.rest ∙ parts.1.0;
      alone = parts.0;
    }

-- the next pass of a row that is left is at the lock
pub next_at : (lock : TableId) (left front : List PassView) (next : PassView) → left ≡ front ++ next ∷ [] → AllByRecursion (IsAlone lock) left → next.lock ≡ lock
next_at lock left front next is each = (first_of (IsAlone lock) front next (subst (AllByRecursion (IsAlone lock)) is each)).1.0
