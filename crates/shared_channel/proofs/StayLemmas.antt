-- Calls and deliveries leave a pass settled that was, and the passes of a new channel that stayed so are all of its passes, with no ticket outside.
use Rattle.std.proofs.Common.{◌≡◌, ◌∙◌, ◌<◌, ℕ, suc, ◌+◌, ◌==◌, Bool, true, false, List, [], ◌∷◌, ◌++◌, inl, inr, Option, Some, None, Result, Ok, Err, cond, length, map, refl, ap, ap₂, sym, subst, arith}
use Rattle.std.proofs.lemmas.List.{map-append}
use Rattle.std.proofs.lemmas.List.Concat.{flat_map-cons}
use Rattle.std.proofs.lemmas.List.Sorted.{IsPermutation-append_left, IsPermutation-append_right, IsPermutation-refl, IsPermutation-trans}
use Rattle.std.specs.List.{AllByRecursion, range_with_len}
use Rattle.std.specs.List.Sorted.{IsPermutation}
use Rattle.std.specs.Prelude.{slice_index_or}
use Rattle.atomic_table.specs.Seated.{TableId}
use Rattle.chan_types.specs.declared.answer.Answer.{Answer}
use Rattle.chan_types.specs.declared.journal.What.TheVariants.{Cancel}
use Rattle.chan_types.specs.declared.orders.Orders.{Orders}
use Rattle.chan_types.specs.declared.spec.Spec.{Spec}
use Rattle.channel_model.specs.Journal.{own_entries}
use Rattle.channel_model.specs.Known.{Calls}
use Rattle.channel_model.specs.Meanings.{Accepts, Arrives, Cancels, Destroys, Starts, Takes}
use Rattle.channel_model.specs.Seen.{entries_of}
use Rattle.channel_model.specs.Setting.{Setting}
use Rattle.channel_model.specs.declared.answers.Begun.{Begun}
use Rattle.channel_model.specs.declared.answers.Begun.TheVariants.{Idle, NoId, Started}
use Rattle.channel_model.specs.declared.answers.Landed.{Landed}
use Rattle.channel_model.specs.declared.answers.Landed.TheVariants.{Matched, Stray}
use Rattle.channel_model.specs.declared.answers.Refused.{Refused}
use Rattle.completion_ticket.specs.States.{CallbackState, CalledState}
use Rattle.item_list.specs.declared.no_memory.NoMemory.{NoMemory}
use Rattle.shared_channel.specs.Finishing.{AreAllPasses, IsOneOf}
use Rattle.shared_channel.specs.Making.{IsNewChannel, new_pass}
use Rattle.shared_channel.specs.Passes.{PassView, desk_of}
use Rattle.shared_channel.specs.Settling.{AreSettled, IsFateSeen, IsSeenByOne, IsSettled, taken_in, taken_through, told_through}
use Rattle.shared_channel.specs.Spending.{DeliversOne}
use Rattle.shared_channel.specs.Under.{plan_of}
use Rattle.shared_channel.specs.Staying.{AllStaySettled, StaysSettled}
use Rattle.shared_channel.proofs.CountingLemmas.{taken_in-append}
use Rattle.shared_channel.proofs.GoingLemmas.{WentOn, each_append, fates_later, went_call, went_delivery, went_destroy}

-- a pass that went on stays settled
pub stays : (old new : PassView) → WentOn old new → StaysSettled old new
stays old new went = record { same = went.rest; settled = settled }
  where
    more : List ℕ
    more = taken_in (own_entries old.number went.since)

    settled : IsSettled old → IsSettled new
    settled was =
        let taken_is : taken_in new.own ≡ taken_in old.own ++ more = ap taken_in went.own ∙ taken_in-append old.own (own_entries old.number went.since) in
        let told_is : map (λ (a : Answer). a.number) new.calls ≡ map (λ (a : Answer). a.number) old.calls ++ more =
        ap (map (λ (a : Answer). a.number)) went.calls ∙ map-append (λ (a : Answer). a.number) old.calls went.told ∙ ap (λ ns. map (λ (a : Answer). a.number) old.calls ++ ns) went.numbers in
        record {
          numbers = subst (λ ns. IsPermutation ns (map (λ (a : Answer). a.number) new.calls)) (sym taken_is) (subst (IsPermutation (taken_in old.own ++ more)) (sym told_is)
              (IsPermutation-append_left more (taken_in old.own) (map (λ (a : Answer). a.number) old.calls) was.numbers));
          fates = subst (AllByRecursion (IsFateSeen new)) (sym went.calls)
              (each_append (IsFateSeen new) old.calls went.told (fates_later old new (went.since, sym went.seen) (ap (λ p. p.setting) went.rest) old.calls was.fates) went.fates);
        }

-- a pass to which nothing happens, and one to which more does
pub stays_none : (pass : PassView) → StaysSettled pass pass
stays_none pass = record { same = refl; settled = λ was. was }

pub stays_same : (old new : PassView) → new ≡ old → StaysSettled old new
stays_same old new same = subst (StaysSettled old) (sym same) (stays_none old)

pub stays_more : (old middle new : PassView) → StaysSettled old middle → StaysSettled middle new → StaysSettled old new
stays_more old middle new first more = record {
  same = more.same ∙ ap (λ (p : PassView). record p { own = new.own; seen = new.seen; calls = new.calls; lost = new.lost }) first.same;
  settled = λ was. more.settled (first.settled was);
}

-- by the calls of a desk that take nothing
pub stays_accept : (spec : Spec) (token : CallbackState) (reply : Result ℕ (Refused CallbackState)) (old new : PassView) → Calls (Accepts plan_of spec token reply) 0 (desk_of old) (desk_of new) → StaysSettled old new
stays_accept spec token (Ok number) old new call = stays old new (went_call (Accepts plan_of spec token (Ok number)) 0 old new call (ap (λ a. taken_in (entries_of old.number 0 a)) call.meant.0))
stays_accept spec token (Err refused) old new call = stays old new (went_call (Accepts plan_of spec token (Err refused)) 0 old new call (ap (λ a. taken_in (entries_of old.number 0 a)) call.meant.0))

pub stays_cancel : (count : ℕ) (old new : PassView) → Calls (Cancels count) 0 (desk_of old) (desk_of new) → StaysSettled old new
stays_cancel count old new call = stays old new (went_call (Cancels count) 0 old new call (by_count (count == 0) call.meant.entry))
  where
    by_count : (b : Bool) → call.added ≡ cond b None (Some Cancel) → taken_in (entries_of old.number 0 call.added) ≡ []
    by_count true is = ap (λ a. taken_in (entries_of old.number 0 a)) is
    by_count false is = ap (λ a. taken_in (entries_of old.number 0 a)) is

pub stays_destroy : (is_first : Bool) (old new : PassView) → Calls (Destroys is_first) 0 (desk_of old) (desk_of new) → StaysSettled old new
stays_destroy is_first old new call = stays old new (went_destroy is_first old new call)

pub stays_start : (word mix at : ℕ) (reply : Result Begun NoMemory) (old new : PassView) → Calls (Starts word mix at reply) 0 (desk_of old) (desk_of new) → StaysSettled old new
stays_start word mix at (Ok (Started number leg server link address id message)) old new call =
    stays old new (went_call (Starts word mix at (Ok (Started number leg server link address id message))) 0 old new call (ap (λ a. taken_in (entries_of old.number 0 a)) call.meant.0))
stays_start word mix at (Ok Idle) old new call = stays old new (went_call (Starts word mix at (Ok Idle)) 0 old new call (ap (λ a. taken_in (entries_of old.number 0 a)) call.meant.0))
stays_start word mix at (Ok NoId) old new call = stays old new (went_call (Starts word mix at (Ok NoId)) 0 old new call (ap (λ a. taken_in (entries_of old.number 0 a)) call.meant.0))
stays_start word mix at (Err fault) old new call = stays old new (went_call (Starts word mix at (Err fault)) 0 old new call (ap (λ a. taken_in (entries_of old.number 0 a)) call.meant.0))

pub stays_arrive : (server link : ℕ) (bytes : List ℕ) (reply : Result Landed NoMemory) (old new : PassView) → Calls (Arrives server link bytes reply) 0 (desk_of old) (desk_of new) → StaysSettled old new
stays_arrive server link bytes (Ok (Matched number leg)) old new call = stays old new (went_call (Arrives server link bytes (Ok (Matched number leg))) 0 old new call (ap (λ a. taken_in (entries_of old.number 0 a)) call.meant.0))
stays_arrive server link bytes (Ok Stray) old new call = stays old new (went_call (Arrives server link bytes (Ok Stray)) 0 old new call (ap (λ a. taken_in (entries_of old.number 0 a)) call.meant.0))
stays_arrive server link bytes (Err fault) old new call = stays old new (went_call (Arrives server link bytes (Err fault)) 0 old new call (ap (λ a. taken_in (entries_of old.number 0 a)) call.meant))

-- and by a delivery
pub stays_delivery : (orders : Orders) (called : Option CalledState) (old new : PassView) → DeliversOne orders old called new → StaysSettled old new
stays_delivery orders (Some called) old new delivers = stays old new (went_delivery orders called old new delivers)
stays_delivery orders None old new call = stays old new (went_call (Takes plan_of None) 0 old new call (ap (λ a. taken_in (entries_of old.number 0 a)) call.meant.0))

-- passes of which each is settled have no ticket outside
one_more : (p : PassView) (ps : List PassView) → IsSettled p → AreSettled ps → AreSettled (p ∷ ps)
one_more p ps settled rest =
    let told : map (λ (a : Answer). a.number) (told_through (p ∷ ps)) ≡ map (λ (a : Answer). a.number) p.calls ++ map (λ (a : Answer). a.number) (told_through ps) =
    ap (map (λ (a : Answer). a.number)) (flat_map-cons (λ (q : PassView). q.calls) p ps) ∙ map-append (λ (a : Answer). a.number) p.calls (told_through ps) in
    record {
      numbers = subst (λ ns. IsPermutation ns (map (λ (a : Answer). a.number) (told_through (p ∷ ps)))) (sym (flat_map-cons (λ (q : PassView). taken_in q.own) p ps))
          (subst (IsPermutation (taken_in p.own ++ taken_through ps)) (sym told)
          (IsPermutation-trans (taken_in p.own ++ taken_through ps) (map (λ (a : Answer). a.number) p.calls ++ taken_through ps) (map (λ (a : Answer). a.number) p.calls ++ map (λ (a : Answer). a.number) (told_through ps))
          (IsPermutation-append_left (taken_through ps) (taken_in p.own) (map (λ (a : Answer). a.number) p.calls) settled.numbers)
          (IsPermutation-append_right (map (λ (a : Answer). a.number) p.calls) (taken_through ps) (map (λ (a : Answer). a.number) (told_through ps)) rest.numbers)));
      fates = subst (AllByRecursion (IsSeenByOne (p ∷ ps))) (sym (flat_map-cons (λ (q : PassView). q.calls) p ps))
          (each_append (IsSeenByOne (p ∷ ps)) p.calls (told_through ps)
          (each_is (IsFateSeen p) (IsSeenByOne (p ∷ ps)) p.calls (λ a h. inl h) settled.fates)
          (each_is (IsSeenByOne ps) (IsSeenByOne (p ∷ ps)) (told_through ps) (λ a h. inr h) rest.fates));
    }
  where
    each_is : (P Q : Answer → Type 0) (xs : List Answer) → ((x : Answer) → P x → Q x) → AllByRecursion P xs → AllByRecursion Q xs
    each_is P Q [] f each = tt
    each_is P Q (x ∷ xs) f each = (f x each.0, each_is P Q xs f each.1)

pub each_settled : (ps : List PassView) → AllByRecursion IsSettled ps → AreSettled ps
each_settled [] each = record { numbers = IsPermutation-refl []; fates = tt }
each_settled (p ∷ ps) each = one_more p ps each.0 (each_settled ps each.1)

-- passes numbered from here on, as they are made
abbrev pub NewFrom : TableId → Setting → ℕ → ℕ → List PassView → Type 0
NewFrom lock setting count from [] = Unit {0}
NewFrom lock setting count from (p ∷ ps) = (p ≡ new_pass lock setting count from) × NewFrom lock setting count (from + 1) ps

new_from : (lock : TableId) (setting : Setting) (count from : ℕ) (ps : List PassView) → ((k : ℕ) (d : PassView) → k < length ps → slice_index_or ps k d ≡ new_pass lock setting count (from + k)) → NewFrom lock setting count from ps
new_from lock setting count from [] each = tt
new_from lock setting count from (p ∷ ps) each =
    let here : from + 0 ≡ from = omega arith in
    let next : (k : ℕ) → from + suc k ≡ from + 1 + k = (λ k. omega arith) in
    (each 0 p (omega arith) ∙ ap (new_pass lock setting count) here, new_from lock setting count (from + 1) ps (λ k d lt. each (suc k) d (omega (arith, lt)) ∙ ap (new_pass lock setting count) (next k)))

settled_new : (lock : TableId) (setting : Setting) (count number : ℕ) → IsSettled (new_pass lock setting count number)
settled_new lock setting count number = record { numbers = IsPermutation-refl []; fates = tt }

module _ (lock : TableId) (setting : Setting) (count : ℕ) where
  each_one : (from : ℕ) (olds news : List PassView) → NewFrom lock setting count from olds → AllStaySettled olds news → AllByRecursion (IsOneOf lock setting count) news × AllByRecursion IsSettled news × (map (λ (p : PassView). p.number) news ≡ range_with_len from (length news)) × (length news ≡ length olds)
  each_one from [] [] new work = (tt, tt, refl, refl)
  each_one from [] (n ∷ ns) new work = absurd work
  each_one from (o ∷ os) [] new work = absurd work
  each_one from (o ∷ os) (n ∷ ns) new work =
      let rest = each_one (from + 1) os ns new.1 work.1 in
      let same = work.0.same in (
        (
          record {
            lock_is = ap (λ p. p.lock) same ∙ ap (λ p. p.lock) new.0;
            setting_is = ap (λ p. p.setting) same ∙ ap (λ p. p.setting) new.0;
            seats_are = ap (λ p. p.seats) same ∙ ap (λ p. p.seats) new.0;
            alone = ap (λ p. p.joined) same ∙ ap (λ p. p.joined) new.0;
          },
          rest.0,
        ),
        (work.0.settled (subst IsSettled (sym new.0) (settled_new lock setting count from)), rest.1),
        ap₂ (λ m ms. m ∷ ms) (ap (λ p. p.number) same ∙ ap (λ p. p.number) new.0) rest.2,
        omega (arith, rest.3),
      )

  -- the passes of a new channel that stayed settled are all of its passes, with no ticket outside
  pub all_stayed : (olds news : List PassView) → IsNewChannel lock setting count olds → 0 < count → AllStaySettled olds news → AreAllPasses lock news × AreSettled news
  all_stayed olds news new some work =
      let each = each_one 0 olds news (new_from lock setting count 0 olds (λ k d lt. let same : k ≡ 0 + k = omega arith in new.each k d (omega (arith, lt, new.all)) ∙ ap (new_pass lock setting count) same)) work in
      let len : length news ≡ count = each.3 ∙ new.all in (
        record {
          setting = setting;
          some = omega (arith, len, some);
          each = subst (λ n. AllByRecursion (IsOneOf lock setting n) news) (sym len) each.0;
          numbers = subst (IsPermutation (range_with_len 0 (length news))) (sym each.2) (IsPermutation-refl (range_with_len 0 (length news)));
        },
        each_settled news each.1,
      )

-- passes to which nothing happens, and one more behind others
pub all_stay_none : (passes : List PassView) → AllStaySettled passes passes
all_stay_none [] = tt
all_stay_none (p ∷ ps) = (stays_none p, all_stay_none ps)

pub all_stay_more : (olds news : List PassView) (old new : PassView) → AllStaySettled olds news → StaysSettled old new → AllStaySettled (olds ++ old ∷ []) (news ++ new ∷ [])
all_stay_more [] [] old new all one = (one, tt)
all_stay_more [] (n ∷ ns) old new all one = absurd all
all_stay_more (o ∷ os) [] old new all one = absurd all
all_stay_more (o ∷ os) (n ∷ ns) old new all one = (all.0, all_stay_more os ns old new all.1 one)

-- the passes of a new channel are at its lock
pub all_at : (lock : TableId) (setting : Setting) (count : ℕ) (passes : List PassView) → IsNewChannel lock setting count passes → AllByRecursion (λ (p : PassView). p.lock ≡ lock) passes
all_at lock setting count passes new = each_at 0 passes (new_from lock setting count 0 passes (λ k d lt. let same : k ≡ 0 + k = omega arith in new.each k d (omega (arith, lt, new.all)) ∙ ap (new_pass lock setting count) same))
  where
    each_at : (from : ℕ) (ps : List PassView) → NewFrom lock setting count from ps → AllByRecursion (λ (p : PassView). p.lock ≡ lock) ps
    each_at from [] new = tt
    each_at from (p ∷ ps) new = (ap (λ (q : PassView). q.lock) new.0, each_at (from + 1) ps new.1)
