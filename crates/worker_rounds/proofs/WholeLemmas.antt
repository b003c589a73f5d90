-- From a new channel's passes to those with which it is served.
use Rattle.std.proofs.Common.{◌≡◌, ◌∙◌, ◌<◌, ℕ, suc, ◌+◌, List, [], ◌∷◌, ◌++◌, Result, length, map, refl, ap, append_assoc, sym, subst, arith}
use Rattle.std.proofs.lemmas.List.{append-nil}
use Rattle.std.proofs.lemmas.List.Sorted.{IsPermutation-refl}
use Rattle.std.specs.List.{AllByRecursion}
use Rattle.std.specs.List.Sorted.{IsPermutation}
use Rattle.std.specs.Prelude.{insert, slice_index_or}
use Rattle.atomic_table.specs.Seated.{TableId}
use Rattle.chan_types.specs.declared.answer.Answer.{Answer}
use Rattle.chan_types.specs.declared.spec.Spec.{Spec}
use Rattle.channel_model.specs.Setting.{Setting}
use Rattle.completion_ticket.specs.States.{CallbackState}
use Rattle.pooled_places.specs.Standing.{AreStill}
use Rattle.pooled_places.proofs.Theorems.{all_still, still_more, still_none}
use Rattle.shared_channel.specs.Finishing.{AreAllPasses}
use Rattle.shared_channel.specs.Making.{IsNewChannel, new_pass}
use Rattle.shared_channel.specs.Passes.{PassView}
use Rattle.shared_channel.specs.Settling.{AreSettled, IsFateSeen, IsSettled, taken_in}
use Rattle.shared_channel.specs.Staying.{AreAt, StaysSettled}
use Rattle.shared_channel.proofs.Theorems.{all_at, each_settled, stays_accept, stays_more, stays_same}
use Rattle.worker_rounds.specs.Whole.{AsksEach, AsksOne}

-- requests that are asked leave a pass settled
asks_stay : (requests : List (Spec × CallbackState)) (old new : PassView) → AsksEach requests old new → StaysSettled old new
asks_stay [] old new same = stays_same old new same
asks_stay (r ∷ rs) old new each = stays_more old each.0 new (stays_accept r.0 r.1 each.1.0 old each.0 each.1.1) (asks_stay rs each.0 new each.2)

pub asks_none : (pass : PassView) → AsksEach [] pass pass
asks_none pass = refl

pub asks_more : (requests : List (Spec × CallbackState)) (request : Spec × CallbackState) (old middle new : PassView) → AsksEach requests old middle → AsksOne request middle new → AsksEach (requests ++ request ∷ []) old new
asks_more [] request old middle new same one = (new, subst (λ p. AsksOne request p new) same one, refl)
asks_more (r ∷ rs) request old middle new each one = (each.0, each.1, asks_more rs request each.0 middle new each.2 one)

-- nothing was made or told through the pass: then it has no ticket outside
abbrev IsUnused : PassView → Type 0
IsUnused pass = (pass.own ≡ []) × (pass.calls ≡ [])

unused_settled : (pass : PassView) → IsUnused pass → IsSettled pass
unused_settled pass unused = record {
  numbers = subst (λ ns. IsPermutation ns (map (λ (a : Answer). a.number) pass.calls)) (sym (ap taken_in unused.0)) (subst (λ calls. IsPermutation [] (map (λ (a : Answer). a.number) calls)) (sym unused.1) (IsPermutation-refl []));
  fates = subst (AllByRecursion (IsFateSeen pass)) (sym unused.1) tt;
}

each_unused_settled : (passes : List PassView) → AllByRecursion IsUnused passes → AllByRecursion IsSettled passes
each_unused_settled [] each = tt
each_unused_settled (p ∷ ps) each = (unused_settled p each.0, each_unused_settled ps each.1)

module _ (lock : TableId) (setting : Setting) (count : ℕ) where
  -- new passes weren't used
  each_unused : (passes : List PassView) (from : ℕ) → ((k : ℕ) (d : PassView) → k < length passes → slice_index_or passes k d ≡ new_pass lock setting count (from + k)) → AllByRecursion IsUnused passes
  each_unused [] from each = tt
  each_unused (p ∷ ps) from each =
      let here : p ≡ new_pass lock setting count (from + 0) = each 0 p (omega arith) in
      ((ap (λ (q : PassView). q.own) here, ap (λ (q : PassView). q.calls) here), each_unused ps (from + 1) (λ k d lt. let next : from + suc k ≡ from + 1 + k = omega arith in each (suc k) d (omega (arith, lt)) ∙ ap (new_pass lock setting count) next))

  news_unused : (news : List PassView) → IsNewChannel lock setting count news → AllByRecursion IsUnused news
  news_unused news made = each_unused news 0 (λ k d lt. let same : k ≡ 0 + k = omega arith in made.each k d (omega (arith, lt, made.all)) ∙ ap (new_pass lock setting count) same)

  -- with the requests asked through the first no ticket is outside
  pub asked_settled : (requests : List (Spec × CallbackState)) (owner asked : PassView) (workers : List PassView) → IsNewChannel lock setting count (owner ∷ workers) → AsksEach requests owner asked → AreSettled (asked ∷ workers)
  asked_settled requests owner asked workers made asks =
      let unused = news_unused (owner ∷ workers) made in
      each_settled (asked ∷ workers) ((asks_stay requests owner asked asks).settled (unused_settled owner unused.0), each_unused_settled workers unused.1)

  pub asked_at : (requests : List (Spec × CallbackState)) (owner asked : PassView) (workers : List PassView) → IsNewChannel lock setting count (owner ∷ workers) → AsksEach requests owner asked → AreAt lock (asked ∷ workers)
  asked_at requests owner asked workers made asks =
      let at = all_at lock setting count (owner ∷ workers) made in
      (ap (λ (q : PassView). q.lock) (asks_stay requests owner asked asks).same ∙ at.0, at.1)

  -- and behind that all of the channel's passes
  pub served_all : (requests : List (Spec × CallbackState)) (owner asked : PassView) (workers served : List PassView) → IsNewChannel lock setting count (owner ∷ workers) → 0 < count → AsksEach requests owner asked → AreStill (asked ∷ workers) served → AreAllPasses lock served
  served_all requests owner asked workers served made some asks still =
      all_still served made some (still_more (owner ∷ workers) (asked ∷ workers) served ((asks_stay requests owner asked asks).same, still_none workers) still)

-- the same passes are as many
pub still_len : (olds news : List PassView) → AreStill olds news → length news ≡ length olds
still_len [] [] still = refl
still_len [] (n ∷ ns) still = absurd still
still_len (o ∷ os) [] still = absurd still
still_len (o ∷ os) (n ∷ ns) still = omega (arith, still_len os ns still.1)

-- so far the first of these requests were asked
pub record IsAsking (all left : List (Spec × CallbackState)) (old now : PassView) : Type 0 where
  pub done : List (Spec × CallbackState)
  pub parts : done ++ left ≡ all
  pub asked : AsksEach done old now

pub asking_none : (all left : List (Spec × CallbackState)) (old now : PassView) → left ≡ all → now ≡ old → IsAsking all left old now
asking_none all left old now left_is same = record { done = []; parts = left_is; asked = same }

pub asking_more : (all left rest : List (Spec × CallbackState)) (request : Spec × CallbackState) (old now new : PassView) → IsAsking all left old now → left ≡ request ∷ rest → AsksOne request now new → IsAsking all rest old new
asking_more all left rest request old now new so_far front one = record {
  done = so_far.done ++ request ∷ [];
  parts = append_assoc so_far.done (request ∷ []) rest ∙ ap (λ l. so_far.done ++ l) (sym front) ∙ so_far.parts;
  asked = asks_more so_far.done request old now new so_far.asked one;
}

pub asking_all : (all left : List (Spec × CallbackState)) (old now new : PassView) → IsAsking all left old now → left ≡ [] → new ≡ now → AsksEach all old new
asking_all all left old now new so_far none same =
    subst (AsksEach all old) (sym same) (subst (λ l. AsksEach l old now) (sym (append-nil so_far.done) ∙ ap (λ l. so_far.done ++ l) (sym none) ∙ so_far.parts) so_far.asked)

-- a list with an item in front of it
pub insert_front : {X : Type 0} (xs : List X) (x : X) → insert xs 0 x ≡ x ∷ xs
insert_front [] x = refl
insert_front (y ∷ ys) x = refl
