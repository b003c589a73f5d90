-- A stand that is served, one stretch after the other.
use Rattle.std.proofs.Common.{◌≡◌, ◌∙◌, ◌<◌, ℕ, suc, zero, List, [], ◌∷◌, None, Option, Some, length, map, refl, ap, sym, subst, arith, inl, inr}
use Rattle.std.specs.List.{AllZip}
use Rattle.std.specs.Prelude.{slice_index_or}
use Rattle.atomic_table.specs.Seated.{TableId}
use Rattle.channel_fleet.specs.Beside.{DoEach, MayEach}
use Rattle.channel_fleet.specs.Serving.{IsBegun, NeedsMemory, Serves, Watch, first_steering, watch_of}
use Rattle.channel_fleet.specs.Stands.{AreHelmsOf, IsAtLock, IsInServe, ServesStand, StaysInServe, SteersOn, steering_at, watch_at}
use Rattle.channel_fleet.specs.Staying.{AllHelmsStay}
use Rattle.channel_fleet.specs.Steering.{Goes, made_by}
use Rattle.channel_fleet.specs.Views.{HelmView}
use Rattle.channel_fleet.specs.declared.helm_end.HelmEnd.{HelmEnd}
use Rattle.channel_fleet.specs.declared.helm_end.HelmEnd.TheVariants.{Done, NoMemory}
use Rattle.channel_fleet.specs.declared.stand.Stand.{Stand}
use Rattle.event_runner.specs.Running.{Running}
use Rattle.item_list.specs.declared.no_memory.NoMemory.{NoMemory as Wants}
use Rattle.net_world.specs.declared.log.WorldCall.{WorldCall}
use Rattle.shared_channel.specs.Passes.{PassView}
use Rattle.channel_fleet.proofs.HelmLemmas.{stays_serves}
use Rattle.channel_fleet.proofs.ServeLemmas.{began_served}
use Rattle.channel_fleet.proofs.SteerLemmas.{goes_next}

-- what an option has that has something
some_is : {X : Type 0} (x y : X) → Some x ≡ Some y → x ≡ y
some_is {X} x y same = ap or_this same
  where
    or_this : Option X → X
    or_this None = x
    or_this (Some z) = z

module _ {B W J : Type 0} (log : W → Option (List WorldCall)) (wait_faults : W → ℕ) where
  -- a helm that has begun leaves all but its runner as it was
  pub begun : (turns : ℕ) (old : Watch) (taken : HelmView) (had : Option Running) (running : Running) (log_begun : Option (List WorldCall)) (faults : ℕ) (new : Stand B W J)
      → IsBegun old.helm running old.log log_begun → taken ≡ record old.helm { runner = had } → faults ≡ old.wait_faults → SteersOn log wait_faults old.helm.made turns (first_steering turns running log_begun faults taken) new → IsInServe log wait_faults turns old new
  begun turns old taken had running log_begun faults new begins is waits steers = inl (record {
    running = running;
    log_begun = log_begun;
    begins = begins;
    steered = subst (λ n. SteersOn log wait_faults old.helm.made turns (first_steering turns running log_begun n old.helm) new) waits (subst (λ h. SteersOn log wait_faults old.helm.made turns (first_steering turns running log_begun faults h) new) is steers);
  })

  -- one that had no memory to begin with
  pub idle : (turns : ℕ) (old : Watch) (new : Stand B W J) (fault : Wants) → new.end ≡ Some NoMemory → new.helm ≡ old.helm → NeedsMemory old.helm fault old.log (log new.world) → wait_faults new.world ≡ old.wait_faults → IsInServe log wait_faults turns old new
  idle turns old new fault end_is helm needs waits = inr (record { end_is = end_is; not_begun = record { end_is = refl; helm = helm; fault = fault; needs = needs; wait_faults = waits } })

  -- it steered on from where it stood
  pub steered_again : (stand new : Stand B W J) (helm : HelmView) (running : Running) → helm ≡ stand.helm → stand.end ≡ Some Done → helm.runner ≡ Some running
      → SteersOn log wait_faults stand.progress.earlier stand.progress.turns (steering_at running stand.progress (watch_of log wait_faults helm stand.world)) new → StaysInServe log wait_faults stand new
  steered_again stand new helm running same done has steers_on turns began (inl h) =
      let steers = subst (λ k. SteersOn log wait_faults stand.progress.earlier stand.progress.turns (steering_at running stand.progress (watch_of log wait_faults k stand.world)) new) same steers_on in
      let running_is : running ≡ h.steered.last.turning.running = some_is running h.steered.last.turning.running (sym has ∙ ap (λ (k : HelmView). k.runner) same ∙ h.steered.runner) in
      let here : steering_at running stand.progress (watch_at log wait_faults stand) ≡ h.steered.last =
      subst (λ r. steering_at r stand.progress (watch_at log wait_faults stand) ≡ h.steered.last) (sym running_is) h.steered.stands in
      let then : Goes stand.progress.earlier stand.progress.turns h.steered.last steers.last = subst (λ s. Goes stand.progress.earlier stand.progress.turns s steers.last) here steers.course in
      inl (record {
        running = h.running;
        log_begun = h.log_begun;
        begins = h.begins;
        steered = record {
          last = steers.last;
          course = goes_next (first_steering turns h.running h.log_begun began.wait_faults began.helm) h.steered.last steers.last h.steered.counts.0 h.steered.counts.1 h.steered.course then;
          runner = steers.runner;
          stands = steers.stands;
          counts = (steers.counts.0 ∙ h.steered.counts.0, steers.counts.1 ∙ h.steered.counts.1);
          made = steers.made ∙ ap (λ n. made_by n stand.progress.turns steers.last.turning) h.steered.counts.0 ∙ ap (λ n. made_by began.helm.made n steers.last.turning) h.steered.counts.1;
          why = steers.why;
          why_is = steers.why_is;
          ends = steers.ends;
        };
      })
  steered_again stand new helm running same done has steers_on turns began (inr i) = absurd (cc (sym done ∙ i.end_is))

  -- one that has ended as done has a runner
  pub none_left : (stand new : Stand B W J) → stand.end ≡ Some Done → stand.helm.runner ≡ None → StaysInServe log wait_faults stand new
  none_left stand new done none turns began (inl h) = absurd (cc (sym none ∙ h.steered.runner))
  none_left stand new done none turns began (inr i) = absurd (cc (sym done ∙ i.end_is))

  -- so it was served, as a helm is that is steered
  pub serves_stand : (turns : ℕ) (began : Watch) (new : Stand B W J) → IsInServe log wait_faults turns began new → (end : HelmEnd) × (new.end ≡ Some end) × Serves turns began end (watch_at log wait_faults new)
  serves_stand turns began new (inl h) = (h.steered.why, h.steered.why_is, inl (began_served log wait_faults turns began new h.running h.log_begun h.begins h.steered))
  serves_stand turns began new (inr i) = (NoMemory, i.end_is, inr i.not_begun)

  -- the same of a helm and its network that were made a stand and taken apart again
  pub serves_alone : (turns : ℕ) (stand new : Stand B W J) (helm helm_new : HelmView) (world world_new : W) (end : HelmEnd) → stand.helm ≡ helm → stand.world ≡ world → helm_new ≡ new.helm → world_new ≡ new.world → new.end ≡ Some end
      → IsInServe log wait_faults turns (watch_at log wait_faults stand) new → Serves turns (watch_of log wait_faults helm world) end (watch_of log wait_faults helm_new world_new)
  serves_alone turns stand new helm helm_new world world_new end helm_is world_is new_is new_world_is end_is is =
      let s = serves_stand turns (watch_at log wait_faults stand) new is in
      let end_same : s.0 ≡ end = some_is s.0 end (sym s.1 ∙ end_is) in
      subst (λ h. Serves turns (watch_of log wait_faults h world) end (watch_of log wait_faults helm_new world_new)) helm_is
      (subst (λ w. Serves turns (watch_of log wait_faults stand.helm w) end (watch_of log wait_faults helm_new world_new)) world_is
      (subst (λ e. Serves turns (watch_at log wait_faults stand) e (watch_of log wait_faults helm_new world_new)) end_same
      (subst (λ h. Serves turns (watch_at log wait_faults stand) s.0 (watch_of log wait_faults h world_new)) (sym new_is)
      (subst (λ w. Serves turns (watch_at log wait_faults stand) s.0 (watch_of log wait_faults new.helm w)) (sym new_world_is) s.2))))

  -- and is at its channel still
  pub in_serve_at : (turns : ℕ) (lock : TableId) (old new : Stand B W J) → IsInServe log wait_faults turns (watch_at log wait_faults old) new → IsAtLock lock old.helm → IsAtLock lock new.helm
  in_serve_at turns lock old new is at =
      let s = serves_stand turns (watch_at log wait_faults old) new is in
      let stay = stays_serves turns (watch_at log wait_faults old) (watch_at log wait_faults new) s.0 s.2 in
      (ap (λ (p : PassView). p.lock) stay.1.same ∙ at.0, ap (λ (p : PassView). p.lock) stay.0.same ∙ at.1)

  -- stands that were served in threads and then settled were served
  pub serves_each : (turns : ℕ) (olds middles news : List (Stand B W J)) → AllZip (λ old new. IsInServe log wait_faults turns (watch_at log wait_faults old) new) olds middles → AllZip (StaysInServe log wait_faults) middles news
      → AllZip (ServesStand log wait_faults turns) olds news
  serves_each turns [] [] [] in_serve stay = tt
  serves_each turns [] [] (n ∷ ns) in_serve stay = absurd stay
  serves_each turns [] (m ∷ ms) news in_serve stay = absurd in_serve
  serves_each turns (o ∷ os) [] news in_serve stay = absurd in_serve
  serves_each turns (o ∷ os) (m ∷ ms) [] in_serve stay = absurd stay
  serves_each turns (o ∷ os) (m ∷ ms) (n ∷ ns) in_serve stay = (serves_stand turns (watch_at log wait_faults o) n (stay.0 turns (watch_at log wait_faults o) in_serve.0), serves_each turns os ms ns in_serve.1 stay.1)

  -- behind the threads they are at their channels still
  pub each_in_serve_at : (turns : ℕ) (locks : List TableId) (olds news : List (Stand B W J)) → AllZip (λ old new. IsInServe log wait_faults turns (watch_at log wait_faults old) new) olds news → AreHelmsOf locks (map (λ stand. stand.helm) olds)
      → AreHelmsOf locks (map (λ stand. stand.helm) news)
  each_in_serve_at turns [] [] [] in_serve at = tt
  each_in_serve_at turns [] [] (n ∷ ns) in_serve at = absurd in_serve
  each_in_serve_at turns (l ∷ ls) [] news in_serve at = absurd at
  each_in_serve_at turns [] (o ∷ os) news in_serve at = absurd at
  each_in_serve_at turns (l ∷ ls) (o ∷ os) [] in_serve at = absurd in_serve
  each_in_serve_at turns (l ∷ ls) (o ∷ os) (n ∷ ns) in_serve at = (in_serve_at turns l o n in_serve.0 at.0, each_in_serve_at turns ls os ns in_serve.1 at.1)

-- what each of these did, item by item
pub zip_of : {X : Type 0} (R : X → X → Type 0) (xs ys : List X) → DoEach R xs ys → AllZip R xs ys
zip_of R [] [] each = tt
zip_of R [] (y ∷ ys) each = absurd (omega (arith, each.0))
zip_of R (x ∷ xs) [] each = absurd (omega (arith, each.0))
zip_of R (x ∷ xs) (y ∷ ys) each = (each.1 0 x (omega arith), zip_of R xs ys (omega (arith, each.0), λ k d below. each.1 (suc k) d (omega (arith, below))))

-- a weaker relation
pub zip_with : {X : Type 0} (R S : X → X → Type 0) (xs ys : List X) → ((x y : X) → R x y → S x y) → AllZip R xs ys → AllZip S xs ys
zip_with R S [] [] weaker each = tt
zip_with R S [] (y ∷ ys) weaker each = absurd each
zip_with R S (x ∷ xs) [] weaker each = absurd each
zip_with R S (x ∷ xs) (y ∷ ys) weaker each = (weaker x y each.0, zip_with R S xs ys weaker each.1)

-- relations that hold of items one behind the other
pub zip_then : {X Y Z : Type 0} (R : X → Y → Type 0) (S : Y → Z → Type 0) (T : X → Z → Type 0) (xs : List X) (ys : List Y) (zs : List Z) → ((x : X) (y : Y) (z : Z) → R x y → S y z → T x z) → AllZip R xs ys → AllZip S ys zs → AllZip T xs zs
zip_then R S T [] [] [] both first second = tt
zip_then R S T [] [] (z ∷ zs) both first second = absurd second
zip_then R S T [] (y ∷ ys) zs both first second = absurd first
zip_then R S T (x ∷ xs) [] zs both first second = absurd first
zip_then R S T (x ∷ xs) (y ∷ ys) [] both first second = absurd second
zip_then R S T (x ∷ xs) (y ∷ ys) (z ∷ zs) both first second = (both x y z first.0 second.0, zip_then R S T xs ys zs both first.1 second.1)

-- each helm is at the channel with its index
pub helms_may : {B W J : Type 0} (locks : List TableId) (stands : List (Stand B W J)) → AreHelmsOf locks (map (λ stand. stand.helm) stands) → MayEach (λ index stand. (index < length locks) × ((lock : TableId) → IsAtLock (slice_index_or locks index lock) stand.helm)) stands
helms_may [] [] at index d below = absurd (omega (arith, below))
helms_may (l ∷ ls) [] at index d below = absurd at
helms_may [] (s ∷ ss) at index d below = absurd at
helms_may (l ∷ ls) (s ∷ ss) at zero d below = (omega arith, λ lock. at.0)
helms_may (l ∷ ls) (s ∷ ss) at (suc k) d below = let more = helms_may ls ss at.1 k d (omega (arith, below)) in (omega (arith, more.0), more.1)

-- helms that were served have both of their passes still
pub served_stay : {B W J : Type 0} (log : W → Option (List WorldCall)) (wait_faults : W → ℕ) (turns : ℕ) (olds news : List (Stand B W J)) → AllZip (ServesStand log wait_faults turns) olds news → AllHelmsStay (map (λ stand. stand.helm) olds) (map (λ stand. stand.helm) news)
served_stay log wait_faults turns [] [] serves = tt
served_stay log wait_faults turns [] (n ∷ ns) serves = absurd serves
served_stay log wait_faults turns (o ∷ os) [] serves = absurd serves
served_stay log wait_faults turns (o ∷ os) (n ∷ ns) serves =
    let stay = stays_serves turns (watch_at log wait_faults o) (watch_at log wait_faults n) serves.0.0 serves.0.2 in
    (stay.0, stay.1, served_stay log wait_faults turns os ns serves.1)
