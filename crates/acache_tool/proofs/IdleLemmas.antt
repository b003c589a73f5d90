-- A channel all of whose requests were taken, and one whose last request is open: there a session isn't over, and nobody disturbs it.
use Rattle.std.proofs.Common.{◌≡◌, ◌∙◌, ℕ, ◌+◌, List, [], ◌∷◌, ◌++◌, length, map, refl, ap, sym, subst, ⊎_elim}
use Rattle.std.specs.Prelude.{Ok, Option}
use Rattle.std.proofs.lemmas.List.{append-nil, map-append}
use Rattle.net_world.specs.declared.log.WorldCall.{WorldCall}
use Rattle.channel_model.specs.Completion.{requests, taken}
use Rattle.channel_model.specs.Journal.{Accepted, accepted, past_of}
use Rattle.channel_model.specs.Lawful.{IsLawful}
use Rattle.channel_session.proofs.AloneLemmas.{undisturbed}
use Rattle.channel_session.specs.Advancing.{Advances}
use Rattle.channel_session.specs.Left.{IsOver}
use Rattle.channel_session.specs.Progressing.{IsDisturbed}
use Rattle.channel_session.specs.Sitting.{Sitting, moment_of}
use Rattle.channel_table.specs.Calling.{Owned, known_by_owner}
use Rattle.run_end.specs.declared.loop_end.LoopEnd.TheVariants.{Completed}
use Rattle.tool_line.specs.Words.{Text}
use Rattle.acache_tool.specs.Bringing.{AsksFor}
use Rattle.acache_tool.specs.Growing.{Grows, HasOpen, IsIdle}
use Rattle.acache_tool.specs.Naming.{Scene, Tries}
use Rattle.acache_tool.specs.Parts.{request_for}
use Rattle.acache_tool.specs.declared.asking.Asker.{Asker}
use Rattle.acache_tool.proofs.OwnerLemmas.{grows_on}
use Rattle.acache_tool.proofs.RequestLemmas.{left_last, takes_last}

-- behind the Accept of a name its request is open
pub open_asked : (name : Text) (a b : Owned) → IsIdle a → AsksFor name (Ok tt) a b → HasOpen b
open_asked name a b idle asks =
    let n : ℕ = length (accepted (past_of a.seen)) + 1 in
    record {
      lawful = asks.0.lawful idle.lawful;
      last = n;
      but_last = ap (map (λ (r : Accepted). r.number)) asks.0.accepts_are
          ∙ map-append (λ (r : Accepted). r.number) (accepted (past_of a.seen)) (request_for n name ∷ [])
          ∙ ap (λ ns. ns ++ n ∷ []) (idle.all_taken ∙ sym (asks.0.takes_are ∙ append-nil (taken (past_of a.seen))));
    }

-- entries that accept nothing leave what was accepted
same_requests : (takes : List ℕ) (a b : Owned) → Grows [] takes a b → requests (past_of b.seen) ≡ requests (past_of a.seen)
same_requests takes a b grows = ap (map (λ (r : Accepted). r.number)) (grows.accepts_are ∙ append-nil (accepted (past_of a.seen)))

-- where a request is taken it is the open one, and none is open then
idle_answered : (number : ℕ) (a b : Owned) → a.voice ≡ 0 → HasOpen a → Grows [] (number ∷ []) a b → IsIdle b
idle_answered number a b silent has grows =
    let lawful : IsLawful b.setting b.seen = grows.lawful has.lawful in
    let asked : requests (past_of b.seen) ≡ taken (past_of a.seen) ++ has.last ∷ [] = same_requests (number ∷ []) a b grows ∙ has.but_last in
    let same : number ≡ has.last = takes_last b.setting (past_of b.seen) lawful.allowed (taken (past_of a.seen)) has.last number asked grows.takes_are in
    record {
      silent = grows.voice ∙ silent;
      lawful = lawful;
      all_taken = asked ∙ ap (λ n. taken (past_of a.seen) ++ n ∷ []) (sym same) ∙ sym grows.takes_are;
    }

-- so the channel is idle again behind each name
pub idle_kept : (name : Text) (f g : ℕ) (a b : Scene) → Tries (Ok Completed) f g name a b → IsIdle a.asker.alone → IsIdle b.asker.alone
idle_kept name f g a b tries idle = ⊎_elim
    (λ hit. subst (λ (asker : Asker). IsIdle asker.alone) (sym hit.asker) idle)
    (λ sent. idle_answered sent.answer.number sent.channel b.asker.alone (sent.asked.asks.0.voice ∙ idle.silent) (open_asked name a.asker.alone sent.channel idle sent.asked.asks) sent.brings.0.grows)
    tries.3

module _ (a b : Owned) where
  -- where a request is open, nothing was taken, and nothing is left: that can't be
  pub not_over : (made : ℕ) (s t : Sitting) (l m : Option (List WorldCall)) → HasOpen a → Advances made [] (moment_of (known_by_owner a) s l) (moment_of (known_by_owner b) t m) → IsOver (known_by_owner b) → ⊥
  not_over made s t l m has x over =
      let grows : Grows [] [] a b = grows_on [] a b x.goes_on x.own x.takes in
      let lawful : IsLawful b.setting b.seen = grows.lawful has.lawful in
      left_last b.setting (past_of b.seen) lawful.allowed (taken (past_of a.seen)) has.last (same_requests [] a b grows ∙ has.but_last) (grows.takes_are ∙ append-nil (taken (past_of a.seen))) over.0 over.1

  -- its owner is never disturbed
  pub not_disturbed : IsDisturbed (known_by_owner a) (known_by_owner b) → ⊥
  not_disturbed = undisturbed (known_by_owner a) (known_by_owner b) refl refl
