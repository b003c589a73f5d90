-- What bringing the channel to its next answer comes to, by what a session comes to.
use Rattle.std.proofs.Common.{◌≡◌, ◌∙◌, ℕ, ◌+◌, ◌≤◌, List, [], ◌∷◌, ◌++◌, refl, ap, sym, subst, arith, inl, inr}
use Rattle.std.specs.Prelude.{Err, Ok, Option, Result, is_err, true}
use Rattle.item_list.specs.declared.no_memory.NoMemory.{NoMemory}
use Rattle.chan_types.specs.Plans.{Plan}
use Rattle.chan_types.specs.declared.answer.Answer.{Answer}
use Rattle.chan_types.specs.declared.ticket.Ticket.{Ticket}
use Rattle.net_world.specs.declared.log.WorldCall.{WorldCall}
use Rattle.channel_session.specs.Advancing.{Advances}
use Rattle.channel_session.specs.Progressing.{ComesBy}
use Rattle.channel_session.specs.Sitting.{Sitting, moment_of, reach_of}
use Rattle.channel_session.specs.declared.progress.Progress.{Progress}
use Rattle.channel_session.specs.declared.progress.Progress.TheVariants.{Completed, Stalled as HasStalled, WaitFault as WaitFailed}
use Rattle.channel_table.specs.Calling.{Owned, known_by_owner}
use Rattle.event_runner.proofs.Theorems.{ran_at_most, ran_so_far}
use Rattle.owner_laws.specs.Sessions.{longest_slice}
use Rattle.acache_tool.specs.Bringing.{Answers, Brings, RanOn}
use Rattle.acache_tool.specs.declared.asking.Asker.{Asker}
use Rattle.acache_tool.specs.declared.asking.Brought.{Brought}
use Rattle.acache_tool.specs.declared.asking.Brought.TheVariants.{Answered, Stalled, WaitFault}
use Rattle.acache_tool.proofs.OwnerLemmas.{grows_on, left_pending, taken_fate}

abbrev pub asker_of : Sitting → Owned → List Answer → ℕ → Asker
asker_of session alone calls left = record { session = session; alone = alone; calls = calls; left = left }

module _ {T : Type 0} (plan : T → Plan) (name : T → ℕ) (f g : ℕ) (a b : Owned) (s t : Sitting) (calls : List Answer) (left_old left_new : ℕ) (l m : Option (List WorldCall)) where
  -- want of memory came behind so many turns
  ran_stood : (made : ℕ) (taken : List ℕ) → made ≤ left_old → Advances made taken (moment_of (known_by_owner a) s l) (moment_of (known_by_owner b) t m) →
      (after : List Answer) → RanOn left_old (asker_of s a calls left_old) (asker_of t b after left_new) l m
  ran_stood made taken few x after began turns asides here =
      let stands = x.stands began turns asides here in
      ran_at_most longest_slice (turns + made) (turns + left_old) asides (known_by_owner b) began m (omega (arith, few))
      (ran_so_far longest_slice (turns + made) asides began m (reach_of t.behind_turn) (known_by_owner b) t.running stands.runs)

  abbrev Came : Result (Progress T) NoMemory → Type 0
  Came result = ComesBy plan name left_old left_new f g result (moment_of (known_by_owner a) s l) (moment_of (known_by_owner b) t m)

  answers : (ticket : Ticket T) → Came (Ok (Completed ticket)) → Answers ticket.call (asker_of s a calls left_old) (asker_of t b (calls ++ ticket.call ∷ []) left_new)
  answers ticket came = record {
    grows = grows_on (ticket.call.number ∷ []) a b came.2.0.goes_on came.2.0.own came.2.0.takes;
    its_fate = taken_fate plan ticket came.2.1.before (known_by_owner b) came.2.1.takes;
    called = refl;
  }

  -- by what the session came to
  pub brings_answer : (ticket : Ticket T) (answer call : Answer) (after : List Answer) → answer ≡ call → call ≡ ticket.call → after ≡ calls ++ call ∷ [] → Came (Ok (Completed ticket)) →
      Brings (Ok (Answered answer)) f g (asker_of s a calls left_old) (asker_of t b after left_new) l m
  brings_answer ticket answer call after same is_call added came =
      let told : after ≡ calls ++ ticket.call ∷ [] = added ∙ ap (λ x. calls ++ x ∷ []) is_call in
      subst (λ x. Brings (Ok (Answered x)) f g (asker_of s a calls left_old) (asker_of t b after left_new) l m) (sym (same ∙ is_call))
      (subst (λ xs. Brings (Ok (Answered ticket.call)) f g (asker_of s a calls left_old) (asker_of t b xs left_new) l m) (sym told)
      (answers ticket came, came.2.0.grows, (came.0, came.1, came.2.0.stands)))

  pub brings_wait_fault : Came (Ok WaitFailed) → Brings (Ok WaitFault) f g (asker_of s a calls left_old) (asker_of t b calls left_new) l m
  brings_wait_fault came = (
    record { grows = grows_on [] a b came.2.0.goes_on came.2.0.own came.2.0.takes; called = refl },
    came.2.2,
    came.2.1,
    (came.0, came.1, λ began turns asides here. (came.2.0.rests began turns asides here, came.2.0.begun began turns asides here)),
  )

  pub brings_stalled : Came (Ok HasStalled) → Brings (Ok Stalled) f g (asker_of s a calls left_old) (asker_of t b calls left_new) l m
  brings_stalled came =
      let all : came.0 ≡ left_old = omega (arith, came.1, came.2.1) in
      let stood : Advances left_old [] (moment_of (known_by_owner a) s l) (moment_of (known_by_owner b) t m) =
      subst (λ made. Advances made [] (moment_of (known_by_owner a) s l) (moment_of (known_by_owner b) t m)) all came.2.0 in (
        record { grows = grows_on [] a b came.2.0.goes_on came.2.0.own came.2.0.takes; called = refl },
        came.2.1,
        left_pending a b came.2.2,
        stood.grows,
        stood.stands,
      )

  -- want of memory came to the session, or behind an answer
  pub brings_cut : (fault : NoMemory) (result : Result Brought NoMemory) → is_err result ≡ true → Came (Err fault) → Brings result f g (asker_of s a calls left_old) (asker_of t b calls left_new) l m
  brings_cut fault (Ok brought) err came = absurd (cc err)
  brings_cut fault (Err again) err came = (
    inl (record { grows = grows_on [] a b came.goes_on came.own came.takes; called = refl }),
    came.ran,
  )

  pub brings_uncopied : (ticket : Ticket T) (call : Answer) (after : List Answer) (result : Result Brought NoMemory) → is_err result ≡ true → call ≡ ticket.call → after ≡ calls ++ call ∷ [] →
      Came (Ok (Completed ticket)) → Brings result f g (asker_of s a calls left_old) (asker_of t b after left_new) l m
  brings_uncopied ticket call after (Ok brought) err is_call added came = absurd (cc err)
  brings_uncopied ticket call after (Err fault) err is_call added came =
      let told : after ≡ calls ++ ticket.call ∷ [] = added ∙ ap (λ x. calls ++ x ∷ []) is_call in
      subst (λ xs. Brings (Err fault) f g (asker_of s a calls left_old) (asker_of t b xs left_new) l m) (sym told) (
        inr (ticket.call, answers ticket came),
        ran_stood came.0 (ticket.call.number ∷ []) (omega (arith, came.1)) came.2.0 (calls ++ ticket.call ∷ []),
      )
