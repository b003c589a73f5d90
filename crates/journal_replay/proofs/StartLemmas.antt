-- A Start that is made once more: the table's is the wanted one exactly where that is allowed.
use Rattle.std.proofs.Common.{ap, ap₂, arith, subst, sym, true≢false, ◌∙◌}
use Rattle.std.proofs.Math.Nat.{mod-eq_of_lt}
use Rattle.std.specs.Bool.{then_some}
use Rattle.std.specs.Prelude.{Bool, Decides, IsFalse, IsTrue, List, None, Ok, Option, Some, false, is_some, suc, true, unwrap_or, zero, ℕ, ◌%◌, ◌+◌, ◌<◌, ◌^◌, ◌≡◌}
use Rattle.chan_types.specs.declared.journal.What.{What}
use Rattle.chan_types.specs.declared.journal.What.TheVariants.{Start}
use Rattle.channel_model.proofs.ListLemmas.{none_is_some}
use Rattle.channel_model.specs.Choice.{chosen_link, chosen_server}
use Rattle.channel_model.specs.Flight.{begun_by}
use Rattle.channel_model.specs.Identifiers.{IsFirstFree}
use Rattle.channel_model.specs.Journal.{Past, past_of}
use Rattle.channel_model.specs.Lawful.{IsAllowed, MayStart, first, is_mixed, is_used}
use Rattle.channel_model.specs.Legs.{leg_of}
use Rattle.channel_model.specs.Meanings.{Starts}
use Rattle.channel_model.specs.Seen.{Happens, Seen}
use Rattle.channel_model.specs.Setting.{Setting}
use Rattle.channel_model.specs.declared.answers.Begun.{Begun}
use Rattle.channel_model.specs.declared.answers.Begun.TheVariants.{Idle, NoId, Started}
use Rattle.net_addr.specs.declared.addr.ServerAddr.{ServerAddr}
use Rattle.journal_replay.proofs.FollowLemmas.{followed, refused, some_same}
use Rattle.journal_replay.specs.Replays.{Follows, IsBegun, start_of}
use Rattle.journal_replay.specs.declared.steps.Attempt.{Attempt}

-- bits that are there exactly where they are drawn are those that are drawn
drawn_again : (mix : Option ℕ) (draws : Bool) → is_some mix ≡ draws → then_some draws (unwrap_or mix 0) ≡ mix
drawn_again None draws is = ap (λ b. then_some b 0) (sym is)
drawn_again (Some bits) draws is = ap (λ b. then_some b bits) (sym is)

-- from a word that is free the first free identifier is the word itself
word_itself : (setting : Setting) (past : Past) (id word : ℕ) (steps : ℕ) → word < 2 ^ 16 → IsFalse (is_used setting word past) → id ≡ (word + steps) % 2 ^ 16
    → ((step : ℕ) → step < steps → IsTrue (is_used setting ((word + step) % 2 ^ 16) past)) → id ≡ word
word_itself setting past id word zero fits free reached passed = reached ∙ ap (λ n. n % 2 ^ 16) (omega arith) ∙ mod-eq_of_lt fits
word_itself setting past id word (suc steps) fits free reached passed =
    let own : (word + 0) % 2 ^ 16 ≡ word = ap (λ n. n % 2 ^ 16) (omega arith) ∙ mod-eq_of_lt fits in
    absurd (true≢false (sym (subst (λ n. is_used setting n past ≡ true) own (passed 0 (omega arith))) ∙ free))

module _ (old new : Seen) (number leg server link id : ℕ) (mix : Option ℕ) (moment : ℕ) where
  -- the wanted entry
  abbrev wanted : What
  wanted = Start number leg server link id mix moment

  -- the entry that the table makes, of these
  abbrev made : ℕ → ℕ → ℕ → ℕ → ℕ → What
  made n l s k i = Start n l s k i (then_some (is_mixed old.setting k) (unwrap_or mix 0)) moment

  -- where the wanted one is allowed it is made
  only_wanted : (n l s k i : ℕ) → MayStart old.setting (past_of old.journal) (leg_of n l) s k i (then_some (is_mixed old.setting k) (unwrap_or mix 0)) → IsFirstFree old.setting id i (past_of old.journal) → id < 2 ^ 16
      → IsAllowed old.setting (past_of old.journal) wanted → made n l s k i ≡ wanted
  only_wanted n l s k i may free fits allowed =
      let one : leg_of n l ≡ leg_of number leg = some_same _ _ (sym may.waits ∙ allowed.waits) in
      let to : s ≡ server = may.to_server ∙ ap (λ x. chosen_server old.setting x (past_of old.journal)) one ∙ sym allowed.to_server in
      let over : k ≡ link = may.over_link ∙ ap₂ (λ x y. chosen_link old.setting x y (past_of old.journal)) one to ∙ sym allowed.over_link in
      let own : i ≡ id = word_itself old.setting (past_of old.journal) i id free.steps fits allowed.own_id free.reached free.passed in
      let bits : then_some (is_mixed old.setting k) (unwrap_or mix 0) ≡ mix = drawn_again mix (is_mixed old.setting k) (allowed.mixes ∙ ap (is_mixed old.setting) (sym over)) in
      λ x. Start (one x).request (one x).number (to x) (over x) (own x) (bits x) moment

  -- a test of it decides whether the wanted one is allowed
  pub started_follows : (n l s k i : ℕ) (address : ServerAddr) (message : List ℕ) (b : Bool) (h : Happens (Starts id (unwrap_or mix 0) moment (Ok (Started n l s address k i message))) 0 0 old new) → id < 2 ^ 16
      → (b ≡ true → made n l s k i ≡ wanted) → (made n l s k i ≡ wanted → b ≡ true) → Follows wanted old new b
  started_follows n l s k i address message b h fits to from =
      followed old new (Starts id (unwrap_or mix 0) moment (Ok (Started n l s address k i message))) h wanted b
      (λ e. (subst (IsAllowed old.setting (past_of old.journal)) (to e) h.meant.1, h.meant.0 ∙ ap Some (to e)))
      (λ a. from (only_wanted n l s k i h.meant.1 h.meant.2 fits a))

  -- no leg waits
  pub idle_refuses : (h : Happens (Starts id (unwrap_or mix 0) moment (Ok Idle)) 0 0 old new) → Follows wanted old new false
  idle_refuses h = refused old new wanted (λ a. none_is_some (leg_of number leg) (sym (ap first h.meant.1) ∙ a.waits))

  -- all identifiers are in flight
  pub used_refuses : (h : Happens (Starts id (unwrap_or mix 0) moment (Ok NoId)) 0 0 old new) → id < 2 ^ 16 → Follows wanted old new false
  used_refuses h fits = refused old new wanted (λ a. true≢false (sym (h.meant.2 id fits) ∙ a.own_id))

-- the same of an attempt as a whole
pub begun_follows : (old new : Seen) (attempt : Attempt) (draws : Bool) (word bits : ℕ) (begun : Begun) (is : Bool) → draws ≡ old.setting.options.flags.mix → word ≡ attempt.id → word < 2 ^ 16 → bits ≡ unwrap_or attempt.mix 0
    → Happens (Starts word bits attempt.moment (Ok begun)) 0 0 old new → IsBegun attempt draws bits begun is → Follows (start_of attempt) old new is
begun_follows old new attempt draws word bits (Started n l s address k i message) is drawn own fits given h decides =
    let happens : Happens (Starts attempt.id (unwrap_or attempt.mix 0) attempt.moment (Ok (Started n l s address k i message))) 0 0 old new =
    subst (λ (b : ℕ). Happens (Starts attempt.id b attempt.moment (Ok (Started n l s address k i message))) 0 0 old new) given
    (subst (λ (w : ℕ). Happens (Starts w bits attempt.moment (Ok (Started n l s address k i message))) 0 0 old new) own h) in
    let same : Decides is (record { number = n; leg = l; server = s; link = k; id = i; mix = then_some (is_mixed old.setting k) (unwrap_or attempt.mix 0); moment = attempt.moment } ≡ attempt) =
    subst (λ (b : ℕ). IsBegun attempt old.setting.options.flags.mix b (Started n l s address k i message) is) given
    (subst (λ (d : Bool). IsBegun attempt d bits (Started n l s address k i message) is) drawn decides) in
    started_follows old new attempt.number attempt.leg attempt.server attempt.link attempt.id attempt.mix attempt.moment n l s k i address message is happens (subst (λ (w : ℕ). w < 2 ^ 16) own fits)
    (λ e. ap start_of (same.0 e))
    (λ made_is. same.1 (let a = some_same _ _ (ap begun_by made_is) in λ x. record { number = (a x).leg.request; leg = (a x).leg.number; server = (a x).server; link = (a x).link; id = (a x).id; mix = (a x).mix; moment = attempt.moment }))
begun_follows old new attempt draws word bits Idle is drawn own fits given h never =
    let happens : Happens (Starts attempt.id (unwrap_or attempt.mix 0) attempt.moment (Ok Idle)) 0 0 old new =
    subst (λ (b : ℕ). Happens (Starts attempt.id b attempt.moment (Ok Idle)) 0 0 old new) given (subst (λ (w : ℕ). Happens (Starts w bits attempt.moment (Ok Idle)) 0 0 old new) own h) in
    subst (Follows (start_of attempt) old new) (sym never) (idle_refuses old new attempt.number attempt.leg attempt.server attempt.link attempt.id attempt.mix attempt.moment happens)
begun_follows old new attempt draws word bits NoId is drawn own fits given h never =
    let happens : Happens (Starts attempt.id (unwrap_or attempt.mix 0) attempt.moment (Ok NoId)) 0 0 old new =
    subst (λ (b : ℕ). Happens (Starts attempt.id b attempt.moment (Ok NoId)) 0 0 old new) given (subst (λ (w : ℕ). Happens (Starts w bits attempt.moment (Ok NoId)) 0 0 old new) own h) in
    subst (Follows (start_of attempt) old new) (sym never)
    (used_refuses old new attempt.number attempt.leg attempt.server attempt.link attempt.id attempt.mix attempt.moment happens (subst (λ (w : ℕ). w < 2 ^ 16) own fits))
