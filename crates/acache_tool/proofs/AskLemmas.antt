-- One name, from the reading of the clock on: what each part of that comes to.
use Rattle.std.proofs.Common.{◌≡◌, ◌∙◌, ℕ, List, Bool, true, false, refl, ap, sym, subst, inl, inr, ⊎_elim}
use Rattle.std.specs.Prelude.{Err, IfSome, None, Ok, Option, Result, Some, is_err, option_map, ◌++◌, ◌↔◌}
use Rattle.chan_types.specs.declared.answer.Answer.{Answer}
use Rattle.dns_message.specs.declared.message.Question.{Question}
use Rattle.item_list.specs.declared.no_memory.NoMemory.{NoMemory}
use Rattle.net_world.specs.declared.log.WorldCall.{WorldCall}
use Rattle.channel_session.specs.Sitting.{ReadsClock}
use Rattle.channel_table.specs.Calling.{Owned}
use Rattle.query_cache.specs.Cache.{Cache, after_keep, after_look, given}
use Rattle.query_cache.specs.Lifetime.{may_be_kept}
use Rattle.run_end.specs.declared.loop_end.LoopEnd.{LoopEnd}
use Rattle.run_end.specs.declared.loop_end.LoopEnd.TheVariants.{Completed, Stalled, WaitFault}
use Rattle.chan_types.specs.declared.spec.Spec.{Spec}
use Rattle.tool_line.specs.Heads.{page_of}
use Rattle.tool_line.specs.Words.{Text}
use Rattle.acache_tool.specs.Bringing.{AsksFor, Brings}
use Rattle.acache_tool.specs.Naming.{IsAsked, IsMiss, Scene, Sends, Tries, scene_of, with_channel}
use Rattle.acache_tool.specs.Parts.{head_of, question_of, spec_for}
use Rattle.acache_tool.specs.Shown.{IsGood, ShowsHit, ShowsSent, cache_with}
use Rattle.acache_tool.specs.declared.asking.Asker.{Asker}
use Rattle.acache_tool.specs.declared.asking.Brought.TheVariants.{Answered}
use Rattle.acache_tool.specs.declared.shown.Shown.{Shown}
use Rattle.acache_tool.proofs.OwnerLemmas.{grows_none, stands_same}

-- where no question is given an answer, the name is missed
pub missed_none : (name : Text) (at : ℕ) (shown : Shown) → question_of name ≡ None → IsMiss name at shown
missed_none name at shown none = subst (λ o. IfSome o (λ q. given q at shown.cache ≡ None)) (sym none) tt

pub missed_some : (name : Text) (at : ℕ) (question : Question) (old new : Shown) → question_of name ≡ Some question → ShowsHit false name question at old new → IsMiss name at old
missed_some name at question old new some hit = subst (λ o. IfSome o (λ q. given q at old.cache ≡ None)) (sym some) hit.0

module _ (f g : ℕ) (name : Text) (at : ℕ) (a : Asker) (s : Shown) (l m : Option (List WorldCall)) (n : Scene) where
  asked_as : (channel : Owned) → IsAsked name at (scene_of a s m) channel → IsAsked name at (scene_of a s l) channel
  asked_as channel x = record { missed = x.missed; asks = x.asks }

  -- what a request for the name came to is what the name came to
  pub sends_tries : (result : Result LoopEnd NoMemory) → ReadsClock (Ok at) a.session l m → Sends result f g name at (scene_of a s m) n m → Tries result f g name (scene_of a s l) n
  sends_tries (Ok Completed) reads x =
      (at, m, record { reads = reads }, inr (record { channel = x.channel; asked = asked_as x.channel x.asked; answer = x.answer; brings = x.brings; shows = x.shows }))
  sends_tries (Ok WaitFault) reads x = (at, m, record { reads = reads }, record { channel = x.channel; asked = asked_as x.channel x.asked; brings = x.brings })
  sends_tries (Ok Stalled) reads x = (at, m, record { reads = reads }, record { channel = x.channel; asked = asked_as x.channel x.asked; brings = x.brings })
  sends_tries (Err fault) reads x = inr (
    at,
    m,
    record { reads = reads },
    ⊎_elim
        (λ u. inl (record { grows = u.grows; stands = u.stands; asker = u.asker; no_call = u.no_call }))
        (λ u. inr (record { channel = u.channel; asked = asked_as u.channel u.asked; fault = u.fault; brings = u.brings })) x,
  )

-- memory was wanting behind the reading of the clock
pub tries_unasked : (f g : ℕ) (name : Text) (at : ℕ) (a : Asker) (s t : Shown) (l m : Option (List WorldCall)) (result : Result LoopEnd NoMemory) → is_err result ≡ true →
    ReadsClock (Ok at) a.session l m → Tries result f g name (scene_of a s l) (scene_of a t m)
tries_unasked f g name at a s t l m (Ok end) err reads = absurd (cc err)
tries_unasked f g name at a s t l m (Err fault) err reads =
    inr (at, m, record { reads = reads }, inl (record { grows = grows_none a.alone; stands = stands_same a.alone; asker = refl; no_call = refl }))

-- or at it
pub tries_unread : (f g : ℕ) (name : Text) (a : Asker) (s t : Shown) (l m : Option (List WorldCall)) (result : Result LoopEnd NoMemory) → is_err result ≡ true → m ≡ l →
    Tries result f g name (scene_of a s l) (scene_of a t m)
tries_unread f g name a s t l m (Ok end) err same = absurd (cc err)
tries_unread f g name a s t l m (Err fault) err same = inl (record { asker = refl; no_call = same })

-- the cache gave the answer
pub tries_hit : (f g : ℕ) (name : Text) (at : ℕ) (a : Asker) (s t : Shown) (l m : Option (List WorldCall)) (question : Question) → question_of name ≡ Some question → ShowsHit true name question at s t →
    ReadsClock (Ok at) a.session l m → Tries (Ok Completed) f g name (scene_of a s l) (scene_of a t m)
tries_hit f g name at a s t l m question some shows reads =
    (at, m, record { reads = reads }, inl (record { question = question; is_name = some; shows = shows; asker = refl; no_call = refl }))

-- ---- a request

module _ (f g : ℕ) (name : Text) (at : ℕ) (a : Asker) (s : Shown) (m : Option (List WorldCall)) (missed : IsMiss name at s) where
  module _ (b : Owned) (asks : AsksFor name (Ok tt) a.alone b) (n : Scene) where
    abbrev asked : IsAsked name at (scene_of a s m) b
    asked = record { missed = missed; asks = asks }

    -- memory was wanting before its answer, or behind it
    pub sends_cut : (result : Result LoopEnd NoMemory) (fault : NoMemory) → is_err result ≡ true → Brings (Err fault) f g (with_channel a b) n.asker m n.log → Sends result f g name at (scene_of a s m) n m
    sends_cut (Ok end) fault err brings = absurd (cc err)
    sends_cut (Err again) fault err brings = inr (record { channel = b; asked = asked; fault = fault; brings = inl brings })

    pub sends_unshown : (result : Result LoopEnd NoMemory) (answer : Answer) → is_err result ≡ true → Brings (Ok (Answered answer)) f g (with_channel a b) n.asker m n.log → Sends result f g name at (scene_of a s m) n m
    sends_unshown (Ok end) answer err brings = absurd (cc err)
    sends_unshown (Err again) answer err brings = inr (record { channel = b; asked = asked; fault = again; brings = inr (answer, brings) })

-- memory was wanting before the channel was asked
pub asks_err : (name : Text) (a : Owned) (result : Result (Unit {0}) NoMemory) → is_err result ≡ true → AsksFor name result a a
asks_err name a (Ok done) err = absurd (cc err)
asks_err name a (Err fault) err = (grows_none a, stands_same a)

-- the same that was shown, with the question and the moment by other names
pub shows_as : (name : Text) (o p : Option Question) (answer : Answer) (m n : ℕ) (s t : Shown) → o ≡ p → m ≡ n → ShowsSent name o answer m s t → ShowsSent name p answer n s t
shows_as name o p answer m n s t same moment shows = subst (λ q. ShowsSent name q answer n s t) same (subst (λ k. ShowsSent name o answer k s t) moment shows)

-- the cache kept the answer, where it may be kept
pub kept_by : (o : Option Question) (q : Question) (answer : Answer) (at : ℕ) (kept : Bool) (old new : Cache) → o ≡ Some q → kept ≡ may_be_kept answer → new ≡ after_keep q answer at (Ok kept) old → new ≡ cache_with o answer at old
kept_by o q answer at kept old new some same after = after ∙ ap (λ b. after_keep q answer at (Ok b) old) same ∙ ap (λ p. cache_with p answer at old) (sym some)

-- what a request came to, where nothing was shown before it
pub sends_as : (f g : ℕ) (name : Text) (at : ℕ) (a : Asker) (s t : Shown) (m : Option (List WorldCall)) (n : Scene) (result : Result LoopEnd NoMemory) → t ≡ s → Sends result f g name at (scene_of a t m) n m → Sends result f g name at (scene_of a s m) n m
sends_as f g name at a s t m n result same = subst (λ u. Sends result f g name at (scene_of a u m) n m) same

-- where the cache gave none, the name is missed still
pub missed_after : (name : Text) (at : ℕ) (question : Question) (old new : Shown) → question_of name ≡ Some question → ShowsHit false name question at old new → IsMiss name at new
missed_after name at question old new some hit = subst (λ u. IsMiss name at u) (sym hit.1) (missed_some name at question old new some hit)

-- what went wrong before didn't
pub tries_faults : (result : Result LoopEnd NoMemory) (f0 f g : ℕ) (name : Text) (a b : Scene) → f ≡ f0 → Tries result f g name a b → Tries result f0 g name a b
tries_faults result f0 f g name a b same = subst (λ k. Tries result k g name a b) same

-- the answer of the cache was shown
pub hit_shown : (name : Text) (q : Question) (at : ℕ) (old new : Shown) (spec : Spec) (told : Text) (good : Bool) → spec ≡ spec_for name → (found : Option Answer) → given q at old.cache ≡ found → Some told ≡ option_map (page_of spec) found →
    IfSome found (λ answer. (good ≡ true) ↔ IsGood answer) → new.cache ≡ after_look q (Ok found) old.cache → new.text.items ≡ old.text.items ++ (head_of true ++ told) → (new.good ≡ true) ↔ ((old.good ≡ true) × (good ≡ true)) →
    ShowsHit true name q at old new
hit_shown name q at old new spec told good same None is page goods used text both = absurd (cc page)
hit_shown name q at old new spec told good same (Some answer) is page goods used text both =
    let its : told ≡ page_of spec answer = cc in (
      answer,
      is,
      used,
      record {
        text = text ∙ ap (λ p. old.text.items ++ (head_of true ++ p)) (its ∙ ap (λ s. page_of s answer) same);
        good = (λ h. let b = both.0 h in (b.0, goods.0 b.1), λ p. both.1 (p.0, goods.1 p.1));
      },
    )
