-- One name more: what stands behind it, where it was given by the cache, sent for, or not brought to its answer.
use Rattle.std.proofs.Common.{◌≡◌, ◌∙◌, ℕ, ◌+◌, true, List, [], ◌∷◌, ◌++◌, length, map, refl, ap, ap₂, sym, subst, inl, inr, ⊎_elim}
use Rattle.std.specs.Prelude.{IfSome, None, Option, Some}
use Rattle.std.specs.List.{list_all}
use Rattle.std.proofs.lemmas.Bool.{and_from}
use Rattle.std.proofs.lemmas.List.{append-nil, append_assoc, map-append}
use Rattle.std.proofs.lemmas.List.Folds.{list_all-append}
use Rattle.chan_types.specs.declared.answer.Answer.{Answer}
use Rattle.chan_types.specs.declared.journal.Entry.{Entry}
use Rattle.dns_message.specs.declared.message.Question.{Question}
use mathlib.Core.List.{IsPrefix}
use Rattle.channel_model.specs.Completion.{fate, requests, taken}
use Rattle.channel_model.specs.Journal.{Accepted, Past, accepted, followed_by, past_of}
use Rattle.channel_model.specs.Lawful.{IsLawful}
use Rattle.channel_model.specs.Setting.{Setting}
use Rattle.channel_table.specs.Calling.{Owned}
use Rattle.query_cache.proofs.StandLemmas.{answers_given}
use Rattle.query_cache.specs.Cache.{Cache, given}
use Rattle.query_cache.specs.Recency.{LeadTo}
use Rattle.tool_line.specs.Words.{Text}
use Rattle.acache_tool.specs.Growing.{AreCalled, Grows, IsFate}
use Rattle.acache_tool.specs.Leaving.{Leaves, numbers_of}
use Rattle.acache_tool.specs.Parts.{IsMissed, MayAsk, Open, Part, answers_of, cache_calls, journal_of, most_seconds, open_requests, question_of, request_for, requests_of}
use Rattle.owner_laws.proofs.ListLemmas.{heads, tails}
use Rattle.acache_tool.proofs.RequestLemmas.{fate_later, past_on, takes_last}
use Rattle.owner_laws.specs.PlainEntries.{is_plain_entry}

-- ---- answers that were called for

-- they stay fates where the journal goes on
pub fates_stay : (setting : Setting) (past : Past) (es : List Entry) (ns : List ℕ) (calls : List Answer) →
    map Some calls ≡ map (λ n. fate setting n past) ns → map Some calls ≡ map (λ n. fate setting n (followed_by past es)) ns
fates_stay setting past es [] [] are = refl
fates_stay setting past es [] (a ∷ calls) are = absurd (cc are)
fates_stay setting past es (n ∷ ns) [] are = absurd (cc are)
fates_stay setting past es (n ∷ ns) (a ∷ calls) are =
    let one = heads (Some a) (fate setting n past) (map Some calls) (map (λ m. fate setting m past) ns) are in
    let others = tails (Some a) (fate setting n past) (map Some calls) (map (λ m. fate setting m past) ns) are in
    rw (fate_later setting n past es a (sym one), sym (fates_stay setting past es ns calls others)) refl

-- the journal went on without taking anything
pub called_on : (accepts : List Accepted) (a b : Owned) (calls : List Answer) → Grows accepts [] a b → AreCalled a calls → AreCalled b calls
called_on accepts a b calls grows called =
    let past : past_of b.seen ≡ followed_by (past_of a.seen) grows.entries = past_on a.seen b.seen grows.entries grows.seen in
    let stay = fates_stay a.setting (past_of a.seen) grows.entries (taken (past_of a.seen)) calls called in
    let here : map Some calls ≡ map (λ n. fate b.setting n (past_of b.seen)) (taken (past_of a.seen)) =
    subst (λ s. map Some calls ≡ map (λ n. fate s n (past_of b.seen)) (taken (past_of a.seen))) (sym grows.setting)
    (subst (λ p. map Some calls ≡ map (λ n. fate a.setting n p) (taken (past_of a.seen))) (sym past) stay) in
    here ∙ ap (map (λ n. fate b.setting n (past_of b.seen))) (sym (grows.takes_are ∙ append-nil (taken (past_of a.seen))))

-- or a request was taken, and called for with its fate
pub called_then : (a b : Owned) (calls : List Answer) (answer : Answer) → Grows [] (answer.number ∷ []) a b → IsFate b answer → AreCalled a calls → AreCalled b (calls ++ answer ∷ [])
called_then a b calls answer grows fated called =
    let past : past_of b.seen ≡ followed_by (past_of a.seen) grows.entries = past_on a.seen b.seen grows.entries grows.seen in
    let test : ℕ → Option Answer = λ n. fate b.setting n (past_of b.seen) in
    let stay = fates_stay a.setting (past_of a.seen) grows.entries (taken (past_of a.seen)) calls called in
    let here : map Some calls ≡ map test (taken (past_of a.seen)) =
    subst (λ s. map Some calls ≡ map (λ n. fate s n (past_of b.seen)) (taken (past_of a.seen))) (sym grows.setting)
    (subst (λ p. map Some calls ≡ map (λ n. fate a.setting n p) (taken (past_of a.seen))) (sym past) stay) in
    map-append Some calls (answer ∷ [])
    ∙ ap₂ (λ xs y. xs ++ y ∷ []) here (sym fated)
    ∙ sym (map-append test (taken (past_of a.seen)) (answer.number ∷ []))
    ∙ ap (map test) (sym grows.takes_are)

-- ---- the channel's journal

-- entries of the run, and more of them
plain_on : (accepts : List Accepted) (takes : List ℕ) (a b : Owned) → Grows accepts takes a b → list_all is_plain_entry a.seen ≡ true → list_all is_plain_entry b.seen ≡ true
plain_on accepts takes a b grows plain =
    ap (list_all is_plain_entry) grows.seen ∙ list_all-append is_plain_entry a.seen grows.entries
    ∙ and_from (list_all is_plain_entry a.seen) (list_all is_plain_entry grows.entries) plain grows.plain

-- the entries of the names that were brought to their answers stand first
named_on : (accepts : List Accepted) (takes : List ℕ) (parts : List Part) (a b : Owned) → Grows accepts takes a b → IsPrefix (journal_of parts) a.seen → IsPrefix (journal_of parts) b.seen
named_on accepts takes parts a b grows named =
    (named.0 ++ grows.entries, sym (append_assoc (journal_of parts) named.0 grows.entries) ∙ ap (λ l. l ++ grows.entries) named.1 ∙ sym grows.seen)

-- the setting, and so lawfulness
lawful_on : (accepts : List Accepted) (takes : List ℕ) (a b : Owned) → Grows accepts takes a b → IsLawful a.setting a.seen → IsLawful b.setting b.seen
lawful_on accepts takes a b grows lawful = grows.lawful lawful

module _ (room : ℕ) (setting : Setting) (parts : List Part) where
  -- nothing more was accepted or taken
  pub leaves_on : (last : Option Open) (a b : Owned) (calls : List Answer) → Grows [] [] a b → Leaves room setting parts last a calls → Leaves room setting parts last b calls
  leaves_on last a b calls grows x =
      let taken_same : taken (past_of b.seen) ≡ taken (past_of a.seen) = grows.takes_are ∙ append-nil (taken (past_of a.seen)) in
      record {
        right = x.right;
        missed = x.missed;
        setting_is = grows.setting ∙ x.setting_is;
        voice = grows.voice ∙ x.voice;
        lawful = lawful_on [] [] a b grows x.lawful;
        plain = plain_on [] [] a b grows x.plain;
        named = named_on [] [] parts a b grows x.named;
        accepted_are = grows.accepts_are ∙ append-nil (accepted (past_of a.seen)) ∙ x.accepted_are;
        taken_are = ⊎_elim (λ is. inl (taken_same ∙ is)) (λ is. inr (taken_same ∙ is)) x.taken_are;
        called = called_on [] a b calls grows x.called;
        answers_are = x.answers_are;
      }

  -- one name more was asked for
  pub leaves_asked : (name : Text) (at : ℕ) (a b : Owned) (calls : List Answer) → MayAsk room (cache_calls parts) at name → taken (past_of a.seen) ≡ numbers_of (requests_of parts) →
      Grows (request_for (length (accepted (past_of a.seen)) + 1) name ∷ []) [] a b → Leaves room setting parts None a calls →
      Leaves room setting parts (Some (record { name = name; at = at })) b calls
  leaves_asked name at a b calls may all grows x =
      let taken_same : taken (past_of b.seen) ≡ taken (past_of a.seen) = grows.takes_are ∙ append-nil (taken (past_of a.seen)) in
      let asked : accepted (past_of a.seen) ≡ requests_of parts = x.accepted_are ∙ append-nil (requests_of parts) in
      record {
        right = x.right;
        missed = may;
        setting_is = grows.setting ∙ x.setting_is;
        voice = grows.voice ∙ x.voice;
        lawful = lawful_on (request_for (length (accepted (past_of a.seen)) + 1) name ∷ []) [] a b grows x.lawful;
        plain = plain_on (request_for (length (accepted (past_of a.seen)) + 1) name ∷ []) [] a b grows x.plain;
        named = named_on (request_for (length (accepted (past_of a.seen)) + 1) name ∷ []) [] parts a b grows x.named;
        accepted_are = grows.accepts_are ∙ ap (λ rs. rs ++ request_for (length rs + 1) name ∷ []) asked;
        taken_are = inl (taken_same ∙ all);
        called = called_on (request_for (length (accepted (past_of a.seen)) + 1) name ∷ []) a b calls grows x.called;
        answers_are = x.answers_are;
      }

  -- and taken: it is that request, since the others were taken before
  pub answer_number : (o : Open) (a b : Owned) (calls : List Answer) (answer : Answer) → taken (past_of a.seen) ≡ numbers_of (requests_of parts) → Leaves room setting parts (Some o) a calls →
      Grows [] (answer.number ∷ []) a b → answer.number ≡ length (requests_of parts) + 1
  answer_number o a b calls answer all x grows =
      let asked : requests (past_of b.seen) ≡ numbers_of (requests_of parts) ++ (length (requests_of parts) + 1) ∷ [] =
      ap (map (λ (r : Accepted). r.number)) (grows.accepts_are ∙ append-nil (accepted (past_of a.seen)) ∙ x.accepted_are)
      ∙ map-append (λ (r : Accepted). r.number) (requests_of parts) (request_for (length (requests_of parts) + 1) o.name ∷ []) in
      let took : taken (past_of b.seen) ≡ numbers_of (requests_of parts) ++ answer.number ∷ [] = grows.takes_are ∙ ap (λ ns. ns ++ answer.number ∷ []) all in
      let lawful : IsLawful b.setting b.seen = grows.lawful x.lawful in
      takes_last b.setting (past_of b.seen) lawful.allowed (numbers_of (requests_of parts)) (length (requests_of parts) + 1) answer.number asked took

  -- so it was called for, and all were taken
  pub leaves_answered : (o : Open) (a b : Owned) (calls : List Answer) (answer : Answer) → taken (past_of a.seen) ≡ numbers_of (requests_of parts) → Leaves room setting parts (Some o) a calls →
      Grows [] (answer.number ∷ []) a b → IsFate b answer → Leaves room setting parts (Some o) b (calls ++ answer ∷ []) × (taken (past_of b.seen) ≡ numbers_of (requests_of parts ++ open_requests parts (Some o)))
  leaves_answered o a b calls answer all x grows fated =
      let number = answer_number o a b calls answer all x grows in
      let took : taken (past_of b.seen) ≡ numbers_of (requests_of parts ++ open_requests parts (Some o)) =
      grows.takes_are ∙ ap₂ (λ ns n. ns ++ n ∷ []) all number
      ∙ sym (map-append (λ (r : Accepted). r.number) (requests_of parts) (request_for (length (requests_of parts) + 1) o.name ∷ [])) in (
        record {
          right = x.right;
          missed = x.missed;
          setting_is = grows.setting ∙ x.setting_is;
          voice = grows.voice ∙ x.voice;
          lawful = grows.lawful x.lawful;
          plain = plain_on [] (answer.number ∷ []) a b grows x.plain;
          named = named_on [] (answer.number ∷ []) parts a b grows x.named;
          accepted_are = grows.accepts_are ∙ append-nil (accepted (past_of a.seen)) ∙ x.accepted_are;
          taken_are = inr took;
          called = called_then a b calls answer grows fated x.called;
          answers_are = (x.answers_are.0 ++ answer ∷ [], sym (append_assoc (answers_of parts) x.answers_are.0 (answer ∷ [])) ∙ ap (λ l. l ++ answer ∷ []) x.answers_are.1);
        },
        took,
      )

  -- what the cache says of a name
  pub may_ask : (name : Text) (at : ℕ) (cache : Cache) → LeadTo room most_seconds (cache_calls parts) cache → IfSome (question_of name) (λ q. given q at cache ≡ None) → MayAsk room (cache_calls parts) at name
  may_ask name at cache led missed = by (question_of name) missed
    where
      by : (o : Option Question) → IfSome o (λ q. given q at cache ≡ None) → IfSome o (IsMissed room (cache_calls parts) at)
      by None none = tt
      by (Some q) none = λ answer is_given. absurd (let h = (answers_given room most_seconds (cache_calls parts) cache led q at answer).1 is_given in let n = none in cc)
