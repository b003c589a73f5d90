-- Each name's answer is the fate of a request: of its own, or of an earlier one for the same question.
use Rattle.std.proofs.Common.{◌≡◌, ◌∙◌, ℕ, ◌+◌, cond, Bool, true, false, List, [], ◌∷◌, ◌++◌, length, map, refl, ap, sym, subst, arith}
use Rattle.std.specs.Prelude.{None, Ok, Option, Some, ⊤}
use Rattle.std.proofs.lemmas.List.{append-nil, append_assoc, length-append, map-append}
use mathlib.Core.List.{IsPrefix}
use Rattle.chan_types.specs.declared.answer.Answer.{Answer}
use Rattle.chan_types.specs.declared.journal.Entry.{Entry}
use Rattle.dns_message.specs.Question.{same_question}
use Rattle.dns_message.specs.declared.message.Question.{Question}
use Rattle.channel_model.specs.Completion.{fate, requests}
use Rattle.channel_model.specs.Journal.{Accepted, accepted, past_of}
use Rattle.channel_model.specs.Setting.{Setting}
use Rattle.query_cache.specs.Cache.{kept_from}
use Rattle.query_cache.specs.Lifetime.{may_be_kept}
use Rattle.query_cache.specs.Recency.{keep, last_kept, look}
use Rattle.query_cache.specs.declared.kept.Kept.{Kept}
use Rattle.acache_tool.specs.Fates.{HasFate, HaveFates, IsRecalled}
use Rattle.acache_tool.specs.Leaving.{numbers_of}
use Rattle.acache_tool.specs.Parts.{AreRight, GivesAnswer, IsRightBy, Open, Part, answers_of, cache_calls, calls_by, calls_for, most_seconds, open_requests, question_of, request_for, requests_of, unless_hit}
use Rattle.owner_laws.proofs.ListLemmas.{heads, tails}

-- there is one answer for each request
as_many : (parts : List Part) → length (answers_of parts) ≡ length (numbers_of (requests_of parts))
as_many [] = refl
as_many (part ∷ earlier) = by part.is_hit (as_many earlier)
  where
    by : (h : Bool) → length (answers_of earlier) ≡ length (numbers_of (requests_of earlier)) →
        length (answers_of earlier ++ unless_hit h part.answer) ≡ length (numbers_of (requests_of earlier ++ unless_hit h (request_for (length (requests_of earlier) + 1) part.name)))
    by true same = ap length (append-nil (answers_of earlier)) ∙ same ∙ sym (ap (λ rs. length (numbers_of rs)) (append-nil (requests_of earlier)))
    by false same =
        let n : ℕ = length (requests_of earlier) + 1 in
        length-append (answers_of earlier) (part.answer ∷ []) ∙ ap (λ k. k + 1) same ∙ sym (length-append (numbers_of (requests_of earlier)) (n ∷ []))
        ∙ sym (ap length (map-append (λ (r : Accepted). r.number) (requests_of earlier) (request_for n part.name ∷ [])))

module _ (setting : Setting) (journal : List Entry) where
  -- what became of a request
  abbrev end_of : ℕ → Option Answer
  end_of n = fate setting n (past_of journal)

  -- the answers that stand at the same place
  at_same : (xs : List Answer) (ns : List ℕ) (x : Answer) (n : ℕ) (ys : List Answer) (ms : List ℕ) → length xs ≡ length ns → map Some (xs ++ x ∷ ys) ≡ map end_of (ns ++ n ∷ ms) → Some x ≡ end_of n
  at_same [] [] x n ys ms same are = heads (Some x) (end_of n) (map Some ys) (map end_of ms) are
  at_same [] (m ∷ ns) x n ys ms same are = absurd (omega (arith, same))
  at_same (y ∷ xs) [] x n ys ms same are = absurd (omega (arith, same))
  at_same (y ∷ xs) (m ∷ ns) x n ys ms same are =
      at_same xs ns x n ys ms (omega (arith, same)) (tails (Some y) (end_of m) (map Some (xs ++ x ∷ ys)) (map end_of (ns ++ n ∷ ms)) are)

  -- each name that was sent has its request's fate
  abbrev HasOwn : Bool → List Part → Part → Type 0
  HasOwn true earlier part = ⊤
  HasOwn false earlier part = end_of (length (requests_of earlier) + 1) ≡ Some part.answer

  abbrev HaveOwn : List Part → Type 0
  HaveOwn [] = ⊤
  HaveOwn (part ∷ earlier) = HasOwn part.is_hit earlier part × HaveOwn earlier

  own_fates : (parts : List Part) (ys : List Answer) (ms : List ℕ) → map Some (answers_of parts ++ ys) ≡ map end_of (numbers_of (requests_of parts) ++ ms) → HaveOwn parts
  own_fates [] ys ms are = tt
  own_fates (part ∷ earlier) ys ms are = by part.is_hit (own_fates earlier) are
    where
      by : (h : Bool) → ((ys : List Answer) (ms : List ℕ) → map Some (answers_of earlier ++ ys) ≡ map end_of (numbers_of (requests_of earlier) ++ ms) → HaveOwn earlier) →
          map Some ((answers_of earlier ++ unless_hit h part.answer) ++ ys) ≡ map end_of (numbers_of (requests_of earlier ++ unless_hit h (request_for (length (requests_of earlier) + 1) part.name)) ++ ms) →
          HasOwn h earlier part × HaveOwn earlier
      by true rest are = (
        tt,
        rest ys ms (ap (λ l. map Some (l ++ ys)) (sym (append-nil (answers_of earlier))) ∙ are ∙ ap (λ rs. map end_of (numbers_of rs ++ ms)) (append-nil (requests_of earlier))),
      )
      by false rest are =
          let n : ℕ = length (requests_of earlier) + 1 in
          let here : map Some (answers_of earlier ++ part.answer ∷ ys) ≡ map end_of (numbers_of (requests_of earlier) ++ n ∷ ms) =
          sym (ap (map Some) (append_assoc (answers_of earlier) (part.answer ∷ []) ys)) ∙ are
          ∙ ap (λ ns. map end_of (ns ++ ms)) (map-append (λ (r : Accepted). r.number) (requests_of earlier) (request_for n part.name ∷ []))
          ∙ ap (map end_of) (append_assoc (numbers_of (requests_of earlier)) (n ∷ []) ms) in (
            sym (at_same (answers_of earlier) (numbers_of (requests_of earlier)) part.answer n ys ms (as_many earlier) here),
            rest (part.answer ∷ ys) (n ∷ ms) here,
          )

  -- one name more: what was kept last of a question is that name's answer, or was kept before
  module _ (part : Part) (earlier : List Part) (own : HasOwn part.is_hit earlier part) (question : Question) (entry : Kept)
      (before : last_kept most_seconds question (cache_calls earlier) ≡ Some entry → IsRecalled setting journal earlier question entry.answer) where
    abbrev Goal : Type 0
    Goal = IsRecalled setting journal (part ∷ earlier) question entry.answer

    abbrev its_request : Accepted
    its_request = request_for (length (requests_of earlier) + 1) part.name

    later : last_kept most_seconds question (cache_calls earlier) ≡ Some entry → Goal
    later is =
        let found = before is in
        record {
          before = found.before;
          name = found.name;
          behind = found.behind ++ unless_hit part.is_hit its_request;
          accepted_are = ap (λ rs. rs ++ unless_hit part.is_hit its_request) found.accepted_are
              ∙ append_assoc found.before (request_for (length found.before + 1) found.name ∷ found.behind) (unless_hit part.is_hit its_request);
          asked = found.asked;
          is_name = found.is_name;
          same = found.same;
          its_fate = found.its_fate;
        }

    module _ (q : Question) (name : question_of part.name ≡ Some q) where
      by_same : part.is_hit ≡ false → HasOwn false earlier part → (b : Bool) → same_question question q ≡ b →
          cond b (Some (kept_from most_seconds q part.answer part.kept_at)) (last_kept most_seconds question (cache_calls earlier)) ≡ Some entry → Goal
      by_same sent its false other is = later is
      by_same sent its true same is =
          let kept : kept_from most_seconds q part.answer part.kept_at ≡ entry = cc in
          subst (λ (k : Kept). IsRecalled setting journal (part ∷ earlier) question k.answer) kept (record {
            before = requests_of earlier;
            name = part.name;
            behind = [];
            accepted_are = ap (λ h. requests_of earlier ++ unless_hit h its_request) sent;
            asked = q;
            is_name = name;
            same = same;
            its_fate = its;
          })

      by_kept : part.is_hit ≡ false → HasOwn false earlier part → (k : Bool) →
          last_kept most_seconds question (keep q part.answer part.kept_at (Ok k) ∷ look q part.at (Ok None) ∷ cache_calls earlier) ≡ Some entry → Goal
      by_kept sent its false is = later is
      by_kept sent its true is = by_same sent its (same_question question q) refl is

      by_hit : (h : Bool) → part.is_hit ≡ h → HasOwn h earlier part → last_kept most_seconds question (calls_by h q part ++ cache_calls earlier) ≡ Some entry → Goal
      by_hit true hit its is = later is
      by_hit false sent its is = by_kept sent its (may_be_kept part.answer) is

    by_question : (o : Option Question) → question_of part.name ≡ o → last_kept most_seconds question (calls_for o part ++ cache_calls earlier) ≡ Some entry → Goal
    by_question None name is = later is
    by_question (Some q) name is = by_hit q name part.is_hit refl own is

  -- what was kept last of a question is the answer of an earlier request for it
  recalled : (earlier : List Part) → HaveOwn earlier → (question : Question) (entry : Kept) → last_kept most_seconds question (cache_calls earlier) ≡ Some entry → IsRecalled setting journal earlier question entry.answer
  recalled [] own question entry is = absurd (cc is)
  recalled (part ∷ earlier) own question entry is = by_question part earlier own.0 question entry (recalled earlier own.1 question entry) (question_of part.name) refl is

  have_fates : (room : ℕ) (parts : List Part) → AreRight room parts → HaveOwn parts → HaveFates setting journal parts
  have_fates room [] right own = tt
  have_fates room (part ∷ earlier) right own = (by part.is_hit right.0 own.0, have_fates room earlier right.1 own.1)
    where
      by_question : (o : Option Question) → question_of part.name ≡ o → GivesAnswer room (cache_calls earlier) part.at part.answer o → HasFate true setting journal earlier part
      by_question None name gives = absurd gives
      by_question (Some q) name gives = (q, name, subst (IsRecalled setting journal earlier q) gives.its (recalled earlier own.1 q gives.entry gives.last))

      by : (h : Bool) → IsRightBy h room earlier part → HasOwn h earlier part → HasFate h setting journal earlier part
      by true right own = by_question (question_of part.name) refl right.0
      by false right own = own

  -- so it is of a run's names, by what was accepted and called for
  pub all_fates : (room : ℕ) (parts : List Part) (last : Option Open) (calls : List Answer) → AreRight room parts → accepted (past_of journal) ≡ requests_of parts ++ open_requests parts last →
      map Some calls ≡ map (λ request. fate setting request (past_of journal)) (requests (past_of journal)) → IsPrefix (answers_of parts) calls → HaveFates setting journal parts
  all_fates room parts last calls right asked called answers =
      have_fates room parts right
      (own_fates parts answers.0 (numbers_of (open_requests parts last))
      (ap (map Some) answers.1 ∙ called ∙ ap (λ rs. map end_of (numbers_of rs)) asked
      ∙ ap (map end_of) (map-append (λ (r : Accepted). r.number) (requests_of parts) (open_requests parts last))))
