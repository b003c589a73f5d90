-- What a run comes to once its channel is closed: every request has its answer, and was called for.
use Rattle.std.proofs.Common.{◌≡◌, ◌∙◌, ℕ, ◌+◌, List, [], ◌∷◌, ◌++◌, length, map, true, refl, ap, ap₂, sym, subst, inl, inr, ⊎_elim}
use Rattle.std.specs.Prelude.{None, Option, Some, option_map, option_to_list, ◌⊎◌}
use Rattle.std.proofs.lemmas.List.{append-nil, append_assoc, map-append}
use mathlib.Core.List.{IsPrefix}
use Rattle.chan_types.specs.declared.answer.Answer.{Answer}
use Rattle.chan_types.specs.declared.journal.Entry.{Entry}
use Rattle.chan_types.specs.declared.journal.What.TheVariants.{Destroy, Take}
use Rattle.channel_model.specs.Completion.{fate, pending, ready, requests, taken}
use Rattle.channel_model.specs.Course.{has_no_turn}
use Rattle.channel_model.specs.Journal.{Accepted, accepted, past_of}
use Rattle.channel_model.specs.Lawful.{IsLawful}
use Rattle.channel_model.specs.Setting.{Setting}
use Rattle.channel_table.specs.Calling.{Owned}
use Rattle.acache_tool.specs.Closing.{Closes, Fated, closing, take_entry}
use Rattle.acache_tool.specs.Growing.{AreCalled}
use Rattle.acache_tool.specs.Leaving.{Leaves, numbers_of}
use Rattle.acache_tool.specs.Parts.{Open, Part, answers_of, open_requests, request_for, requests_of}
use Rattle.acache_tool.proofs.NameLemmas.{fates_stay}
use Rattle.acache_tool.proofs.RequestLemmas.{left_last, none_left, past_on, takes_last, takes_no_more}

-- the entries behind the Destroy
abbrev pub takes_of : Option Answer → List Entry
takes_of answer = option_to_list (option_map (λ (a : Answer). take_entry a.number) answer)

-- what a closed channel comes to
pub record IsDone (setting : Setting) (parts : List Part) (last : Option Open) (earlier journal : List Entry) (calls : List Answer) : Type 0 where
  pub later : List Entry
  pub journal_is : journal ≡ earlier ++ closing ∷ later
  pub no_turn : has_no_turn (closing ∷ later) ≡ true
  pub taken_behind : (later ≡ []) ⊎ ((number : ℕ) × (later ≡ take_entry number ∷ []))
  pub lawful : IsLawful setting journal
  pub asked_are : accepted (past_of journal) ≡ requests_of parts ++ open_requests parts last
  pub called_once : map Some calls ≡ map (λ request. fate setting request (past_of journal)) (requests (past_of journal))
  pub answers : IsPrefix (answers_of parts) calls
  pub all_taken : (pending setting (past_of journal) ≡ []) × (ready setting (past_of journal) ≡ [])

module _ (room : ℕ) (setting : Setting) (parts : List Part) (last : Option Open) (a c : Owned) (calls_a calls_c : List Answer) (x : Leaves room setting parts last a calls_a) (closes : Closes a c calls_a calls_c) where
  setting_c : c.setting ≡ setting
  setting_c = closes.setting ∙ x.setting_is

  abbrev asked : List ℕ
  asked = numbers_of (requests_of parts ++ open_requests parts last)

  asked_a : requests (past_of a.seen) ≡ asked
  asked_a = ap (map (λ (r : Accepted). r.number)) x.accepted_are

  -- by the answer that was called for, if there was one
  abbrev By : Option Answer → Type 0
  By answer = c.seen ≡ a.seen ++ closing ∷ takes_of answer → calls_c ≡ calls_a ++ option_to_list answer → Fated answer c → IsDone setting parts last a.seen c.seen calls_c

  none_pending : c.seen ≡ a.seen ++ closing ∷ [] → pending c.setting (past_of c.seen) ≡ []
  none_pending seen = ap (λ s. pending s (past_of c.seen)) closes.setting ∙ ap (λ journal. pending a.setting (past_of journal)) seen ∙ closes.none_pending

  -- all in all
  done : (later : List Entry) → c.seen ≡ a.seen ++ closing ∷ later → has_no_turn (closing ∷ later) ≡ true → ((later ≡ []) ⊎ ((number : ℕ) × (later ≡ take_entry number ∷ []))) →
      accepted (past_of c.seen) ≡ accepted (past_of a.seen) → taken (past_of c.seen) ≡ requests (past_of c.seen) → AreCalled c calls_c → IsPrefix (answers_of parts) calls_c → IsDone setting parts last a.seen c.seen calls_c
  done later seen none behind same all called answers =
      subst (λ s. IsDone s parts last a.seen c.seen calls_c) setting_c (record {
        later = later;
        journal_is = seen;
        no_turn = none;
        taken_behind = behind;
        lawful = closes.lawful;
        asked_are = same ∙ x.accepted_are;
        called_once = called ∙ ap (map (λ n. fate c.setting n (past_of c.seen))) all;
        answers = answers;
        all_taken = none_left c.setting (past_of c.seen) closes.lawful.allowed all;
      })

  -- none was ready
  module _ (seen : c.seen ≡ a.seen ++ closing ∷ []) (calls : calls_c ≡ calls_a ++ []) where
    past_none : past_of c.seen ≡ Destroy ∷ past_of a.seen
    past_none = past_on a.seen c.seen (closing ∷ []) seen

    accepted_none : accepted (past_of c.seen) ≡ accepted (past_of a.seen)
    accepted_none = ap accepted past_none ∙ append-nil (accepted (past_of a.seen))

    taken_none : taken (past_of c.seen) ≡ taken (past_of a.seen)
    taken_none = ap taken past_none ∙ append-nil (taken (past_of a.seen))

    called_none : AreCalled c calls_c
    called_none =
        let stay = fates_stay a.setting (past_of a.seen) (closing ∷ []) (taken (past_of a.seen)) calls_a x.called in
        let here : map Some calls_a ≡ map (λ n. fate c.setting n (past_of c.seen)) (taken (past_of a.seen)) =
        subst (λ s. map Some calls_a ≡ map (λ n. fate s n (past_of c.seen)) (taken (past_of a.seen))) (sym closes.setting)
        (subst (λ p. map Some calls_a ≡ map (λ n. fate a.setting n p) (taken (past_of a.seen))) (sym past_none) stay) in
        ap (map Some) (calls ∙ append-nil calls_a) ∙ here ∙ ap (map (λ n. fate c.setting n (past_of c.seen))) (sym taken_none)

    done_none : taken (past_of a.seen) ≡ asked → IsDone setting parts last a.seen c.seen calls_c
    done_none all = done [] seen refl (inl refl) accepted_none (taken_none ∙ all ∙ sym (ap (map (λ (r : Accepted). r.number)) accepted_none ∙ asked_a)) called_none
        (subst (λ l. IsPrefix (answers_of parts) l) (sym (calls ∙ append-nil calls_a)) x.answers_are)

    -- a request that wasn't taken would be ready
    never_none : (ns : List ℕ) (m : ℕ) → requests (past_of a.seen) ≡ ns ++ m ∷ [] → taken (past_of a.seen) ≡ ns → ready c.setting (past_of c.seen) ≡ [] → ⊥
    never_none ns m requests_are taken_is none_ready =
        left_last c.setting (past_of c.seen) closes.lawful.allowed ns m (ap (map (λ (r : Accepted). r.number)) accepted_none ∙ requests_are) (taken_none ∙ taken_is) (none_pending seen) none_ready

  -- one was
  module _ (answer : Answer) (seen : c.seen ≡ a.seen ++ closing ∷ take_entry answer.number ∷ []) (calls : calls_c ≡ calls_a ++ answer ∷ []) (fated : fate c.setting answer.number (past_of c.seen) ≡ Some answer) where
    past_some : past_of c.seen ≡ Take answer.number ∷ Destroy ∷ past_of a.seen
    past_some = past_on a.seen c.seen (closing ∷ take_entry answer.number ∷ []) seen

    accepted_some : accepted (past_of c.seen) ≡ accepted (past_of a.seen)
    accepted_some = ap accepted past_some ∙ append-nil (accepted (past_of a.seen) ++ []) ∙ append-nil (accepted (past_of a.seen))

    taken_some : taken (past_of c.seen) ≡ taken (past_of a.seen) ++ answer.number ∷ []
    taken_some = ap taken past_some ∙ ap (λ l. l ++ answer.number ∷ []) (append-nil (taken (past_of a.seen)))

    requests_some : requests (past_of c.seen) ≡ asked
    requests_some = ap (map (λ (r : Accepted). r.number)) accepted_some ∙ asked_a

    called_some : AreCalled c calls_c
    called_some =
        let test : ℕ → Option Answer = λ n. fate c.setting n (past_of c.seen) in
        let stay = fates_stay a.setting (past_of a.seen) (closing ∷ take_entry answer.number ∷ []) (taken (past_of a.seen)) calls_a x.called in
        let here : map Some calls_a ≡ map test (taken (past_of a.seen)) =
        subst (λ s. map Some calls_a ≡ map (λ n. fate s n (past_of c.seen)) (taken (past_of a.seen))) (sym closes.setting)
        (subst (λ p. map Some calls_a ≡ map (λ n. fate a.setting n p) (taken (past_of a.seen))) (sym past_some) stay) in
        ap (map Some) calls ∙ map-append Some calls_a (answer ∷ [])
        ∙ ap₂ (λ xs y. xs ++ y ∷ []) here (sym fated)
        ∙ sym (map-append test (taken (past_of a.seen)) (answer.number ∷ []))
        ∙ ap (map test) (sym taken_some)

    -- all were taken before: then no other can be
    never_some : taken (past_of a.seen) ≡ asked → ⊥
    never_some all = takes_no_more c.setting (past_of c.seen) closes.lawful.allowed asked answer.number requests_some (taken_some ∙ ap (λ ns. ns ++ answer.number ∷ []) all)

    done_some : (ns : List ℕ) (m : ℕ) → asked ≡ ns ++ m ∷ [] → taken (past_of a.seen) ≡ ns → IsDone setting parts last a.seen c.seen calls_c
    done_some ns m are taken_is =
        let took : taken (past_of c.seen) ≡ ns ++ answer.number ∷ [] = taken_some ∙ ap (λ l. l ++ answer.number ∷ []) taken_is in
        let number : answer.number ≡ m = takes_last c.setting (past_of c.seen) closes.lawful.allowed ns m answer.number (requests_some ∙ are) took in
        done (take_entry answer.number ∷ []) seen refl (inr (answer.number, refl)) accepted_some
        (took ∙ ap (λ n. ns ++ n ∷ []) number ∙ sym (requests_some ∙ are)) called_some
        (x.answers_are.0 ++ answer ∷ [], sym (append_assoc (answers_of parts) x.answers_are.0 (answer ∷ [])) ∙ ap (λ l. l ++ answer ∷ []) x.answers_are.1 ∙ sym calls)

  -- where all were taken
  by_all : taken (past_of a.seen) ≡ asked → (answer : Option Answer) → By answer
  by_all all None seen calls fated = done_none seen calls all
  by_all all (Some answer) seen calls fated = absurd (never_some answer seen calls fated all)

  -- where one wasn't
  by_one : (ns : List ℕ) (m : ℕ) → asked ≡ ns ++ m ∷ [] → taken (past_of a.seen) ≡ ns → (answer : Option Answer) → By answer
  by_one ns m are taken_is None seen calls fated = absurd (never_none seen calls ns m (asked_a ∙ are) taken_is fated)
  by_one ns m are taken_is (Some answer) seen calls fated = done_some answer seen calls fated ns m are taken_is

pub is_done : (room : ℕ) (setting : Setting) (parts : List Part) (last : Option Open) (a c : Owned) (calls_a calls_c : List Answer) → Leaves room setting parts last a calls_a → Closes a c calls_a calls_c → IsDone setting parts last a.seen c.seen calls_c
is_done room setting parts None a c calls_a calls_c x closes =
    by_all room setting parts None a c calls_a calls_c x closes
    (⊎_elim (λ is. is ∙ ap numbers_of (sym (append-nil (requests_of parts)))) (λ is. is) x.taken_are) closes.answer closes.seen closes.calls closes.fated
is_done room setting parts (Some o) a c calls_a calls_c x closes = ⊎_elim
    (λ is. by_one room setting parts (Some o) a c calls_a calls_c x closes (numbers_of (requests_of parts)) (length (requests_of parts) + 1)
    (map-append (λ (r : Accepted). r.number) (requests_of parts) (request_for (length (requests_of parts) + 1) o.name ∷ [])) is closes.answer closes.seen closes.calls closes.fated)
    (λ is. by_all room setting parts (Some o) a c calls_a calls_c x closes is closes.answer closes.seen closes.calls closes.fated)
    x.taken_are
