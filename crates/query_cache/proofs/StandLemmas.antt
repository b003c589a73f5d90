-- After any calls a cache has the questions that stand, each with what was kept last of it.
use Rattle.std.proofs.Common.{◌≡◌, ℕ, zero, suc, ◌+◌, ◌<◌, ◌↔◌, Bool, true, false, cond, not, ◌||◌, Option, Some, None, Result, Ok, Err, List, [], ◌∷◌, ◌++◌, length, map, take, refl, sym, ap, subst, ◌∙◌, is_some, arith}
use Rattle.std.specs.List.{AllByRecursion, list_any, filter_map, find}
use Rattle.std.specs.Prelude.{slice_get, nat_lt}
use Rattle.std.proofs.lemmas.Bool.{false≢true, or_left, or_right, ltb-true, lt-ltb}
use Rattle.dns_message.specs.Question.{same_question}
use Rattle.dns_message.specs.declared.message.Question.{Question}
use Rattle.chan_types.specs.declared.answer.Answer.{Answer}
use Rattle.query_cache.specs.Cache.{Cache, new_cache, is_of, entry_of, others, used, used_if, kept_from, given, answer_before, after_look}
use Rattle.query_cache.specs.Recency.{CacheCall, keep, look, used_by, kept_by, last_kept, before_own, used_since, different, Stands, IsGiven, Does, LeadTo}
use Rattle.query_cache.specs.declared.kept.Kept.{Kept}
use Rattle.query_cache.proofs.QuestionLemmas.{low, tests, tests_decide}
use Rattle.query_cache.proofs.RecentLemmas.{member, without, once, Apart, itself, turned, apart-once, member-once, once-more, used-again, once-split, among-first, place, member-take}
use Rattle.query_cache.proofs.EntryLemmas.{map-take, take-none, get-take, get-map, all-take, all-filter, found, low_asked, map-others, has-entry, same-entry, member-map}

-- ---- how many questions, and since when

-- questions that are different, counted
counts : (qs : List Question) → different qs ≡ length (once tests (map low qs))
counts [] = refl
counts (q ∷ qs) =
    ap (λ b. cond b (different qs) (different qs + 1)) (member-map q qs)
    ∙ ap (λ n. cond (member tests (low q) (map low qs)) n (n + 1)) (counts qs)
    ∙ sym (once-more tests tests_decide (low q) (map low qs))

-- the questions before the question's own first place, itself there, and others behind it
split_own : (q : Question) (us : List Question) → member tests (low q) (map low us) ≡ true
    → (rest : List Question) × (map low us ≡ map low (before_own q us) ++ low q ∷ rest) × (member tests (low q) (map low (before_own q us)) ≡ false)
split_own q [] m = absurd (false≢true m)
split_own q (u ∷ us) m = by (same_question q u) refl m (split_own q us)
  where
    by : (b : Bool) → same_question q u ≡ b → (b || member tests (low q) (map low us)) ≡ true
        → (member tests (low q) (map low us) ≡ true → (rest : List Question) × (map low us ≡ map low (before_own q us) ++ low q ∷ rest) × (member tests (low q) (map low (before_own q us)) ≡ false))
        → (rest : List Question) × (map low (u ∷ us) ≡ map low (cond b [] (u ∷ before_own q us)) ++ low q ∷ rest) × (member tests (low q) (map low (cond b [] (u ∷ before_own q us))) ≡ false)
    by true t m go = (map low us, ap (λ x. x ∷ map low us) (sym ((tests_decide (low q) (low u)).0 t)), refl)
    by false t m go = let s = go m in (s.0, ap (λ l. low u ∷ l) s.1, ap (λ b. b || member tests (low q) (map low (before_own q us))) t ∙ s.2)

-- so once each: as many stand before it as are different
own_place : (q : Question) (us : List Question) → member tests (low q) (map low us) ≡ true
    → (front : List Question) × (back : List Question) × (once tests (map low us) ≡ front ++ low q ∷ back) × (different (before_own q us) ≡ length front)
own_place q us m =
    let s = split_own q us m in
    let o = once-split tests tests_decide (low q) (map low (before_own q us)) s.0 s.2 in
    (once tests (map low (before_own q us)), o.0, ap (once tests) s.1 ∙ o.1, counts (before_own q us))

-- ---- what holds after each call

-- what a cache has, by the uses of it, in lower case, and by what was kept, both the newest first
record IsSo (room most : ℕ) (uses : List Question) (kept : List Kept) (cache : Cache) : Type 0 where
  has_room : cache.room ≡ room
  has_most : cache.most ≡ most
  recent : map low_asked cache.entries ≡ take room (once tests uses)
  last : AllByRecursion (λ e. entry_of e.asked kept ≡ Some e) cache.entries
  were_kept : (q : Question) → member tests (low q) uses ≡ true → is_some (entry_of q kept) ≡ true
  were_used : (q : Question) → is_some (entry_of q kept) ≡ true → member tests (low q) uses ≡ true

module _ (room most : ℕ) where
  -- nothing at first
  so_new : IsSo room most [] [] (new_cache room most)
  so_new = record {
    has_room = refl;
    has_most = refl;
    recent = sym (take-none room);
    last = tt;
    were_kept = λ q m. absurd (false≢true m);
    were_used = λ q m. absurd (false≢true m);
  }

  module _ (uses : List Question) (kept : List Kept) (cache : Cache) (so : IsSo room most uses kept cache) where
    -- a use puts its question in front
    so_recent : (e : Kept) (x : Question) → low_asked e ≡ x → map low_asked (used e cache).entries ≡ take room (once tests (x ∷ uses))
    so_recent e x same =
        map-take low_asked cache.room (e ∷ others e.asked cache.entries)
        ∙ ap (λ r. take r (low_asked e ∷ map low_asked (others e.asked cache.entries))) so.has_room
        ∙ ap (λ l. take room (low_asked e ∷ l)) (map-others e.asked cache.entries ∙ ap (without tests (low_asked e)) so.recent)
        ∙ used-again tests tests_decide room (low_asked e) (once tests uses) (apart-once tests tests_decide uses)
        ∙ ap (λ y. take room (y ∷ without tests y (once tests uses))) same

    -- after a keep
    module _ (asked : Question) (answer : Answer) (at : ℕ) where
      abbrev entry : Kept
      entry = kept_from most asked answer at

      same_entry : kept_from cache.most asked answer at ≡ entry
      same_entry = ap (λ m. kept_from m asked answer at) so.has_most

      so_kept : (e : Kept) → e ≡ entry → IsSo room most (low asked ∷ uses) (entry ∷ kept) (used e cache)
      so_kept e is = record {
        has_room = so.has_room;
        has_most = so.has_most;
        recent = so_recent e (low asked) (ap low_asked is);
        last = all-take _ cache.room (e ∷ others e.asked cache.entries) (itself_last, all-filter (λ other. not (is_of e.asked other)) _ _ others_last cache.entries so.last);
        were_kept = λ q m. kept_too q (same_question q asked) m;
        were_used = λ q m. used_too q (same_question q asked) m;
      }
        where
          itself_last : entry_of e.asked (entry ∷ kept) ≡ Some e
          itself_last =
              ap (λ r. cond (same_question r asked) (Some entry) (entry_of r kept)) (ap (λ k. k.asked) is)
              ∙ ap (λ b. cond b (Some entry) (entry_of asked kept)) (itself tests tests_decide (low asked)) ∙ ap Some (sym is)

          is_false : (b : Bool) → not b ≡ true → b ≡ false
          is_false true h = sym h
          is_false false h = refl

          others_last : (x : Kept) → not (is_of e.asked x) ≡ true → entry_of x.asked kept ≡ Some x → entry_of x.asked (entry ∷ kept) ≡ Some x
          others_last x other was =
              let differ : is_of e.asked x ≡ false = is_false (is_of e.asked x) other in
              let apart : same_question x.asked e.asked ≡ false = turned tests tests_decide (low e.asked) (low x.asked) differ in
              ap (λ r. cond (same_question x.asked r) (Some entry) (entry_of x.asked kept)) (sym (ap (λ k. k.asked) is))
              ∙ ap (λ b. cond b (Some entry) (entry_of x.asked kept)) apart ∙ was

          kept_too : (q : Question) (b : Bool) → (b || member tests (low q) uses) ≡ true → is_some (cond b (Some entry) (entry_of q kept)) ≡ true
          kept_too q true m = refl
          kept_too q false m = so.were_kept q m

          used_too : (q : Question) (b : Bool) → is_some (cond b (Some entry) (entry_of q kept)) ≡ true → (b || member tests (low q) uses) ≡ true
          used_too q true m = refl
          used_too q false m = so.were_used q m

    -- after a look that found the entry
    so_looked : (asked : Question) (e : Kept) → entry_of asked cache.entries ≡ Some e → IsSo room most (low asked ∷ uses) kept (used e cache)
    so_looked asked e hit =
        let f = found (λ k. entry_of k.asked kept ≡ Some k) (is_of asked) cache.entries e so.last hit in
        let same : low asked ≡ low_asked e = (tests_decide (low asked) (low_asked e)).0 f.1 in
        record {
          has_room = so.has_room;
          has_most = so.has_most;
          recent = so_recent e (low asked) (sym same);
          last = all-take _ cache.room (e ∷ others e.asked cache.entries) (f.0, all-filter (λ other. not (is_of e.asked other)) _ _ (λ x other was. was) cache.entries so.last);
          were_kept = λ q m. kept_too same f.0 q (same_question q asked) refl m;
          were_used = λ q m. or_right (same_question q asked) _ (so.were_used q m);
        }
      where
        kept_too : low asked ≡ low_asked e → entry_of e.asked kept ≡ Some e → (q : Question) (b : Bool) → same_question q asked ≡ b → (b || member tests (low q) uses) ≡ true → is_some (entry_of q kept) ≡ true
        kept_too same last q true t m = ap is_some (same-entry q e.asked ((tests_decide (low q) (low asked)).0 t ∙ same) kept ∙ last)
        kept_too same last q false t m = so.were_kept q m

    so_given : (asked : Question) (at : ℕ) (answer : Answer) (o : Option Kept) → entry_of asked cache.entries ≡ o → Some answer ≡ answer_before at o → IsSo room most (low asked ∷ uses) kept (used_if o cache)
    so_given asked at answer None hit got = cc
    so_given asked at answer (Some e) hit got = so_looked asked e hit

  -- after any calls
  so_after : (past : List CacheCall) (cache : Cache) → LeadTo room most past cache → IsSo room most (map low (filter_map used_by past)) (filter_map (kept_by most) past) cache
  so_after [] cache led = subst (IsSo room most [] []) (sym led) so_new
  so_after (call ∷ past) cache led = step call (so_after past led.0 led.1) led.2
    where
      step : (c : CacheCall) → IsSo room most (map low (filter_map used_by past)) (filter_map (kept_by most) past) led.0 → Does c led.0 cache
          → IsSo room most (map low (filter_map used_by (c ∷ past))) (filter_map (kept_by most) (c ∷ past)) cache
      step (keep asked answer at (Ok true)) so does =
          subst (IsSo room most _ _) (sym does.1) (so_kept _ _ led.0 so asked answer at (kept_from led.0.most asked answer at) (same_entry _ _ led.0 so asked answer at))
      step (keep asked answer at (Ok false)) so does = subst (IsSo room most _ _) (sym does.1) so
      step (keep asked answer at (Err refused)) so does = subst (IsSo room most _ _) (sym does.1) so
      step (look asked at (Ok (Some answer))) so does =
          subst (IsSo room most _ _) (sym does.1) (so_given _ _ led.0 so asked at answer (entry_of asked led.0.entries) refl does.0)
      step (look asked at (Ok None)) so does = subst (IsSo room most _ _) (sym does.1) so
      step (look asked at (Err refused)) so does = subst (IsSo room most _ _) (sym does.1) so

  -- ---- the law

  module _ (past : List CacheCall) (cache : Cache) (led : LeadTo room most past cache) where
    abbrev so : IsSo room most (map low (filter_map used_by past)) (filter_map (kept_by most) past) cache
    so = so_after past cache led

    abbrev uses : List Question
    uses = filter_map used_by past

    -- who has an entry was used
    was_used : (q : Question) → is_some (entry_of q cache.entries) ≡ true → member tests (low q) (map low uses) ≡ true
    was_used q h =
        sym (member-once tests tests_decide (low q) (map low uses))
        ∙ member-take tests tests_decide room (low q) (once tests (map low uses)) (ap (member tests (low q)) (sym so.recent) ∙ sym (has-entry q cache.entries) ∙ h)

    -- for who was used, an entry is there exactly where few enough others were used since
    in_place : (q : Question) → member tests (low q) (map low uses) ≡ true → (is_some (entry_of q cache.entries) ≡ true) ↔ (different (used_since q past) < room)
    in_place q m =
        let p = own_place q uses m in
        let apart = subst (Apart tests) p.2 (apart-once tests tests_decide (map low uses)) in
        let first = among-first tests tests_decide room (low q) p.0 p.1 apart in
        let there : is_some (entry_of q cache.entries) ≡ member tests (low q) (take room (p.0 ++ low q ∷ p.1)) = has-entry q cache.entries ∙ ap (member tests (low q)) (so.recent ∙ ap (take room) p.2) in
        (λ h. subst (λ n. n < room) (sym p.3) (first.0 (sym there ∙ h)), λ few. there ∙ first.1 (subst (λ n. n < room) p.3 few))

    pub questions_stand : (q : Question) → (is_some (entry_of q cache.entries) ≡ true) ↔ Stands room most past q
    questions_stand q = (
      λ h. let m = was_used q h in record { kept = so.were_kept q m; recent = (in_place q m).0 h },
      λ s. (in_place q (so.were_used q s.kept)).1 s.recent,
    )

    -- the entry at a position has as many other questions used since
    pub entries_in_order : (i : ℕ) (e : Kept) → slice_get cache.entries i ≡ Some e → different (used_since e.asked past) ≡ i
    entries_in_order i e at =
        let here : slice_get (take room (once tests (map low uses))) i ≡ Some (low_asked e) = ap (λ l. slice_get l i) (sym so.recent) ∙ get-map low_asked i cache.entries e at in
        let among : slice_get (once tests (map low uses)) i ≡ Some (low_asked e) = get-take room i (once tests (map low uses)) (low_asked e) here in
        let m : member tests (low_asked e) (map low uses) ≡ true = sym (member-once tests tests_decide (low_asked e) (map low uses)) ∙ got i (once tests (map low uses)) among in
        let p = own_place e.asked uses m in
        let apart = subst (Apart tests) p.2 (apart-once tests tests_decide (map low uses)) in
        p.3 ∙ sym (place tests tests_decide i (low_asked e) p.0 p.1 apart (ap (λ l. slice_get l i) (sym p.2) ∙ among))
      where
        got : (j : ℕ) (qs : List Question) → slice_get qs j ≡ Some (low_asked e) → member tests (low_asked e) qs ≡ true
        got j [] h = cc
        got zero (r ∷ rs) h = let same : r ≡ low_asked e = cc in or_left (tests (low_asked e) r) _ ((tests_decide (low_asked e) r).1 (sym same))
        got (suc j) (r ∷ rs) h = or_right (tests (low_asked e) r) _ (got j rs h)

    -- a look gives an answer exactly where the question stands and its last kept answer hasn't ended
    pub answers_given : (q : Question) (at : ℕ) (answer : Answer) → (given q at cache ≡ Some answer) ↔ IsGiven room most past q at answer
    answers_given q at answer = (λ e. by (entry_of q cache.entries) refl e, back)
      where
        lasts : (entry : Kept) → entry_of q cache.entries ≡ Some entry → last_kept most q past ≡ Some entry
        lasts entry hit =
            let f = found (λ k. entry_of k.asked (filter_map (kept_by most) past) ≡ Some k) (is_of q) cache.entries entry so.last hit in
            same-entry q entry.asked ((tests_decide (low q) (low_asked entry)).0 f.1) (filter_map (kept_by most) past) ∙ f.0

        by : (o : Option Kept) → entry_of q cache.entries ≡ o → answer_before at o ≡ Some answer → IsGiven room most past q at answer
        by None hit e = cc
        by (Some entry) hit e = in_time (nat_lt at entry.end) refl e
          where
            in_time : (b : Bool) → nat_lt at entry.end ≡ b → (cond b (Some entry.answer) None) ≡ Some answer → IsGiven room most past q at answer
            in_time true t h = record {
              stands = (questions_stand q).0 (ap is_some hit);
              entry = entry;
              last = lasts entry hit;
              in_time = ltb-true at entry.end t;
              its = cc;
            }
            in_time false t h = cc

        back : IsGiven room most past q at answer → given q at cache ≡ Some answer
        back g = there (entry_of q cache.entries) refl ((questions_stand q).1 g.stands)
          where
            there : (o : Option Kept) → entry_of q cache.entries ≡ o → is_some (entry_of q cache.entries) ≡ true → answer_before at (entry_of q cache.entries) ≡ Some answer
            there None hit some = absurd (false≢true (sym (ap is_some hit) ∙ some))
            there (Some entry) hit some =
                let same : entry ≡ g.entry = (let last = lasts entry hit in let other = g.last in cc) in
                ap (answer_before at) hit
                ∙ ap (λ b. cond b (Some entry.answer) None) (lt-ltb at entry.end (subst (λ k. at < k.end) (sym same) g.in_time))
                ∙ ap Some (ap (λ k. k.answer) same ∙ g.its)
