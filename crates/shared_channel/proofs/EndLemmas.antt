-- What is left of a channel is what its passes made, saw and told, and nothing is left in it.
use Rattle.std.proofs.Common.{◌≡◌, ◌∙◌, ◌<◌, ⊎_elim, inl, inr, ℕ, ◌+◌, List, [], ◌∷◌, ◌++◌, Some, length, map, refl, ap, sym, subst, arith}
use Rattle.std.proofs.lemmas.List.{append_cancel_right, map-append}
use Rattle.std.proofs.lemmas.List.Concat.{flat_map-cons}
use Rattle.std.proofs.lemmas.List.Elements.{All-head, All-tail, Contains-append_cases, filter-append}
use Rattle.std.specs.List.{All, AllByRecursion, Contains, range_with_len}
use Rattle.std.specs.List.Sorted.{IsPermutation}
use Rattle.std.specs.Prelude.{IsSome, ◌==◌}
use mathlib.Core.List.{IsPrefix}
use Rattle.atomic_table.specs.Seated.{TableId}
use Rattle.chan_types.specs.declared.answer.Answer.{Answer}
use Rattle.chan_types.specs.declared.journal.Entry.{Entry}
use Rattle.chan_types.specs.declared.orders.Orders.{Orders}
use Rattle.channel_model.specs.Completion.{fate, occurrences, taken}
use Rattle.channel_model.specs.Journal.{accepted, own_entries, past_of}
use Rattle.channel_model.specs.Setting.{Setting}
use Rattle.channel_model.proofs.Theorems.{occurrences-append}
use Rattle.hosts_file.specs.declared.hosts.Hosts.{Hosts}
use Rattle.resolv_options.specs.declared.options.Options.{Options}
use Rattle.seat_lock.specs.History.{HasAll, IsAccounted, IsWholeHistory, SeatView}
use Rattle.seat_lock.specs.declared.view.Left.{Left}
use Rattle.shared_channel.specs.Finishing.{AnswersAll, AreAllPasses, EmptiesChannel, Finishes, HasSeenOwn, IsFirstOfAll, IsJoined, IsJournalOfAll, IsNumberOfOne, IsOneOf, LeavesNothing, Share, TellsBehind, behind_first, share_left, share_of}
use Rattle.shared_channel.specs.Passes.{PassView, pass_of}
use Rattle.shared_channel.specs.Settling.{AreSettled, IsFateSeen, IsSeenByOne, taken_in, taken_through, told_through}
use Rattle.shared_channel.specs.declared.finishing.Finished.{Finished}
use Rattle.shared_channel.proofs.AnswerLemmas.{answers_all}
use Rattle.shared_channel.proofs.CountingLemmas.{occurrences-permutation, taken_in-append, taken_of_journal, taken_through_all}
use Rattle.shared_channel.proofs.EmptyingLemmas.{leaves_nothing, tells_behind, went}
use Rattle.shared_channel.proofs.GoingLemmas.{WentOn, each_append, fate_later}
use Rattle.shared_channel.proofs.JoinLemmas.{prefix_trans}
use Rattle.shared_channel.proofs.OrderLemmas.{has_number}
use Rattle.shared_channel.proofs.WholeLemmas.{each_before, each_behind, each_front, each_made_none, first_made, only_one, own_all, seen_by_one}

abbrev Both : Type 0
Both = Options × Hosts

-- what holds of all holds one by one
pub one_by_one : {A : Type 0} (P : A → Type 0) (xs : List A) → All P xs → AllByRecursion P xs
one_by_one P [] all = tt
one_by_one P (x ∷ xs) all = (All-head P x xs all, one_by_one P xs (All-tail P x xs all))

each_of : {A : Type 0} (P Q : A → Type 0) (xs : List A) → ((x : A) → P x → Q x) → AllByRecursion P xs → AllByRecursion Q xs
each_of P Q [] f each = tt
each_of P Q (x ∷ xs) f each = (f x each.0, each_of P Q xs f each.1)

-- numbers of passes and of joined ones, through their shares
numbers_left : (js : List (Left Entry)) → map (λ (s : Share). s.number) (map share_left js) ≡ map (λ j. j.number) js
numbers_left [] = refl
numbers_left (j ∷ js) = ap (λ l. j.number ∷ l) (numbers_left js)

numbers_of : (ps : List PassView) → map (λ (s : Share). s.number) (map share_of ps) ≡ map (λ p. p.number) ps
numbers_of [] = refl
numbers_of (p ∷ ps) = ap (λ l. p.number ∷ l) (numbers_of ps)

-- joined passes that are accounted for are so by their shares
owns_of : (log : List Entry) (js : List (Left Entry)) (ps : List PassView) → map share_left js ≡ map share_of ps → AllByRecursion (IsAccounted (λ (e : Entry). e.seat) log) js
    → AllByRecursion (λ (p : PassView). p.own ≡ own_entries p.number log) ps
owns_of log [] [] same each = tt
owns_of log [] (p ∷ ps) same each = absurd (omega (arith, ap length same))
owns_of log (j ∷ js) [] same each = absurd (omega (arith, ap length same))
owns_of log (j ∷ js) (p ∷ ps) same each =
    let head : share_left j ≡ share_of p = cc same in
    let tail : map share_left js ≡ map share_of ps = cc same in
    (sym (ap (λ (s : Share). s.own) head) ∙ each.0.own ∙ ap (λ (s : Share). own_entries s.number log) head, owns_of log js ps tail each.1)

module _ (orders : Orders) (lock : TableId) (passes : List PassView) (all last : PassView)
    (are : AreAllPasses lock passes) (joined : IsJoined passes all) (emptied : EmptiesChannel orders all last) where
  abbrev going : WentOn all last
  going = went orders all last emptied

  -- the first pass has the channel's lock, setting and number of passes
  first_is : (ps : List PassView) (setting : Setting) (n : ℕ) → IsFirstOfAll ps all → AllByRecursion (IsOneOf lock setting n) ps → (all.lock ≡ lock) × (all.setting ≡ setting) × (all.seats ≡ n)
  first_is [] setting n first each = absurd first
  first_is (p ∷ ps) setting n first each =
      (ap (λ x. x.lock) first ∙ each.0.lock_is, ap (λ x. x.setting) first ∙ each.0.setting_is, ap (λ x. x.seats) first ∙ each.0.seats_are)

  of_first : (all.lock ≡ lock) × (all.setting ≡ are.setting) × (all.seats ≡ length passes)
  of_first = first_is passes are.setting (length passes) joined.first are.each

  numbers_are : map (λ (p : PassView). p.number) passes ≡ all.number ∷ map (λ j. j.number) all.joined
  numbers_are = sym (numbers_of passes) ∙ sym (ap (map (λ (s : Share). s.number)) joined.shares) ∙ ap (λ l. all.number ∷ l) (numbers_left all.joined)

  -- a number below how many passes there are is one of theirs
  of_one : (n : ℕ) → n < length passes → IsNumberOfOne passes n
  of_one n lt = has_number n 0 (length passes) (map (λ (p : PassView). p.number) passes) are.numbers (omega arith) (omega (arith, lt))

  module _ (seat : SeatView Entry Both) (is_set : IsSome seat.setting) (calls : List Answer) (lost : ℕ) (is : last ≡ pass_of seat is_set calls lost) where
    joined_is : seat.joined ≡ all.joined
    joined_is = sym (ap (λ p. p.joined) is) ∙ ap (λ p. p.joined) going.rest

    number_is : seat.number ≡ all.number
    number_is = sym (ap (λ p. p.number) is) ∙ ap (λ p. p.number) going.rest

    seats_are : seat.seats ≡ length passes
    seats_are = sym (ap (λ p. p.seats) is) ∙ ap (λ p. p.seats) going.rest ∙ of_first.2

    -- the seat is at the lock, and has all others
    pub lock_is : seat.lock ≡ lock
    lock_is = sym (ap (λ p. p.lock) is) ∙ ap (λ p. p.lock) going.rest ∙ of_first.0

    pub has_all : HasAll seat
    has_all n lt =
        let has : Contains (all.number ∷ map (λ j. j.number) all.joined) n = subst (λ ns. Contains ns n) numbers_are (of_one n (omega (arith, lt, seats_are))) in
        ⊎_elim (λ h. inl (only_one all.number n h ∙ sym number_is)) (λ h. inr (subst (λ js. Contains (map (λ j. j.number) js) n) (sym joined_is) h))
        (Contains-append_cases (all.number ∷ []) (map (λ j. j.number) all.joined) n has)

    module _ (settled : AreSettled passes) (log : List Entry) (whole : IsWholeHistory (λ (e : Entry). e.seat) seat log) where
      abbrev since : List Entry
      since = going.since

      log_is : log ≡ last.seen
      log_is = whole.seen ∙ sym (ap (λ p. p.seen) is)

      journal_is : log ≡ all.seen ++ since
      journal_is = log_is ∙ going.seen

      last_own : last.own ≡ own_entries all.number log
      last_own = ap (λ p. p.own) is ∙ whole.own ∙ ap (λ n. own_entries n log) number_is

      accounted : AllByRecursion (IsAccounted (λ (e : Entry). e.seat) log) all.joined
      accounted = subst (AllByRecursion (IsAccounted (λ (e : Entry). e.seat) log)) joined_is (one_by_one (IsAccounted (λ (e : Entry). e.seat) log) seat.joined whole.joined)

      behind : (ps : List PassView) → share_of all ∷ map share_left all.joined ≡ map share_of ps → AllByRecursion (λ (p : PassView). p.own ≡ own_entries p.number log) (behind_first ps)
      behind [] same = absurd (omega (arith, ap length same))
      behind (p ∷ ps) same = let tail : map share_left all.joined ≡ map share_of ps = cc same in owns_of log all.joined ps tail accounted

      makers : AllByRecursion (λ (entry : Entry). entry.seat < length passes) log
      makers = subst (λ n. AllByRecursion (λ (entry : Entry). entry.seat < n) log) seats_are (one_by_one (λ (entry : Entry). entry.seat < seat.seats) log whole.makers)

      -- of the journal the first pass had its own where the passes were joined
      first_before : all.own ≡ own_entries all.number all.seen
      first_before = append_cancel_right all.own (own_entries all.number all.seen) (own_entries all.number since)
          (sym going.own ∙ last_own ∙ ap (own_entries all.number) journal_is ∙ filter-append (λ (entry : Entry). entry.seat == all.number) all.seen since)

      -- so one of them had seen all of it then, and the first made what came since
      begins_and_made : (ps : List PassView) → IsFirstOfAll ps all → AllByRecursion (λ (p : PassView). IsPrefix p.seen all.seen) ps → AllByRecursion HasSeenOwn ps
          → AllByRecursion (λ (p : PassView). p.own ≡ own_entries p.number log) (behind_first ps) → AllByRecursion (λ (e : Entry). IsNumberOfOne ps e.seat) log
          → Contains (map (λ (p : PassView). p.seen) ps) all.seen × AllByRecursion (λ (e : Entry). e.seat ≡ all.number) since
      begins_and_made [] first seen own owns of_passes = absurd first
      begins_and_made (p ∷ ps) first seen own owns of_passes =
          let made : AllByRecursion (λ (e : Entry). IsNumberOfOne (p ∷ ps) e.seat) (all.seen ++ since) = subst (AllByRecursion (λ (e : Entry). IsNumberOfOne (p ∷ ps) e.seat)) journal_is of_passes in
          let theirs : AllByRecursion (λ (q : PassView). q.own ≡ own_entries q.number (all.seen ++ since)) ps = subst (λ l. AllByRecursion (λ (q : PassView). q.own ≡ own_entries q.number l) ps) journal_is owns in
          let first_own : p.own ≡ own_entries p.number all.seen = sym (ap (λ x. x.own) first) ∙ first_before ∙ ap (λ (x : PassView). own_entries x.number all.seen) first in (
            seen_by_one p ps all.seen seen own (first_own, each_before all.seen since ps own.1 seen.1 theirs) (each_front (λ (e : Entry). IsNumberOfOne (p ∷ ps) e.seat) all.seen since made),
            subst (λ n. AllByRecursion (λ (e : Entry). e.seat ≡ n) since) (sym (ap (λ x. x.number) first))
                (first_made since p ps (each_behind (λ (e : Entry). IsNumberOfOne (p ∷ ps) e.seat) all.seen since made) (each_made_none all.seen since ps own.1 seen.1 theirs)),
          )

      -- the whole journal is that of all passes
      journal_of_all : IsJournalOfAll passes all log
      journal_of_all =
          let owns : AllByRecursion (λ (p : PassView). p.own ≡ own_entries p.number log) (behind_first passes) = behind passes joined.shares in
          let of_passes : AllByRecursion (λ (e : Entry). IsNumberOfOne passes e.seat) log =
          each_of (λ (e : Entry). e.seat < length passes) (λ (e : Entry). IsNumberOfOne passes e.seat) log (λ e lt. of_one e.seat lt) makers in
          let both = begins_and_made passes joined.first joined.seen joined.own owns of_passes in
          record {
            made = since;
            parts = journal_is;
            seen_by_one = both.0;
            made_by_first = both.1;
            makers = of_passes;
            first_owns = sym last_own ∙ going.own ∙ ap (λ l. all.own ++ l) (own_all all.number since both.1);
            owns = owns;
          }

      -- each request was taken as often as it was told
      taken_all : (n : ℕ) (ps : List PassView) → share_of all ∷ map share_left all.joined ≡ map share_of ps → IsPermutation (range_with_len 0 (length passes)) (map (λ (p : PassView). p.number) ps)
          → occurrences n (taken_in log) ≡ occurrences n (taken_through ps) + occurrences n (taken_in (own_entries all.number since))
      taken_all n [] same numbers = absurd (omega (arith, ap length same))
      taken_all n (p ∷ ps) same numbers =
          let head : share_of all ≡ share_of p = cc same in
          let last_first : PassView = record p { own = last.own } in
          let own_is : last.own ≡ own_entries p.number log = last_own ∙ ap (λ (s : Share). own_entries s.number log) head in
          let by_seats : occurrences n (taken_through (last_first ∷ ps)) ≡ occurrences n (taken_in log) = taken_through_all n (length passes) (last_first ∷ ps) log makers numbers (own_is, behind (p ∷ ps) same) in
          let parts : occurrences n (taken_through (last_first ∷ ps)) ≡ occurrences n (taken_in last.own) + occurrences n (taken_through ps) =
          ap (occurrences n) (flat_map-cons (λ (q : PassView). taken_in q.own) last_first ps) ∙ occurrences-append n (taken_in last.own) (taken_through ps) in
          let own_parts : occurrences n (taken_in last.own) ≡ occurrences n (taken_in p.own) + occurrences n (taken_in (own_entries all.number since)) =
          ap (λ es. occurrences n (taken_in es)) going.own ∙ ap (occurrences n) (taken_in-append all.own (own_entries all.number since))
          ∙ occurrences-append n (taken_in all.own) (taken_in (own_entries all.number since)) ∙ ap (λ (s : Share). occurrences n (taken_in s.own) + occurrences n (taken_in (own_entries all.number since))) head in
          let first_parts : occurrences n (taken_through (p ∷ ps)) ≡ occurrences n (taken_in p.own) + occurrences n (taken_through ps) =
          ap (occurrences n) (flat_map-cons (λ (q : PassView). taken_in q.own) p ps) ∙ occurrences-append n (taken_in p.own) (taken_through ps) in
          omega (arith, by_seats, parts, own_parts, first_parts)

      told_is : (n : ℕ) → occurrences n (map (λ (a : Answer). a.number) last.calls) ≡ occurrences n (taken (past_of log))
      told_is n =
          let numbers : List Answer → List ℕ = map (λ (a : Answer). a.number) in
          let parts : occurrences n (numbers last.calls) ≡ occurrences n (numbers all.calls) + occurrences n (numbers going.told) =
          ap (λ cs. occurrences n (numbers cs)) going.calls ∙ ap (occurrences n) (map-append (λ (a : Answer). a.number) all.calls going.told) ∙ occurrences-append n (numbers all.calls) (numbers going.told) in
          let before : occurrences n (numbers all.calls) ≡ occurrences n (taken_through passes) =
          ap (λ cs. occurrences n (numbers cs)) joined.calls ∙ occurrences-permutation n (taken_through passes) (numbers (told_through passes)) settled.numbers in
          let here : occurrences n (numbers going.told) ≡ occurrences n (taken_in (own_entries all.number since)) = ap (occurrences n) going.numbers in
          omega (arith, parts, before, here, taken_all n passes joined.shares are.numbers, ap (occurrences n) (taken_of_journal log))

      -- and its answer is its fate
      fate_seen : (ps : List PassView) (a : Answer) → AllByRecursion (IsOneOf lock are.setting (length passes)) ps → AllByRecursion (λ (p : PassView). IsPrefix p.seen all.seen) ps → IsSeenByOne ps a → fate all.setting a.number (past_of log) ≡ Some a
      fate_seen [] a each seen some = absurd some
      fate_seen (p ∷ ps) a each seen some = ⊎_elim
          (λ at. subst (λ s. fate s a.number (past_of log) ≡ Some a) (each.0.setting_is ∙ sym of_first.1)
          (fate_later p.setting a.number a p.seen log (prefix_trans p.seen all.seen log seen.0 (since, sym journal_is)) at))
          (λ more. fate_seen ps a each.1 seen.1 more) some

      told_fates : AllByRecursion (λ (a : Answer). fate all.setting a.number (past_of log) ≡ Some a) last.calls
      told_fates = subst (AllByRecursion (λ (a : Answer). fate all.setting a.number (past_of log) ≡ Some a)) (sym going.calls)
          (each_append (λ (a : Answer). fate all.setting a.number (past_of log) ≡ Some a) all.calls going.told
          (subst (AllByRecursion (λ (a : Answer). fate all.setting a.number (past_of log) ≡ Some a)) (sym joined.calls)
          (each_of (IsSeenByOne passes) (λ (a : Answer). fate all.setting a.number (past_of log) ≡ Some a) (told_through passes) (λ a. fate_seen passes a are.each joined.seen) settled.fates))
          (each_of (IsFateSeen last) (λ (a : Answer). fate all.setting a.number (past_of log) ≡ Some a) going.told
          (λ a at. subst (λ l. fate all.setting a.number (past_of l) ≡ Some a) (sym log_is) (subst (λ s. fate s a.number (past_of last.seen) ≡ Some a) (ap (λ p. p.setting) going.rest) at)) going.fates))

      nothing : LeavesNothing all.setting log
      nothing = subst (LeavesNothing all.setting) (sym log_is) (leaves_nothing orders all last emptied)

      answered : (count : ℕ) → count ≡ length (accepted (past_of log)) → AnswersAll all.setting log count last.calls
      answered = answers_all all.setting log last.calls nothing.lawful nothing.none_pending nothing.none_ready told_is told_fates

      pub finishes : {J : Type 0} (told : J → List Entry) (finished : Finished J) → told finished.journal ≡ log → finished.accepted ≡ length (accepted (past_of log)) → finished.calls ≡ last.calls → finished.lost ≡ last.lost → Finishes told orders passes finished
      finishes told finished journal accepts calls_are lost_is =
          record {
            all = all;
            joined = joined;
            last = last;
            emptied = emptied;
            seen = journal ∙ log_is;
            calls = calls_are;
            lost = lost_is;
            journal = subst (IsJournalOfAll passes all) (sym journal) journal_of_all;
            nothing = subst (LeavesNothing all.setting) (sym journal) nothing;
            tells = subst (TellsBehind passes emptied.delivered.called) (sym calls_are) (tells_behind orders all last emptied passes joined.calls);
            accepted_are = accepts ∙ ap (λ l. length (accepted (past_of l))) (sym journal);
            answers = subst (λ l. AnswersAll all.setting l finished.accepted finished.calls) (sym journal) (subst (AnswersAll all.setting log finished.accepted) (sym calls_are) (answered finished.accepted accepts));
          }
