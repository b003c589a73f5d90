-- Commands that left no entry: where nothing was lost, they had nothing to do, and no request among them was dropped before the channel was destroyed.
use Rattle.std.proofs.Common.{◌≡◌, ℕ, zero, suc, ◌+◌, ◌≤◌, ◌==◌, if◌then◌else◌, List, [], ◌∷◌, ◌++◌, length, take, Bool, true, false, not, cond, ◌&&◌, ◌||◌, Option, Some, None, refl, sym, ap, ◌∙◌, arith}
use Rattle.std.specs.Prelude.{IsTrue, IsFalse, All, slice_get, filter_map, option_and_then, count_by, nat_le}
use Rattle.std.specs.List.{list_all}
use Rattle.std.proofs.lemmas.Bool.{leb-true}
use Rattle.std.proofs.lemmas.List.{append_assoc, length-append}
use Rattle.std.proofs.lemmas.List.Elements.{All-cons, All-nil}
use Rattle.std.proofs.lemmas.List.Sums.{sum_by-cons}
use Rattle.chan_types.specs.declared.command.Command.{Command}
use Rattle.chan_types.specs.declared.command.Command.TheVariants.{Ask, Cancel, Destroy}
use Rattle.chan_types.specs.declared.journal.Entry.{Entry}
use Rattle.chan_types.specs.declared.journal.What.{What}
use Rattle.chan_types.specs.declared.orders.Orders.{Orders}
use Rattle.channel_model.specs.Commands.{Outcome, left, passed, lost, position_of, positions_left, is_lost, positions_from, past_at, leaves, commands_for, IsAt, AllBecame, IsPerformed, Performance, asking_of, asking_in, accepted_for, without_entry, HadNothing}
use Rattle.channel_model.specs.Journal.{Past, followed_by, is_destroy, is_destroyed}
use Rattle.channel_model.specs.Setting.{Setting}

-- ---- a Destroy stays

-- a disjunction has its right part
or_right : (b c : Bool) → c ≡ true → (b || c) ≡ true
or_right true c h = refl
or_right false c h = h

-- a Destroy that stands in the past stays there
destroyed_stays : (past : Past) (es : List Entry) → IsTrue (is_destroyed past) → IsTrue (is_destroyed (followed_by past es))
destroyed_stays past [] h = h
destroyed_stays past (e ∷ es) h = destroyed_stays (e.what ∷ past) es (or_right (is_destroy e.what) (is_destroyed past) h)

-- and so it does from one position to a later one
destroyed_later : (past : Past) (es : List Entry) (k m : ℕ) → k ≤ m → IsTrue (is_destroyed (followed_by past (take k es))) → IsTrue (is_destroyed (followed_by past (take m es)))
destroyed_later past [] zero zero le h = h
destroyed_later past [] zero (suc m) le h = h
destroyed_later past [] (suc k) zero le h = h
destroyed_later past [] (suc k) (suc m) le h = h
destroyed_later past (e ∷ es) zero m le h = destroyed_stays past (take m (e ∷ es)) h
destroyed_later past (e ∷ es) (suc k) zero le h = absurd (omega (arith, le))
destroyed_later past (e ∷ es) (suc k) (suc m) le h = destroyed_later (e.what ∷ past) es k m (omega (arith, le)) h

-- ---- entries by their positions

-- the item behind the front
get_behind : {A : Type 0} (front : List A) (x : A) (xs : List A) → slice_get (front ++ x ∷ xs) (length front) ≡ Some x
get_behind [] x xs = refl
get_behind (y ∷ front) x xs = get_behind front x xs

-- what an entry with a value gives, where it passes a test
abbrev given : {A : Type 0} → (Entry → Bool) → (What → Option A) → Entry → Option A
given test value entry = if test entry then value entry.what else None

-- what the entry at a position gives
abbrev given_at : {A : Type 0} → (What → Option A) → List Entry → ℕ → Option A
given_at value journal position = option_and_then (λ entry. value entry.what) (slice_get journal position)

-- what the entries at the positions of a test give is what the entries with that test give
given_positions : {A : Type 0} (test : Entry → Bool) (value : What → Option A) (front es : List Entry) →
    filter_map (given_at value (front ++ es)) (positions_from test (length front) es) ≡ filter_map (given test value) es
given_positions test value front [] = refl
given_positions {A} test value front (e ∷ es) =
    by_test (test e) refl (
    ap (λ n. filter_map (given_at value (front ++ e ∷ es)) (positions_from test n es)) (sym (length-append front (e ∷ [])))
    ∙ ap (λ l. filter_map (given_at value l) (positions_from test (length (front ++ e ∷ [])) es)) (sym (append_assoc front (e ∷ []) es))
    ∙ given_positions test value (front ++ e ∷ []) es)
  where
    by_test : (b : Bool) → test e ≡ b → filter_map (given_at value (front ++ e ∷ es)) (positions_from test (length front + 1) es) ≡ filter_map (given test value) es →
        filter_map (given_at value (front ++ e ∷ es)) (positions_from test (length front) (e ∷ es)) ≡ filter_map (given test value) (e ∷ es)
    by_test true is rest = rw (is, get_behind front e es, rest) refl
    by_test false is rest = rw is rest

-- ---- the laws

-- a count that is 0 counts neither the first item nor a later one
none_counted : {A : Type 0} (test : A → Bool) (x : A) (xs : List A) → count_by test (x ∷ xs) ≡ 0 → IsFalse (test x) × (count_by test xs ≡ 0)
none_counted test x xs none = by_test (test x) (sym (sum_by-cons (λ y. cond (test y) 1 0) x xs) ∙ none)
  where
    by_test : (b : Bool) → cond b 1 0 + count_by test xs ≡ 0 → IsFalse b × (count_by test xs ≡ 0)
    by_test true h = absurd (omega (arith, h))
    by_test false h = (refl, omega (arith, h))

-- a conjunction that holds has both parts
both : (b c : Bool) → (b && c) ≡ true → (b ≡ true) × (c ≡ true)
both true true h = (refl, refl)
both true false h = absurd (cc h)
both false c h = absurd (cc h)

-- a denial that fails
denied : (b : Bool) → not b ≡ false → b ≡ true
denied true h = refl
denied false h = absurd (cc h)

module _ (setting : Setting) (journal : List Entry) (last : ℕ) where
  -- a request that left no entry was performed where the channel is destroyed
  no_entry_destroyed : (position : ℕ) → position ≤ last → IsTrue (is_destroyed (past_at journal position)) → IsFalse (is_destroyed (past_at journal last)) → ⊥
  no_entry_destroyed position le is_not not_last = cc (not_last, destroyed_later [] journal position last le is_not)

  -- the requests that the left entries accept are those that are asked, where none was lost and the channel isn't destroyed up to the last position
  left_asks : (from : ℕ) (commands : List Command) (outcomes : List Outcome) → AllBecame setting journal from commands outcomes →
      IsTrue (list_all (λ outcome. nat_le (position_of outcome) last) outcomes) → count_by is_lost outcomes ≡ 0 → IsFalse (is_destroyed (past_at journal last)) →
      filter_map (given_at asking_in journal) (positions_left outcomes) ≡ filter_map asking_of commands
  left_asks from [] [] became in_time none open_ = refl
  left_asks from [] (outcome ∷ outcomes) became in_time none open_ = absurd became
  left_asks from (command ∷ commands) [] became in_time none open_ = absurd became
  left_asks from (command ∷ commands) (left k ∷ outcomes) became in_time none open_ =
      let later = left_asks (k + 1) commands outcomes became.2
      (both (nat_le k last) (list_all (λ outcome. nat_le (position_of outcome) last) outcomes) in_time).1 (none_counted is_lost (left k) outcomes none).1 open_ in
      by_command command became.1.0 later
    where
      by_command : (c : Command) → IsAt journal c k → filter_map (given_at asking_in journal) (positions_left outcomes) ≡ filter_map asking_of commands →
          filter_map (given_at asking_in journal) (k ∷ positions_left outcomes) ≡ filter_map asking_of (c ∷ commands)
      by_command (Ask spec script) at later = rw (at.stands, at.is_its.1, later) refl
      by_command Cancel at later = rw (at.stands, at.is_its) later
      by_command Destroy at later = rw (at.stands, at.is_its) later
  left_asks from (command ∷ commands) (passed k ∷ outcomes) became in_time none open_ =
      let parts = both (nat_le k last) (list_all (λ outcome. nat_le (position_of outcome) last) outcomes) in_time in
      let later = left_asks k commands outcomes became.2 parts.1 (none_counted is_lost (passed k) outcomes none).1 open_ in
      by_command command became.1.1 (leb-true k last parts.0) later
    where
      by_command : (c : Command) → IsFalse (leaves setting c (past_at journal k)) → k ≤ last → filter_map (given_at asking_in journal) (positions_left outcomes) ≡ filter_map asking_of commands →
          filter_map (given_at asking_in journal) (positions_left outcomes) ≡ filter_map asking_of (c ∷ commands)
      by_command (Ask spec script) nothing le later = absurd (no_entry_destroyed k le (denied (is_destroyed (past_at journal k)) nothing) open_)
      by_command Cancel nothing le later = later
      by_command Destroy nothing le later = later
  left_asks from (command ∷ commands) (lost k ∷ outcomes) became in_time none open_ = absurd (cc ((none_counted is_lost (lost k) outcomes none).0))

  -- where none of its requests was lost, and its commands were performed before the channel was destroyed, each request that a callback asks was accepted
  pub each_is_accepted : (seats : ℕ) (orders : Orders) (p : Performance) → IsPerformed setting journal seats orders last p → count_by is_lost p.outcomes ≡ 0 → IsFalse (is_destroyed (past_at journal last)) →
      accepted_for p.request journal ≡ filter_map asking_of (commands_for setting journal orders p.request)
  each_is_accepted seats orders p performed none open_ =
      sym (given_positions (λ entry. entry.by == p.request) asking_in [] journal)
      ∙ ap (λ l. filter_map (given_at asking_in journal) l) performed.entries_are
      ∙ left_asks 0 (commands_for setting journal orders p.request) p.outcomes performed.became performed.in_time none open_

  -- so they had
  had_nothing : (from : ℕ) (commands : List Command) (outcomes : List Outcome) → AllBecame setting journal from commands outcomes →
      IsTrue (list_all (λ outcome. nat_le (position_of outcome) last) outcomes) → count_by is_lost outcomes ≡ 0 → All (HadNothing setting journal last) (without_entry commands outcomes)
  had_nothing from [] outcomes became in_time none = All-nil (HadNothing setting journal last)
  had_nothing from (command ∷ commands) [] became in_time none = absurd became
  had_nothing from (command ∷ commands) (left k ∷ outcomes) became in_time none =
      had_nothing (k + 1) commands outcomes became.2
      (both (nat_le k last) (list_all (λ outcome. nat_le (position_of outcome) last) outcomes) in_time).1 (none_counted is_lost (left k) outcomes none).1
  had_nothing from (command ∷ commands) (passed k ∷ outcomes) became in_time none =
      let parts = both (nat_le k last) (list_all (λ outcome. nat_le (position_of outcome) last) outcomes) in_time in
      All-cons (HadNothing setting journal last) command (without_entry commands outcomes) (k, leb-true k last parts.0, became.1.1)
      (had_nothing k commands outcomes became.2 parts.1 (none_counted is_lost (passed k) outcomes none).1)
  had_nothing from (command ∷ commands) (lost k ∷ outcomes) became in_time none = absurd (cc ((none_counted is_lost (lost k) outcomes none).0))

  -- where none of its requests was lost, the commands of a callback that left no entry had nothing to do
  pub without_entry_had_nothing : (seats : ℕ) (orders : Orders) (p : Performance) → IsPerformed setting journal seats orders last p → count_by is_lost p.outcomes ≡ 0 →
      All (HadNothing setting journal last) (without_entry (commands_for setting journal orders p.request) p.outcomes)
  without_entry_had_nothing seats orders p performed none =
      had_nothing 0 (commands_for setting journal orders p.request) p.outcomes performed.became performed.in_time none
