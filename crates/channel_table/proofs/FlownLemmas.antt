-- How what finds the attempts in flight follows the lookups of a row.
use Rattle.channel_table.proofs.Base.{◌≡◌, ◌∙◌, ℕ, Bool, true, false, cond, List, [], ◌∷◌, ◌++◌, Option, Some, None, refl, ap, sym, subst, append_assoc, nat_cmp_total, eq_by_cmp, nat_cmp, if◌then◌else◌, is_some, option_map, option_to_list, ⊤, Answer, ServerKey, Status, ending_status, Judged, flying_in, fresh_leg, leg_behind, phase_with, spent_with, Flying, Flags, key_cmp_total, tied_keys, key_cmp, Deadlines, Key, after, has_next, last_status, next_row, lookups_behind, AreFlown, entry_by_id, entry_by_leg, key_of_lookup, begun_flown, ended_of, concerns_second, left_of, left_second, flying_left, has_left, kept_in, row_set, lookup_set, begun_row, lookup_at, lookups, begun_lookup, closed_lookup, flying_of, concerns, next_lookup, lookup_behind, After, Ends, Stays, Row, Concerned, Lookup, Flown}
use Rattle.std.specs.FinMap as map
use Rattle.leg_index.specs.Flights.{LegsById}
use Rattle.query_machine.specs.declared.leg.Leg as machine
use Rattle.query_machine.specs.declared.leg.Phase.TheVariants as phases
use Rattle.timeout_queue.proofs.Theorems.{key_cmp-IsAntisymmetric}
use Rattle.channel_table.proofs.EntryLemmas.{entry_put, entry_removed, more_entry, no_entry, same_entry}
use Rattle.channel_table.specs.Forgotten.{forgotten, forgotten_if, left_of_second, without_flying}

no_value : {A : Type 0} (o : Option A) → is_some o ≡ false → o ≡ None
no_value None e = refl
no_value (Some x) e = absurd cc

-- the lookup without an attempt
abbrev idle_lookup : Lookup → Lookup
idle_lookup lookup = record lookup { leg = record lookup.leg { phase = phases.Waiting } }

module _ (flown : Flown) (xs ys : List Lookup) where
  -- a lookup without an attempt in the place of another one
  pub still_flown : (lookup other : Lookup) → flying_of lookup ≡ None → flying_of other ≡ None → AreFlown flown (xs ++ lookup ∷ ys) → AreFlown flown (xs ++ other ∷ ys)
  still_flown lookup other none idle are = record {
    by_id = same_entry nat_cmp_total entry_by_id flown.flights xs ys lookup other (ap (λ (o : Option Flying). option_map (λ (f : Flying). (f.id, key_of_lookup lookup)) o) none ∙ sym (ap (λ (o : Option Flying). option_map (λ (f : Flying). (f.id, key_of_lookup other)) o) idle)) are.by_id;
    by_leg = same_entry key_cmp_total entry_by_leg flown.deadlines xs ys lookup other (ap (λ (o : Option Flying). option_map (λ (f : Flying). (key_of_lookup lookup, f.due)) o) none ∙ sym (ap (λ (o : Option Flying). option_map (λ (f : Flying). (key_of_lookup other, f.due)) o) idle)) are.by_leg;
  }

  -- or none
  pub less_flown : (lookup : Lookup) → flying_of lookup ≡ None → AreFlown flown (xs ++ lookup ∷ ys) → AreFlown flown (xs ++ ys)
  less_flown lookup none are = record {
    by_id = no_entry nat_cmp_total entry_by_id flown.flights xs ys lookup (ap (λ (o : Option Flying). option_map (λ (f : Flying). (f.id, key_of_lookup lookup)) o) none) are.by_id;
    by_leg = no_entry key_cmp_total entry_by_leg flown.deadlines xs ys lookup (ap (λ (o : Option Flying). option_map (λ (f : Flying). (key_of_lookup lookup, f.due)) o) none) are.by_leg;
  }

  pub more_flown : (lookup : Lookup) → flying_of lookup ≡ None → AreFlown flown (xs ++ ys) → AreFlown flown (xs ++ lookup ∷ ys)
  more_flown lookup none are = record {
    by_id = more_entry nat_cmp_total entry_by_id flown.flights xs ys lookup (ap (λ (o : Option Flying). option_map (λ (f : Flying). (f.id, key_of_lookup lookup)) o) none) are.by_id;
    by_leg = more_entry key_cmp_total entry_by_leg flown.deadlines xs ys lookup (ap (λ (o : Option Flying). option_map (λ (f : Flying). (key_of_lookup lookup, f.due)) o) none) are.by_leg;
  }

  -- a lookup whose attempt is forgotten
  pub forgot : (lookup other : Lookup) → flying_of other ≡ None → AreFlown flown (xs ++ lookup ∷ ys) → AreFlown (forgotten lookup flown) (xs ++ other ∷ ys)
  forgot lookup other idle are = by_flying (flying_of lookup) refl
    where
      by_flying : (o : Option Flying) → flying_of lookup ≡ o → AreFlown (without_flying (key_of_lookup lookup) o flown) (xs ++ other ∷ ys)
      by_flying None is = still_flown lookup other is idle are
      by_flying (Some flying) is = record {
        by_id = entry_removed nat_cmp_total entry_by_id flown.flights xs ys lookup other flying.id (key_of_lookup lookup) (ap (λ (o : Option Flying). option_map (λ (f : Flying). (f.id, key_of_lookup lookup)) o) is) (ap (λ (o : Option Flying). option_map (λ (f : Flying). (f.id, key_of_lookup other)) o) idle) are.by_id;
        by_leg = entry_removed key_cmp_total entry_by_leg flown.deadlines xs ys lookup other (key_of_lookup lookup) flying.due (ap (λ (o : Option Flying). option_map (λ (f : Flying). (key_of_lookup lookup, f.due)) o) is) (ap (λ (o : Option Flying). option_map (λ (f : Flying). (key_of_lookup other, f.due)) o) idle) are.by_leg;
      }

  -- a lookup whose attempt begins
  pub begun : (flying : Flying) (lookup : Lookup) → flying_of lookup ≡ None → map.get flown.flights flying.id ≡ None → map.get flown.deadlines (key_of_lookup lookup) ≡ None → AreFlown flown (xs ++ lookup ∷ ys)
      → AreFlown (begun_flown (key_of_lookup lookup) flying.id flying.due flown) (xs ++ begun_lookup flying lookup ∷ ys)
  begun flying lookup none free idle are = record {
    by_id = entry_put nat_cmp_total entry_by_id flown.flights xs ys lookup (begun_lookup flying lookup) flying.id (key_of_lookup lookup) (ap (λ (o : Option Flying). option_map (λ (f : Flying). (f.id, key_of_lookup lookup)) o) none) refl free are.by_id;
    by_leg = entry_put key_cmp_total entry_by_leg flown.deadlines xs ys lookup (begun_lookup flying lookup) (key_of_lookup lookup) flying.due (ap (λ (o : Option Flying). option_map (λ (f : Flying). (key_of_lookup lookup, f.due)) o) none) refl idle are.by_leg;
  }

-- ---- rows

-- a lookup becomes another one, which has no attempt where it is forgotten, and else has the same
pub record Changes (gone : Bool) (lookup other : Lookup) : Type 0 where
  pub idle : gone ≡ true → flying_of other ≡ None
  pub same : gone ≡ false → (entry_by_id lookup ≡ entry_by_id other) × (entry_by_leg lookup ≡ entry_by_leg other) × (flying_of other ≡ flying_of lookup)

-- the same of a second lookup, if there is one
abbrev pub ChangesSecond : Bool → Option Lookup → Option Lookup → Type 0
ChangesSecond gone None None = ⊤
ChangesSecond gone None (Some other) = ⊥
ChangesSecond gone (Some lookup) None = ⊥
ChangesSecond gone (Some lookup) (Some other) = Changes gone lookup other

lookup_changed : (flown : Flown) (xs ys : List Lookup) (gone : Bool) (lookup other : Lookup) → Changes gone lookup other → AreFlown flown (xs ++ lookup ∷ ys) → AreFlown (forgotten_if gone lookup flown) (xs ++ other ∷ ys)
lookup_changed flown xs ys true lookup other changes are = forgot flown xs ys lookup other (changes.idle refl) are
lookup_changed flown xs ys false lookup other changes are =
    let same = changes.same refl in
    record { by_id = same_entry nat_cmp_total entry_by_id flown.flights xs ys lookup other same.0 are.by_id; by_leg = same_entry key_cmp_total entry_by_leg flown.deadlines xs ys lookup other same.1 are.by_leg }

second_changed : (flown : Flown) (xs ys : List Lookup) (gone : Bool) (second new : Option Lookup) → ChangesSecond gone second new → AreFlown flown (xs ++ (option_to_list second ++ ys)) → AreFlown (left_of_second gone second flown) (xs ++ (option_to_list new ++ ys))
second_changed flown xs ys gone None None changes are = are
second_changed flown xs ys gone None (Some other) changes are = absurd changes
second_changed flown xs ys gone (Some lookup) None changes are = absurd changes
second_changed flown xs ys gone (Some lookup) (Some other) changes are = lookup_changed flown xs ys gone lookup other changes are

module _ {T : Type 0} (flown : Flown) (xs ys : List Lookup) (row : Row T) where
  -- a row whose lookups change
  row_changed : (first second : Bool) (new : Row T) → Changes first row.first new.first → ChangesSecond second row.second new.second → AreFlown flown (xs ++ (lookups row ++ ys)) → AreFlown (left_of first second row flown) (xs ++ (lookups new ++ ys))
  row_changed first second new one two are =
      let left = forgotten_if first row.first flown in
      let before = lookup_changed flown xs (option_to_list row.second ++ ys) first row.first new.first one are in
      subst (AreFlown (left_of first second row flown)) (append_assoc xs (new.first ∷ []) (option_to_list new.second ++ ys))
      (second_changed left (xs ++ new.first ∷ []) ys second row.second new.second two (subst (AreFlown left) (sym (append_assoc xs (new.first ∷ []) (option_to_list row.second ++ ys))) before))

  -- a row of which all attempts are forgotten is gone
  pub row_gone : AreFlown flown (xs ++ (lookups row ++ ys)) → AreFlown (left_of true true row flown) (xs ++ ys)
  row_gone are = by_second row.second one
    where
      one : AreFlown (forgotten row.first flown) (xs ++ (option_to_list row.second ++ ys))
      one = less_flown (forgotten row.first flown) xs (option_to_list row.second ++ ys) (idle_lookup row.first) refl (forgot flown xs (option_to_list row.second ++ ys) row.first (idle_lookup row.first) refl are)

      by_second : (o : Option Lookup) → AreFlown (forgotten row.first flown) (xs ++ (option_to_list o ++ ys)) → AreFlown (left_of_second true o (forgotten row.first flown)) (xs ++ ys)
      by_second None before = before
      by_second (Some lookup) before = less_flown (forgotten lookup (forgotten row.first flown)) xs ys (idle_lookup lookup) refl (forgot (forgotten row.first flown) xs ys lookup (idle_lookup lookup) refl before)

-- an attempt that has come to its end isn't in flight
idle_phase : (judged : Judged) (most : ℕ) (leg : machine.Leg) → flying_in (leg_behind judged most leg).phase ≡ None
idle_phase judged most leg = by_status (ending_status (Some judged) (spent_with judged leg.spent) most)
  where
    by_status : (o : Option Status) → flying_in (phase_with o) ≡ None
    by_status None = refl
    by_status (Some status) = refl

pub lookup_ends : (concerned : Concerned) (second : Bool) (judged : Judged) (reply : List ℕ) (most : ℕ) (lookup : Lookup) → Changes (concerns concerned second lookup) lookup (lookup_behind concerned second judged reply most lookup)
lookup_ends concerned second judged reply most lookup = by_test (concerns concerned second lookup)
  where
    by_test : (b : Bool) → Changes b lookup (if b then closed_lookup judged reply most lookup else lookup)
    by_test true = record { idle = λ e. idle_phase judged most lookup.leg; same = λ e. absurd (let f : true ≡ false = e in cc) }
    by_test false = record { idle = λ e. absurd (let t : false ≡ true = e in cc); same = λ e. (refl, refl, refl) }

pub second_ends : (concerned : Concerned) (judged : Judged) (reply : List ℕ) (most : ℕ) (second : Option Lookup) → ChangesSecond (concerns_second concerned second) second (option_map (lookup_behind concerned true judged reply most) second)
second_ends concerned judged reply most None = tt
second_ends concerned judged reply most (Some lookup) = lookup_ends concerned true judged reply most lookup

pub next_idle : (leg : machine.Leg) (lookup : Lookup) → flying_in leg.phase ≡ None → Changes true lookup (next_lookup leg lookup)
next_idle leg lookup none = record { idle = λ e. none; same = λ e. absurd (let f : true ≡ false = e in cc) }

pub second_idle : (leg : machine.Leg) (second : Option Lookup) → flying_in leg.phase ≡ None → ChangesSecond true second (option_map (next_lookup leg) second)
second_idle leg None none = tt
second_idle leg (Some lookup) none = next_idle leg lookup none

pub lookup_sets : (list : List ServerKey) (lookup : Lookup) → Changes (has_left list lookup) lookup (lookup_set list lookup)
lookup_sets list lookup = by_test (flying_left list (flying_of lookup))
  where
    by_test : (b : Bool) → Changes b lookup (record lookup { leg = if b then record lookup.leg { phase = phases.Waiting; forced = None } else record lookup.leg { forced = kept_in list lookup.leg.forced } })
    by_test true = record { idle = λ e. refl; same = λ e. absurd (let f : true ≡ false = e in cc) }
    by_test false = record { idle = λ e. absurd (let t : false ≡ true = e in cc); same = λ e. (refl, refl, refl) }

pub second_sets : (list : List ServerKey) (second : Option Lookup) → ChangesSecond (left_second list second) second (option_map (lookup_set list) second)
second_sets list None = tt
second_sets list (Some lookup) = lookup_sets list lookup

-- the lookups that are left of a row
abbrev pub lookups_left : {T : Type 0} → After T → List Lookup
lookups_left (Stays row) = lookups row
lookups_left (Ends ticket) = []

module _ {T : Type 0} (flown : Flown) (xs ys : List Lookup) (row : Row T) where
  -- a row whose attempts end that an entry concerns
  pub after_flown : (flags : Flags) (concerned : Concerned) (judged : Judged) (reply : List ℕ) (most : ℕ) (answer : Option Answer) → AreFlown flown (xs ++ (lookups row ++ ys))
      → AreFlown (ended_of concerned (is_some answer) row flown) (xs ++ (lookups_left (after flags concerned judged reply most row answer) ++ ys))
  after_flown flags concerned judged reply most None are =
      row_changed flown xs ys row (concerns concerned false row.first) (concerns_second concerned row.second) (lookups_behind concerned judged reply most row) (lookup_ends concerned false judged reply most row.first)
      (second_ends concerned judged (if concerns concerned false row.first then [] else reply) most row.second) are
  after_flown flags concerned judged reply most (Some answer) are = by_test (has_next answer.status row)
    where
      by_test : (b : Bool) → AreFlown (left_of true true row flown) (xs ++ (lookups_left (if b then Stays (next_row (fresh_leg flags) answer.status row) else Ends (record { token = row.token; call = record answer { status = last_status row.empty answer.status } })) ++ ys))
      by_test true = row_changed flown xs ys row true true (next_row (fresh_leg flags) answer.status row) (next_idle (fresh_leg flags) row.first refl) (second_idle (fresh_leg flags) row.second refl) are
      by_test false = row_gone flown xs ys row are

  -- and behind a new list of servers
  pub set_flown : (list : List ServerKey) → AreFlown flown (xs ++ (lookups row ++ ys)) → AreFlown (left_of (has_left list row.first) (left_second list row.second) row flown) (xs ++ (lookups (row_set list row) ++ ys))
  set_flown list are = row_changed flown xs ys row (has_left list row.first) (left_second list row.second) (row_set list row) (lookup_sets list row.first) (second_sets list row.second) are

  -- a row whose first or second lookup begins its attempt
  pub begin_flown : (flying : Flying) (second : Bool) (lookup : Lookup) → lookup_at second row ≡ Some lookup → flying_of lookup ≡ None → map.get flown.flights flying.id ≡ None → map.get flown.deadlines (key_of_lookup lookup) ≡ None → AreFlown flown (xs ++ (lookups row ++ ys))
      → AreFlown (begun_flown (key_of_lookup lookup) flying.id flying.due flown) (xs ++ (lookups (begun_row flying second row) ++ ys))
  begin_flown flying false lookup at none free idle are =
      let same : row.first ≡ lookup = cc in
      subst (λ (s : Lookup). AreFlown (begun_flown (key_of_lookup s) flying.id flying.due flown) (xs ++ (lookups (begun_row flying false row) ++ ys))) same
      (begun flown xs (option_to_list row.second ++ ys) flying row.first (subst (λ (s : Lookup). flying_of s ≡ None) (sym same) none) free (subst (λ (s : Lookup). map.get flown.deadlines (key_of_lookup s) ≡ None) (sym same) idle) are)
  begin_flown flying true lookup at none free idle are =
      let there : AreFlown flown (xs ++ row.first ∷ lookup ∷ ys) = subst (λ (o : Option Lookup). AreFlown flown (xs ++ row.first ∷ (option_to_list o ++ ys))) at are in
      subst (λ (o : Option Lookup). AreFlown (begun_flown (key_of_lookup lookup) flying.id flying.due flown) (xs ++ row.first ∷ (option_to_list (option_map (begun_lookup flying) o) ++ ys))) (sym at)
      (subst (AreFlown (begun_flown (key_of_lookup lookup) flying.id flying.due flown)) (append_assoc xs (row.first ∷ []) (begun_lookup flying lookup ∷ ys))
      (begun flown (xs ++ row.first ∷ []) ys flying lookup none free idle (subst (AreFlown flown) (sym (append_assoc xs (row.first ∷ []) (lookup ∷ ys))) there)))

-- nothing is found of no lookups
pub none_flown : (flown : Flown) → flown.flights ≡ map.empty → flown.deadlines ≡ map.empty → AreFlown flown []
none_flown flown no_flights no_deadlines = record {
  by_id = λ id. sym (ap option_to_list (ap (λ (m : LegsById). map.get m id) no_flights ∙ map.get-empty nat_cmp id));
  by_leg = λ leg. sym (ap option_to_list (ap (λ (m : Deadlines). map.get m leg) no_deadlines ∙ map.get-empty key_cmp leg));
}

-- a key that was put in and taken out again
pub put_back : (m : Deadlines) (leg : Key) (due : ℕ) → map.contains_key m leg ≡ false → map.remove (map.insert m leg due) leg ≡ m
put_back m leg due absent = map.same_map key_cmp_total key_cmp-IsAntisymmetric (map.remove (map.insert m leg due) leg) m (λ q. map.get-remove key_cmp_total (map.insert m leg due) leg q ∙ by_tie q (eq_by_cmp key_cmp q leg) refl)
  where
    by_tie : (q : Key) (b : Bool) → eq_by_cmp key_cmp q leg ≡ b → cond b None (map.get (map.insert m leg due) q) ≡ map.get m q
    by_tie q true is = sym (ap (map.get m) (tied_keys q leg is) ∙ no_value (map.get m leg) absent)
    by_tie q false is = map.get-insert key_cmp_total m leg due q ∙ ap (λ b. cond b (Some due) (map.get m q)) is
