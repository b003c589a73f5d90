-- How a row follows the entry that closes its attempt.
use Rattle.channel_table.proofs.Base.{◌≡◌, ◌∙◌, ℕ, ◌+◌, ◌*◌, ◌≤◌, Bool, true, false, List, [], ◌∷◌, ◌++◌, Option, Some, None, refl, ap, ap₂, cond, subst, sym, map, arith, append_assoc, length, and_parts, length_push, filter-append, AllByRecursion, option_and_then, IfSome, filter, flat_map, if◌then◌else◌, not, option_map, option_to_list, ◌&&◌, ◌||◌, Answer, What, Script, Spec, NoData, Success, Ticket, Name, Addr, Family, Options, request_of-later, script_of-later, spec_of-later, started-kept, Spares, completed_by, fate, begun_by, closes, has_leg, started, unless_closed, Accepted, Past, script_of, spec_of, LegEnd, ending_status, leg_of, legs_of, addresses_v4, addresses_v6, bare, found, merged, merged_one, same_status, bytes_of, closings, outcome_of, candidates_of, any_empty, candidate_answer, goes_on, is_empty, search_answer, attempts, Setting, has_item, Judged, fresh_leg, spent_with, Flying, after, answer_behind, has_next, last_status, next_row, lookups_behind, answer_of_ends, setting_with, Wanted, Addresses, attempt_of, flown_by, RowStands, LookupStands, TicketStands, answer_of_row, flown, number_of, lookups, ticket_number, closed_lookup, end_of_lookup, flown_lookup, flying_of, concerns, leg_of_lookup, next_lookup, number_of_leg, lookup_behind, are_passed, After, Ends, Stays, Row, Concerned, Lookup, Flags}
use Rattle.std.proofs.Common.{length-append}
use Rattle.std.specs.Prelude.{drop, get_or}
use Rattle.dns_message.specs.declared.message.Record.{Record}
use Rattle.channel_model.specs.Merge.{answers_of, canonical_name, records_of, status_of_both}
use Rattle.channel_table.proofs.FreshLegs.{unstarted_stands}
use Rattle.channel_table.proofs.LegEnds.{leg_closed, phase_lands}
use Rattle.channel_table.proofs.Outcomes.{Follows, Outcome, ends, stays}
use Rattle.channel_table.proofs.RowAnswers.{answered_flown, row_answers}
use Rattle.channel_table.proofs.RowFrames.{left_one, lookup_left, lookup_spared, spec_of_row}
use Rattle.channel_table.proofs.SearchSteps.{empty_append, gave_way, legs_within, next_legs, next_question, no_answer, no_end, passed_push, passed_stay, search_over}
use Rattle.channel_table.proofs.LookupLists.{numbers_are}
use Rattle.channel_table.proofs.TableSteps.{Stands}
use Rattle.channel_table.specs.declared.wanted.Wanted.TheVariants.{Reply}

-- what becomes of a row, as an outcome
abbrev pub outcome_after : {T : Type 0} → Row T → After T → Outcome (Row T) (Ticket T)
outcome_after row (Stays new) = stays row new
outcome_after row (Ends ticket) = ends row ticket

-- a list with an item has a first one and others
head_of : {X : Type 0} (xs : List X) (d : X) → has_item xs ≡ true → xs ≡ get_or xs 0 d ∷ drop 1 xs
head_of [] d some = absurd cc
head_of (x ∷ xs) d some = refl

none_of : {X : Type 0} (xs : List X) → has_item xs ≡ false → xs ≡ []
none_of [] e = refl
none_of (x ∷ xs) e = absurd cc

-- the answer of a candidate has its request's number
one_numbered : (setting : Setting) (request : ℕ) (nosort : Bool) (name : Name) (addresses : List Record → List Addr) (end : LegEnd) → (merged_one setting request nosort name addresses end).number ≡ request
one_numbered setting request nosort name addresses end = by_test (same_status end.status Success)
  where
    by_test : (b : Bool) → (cond b (found setting request nosort (addresses (answers_of end.reply)) (canonical_name name (answers_of end.reply))) (bare request end.status [])).number ≡ request
    by_test true = refl
    by_test false = refl

both_numbered : (setting : Setting) (request : ℕ) (nosort : Bool) (name : Name) (left right : LegEnd) → (merged setting request nosort name left right).number ≡ request
both_numbered setting request nosort name left right = by_test (has_item (addresses_v4 (records_of left) ++ addresses_v6 (records_of right)))
  where
    by_test : (b : Bool) → (cond b (found setting request nosort (addresses_v4 (records_of left) ++ addresses_v6 (records_of right)) (canonical_name name (if has_item (addresses_v4 (records_of left)) then records_of left else records_of right)))
        (bare request (status_of_both left.status right.status) [])).number ≡ request
    by_test true = refl
    by_test false = refl

pub ends_numbered : (options : Options) (request : ℕ) (wanted : Wanted) (name : Name) (left right : Option LegEnd) → IfSome (answer_of_ends options request wanted name left right) (λ (a : Answer). a.number ≡ request)
ends_numbered options request Reply name None right = tt
ends_numbered options request Reply name (Some end) right = refl
ends_numbered options request (Addresses Family.Any nosort) name None right = tt
ends_numbered options request (Addresses Family.Any nosort) name (Some left) None = tt
ends_numbered options request (Addresses Family.Any nosort) name (Some left) (Some right) = both_numbered (setting_with options) request nosort name left right
ends_numbered options request (Addresses Family.V4 nosort) name None right = tt
ends_numbered options request (Addresses Family.V4 nosort) name (Some end) right = one_numbered (setting_with options) request nosort name addresses_v4 end
ends_numbered options request (Addresses Family.V6 nosort) name None right = tt
ends_numbered options request (Addresses Family.V6 nosort) name (Some end) right = one_numbered (setting_with options) request nosort name addresses_v6 end

answer_numbered : (options : Options) (request : ℕ) (wanted : Wanted) (name : Name) (left right : Option LegEnd) (answer : Answer) → answer_of_ends options request wanted name left right ≡ Some answer → answer.number ≡ request
answer_numbered options request wanted name left right answer is = subst (λ (o : Option Answer). IfSome o (λ (a : Answer). a.number ≡ request)) is (ends_numbered options request wanted name left right)

none_plus : (n : ℕ) → n ≡ 0 + n
none_plus n = omega arith

or_none : (b : Bool) → (b || false) ≡ b
or_none true = refl
or_none false = refl

module _ (setting : Setting) (what : What) (past : Past) (concerned : Concerned) (judged : Judged) where
  -- the entry closes the attempt of a lookup, which means this, and brings these bytes
  pub record Closes (lookup : Lookup) (bytes : List ℕ) : Type 0 where
    pub flying : Flying
    pub flies : flying_of lookup ≡ Some flying
    pub closed : closes setting (attempt_of (leg_of_lookup lookup) flying) what past ≡ true
    pub means : outcome_of setting (attempt_of (leg_of_lookup lookup) flying) what past (closings setting (leg_of_lookup lookup) past) ≡ Some judged
    pub brings : bytes_of what ≡ bytes

  -- the entry closes the attempt of a lookup that it concerns, and leaves another as it is
  pub record Meets (second : Bool) (bytes : List ℕ) (lookup : Lookup) : Type 0 where
    pub hit : concerns concerned second lookup ≡ true → Closes lookup bytes
    pub missed : concerns concerned second lookup ≡ false → Spares setting what past (leg_of_lookup lookup)

module _ (setting : Setting) (what : What) (past : Past) (concerned : Concerned) (judged : Judged) (most : ℕ) (begins : begun_by what ≡ None) (may : attempts setting past ≡ most) (few : most ≤ 80) where
  lands : (lookup : Lookup) (bytes : List ℕ) → flown_lookup (closed_lookup judged bytes most lookup) ≡ []
  lands lookup bytes = ap (λ f. option_to_list (flown_by (leg_of_lookup lookup) f)) (phase_lands (ending_status (Some judged) (spent_with judged lookup.leg.spent) most))

  module _ (number : ℕ) (spec : Spec) (name : Name) (rest : List Name) where
    -- a lookup behind the entry
    lookup_follows : (second : Bool) (bytes : List ℕ) (lookup : Lookup) → Meets setting what past concerned judged second bytes lookup → LookupStands setting past number spec name rest lookup
        → LookupStands setting (what ∷ past) number spec name rest (lookup_behind concerned second judged bytes most lookup) × (flown_lookup (lookup_behind concerned second judged bytes most lookup) ≡ filter (λ a. not (closes setting a what past)) (flown_lookup lookup))
    lookup_follows second bytes lookup meets stands = by_test (concerns concerned second lookup) refl
      where
        by_test : (b : Bool) → concerns concerned second lookup ≡ b
            → LookupStands setting (what ∷ past) number spec name rest (if b then closed_lookup judged bytes most lookup else lookup) × (flown_lookup (if b then closed_lookup judged bytes most lookup else lookup) ≡ filter (λ a. not (closes setting a what past)) (flown_lookup lookup))
        by_test true hit =
            let c = meets.hit hit in (
              record {
                numbered = stands.numbered;
                current = stands.current;
                behind = stands.behind;
                asks = stands.asks;
                leg = leg_closed setting what past (leg_of_lookup lookup) lookup.leg lookup.reply c.flying judged most stands.leg c.flies c.closed begins c.means may few bytes c.brings;
                begun = ap (has_leg (leg_of_lookup lookup)) (started-kept what past begins) ∙ stands.begun;
              },
              lands lookup bytes ∙ sym (left_one setting what past (flown_by (leg_of_lookup lookup) (flying_of lookup)) ∙ ap (λ o. option_to_list (unless_closed setting what past (flown_by (leg_of_lookup lookup) o))) c.flies ∙ rw c.closed refl),
            )
        by_test false miss = (
          lookup_spared setting what past number spec name rest lookup (meets.missed miss) stands,
          sym (lookup_left setting what past lookup (meets.missed miss) stands.leg),
        )

    -- both lookups behind it
    lookups_follow : (first : Lookup) (second : Option Lookup) (one two : List ℕ) → Meets setting what past concerned judged false one first → IfSome second (Meets setting what past concerned judged true two) → AllByRecursion (LookupStands setting past number spec name rest) (first ∷ option_to_list second)
        → AllByRecursion (LookupStands setting (what ∷ past) number spec name rest) (lookup_behind concerned false judged one most first ∷ option_to_list (option_map (lookup_behind concerned true judged two most) second))
        × (flat_map flown_lookup (lookup_behind concerned false judged one most first ∷ option_to_list (option_map (lookup_behind concerned true judged two most) second)) ≡ filter (λ a. not (closes setting a what past)) (flat_map flown_lookup (first ∷ option_to_list second)))
    lookups_follow first None one two meets more each =
        let f = lookup_follows false one first meets each.0 in
        ((f.0, tt), ap (λ xs. xs ++ []) f.1 ∙ sym (filter-append (λ a. not (closes setting a what past)) (flown_lookup first) []))
    lookups_follow first (Some lookup) one two meets more each =
        let f = lookup_follows false one first meets each.0 in
        let g = lookup_follows true two lookup more each.1.0 in (
          (f.0, (g.0, tt)),
          ap₂ (λ xs ys. xs ++ (ys ++ [])) f.1 g.1
              ∙ sym (filter-append (λ a. not (closes setting a what past)) (flown_lookup first) (flown_lookup lookup ++ []) ∙ ap (λ xs. filter (λ a. not (closes setting a what past)) (flown_lookup first) ++ xs) (filter-append (λ a. not (closes setting a what past)) (flown_lookup lookup) [])),
        )

same_number : (concerned : Concerned) (second : Bool) (judged : Judged) (reply : List ℕ) (most : ℕ) (lookup : Lookup) → (lookup_behind concerned second judged reply most lookup).leg_number ≡ lookup.leg_number
same_number concerned second judged reply most lookup = by_test (concerns concerned second lookup)
  where
    by_test : (b : Bool) → (if b then closed_lookup judged reply most lookup else lookup).leg_number ≡ lookup.leg_number
    by_test true = refl
    by_test false = refl

same_numbers : (concerned : Concerned) (judged : Judged) (one two : List ℕ) (most : ℕ) (first : Lookup) (second : Option Lookup)
    → map number_of_leg (lookup_behind concerned false judged one most first ∷ option_to_list (option_map (lookup_behind concerned true judged two most) second)) ≡ map number_of_leg (first ∷ option_to_list second)
same_numbers concerned judged one two most first None = ap (λ n. n ∷ []) (same_number concerned false judged one most first)
same_numbers concerned judged one two most first (Some lookup) = ap₂ (λ m n. m ∷ n ∷ []) (same_number concerned false judged one most first) (same_number concerned true judged two most lookup)

-- fresh legs fly nowhere and have no answer
fresh_flown : (flags : Flags) (first : Lookup) (second : Option Lookup) → flat_map flown_lookup (next_lookup (fresh_leg flags) first ∷ option_to_list (option_map (next_lookup (fresh_leg flags)) second)) ≡ []
fresh_flown flags first None = refl
fresh_flown flags first (Some lookup) = refl

module _ {T : Type 0} (plan : T → Script) (setting : Setting) (what : What) (past : Past) (row : Row T) (concerned : Concerned) (judged : Judged) (reply : List ℕ) (most : ℕ) (stands : RowStands plan setting past row)
    (begins : begun_by what ≡ None) (by_search : completed_by setting row.number what past ≡ search_answer setting row.number (what ∷ past)) (may : attempts setting past ≡ most) (few : most ≤ 80)
    (meets : Meets setting what past concerned judged false reply row.first) (more : IfSome row.second (Meets setting what past concerned judged true (if concerns concerned false row.first then [] else reply))) where
  -- the row with its lookups behind the entry
  abbrev pub behind : Row T
  behind = lookups_behind concerned judged reply most row

  asks_later : spec_of row.number (what ∷ past) ≡ Some stands.spec
  asks_later = spec_of-later row.number what past stands.spec (spec_of_row plan setting what past row stands)

  stay : (are_passed setting row.number stands.spec (what ∷ past) 0 stands.passed ≡ true) × (any_empty setting row.number stands.spec (what ∷ past) 0 stands.passed ≡ any_empty setting row.number stands.spec past 0 stands.passed)
  stay = passed_stay setting row.number stands.spec what past 0 stands.passed stands.came

  follows_lookups : AllByRecursion (LookupStands setting (what ∷ past) row.number stands.spec stands.name stands.rest) (lookups (lookups_behind concerned judged reply most row))
      × (flown (lookups_behind concerned judged reply most row) ≡ filter (λ a. not (closes setting a what past)) (flown row))
  follows_lookups =
      lookups_follow setting what past concerned judged most begins may few row.number stands.spec stands.name stands.rest row.first row.second reply (if concerns concerned false row.first then [] else reply) meets more stands.each_lookup

  legged : legs_of stands.spec (length stands.passed) ≡ map number_of_leg (lookups (lookups_behind concerned judged reply most row))
  legged = stands.legged ∙ sym (same_numbers concerned judged reply (if concerns concerned false row.first then [] else reply) most row.first row.second)

  -- the answer of its current candidate
  answer_is : candidate_answer setting row.number stands.spec (length stands.passed) stands.name (what ∷ past) ≡ answer_behind setting.options concerned judged reply most row
  answer_is = row_answers setting (what ∷ past) stands.spec (length stands.passed) stands.name stands.rest (lookups_behind concerned judged reply most row) stands.wants legged follows_lookups.0

  unstarted : (k : ℕ) → 2 * length stands.passed + 2 ≤ k → has_leg (leg_of row.number k) (started (what ∷ past)) ≡ false
  unstarted k above = ap (has_leg (leg_of row.number k)) (started-kept what past begins) ∙ stands.later k above

  goes_on_so : answer_behind setting.options concerned judged reply most row ≡ None
      → Follows number_of ticket_number flown setting what past (outcome_after row (Stays (lookups_behind concerned judged reply most row))) × RowStands plan setting (what ∷ past) (lookups_behind concerned judged reply most row)
  goes_on_so is =
      let none : completed_by setting row.number what past ≡ None =
      by_search ∙ no_answer setting row.number stands.spec (what ∷ past) stands.passed stands.name stands.rest asks_later stands.candidates stay.0 (answer_is ∙ is) in (
        (refl, none, follows_lookups.1),
        record {
          spec = stands.spec;
          wants = stands.wants;
          passed = stands.passed;
          name = stands.name;
          rest = stands.rest;
          candidates = stands.candidates;
          few = stands.few;
          legged = legged;
          came = stay.0;
          emptied = stay.1 ∙ stands.emptied;
          accepts = request_of-later row.number what past _ stands.accepts;
          undecided = rw (stands.undecided, none) refl;
          each_lookup = follows_lookups.0;
          unanswered = is;
          later = unstarted;
        },
      )

  module _ (answer : Answer) (has : answer_behind setting.options concerned judged reply most row ≡ Some answer) where
    its_answer : candidate_answer setting row.number stands.spec (length stands.passed) stands.name (what ∷ past) ≡ Some answer
    its_answer = answer_is ∙ has

    -- no attempt of its is left
    leaves_none : filter (λ a. not (closes setting a what past)) (flown row) ≡ []
    leaves_none =
        sym follows_lookups.1
        ∙ answered_flown setting.options row.number stands.spec (length stands.passed) (lookup_behind concerned false judged reply most row.first) (option_map (lookup_behind concerned true judged (if concerns concerned false row.first then [] else reply) most) row.second) answer legged
        (ap (λ a. answer_of_ends setting.options row.number a (lookup_behind concerned false judged reply most row.first).question.name (end_of_lookup (lookup_behind concerned false judged reply most row.first)) (option_and_then end_of_lookup (option_map (lookup_behind concerned true judged (if concerns concerned false row.first then [] else reply) most) row.second))) stands.wants ∙ has)

    module _ (next : has_next answer.status row ≡ true) where
      first_lookup : LookupStands setting past row.number stands.spec stands.name stands.rest row.first
      first_lookup = stands.each_lookup.0

      goes : goes_on answer.status ≡ true
      goes = (and_parts (goes_on answer.status) (has_item row.first.names) next).0

      are : stands.rest ≡ get_or stands.rest 0 stands.name ∷ drop 1 stands.rest
      are = head_of stands.rest stands.name (ap has_item (sym first_lookup.behind) ∙ (and_parts (goes_on answer.status) (has_item row.first.names) next).1)

      few_left : length stands.passed + length (drop 1 stands.rest) + 2 ≤ 9
      few_left = omega (arith, stands.few, ap length stands.candidates, length-append stands.passed (stands.name ∷ stands.rest), ap length are)

      numbers : legs_of stands.spec (length stands.passed) ≡ row.first.leg_number ∷ option_to_list (option_map number_of_leg row.second)
      numbers = stands.legged ∙ numbers_are row.first row.second

      -- a lookup that asks the next candidate stands
      lookup_next : (lookup : Lookup) → LookupStands setting past row.number stands.spec stands.name stands.rest lookup → 2 * length stands.passed ≤ lookup.leg_number → lookup.leg_number ≤ 2 * length stands.passed + 1
          → LookupStands setting (what ∷ past) row.number stands.spec (get_or stands.rest 0 stands.name) (drop 1 stands.rest) (next_lookup (fresh_leg setting.options.flags) lookup)
      lookup_next lookup s least most_ =
          let on : (next_lookup (fresh_leg setting.options.flags) lookup).leg_number ≡ lookup.leg_number + 2 = omega (arith, most_, few_left) in
          let none = unstarted (next_lookup (fresh_leg setting.options.flags) lookup).leg_number (omega (arith, on, least)) in
          let own : leg_of row.number (next_lookup (fresh_leg setting.options.flags) lookup).leg_number ≡ leg_of_lookup (next_lookup (fresh_leg setting.options.flags) lookup) = ap (λ n. leg_of n (next_lookup (fresh_leg setting.options.flags) lookup).leg_number) (sym s.numbered) in
          let free : has_leg (leg_of_lookup (next_lookup (fresh_leg setting.options.flags) lookup)) (started (what ∷ past)) ≡ false = ap (λ l. has_leg l (started (what ∷ past))) (sym own) ∙ none in
          let named : get_or lookup.names 0 lookup.question.name ≡ get_or stands.rest 0 stands.name = ap₂ (λ ns d. get_or ns 0 d) s.behind s.current in
          record {
            numbered = s.numbered;
            current = named;
            behind = ap (drop 1) s.behind;
            asks =
                next_question stands.spec lookup.leg_number (next_lookup (fresh_leg setting.options.flags) lookup).leg_number stands.name (get_or stands.rest 0 stands.name) lookup.question on s.asks
                ∙ ap (λ n. record lookup.question { name = n }) (sym named);
            leg = unstarted_stands setting (what ∷ past) (leg_of_lookup (next_lookup (fresh_leg setting.options.flags) lookup)) free;
            begun = free;
          }

      lookups_next : (second : Option Lookup) → legs_of stands.spec (length stands.passed) ≡ row.first.leg_number ∷ option_to_list (option_map number_of_leg second) → AllByRecursion (LookupStands setting past row.number stands.spec stands.name stands.rest) (row.first ∷ option_to_list second)
          → AllByRecursion (LookupStands setting (what ∷ past) row.number stands.spec (get_or stands.rest 0 stands.name) (drop 1 stands.rest)) (next_lookup (fresh_leg setting.options.flags) row.first ∷ option_to_list (option_map (next_lookup (fresh_leg setting.options.flags)) second))
          × (legs_of stands.spec (length (stands.passed ++ stands.name ∷ [])) ≡ map number_of_leg (next_lookup (fresh_leg setting.options.flags) row.first ∷ option_to_list (option_map (next_lookup (fresh_leg setting.options.flags)) second)))
      lookups_next None legs each =
          let within = legs_within stands.spec (length stands.passed) row.first.leg_number None legs in
          let on : (next_lookup (fresh_leg setting.options.flags) row.first).leg_number ≡ row.first.leg_number + 2 = omega (arith, within.1, few_left) in (
            (lookup_next row.first each.0 within.0 within.1, tt),
            next_legs stands.spec (length stands.passed) (length (stands.passed ++ stands.name ∷ [])) row.first.leg_number (next_lookup (fresh_leg setting.options.flags) row.first).leg_number None None (length_push stands.passed stands.name) on refl legs,
          )
      lookups_next (Some lookup) legs each =
          let within = legs_within stands.spec (length stands.passed) row.first.leg_number (Some lookup.leg_number) legs in
          let on : (next_lookup (fresh_leg setting.options.flags) row.first).leg_number ≡ row.first.leg_number + 2 = omega (arith, within.1, few_left) in
          let on_too : (next_lookup (fresh_leg setting.options.flags) lookup).leg_number ≡ lookup.leg_number + 2 = omega (arith, within.2.0, few_left) in (
            (lookup_next row.first each.0 within.0 within.1, (lookup_next lookup each.1.0 (omega (arith, within.2.0)) (omega (arith, within.2.0)), tt)),
            next_legs stands.spec (length stands.passed) (length (stands.passed ++ stands.name ∷ [])) row.first.leg_number (next_lookup (fresh_leg setting.options.flags) row.first).leg_number (Some lookup.leg_number) (Some (next_lookup (fresh_leg setting.options.flags) lookup).leg_number)
                (length_push stands.passed stands.name) on (ap Some on_too) legs,
          )

      -- the row asks its next candidate
      asks_next : Follows number_of ticket_number flown setting what past (outcome_after row (Stays (next_row (fresh_leg setting.options.flags) answer.status row))) × RowStands plan setting (what ∷ past) (next_row (fresh_leg setting.options.flags) answer.status row)
      asks_next =
          let candidates : candidates_of setting stands.spec ≡ (stands.passed ++ stands.name ∷ []) ++ get_or stands.rest 0 stands.name ∷ drop 1 stands.rest =
          stands.candidates ∙ ap (λ ns. stands.passed ++ stands.name ∷ ns) are ∙ sym (append_assoc stands.passed (stands.name ∷ []) (get_or stands.rest 0 stands.name ∷ drop 1 stands.rest)) in
          let both = lookups_next row.second numbers stands.each_lookup in
          let gave = gave_way setting row.number stands.spec (what ∷ past) stands.passed stands.name stands.rest asks_later stands.candidates stay.0 answer its_answer goes in
          let came : are_passed setting row.number stands.spec (what ∷ past) 0 (stands.passed ++ stands.name ∷ []) ≡ true =
          passed_push setting row.number stands.spec (what ∷ past) 0 (length stands.passed) stands.passed stands.name (none_plus (length stands.passed)) stay.0 gave in
          let emptied : any_empty setting row.number stands.spec (what ∷ past) 0 (stands.passed ++ stands.name ∷ []) ≡ (row.empty || same_status answer.status NoData) =
          empty_append setting row.number stands.spec (what ∷ past) 0 (length stands.passed) stands.passed (stands.name ∷ []) (none_plus (length stands.passed))
          ∙ ap₂ (λ b o. b || (is_empty o || false)) (stay.1 ∙ stands.emptied) its_answer ∙ ap (λ b. row.empty || b) (or_none (same_status answer.status NoData)) in
          let unanswered : answer_of_row setting.options (next_row (fresh_leg setting.options.flags) answer.status row) ≡ None = no_end setting.options row.number row.wanted _ _ in
          let none : completed_by setting row.number what past ≡ None =
          by_search ∙ no_answer setting row.number stands.spec (what ∷ past) (stands.passed ++ stands.name ∷ []) (get_or stands.rest 0 stands.name) (drop 1 stands.rest) asks_later candidates came
          (row_answers setting (what ∷ past) stands.spec (length (stands.passed ++ stands.name ∷ [])) (get_or stands.rest 0 stands.name) (drop 1 stands.rest) (next_row (fresh_leg setting.options.flags) answer.status row) stands.wants both.1 both.0 ∙ unanswered) in (
            (refl, none, fresh_flown setting.options.flags row.first row.second ∙ sym leaves_none),
            record {
              spec = stands.spec;
              wants = stands.wants;
              passed = stands.passed ++ stands.name ∷ [];
              name = get_or stands.rest 0 stands.name;
              rest = drop 1 stands.rest;
              candidates = candidates;
              few = stands.few;
              legged = both.1;
              came = came;
              emptied = emptied;
              accepts = request_of-later row.number what past _ stands.accepts;
              undecided = rw (stands.undecided, none) refl;
              each_lookup = both.0;
              unanswered = unanswered;
              later = λ k over. unstarted k (omega (arith, over, length_push stands.passed stands.name));
            },
          )

    is_over : has_next answer.status row ≡ false → completed_by setting row.number what past ≡ Some (record answer { status = last_status row.empty answer.status })
    is_over last =
        by_search ∙ search_over setting row.number stands.spec (what ∷ past) stands.passed stands.name stands.rest asks_later stands.candidates stay.0 answer its_answer row.empty (stay.1 ∙ stands.emptied)
        (λ goes. sym stands.each_lookup.0.behind ∙ none_of row.first.names (sym (ap (λ b. b && has_item row.first.names) goes) ∙ last))

    ends_so : has_next answer.status row ≡ false → Follows number_of ticket_number flown setting what past (outcome_after row (Ends (record { token = row.token; call = record answer { status = last_status row.empty answer.status } })))
        × TicketStands plan setting (what ∷ past) (record { token = row.token; call = record answer { status = last_status row.empty answer.status } })
    ends_so last =
        let done = is_over last in
        let own : answer.number ≡ row.number = answer_numbered setting.options row.number row.wanted _ _ _ answer has in (
          (own, rw done refl, leaves_none),
          record {
            completes = subst (λ n. fate setting n (what ∷ past) ≡ Some (record answer { status = last_status row.empty answer.status })) (sym own) (rw (stands.undecided, done) refl);
            accepts = subst (λ n. script_of n (what ∷ past) ≡ Some (plan row.token)) (sym own) (script_of-later row.number what past (plan row.token) (ap (option_map (λ (r : Accepted). r.script)) stands.accepts));
          },
        )

    by_next : (b : Bool) → has_next answer.status row ≡ b
        → Follows number_of ticket_number flown setting what past (outcome_after row (if b then Stays (next_row (fresh_leg setting.options.flags) answer.status row) else Ends (record { token = row.token; call = record answer { status = last_status row.empty answer.status } })))
        × Stands plan setting what past (outcome_after row (if b then Stays (next_row (fresh_leg setting.options.flags) answer.status row) else Ends (record { token = row.token; call = record answer { status = last_status row.empty answer.status } })))
    by_next true next = asks_next next
    by_next false last = ends_so last

  follow : (answer : Option Answer) → answer_behind setting.options concerned judged reply most row ≡ answer
      → Follows number_of ticket_number flown setting what past (outcome_after row (after setting.options.flags concerned judged reply most row answer)) × Stands plan setting what past (outcome_after row (after setting.options.flags concerned judged reply most row answer))
  follow None none = goes_on_so none
  follow (Some answer) has = by_next answer has (has_next answer.status row) refl

  -- the row becomes what the end of its attempts makes of it
  pub row_after : (answer : Option Answer) → answer ≡ answer_behind setting.options concerned judged reply most row
      → Follows number_of ticket_number flown setting what past (outcome_after row (after setting.options.flags concerned judged reply most row answer)) × Stands plan setting what past (outcome_after row (after setting.options.flags concerned judged reply most row answer))
  row_after answer is = follow answer (sym is)
