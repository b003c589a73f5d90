-- How a table follows a Start.
use Rattle.channel_table.proofs.Base.{◌≡◌, ◌∙◌, ℕ, ◌+◌, ◌*◌, ◌<◌, ◌≤◌, Bool, true, false, List, [], ◌∷◌, ◌++◌, Option, Some, None, Result, Ok, Err, refl, ap, ap₂, sym, subst, map, take, drop, get_or, length, cond, arith, ne_eqb, flat_map-append, length-map, map-append, then_some, option_and_then, AllByRecursion, list_any, flat_map, if◌then◌else◌, is_some, max, min, option_map, option_to_list, unwrap_or, ◌||◌, ◌&&◌, ◌≢◌, IsErr, What, Start, Script, ServerKey, Ticket, message_bytes, Spares, each-append, as_many-any, counts-kept, listed, no_set-servers, request_of-later, servers_some, Failing, greatest_link, wait_of, waiting, Attempt, asked_with, begun_by, flight, has_leg, in_flight, started, with_leg, Past, IsLawfulPast, MayStart, first, LegFacts, Leg, is_leg, leg_of, legs_of, any_empty, Status, Starts, closings, forced_server, has_opt, leg_query, spent, has_key, servers_at, Setting, Begun, NoMemory, flying_in, status_in, Flying, AreWithinLimits, AreCounted, LegStands, attempt_of, flown_by, answer_of_ends, RowStands, LookupStands, TableStands, all_lookups, answer_of_row, begun_row, flown, number_of, row_waits, lookup_at, lookups, are_passed, begun_lookup, end_of_lookup, flown_lookup, flying_of, leg_of_lookup, number_of_leg, BeginsRow, IsFree, flying_id, has_id, link_with, row_has_id, Lookup, Row, ◌==◌, ChannelServers, begun_servers}
use Rattle.channel_model.specs.Past.{query_for}
use Rattle.channel_model.specs.Servers.{in_use}
use Rattle.std.proofs.Common.{take_all}
use Rattle.std.specs.Prelude.{◌%◌, ◌-◌, ◌^◌}
use Rattle.channel_model.proofs.Theorems.{begun-facts, failing-is, has_leg-new, idle-end, in_flight-begun, least_in_list, start-pending, start-ready, start_spares, started-again, started-new}
use Rattle.channel_model.specs.AsMany.{how_many}
use Rattle.channel_model.specs.Choice.{chosen_server, deadline_from, failing, first_server, least_of}
use Rattle.channel_model.specs.Identifiers.{AllUsed, IsFirstFree, SomeFree}
use Rattle.channel_model.specs.Lawful.{is_mixed, is_used}
use Rattle.channel_model.specs.LegFacts.{facts_begun}
use Rattle.channel_model.specs.Past.{query_of}
use Rattle.channel_model.specs.Servers.{from_place}
use Rattle.query_machine.specs.declared.leg.Leg as machine
use Rattle.query_machine.specs.declared.leg.Phase.TheVariants as phases
use Rattle.channel_table.proofs.Asking.{IsOfRow, asked_question, each_of_row}
use Rattle.channel_table.proofs.RowAt.{item_at, lookup_of_each, stands_at}
use Rattle.channel_table.proofs.Finding.{waiting_says}
use Rattle.channel_table.proofs.RowLookups.{other_of_row, other_lookups, some_lookup}
use Rattle.channel_table.proofs.LookupLists.{LegOf, any_lookups}
use Rattle.channel_table.proofs.Links.{link_is}
use Rattle.channel_table.proofs.OneRow.{each-split}
use Rattle.channel_table.proofs.TableEnds.{IsOther, other_leg, others_apart}
use Rattle.channel_table.proofs.RowFrames.{IsSpared, begun_other, rows_spared, lookup_spared}
use Rattle.channel_table.proofs.SearchSteps.{no_end, passed_stay}
use Rattle.channel_table.proofs.TableSteps.{tickets_later}
use Rattle.channel_table.proofs.Telling.{flying_lookups, waiting_rows}
use Rattle.channel_table.specs.Starting.{FindsAt, first_place, server_with, used_of}
use Rattle.channel_table.specs.declared.table.starting.Idle.{Idle}

-- a list with a first item isn't empty
some_first : {X : Type 0} (xs : List X) (x : X) → first xs ≡ Some x → xs ≢ []
some_first [] x e none = absurd cc
some_first (y ∷ xs) x e none = absurd cc

-- a start that found no memory had a waiting leg and a free identifier
pub starts_failed : (word bits at : ℕ) (result : Result Begun NoMemory) (setting : Setting) (past : Past) → IsErr result → waiting setting past ≢ [] → SomeFree setting past → Starts word bits at result setting past None
starts_failed word bits at (Ok begun) setting past failed some free = absurd (cc failed)
starts_failed word bits at (Err fault) setting past failed some free = (refl, some, free)

mod-small : (n : ℕ) → n % 2 ^ 16 < 2 ^ 16
mod-small n = omega arith

count-append : {X : Type 0} (t : X → Bool) (xs ys : List X) → how_many t (xs ++ ys) ≡ how_many t xs + how_many t ys
count-append t [] ys = omega arith
count-append t (x ∷ xs) ys = omega (arith, count-append t xs ys)

-- there are bits exactly where a test says so
pub some_if : (b : Bool) (n : ℕ) → is_some (then_some b n) ≡ b
some_if true n = refl
some_if false n = refl

-- one more leg at most has had an attempt
pub started_few : (begun : Bool) (starts most now : ℕ) → now ≡ starts + cond begun 0 1 → starts + 1 ≤ most → now ≤ most
started_few true starts most now is few = omega (arith, is, few)
started_few false starts most now is few = omega (arith, is, few)

-- where a leg's attempt begins, the past says so
leg_begun : (setting : Setting) (what : What) (past : Past) (leg : Leg) (state : machine.Leg) (reply : List ℕ) (flying : Flying) → LegStands setting past leg state reply → flying_in state.phase ≡ None → status_in state.phase ≡ None → begun_by what ≡ Some (attempt_of leg flying)
    → flying.due ≡ min (flying.moment + wait_of setting.options state.spent (in_use setting past)) (2 ^ 64 - 1) → LegStands setting (what ∷ past) leg (record state { phase = phases.InFlight flying }) reply
leg_begun setting what past leg state reply flying stands idle open_ begins due =
    let a : Attempt = attempt_of leg flying in
    let none : flight setting leg past ≡ None = ap (λ (f : LegFacts). f.flies) stands.facts ∙ ap (flown_by leg) idle in
    let spends : spent (closings setting leg past) ≡ state.spent = ap (λ (f : LegFacts). f.spends) stands.facts in
    let due_is : deadline_from setting a past ≡ flying.due = ap (λ n. min (flying.moment + wait_of setting.options n (in_use setting past)) (2 ^ 64 - 1)) spends ∙ sym due in
    record {
      facts = begun-facts setting what past leg a none begins refl ∙ ap₂ (λ d f. facts_begun a d f) due_is stands.facts;
      ends = idle-end setting what past leg none ∙ stands.ends ∙ ap (option_map (λ (s : Status). record { status = s; reply = reply })) open_;
      few = λ on. stands.few open_;
    }

used_same : (id : ℕ) (ss : List Lookup) → list_any (λ (a : Attempt). a.id == id) (flat_map flown_lookup ss) ≡ list_any (has_id id) ss
used_same id [] = refl
used_same id (lookup ∷ ss) = by_attempt (leg_of_lookup lookup) (flying_of lookup) (used_same id ss)
  where
    by_attempt : (leg : Leg) (o : Option Flying) → list_any (λ (a : Attempt). a.id == id) (flat_map flown_lookup ss) ≡ list_any (has_id id) ss
        → list_any (λ (a : Attempt). a.id == id) (option_to_list (flown_by leg o) ++ flat_map flown_lookup ss) ≡ (flying_id id o || list_any (has_id id) ss)
    by_attempt leg None rest = rest
    by_attempt leg (Some flying) rest = ap (λ b. (flying.id == id) || b) rest

module _ {T : Type 0} (plan : T → Script) (setting : Setting) (past : Past) where
  -- an identifier is in flight where a row has it
  used_rows : (id : ℕ) (rows : List (Row T)) (tickets : List (Ticket T)) → TableStands plan setting past rows tickets → is_used setting id past ≡ list_any (row_has_id id) rows
  used_rows id rows tickets table =
      as_many-any (λ (a : Attempt). a.id == id) (in_flight setting past) (flat_map flown_lookup (all_lookups rows)) (flying_lookups plan setting past rows tickets table) ∙ used_same id (all_lookups rows) ∙ sym (any_lookups (has_id id) rows)

  module _ (number leg server link id : ℕ) (mix : Option ℕ) (moment : ℕ) where
    spared_all : (rows : List (Row T)) → AllByRecursion (RowStands plan setting past) rows → AllByRecursion (IsOther number) rows → AllByRecursion (IsSpared plan setting (Start number leg server link id mix moment) past) rows
    spared_all [] each apart = tt
    spared_all (row ∷ rows) each apart = (
      record {
        spared = other_lookups plan setting past row each.0 number leg apart.0 (λ (s : Lookup). Spares setting (Start number leg server link id mix moment) past (leg_of_lookup s)) (λ lookup other. start_spares setting past (leg_of_lookup lookup) number leg server link id mix moment other);
        others = λ k. other_leg row.number number k leg apart.0;
        uncompleted = refl;
      },
      spared_all rows each.1 apart.1,
    )

-- what the Start of a leg's attempt is
abbrev pub start_of : Leg → Flying → What
start_of leg flying = Start leg.request leg.number flying.server flying.link flying.id flying.mix flying.moment

-- a later leg than the one that begins has no Start
later_unbegun : (number leg k : ℕ) (a : Attempt) (legs : List Leg) → a.leg ≡ leg_of number leg → leg < k → has_leg (leg_of number k) legs ≡ false → has_leg (leg_of number k) (with_leg (Some a) legs) ≡ false
later_unbegun number leg k a legs is above none =
    begun_other (leg_of number k) (Some a) legs (ap (λ (l : Leg). is_leg (leg_of number k) l.request l.number) is ∙ ap (λ b. (number == number) && b) (ne_eqb k leg (λ same. absurd (omega (arith, above, same)))) ∙ and_no (number == number)) ∙ none
  where
    and_no : (b : Bool) → (b && false) ≡ false
    and_no true = refl
    and_no false = refl

-- a lookup that waits has no attempt in flight, and beginning one adds it
waits_flown : (lookup : Lookup) → flying_of lookup ≡ None → flown_lookup lookup ≡ []
waits_flown lookup idle = ap (λ f. option_to_list (flown_by (leg_of_lookup lookup) f)) idle

module _ {T : Type 0} (plan : T → Script) (setting : Setting) (past : Past) (row : Row T) (stands : RowStands plan setting past row) (second : Bool) (lookup : Lookup) (at : lookup_at second row ≡ Some lookup) (flying : Flying)
    (idle : flying_of lookup ≡ None) (open_ : status_in lookup.leg.phase ≡ None) (due : flying.due ≡ min (flying.moment + wait_of setting.options lookup.leg.spent (in_use setting past)) (2 ^ 64 - 1)) where
  -- the Start of this lookup's leg
  abbrev pub starts : What
  starts = start_of (leg_of_lookup lookup) flying

  own : IsOfRow plan setting past row stands lookup
  own = lookup_of_each (IsOfRow plan setting past row stands) row (each_of_row plan setting past row stands) second lookup at

  lookup_stands : LookupStands setting (start_of (leg_of_lookup lookup) flying ∷ past) row.number stands.spec stands.name stands.rest (begun_lookup flying lookup)
  lookup_stands = record {
    numbered = own.stands_so.numbered;
    current = own.stands_so.current;
    behind = own.stands_so.behind;
    asks = own.stands_so.asks;
    leg = leg_begun setting (start_of (leg_of_lookup lookup) flying) past (leg_of_lookup lookup) lookup.leg lookup.reply flying own.stands_so.leg idle open_ refl due;
    begun = has_leg-new (leg_of_lookup lookup) (attempt_of (leg_of_lookup lookup) flying) (started past) refl;
  }

  -- the other lookup of the row stands as before
  other_stands : (it : Lookup) → lookup_at (if second then false else true) row ≡ Some it → LookupStands setting past row.number stands.spec stands.name stands.rest it → LookupStands setting (start_of (leg_of_lookup lookup) flying ∷ past) row.number stands.spec stands.name stands.rest it
  other_stands it at_it is =
      lookup_spared setting (start_of (leg_of_lookup lookup) flying) past row.number stands.spec stands.name stands.rest it
      (start_spares setting past (leg_of_lookup it) lookup.number lookup.leg_number flying.server flying.link flying.id flying.mix flying.moment (other_of_row plan setting past row stands lookup.number lookup.leg_number second lookup it at at_it refl)) is

-- the row with one of its lookups begun, by whether that is the second and whether there is a second
module _ {T : Type 0} (plan : T → Script) (setting : Setting) (past : Past) (row : Row T) (stands : RowStands plan setting past row) (flying : Flying) where
  -- what is wanted of the row
  pub record IsBegun (second : Bool) (lookup : Lookup) : Type 0 where
    pub each : AllByRecursion (LookupStands setting (start_of (leg_of_lookup lookup) flying ∷ past) row.number stands.spec stands.name stands.rest) (lookups (begun_row flying second row))
    pub numbers : map number_of_leg (lookups (begun_row flying second row)) ≡ map number_of_leg (lookups row)
    pub unanswered : answer_of_row setting.options (begun_row flying second row) ≡ None
    pub one_more : (test : Attempt → Bool) → how_many test (flown (begun_row flying second row)) ≡ how_many test (flown row) + how_many test (attempt_of (leg_of_lookup lookup) flying ∷ [])

  row_begun : (second : Bool) (lookup : Lookup) → lookup_at second row ≡ Some lookup → flying_of lookup ≡ None → status_in lookup.leg.phase ≡ None → flying.due ≡ min (flying.moment + wait_of setting.options lookup.leg.spent (in_use setting past)) (2 ^ 64 - 1) → IsBegun second lookup
  row_begun false lookup at idle open_ due = subst (IsBegun false) same (by_second row.second refl stands.each_lookup)
    where
      same : row.first ≡ lookup
      same = some_lookup row.first lookup at

      idle_first : flying_of row.first ≡ None
      idle_first = ap flying_of same ∙ idle

      open_first : status_in row.first.leg.phase ≡ None
      open_first = ap (λ (s : Lookup). status_in s.leg.phase) same ∙ open_

      due_first : flying.due ≡ min (flying.moment + wait_of setting.options row.first.leg.spent (in_use setting past)) (2 ^ 64 - 1)
      due_first = due ∙ ap (λ (s : Lookup). min (flying.moment + wait_of setting.options s.leg.spent (in_use setting past)) (2 ^ 64 - 1)) (sym same)

      added : (test : Attempt → Bool) (rest : List Attempt) → how_many test (attempt_of (leg_of_lookup row.first) flying ∷ rest) ≡ how_many test (flown_lookup row.first ++ rest) + how_many test (attempt_of (leg_of_lookup row.first) flying ∷ [])
      added test rest = omega (arith, ap (λ xs. how_many test (xs ++ rest)) (waits_flown row.first idle_first))

      -- by whether there is a second lookup
      by_second : (o : Option Lookup) → row.second ≡ o → AllByRecursion (LookupStands setting past row.number stands.spec stands.name stands.rest) (lookups row) → IsBegun false row.first
      by_second None none each = record {
        each = subst (λ (p : Option Lookup). AllByRecursion (LookupStands setting (start_of (leg_of_lookup row.first) flying ∷ past) row.number stands.spec stands.name stands.rest) (begun_lookup flying row.first ∷ option_to_list p)) (sym none)
            (lookup_stands plan setting past row stands false row.first refl flying idle_first open_first due_first, tt);
        numbers = refl;
        unanswered = no_end setting.options row.number row.wanted row.first.question.name (option_and_then end_of_lookup row.second);
        one_more = λ test. added test (flat_map flown_lookup (option_to_list row.second));
      }
      by_second (Some it) is each = record {
        each = subst (λ (p : Option Lookup). AllByRecursion (LookupStands setting (start_of (leg_of_lookup row.first) flying ∷ past) row.number stands.spec stands.name stands.rest) (begun_lookup flying row.first ∷ option_to_list p)) (sym is) (
          lookup_stands plan setting past row stands false row.first refl flying idle_first open_first due_first,
          (
            other_stands plan setting past row stands false row.first refl flying idle_first open_first due_first it is
                ((subst (λ (p : Option Lookup). AllByRecursion (LookupStands setting past row.number stands.spec stands.name stands.rest) (row.first ∷ option_to_list p)) is each).1.0),
            tt,
          ),
        );
        numbers = refl;
        unanswered = no_end setting.options row.number row.wanted row.first.question.name (option_and_then end_of_lookup row.second);
        one_more = λ test. added test (flat_map flown_lookup (option_to_list row.second));
      }
  row_begun true lookup at idle open_ due = by_each (subst (λ (p : Option Lookup). AllByRecursion (LookupStands setting past row.number stands.spec stands.name stands.rest) (row.first ∷ option_to_list p)) at stands.each_lookup)
    where
      by_each : AllByRecursion (LookupStands setting past row.number stands.spec stands.name stands.rest) (row.first ∷ lookup ∷ []) → IsBegun true lookup
      by_each each = record {
        each = subst (λ (p : Option Lookup). AllByRecursion (LookupStands setting (start_of (leg_of_lookup lookup) flying ∷ past) row.number stands.spec stands.name stands.rest) (row.first ∷ option_to_list (option_map (begun_lookup flying) p))) (sym at)
            (other_stands plan setting past row stands true lookup at flying idle open_ due row.first refl each.0, (lookup_stands plan setting past row stands true lookup at flying idle open_ due, tt));
        numbers = ap (λ (p : Option Lookup). map number_of_leg (row.first ∷ option_to_list (option_map (begun_lookup flying) p))) at ∙ sym (ap (λ (p : Option Lookup). map number_of_leg (row.first ∷ option_to_list p)) at);
        unanswered =
            ap (λ (p : Option Lookup). answer_of_ends setting.options row.number row.wanted row.first.question.name (end_of_lookup row.first) (option_and_then end_of_lookup (option_map (begun_lookup flying) p))) at
            ∙ sym (ap (λ (p : Option Lookup). answer_of_ends setting.options row.number row.wanted row.first.question.name (end_of_lookup row.first) (option_and_then end_of_lookup p)) at
            ∙ ap (λ e. answer_of_ends setting.options row.number row.wanted row.first.question.name (end_of_lookup row.first) e) (ap (option_map (λ (s : Status). record { status = s; reply = lookup.reply })) open_))
            ∙ stands.unanswered;
        one_more = λ test.
            let new = ap (λ (p : Option Lookup). how_many test (flat_map flown_lookup (row.first ∷ option_to_list (option_map (begun_lookup flying) p)))) at in
            let old = ap (λ (p : Option Lookup). how_many test (flat_map flown_lookup (row.first ∷ option_to_list p))) at ∙ ap (λ xs. how_many test (flown_lookup row.first ++ (xs ++ []))) (waits_flown lookup idle) in
            omega (arith, new, old, count-append test (flown_lookup row.first) (attempt_of (leg_of_lookup lookup) flying ∷ []), count-append test (flown_lookup row.first) []);
      }

-- the row with one of its lookups begun stands, where that is known of its lookups
module _ {T : Type 0} (row : Row T) (flying : Flying) (plan : T → Script) (setting : Setting) (past : Past) (lookup : Lookup) (stands : RowStands plan setting past row) where
  -- the past behind the Start
  abbrev behind : Past
  behind = start_of (leg_of_lookup lookup) flying ∷ past

  begun_with : (first : Lookup) (second : Option Lookup) → let new : Row T = record row { first = first; second = second } in
      AllByRecursion (LookupStands setting behind row.number stands.spec stands.name stands.rest) (lookups new) → answer_of_row setting.options new ≡ None → legs_of stands.spec (length stands.passed) ≡ map number_of_leg (lookups new)
      → are_passed setting row.number stands.spec behind 0 stands.passed ≡ true → any_empty setting row.number stands.spec behind 0 stands.passed ≡ row.empty
      → ((k : ℕ) → 2 * length stands.passed + 2 ≤ k → has_leg (leg_of row.number k) (started behind) ≡ false) → RowStands plan setting behind new
  begun_with first second each unanswered legged came emptied later = record {
    spec = stands.spec;
    wants = stands.wants;
    passed = stands.passed;
    name = stands.name;
    rest = stands.rest;
    candidates = stands.candidates;
    few = stands.few;
    legged = legged;
    came = came;
    emptied = emptied;
    accepts = request_of-later row.number (start_of (leg_of_lookup lookup) flying) past _ stands.accepts;
    undecided = rw stands.undecided refl;
    each_lookup = each;
    unanswered = unanswered;
    later = later;
  }

  begun_stands : (second : Bool) → let new : Row T = begun_row flying second row in
      AllByRecursion (LookupStands setting behind row.number stands.spec stands.name stands.rest) (lookups new) → answer_of_row setting.options new ≡ None → legs_of stands.spec (length stands.passed) ≡ map number_of_leg (lookups new)
      → are_passed setting row.number stands.spec behind 0 stands.passed ≡ true → any_empty setting row.number stands.spec behind 0 stands.passed ≡ row.empty
      → ((k : ℕ) → 2 * length stands.passed + 2 ≤ k → has_leg (leg_of row.number k) (started behind) ≡ false) → RowStands plan setting behind new
  begun_stands true = begun_with row.first (option_map (begun_lookup flying) row.second)
  begun_stands false = begun_with (begun_lookup flying row.first) row.second

-- the attempt of an idle lookup is begun
pub table_begun : {T : Type 0} (plan : T → Script) (setting : Setting) (past : Past) (rows new_rows : List (Row T)) (tickets : List (Ticket T)) (index : ℕ) (second : Bool) (flying : Flying) → IsLawfulPast setting past
    → (begins : BeginsRow flying index second rows new_rows) → (lookup : Lookup) → lookup_at second begins.row ≡ Some lookup → flying_of lookup ≡ None → status_in lookup.leg.phase ≡ None
    → flying.due ≡ min (flying.moment + wait_of setting.options lookup.leg.spent (in_use setting past)) (2 ^ 64 - 1)
    → TableStands plan setting past rows tickets → TableStands plan setting (start_of (leg_of_lookup lookup) flying ∷ past) new_rows tickets
table_begun {T} plan setting past rows new_rows tickets index second flying lawful begins lookup at idle open_ due table =
    let before : List (Row T) = take index rows in
    let behind : List (Row T) = drop (index + 1) rows in
    let row : Row T = begins.row in
    let new : Row T = begun_row flying second row in
    let a : Attempt = attempt_of (leg_of_lookup lookup) flying in
    let split = subst (λ rs. TableStands plan setting past rs tickets) begins.parts table in
    let each = each-split (RowStands plan setting past) before row behind split.each_row in
    let apart = others_apart setting past before behind row lawful split.stand.pending_are in
    let stands = each.1 in
    let own = lookup_of_each (IsOfRow plan setting past row stands) row (each_of_row plan setting past row stands) second lookup at in
    let begun = row_begun plan setting past row stands flying second lookup at idle open_ due in
    let stay = passed_stay setting row.number stands.spec (start_of (leg_of_lookup lookup) flying) past 0 stands.passed stands.came in
    let numbered : lookup.number ≡ row.number = own.stands_so.numbered in
    let kept : (numbers : map number_of_leg (lookups row) ≡ map number_of_leg (lookups (begun_row flying second row))) → RowStands plan setting (start_of (leg_of_lookup lookup) flying ∷ past) (begun_row flying second row) = λ numbers. begun_stands row flying plan setting past lookup stands second begun.each begun.unanswered (stands.legged ∙ numbers) stay.0 (stay.1 ∙ stands.emptied)
    (λ k above. later_unbegun row.number lookup.leg_number k a (started past) (ap (λ n. leg_of n lookup.leg_number) numbered) (omega (arith, above, own.most)) (stands.later k above)) in
    let stays = kept (sym begun.numbers) in
    let apart_before = subst (λ n. AllByRecursion (IsOther n) before) (sym numbered) apart.0 in
    let apart_behind = subst (λ n. AllByRecursion (IsOther n) behind) (sym numbered) apart.1 in
    let spared_before = spared_all plan setting past lookup.number lookup.leg_number flying.server flying.link flying.id flying.mix flying.moment before each.0 apart_before in
    let spared_behind = spared_all plan setting past lookup.number lookup.leg_number flying.server flying.link flying.id flying.mix flying.moment behind each.2 apart_behind in
    let same : number_of new ≡ number_of row = same_number second flying row in
    let same_numbers : map number_of (before ++ row ∷ behind) ≡ map number_of (before ++ new ∷ behind) = map-append number_of before (row ∷ behind) ∙ ap (λ n. map number_of before ++ n ∷ map number_of behind) (sym same) ∙ sym (map-append number_of before (new ∷ behind)) in
    let none : flight setting (leg_of_lookup lookup) past ≡ None = ap (λ (f : LegFacts). f.flies) own.stands_so.leg.facts ∙ ap (flown_by (leg_of_lookup lookup)) idle in
    let more = in_flight-begun setting (start_of (leg_of_lookup lookup) flying) past a refl none (λ b. refl) in
    subst (λ rs. TableStands plan setting (start_of (leg_of_lookup lookup) flying ∷ past) rs tickets) (sym begins.becomes) (record {
      stand = record {
        pending_are = start-pending setting past lookup.number lookup.leg_number flying.server flying.link flying.id flying.mix flying.moment ∙ split.stand.pending_are ∙ same_numbers;
        ready_are = start-ready setting past lookup.number lookup.leg_number flying.server flying.link flying.id flying.mix flying.moment ∙ split.stand.ready_are;
        flying_are = record {
          as_many = λ test.
              let was = split.stand.flying_are.as_many test ∙ ap (how_many test) (flat_map-append flown before (row ∷ behind)) ∙ count-append test (flat_map flown before) (flown row ++ flat_map flown behind) in
              let is = ap (how_many test) (flat_map-append flown before (new ∷ behind)) ∙ count-append test (flat_map flown before) (flown new ++ flat_map flown behind) in
              omega (arith, more.as_many test, was, is, count-append test (flown row) (flat_map flown behind), count-append test (flown new) (flat_map flown behind), begun.one_more test);
        };
      };
      each_row = each-append (RowStands plan setting (start_of (leg_of_lookup lookup) flying ∷ past)) before (new ∷ behind) (rows_spared plan setting (start_of (leg_of_lookup lookup) flying) past before spared_before each.0) (stays, rows_spared plan setting (start_of (leg_of_lookup lookup) flying) past behind spared_behind each.2);
      each_ticket = tickets_later plan setting (start_of (leg_of_lookup lookup) flying) past tickets split.each_ticket;
    })
  where
    same_number : (b : Bool) (f : Flying) (r : Row T) → number_of (begun_row f b r) ≡ number_of r
    same_number true f r = refl
    same_number false f r = refl

-- the servers of a table and their counts, as the past has them
module _ (setting : Setting) (past : Past) {servers : ChannelServers} (counted : AreCounted setting past servers) where
  pub used_is : length (used_of setting.options servers.list) ≡ in_use setting past
  used_is = ap (λ (l : List ServerKey). length (if setting.options.flags.primary then take 1 l else l)) (sym counted.listed)

  place_is : first_place setting.options servers.started (length (used_of setting.options servers.list)) ≡ first_server setting past
  place_is = ap₂ (λ n u. if setting.options.rotate then n % u else 0) (sym counted.begun) used_is

  -- there are as many counts as servers
  pub counts_length : length servers.counts ≡ length servers.list
  counts_length = ap length (sym counted.failed) ∙ length-map (servers_at setting past) _ ∙ ap length counted.listed

  take_used : (primary : Bool) (l : List ServerKey) (cs : List Failing) → length cs ≡ length l → take (length (cond primary (take 1 l) l)) cs ≡ cond primary (take 1 cs) cs
  take_used true [] [] same = refl
  take_used true [] (c ∷ cs) same = absurd (omega (arith, same))
  take_used true (k ∷ l) cs same = refl
  take_used false l cs same = take_all (length l) cs (omega (arith, same))

  choice_is : from_place (first_place setting.options servers.started (length (used_of setting.options servers.list))) (take (length (used_of setting.options servers.list)) servers.counts) ≡ failing setting past
  choice_is =
      ap₂ from_place place_is (take_used setting.options.flags.primary servers.list servers.counts counts_length)
      ∙ ap (λ (cs : List Failing). from_place (first_server setting past) (if setting.options.flags.primary then take 1 cs else cs)) (sym counted.failed) ∙ sym (failing-is setting past)

  -- the server is where the leg's attempt has to go
  pub server_is : (leg : Leg) (forced : Option ℕ) → forced_server setting leg past ≡ forced
      → server_with forced (length (used_of setting.options servers.list)) (first_place setting.options servers.started (length (used_of setting.options servers.list))) servers.counts ≡ chosen_server setting leg past
  server_is leg forced is = ap₂ (λ o (cs : List Failing). unwrap_or o (least_of cs)) (sym is) choice_is

  -- it is one of the list
  pub chosen_there : (leg : Leg) → AreWithinLimits setting.options → IsLawfulPast setting past → has_key (chosen_server setting leg past) servers.list ≡ true
  chosen_there leg limits lawful = subst (λ (l : List ServerKey). has_key (chosen_server setting leg past) l ≡ true) counted.listed (by_forced (forced_server setting leg past) refl)
    where
      by_forced : (o : Option ℕ) → forced_server setting leg past ≡ o → has_key (unwrap_or o (least_of (failing setting past))) (servers_at setting past) ≡ true
      by_forced None is = least_in_list setting past (servers_some setting past lawful limits.some_server)
      by_forced (Some k) is = (listed setting past lawful limits.some_server leg).forced k is

  -- what a table has beside its requests behind a Start
  pub counted_begun : (leg : Leg) (flying : Flying) (begun : Bool) → has_leg leg (started past) ≡ begun → AreCounted setting (start_of leg flying ∷ past) (begun_servers flying.link begun servers)
  counted_begun leg flying begun is = record {
    listed = no_set-servers setting (start_of leg flying) past refl ∙ counted.listed;
    failed = counts-kept setting (start_of leg flying) past refl (λ a flies. refl) ∙ counted.failed;
    keyed = counted.keyed;
    linked = ap (λ n. max flying.link n) counted.linked ∙ max_comm flying.link servers.greatest_link;
    begun = by_begun begun is;
  }
    where
      max_comm : (m n : ℕ) → max m n ≡ max n m
      max_comm m n = omega arith

      by_begun : (b : Bool) → has_leg leg (started past) ≡ b → length (started (start_of leg flying ∷ past)) ≡ servers.started + cond b 0 1
      by_begun true is = ap length (started-again (start_of leg flying) past (attempt_of leg flying) refl is) ∙ counted.begun ∙ omega arith
      by_begun false is = ap length (started-new (start_of leg flying) past (attempt_of leg flying) refl is) ∙ omega (arith, counted.begun)

module _ {T : Type 0} (plan : T → Script) (setting : Setting) (past : Past) (rows : List (Row T)) (tickets : List (Ticket T)) (table : TableStands plan setting past rows tickets) where
  -- the first free identifier of the rows is that of the past
  pub first_free : (word id : ℕ) → IsFree rows word (Some id) → IsFirstFree setting word id past
  first_free word id free = record {
    steps = free.0;
    few = free.1;
    reached = free.2;
    free = used_rows plan setting past id rows tickets table ∙ free.3;
    passed = λ step below. used_rows plan setting past ((word + step) % 2 ^ 16) rows tickets table ∙ free.4 step below;
  }

  pub all_used : (word : ℕ) → IsFree rows word None → AllUsed setting past
  all_used word none = λ id inside. used_rows plan setting past id rows tickets table ∙ none id inside

  pub some_free : (word id : ℕ) → IsFree rows word (Some id) → SomeFree setting past
  some_free word id free = (id, omega (arith, free.2, mod-small (word + free.0)), used_rows plan setting past id rows tickets table ∙ free.3)

  -- some leg waits
  pub some_wait : (leg : Leg) → first (flat_map row_waits rows) ≡ Some leg → waiting setting past ≢ []
  some_wait leg firsts = some_first (waiting setting past) leg (ap first (waiting_rows plan setting past rows tickets table) ∙ firsts)

  -- an attempt of a lookup may start where it has to go
  pub may_start : (lookup : Lookup) (server link id : ℕ) (mix : Option ℕ) (greatest : ℕ) → IsLawfulPast setting past → greatest_link past ≡ greatest → first (flat_map row_waits rows) ≡ Some (leg_of_lookup lookup) → LegOf setting past lookup
      → server ≡ chosen_server setting (leg_of_lookup lookup) past → link ≡ link_with rows lookup.leg.over_tcp server greatest → list_any (row_has_id id) rows ≡ false → is_some mix ≡ is_mixed setting link → MayStart setting past (leg_of_lookup lookup) server link id mix
  may_start lookup server link id mix greatest lawful greatest_is firsts stands server_is link_is_so free mixes = record {
    waits = ap first (waiting_rows plan setting past rows tickets table) ∙ firsts;
    to_server = server_is;
    over_link = link_is_so ∙ link_is plan setting past rows tickets table lawful (leg_of_lookup lookup) server lookup.leg.over_tcp greatest (ap (λ (f : LegFacts). f.over_tcp) stands.facts) greatest_is;
    own_id = used_rows plan setting past id rows tickets table ∙ free;
    mixes = mixes;
  }

  -- the query of a lookup
  pub query_told : (row : Row T) (stands : RowStands plan setting past row) (lookup : Lookup) (id : ℕ) (mix : Option ℕ) → IsOfRow plan setting past row stands lookup
      → option_map message_bytes (leg_query setting (leg_of_lookup lookup) id mix past) ≡ Some (message_bytes (query_for id (asked_with mix lookup.question) setting.options.flags.norecurse (if lookup.leg.has_opt then Some setting.options.edns_size else None)))
  query_told row stands lookup id mix own =
      let asked = asked_question plan setting past row stands lookup own in
      let opt : has_opt setting (closings setting (leg_of_lookup lookup) past) ≡ lookup.leg.has_opt = ap (λ (f : LegFacts). f.with_opt) own.stands_so.leg.facts in
      ap (λ o. option_map message_bytes (option_map (λ question. query_of setting id (asked_with mix question) (closings setting (leg_of_lookup lookup) past)) o)) asked
      ∙ ap (λ b. Some (message_bytes (query_for id (asked_with mix lookup.question) setting.options.flags.norecurse (if b then Some setting.options.edns_size else None)))) opt

-- the lookup of a row that was found to wait first, and what is known of it
pub record StartsAt {T : Type 0} (plan : T → Script) (setting : Setting) (past : Past) (rows : List (Row T)) (idle : Idle) : Type 0 where
  pub row : Row T
  pub at_index : (d : Row T) → get_or rows idle.index d ≡ row
  pub stands : RowStands plan setting past row
  pub lookup : Lookup
  pub at : lookup_at idle.is_second row ≡ Some lookup
  pub is_of : IsOfRow plan setting past row stands lookup
  pub own : leg_of_lookup lookup ≡ leg_of idle.number idle.leg_number
  pub leg : lookup.leg ≡ idle.leg
  pub lands : flying_of lookup ≡ None
  pub unended : status_in lookup.leg.phase ≡ None
  pub firsts : first (flat_map row_waits rows) ≡ Some (leg_of_lookup lookup)
  pub forces : forced_server setting (leg_of_lookup lookup) past ≡ idle.leg.forced
  pub started_so : has_leg (leg_of_lookup lookup) (started past) ≡ idle.begun

pub starts_at : {T : Type 0} (plan : T → Script) (setting : Setting) (past : Past) (rows : List (Row T)) (tickets : List (Ticket T)) → TableStands plan setting past rows tickets → (idle : Idle) → FindsAt rows idle → StartsAt plan setting past rows idle
starts_at {T} plan setting past rows tickets table idle found = by_item (item_at rows idle.index found.inside)
  where
    by_item : (row : Row T) × ((d : Row T) → get_or rows idle.index d ≡ row) → StartsAt plan setting past rows idle
    by_item at =
        let row : Row T = at.0 in
        let is = found.is row in
        let same = at.1 row in
        let stands = stands_at plan setting past rows tickets table idle.index row found.inside (sym same) in
        let there : lookup_at idle.is_second row ≡ Some is.lookup = ap (lookup_at idle.is_second) (sym same) ∙ is.at in
        let own = lookup_of_each (IsOfRow plan setting past row stands) row (each_of_row plan setting past row stands) idle.is_second is.lookup there in
        let says = waiting_says is.lookup.leg.phase is.waiting in
        record {
          row = row;
          at_index = at.1;
          stands = stands;
          lookup = is.lookup;
          at = there;
          is_of = own;
          own = is.own;
          leg = is.leg;
          lands = says.1;
          unended = says.2;
          firsts = found.firsts ∙ ap Some (sym is.own);
          forces = ap (λ (f : LegFacts). f.forced) own.stands_so.leg.facts ∙ ap (λ (l : machine.Leg). l.forced) is.leg;
          started_so = own.stands_so.begun ∙ is.begun;
        }

-- and that leg may start as the table has it, with the bits of this word where it is mixed
pub may_begin : {T : Type 0} (plan : T → Script) (setting : Setting) (past : Past) (rows : List (Row T)) (tickets : List (Ticket T)) → TableStands plan setting past rows tickets → (idle : Idle) (s : StartsAt plan setting past rows idle) (word greatest : ℕ) {server link id : ℕ} {mix : Option ℕ}
    → IsLawfulPast setting past → greatest_link past ≡ greatest → server ≡ chosen_server setting (leg_of_lookup s.lookup) past → link ≡ link_with rows idle.leg.over_tcp server greatest → list_any (row_has_id id) rows ≡ false → mix ≡ then_some (is_mixed setting link) word
    → MayStart setting past (leg_of idle.number idle.leg_number) server link id mix
may_begin plan setting past rows tickets table idle s word greatest {server} {link} {id} {mix} lawful linked to over free mixes =
    let over_so = over ∙ ap (λ (l : machine.Leg). link_with rows l.over_tcp server greatest) (sym s.leg) in
    subst (λ (l : Leg). MayStart setting past l server link id mix) s.own
    (may_start plan setting past rows tickets table s.lookup server link id mix greatest lawful linked s.firsts s.is_of.stands_so.leg to over_so free (ap is_some mixes ∙ some_if (is_mixed setting link) word))
