-- How a table follows the end of one row's attempt.
use Rattle.channel_table.proofs.Base.{◌≡◌, ◌∙◌, ℕ, ◌+◌, ◌≤◌, Bool, true, false, List, [], ◌∷◌, ◌++◌, None, refl, ap, subst, map, cond, arith, take, drop, eq-eqb, Option, map-append, AllByRecursion, IfSome, if◌then◌else◌, ◌&&◌, Answer, What, Script, Ticket, pending_once, completed_by, occurrences, pending, taken_by, begun_by, Past, accepted_by, IsLawfulPast, is_leg, leg_of, search_answer, attempts, Setting, Judged, after, answer_behind, Becomes, EndsRow, RowStands, TableStands, flown, number_of, ticket_number, concerns, After, Ends, Stays, Row, Concerned, ◌==◌}
use Rattle.channel_model.proofs.Theorems.{occurrences-append}
use Rattle.channel_table.proofs.OneRow.{each-split, one_ends, one_stays}
use Rattle.channel_table.proofs.Outcomes.{Follows}
use Rattle.channel_table.proofs.RowEnds.{Meets, outcome_after, row_after}
use Rattle.channel_table.proofs.RowFrames.{IsSpared}
use Rattle.channel_table.proofs.TableSteps.{Stands}

-- a row of another request
abbrev pub IsOther : {T : Type 0} → ℕ → Row T → Type 0
IsOther number row = (row.number == number) ≡ false

-- none of its legs is one of that request
pub other_leg : (request number k leg : ℕ) → (request == number) ≡ false → is_leg (leg_of request k) number leg ≡ false
other_leg request number k leg other = ap (λ b. b && (k == leg)) other

module _ {T : Type 0} where
  pub other_rows : (number : ℕ) (rows : List (Row T)) → occurrences number (map number_of rows) ≡ 0 → AllByRecursion (IsOther number) rows
  other_rows number [] none = tt
  other_rows number (r ∷ rows) none = by_test (r.number == number) refl none (other_rows number rows)
    where
      by_test : (b : Bool) → (r.number == number) ≡ b → cond b (occurrences number (map number_of rows) + 1) (occurrences number (map number_of rows)) ≡ 0
          → (occurrences number (map number_of rows) ≡ 0 → AllByRecursion (IsOther number) rows) → ((r.number == number) ≡ false) × AllByRecursion (IsOther number) rows
      by_test true is none rest = absurd (omega (arith, none))
      by_test false is none rest = (is, rest none)

  -- the rows before and behind one are those of other requests
  pub others_apart : (setting : Setting) (past : Past) (before behind : List (Row T)) (row : Row T) → IsLawfulPast setting past → pending setting past ≡ map number_of (before ++ row ∷ behind)
      → AllByRecursion (IsOther row.number) before × AllByRecursion (IsOther row.number) behind
  others_apart setting past before behind row lawful are =
      let all : pending setting past ≡ map number_of before ++ row.number ∷ map number_of behind = are ∙ map-append number_of before (row ∷ behind) in
      let few = pending_once setting past lawful row.number in
      let parts = ap (occurrences row.number) all ∙ occurrences-append row.number (map number_of before) (row.number ∷ map number_of behind) in
      let own : occurrences row.number (row.number ∷ map number_of behind) ≡ occurrences row.number (map number_of behind) + 1 = rw (eq-eqb row.number row.number refl) refl in
      (other_rows row.number before (omega (arith, few, parts, own)), other_rows row.number behind (omega (arith, few, parts, own)))

module _ {T : Type 0} (plan : T → Script) (setting : Setting) (what : What) (past : Past) (concerned : Concerned) (judged : Judged) (reply : List ℕ) (most : ℕ) (answer : Option Answer) (index : ℕ)
    (rows new_rows : List (Row T)) (tickets new_tickets : List (Ticket T)) (ends : EndsRow setting.options.flags concerned judged reply most answer index rows tickets new_rows new_tickets) (table : TableStands plan setting past rows tickets)
    (accepts : accepted_by what ≡ None) (begins : begun_by what ≡ None) (takes : taken_by what ≡ None)
    (spared_before : AllByRecursion (IsSpared plan setting what past) (take index rows)) (spared_behind : AllByRecursion (IsSpared plan setting what past) (drop (index + 1) rows)) where
  split : TableStands plan setting past (take index rows ++ ends.row ∷ drop (index + 1) rows) tickets
  split = subst (λ rs. TableStands plan setting past rs tickets) ends.parts table

  by_after : (o : After T) → Follows number_of ticket_number flown setting what past (outcome_after ends.row o) × Stands plan setting what past (outcome_after ends.row o)
      → Becomes (take index rows) (drop (index + 1) rows) tickets new_rows new_tickets o → TableStands plan setting (what ∷ past) new_rows new_tickets
  by_after (Stays new) follows becomes =
      rw (becomes.0, becomes.1) (one_stays plan setting what past (take index rows) (drop (index + 1) rows) ends.row tickets split spared_before spared_behind accepts begins takes new follows.0 follows.1)
  by_after (Ends ticket) follows becomes =
      rw (becomes.0, becomes.1) (one_ends plan setting what past (take index rows) (drop (index + 1) rows) ends.row tickets split spared_before spared_behind accepts begins takes ticket follows.0 follows.1)

  -- the table follows the entry that closes attempts of the row, and concerns no other
  pub table_row_ended : completed_by setting ends.row.number what past ≡ search_answer setting ends.row.number (what ∷ past) → (may : attempts setting past ≡ most) → (few : most ≤ 80)
      → Meets setting what past concerned judged false reply ends.row.first → IfSome ends.row.second (Meets setting what past concerned judged true (if concerns concerned false ends.row.first then [] else reply))
      → answer ≡ answer_behind setting.options concerned judged reply most ends.row
      → TableStands plan setting (what ∷ past) new_rows new_tickets
  table_row_ended by_search may few meets more answers =
      let stands = (each-split (RowStands plan setting past) (take index rows) ends.row (drop (index + 1) rows) split.each_row).1 in
      by_after (after setting.options.flags concerned judged reply most ends.row answer) (row_after plan setting what past ends.row concerned judged reply most stands begins by_search may few meets more answer answers) ends.becomes
