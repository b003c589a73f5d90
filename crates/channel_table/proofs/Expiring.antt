-- How a table follows an Expire.
use Rattle.channel_table.proofs.Base.{◌≡◌, ◌∙◌, ℕ, ◌+◌, ◌≤◌, Bool, true, false, List, [], ◌∷◌, Option, Some, None, Result, Ok, Err, refl, ap, sym, subst, map, take, drop, AllByRecursion, option_and_then, IsSomeAnd, if◌then◌else◌, option_map, IsErr, Answer, Expire, Script, TimedOut, Ticket, Spares, is_leg-itself, Past, Due, IsLawfulPast, first_due, Leg, leg_of, is_leg, Expires, attempts, Setting, Lapse, Failed, NoMemory, Flying, answer_behind, EndsRow, RowStands, TableStands, number_of, lookup_at, concerned_at, flying_of, concerns, leg_of_lookup, due_of_lookup, due_of_soonest, Lookup, Row, Soonest}
use Rattle.channel_model.proofs.Theorems.{expire_spares}
use Rattle.channel_table.proofs.OneRow.{each-split}
use Rattle.channel_table.proofs.TableEnds.{IsOther, others_apart, table_row_ended}
use Rattle.channel_table.proofs.RowFrames.{IsSpared, spared_uncompleted}
use Rattle.channel_table.proofs.RowEnds.{Meets}
use Rattle.channel_table.proofs.RowLookups.{if_second, meets_at, no_bytes, other_of_row, other_lookups, lookup_numbered}

-- a lookup of the row has an attempt in flight, and its leg is the one that was found
pub record IsFound {T : Type 0} (row : Row T) (second : Bool) (leg : Leg) : Type 0 where
  pub lookup : Lookup
  pub at : lookup_at second row ≡ Some lookup
  pub flying : Flying
  pub flies : flying_of lookup ≡ Some flying
  pub own : leg ≡ leg_of_lookup lookup

pub found_says : {T : Type 0} (row : Row T) (found : Soonest) → option_and_then due_of_lookup (lookup_at found.is_second row) ≡ Some (due_of_soonest found) → IsFound row found.is_second (leg_of found.number found.leg_number)
found_says row found e = by_lookup (lookup_at found.is_second row) refl e
  where
    by_flying : (lookup : Lookup) → lookup_at found.is_second row ≡ Some lookup → (o : Option Flying) → flying_of lookup ≡ o → option_map (λ (flying : Flying). record { at = flying.due; leg = leg_of_lookup lookup }) o ≡ Some (due_of_soonest found) → IsFound row found.is_second (leg_of found.number found.leg_number)
    by_flying lookup at None is e = absurd cc
    by_flying lookup at (Some flying) is e =
        let same : ◌≡◌ {A = Due} (record { at = flying.due; leg = leg_of_lookup lookup }) (due_of_soonest found) = cc in
        record { lookup = lookup; at = at; flying = flying; flies = is; own = sym (ap (λ (d : Due). d.leg) same) }

    by_lookup : (o : Option Lookup) → lookup_at found.is_second row ≡ o → option_and_then due_of_lookup o ≡ Some (due_of_soonest found) → IsFound row found.is_second (leg_of found.number found.leg_number)
    by_lookup None at e = absurd cc
    by_lookup (Some lookup) at e = by_flying lookup at (flying_of lookup) refl e

module _ {T : Type 0} (plan : T → Script) (setting : Setting) (past : Past) (number leg at : ℕ) where
  -- an Expire of another leg doesn't concern a lookup
  spared_lookup : (lookup : Lookup) → is_leg (leg_of_lookup lookup) number leg ≡ false → Spares setting (Expire number leg at) past (leg_of_lookup lookup)
  spared_lookup lookup other = expire_spares setting past (leg_of_lookup lookup) number leg at other

  spared_all : (rows : List (Row T)) → AllByRecursion (IsOther number) rows → AllByRecursion (RowStands plan setting past) rows → AllByRecursion (IsSpared plan setting (Expire number leg at) past) rows
  spared_all [] apart each = tt
  spared_all (row ∷ rows) apart each =
      let spared = other_lookups plan setting past row each.0 number leg apart.0 (λ lookup. Spares setting (Expire number leg at) past (leg_of_lookup lookup)) spared_lookup in
      (record { spared = spared; others = λ k. tt; uncompleted = spared_uncompleted plan setting (Expire number leg at) past row refl spared each.0 }, spared_all rows apart.1 each.1)

  -- an Expire of one of its lookups' legs meets both
  meets_expired : (row : Row T) (stands : RowStands plan setting past row) (second : Bool) (lookup : Lookup) → lookup_at second row ≡ Some lookup → (flying : Flying) → flying_of lookup ≡ Some flying → leg_of_lookup lookup ≡ leg_of number leg
      → (other : Bool) (it : Lookup) → lookup_at other row ≡ Some it → (bytes : List ℕ) → (other ≡ second → bytes ≡ []) → Meets setting (Expire number leg at) past (concerned_at second) (Failed TimedOut) other bytes it
  meets_expired row stands second lookup at_ flying flies own other it at_it bytes none =
      meets_at plan setting past row stands (Expire number leg at) (Failed TimedOut) [] flying second lookup at_ flies
      (record { flying = flying; flies = flies; closed = ap (λ (l : Leg). is_leg l number leg) own ∙ is_leg-itself (leg_of number leg); means = refl; brings = refl })
      (λ it at_it. spared_lookup it (other_of_row plan setting past row stands number leg second lookup it at_ at_it own)) other it at_it bytes none

-- the attempt that was found expires
pub table_expired : {T : Type 0} (plan : T → Script) (setting : Setting) (past : Past) (found : Soonest) (at most : ℕ) (answer : Option Answer) (rows new_rows : List (Row T)) (tickets new_tickets : List (Ticket T)) → IsLawfulPast setting past
    → (ends : EndsRow setting.options.flags (concerned_at found.is_second) (Failed TimedOut) [] most answer found.index rows tickets new_rows new_tickets) → option_and_then due_of_lookup (lookup_at found.is_second ends.row) ≡ Some (due_of_soonest found) → attempts setting past ≡ most → most ≤ 80
    → answer ≡ answer_behind setting.options (concerned_at found.is_second) (Failed TimedOut) [] most ends.row
    → TableStands plan setting past rows tickets → TableStands plan setting (Expire found.number found.leg_number at ∷ past) new_rows new_tickets
table_expired plan setting past found at most answer rows new_rows tickets new_tickets lawful ends due may few answers table =
    let is = found_says ends.row found due in
    let parts = each-split (RowStands plan setting past) (take found.index rows) ends.row (drop (found.index + 1) rows) (subst (AllByRecursion (RowStands plan setting past)) ends.parts table.each_row) in
    let apart = others_apart setting past (take found.index rows) (drop (found.index + 1) rows) ends.row lawful (table.stand.pending_are ∙ ap (map number_of) ends.parts) in
    let own : found.number ≡ ends.row.number = ap (λ (l : Leg). l.request) is.own ∙ lookup_numbered plan setting past ends.row parts.1 found.is_second is.lookup is.at in
    let apart_before = subst (λ n. AllByRecursion (IsOther n) (take found.index rows)) (sym own) apart.0 in
    let apart_behind = subst (λ n. AllByRecursion (IsOther n) (drop (found.index + 1) rows)) (sym own) apart.1 in
    let meets = meets_expired plan setting past found.number found.leg_number at ends.row parts.1 found.is_second is.lookup is.at is.flying is.flies (sym is.own) in
    table_row_ended plan setting (Expire found.number found.leg_number at) past (concerned_at found.is_second) (Failed TimedOut) [] most answer found.index rows new_rows tickets new_tickets ends table refl refl refl
    (spared_all plan setting past found.number found.leg_number at (take found.index rows) apart_before parts.0) (spared_all plan setting past found.number found.leg_number at (drop (found.index + 1) rows) apart_behind parts.2)
    refl may few (meets false ends.row.first refl [] (λ e. refl)) (if_second ends.row.second (λ it at_it. meets true it at_it (if concerns (concerned_at found.is_second) false ends.row.first then [] else []) (λ e. no_bytes (concerns (concerned_at found.is_second) false ends.row.first)))) answers

-- an expiry that found no memory had one that was due
pub expires_failed : (at : ℕ) (result : Result Lapse NoMemory) (setting : Setting) (past : Past) → IsErr result → IsSomeAnd (first_due setting past) (λ due. due.at ≤ at) → Expires at result setting past None
expires_failed at (Ok lapse) setting past failed some = absurd (cc failed)
expires_failed at (Err fault) setting past failed some = (refl, some)
