-- The question of a lookup is that of its leg.
use Rattle.channel_table.proofs.Base.{◌≡◌, ◌∙◌, ◌+◌, ◌*◌, ◌≤◌, ◌∷◌, Option, Some, None, ap, ap₂, arith, length, AllByRecursion, option_and_then, option_map, option_to_list, slice_get, Cancel, Script, Past, candidate_of, leg_of, legs_of, candidates_of, question_for, question_of, Setting, RowStands, LookupStands, lookups, leg_of_lookup, number_of_leg, Row, Lookup}
use Rattle.channel_table.proofs.RowFrames.{spec_of_row}
use Rattle.channel_table.proofs.SearchSteps.{candidate_is, item_behind, legs_within}
use Rattle.channel_table.proofs.LookupLists.{numbers_are}

-- the leg of a lookup is one of its row's current candidate
pub record IsOfRow {T : Type 0} (plan : T → Script) (setting : Setting) (past : Past) (row : Row T) (stands : RowStands plan setting past row) (lookup : Lookup) : Type 0 where
  pub stands_so : LookupStands setting past row.number stands.spec stands.name stands.rest lookup
  pub least : 2 * length stands.passed ≤ lookup.leg_number
  pub most : lookup.leg_number ≤ 2 * length stands.passed + 1

module _ {T : Type 0} (plan : T → Script) (setting : Setting) (past : Past) (row : Row T) (stands : RowStands plan setting past row) where
  lookups_of : (second : Option Lookup) → legs_of stands.spec (length stands.passed) ≡ row.first.leg_number ∷ option_to_list (option_map number_of_leg second) → AllByRecursion (LookupStands setting past row.number stands.spec stands.name stands.rest) (row.first ∷ option_to_list second)
      → AllByRecursion (IsOfRow plan setting past row stands) (row.first ∷ option_to_list second)
  lookups_of None legs each =
      let within = legs_within stands.spec (length stands.passed) row.first.leg_number None legs in
      (record { stands_so = each.0; least = within.0; most = within.1 }, tt)
  lookups_of (Some lookup) legs each =
      let within = legs_within stands.spec (length stands.passed) row.first.leg_number (Some lookup.leg_number) legs in (
        record { stands_so = each.0; least = within.0; most = within.1 },
        (record { stands_so = each.1.0; least = omega (arith, within.2.0); most = omega (arith, within.2.0) }, tt),
      )

  -- each lookup of a row is so
  pub each_of_row : AllByRecursion (IsOfRow plan setting past row stands) (lookups row)
  each_of_row = lookups_of row.second (stands.legged ∙ numbers_are row.first row.second) stands.each_lookup

  -- the question of a lookup
  pub asked_question : (lookup : Lookup) → IsOfRow plan setting past row stands lookup → question_of setting (leg_of_lookup lookup) past ≡ Some lookup.question
  asked_question lookup is =
      ap (λ n. question_of setting (leg_of n lookup.leg_number) past) is.stands_so.numbered
      ∙ ap (option_and_then (λ spec. option_map (question_for spec lookup.leg_number) (slice_get (candidates_of setting spec) (candidate_of lookup.leg_number)))) (spec_of_row plan setting Cancel past row stands)
      ∙ ap₂ (λ names n. option_map (question_for stands.spec lookup.leg_number) (slice_get names n)) stands.candidates (candidate_is lookup.leg_number (length stands.passed) is.least is.most)
      ∙ ap (option_map (question_for stands.spec lookup.leg_number)) (item_behind stands.passed stands.name stands.rest) ∙ ap Some is.stands_so.asks
