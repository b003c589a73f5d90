-- The lookups of rows, one row after the other and all in one list.
use Rattle.channel_table.proofs.Base.{◌≡◌, ◌∙◌, ◌+◌, Bool, List, [], ◌∷◌, ◌++◌, Option, Some, None, refl, ap, sym, map, cond, flat_map-append, list_any-append, sum_by-append, sum_by-cons, AllByRecursion, list_any, sum_by, count_by, flat_map, option_map, option_to_list, ◌||◌, Script, each-append, each-then, Past, Setting, LegStands, RowStands, LookupStands, all_lookups, lookups, leg_of_lookup, number_of_leg, Row, Lookup}

-- the leg of a lookup stands in a past as the lookup has it
abbrev pub LegOf : Setting → Past → Lookup → Type 0
LegOf setting past lookup = LegStands setting past (leg_of_lookup lookup) lookup.leg lookup.reply

module _ {T : Type 0} where
  -- what is listed of each lookup of each row is listed of all
  pub flat_lookups : {Y : Type 0} (f : Lookup → List Y) (rows : List (Row T)) → flat_map (λ (row : Row T). flat_map f (lookups row)) rows ≡ flat_map f (all_lookups rows)
  flat_lookups f [] = refl
  flat_lookups f (row ∷ rows) = ap (λ ys. flat_map f (lookups row) ++ ys) (flat_lookups f rows) ∙ sym (flat_map-append f (lookups row) (all_lookups rows))

  -- a row has such a lookup where one of all lookups is such
  pub any_lookups : (p : Lookup → Bool) (rows : List (Row T)) → list_any (λ (row : Row T). list_any p (lookups row)) rows ≡ list_any p (all_lookups rows)
  any_lookups p [] = refl
  any_lookups p (row ∷ rows) = ap (λ b. list_any p (lookups row) || b) (any_lookups p rows) ∙ sym (list_any-append p (lookups row) (all_lookups rows))

  -- as many of them are such, counted row by row
  pub count_lookups : (p : Lookup → Bool) (rows : List (Row T)) → sum_by (λ (row : Row T). count_by p (lookups row)) rows ≡ count_by p (all_lookups rows)
  count_lookups p [] = refl
  count_lookups p (row ∷ rows) =
      sum_by-cons (λ (r : Row T). count_by p (lookups r)) row rows ∙ ap (λ n. count_by p (lookups row) + n) (count_lookups p rows)
      ∙ sym (sum_by-append (λ (s : Lookup). cond (p s) 1 0) (lookups row) (all_lookups rows))

  module _ (plan : T → Script) (setting : Setting) (past : Past) where
    -- the legs of a row's lookups stand
    pub legs_stand : (row : Row T) → RowStands plan setting past row → AllByRecursion (LegOf setting past) (lookups row)
    legs_stand row stands = each-then (LookupStands setting past row.number stands.spec stands.name stands.rest) (LegOf setting past) (lookups row) (λ lookup s. s.leg) stands.each_lookup

    -- and so do those of all rows
    pub all_legs_stand : (rows : List (Row T)) → AllByRecursion (RowStands plan setting past) rows → AllByRecursion (LegOf setting past) (all_lookups rows)
    all_legs_stand [] each = tt
    all_legs_stand (row ∷ rows) each = each-append (LegOf setting past) (lookups row) (all_lookups rows) (legs_stand row each.0) (all_legs_stand rows each.1)

-- the numbers of a row's legs, of which the second is there or not
pub numbers_are : (first : Lookup) (second : Option Lookup) → map number_of_leg (first ∷ option_to_list second) ≡ first.leg_number ∷ option_to_list (option_map number_of_leg second)
numbers_are first None = refl
numbers_are first (Some lookup) = refl
