-- A table of which an entry changes one row: it stays as another, or it ends.
use Rattle.channel_table.proofs.Base.{◌≡◌, List, [], ◌∷◌, ◌++◌, None, refl, subst, map, append-nil, AllByRecursion, filter_map, What, Script, Ticket, each-append, taken_by, begun_by, Past, accepted_by, Setting, RowStands, TableStands, TicketStands, flown, number_of, ticket_number, Row}
use Rattle.channel_table.proofs.Outcomes.{Becomes, Follows, Outcome, ends, row_behind, row_of, stays, ticket_behind}
use Rattle.channel_table.proofs.RowFrames.{IsSpared, becomes-append, keep_all, keep_all-becomes, keep_all-follow, keep_all-stand}
use Rattle.channel_table.proofs.TableSteps.{Stands, table_behind}

-- what holds of each item of two lists holds of each in the first, of the one between, and of each in the second
pub each-split : {X : Type 0} (P : X → Type 0) (xs : List X) (y : X) (zs : List X) → AllByRecursion P (xs ++ y ∷ zs) → AllByRecursion P xs × P y × AllByRecursion P zs
each-split P [] y zs each = (tt, each.0, each.1)
each-split P (x ∷ xs) y zs each = let rest = each-split P xs y zs each.1 in ((each.0, rest.0), rest.1, rest.2)

module _ {T : Type 0} (plan : T → Script) (setting : Setting) (what : What) (past : Past)
    (before behind : List (Row T)) (row : Row T) (tickets : List (Ticket T)) (table : TableStands plan setting past (before ++ row ∷ behind) tickets)
    (spared_before : AllByRecursion (IsSpared plan setting what past) before) (spared_behind : AllByRecursion (IsSpared plan setting what past) behind) where
  module _ (accepts : accepted_by what ≡ None) (begins : begun_by what ≡ None) (takes : taken_by what ≡ None) where
    one : (o : Outcome (Row T) (Ticket T)) (new : List (Row T)) (more : List (Ticket T)) → row ∷ [] ≡ map row_of (o ∷ []) → new ≡ filter_map row_behind (o ∷ []) → more ≡ filter_map ticket_behind (o ∷ [])
        → Follows number_of ticket_number flown setting what past o → Stands plan setting what past o → TableStands plan setting (what ∷ past) (before ++ (new ++ behind)) (tickets ++ (more ++ []))
    one o new more rows_are new_are more_are follows stands =
        let keep = keep_all plan setting what past in
        let parts = each-split (RowStands plan setting past) before row behind table.each_row in
        let middle : Becomes (o ∷ []) (row ∷ []) new more = record { rows_before = rows_are; rows_behind = new_are; tickets_behind = more_are } in
        let tail = becomes-append (o ∷ []) (keep behind) (row ∷ []) new behind behind more [] middle (keep_all-becomes plan setting what past behind) in
        let all = becomes-append (keep before) (o ∷ keep behind) before before (row ∷ behind) (new ++ behind) [] (more ++ []) (keep_all-becomes plan setting what past before) tail in
        table_behind plan setting what past (keep before ++ o ∷ keep behind) (before ++ row ∷ behind) (before ++ (new ++ behind)) tickets (more ++ []) accepts begins takes all
        (each-append (Follows number_of ticket_number flown setting what past) (keep before) (o ∷ keep behind) (keep_all-follow plan setting what past before spared_before parts.0) (follows, keep_all-follow plan setting what past behind spared_behind parts.2))
        (each-append (Stands plan setting what past) (keep before) (o ∷ keep behind) (keep_all-stand plan setting what past before spared_before parts.0) (stands, keep_all-stand plan setting what past behind spared_behind parts.2))
        table

    abbrev pub a_stay : Row T → Outcome (Row T) (Ticket T)
    a_stay new = stays row new

    abbrev pub an_end : Ticket T → Outcome (Row T) (Ticket T)
    an_end ticket = ends row ticket

    -- the row stays as another
    pub one_stays : (new : Row T) → Follows number_of ticket_number flown setting what past (a_stay new) → RowStands plan setting (what ∷ past) new → TableStands plan setting (what ∷ past) (before ++ new ∷ behind) tickets
    one_stays new follows stands = subst (TableStands plan setting (what ∷ past) (before ++ new ∷ behind)) (append-nil tickets) (one (stays row new) (new ∷ []) [] refl refl refl follows stands)

    -- the row ends
    pub one_ends : (ticket : Ticket T) → Follows number_of ticket_number flown setting what past (an_end ticket) → TicketStands plan setting (what ∷ past) ticket → TableStands plan setting (what ∷ past) (before ++ behind) (tickets ++ ticket ∷ [])
    one_ends ticket follows stands = one (ends row ticket) [] (ticket ∷ []) refl refl refl follows stands
