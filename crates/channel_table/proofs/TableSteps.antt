-- How a whole table follows one entry.
use Rattle.channel_table.proofs.Base.{◌≡◌, ℕ, true, List, [], ◌∷◌, ◌++◌, Some, None, refl, ap, sym, subst, map, AllByRecursion, filter, filter_map, not, option_map, What, Script, Status, Ticket, each-append, each-then, script_of-later, completed_by, left_by, taken_by, Attempt, begun_by, closes, Accepted, Past, accepted_by, spec_of, Setting, RowStands, TableStands, TicketStands, ended_with, flown, number_of, ticket_number, Row}
use Rattle.channel_model.specs.Completion.{bare_if_accepted}
use Rattle.channel_table.proofs.Outcomes.{Outcome, stays, ends, row_behind, ticket_behind, Becomes, Follows, stands_behind}

module _ {T : Type 0} (plan : T → Script) (setting : Setting) (what : What) (past : Past) where
  ticket_later : (ticket : Ticket T) → TicketStands plan setting past ticket → TicketStands plan setting (what ∷ past) ticket
  ticket_later ticket stands = record {
    completes = rw stands.completes refl;
    accepts = script_of-later ticket.call.number what past (plan ticket.token) stands.accepts;
  }

  -- tickets stand for every longer past
  pub tickets_later : (tickets : List (Ticket T)) → AllByRecursion (TicketStands plan setting past) tickets → AllByRecursion (TicketStands plan setting (what ∷ past)) tickets
  tickets_later tickets each = each-then (TicketStands plan setting past) (TicketStands plan setting (what ∷ past)) tickets ticket_later each

  -- what a row and its outcome say of the past behind the entry
  abbrev pub Stands : Outcome (Row T) (Ticket T) → Type 0
  Stands (stays row new) = RowStands plan setting (what ∷ past) new
  Stands (ends row ticket) = TicketStands plan setting (what ∷ past) ticket

  each_row_behind : (outcomes : List (Outcome (Row T) (Ticket T))) → AllByRecursion Stands outcomes → AllByRecursion (RowStands plan setting (what ∷ past)) (filter_map row_behind outcomes)
  each_row_behind [] each = tt
  each_row_behind (stays row new ∷ outcomes) each = (each.0, each_row_behind outcomes each.1)
  each_row_behind (ends row ticket ∷ outcomes) each = each_row_behind outcomes each.1

  each_ticket_behind : (outcomes : List (Outcome (Row T) (Ticket T))) → AllByRecursion Stands outcomes → AllByRecursion (TicketStands plan setting (what ∷ past)) (filter_map ticket_behind outcomes)
  each_ticket_behind [] each = tt
  each_ticket_behind (stays row new ∷ outcomes) each = each_ticket_behind outcomes each.1
  each_ticket_behind (ends row ticket ∷ outcomes) each = (each.0, each_ticket_behind outcomes each.1)

  -- an entry that accepts, begins and takes nothing: each row becomes what the entry makes of it
  pub table_behind : (outcomes : List (Outcome (Row T) (Ticket T))) (old new : List (Row T)) (tickets more : List (Ticket T))
      → accepted_by what ≡ None → begun_by what ≡ None → taken_by what ≡ None → Becomes outcomes old new more
      → AllByRecursion (Follows number_of ticket_number flown setting what past) outcomes → AllByRecursion Stands outcomes
      → TableStands plan setting past old tickets → TableStands plan setting (what ∷ past) new (tickets ++ more)
  table_behind outcomes old new tickets more accepts begins takes becomes follows each table = record {
    stand = stands_behind number_of ticket_number flown setting what past outcomes old new tickets tickets more accepts begins (ap (λ t. left_by t (map ticket_number tickets)) takes) becomes follows table.stand;
    each_row = subst (AllByRecursion (RowStands plan setting (what ∷ past))) (sym becomes.rows_behind) (each_row_behind outcomes each);
    each_ticket = each-append (TicketStands plan setting (what ∷ past)) tickets more (tickets_later tickets table.each_ticket)
        (subst (AllByRecursion (TicketStands plan setting (what ∷ past))) (sym becomes.tickets_behind) (each_ticket_behind outcomes each));
  }

-- all rows end with one status
module _ {T : Type 0} (status : Status) where
  end_all : List (Row T) → List (Outcome (Row T) (Ticket T))
  end_all [] = []
  end_all (row ∷ rows) = ends row (ended_with status row) ∷ end_all rows

  end_all-becomes : (rows : List (Row T)) → Becomes (end_all rows) rows [] (map (ended_with status) rows)
  unfolding end_all
  end_all-becomes [] = record { rows_before = refl; rows_behind = refl; tickets_behind = refl }
  end_all-becomes (row ∷ rows) =
      let rest = end_all-becomes rows in
      record { rows_before = ap (λ rs. row ∷ rs) rest.rows_before; rows_behind = rest.rows_behind; tickets_behind = ap (λ ts. ended_with status row ∷ ts) rest.tickets_behind }

module _ {T : Type 0} (plan : T → Script) (setting : Setting) (what : What) (past : Past) (status : Status)
    (accepts : accepted_by what ≡ None) (begins : begun_by what ≡ None) (takes : taken_by what ≡ None)
    (completes : (number : ℕ) → completed_by setting number what past ≡ bare_if_accepted number status past) (closed : (a : Attempt) → closes setting a what past ≡ true) where
  spec_of_row : (row : Row T) (stands : RowStands plan setting past row) → spec_of row.number past ≡ Some stands.spec
  spec_of_row row stands = ap (option_map (λ (r : Accepted). r.spec)) stands.accepts

  all_closed : (attempts : List Attempt) → filter (λ a. not (closes setting a what past)) attempts ≡ []
  all_closed [] = refl
  all_closed (a ∷ attempts) = rw (closed a) (all_closed attempts)

  all_follow : (rows : List (Row T)) → AllByRecursion (RowStands plan setting past) rows → AllByRecursion (Follows number_of ticket_number flown setting what past) (end_all status rows)
  unfolding end_all
  all_follow [] each = tt
  all_follow (row ∷ rows) each = ((refl, rw (completes row.number, spec_of_row row each.0) refl, all_closed (flown row)), all_follow rows each.1)

  all_stand : (rows : List (Row T)) → AllByRecursion (RowStands plan setting past) rows → AllByRecursion (Stands plan setting what past) (end_all status rows)
  unfolding end_all
  all_stand [] each = tt
  all_stand (row ∷ rows) each = (
    record {
      completes = rw (each.0.undecided, completes row.number, spec_of_row row each.0) refl;
      accepts = script_of-later row.number what past (plan row.token) (ap (option_map (λ (r : Accepted). r.script)) each.0.accepts);
    },
    all_stand rows each.1,
  )

  -- an entry that ends all requests leaves no row, and all their tickets are ready
  pub table_ended : (rows : List (Row T)) (tickets : List (Ticket T)) → TableStands plan setting past rows tickets → TableStands plan setting (what ∷ past) [] (tickets ++ map (ended_with status) rows)
  table_ended rows tickets table =
      table_behind plan setting what past (end_all status rows) rows [] tickets (map (ended_with status) rows) accepts begins takes (end_all-becomes status rows)
      (all_follow rows table.each_row) (all_stand rows table.each_row) table
