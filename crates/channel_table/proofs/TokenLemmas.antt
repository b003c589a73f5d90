-- How the tokens of a table's requests follow its calls: a request keeps its token while its row changes and where it becomes a ticket.
use Rattle.channel_table.proofs.Base.{◌≡◌, ◌∙◌, ℕ, ◌+◌, ◌≤◌, Bool, true, false, cond, List, [], ◌∷◌, ◌++◌, Option, Some, None, refl, ap, ap₂, sym, subst, map, drop, take, arith, eq-eqb, map-append, AllByRecursion, option_or, nat_cmp, IfSome, filter_map, if◌then◌else◌, Answer, Script, ServerKey, Status, ConnRefused, Ticket, pending_once, fate, occurrences, Past, IsLawfulPast, Setting, Judged, Failed, fresh_leg, Flags, Options, after, answer_behind, has_next, last_status, next_row, Becomes, EndsRow, FailsOver, answer_over, fails_at, kept_of, ticket_made, row_set, RowStands, TableStands, TicketStands, ended_with, number_of, ticket_number, entries_of, row_entry, ticket_entry, tokens_of, After, Ends, Stays, Row, Concerned, Over}
use Rattle.std.proofs.Common.{◌==◌}
use Rattle.std.proofs.lemmas.Bool.{eqb-true}
use Rattle.std.specs.FinMap as finite
use Rattle.channel_model.proofs.Theorems.{taken_once}
use Rattle.channel_table.proofs.NumberedEntries.{none_of_or, one_out, or_behind, or_front, or_moved, or_none, or_swapped, get-value, same_tokens, value-append, value_of}
use Rattle.channel_table.proofs.TableEnds.{IsOther, other_rows}
use Rattle.channel_table.proofs.RowEnds.{ends_numbered}

-- the entry of what becomes of a row
abbrev after_entry : {T : Type 0} → After T → ℕ × T
after_entry (Stays row) = row_entry row
after_entry (Ends ticket) = ticket_entry ticket

module _ {T : Type 0} where
  -- no row has the number
  pub no_row : (number : ℕ) (rows : List (Row T)) → AllByRecursion (IsOther number) rows → value_of number (map row_entry rows) ≡ None
  no_row number [] others = refl
  no_row number (row ∷ rows) others = rw others.0 (no_row number rows others.1)

  -- no ticket has it
  no_ticket : (number : ℕ) (tickets : List (Ticket T)) → occurrences number (map ticket_number tickets) ≡ 0 → value_of number (map ticket_entry tickets) ≡ None
  no_ticket number [] none = refl
  no_ticket number (ticket ∷ tickets) none = by_test (ticket.call.number == number) none (no_ticket number tickets)
    where
      by_test : (b : Bool) → cond b (occurrences number (map ticket_number tickets) + 1) (occurrences number (map ticket_number tickets)) ≡ 0
          → (occurrences number (map ticket_number tickets) ≡ 0 → value_of number (map ticket_entry tickets) ≡ None) → cond b (Some ticket.token) (value_of number (map ticket_entry tickets)) ≡ None
      by_test true none rest = absurd (omega (arith, none))
      by_test false none rest = rest none

  -- each row has a number that no later one has
  abbrev pub AreApart : List (Row T) → Type 0
  AreApart [] = Unit {0}
  AreApart (row ∷ rows) = (value_of row.number (map row_entry rows) ≡ None) × AreApart rows

  -- and that no ticket has
  abbrev pub IsOff : List (Ticket T) → Row T → Type 0
  IsOff tickets row = value_of row.number (map ticket_entry tickets) ≡ None

  -- where a ticket has the number no row has
  off : (number : ℕ) (v : T) (tickets : List (Ticket T)) (rows : List (Row T)) → AllByRecursion (IsOff tickets) rows
      → value_of number (map ticket_entry tickets) ≡ Some v → value_of number (map row_entry rows) ≡ None
  off number v tickets [] each has = refl
  off number v tickets (row ∷ rows) each has = by_test (row.number == number) refl (off number v tickets rows each.1 has)
    where
      by_test : (b : Bool) → (row.number == number) ≡ b → value_of number (map row_entry rows) ≡ None
          → cond b (Some row.token) (value_of number (map row_entry rows)) ≡ None
      by_test true is rest =
          let same : row.number ≡ number = eqb-true row.number number is in
          let clash : None ≡ Some v = sym (subst (λ n. value_of n (map ticket_entry tickets) ≡ None) same each.0) ∙ has in
          absurd (cc clash)
      by_test false is rest = rest

-- what a table says of its numbers
module _ {T : Type 0} (plan : T → Script) (setting : Setting) (past : Past) where
  rows_apart : (rows : List (Row T)) → ((number : ℕ) → occurrences number (map number_of rows) ≤ 1) → AreApart rows
  rows_apart [] few = tt
  rows_apart (row ∷ rows) few =
      let own : occurrences row.number (row.number ∷ map number_of rows) ≡ occurrences row.number (map number_of rows) + 1 = rw (eq-eqb row.number row.number refl) refl in
      (no_row row.number rows (other_rows row.number rows (omega (arith, few row.number, own))), rows_apart rows (λ number. fewer number (row.number == number) (few number)))
    where
      fewer : (number : ℕ) (b : Bool) → cond b (occurrences number (map number_of rows) + 1) (occurrences number (map number_of rows)) ≤ 1
          → occurrences number (map number_of rows) ≤ 1
      fewer number true few = omega (arith, few)
      fewer number false few = few

  pub apart : IsLawfulPast setting past → (rows : List (Row T)) (tickets : List (Ticket T)) → TableStands plan setting past rows tickets → AreApart rows
  apart lawful rows tickets table = rows_apart rows (λ number. subst (λ (ns : List ℕ). occurrences number ns ≤ 1) table.stand.pending_are (pending_once setting past lawful number))

  -- a request without an answer has no ticket
  open_off : (number : ℕ) (tickets : List (Ticket T)) → fate setting number past ≡ None → AllByRecursion (TicketStands plan setting past) tickets
      → value_of number (map ticket_entry tickets) ≡ None
  open_off number [] none each = refl
  open_off number (ticket ∷ tickets) none each = by_test (ticket.call.number == number) refl (open_off number tickets none each.1)
    where
      by_test : (b : Bool) → (ticket.call.number == number) ≡ b → value_of number (map ticket_entry tickets) ≡ None
          → cond b (Some ticket.token) (value_of number (map ticket_entry tickets)) ≡ None
      by_test true is rest =
          let same : ticket.call.number ≡ number = eqb-true ticket.call.number number is in
          let clash : None ≡ Some ticket.call = sym none ∙ ap (λ n. fate setting n past) (sym same) ∙ each.0.completes in
          absurd (cc clash)
      by_test false is rest = rest

  pub each_off : (rows : List (Row T)) (tickets : List (Ticket T)) → AllByRecursion (RowStands plan setting past) rows
      → AllByRecursion (TicketStands plan setting past) tickets → AllByRecursion (IsOff tickets) rows
  each_off [] tickets rows_stand each = tt
  each_off (row ∷ rows) tickets rows_stand each = (open_off row.number tickets rows_stand.0.undecided each, each_off rows tickets rows_stand.1 each)

  -- a request with an answer has no row
  answered_off : (number : ℕ) (answer : Answer) (rows : List (Row T)) → fate setting number past ≡ Some answer
      → AllByRecursion (RowStands plan setting past) rows → value_of number (map row_entry rows) ≡ None
  answered_off number answer [] has each = refl
  answered_off number answer (row ∷ rows) has each = by_test (row.number == number) refl (answered_off number answer rows has each.1)
    where
      by_test : (b : Bool) → (row.number == number) ≡ b → value_of number (map row_entry rows) ≡ None
          → cond b (Some row.token) (value_of number (map row_entry rows)) ≡ None
      by_test true is rest =
          let same : row.number ≡ number = eqb-true row.number number is in
          let clash : None ≡ Some answer = sym each.0.undecided ∙ ap (λ n. fate setting n past) same ∙ has in
          absurd (cc clash)
      by_test false is rest = rest

  -- ---- a take

  -- the ticket that is taken has the token that was there for its request
  pub token_taken : (rows : List (Row T)) (ticket : Ticket T) (rest : List (Ticket T)) → TableStands plan setting past rows (ticket ∷ rest)
      → finite.get (tokens_of rows (ticket ∷ rest)) ticket.call.number ≡ Some ticket.token
  token_taken rows ticket rest table =
      let number : ℕ = ticket.call.number in
      let none = answered_off number ticket.call rows table.each_ticket.0.completes table.each_row in
      let own : (number == number) ≡ true = eq-eqb number number refl in
      get-value (entries_of rows (ticket ∷ rest)) number ∙ value-append number (map row_entry rows) (map ticket_entry (ticket ∷ rest))
      ∙ ap (λ o. option_or o (cond (number == number) (Some ticket.token) (value_of number (map ticket_entry rest)))) none
      ∙ ap (λ b. cond b (Some ticket.token) (value_of number (map ticket_entry rest))) own

  -- and the others are left
  pub tokens_left : IsLawfulPast setting past → (rows : List (Row T)) (ticket : Ticket T) (rest : List (Ticket T))
      → TableStands plan setting past rows (ticket ∷ rest)
      → tokens_of rows rest ≡ finite.remove (tokens_of rows (ticket ∷ rest)) ticket.call.number
  tokens_left lawful rows ticket rest table = one_out (entries_of rows (ticket ∷ rest)) (entries_of rows rest) ticket.call.number (λ number.
      value-append number (map row_entry rows) (map ticket_entry rest) ∙ by_test number (ticket.call.number == number) refl
      ∙ ap (cond (ticket.call.number == number) None) (sym (value-append number (map row_entry rows) (map ticket_entry (ticket ∷ rest)))))
    where
      once : occurrences ticket.call.number (ticket.call.number ∷ map ticket_number rest) ≤ 1
      once = subst (λ (ns : List ℕ). occurrences ticket.call.number ns ≤ 1) table.stand.ready_are (omega (arith, taken_once setting past ticket.call.number lawful))

      own : occurrences ticket.call.number (ticket.call.number ∷ map ticket_number rest) ≡ occurrences ticket.call.number (map ticket_number rest) + 1
      own = rw (eq-eqb ticket.call.number ticket.call.number refl) refl

      none : value_of ticket.call.number (map row_entry rows) ≡ None
      none = answered_off ticket.call.number ticket.call rows table.each_ticket.0.completes table.each_row

      none_more : value_of ticket.call.number (map ticket_entry rest) ≡ None
      none_more = no_ticket ticket.call.number rest (omega (arith, once, own))

      by_test : (number : ℕ) (b : Bool) → (ticket.call.number == number) ≡ b
          → option_or (value_of number (map row_entry rows)) (value_of number (map ticket_entry rest))
          ≡ cond b None (option_or (value_of number (map row_entry rows)) (cond b (Some ticket.token) (value_of number (map ticket_entry rest))))
      by_test number true is = subst (λ n. option_or (value_of n (map row_entry rows)) (value_of n (map ticket_entry rest)) ≡ None) (eqb-true ticket.call.number number is) (rw (none, none_more) refl)
      by_test number false is = refl

-- ---- rows that change, each with its entry

module _ {T : Type 0} where
  -- rows of the same entries
  pub tokens_kept : (rows new_rows : List (Row T)) (tickets : List (Ticket T)) → map row_entry new_rows ≡ map row_entry rows
      → tokens_of new_rows tickets ≡ tokens_of rows tickets
  tokens_kept rows new_rows tickets same = ap (λ es. finite.from_entries {R = nat_cmp} (es ++ map ticket_entry tickets)) same

  one_row : (before behind : List (Row T)) (row new : Row T) → row_entry new ≡ row_entry row
      → map row_entry (before ++ new ∷ behind) ≡ map row_entry (before ++ row ∷ behind)
  one_row before behind row new same =
      map-append row_entry before (new ∷ behind) ∙ ap (λ e. map row_entry before ++ e ∷ map row_entry behind) same
      ∙ sym (map-append row_entry before (row ∷ behind))

  -- a list of servers is set
  pub tokens_set : (list : List ServerKey) (rows : List (Row T)) (tickets : List (Ticket T))
      → tokens_of (map (row_set list) rows) tickets ≡ tokens_of rows tickets
  tokens_set list rows tickets = tokens_kept rows (map (row_set list) rows) tickets (set_entries rows)
    where
      set_entries : (rs : List (Row T)) → map row_entry (map (row_set list) rs) ≡ map row_entry rs
      set_entries [] = refl
      set_entries (row ∷ rs) = ap (λ es. row_entry row ∷ es) (set_entries rs)

  -- all requests end
  pub tokens_ended : (status : Status) (rows : List (Row T)) (tickets : List (Ticket T)) → AllByRecursion (IsOff tickets) rows
      → tokens_of [] (tickets ++ map (ended_with status) rows) ≡ tokens_of rows tickets
  tokens_ended status rows tickets each = same_tokens (entries_of [] (tickets ++ map (ended_with status) rows)) (entries_of rows tickets) (λ number.
      ap (value_of number) (map-append ticket_entry tickets (map (ended_with status) rows) ∙ ap (λ es. map ticket_entry tickets ++ es) (ended_entries rows))
      ∙ value-append number (map ticket_entry tickets) (map row_entry rows)
      ∙ or_swapped (value_of number (map ticket_entry tickets)) (value_of number (map row_entry rows)) (λ v has. off number v tickets rows each has)
      ∙ sym (value-append number (map row_entry rows) (map ticket_entry tickets)))
    where
      ended_entries : (rs : List (Row T)) → map ticket_entry (map (ended_with status) rs) ≡ map row_entry rs
      ended_entries [] = refl
      ended_entries (row ∷ rs) = ap (λ es. row_entry row ∷ es) (ended_entries rs)

  -- what becomes of a row has its entry, where the answer has its number
  pub entry_after : (flags : Flags) (concerned : Concerned) (judged : Judged) (reply : List ℕ) (most : ℕ) (row : Row T) (answer : Option Answer)
      → IfSome answer (λ (a : Answer). a.number ≡ row.number)
      → after_entry (after flags concerned judged reply most row answer) ≡ row_entry row
  entry_after flags concerned judged reply most row None numbered = refl
  entry_after flags concerned judged reply most row (Some answer) numbered = by_test (has_next answer.status row)
    where
      by_test : (b : Bool)
          → after_entry (if b then Stays (next_row (fresh_leg flags) answer.status row) else Ends (record { token = row.token; call = record answer { status = last_status row.empty answer.status } })) ≡ row_entry row
      by_test true = refl
      by_test false = ap (λ (n : ℕ). (n, row.token)) numbered

  -- an answer that the row's current candidate has behind the end of attempts has its number
  pub numbered_by : (options : Options) (concerned : Concerned) (judged : Judged) (bytes : List ℕ) (most : ℕ) (row its : Row T) (answer : Option Answer) → row ≡ its
      → answer ≡ answer_behind options concerned judged bytes most row → IfSome answer (λ (a : Answer). a.number ≡ its.number)
  numbered_by options concerned judged bytes most row its answer same is =
      subst (λ (r : Row T). IfSome answer (λ (a : Answer). a.number ≡ r.number)) same
      (subst (λ (o : Option Answer). IfSome o (λ (a : Answer). a.number ≡ row.number)) (sym is) (ends_numbered options row.number row.wanted _ _ _))

  -- a row becomes the last ticket, where no row behind it and no ticket has its number
  one_moved : (before behind : List (Row T)) (row : Row T) (ticket : Ticket T) (tickets : List (Ticket T)) → ticket_entry ticket ≡ row_entry row
      → value_of row.number (map row_entry behind) ≡ None → value_of row.number (map ticket_entry tickets) ≡ None
      → tokens_of (before ++ behind) (tickets ++ ticket ∷ []) ≡ tokens_of (before ++ row ∷ behind) tickets
  one_moved before behind row ticket tickets same none none_ready = same_tokens (entries_of (before ++ behind) (tickets ++ ticket ∷ [])) (entries_of (before ++ row ∷ behind) tickets) (λ number. sym (moved number))
    where
      rows_split : (number : ℕ)
          → value_of number (map row_entry (before ++ row ∷ behind)) ≡ option_or (value_of number (map row_entry before)) (cond (row.number == number) (Some row.token) (value_of number (map row_entry behind)))
      rows_split number = ap (value_of number) (map-append row_entry before (row ∷ behind))
          ∙ value-append number (map row_entry before) (row_entry row ∷ map row_entry behind)

      rows_left : (number : ℕ)
          → value_of number (map row_entry (before ++ behind)) ≡ option_or (value_of number (map row_entry before)) (value_of number (map row_entry behind))
      rows_left number = ap (value_of number) (map-append row_entry before behind) ∙ value-append number (map row_entry before) (map row_entry behind)

      tickets_more : (number : ℕ)
          → value_of number (map ticket_entry (tickets ++ ticket ∷ [])) ≡ option_or (value_of number (map ticket_entry tickets)) (cond (row.number == number) (Some row.token) None)
      tickets_more number =
          ap (value_of number) (map-append ticket_entry tickets (ticket ∷ []) ∙ ap (λ e. map ticket_entry tickets ++ e ∷ []) same)
          ∙ value-append number (map ticket_entry tickets) (row_entry row ∷ [])

      moved : (number : ℕ)
          → value_of number (entries_of (before ++ row ∷ behind) tickets) ≡ value_of number (entries_of (before ++ behind) (tickets ++ ticket ∷ []))
      moved number =
          value-append number (map row_entry (before ++ row ∷ behind)) (map ticket_entry tickets)
          ∙ ap (λ o. option_or o (value_of number (map ticket_entry tickets))) (rows_split number)
          ∙ or_moved row.token (row.number == number) (value_of number (map row_entry before)) (value_of number (map row_entry behind)) (value_of number (map ticket_entry tickets))
          (λ is. subst (λ n. value_of n (map row_entry behind) ≡ None) (eqb-true row.number number is) none)
          (λ is. subst (λ n. value_of n (map ticket_entry tickets) ≡ None) (eqb-true row.number number is) none_ready)
          ∙ ap₂ (λ o p. option_or o p) (sym (rows_left number)) (sym (tickets_more number))
          ∙ sym (value-append number (map row_entry (before ++ behind)) (map ticket_entry (tickets ++ ticket ∷ [])))

  -- the attempts of one end: it stays, or its ticket comes to the end of those that are ready
  pub tokens_moved : (flags : Flags) (concerned : Concerned) (judged : Judged) (reply : List ℕ) (most : ℕ) (answer : Option Answer) (index : ℕ) (rows : List (Row T)) (tickets : List (Ticket T)) (new_rows : List (Row T)) (new_tickets : List (Ticket T))
      → (ends : EndsRow flags concerned judged reply most answer index rows tickets new_rows new_tickets) → IfSome answer (λ (a : Answer). a.number ≡ ends.row.number)
      → AreApart rows → AllByRecursion (IsOff tickets) rows → tokens_of new_rows new_tickets ≡ tokens_of rows tickets
  tokens_moved flags concerned judged reply most answer index rows tickets new_rows new_tickets ends numbered apart each =
      by_after (after flags concerned judged reply most ends.row answer) (entry_after flags concerned judged reply most ends.row answer numbered) ends.becomes
      ∙ ap (λ rs. tokens_of rs tickets) (sym ends.parts)
    where
      split_apart : AreApart (take index rows ++ ends.row ∷ drop (index + 1) rows)
      split_apart = subst (λ rs. AreApart rs) ends.parts apart

      split_off : AllByRecursion (IsOff tickets) (take index rows ++ ends.row ∷ drop (index + 1) rows)
      split_off = subst (AllByRecursion (IsOff tickets)) ends.parts each

      none_behind : (before behind : List (Row T)) (row : Row T) → AreApart (before ++ row ∷ behind) → value_of row.number (map row_entry behind) ≡ None
      none_behind [] behind row apart = apart.0
      none_behind (r ∷ before) behind row apart = none_behind before behind row apart.1

      none_ready : (before behind : List (Row T)) (row : Row T) → AllByRecursion (IsOff tickets) (before ++ row ∷ behind)
          → value_of row.number (map ticket_entry tickets) ≡ None
      none_ready [] behind row each = each.0
      none_ready (r ∷ before) behind row each = none_ready before behind row each.1

      by_after : (o : After T) → after_entry o ≡ row_entry ends.row → Becomes (take index rows) (drop (index + 1) rows) tickets new_rows new_tickets o
          → tokens_of new_rows new_tickets ≡ tokens_of (take index rows ++ ends.row ∷ drop (index + 1) rows) tickets
      by_after (Stays new) same becomes =
          ap₂ (λ rs ts. tokens_of rs ts) becomes.0 becomes.1
          ∙ tokens_kept (take index rows ++ ends.row ∷ drop (index + 1) rows) (take index rows ++ new ∷ drop (index + 1) rows) tickets (one_row (take index rows) (drop (index + 1) rows) ends.row new same)
      by_after (Ends ticket) same becomes =
          ap₂ (λ rs ts. tokens_of rs ts) becomes.0 becomes.1
          ∙ one_moved (take index rows) (drop (index + 1) rows) ends.row ticket tickets same
          (none_behind (take index rows) (drop (index + 1) rows) ends.row split_apart) (none_ready (take index rows) (drop (index + 1) rows) ends.row split_off)

  -- some requests end, each row by what becomes of it
  module _ (f : Row T → After T) (same : (row : Row T) → after_entry (f row) ≡ row_entry row) where
    abbrev kept : List (Row T) → List (ℕ × T)
    kept rows = map row_entry (filter_map kept_of (map f rows))

    abbrev made : List (Row T) → List (ℕ × T)
    made rows = map ticket_entry (filter_map ticket_made (map f rows))

    -- what is kept and what is made have the entries of all
    parts_are : (number : ℕ) (rows : List (Row T)) → AreApart rows
        → option_or (value_of number (kept rows)) (value_of number (made rows)) ≡ value_of number (map row_entry rows)
    parts_are number [] apart = refl
    parts_are number (row ∷ rows) apart = by_after (f row) (same row) (parts_are number rows apart.1)
      where
        by_after : (a : After T) → after_entry a ≡ row_entry row
            → option_or (value_of number (kept rows)) (value_of number (made rows)) ≡ value_of number (map row_entry rows)
            → option_or (value_of number (map row_entry (filter_map kept_of (a ∷ map f rows)))) (value_of number (map ticket_entry (filter_map ticket_made (a ∷ map f rows)))) ≡ cond (row.number == number) (Some row.token) (value_of number (map row_entry rows))
        by_after (Stays new) is rest =
            or_front new.token (new.number == number) (value_of number (kept rows)) (value_of number (made rows))
            ∙ ap (λ (e : ℕ × T). cond (e.0 == number) (Some e.1) (option_or (value_of number (kept rows)) (value_of number (made rows)))) is
            ∙ ap (cond (row.number == number) (Some row.token)) rest
        by_after (Ends ticket) is rest =
            or_behind ticket.token (ticket.call.number == number) (value_of number (kept rows)) (value_of number (made rows)) (λ here.
            none_of_or (value_of number (kept rows)) (value_of number (made rows)) (rest
            ∙ subst (λ n. value_of n (map row_entry rows) ≡ None) (sym (ap (λ (e : ℕ × T). e.0) is) ∙ eqb-true ticket.call.number number here) apart.0))
            ∙ ap (λ (e : ℕ × T). cond (e.0 == number) (Some e.1) (option_or (value_of number (kept rows)) (value_of number (made rows)))) is
            ∙ ap (cond (row.number == number) (Some row.token)) rest

    parts_value : (number : ℕ) (rows : List (Row T)) (tickets : List (Ticket T)) → AreApart rows → AllByRecursion (IsOff tickets) rows
        → option_or (value_of number (kept rows)) (option_or (value_of number (map ticket_entry tickets)) (value_of number (made rows))) ≡ option_or (value_of number (map row_entry rows)) (value_of number (map ticket_entry tickets))
    parts_value number rows tickets apart each = by_ready (value_of number (map ticket_entry tickets)) refl
      where
        by_ready : (o : Option T) → value_of number (map ticket_entry tickets) ≡ o
            → option_or (value_of number (kept rows)) (option_or o (value_of number (made rows))) ≡ option_or (value_of number (map row_entry rows)) o
        by_ready None is = parts_are number rows apart ∙ sym (or_none (value_of number (map row_entry rows)))
        by_ready (Some v) is =
            let none : value_of number (map row_entry rows) ≡ None = off number v tickets rows each is in
            let none_kept : value_of number (kept rows) ≡ None = none_of_or (value_of number (kept rows)) (value_of number (made rows)) (parts_are number rows apart ∙ none) in
            rw (none, none_kept) refl

    pub tokens_parted : (rows : List (Row T)) (tickets : List (Ticket T)) → AreApart rows → AllByRecursion (IsOff tickets) rows
        → tokens_of (filter_map kept_of (map f rows)) (tickets ++ filter_map ticket_made (map f rows)) ≡ tokens_of rows tickets
    tokens_parted rows tickets apart each = same_tokens (entries_of (filter_map kept_of (map f rows)) (tickets ++ filter_map ticket_made (map f rows))) (entries_of rows tickets) (λ number.
        value-append number (kept rows) (map ticket_entry (tickets ++ filter_map ticket_made (map f rows)))
        ∙ ap (option_or (value_of number (kept rows))) (ap (value_of number) (map-append ticket_entry tickets (filter_map ticket_made (map f rows))) ∙ value-append number (map ticket_entry tickets) (made rows))
        ∙ parts_value number rows tickets apart each ∙ sym (value-append number (map row_entry rows) (map ticket_entry tickets)))

  -- a Fault of a server's link, where a leg may spend so many attempts
  pub tokens_failed : (options : Options) (server link most : ℕ) (rows new_rows : List (Row T)) (tickets new_tickets : List (Ticket T))
      → FailsOver options server link most rows tickets new_rows new_tickets
      → AreApart rows → AllByRecursion (IsOff tickets) rows → tokens_of new_rows new_tickets ≡ tokens_of rows tickets
  tokens_failed options server link most rows new_rows tickets new_tickets fails apart each =
      ap₂ (λ rs ts. tokens_of rs ts) fails.kept fails.made
      ∙ tokens_parted (fails_at options server link most)
      (λ row. entry_after options.flags (Over server link) (Failed ConnRefused) [] most row (answer_over options server link most row) (ends_numbered options row.number row.wanted _ _ _)) rows tickets apart each
