-- The token of a new request.
use Rattle.channel_table.proofs.Base.{◌≡◌, ◌∙◌, ℕ, ◌+◌, ◌≤◌, Bool, true, false, cond, List, [], ◌∷◌, ◌++◌, Option, Some, None, refl, ap, ap₂, sym, subst, map, length, arith, map-append, AllByRecursion, option_or, option_map, Script, Spec, Ticket, asked_once, next_unasked, fate, occurrences, requests, Accepted, Past, accepted, IsLawfulPast, Setting, Flags, wanted_by, Opens, Places, RowStands, TableStands, TicketStands, entries_of, row_entry, ticket_entry, tokens_of, Row, Opening, Answered, Asks}
use Rattle.std.proofs.Common.{◌==◌}
use Rattle.std.proofs.lemmas.Bool.{eqb-true}
use Rattle.std.specs.FinMap as finite
use Rattle.channel_model.proofs.Theorems.{unasked_fate}
use Rattle.channel_table.proofs.NumberedEntries.{one_put, or_last, or_put, value-append, value_of}
use Rattle.channel_table.proofs.Opening.{known_number}
use Rattle.channel_table.specs.declared.table.accepting.Opening.TheVariants.{Ends}

module _ {T : Type 0} (plan : T → Script) (setting : Setting) (past : Past) (number : ℕ) (unasked : occurrences number (requests past) ≡ 0) where
  -- no row has the number of a request that wasn't asked
  no_row_yet : (rows : List (Row T)) → AllByRecursion (RowStands plan setting past) rows → value_of number (map row_entry rows) ≡ None
  no_row_yet [] each = refl
  no_row_yet (row ∷ rows) each = by_test (row.number == number) refl (no_row_yet rows each.1)
    where
      asked : 1 ≤ occurrences row.number (requests past)
      asked = asked_once setting row.number past _ (ap (option_map (λ (r : Accepted). r.spec)) each.0.accepts)

      by_test : (b : Bool) → (row.number == number) ≡ b → value_of number (map row_entry rows) ≡ None
          → cond b (Some row.token) (value_of number (map row_entry rows)) ≡ None
      by_test true is rest = absurd (omega (arith, asked, unasked, ap (λ n. occurrences n (requests past)) (eqb-true row.number number is)))
      by_test false is rest = rest

  -- and no ticket
  no_ticket_yet : (tickets : List (Ticket T)) → AllByRecursion (TicketStands plan setting past) tickets → value_of number (map ticket_entry tickets) ≡ None
  no_ticket_yet [] each = refl
  no_ticket_yet (ticket ∷ tickets) each = by_test (ticket.call.number == number) refl (no_ticket_yet tickets each.1)
    where
      by_test : (b : Bool) → (ticket.call.number == number) ≡ b → value_of number (map ticket_entry tickets) ≡ None
          → cond b (Some ticket.token) (value_of number (map ticket_entry tickets)) ≡ None
      by_test true is rest =
          let clash : None ≡ Some ticket.call = sym (unasked_fate setting number past unasked)
          ∙ ap (λ n. fate setting n past) (sym (eqb-true ticket.call.number number is)) ∙ each.0.completes in
          absurd (cc clash)
      by_test false is rest = rest

  module _ (token : T) (rows : List (Row T)) (tickets : List (Ticket T)) (table : TableStands plan setting past rows tickets) where
    abbrev in_rows : ℕ → Option T
    in_rows n = value_of n (map row_entry rows)

    abbrev in_tickets : ℕ → Option T
    in_tickets n = value_of n (map ticket_entry tickets)

    none_before : (n : ℕ) → (number == n) ≡ true → in_rows n ≡ None
    none_before n is = subst (λ k. in_rows k ≡ None) (eqb-true number n is) (no_row_yet rows table.each_row)

    none_behind : (n : ℕ) → (number == n) ≡ true → in_tickets n ≡ None
    none_behind n is = subst (λ k. in_tickets k ≡ None) (eqb-true number n is) (no_ticket_yet tickets table.each_ticket)

    -- behind the rows
    row_put : (row : Row T) → row_entry row ≡ (number, token) → tokens_of (rows ++ row ∷ []) tickets ≡ finite.insert (tokens_of rows tickets) number token
    row_put row is = one_put (entries_of rows tickets) (entries_of (rows ++ row ∷ []) tickets) number token (λ n.
        value-append n (map row_entry (rows ++ row ∷ [])) (map ticket_entry tickets)
        ∙ ap (λ o. option_or o (in_tickets n))
        (ap (value_of n) (map-append row_entry rows (row ∷ []) ∙ ap (λ e. map row_entry rows ++ e ∷ []) is) ∙ value-append n (map row_entry rows) ((number, token) ∷ []))
        ∙ or_put token (number == n) (in_rows n) (in_tickets n) (none_before n)
        ∙ ap (cond (number == n) (Some token)) (sym (value-append n (map row_entry rows) (map ticket_entry tickets))))

    -- behind the tickets
    ticket_put : (ticket : Ticket T) → ticket_entry ticket ≡ (number, token)
        → tokens_of rows (tickets ++ ticket ∷ []) ≡ finite.insert (tokens_of rows tickets) number token
    ticket_put ticket is = one_put (entries_of rows tickets) (entries_of rows (tickets ++ ticket ∷ [])) number token (λ n.
        value-append n (map row_entry rows) (map ticket_entry (tickets ++ ticket ∷ []))
        ∙ ap (option_or (in_rows n))
        (ap (value_of n) (map-append ticket_entry tickets (ticket ∷ []) ∙ ap (λ e. map ticket_entry tickets ++ e ∷ []) is) ∙ value-append n (map ticket_entry tickets) ((number, token) ∷ []))
        ∙ or_last token (number == n) (in_rows n) (in_tickets n) (none_before n) (none_behind n)
        ∙ ap (cond (number == n) (Some token)) (sym (value-append n (map row_entry rows) (map ticket_entry tickets))))

    placed_by : (flags : Flags) (spec : Spec) (opening : Opening) (new_rows : List (Row T)) (new_tickets : List (Ticket T)) → Opens setting number spec opening
        → Places flags number (wanted_by spec) token rows new_rows tickets new_tickets opening → tokens_of new_rows new_tickets ≡ finite.insert (tokens_of rows tickets) number token
    placed_by flags spec (Asks first second) new_rows new_tickets opens places =
        ap₂ (λ rs ts. tokens_of rs ts) places.2 places.3 ∙ row_put places.0 (ap₂ (λ (n : ℕ) (t : T). (n, t)) places.1.numbered places.1.for')
    placed_by flags spec (Ends status) new_rows new_tickets opens places = ap₂ (λ rs ts. tokens_of rs ts) places.0 places.1 ∙ ticket_put _ refl
    placed_by flags spec (Answered answer) new_rows new_tickets opens places =
        ap₂ (λ rs ts. tokens_of rs ts) places.0 places.1 ∙ ticket_put _ (ap (λ (n : ℕ). (n, token)) (known_number setting number spec answer opens))

-- an accepted request's token is there, by the next number
pub tokens_placed : {T : Type 0} (plan : T → Script) (setting : Setting) (past : Past) → IsLawfulPast setting past → (number : ℕ)
    → number ≡ length (accepted past) + 1
    → (token : T) (rows new_rows : List (Row T)) (tickets new_tickets : List (Ticket T)) → TableStands plan setting past rows tickets
    → (flags : Flags) (spec : Spec) (opening : Opening) → Opens setting number spec opening → Places flags number (wanted_by spec) token rows new_rows tickets new_tickets opening
    → tokens_of new_rows new_tickets ≡ finite.insert (tokens_of rows tickets) number token
tokens_placed plan setting past lawful number next token rows new_rows tickets new_tickets table flags spec opening opens places =
    placed_by plan setting past number (subst (λ n. occurrences n (requests past) ≡ 0) (sym next) (next_unasked setting past lawful)) token rows tickets table flags spec opening new_rows new_tickets opens places
