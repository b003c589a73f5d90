-- The three ways in which the end of its attempt changes a row among others.
use Rattle.channel_table.proofs.Base.{◌≡◌, ◌∙◌, ℕ, ◌+◌, ◌<◌, suc, true, false, List, [], ◌∷◌, ◌++◌, Option, Some, None, refl, ap, sym, subst, take, drop, get_or, length, arith, drop_more, get_or_read, set_split, if◌then◌else◌, Answer, Ticket, Judged, fresh_leg, Flags, has_next, last_status, next_row, lookups_behind, Becomes, EndsRow, Ends, Stays, Row, Concerned}
use Rattle.std.proofs.Common.{set}
use Rattle.std.proofs.lemmas.List.{take-append-drop}

-- a list by its item at an index
pub split_at : {X : Type 0} (xs : List X) (i : ℕ) (x : X) → i < length xs → x ≡ get_or xs i x → xs ≡ take i xs ++ x ∷ drop (i + 1) xs
split_at xs i x inside is = sym (take-append-drop i xs) ∙ ap (λ r. take i xs ++ r) (drop_more xs i x inside ∙ ap (λ y. y ∷ drop (i + 1) xs) (sym is))

pub one_more : (i : ℕ) → suc i ≡ i + 1
one_more i = omega arith

module _ {T : Type 0} (flags : Flags) (concerned : Concerned) (judged : Judged) (reply : List ℕ) (most index : ℕ) (rows : List (Row T)) (tickets : List (Ticket T)) (row : Row T) (inside : index < length rows) (is : row ≡ get_or rows index row) where
  changed : (new : Row T) → set rows index new ≡ take index rows ++ new ∷ drop (index + 1) rows
  changed new = set_split rows index new inside ∙ ap (λ k. take index rows ++ new ∷ drop k rows) (one_more index)

  -- the row goes on
  pub goes_on_so : (new : Row T) → new ≡ lookups_behind concerned judged reply most row → EndsRow flags concerned judged reply most None index rows tickets (set rows index new) tickets
  goes_on_so new same = record {
    row = row;
    is = λ d. sym (get_or_read rows index row inside is d);
    parts = split_at rows index row inside is;
    becomes = (changed new ∙ ap (λ r. take index rows ++ r ∷ drop (index + 1) rows) same, refl);
  }

  -- the row asks its next candidate
  pub asks_so : (answer : Answer) (new : Row T) → has_next answer.status row ≡ true → new ≡ next_row (fresh_leg flags) answer.status row → EndsRow flags concerned judged reply most (Some answer) index rows tickets (set rows index new) tickets
  asks_so answer new next same = record {
    row = row;
    is = λ d. sym (get_or_read rows index row inside is d);
    parts = split_at rows index row inside is;
    becomes = subst (λ b. Becomes (take index rows) (drop (index + 1) rows) tickets (set rows index new) tickets (if b then Stays (next_row (fresh_leg flags) answer.status row) else Ends (record { token = row.token; call = record answer { status = last_status row.empty answer.status } }))) (sym next)
        (changed new ∙ ap (λ r. take index rows ++ r ∷ drop (index + 1) rows) same, refl);
  }

  -- the row ends in a ticket
  pub ends_so : (answer : Answer) (ticket : Ticket T) (new_rows : List (Row T)) → has_next answer.status row ≡ false → ticket ≡ record { token = row.token; call = record answer { status = last_status row.empty answer.status } } → new_rows ≡ take index rows ++ drop (suc index) rows
      → EndsRow flags concerned judged reply most (Some answer) index rows tickets new_rows (tickets ++ ticket ∷ [])
  ends_so answer ticket new_rows last same left = record {
    row = row;
    is = λ d. sym (get_or_read rows index row inside is d);
    parts = split_at rows index row inside is;
    becomes = subst (λ b. Becomes (take index rows) (drop (index + 1) rows) tickets new_rows (tickets ++ ticket ∷ []) (if b then Stays (next_row (fresh_leg flags) answer.status row) else Ends (record { token = row.token; call = record answer { status = last_status row.empty answer.status } }))) (sym last)
        (left ∙ ap (λ k. take index rows ++ drop k rows) (one_more index), ap (λ t. tickets ++ t ∷ []) same);
  }

-- where the current candidate has an answer, the reply that the attempt came with isn't looked at
pub ends_keeping : {T : Type 0} (flags : Flags) (concerned : Concerned) (judged : Judged) (reply other : List ℕ) (most : ℕ) (answer : Option Answer) (index : ℕ) (rows : List (Row T)) (tickets : List (Ticket T)) (new_rows : List (Row T)) (new_tickets : List (Ticket T))
    → (answer ≡ None → reply ≡ other) → EndsRow flags concerned judged reply most answer index rows tickets new_rows new_tickets → EndsRow flags concerned judged other most answer index rows tickets new_rows new_tickets
ends_keeping flags concerned judged reply other most None index rows tickets new_rows new_tickets same ends = subst (λ (r : List ℕ). EndsRow flags concerned judged r most None index rows tickets new_rows new_tickets) (same refl) ends
ends_keeping flags concerned judged reply other most (Some answer) index rows tickets new_rows new_tickets same ends = record { row = ends.row; is = ends.is; parts = ends.parts; becomes = ends.becomes }
