-- A message answers no row but the one whose attempt has its identifier.
use Rattle.channel_table.proofs.Base.{◌≡◌, ◌∙◌, ℕ, zero, suc, ◌+◌, ◌*◌, ◌<◌, Bool, true, false, List, [], ◌∷◌, ◌++◌, Option, Some, None, Result, Ok, Err, refl, ap, ap₂, sym, subst, map, get_or, length, append_assoc, arith, eq-eqb, eqb-true, and_parts, false≢true, nat_cmp_total, then_some, AllByRecursion, list_any, option_and_then, IfOk, if◌then◌else◌, is_some, not, option_map, ◌||◌, ◌≢◌, Script, Ticket, each-then, answer_to, answers, asked_with, Past, Reply, Setting, verdict_of, Judged, Question, NoMemory, Flying, Flags, Key, RowFinds, kind_wanted, lands_on, reply_for, row_lands, AreFlown, entry_by_id, key_of_lookup, IsRising, RowStands, LookupStands, TableStands, all_lookups, number_of, lookups, flew_over, flying_of, flying_id, has_id, IsNumbered, IsOnlyWith, id_of, Wanted, Row, Lookup, Flown, Landing}
use Rattle.std.proofs.Common.{◌==◌}
use Rattle.std.specs.FinMap as finite
use Rattle.channel_model.specs.Replies.{reply_of, reply_with}
use Rattle.dns_message.proofs.Theorems.{message_is_spelled}
use Rattle.dns_message.specs.Grammar.{Spells}
use Rattle.dns_message.specs.Reading.{message_read}
use Rattle.dns_message.specs.declared.fault.MessageFault.{MessageFault}
use Rattle.dns_message.specs.declared.message.Message.{Message}
use Rattle.edns_opt.specs.Reading.{opt_of}
use Rattle.edns_opt.specs.declared.fault.EdnsFault.{EdnsFault}
use Rattle.edns_opt.specs.declared.opt.Opt.{Opt}
use Rattle.channel_table.proofs.EntryLemmas.{entry_there}
use Rattle.channel_table.proofs.FlownRows.{ids_alike}
use Rattle.channel_table.proofs.IndexLemmas.{each_before, each_behind}
use Rattle.channel_table.proofs.LandingRow.{found_row}
use Rattle.channel_table.proofs.ListedLemmas.{above}
use Rattle.channel_table.specs.Arriving.{Finds}
use Rattle.channel_table.specs.Listed.{FindsNumber}
use Rattle.channel_table.specs.Strays.{Differs, flying_with, row_shares_id, shares_id}

or_false : (b c : Bool) → (b || c) ≡ false → (b ≡ false) × (c ≡ false)
or_false true c e = absurd (false≢true (sym e))
or_false false c e = (refl, e)

-- where no item passes one test, none passes another that each item fails which fails the first
any_less : {X : Type 0} (f g : X → Bool) → ((x : X) → g x ≡ false → f x ≡ false) → (xs : List X) → list_any g xs ≡ false → list_any f xs ≡ false
any_less f g less [] none = refl
any_less f g less (x ∷ xs) none = let both = or_false (g x) (list_any g xs) none in ap₂ (λ b c. b || c) (less x both.0) (any_less f g less xs both.1)

-- ---- a message that answers has the attempt's identifier

id_shown : (id : ℕ) (exact : Bool) (asked : Option Question) (bytes : List ℕ) (m : Message) → Spells bytes m → answers id exact asked m ≡ true → id_of bytes ≡ Some id
id_shown id exact asked [] m spells h = absurd (omega (arith, spells.header))
id_shown id exact asked (high ∷ []) m spells h = absurd (omega (arith, spells.header))
id_shown id exact asked (high ∷ low ∷ rest) m spells h =
    let last = and_parts _ _ h in
    let third = and_parts _ _ last.0 in
    let second = and_parts _ _ third.0 in
    let own : m.id ≡ id = eqb-true m.id id second.0 in
    let spelled : m.id ≡ high * 256 + (low * 1 + 0) = spells.id in
    let told : high * 256 + low ≡ m.id = omega (arith, spelled) in
    ap Some (told ∙ own)

answer_shows : (id : ℕ) (exact : Bool) (asked : Option Question) (bytes : List ℕ) → is_some (answer_to id exact asked bytes) ≡ true → id_of bytes ≡ Some id
answer_shows id exact asked bytes h = by_read (message_read bytes) refl h
  where
    by_test : (b : Bool) (reply : Reply) → is_some (then_some b reply) ≡ true → b ≡ true
    by_test true reply e = refl
    by_test false reply e = e

    by_opt : (m : Message) (opt : Result (Option Opt) EdnsFault) → Spells bytes m → is_some (option_and_then (λ reply. then_some (answers id exact asked reply.message) reply) (reply_with m opt)) ≡ true → id_of bytes ≡ Some id
    by_opt m (Ok opt) spells e = id_shown id exact asked bytes m spells (by_test (answers id exact asked m) (record { message = m; opt = opt }) e)
    by_opt m (Err fault) spells e = absurd (false≢true e)

    by_read : (read : Result Message MessageFault) → message_read bytes ≡ read → is_some (option_and_then (λ reply. then_some (answers id exact asked reply.message) reply) (reply_of read)) ≡ true → id_of bytes ≡ Some id
    by_read (Ok m) is e = by_opt m (opt_of m) (message_is_spelled bytes m is) e
    by_read (Err fault) is e = absurd (false≢true e)

module _ (flags : Flags) (server link : ℕ) (bytes : List ℕ) where
  -- a lookup that it answers has the identifier
  lands_shares : (wanted : Wanted) (lookup : Lookup) → lands_on flags server link bytes wanted lookup ≡ true → shares_id (id_of bytes) lookup ≡ true
  lands_shares wanted lookup h = by_test (flew_over server link lookup) h
    where
      verdict : Reply → Judged
      verdict = verdict_of flags (not (link == 0)) lookup.leg.has_opt (kind_wanted wanted lookup)

      mapped : (o : Option Reply) → is_some (option_map verdict o) ≡ true → is_some o ≡ true
      mapped None e = e
      mapped (Some reply) e = refl

      by_flying : (o : Option Flying) → is_some (option_map verdict (reply_for bytes lookup.question o)) ≡ true → flying_with (id_of bytes) o ≡ true
      by_flying None e = absurd (false≢true e)
      by_flying (Some flying) e =
          ap (λ (i : Option ℕ). flying_with i (Some flying)) (answer_shows flying.id (is_some flying.mix) (Some (asked_with flying.mix lookup.question)) bytes (mapped (reply_for bytes lookup.question (Some flying)) e))
          ∙ eq-eqb flying.id flying.id refl

      by_test : (b : Bool) → is_some (if b then option_map verdict (reply_for bytes lookup.question (flying_of lookup)) else None) ≡ true → shares_id (id_of bytes) lookup ≡ true
      by_test true e = by_flying (flying_of lookup) e
      by_test false e = absurd (false≢true e)

  lookup_less : (wanted : Wanted) (lookup : Lookup) → shares_id (id_of bytes) lookup ≡ false → lands_on flags server link bytes wanted lookup ≡ false
  lookup_less wanted lookup none = by_test (lands_on flags server link bytes wanted lookup) refl
    where
      by_test : (b : Bool) → lands_on flags server link bytes wanted lookup ≡ b → lands_on flags server link bytes wanted lookup ≡ false
      by_test true is = absurd (false≢true (sym none ∙ lands_shares wanted lookup is))
      by_test false is = is

  module _ {T : Type 0} where
    -- it answers no row that hasn't the identifier
    row_less : (row : Row T) → row_shares_id (id_of bytes) row ≡ false → row_lands flags server link bytes row ≡ false
    row_less row none = any_less (lands_on flags server link bytes row.wanted) (shares_id (id_of bytes)) (lookup_less row.wanted) (lookups row) none

    above_none : (n : ℕ) (rows : List (Row T)) → AllByRecursion (λ (m : ℕ). n < m) (map number_of rows) → AllByRecursion (Differs (id_of bytes) n) rows → list_any (row_lands flags server link bytes) rows ≡ false
    above_none n [] over differ = refl
    above_none n (row ∷ rows) over differ = ap₂ (λ b c. b || c) (row_less row (differ.0 (λ same. omega (arith, same, over.0)))) (above_none n rows over.1 differ.1)

    -- it answers none where it doesn't answer the only one that may have it
    only_none : (rows : List (Row T)) (i : ℕ) (row : Row T) → IsRising (map number_of rows) → i < length rows → row ≡ get_or rows i row → row_lands flags server link bytes row ≡ false → AllByRecursion (Differs (id_of bytes) row.number) rows
        → list_any (row_lands flags server link bytes) rows ≡ false
    only_none [] i row up inside is none differ = refl
    only_none (r ∷ rows) zero row up inside is none differ =
        ap₂ (λ b c. b || c) (subst (λ (x : Row T). row_lands flags server link bytes x ≡ false) is none) (above_none r.number rows up.0 (subst (λ (x : Row T). AllByRecursion (Differs (id_of bytes) x.number) rows) is differ.1))
    only_none (r ∷ rows) (suc i) row up inside is none differ =
        let over = above r.number rows i row up.0 (omega (arith, inside)) in
        let here = ap number_of is in
        ap₂ (λ b c. b || c) (row_less r (differ.0 (λ same. omega (arith, same, over, here)))) (only_none rows i row up.1 (omega (arith, inside)) is none differ.1)

    only_found : (rows : List (Row T)) (index : ℕ) (row : Row T) (o : Option Landing) → IsRising (map number_of rows) → IsOnlyWith (id_of bytes) rows (Some index) → row ≡ get_or rows index row → RowFinds flags server link bytes index row o → Finds flags server link bytes rows o
    only_found rows index row None up only is found = only_none rows index row up only.0 is found (subst (λ (r : Row T). AllByRecursion (Differs (id_of bytes) r.number) rows) (sym is) (only.1 row))
    only_found rows index row (Some landing) up only is found = found_row flags server link bytes rows index row (Some landing) only.0 is found

    -- what was found of the only row that may have it was found among the rows
    pub only_result : (rows : List (Row T)) (index : ℕ) (row : Row T) (result : Result (Option Landing) NoMemory) → IsRising (map number_of rows) → IsOnlyWith (id_of bytes) rows (Some index) → row ≡ get_or rows index row → IfOk result (RowFinds flags server link bytes index row)
        → IfOk result (Finds flags server link bytes rows)
    only_result rows index row (Ok o) up only is found = only_found rows index row o up only is found
    only_result rows index row (Err fault) up only is found = tt

    -- and where none has it none was found
    pub none_found : (rows : List (Row T)) → IsOnlyWith (id_of bytes) rows None → Finds flags server link bytes rows None
    none_found rows none = any_less (row_lands flags server link bytes) (row_shares_id (id_of bytes)) row_less rows none

-- ---- the row that is found by the identifier

-- where there is no identifier no row has it
pub none_without : {T : Type 0} (rows : List (Row T)) → IsOnlyWith None rows None
none_without rows = no_row rows
  where
    no_lookup : (ss : List Lookup) → list_any (shares_id None) ss ≡ false
    no_lookup [] = refl
    no_lookup (lookup ∷ ss) = no_lookup ss

    no_row : {T : Type 0} (rs : List (Row T)) → list_any (row_shares_id None) rs ≡ false
    no_row [] = refl
    no_row (row ∷ rs) = ap₂ (λ b c. b || c) (no_lookup (lookups row)) (no_row rs)

module _ {T : Type 0} (flown : Flown) (rows : List (Row T)) (are : AreFlown flown (all_lookups rows)) (id : ℕ) where
  -- where it isn't found no row has it
  pub none_flown_with : finite.get flown.flights id ≡ None → IsOnlyWith (Some id) rows None
  none_flown_with none = sym (ids_alike flown rows are id) ∙ ap is_some none

  module _ (key : Key) (there : finite.get flown.flights id ≡ Some key) where
    -- a lookup that has it is of the leg that is found
    abbrev IsOwn : Lookup → Type 0
    IsOwn lookup = has_id id lookup ≡ true → key_of_lookup lookup ≡ key

    each_own : (xs ss : List Lookup) → AreFlown flown (xs ++ ss) → AllByRecursion IsOwn ss
    each_own xs [] all = tt
    each_own xs (lookup ∷ ss) all = (by_flying (flying_of lookup) refl, each_own (xs ++ lookup ∷ []) ss (subst (AreFlown flown) (sym (append_assoc xs (lookup ∷ []) ss)) all))
      where
        some_same : (one two : Key) → ◌≡◌ {A = Option Key} (Some one) (Some two) → one ≡ two
        some_same one two e = cc

        by_flying : (o : Option Flying) → flying_of lookup ≡ o → flying_id id o ≡ true → key_of_lookup lookup ≡ key
        by_flying None is e = absurd (false≢true e)
        by_flying (Some flying) is e =
            let found = entry_there nat_cmp_total entry_by_id flown.flights xs ss lookup flying.id (key_of_lookup lookup) (ap (λ (o : Option Flying). option_map (λ (f : Flying). (f.id, key_of_lookup lookup)) o) is) all.by_id in
            some_same (key_of_lookup lookup) key (sym found ∙ ap (finite.get flown.flights) (eqb-true flying.id id e) ∙ there)

    row_differs : (row : Row T) → AllByRecursion IsOwn (lookups row) → IsNumbered row → Differs (Some id) key.number row
    row_differs row own numbered other = by_lookups (lookups row) own numbered
      where
        by_lookups : (ss : List Lookup) → AllByRecursion IsOwn ss → AllByRecursion (λ (lookup : Lookup). lookup.number ≡ row.number) ss → list_any (has_id id) ss ≡ false
        by_lookups [] own numbered = refl
        by_lookups (lookup ∷ ss) own numbered = by_test (has_id id lookup) refl (by_lookups ss own.1 numbered.1)
          where
            by_test : (b : Bool) → has_id id lookup ≡ b → list_any (has_id id) ss ≡ false → (b || list_any (has_id id) ss) ≡ false
            by_test true is rest = absurd (other (sym numbered.0 ∙ ap (λ (k : Key). k.number) (own.0 is)))
            by_test false is rest = rest

    rows_differ : (rs : List (Row T)) → AllByRecursion IsOwn (all_lookups rs) → AllByRecursion IsNumbered rs → AllByRecursion (Differs (Some id) key.number) rs
    rows_differ [] own numbered = tt
    rows_differ (row ∷ rs) own numbered = (row_differs row (each_before IsOwn (lookups row) (all_lookups rs) own) numbered.0, rows_differ rs (each_behind IsOwn (lookups row) (all_lookups rs) own) numbered.1)

    -- the row of its number is the only one
    pub only_with : AllByRecursion IsNumbered rows → (o : Option ℕ) → FindsNumber key.number rows o → IsOnlyWith (Some id) rows o
    only_with numbered None none = by_rows rows (rows_differ rows (each_own [] (all_lookups rows) are) numbered) none
      where
        by_rows : (rs : List (Row T)) → AllByRecursion (Differs (Some id) key.number) rs → AllByRecursion (λ (row : Row T). row.number ≢ key.number) rs → list_any (row_shares_id (Some id)) rs ≡ false
        by_rows [] differ other = refl
        by_rows (row ∷ rs) differ other = ap₂ (λ b c. b || c) (differ.0 other.0) (by_rows rs differ.1 other.1)
    only_with numbered (Some index) found =
        (found.0, λ d. subst (λ (n : ℕ). AllByRecursion (Differs (Some id) n) rows) (sym (found.1 d)) (rows_differ rows (each_own [] (all_lookups rows) are) numbered))

-- the lookups of the rows of a table have their numbers
pub rows_numbered : {T : Type 0} (plan : T → Script) (setting : Setting) (past : Past) (rows : List (Row T)) (tickets : List (Ticket T)) → TableStands plan setting past rows tickets → AllByRecursion IsNumbered rows
rows_numbered plan setting past rows tickets table =
    each-then (RowStands plan setting past) IsNumbered rows (λ row stands. each-then (LookupStands setting past row.number stands.spec stands.name stands.rest) (λ (lookup : Lookup). lookup.number ≡ row.number) (lookups row) (λ lookup s. s.numbered) stands.each_lookup) table.each_row
