-- What the end of an attempt makes of a table, by a message or by its deadline.
use Rattle.channel_table.proofs.Base.{◌≡◌, ◌∙◌, ℕ, ◌+◌, ◌<◌, ◌≤◌, ◌^◌, Bool, true, false, List, [], ◌∷◌, Option, Some, Ok, refl, ap, sym, subst, arith, get_or, length, list_any, option_and_then, IfSome, IsFalse, Entry, Script, Ticket, TimedOut, Arrive, Expire, Failing, attempts, closes, flight, in_flight, in_flight-none, past_of, Leg, leg_of, Arrives, Judged, Failed, attempt_of, attempts_with, AreCounted, IsKept, setting_of, TableStands, lookup_at, leg_of_lookup, flying_of, concerned_at, Lookup, Row, Inside, judged_of, row_lands, due_of_lookup, tokens_of, Matched, ◌==◌, FindsAt, servers_behind, EndsAttempt, IsSoonest, Landing, Soonest}
use Rattle.channel_table.proofs.Arriving.{LandsAt, counted_landed, lands_at, matched_closes, stray_closes_none, table_landed, table_stray}
use Rattle.channel_table.proofs.Attempts.{attempts_are}
use Rattle.channel_table.proofs.Counting.{counted_kept}
use Rattle.channel_table.proofs.Expiring.{IsFound, found_says, table_expired}
use Rattle.channel_table.proofs.FailureCounts.{counted_expired, past_of-length}
use Rattle.channel_table.proofs.RowAt.{counted_at_lookup, flight_at, item_at}
use Rattle.channel_table.proofs.Telling.{first_due_rows}
use Rattle.channel_table.proofs.TokenLemmas.{apart, each_off, numbered_by, tokens_moved}
use Rattle.channel_model.specs.Lawful.{MayExpire}
use Rattle.channel_table.specs.Ends.{server_in, server_of}

module _ {T J : Type 0} {plan : T → Script} {told : J → List Entry} {room_of : J → ℕ} {t : Inside T J} (kept : IsKept plan told room_of t) where
  small : length (past_of (told t.journal)) + 1 < 2 ^ 64
  small = omega (arith, past_of-length (told t.journal), kept.fits)

  may : attempts (setting_of t) (past_of (told t.journal)) ≡ attempts_with t.options t.servers.list
  may = attempts_are (setting_of t) (past_of (told t.journal)) kept.counted kept.limits kept.lawful.allowed

  -- its requests keep their tokens
  pub tokens_behind_end : {second : Bool} {judged : Judged} {bytes : List ℕ} {index : ℕ} {new_rows : List (Row T)} {new_tickets : List (Ticket T)} → EndsAttempt t.options (attempts_with t.options t.servers.list) second judged bytes index t.rows t.ready.items new_rows new_tickets
      → tokens_of new_rows new_tickets ≡ tokens_of t.rows t.ready.items
  tokens_behind_end {second} {judged} {bytes} {index} {new_rows} {new_tickets} ends =
      tokens_moved t.options.flags (concerned_at second) judged bytes (attempts_with t.options t.servers.list) ends.answer index t.rows t.ready.items new_rows new_tickets ends.ends
      (numbered_by t.options (concerned_at second) judged bytes (attempts_with t.options t.servers.list) ends.ends.row ends.ends.row ends.answer refl ends.answers)
      (apart plan (setting_of t) (past_of (told t.journal)) kept.lawful.allowed t.rows t.ready.items kept.stands) (each_off plan (setting_of t) (past_of (told t.journal)) t.rows t.ready.items kept.stands.each_row kept.stands.each_ticket)

  -- a message that answers no attempt
  module _ (server link : ℕ) (bytes : List ℕ) (none : list_any (row_lands t.options.flags server link bytes) t.rows ≡ false) where
    pub stray_closes : IsFalse (list_any (λ a. closes (setting_of t) a (Arrive server link bytes) (past_of (told t.journal))) (in_flight (setting_of t) (past_of (told t.journal))))
    stray_closes = stray_closes_none plan (setting_of t) (past_of (told t.journal)) server link bytes t.rows t.ready.items none kept.stands

    pub stray_stands : TableStands plan (setting_of t) (Arrive server link bytes ∷ past_of (told t.journal)) t.rows t.ready.items
    stray_stands = table_stray plan (setting_of t) (past_of (told t.journal)) server link bytes t.rows t.ready.items none kept.stands

    pub stray_counted : AreCounted (setting_of t) (Arrive server link bytes ∷ past_of (told t.journal)) t.servers
    stray_counted =
        counted_kept (setting_of t) (Arrive server link bytes) (past_of (told t.journal)) kept.counted refl refl
        (λ a flies. in_flight-none (setting_of t) (λ b. closes (setting_of t) b (Arrive server link bytes) (past_of (told t.journal))) a.leg (past_of (told t.journal)) a flies stray_closes)

  -- a message that answers the attempt of a lookup
  module _ {server link : ℕ} {bytes : List ℕ} {landing : Landing} (found : FindsAt t.options.flags server link bytes t.rows landing) where
    of_landing : LandsAt plan (setting_of t) (past_of (told t.journal)) server link bytes t.rows landing
    of_landing = lands_at plan (setting_of t) (past_of (told t.journal)) server link bytes t.rows t.ready.items kept.stands landing found

    -- the server has a count
    pub landed_there : list_any (λ (item : Failing). item.server == server) t.servers.counts ≡ true
    landed_there =
        let s = of_landing in
        let there = counted_at_lookup plan (setting_of t) (past_of (told t.journal)) t.rows t.ready.items kept.stands landing.index s.row found.inside (sym (s.at_index s.row)) landing.is_second s.lookup s.at s.landed.flying s.landed.flies kept.counted kept.limits kept.lawful.allowed in
        subst (λ (n : ℕ). list_any (λ (item : Failing). item.server == n) t.servers.counts ≡ true) s.landed.same_server there

    pub landed_counted : AreCounted (setting_of t) (Arrive server link bytes ∷ past_of (told t.journal)) (servers_behind server landing.judged t.servers)
    landed_counted =
        let s = of_landing in
        counted_landed plan (setting_of t) (past_of (told t.journal)) server link bytes kept.lawful.allowed s.row landing.judged s.stands landing.is_second s.lookup s.at s.landed small kept.counted

    pub landed_stands : {new_rows : List (Row T)} {new_tickets : List (Ticket T)} → EndsAttempt t.options (attempts_with t.options t.servers.list) landing.is_second landing.judged bytes landing.index t.rows t.ready.items new_rows new_tickets
        → TableStands plan (setting_of t) (Arrive server link bytes ∷ past_of (told t.journal)) new_rows new_tickets
    landed_stands {new_rows} {new_tickets} ends =
        let s = of_landing in
        let same : ends.ends.row ≡ s.row = sym (ends.ends.is s.row) ∙ s.at_index s.row in
        let judged = ap (λ (r : Row T). judged_of t.options.flags server link bytes r.wanted s.lookup) same ∙ s.judged in
        table_landed plan (setting_of t) (past_of (told t.journal)) server link bytes landing.judged ends.answer (attempts_with t.options t.servers.list) landing.index landing.is_second t.rows new_rows t.ready.items new_tickets
        kept.lawful.allowed ends.ends s.lookup (ap (lookup_at landing.is_second) same ∙ s.at) judged may ends.few ends.answers kept.stands

    pub landed_means : Arrives server link bytes (Ok (Matched landing.number landing.leg_number)) (setting_of t) (past_of (told t.journal)) (Some (Arrive server link bytes))
    landed_means =
        let s = of_landing in
        (refl, matched_closes plan (setting_of t) (past_of (told t.journal)) server link bytes kept.lawful.allowed s.row landing.judged s.stands landing.is_second s.lookup s.at s.landed (leg_of landing.number landing.leg_number) s.own)

  -- the attempt that is due first, where it is due
  module _ {found : Soonest} (is : IsSoonest t.rows (Some found)) where
    pub row_due : (row : Row T) × ((d : Row T) → get_or t.rows found.index d ≡ row)
    row_due = item_at t.rows found.index is.0.inside

    pub lookup_due : IsFound row_due.0 found.is_second (leg_of found.number found.leg_number)
    lookup_due = found_says row_due.0 found (ap (λ (r : Row T). option_and_then due_of_lookup (lookup_at found.is_second r)) (sym (row_due.1 row_due.0)) ∙ is.0.is_due row_due.0)

    pub due_may : {at : ℕ} → found.at ≤ at → MayExpire (setting_of t) (past_of (told t.journal)) (leg_of found.number found.leg_number) at
    due_may due = record { due_at = found.at; first = first_due_rows plan (setting_of t) (past_of (told t.journal)) t.rows t.ready.items kept.stands ∙ is.1; due = due }

    -- its server, as it is read from its lookup
    pub due_server : {its : Row T} (one : Lookup) {server : ℕ} → its ≡ get_or t.rows found.index its → IfSome (lookup_at found.is_second its) (λ (l : Lookup). one ≡ l) → server ≡ server_of one.leg → server ≡ lookup_due.flying.server
    due_server {its} one {server} at_its seen read =
        let there = ap (lookup_at found.is_second) (at_its ∙ row_due.1 its) ∙ lookup_due.at in
        let same : one ≡ lookup_due.lookup = subst (λ (o : Option Lookup). IfSome o (λ (l : Lookup). one ≡ l)) there seen in
        read ∙ ap (λ (l : Lookup). server_in (flying_of l)) same ∙ ap server_in lookup_due.flies

    -- it has a count
    pub due_there : {server : ℕ} → server ≡ lookup_due.flying.server → list_any (λ (item : Failing). item.server == server) t.servers.counts ≡ true
    due_there {server} server_is =
        let there = counted_at_lookup plan (setting_of t) (past_of (told t.journal)) t.rows t.ready.items kept.stands found.index row_due.0 is.0.inside (sym (row_due.1 row_due.0)) found.is_second lookup_due.lookup lookup_due.at lookup_due.flying lookup_due.flies kept.counted kept.limits kept.lawful.allowed in
        subst (λ (n : ℕ). list_any (λ (item : Failing). item.server == n) t.servers.counts ≡ true) (sym server_is) there

    pub due_counted : (at : ℕ) {server : ℕ} → server ≡ lookup_due.flying.server → AreCounted (setting_of t) (Expire found.number found.leg_number at ∷ past_of (told t.journal)) (servers_behind server (Failed TimedOut) t.servers)
    due_counted at {server} server_is =
        let flies = flight_at plan (setting_of t) (past_of (told t.journal)) t.rows t.ready.items kept.stands found.index row_due.0 is.0.inside (sym (row_due.1 row_due.0)) found.is_second lookup_due.lookup lookup_due.at lookup_due.flying lookup_due.flies in
        rw server_is
        (counted_expired (setting_of t) (past_of (told t.journal)) found.number found.leg_number at (attempt_of (leg_of_lookup lookup_due.lookup) lookup_due.flying) small
        (ap (λ (l : Leg). flight (setting_of t) l (past_of (told t.journal))) lookup_due.own ∙ flies) (sym lookup_due.own) kept.counted)

    pub due_stands : (at : ℕ) {new_rows : List (Row T)} {new_tickets : List (Ticket T)} → EndsAttempt t.options (attempts_with t.options t.servers.list) found.is_second (Failed TimedOut) [] found.index t.rows t.ready.items new_rows new_tickets
        → TableStands plan (setting_of t) (Expire found.number found.leg_number at ∷ past_of (told t.journal)) new_rows new_tickets
    due_stands at {new_rows} {new_tickets} ends =
        let due = ap (λ (r : Row T). option_and_then due_of_lookup (lookup_at found.is_second r)) (sym (ends.ends.is ends.ends.row)) ∙ is.0.is_due ends.ends.row in
        table_expired plan (setting_of t) (past_of (told t.journal)) found at (attempts_with t.options t.servers.list) ends.answer t.rows new_rows t.ready.items new_tickets kept.lawful.allowed ends.ends due may ends.few ends.answers kept.stands
