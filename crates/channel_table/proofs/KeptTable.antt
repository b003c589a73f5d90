-- What a table has by what it keeps of its fields, where a call begins.
use Rattle.channel_table.proofs.Base.{◌≡◌, ◌∙◌, ℕ, ◌+◌, ◌<◌, ◌≤◌, ◌^◌, List, [], ◌∷◌, ◌++◌, Some, Ok, ap, length, refl, sym, list_any, sum_by, ◌≢◌, Entry, Fault, Script, Ticket, Failing, past_of, Fails, attempts, AreCounted, attempts_with, FailsOver, IsKept, setting_of, TableStands, over_in, Row, Inside, ◌==◌, faulted_servers}
use Rattle.std.specs.Prelude.{true}
use Rattle.channel_table.proofs.Attempts.{attempts_are, list_few, list_some}
use Rattle.channel_table.proofs.Faulting.{counted_faulted, counted_over, failed_count, table_failed}

-- an entry came behind those of before, where room was made for it
pub entry_added : {old room new : List Entry} (entry : Entry) → new ≡ room ++ entry ∷ [] → room ≡ old → new ≡ old ++ entry ∷ []
entry_added entry put made = put ∙ ap (λ (es : List Entry). es ++ entry ∷ []) made

module _ {T J : Type 0} (plan : T → Script) (told : J → List Entry) (room_of : J → ℕ) (t : Inside T J) (kept : IsKept plan told room_of t) where
  -- a table has one to eight servers
  pub servers_some : 1 ≤ length t.servers.list
  servers_some = list_some (setting_of t) (past_of (told t.journal)) kept.counted kept.limits kept.lawful.allowed

  pub servers_few : length t.servers.list ≤ 8
  servers_few = list_few (setting_of t) (past_of (told t.journal)) kept.counted kept.limits kept.lawful.allowed

  -- a Fault of this server's link, where a leg may spend so many attempts
  module _ (server link moment : ℕ) {most : ℕ} (value : most ≡ attempts_with t.options t.servers.list) (few : most ≤ 80) where
    -- a leg may spend so many
    may : attempts (setting_of t) (past_of (told t.journal)) ≡ most
    may = attempts_are (setting_of t) (past_of (told t.journal)) kept.counted kept.limits kept.lawful.allowed ∙ sym value

    -- rows and tickets stand behind it
    pub fault_stands : {rows : List (Row T)} {tickets : List (Ticket T)} → FailsOver t.options server link most t.rows t.ready.items rows tickets → TableStands plan (setting_of t) (Fault server link moment ∷ past_of (told t.journal)) rows tickets
    fault_stands fails = rw (fails.kept, fails.made) (table_failed plan (setting_of t) (past_of (told t.journal)) server link moment most may few t.rows t.ready.items kept.stands)

    -- so many attempts fail by it
    pub fault_told : (count : ℕ) → count ≡ sum_by (over_in server link) t.rows → Fails server link moment (Ok count) (setting_of t) (past_of (told t.journal)) (Some (Fault server link moment))
    fault_told count is = (refl, is ∙ sym (failed_count plan (setting_of t) (past_of (told t.journal)) server link moment most may few t.rows t.ready.items kept.stands))

    -- where some do, the server has a count of failures
    pub fault_there : sum_by (over_in server link) t.rows ≢ 0 → list_any (λ (item : Failing). item.server == server) t.servers.counts ≡ true
    fault_there some =
        counted_over plan (setting_of t) (past_of (told t.journal)) server link moment most may few t.rows t.ready.items kept.stands kept.counted kept.limits kept.lawful.allowed some

    -- and this is the count behind it
    pub fault_counted : (count : ℕ) → length (past_of (told t.journal)) + 1 < 2 ^ 64 → count ≡ sum_by (over_in server link) t.rows
        → AreCounted (setting_of t) (Fault server link moment ∷ past_of (told t.journal)) (faulted_servers server count t.servers)
    fault_counted count small is =
        counted_faulted plan (setting_of t) (past_of (told t.journal)) server link moment most may few t.rows t.ready.items count kept.stands kept.counted small is
