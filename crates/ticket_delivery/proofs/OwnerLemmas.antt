-- A channel's one owner performs commands in their request's voice, and all that comes to the journal meanwhile is his.
use Rattle.std.proofs.Common.{◌≡◌, ◌∙◌, ◌≤◌, ℕ, ◌+◌, ◌==◌, Bool, true, false, List, [], ◌∷◌, cond, length, refl, ap, sym, subst, eq-eqb, eqb-true}
use Rattle.std.proofs.lemmas.List.{append_cancel_left}
use Rattle.std.specs.List.{AllByRecursion}
use Rattle.chan_types.specs.declared.command.Command.{Command}
use Rattle.chan_types.specs.declared.journal.Entry.{Entry}
use Rattle.channel_model.specs.Commands.{positions_from, positions_left}
use Rattle.channel_model.specs.Journal.{own_entries}
use Rattle.channel_model.specs.Known.{Calls}
use Rattle.channel_model.specs.Meanings.{Meaning}
use Rattle.channel_table.specs.Calling.{Owned, known_by_owner}
use Rattle.channel_table.specs.Commanded.{IsOfCommand}
use Rattle.ticket_delivery.specs.Performing.{IsBy, Performs}
use Rattle.ticket_delivery.specs.Weight.{commands_size, scripts_size}

-- a call in a request's voice is one on its command
pub spoken : (meaning : Meaning) (by : ℕ) (old voiced called new : Owned) → old.voice ≡ 0 → voiced ≡ record old { voice = by } → new ≡ record called { voice = 0 }
    → Calls meaning voiced.voice (known_by_owner voiced) (known_by_owner called) → Calls meaning by (known_by_owner old) (known_by_owner new)
spoken meaning by old voiced called new free voiced_is new_is call =
    subst (λ k. Calls meaning by (known_by_owner old) (known_by_owner k)) (sym new_is) (heard (subst (λ k. Calls meaning k.voice (known_by_owner k) (known_by_owner called)) voiced_is call))
  where
    heard : Calls meaning by (known_by_owner (record old { voice = by })) (known_by_owner called) → Calls meaning by (known_by_owner old) (known_by_owner (record called { voice = 0 }))
    heard c = record {
      here = c.here;
      added = c.added;
      meant = c.meant;
      desk = record { setting = c.desk.setting; home = refl; seat = refl; voice = sym free };
      stands = record { others = c.stands.others; parts = c.stands.parts; by_others = c.stands.by_others };
      seen = c.seen;
      own = c.own;
      names = c.names;
      lawful = c.lawful;
    }

-- the owner made the entry on the command of this request's callback
abbrev pub IsCommanded : ℕ → Entry → Type 0
IsCommanded by entry = (entry.seat ≡ 0) × (entry.by ≡ by) × IsOfCommand entry.what

-- so it is of the owner's own
of_owner : (by : ℕ) (es : List Entry) → AllByRecursion (IsBy by) (own_entries 0 es) → AllByRecursion (IsCommanded by) (own_entries 0 es)
of_owner by [] each = tt
of_owner by (e ∷ es) each = by_seat (e.seat == 0) refl (of_owner by es) each
  where
    by_seat : (b : Bool) → (e.seat == 0) ≡ b → (AllByRecursion (IsBy by) (own_entries 0 es) → AllByRecursion (IsCommanded by) (own_entries 0 es))
        → AllByRecursion (IsBy by) (cond b (e ∷ own_entries 0 es) (own_entries 0 es)) → AllByRecursion (IsCommanded by) (cond b (e ∷ own_entries 0 es) (own_entries 0 es))
    by_seat true is rest all = ((eqb-true e.seat 0 is, all.0.0, all.0.1), rest all.1)
    by_seat false is rest all = rest all

owners_positions : (by from : ℕ) (es : List Entry) → AllByRecursion (IsCommanded by) es → positions_from (λ (entry : Entry). entry.seat == 0) from es ≡ positions_from (λ (entry : Entry). true) from es
owners_positions by from [] each = refl
owners_positions by from (e ∷ es) each = rw (eq-eqb e.seat 0 each.0.0) (ap (λ l. from ∷ l) (owners_positions by (from + 1) es each.1))

module _ (commands : List Command) (by : ℕ) (old new : Owned) (count : ℕ) (done : Performs commands by (known_by_owner old) (known_by_owner new) count) where
  -- what came to the journal is the owner's
  pub own_since : own_entries 0 done.since ≡ done.since
  own_since = append_cancel_left old.seen (own_entries 0 done.since) done.since (sym done.own ∙ done.seen)

  -- on the request's command
  pub all_commanded : AllByRecursion (IsCommanded by) done.since
  all_commanded = subst (AllByRecursion (IsCommanded by)) own_since (of_owner by done.since done.commanded)

  -- and it is what the commands left
  pub all_entries : positions_from (λ (entry : Entry). true) (length old.seen) done.since ≡ positions_left done.outcomes
  all_entries = sym (owners_positions by (length old.seen) done.since all_commanded) ∙ done.entries_are

  -- with no more script than they hand on
  pub all_handed_on : scripts_size done.since ≤ commands_size commands
  all_handed_on = subst (λ es. scripts_size es ≤ commands_size commands) own_since done.handed_on
