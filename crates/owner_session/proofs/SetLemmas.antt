-- Servers that the owner sets, by what the channel answered.
use Rattle.channel_model.specs.Names.{Names, NamesBecome}
use Rattle.event_runner.proofs.PauseLemmas.{names_same}
use Rattle.std.proofs.Common.{◌≡◌, ◌∙◌, ℕ, List, [], ◌∷◌, ◌++◌, Option, None, Some, inl, inr, ap, sym, subst}
use Rattle.std.specs.Prelude.{Err, Ok, Result}
use Rattle.std.proofs.lemmas.List.{append-nil}
use Rattle.item_list.specs.declared.no_memory.NoMemory.{NoMemory}
use Rattle.net_addr.specs.declared.addr.ServerAddr.{ServerAddr}
use Rattle.chan_types.specs.declared.journal.What.TheVariants.{Servers}
use Rattle.chan_types.specs.declared.server_key.ServerKey.{ServerKey}
use Rattle.channel_model.specs.Journal.{past_of}
use Rattle.channel_model.specs.Known.{Calls}
use Rattle.channel_model.specs.Meanings.{SetsServers}
use Rattle.channel_model.specs.Seen.{entries_of}
use Rattle.channel_model.specs.Servers.{keys_for}
use Rattle.channel_model.specs.declared.answers.SetFault.{SetFault}
use Rattle.channel_model.specs.declared.answers.SetFault.TheVariants.{Closed}
use Rattle.channel_table.specs.Calling.{Owned, known_by_owner}
use Rattle.owner_session.specs.Session.{SetsLater, SetsThese, servers_entry}
use Rattle.owner_laws.proofs.Owner.{owned_same, owner_called}

-- servers that are set leave the tokens as they are
names_set : (list : List ServerKey) (old new : Option Names) → NamesBecome (Some (Servers list)) old new → new ≡ old
names_set list None new become = become
names_set list (Some names) new become = become.1 ∙ ap (λ (m : Names). Some m) become.2

module _ (asked addresses : List ServerAddr) (same : asked ≡ addresses) (a b : Owned) where
  -- they were set
  pub set_ok : (count : ℕ) → Calls (SetsServers asked (Ok count)) 0 (known_by_owner a) (known_by_owner b) → SetsThese addresses a b
  set_ok count call =
      let h = owner_called (SetsServers asked (Ok count)) 0 a b call in
      subst (λ list. SetsThese list a b) same (inl (
        h.meant.1.open',
        owned_same (record a { seen = a.seen ++ servers_entry a.setting asked (past_of a.seen) ∷ [] }) b call.desk.setting call.desk.voice (h.journal ∙ ap (λ o. a.seen ++ entries_of 0 0 o) h.meant.0)
            (names_set (keys_for a.setting asked (past_of a.seen)) (Some a.names) (Some b.names) (subst (λ o. NamesBecome o (Some a.names) (Some b.names)) h.meant.0 call.names)),
        call.lawful,
      ))

  -- the channel stayed as it was
  pub set_none : (fault : SetFault) → Calls (SetsServers asked (Err fault)) 0 (known_by_owner a) (known_by_owner b) → b ≡ a
  set_none fault call =
      let h = owner_called (SetsServers asked (Err fault)) 0 a b call in
      owned_same a b call.desk.setting call.desk.voice (h.journal ∙ ap (λ o. a.seen ++ entries_of 0 0 o) h.meant.0 ∙ append-nil a.seen)
      (names_same (Some a.names) (Some b.names) (subst (λ o. NamesBecome o (Some a.names) (Some b.names)) h.meant.0 call.names))

  -- since it was destroyed
  pub set_closed : (fault : SetFault) → fault ≡ Closed → Calls (SetsServers asked (Err fault)) 0 (known_by_owner a) (known_by_owner b) → SetsThese addresses a b
  set_closed fault is call =
      let h = owner_called (SetsServers asked (Err fault)) 0 a b call in
      inr (h.meant.1.0 is, set_none fault call)

-- servers that are left to be set, where there are some
pub sets_later : (later : Option (List ServerAddr)) (addresses : List ServerAddr) (result : Result (Unit {0}) NoMemory) (a b : Owned) → later ≡ Some addresses → SetsLater (Some addresses) result a b → SetsLater later result a b
sets_later later addresses result a b is sets = subst (λ ls. SetsLater ls result a b) (sym is) sets
