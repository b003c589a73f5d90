-- From a call of a table to one of its owner's desk: what it makes of the tokens it makes of their names.
use Rattle.channel_table.proofs.Base.{◌≡◌, ◌∙◌, ℕ, Bool, true, false, cond, List, [], ◌∷◌, Option, Some, None, Ok, Err, Result, refl, ap, sym, subst, map, arith, nat_tests, append-nil, eq_by_cmp, nat_cmp, option_map, ⊤, NoMemory, ServerAddr, What, Accept, Arrive, Cancel, Destroy, Expire, Fault, Servers, Start, Take, Script, Spec, Ticket, Past, Accepts, Arrives, Cancels, Destroys, Expires, Fails, Meaning, SetsServers, Starts, Takes, TellsBusy, TellsCounts, TellsDue, Happens, Setting, Begun, Idle, NoId, Landed, Matched, Stray, Lapse, Expired, NotDue, SetFault, owned}
use Rattle.std.proofs.Common.{◌==◌}
use Rattle.channel_model.specs.declared.answers.Begun.TheVariants.{Started}
use Rattle.std.specs.Cmp.{nat_cmp_total}
use Rattle.std.specs.FinMap as finite
use Rattle.channel_model.specs.Known.{Calls}
use Rattle.channel_model.specs.Names.{BecomeBy, GivesName, KeepsName, Names}
use Rattle.channel_model.specs.declared.answers.Counts.{Counts}
use Rattle.channel_model.specs.declared.answers.Refused.{Refused}
use Rattle.channel_table.specs.Calling.{Owned, known_alone, names_of}
use Rattle.channel_table.specs.Tokens.{GivesToken, KeepsToken, Shown, Tokens, seen}

-- ---- the names of tokens

module _ {T : Type 0} (name : T → ℕ) where
  found_name : (number : ℕ) (es : List (ℕ × T)) → finite.find nat_cmp number (map (λ (entry : ℕ × T). (entry.0, name entry.1)) es) ≡ option_map name (finite.find nat_cmp number es)
  found_name number [] = refl
  found_name number (e ∷ es) = ap (λ o. cond (eq_by_cmp nat_cmp number e.0) (Some (name e.1)) o) (found_name number es) ∙ by_test (eq_by_cmp nat_cmp number e.0) e.1 (finite.find nat_cmp number es)
    where
      by_test : (b : Bool) (v : T) (o : Option T) → cond b (Some (name v)) (option_map name o) ≡ option_map name (cond b (Some v) o)
      by_test true v o = refl
      by_test false v o = refl

  -- the name at a number is that of the token there
  get_name : (tokens : Tokens T) (number : ℕ) → finite.get (names_of name tokens) number ≡ option_map name (finite.get tokens number)
  get_name tokens number =
      finite.get-from_entries nat_cmp_total (map (λ (entry : ℕ × T). (entry.0, name entry.1)) (finite.entries tokens)) number
      ∙ found_name number (finite.entries tokens) ∙ ap (option_map name) (sym (finite.get-entries tokens number))

  same_names : (a b : Names) → ((number : ℕ) → finite.get a number ≡ finite.get b number) → a ≡ b
  same_names a b same = finite.same_map nat_cmp_total finite.nat_cmp-IsAntisymmetric a b same

  -- no token has no name
  pub names_empty : names_of name finite.empty ≡ finite.empty
  names_empty = same_names _ _ (λ number. get_name finite.empty number ∙ ap (option_map name) (finite.get-empty nat_cmp number) ∙ sym (finite.get-empty nat_cmp number))

  -- so a channel without a request knows none
  pub owned_empty : (setting : Setting) → owned name 0 (record { setting = setting; journal = []; tokens = finite.empty }) ≡ record { setting = setting; voice = 0; seen = []; names = finite.empty }
  owned_empty setting = ap with_names names_empty
    where
      with_names : Names → Owned
      with_names names = record { setting = setting; voice = 0; seen = []; names = names }

  names_insert : (tokens : Tokens T) (key : ℕ) (token : T) → names_of name (finite.insert tokens key token) ≡ finite.insert (names_of name tokens) key (name token)
  names_insert tokens key token = same_names _ _ (λ number.
      get_name (finite.insert tokens key token) number ∙ ap (option_map name) (finite.get-insert nat_cmp_total tokens key token number)
      ∙ by_test number (eq_by_cmp nat_cmp number key) ∙ sym (finite.get-insert nat_cmp_total (names_of name tokens) key (name token) number))
    where
      by_test : (number : ℕ) (b : Bool) → option_map name (cond b (Some token) (finite.get tokens number)) ≡ cond b (Some (name token)) (finite.get (names_of name tokens) number)
      by_test number true = refl
      by_test number false = sym (get_name tokens number)

  names_remove : (tokens : Tokens T) (key : ℕ) → names_of name (finite.remove tokens key) ≡ finite.remove (names_of name tokens) key
  names_remove tokens key = same_names _ _ (λ number.
      get_name (finite.remove tokens key) number ∙ ap (option_map name) (finite.get-remove nat_cmp_total tokens key number)
      ∙ by_test number (eq_by_cmp nat_cmp number key) ∙ sym (finite.get-remove nat_cmp_total (names_of name tokens) key number))
    where
      by_test : (number : ℕ) (b : Bool) → option_map name (cond b None (finite.get tokens number)) ≡ cond b None (finite.get (names_of name tokens) number)
      by_test number true = refl
      by_test number false = sym (get_name tokens number)

-- ---- entries that leave all tokens

-- the entry, if there is one, neither accepts nor takes a request
abbrev LeavesAll : Option What → Type 0
LeavesAll None = ⊤
LeavesAll (Some (Accept number spec script)) = ⊥
LeavesAll (Some Cancel) = ⊤
LeavesAll (Some Destroy) = ⊤
LeavesAll (Some (Take number)) = ⊥
LeavesAll (Some (Start number leg server link id mix moment)) = ⊤
LeavesAll (Some (Arrive server link bytes)) = ⊤
LeavesAll (Some (Expire number leg moment)) = ⊤
LeavesAll (Some (Fault server link moment)) = ⊤
LeavesAll (Some (Servers list)) = ⊤

become_same : (added : Option What) (old new : Names) → LeavesAll added → new ≡ old → BecomeBy added old new
become_same None old new leaves same = same
become_same (Some (Accept number spec script)) old new leaves same = absurd leaves
become_same (Some Cancel) old new leaves same = same
become_same (Some Destroy) old new leaves same = same
become_same (Some (Take number)) old new leaves same = absurd leaves
become_same (Some (Start number leg server link id mix moment)) old new leaves same = same
become_same (Some (Arrive server link bytes)) old new leaves same = same
become_same (Some (Expire number leg moment)) old new leaves same = same
become_same (Some (Fault server link moment)) old new leaves same = same
become_same (Some (Servers list)) old new leaves same = same

-- the calls with this meaning add nothing else
abbrev AddsPlain : Meaning → Type 0
AddsPlain meaning = (setting : Setting) (past : Past) (added : Option What) → meaning setting past added → LeavesAll added

plain_if : (b : Bool) (what : What) (added : Option What) → LeavesAll (Some what) → added ≡ cond b (Some what) None → LeavesAll added
plain_if true what added leaves is = subst LeavesAll (sym is) leaves
plain_if false what added leaves is = subst LeavesAll (sym is) tt

plain_unless : (b : Bool) (what : What) (added : Option What) → LeavesAll (Some what) → added ≡ cond b None (Some what) → LeavesAll added
plain_unless true what added leaves is = subst LeavesAll (sym is) tt
plain_unless false what added leaves is = subst LeavesAll (sym is) leaves

plain_cancel : (count : ℕ) → AddsPlain (Cancels count)
plain_cancel count setting past added meant = plain_unless (count == 0) Cancel added tt meant.entry

plain_destroy : (is_first : Bool) → AddsPlain (Destroys is_first)
plain_destroy is_first setting past added meant = plain_if is_first Destroy added tt meant.entry

plain_start : (word bits at : ℕ) (result : Result Begun NoMemory) → AddsPlain (Starts word bits at result)
plain_start word bits at (Ok (Started number leg server address link id message)) setting past added meant = subst LeavesAll (sym meant.0) tt
plain_start word bits at (Ok Idle) setting past added meant = subst LeavesAll (sym meant.0) tt
plain_start word bits at (Ok NoId) setting past added meant = subst LeavesAll (sym meant.0) tt
plain_start word bits at (Err fault) setting past added meant = subst LeavesAll (sym meant.0) tt

plain_arrive : (server link : ℕ) (bytes : List ℕ) (result : Result Landed NoMemory) → AddsPlain (Arrives server link bytes result)
plain_arrive server link bytes (Ok (Matched number leg)) setting past added meant = subst LeavesAll (sym meant.0) tt
plain_arrive server link bytes (Ok Stray) setting past added meant = subst LeavesAll (sym meant.0) tt
plain_arrive server link bytes (Err fault) setting past added meant = subst LeavesAll (sym meant) tt

plain_expire : (at : ℕ) (result : Result Lapse NoMemory) → AddsPlain (Expires at result)
plain_expire at (Ok (Expired number leg)) setting past added meant = subst LeavesAll (sym meant.0) tt
plain_expire at (Ok NotDue) setting past added meant = subst LeavesAll (sym meant.0) tt
plain_expire at (Err fault) setting past added meant = subst LeavesAll (sym meant.0) tt

plain_fault : (server link at : ℕ) (result : Result ℕ NoMemory) → AddsPlain (Fails server link at result)
plain_fault server link at (Ok count) setting past added meant = subst LeavesAll (sym meant.0) tt
plain_fault server link at (Err fault) setting past added meant = subst LeavesAll (sym meant) tt

plain_due : (due : Option ℕ) → AddsPlain (TellsDue due)
plain_due due setting past added meant = subst LeavesAll (sym meant.nothing) tt

plain_counts : (counts : Counts) → AddsPlain (TellsCounts counts)
plain_counts counts setting past added meant = subst LeavesAll (sym meant.nothing) tt

plain_busy : (server link : ℕ) (busy : Bool) → AddsPlain (TellsBusy server link busy)
plain_busy server link busy setting past added meant = subst LeavesAll (sym meant.nothing) tt

plain_servers : (servers : List ServerAddr) (result : Result ℕ SetFault) → AddsPlain (SetsServers servers result)
plain_servers servers (Ok count) setting past added meant = subst LeavesAll (sym meant.0) tt
plain_servers servers (Err fault) setting past added meant = subst LeavesAll (sym meant.0) tt

-- ---- calls of the desk

-- a call of the table, made by its one owner
pub called_alone : {T : Type 0} (name : T → ℕ) (meaning : Meaning) (voice by : ℕ) (old new : Shown T) (happens : Happens meaning 0 by (seen old) (seen new))
    → BecomeBy happens.added (names_of name old.tokens) (names_of name new.tokens) → Calls meaning by (known_alone name voice old) (known_alone name voice new)
called_alone name meaning voice by old new happens names = record {
  here = old.journal;
  added = happens.added;
  meant = happens.meant;
  desk = record { setting = happens.setting; home = refl; seat = refl; voice = refl };
  stands = record { others = []; parts = sym (append-nil old.journal); by_others = tt };
  seen = happens.journal;
  own = happens.journal;
  names = (names_of name new.tokens, refl, names);
  lawful = happens.lawful;
}

module _ {T : Type 0} (name : T → ℕ) (voice by : ℕ) (old new : Shown T) where
  -- one that leaves the tokens
  called_plain : (meaning : Meaning) → AddsPlain meaning → Happens meaning 0 by (seen old) (seen new) → new.tokens ≡ old.tokens → Calls meaning by (known_alone name voice old) (known_alone name voice new)
  called_plain meaning plain happens same = called_alone name meaning voice by old new happens
      (become_same happens.added (names_of name old.tokens) (names_of name new.tokens) (plain _ _ happens.added happens.meant) (ap (names_of name) same))

  pub cancel_alone : (count : ℕ) → Happens (Cancels count) 0 by (seen old) (seen new) → new.tokens ≡ old.tokens → Calls (Cancels count) by (known_alone name voice old) (known_alone name voice new)
  cancel_alone count = called_plain (Cancels count) (plain_cancel count)

  pub destroy_alone : (is_first : Bool) → Happens (Destroys is_first) 0 by (seen old) (seen new) → new.tokens ≡ old.tokens → Calls (Destroys is_first) by (known_alone name voice old) (known_alone name voice new)
  destroy_alone is_first = called_plain (Destroys is_first) (plain_destroy is_first)

  pub start_alone : (word bits at : ℕ) (result : Result Begun NoMemory) → Happens (Starts word bits at result) 0 by (seen old) (seen new) → new.tokens ≡ old.tokens
      → Calls (Starts word bits at result) by (known_alone name voice old) (known_alone name voice new)
  start_alone word bits at result = called_plain (Starts word bits at result) (plain_start word bits at result)

  pub arrive_alone : (server link : ℕ) (bytes : List ℕ) (result : Result Landed NoMemory) → Happens (Arrives server link bytes result) 0 by (seen old) (seen new) → new.tokens ≡ old.tokens
      → Calls (Arrives server link bytes result) by (known_alone name voice old) (known_alone name voice new)
  arrive_alone server link bytes result = called_plain (Arrives server link bytes result) (plain_arrive server link bytes result)

  pub expire_alone : (at : ℕ) (result : Result Lapse NoMemory) → Happens (Expires at result) 0 by (seen old) (seen new) → new.tokens ≡ old.tokens
      → Calls (Expires at result) by (known_alone name voice old) (known_alone name voice new)
  expire_alone at result = called_plain (Expires at result) (plain_expire at result)

  pub fault_alone : (server link at : ℕ) (result : Result ℕ NoMemory) → Happens (Fails server link at result) 0 by (seen old) (seen new) → new.tokens ≡ old.tokens
      → Calls (Fails server link at result) by (known_alone name voice old) (known_alone name voice new)
  fault_alone server link at result = called_plain (Fails server link at result) (plain_fault server link at result)

  pub due_alone : (due : Option ℕ) → Happens (TellsDue due) 0 by (seen old) (seen new) → new.tokens ≡ old.tokens → Calls (TellsDue due) by (known_alone name voice old) (known_alone name voice new)
  due_alone due = called_plain (TellsDue due) (plain_due due)

  pub counts_alone : (counts : Counts) → Happens (TellsCounts counts) 0 by (seen old) (seen new) → new.tokens ≡ old.tokens → Calls (TellsCounts counts) by (known_alone name voice old) (known_alone name voice new)
  counts_alone counts = called_plain (TellsCounts counts) (plain_counts counts)

  pub busy_alone : (server link : ℕ) (busy : Bool) → Happens (TellsBusy server link busy) 0 by (seen old) (seen new) → new.tokens ≡ old.tokens
      → Calls (TellsBusy server link busy) by (known_alone name voice old) (known_alone name voice new)
  busy_alone server link busy = called_plain (TellsBusy server link busy) (plain_busy server link busy)

  pub servers_alone : (servers : List ServerAddr) (result : Result ℕ SetFault) → Happens (SetsServers servers result) 0 by (seen old) (seen new) → new.tokens ≡ old.tokens
      → Calls (SetsServers servers result) by (known_alone name voice old) (known_alone name voice new)
  servers_alone servers result = called_plain (SetsServers servers result) (plain_servers servers result)

  -- accept puts the token's name
  pub accept_alone : (plan : T → Script) (spec : Spec) (token : T) (result : Result ℕ (Refused T)) → Happens (Accepts plan spec token result) 0 by (seen old) (seen new) → KeepsToken token result old.tokens new.tokens
      → Calls (Accepts plan spec token result) by (known_alone name voice old) (known_alone name voice new)
  accept_alone plan spec token (Ok number) happens keeps = called_alone name (Accepts plan spec token (Ok number)) voice by old new happens
      (subst (λ added. BecomeBy added (names_of name old.tokens) (names_of name new.tokens)) (sym happens.meant.0)
      (name token, ap (names_of name) keeps ∙ names_insert name old.tokens number token))
  accept_alone plan spec token (Err refused) happens keeps = called_alone name (Accepts plan spec token (Err refused)) voice by old new happens
      (subst (λ added. BecomeBy added (names_of name old.tokens) (names_of name new.tokens)) (sym happens.meant.0) (ap (names_of name) keeps))

  pub accept_named : (token : T) (result : Result ℕ (Refused T)) → KeepsToken token result old.tokens new.tokens → KeepsName (name token) result (Some (names_of name new.tokens))
  accept_named token (Ok number) keeps = get_name name new.tokens number ∙ ap (λ m. option_map name (finite.get m number)) keeps
      ∙ ap (option_map name) (finite.get-insert nat_cmp_total old.tokens number token number) ∙ ap (λ b. option_map name (cond b (Some token) (finite.get old.tokens number))) (itself number)
    where
      itself : (n : ℕ) → eq_by_cmp nat_cmp n n ≡ true
      itself n = grind (arith, nat_tests)
  accept_named token (Err refused) keeps = tt

  -- take removes that of its ticket's token
  pub take_alone : (plan : T → Script) (result : Option (Ticket T)) → Happens (Takes plan result) 0 by (seen old) (seen new) → GivesToken result old.tokens new.tokens
      → Calls (Takes plan result) by (known_alone name voice old) (known_alone name voice new)
  take_alone plan (Some ticket) happens gives = called_alone name (Takes plan (Some ticket)) voice by old new happens
      (subst (λ added. BecomeBy added (names_of name old.tokens) (names_of name new.tokens)) (sym happens.meant.0) (ap (names_of name) gives.1 ∙ names_remove name old.tokens ticket.call.number))
  take_alone plan None happens gives = called_alone name (Takes plan None) voice by old new happens
      (subst (λ added. BecomeBy added (names_of name old.tokens) (names_of name new.tokens)) (sym happens.meant.0) (ap (names_of name) gives))

  pub take_named : (result : Option (Ticket T)) → GivesToken result old.tokens new.tokens → GivesName name result (Some (names_of name old.tokens))
  take_named (Some ticket) gives = get_name name old.tokens ticket.call.number ∙ ap (option_map name) gives.0
  take_named None gives = tt
