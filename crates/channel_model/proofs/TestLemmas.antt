-- The tests decide their facts.
use Rattle.std.proofs.Common.{sym, eqb-true, eq-eqb, true≢false, ap, subst, leb-true, le-leb, ◌∙◌}
use Rattle.std.proofs.lemmas.Bool.{and_parts, and_from}
use Rattle.std.specs.Prelude.{Bool, Decides, ◌&&◌, not, IsFalse, true, false, refl, ℕ, ◌==◌, ◌≡◌, List, ◌≢◌, [], ◌∷◌, Some, nat_le, ◌≤◌, Option, None, is_some, length, map}
use Rattle.std.specs.Cmp.Lexicographic.{pointwise_decides}
use Rattle.chan_types.specs.declared.server_key.ServerKey.{ServerKey}
use Rattle.net_addr.specs.declared.addr.Addr.{Addr}
use Rattle.net_addr.specs.declared.addr.Addr.TheVariants.{V4, V6}
use Rattle.net_addr.specs.declared.addr.ServerAddr.{ServerAddr}
use Rattle.chan_types.specs.declared.journal.Entry.{Entry}
use Rattle.chan_types.specs.declared.journal.What.{What}
use Rattle.chan_types.specs.declared.journal.What.TheVariants.{Accept, Cancel, Destroy, Take, Start, Arrive, Expire, Fault, Servers}
use Rattle.channel_model.proofs.FlightLemmas.{is_leg-says, is_leg-itself}
use Rattle.channel_model.proofs.ListLemmas.{none_is_some}
use Rattle.channel_model.specs.Completion.{waiting, pending, ready}
use Rattle.channel_model.specs.Journal.{Past, is_destroyed, past_of}
use Rattle.channel_model.specs.Lawful.{first, MayStart, MaySet, is_mixed, is_used, Due, first_due, MayExpire, IsAllowed, IsLawfulPast, IsLawful}
use Rattle.channel_model.specs.Legs.{Leg, is_leg, leg_of}
use Rattle.channel_model.specs.Setting.{Setting}
use Rattle.channel_model.specs.Tests.{bool_eq, is_first, is_first_leg, may_set, may_start, is_due, is_allowed, is_lawful_past, is_lawful, same_key}
use Rattle.channel_model.specs.Servers.{keys_for, same_address, same_server}
use Rattle.channel_model.specs.Verdict.{has_item}

-- two tests decide two facts
both_decided : {P Q : Type 0} (p q : Bool) → Decides p P → Decides q Q → Decides (p && q) (P × Q)
both_decided p q h k = (λ e. let parts = and_parts p q e in (h.0 parts.0, k.0 parts.1), λ f. and_from p q (h.1 f.0) (k.1 f.1))

-- a fact that says the same is decided too
as_well : {P Q : Type 0} (p : Bool) → (P → Q) → (Q → P) → Decides p P → Decides p Q
as_well p to from h = (λ e. to (h.0 e), λ f. h.1 (from f))

-- the opposite test decides that a test fails
fails_decided : (p : Bool) → Decides (not p) (IsFalse p)
fails_decided true = (λ e. sym e, λ e. sym e)
fails_decided false = (λ e. refl, λ e. refl)

same_decided : (m n : ℕ) → Decides (m == n) (m ≡ n)
same_decided m n = (λ e. eqb-true m n e, λ e. eq-eqb m n e)

some_decided : {A : Type 0} (xs : List A) → Decides (has_item xs) (xs ≢ [])
some_decided [] = (λ e. absurd (true≢false (sym e)), λ h. absurd (h refl))
some_decided (x ∷ xs) = (λ e. λ is. absurd cc, λ h. refl)

first_decided : (number : ℕ) (numbers : List ℕ) → Decides (is_first number numbers) (first numbers ≡ Some number)
first_decided number [] = (λ e. absurd (true≢false (sym e)), λ e. none_is_some number e)
first_decided number (n ∷ numbers) = (λ e. ap Some (eqb-true n number e), λ e. eq-eqb n number cc)

leg_decided : (leg : Leg) (other : Leg) → Decides (is_leg other leg.request leg.number) (other ≡ leg)
leg_decided leg other = (λ e. is_leg-says other leg.request leg.number e, λ e. subst (λ l. is_leg other l.request l.number ≡ true) e (is_leg-itself other))

first_leg_decided : (leg : Leg) (legs : List Leg) → Decides (is_first_leg leg legs) (first legs ≡ Some leg)
first_leg_decided leg [] = (λ e. absurd (true≢false (sym e)), λ e. none_is_some leg e)
first_leg_decided leg (other ∷ legs) = as_well (is_leg other leg.request leg.number) (λ e. ap Some e) (λ e. cc) (leg_decided leg other)

not_after_decided : (m n : ℕ) → Decides (nat_le m n) (m ≤ n)
not_after_decided m n = (λ e. leb-true m n e, λ e. le-leb m n e)

-- whether two truth values are one
equal_decided : (a b : Bool) → Decides (bool_eq a b) (a ≡ b)
equal_decided true b = (λ e. sym e, λ e. sym e)
equal_decided false true = (λ e. absurd (true≢false (sym e)), λ e. absurd (true≢false (sym e)))
equal_decided false false = (λ e. refl, λ e. refl)

-- whether two addresses are one
address_decided : (a b : Addr) → Decides (same_address a b) (a ≡ b)
address_decided (V4 a) (V4 b) = as_well (a == b) (λ e. ap V4 e) (λ e. cc) (same_decided a b)
address_decided (V4 a) (V6 b) = (λ e. absurd (true≢false (sym e)), λ e. absurd cc)
address_decided (V6 a) (V4 b) = (λ e. absurd (true≢false (sym e)), λ e. absurd cc)
address_decided (V6 a) (V6 b) = as_well (a == b) (λ e. ap V6 e) (λ e. cc) (same_decided a b)

-- whether two servers are one
pub server_decided : (a b : ServerAddr) → Decides (same_server a b) (a ≡ b)
server_decided a b =
    as_well (same_server a b) (λ h. λ k. record { address = h.0 k; port = h.1 k }) (λ e. (ap (λ (s : ServerAddr). s.address) e, ap (λ (s : ServerAddr). s.port) e))
    (both_decided _ _ (address_decided a.address b.address) (same_decided a.port b.port))

-- whether two servers with their keys are one
key_decided : (a b : ServerKey) → Decides (same_key a b) (a ≡ b)
key_decided a b =
    as_well (same_key a b) (λ h. λ k. record { key = h.0 k; address = h.1 k }) (λ e. (ap (λ (s : ServerKey). s.key) e, ap (λ (s : ServerKey). s.address) e))
    (both_decided _ _ (same_decided a.key b.key) (server_decided a.address b.address))

module _ (setting : Setting) where
  start_decided : (past : Past) (leg : Leg) (server link id : ℕ) (mix : Option ℕ) → Decides (may_start setting past leg server link id mix) (MayStart setting past leg server link id mix)
  start_decided past leg server link id mix =
      as_well (may_start setting past leg server link id mix)
      (λ f. record { waits = f.0.0.0.0; to_server = f.0.0.0.1; over_link = f.0.0.1; own_id = f.0.1; mixes = f.1 })
      (λ m. ((((m.waits, m.to_server), m.over_link), m.own_id), m.mixes))
      (both_decided _ _ (both_decided _ _ (both_decided _ _ (both_decided _ _ (first_leg_decided leg (waiting setting past)) (same_decided server _)) (same_decided link _)) (fails_decided (is_used setting id past)))
      (equal_decided (is_some mix) (is_mixed setting link)))

  set_decided : (past : Past) (list : List ServerKey) → Decides (may_set setting past list) (MaySet setting past list)
  set_decided past list =
      as_well (may_set setting past list)
      (λ f. record { open' = f.0.0.0; some = f.0.0.1; few = f.0.1; keys = f.1 })
      (λ m. (((m.open', m.some), m.few), m.keys))
      (both_decided _ _ (both_decided _ _ (both_decided _ _ (fails_decided (is_destroyed past)) (not_after_decided 1 (length list))) (not_after_decided (length list) 8))
      (pointwise_decides key_decided list (keys_for setting (map (λ (server : ServerKey). server.address) list) past)))

  due_decided : (past : Past) (leg : Leg) (moment : ℕ) (due : Option Due) → first_due setting past ≡ due → Decides (is_due leg moment due) (MayExpire setting past leg moment)
  due_decided past leg moment None is = (λ e. absurd (true≢false (sym e)), λ m. none_is_some _ (sym is ∙ m.first))
  due_decided past leg moment (Some due) is =
      as_well (is_due leg moment (Some due))
      (λ f. record { due_at = due.at; first = is ∙ ap (λ l. Some (record { at = due.at; leg = l })) f.0; due = f.1 })
      (λ m. let same : due ≡ record { at = m.due_at; leg = leg } = cc in (ap (λ d. d.leg) same, subst (λ d. d.at ≤ moment) (sym same) m.due))
      (both_decided _ _ (leg_decided leg due.leg) (not_after_decided due.at moment))

  -- the test of an entry decides whether it is allowed
  pub allowed_decided : (past : Past) (what : What) → Decides (is_allowed setting past what) (IsAllowed setting past what)
  allowed_decided past (Accept number spec script) = both_decided _ _ (fails_decided (is_destroyed past)) (same_decided number _)
  allowed_decided past Cancel = some_decided (pending setting past)
  allowed_decided past Destroy = fails_decided (is_destroyed past)
  allowed_decided past (Take number) = first_decided number (ready setting past)
  allowed_decided past (Start number leg server link id mix moment) = start_decided past (leg_of number leg) server link id mix
  allowed_decided past (Arrive server link bytes) = (λ e. tt, λ f. refl)
  allowed_decided past (Expire number leg moment) = due_decided past (leg_of number leg) moment (first_due setting past) refl
  allowed_decided past (Fault server link moment) = (λ e. tt, λ f. refl)
  allowed_decided past (Servers list) = set_decided past list

  -- and that of a past whether it is lawful
  lawful_past_decided : (past : Past) → Decides (is_lawful_past setting past) (IsLawfulPast setting past)
  lawful_past_decided [] = (λ e. tt, λ f. refl)
  lawful_past_decided (what ∷ past) = both_decided _ _ (allowed_decided past what) (lawful_past_decided past)

  -- and that of a journal
  pub lawful_decided : (journal : List Entry) → Decides (is_lawful setting journal) (IsLawful setting journal)
  lawful_decided journal = as_well (is_lawful setting journal) (λ f. record { allowed = f }) (λ f. f.allowed) (lawful_past_decided (past_of journal))
