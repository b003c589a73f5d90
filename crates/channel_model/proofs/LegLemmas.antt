-- What an entry does to a leg. One that spares it leaves it as it was; one that closes its attempt adds a closing; a Start of it begins one.
use Rattle.std.proofs.Common.{◌≡◌, ◌∙◌, ℕ, true, false, List, ◌∷◌, Option, Some, None, refl, ap, subst}
use Rattle.std.specs.Bool.{then_some}
use Rattle.std.specs.Option.{option_map_or}
use Rattle.std.specs.Prelude.{IfSome, IsFalse, IsTrue}
use Rattle.chan_types.specs.declared.journal.What.{What}
use Rattle.chan_types.specs.declared.journal.What.TheVariants.{Accept, Arrive, Expire, Fault, Start, Take}
use Rattle.chan_types.specs.declared.script.Script.{Script}
use Rattle.chan_types.specs.declared.server_key.ServerKey.{ServerKey}
use Rattle.chan_types.specs.declared.spec.Spec.{Spec}
use Rattle.channel_model.proofs.FlightLemmas.{begun_or-other, flight-leg, is_leg-itself}
use Rattle.channel_model.specs.Choice.{deadline, deadline_or}
use Rattle.channel_model.specs.Flight.{Attempt, begun_by, closes, flight, is_of_leg, unless_closed}
use Rattle.channel_model.specs.Journal.{Past}
use Rattle.channel_model.specs.LegEnd.{end_of, leg_end}
use Rattle.channel_model.specs.Legs.{Leg, is_leg}
use Rattle.channel_model.specs.Past.{Closing, closing_of, closings, forced_behind, forced_by, forced_server, if_left, with_closing}
use Rattle.channel_model.specs.Servers.{has_key, leaves_server, servers_set_by}
use Rattle.channel_model.specs.Setting.{Setting}

-- what holds of anything holds of what there may be
pub if_any : {A : Type 0} (P : A → Type 0) (o : Option A) → ((x : A) → P x) → IfSome o P
if_any P None h = tt
if_any P (Some x) h = h x

-- and of what there is
pub if_that : {A : Type 0} (P : A → Type 0) (o : Option A) → ((x : A) → o ≡ Some x → P x) → IfSome o P
if_that P None h = tt
if_that P (Some x) h = h x refl

-- of what there isn't, anything holds
pub if_none : {A : Type 0} (P : A → Type 0) (o : Option A) → o ≡ None → IfSome o P
if_none P None none = tt
if_none P (Some x) none = absurd cc

module _ (setting : Setting) (what : What) (past : Past) where
  -- an attempt that isn't closed stays in flight
  pub unless_closed-spared : (o : Option Attempt) → IfSome o (λ a. IsFalse (closes setting a what past)) → unless_closed setting what past o ≡ o
  unless_closed-spared None spared = refl
  unless_closed-spared (Some a) spared = rw spared refl

  -- and adds no closing
  pub with_closing-spared : (o : Option Attempt) (earlier : List Closing) → IfSome o (λ a. IsFalse (closes setting a what past)) → with_closing setting what past o earlier ≡ earlier
  with_closing-spared None earlier spared = refl
  with_closing-spared (Some a) earlier spared = rw spared refl

  -- where no attempt is closed, the server that the next one has to go to is the one before, if the entry leaves it
  pub forced_behind-spared : (leg : Leg) (o : Option Attempt) (before : Option ℕ) → IfSome o (λ a. IsFalse (closes setting a what past)) → forced_behind setting what past leg o before ≡ if_left what before
  forced_behind-spared leg None before spared = refl
  forced_behind-spared leg (Some a) before spared = rw spared refl

  -- a server that the entry leaves stays
  pub if_left-spared : (o : Option ℕ) → IfSome o (λ key. IsTrue (leaves_server key what)) → if_left what o ≡ o
  if_left-spared None leaves = refl
  if_left-spared (Some key) leaves = ap (λ b. then_some b key) leaves

  -- the entry spares the leg: it begins no attempt of it, closes none that it has in flight, and leaves the server in the list that its next one has to go to
  pub record Spares (leg : Leg) : Type 0 where
    pub begins_other : IfSome (begun_by what) (λ a. IsFalse (is_of_leg leg a))
    pub closes_none : IfSome (flight setting leg past) (λ a. IsFalse (closes setting a what past))
    pub leaves_forced : IfSome (forced_server setting leg past) (λ key. IsTrue (leaves_server key what))

  module _ (leg : Leg) where
    -- a leg that an entry spares has the same attempt in flight behind it
    pub spared-flight : Spares leg → flight setting leg (what ∷ past) ≡ flight setting leg past
    spared-flight s = begun_or-other leg (begun_by what) (unless_closed setting what past (flight setting leg past)) s.begins_other ∙ unless_closed-spared (flight setting leg past) s.closes_none

    -- and the same closings, so that spent attempts, transport and OPT record are as before too
    pub spared-closings : Spares leg → closings setting leg (what ∷ past) ≡ closings setting leg past
    spared-closings s = with_closing-spared (flight setting leg past) (closings setting leg past) s.closes_none

    -- and the same end
    pub spared-end : Spares leg → leg_end setting leg (what ∷ past) ≡ leg_end setting leg past
    spared-end s = ap end_of (spared-closings s)

    -- and the same server to go to
    pub spared-forced : Spares leg → forced_server setting leg (what ∷ past) ≡ forced_server setting leg past
    spared-forced s = forced_behind-spared leg (flight setting leg past) (forced_server setting leg past) s.closes_none ∙ if_left-spared (forced_server setting leg past) s.leaves_forced

    -- and the same deadline
    pub spared-deadline : Spares leg → deadline setting leg (what ∷ past) ≡ deadline setting leg past
    spared-deadline s = kept_deadline (begun_by what) s.begins_other
      where
        kept_deadline : (o : Option Attempt) → IfSome o (λ a. IsFalse (is_of_leg leg a)) → deadline_or setting leg past o (deadline setting leg past) ≡ deadline setting leg past
        kept_deadline None other = refl
        kept_deadline (Some a) other = rw other refl

    -- an entry that closes its attempt leaves none in flight
    pub closed-flight : (a : Attempt) → flight setting leg past ≡ Some a → closes setting a what past ≡ true → begun_by what ≡ None → flight setting leg (what ∷ past) ≡ None
    closed-flight a flies closed begins = rw (flies, begins, closed) refl

    -- and adds a closing
    pub closed-closings : (a : Attempt) → flight setting leg past ≡ Some a → closes setting a what past ≡ true
        → closings setting leg (what ∷ past) ≡ closing_of setting a what past (closings setting leg past) ∷ closings setting leg past
    closed-closings a flies closed = rw (flies, closed) refl

    -- which says what server the next one has to go to
    pub closed-forced : (a : Attempt) → flight setting leg past ≡ Some a → closes setting a what past ≡ true
        → forced_server setting leg (what ∷ past) ≡ forced_by (closing_of setting a what past (closings setting leg past))
    closed-forced a flies closed = rw (flies, closed) refl

    -- a Start of the leg puts its attempt in flight
    pub begun-flight : (a : Attempt) → begun_by what ≡ Some a → leg ≡ a.leg → flight setting leg (what ∷ past) ≡ Some a
    begun-flight a begins same = rw (begins, subst (λ l. is_leg leg l.request l.number ≡ true) same (is_leg-itself leg)) refl

    -- a leg that has no attempt in flight has the same closings behind any entry
    pub idle-closings : flight setting leg past ≡ None → closings setting leg (what ∷ past) ≡ closings setting leg past
    idle-closings idle = rw idle refl

    -- and the same end
    pub idle-end : flight setting leg past ≡ None → leg_end setting leg (what ∷ past) ≡ leg_end setting leg past
    idle-end idle = ap end_of (idle-closings idle)

    -- and the same server to go to, if the entry leaves it in the list
    pub idle-forced : flight setting leg past ≡ None → forced_server setting leg (what ∷ past) ≡ if_left what (forced_server setting leg past)
    idle-forced idle = rw idle refl

-- which entries spare a leg
module _ (setting : Setting) (past : Past) (leg : Leg) where
  -- an entry that begins nothing and sets no servers, where it doesn't close the leg's attempt
  pub spares_by : (what : What) → begun_by what ≡ None → servers_set_by what ≡ None → IfSome (flight setting leg past) (λ a. IsFalse (closes setting a what past)) → Spares setting what past leg
  spares_by what begins sets open' = record {
    begins_other = if_none _ (begun_by what) begins;
    closes_none = open';
    leaves_forced = if_any _ (forced_server setting leg past) (λ key. leaves (servers_set_by what) key sets);
  }
    where
      leaves : (o : Option (List ServerKey)) (key : ℕ) → o ≡ None → option_map_or (has_key key) o true ≡ true
      leaves None key none = refl
      leaves (Some list) key none = absurd cc

  -- an Accept
  pub accept_spares : (number : ℕ) (spec : Spec) (script : Script) → Spares setting (Accept number spec script) past leg
  accept_spares number spec script = spares_by (Accept number spec script) refl refl (if_any _ (flight setting leg past) (λ a. refl))

  -- a Take
  pub take_spares : (number : ℕ) → Spares setting (Take number) past leg
  take_spares number = spares_by (Take number) refl refl (if_any _ (flight setting leg past) (λ a. refl))

  -- the Start of another leg
  pub start_spares : (number k server link id : ℕ) (mix : Option ℕ) (moment : ℕ) → is_leg leg number k ≡ false → Spares setting (Start number k server link id mix moment) past leg
  start_spares number k server link id mix moment other = record {
    begins_other = other;
    closes_none = if_any _ (flight setting leg past) (λ a. refl);
    leaves_forced = if_any _ (forced_server setting leg past) (λ key. refl);
  }

  -- the Expire of another leg
  pub expire_spares : (number k moment : ℕ) → is_leg leg number k ≡ false → Spares setting (Expire number k moment) past leg
  expire_spares number k moment other =
      spares_by (Expire number k moment) refl refl (if_that _ (flight setting leg past) (λ a flies. subst (λ l. is_leg l number k ≡ false) (flight-leg setting leg past a flies) other))

  -- an Arrive that doesn't answer its attempt
  pub arrive_spares : (server link : ℕ) (bytes : List ℕ) → IfSome (flight setting leg past) (λ a. IsFalse (closes setting a (Arrive server link bytes) past)) → Spares setting (Arrive server link bytes) past leg
  arrive_spares server link bytes open' = spares_by (Arrive server link bytes) refl refl open'

  -- a Fault of another link
  pub fault_spares : (server link moment : ℕ) → IfSome (flight setting leg past) (λ a. IsFalse (closes setting a (Fault server link moment) past)) → Spares setting (Fault server link moment) past leg
  fault_spares server link moment open' = spares_by (Fault server link moment) refl refl open'
