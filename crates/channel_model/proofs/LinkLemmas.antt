-- Attempts in flight over TCP to one server have one link, so that any of them tells the link of the next.
use Rattle.std.proofs.Common.{◌≡◌, ◌∙◌, ℕ, Bool, true, false, List, [], ◌∷◌, Option, Some, None, refl, ap, sym, subst, cond, ⊎_elim, eqb-true, eq-eqb, ne_eqb, true≢false}
use Rattle.std.proofs.lemmas.Bool.{and_from, and_parts}
use Rattle.std.specs.List.{AllByRecursion, list_any}
use Rattle.std.specs.Prelude.{find, not, ◌==◌, ◌||◌, ◌≢◌}
use Rattle.chan_types.specs.declared.journal.Entry.{Entry}
use Rattle.channel_model.proofs.FlightLemmas.{each_flies, flight-cases, in_flight-none}
use Rattle.channel_model.proofs.LawfulLemmas.{start_allowed}
use Rattle.channel_model.proofs.ListLemmas.{none_is_some}
use Rattle.channel_model.specs.Choice.{is_on_tcp, tcp_link}
use Rattle.channel_model.specs.Flight.{Attempt, flight, in_flight}
use Rattle.channel_model.specs.Journal.{Past, past_of}
use Rattle.channel_model.specs.Lawful.{IsLawful, IsLawfulPast}
use Rattle.channel_model.specs.Legs.{Leg}
use Rattle.channel_model.specs.Past.{closings, is_over_tcp}
use Rattle.channel_model.specs.Setting.{Setting}

none_found : {X : Type 0} (test : X → Bool) (xs : List X) → find test xs ≡ None → list_any test xs ≡ false
none_found test [] none = refl
none_found {X} test (x ∷ xs) none = by_test (test x) none (none_found test xs)
  where
    by_test : (b : Bool) → cond b (Some x) (find test xs) ≡ None → (find test xs ≡ None → list_any test xs ≡ false) → (b || list_any test xs) ≡ false
    by_test true none rest = absurd cc
    by_test false none rest = rest none

found_says : {X : Type 0} (P : X → Type 0) (test : X → Bool) (xs : List X) (c : X) → AllByRecursion P xs → find test xs ≡ Some c → (test c ≡ true) × P c
found_says P test [] c each e = absurd cc
found_says {X} P test (x ∷ xs) c each e = by_test (test x) refl e (found_says P test xs c each.1)
  where
    by_test : (b : Bool) → test x ≡ b → cond b (Some x) (find test xs) ≡ Some c → (find test xs ≡ Some c → (test c ≡ true) × P c) → (test c ≡ true) × P c
    by_test true is e rest = let same : x ≡ c = cc in subst (λ y. (test y ≡ true) × P y) same (is, each.0)
    by_test false is e rest = rest e

module _ (setting : Setting) where
  on_tcp : (server : ℕ) (b : Attempt) → b.server ≡ server → b.link ≢ 0 → is_on_tcp setting server b ≡ true
  on_tcp server b same some = and_from _ _ (eq-eqb b.server server same) (ap not (ne_eqb b.link 0 some))

  tcp_says : (server : ℕ) (c : Attempt) → is_on_tcp setting server c ≡ true → (c.server ≡ server) × (c.link ≢ 0)
  tcp_says server c e =
      let parts = and_parts (c.server == server) (not (c.link == 0)) e in
      (eqb-true c.server server parts.0, λ zero. true≢false (sym parts.1 ∙ ap not (eq-eqb c.link 0 zero)))

  -- an attempt in flight over TCP tells the link to its server, where all such have one link
  pub tcp_link-is : (past : Past) (other : Leg) (b : Attempt) → flight setting other past ≡ Some b → b.link ≢ 0
      → ((c : Attempt) → flight setting c.leg past ≡ Some c → c.server ≡ b.server → c.link ≢ 0 → c.link ≡ b.link) → tcp_link setting b.server past ≡ b.link
  tcp_link-is past other b flies some one = by_found (find (is_on_tcp setting b.server) (in_flight setting past)) refl
    where
      by_found : (found : Option Attempt) → find (is_on_tcp setting b.server) (in_flight setting past) ≡ found → tcp_link setting b.server past ≡ b.link
      by_found None is = absurd (true≢false (sym (on_tcp b.server b refl some) ∙ in_flight-none setting (is_on_tcp setting b.server) other past b flies (none_found (is_on_tcp setting b.server) (in_flight setting past) is)))
      by_found (Some c) is =
          let says = found_says (λ (x : Attempt). flight setting x.leg past ≡ Some x) (is_on_tcp setting b.server) (in_flight setting past) c (each_flies setting past) is in
          let tcp = tcp_says b.server c says.0 in
          rw is (one c says.1 tcp.0 tcp.1)

  over_tcp : (over : Bool) (tcp link : ℕ) → link ≡ cond over tcp 0 → link ≢ 0 → link ≡ tcp
  over_tcp true tcp link is some = is
  over_tcp false tcp link is some = absurd (some is)

  -- in a lawful past attempts in flight over TCP to one server have one link
  pub one_link : (past : Past) → IsLawfulPast setting past → (leg other : Leg) (a b : Attempt) → flight setting leg past ≡ Some a → flight setting other past ≡ Some b → a.server ≡ b.server → a.link ≢ 0 → b.link ≢ 0 → a.link ≡ b.link
  one_link [] lawful leg other a b flies also same some too = none_is_some a flies
  one_link (what ∷ past) lawful leg other a b flies also same some too = ⊎_elim
      (λ h. ⊎_elim
      (λ k. let one : a ≡ b = cc in ap (λ (x : Attempt). x.link) one)
      (λ k. let may = start_allowed setting past what a lawful.0 h.0 in
      over_tcp (is_over_tcp setting (closings setting a.leg past)) (tcp_link setting a.server past) a.link may.over_link some
      ∙ ap (λ s. tcp_link setting s past) same
      ∙ tcp_link-is past other b k.0 too (λ c lands there tcp. one_link past lawful.1 c.leg other c b lands k.0 there tcp too))
      (flight-cases setting other what past b also))
      (λ h. ⊎_elim
      (λ k. let may = start_allowed setting past what b lawful.0 k.0 in
      sym (over_tcp (is_over_tcp setting (closings setting b.leg past)) (tcp_link setting b.server past) b.link may.over_link too
      ∙ ap (λ s. tcp_link setting s past) (sym same)
      ∙ tcp_link-is past leg a h.0 some (λ c lands there tcp. one_link past lawful.1 c.leg leg c a lands h.0 there tcp some)))
      (λ k. one_link past lawful.1 leg other a b h.0 k.0 same some too)
      (flight-cases setting other what past b also))
      (flight-cases setting leg what past a flies)

-- the same of journals
pub links_agree : (setting : Setting) (journal : List Entry) (leg other : Leg) (a b : Attempt) → IsLawful setting journal → flight setting leg (past_of journal) ≡ Some a → flight setting other (past_of journal) ≡ Some b
    → a.server ≡ b.server → a.link ≢ 0 → b.link ≢ 0 → a.link ≡ b.link
links_agree setting journal leg other a b lawful flies also same some too = one_link setting (past_of journal) lawful.allowed leg other a b flies also same some too
