-- A request each candidate of which has one leg: the search that asked a leg's candidate is over where the leg ended with a status at which it doesn't go on.
use Rattle.std.proofs.Common.{ap, subst, sym, ◌∙◌}
use Rattle.std.specs.Prelude.{Bool, IsTrue, List, None, Option, Some, [], cond, false, option_map, refl, true, ℕ, ◌+◌, ◌∷◌, ◌≡◌}
use Rattle.chan_types.specs.declared.answer.Answer.{Answer}
use Rattle.chan_types.specs.declared.spec.Spec.{Spec}
use Rattle.chan_types.specs.declared.spec.Spec.TheVariants.{Address, Query, Reverse, Search}
use Rattle.dns_message.specs.declared.message.Record.{Record}
use Rattle.dns_message.specs.declared.name.Name.{Name}
use Rattle.net_addr.specs.declared.addr.Addr.{Addr}
use Rattle.net_addr.specs.declared.addr.Family.{Family}
use Rattle.channel_model.proofs.ListLemmas.{none_is_some}
use Rattle.channel_model.specs.Journal.{Past}
use Rattle.channel_model.specs.LegEnd.{LegEnd, leg_end}
use Rattle.channel_model.specs.Legs.{first_leg, leg_of, legs_of, second_leg}
use Rattle.channel_model.specs.Merge.{addresses_v4, addresses_v6, bare, merged_one}
use Rattle.channel_model.specs.Search.{Stand, answer_at, asking, behind_candidate, candidate_answer, goes_on, leg_answer, over, stand_at}
use Rattle.channel_model.specs.Setting.{Setting}
use Rattle.status_laws.proofs.AnswerLemmas.{one_says}
use Rattle.status_laws.specs.Causes.{has_lone_legs}

-- a candidate that is asked is this one
abbrev index_of : Stand → ℕ
index_of (asking c) = c
index_of (over answer) = 0

module _ (setting : Setting) (request : ℕ) where
  -- the answer of a candidate comes of its one leg
  pub record Lone (spec : Spec) : Type 0 where
    pub leg : ℕ → ℕ
    pub make : Name → LegEnd → Answer
    pub alone : (c : ℕ) → legs_of spec c ≡ leg c ∷ []
    pub answers : (c : ℕ) (name : Name) (past : Past)
        → candidate_answer setting request spec c name past ≡ option_map (make name) (leg_end setting (leg_of request (leg c)) past)
    pub same : (name : Name) (end : LegEnd) → (make name end).status ≡ end.status

  -- it is the reply that ended the leg
  lone_reply : (spec : Spec) → ((c : ℕ) → legs_of spec c ≡ first_leg c ∷ [])
      → ((c : ℕ) (name : Name) (past : Past) → candidate_answer setting request spec c name past ≡ leg_answer setting request (first_leg c) past) → Lone spec
  lone_reply spec alone answers =
      record { leg = first_leg; make = λ name end. bare request end.status end.reply; alone = alone; answers = answers; same = λ name end. refl }

  -- or has the addresses of that reply
  lone_addresses : (spec : Spec) (nosort : Bool) (leg : ℕ → ℕ) (addresses : List Record → List Addr) → ((c : ℕ) → legs_of spec c ≡ leg c ∷ [])
      → ((c : ℕ) (name : Name) (past : Past) → candidate_answer setting request spec c name past
      ≡ option_map (merged_one setting request nosort name addresses) (leg_end setting (leg_of request (leg c)) past)) → Lone spec
  lone_addresses spec nosort leg addresses alone answers = record {
    leg = leg;
    make = λ name. merged_one setting request nosort name addresses;
    alone = alone;
    answers = answers;
    same = λ name end. sym (one_says setting request [] nosort name addresses end).0;
  }

  -- each candidate of such a request has one leg
  pub lone : (spec : Spec) → IsTrue (has_lone_legs spec) → Lone spec
  lone (Query text kind class) is = lone_reply (Query text kind class) (λ c. refl) (λ c name past. refl)
  lone (Search text kind class) is = lone_reply (Search text kind class) (λ c. refl) (λ c name past. refl)
  lone (Address host Family.Any nosort) is = absurd cc
  lone (Address host Family.V4 nosort) is = lone_addresses (Address host Family.V4 nosort) nosort first_leg addresses_v4 (λ c. refl) (λ c name past. refl)
  lone (Address host Family.V6 nosort) is = lone_addresses (Address host Family.V6 nosort) nosort second_leg addresses_v6 (λ c. refl) (λ c name past. refl)
  lone (Reverse address) is = lone_reply (Reverse address) (λ c. refl) (λ c name past. refl)

  module _ (spec : Spec) (l : Lone spec) (old new : Past)
      (keeps : (k : ℕ) (end : LegEnd) → leg_end setting (leg_of request k) old ≡ Some end → leg_end setting (leg_of request k) new ≡ Some end)
      (d : ℕ) (end : LegEnd) (ended : leg_end setting (leg_of request (l.leg d)) new ≡ Some end) (stops : goes_on end.status ≡ false) where
    -- the search is over with the leg's status
    abbrev IsOver : Stand → Type 0
    IsOver stand = (a : Answer) × (answer_at stand ≡ Some a) × (a.status ≡ end.status)

    -- the answer of a candidate stays
    kept_answer : (c : ℕ) (name : Name) (a : Answer) → candidate_answer setting request spec c name old ≡ Some a
        → candidate_answer setting request spec c name new ≡ Some a
    kept_answer c name a e = l.answers c name new ∙ by_end (leg_end setting (leg_of request (l.leg c)) old) refl (sym (l.answers c name old) ∙ e)
      where
        by_end : (o : Option LegEnd) → leg_end setting (leg_of request (l.leg c)) old ≡ o → option_map (l.make name) o ≡ Some a
            → option_map (l.make name) (leg_end setting (leg_of request (l.leg c)) new) ≡ Some a
        by_end None is e = none_is_some a e
        by_end (Some x) is e = ap (option_map (l.make name)) (keeps (l.leg c) x is) ∙ e

    -- a candidate that ended so ends the search
    over_here : (c : ℕ) (names : List Name) (a : Answer) → a.status ≡ end.status → (later : Stand) → IsOver (behind_candidate c names (Some a) later)
    over_here c [] a same later = (a, refl, same)
    over_here c (n ∷ ns) a same later = subst (λ (b : Bool). IsOver (cond b later (over a))) (sym (ap goes_on same ∙ stops)) (a, refl, same)

    -- the leg's own candidate ends the search
    asked_here : (c : ℕ) (name : Name) (names : List Name) → c ≡ d → IsOver (stand_at setting request spec new c (name ∷ names))
    asked_here c name names own =
        let gives : candidate_answer setting request spec c name new ≡ Some (l.make name end) = l.answers c name new
        ∙ ap (option_map (l.make name)) (subst (λ (n : ℕ). leg_end setting (leg_of request (l.leg n)) new ≡ Some end) (sym own) ended) in
        subst (λ (o : Option Answer). IsOver (behind_candidate c names o (stand_at setting request spec new (c + 1) names))) (sym gives)
        (over_here c names (l.make name end) (l.same name end) (stand_at setting request spec new (c + 1) names))

    -- where the search asked the leg's candidate, it is over now
    pub over_at : (c : ℕ) (name : Name) (names : List Name) → stand_at setting request spec old c (name ∷ names) ≡ asking d
        → IsOver (stand_at setting request spec new c (name ∷ names))
    over_at c name [] e = by_answer (candidate_answer setting request spec c name old) refl e
      where
        by_answer : (o : Option Answer) → candidate_answer setting request spec c name old ≡ o
            → behind_candidate c [] o (asking (c + 1)) ≡ asking d → IsOver (stand_at setting request spec new c (name ∷ []))
        by_answer None is e = asked_here c name [] (ap index_of e)
        by_answer (Some a) is e = absurd cc
    over_at c name (next ∷ names) e = by_answer (candidate_answer setting request spec c name old) refl e (over_at (c + 1) next names)
      where
        by_answer : (o : Option Answer) → candidate_answer setting request spec c name old ≡ o
            → behind_candidate c (next ∷ names) o (stand_at setting request spec old (c + 1) (next ∷ names)) ≡ asking d
            → (stand_at setting request spec old (c + 1) (next ∷ names) ≡ asking d
            → IsOver (stand_at setting request spec new (c + 1) (next ∷ names))) → IsOver (stand_at setting request spec new c (name ∷ next ∷ names))
        by_answer None is e rest = asked_here c name (next ∷ names) (ap index_of e)
        by_answer (Some a) is e rest = by_test (goes_on a.status) refl e
          where
            by_test : (b : Bool) → goes_on a.status ≡ b
                → cond b (stand_at setting request spec old (c + 1) (next ∷ names)) (over a) ≡ asking d
                → IsOver (stand_at setting request spec new c (name ∷ next ∷ names))
            by_test true on e =
                subst (λ (o : Option Answer). IsOver
                (behind_candidate c (next ∷ names) o (stand_at setting request spec new (c + 1) (next ∷ names)))) (sym (kept_answer c name a is))
                (subst (λ (b : Bool). IsOver (cond b (stand_at setting request spec new (c + 1) (next ∷ names)) (over a))) (sym on) (rest e))
            by_test false on e = absurd cc
