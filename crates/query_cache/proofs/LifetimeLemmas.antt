-- The least ttl that is computed is the least of the ttls.
use Rattle.std.proofs.Common.{◌≡◌, ◌⊎◌, inl, inr, ◌↔◌, ℕ, ◌<◌, ◌≤◌, Bool, true, false, cond, eqb, Option, Some, None, List, [], ◌∷◌, refl, ap, sym, subst, ◌∙◌, leb, arith}
use Rattle.std.specs.List.{fold, AllByRecursion}
use Rattle.std.specs.Prelude.{min}
use Rattle.std.proofs.lemmas.Bool.{eqb-true, eq-eqb}
use Rattle.std.proofs.lemmas.Bool.Decides.{leb_tells}
use Rattle.dns_message.specs.Grammar.{message_of}
use Rattle.dns_message.specs.declared.message.Message.{Message}
use Rattle.dns_message.specs.declared.message.Record.{Record}
use Rattle.dns_message.proofs.Theorems.{reading_spells}
use Rattle.chan_types.specs.Statuses.{code_of}
use Rattle.chan_types.specs.declared.answer.Answer.{Answer}
use Rattle.query_cache.specs.Lifetime.{least_ttl, answers_ttl, lifetime, HasTtl, LivesFor}

-- the least from a number on: it is the number or a record's ttl, and none of them is less
abbrev least_from : ℕ → List Record → ℕ
least_from a rrs = fold (λ least other. min least other.ttl) a rrs

from_least : (a : ℕ) (rrs : List Record) → ((least_from a rrs ≡ a) ⊎ HasTtl rrs (least_from a rrs)) × (least_from a rrs ≤ a) × AllByRecursion (λ rr. least_from a rrs ≤ rr.ttl) rrs
from_least a [] = (inl refl, omega arith, tt)
from_least a (rr ∷ rrs) = let r = from_least (min a rr.ttl) rrs in (which (leb_tells a rr.ttl) r.0, omega (arith, r.1), (omega (arith, r.1), r.2))
  where
    n : ℕ
    n = least_from (min a rr.ttl) rrs

    which : ((leb a rr.ttl ≡ true) × (a ≤ rr.ttl)) ⊎ ((leb a rr.ttl ≡ false) × (rr.ttl < a)) → (n ≡ min a rr.ttl) ⊎ HasTtl rrs n → (n ≡ a) ⊎ ((rr.ttl ≡ n) ⊎ HasTtl rrs n)
    which (inl t) (inl e) = inl (omega (arith, t.1, e))
    which (inr t) (inl e) = inr (inl (omega (arith, t.1, e)))
    which t (inr h) = inr (inr h)

-- what is no more than any ttl is no more than one of them
least_of_one : (rrs : List Record) (n seconds : ℕ) → HasTtl rrs seconds → AllByRecursion (λ rr. n ≤ rr.ttl) rrs → n ≤ seconds
least_of_one [] n seconds h all = absurd h
least_of_one (rr ∷ rrs) n seconds (inl e) all = omega (arith, e, all.0)
least_of_one (rr ∷ rrs) n seconds (inr h) all = least_of_one rrs n seconds h all.1

-- the least ttl of some records
least_is : (rr : Record) (rrs : List Record) → HasTtl (rr ∷ rrs) (least_ttl (rr ∷ rrs)) × AllByRecursion (λ other. least_ttl (rr ∷ rrs) ≤ other.ttl) (rr ∷ rrs)
least_is rr rrs = let r = from_least rr.ttl rrs in (here r.0, (r.1, r.2))
  where
    here : (least_from rr.ttl rrs ≡ rr.ttl) ⊎ HasTtl rrs (least_from rr.ttl rrs) → HasTtl (rr ∷ rrs) (least_from rr.ttl rrs)
    here (inl e) = inl (sym e)
    here (inr h) = inr h

least_only : (rrs : List Record) (seconds : ℕ) → HasTtl rrs seconds → AllByRecursion (λ rr. seconds ≤ rr.ttl) rrs → least_ttl rrs ≡ seconds
least_only [] seconds h all = absurd h
least_only (rr ∷ rrs) seconds h all =
    let r = least_is rr rrs in
    let low : least_ttl (rr ∷ rrs) ≤ seconds = least_of_one (rr ∷ rrs) _ seconds h r.1 in
    let high : seconds ≤ least_ttl (rr ∷ rrs) = least_of_one (rr ∷ rrs) seconds _ r.0 all in omega arith

-- an answer lives as long as is computed
pub lives_as_long : (answer : Answer) (seconds : ℕ) → 0 < seconds → (lifetime answer ≡ seconds) ↔ LivesFor answer seconds
lives_as_long answer seconds some = (λ e. by (eqb (code_of answer.status) 0) refl e, back)
  where
    of_records : code_of answer.status ≡ 0 → (message : Message) → message_of answer.message ≡ Some message → (rrs : List Record) → message.answers ≡ rrs → least_ttl rrs ≡ seconds → LivesFor answer seconds
    of_records good message is [] its e = absurd (omega (arith, e, some))
    of_records good message is (rr ∷ rrs) its e =
        let r = least_is rr rrs in record {
          success = good;
          message = message;
          spelled = (reading_spells answer.message message).0 is;
          one = subst (λ l. HasTtl l seconds) (sym its) (subst (HasTtl (rr ∷ rrs)) e r.0);
          least = subst (AllByRecursion (λ other. seconds ≤ other.ttl)) (sym its) (subst (λ n. AllByRecursion (λ other. n ≤ other.ttl) (rr ∷ rrs)) e r.1);
          some = some;
        }

    of_message : code_of answer.status ≡ 0 → (o : Option Message) → message_of answer.message ≡ o → answers_ttl o ≡ seconds → LivesFor answer seconds
    of_message good None is e = absurd (omega (arith, e, some))
    of_message good (Some message) is e = of_records good message is message.answers refl e

    by : (b : Bool) → eqb (code_of answer.status) 0 ≡ b → cond b (answers_ttl (message_of answer.message)) 0 ≡ seconds → LivesFor answer seconds
    by true t e = of_message (eqb-true (code_of answer.status) 0 t) (message_of answer.message) refl e
    by false t e = absurd (omega (arith, e, some))

    back : LivesFor answer seconds → lifetime answer ≡ seconds
    back l =
        ap (λ b. cond b (answers_ttl (message_of answer.message)) 0) (eq-eqb (code_of answer.status) 0 l.success)
        ∙ ap answers_ttl ((reading_spells answer.message l.message).1 l.spelled)
        ∙ least_only l.message.answers seconds l.one l.least
