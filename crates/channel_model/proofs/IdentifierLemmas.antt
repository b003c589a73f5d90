-- Where all identifiers are in flight, at least as many attempts are.
use Rattle.std.proofs.Common.{true≢false, sym, ⊎_elim, arith, subst, eqb-true, ne_eqb, ◌∙◌}
use Rattle.std.proofs.lemmas.Bool.{cases_Bool, cond_both}
use Rattle.std.specs.List.{list_any}
use Rattle.std.specs.Prelude.{ℕ, List, [], ◌∷◌, if◌then◌else◌, ◌==◌, ◌≡◌, true, length, ◌+◌, false, ◌||◌, ◌≢◌, refl, ◌<◌, ◌≤◌, zero, suc, ◌^◌}
use Rattle.channel_model.specs.Flight.{Attempt, in_flight}
use Rattle.channel_model.specs.Identifiers.{AllUsed}
use Rattle.channel_model.specs.Journal.{Past}
use Rattle.channel_model.specs.Setting.{Setting}

-- the attempts without the first that has the identifier
abbrev without_id : ℕ → List Attempt → List Attempt
without_id id [] = []
without_id id (a ∷ attempts) = if a.id == id then attempts else a ∷ without_id id attempts

-- there is one attempt more where one has it
one_more : (id : ℕ) (attempts : List Attempt) → list_any (λ (a : Attempt). a.id == id) attempts ≡ true → length attempts ≡ length (without_id id attempts) + 1
one_more id [] used = absurd (true≢false (sym used))
one_more id (a ∷ attempts) used = ⊎_elim
    (λ (here : (a.id == id) ≡ true). rw here (omega arith))
    (λ (other : (a.id == id) ≡ false).
    let rest = one_more id attempts (subst (λ b. (b || list_any (λ (c : Attempt). c.id == id) attempts) ≡ true) other used) in
    rw other (omega (arith, rest)))
    (cases_Bool (a.id == id))

-- and other identifiers are used as before
others_used : (id other : ℕ) (attempts : List Attempt) → other ≢ id → list_any (λ (a : Attempt). a.id == other) attempts ≡ true → list_any (λ (a : Attempt). a.id == other) (without_id id attempts) ≡ true
others_used id other [] apart used = used
others_used id other (a ∷ attempts) apart used =
    cond_both (a.id == id) attempts (a ∷ without_id id attempts) (λ l. list_any (λ (c : Attempt). c.id == other) l ≡ true)
    (λ here. let same : a.id ≡ id = eqb-true a.id id here in
    subst (λ b. (b || list_any (λ (c : Attempt). c.id == other) attempts) ≡ true) (ne_eqb a.id other (λ e. apart (sym e ∙ same))) used)
    (λ _. ⊎_elim
    (λ (own : (a.id == other) ≡ true). rw own refl)
    (λ (not_own : (a.id == other) ≡ false).
    rw not_own (others_used id other attempts apart (subst (λ b. (b || list_any (λ (c : Attempt). c.id == other) attempts) ≡ true) not_own used)))
    (cases_Bool (a.id == other)))

-- as many attempts as identifiers below a bound, where each of these is used
pub as_many : (bound : ℕ) (attempts : List Attempt) → ((id : ℕ) → id < bound → list_any (λ (a : Attempt). a.id == id) attempts ≡ true) → bound ≤ length attempts
as_many zero attempts used = omega arith
as_many (suc bound) attempts used =
    let fewer = as_many bound (without_id bound attempts) (λ id below. others_used bound id attempts (λ (e : id ≡ bound). omega arith) (used id (omega arith))) in
    omega (arith, fewer, one_more bound attempts (used bound (omega arith)))

-- where all identifiers are in flight, 65,536 attempts are, or more
pub all_used_many : (setting : Setting) (past : Past) → AllUsed setting past → 2 ^ 16 ≤ length (in_flight setting past)
all_used_many setting past used = as_many (2 ^ 16) (in_flight setting past) used
