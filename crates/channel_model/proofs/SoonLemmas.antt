-- Tests of positions: where one holds, where another follows, and where more entries come.
use Rattle.std.proofs.Common.{◌≡◌, ◌==◌, ◌&&◌, ◌||◌, ℕ, Bool, true, false, not, List, [], ◌∷◌, ◌++◌, refl, ⊎_elim}
use Rattle.std.specs.List.{list_all}
use Rattle.std.proofs.lemmas.Bool.{and_from, and_parts, or_cases, or_left, or_right}
use Rattle.chan_types.specs.declared.journal.Entry.{Entry}
use Rattle.channel_model.specs.Course.{Test, anywhere, holds_before}
use Rattle.channel_model.specs.Journal.{Past, followed_by}
use Rattle.channel_model.specs.Turn.{somewhere}

module _ (stops : Entry → Bool) where
  -- where it holds here
  pub holds-here : (test : Test) (past : Past) (es : List Entry) → test past es ≡ true → holds_before stops test past es ≡ true
  holds-here test past [] h = h
  holds-here test past (e ∷ es) h = or_left (test past (e ∷ es)) (not (stops e) && holds_before stops test (e.what ∷ past) es) h

  -- where it holds at the end, and no entry stops the search before
  pub holds-end : (test : Test) (past : Past) (es : List Entry) → list_all (λ e. not (stops e)) es ≡ true → test (followed_by past es) [] ≡ true → holds_before stops test past es ≡ true
  holds-end test past [] none h = h
  holds-end test past (e ∷ es) none h =
      let parts = and_parts (not (stops e)) (list_all (λ x. not (stops x)) es) none in
      or_right (test past (e ∷ es)) (not (stops e) && holds_before stops test (e.what ∷ past) es)
      (and_from (not (stops e)) (holds_before stops test (e.what ∷ past) es) parts.0 (holds-end test (e.what ∷ past) es parts.1 h))

  -- where another holds there or later wherever it does, up to the same end
  pub holds-then : (end : Past) (one other : Test) → ((past : Past) (es : List Entry) → followed_by past es ≡ end → one past es ≡ true → holds_before stops other past es ≡ true) →
      (past : Past) (es : List Entry) → followed_by past es ≡ end → holds_before stops one past es ≡ true → holds_before stops other past es ≡ true
  holds-then end one other follows past [] is h = follows past [] is h
  holds-then end one other follows past (e ∷ es) is h = ⊎_elim
      (λ (here : one past (e ∷ es) ≡ true). follows past (e ∷ es) is here)
      (λ (later : (not (stops e) && holds_before stops one (e.what ∷ past) es) ≡ true).
      let parts = and_parts (not (stops e)) (holds_before stops one (e.what ∷ past) es) later in
      or_right (other past (e ∷ es)) (not (stops e) && holds_before stops other (e.what ∷ past) es)
      (and_from (not (stops e)) (holds_before stops other (e.what ∷ past) es) parts.0 (holds-then end one other follows (e.what ∷ past) es is parts.1)))
      (or_cases (one past (e ∷ es)) (not (stops e) && holds_before stops one (e.what ∷ past) es) h)

  -- where another holds wherever it does with more entries behind
  pub holds-grows : (one other : Test) (more : List Entry) → ((past : Past) (es : List Entry) → one past es ≡ true → other past (es ++ more) ≡ true) →
      (past : Past) (es : List Entry) → holds_before stops one past es ≡ true → holds_before stops other past (es ++ more) ≡ true
  holds-grows one other more grows past [] h = holds-here other past more (grows past [] h)
  holds-grows one other more grows past (e ∷ es) h = ⊎_elim
      (λ (here : one past (e ∷ es) ≡ true). or_left (other past (e ∷ (es ++ more))) (not (stops e) && holds_before stops other (e.what ∷ past) (es ++ more)) (grows past (e ∷ es) here))
      (λ (later : (not (stops e) && holds_before stops one (e.what ∷ past) es) ≡ true).
      let parts = and_parts (not (stops e)) (holds_before stops one (e.what ∷ past) es) later in
      or_right (other past (e ∷ (es ++ more))) (not (stops e) && holds_before stops other (e.what ∷ past) (es ++ more))
      (and_from (not (stops e)) (holds_before stops other (e.what ∷ past) (es ++ more)) parts.0 (holds-grows one other more grows (e.what ∷ past) es parts.1)))
      (or_cases (one past (e ∷ es)) (not (stops e) && holds_before stops one (e.what ∷ past) es) h)

  -- where it makes something hold somewhere
  pub holds-somewhere : (test : Test) (goal : Past → Bool) → ((past : Past) (es : List Entry) → test past es ≡ true → somewhere goal past es ≡ true) →
      (past : Past) (es : List Entry) → holds_before stops test past es ≡ true → somewhere goal past es ≡ true
  holds-somewhere test goal makes past [] h = makes past [] h
  holds-somewhere test goal makes past (e ∷ es) h = ⊎_elim
      (λ (here : test past (e ∷ es) ≡ true). makes past (e ∷ es) here)
      (λ (later : (not (stops e) && holds_before stops test (e.what ∷ past) es) ≡ true).
      or_right (goal past) (somewhere goal (e.what ∷ past) es)
      (holds-somewhere test goal makes (e.what ∷ past) es (and_parts (not (stops e)) (holds_before stops test (e.what ∷ past) es) later).1))
      (or_cases (test past (e ∷ es)) (not (stops e) && holds_before stops test (e.what ∷ past) es) h)

  -- where it holds at all
  pub holds-anywhere : (test : Test) (past : Past) (es : List Entry) → holds_before stops test past es ≡ true → anywhere test past es ≡ true
  holds-anywhere test past [] h = h
  holds-anywhere test past (e ∷ es) h = ⊎_elim
      (λ (here : test past (e ∷ es) ≡ true). or_left (test past (e ∷ es)) (anywhere test (e.what ∷ past) es) here)
      (λ (later : (not (stops e) && holds_before stops test (e.what ∷ past) es) ≡ true).
      or_right (test past (e ∷ es)) (anywhere test (e.what ∷ past) es)
      (holds-anywhere test (e.what ∷ past) es (and_parts (not (stops e)) (holds_before stops test (e.what ∷ past) es) later).1))
      (or_cases (test past (e ∷ es)) (not (stops e) && holds_before stops test (e.what ∷ past) es) h)

-- where it holds at the end
pub anywhere-end : (test : Test) (past : Past) (es : List Entry) → test (followed_by past es) [] ≡ true → anywhere test past es ≡ true
anywhere-end test past [] h = h
anywhere-end test past (e ∷ es) h = or_right (test past (e ∷ es)) (anywhere test (e.what ∷ past) es) (anywhere-end test (e.what ∷ past) es h)
