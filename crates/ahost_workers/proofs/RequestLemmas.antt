-- Requests with the callbacks of their bodies.
use Rattle.std.proofs.Common.{◌≡◌, ◌∙◌, ℕ, All, List, None, Option, [], ◌∷◌, ◌++◌, drop, length, map, refl, ap, subst, sym, arith}
use Rattle.std.proofs.lemmas.List.{append-nil, append_assoc}
use Rattle.chan_types.specs.Plans.{Plan}
use Rattle.chan_types.specs.declared.spec.Spec.{Spec}
use Rattle.channel_model.specs.Commands.{Asking}
use Rattle.completion_ticket.specs.States.{CallbackState}
use Rattle.owner_session.specs.Asked.{askings}
use Rattle.ahost_workers.specs.Asked.{callback_of, requests_of}
use Rattle.shared_session.specs.Asking.{askings as asked_of}

module _ {B : Type 0} (plan : B → Plan) (name : B → ℕ) where
  -- they ask what the scripts of the bodies do
  pub asks_the_same : (specs : List Spec) (bodies : List B) → asked_of (requests_of plan name specs bodies) ≡ askings specs (map plan bodies)
  asks_the_same [] bodies = refl
  asks_the_same (spec ∷ specs) [] = refl
  asks_the_same (spec ∷ specs) (body ∷ bodies) = ap (λ (rest : List Asking). record { spec = spec; script = plan body } ∷ rest) (asks_the_same specs bodies)

  module _ (whole done : List (Spec × CallbackState)) where
    -- one more has its callback
    pub one_more : (specs more : List Spec) (bodies others : List B) (spec : Spec) (body : B) → specs ≡ spec ∷ more → bodies ≡ body ∷ others →
        whole ≡ done ++ requests_of plan name specs bodies → whole ≡ (done ++ (spec, callback_of plan name body) ∷ []) ++ requests_of plan name more others
    one_more specs more bodies others spec body specs_are bodies_are is =
        is ∙ ap (λ ss. done ++ requests_of plan name ss bodies) specs_are ∙ ap (λ bs. done ++ requests_of plan name (spec ∷ more) bs) bodies_are
        ∙ sym (append_assoc done ((spec, callback_of plan name body) ∷ []) (requests_of plan name more others))

    -- none is left
    pub no_spec : (specs : List Spec) (bodies : List B) → specs ≡ [] → whole ≡ done ++ requests_of plan name specs bodies → done ≡ whole
    no_spec specs bodies none is = sym (is ∙ ap (λ ss. done ++ requests_of plan name ss bodies) none ∙ append-nil done)

    pub no_body : (specs : List Spec) (bodies : List B) → bodies ≡ [] → whole ≡ done ++ requests_of plan name specs bodies → done ≡ whole
    no_body [] bodies none is = sym (is ∙ append-nil done)
    no_body (spec ∷ specs) bodies none is = sym (is ∙ ap (λ bs. done ++ requests_of plan name (spec ∷ specs) bs) none ∙ append-nil done)

-- before the first is made, all are left
pub whole_left : {B : Type 0} (plan : B → Plan) (name : B → ℕ) (specs left : List Spec) (bodies rest : List B) (done : List (Spec × CallbackState)) → done ≡ [] → left ≡ specs → rest ≡ bodies →
    requests_of plan name specs bodies ≡ done ++ requests_of plan name left rest
whole_left plan name specs left bodies rest done none specs_are bodies_are = rw (none, specs_are, bodies_are) refl

-- a list that is the same without its first item has none
pub none_left : {A : Type 0} (xs : List A) → xs ≡ drop 1 xs → xs ≡ []
none_left [] is = refl
none_left (x ∷ xs) is = let same : x ∷ xs ≡ xs = is in absurd (omega (arith, ap length same))

-- what was told to none of some was not told to the first
pub first_fresh : {B : Type 0} (told : B → Option ℕ) (bodies others : List B) (body : B) → bodies ≡ body ∷ others → All (λ item. told item ≡ None) bodies → told body ≡ None
first_fresh told bodies others body is fresh =
    let each : All (λ item. told item ≡ None) (body ∷ others) = subst (λ items. All (λ item. told item ≡ None) items) is fresh in
    each 0 body (omega arith)
