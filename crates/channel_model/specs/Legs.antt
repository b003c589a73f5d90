-- The legs of a request. A leg is one question: of a candidate's name, and for an Address request of one family.
use Rattle.std.specs.Prelude.{ℕ, Bool, ◌==◌, ◌&&◌, ◌*◌, ◌+◌, ◌/◌, ◌%◌, List, ◌∷◌, []}
use Rattle.chan_types.specs.declared.spec.Spec.{Spec}
use Rattle.chan_types.specs.declared.spec.Spec.TheVariants.{Query, Search, Address, Reverse}
use Rattle.net_addr.specs.declared.addr.Family.{Family}

-- a leg: a request, and which of its questions
pub record Leg : Type 0 where
  pub request : ℕ
  pub number : ℕ

-- the leg of a request with this number
abbrev pub leg_of : ℕ → ℕ → Leg
leg_of request number = record { request = request; number = number }

-- the leg is this one
abbrev pub is_leg : Leg → ℕ → ℕ → Bool
is_leg leg request number = (leg.request == request) && (leg.number == number)

-- the number of a candidate's first leg: for A records in an Address request, and its only one in others
abbrev pub first_leg : ℕ → ℕ
first_leg candidate = 2 * candidate

-- the number of a candidate's second leg: for AAAA records in an Address request
abbrev pub second_leg : ℕ → ℕ
second_leg candidate = 2 * candidate + 1

-- the candidate that a leg belongs to
abbrev pub candidate_of : ℕ → ℕ
candidate_of number = number / 2

-- the leg is its candidate's second
abbrev pub is_second : ℕ → Bool
is_second number = number % 2 == 1

-- the legs of a candidate, by the family that an Address request wants
abbrev pub legs_of_family : Family → ℕ → List ℕ
legs_of_family Family.Any candidate = first_leg candidate ∷ second_leg candidate ∷ []
legs_of_family Family.V4 candidate = first_leg candidate ∷ []
legs_of_family Family.V6 candidate = second_leg candidate ∷ []

-- the legs of a candidate, in order
abbrev pub legs_of : Spec → ℕ → List ℕ
legs_of (Query name kind class) candidate = first_leg candidate ∷ []
legs_of (Search name kind class) candidate = first_leg candidate ∷ []
legs_of (Address host family nosort) candidate = legs_of_family family candidate
legs_of (Reverse address) candidate = first_leg candidate ∷ []
