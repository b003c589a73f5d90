-- What the body of a callback is: its script, its name, what it was told, and who gave it.
use Rattle.std.specs.Prelude.{ℕ, Bool, true, false, Option, None, Some}
use Rattle.chan_types.specs.Plans.{Plan}
use Rattle.completion_ticket.specs.States.{CallbackState}
use Rattle.completion_ticket.specs.declared.body.Body.{Body}
use Rattle.completion_ticket.specs.declared.body.Body.TheVariants.{Boxed, Plain}

-- the caller gave the body
abbrev pub is_boxed : {B : Type 0} → Body B → Bool
is_boxed (Boxed body) = true
is_boxed (Plain scripted) = false

-- the caller's body, if it is one
abbrev pub given : {B : Type 0} → Body B → Option B
given (Boxed body) = Some body
given (Plain scripted) = None

-- the name of the body: a caller's body has this name, and a script alone its tag
abbrev pub name_of : {B : Type 0} → (B → ℕ) → Body B → ℕ
name_of name (Boxed body) = name body
name_of name (Plain scripted) = scripted.plan.tag

-- the callback with this body, where a caller's body has this script and this name
abbrev pub state_of : {B : Type 0} → (B → Plan) → (B → ℕ) → Body B → CallbackState
state_of plan name (Boxed body) = record { plan = plan body; boxed = true; name = name body }
state_of plan name (Plain scripted) = record { plan = scripted.plan; boxed = false; name = scripted.plan.tag }

-- the number of the answer that the body was told, where a caller's body was told this
abbrev pub told_of : {B : Type 0} → (B → Option ℕ) → Body B → Option ℕ
told_of told (Boxed body) = told body
told_of told (Plain scripted) = scripted.told
