-- What a call answered, told in other words.
use Rattle.std.proofs.Common.{◌≡◌, ℕ, refl, subst, Err}
use Rattle.chan_types.specs.declared.refusal.Refusal.TheVariants.{Closed}
use Rattle.chan_types.specs.declared.spec.Spec.{Spec}
use Rattle.channel_model.specs.Known.{Calls, Known}
use Rattle.channel_model.specs.Meanings.{Accepts, Meaning}
use Rattle.channel_model.specs.declared.answers.Refused.{Refused}
use Rattle.c_types.specs.Told.{quiet}

-- a call means the same of an answer that is this one
pub answered : {A : Type 0} {by : ℕ} {old new : Known} {x y : A} (meaning : A → Meaning) → x ≡ y → Calls (meaning x) by old new → Calls (meaning y) by old new
answered {A} {by} {old} {new} meaning is done = subst (λ (a : A). Calls (meaning a) by old new) is done

-- a request that was refused as closed was refused so, with what was handed in
pub refused_closed : {by : ℕ} {old new : Known} (spec : Spec) (refused : Refused (Unit {0})) → refused.why ≡ Closed
    → Calls (Accepts quiet spec tt (Err refused)) by old new
    → Calls (Accepts quiet spec tt (Err (record { why = Closed; spec = spec; token = tt }))) by old new
refused_closed spec refused why done = record {
  here = done.here;
  added = done.added;
  meant = (done.meant.0, ((λ _. done.meant.1.0 why), λ _. refl), refl, refl);
  desk = done.desk;
  stands = done.stands;
  seen = done.seen;
  own = done.own;
  names = done.names;
  lawful = done.lawful;
}
