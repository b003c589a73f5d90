-- Steps of reading: when they give a value, and when a fault.
use Rattle.std.proofs.Common.{◌<◌, ◌≡◌, ℕ, ◌+◌, ◌-◌, ◌≤◌, Bool, true, false, cond, ltb, List, length, Result, Ok, Err, inl, inr, refl, ap}
use Rattle.std.specs.Prelude.{◌⊎◌, slice_range}
use Rattle.std.proofs.lemmas.Bool.{ltb-true, ltb-false, lt-ltb, le-ltb}
use Rattle.dns_message.specs.declared.fault.MessageFault.{MessageFault}
use Rattle.dns_message.specs.declared.fault.MessageFault.TheVariants.{ShortPart}
use Rattle.dns_message.specs.Reading.{◌>>=◌, part_of}

-- both of two steps gave a value
pub bind_ok : {A B : Type 0} (r : Result A MessageFault) (f : A → Result B MessageFault) (y : B) → (r >>= f) ≡ Ok y → (x : A) × (r ≡ Ok x) × (f x ≡ Ok y)
bind_ok (Ok x) f y e = (x, refl, e)
bind_ok (Err fault) f y e = absurd cc

-- a first step that gave a value
pub bind_first : {A B : Type 0} (r : Result A MessageFault) (f : A → Result B MessageFault) (x : A) → r ≡ Ok x → (r >>= f) ≡ f x
bind_first (Ok y) f x e = let same : y ≡ x = cc in rw same refl
bind_first (Err fault) f x e = absurd cc

-- a step that gave no value ends the reading
pub bind_stops : {A B : Type 0} (r : Result A MessageFault) (f : A → Result B MessageFault) (fault : MessageFault) → r ≡ Err fault → (r >>= f) ≡ Err fault
bind_stops (Ok y) f fault e = absurd cc
bind_stops (Err other) f fault e = let same : other ≡ fault = cc in rw same refl

-- a fault is no value
pub never : {A P : Type 0} (fault : MessageFault) (y : A) → ◌≡◌ {A = Result A MessageFault} (Err fault) (Ok y) → P
never fault y e = absurd cc

pub ok_is : {A : Type 0} (x y : A) → ◌≡◌ {A = Result A MessageFault} (Ok x) (Ok y) → x ≡ y
ok_is x y e = cc

-- a test that found no fault
pub guard_ok : {A : Type 0} (b : Bool) (fault : MessageFault) (r : Result A MessageFault) (y : A) → cond b (Err fault) r ≡ Ok y → (b ≡ false) × (r ≡ Ok y)
guard_ok true fault r y e = absurd cc
guard_ok false fault r y e = (refl, e)

-- a test that had to hold
pub held_ok : {A : Type 0} (b : Bool) (fault : MessageFault) (r : Result A MessageFault) (y : A) → cond b r (Err fault) ≡ Ok y → (b ≡ true) × (r ≡ Ok y)
held_ok true fault r y e = (refl, e)
held_ok false fault r y e = absurd cc

-- a part that is there
pub part_ok : (bytes : List ℕ) (p len : ℕ) (part : List ℕ) → part_of bytes p len ≡ Ok part → (len ≤ length bytes - p) × (slice_range bytes p (p + len) ≡ part)
part_ok bytes p len part e =
    let g = guard_ok (ltb (length bytes - p) len) (ShortPart p) (Ok (slice_range bytes p (p + len))) part e in
    (ltb-false (length bytes - p) len g.0, ok_is (slice_range bytes p (p + len)) part g.1)

pub part_is : (bytes : List ℕ) (p len : ℕ) → len ≤ length bytes - p → part_of bytes p len ≡ Ok (slice_range bytes p (p + len))
part_is bytes p len fits = let test : ltb (length bytes - p) len ≡ false = le-ltb (length bytes - p) len fits in rw test refl

-- ---- faults

-- one of two steps gave the fault
pub bind_err : {A B : Type 0} (r : Result A MessageFault) (f : A → Result B MessageFault) (fault : MessageFault) → (r >>= f) ≡ Err fault → (r ≡ Err fault) ⊎ ((x : A) × (r ≡ Ok x) × (f x ≡ Err fault))
bind_err (Ok x) f fault e = inr (x, refl, e)
bind_err (Err other) f fault e = inl (let same : other ≡ fault = cc in ap (λ (d : MessageFault). Err d) same)

-- a value is no fault
pub never_err : {A P : Type 0} (y : A) (fault : MessageFault) → ◌≡◌ {A = Result A MessageFault} (Ok y) (Err fault) → P
never_err y fault e = absurd cc

pub err_is : {A : Type 0} (x y : MessageFault) → ◌≡◌ {A = Result A MessageFault} (Err x) (Err y) → x ≡ y
err_is x y e = cc

-- the test found the fault, or a later step did
pub guard_err : {A : Type 0} (b : Bool) (found : MessageFault) (r : Result A MessageFault) (fault : MessageFault) → cond b (Err found) r ≡ Err fault → ((b ≡ true) × (found ≡ fault)) ⊎ ((b ≡ false) × (r ≡ Err fault))
guard_err true found r fault e = inl (refl, cc)
guard_err false found r fault e = inr (refl, e)

-- a part that is cut
pub part_cut : (bytes : List ℕ) (p len : ℕ) → length bytes - p < len → part_of bytes p len ≡ Err (ShortPart p)
part_cut bytes p len short = let test : ltb (length bytes - p) len ≡ true = lt-ltb (length bytes - p) len short in rw test refl

pub part_err : (bytes : List ℕ) (p len : ℕ) (fault : MessageFault) → part_of bytes p len ≡ Err fault → (length bytes - p < len) × (ShortPart p ≡ fault)
part_err bytes p len fault e = elim (guard_err (ltb (length bytes - p) len) (ShortPart p) (Ok (slice_range bytes p (p + len))) fault e) [
  | inl short ↦ (ltb-true (length bytes - p) len short.0, short.1)
  | inr whole ↦ never_err (slice_range bytes p (p + len)) fault whole.1
]
