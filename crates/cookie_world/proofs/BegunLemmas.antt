-- How a World's log began is the same behind each call that is counted.
use Rattle.std.proofs.Common.{◌≡◌, ℕ, ◌+◌, ◌-◌, ◌≤◌, List, [], ◌∷◌, ◌++◌, length, Bool, Option, Some, None, Result, Ok, Err, refl, ap, arith}
use Rattle.std.specs.Prelude.{option_map}
use Rattle.std.proofs.lemmas.List.{take-append-le, length-append}
use base.Stored.{Gv, gnil, gnum, gcons}
use Rattle.item_list.specs.declared.no_memory.NoMemory.{NoMemory}
use Rattle.net_world.specs.declared.log.WorldCall.{WorldCall}
use Rattle.net_world.specs.Cause.{HasCause}
use Rattle.net_world.specs.Logs.{Logs}
use Rattle.cookie_world.specs.Begun.{calls_ago, begun_origin, counted, log_code}

-- one call more was counted, and stands at the end
ago_more : (count : ℕ) (call : WorldCall) (log : Option (List WorldCall)) → calls_ago (count + 1) (option_map (λ calls. calls ++ call ∷ []) log) ≡ calls_ago count log
ago_more count call None = refl
ago_more count call (Some calls) =
    let same : length (calls ++ call ∷ []) - (count + 1) ≡ length calls - count = omega (arith, length-append calls (call ∷ [])) in
    let fits : length calls - count ≤ length calls = omega arith in
    ap (λ (l : List WorldCall). Some l) (rw same (take-append-le (length calls - count) calls (call ∷ []) fits))

-- a call that is counted leaves how the log began
began_stays : {T : Type 0} (call : T → WorldCall) (result : Result T NoMemory) (count after : ℕ) (old new : Option (List WorldCall)) → Logs old new result call → after ≡ count + counted result → calls_ago after new ≡ calls_ago count old
began_stays call (Ok answer) count after old new log more = rw (more, log) (ago_more count (call answer) old)
began_stays call (Err e) count after old new log more =
    let same : after ≡ count = omega (arith, more) in
    rw (same, log) refl

-- and so the origin
pub origin_stays : {T : Type 0} (call : T → WorldCall) (result : Result T NoMemory) (count after : ℕ) (old new : Option (List WorldCall)) (made_old made_new : Gv) → Logs old new result call → after ≡ count + counted result → made_new ≡ made_old
    → begun_origin made_new (calls_ago after new) ≡ begun_origin made_old (calls_ago count old)
origin_stays call result count after old new made_old made_new log more made = rw (made, began_stays call result count after old new log more) refl

-- want of memory leaves a count
pub no_cause : {T : Type 0} (count : ℕ) (fails : T → Bool) (e : NoMemory) → HasCause count count fails (Err e)
no_cause count fails e = record { later = omega arith; cause = tt; same = refl }

-- the parts of a stored pair
second : Gv → Gv
second gnil = gnil
second (gnum n) = gnil
second (gcons a b) = b

first : Gv → Gv
first gnil = gnil
first (gnum n) = gnil
first (gcons a b) = a

-- an origin tells how the World was made, and how its log began
pub origin_tells : (one other : Gv) (log began : Option (List WorldCall)) → begun_origin one log ≡ begun_origin other began → (one ≡ other) × (log ≡ began)
unfolding first second
origin_tells one other log began same = (ap first same, log_code.inj log began (ap second same))
