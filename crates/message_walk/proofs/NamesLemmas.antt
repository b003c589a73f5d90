-- Names one behind the other in rdata, without their bytes.
use Rattle.std.proofs.Common.{◌≡◌, ℕ, suc, ◌+◌, ◌-◌, ◌<◌, ◌≤◌, List, ◌++◌, Result, Ok, Err, refl, ap, arith}
use Rattle.dns_message.specs.declared.fault.MessageFault.{MessageFault}
use Rattle.dns_message.specs.Reading.{◌>>=◌, joined_of}

-- where reading ended, or the fault
abbrev pub end_of : {X : Type 0} → Result (X × ℕ) MessageFault → Result ℕ MessageFault
end_of (Ok found) = Ok found.1
end_of (Err fault) = Err fault

end_behind : (added : List ℕ) (read : Result (List ℕ × ℕ) MessageFault) → end_of (read >>= λ found. Ok (added ++ found.0, found.1)) ≡ end_of read
end_behind added (Ok found) = refl
end_behind added (Err fault) = refl

-- what ended somewhere was read
pub end_found : {X : Type 0} (read : Result (X × ℕ) MessageFault) (next : ℕ) → end_of read ≡ Ok next → (x : X) × (read ≡ Ok (x, next))
end_found (Ok found) next e = let is : found.1 ≡ next = cc in (found.0, rw is refl)
end_found (Err fault) next e = absurd cc

pub end_fault : {X : Type 0} (read : Result (X × ℕ) MessageFault) (fault : MessageFault) → end_of read ≡ Err fault → read ≡ Err fault
end_fault (Ok found) fault e = absurd cc
end_fault (Err other) fault e = let is : other ≡ fault = cc in ap (λ (d : MessageFault). Err d) is

module _ (item : ℕ → Result (List ℕ × ℕ) MessageFault) (count i p : ℕ) where
  pub ends_more : (added : List ℕ) (next : ℕ) → i < count → item p ≡ Ok (added, next) → end_of (joined_of item (count - i) p) ≡ end_of (joined_of item (count - (i + 1)) next)
  ends_more added next lt e =
      let k : count - i ≡ suc (count - (i + 1)) = omega arith in
      rw (k, e) (end_behind added (joined_of item (count - (i + 1)) next))

  pub ends_last : count ≤ i → end_of (joined_of item (count - i) p) ≡ Ok p
  ends_last past = let k : count - i ≡ 0 = omega arith in rw k refl
