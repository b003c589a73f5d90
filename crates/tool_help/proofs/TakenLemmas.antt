-- How many of the words in front may stand.
use Rattle.std.proofs.Common.{◌≡◌, ◌∙◌, ◌<◌, ◌≤◌, ◌-◌, Bool, List, length, map, refl, subst, sym, take, inl, inr, ap, arith, ℕ}
use Rattle.std.specs.Prelude.{Err, IfOk, MatchBool, Ok, Result}
use Rattle.std.proofs.lemmas.List.{length-map, take-map}
use Rattle.item_list.specs.declared.no_memory.NoMemory.{NoMemory}
use Rattle.tool_help.specs.Taken.{IsTakenBy, MayStand, Stands}
use Rattle.tool_line.specs.Words.{Text}
use Rattle.tool_line.specs.declared.ending.Tool.{Tool}
use Rattle.tool_line.specs.declared.fault.WordFault.{WordFault}
use Rattle.tool_line.specs.declared.fault.WordFault.TheVariants.{Refused, NoMemory as OutOfMemory}

-- what the answer of the reader of words says of them
pub tells_taken : {T : Type 0} (Asked : T → Type 0) (asked : Result T WordFault) (result : Result Bool NoMemory) → IsTakenBy asked result → IfOk asked Asked →
    (asked ≡ Err Refused → (ask : T) → Asked ask → ⊥) → IfOk result (λ are. MatchBool are ((ask : T) × Asked ask) ((ask : T) × Asked ask → ⊥))
tells_taken {T} Asked (Ok ask) result is read refused =
    subst (λ r. IfOk r (λ are. MatchBool are ((ask : T) × Asked ask) ((ask : T) × Asked ask → ⊥))) (sym is) (ask, read)
tells_taken {T} Asked (Err Refused) result is read refused =
    subst (λ r. IfOk r (λ are. MatchBool are ((ask : T) × Asked ask) ((ask : T) × Asked ask → ⊥))) (sym is) (λ taken. refused refl taken.0 taken.1)
tells_taken Asked (Err OutOfMemory) (Ok are) is read refused = absurd (cc is)
tells_taken Asked (Err OutOfMemory) (Err fault) is read refused = tt

-- no more of the words than that may stand
pub record StandsAtMost (tool : Tool) {W : Type 0} (text : W → Text) (words : List W) (count : ℕ) : Type 0 where
  pub within : count ≤ length words
  pub no_more : (more : ℕ) → count < more → more ≤ length words → MayStand tool (map text (take more words)) → ⊥

module _ (tool : Tool) {W : Type 0} (text : W → Text) (words : List W) where
  no_more_of : (count : ℕ) → StandsAtMost tool text words count → (more : ℕ) → count < more → more ≤ length (map text words) → MayStand tool (take more (map text words)) → ⊥
  no_more_of count most more above within stands =
      most.no_more more above (omega (arith, within, length-map words text)) (subst (MayStand tool) (take-map text more words) stands)

  -- so many stand
  pub some_stand : (count : ℕ) (part : List W) → part ≡ take count words → MayStand tool (map text part) → StandsAtMost tool text words count → Stands tool (map text words) count
  some_stand count part is stands most = record {
    within = omega (arith, most.within, length-map words text);
    front = inr (subst (MayStand tool) (ap (map text) is ∙ sym (take-map text count words)) stands);
    no_more = no_more_of count most;
  }

  -- none stands
  pub none_stand : (count : ℕ) → count ≡ 0 → StandsAtMost tool text words count → Stands tool (map text words) 0
  none_stand count none most = record {
    within = omega arith;
    front = inl refl;
    no_more = no_more_of 0 (subst (StandsAtMost tool text words) none most);
  }
