-- A log that is told goes on with calls, one list after the other.
use Rattle.std.proofs.Common.{◌≡◌, List, [], ◌++◌, Option, Some, None, refl, sym, ap, ◌∙◌, append_assoc}
use Rattle.std.specs.Prelude.{option_map}
use Rattle.std.proofs.lemmas.List.{append-nil}
use Rattle.net_world.specs.declared.log.WorldCall.{WorldCall}

-- by no call it stays
pub none_more : (log : Option (List WorldCall)) → log ≡ option_map (λ calls. calls ++ []) log
none_more None = refl
none_more (Some calls) = ap (λ (l : List WorldCall). Some l) (sym (append-nil calls))

-- and so where it is the same
pub same_more : (before after : Option (List WorldCall)) → after ≡ before → after ≡ option_map (λ calls. calls ++ []) before
same_more before after same = same ∙ none_more before

-- by two lists it goes on with both
pub both_more : (first second : List WorldCall) (before middle after : Option (List WorldCall)) → middle ≡ option_map (λ calls. calls ++ first) before → after ≡ option_map (λ calls. calls ++ second) middle
    → after ≡ option_map (λ calls. calls ++ (first ++ second)) before
both_more first second None middle after begins goes = rw (goes, begins) refl
both_more first second (Some calls) middle after begins goes = rw (goes, begins) (ap (λ (l : List WorldCall). Some l) (append_assoc calls first second))
