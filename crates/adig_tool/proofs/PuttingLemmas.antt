-- The text that is put, by another name.
use Rattle.std.proofs.Common.{◌≡◌, ℕ, subst}
use Rattle.std.specs.Prelude.{Some}
use Rattle.tool_line.specs.declared.ending.Exit.{Exit}
use Rattle.tool_line.specs.Outside.{OutputTold}
use Rattle.tool_line.specs.Put.{IsPut}
use Rattle.tool_line.specs.Words.{Text}

-- a text that is equal to the one that was put
pub put_same : (text told : Text) (end : Exit) (status : ℕ) (old new : OutputTold) → text ≡ told → IsPut (Some text) end status old new → IsPut (Some told) end status old new
put_same text told end status old new is put = subst (λ t. IsPut (Some t) end status old new) is put
