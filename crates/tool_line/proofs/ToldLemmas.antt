-- What is said under the names is what the uses give.
use Rattle.std.proofs.Common.{◌≡◌, refl, Option, Some, None, List}
use mathlib.Core.Path.{fun_ext}
use Rattle.tool_line.specs.Parser.{IsReadAs, Tells}
use Rattle.tool_line.specs.Words.{Use}
use Rattle.tool_line.specs.declared.words.Words.{Words}

-- words that were read
pub told_uses : (o : Option (List Use)) (r : Option Words) (w : Words) → r ≡ Some w → Tells o r → IsReadAs o w
told_uses None r w is h = let bad : Tells None (Some w) = rw is at h in absurd cc
told_uses (Some us) r w is h = let told : Tells (Some us) (Some w) = rw is at h in (us, refl, fun_ext told)

-- words that were refused
pub told_refused : (o : Option (List Use)) (r : Option Words) → r ≡ None → Tells o r → o ≡ None
told_refused None r is h = refl
told_refused (Some us) r is h = let bad : Tells (Some us) None = rw is at h in absurd bad
