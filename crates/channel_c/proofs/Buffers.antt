-- Bytes of a buffer, as its cells.
use mathlib.Core.Path.{◌≡◌, ap, refl, subst}
use mathlib.Core.List.{List, [], ◌∷◌}
use Prim.Native.Nat.{ℕ, ◌+◌}
use lib.ListN.{length}
use seplogic.Ra.Ura.{Ura}
use base.Fraction.{full_share}
use base.Fml.{Fml, feq, fsep}
use base.Logic.{ent}
use types.Logic.{Logic, sem}
use types.SemTy.{cells}
use denote.Array.{Array}
use denote.Builtin.{u8}
use denote.Laws.{Typed}
use denote.Memory.{mem, part_at}
use lib.Dec.{T}
use mir.Syntax.{Ty}
use mir.Val.{Val, WT, has_ty}
use denote.RawPtr.Bytes.{bytes, bytes_apart, bytes_whole}

pub as_cells : (xs : List ℕ) (b o : ℕ) → bytes full_share xs b o ≡ cells (mem u8) xs b o
as_cells [] b o = refl
as_cells (x ∷ xs) b o = ap (fsep (part_at u8 full_share x b o)) (as_cells xs b (o + (mem u8).size))

module _ {M : Type 1} {𝓤 : Ura M} (𝓛 : Logic 𝓤) where
  -- a buffer is its cells
  pub buffer_out : (n : ℕ) (xs : List ℕ) (b o : ℕ) → ent 𝓤 (sem 𝓛 (part_at (Array u8 n) full_share xs b o)) (sem 𝓛 (fsep (feq ℕ (length xs) n) (cells (mem u8) xs b o)))
  buffer_out n xs b o = subst (λ (F : Fml). ent 𝓤 (sem 𝓛 (part_at (Array u8 n) full_share xs b o)) (sem 𝓛 (fsep (feq ℕ (length xs) n) F))) (as_cells xs b o) (bytes_apart 𝓛 full_share n xs b o)

  -- and they are a buffer again
  pub buffer_in : (n : ℕ) (xs : List ℕ) (b o : ℕ) → ent 𝓤 (sem 𝓛 (fsep (feq ℕ (length xs) n) (cells (mem u8) xs b o))) (sem 𝓛 (part_at (Array u8 n) full_share xs b o))
  buffer_in n xs b o = subst (λ (F : Fml). ent 𝓤 (sem 𝓛 (fsep (feq ℕ (length xs) n) F)) (sem 𝓛 (part_at (Array u8 n) full_share xs b o))) (as_cells xs b o) (bytes_whole 𝓛 full_share n xs b o)

-- a list of values that has one type is one value of it
pub alone : (τ : Ty) (vs : List Val) → Typed (τ ∷ []) vs → (v : Val) × ((vs ≡ v ∷ []) × (T (has_ty τ v) × WT v))
alone τ [] t = absurd t
alone τ (v ∷ []) t = (v, (refl, t.0))
alone τ (v ∷ w ∷ vs) t = absurd t.1
