-- What a call over pointers that may be null has, and what it leaves there.
use Rattle.std.specs.Prelude.{Bool, List, [], false, true, ℕ, ◌∷◌}
use Rattle.std.specs.Ptr.{if_non_null}
use base.Fml.{Fml, Share, feq, fex, fsep, ftrue}
use base.Fraction.{full_share}
use denote.Array.{Array}
use denote.Builtin.{u8}
use denote.RattleType.{RattleType}
use denote.RawPtr.{Ptr, block_ptr, lies_at, null_ptr}

-- a value of this type lies at the pointer, if that isn't null
abbrev pub value_at : (T : RattleType) → Ptr → T.Denot → Fml
value_at T at value = if_non_null at (lies_at T full_share at value)

-- so many bytes lie there, if it isn't null, and this share of them is lent
abbrev pub bytes_at : Ptr → ℕ → Share → List ℕ → Fml
bytes_at at count share bytes = if_non_null at (lies_at (Array u8 count) share at bytes)

-- one of the pointers is null
abbrev pub some_null : List Ptr → Bool
some_null [] = false
some_null (null_ptr ∷ pointers) = true
some_null (block_ptr block offset ∷ pointers) = some_null pointers

-- where one is null, the answer is 12, and what lies at the others is as it was; else this is so of what lies there then
abbrev pub Leaves : {T : Type 0} → Bool → (T → Fml) → T → (T → Type 0) → ℕ → Fml
Leaves {T} true lies before says answer = fsep (feq ℕ answer 12) (lies before)
Leaves {T} false lies before says answer = fex T (λ left. fsep (fex (says left) (λ _. ftrue)) (lies left))
