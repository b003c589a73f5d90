-- The legs in flight as a finite map from identifiers to legs, and what stands for it: the attempts that aren't in the
-- map yet, the map, and the pool of identifiers.
use Rattle.std.specs.Prelude.{◌≡◌, ◌<◌, ℕ, false, ◌&&◌, cond, ⊤, List, [], ◌∷◌, length, take, slice_index_or, Option, None, Some, is_some, nat_eq}
use Rattle.std.specs.Coded.{Coded, coded_ℕ}
use Rattle.std.specs.FinMap as map
use Rattle.std.specs.FinSet as set
use Rattle.std.specs.HashMap.{HashMap, get}
use Rattle.std.specs.Option.{option_or}
use Rattle.std.specs.Ordering.{nat_cmp}
use Rattle.id_pool.specs.Identifiers.{Identifiers}
use Rattle.timeout_queue.specs.Key.{key_code}
use Rattle.timeout_queue.specs.declared.key.Key.{Key}
use Rattle.leg_index.specs.declared.fresh.Fresh.{Fresh}

-- for each identifier that an attempt has, the leg whose attempt it is
abbrev pub LegsById : Type 0
LegsById = map.FinMap nat_cmp Key

-- they are told apart as finite maps from numbers to keys
abbrev pub legs_code : Coded LegsById
legs_code = map.code coded_ℕ key_code

-- the attempts that aren't in the map yet, as entries of one
abbrev pub row_entries : List Fresh → List (ℕ × Key)
row_entries [] = []
row_entries (f ∷ fs) = (f.id, f.leg) ∷ row_entries fs

-- the leg of that of them which has the identifier
abbrev pub leg_in_row : ℕ → List Fresh → Option Key
leg_in_row id [] = None
leg_in_row id (f ∷ fs) = cond (nat_eq id f.id) (Some f.leg) (leg_in_row id fs)

-- the leg of the first of them, if that has the identifier
abbrev pub front_leg : ℕ → List Fresh → Option Key
front_leg id [] = None
front_leg id (f ∷ fs) = cond (nat_eq id f.id) (Some f.leg) None

-- the leg of the identifier, of an attempt that isn't in the map yet or of one that is
abbrev pub leg_by_id : {S : Type 0} → List Fresh → HashMap ℕ Key S → ℕ → Option Key
leg_by_id fresh legs id = option_or (leg_in_row id fresh) (get nat_eq legs id)

-- no two of the attempts have one identifier
abbrev pub AreDistinct : List Fresh → Type 0
AreDistinct [] = ⊤
AreDistinct (f ∷ fs) = (leg_in_row f.id fs ≡ None) × AreDistinct fs

-- no identifier has a leg by both
abbrev pub NoneByBoth : (ℕ → Option Key) → (ℕ → Option Key) → Type 0
NoneByBoth here there = (id : ℕ) → (is_some (here id) && is_some (there id)) ≡ false

-- the pool has those identifiers that have a leg
abbrev pub AreTaken : Identifiers → (ℕ → Option Key) → Type 0
AreTaken pool leg = (id : ℕ) → set.contains pool id ≡ is_some (leg id)

-- each identifier stands once
pub record StandOnce {S : Type 0} (fresh : List Fresh) (legs : HashMap ℕ Key S) : Type 0 where
  -- the identifiers of the attempts that aren't in the map yet differ from one another
  pub distinct : AreDistinct fresh
  -- none of them is in the map
  pub apart : NoneByBoth (λ id. leg_in_row id fresh) (get nat_eq legs)

-- how the three stand together
pub record IsFlightIndex {S : Type 0} (fresh : List Fresh) (legs : HashMap ℕ Key S) (pool : Identifiers) : Type 0 where
  -- the pool has the identifiers of the attempts that aren't in the map yet and of those that are, and no other
  pub taken : AreTaken pool (leg_by_id fresh legs)
  -- each of them stands once
  pub once : StandOnce fresh legs

-- the identifier has the leg, and all others have theirs
abbrev pub Gains : ℕ → Key → (ℕ → Option Key) → (ℕ → Option Key) → Type 0
Gains id leg old new = (other : ℕ) → new other ≡ cond (nat_eq id other) (Some leg) (old other)

-- the identifier has no leg, and all others have theirs
abbrev pub Loses : ℕ → (ℕ → Option Key) → (ℕ → Option Key) → Type 0
Loses id old new = (other : ℕ) → new other ≡ cond (nat_eq id other) None (old other)

-- all identifiers have their legs
abbrev pub SameLegs : (ℕ → Option Key) → (ℕ → Option Key) → Type 0
SameLegs old new = (id : ℕ) → new id ≡ old id

-- the first attempt with the identifier is at this index
pub record IsFreshAt (id : ℕ) (fresh : List Fresh) (index : ℕ) : Type 0 where
  pub inside : index < length fresh
  pub here : (d : Fresh) → id ≡ (slice_index_or fresh index d).id
  pub before : leg_in_row id (take index fresh) ≡ None

-- it is such an index, or no attempt has the identifier
abbrev pub FindsFresh : ℕ → List Fresh → Option ℕ → Type 0
FindsFresh id fresh None = leg_in_row id fresh ≡ None
FindsFresh id fresh (Some index) = IsFreshAt id fresh index
