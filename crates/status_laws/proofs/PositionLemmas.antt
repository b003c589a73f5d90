-- Positions of a past: what an entry more keeps holds behind it, and what an entry less keeps holds before it.
use Rattle.std.proofs.Common.{ap, subst, sym}
use Rattle.std.specs.Prelude.{List, [], ◌++◌, ◌∷◌, refl}
use Rattle.chan_types.specs.declared.journal.What.{What}
use Rattle.channel_model.specs.Journal.{Past}
use Rattle.status_laws.specs.Positions.{StandsAt}

-- the last entry stands behind the others
pub here : (what : What) (past : Past) → StandsAt what past (what ∷ past)
here what past = record { newer = []; parts = refl }

-- an entry stands where it stood behind one more
pub behind : (next what : What) (before past : Past) → StandsAt what before past → StandsAt what before (next ∷ past)
behind next what before past stands = record { newer = next ∷ stands.newer; parts = ap (λ (p : Past). next ∷ p) stands.parts }

module _ (P : Past → Type 0) (what : What) (before past : Past) (stands : StandsAt what before past) where
  -- what holds behind an entry holds of the whole, where an entry more keeps it
  pub kept : ((next : What) (p : Past) → P p → P (next ∷ p)) → P (what ∷ before) → P past
  kept more holds = subst P (sym stands.parts) (along stands.newer)
    where
      along : (newer : List What) → P (newer ++ what ∷ before)
      along [] = holds
      along (next ∷ newer) = more next (newer ++ what ∷ before) (along newer)

  -- what holds of the whole held behind an entry, where an entry less keeps it
  pub held : ((next : What) (p : Past) → P (next ∷ p) → P p) → P past → P (what ∷ before)
  held less holds = along stands.newer (subst P stands.parts holds)
    where
      along : (newer : List What) → P (newer ++ what ∷ before) → P (what ∷ before)
      along [] holds = holds
      along (next ∷ newer) holds = along newer (less next (newer ++ what ∷ before) holds)
