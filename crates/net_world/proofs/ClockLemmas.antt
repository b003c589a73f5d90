-- The moment to which a scripted World's wait goes.
use Rattle.std.proofs.Common.{◌≡◌, ◌≢◌, ◌⊎◌, inl, inr, ⊎_elim, ℕ, ◌≤◌, min, List, [], ◌∷◌, Bool, true, false, cond, map, filter, refl, arith}
use Rattle.std.proofs.lemmas.Bool.{leb-true, leb-false}
use Rattle.net_world.specs.declared.answers.Got.{Got}
use Rattle.net_world.specs.declared.timed.Timed.{Timed}
use Rattle.net_world.specs.Script.{is_due, due, earliest}

-- it is no later than the moment that is waited for
earliest_below : (until : ℕ) (items : List Timed) → earliest until items ≤ until
earliest_below until [] = omega arith
earliest_below until (item ∷ items) = omega (arith, earliest_below (min until item.from) items)

module _ (moment : ℕ) where
  -- what can be received of an item and others, where the first can be or can't
  abbrev due_by : Bool → Timed → List Timed → List Got
  due_by first item items = map (λ other. other.got) (cond first (item ∷ filter (is_due moment) items) (filter (is_due moment) items))

  below_by : (first : Bool) (until : ℕ) (item : Timed) (items : List Timed) → is_due moment item ≡ first → due_by first item items ≢ [] → (due moment items ≢ [] → earliest (min until item.from) items ≤ moment) → earliest (min until item.from) items ≤ moment
  below_by true until item items first some rest = omega (arith, earliest_below (min until item.from) items, leb-true item.from moment first)
  below_by false until item items first some rest = rest some

  -- where something can be received at a moment, it is no later than that
  pub earliest_due : (until : ℕ) (items : List Timed) → due moment items ≢ [] → earliest until items ≤ moment
  earliest_due until [] some = absurd (some refl)
  earliest_due until (item ∷ items) some = below_by (is_due moment item) until item items refl some (earliest_due (min until item.from) items)

  due_or_over : (first : Bool) (until : ℕ) (item : Timed) (items : List Timed) → is_due moment item ≡ first → (due moment items ≢ []) ⊎ (min until item.from ≤ moment) → (due_by first item items ≢ []) ⊎ (until ≤ moment)
  due_or_over true until item items first rest = inl (λ none. cc)
  due_or_over false until item items first rest = ⊎_elim (λ some. inl some) (λ over. inr (omega (arith, over, leb-false item.from moment first))) rest

  -- at a moment that isn't earlier, something can be received or the moment that was waited for has come
  pub due_or_until : (until : ℕ) (items : List Timed) → earliest until items ≤ moment → (due moment items ≢ []) ⊎ (until ≤ moment)
  due_or_until until [] over = inr over
  due_or_until until (item ∷ items) over = due_or_over (is_due moment item) until item items refl (due_or_until (min until item.from) items over)
