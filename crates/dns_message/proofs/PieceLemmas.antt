-- The labels in front of units: each is a piece, and joins the name so far.
use Rattle.std.proofs.Common.{◌≡◌, ◌≢◌, ℕ, ◌+◌, ◌<◌, Bool, true, false, leb, List, [], ◌∷◌, ◌++◌, length, get_or, take, drop, map, Option, Some, None, inl, inr, refl, sym, ap, ◌∙◌, append_assoc, add-one, drop-cons, arith}
use Rattle.std.specs.Prelude.{option_map, ◌⊎◌, ◌&&◌, MatchBool}
use Rattle.std.specs.Option.{option_and_then}
use Rattle.std.specs.Borrow.{Bor}
use Rattle.std.specs.List.{AllByRecursion, list_all}
use Rattle.std.proofs.lemmas.Bool.Decides.{nat_tests}
use Rattle.std.proofs.lemmas.List.{map-append, length-append, length-drop, take-append-drop, length-map, get_or-map, take-map}
use Rattle.dns_message.specs.Name.{IsLabel, IsName, wire_length}
use Rattle.dns_message.specs.NameText.{pieces, ended, is_label, is_name, named, first_unit, units_of, name_text, label_before, dot_before, HasNoLabel}
use Rattle.dns_message.specs.declared.name_text.TextUnit.{TextUnit}
use Rattle.dns_message.specs.declared.name_text.TextUnit.TheVariants.{Dot, Byte}
use Rattle.dns_message.proofs.UnitLemmas.{units_cons, units_end}
use Rattle.dns_message.proofs.NameLemmas.{wire_append, wire_some}

-- ---- a label in front of units

-- one byte more of a label
pub label_more : (label : List ℕ) (byte : ℕ) (units : Option (List TextUnit)) → label_before label (option_map (λ behind. Byte byte ∷ behind) units) ≡ label_before (label ++ byte ∷ []) units
label_more label byte None = refl
label_more label byte (Some units) = ap (λ (all : List TextUnit). Some all) (sym (append_assoc (map Byte label) (Byte byte ∷ []) units) ∙ ap (λ (front : List TextUnit). front ++ units) (sym (map-append Byte label (byte ∷ []))))

-- a label that ends at a dot is the first piece
pub pieces_dot : (label : List ℕ) (units : List TextUnit) → pieces (map Byte label ++ Dot ∷ units) ≡ label ∷ pieces units
pieces_dot [] units = refl
pieces_dot (b ∷ label) units = rw (pieces_dot label units) refl

-- a label that ends with the text is the only piece
pub pieces_end : (label : List ℕ) → pieces (map Byte label ++ []) ≡ label ∷ []
pieces_end [] = refl
pieces_end (b ∷ label) = rw (pieces_end label) refl

-- the first piece begins with a label in front
pub pieces_front : (label : List ℕ) (units : List TextUnit) → (more : List ℕ) × (others : List (List ℕ)) × (pieces (map Byte label ++ units) ≡ (label ++ more) ∷ others)
pieces_front [] [] = ([], [], refl)
pieces_front [] (Dot ∷ units) = ([], pieces units, refl)
pieces_front [] (Byte b ∷ units) = let rest = pieces_front [] units in (b ∷ rest.0, rest.1, rw (rest.2) refl)
pieces_front (b ∷ label) units = let rest = pieces_front label units in (rest.0, rest.1, rw (rest.2) refl)

-- ---- the labels of pieces

-- behind a dot that ends no name there are more labels
pub ended_more : (label : List ℕ) (unit : TextUnit) (units : List TextUnit) → ended (label ∷ pieces (unit ∷ units)) ≡ (label ∷ (ended (pieces (unit ∷ units))).0, (ended (pieces (unit ∷ units))).1)
ended_more label Dot units = let rest = pieces_front [] units in rw (rest.2) refl
ended_more label (Byte b) units = let rest = pieces_front [] units in rw (rest.2) refl

-- the first piece is the first label
pub ended_first : (piece : List ℕ) (others : List (List ℕ)) → (labels : List (List ℕ)) × (dotted : Bool) × (ended (piece ∷ others) ≡ (piece ∷ labels, dotted))
ended_first piece [] = ([], false, refl)
ended_first piece ([] ∷ []) = ([], true, refl)
ended_first piece ([] ∷ third ∷ others) = ((ended ([] ∷ third ∷ others)).0, (ended ([] ∷ third ∷ others)).1, refl)
ended_first piece ((b ∷ next) ∷ others) = ((ended ((b ∷ next) ∷ others)).0, (ended ((b ∷ next) ∷ others)).1, refl)

-- ---- which labels are a name

-- a name passes the test
pub name_passes : (labels : List (List ℕ)) → IsName labels → is_name labels ≡ true
name_passes labels name = rw (each_passes labels name.each) (let short = name.short in grind (arith, nat_tests)) where
  each_passes : (labels : List (List ℕ)) → AllByRecursion IsLabel labels → list_all is_label labels ≡ true
  each_passes [] each = refl
  each_passes (x ∷ xs) each = let some = each.0.some in let few = each.0.few in rw (each_passes xs each.1) (grind (arith, nat_tests))

-- what a label must not be for a name: without bytes, of more than 63, or too long behind those in front
abbrev pub Spoils : List (List ℕ) → List ℕ → Type 0
Spoils front label = (length label ≡ 0) ⊎ (63 < length label) ⊎ (255 < wire_length front + length label + 1)

ends : (b : Bool) → (b && false) ≡ false
ends true = refl
ends false = refl

-- of a label of at most 63 bytes
pub short_spoils : (front : List (List ℕ)) (label : List ℕ) → (length label ≡ 0) ⊎ (255 < wire_length front + length label + 1) → Spoils front label
short_spoils front label (inl none) = inl none
short_spoils front label (inr wide) = inr (inr wide)

no_label : (front : List (List ℕ)) (label : List ℕ) (others : List (List ℕ)) → is_label label ≡ false → list_all is_label (front ++ label ∷ others) ≡ false
no_label [] label others e = rw e refl
no_label (x ∷ front) label others e = rw (no_label front label others e) (ends (is_label x))

-- such a label makes no name
pub spoils : (front : List (List ℕ)) (label : List ℕ) (others : List (List ℕ)) → Spoils front label → is_name (front ++ label ∷ others) ≡ false
spoils front label others (inl none) =
    let e : is_label label ≡ false = grind (arith, nat_tests) in
    rw (no_label front label others e) refl
spoils front label others (inr (inl long)) =
    let e : is_label label ≡ false = grind (arith, nat_tests) in
    rw (no_label front label others e) refl
spoils front label others (inr (inr wide)) =
    let more : 255 < wire_length (front ++ label ∷ others) = omega (arith, wire_append front (label ∷ others), wire_some others) in
    let e : leb (wire_length (front ++ label ∷ others)) 255 ≡ false = grind (arith, nat_tests) in
    rw e (ends (list_all is_label (front ++ label ∷ others)))

-- ---- the name so far, and the units behind it

-- the name of these labels and of those of the units
abbrev pub continued : List (List ℕ) → Option (List TextUnit) → Option (List (List ℕ) × Bool)
continued front units = option_and_then (λ us. named (front ++ (ended (pieces us)).0, (ended (pieces us)).1)) units

-- a label that ends at a dot, with units behind it, joins the labels in front
pub continued_more : (front : List (List ℕ)) (label : List ℕ) (units : Option (List TextUnit)) → units ≢ Some [] → continued front (label_before label (dot_before units)) ≡ continued (front ++ label ∷ []) units
continued_more front label None ne = refl
continued_more front label (Some []) ne = absurd (ne refl)
continued_more front label (Some (unit ∷ units)) ne =
    rw (pieces_dot label (unit ∷ units), ended_more label unit units, append_assoc front (label ∷ []) (ended (pieces (unit ∷ units))).0) refl

-- a last label ends the name
pub continued_end : (front : List (List ℕ)) (label : List ℕ) → IsName (front ++ label ∷ []) → continued front (label_before label (Some [])) ≡ Some (front ++ label ∷ [], false)
continued_end front label name = rw (pieces_end label, name_passes (front ++ label ∷ []) name) refl

-- as it does with a dot behind it
pub continued_dot : (front : List (List ℕ)) (label : List ℕ) → IsName (front ++ label ∷ []) → continued front (label_before label (dot_before (Some []))) ≡ Some (front ++ label ∷ [], true)
continued_dot front label name = rw (pieces_dot label [], name_passes (front ++ label ∷ []) name) refl

-- a piece that spoils the name
spoilt : (front : List (List ℕ)) (units : List TextUnit) (piece : List ℕ) (others : List (List ℕ)) → pieces units ≡ piece ∷ others → Spoils front piece → continued front (Some units) ≡ None
spoilt front units piece others e s =
    let first = ended_first piece others in
    rw (e, first.2, spoils front piece first.0 s) refl

-- there is no name where there is no label
pub continued_none : (front : List (List ℕ)) (units : Option (List TextUnit)) → HasNoLabel units → continued front units ≡ None
continued_none front units (inl e) = rw e refl
continued_none front units (inr (label, None, long, e)) = rw e refl
continued_none front units (inr (label, Some behind, long, e)) =
    let first = pieces_front label behind in
    rw e (spoilt front (map Byte label ++ behind) (label ++ first.0) first.1 first.2 (inr (inl (omega (arith, length-append label first.0)))))

-- nor where a label spoils it
pub continued_spoilt : (front : List (List ℕ)) (label : List ℕ) (units : Option (List TextUnit)) → (units ≡ label_before label (Some [])) ⊎ ((behind : Option (List TextUnit)) × (units ≡ label_before label (dot_before behind))) → Spoils front label → continued front units ≡ None
continued_spoilt front label units (inl e) s = rw e (spoilt front (map Byte label ++ []) label [] (pieces_end label) s)
continued_spoilt front label units (inr (None, e)) s = rw e refl
continued_spoilt front label units (inr (Some behind, e)) s = rw e (spoilt front (map Byte label ++ Dot ∷ behind) label (pieces behind) (pieces_dot label behind) s)

some_units : (first : Option (TextUnit × List ℕ)) → option_and_then (λ found. option_map (λ units. found.0 ∷ units) (units_of found.1)) first ≢ Some []
some_units None e = absurd cc
some_units (Some found) e = not_empty (units_of found.1) e where
  not_empty : (units : Option (List TextUnit)) → option_map (λ us. found.0 ∷ us) units ≢ Some []
  not_empty None e = absurd cc
  not_empty (Some units) e = absurd cc

-- a text with bytes has units, if any
pub units_some : (text : List ℕ) → 0 < length text → units_of text ≢ Some []
units_some [] lt e = omega arith
units_some (c ∷ text) lt e = some_units (first_unit c text) (rw units_cons at e)

-- ---- a whole text, of which the labels so far and the units from an offset on are left

module _ (text : List ℕ) (start end : ℕ) (front : List (List ℕ)) (label : List ℕ) where
  -- the label from the start on, up to a dot at the end or the end of the text
  abbrev pub Reads : Bool → Type 0
  Reads dotted = MatchBool dotted
      (units_of (drop start text) ≡ label_before label (dot_before (units_of (drop (end + 1) text))))
      (units_of (drop start text) ≡ label_before label (Some []))

  -- a label that spoils the name
  pub spoilt_text : (dotted : Bool) → name_text text ≡ continued front (units_of (drop start text)) → Reads dotted → Spoils front label → name_text text ≡ None
  spoilt_text true so_far read s = so_far ∙ continued_spoilt front label (units_of (drop start text)) (inr (units_of (drop (end + 1) text), read)) s
  spoilt_text false so_far read s = so_far ∙ continued_spoilt front label (units_of (drop start text)) (inl read) s

  -- the last label
  pub whole_text : (dotted : Bool) → name_text text ≡ continued front (units_of (drop start text)) → Reads dotted → IsName (front ++ label ∷ []) → (dotted ≡ false) ⊎ (end + 1 ≡ length text)
      → name_text text ≡ Some (front ++ label ∷ [], dotted)
  whole_text false so_far read name last = so_far ∙ ap (continued front) read ∙ continued_end front label name
  whole_text true so_far read name (inl e) = absurd cc
  whole_text true so_far read name (inr e) =
      so_far ∙ ap (continued front) (read ∙ ap (λ units. label_before label (dot_before units)) (units_end text (end + 1) (omega (arith, e)))) ∙ continued_dot front label name

  -- a label with a dot and more behind it
  pub rest_of_text : (dotted : Bool) → name_text text ≡ continued front (units_of (drop start text)) → Reads dotted → dotted ≡ true → end + 1 < length text
      → name_text text ≡ continued (front ++ label ∷ []) (units_of (drop (end + 1) text))
  rest_of_text false so_far read e lt = absurd cc
  rest_of_text true so_far read e lt =
      so_far ∙ ap (continued front) read ∙ continued_more front label (units_of (drop (end + 1) text)) (units_some (drop (end + 1) text) (omega (arith, length-drop (end + 1) text)))

-- labels of which one spoils the name are none
pub no_name : (labels : List (List ℕ)) (i : ℕ) (label : List ℕ) → i < length labels → get_or labels i label ≡ label → Spoils (take i labels) label → ¬ IsName labels
no_name labels i label lt e s name =
    let parts : labels ≡ take i labels ++ label ∷ drop (i + 1) labels = sym (take-append-drop i labels) ∙ ap (λ (rest : List (List ℕ)). take i labels ++ rest) (rw (add-one, drop-cons labels i label lt, e) refl) in
    let no : is_name labels ≡ false = ap is_name parts ∙ spoils (take i labels) label (drop (i + 1) labels) s in
    let yes : is_name labels ≡ true = name_passes labels name in
    absurd cc

-- the same of labels that are lent
pub no_names : (labels : List (Bor (List ℕ))) (i : ℕ) (d : Bor (List ℕ)) → i < length labels → Spoils (map (λ l. l.now) (take i labels)) (get_or labels i d).now → ¬ IsName (map (λ l. l.now) labels)
no_names labels i d lt s =
    let within : i < length (map (λ (l : Bor (List ℕ)). l.now) labels) = rw length-map lt in
    no_name (map (λ l. l.now) labels) i (get_or labels i d).now within (get_or-map (λ l. l.now) labels i d (get_or labels i d).now lt) (rw take-map s)
