-- In a turn no message arrives behind an entry that isn't made while it receives, as an Expire or a Start.
use Rattle.std.proofs.Common.{◌≡◌, ℕ, ◌==◌, if◌then◌else◌, cond, List, [], ◌∷◌, ◌++◌, Bool, true, false, ◌&&◌, ◌||◌, refl, sym, ap, ◌∙◌, eq-eqb}
use Rattle.std.specs.Prelude.{IsTrue, IsFalse}
use Rattle.std.specs.List.{list_all, list_any}
use Rattle.chan_types.specs.declared.journal.Entry.{Entry}
use Rattle.chan_types.specs.declared.journal.What.{What}
use Rattle.chan_types.specs.declared.journal.What.TheVariants.{Accept, Cancel, Destroy, Take, Start, Arrive, Expire, Fault, Servers}
use Rattle.net_world.specs.declared.log.WorldCall.{WorldCall}
use Rattle.channel_model.specs.Journal.{Past, followed_by, own_entries}
use Rattle.channel_model.specs.Setting.{Setting}
use Rattle.channel_model.specs.Stretch.{Standing}
use Rattle.channel_model.specs.Traffic.{noted, arrived}
use Rattle.channel_model.specs.Turn.{Part, receiving, expiring, starting, writing, closing, parts_of_entry, parts_of_call, same_part, is_among, is_at, are_of, HasMade, HaveMade, IsTurn}
use Rattle.channel_model.proofs.TrafficLemmas.{noted-append}

-- a conjunction that holds has both parts
both : (b c : Bool) → (b && c) ≡ true → (b ≡ true) × (c ≡ true)
both true true h = (refl, refl)
both true false h = absurd (cc h)
both false c h = absurd (cc h)

-- the parts of an empty list are empty
parts_empty : {A : Type 0} (xs ys : List A) → xs ++ ys ≡ [] → (xs ≡ []) × (ys ≡ [])
parts_empty [] ys h = (refl, h)
parts_empty (x ∷ xs) ys h = absurd (cc h)

-- what arrives doesn't ask for the past
arrived_anyway : (p q : Past) (what : What) → arrived p what ≡ arrived q what
arrived_anyway p q (Accept number spec script) = refl
arrived_anyway p q Cancel = refl
arrived_anyway p q Destroy = refl
arrived_anyway p q (Take number) = refl
arrived_anyway p q (Start number leg server link id mix moment) = refl
arrived_anyway p q (Arrive server link bytes) = refl
arrived_anyway p q (Expire number leg moment) = refl
arrived_anyway p q (Fault server link moment) = refl
arrived_anyway p q (Servers list) = refl

noted_anyway : (seat : ℕ) (p q : Past) (es : List Entry) → noted seat arrived p es ≡ noted seat arrived q es
noted_anyway seat p q [] = refl
noted_anyway seat p q (e ∷ es) =
    ap (λ l. (if e.seat == seat then l else []) ++ noted seat arrived (e.what ∷ p) es) (arrived_anyway p q e.what)
    ∙ ap (λ l. (if e.seat == seat then arrived q e.what else []) ++ l) (noted_anyway seat (e.what ∷ p) (e.what ∷ q) es)

-- an entry of another part than receiving brings no message
other_brings_none : (part : Part) (past : Past) (what : What) → IsFalse (same_part part receiving) → IsTrue (is_among part (parts_of_entry what)) → arrived past what ≡ []
other_brings_none part past (Accept number spec script) other among = refl
other_brings_none part past Cancel other among = refl
other_brings_none part past Destroy other among = refl
other_brings_none part past (Take number) other among = refl
other_brings_none part past (Start number leg server link id mix moment) other among = refl
other_brings_none part past (Arrive server link bytes) other among = absurd (neither (same_part part receiving) other among)
  where
    neither : (b : Bool) → b ≡ false → (b || false) ≡ true → ⊥
    neither true h i = cc h
    neither false h i = cc i
other_brings_none part past (Expire number leg moment) other among = refl
other_brings_none part past (Fault server link moment) other among = refl
other_brings_none part past (Servers list) other among = refl

module _ (seat reading : ℕ) where
  -- the entry is of the part
  abbrev is_of : Part → Entry → Bool
  is_of part entry = is_among part (parts_of_entry entry.what) && is_at reading entry.what

  -- the first of the seat's own entries, and the others
  own_first : (part : Part) (e : Entry) (es : List Entry) → IsTrue (list_all (is_of part) (own_entries seat (e ∷ es))) →
      ((e.seat == seat) ≡ true → IsTrue (is_of part e)) × IsTrue (list_all (is_of part) (own_entries seat es))
  own_first part e es all = by_seat (e.seat == seat) all
    where
      by_seat : (b : Bool) → IsTrue (list_all (is_of part) (cond b (e ∷ own_entries seat es) (own_entries seat es))) →
          (b ≡ true → IsTrue (is_of part e)) × IsTrue (list_all (is_of part) (own_entries seat es))
      by_seat true h = (λ _. (both (is_of part e) (list_all (is_of part) (own_entries seat es)) h).0, (both (is_of part e) (list_all (is_of part) (own_entries seat es)) h).1)
      by_seat false h = (λ no. absurd (cc no), h)

  -- the entries of another part than receiving bring no message
  part_brings_none : (part : Part) (past : Past) (es : List Entry) → IsFalse (same_part part receiving) → IsTrue (list_all (is_of part) (own_entries seat es)) → noted seat arrived past es ≡ []
  part_brings_none part past [] other all = refl
  part_brings_none part past (e ∷ es) other all =
      let parts = own_first part e es all in
      by_seat (e.seat == seat)
      (λ own. other_brings_none part past e.what other (both (is_among part (parts_of_entry e.what)) (is_at reading e.what) (parts.0 own)).0)
      (part_brings_none part (e.what ∷ past) es other parts.1)
    where
      by_seat : (b : Bool) → (b ≡ true → arrived past e.what ≡ []) → noted seat arrived (e.what ∷ past) es ≡ [] → (if b then arrived past e.what else []) ++ noted seat arrived (e.what ∷ past) es ≡ []
      by_seat true here there = rw (here refl) there
      by_seat false here there = there

  -- behind an entry that isn't of the receiving part no message arrives, where the receiving part comes first and nothing arrives behind that
  behind_receiving : (e1 rest front back : List Entry) (e : Entry) → e1 ++ rest ≡ front ++ e ∷ back → IsTrue (list_all (is_of receiving) (own_entries seat e1)) →
      ((past : Past) → noted seat arrived past rest ≡ []) → e.seat ≡ seat → IsFalse (is_among receiving (parts_of_entry e.what)) → (past : Past) → noted seat arrived past back ≡ []
  behind_receiving [] rest front back e same all quiet own not_receiving past =
      let whole : noted seat arrived [] (front ++ e ∷ back) ≡ [] = ap (λ l. noted seat arrived [] l) (sym same) ∙ quiet [] in
      let later = (parts_empty (noted seat arrived [] front) (noted seat arrived (followed_by [] front) (e ∷ back)) (sym (noted-append seat arrived [] front (e ∷ back)) ∙ whole)).1 in
      let last = (parts_empty (if e.seat == seat then arrived (followed_by [] front) e.what else []) (noted seat arrived (e.what ∷ followed_by [] front) back) later).1 in
      noted_anyway seat past (e.what ∷ followed_by [] front) back ∙ last
  behind_receiving (x ∷ e1) rest [] back e same all quiet own not_receiving past =
      let is : x ≡ e = cc same in
      let first = (own_first receiving x e1 all).0 (eq-eqb x.seat seat (ap (λ y. y.seat) is ∙ own)) in
      let among = (both (is_among receiving (parts_of_entry x.what)) (is_at reading x.what) first).0 in
      absurd (cc (among, not_receiving, ap (λ y. is_among receiving (parts_of_entry y.what)) is))
  behind_receiving (x ∷ e1) rest (y ∷ front) back e same all quiet own not_receiving past =
      behind_receiving e1 rest front back e (cc same) (own_first receiving x e1 all).1 quiet own not_receiving past

module _ (setting : Setting) (seat reading : ℕ) where
  -- the own entries of a part that was made are of it
  entries_alone : (part : Part) (es : List Entry) (cs : List WorldCall) → IsTrue (are_of part seat reading es cs) → IsTrue (list_all (is_of seat reading part) (own_entries seat es))
  entries_alone part es cs alone = (both (list_all (is_of seat reading part) (own_entries seat es)) (list_all (λ call. is_among part (parts_of_call call)) cs) alone).0

  made_alone : (part : Part) (a : Standing) (es : List Entry) (cs : List WorldCall) (b : Standing) → HasMade setting seat reading part a es cs b →
      IsTrue (list_all (is_of seat reading part) (own_entries seat es))
  made_alone receiving a es cs b made = entries_alone receiving es cs made.alone
  made_alone expiring a es cs b made = entries_alone expiring es cs made.alone
  made_alone starting a es cs b made = entries_alone starting es cs made.alone
  made_alone writing a es cs b made = entries_alone writing es cs made.alone
  made_alone closing a es cs b made = entries_alone closing es cs made.alone

  -- the parts other than receiving bring no message
  parts_bring_none : (parts : List Part) (a : Standing) (es : List Entry) (cs : List WorldCall) (b : Standing) → IsFalse (list_any (λ part. same_part part receiving) parts) →
      HaveMade setting seat reading parts a es cs b → (past : Past) → noted seat arrived past es ≡ []
  parts_bring_none [] a es cs b others made past = ap (λ l. noted seat arrived past l) made.no_entry
  parts_bring_none (part ∷ parts) a es cs b others made past =
      let split = neither (same_part part receiving) (list_any (λ p. same_part p receiving) parts) others in
      ap (λ l. noted seat arrived past l) made.entries_are
      ∙ noted-append seat arrived past made.entries_first made.entries_then
      ∙ ap (λ l. l ++ noted seat arrived (followed_by past made.entries_first) made.entries_then)
      (part_brings_none seat reading part past made.entries_first split.0 (made_alone part a made.entries_first made.calls_first made.middle made.one))
      ∙ parts_bring_none parts made.middle made.entries_then made.calls_then b split.1 made.two (followed_by past made.entries_first)
    where
      neither : (b c : Bool) → (b || c) ≡ false → (b ≡ false) × (c ≡ false)
      neither true c h = absurd (cc h)
      neither false c h = (refl, h)

  -- in a turn no message arrives behind an entry that isn't made while it receives
  pub receives_first : (a : Standing) (es : List Entry) (cs : List WorldCall) (b : Standing) → IsTurn setting seat reading a es cs b →
      (front back : List Entry) (e : Entry) → es ≡ front ++ e ∷ back → e.seat ≡ seat → IsFalse (is_among receiving (parts_of_entry e.what)) → (past : Past) → noted seat arrived past back ≡ []
  receives_first a es cs b turn front back e same own not_receiving past =
      let parts = turn.parts in
      behind_receiving seat reading parts.entries_first parts.entries_then front back e (sym parts.entries_are ∙ same)
      (made_alone receiving a parts.entries_first parts.calls_first parts.middle parts.one)
      (λ q. parts_bring_none (expiring ∷ starting ∷ writing ∷ closing ∷ []) parts.middle parts.entries_then parts.calls_then b refl parts.two q)
      own not_receiving past
