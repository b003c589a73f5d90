-- Tests that every turn passes: its calls, and the seat's entries in it, stand in the order of its parts.
use Rattle.std.proofs.Common.{◌≡◌, ℕ, ◌==◌, if◌then◌else◌, List, [], ◌∷◌, ◌++◌, Bool, true, false, ◌&&◌, refl, ap, ◌∙◌}
use Rattle.std.specs.Prelude.{IsTrue}
use Rattle.std.specs.List.{list_all}
use Rattle.std.proofs.lemmas.List.Elements.{filter-append}
use Rattle.chan_types.specs.declared.journal.Entry.{Entry}
use Rattle.net_world.specs.declared.log.WorldCall.{WorldCall}
use Rattle.net_world.specs.declared.log.WorldCall.TheVariants.{Now}
use Rattle.channel_model.specs.Journal.{own_entries}
use Rattle.channel_model.specs.Setting.{Setting}
use Rattle.channel_model.specs.Stretch.{Standing}
use Rattle.channel_model.specs.Turn.{Part, receiving, expiring, starting, writing, closing, all_parts, is_among, is_at, parts_of_entry, parts_of_call, are_of, HasMade, HaveMade, IsTurn}

module _ {A : Type 0} (of : Part → A → Bool) where
  -- the items behind the first ones, which are of the part
  abbrev pub behind_part : Part → List A → List A
  behind_part part [] = []
  behind_part part (x ∷ xs) = if of part x then behind_part part xs else x ∷ xs

  -- the items are those of the one part, and then of the next
  abbrev pub in_order : List Part → List A → Bool
  in_order [] [] = true
  in_order [] (x ∷ xs) = false
  in_order (part ∷ parts) xs = in_order parts (behind_part part xs)

  -- where one item less is in order, items behind a part are
  still_in_order : (parts : List Part) → ((x : A) (xs : List A) → in_order parts (x ∷ xs) ≡ true → in_order parts xs ≡ true) →
      (part : Part) (xs : List A) → in_order parts xs ≡ true → in_order parts (behind_part part xs) ≡ true
  still_in_order parts less part [] h = h
  still_in_order parts less part (x ∷ xs) h = by_test (of part x) (still_in_order parts less part xs (less x xs h))
    where
      by_test : (b : Bool) → in_order parts (behind_part part xs) ≡ true → in_order parts (if b then behind_part part xs else x ∷ xs) ≡ true
      by_test true rest = rest
      by_test false rest = h

  -- one item less is in order
  less_in_order : (parts : List Part) (x : A) (xs : List A) → in_order parts (x ∷ xs) ≡ true → in_order parts xs ≡ true
  less_in_order [] x xs h = absurd (cc h)
  less_in_order (part ∷ parts) x xs h = by_test (of part x) (λ i. still_in_order parts (less_in_order parts) part xs (less_in_order parts x xs i)) h
    where
      by_test : (b : Bool) → (in_order parts (x ∷ xs) ≡ true → in_order parts (behind_part part xs) ≡ true) →
          in_order parts (if b then behind_part part xs else x ∷ xs) ≡ true → in_order parts (behind_part part xs) ≡ true
      by_test true rest i = i
      by_test false rest i = rest i

  -- items of a part, and then those of the next ones
  pub part_in_order : (part : Part) (parts : List Part) (xs ys : List A) → IsTrue (list_all (of part) xs) → in_order parts ys ≡ true → in_order (part ∷ parts) (xs ++ ys) ≡ true
  part_in_order part parts [] ys all h = still_in_order parts (less_in_order parts) part ys h
  part_in_order part parts (x ∷ xs) ys all h = by_test (of part x) (λ i. part_in_order part parts xs ys i h) all
    where
      by_test : (b : Bool) → (list_all (of part) xs ≡ true → in_order parts (behind_part part (xs ++ ys)) ≡ true) →
          (b && list_all (of part) xs) ≡ true → in_order parts (if b then behind_part part (xs ++ ys) else x ∷ (xs ++ ys)) ≡ true
      by_test true rest i = rest i
      by_test false rest i = absurd (cc i)

-- the call is of the part
abbrev pub call_of : Part → WorldCall → Bool
call_of part call = is_among part (parts_of_call call)

-- the entry is of the part of a turn with this reading
abbrev pub entry_of : ℕ → Part → Entry → Bool
entry_of reading part entry = is_among part (parts_of_entry entry.what) && is_at reading entry.what

module _ (setting : Setting) (seat reading : ℕ) where
  -- the entries and the calls of a part are of it
  alone : (part : Part) (a : Standing) (es : List Entry) (cs : List WorldCall) (b : Standing) → HasMade setting seat reading part a es cs b → IsTrue (are_of part seat reading es cs)
  alone receiving a es cs b made = made.alone
  alone expiring a es cs b made = made.alone
  alone starting a es cs b made = made.alone
  alone writing a es cs b made = made.alone
  alone closing a es cs b made = made.alone

  -- the two halves of that
  halves : (b c : Bool) → (b && c) ≡ true → (b ≡ true) × (c ≡ true)
  halves true true h = (refl, refl)
  halves true false h = absurd (cc h)
  halves false c h = absurd (cc h)

  parts_calls : (parts : List Part) (a : Standing) (es : List Entry) (cs : List WorldCall) (b : Standing) → HaveMade setting seat reading parts a es cs b → in_order call_of parts cs ≡ true
  parts_calls [] a es cs b made = ap (in_order call_of []) made.no_call
  parts_calls (part ∷ parts) a es cs b made =
      ap (in_order call_of (part ∷ parts)) made.calls_are
      ∙ part_in_order call_of part parts made.calls_first made.calls_then
      (halves (list_all (entry_of reading part) (own_entries seat made.entries_first)) (list_all (call_of part) made.calls_first)
      (alone part a made.entries_first made.calls_first made.middle made.one)).1
      (parts_calls parts made.middle made.entries_then made.calls_then b made.two)

  parts_entries : (parts : List Part) (a : Standing) (es : List Entry) (cs : List WorldCall) (b : Standing) → HaveMade setting seat reading parts a es cs b →
      in_order (entry_of reading) parts (own_entries seat es) ≡ true
  parts_entries [] a es cs b made = ap (λ l. in_order (entry_of reading) [] (own_entries seat l)) made.no_entry
  parts_entries (part ∷ parts) a es cs b made =
      ap (λ l. in_order (entry_of reading) (part ∷ parts) (own_entries seat l)) made.entries_are
      ∙ ap (in_order (entry_of reading) (part ∷ parts)) (filter-append (λ entry. entry.seat == seat) made.entries_first made.entries_then)
      ∙ part_in_order (entry_of reading) part parts (own_entries seat made.entries_first) (own_entries seat made.entries_then)
      (halves (list_all (entry_of reading part) (own_entries seat made.entries_first)) (list_all (call_of part) made.calls_first)
      (alone part a made.entries_first made.calls_first made.middle made.one)).0
      (parts_entries parts made.middle made.entries_then made.calls_then b made.two)

  -- the calls of a turn behind its reading of the clock are in the order of its parts
  pub turn_calls : (a : Standing) (es : List Entry) (cs : List WorldCall) (b : Standing) → IsTurn setting seat reading a es (Now reading ∷ cs) b → in_order call_of all_parts cs ≡ true
  turn_calls a es cs b turn =
      let same : cs ≡ turn.made = cc turn.calls_are in
      ap (in_order call_of all_parts) same ∙ parts_calls all_parts a es turn.made b turn.parts

  -- so are the seat's entries in it, each at its reading
  pub turn_entries : (a : Standing) (es : List Entry) (cs : List WorldCall) (b : Standing) → IsTurn setting seat reading a es cs b → in_order (entry_of reading) all_parts (own_entries seat es) ≡ true
  turn_entries a es cs b turn = parts_entries all_parts a es turn.made b turn.parts
