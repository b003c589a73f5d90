-- Turns with what stands behind them, where one more comes or the last one changes.
use Rattle.event_runner.proofs.Base.{◌≡◌, ◌∙◌, ℕ, ◌==◌, ◌&&◌, ◌||◌, Bool, true, false, List, [], ◌∷◌, ◌++◌, length, map, not, refl, ap, sym, inl, inr, Option, Some, None, flat_map, is_none, ◌⊎◌, ⊤, AllByRecursion, list_all, and_from, and_parts, append_assoc, flat_map_more, list_all-append, Entry, last_or, holds-grows, AreTurns, Rest, Round, Test, delivers_then, goes_on, has_no_turn, has_none_of, is_of_turn, is_timely, may_follow, rests_there, skips, soon, standing_after, waits_there, wakes_at, pending, ready, somewhere_behind, Past, followed_by, Setting, Standing, behind, somewhere, Reach, awaiting, delivered, following, has_come, rested, turned}

-- no turns, or turns with a last one
pub by_last : (P : List Round → Type 0) → P [] → ((before : List Round) (round : Round) → P (before ++ round ∷ [])) → (rounds : List Round) → P rounds
by_last P none some [] = none
by_last P none some (x ∷ rounds) = by_last (λ l. P (x ∷ l)) (some [] x) (λ before round. some (x ∷ before) round) rounds

-- one of two tests holds
pub either_first : (b c : Bool) → b ≡ true → (b || c) ≡ true
either_first b c p = rw p refl

pub either_second : (b c : Bool) → c ≡ true → (b || c) ≡ true
either_second true c p = refl
either_second false c p = p

-- two tests of which one holds, where each makes a third hold
pub by_either : {P : Type 0} (b c : Bool) → (b || c) ≡ true → (b ≡ true → P) → (c ≡ true → P) → P
by_either true c h left right = left refl
by_either false c h left right = right h

-- the last of turns
pub last_or-snoc : {A X : Type 0} (f : X → A) (item : A) (xs : List X) (x : X) → last_or item (map f (xs ++ x ∷ [])) ≡ f x
last_or-snoc f item [] x = refl
last_or-snoc f item (y ∷ xs) x = last_or-snoc f (f y) xs x

pub somewhere_behind-snoc : (test : Past → Bool) (first : List Entry) (rounds : List Round) (round : Round) → somewhere_behind test first (rounds ++ round ∷ []) ≡ somewhere test round.new.past round.between
somewhere_behind-snoc test first [] round = refl
somewhere_behind-snoc test first (x ∷ []) round = refl
somewhere_behind-snoc test first (x ∷ y ∷ rounds) round = somewhere_behind-snoc test first (y ∷ rounds) round

pub standing_after-snoc : (s : Standing) (rounds : List Round) (round : Round) → standing_after s (rounds ++ round ∷ []) ≡ behind round.new round.between
standing_after-snoc s [] round = refl
standing_after-snoc s (x ∷ rounds) round = standing_after-snoc (behind x.new x.between) rounds round

-- a list that is made of turns, where the last one makes more
pub flat_last : {A : Type 0} (f : Round → List A) (front : List A) (before : List Round) (old new : Round) (more : List A) → f new ≡ f old ++ more →
    front ++ flat_map f (before ++ new ∷ []) ≡ (front ++ flat_map f (before ++ old ∷ [])) ++ more
flat_last f front before old new more is =
    sym (flat_map_more f front before new) ∙ ap (λ l. (front ++ flat_map f before) ++ l) is
    ∙ sym (append_assoc (front ++ flat_map f before) (f old) more) ∙ ap (λ l. l ++ more) (flat_map_more f front before old)

-- a test that held at a position holds somewhere behind more entries too
pub somewhere-grows : (test : Past → Bool) (past : Past) (es more : List Entry) → somewhere test past es ≡ true → somewhere test past (es ++ more) ≡ true
somewhere-grows test past [] [] h = h
somewhere-grows test past [] (e ∷ more) h = either_first (test past) (somewhere test (e.what ∷ past) more) h
somewhere-grows test past (e ∷ es) more h = by_either (test past) (somewhere test (e.what ∷ past) es) h
    (λ here. either_first (test past) (somewhere test (e.what ∷ past) (es ++ more)) here)
    (λ later. either_second (test past) (somewhere test (e.what ∷ past) (es ++ more)) (somewhere-grows test (e.what ∷ past) es more later))

-- a test that holds at the end holds somewhere
pub somewhere-end : (test : Past → Bool) (past : Past) (es : List Entry) → test (followed_by past es) ≡ true → somewhere test past es ≡ true
somewhere-end test past [] h = h
somewhere-end test past (e ∷ es) h = either_second (test past) (somewhere test (e.what ∷ past) es) (somewhere-end test (e.what ∷ past) es h)

-- entries that no turn makes, and more of them
pub no_turn-append : (es more : List Entry) → has_no_turn es ≡ true → has_no_turn more ≡ true → has_no_turn (es ++ more) ≡ true
no_turn-append es more p q = list_all-append (λ entry. not (is_of_turn entry)) es more ∙ and_from (has_no_turn es) (has_no_turn more) p q

-- the relation holds behind each turn, of the past there and what stands behind it
abbrev pub AreBetween : (Past → List Entry → Type 0) → List Round → Type 0
AreBetween holds rounds = AllByRecursion (λ round. holds round.new.past round.between) rounds

-- so it does where the last turn changes, if it does behind that
pub between_last : (holds : Past → List Entry → Type 0) (before : List Round) (old new : Round) → (holds old.new.past old.between → holds new.new.past new.between) →
    AreBetween holds (before ++ old ∷ []) → AreBetween holds (before ++ new ∷ [])
between_last holds [] old new change all = (change all.0, tt)
between_last holds (x ∷ before) old new change all = (all.0, between_last holds before old new change all.1)

-- one that says nothing holds
pub between_any : (rounds : List Round) → AreBetween (λ past es. ⊤) rounds
between_any [] = tt
between_any (x ∷ rounds) = (tt, between_any rounds)

-- the turn with more entries behind it
abbrev pub with_more : List Entry → Round → Round
with_more more round = record round { between = round.between ++ more }

-- the turn with a wait behind it
abbrev pub with_rest : Rest → Round → Round
with_rest rest round = record round { rest = Some rest }

-- the seat made none of these entries, and none of more
pub none_more : (seat : ℕ) (es more : List Entry) → has_none_of seat es ≡ true → has_none_of seat more ≡ true → has_none_of seat (es ++ more) ≡ true
none_more seat es more p q = list_all-append (λ entry. not (entry.seat == seat)) es more ∙ and_from (has_none_of seat es) (has_none_of seat more) p q

module _ (setting : Setting) (seat slice : ℕ) where
  abbrev Goes : Round → Bool
  Goes = goes_on setting seat slice

  -- what may follow a turn may follow it where others come behind that
  may_snoc : (x : Round) (rounds : List Round) (round : Round) → Goes x ≡ true → may_follow setting seat slice x (rounds ++ round ∷ []) ≡ true
  may_snoc x [] round h = h
  may_snoc x (y ∷ rounds) round h = h

  may_start : (x : Round) (rounds : List Round) (round : Round) → may_follow setting seat slice x (rounds ++ round ∷ []) ≡ true → Goes x ≡ true
  may_start x [] round h = h
  may_start x (y ∷ rounds) round h = h

  may_of : (x : Round) (rounds : List Round) → Goes x ≡ true → may_follow setting seat slice x rounds ≡ true
  may_of x [] h = refl
  may_of x (y ∷ rounds) h = h

  -- one turn more, where the run goes on behind each
  pub turns_snoc : (s : Standing) (rounds : List Round) (round : Round) → AreTurns setting seat slice s rounds → list_all Goes rounds ≡ true →
      AreTurns setting seat slice (standing_after s rounds) (round ∷ []) → AreTurns setting seat slice s (rounds ++ round ∷ [])
  turns_snoc s [] round turns go one = one
  turns_snoc s (x ∷ rounds) round turns go one =
      let parts = and_parts (Goes x) (list_all Goes rounds) go in
      (turns.0, turns.1, turns.2, may_snoc x rounds round parts.0, turns_snoc (behind x.new x.between) rounds round turns.4 parts.1 one)

  -- and back
  pub turns_unsnoc : (s : Standing) (rounds : List Round) (round : Round) → AreTurns setting seat slice s (rounds ++ round ∷ []) →
      AreTurns setting seat slice s rounds × (list_all Goes rounds ≡ true) × AreTurns setting seat slice (standing_after s rounds) (round ∷ [])
  turns_unsnoc s [] round turns = (tt, refl, turns)
  turns_unsnoc s (x ∷ rounds) round turns =
      let rest = turns_unsnoc (behind x.new x.between) rounds round turns.4 in
      let go : Goes x ≡ true = may_start x rounds round turns.3 in
      ((turns.0, turns.1, turns.2, may_of x rounds go, rest.0), and_from (Goes x) (list_all Goes rounds) go rest.1, rest.2)

  -- the last turn may change as long as it stays one
  pub turns_last : (s : Standing) (before : List Round) (old new : Round) → AreTurns setting seat slice s (before ++ old ∷ []) →
      (AreTurns setting seat slice (standing_after s before) (old ∷ []) → AreTurns setting seat slice (standing_after s before) (new ∷ [])) →
      AreTurns setting seat slice s (before ++ new ∷ [])
  turns_last s before old new turns change =
      let parts = turns_unsnoc s before old turns in
      turns_snoc s before new parts.0 parts.1 (change parts.2)

  -- where the last turn goes on, all do
  pub all_go_on : (s : Standing) (rounds : List Round) → AreTurns setting seat slice s rounds → last_or true (map Goes rounds) ≡ true → list_all Goes rounds ≡ true
  all_go_on s rounds = by_last
      (λ rounds. AreTurns setting seat slice s rounds → last_or true (map Goes rounds) ≡ true → list_all Goes rounds ≡ true)
      (λ turns last. refl)
      (λ before round turns last.
      let go : Goes round ≡ true = sym (last_or-snoc Goes true before round) ∙ last in
      list_all-append Goes before (round ∷ []) ∙ and_from (list_all Goes before) (list_all Goes (round ∷ []))
      (turns_unsnoc s before round turns).1 (and_from (Goes round) true go refl))
      rounds

  -- ---- tests of positions, with more entries behind

  -- wherever the one test holds the other does, with more entries behind
  abbrev pub Grows : Test → Test → List Entry → Type 0
  Grows one other more = (past : Past) (es : List Entry) → one past es ≡ true → other past (es ++ more) ≡ true

  module _ (one other : Test) (more : List Entry) (grows : Grows one other more) where
    soon_more : Grows (soon seat one) (soon seat other) more
    soon_more past es h = holds-grows (λ entry. entry.seat == seat) one other more grows past es h

  waits_more : (reading until : ℕ) (one other : Test) (more : List Entry) → Grows one other more → Grows (waits_there setting seat slice reading until one) (waits_there setting seat slice reading until other) more
  waits_more reading until one other more grows past es h =
      let first : Test = λ here later. (until == wakes_at setting reading slice here) && one here later in
      let second : Test = λ here later. (until == wakes_at setting reading slice here) && other here later in
      let parts = and_parts (not (skips setting past)) (soon seat first past es) h in
      and_from (not (skips setting past)) (soon seat second past (es ++ more)) parts.0
      (soon_more first second more
      (λ here later held.
      let both = and_parts (until == wakes_at setting reading slice here) (one here later) held in
      and_from (until == wakes_at setting reading slice here) (other here (later ++ more)) both.0 (grows here later both.1))
      past es parts.1)

  rests_more : (reading : ℕ) (rest : Option Rest) (one other : Test) (more : List Entry) → Grows one other more → Grows (rests_there setting seat slice reading rest one) (rests_there setting seat slice reading rest other) more
  rests_more reading None one other more grows past es h =
      let parts = and_parts (skips setting past) (soon seat one past es) h in
      and_from (skips setting past) (soon seat other past (es ++ more)) parts.0 (soon_more one other more grows past es parts.1)
  rests_more reading (Some r) one other more grows past es h = waits_more reading r.until (soon seat one) (soon seat other) more (soon_more one other more grows) past es h

  -- more entries behind a turn
  pub turn_more : (s : Standing) (more : List Entry) (round : Round) → has_no_turn more ≡ true → AreTurns setting seat slice s (round ∷ []) → AreTurns setting seat slice s (with_more more round ∷ [])
  turn_more s more round none turns =
      (turns.0, no_turn-append round.between more turns.1 none, timely round.rest turns.2, refl, tt)
    where
      timely : (rest : Option Rest) → is_timely setting seat slice (record round { rest = rest }) ≡ true → is_timely setting seat slice (record round { between = round.between ++ more; rest = rest }) ≡ true
      timely None h = h
      timely (Some r) h =
          let there : Test = waits_there setting seat slice round.reading r.until (λ here later. true) in
          holds-grows (λ entry. false) there there more (waits_more round.reading r.until (λ here later. true) (λ here later. true) more (λ past es held. refl)) round.new.past round.between h

  delivers_more : (one other : Test) (more : List Entry) → Grows one other more → (round : Round) → delivers_then setting seat slice one round ≡ true → delivers_then setting seat slice other (with_more more round) ≡ true
  delivers_more one other more grows round h =
      let none : Past → Bool = λ past. length (ready setting past) == 0 in
      holds-grows (λ entry. false) (λ past es. none past && soon seat one past es) (λ past es. none past && soon seat other past es) more
      (λ past es held.
      let parts = and_parts (none past) (soon seat one past es) held in
      and_from (none past) (soon seat other past (es ++ more)) parts.0 (soon_more one other more grows past es parts.1))
      round.new.past round.between h

  module _ (more : List Entry) (none : has_none_of seat more ≡ true) where
    idle_more : Grows (λ here later. has_none_of seat later) (λ here later. has_none_of seat later) more
    idle_more past es h = none_more seat es more h none

    -- a test of what happened before, and no entry of the seat from there on
    tested_more : (test : Past → Bool) → Grows (λ here later. test here && has_none_of seat later) (λ here later. test here && has_none_of seat later) more
    tested_more test past es h =
        let parts = and_parts (test past) (has_none_of seat es) h in
        and_from (test past) (has_none_of seat (es ++ more)) parts.0 (idle_more past es parts.1)

    -- so far as a turn has come, it has come with more entries behind it
    others_more : (reach : Reach) (round : Round) → has_come setting seat slice reach round ≡ true → has_come setting seat slice reach (with_more more round) ≡ true
    others_more turned round come = come
    others_more delivered round come =
        let idle : Test = λ here later. has_none_of seat later in
        let parts = and_parts (is_none round.rest) (delivers_then setting seat slice idle round) come in
        and_from (is_none round.rest) (delivers_then setting seat slice idle (with_more more round)) parts.0 (delivers_more idle idle more idle_more round parts.1)
    others_more awaiting round come =
        let called : Test = λ here later. not (skips setting here) && has_none_of seat later in
        let parts = and_parts (is_none round.rest) (delivers_then setting seat slice called round) come in
        and_from (is_none round.rest) (delivers_then setting seat slice called (with_more more round)) parts.0
        (delivers_more called called more (tested_more (λ past. not (skips setting past))) round parts.1)
    others_more rested round come =
        let idle : Test = λ here later. has_none_of seat later in
        delivers_more (rests_there setting seat slice round.reading round.rest idle) (rests_there setting seat slice round.reading round.rest idle) more
        (rests_more round.reading round.rest idle idle more idle_more) round come
    others_more following round come =
        let some : Test = λ here later. not (length (pending setting here) == 0) && has_none_of seat later in
        delivers_more (rests_there setting seat slice round.reading round.rest some) (rests_there setting seat slice round.reading round.rest some) more
        (rests_more round.reading round.rest some some more (tested_more (λ past. not (length (pending setting past) == 0)))) round come

  -- the same, where the turn was just made, whoever makes them
  pub come_more : (reach : Reach) (more : List Entry) (round : Round) → (reach ≡ turned) ⊎ (has_none_of seat more ≡ true) → has_come setting seat slice reach round ≡ true →
      has_come setting seat slice reach (with_more more round) ≡ true
  come_more turned more round may come = come
  come_more delivered more round (inl is) come = absurd (cc is)
  come_more delivered more round (inr none) come = others_more more none delivered round come
  come_more awaiting more round (inl is) come = absurd (cc is)
  come_more awaiting more round (inr none) come = others_more more none awaiting round come
  come_more rested more round (inl is) come = absurd (cc is)
  come_more rested more round (inr none) come = others_more more none rested round come
  come_more following more round (inl is) come = absurd (cc is)
  come_more following more round (inr none) come = others_more more none following round come
