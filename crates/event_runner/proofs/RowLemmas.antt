-- The links that a runner holds: one that is lost, one that gets bytes, and one of which bytes are written.
use Rattle.event_runner.proofs.Base.{◌≡◌, ◌≢◌, ◌∙◌, ℕ, ◌+◌, ◌<◌, ◌==◌, Bool, true, false, List, [], ◌∷◌, ◌++◌, length, get_or, set, take, drop, map, refl, ap, sym, subst, arith, ne_eqb, eq-eqb, eqb-true, zero, suc, Option, Some, None, cond, true≢false, add-one, ap₂, IsSomeAnd, not, AllByRecursion, list_any, and_from, map-append, filter-append, Row, link_of_row, Attempt, flight, went_over, left_in, Leg, Link, held_link, with_bytes, without_link, Setting, Standing, is_start_on, IsAt}
use Rattle.event_runner.proofs.SoundLemmas.{HasLink, Lacks, RowsApart, Sound}

-- a list at a place
split_suc : (rows : List Row) (i : ℕ) (d : Row) → i < length rows → rows ≡ take i rows ++ get_or rows i d ∷ drop (suc i) rows
split_suc [] i d within = absurd (omega arith)
split_suc (x ∷ rows) zero d within = refl
split_suc (x ∷ rows) (suc i) d within = ap (λ l. x ∷ l) (split_suc rows i d (omega arith))

set_suc : (rows : List Row) (i : ℕ) (r : Row) → i < length rows → set rows i r ≡ take i rows ++ r ∷ drop (suc i) rows
set_suc [] i r within = absurd (omega arith)
set_suc (x ∷ rows) zero r within = refl
set_suc (x ∷ rows) (suc i) r within = ap (λ l. x ∷ l) (set_suc rows i r (omega arith))

pub rows_split : (rows : List Row) (i : ℕ) (d : Row) → i < length rows → rows ≡ take i rows ++ get_or rows i d ∷ drop (i + 1) rows
rows_split rows i d within = rw (add-one i) (split_suc rows i d within)

pub rows_set : (rows : List Row) (i : ℕ) (r : Row) → i < length rows → set rows i r ≡ take i rows ++ r ∷ drop (i + 1) rows
rows_set rows i r within = rw (add-one i) (set_suc rows i r within)

-- what holds of each item of two lists
pub each_split : {X : Type 0} (P : X → Type 0) (xs ys : List X) → AllByRecursion P (xs ++ ys) → AllByRecursion P xs × AllByRecursion P ys
each_split P [] ys each = (tt, each)
each_split P (x ∷ xs) ys each = let rest = each_split P xs ys each.1 in ((each.0, rest.0), rest.1)

pub each_join : {X : Type 0} (P : X → Type 0) (xs ys : List X) → AllByRecursion P xs → AllByRecursion P ys → AllByRecursion P (xs ++ ys)
each_join P [] ys each more = more
each_join P (x ∷ xs) ys each more = (each.0, each_join P xs ys each.1 more)

pub each_then : {X : Type 0} (P Q : X → Type 0) (xs : List X) → ((x : X) → P x → Q x) → AllByRecursion P xs → AllByRecursion Q xs
each_then P Q [] f each = tt
each_then P Q (x ∷ xs) f each = (f x each.0, each_then P Q xs f each.1)

pub each_both : {X : Type 0} (P Q R : X → Type 0) (xs : List X) → ((x : X) → P x → Q x → R x) → AllByRecursion P xs → AllByRecursion Q xs → AllByRecursion R xs
each_both P Q R [] f each also = tt
each_both P Q R (x ∷ xs) f each also = (f x each.0 also.0, each_both P Q R xs f each.1 also.1)

-- rows that are apart, at a place
module _ (row : Row) (after : List Row) where
  pub apart_split : (before : List Row) → RowsApart (before ++ row ∷ after) → Lacks row.number before × Lacks row.number after × RowsApart (before ++ after)
  apart_split [] apart = (tt, apart.0, apart.1)
  apart_split (x ∷ before) apart =
      let rest = apart_split before apart.1 in
      let parts = each_split (λ (r : Row). r.number ≢ x.number) before (row ∷ after) apart.0 in
      ((λ e. parts.1.0 (sym e), rest.0), rest.1, (each_join (λ (r : Row). r.number ≢ x.number) before after parts.0 parts.1.1, rest.2))

  pub apart_again : (other : Row) → other.number ≡ row.number → (before : List Row) → RowsApart (before ++ row ∷ after) → RowsApart (before ++ other ∷ after)
  apart_again other same [] apart = (subst (λ n. Lacks n after) (sym same) apart.0, apart.1)
  apart_again other same (x ∷ before) apart =
      let parts = each_split (λ (r : Row). r.number ≢ x.number) before (row ∷ after) apart.0 in
      (each_join (λ (r : Row). r.number ≢ x.number) before (other ∷ after) parts.0 (λ e. parts.1.0 (sym same ∙ e), parts.1.1), apart_again other same before apart.1)

-- a number that no row has
module _ (number : ℕ) where
  pub without_lacks : (rows : List Row) → Lacks number rows → without_link number (map link_of_row rows) ≡ map link_of_row rows
  without_lacks [] lacks = refl
  without_lacks (row ∷ rows) lacks = rw (ne_eqb row.number number lacks.0) (ap (λ l. link_of_row row ∷ l) (without_lacks rows lacks.1))

  pub with_bytes_lacks : (bytes : List ℕ) (rows : List Row) → Lacks number rows → map (with_bytes number bytes) (map link_of_row rows) ≡ map link_of_row rows
  with_bytes_lacks bytes [] lacks = refl
  with_bytes_lacks bytes (row ∷ rows) lacks = rw (ne_eqb row.number number lacks.0) (ap (λ l. link_of_row row ∷ l) (with_bytes_lacks bytes rows lacks.1))

  pub lacks_none : (rows : List Row) → held_link number (map link_of_row rows) ≡ None → Lacks number rows
  lacks_none [] none = tt
  lacks_none (row ∷ rows) none = by_test (row.number == number) refl none (lacks_none rows)
    where
      by_test : (b : Bool) → (row.number == number) ≡ b → cond b (Some (link_of_row row)) (held_link number (map link_of_row rows)) ≡ None
          → (held_link number (map link_of_row rows) ≡ None → Lacks number rows) → (row.number ≢ number) × Lacks number rows
      by_test true is e rest = absurd (cc e)
      by_test false is e rest = (λ same. true≢false (sym (eq-eqb row.number number same) ∙ is), rest e)

  pub held_at : (before : List Row) (row : Row) (after : List Row) → Lacks number before → row.number ≡ number → held_link number (map link_of_row (before ++ row ∷ after)) ≡ Some (link_of_row row)
  held_at [] row after lacks is = rw (eq-eqb row.number number is) refl
  held_at (x ∷ before) row after lacks is = rw (ne_eqb x.number number lacks.0) (held_at before row after lacks.1 is)

-- a link that is let go
pub without_row : (before : List Row) (row : Row) (after : List Row) → RowsApart (before ++ row ∷ after) → without_link row.number (map link_of_row (before ++ row ∷ after)) ≡ map link_of_row (before ++ after)
without_row before row after apart =
    let parts = apart_split row after before apart in
    let gone : without_link row.number (map link_of_row (row ∷ after)) ≡ map link_of_row after = rw (eq-eqb row.number row.number refl) (without_lacks row.number after parts.1) in
    ap (without_link row.number) (map-append link_of_row before (row ∷ after))
    ∙ filter-append (λ (link : Link). not (link.number == row.number)) (map link_of_row before) (map link_of_row (row ∷ after))
    ∙ ap₂ (λ l m. l ++ m) (without_lacks row.number before parts.0) gone
    ∙ sym (map-append link_of_row before after)

-- and is gone already
pub without_again : (before : List Row) (row : Row) (after : List Row) → RowsApart (before ++ row ∷ after) → without_link row.number (map link_of_row (before ++ after)) ≡ map link_of_row (before ++ after)
without_again before row after apart =
    let parts = apart_split row after before apart in
    without_lacks row.number (before ++ after) (each_join (λ (r : Row). r.number ≢ row.number) before after parts.0 parts.1)

-- a held link other than the one that is let go
has_link-without : (number other server : ℕ) (held : List Link) → number ≢ other → HasLink number server held → HasLink number server (without_link other held)
has_link-without number other server [] ne has = has
has_link-without number other server (link ∷ held) ne has = by_other (link.number == other) refl (link.number == number) refl has (has_link-without number other server held ne)
  where
    by_other : (b : Bool) → (link.number == other) ≡ b → (c : Bool) → (link.number == number) ≡ c →
        IsSomeAnd (cond c (Some link) (held_link number held)) (λ l. l.server ≡ server) → (HasLink number server held → HasLink number server (without_link other held)) → IsSomeAnd (held_link number (cond (not b) (link ∷ without_link other held) (without_link other held))) (λ l. l.server ≡ server)
    by_other true is true same h rest = absurd (ne (sym (eqb-true link.number number same) ∙ eqb-true link.number other is))
    by_other true is false same h rest = rest h
    by_other false is true same h rest = rw same h
    by_other false is false same h rest = rw same (rest h)

-- what an attempt in flight says of the link at a place
module _ (setting : Setting) (told : List ℕ) (before : List Row) (row : Row) (after : List Row) (s : Standing) (sound : Sound setting (before ++ row ∷ after) told s) where
  pub row_held : held_link row.number s.held ≡ Some (link_of_row row)
  row_held = ap (held_link row.number) sound.held_are ∙ held_at row.number before row after (apart_split row after before sound.differ).0 refl

  pub row_started : (row.number ≢ 0) × (list_any (is_start_on row.number) s.past ≡ true)
  row_started = (each_split (λ (r : Row). (r.number ≢ 0) × (list_any (is_start_on r.number) s.past ≡ true)) before (row ∷ after) sound.opened_are).1.0

  pub server_is : (server number : ℕ) → number ≡ row.number → HasLink number server s.held → row.server ≡ server
  server_is server number is has =
      let o : Option Link = held_link number s.held in
      by_link (held_link number s.held) (ap (λ n. held_link n s.held) is ∙ row_held) has
    where
      by_link : (o : Option Link) → o ≡ Some (link_of_row row) → IsSomeAnd o (λ l. l.server ≡ server) → row.server ≡ server
      by_link None e h = absurd (cc e)
      by_link (Some l) e h = let same : l ≡ link_of_row row = cc in ap (λ (x : Link). x.server) (sym same) ∙ h

  -- an attempt that didn't go over the row's link to its server has another link
  pub other_link : (leg : Leg) (a : Attempt) → flight setting leg s.past ≡ Some a → went_over a row.server row.number ≡ false → a.link ≢ row.number
  other_link leg a flies other same =
      let some : a.link ≢ 0 = λ zero. row_started.0 (sym same ∙ zero) in
      let server : row.server ≡ a.server = server_is a.server a.link same (sound.flying leg a flies some) in
      true≢false (sym (and_from (a.server == row.server) (a.link == row.number) (eq-eqb a.server row.server (sym server)) (eq-eqb a.link row.number same)) ∙ other)

  -- the row's link is let go, where no attempt in flight went over it
  pub sound_lost : ((leg : Leg) (a : Attempt) → flight setting leg s.past ≡ Some a → went_over a row.server row.number ≡ false) → Sound setting (before ++ after) told (record { past = s.past; held = without_link row.number s.held; unwritten = s.unwritten })
  sound_lost none =
      let unwritten = each_split (λ (r : Row). s.unwritten r.number ≡ r.unwritten) before (row ∷ after) sound.unwritten_are in
      let opened = each_split (λ (r : Row). (r.number ≢ 0) × (list_any (is_start_on r.number) s.past ≡ true)) before (row ∷ after) sound.opened_are in
      record {
        held_are = ap (without_link row.number) sound.held_are ∙ without_row before row after sound.differ;
        unwritten_are = each_join (λ (r : Row). s.unwritten r.number ≡ r.unwritten) before after unwritten.0 unwritten.1.1;
        opened_are = each_join (λ (r : Row). (r.number ≢ 0) × (list_any (is_start_on r.number) s.past ≡ true)) before after opened.0 opened.1.1;
        differ = (apart_split row after before sound.differ).2;
        fresh = sound.fresh;
        flying = λ leg a flies some. has_link-without a.link row.number a.server s.held (other_link leg a flies (none leg a flies)) (sound.flying leg a flies some);
        told_are = sound.told_are;
      }

-- a link other than the one that gets bytes keeps its server, and so does that one
pub has_link-with_bytes : (number other server : ℕ) (bytes : List ℕ) (held : List Link) → HasLink number server held → HasLink number server (map (with_bytes other bytes) held)
has_link-with_bytes number other server bytes [] has = has
has_link-with_bytes number other server bytes (link ∷ held) has = by_other (link.number == other) (link.number == number) refl has (has_link-with_bytes number other server bytes held)
  where
    by_other : (b c : Bool) → (link.number == number) ≡ c → IsSomeAnd (cond c (Some link) (held_link number held)) (λ l. l.server ≡ server)
        → (HasLink number server held → HasLink number server (map (with_bytes other bytes) held))
        → IsSomeAnd (held_link number (cond b (record link { unread = left_in link.unread bytes }) link ∷ map (with_bytes other bytes) held)) (λ l. l.server ≡ server)
    by_other true true same h rest = rw same h
    by_other true false same h rest = rw same (rest h)
    by_other false true same h rest = rw same h
    by_other false false same h rest = rw same (rest h)

-- a row that got bytes
pub with_bytes_at : (bytes : List ℕ) (before : List Row) (row : Row) (after : List Row) → RowsApart (before ++ row ∷ after) →
    map (with_bytes row.number bytes) (map link_of_row (before ++ row ∷ after)) ≡ map link_of_row (before ++ record row { unread = left_in row.unread bytes } ∷ after)
with_bytes_at bytes before row after apart =
    let parts = apart_split row after before apart in
    let here : map (with_bytes row.number bytes) (map link_of_row (row ∷ after)) ≡ link_of_row (record row { unread = left_in row.unread bytes }) ∷ map link_of_row after =
    rw (eq-eqb row.number row.number refl) (ap (λ l. link_of_row (record row { unread = left_in row.unread bytes }) ∷ l) (with_bytes_lacks row.number bytes after parts.1)) in
    ap (map (with_bytes row.number bytes)) (map-append link_of_row before (row ∷ after))
    ∙ map-append (with_bytes row.number bytes) (map link_of_row before) (map link_of_row (row ∷ after))
    ∙ ap₂ (λ l m. l ++ m) (with_bytes_lacks row.number bytes before parts.0) here
    ∙ sym (map-append link_of_row before (record row { unread = left_in row.unread bytes } ∷ after))

pub sound_fed : (setting : Setting) (told : List ℕ) (before : List Row) (row : Row) (after : List Row) (bytes : List ℕ) (s : Standing) → Sound setting (before ++ row ∷ after) told s →
    Sound setting (before ++ record row { unread = left_in row.unread bytes } ∷ after) told (record { past = s.past; held = map (with_bytes row.number bytes) s.held; unwritten = s.unwritten })
sound_fed setting told before row after bytes s sound =
    let fed : Row = record row { unread = left_in row.unread bytes } in
    let unwritten = each_split (λ (r : Row). s.unwritten r.number ≡ r.unwritten) before (row ∷ after) sound.unwritten_are in
    let opened = each_split (λ (r : Row). (r.number ≢ 0) × (list_any (is_start_on r.number) s.past ≡ true)) before (row ∷ after) sound.opened_are in
    record {
      held_are = ap (map (with_bytes row.number bytes)) sound.held_are ∙ with_bytes_at bytes before row after sound.differ;
      unwritten_are = each_join (λ (r : Row). s.unwritten r.number ≡ r.unwritten) before (fed ∷ after) unwritten.0 unwritten.1;
      opened_are = each_join (λ (r : Row). (r.number ≢ 0) × (list_any (is_start_on r.number) s.past ≡ true)) before (fed ∷ after) opened.0 opened.1;
      differ = apart_again row after fed refl before sound.differ;
      fresh = sound.fresh;
      flying = λ leg a flies some. has_link-with_bytes a.link row.number a.server bytes s.held (sound.flying leg a flies some);
      told_are = sound.told_are;
    }

-- the row that was found
pub found_row : (number index : ℕ) (rows slice : List Row) (row : Row) → slice ≡ rows → IsAt number slice index → row ≡ get_or rows index row →
    (rows ≡ take index rows ++ row ∷ drop (index + 1) rows) × (row.number ≡ number)
found_row number index rows slice row same at is =
    let here : IsAt number rows index = subst (λ l. IsAt number l index) same at in
    (subst (λ r. rows ≡ take index rows ++ r ∷ drop (index + 1) rows) (sym is) (rows_split rows index row here.within), ap (λ (r : Row). r.number) is ∙ here.number_is row)

-- a list that was changed at a place, and then lost that item
pub take_changed : (rows : List Row) (i : ℕ) (r : Row) → i < length rows → take i (set rows i r) ≡ take i rows
take_changed [] i r within = absurd (omega arith)
take_changed (x ∷ rows) zero r within = refl
take_changed (x ∷ rows) (suc i) r within = ap (λ l. x ∷ l) (take_changed rows i r (omega arith))

drop_changed_suc : (rows : List Row) (i : ℕ) (r : Row) → i < length rows → drop (suc i) (set rows i r) ≡ drop (suc i) rows
drop_changed_suc [] i r within = absurd (omega arith)
drop_changed_suc (x ∷ rows) zero r within = refl
drop_changed_suc (x ∷ rows) (suc i) r within = drop_changed_suc rows i r (omega arith)

pub drop_changed : (rows : List Row) (i : ℕ) (r : Row) → i < length rows → drop (i + 1) (set rows i r) ≡ drop (i + 1) rows
drop_changed rows i r within = rw (add-one i) (drop_changed_suc rows i r within)

pub removed_rows : (rows left : List Row) (i : ℕ) (r : Row) → i < length rows → left ≡ take i (set rows i r) ++ drop (i + 1) (set rows i r) → left ≡ take i rows ++ drop (i + 1) rows
removed_rows rows left i r within is = is ∙ ap₂ (λ l m. l ++ m) (take_changed rows i r within) (drop_changed rows i r within)
