-- What a runner keeps is as a standing has it, and stays so behind entries that begin no attempt.
use Rattle.event_runner.proofs.Base.{◌≡◌, ◌≢◌, ◌∙◌, ℕ, ◌==◌, ◌||◌, true, false, List, [], ◌∷◌, map, refl, ap, sym, subst, arith, true≢false, ⊎_elim, zero, suc, Option, Some, None, All, IsSomeAnd, is_none, filter_map, AllByRecursion, cons_option, list_all, list_any, and_parts, cases_Bool, Entry, What, flight-cases, flight-started, is_leg-says, AreApart, Row, link_of_row, Attempt, begun_by, flight, has_leg, in_flight, started, followed_by, past_of, Leg, is_leg, Link, held_link, has_key, opening_servers, Setting, Standing, is_start_on, is_start_to, Holds, State}

-- what holds by index holds of each, and the other way round
pub each_of : {X : Type 0} (P : X → Type 0) (xs : List X) → All P xs → AllByRecursion P xs
each_of P [] all = tt
each_of P (x ∷ xs) all = (all 0 x (omega arith), each_of P xs (λ k d within. all (suc k) d (omega arith)))

pub all_of : {X : Type 0} (P : X → Type 0) (xs : List X) → AllByRecursion P xs → All P xs
all_of P [] each k d within = absurd (omega arith)
all_of P (x ∷ xs) each zero d within = each.0
all_of P (x ∷ xs) each (suc k) d within = all_of P xs each.1 k d (omega arith)

-- no row has the number
abbrev pub Lacks : ℕ → List Row → Type 0
Lacks number rows = AllByRecursion (λ row. row.number ≢ number) rows

-- no two rows have one number
abbrev pub RowsApart : List Row → Type 0
RowsApart [] = Unit {0}
RowsApart (row ∷ rows) = Lacks row.number rows × RowsApart rows

lacks_of : (number : ℕ) (rows : List Row) → AllByRecursion (λ other. other ≢ number) (map (λ (row : Row). row.number) rows) → Lacks number rows
lacks_of number [] each = tt
lacks_of number (row ∷ rows) each = (each.0, lacks_of number rows each.1)

of_lacks : (number : ℕ) (rows : List Row) → Lacks number rows → AllByRecursion (λ other. other ≢ number) (map (λ (row : Row). row.number) rows)
of_lacks number [] each = tt
of_lacks number (row ∷ rows) each = (each.0, of_lacks number rows each.1)

apart_of : (rows : List Row) → AreApart (map (λ (row : Row). row.number) rows) → RowsApart rows
apart_of [] apart = tt
apart_of (row ∷ rows) apart = (lacks_of row.number rows (each_of (λ other. other ≢ row.number) (map (λ (r : Row). r.number) rows) apart.0), apart_of rows apart.1)

of_apart : (rows : List Row) → RowsApart rows → AreApart (map (λ (row : Row). row.number) rows)
of_apart [] apart = tt
of_apart (row ∷ rows) apart = (all_of (λ other. other ≢ row.number) (map (λ (r : Row). r.number) rows) (of_lacks row.number rows apart.0), of_apart rows apart.1)

-- the link is held, to the server
abbrev pub HasLink : ℕ → ℕ → List Link → Type 0
HasLink number server held = IsSomeAnd (held_link number held) (λ link. link.server ≡ server)

-- what the runner keeps is as a standing has it
pub record Sound (setting : Setting) (rows : List Row) (told : List ℕ) (s : Standing) : Type 0 where
  pub held_are : s.held ≡ map link_of_row rows
  pub unwritten_are : AllByRecursion (λ row. s.unwritten row.number ≡ row.unwritten) rows
  pub opened_are : AllByRecursion (λ row. (row.number ≢ 0) × (list_any (is_start_on row.number) s.past ≡ true)) rows
  pub differ : RowsApart rows
  pub fresh : (link : ℕ) → list_any (is_start_on link) s.past ≡ false → s.unwritten link ≡ []
  pub flying : (leg : Leg) (a : Attempt) → flight setting leg s.past ≡ Some a → a.link ≢ 0 → HasLink a.link a.server s.held
  pub told_are : (server : ℕ) → list_any (λ key. key == server) told ≡ (has_key server (opening_servers setting) || list_any (is_start_to server) s.past)

-- what holds of each attempt in flight holds of a leg's
each_of_leg : (P : Attempt → Type 0) (h : Leg → Option Attempt) (legs : List Leg) (leg : Leg) (a : Attempt) → AllByRecursion P (filter_map h legs) → has_leg leg legs ≡ true → h leg ≡ Some a → P a
each_of_leg P h [] leg a each has is = absurd (true≢false (sym has))
each_of_leg P h (l ∷ legs) leg a each has is = ⊎_elim
    (λ here.
    let same : leg ≡ l = is_leg-says leg l.request l.number here in
    let first : h l ≡ Some a = subst (λ x. h x ≡ Some a) same is in
    let all : AllByRecursion P (cons_option (Some a) (filter_map h legs)) = subst (λ o. AllByRecursion P (cons_option o (filter_map h legs))) first each in
    all.0)
    (λ other. each_of_leg P h legs leg a (rest (h l) each) (subst (λ b. (b || has_leg leg legs) ≡ true) other has) is)
    (cases_Bool (is_leg leg l.request l.number))
  where
    rest : (o : Option Attempt) → AllByRecursion P (cons_option o (filter_map h legs)) → AllByRecursion P (filter_map h legs)
    rest None each = each
    rest (Some b) each = each.1

of_each_leg : (P : Attempt → Type 0) (h : Leg → Option Attempt) (legs : List Leg) → ((leg : Leg) (a : Attempt) → h leg ≡ Some a → P a) → AllByRecursion P (filter_map h legs)
of_each_leg P h [] each = tt
of_each_leg P h (leg ∷ legs) each = onto (h leg) refl (of_each_leg P h legs each)
  where
    onto : (o : Option Attempt) → h leg ≡ o → AllByRecursion P (filter_map h legs) → AllByRecursion P (cons_option o (filter_map h legs))
    onto None is rest = rest
    onto (Some a) is rest = (each leg a is, rest)

-- from a state that holds, and to one
pub sound_of : (state : State) (s : Standing) → Holds state s → Sound state.known.setting state.rows state.told s
sound_of state s holds =
    let setting = state.known.setting in
    record {
      held_are = holds.fits.held_are;
      unwritten_are = each_of (λ (row : Row). s.unwritten row.number ≡ row.unwritten) state.rows holds.fits.unwritten_are;
      opened_are = each_of (λ (row : Row). (row.number ≢ 0) × (list_any (is_start_on row.number) s.past ≡ true)) state.rows holds.fits.opened_are;
      differ = apart_of state.rows holds.fits.differ;
      fresh = holds.fits.fresh;
      flying = λ leg a is some.
          each_of_leg (λ (b : Attempt). b.link ≢ 0 → HasLink b.link b.server s.held) (λ l. flight setting l s.past) (started s.past) leg a
          (each_of (λ (b : Attempt). b.link ≢ 0 → HasLink b.link b.server s.held) (in_flight setting s.past) holds.fits.flying)
          (flight-started setting leg s.past a is) is some;
      told_are = holds.told;
    }

pub holds_of : (state : State) (s : Standing) → s.past ≡ past_of state.known.seen → state.mix ≡ state.known.setting.options.flags.mix → Sound state.known.setting state.rows state.told s → Holds state s
holds_of state s past mixes sound =
    let setting = state.known.setting in
    record {
      fits = record {
        past_is = past;
        held_are = sound.held_are;
        unwritten_are = all_of (λ (row : Row). s.unwritten row.number ≡ row.unwritten) state.rows sound.unwritten_are;
        opened_are = all_of (λ (row : Row). (row.number ≢ 0) × (list_any (is_start_on row.number) s.past ≡ true)) state.rows sound.opened_are;
        differ = of_apart state.rows sound.differ;
        fresh = sound.fresh;
        flying = all_of (λ (b : Attempt). b.link ≢ 0 → HasLink b.link b.server s.held) (in_flight setting s.past)
            (of_each_leg (λ (b : Attempt). b.link ≢ 0 → HasLink b.link b.server s.held) (λ l. flight setting l s.past) (started s.past) (λ leg a is. sound.flying leg a is));
      };
      mixes = mixes;
      told = sound.told_are;
    }

-- entries that begin no attempt
abbrev pub AreIdle : List Entry → Type 0
AreIdle es = list_all (λ entry. is_none (begun_by entry.what)) es ≡ true

none_is : (o : Option Attempt) → is_none o ≡ true → o ≡ None
none_is None is = refl
none_is (Some a) is = absurd (cc is)

-- an entry that begins no attempt
module _ (setting : Setting) (rows : List Row) (told : List ℕ) where
  pub sound_one : (what : What) (s : Standing) → begun_by what ≡ None → Sound setting rows told s → Sound setting rows told (record { past = what ∷ s.past; held = s.held; unwritten = s.unwritten })
  sound_one what s none sound =
      let on : (link : ℕ) → list_any (is_start_on link) (what ∷ s.past) ≡ list_any (is_start_on link) s.past = λ link. rw none refl in
      let to : (server : ℕ) → list_any (is_start_to server) (what ∷ s.past) ≡ list_any (is_start_to server) s.past = λ server. rw none refl in
      record {
        held_are = sound.held_are;
        unwritten_are = sound.unwritten_are;
        opened_are = each_then rows (λ row h. (h.0, on row.number ∙ h.1)) sound.opened_are;
        differ = sound.differ;
        fresh = λ link not_on. sound.fresh link (sym (on link) ∙ not_on);
        flying = λ leg a is some. ⊎_elim
            (λ h. absurd (none_some a (sym none ∙ h.0)))
            (λ h. sound.flying leg a h.0 some)
            (flight-cases setting leg what s.past a is);
        told_are = λ server. sound.told_are server ∙ ap (λ b. has_key server (opening_servers setting) || b) (sym (to server));
      }
    where
      each_then : (rows : List Row) → ((row : Row) → (row.number ≢ 0) × (list_any (is_start_on row.number) s.past ≡ true) → (row.number ≢ 0) × (list_any (is_start_on row.number) (what ∷ s.past) ≡ true))
          → AllByRecursion (λ row. (row.number ≢ 0) × (list_any (is_start_on row.number) s.past ≡ true)) rows → AllByRecursion (λ row. (row.number ≢ 0) × (list_any (is_start_on row.number) (what ∷ s.past) ≡ true)) rows
      each_then [] f each = tt
      each_then (row ∷ rows) f each = (f row each.0, each_then rows f each.1)

      none_some : (a : Attempt) → ◌≡◌ {A = Option Attempt} None (Some a) → ⊥
      none_some a e = cc

  -- entries that begin no attempt
  pub sound_idle : (es : List Entry) (s : Standing) → AreIdle es → Sound setting rows told s → Sound setting rows told (record { past = followed_by s.past es; held = s.held; unwritten = s.unwritten })
  sound_idle [] s idle sound = sound
  sound_idle (e ∷ es) s idle sound =
      let parts = and_parts (is_none (begun_by e.what)) (list_all (λ entry. is_none (begun_by entry.what)) es) idle in
      sound_idle es (record { past = e.what ∷ s.past; held = s.held; unwritten = s.unwritten }) parts.1 (sound_one e.what s (none_is (begun_by e.what) parts.0) sound)
