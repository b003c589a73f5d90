-- What an entry does to the failures of servers: one that closes no attempt on a server leaves its count, one that does adds what the outcome adds, and a server that enters the list begins anew.
use Rattle.std.proofs.Common.{◌≡◌, ◌∙◌, ℕ, ◌≤◌, Bool, true, false, List, [], ◌∷◌, ◌++◌, Option, Some, None, refl, ap, ap₂, sym, subst, map, cond, arith, length, eqb-true, eq-eqb, true≢false}
use Rattle.std.proofs.lemmas.Bool.{and_from, and_parts}
use Rattle.std.proofs.lemmas.List.{drop-map, map-append}
use Rattle.std.specs.List.{AllByRecursion, list_any}
use Rattle.std.specs.Option.{option_map_or}
use Rattle.std.specs.Prelude.{drop, filter, if◌then◌else◌, not, take, zero, suc, ◌&&◌, ◌==◌, ◌||◌}
use Rattle.chan_types.specs.declared.journal.What.{What}
use Rattle.chan_types.specs.declared.journal.What.TheVariants.{Servers}
use Rattle.chan_types.specs.declared.server_key.ServerKey.{ServerKey}
use Rattle.channel_model.proofs.FlightLemmas.{each_flies, in_flight-none}
use Rattle.channel_model.proofs.ListLemmas.{each-filter, each-then}
use Rattle.channel_model.proofs.OpeningServersLemmas.{no_set-servers}
use Rattle.channel_model.specs.Choice.{Failing, closed_on, count_behind, count_with, counted_at, failing, failures, failures_of_list, first_server}
use Rattle.channel_model.specs.Flight.{Attempt, closes, flight, in_flight}
use Rattle.channel_model.specs.Journal.{Past}
use Rattle.channel_model.specs.Past.{Closing, closings, outcome_of}
use Rattle.channel_model.specs.Servers.{enters, from_place, has_key, servers_at, servers_set_by, servers_used}
use Rattle.channel_model.specs.Setting.{Setting}
use Rattle.channel_model.specs.declared.judged.Judged.{Judged}

empty_if : {X : Type 0} (xs : List X) → AllByRecursion (λ x. ⊥) xs → xs ≡ []
empty_if [] each = refl
empty_if (x ∷ xs) each = absurd each.0

none_passes : {X : Type 0} (test : X → Bool) (xs : List X) → filter test xs ≡ [] → list_any test xs ≡ false
none_passes test [] none = refl
none_passes {X} test (x ∷ xs) none = by_test (test x) none (none_passes test xs)
  where
    by_test : (b : Bool) → cond b (x ∷ filter test xs) (filter test xs) ≡ [] → (filter test xs ≡ [] → list_any test xs ≡ false) → (b || list_any test xs) ≡ false
    by_test true none rest = absurd cc
    by_test false none rest = rest none

map-same : {X Y : Type 0} (f g : X → Y) (xs : List X) → ((x : X) → f x ≡ g x) → map f xs ≡ map g xs
map-same f g [] same = refl
map-same f g (x ∷ xs) same = ap₂ (λ y ys. y ∷ ys) (same x) (map-same f g xs same)

map-after : {X Y Z : Type 0} (f : X → Y) (g : Y → Z) (xs : List X) → map (λ x. g (f x)) xs ≡ map g (map f xs)
map-after f g [] = refl
map-after f g (x ∷ xs) = ap (λ ys. g (f x) ∷ ys) (map-after f g xs)

map-take : {X Y : Type 0} (f : X → Y) (k : ℕ) (xs : List X) → map f (take k xs) ≡ take k (map f xs)
map-take f zero xs = refl
map-take f (suc k) [] = refl
map-take f (suc k) (x ∷ xs) = ap (λ ys. f x ∷ ys) (map-take f k xs)

-- a function goes through an order
pub map-from_place : {X Y : Type 0} (f : X → Y) (k : ℕ) (xs : List X) → map f (from_place k xs) ≡ from_place k (map f xs)
map-from_place f k xs = map-append f (drop k xs) (take k xs) ∙ ap₂ (λ ys zs. ys ++ zs) (sym (drop-map f k xs)) (map-take f k xs)

module _ (setting : Setting) where
  -- an entry that sets no servers lets none enter
  pub no_set-enters : (server : ℕ) (what : What) (past : Past) → servers_set_by what ≡ None → enters setting server what past ≡ false
  no_set-enters server what past none = ap (λ o. option_map_or (has_key server) o false && not (has_key server (servers_at setting past))) none

  module _ (what : What) (past : Past) where
    -- the attempts on a server that an entry closes are on it, closed, and in flight
    closed_each : (server : ℕ) → AllByRecursion (λ (a : Attempt). ((a.server == server) && closes setting a what past ≡ true) × (flight setting a.leg past ≡ Some a)) (closed_on setting server what past)
    closed_each server =
        each-filter (λ (a : Attempt). flight setting a.leg past ≡ Some a) (λ a. (a.server == server) && closes setting a what past) (in_flight setting past) (each_flies setting past)

    -- a server that enters the list has no failures
    pub failures-entered : (server : ℕ) → enters setting server what past ≡ true → failures setting server (what ∷ past) ≡ 0
    failures-entered server entered = rw entered refl

    -- an entry that closes nothing on a server leaves its failures, unless it enters
    pub failures-kept : (server : ℕ) → enters setting server what past ≡ false → closed_on setting server what past ≡ [] → failures setting server (what ∷ past) ≡ failures setting server past
    failures-kept server stays none = rw (stays, none) refl

    -- so does one that ends attempts without an outcome
    pub failures-unjudged : (server : ℕ) → enters setting server what past ≡ false → ((a : Attempt) (earlier : List Closing) → outcome_of setting a what past earlier ≡ None)
        → failures setting server (what ∷ past) ≡ failures setting server past
    failures-unjudged server stays none = rw stays (of_list (closed_on setting server what past))
      where
        of_list : (attempts : List Attempt) → count_behind setting what past attempts (failures setting server past) ≡ failures setting server past
        of_list [] = refl
        of_list (a ∷ attempts) = ap (λ o. count_with o (failures setting server past)) (none a (closings setting a.leg past))

    -- one that closes attempts on it, all with one outcome, changes them by that outcome once
    pub failures-changed : (server : ℕ) (outcome : Option Judged) → enters setting server what past ≡ false → 1 ≤ length (closed_on setting server what past)
        → ((a : Attempt) → flight setting a.leg past ≡ Some a → a.server ≡ server → closes setting a what past ≡ true → outcome_of setting a what past (closings setting a.leg past) ≡ outcome)
        → failures setting server (what ∷ past) ≡ count_with outcome (failures setting server past)
    failures-changed server outcome stays some same = rw stays (of_list (closed_on setting server what past) some (closed_each server))
      where
        of_list : (attempts : List Attempt) → 1 ≤ length attempts → AllByRecursion (λ (a : Attempt). ((a.server == server) && closes setting a what past ≡ true) × (flight setting a.leg past ≡ Some a)) attempts
            → count_behind setting what past attempts (failures setting server past) ≡ count_with outcome (failures setting server past)
        of_list [] some each = absurd (omega (arith, some))
        of_list (a ∷ attempts) some each =
            let parts = and_parts (a.server == server) (closes setting a what past) each.0.0 in
            ap (λ o. count_with o (failures setting server past)) (same a each.0.1 (eqb-true a.server server parts.0) parts.1)

    -- where an entry sets no servers, the failures of the list follow those of each server
    pub failures_of_list-follow : (f : Failing → Failing) → servers_set_by what ≡ None
        → ((server : ℕ) → ◌≡◌ {A = Failing} (record { server = server; count = failures setting server (what ∷ past) }) (f (record { server = server; count = failures setting server past })))
        → failures_of_list setting (what ∷ past) ≡ map f (failures_of_list setting past)
    failures_of_list-follow f none each =
        ap (map (λ (s : ServerKey). record { server = s.key; count = failures setting s.key (what ∷ past) })) (no_set-servers setting what past none)
        ∙ map-same (λ (s : ServerKey). record { server = s.key; count = failures setting s.key (what ∷ past) }) (λ (s : ServerKey). f (record { server = s.key; count = failures setting s.key past })) (servers_at setting past) (λ s. each s.key)
        ∙ map-after (λ (s : ServerKey). record { server = s.key; count = failures setting s.key past }) f (servers_at setting past)

    map-itself : (xs : List Failing) → map (λ x. x) xs ≡ xs
    map-itself [] = refl
    map-itself (x ∷ xs) = ap (λ ys. x ∷ ys) (map-itself xs)

    -- an entry that closes nothing and sets no servers leaves all counts
    pub counts-kept : servers_set_by what ≡ None → ((a : Attempt) → flight setting a.leg past ≡ Some a → closes setting a what past ≡ false) → failures_of_list setting (what ∷ past) ≡ failures_of_list setting past
    counts-kept none open' =
        failures_of_list-follow (λ x. x) none (λ server. ap (λ n. record { server = server; count = n }) (failures-kept server (no_set-enters server what past none) (nothing server))) ∙ map-itself (failures_of_list setting past)
      where
        nothing : (server : ℕ) → closed_on setting server what past ≡ []
        nothing server = empty_if (closed_on setting server what past)
            (each-then (λ (a : Attempt). ((a.server == server) && closes setting a what past ≡ true) × (flight setting a.leg past ≡ Some a)) (λ a. ⊥) (closed_on setting server what past)
            (λ a h. true≢false (sym (and_parts (a.server == server) (closes setting a what past) h.0).1 ∙ open' a h.1)) (closed_each server))

    -- so does one that ends attempts without an outcome
    pub counts-unjudged : servers_set_by what ≡ None → ((a : Attempt) (earlier : List Closing) → outcome_of setting a what past earlier ≡ None) → failures_of_list setting (what ∷ past) ≡ failures_of_list setting past
    counts-unjudged none unjudged =
        failures_of_list-follow (λ x. x) none (λ server. ap (λ n. record { server = server; count = n }) (failures-unjudged server (no_set-enters server what past none) unjudged)) ∙ map-itself (failures_of_list setting past)

    -- one that closes an attempt or several on one server, all with one outcome, changes the count of that server
    pub counts-changed : (server : ℕ) (outcome : Option Judged) (a : Attempt) → servers_set_by what ≡ None → flight setting a.leg past ≡ Some a → a.server ≡ server → closes setting a what past ≡ true
        → ((b : Attempt) → flight setting b.leg past ≡ Some b → closes setting b what past ≡ true → (b.server ≡ server) × (outcome_of setting b what past (closings setting b.leg past) ≡ outcome))
        → failures_of_list setting (what ∷ past) ≡ map (counted_at server outcome) (failures_of_list setting past)
    counts-changed server outcome a none flies on closed only = failures_of_list-follow (counted_at server outcome) none (λ s. by_server s (s == server) refl)
      where
        by_list : (xs : List Attempt) → closed_on setting server what past ≡ xs → 1 ≤ length xs
        by_list [] e = absurd (true≢false (sym (and_from _ _ (eq-eqb a.server server on) closed)
            ∙ in_flight-none setting (λ b. (b.server == server) && closes setting b what past) a.leg past a flies (none_passes (λ b. (b.server == server) && closes setting b what past) (in_flight setting past) e)))
        by_list (x ∷ xs) e = omega arith

        elsewhere : (s : ℕ) → (s == server) ≡ false → closed_on setting s what past ≡ []
        elsewhere s other = empty_if (closed_on setting s what past)
            (each-then (λ (b : Attempt). ((b.server == s) && closes setting b what past ≡ true) × (flight setting b.leg past ≡ Some b)) (λ b. ⊥) (closed_on setting s what past)
            (λ b h. let parts = and_parts (b.server == s) (closes setting b what past) h.0 in
            let there : s ≡ server = sym (eqb-true b.server s parts.0) ∙ (only b h.1 parts.1).0 in
            true≢false (sym (eq-eqb s server there) ∙ other)) (closed_each s))

        by_server : (s : ℕ) (b : Bool) → (s == server) ≡ b
            → ◌≡◌ {A = Failing} (record { server = s; count = failures setting s (what ∷ past) }) (if b then record { server = s; count = count_with outcome (failures setting s past) } else record { server = s; count = failures setting s past })
        by_server s true e =
            let here : s ≡ server = eqb-true s server e in
            ap (λ n. record { server = s; count = n })
            (subst (λ n. failures setting n (what ∷ past) ≡ count_with outcome (failures setting n past)) (sym here)
            (failures-changed server outcome (no_set-enters server what past none) (by_list (closed_on setting server what past) refl) (λ b lands same closes_it. (only b lands closes_it).1)))
        by_server s false e = ap (λ n. record { server = s; count = n }) (failures-kept s (no_set-enters s what past none) (elsewhere s e))

  -- behind an entry that sets the list a server that stays has the failures that it had, and a new one none
  pub counts-set : (list : List ServerKey) (past : Past)
      → failures_of_list setting (Servers list ∷ past) ≡ map (λ s. record { server = s.key; count = if has_key s.key (servers_at setting past) then failures setting s.key past else 0 }) list
  counts-set list past = of_servers list (λ key has. has)
    where
      by_new : (key : ℕ) (b : Bool) → has_key key (servers_at setting past) ≡ b → has_key key list ≡ true → failures setting key (Servers list ∷ past) ≡ (if b then failures setting key past else 0)
      by_new key true is has = failures-unjudged (Servers list) past key (rw (is, has) refl) (λ a earlier. refl)
      by_new key false is has = failures-entered (Servers list) past key (rw (is, has) refl)

      of_servers : (servers : List ServerKey) → ((key : ℕ) → has_key key servers ≡ true → has_key key list ≡ true)
          → map {B = Failing} (λ (s : ServerKey). record { server = s.key; count = failures setting s.key (Servers list ∷ past) }) servers
          ≡ map (λ (s : ServerKey). record { server = s.key; count = if has_key s.key (servers_at setting past) then failures setting s.key past else 0 }) servers
      of_servers [] within = refl
      of_servers (s ∷ servers) within =
          ap₂ (λ x xs. x ∷ xs)
          (ap (λ n. record { server = s.key; count = n }) (by_new s.key (has_key s.key (servers_at setting past)) refl (within s.key (rw (eq-eqb s.key s.key refl) refl))))
          (of_servers servers (λ key has. within key (more key (s.key == key) has)))
        where
          more : (key : ℕ) (b : Bool) → has_key key servers ≡ true → (b || has_key key servers) ≡ true
          more key true has = refl
          more key false has = has

  -- the servers in use with their failures are those of the list, the first alone or all, in the order of ties
  pub failing-is : (past : Past) → failing setting past
      ≡ from_place (first_server setting past) (if setting.options.flags.primary then take 1 (failures_of_list setting past) else failures_of_list setting past)
  failing-is past =
      map-from_place (λ (s : ServerKey). record { server = s.key; count = failures setting s.key past }) (first_server setting past) (servers_used setting past)
      ∙ ap (from_place (first_server setting past)) (by_flag setting.options.flags.primary)
    where
      by_flag : (b : Bool) → map {B = Failing} (λ (s : ServerKey). record { server = s.key; count = failures setting s.key past }) (if b then take 1 (servers_at setting past) else servers_at setting past)
          ≡ (if b then take 1 (failures_of_list setting past) else failures_of_list setting past)
      by_flag true = map-take (λ (s : ServerKey). record { server = s.key; count = failures setting s.key past }) 1 (servers_at setting past)
      by_flag false = refl
