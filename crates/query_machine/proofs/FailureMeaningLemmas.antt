-- The servers with their failures go on as a journal does: behind each kind of entry the matching call gives their counts.
use Rattle.std.proofs.Common.{◌≡◌, ◌∙◌, ℕ, ◌+◌, ◌-◌, ◌^◌, ◌<◌, ◌≤◌, Bool, true, false, List, [], ◌∷◌, Option, Some, None, arith, cond, length, map, min, refl, ap, ap₂, sym, take, take_all}
use Rattle.std.proofs.lemmas.Bool.{eqb-true}
use Rattle.std.proofs.lemmas.List.{length-map}
use Rattle.std.specs.List.{range_with_len}
use Rattle.std.specs.Prelude.{find, if◌then◌else◌, option_map, unwrap_or, ◌==◌, ◌||◌}
use Rattle.chan_types.specs.declared.journal.What.{What}
use Rattle.chan_types.specs.declared.journal.What.TheVariants.{Servers}
use Rattle.chan_types.specs.declared.server_key.ServerKey.{ServerKey}
use Rattle.chan_types.specs.declared.status.Status.{Status}
use Rattle.channel_model.proofs.Theorems.{counts-changed, counts-set, failing-is}
use Rattle.channel_model.specs.Choice.{Failing, chosen_server, count_behind, count_with, counted_at, closed_on, failures, failures_of_list, first_server, least_of}
use Rattle.channel_model.specs.Flight.{Attempt, closes, flight}
use Rattle.channel_model.specs.Journal.{Past}
use Rattle.channel_model.specs.Legs.{Leg}
use Rattle.channel_model.specs.Past.{closings, forced_server, is_failed, outcome_of}
use Rattle.channel_model.specs.Servers.{enters, from_place, has_key, in_use, keyed_from, servers_at, servers_set_by}
use Rattle.channel_model.specs.Setting.{Setting}
use Rattle.channel_model.specs.declared.judged.Judged.{Judged}
use Rattle.channel_model.specs.declared.judged.Judged.TheVariants.{Failed, Final, NextPlain, NextTcp}
use Rattle.net_addr.specs.declared.addr.ServerAddr.{ServerAddr}
use Rattle.query_machine.specs.Servers.{failures_of, fresh_server, fresh_servers, one_more, recounted, recounted_one, renewed}

-- the end of an attempt adds one failure at most
one_at_most : (outcome : Option Judged) (count : ℕ) → count_with outcome count ≤ count + 1
one_at_most None count = omega arith
one_at_most (Some NextTcp) count = omega arith
one_at_most (Some NextPlain) count = omega arith
one_at_most (Some (Failed status)) count = omega arith
one_at_most (Some (Final status)) count = omega arith

-- one that doesn't fail forgives all
forgives : (outcome : Judged) (count : ℕ) → is_failed (Some outcome) ≡ false → count_with (Some outcome) count ≡ 0
forgives NextTcp count good = refl
forgives NextPlain count good = refl
forgives (Failed status) count good = absurd cc
forgives (Final status) count good = refl

module _ (setting : Setting) where
  -- a server has at most as many failures as its past has entries
  pub failures_few : (server : ℕ) (past : Past) → failures setting server past ≤ length past
  failures_few server [] = omega arith
  failures_few server (what ∷ past) = by_entry (enters setting server what past) (closed_on setting server what past) (failures_few server past)
    where
      by_entry : (b : Bool) (attempts : List Attempt) → failures setting server past ≤ length past → (if b then 0 else count_behind setting what past attempts (failures setting server past)) ≤ length (what ∷ past)
      by_entry true attempts before = omega arith
      by_entry false [] before = omega (arith, before)
      by_entry false (a ∷ more) before = omega (arith, before, one_at_most (outcome_of setting a what past (closings setting a.leg past)) (failures setting server past))

  -- a count that one failure more doesn't stop is counted as the journal counts it
  module _ (past : Past) (server : ℕ) where
    fails_one : (status : Status) (key : ℕ) → length past < 2 ^ 64 - 1 →
        counted_at server (Some (Failed status)) (record { server = key; count = failures setting key past }) ≡ recounted_one server one_more (record { server = key; count = failures setting key past })
    fails_one status key room =
        let counts : failures setting key past + 1 ≡ min (failures setting key past + 1) (2 ^ 64 - 1) = omega (arith, failures_few key past, room) in
        ap (λ (n : ℕ). if key == server then record { server = key; count = n } else record { server = key; count = failures setting key past }) counts

    fails_each : (status : Status) (servers : List ServerKey) → length past < 2 ^ 64 - 1 →
        map (counted_at server (Some (Failed status))) (map (λ (s : ServerKey). record { server = s.key; count = failures setting s.key past }) servers)
        ≡ recounted server one_more (map (λ (s : ServerKey). record { server = s.key; count = failures setting s.key past }) servers)
    fails_each status [] room = refl
    fails_each status (s ∷ servers) room = ap₂ (λ (x : Failing) (xs : List Failing). x ∷ xs) (fails_one status s.key room) (fails_each status servers room)

    good_each : (outcome : Judged) (servers : List Failing) → is_failed (Some outcome) ≡ false → map (counted_at server (Some outcome)) servers ≡ recounted server (λ count. 0) servers
    good_each outcome [] good = refl
    good_each outcome (s ∷ servers) good =
        ap₂ (λ (x : Failing) (xs : List Failing). x ∷ xs) (ap (λ (n : ℕ). if s.server == server then record { server = s.server; count = n } else s) (forgives outcome s.count good)) (good_each outcome servers good)

  -- an entry that closes attempts on one server, all with one outcome
  module _ (what : What) (past : Past) (server : ℕ) (outcome : Judged) (a : Attempt) (sets_none : servers_set_by what ≡ None) (flies : flight setting a.leg past ≡ Some a)
      (there : a.server ≡ server) (closed : closes setting a what past ≡ true)
      (only : (b : Attempt) → flight setting b.leg past ≡ Some b → closes setting b what past ≡ true → (b.server ≡ server) × (outcome_of setting b what past (closings setting b.leg past) ≡ Some outcome)) where
    changed : failures_of_list setting (what ∷ past) ≡ map (counted_at server (Some outcome)) (failures_of_list setting past)
    changed = counts-changed setting what past server (Some outcome) a sets_none flies there closed only

    -- where it fails them the server has one failure more
    pub failed_counts : (status : Status) → outcome ≡ Failed status → length past < 2 ^ 64 - 1 → failures_of_list setting (what ∷ past) ≡ recounted server one_more (failures_of_list setting past)
    failed_counts status fails room =
        changed ∙ ap (λ (o : Judged). map (counted_at server (Some o)) (failures_of_list setting past)) fails ∙ fails_each past server status (servers_at setting past) room

    -- and else none
    pub good_counts : is_failed (Some outcome) ≡ false → failures_of_list setting (what ∷ past) ≡ recounted server (λ count. 0) (failures_of_list setting past)
    good_counts good = changed ∙ good_each past server outcome (failures_of_list setting past) good

  -- what the counts of a list say of a key
  found : (past : Past) (key : ℕ) (servers : List ServerKey) →
      failures_of (map (λ (s : ServerKey). record { server = s.key; count = failures setting s.key past }) servers) key ≡ (if has_key key servers then failures setting key past else 0)
  found past key [] = refl
  found past key (s ∷ servers) = by_test (s.key == key) refl (found past key servers)
    where
      by_test : (b : Bool) → (s.key == key) ≡ b →
          failures_of (map (λ (t : ServerKey). record { server = t.key; count = failures setting t.key past }) servers) key ≡ (if has_key key servers then failures setting key past else 0) →
          unwrap_or (option_map (λ (item : Failing). item.count) (cond b (Some (record { server = s.key; count = failures setting s.key past }))
          (find (λ (item : Failing). item.server == key) (map (λ (t : ServerKey). record { server = t.key; count = failures setting t.key past }) servers)))) 0
          ≡ (if b || has_key key servers then failures setting key past else 0)
      by_test true is rest = ap (λ (n : ℕ). failures setting n past) (eqb-true s.key key is)
      by_test false is rest = rest

  -- a new list of servers: each that stays keeps its failures
  pub renewed_counts : (list : List ServerKey) (past : Past) → failures_of_list setting (Servers list ∷ past) ≡ renewed list (failures_of_list setting past)
  renewed_counts list past = counts-set setting list past ∙ each list
    where
      each : (servers : List ServerKey) → map {B = Failing} (λ (s : ServerKey). record { server = s.key; count = if has_key s.key (servers_at setting past) then failures setting s.key past else 0 }) servers
          ≡ renewed servers (failures_of_list setting past)
      each [] = refl
      each (s ∷ servers) = ap₂ (λ (n : ℕ) (xs : List Failing). record { server = s.key; count = n } ∷ xs) (sym (found past s.key (servers_at setting past))) (each servers)

  -- the servers with which the channel was made
  pub opening_counts : failures_of_list setting [] ≡ fresh_servers (length setting.options.servers)
  opening_counts = each 0 setting.options.servers
    where
      each : (key : ℕ) (addresses : List ServerAddr) → map {B = Failing} (λ (s : ServerKey). record { server = s.key; count = 0 }) (keyed_from key addresses) ≡ map fresh_server (range_with_len key (length addresses))
      each key [] = refl
      each key (address ∷ addresses) = ap (λ (xs : List Failing). fresh_server key ∷ xs) (each (key + 1) addresses)

  -- the first of a list, or all of it, by its length
  of_used : (b : Bool) (f : ServerKey → Failing) (servers : List ServerKey) → take (length (if b then take 1 servers else servers)) (map f servers) ≡ (if b then take 1 (map f servers) else map f servers)
  of_used true f [] = refl
  of_used true f (s ∷ servers) = refl
  of_used false f servers = take_all (length servers) (map f servers) (omega (arith, length-map servers f))

  -- the pick among those in use, from the place where the order of ties begins, is the server of the leg's next attempt, unless one is forced
  pub pick_is_chosen : (leg : Leg) (past : Past) →
      unwrap_or (forced_server setting leg past) (least_of (from_place (first_server setting past) (take (in_use setting past) (failures_of_list setting past)))) ≡ chosen_server setting leg past
  pick_is_chosen leg past =
      ap (λ (servers : List Failing). unwrap_or (forced_server setting leg past) (least_of servers))
      (ap (from_place (first_server setting past)) (of_used setting.options.flags.primary (λ (s : ServerKey). record { server = s.key; count = failures setting s.key past }) (servers_at setting past))
      ∙ sym (failing-is setting past))
