-- The keys of a channel's servers: no list has one twice, and a server that stays keeps its own.
use Rattle.std.proofs.Common.{◌≡◌, ◌∙◌, ℕ, ◌+◌, ◌≤◌, ◌<◌, Bool, true, false, List, [], ◌∷◌, Option, Some, None, refl, ap, ap₂, sym, subst, map, cond, arith, length, ne_eqb}
use Rattle.std.proofs.lemmas.Bool.{or_parts}
use Rattle.std.proofs.lemmas.List.{length-map}
use Rattle.std.specs.List.{AllByRecursion}
use Rattle.std.specs.Option.{option_map_or}
use Rattle.std.specs.Prelude.{IfSome, IsFalse, find, not, unwrap_or, max, ◌==◌}
use Rattle.chan_types.specs.declared.journal.Entry.{Entry}
use Rattle.chan_types.specs.declared.journal.What.{What}
use Rattle.chan_types.specs.declared.journal.What.TheVariants.{Accept, Arrive, Cancel, Destroy, Expire, Fault, Servers, Start, Take}
use Rattle.chan_types.specs.declared.server_key.ServerKey.{ServerKey}
use Rattle.net_addr.specs.declared.addr.ServerAddr.{ServerAddr}
use Rattle.channel_model.proofs.ListLemmas.{each-filter, each-then, none_is_some}
use Rattle.channel_model.proofs.TestLemmas.{server_decided}
use Rattle.channel_model.specs.Journal.{Past, is_destroyed, past_of}
use Rattle.channel_model.specs.Lawful.{IsAllowed, IsLawful, IsLawfulPast, MaySet}
use Rattle.channel_model.specs.Servers.{KeysDiffer, greatest_key, greatest_of, has_key, keyed_from, keys_for, opening_servers, rekeyed, rekeyed_first, same_server, servers_at, servers_set_by, without_key}
use Rattle.channel_model.specs.Setting.{Setting}

-- no server has a key above this one
abbrev pub AllUpTo : ℕ → List ServerKey → Type 0
AllUpTo most servers = AllByRecursion (λ (server : ServerKey). server.key ≤ most) servers

-- keys from a number on have no lesser one
keyed_from-above : (key from : ℕ) (addresses : List ServerAddr) → key < from → has_key key (keyed_from from addresses) ≡ false
keyed_from-above key from [] less = refl
keyed_from-above key from (address ∷ addresses) less = rw (ne_eqb from key (λ (e : from ≡ key). omega arith)) (keyed_from-above key (from + 1) addresses (omega arith))

-- and differ
keyed_from-differ : (from : ℕ) (addresses : List ServerAddr) → KeysDiffer (keyed_from from addresses)
keyed_from-differ from [] = tt
keyed_from-differ from (address ∷ addresses) = (keyed_from-above from (from + 1) addresses (omega arith), keyed_from-differ (from + 1) addresses)

-- a list without a key doesn't have it
without_own : (key : ℕ) (servers : List ServerKey) → has_key key (without_key key servers) ≡ false
without_own key [] = refl
without_own key (server ∷ servers) = by_test (server.key == key) refl (without_own key servers)
  where
    by_test : (b : Bool) → (server.key == key) ≡ b → has_key key (without_key key servers) ≡ false → has_key key (cond (not b) (server ∷ without_key key servers) (without_key key servers)) ≡ false
    by_test true is rest = rest
    by_test false is rest = rw is rest

-- nor one that wasn't there before
without_other : (key other : ℕ) (servers : List ServerKey) → has_key other servers ≡ false → has_key other (without_key key servers) ≡ false
without_other key other [] none = refl
without_other key other (server ∷ servers) none =
    let parts = or_parts (server.key == other) (has_key other servers) none in by_test (not (server.key == key)) parts.0 (without_other key other servers parts.1)
  where
    by_test : (b : Bool) → (server.key == other) ≡ false → has_key other (without_key key servers) ≡ false → has_key other (cond b (server ∷ without_key key servers) (without_key key servers)) ≡ false
    by_test true is rest = rw is rest
    by_test false is rest = rest

-- what is found in a list passes what holds of each, and the test
pub found_each : {X : Type 0} (P : X → Type 0) (test : X → Bool) (xs : List X) (x : X) → AllByRecursion P xs → find test xs ≡ Some x → (test x ≡ true) × P x
found_each P test [] x each e = none_is_some x e
found_each {X} P test (y ∷ ys) x each e = by_test (test y) refl e (found_each P test ys x each.1)
  where
    by_test : (b : Bool) → test y ≡ b → cond b (Some y) (find test ys) ≡ Some x → (find test ys ≡ Some x → (test x ≡ true) × P x) → (test x ≡ true) × P x
    by_test true is e rest = let same : y ≡ x = cc in subst (λ z. (test z ≡ true) × P z) same (is, each.0)
    by_test false is e rest = rest e

-- a key that no server of a list has is apart from each of them
each_other : (key : ℕ) (servers : List ServerKey) → has_key key servers ≡ false → AllByRecursion (λ (server : ServerKey). (server.key == key) ≡ false) servers
each_other key [] none = tt
each_other key (server ∷ servers) none = let parts = or_parts (server.key == key) (has_key key servers) none in (parts.0, each_other key servers parts.1)

-- a key above all isn't there
above_none : (key most : ℕ) (servers : List ServerKey) → most < key → AllUpTo most servers → has_key key servers ≡ false
above_none key most [] less each = refl
above_none key most (server ∷ servers) less each = rw (ne_eqb server.key key (λ (e : server.key ≡ key). omega (arith, less, each.0, e))) (above_none key most servers less each.1)

up_to-without : (key most : ℕ) (servers : List ServerKey) → AllUpTo most servers → AllUpTo most (without_key key servers)
up_to-without key most servers each =
    each-then (λ (server : ServerKey). (not (server.key == key) ≡ true) × (server.key ≤ most)) (λ (server : ServerKey). server.key ≤ most) (without_key key servers) (λ _ h. h.1)
    (each-filter (λ (server : ServerKey). server.key ≤ most) (λ server. not (server.key == key)) servers each)

up_to-more : (most more : ℕ) (servers : List ServerKey) → most ≤ more → AllUpTo most servers → AllUpTo more servers
up_to-more most more servers least each = each-then (λ (server : ServerKey). server.key ≤ most) (λ (server : ServerKey). server.key ≤ more) servers (λ server h. omega (arith, least, h)) each

-- a new list has no key that the old one hasn't and that was given already
rekeyed-apart : (key : ℕ) (addresses : List ServerAddr) (old : List ServerKey) (greatest : ℕ) → has_key key old ≡ false → key ≤ greatest → has_key key (rekeyed addresses old greatest) ≡ false
rekeyed-apart key [] old greatest none given = refl
rekeyed-apart key (address ∷ addresses) old greatest none given = by_found (find (λ (s : ServerKey). same_server s.address address) old) refl (rekeyed-apart key addresses)
  where
    by_found : (o : Option ServerKey) → find (λ (s : ServerKey). same_server s.address address) old ≡ o
        → ((rest : List ServerKey) (most : ℕ) → has_key key rest ≡ false → key ≤ most → has_key key (rekeyed addresses rest most) ≡ false)
        → has_key key (rekeyed_first o address (rekeyed addresses) old greatest) ≡ false
    by_found None is others = rw (ne_eqb (greatest + 1) key (λ (e : greatest + 1 ≡ key). omega (arith, given, e))) (others old (greatest + 1) none (omega (arith, given)))
    by_found (Some server) is others =
        rw (found_each (λ (s : ServerKey). (s.key == key) ≡ false) (λ (s : ServerKey). same_server s.address address) old server (each_other key old none) is).1
        (others (without_key server.key old) greatest (without_other server.key key old none) given)

-- the keys of a new list differ, where no key of the old one is above the greatest
pub rekeyed-differ : (addresses : List ServerAddr) (old : List ServerKey) (greatest : ℕ) → AllUpTo greatest old → KeysDiffer (rekeyed addresses old greatest)
rekeyed-differ [] old greatest given = tt
rekeyed-differ (address ∷ addresses) old greatest given = by_found (find (λ (s : ServerKey). same_server s.address address) old) refl (rekeyed-differ addresses)
  where
    by_found : (o : Option ServerKey) → find (λ (s : ServerKey). same_server s.address address) old ≡ o
        → ((rest : List ServerKey) (most : ℕ) → AllUpTo most rest → KeysDiffer (rekeyed addresses rest most))
        → KeysDiffer (rekeyed_first o address (rekeyed addresses) old greatest)
    by_found None is others = (
      rekeyed-apart (greatest + 1) addresses old (greatest + 1) (above_none (greatest + 1) greatest old (omega arith) given) (omega arith),
      others old (greatest + 1) (up_to-more greatest (greatest + 1) old (omega arith) given),
    )
    by_found (Some server) is others = (
      rekeyed-apart server.key addresses (without_key server.key old) greatest (without_own server.key old)
          (found_each (λ (s : ServerKey). s.key ≤ greatest) (λ (s : ServerKey). same_server s.address address) old server given is).1,
      others (without_key server.key old) greatest (up_to-without server.key greatest old given),
    )

-- a new list has the addresses that it was made of, in their order
pub rekeyed-addresses : (addresses : List ServerAddr) (old : List ServerKey) (greatest : ℕ) → map (λ (s : ServerKey). s.address) (rekeyed addresses old greatest) ≡ addresses
rekeyed-addresses [] old greatest = refl
rekeyed-addresses (address ∷ addresses) old greatest = by_found (find (λ (s : ServerKey). same_server s.address address) old) refl (rekeyed-addresses addresses)
  where
    all : (rest : List ServerKey) → AllByRecursion (λ (s : ServerKey). s ≡ s) rest
    all [] = tt
    all (s ∷ rest) = (refl, all rest)

    by_found : (o : Option ServerKey) → find (λ (s : ServerKey). same_server s.address address) old ≡ o
        → ((rest : List ServerKey) (most : ℕ) → map (λ (s : ServerKey). s.address) (rekeyed addresses rest most) ≡ addresses)
        → map (λ (s : ServerKey). s.address) (rekeyed_first o address (rekeyed addresses) old greatest) ≡ address ∷ addresses
    by_found None is others = ap (λ rest. address ∷ rest) (others old (greatest + 1))
    by_found (Some server) is others =
        let says = found_each (λ (s : ServerKey). s ≡ s) (λ (s : ServerKey). same_server s.address address) old server (all old) is in
        ap₂ (λ x xs. x ∷ xs) ((server_decided server.address address).0 says.0) (others (without_key server.key old) greatest)

-- the greatest of some keys is above each
greatest_of-self : (key : ℕ) (servers : List ServerKey) → key ≤ greatest_of key servers
greatest_of-self key [] = omega arith
greatest_of-self key (server ∷ servers) = omega (arith, greatest_of-self (max key server.key) servers)

greatest_of-each : (key : ℕ) (servers : List ServerKey) → AllUpTo (greatest_of key servers) servers
greatest_of-each key [] = tt
greatest_of-each key (server ∷ servers) = (omega (arith, greatest_of-self (max key server.key) servers), greatest_of-each (max key server.key) servers)

module _ (setting : Setting) where
  -- no server of the list has a key above the greatest that was given
  pub keys_given : (past : Past) → AllUpTo (greatest_key setting past) (servers_at setting past)
  keys_given [] = greatest_of-each 0 (opening_servers setting)
  keys_given (what ∷ past) = by_set (servers_set_by what) (keys_given past)
    where
      by_set : (o : Option (List ServerKey)) → AllUpTo (greatest_key setting past) (servers_at setting past)
          → AllUpTo (option_map_or (greatest_of (greatest_key setting past)) o (greatest_key setting past)) (unwrap_or o (servers_at setting past))
      by_set None given = given
      by_set (Some list) given = greatest_of-each (greatest_key setting past) list

  -- a list that is set is one that may be
  pub set_allowed : (past : Past) (what : What) → IsAllowed setting past what → IfSome (servers_set_by what) (MaySet setting past)
  set_allowed past (Accept number spec script) allowed = tt
  set_allowed past Cancel allowed = tt
  set_allowed past Destroy allowed = tt
  set_allowed past (Take number) allowed = tt
  set_allowed past (Start number leg server link id mix moment) allowed = tt
  set_allowed past (Arrive server link bytes) allowed = tt
  set_allowed past (Expire number leg moment) allowed = tt
  set_allowed past (Fault server link moment) allowed = tt
  set_allowed past (Servers list) allowed = allowed

  -- in a lawful past no two servers of the list have one key
  pub keys_differ : (past : Past) → IsLawfulPast setting past → KeysDiffer (servers_at setting past)
  keys_differ [] lawful = keyed_from-differ 0 setting.options.servers
  keys_differ (what ∷ past) lawful = by_set (servers_set_by what) (set_allowed past what lawful.0) (keys_differ past lawful.1)
    where
      by_set : (o : Option (List ServerKey)) → IfSome o (MaySet setting past) → KeysDiffer (servers_at setting past) → KeysDiffer (unwrap_or o (servers_at setting past))
      by_set None may before = before
      by_set (Some list) may before =
          subst KeysDiffer (sym may.keys) (rekeyed-differ (map (λ (s : ServerKey). s.address) list) (servers_at setting past) (greatest_key setting past) (keys_given past))

  -- 1 to 8 servers may become the list with the keys of the rule
  pub may_set : (past : Past) (addresses : List ServerAddr) → IsFalse (is_destroyed past) → 1 ≤ length addresses → length addresses ≤ 8 → MaySet setting past (keys_for setting addresses past)
  may_set past addresses opened some few =
      let back : map (λ (s : ServerKey). s.address) (keys_for setting addresses past) ≡ addresses = rekeyed-addresses addresses (servers_at setting past) (greatest_key setting past) in
      let long : length (keys_for setting addresses past) ≡ length addresses = sym (length-map (keys_for setting addresses past) (λ (s : ServerKey). s.address)) ∙ ap length back in
      record { open' = opened; some = omega (arith, some, long); few = omega (arith, few, long); keys = ap (λ l. keys_for setting l past) (sym back) }

-- the same of journals
pub server_keys_differ : (setting : Setting) (journal : List Entry) → IsLawful setting journal → KeysDiffer (servers_at setting (past_of journal))
server_keys_differ setting journal lawful = keys_differ setting (past_of journal) lawful.allowed
