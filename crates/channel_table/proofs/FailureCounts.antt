-- How the counts of failures follow an entry that closes attempts on one server.
use Rattle.channel_table.proofs.Base.{◌≡◌, ◌∙◌, ℕ, suc, ◌+◌, ◌<◌, ◌≤◌, ◌^◌, Bool, true, false, List, [], ◌∷◌, Option, Some, None, refl, ap, ap₂, sym, map, length, cond, arith, list_any, ◌||◌, Entry, What, Expire, ServerKey, TimedOut, is_leg-itself, is_leg-says, Failing, Attempt, begun_by, closes, flight, Past, past_of, Leg, is_leg, leg_of, closings, outcome_of, has_key, servers_at, servers_set_by, Setting, Judged, Failed, Final, NextPlain, NextTcp, AreCounted, ◌==◌, ChannelServers, servers_behind}
use Rattle.channel_model.specs.Choice.{count_with}
use Rattle.query_machine.specs.Servers.{one_more, recounted}
use Rattle.channel_table.specs.Arriving.{recount_by}
use Rattle.channel_model.proofs.Theorems.{counts-changed}
use Rattle.channel_model.specs.Choice.{closed_on, count_behind, counted_at, failures}
use Rattle.channel_model.specs.Journal.{followed_by}
use Rattle.channel_model.specs.Servers.{enters}
use Rattle.query_machine.specs.Servers.{recounted_one}
use Rattle.channel_table.proofs.Counting.{counted_anew}

count_few : (o : Option Judged) (n m : ℕ) → n ≤ m → count_with o n ≤ suc m
count_few None n m few = omega (arith, few)
count_few (Some NextTcp) n m few = omega arith
count_few (Some NextPlain) n m few = omega arith
count_few (Some (Failed status)) n m few = omega (arith, few)
count_few (Some (Final status)) n m few = omega arith

-- a server's failures don't outnumber what happened
failures_few : (setting : Setting) (server : ℕ) (past : Past) → failures setting server past ≤ length past
failures_few setting server [] = omega arith
failures_few setting server (what ∷ past) = by_test (enters setting server what past) (closed_on setting server what past) (failures_few setting server past)
  where
    by_test : (b : Bool) (closed : List Attempt) → failures setting server past ≤ length past → cond b 0 (count_behind setting what past closed (failures setting server past)) ≤ suc (length past)
    by_test true closed few = omega arith
    by_test false [] few = omega (arith, few)
    by_test false (a ∷ more) few = count_few (outcome_of setting a what past (closings setting a.leg past)) (failures setting server past) (length past) few

past_length : (past : Past) (entries : List Entry) → length (followed_by past entries) ≡ length past + length entries
past_length past [] = omega arith
past_length past (entry ∷ entries) = past_length (entry.what ∷ past) entries ∙ onwards (length past) (length entries)
  where
    onwards : (k n : ℕ) → suc k + n ≡ k + suc n
    onwards k n = omega arith

-- as much happened as there are entries
pub past_of-length : (entries : List Entry) → length (past_of entries) ≡ length entries
past_of-length entries = past_length [] entries ∙ omega arith

-- a server of the list has a count
pub counted_there : (setting : Setting) (past : Past) (server : ℕ) (keys : List ServerKey) → has_key server keys ≡ true
    → list_any (λ (item : Failing). item.server == server) (map (λ (s : ServerKey). record { server = s.key; count = failures setting s.key past }) keys) ≡ true
counted_there setting past server keys has = same keys ∙ has
  where
    same : (ks : List ServerKey) → list_any (λ (item : Failing). item.server == server) (map (λ (s : ServerKey). record { server = s.key; count = failures setting s.key past }) ks) ≡ has_key server ks
    same [] = refl
    same (k ∷ ks) = ap (λ b. (k.key == server) || b) (same ks)

recount_one : (server key count : ℕ) (o : Option Judged) (recount : ℕ → ℕ) → count_with o count ≡ recount count → counted_at server o (record { server = key; count = count }) ≡ recounted_one server recount (record { server = key; count = count })
recount_one server key count o recount same = by_test (key == server)
  where
    by_test : (b : Bool) → ◌≡◌ {A = Failing} (cond b (record { server = key; count = count_with o count }) (record { server = key; count = count })) (cond b (record { server = key; count = recount count }) (record { server = key; count = count }))
    by_test true = ap (λ n. record { server = key; count = n }) same
    by_test false = refl

-- one failure more, where the count is small
pub one_more-is : (n m : ℕ) → n ≤ m → m + 1 < 2 ^ 64 → n + 1 ≡ one_more n
one_more-is n m few small = omega (arith, few, small)

-- the count behind the end of an attempt, where it is small
pub recount_is : (judged : Judged) (n m : ℕ) → n ≤ m → m + 1 < 2 ^ 64 → count_with (Some judged) n ≡ recount_by judged n
recount_is NextTcp n m few small = refl
recount_is NextPlain n m few small = refl
recount_is (Failed status) n m few small = one_more-is n m few small
recount_is (Final status) n m few small = refl

module _ (setting : Setting) (what : What) (past : Past) {servers : ChannelServers} (counted : AreCounted setting past servers) (sets : servers_set_by what ≡ None) (begins : begun_by what ≡ None) where
  recount_all : (server : ℕ) (judged : Judged) → length past + 1 < 2 ^ 64 → (keys : List ServerKey)
      → map (counted_at server (Some judged)) (map (λ (s : ServerKey). record { server = s.key; count = failures setting s.key past }) keys)
      ≡ map (recounted_one server (recount_by judged)) (map (λ (s : ServerKey). record { server = s.key; count = failures setting s.key past }) keys)
  recount_all server judged small [] = refl
  recount_all server judged small (k ∷ keys) =
      ap₂ (λ (x : Failing) xs. x ∷ xs) (recount_one server k.key (failures setting k.key past) (Some judged) (recount_by judged) (recount_is judged (failures setting k.key past) (length past) (failures_few setting k.key past) small)) (recount_all server judged small keys)

  -- where all the attempts that it closes are on one server and mean the same, that server's count changes by it once
  pub counted_changed : (server : ℕ) (judged : Judged) (a : Attempt) → length past + 1 < 2 ^ 64 → flight setting a.leg past ≡ Some a → a.server ≡ server → closes setting a what past ≡ true
      → ((b : Attempt) → flight setting b.leg past ≡ Some b → closes setting b what past ≡ true → (b.server ≡ server) × (outcome_of setting b what past (closings setting b.leg past) ≡ Some judged))
      → AreCounted setting (what ∷ past) (servers_behind server judged servers)
  counted_changed server judged a small flies at closed all =
      counted_anew setting what past counted sets begins (recounted server (recount_by judged) servers.counts)
      (counts-changed setting what past server (Some judged) a sets flies at closed all ∙ recount_all server judged small (servers_at setting past) ∙ ap (map (recounted_one server (recount_by judged))) counted.failed)

some_attempt : (a b : Attempt) → ◌≡◌ {A = Option Attempt} (Some a) (Some b) → a ≡ b
some_attempt a b e = cc

-- an Expire counts a failure of its attempt's server
pub counted_expired : (setting : Setting) (past : Past) (number k at : ℕ) {servers : ChannelServers} (a : Attempt) → length past + 1 < 2 ^ 64
    → flight setting (leg_of number k) past ≡ Some a → a.leg ≡ leg_of number k → AreCounted setting past servers
    → AreCounted setting (Expire number k at ∷ past) (servers_behind a.server (Failed TimedOut) servers)
counted_expired setting past number k at a small flies own counted =
    counted_changed setting (Expire number k at) past counted refl refl a.server (Failed TimedOut) a small
    (ap (λ (l : Leg). flight setting l past) own ∙ flies) refl (rw own (is_itself number)) others
  where
    is_itself : (n : ℕ) → is_leg (leg_of n k) n k ≡ true
    is_itself n = is_leg-itself (leg_of n k)

    others : (b : Attempt) → flight setting b.leg past ≡ Some b → is_leg b.leg number k ≡ true → (b.server ≡ a.server) × (◌≡◌ {A = Option Judged} (Some (Failed TimedOut)) (Some (Failed TimedOut)))
    others b other closed =
        let leg : b.leg ≡ leg_of number k = is_leg-says b.leg number k closed in
        let same : b ≡ a = some_attempt b a (sym other ∙ ap (λ (l : Leg). flight setting l past) leg ∙ flies) in
        (ap (λ (c : Attempt). c.server) same, refl)
