-- How many servers a list has, and how many attempts a leg may spend.
use Rattle.channel_table.proofs.Base.{◌≡◌, ℕ, suc, ◌+◌, ◌*◌, ◌≤◌, List, [], ◌∷◌, Option, Some, None, refl, ap, subst, take, length, arith, IfSome, if◌then◌else◌, unwrap_or, ServerKey, ServerAddr, AreWithinLimits, servers_some, Past, IsLawfulPast, MaySet, attempts, keyed_from, servers_at, servers_set_by, Setting, AreCounted, attempts_with, ChannelServers}
use Rattle.channel_model.proofs.Theorems.{set_allowed}

keyed-length : (key : ℕ) (servers : List ServerAddr) → length (keyed_from key servers) ≡ length servers
keyed-length key [] = refl
keyed-length key (server ∷ servers) = ap suc (keyed-length (key + 1) servers)

-- a channel has 8 servers at most
few_listed : (setting : Setting) (past : Past) → length setting.options.servers ≤ 8 → IsLawfulPast setting past → length (servers_at setting past) ≤ 8
few_listed setting [] few lawful = omega (arith, few, keyed-length 0 setting.options.servers)
few_listed setting (what ∷ past) few lawful = by_set (servers_set_by what) (set_allowed setting past what lawful.0) (few_listed setting past few lawful.1)
  where
    by_set : (o : Option (List ServerKey)) → IfSome o (MaySet setting past) → length (servers_at setting past) ≤ 8 → length (unwrap_or o (servers_at setting past)) ≤ 8
    by_set None may rest = rest
    by_set (Some list) may rest = may.few

module _ (setting : Setting) (past : Past) {servers : ChannelServers} (counted : AreCounted setting past servers) (limits : AreWithinLimits setting.options) (lawful : IsLawfulPast setting past) where
  -- a table has one to eight servers
  pub list_some : 1 ≤ length servers.list
  list_some = subst (λ (l : List ServerKey). 1 ≤ length l) counted.listed (servers_some setting past lawful limits.some_server)

  pub list_few : length servers.list ≤ 8
  list_few = subst (λ (l : List ServerKey). length l ≤ 8) counted.listed (few_listed setting past limits.few_servers lawful)

  -- a leg may spend so many attempts
  pub attempts_are : attempts setting past ≡ attempts_with setting.options servers.list
  attempts_are = ap (λ (l : List ServerKey). length (if setting.options.flags.primary then take 1 l else l) * setting.options.tries) counted.listed
