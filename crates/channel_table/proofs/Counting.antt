-- What a table has of a past beside its requests, behind one entry more.
use Rattle.channel_table.proofs.Base.{◌≡◌, ◌∙◌, ℕ, ◌+◌, false, List, [], ◌∷◌, Some, None, refl, ap, sym, map, length, arith, range_with_len, option_map_or, max, What, ServerKey, ServerAddr, counts-kept, no_set-servers, started-kept, Failing, greatest_link, link_of, Attempt, begun_by, closes, flight, Past, outcome_of, greatest_key, greatest_of, keyed_from, servers_set_by, Setting, AreWithinLimits, AreCounted, ChannelServers}
use Rattle.std.specs.Prelude.{◌≤◌}
use Rattle.channel_model.proofs.Theorems.{counts-unjudged}
use Rattle.channel_model.specs.Choice.{failures_of_list}
use Rattle.channel_model.specs.Past.{Closing}
use Rattle.query_machine.specs.Servers.{fresh_server, fresh_servers}

max_none : (n : ℕ) → max 0 n ≡ n
max_none n = omega arith

module _ (setting : Setting) (what : What) (past : Past) {servers : ChannelServers}
    (counted : AreCounted setting past servers) (sets : servers_set_by what ≡ None) (begins : begun_by what ≡ None) where
  -- an entry that sets no servers and begins nothing changes the counts of failures alone
  pub counted_anew : (more : List Failing) → failures_of_list setting (what ∷ past) ≡ more → AreCounted setting (what ∷ past) (record servers { counts = more })
  counted_anew more failed = record {
    listed = no_set-servers setting what past sets ∙ counted.listed;
    failed = failed;
    keyed = ap (λ o. option_map_or (greatest_of (greatest_key setting past)) o (greatest_key setting past)) sets ∙ counted.keyed;
    linked = ap (λ o. max (link_of o) (greatest_link past)) begins ∙ max_none (greatest_link past) ∙ counted.linked;
    begun = ap length (started-kept what past begins) ∙ counted.begun;
  }

  -- one that closes no attempt changes nothing
  pub counted_kept : ((a : Attempt) → flight setting a.leg past ≡ Some a → closes setting a what past ≡ false) → AreCounted setting (what ∷ past) servers
  counted_kept closes_none = counted_anew servers.counts (counts-kept setting what past sets closes_none ∙ counted.failed)

  -- nor one whose closings mean nothing
  pub counted_unjudged : ((a : Attempt) (earlier : List Closing) → outcome_of setting a what past earlier ≡ None) → AreCounted setting (what ∷ past) servers
  counted_unjudged unjudged = counted_anew servers.counts (counts-unjudged setting what past sets unjudged ∙ counted.failed)

greatest_keyed : (key : ℕ) (servers : List ServerAddr) → greatest_of key (keyed_from (key + 1) servers) ≡ key + length servers
greatest_keyed key [] = omega arith
greatest_keyed key (server ∷ servers) = ap (λ k. greatest_of k (keyed_from (key + 1 + 1) servers)) (later key) ∙ greatest_keyed (key + 1) servers ∙ omega arith
  where
    later : (k : ℕ) → max k (k + 1) ≡ k + 1
    later k = omega arith

-- the greatest of the keys with which a channel is made
greatest_opening : (servers : List ServerAddr) → 1 ≤ length servers → greatest_of 0 (keyed_from 0 servers) + 1 ≡ length servers
greatest_opening [] some = absurd (omega (arith, some))
greatest_opening (server ∷ servers) some = ap (λ k. k + 1) (greatest_keyed 0 servers) ∙ omega arith

fresh_opening : (key : ℕ) (servers : List ServerAddr) → ◌≡◌ {A = List Failing} (map (λ (s : ServerKey). record { server = s.key; count = 0 }) (keyed_from key servers)) (map fresh_server (range_with_len key (length servers)))
fresh_opening key [] = refl
fresh_opening key (server ∷ servers) = ap (λ rest. fresh_server key ∷ rest) (fresh_opening (key + 1) servers)

-- a channel begins with the servers of its options, none of which has failed
pub counted_first : (setting : Setting) (list : List ServerKey) (counts : List Failing) (key count : ℕ) → AreWithinLimits setting.options → list ≡ keyed_from 0 setting.options.servers → counts ≡ fresh_servers count
    → count ≡ length setting.options.servers → key + 1 ≡ count → AreCounted setting [] (record { list = list; counts = counts; greatest_key = key; greatest_link = 0; started = 0 })
counted_first setting list counts key count limits listed fresh all last = record {
  listed = sym listed;
  failed = fresh_opening 0 setting.options.servers ∙ ap fresh_servers (sym all) ∙ sym fresh;
  keyed = omega (arith, greatest_opening setting.options.servers limits.some_server, last, all);
  linked = refl;
  begun = refl;
}
