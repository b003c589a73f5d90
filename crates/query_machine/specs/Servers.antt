-- Servers with the counts of their failures.
use Rattle.std.specs.List.{range_with_len}
use Rattle.std.specs.Prelude.{List, [], find, if◌then◌else◌, map, min, nat_lt, option_map, unwrap_or, ℕ, ◌+◌, ◌-◌, ◌==◌, ◌^◌, ◌∷◌}
use Rattle.chan_types.specs.declared.server_key.ServerKey.{ServerKey}
use Rattle.channel_model.specs.Choice.{Failing}
use Rattle.query_machine.specs.declared.servers.FailureCount.{FailureCount}

-- a count as the channel's model has it
abbrev pub failing_of : FailureCount → Failing
failing_of item = record { server = item.key; count = item.failures }

-- a server that hasn't failed
abbrev pub fresh_server : ℕ → Failing
fresh_server key = record { server = key; count = 0 }

-- so many servers with the keys from 0 on, of which none has failed
abbrev pub fresh_servers : ℕ → List Failing
fresh_servers count = map fresh_server (range_with_len 0 count)

-- the server with another count, if it is that of this key
abbrev pub recounted_one : ℕ → (ℕ → ℕ) → Failing → Failing
recounted_one key recount item = if item.server == key then record item { count = recount item.count } else item

-- the list with another count for the server of this key
abbrev pub recounted : ℕ → (ℕ → ℕ) → List Failing → List Failing
recounted key recount servers = map (recounted_one key recount) servers

-- the item with another count, if it is that of this key
abbrev pub counted_again : ℕ → (ℕ → ℕ) → FailureCount → FailureCount
counted_again key recount item = if item.key == key then record item { failures = recount item.failures } else item

-- one failure more; the count stops at the greatest of 64 bits
abbrev pub one_more : ℕ → ℕ
one_more count = min (count + 1) (2 ^ 64 - 1)

-- the failures of the server of this key, or none where the list lacks it
abbrev pub failures_of : List Failing → ℕ → ℕ
failures_of servers key = unwrap_or (option_map (λ item. item.count) (find (λ item. item.server == key) servers)) 0

-- a server with its failures in the list before
abbrev pub kept : List Failing → ServerKey → Failing
kept before server = record { server = server.key; count = failures_of before server.key }

-- these servers, each with its failures in the list before
abbrev pub renewed : List ServerKey → List Failing → List Failing
renewed list before = map (kept before) list

-- of this server and those of a list the first with the least count, with its count
abbrev pub least_count : Failing → List Failing → Failing
least_count best [] = best
least_count best (next ∷ rest) = least_count (if nat_lt next.count best.count then next else best) rest
