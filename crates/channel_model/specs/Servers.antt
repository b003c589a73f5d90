-- The servers of a channel at a position. Each has a key, which is never given to another server.
use Rattle.std.specs.Option.{option_map_or}
use Rattle.std.specs.List.{list_any}
use Rattle.std.specs.Prelude.{Bool, IsFalse, List, None, Option, Some, [], drop, false, filter, find, if◌then◌else◌, length, max, not, option_map, take, true, unwrap_or, ℕ, ◌&&◌, ◌*◌, ◌++◌, ◌+◌, ◌==◌, ◌∷◌, ⊤}
use Rattle.chan_types.specs.declared.journal.What.{What}
use Rattle.chan_types.specs.declared.journal.What.TheVariants.{Accept, Arrive, Cancel, Destroy, Expire, Fault, Servers, Start, Take}
use Rattle.chan_types.specs.declared.server_key.ServerKey.{ServerKey}
use Rattle.net_addr.specs.declared.addr.Addr.{Addr}
use Rattle.net_addr.specs.declared.addr.Addr.TheVariants.{V4, V6}
use Rattle.net_addr.specs.declared.addr.ServerAddr.{ServerAddr}
use Rattle.channel_model.specs.Journal.{Past}
use Rattle.channel_model.specs.Setting.{Setting}

-- the two addresses are one
abbrev pub same_address : Addr → Addr → Bool
same_address (V4 a) (V4 b) = a == b
same_address (V4 a) (V6 b) = false
same_address (V6 a) (V4 b) = false
same_address (V6 a) (V6 b) = a == b

-- the two servers have the same address and port
abbrev pub same_server : ServerAddr → ServerAddr → Bool
same_server a b = same_address a.address b.address && (a.port == b.port)

-- these servers with the keys from this one on
abbrev pub keyed_from : ℕ → List ServerAddr → List ServerKey
keyed_from key [] = []
keyed_from key (address ∷ addresses) = record { key = key; address = address } ∷ keyed_from (key + 1) addresses

-- a server of the list has the key
abbrev pub has_key : ℕ → List ServerKey → Bool
has_key key servers = list_any (λ server. server.key == key) servers

-- no two servers of the list have one key
abbrev pub KeysDiffer : List ServerKey → Type 0
KeysDiffer [] = ⊤
KeysDiffer (server ∷ servers) = IsFalse (has_key server.key servers) × KeysDiffer servers

-- the greatest of these keys and this one
abbrev pub greatest_of : ℕ → List ServerKey → ℕ
greatest_of key [] = key
greatest_of key (server ∷ servers) = greatest_of (max key server.key) servers

-- the address of the server with this key, where the list has one
abbrev pub address_of : ℕ → List ServerKey → Option ServerAddr
address_of key servers = option_map (λ server. server.address) (find (λ server. server.key == key) servers)

-- the list without the servers of this key
abbrev pub without_key : ℕ → List ServerKey → List ServerKey
without_key key servers = filter (λ server. not (server.key == key)) servers

-- the first server of a new list with its key, and the others by this rule: it is that one of the old list, or it takes the next key
abbrev pub rekeyed_first : Option ServerKey → ServerAddr → (List ServerKey → ℕ → List ServerKey) → List ServerKey → ℕ → List ServerKey
rekeyed_first (Some server) address others old greatest = server ∷ others (without_key server.key old) greatest
rekeyed_first None address others old greatest = record { key = greatest + 1; address = address } ∷ others old (greatest + 1)

-- the servers of a new list with their keys, where these are left of the old list and this is the greatest key that was given: each takes the key of the first of the old list with its address and port, which no later one then takes, or else the next key
abbrev pub rekeyed : List ServerAddr → List ServerKey → ℕ → List ServerKey
rekeyed [] old greatest = []
rekeyed (address ∷ addresses) old greatest =
    rekeyed_first (find (λ server. same_server server.address address) old) address (rekeyed addresses) old greatest

-- the list of servers that an entry sets
abbrev pub servers_set_by : What → Option (List ServerKey)
servers_set_by (Accept number spec script) = None
servers_set_by Cancel = None
servers_set_by Destroy = None
servers_set_by (Take number) = None
servers_set_by (Start number leg server link id mix moment) = None
servers_set_by (Arrive server link bytes) = None
servers_set_by (Expire number leg moment) = None
servers_set_by (Fault server link moment) = None
servers_set_by (Servers list) = Some list

-- the entry leaves a server with this key in the list
abbrev pub leaves_server : ℕ → What → Bool
leaves_server key what = option_map_or (has_key key) (servers_set_by what) true

-- the list in another order: from the k-th item on, and then those before it
abbrev pub from_place : {A : Type 0} → ℕ → List A → List A
from_place k items = drop k items ++ take k items

module _ (setting : Setting) where
  -- the servers with which the channel was made
  abbrev pub opening_servers : List ServerKey
  opening_servers = keyed_from 0 setting.options.servers

  -- the list of servers: that of the last entry that sets one, else the opening one
  abbrev pub servers_at : Past → List ServerKey
  servers_at [] = opening_servers
  servers_at (what ∷ past) = unwrap_or (servers_set_by what) (servers_at past)

  -- the greatest key that was given so far
  abbrev pub greatest_key : Past → ℕ
  greatest_key [] = greatest_of 0 opening_servers
  greatest_key (what ∷ past) = option_map_or (greatest_of (greatest_key past)) (servers_set_by what) (greatest_key past)

  -- these servers with their keys, where they become the list
  abbrev pub keys_for : List ServerAddr → Past → List ServerKey
  keys_for addresses past = rekeyed addresses (servers_at past) (greatest_key past)

  -- the servers in use: the first alone, or all
  abbrev pub servers_used : Past → List ServerKey
  servers_used past = if setting.options.flags.primary then take 1 (servers_at past) else servers_at past

  -- how many servers are in use
  abbrev pub in_use : Past → ℕ
  in_use past = length (servers_used past)

  -- the attempts that a leg may spend: so many tries of each server in use
  abbrev pub attempts : Past → ℕ
  attempts past = in_use past * setting.options.tries

  -- the server enters the list with the entry
  abbrev pub enters : ℕ → What → Past → Bool
  enters key what past = option_map_or (has_key key) (servers_set_by what) false && not (has_key key (servers_at past))
