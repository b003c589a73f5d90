-- Entries out of words.
use Rattle.std.specs.Prelude.{ℕ, zero, suc, List, [], ◌∷◌, length, Option, Some, None, if◌then◌else◌, bytes_eq, codes}
use Rattle.chan_types.specs.declared.journal.Entry.{Entry}
use Rattle.chan_types.specs.declared.journal.What.{What}
use Rattle.chan_types.specs.declared.journal.What.TheVariants.{Accept, Cancel, Destroy, Take, Start, Arrive, Expire, Fault, Servers}
use Rattle.chan_types.specs.declared.server_key.ServerKey.{ServerKey}
use Rattle.net_addr.specs.declared.addr.ServerAddr.{ServerAddr}
use Rattle.journal_text.specs.Words.{Word}
use Rattle.journal_text.specs.Reads.{Found, ◌>>=◌}
use Rattle.journal_text.specs.Atoms.{number_in, number_from, bytes_from, address_in, address_from, mix_from}
use Rattle.journal_text.specs.RequestReading.{spec_from}
use Rattle.journal_text.specs.ScriptReading.{script_from}

-- the greatest numbers of 8, 16, 32 and 64 bits
abbrev pub most8 : ℕ
most8 = 255

abbrev pub most16 : ℕ
most16 = 65535

abbrev pub most32 : ℕ
most32 = 4294967295

abbrev pub most64 : ℕ
most64 = 18446744073709551615

unfoldable pub accept_from : List Word → Found What
accept_from words = do
  number ← number_from most64 words
  spec ← spec_from number.1
  script ← script_from 4 spec.1
  Some (Accept number.0 spec.0 script.0, script.1)

unfoldable pub take_from : List Word → Found What
take_from words = do
  number ← number_from most64 words
  Some (Take number.0, number.1)

unfoldable pub start_from : List Word → Found What
start_from words = do
  number ← number_from most64 words
  leg ← number_from most8 number.1
  server ← number_from most32 leg.1
  link ← number_from most64 server.1
  id ← number_from most16 link.1
  mix ← mix_from id.1
  moment ← number_from most64 mix.1
  Some (Start number.0 leg.0 server.0 link.0 id.0 mix.0 moment.0, moment.1)

unfoldable pub arrive_from : List Word → Found What
arrive_from words = do
  server ← number_from most32 words
  link ← number_from most64 server.1
  bytes ← bytes_from link.1
  Some (Arrive server.0 link.0 bytes.0, bytes.1)

unfoldable pub expire_from : List Word → Found What
expire_from words = do
  number ← number_from most64 words
  leg ← number_from most8 number.1
  moment ← number_from most64 leg.1
  Some (Expire number.0 leg.0 moment.0, moment.1)

unfoldable pub fault_from : List Word → Found What
fault_from words = do
  server ← number_from most32 words
  link ← number_from most64 server.1
  moment ← number_from most64 link.1
  Some (Fault server.0 link.0 moment.0, moment.1)

-- a server by its address and port
unfoldable pub server_addr_from : List Word → Found ServerAddr
server_addr_from words = do
  address ← address_from words
  port ← number_from most16 address.1
  Some (record { address = address.0; port = port.0 }, port.1)

-- a server of a new list: its key, its address and its port
unfoldable pub key_in : Word → Word → Word → Option ServerKey
key_in key address port = do
  number ← number_in most32 key
  ip ← address_in address
  at ← number_in most16 port
  Some (record { key = number; address = record { address = ip; port = at } })

-- servers up to the end of the line
unfoldable pub keys_from : List Word → Option (List ServerKey)
keys_from [] = Some []
keys_from (key ∷ []) = None
keys_from (key ∷ address ∷ []) = None
keys_from (key ∷ address ∷ port ∷ words) = do
  first ← key_in key address port
  others ← keys_from words
  Some (first ∷ others)

unfoldable pub servers_from : List Word → Found What
servers_from words = do
  list ← keys_from words
  Some (Servers list, [])

-- what happened, by its kind
unfoldable pub what_from : List Word → Found What
what_from [] = None
what_from (kind ∷ words) =
    if bytes_eq kind (codes "accept") then accept_from words
    else (if bytes_eq kind (codes "cancel") then Some (Cancel, words)
    else (if bytes_eq kind (codes "destroy") then Some (Destroy, words)
    else (if bytes_eq kind (codes "take") then take_from words
    else (if bytes_eq kind (codes "start") then start_from words
    else (if bytes_eq kind (codes "arrive") then arrive_from words
    else (if bytes_eq kind (codes "expire") then expire_from words
    else (if bytes_eq kind (codes "fault") then fault_from words
    else (if bytes_eq kind (codes "servers") then servers_from words
    else None))))))))

-- a seat, who commanded it, and what happened
unfoldable pub entry_from : List Word → Found Entry
entry_from words = do
  seat ← number_from most64 words
  by ← number_from most64 seat.1
  what ← what_from by.1
  Some (record { seat = seat.0; by = by.0; what = what.0 }, what.1)
