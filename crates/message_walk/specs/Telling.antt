-- What is told of an item that stands in bytes, in place of the item: reading finds the item and the offset behind it, or the fault.
use Rattle.std.specs.Prelude.{◌≡◌, ℕ, Result, Ok, Err}
use Rattle.dns_message.specs.declared.fault.MessageFault.{MessageFault}

-- this is told of the item that reading gives, with the offset behind it; or reading ends with the fault
abbrev pub Tells : {X Y : Type 0} → (X → Y) → Result (Y × ℕ) MessageFault → Result (X × ℕ) MessageFault → Type 0
Tells told (Ok found) read = (item : _) × (read ≡ Ok (item, found.1)) × (found.0 ≡ told item)
Tells told (Err fault) read = read ≡ Err fault

-- reading gives an item, and this is the offset behind it; or reading ends with the fault
abbrev pub Ends : {X : Type 0} → Result ℕ MessageFault → Result (X × ℕ) MessageFault → Type 0
Ends (Ok next) read = (item : _) × (read ≡ Ok (item, next))
Ends (Err fault) read = read ≡ Err fault

-- reading gives an item, or ends with the fault
abbrev pub Reads : {X Y : Type 0} → Result Y MessageFault → Result X MessageFault → Type 0
Reads (Ok y) read = (item : _) × (read ≡ Ok item)
Reads (Err fault) read = read ≡ Err fault
