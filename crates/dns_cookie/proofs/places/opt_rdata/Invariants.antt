use Rattle.std.proofs.Common.{◌≡◌, ◌-◌, ℕ, List, Ok}
use Rattle.dns_message.specs.Reading.{items_of, record_of}
use Rattle.dns_message.specs.declared.message.Record.{Record}
use Rattle.dns_cookie.proofs.PlacesLemmas.{Left}
use Rattle.dns_cookie.proofs.places.opt_rdata.Given as goal

-- the first OPT record of those that are left is that of all
abbrev pub invariant-loop : goal.invariant-loop
invariant-loop l = (records : List Record) (end : ℕ) → items_of (record_of l.bytes) l.count l.at ≡ Ok (records, end) → Left (record_of l.bytes) records end (l.count - l.counter) l.next
