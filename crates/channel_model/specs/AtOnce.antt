-- What a request is answered at its Accept, without a query: the first rule that fits.
use Rattle.std.specs.Option.{option_or}
use Rattle.std.specs.Prelude.{List, filter, ◌∷◌, [], Bool, true, false, ℕ, Option, None, Some, if◌then◌else◌, codes, unwrap_or, option_map}
use Rattle.chan_types.specs.declared.answer.Answer.{Answer}
use Rattle.chan_types.specs.declared.spec.Spec.{Spec}
use Rattle.chan_types.specs.declared.spec.Spec.TheVariants.{Query, Search, Address, Reverse}
use Rattle.chan_types.specs.declared.status.Status.TheVariants.{BadName, NotFound, Success, NoData}
use Rattle.dns_message.specs.Name.{last_is}
use Rattle.dns_message.specs.declared.name.Name.{Name}
use Rattle.dns_message.specs.declared.name.NameText.{NameText}
use Rattle.hosts_file.specs.Hosts.{addresses_of, canonical_of}
use Rattle.net_addr.specs.Mapped.{allows}
use Rattle.net_addr.specs.Reading.{address_of}
use Rattle.net_addr.specs.declared.addr.Addr.{Addr}
use Rattle.net_addr.specs.declared.addr.Addr.TheVariants.{V4, V6}
use Rattle.net_addr.specs.declared.addr.Family.{Family}
use Rattle.resolv_options.specs.declared.lookups.Lookups.{Lookups}
use Rattle.resolv_options.specs.declared.lookups.Lookups.TheVariants.{FilesDns, Dns, Files}
use Rattle.channel_model.specs.Merge.{bare, found}
use Rattle.channel_model.specs.Questions.{name_of_text}
use Rattle.channel_model.specs.Setting.{Setting}
use Rattle.channel_model.specs.Verdict.{has_item}

-- the family's addresses of the host itself, 127.0.0.1 and ::1 (RFC 6761, section 6.3)
abbrev pub loopbacks : Family → List Addr
loopbacks family = filter (allows family) (V4 2130706433 ∷ V6 1 ∷ [])

-- the hosts file is asked
abbrev pub asks_hosts : Lookups → Bool
asks_hosts FilesDns = true
asks_hosts Dns = false
asks_hosts Files = true

-- the servers are asked
abbrev pub asks_servers : Lookups → Bool
asks_servers FilesDns = true
asks_servers Dns = true
asks_servers Files = false

-- a text that is no name is answered so, and a hidden service's name so (RFC 7686, section 2); any other name by these rules
abbrev pub unless_asked : ℕ → (NameText → Option Answer) → Option NameText → Option Answer
unless_asked request rules None = Some (bare request BadName [])
unless_asked request rules (Some text) = if last_is (codes "onion") text.name then Some (bare request NotFound []) else rules text

-- the answer for a host that is an address: itself, where the family allows it
abbrev pub literal : ℕ → Family → Addr → Answer
literal request family address =
    if allows family address then record (bare request Success []) { addresses = address ∷ [] } else bare request NoData []

module _ (setting : Setting) where
  -- the addresses that the hosts file gives a name, where it is asked
  abbrev pub listed : Name → Family → List Addr
  listed name family = if asks_hosts setting.options.lookups then addresses_of name family setting.hosts else []

  -- the name to which the addresses of the hosts file belong
  abbrev pub listed_name : Name → Family → Name
  listed_name name family = unwrap_or (canonical_of name family setting.hosts) []

  -- the answer for a host that is a name: from the hosts file; the addresses of the host itself for a name below `localhost`; not found, where no server is asked; else none
  abbrev pub known_host : ℕ → Family → Bool → NameText → Option Answer
  known_host request family nosort text =
      let addresses = listed text.name family in
      if has_item addresses then Some (found setting request nosort addresses (listed_name text.name family)) else
      if last_is (codes "localhost") text.name then Some (found setting request nosort (loopbacks family) text.name) else
      if asks_servers setting.options.lookups then None else Some (bare request NotFound [])

  -- the answer that a request gets at its Accept, if it gets one
  abbrev pub at_once : ℕ → Spec → Option Answer
  at_once request (Query text kind class) = unless_asked request (λ text. None) (name_of_text text)
  at_once request (Search text kind class) = unless_asked request (λ text. None) (name_of_text text)
  at_once request (Address host family nosort) =
      option_or (option_map (literal request family) (address_of host)) (unless_asked request (known_host request family nosort) (name_of_text host))
  at_once request (Reverse address) = None
