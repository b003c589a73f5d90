-- What a call of a channel means: what it answers at a position of the journal with this past, and which entry it adds there, if it adds one.
-- Every way to use a channel cites these: the table itself, its one owner, and a thread under a lock.
use Rattle.std.specs.List.{list_any}
use Rattle.std.specs.Prelude.{Bool, Err, IfSome, IsFalse, IsSomeAnd, IsTrue, List, None, Ok, Option, Result, Some, [], filter, if◌then◌else◌, length, not, option_map, ℕ, ◌+◌, ◌<◌, ◌==◌, ◌↔◌, ◌≡◌, ◌≢◌, ◌≤◌, ◌^◌, ◌-◌}
use Rattle.chan_types.specs.declared.journal.What.{What}
use Rattle.chan_types.specs.declared.journal.What.TheVariants.{Accept, Arrive, Cancel, Destroy, Expire, Fault, Servers, Start, Take}
use Rattle.chan_types.specs.declared.refusal.Refusal.TheVariants.{Closed}
use Rattle.chan_types.specs.declared.script.Script.{Script}
use Rattle.chan_types.specs.declared.server_key.ServerKey.{ServerKey}
use Rattle.chan_types.specs.declared.spec.Spec.{Spec}
use Rattle.chan_types.specs.declared.ticket.Ticket.{Ticket}
use Rattle.dns_message.specs.Spelling.{message_bytes}
use Rattle.item_list.specs.declared.no_memory.NoMemory.{NoMemory}
use Rattle.channel_model.specs.Completion.{fate, pending, ready, waiting}
use Rattle.channel_model.specs.Flight.{closes, flight, in_flight, went_over}
use Rattle.channel_model.specs.Identifiers.{AllUsed, IsFirstFree, SomeFree}
use Rattle.channel_model.specs.Journal.{Past, accepted, is_destroyed, script_of}
use Rattle.channel_model.specs.Lawful.{MayExpire, MaySet, MayStart, first, first_due, is_mixed}
use Rattle.channel_model.specs.Legs.{leg_of}
use Rattle.channel_model.specs.Past.{leg_query}
use Rattle.channel_model.specs.Servers.{address_of, greatest_key, has_key, keys_for, servers_at}
use Rattle.channel_model.specs.Setting.{Setting}
use Rattle.channel_model.specs.declared.answers.Begun.{Begun}
use Rattle.channel_model.specs.declared.answers.Begun.TheVariants.{Idle, NoId, Started}
use Rattle.channel_model.specs.declared.answers.Counts.{Counts}
use Rattle.channel_model.specs.declared.answers.Landed.{Landed}
use Rattle.channel_model.specs.declared.answers.Landed.TheVariants.{Matched, Stray}
use Rattle.channel_model.specs.declared.answers.Lapse.{Lapse}
use Rattle.channel_model.specs.declared.answers.Lapse.TheVariants.{Expired, NotDue}
use Rattle.channel_model.specs.declared.answers.Refused.{Refused}
use Rattle.channel_model.specs.declared.answers.SetFault.{SetFault}
use Rattle.channel_model.specs.declared.answers.SetFault.TheVariants.{Closed as ChannelClosed, Full}
use Rattle.net_addr.specs.declared.addr.ServerAddr.{ServerAddr}
use Rattle.std.specs.Bool.{then_some}

-- what a call means: under this setting, at a position with this past, it may add this, or nothing
abbrev pub Meaning : Type 1
Meaning = Setting → Past → Option What → Type 0

-- accept: the request gets the next number, and its callback's script is the token's. It is refused as closed exactly where the channel was destroyed, and a refusal gives back what was handed in
abbrev pub Accepts : {T : Type 0} → (T → Script) → Spec → T → Result ℕ (Refused T) → Setting → Past → Option What → Type 0
Accepts plan spec token (Ok number) setting past added =
    (added ≡ Some (Accept number spec (plan token))) × IsFalse (is_destroyed past) × (number ≡ length (accepted past) + 1)
Accepts plan spec token (Err refused) setting past added =
    (added ≡ None) × ((refused.why ≡ Closed) ↔ IsTrue (is_destroyed past)) × (refused.spec ≡ spec) × (refused.token ≡ token)

-- cancel: how many requests were pending, all of which complete as cancelled; nothing is added exactly where none was
pub record Cancels (count : ℕ) (setting : Setting) (past : Past) (added : Option What) : Type 0 where
  pub all_pending : count ≡ length (pending setting past)
  pub entry : added ≡ (if count == 0 then None else Some Cancel)

-- destroy: the first one destroys the channel, and a later one adds nothing
pub record Destroys (is_first : Bool) (setting : Setting) (past : Past) (added : Option What) : Type 0 where
  pub answer : is_first ≡ not (is_destroyed past)
  pub entry : added ≡ (if is_first then Some Destroy else None)

-- take: the first ready request's ticket, with its answer, and a token of the script with which it was accepted; nothing exactly where none is ready
abbrev pub Takes : {T : Type 0} → (T → Script) → Option (Ticket T) → Setting → Past → Option What → Type 0
Takes plan (Some ticket) setting past added =
    (added ≡ Some (Take ticket.call.number)) × (first (ready setting past) ≡ Some ticket.call.number)
    × (fate setting ticket.call.number past ≡ Some ticket.call) × (script_of ticket.call.number past ≡ Some (plan ticket.token))
Takes plan None setting past added = (added ≡ None) × (ready setting past ≡ [])

-- start: an attempt of the first waiting leg, where it has to go, with the first free identifier from the word upwards, with the second word for the case of its letters where it has to be drawn, and its query's bytes and its server's address; nothing exactly where no leg waits, or where one waits and all identifiers are in flight. Want of memory comes at neither
abbrev pub Starts : ℕ → ℕ → ℕ → Result Begun NoMemory → Setting → Past → Option What → Type 0
Starts word bits at (Ok (Started number leg server address link id message)) setting past added =
    let mix : Option ℕ = then_some (is_mixed setting link) bits in
    (added ≡ Some (Start number leg server link id mix at))
    × MayStart setting past (leg_of number leg) server link id mix
    × IsFirstFree setting word id past
    × (address_of server (servers_at setting past) ≡ Some address)
    × (option_map message_bytes (leg_query setting (leg_of number leg) id mix past) ≡ Some message)
Starts word bits at (Ok Idle) setting past added = (added ≡ None) × (waiting setting past ≡ [])
Starts word bits at (Ok NoId) setting past added = (added ≡ None) × (waiting setting past ≢ []) × AllUsed setting past
Starts word bits at (Err fault) setting past added = (added ≡ None) × (waiting setting past ≢ []) × SomeFree setting past

-- arrive: the leg whose attempt the message answers; a stray exactly where it answers none that is in flight. Both are added
abbrev pub Arrives : ℕ → ℕ → List ℕ → Result Landed NoMemory → Setting → Past → Option What → Type 0
Arrives server link bytes (Ok (Matched number leg)) setting past added =
    (added ≡ Some (Arrive server link bytes)) × IsSomeAnd (flight setting (leg_of number leg) past) (λ a. IsTrue (closes setting a (Arrive server link bytes) past))
Arrives server link bytes (Ok Stray) setting past added =
    (added ≡ Some (Arrive server link bytes)) × IsFalse (list_any (λ a. closes setting a (Arrive server link bytes) past) (in_flight setting past))
Arrives server link bytes (Err fault) setting past added = added ≡ None

-- expire: the leg that is due first, if it is due; nothing exactly where none is due. Want of memory comes only where one is
abbrev pub Expires : ℕ → Result Lapse NoMemory → Setting → Past → Option What → Type 0
Expires at (Ok (Expired number leg)) setting past added = (added ≡ Some (Expire number leg at)) × MayExpire setting past (leg_of number leg) at
Expires at (Ok NotDue) setting past added = (added ≡ None) × IfSome (first_due setting past) (λ due. at < due.at)
Expires at (Err fault) setting past added = (added ≡ None) × IsSomeAnd (first_due setting past) (λ due. due.at ≤ at)

-- fault: how many attempts were in flight over the server's link, all of which have failed
abbrev pub Fails : ℕ → ℕ → ℕ → Result ℕ NoMemory → Setting → Past → Option What → Type 0
Fails server link at (Ok count) setting past added =
    (added ≡ Some (Fault server link at)) × (count ≡ length (filter (λ a. went_over a server link) (in_flight setting past)))
Fails server link at (Err fault) setting past added = added ≡ None

-- next_due: when the leg in flight is due that is due first; nothing exactly where none is in flight
pub record TellsDue (due : Option ℕ) (setting : Setting) (past : Past) (added : Option What) : Type 0 where
  pub nothing : added ≡ None
  pub answer : due ≡ option_map (λ d. d.at) (first_due setting past)

-- counts: how many requests are pending and ready, and how many legs wait and are in flight
pub record TellsCounts (counts : Counts) (setting : Setting) (past : Past) (added : Option What) : Type 0 where
  pub nothing : added ≡ None
  pub requests_pending : counts.pending ≡ length (pending setting past)
  pub requests_ready : counts.ready ≡ length (ready setting past)
  pub legs_waiting : counts.waiting ≡ length (waiting setting past)
  pub legs_flying : counts.flying ≡ length (in_flight setting past)

-- link_busy: an attempt is in flight over the server's link
pub record TellsBusy (server link : ℕ) (busy : Bool) (setting : Setting) (past : Past) (added : Option What) : Type 0 where
  pub nothing : added ≡ None
  pub answer : busy ≡ list_any (λ a. went_over a server link) (in_flight setting past)

-- not enough keys of 32 bits are left for a list of 8 servers
abbrev pub IsFull : Setting → Past → Type 0
IsFull setting past = 2 ^ 32 - 9 < greatest_key setting past

-- set_servers: the servers become the list, each with its key, and how many attempts that closed. It is refused as closed exactly where the channel was destroyed, and as full exactly where it wasn't and not enough keys are left
abbrev pub SetsServers : List ServerAddr → Result ℕ SetFault → Meaning
SetsServers addresses (Ok count) setting past added =
    let list : List ServerKey = keys_for setting addresses past in
    (added ≡ Some (Servers list)) × MaySet setting past list
    × (count ≡ length (filter (λ a. not (has_key a.server list)) (in_flight setting past)))
    × ¬ IsFull setting past
SetsServers addresses (Err fault) setting past added =
    (added ≡ None) × ((fault ≡ ChannelClosed) ↔ IsTrue (is_destroyed past)) × ((fault ≡ Full) ↔ (IsFalse (is_destroyed past) × IsFull setting past))
