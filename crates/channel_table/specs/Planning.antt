-- What a start comes to, before anything begins.
use Rattle.std.specs.Bool.{then_some}
use Rattle.std.specs.Prelude.{Bool, IfSome, List, None, Option, Some, get_or, if◌then◌else◌, length, true, ℕ, ◌&&◌, ◌+◌, ◌<◌, ◌==◌, ◌^◌, ◌≡◌, ◌≤◌}
use Rattle.chan_types.specs.declared.journal.What.{What}
use Rattle.chan_types.specs.declared.journal.What.TheVariants.{Start}
use Rattle.channel_model.specs.Choice.{wait_of}
use Rattle.channel_model.specs.Flight.{asked_with}
use Rattle.channel_model.specs.Past.{query_for}
use Rattle.channel_model.specs.Servers.{address_of, has_key}
use Rattle.channel_model.specs.declared.answers.Begun.{Begun}
use Rattle.channel_model.specs.declared.answers.Begun.TheVariants.{Started}
use Rattle.dns_message.specs.Spelling.{message_bytes}
use Rattle.dns_message.specs.declared.message.Question.{Question}
use Rattle.query_machine.specs.Legs.{attempt_from}
use Rattle.query_machine.specs.declared.leg.Flying.{Flying}
use Rattle.resolv_options.specs.declared.options.Options.{Options}
use Rattle.channel_table.specs.Linked.{HasOneLink}
use Rattle.channel_table.specs.Rows.{lookup_at}
use Rattle.channel_table.specs.Starting.{FindsAt, FindsIdle, IsFree, link_with, server_for, used_of}
use Rattle.channel_table.specs.declared.lookup.Lookup.{Lookup}
use Rattle.channel_table.specs.declared.row.Row.{Row}
use Rattle.channel_table.specs.declared.table.channel_servers.ChannelServers.{ChannelServers}
use Rattle.channel_table.specs.declared.table.start_plan.Planned.{Planned}
use Rattle.channel_table.specs.declared.table.start_plan.StartPlan.{StartPlan}
use Rattle.channel_table.specs.declared.table.start_plan.StartPlan.TheVariants.{Begins, NoIdentifier, NoLeg}
use Rattle.channel_table.specs.declared.table.starting.Idle.{Idle}

-- the servers are one to eight, each has its count, there is a link more, and the one where an attempt has to go is among them; attempts over TCP to one go over one link
pub record MayPlan {T : Type 0} (options : Options) (servers : ChannelServers) (rows : List (Row T)) : Type 0 where
  pub some : 1 ≤ length servers.list
  pub few : length servers.list ≤ 8
  pub counted : length servers.counts ≡ length servers.list
  pub fits : servers.greatest_link + 1 < 2 ^ 64
  pub one_link : (server : ℕ) → HasOneLink server rows
  pub there : (idle : Idle) → FindsAt rows idle → has_key (server_for options servers idle.leg.forced) servers.list ≡ true

-- the attempt, as it flies from this moment on
abbrev pub planned_flying : ℕ → Planned → Flying
planned_flying at planned = attempt_from planned.server planned.link planned.id planned.mix at planned.wait

-- what the journal is told of it
abbrev pub start_told : ℕ → Planned → What
start_told at planned = Start planned.idle.number planned.idle.leg_number planned.server planned.link planned.id planned.mix at

-- what a start answers that has begun it
abbrev pub begun_answer : Planned → Begun
begun_answer planned = Started planned.idle.number planned.idle.leg_number planned.server planned.address planned.link planned.id planned.message

-- the bytes of a query for a question, its letters in the case of these bits if there are some, with an OPT record or without one
abbrev pub query_written : Options → ℕ → Option ℕ → Bool → Question → List ℕ
query_written options id mix opt question = message_bytes (query_for id (asked_with mix question) options.flags.norecurse (if opt then Some options.edns_size else None))

-- it is of the first leg that waits, goes to the server and over the link where it has to go, has the first free identifier, bits where its letters are drawn, and its time, and asks its lookup's question
pub record IsPlanned {T : Type 0} (options : Options) (servers : ChannelServers) (rows : List (Row T)) (word mix : ℕ) (planned : Planned) : Type 0 where
  pub found : FindsAt rows planned.idle
  pub free : IsFree rows word (Some planned.id)
  pub to_server : planned.server ≡ server_for options servers planned.idle.leg.forced
  pub over_link : planned.link ≡ link_with rows planned.idle.leg.over_tcp planned.server servers.greatest_link
  pub drawn : planned.mix ≡ then_some (options.flags.mix && (planned.link == 0)) mix
  pub given : planned.wait ≡ wait_of options planned.idle.leg.spent (length (used_of options servers.list))
  pub listens : address_of planned.server servers.list ≡ Some planned.address
  pub asks : (d : Row T) → IfSome (lookup_at planned.idle.is_second (get_or rows planned.idle.index d)) (λ (lookup : Lookup). planned.message ≡ query_written options planned.id planned.mix planned.idle.leg.has_opt lookup.question)

-- a leg waits, and an identifier is free
pub record MayBegin {T : Type 0} (rows : List (Row T)) (word : ℕ) : Type 0 where
  pub idle : Idle
  pub found : FindsAt rows idle
  pub id : ℕ
  pub free : IsFree rows word (Some id)

-- a start comes to this: nothing exactly where no leg waits, or where one waits and all identifiers are in flight
abbrev pub IsPlan : {T : Type 0} → Options → ChannelServers → List (Row T) → ℕ → ℕ → StartPlan → Type 0
IsPlan options servers rows word mix NoLeg = FindsIdle rows None
IsPlan options servers rows word mix NoIdentifier = ((idle : Idle) × FindsAt rows idle) × IsFree rows word None
IsPlan options servers rows word mix (Begins planned) = IsPlanned options servers rows word mix planned
