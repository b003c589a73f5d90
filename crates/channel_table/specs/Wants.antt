-- What the answer of a request is made of.
use Rattle.std.specs.Option.{option_and_then}
use Rattle.std.specs.Prelude.{Bool, List, Option, Result, [], false, option_map, true, unwrap_or, ℕ}
use Rattle.chan_types.specs.declared.answer.Answer.{Answer}
use Rattle.chan_types.specs.declared.spec.Spec.{Spec}
use Rattle.chan_types.specs.declared.spec.Spec.TheVariants.{Address, Query, Reverse, Search}
use Rattle.dns_message.specs.declared.message.Message.{Message}
use Rattle.dns_message.specs.declared.message.Record.{Record}
use Rattle.dns_message.specs.declared.name.Name.{Name}
use Rattle.edns_opt.specs.declared.fault.EdnsFault.{EdnsFault}
use Rattle.edns_opt.specs.declared.opt.Opt.{Opt}
use Rattle.net_addr.specs.declared.addr.Family.{Family}
use Rattle.resolv_options.specs.declared.options.Options.{Options}
use Rattle.channel_model.specs.LegEnd.{LegEnd}
use Rattle.channel_model.specs.Merge.{addresses_v4, addresses_v6, bare, merged, merged_one}
use Rattle.channel_model.specs.Replies.{Reply as ReplyRead, reply_with}
use Rattle.channel_model.specs.Setting.{Setting}
use Rattle.channel_table.specs.declared.wanted.Wanted.{Wanted}
use Rattle.channel_table.specs.declared.wanted.Wanted.TheVariants.{Addresses, Reply}

-- what the answer of a request is made of that asks this
abbrev pub wanted_by : Spec → Wanted
wanted_by (Query text kind class) = Reply
wanted_by (Search text kind class) = Reply
wanted_by (Address host family nosort) = Addresses family nosort
wanted_by (Reverse address) = Reply

-- it is made of addresses
abbrev pub is_of_addresses : Wanted → Bool
is_of_addresses Reply = false
is_of_addresses (Addresses family nosort) = true

-- the number of the first leg of a request's first candidate: for AAAA records alone it is that of the second
abbrev pub first_number : Wanted → ℕ
first_number Reply = 0
first_number (Addresses Family.Any nosort) = 0
first_number (Addresses Family.V4 nosort) = 0
first_number (Addresses Family.V6 nosort) = 1

-- a channel with these options; no hosts file is asked for the answer of a candidate
abbrev pub setting_with : Options → Setting
setting_with options = record { options = options; hosts = [] }

-- the answer of a request's candidate whose legs have ended so, if those have that it has
abbrev pub answer_of_ends : Options → ℕ → Wanted → Name → Option LegEnd → Option LegEnd → Option Answer
answer_of_ends options request Reply name left right = option_map (λ (end : LegEnd). bare request end.status end.reply) left
answer_of_ends options request (Addresses Family.Any nosort) name left right =
    option_and_then (λ (end : LegEnd). option_map (merged (setting_with options) request nosort name end) right) left
answer_of_ends options request (Addresses Family.V4 nosort) name left right = option_map (merged_one (setting_with options) request nosort name addresses_v4) left
answer_of_ends options request (Addresses Family.V6 nosort) name left right = option_map (merged_one (setting_with options) request nosort name addresses_v6) left

-- the answers of a message whose OPT record was read so, or none where it can't be read
abbrev pub answers_with : Message → Result (Option Opt) EdnsFault → List Record
answers_with message opt = unwrap_or (option_map (λ (reply : ReplyRead). reply.message.answers) (reply_with message opt)) []
