-- A host that is an address completes at once, and with the order `follow` its callback asks for the address's name.
use Rattle.std.proofs.Common.{◌≡◌, List, [], ◌∷◌, true, false, refl, arith, None}
use Rattle.std.specs.Prelude.{codes}
use Rattle.chan_types.specs.Plans.{Plan, stop, step, reverse, blank}
use Rattle.chan_types.specs.declared.command.Command.TheVariants.{Ask}
use Rattle.chan_types.specs.declared.journal.Entry.{Entry}
use Rattle.chan_types.specs.declared.journal.What.TheVariants.{Accept, Start, Arrive, Take, Destroy}
use Rattle.chan_types.specs.declared.orders.Orders.{Orders}
use Rattle.chan_types.specs.declared.orders.When.TheVariants.{Good}
use Rattle.chan_types.specs.declared.orders.Need.TheVariants.{Follow}
use Rattle.chan_types.specs.declared.spec.Spec.TheVariants.{Address, Reverse}
use Rattle.net_addr.specs.declared.addr.Addr.TheVariants.{V4}
use Rattle.net_addr.specs.declared.addr.Family.{Family}
use Rattle.resolv_options.specs.Defaults.{plain_values}
use Rattle.channel_model.specs.Commands.{ObeysOrders, commands_for, left, closing_position}
use Rattle.channel_model.specs.Setting.{Setting}
use Rattle.channel_examples.specs.Follow.{reply}
use Rattle.channel_examples.specs.Words.{channel_with, one_server}
use Rattle.channel_examples.proofs.Words.{own, by, no_orders, script_of_steps}
use Rattle.dns_message.specs.NameText as NameText
use Rattle.dns_message.specs.Reading as Reading
use Rattle.net_addr.specs.Reading as AddrReading
use Rattle.std.specs.Fmt as Fmt
use Rattle.std.specs.Net.Reader as Reader

abbrev pub setting : Setting
setting = channel_with (record plain_values { servers = one_server })

-- for a good answer, where `follow` is ordered, it asks for the name of the first address
abbrev pub script : Plan
script = script_of_steps (step Good Follow (reverse 0) stop stop)

-- the order `follow`
abbrev pub follow : Orders
follow = record { follow = true; first = false; quit = false }

-- 192.0.2.1 is asked for, and then its name
abbrev pub journal : List Entry
journal =
    own (Accept 1 (Address (codes "192.0.2.1") Family.Any false) script)
    ∷ own (Take 1)
    ∷ by 1 (Accept 2 (Reverse (V4 3221225985)) (blank 0))
    ∷ own (Start 2 0 0 0 7 None 0)
    ∷ own (Arrive 0 0 reply)
    ∷ own (Take 2)
    ∷ own Destroy
    ∷ []

pub commands : commands_for setting journal follow 1 ≡ Ask (Reverse (V4 3221225985)) (blank 0) ∷ []
unfolding NameText.units_of Reading.message_read Reading.question_of Reading.record_of Reading.name_of Reading.run_of AddrReading.address_of Reader.read_ipv4 Reader.read_octet Reader.read_number Reader.read_ipv6 Reader.read_segments Reader.read_segment Fmt.digits
commands = refl

-- without the order it commands nothing
pub not_ordered : commands_for setting journal no_orders 1 ≡ []
unfolding NameText.units_of Reading.message_read Reading.question_of Reading.record_of Reading.name_of Reading.run_of AddrReading.address_of Reader.read_ipv4 Reader.read_octet Reader.read_number Reader.read_ipv6 Reader.read_segments Reader.read_segment Fmt.digits
not_ordered = refl

pub obeyed : ObeysOrders setting journal 1 follow (closing_position journal) 0
unfolding NameText.units_of Reading.message_read Reading.question_of Reading.record_of Reading.name_of Reading.run_of AddrReading.address_of Reader.read_ipv4 Reader.read_octet Reader.read_number Reader.read_ipv6 Reader.read_segments Reader.read_segment Fmt.digits
obeyed = record {
  performances = record { request = 1; seat = 0; outcomes = left 2 ∷ [] } ∷ record { request = 2; seat = 0; outcomes = [] } ∷ [];
  requests_are = refl;
  performed = (
    record {
      seated = omega arith;
      became = (omega arith, (record { entry = by 1 (Accept 2 (Reverse (V4 3221225985)) (blank 0)); stands = refl; is_its = (2, refl) }, refl), tt);
      entries_are = refl;
      of_seat = refl;
      in_time = refl;
      behind_take = refl;
      before_other_work = refl;
    },
    (record { seated = omega arith; became = tt; entries_are = refl; of_seat = refl; in_time = refl; behind_take = refl; before_other_work = refl }, tt),
  );
  givers = refl;
  lost_are = refl;
}
