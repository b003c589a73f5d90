-- A callback cancels twice: the first Cancel is obeyed, since a request is pending, and the second finds nothing to do.
use Rattle.std.proofs.Common.{◌≡◌, List, [], ◌∷◌, refl, arith, None}
use Rattle.chan_types.specs.Plans.{Plan, stop, cancel, blank}
use Rattle.chan_types.specs.declared.command.Command.{Command}
use Rattle.chan_types.specs.declared.journal.Entry.{Entry}
use Rattle.chan_types.specs.declared.journal.What.TheVariants.{Accept, Start, Arrive, Cancel, Take, Destroy}
use Rattle.resolv_options.specs.Defaults.{plain_values}
use Rattle.channel_model.specs.Commands.{ObeysOrders, commands_for, left, passed, closing_position}
use Rattle.channel_model.specs.Setting.{Setting}
use Rattle.channel_examples.specs.Words.{channel_with, one_server, ask_x, good_reply}
use Rattle.channel_examples.proofs.Words.{own, by, no_orders, always, script_of_steps}
use Rattle.dns_message.specs.NameText as NameText
use Rattle.dns_message.specs.Reading as Reading

abbrev pub setting : Setting
setting = channel_with (record plain_values { servers = one_server })

abbrev pub script : Plan
script = script_of_steps (always cancel stop (always cancel stop stop))

abbrev pub journal : List Entry
journal =
    own (Accept 1 ask_x script)
    ∷ own (Accept 2 ask_x (blank 0))
    ∷ own (Start 1 0 0 0 7 None 0)
    ∷ own (Arrive 0 0 (good_reply 7))
    ∷ own (Take 1)
    ∷ by 1 Cancel
    ∷ own (Take 2)
    ∷ own Destroy
    ∷ []

pub commands : commands_for setting journal no_orders 1 ≡ Command.Cancel ∷ Command.Cancel ∷ []
unfolding NameText.units_of Reading.message_read Reading.question_of Reading.record_of Reading.name_of Reading.run_of
commands = refl

pub obeyed : ObeysOrders setting journal 1 no_orders (closing_position journal) 0
unfolding NameText.units_of Reading.message_read Reading.question_of Reading.record_of Reading.name_of Reading.run_of
obeyed = record {
  performances = record { request = 1; seat = 0; outcomes = left 5 ∷ passed 6 ∷ [] } ∷ record { request = 2; seat = 0; outcomes = [] } ∷ [];
  requests_are = refl;
  performed = (
    record {
      seated = omega arith;
      became = (omega arith, (record { entry = by 1 Cancel; stands = refl; is_its = refl }, refl), (omega arith, (omega arith, refl), tt));
      entries_are = refl;
      of_seat = refl;
      in_time = refl;
      behind_take = refl;
      before_other_work = refl;
    },
    (record { seated = omega arith; became = tt; entries_are = refl; of_seat = refl; in_time = refl; behind_take = refl; before_other_work = refl }, tt),
  );
  givers = refl;
  lost_are = refl;
}
