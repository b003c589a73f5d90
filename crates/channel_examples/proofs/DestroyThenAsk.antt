-- The first request's callback destroys the channel and then asks: the Destroy is obeyed, and the Ask leaves no entry behind it.
use Rattle.std.proofs.Common.{◌≡◌, List, [], ◌∷◌, length, refl, arith, None}
use Rattle.chan_types.specs.Plans.{Plan, stop, ask, destroy, blank}
use Rattle.chan_types.specs.declared.command.Command.{Command}
use Rattle.chan_types.specs.declared.command.Command.TheVariants.{Ask}
use Rattle.chan_types.specs.declared.journal.Entry.{Entry}
use Rattle.chan_types.specs.declared.journal.What.TheVariants.{Accept, Start, Arrive, Take, Destroy}
use Rattle.resolv_options.specs.Defaults.{plain_values}
use Rattle.channel_model.specs.Commands.{ObeysOrders, commands_for, left, passed}
use Rattle.channel_model.specs.Setting.{Setting}
use Rattle.channel_examples.specs.Words.{channel_with, one_server, ask_x, good_reply}
use Rattle.channel_examples.proofs.Words.{own, by, no_orders, always, script_of_steps}
use Rattle.dns_message.specs.NameText as NameText
use Rattle.dns_message.specs.Reading as Reading

abbrev pub setting : Setting
setting = channel_with (record plain_values { servers = one_server })

-- it destroys the channel, and then it asks for x.test
abbrev pub script : Plan
script = script_of_steps (always destroy stop (always (ask ask_x 0) stop stop))

abbrev pub journal : List Entry
journal =
    own (Accept 1 ask_x script)
    ∷ own (Accept 2 ask_x (blank 0))
    ∷ own (Accept 3 ask_x (blank 0))
    ∷ own (Start 1 0 0 0 7 None 0)
    ∷ own (Arrive 0 0 (good_reply 7))
    ∷ own (Take 1)
    ∷ by 1 Destroy
    ∷ own (Take 2)
    ∷ own (Take 3)
    ∷ []

pub commands : commands_for setting journal no_orders 1 ≡ Command.Destroy ∷ Ask ask_x (blank 0) ∷ []
unfolding NameText.units_of Reading.message_read Reading.question_of Reading.record_of Reading.name_of Reading.run_of
commands = refl

pub obeyed : ObeysOrders setting journal 1 no_orders (length journal) 0
unfolding NameText.units_of Reading.message_read Reading.question_of Reading.record_of Reading.name_of Reading.run_of
obeyed = record {
  performances =
      record { request = 1; seat = 0; outcomes = left 6 ∷ passed 7 ∷ [] }
      ∷ record { request = 2; seat = 0; outcomes = [] }
      ∷ record { request = 3; seat = 0; outcomes = [] }
      ∷ [];
  requests_are = refl;
  performed = (
    record {
      seated = omega arith;
      became = (
        omega arith,
        (record { entry = by 1 Destroy; stands = refl; is_its = refl }, refl),
        (omega arith, (omega arith, refl), tt),
      );
      entries_are = refl;
      of_seat = refl;
      in_time = refl;
      behind_take = refl;
      before_other_work = refl;
    },
    (record { seated = omega arith; became = tt; entries_are = refl; of_seat = refl; in_time = refl; behind_take = refl; before_other_work = refl }, (record { seated = omega arith; became = tt; entries_are = refl; of_seat = refl; in_time = refl; behind_take = refl; before_other_work = refl }, tt)),
  );
  givers = refl;
  lost_are = refl;
}
