-- Three requests are cancelled, and the first one's callback asks another: the Ask is obeyed behind its Take.
use Rattle.std.proofs.Common.{◌≡◌, List, [], ◌∷◌, refl, arith}
use Rattle.chan_types.specs.Plans.{Plan, stop, ask, blank}
use Rattle.chan_types.specs.declared.command.Command.TheVariants.{Ask}
use Rattle.chan_types.specs.declared.journal.Entry.{Entry}
use Rattle.chan_types.specs.declared.journal.What.TheVariants.{Accept, Cancel, Take, Destroy}
use Rattle.resolv_options.specs.Defaults.{plain_values}
use Rattle.channel_model.specs.Commands.{ObeysOrders, commands_for, left, closing_position}
use Rattle.channel_model.specs.Setting.{Setting}
use Rattle.channel_examples.specs.Words.{channel_with, one_server, ask_x}
use Rattle.channel_examples.proofs.Words.{own, by, no_orders, always, script_of_steps}
use Rattle.dns_message.specs.NameText as NameText

abbrev pub setting : Setting
setting = channel_with (record plain_values { servers = one_server })

-- it asks for x.test
abbrev pub script : Plan
script = script_of_steps (always (ask ask_x 0) stop stop)

abbrev pub journal : List Entry
journal =
    own (Accept 1 ask_x script)
    ∷ own (Accept 2 ask_x (blank 0))
    ∷ own (Accept 3 ask_x (blank 0))
    ∷ own Cancel
    ∷ own (Take 1)
    ∷ by 1 (Accept 4 ask_x (blank 0))
    ∷ own (Take 2)
    ∷ own (Take 3)
    ∷ own Destroy
    ∷ own (Take 4)
    ∷ []

pub commands : commands_for setting journal no_orders 1 ≡ Ask ask_x (blank 0) ∷ []
unfolding NameText.units_of
commands = refl

pub obeyed : ObeysOrders setting journal 1 no_orders (closing_position journal) 0
unfolding NameText.units_of
obeyed = record {
  performances =
      record { request = 1; seat = 0; outcomes = left 5 ∷ [] }
      ∷ record { request = 2; seat = 0; outcomes = [] }
      ∷ record { request = 3; seat = 0; outcomes = [] }
      ∷ record { request = 4; seat = 0; outcomes = [] }
      ∷ [];
  requests_are = refl;
  performed = (
    record {
      seated = omega arith;
      became = (omega arith, (record { entry = by 1 (Accept 4 ask_x (blank 0)); stands = refl; is_its = (4, refl) }, refl), tt);
      entries_are = refl;
      of_seat = refl;
      in_time = refl;
      behind_take = refl;
      before_other_work = refl;
    },
    (record { seated = omega arith; became = tt; entries_are = refl; of_seat = refl; in_time = refl; behind_take = refl; before_other_work = refl }, (record { seated = omega arith; became = tt; entries_are = refl; of_seat = refl; in_time = refl; behind_take = refl; before_other_work = refl }, (record { seated = omega arith; became = tt; entries_are = refl; of_seat = refl; in_time = refl; behind_take = refl; before_other_work = refl }, tt))),
  );
  givers = refl;
  lost_are = refl;
}
