-- The commands that a script gives for an answer, where these are the orders.
use Rattle.std.specs.Prelude.{Bool, true, not, ◌&&◌, ◌==◌, if◌then◌else◌, List, [], ◌∷◌, ◌++◌}
use Rattle.net_addr.specs.declared.addr.Addr.{Addr}
use Rattle.chan_types.specs.Statuses.{code_of}
use Rattle.chan_types.specs.Plans.{Plan, Moves, Deed, stop, step, ask, reverse, cancel, destroy}
use Rattle.chan_types.specs.declared.status.Status.{Status}
use Rattle.chan_types.specs.declared.answer.Answer.{Answer}
use Rattle.chan_types.specs.declared.orders.Orders.{Orders}
use Rattle.chan_types.specs.declared.orders.When.{When}
use Rattle.chan_types.specs.declared.orders.When.TheVariants.{Always, Good, Bad}
use Rattle.chan_types.specs.declared.orders.Need.{Need}
use Rattle.chan_types.specs.declared.orders.Need.TheVariants.{Nothing, Follow, First, Quit}
use Rattle.chan_types.specs.declared.spec.Spec.TheVariants.{Reverse}
use Rattle.chan_types.specs.declared.command.Command.{Command}
use Rattle.chan_types.specs.declared.command.Command.TheVariants.{Ask, Cancel, Destroy}

-- the step is for answers of this status: any, 0, or any but 0
abbrev pub is_for : When → Status → Bool
is_for Always status = true
is_for Good status = code_of status == 0
is_for Bad status = not (code_of status == 0)

-- the order that the step needs was given
abbrev pub is_ordered : Need → Orders → Bool
is_ordered Nothing orders = true
is_ordered Follow orders = orders.follow
is_ordered First orders = orders.first
is_ordered Quit orders = orders.quit

-- what a deed commands, where the script inside it has these moves and the answer these addresses: a reverse asks for the names of the first address, and commands nothing where there is none
abbrev pub commanded : Deed → Moves → List Addr → List Command
commanded (ask spec tag) inside addresses = Ask spec (record { tag = tag; moves = inside }) ∷ []
commanded (reverse tag) inside [] = []
commanded (reverse tag) inside (address ∷ addresses) = Ask (Reverse address) (record { tag = tag; moves = inside }) ∷ []
commanded cancel inside addresses = Cancel ∷ []
commanded destroy inside addresses = Destroy ∷ []

-- the commands of the steps, in order, that are for this answer and whose order was given
abbrev pub commands_of : Moves → Answer → Orders → List Command
commands_of stop answer orders = []
commands_of (step when need deed inside rest) answer orders =
    (if is_for when answer.status && is_ordered need orders then commanded deed inside answer.addresses else []) ++ commands_of rest answer orders

-- the commands that a script gives for an answer
abbrev pub gives : Plan → Answer → Orders → List Command
gives script answer orders = commands_of script.moves answer orders
