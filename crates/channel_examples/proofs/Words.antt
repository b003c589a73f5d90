-- Words for worked runs: entries, scripts and orders.
use Rattle.std.proofs.Common.{◌≡◌, ℕ, ◌==◌, ◌/◌, ◌%◌, ◌^◌, List, [], ◌∷◌, false, refl, sym, ap, ◌∙◌, arith, inl}
use Rattle.std.specs.Prelude.{IsTrue, IsFalse}
use Rattle.std.specs.List.{list_all}
use Rattle.std.proofs.lemmas.List.{append-nil}
use Rattle.net_world.specs.declared.answers.Got.TheVariants.{Nothing as GotNothing}
use Rattle.net_world.specs.declared.log.WorldCall.TheVariants.{Word}
use Rattle.channel_model.specs.Journal.{Past}
use Rattle.channel_model.specs.Lawful.{is_used}
use Rattle.channel_model.specs.Setting.{Setting}
use Rattle.channel_model.specs.Stretch.{Standing}
use Rattle.channel_model.specs.Turn.{IsWholeReceive, most_receives, NoneDue, is_flushed, is_looked_at, HasExpired, HasStarted, HasWritten, HasClosed, words_of_look}
use Rattle.channel_model.specs.Identifiers.{IsFirstFree}
use Rattle.channel_model.specs.Completion.{waiting}
use Rattle.channel_model.proofs.Theorems.{agrees_none}
use Rattle.chan_types.specs.Plans.{Plan, Moves, Deed, step}
use Rattle.chan_types.specs.declared.journal.Entry.{Entry}
use Rattle.chan_types.specs.declared.journal.What.{What}
use Rattle.chan_types.specs.declared.orders.Orders.{Orders}
use Rattle.chan_types.specs.declared.orders.When.TheVariants.{Always}
use Rattle.chan_types.specs.declared.orders.Need.TheVariants.{Nothing}

-- an entry of seat 0, on nobody's command
abbrev pub own : What → Entry
own what = record { seat = 0; by = 0; what = what }

-- an entry of seat 0, on the command of a request's callback
abbrev pub by : ℕ → What → Entry
by request what = record { seat = 0; by = request; what = what }

-- no order
abbrev pub no_orders : Orders
no_orders = record { follow = false; first = false; quit = false }

-- a step for every answer, which needs no order
abbrev pub always : Deed → Moves → Moves → Moves
always deed inside rest = step Always Nothing deed inside rest

-- a script with these steps
abbrev pub script_of_steps : Moves → Plan
script_of_steps moves = record { tag = 0; moves = moves }

-- a query for the IPv4 addresses of x.test with this identifier and an OPT record for replies of 1,232 bytes (RFC 1035, section 4.1; RFC 6891, section 6.1)
abbrev pub query : ℕ → List ℕ
query id =
    id / 256 ∷ id % 256 ∷ 1 ∷ 0 ∷ 0 ∷ 1 ∷ 0 ∷ 0 ∷ 0 ∷ 0 ∷ 0 ∷ 1
    ∷ 1 ∷ 120 ∷ 4 ∷ 116 ∷ 101 ∷ 115 ∷ 116 ∷ 0 ∷ 0 ∷ 1 ∷ 0 ∷ 1
    ∷ 0 ∷ 0 ∷ 41 ∷ 4 ∷ 208 ∷ 0 ∷ 0 ∷ 0 ∷ 0 ∷ 0 ∷ 0 ∷ []

-- the same query without an OPT record
abbrev pub plain_query : ℕ → List ℕ
plain_query id =
    id / 256 ∷ id % 256 ∷ 1 ∷ 0 ∷ 0 ∷ 1 ∷ 0 ∷ 0 ∷ 0 ∷ 0 ∷ 0 ∷ 0
    ∷ 1 ∷ 120 ∷ 4 ∷ 116 ∷ 101 ∷ 115 ∷ 116 ∷ 0 ∷ 0 ∷ 1 ∷ 0 ∷ 1 ∷ []

-- nothing is to be written to any link
abbrev pub all_written : ℕ → List ℕ
all_written link = []

-- nothing was received
pub received_nothing : IsWholeReceive most_receives (GotNothing ∷ [])
received_nothing = inl (record { items = []; gots_are = refl; no_earlier = refl }, omega arith)

-- where no attempt is in flight that has it, a word is the identifier
pub word_itself : (setting : Setting) (word : ℕ) (past : Past) → word % 2 ^ 16 ≡ word → IsFalse (is_used setting word past) → IsFirstFree setting word word past
word_itself setting word past fits free = record {
  steps = 0;
  few = omega arith;
  reached = sym fits ∙ ap (λ n. n % 2 ^ 16) (omega arith);
  free = free;
  passed = λ step before. absurd (omega (arith, before));
}

module _ (setting : Setting) (seat reading : ℕ) where
  -- nothing expires, where nothing is due
  pub nothing_expires : (a : Standing) → NoneDue setting reading a.past → HasExpired setting seat reading a [] [] a
  nothing_expires a none = record { agrees = agrees_none setting seat a; alone = refl; all = inl none; few = omega arith }

  -- nothing is written, where nothing is to be written
  pub nothing_written : (a : Standing) → IsTrue (list_all (is_flushed a.unwritten a.held []) a.held) → HasWritten setting seat reading a [] [] a
  nothing_written a none = record { agrees = agrees_none setting seat a; alone = refl; all = none; to_held = refl; closed = refl }

  -- nothing is closed, where each held link is busy
  pub nothing_closed : (a : Standing) → IsTrue (list_all (is_looked_at setting a.past [] []) a.held) → HasClosed setting seat reading a [] [] a
  nothing_closed a busy = record { agrees = agrees_none setting seat a; alone = refl; all = busy; closed = refl }

  -- nothing starts, where no leg waits: a word is drawn for the look that finds this, where it draws one
  pub nothing_starts : (a : Standing) (word : ℕ) → waiting setting a.past ≡ [] → IsTrue (1 == words_of_look setting) → HasStarted setting seat reading a [] (Word word ∷ []) a
  nothing_starts a word none one = record {
    agrees = record { past_is = refl; held_are = refl; arrivals = refl; sends = refl; links = refl; writes = λ link. append-nil (a.unwritten link); faults_are = refl; in_order = refl };
    alone = refl;
    all = inl (inl none, one);
    few = omega arith;
    served = refl;
    served_first = refl;
  }
