-- Words for worked runs: one server and one query, and parts of a turn in which nothing happens.
use Rattle.std.proofs.Common.{ℕ, ◌/◌, ◌%◌, List, [], ◌∷◌, None, refl, arith, inl}
use Rattle.std.specs.Prelude.{codes}
use Rattle.chan_types.specs.Plans.{blank}
use Rattle.chan_types.specs.declared.journal.Entry.{Entry}
use Rattle.chan_types.specs.declared.journal.What.{What}
use Rattle.chan_types.specs.declared.journal.What.TheVariants.{Accept, Start}
use Rattle.chan_types.specs.declared.spec.Spec.TheVariants.{Query}
use Rattle.dns_message.specs.Numbers.{class_in, kind_a}
use Rattle.net_addr.specs.declared.addr.Addr.TheVariants.{V4}
use Rattle.net_addr.specs.declared.addr.ServerAddr.{ServerAddr}
use Rattle.net_world.specs.declared.answers.Got.TheVariants.{Nothing}
use Rattle.net_world.specs.declared.log.WorldCall.TheVariants.{Receive}
use Rattle.channel_model.proofs.Theorems.{agrees_none}
use Rattle.channel_model.specs.Journal.{past_of}
use Rattle.channel_model.specs.Setting.{Setting}
use Rattle.channel_model.specs.Stretch.{Standing}
use Rattle.channel_model.specs.Turn.{HasClosed, HasExpired, HasReceived, HasWritten, NoneDue}

-- a server at 192.0.2.53
abbrev pub server : ServerAddr
server = record { address = V4 3221226037; port = 53 }

-- an entry of seat 0, on nobody's command
abbrev pub own : What → Entry
own what = record { seat = 0; by = 0; what = what }

-- the IPv4 addresses of x.test are asked for
abbrev pub accepts : Entry
accepts = own (Accept 1 (Query (codes "x.test.") kind_a class_in) (blank 0))

-- their query is begun, with this identifier and at this moment
abbrev pub starts : ℕ → ℕ → Entry
starts id moment = own (Start 1 0 0 0 id None moment)

-- the query with this identifier and an OPT record for replies of 1,232 bytes (RFC 1035, section 4.1; RFC 6891, section 6.1)
abbrev pub query : ℕ → List ℕ
query id =
    id / 256 ∷ id % 256 ∷ 1 ∷ 0 ∷ 0 ∷ 1 ∷ 0 ∷ 0 ∷ 0 ∷ 0 ∷ 0 ∷ 1
    ∷ 1 ∷ 120 ∷ 4 ∷ 116 ∷ 101 ∷ 115 ∷ 116 ∷ 0 ∷ 0 ∷ 1 ∷ 0 ∷ 1
    ∷ 0 ∷ 0 ∷ 41 ∷ 4 ∷ 208 ∷ 0 ∷ 0 ∷ 0 ∷ 0 ∷ 0 ∷ 0 ∷ []

-- where this happened, with no link held and nothing to be written
abbrev pub at : List Entry → Standing
at entries = record { past = past_of entries; held = []; unwritten = λ link. [] }

module _ (setting : Setting) (reading : ℕ) (a : List Entry) where
  -- nothing was received
  pub heard_nothing : HasReceived setting 0 reading (at a) [] (Receive Nothing ∷ []) (at a)
  heard_nothing = record {
    agrees = record { past_is = refl; held_are = refl; arrivals = refl; sends = refl; links = refl; writes = λ link. refl; faults_are = refl; in_order = refl };
    alone = refl;
    all = inl (record { items = []; gots_are = refl; no_earlier = refl }, omega arith);
    closed = refl;
  }

  -- nothing expired, where nothing was due
  pub none_expired : NoneDue setting reading (past_of a) → HasExpired setting 0 reading (at a) [] [] (at a)
  none_expired none = record { agrees = agrees_none setting 0 (at a); alone = refl; all = inl none; few = omega arith }

  -- nothing was written
  pub none_written : HasWritten setting 0 reading (at a) [] [] (at a)
  none_written = record { agrees = agrees_none setting 0 (at a); alone = refl; all = refl; to_held = refl; closed = refl }

  -- no link was closed
  pub none_closed : HasClosed setting 0 reading (at a) [] [] (at a)
  none_closed = record { agrees = agrees_none setting 0 (at a); alone = refl; all = refl; closed = refl }
