-- The tests that decide the facts of Lawful, for journals that are run.
use Rattle.chan_types.specs.declared.server_key.ServerKey.{ServerKey}
use Rattle.std.specs.Cmp.Lexicographic.{pointwise}
use Rattle.std.specs.Prelude.{ℕ, List, Bool, [], false, ◌∷◌, ◌==◌, Option, None, Some, ◌&&◌, nat_le, not, length, is_some, map, ◌+◌, true, if◌then◌else◌, option_map}
use Rattle.chan_types.specs.declared.journal.Entry.{Entry}
use Rattle.chan_types.specs.declared.journal.What.{What}
use Rattle.chan_types.specs.declared.journal.What.TheVariants.{Accept, Cancel, Destroy, Take, Start, Arrive, Expire, Fault, Servers}
use Rattle.channel_model.specs.Choice.{chosen_server, chosen_link}
use Rattle.channel_model.specs.Completion.{waiting, pending, ready}
use Rattle.channel_model.specs.Journal.{Past, is_destroyed, accepted, past_of}
use Rattle.channel_model.specs.Lawful.{Due, is_used, first_due, is_mixed}
use Rattle.channel_model.specs.Legs.{Leg, is_leg, leg_of}
use Rattle.channel_model.specs.Servers.{keys_for, same_server}
use Rattle.channel_model.specs.Setting.{Setting}
use Rattle.channel_model.specs.Verdict.{has_item}

-- the first of these is this number
abbrev pub is_first : ℕ → List ℕ → Bool
is_first number [] = false
is_first number (n ∷ numbers) = n == number

-- the first of these is this leg
abbrev pub is_first_leg : Leg → List Leg → Bool
is_first_leg leg [] = false
is_first_leg leg (other ∷ legs) = is_leg other leg.request leg.number

-- it is this leg that is due first, at this moment or before
abbrev pub is_due : Leg → ℕ → Option Due → Bool
is_due leg moment None = false
is_due leg moment (Some due) = is_leg due.leg leg.request leg.number && nat_le due.at moment

-- the two servers with their keys are one
abbrev pub same_key : ServerKey → ServerKey → Bool
same_key a b = (a.key == b.key) && same_server a.address b.address

-- the two truth values are one
abbrev pub bool_eq : Bool → Bool → Bool
bool_eq true b = b
bool_eq false b = not b

module _ (setting : Setting) where
  -- a new attempt is that of the first waiting leg, goes where it has to go, and has an identifier that no attempt in flight has
  abbrev pub may_start : Past → Leg → ℕ → ℕ → ℕ → Option ℕ → Bool
  may_start past leg server link id mix =
      is_first_leg leg (waiting setting past) && (server == chosen_server setting leg past) && (link == chosen_link setting leg server past) && not (is_used setting id past)
      && bool_eq (is_some mix) (is_mixed setting link)

  -- the servers may become the list: the channel isn't destroyed, they are 1 to 8, and have their keys by the rule
  abbrev pub may_set : Past → List ServerKey → Bool
  may_set past list =
      not (is_destroyed past) && nat_le 1 (length list) && nat_le (length list) 8
      && pointwise same_key list (keys_for setting (map (λ server. server.address) list) past)

  -- the entry is allowed at a position with this past
  abbrev pub is_allowed : Past → What → Bool
  is_allowed past (Accept number spec script) = not (is_destroyed past) && (number == length (accepted past) + 1)
  is_allowed past Cancel = has_item (pending setting past)
  is_allowed past Destroy = not (is_destroyed past)
  is_allowed past (Take number) = is_first number (ready setting past)
  is_allowed past (Start number leg server link id mix moment) = may_start past (leg_of number leg) server link id mix
  is_allowed past (Arrive server link bytes) = true
  is_allowed past (Expire number leg moment) = is_due (leg_of number leg) moment (first_due setting past)
  is_allowed past (Fault server link moment) = true
  is_allowed past (Servers list) = may_set past list

  -- each entry was allowed at its position
  abbrev pub is_lawful_past : Past → Bool
  is_lawful_past [] = true
  is_lawful_past (what ∷ past) = is_allowed past what && is_lawful_past past

  -- the journal is lawful
  abbrev pub is_lawful : List Entry → Bool
  is_lawful journal = is_lawful_past (past_of journal)

  -- how many entries stand before the first that isn't allowed, if one isn't
  abbrev pub entries_before_fault : Past → List Entry → Option ℕ
  entries_before_fault past [] = None
  entries_before_fault past (entry ∷ entries) =
      if is_allowed past entry.what then option_map (λ n. n + 1) (entries_before_fault (entry.what ∷ past) entries) else Some 0

  -- the position of the first entry that isn't allowed, if one isn't
  abbrev pub first_unlawful : List Entry → Option ℕ
  first_unlawful journal = entries_before_fault [] journal
