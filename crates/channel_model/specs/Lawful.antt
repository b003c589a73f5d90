-- Which journals are lawful: each entry is allowed at its position.
use Rattle.chan_types.specs.declared.server_key.ServerKey.{ServerKey}
use Rattle.std.specs.List.{list_any}
use Rattle.std.specs.Prelude.{ℕ, Bool, nat_lt, ◌||◌, ◌==◌, ◌&&◌, List, [], ◌∷◌, if◌then◌else◌, Option, None, Some, map, ◌≡◌, IsFalse, ◌≤◌, length, is_some, ◌+◌, ◌≢◌, ⊤}
use Rattle.chan_types.specs.declared.journal.Entry.{Entry}
use Rattle.chan_types.specs.declared.journal.What.{What}
use Rattle.chan_types.specs.declared.journal.What.TheVariants.{Accept, Cancel, Destroy, Take, Start, Arrive, Expire, Fault, Servers}
use Rattle.channel_model.specs.Choice.{deadline, chosen_server, chosen_link}
use Rattle.channel_model.specs.Completion.{waiting, pending, ready}
use Rattle.channel_model.specs.Flight.{Attempt, in_flight}
use Rattle.channel_model.specs.Journal.{Past, is_destroyed, accepted, past_of}
use Rattle.channel_model.specs.Legs.{Leg, leg_of}
use Rattle.channel_model.specs.Servers.{keys_for}
use Rattle.channel_model.specs.Setting.{Setting}

-- a leg in flight, and when it is due
pub record Due : Type 0 where
  pub at : ℕ
  pub leg : Leg

-- the leg is before the other: of a lesser request, or of the same with a lesser number
abbrev pub is_lesser_leg : Leg → Leg → Bool
is_lesser_leg a b = nat_lt a.request b.request || ((a.request == b.request) && nat_lt a.number b.number)

-- the one is due before the other: earlier, or at the same moment with the lesser leg
abbrev pub is_before : Due → Due → Bool
is_before a b = nat_lt a.at b.at || ((a.at == b.at) && is_lesser_leg a.leg b.leg)

-- the first of these to be due
abbrev pub least_due : Due → List Due → Due
least_due best [] = best
least_due best (next ∷ rest) = least_due (if is_before next best then next else best) rest

-- the first of these to be due, where there is one
abbrev pub least : List Due → Option Due
least [] = None
least (due ∷ rest) = Some (least_due due rest)

-- the first item of a list
abbrev pub first : {A : Type 0} → List A → Option A
first [] = None
first (x ∷ xs) = Some x

module _ (setting : Setting) where
  -- when an attempt is due
  abbrev pub due_of : Past → Attempt → Due
  due_of past a = record { at = deadline setting a.leg past; leg = a.leg }

  -- the leg in flight that is due first: by its deadline, then its request, then its number
  abbrev pub first_due : Past → Option Due
  first_due past = least (map (due_of past) (in_flight setting past))

  -- an attempt in flight has the identifier
  abbrev pub is_used : ℕ → Past → Bool
  is_used id past = list_any (λ a. a.id == id) (in_flight setting past)

  -- the case of its letters is drawn for a query over UDP, where the channel is set so
  abbrev pub is_mixed : ℕ → Bool
  is_mixed link = setting.options.flags.mix && (link == 0)

  -- a new attempt is that of the first waiting leg, goes where it has to go, has an identifier that no attempt in flight has, and its letters' case is drawn exactly where it has to be
  pub record MayStart (past : Past) (leg : Leg) (server link id : ℕ) (mix : Option ℕ) : Type 0 where
    pub waits : first (waiting setting past) ≡ Some leg
    pub to_server : server ≡ chosen_server setting leg past
    pub over_link : link ≡ chosen_link setting leg server past
    pub own_id : IsFalse (is_used id past)
    pub mixes : is_some mix ≡ is_mixed link

  -- the leg that expires is the one that is due first, and it is due
  pub record MayExpire (past : Past) (leg : Leg) (moment : ℕ) : Type 0 where
    pub due_at : ℕ
    pub first : first_due past ≡ Some (record { at = due_at; leg = leg })
    pub due : due_at ≤ moment

  -- the servers may become the list: the channel isn't destroyed, they are 1 to 8, and have their keys by the rule
  pub record MaySet (past : Past) (list : List ServerKey) : Type 0 where
    pub open' : IsFalse (is_destroyed past)
    pub some : 1 ≤ length list
    pub few : length list ≤ 8
    pub keys : list ≡ keys_for setting (map (λ server. server.address) list) past

  -- the entry is allowed at a position with this past
  abbrev pub IsAllowed : Past → What → Type 0
  IsAllowed past (Accept number spec script) = IsFalse (is_destroyed past) × (number ≡ length (accepted past) + 1)
  IsAllowed past Cancel = pending setting past ≢ []
  IsAllowed past Destroy = IsFalse (is_destroyed past)
  IsAllowed past (Take number) = first (ready setting past) ≡ Some number
  IsAllowed past (Start number leg server link id mix moment) = MayStart past (leg_of number leg) server link id mix
  IsAllowed past (Arrive server link bytes) = ⊤
  IsAllowed past (Expire number leg moment) = MayExpire past (leg_of number leg) moment
  IsAllowed past (Fault server link moment) = ⊤
  IsAllowed past (Servers list) = MaySet past list

  -- each entry was allowed at its position
  abbrev pub IsLawfulPast : Past → Type 0
  IsLawfulPast [] = ⊤
  IsLawfulPast (what ∷ past) = IsAllowed past what × IsLawfulPast past

  -- the journal is lawful
  pub record IsLawful (journal : List Entry) : Type 0 where
    pub allowed : IsLawfulPast (past_of journal)
