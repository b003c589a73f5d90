-- The parts of a run of the server's program, by what each answers: its calls, and how it opens its zone.
use Rattle.std.specs.Prelude.{◌≡◌, ◌≢◌, ◌⊎◌, ℕ, ◌≤◌, List, [], length, map, flat_map, Option, option_to_list, Result, Ok, Err, ⊤}
use mathlib.Core.List.{IsPrefix}
use Rattle.item_list.specs.declared.no_memory.NoMemory.{NoMemory as Wanting}
use Rattle.dns_message.specs.declared.message.Record.{Record}
use Rattle.net_world.specs.Cause.{Rose}
use Rattle.net_world.specs.Files.{WhereTold}
use Rattle.net_world.specs.declared.answers.Sent.{Sent}
use Rattle.net_world.specs.declared.answers.Sent.TheVariants.{Sent as WasSent, Failed as NotSent}
use Rattle.test_nameserver.specs.declared.ending.End.{End}
use Rattle.test_nameserver.specs.declared.ending.End.TheVariants.{Served, Refused, FileFault, NoMemory, SocketFault, BadZone}
use Rattle.test_nameserver.specs.declared.fault.ZoneFault.{ZoneFault}
use Rattle.test_nameserver.specs.declared.fault.ZoneFault.TheVariants.{TooLarge, BadLine}
use Rattle.test_nameserver.specs.declared.listener.ListenerCall.{ListenerCall}
use Rattle.test_nameserver.specs.declared.listener.ListenerCall.TheVariants.{Reply}
use Rattle.test_nameserver.specs.Headline.{IsUnfit, HasBadLine, Told}
use Rattle.test_nameserver.specs.Order.{Order}
use Rattle.test_nameserver.specs.Service.{Exchange, turn_calls, run_calls, NoneFailed, LastFailed, ReadsZone}

-- no call failed, or the last one did, as the answer says
abbrev pub EndsAs : Sent → List ListenerCall → Type 0
EndsAs WasSent calls = NoneFailed calls
EndsAs NotSent calls = LastFailed calls

-- these calls send a reply, if there is one; want of memory made none
abbrev pub AreReplies : Option (List ℕ) → Result Sent Wanting → List ListenerCall → Type 0
AreReplies reply (Ok sent) calls = ((end : Sent) × (calls ≡ map (λ bytes. Reply bytes end) (option_to_list reply))) × EndsAs sent calls
AreReplies reply (Err e) calls = calls ≡ []

-- these calls are a turn, or where memory was wanting a part of one
abbrev pub AreTurn : List Record → Result Sent Wanting → List ListenerCall → Type 0
AreTurn zone (Ok sent) calls = ((exchange : Exchange) × (calls ≡ turn_calls zone exchange)) × EndsAs sent calls
AreTurn zone (Err e) calls = ((exchange : Exchange) × IsPrefix calls (turn_calls zone exchange)) × NoneFailed calls

-- these calls are so many turns, none of which failed
pub record AreTurns (zone : List Record) (count : ℕ) (calls : List ListenerCall) : Type 0 where
  pub exchanges : List Exchange
  pub all : calls ≡ flat_map (turn_calls zone) exchanges
  pub many : length exchanges ≡ count
  pub good : NoneFailed calls

-- these calls are so many turns at most, the last of which failed
pub record FailInTurns (zone : List Record) (count : ℕ) (calls : List ListenerCall) : Type 0 where
  pub exchanges : List Exchange
  pub all : calls ≡ flat_map (turn_calls zone) exchanges
  pub few : length exchanges ≤ count
  pub last : LastFailed calls

-- these calls are so many turns at most, cut short
pub record StopInTurns (zone : List Record) (count : ℕ) (calls : List ListenerCall) : Type 0 where
  pub exchanges : List Exchange
  pub part : IsPrefix calls (flat_map (turn_calls zone) exchanges)
  pub few : length exchanges ≤ count
  pub good : NoneFailed calls

-- the turns of a run that comes to this end
abbrev pub TurnTo : List Record → ℕ → End → List ListenerCall → Type 0
TurnTo zone count Served calls = AreTurns zone count calls
TurnTo zone count Refused calls = ⊥
TurnTo zone count FileFault calls = ⊥
TurnTo zone count NoMemory calls = StopInTurns zone count calls
TurnTo zone count SocketFault calls = FailInTurns zone count calls
TurnTo zone count BadZone calls = ⊥

-- the calls of a run with these turns, which listens in front of them
pub record Serves (zone : List Record) (port count : ℕ) (end : End) (calls : List ListenerCall) : Type 0 where
  pub listens : Sent
  pub exchanges : List Exchange
  pub part : IsPrefix calls (run_calls zone port listens exchanges)
  pub few : length exchanges ≤ count
  pub ends : NoneFailed calls ⊎ LastFailed calls
  pub whole : end ≡ Served → (calls ≡ run_calls zone port listens exchanges) × (length exchanges ≡ count) × NoneFailed calls
  pub fault : end ≡ SocketFault → LastFailed calls
  pub known : (end ≡ Served) ⊎ (end ≡ SocketFault) ⊎ (end ≡ NoMemory)

-- a zone's text was read: its zone, or how a run ends without one
abbrev pub ReadsText : Result (List Record) ZoneFault → Result (List Record) End → Type 0
ReadsText read (Ok zone) = read ≡ Ok zone
ReadsText read (Err Served) = ⊥
ReadsText read (Err Refused) = ⊥
ReadsText read (Err FileFault) = read ≡ Err TooLarge
ReadsText read (Err NoMemory) = ⊤
ReadsText read (Err SocketFault) = ⊥
ReadsText read (Err BadZone) = (number : ℕ) × (read ≡ Err (BadLine number))

-- the zone's file was read: its zone, or how a run ends without one
abbrev pub Opens : Option (List ℕ → Option (List ℕ)) → List ℕ → ℕ → ℕ → Result (List Record) End → Type 0
Opens files path old new (Ok zone) = ReadsZone files path zone
Opens files path old new (Err Served) = ⊥
Opens files path old new (Err Refused) = ⊥
Opens files path old new (Err FileFault) = Rose old new ⊎ WhereTold files path IsUnfit
Opens files path old new (Err NoMemory) = ⊤
Opens files path old new (Err SocketFault) = ⊥
Opens files path old new (Err BadZone) = WhereTold files path HasBadLine

-- the causes of the end of a run with this order
pub record HasCauseOf (order : Order) (end : End) (files : Option (List ℕ → Option (List ℕ))) (files_old files_new net_old net_new : ℕ) : Type 0 where
  pub understood : end ≢ Refused
  pub served : end ≡ Served → (zone : List Record) × ReadsZone files order.path zone
  pub failed : end ≡ SocketFault → (zone : List Record) × ReadsZone files order.path zone
  pub file_fault : end ≡ FileFault → Rose files_old files_new ⊎ WhereTold files order.path IsUnfit
  pub unfit : Told files order.path IsUnfit → (end ≡ FileFault) ⊎ (end ≡ NoMemory)
  pub bad_zone : end ≡ BadZone → WhereTold files order.path HasBadLine
  pub bad_line : Told files order.path HasBadLine → (end ≡ BadZone) ⊎ ((end ≡ FileFault) × Rose files_old files_new) ⊎ (end ≡ NoMemory)
  pub socket_fault : end ≡ SocketFault → Rose net_old net_new
