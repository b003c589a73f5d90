-- What a run of the server's program calls: it listens, and then hears and answers one message after another.
use Rattle.std.specs.Prelude.{◌≡◌, ◌≢◌, ◌⊎◌, ℕ, ◌≤◌, List, [], ◌∷◌, ◌++◌, length, map, flat_map, true, false, Option, Some, None, option_to_list, MatchOption, Ok}
use Rattle.std.specs.List.{AllByRecursion}
use mathlib.Core.List.{IsPrefix}
use Rattle.dns_message.specs.declared.message.Record.{Record}
use Rattle.net_world.specs.declared.answers.Sent.{Sent}
use Rattle.net_world.specs.Files.{WhereTold}
use Rattle.test_nameserver.specs.Statuses.{status_success, status_file_fault, status_socket_fault, status_bad_zone}
use Rattle.test_nameserver.specs.declared.listener.Heard.{Heard}
use Rattle.test_nameserver.specs.declared.listener.Heard.TheVariants.{Message, Failed as NotHeard}
use Rattle.test_nameserver.specs.declared.listener.ListenerCall.{ListenerCall}
use Rattle.test_nameserver.specs.declared.listener.ListenerCall.TheVariants.{Listen, Next, Reply}
use Rattle.test_nameserver.specs.Lines.{zone_of}
use Rattle.test_nameserver.specs.Listening.{has_failed}
use Rattle.test_nameserver.specs.Order.{Order}
use Rattle.test_nameserver.specs.Reply.{reply_to}

-- one turn of the server: what it hears, and whether the reply to it is sent
pub record Exchange : Type 0 where
  pub heard : Heard
  pub sent : Sent

-- the reply to what is heard, if it is a query
abbrev pub reply_for : List Record → Heard → Option (List ℕ)
reply_for zone (Message tcp bytes) = reply_to zone bytes tcp
reply_for zone NotHeard = None

-- the calls of a turn: a message is heard, and where it is a query its reply is sent
abbrev pub turn_calls : List Record → Exchange → List ListenerCall
turn_calls zone exchange = Next exchange.heard ∷ map (λ bytes. Reply bytes exchange.sent) (option_to_list (reply_for zone exchange.heard))

-- the calls of a run: it listens, and then come its turns
abbrev pub run_calls : List Record → ℕ → Sent → List Exchange → List ListenerCall
run_calls zone port sent exchanges = Listen port sent ∷ flat_map (turn_calls zone) exchanges

-- no call failed
abbrev pub NoneFailed : List ListenerCall → Type 0
NoneFailed calls = AllByRecursion (λ call. has_failed call ≡ false) calls

-- the last call failed, and none before it
pub record LastFailed (calls : List ListenerCall) : Type 0 where
  pub before : List ListenerCall
  pub last : ListenerCall
  pub all : calls ≡ before ++ last ∷ []
  pub failed : has_failed last ≡ true
  pub alone : NoneFailed before

-- the file of this path may be read as this zone, as far as files are told
pub record ReadsZone (files : Option (List ℕ → Option (List ℕ))) (path : List ℕ) (zone : List Record) : Type 0 where
  pub text : List ℕ
  pub held : WhereTold files path (λ file. file ≡ Some text)
  pub says : zone_of text ≡ Ok zone

-- these calls are those of a run with this exit status
pub record IsServiceOf (files : Option (List ℕ → Option (List ℕ))) (order : Order) (status : ℕ) (calls : List ListenerCall) : Type 0 where
  -- its zone is that of the file, and nothing is called without one
  pub zone : List Record
  pub reads : calls ≢ [] → ReadsZone files order.path zone
  -- the calls are those of a run from their beginning, with so many messages at most
  pub listens : Sent
  pub exchanges : List Exchange
  pub part : IsPrefix calls (run_calls zone order.port listens exchanges)
  pub few : length exchanges ≤ order.count
  -- behind a failure nothing is called
  pub ends : NoneFailed calls ⊎ LastFailed calls
  -- on success that is the whole run, and so many messages were heard and answered
  pub whole : status ≡ status_success → (calls ≡ run_calls zone order.port listens exchanges) × (length exchanges ≡ order.count) × NoneFailed calls
  -- a socket fault is the failure of the last call
  pub fault : status ≡ status_socket_fault → LastFailed calls
  -- a run that read no zone called nothing
  pub unserved : (status ≡ status_file_fault) ⊎ (status ≡ status_bad_zone) → calls ≡ []

-- a log that is told goes on with calls of this kind
abbrev pub GoesOnWith : (List ListenerCall → Type 0) → Option (List ListenerCall) → Option (List ListenerCall) → Type 0
GoesOnWith kind old new = MatchOption old (new ≡ None) (λ log. (calls : List ListenerCall) × (new ≡ Some (log ++ calls)) × kind calls)
