-- What the words ask of acache. The words and their limits are this project's profile.
use Rattle.std.specs.Prelude.{List, Some, [], codes, map, ℕ, ◌∷◌, ◌≡◌, ◌≢◌}
use Rattle.net_addr.specs.Reading.{address_of}
use Rattle.net_addr.specs.declared.addr.Addr.{Addr}
use Rattle.resolv_options.specs.Defaults.{plain_values}
use Rattle.resolv_options.specs.Values.{OptionValues}
use Rattle.channel_model.specs.Setting.{Setting}
use Rattle.tool_line.specs.Values.{number_in}
use Rattle.tool_line.specs.Words.{Text}
use Rattle.acache_tool.specs.declared.asked.CacheAsk.{CacheAsk}

-- what is asked: which server, for how many answers there is room, and the names
pub record Asked : Type 0 where
  pub server : Addr
  pub room : ℕ
  pub names : List Text

-- the same, as the tool holds it
abbrev pub asked_of : CacheAsk → Asked
asked_of ask = record { server = ask.server; room = ask.room; names = map (λ name. name.now) ask.names.now }

-- these words ask this: `--server` and its address, `--room` and a number from 1 to 65,536, and one name or more, in this order
pub record Asks (words : List Text) (asked : Asked) : Type 0 where
  pub address : Text
  pub room : Text
  pub are : words ≡ codes "--server" ∷ address ∷ codes "--room" ∷ room ∷ asked.names
  pub server : address_of address ≡ Some asked.server
  pub count : number_in 1 65536 room ≡ Some asked.room
  pub some : asked.names ≢ []

-- the words ask nothing
abbrev pub AreRefused : List Text → Type 0
AreRefused words = (asked : Asked) → Asks words asked → ⊥

-- this holds of what the words ask, if they ask something
abbrev pub ForWords : List Text → (Asked → Type 0) → Type 0
ForWords words holds = (asked : Asked) → Asks words asked → holds asked

-- the options of the channel: the plain ones, with this server at port 53 (RFC 1035, section 4.2)
abbrev pub options_for : Addr → OptionValues
options_for server = record plain_values { servers = record { address = server; port = 53 } ∷ [] }

-- its setting: there is no hosts file
abbrev pub setting_for : Addr → Setting
setting_for server = record { options = options_for server; hosts = [] }
