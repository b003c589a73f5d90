-- Where a run stands: its desk, what its runner keeps of the network, and the network's log.
use Rattle.std.specs.List.{list_all, list_any}
use Rattle.std.specs.Prelude.{Bool, Err, IsTrue, List, Ok, Option, Result, [], false, not, option_map, true, ℕ, ◌++◌, ◌==◌, ◌||◌, ◌∷◌, ◌≡◌, ◌⊎◌}
use Rattle.item_list.specs.declared.no_memory.NoMemory.{NoMemory}
use Rattle.net_world.specs.declared.log.WorldCall.{WorldCall}
use Rattle.net_world.specs.declared.log.WorldCall.TheVariants.{Serve, Word}
use Rattle.net_addr.specs.declared.addr.ServerAddr.{ServerAddr}
use Rattle.channel_model.specs.KeptLinks.{Fits, Row}
use Rattle.channel_model.specs.Course.{is_of_turn}
use Rattle.channel_model.specs.Known.{Known}
use Rattle.channel_model.specs.Servers.{has_key, opening_servers}
use Rattle.channel_model.specs.Stretch.{Standing}
use Rattle.channel_model.specs.Turn.{is_start_to}
use Rattle.event_runner.specs.declared.kept.Kept.{Kept}

-- what a desk knows, the links that a runner holds, the keys of the servers that it told, whether it draws bits for the case of letters, and the log where it is told
pub record State : Type 0 where
  pub known : Known
  pub rows : List Row
  pub told : List ℕ
  pub mix : Bool
  pub log : Option (List WorldCall)

-- the state of a run, by what its runner keeps
abbrev pub state_of : Known → Kept → Option (List WorldCall) → State
state_of known kept log = record { known = known; rows = kept.links.items; told = kept.told.items; mix = kept.mix; log = log }

-- a log that is told goes on with this call
abbrev pub Gets : WorldCall → Option (List WorldCall) → Option (List WorldCall) → Type 0
Gets call old new = new ≡ option_map (λ calls. calls ++ call ∷ []) old

-- the bits for the case of letters are drawn, where they are; else they are 0
abbrev pub DrawsIf : Bool → ℕ → Option (List WorldCall) → Option (List WorldCall) → Type 0
DrawsIf true bits old new = Gets (Word bits) old new
DrawsIf false bits old new = (bits ≡ 0) × (new ≡ old)

-- the same, and nothing for want of memory
abbrev pub Draws : Bool → Result ℕ NoMemory → Option (List WorldCall) → Option (List WorldCall) → Type 0
Draws mix (Ok bits) old new = DrawsIf mix bits old new
Draws mix (Err fault) old new = new ≡ old

-- no other seat makes entries that only a turn makes
abbrev pub IsTurnOwner : Known → Type 0
IsTurnOwner known = IsTrue (list_all (λ entry. not (is_of_turn entry) || (entry.seat == known.seat)) known.seen)

-- what the runner keeps is as journal and log have it: its links, the setting's flag, and of the servers those that were there at the opening or have a Start
pub record Holds (state : State) (standing : Standing) : Type 0 where
  pub fits : Fits state.known.setting state.known.seen state.rows standing
  pub mixes : state.mix ≡ state.known.setting.options.flags.mix
  pub told : (server : ℕ) → list_any (λ key. key == server) state.told ≡ (has_key server (opening_servers state.known.setting) || list_any (is_start_to server) standing.past)

-- the calls by which a server is told, unless it was told
abbrev pub serve_unless : Bool → ℕ → ServerAddr → List WorldCall
serve_unless true server address = []
serve_unless false server address = Serve server address ∷ []

-- the servers that were told, with this one
abbrev pub told_with : Bool → ℕ → List ℕ → List ℕ
told_with true server keys = keys
told_with false server keys = keys ++ server ∷ []

-- the server is among those that were told
abbrev pub was_told : ℕ → List ℕ → Bool
was_told server keys = list_any (λ key. key == server) keys

-- a server was told, unless it was before
pub record HasTold (server : ℕ) (address : ServerAddr) (old new : State) : Type 0 where
  pub known : new.known ≡ old.known
  pub rows : new.rows ≡ old.rows
  pub mix : new.mix ≡ old.mix
  pub told : new.told ≡ told_with (was_told server old.told) server old.told
  pub log : new.log ≡ option_map (λ calls. calls ++ serve_unless (was_told server old.told) server address) old.log

-- or want of memory came before that, or right behind it
abbrev pub Tells : ℕ → ServerAddr → Result Unit NoMemory → State → State → Type 0
Tells server address (Ok done) old new = HasTold server address old new
Tells server address (Err fault) old new = (new.log ≡ old.log) ⊎ (new.log ≡ option_map (λ calls. calls ++ serve_unless (was_told server old.told) server address) old.log)
