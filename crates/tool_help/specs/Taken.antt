-- Where the words of a command line stop being what a tool understands.
use Rattle.std.specs.Prelude.{◌≡◌, ◌++◌, ◌∷◌, ◌<◌, ◌≤◌, ◌⊎◌, [], Bool, Err, List, Ok, Result, codes, false, is_err, length, take, true, ℕ}
use Rattle.item_list.specs.declared.no_memory.NoMemory.{NoMemory}
use Rattle.tool_line.specs.Adig.{AdigAsks}
use Rattle.tool_line.specs.Ahost.{AhostAsks}
use Rattle.tool_line.specs.Words.{Text}
use Rattle.tool_line.specs.declared.adig.AdigAsk.{AdigAsk}
use Rattle.tool_line.specs.declared.ahost.AhostAsk.{AhostAsk}
use Rattle.tool_line.specs.declared.ending.Tool.{Tool}
use Rattle.tool_line.specs.declared.ending.Tool.TheVariants.{Adig, Ahost}
use Rattle.tool_line.specs.declared.fault.WordFault.{WordFault}
use Rattle.tool_line.specs.declared.fault.WordFault.TheVariants.{Refused, NoMemory as OutOfMemory}

-- the words ask something of the tool
abbrev pub AreTaken : Tool → List Text → Type 0
AreTaken Adig words = (ask : AdigAsk) × AdigAsks words ask
AreTaken Ahost words = (ask : AhostAsk) × AhostAsks words ask

-- whether something is asked, by what the reader of words answers; for want of memory it isn't known
abbrev pub IsTakenBy : {T : Type 0} → Result T WordFault → Result Bool NoMemory → Type 0
IsTakenBy (Ok ask) result = result ≡ Ok true
IsTakenBy (Err Refused) result = result ≡ Ok false
IsTakenBy (Err OutOfMemory) result = is_err result ≡ true

-- the words with a name behind them, which is an address too, since with `--reverse` an address is asked for
abbrev pub with_name : List Text → List Text
with_name words = words ++ codes "192.0.2.1" ∷ []

-- a command line may begin with these words: they ask something, or do so with a name behind them
abbrev pub MayStand : Tool → List Text → Type 0
MayStand tool words = AreTaken tool words ⊎ AreTaken tool (with_name words)

-- so many words in front may stand, or there are none, and no more of the words may
pub record Stands (tool : Tool) (words : List Text) (count : ℕ) : Type 0 where
  pub within : count ≤ length words
  pub front : (count ≡ 0) ⊎ MayStand tool (take count words)
  pub no_more : (more : ℕ) → count < more → more ≤ length words → MayStand tool (take more words) → ⊥
