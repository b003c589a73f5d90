-- The options of an OPT record (RFC 6891, section 6.1.2): how they are spelled, and where rdata stops being options.
use Rattle.std.specs.Prelude.{◌≡◌, ◌≢◌, ℕ, ◌<◌, ◌^◌, List, [], ◌++◌, length, slice_index}
use Rattle.std.specs.List.{flat_map, AllByRecursion}
use Rattle.std.specs.Int.{w16, to_be_bytes}
use Rattle.edns_opt.specs.declared.opt.EdnsItem.{EdnsItem}

-- an option on the wire: its code, its length and its content
abbrev pub option_spelling : EdnsItem → List ℕ
option_spelling item = to_be_bytes w16 item.code ++ to_be_bytes w16 (length item.content) ++ item.content

-- options on the wire, one behind the other
abbrev pub spelling : List EdnsItem → List ℕ
spelling items = flat_map option_spelling items

-- what fits an option's fields, which have 16 bits each
pub record FitsOption (item : EdnsItem) : Type 0 where
  pub code : item.code < 2 ^ 16
  pub content : length item.content < 2 ^ 16

-- the bytes are these options and nothing else
pub record AreOptions (bytes : List ℕ) (items : List EdnsItem) : Type 0 where
  pub each : AllByRecursion FitsOption items
  pub parts : bytes ≡ spelling items

-- each of them is a byte
abbrev pub AreBytes : List ℕ → Type 0
AreBytes bytes = (i : ℕ) → slice_index bytes i < 2 ^ 8

-- no option stands at the front of the bytes
abbrev pub BeginsNoOption : List ℕ → Type 0
BeginsNoOption bytes = (item : EdnsItem) (rest : List ℕ) → FitsOption item → bytes ≢ option_spelling item ++ rest

-- options stand in front of the offset, and at the offset begins what is neither an option nor the end
pub record StopsFitting (bytes : List ℕ) (offset : ℕ) : Type 0 where
  pub items : List EdnsItem
  pub rest : List ℕ
  pub each : AllByRecursion FitsOption items
  pub parts : bytes ≡ spelling items ++ rest
  pub here : offset ≡ length (spelling items)
  pub more : rest ≢ []
  pub none : BeginsNoOption rest
