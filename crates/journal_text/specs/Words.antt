-- The words of a line. A line is its words with one blank between each two; a number is decimal without a leading zero,
-- names and addresses are as they are printed elsewhere, and all this is this project's own format.
use Rattle.std.specs.Prelude.{ℕ, Bool, List, [], ◌∷◌, ◌++◌, Option, Some, None, if◌then◌else◌, codes, decimal, flat_map}
use Rattle.hex.specs.Hex.{encode_lower}
use Rattle.net_addr.specs.declared.addr.Family.{Family}
use Rattle.net_addr.specs.declared.addr.Family.TheVariants.{Any, V4, V6}
use Rattle.resolv_options.specs.declared.lookups.Lookups.{Lookups}
use Rattle.resolv_options.specs.declared.lookups.Lookups.TheVariants.{FilesDns, Dns, Files}
use Rattle.resolv_options.specs.declared.flags.Flags.{Flags}
use Rattle.chan_types.specs.declared.orders.When.{When}
use Rattle.chan_types.specs.declared.orders.When.TheVariants.{Always, Good, Bad}
use Rattle.chan_types.specs.declared.orders.Need.{Need}
use Rattle.chan_types.specs.declared.orders.Need.TheVariants.{Nothing, Follow, First, Quit}

-- a word: bytes without a blank or a line feed
abbrev pub Word : Type 0
Word = List ℕ

-- a word behind a blank
abbrev pub spaced : Word → List ℕ
spaced word = 32 ∷ word

-- words with one blank between each two
abbrev pub joined : List Word → List ℕ
joined [] = []
joined (word ∷ words) = word ++ flat_map spaced words

-- bytes: two digits each in lower-case hexadecimal, and `-` for none
abbrev pub bytes_word : List ℕ → Word
bytes_word [] = codes "-"
bytes_word (byte ∷ bytes) = encode_lower (byte ∷ bytes)

-- the bits with which the case of letters was drawn: a number, and `-` where the case wasn't drawn
abbrev pub mix_word : Option ℕ → Word
mix_word None = codes "-"
mix_word (Some mix) = decimal mix

-- yes is 1, and no is 0
abbrev pub truth_number : Bool → ℕ
truth_number truth = if truth then 1 else 0

-- yes is the digit 1, and no the digit 0
abbrev pub digit : Bool → ℕ
digit truth = if truth then 49 else 48

-- eight digits, one for each switch in the order of the fields
abbrev pub flags_word : Flags → Word
flags_word flags =
    digit flags.usevc ∷ digit flags.primary ∷ digit flags.igntc ∷ digit flags.norecurse
    ∷ digit flags.nosearch ∷ digit flags.nocheckresp ∷ digit flags.edns ∷ digit flags.mix ∷ []

-- which addresses are wanted: 0 for any, 1 for IPv4, 2 for IPv6
abbrev pub family_number : Family → ℕ
family_number Any = 0
family_number V4 = 1
family_number V6 = 2

-- where addresses are looked for: 0 for the hosts file and then servers, 1 for servers, 2 for the hosts file
abbrev pub lookups_number : Lookups → ℕ
lookups_number FilesDns = 0
lookups_number Dns = 1
lookups_number Files = 2

-- for which answers a step is taken: 0 for all, 1 for those with status 0, 2 for the others
abbrev pub when_number : When → ℕ
when_number Always = 0
when_number Good = 1
when_number Bad = 2

-- the order that a step needs: 0 for none, 1, 2 and 3 for follow, first and quit
abbrev pub need_number : Need → ℕ
need_number Nothing = 0
need_number Follow = 1
need_number First = 2
need_number Quit = 3
