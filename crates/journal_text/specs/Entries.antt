-- The entries of a journal as words.
use Rattle.std.specs.Prelude.{List, [], ◌∷◌, ◌++◌, codes, decimal, flat_map}
use Rattle.chan_types.specs.declared.journal.Entry.{Entry}
use Rattle.chan_types.specs.declared.journal.What.{What}
use Rattle.chan_types.specs.declared.journal.What.TheVariants.{Accept, Cancel, Destroy, Take, Start, Arrive, Expire, Fault, Servers}
use Rattle.chan_types.specs.declared.server_key.ServerKey.{ServerKey}
use Rattle.net_addr.specs.Text.{text_of as address_text}
use Rattle.journal_text.specs.Words.{Word, bytes_word, mix_word}
use Rattle.journal_text.specs.Requests.{spec_words}
use Rattle.journal_text.specs.Scripts.{plan_words}

-- a server of a new list: KEY ADDRESS PORT
abbrev pub key_words : ServerKey → List Word
key_words server = decimal server.key ∷ address_text server.address.address ∷ decimal server.address.port ∷ []

-- what happened: its kind and its fields in their order
abbrev pub what_words : What → List Word
what_words (Accept number spec script) = codes "accept" ∷ decimal number ∷ spec_words spec ++ plan_words script
what_words Cancel = codes "cancel" ∷ []
what_words Destroy = codes "destroy" ∷ []
what_words (Take number) = codes "take" ∷ decimal number ∷ []
what_words (Start number leg server link id mix moment) =
    codes "start" ∷ decimal number ∷ decimal leg ∷ decimal server ∷ decimal link ∷ decimal id ∷ mix_word mix ∷ decimal moment ∷ []
what_words (Arrive server link bytes) = codes "arrive" ∷ decimal server ∷ decimal link ∷ bytes_word bytes ∷ []
what_words (Expire number leg moment) = codes "expire" ∷ decimal number ∷ decimal leg ∷ decimal moment ∷ []
what_words (Fault server link moment) = codes "fault" ∷ decimal server ∷ decimal link ∷ decimal moment ∷ []
what_words (Servers list) = codes "servers" ∷ flat_map key_words list

-- an entry: SEAT BY, and what happened
abbrev pub entry_words : Entry → List Word
entry_words entry = decimal entry.seat ∷ decimal entry.by ∷ what_words entry.what

-- the words behind the first
abbrev pub behind_first : List Word → List Word
behind_first [] = []
behind_first (first ∷ words) = words
