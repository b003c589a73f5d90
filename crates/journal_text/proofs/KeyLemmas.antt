-- Servers of a line, one after another.
use Rattle.std.proofs.Common.{◌≡◌, List, [], ◌∷◌, ◌++◌, Option, Some, None, refl, sym, ap, append_assoc}
use Rattle.chan_types.specs.declared.server_key.ServerKey.{ServerKey}
use Rattle.journal_text.specs.Words.{Word}
use Rattle.journal_text.specs.Reads.{◌>>=◌}
use Rattle.journal_text.specs.EntryReading.{key_in, keys_from}

-- these servers, and then those that are found
abbrev pub with_front : List ServerKey → Option (List ServerKey) → Option (List ServerKey)
with_front front found = found >>= λ others. Some (front ++ others)

regrouped : (front : List ServerKey) (server : ServerKey) (found : Option (List ServerKey)) → with_front front (found >>= λ others. Some (server ∷ others)) ≡ with_front (front ++ server ∷ []) found
regrouped front server None = refl
regrouped front server (Some others) = ap (λ (all : List ServerKey). Some all) (sym (append_assoc front (server ∷ []) others))

-- one server more
pub one_more : (front : List ServerKey) (key address port : Word) (words : List Word) (server : ServerKey) → key_in key address port ≡ Some server
    → with_front front (keys_from (key ∷ address ∷ port ∷ words)) ≡ with_front (front ++ server ∷ []) (keys_from words)
unfolding keys_from
one_more front key address port words server is = rw is (regrouped front server (keys_from words))

-- no server
pub none_more : (front : List ServerKey) (key address port : Word) (words : List Word) → key_in key address port ≡ None → with_front front (keys_from (key ∷ address ∷ port ∷ words)) ≡ None
unfolding keys_from
none_more front key address port words is = rw is refl
