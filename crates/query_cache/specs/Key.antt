-- How a cache finds a question: by its kind, its class, and its name in lower case.
use Rattle.std.specs.Prelude.{◌≡◌, ℕ, Bool, ◌&&◌, ◌==◌, List, map}
use Rattle.std.specs.Str.{bytes_eq}
use Rattle.std.specs.Char.{to_ascii_lowercase}
use Rattle.std.specs.List.{AllByRecursion}
use Rattle.dns_message.specs.Wire.{wire_bytes}
use Rattle.dns_message.specs.Name.{IsName}
use Rattle.dns_message.specs.declared.message.Question.{Question}
use Rattle.std.specs.Map.{values_of}
use Rattle.lru.specs.LruCache.{LruCache}
use Rattle.query_cache.specs.Cache.{Cache}
use Rattle.query_cache.specs.declared.key.Key.{Key}
use Rattle.query_cache.specs.declared.kept.Kept.{Kept}

-- the test of keys
abbrev pub key_eq : Key → Key → Bool
key_eq key other = key.kind == other.kind && (key.class == other.class && bytes_eq key.name.items other.name.items)

-- the key is that of the question
pub record IsKeyOf (question : Question) (key : Key) : Type 0 where
  pub kind : key.kind ≡ question.kind
  pub class : key.class ≡ question.class
  pub name : key.name.items ≡ map to_ascii_lowercase (wire_bytes question.name)
  pub is_name : IsName question.name

-- each kept answer is found by the key of its question
abbrev pub AreByKey : List (Key × Kept) → Type 0
AreByKey entries = AllByRecursion (λ e. IsKeyOf e.1.asked e.0) entries

-- the cache that a caller sees of what is held
abbrev pub shown : ℕ → LruCache Key Kept → Cache
shown most held = record { room = held.cap; most = most; entries = values_of held.entries }
