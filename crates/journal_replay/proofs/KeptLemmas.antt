-- The keys of the servers behind an entry that sets them.
use Rattle.std.proofs.Common.{ap, ap₂, sym, ◌∙◌}
use Rattle.std.specs.Prelude.{List, ℕ, ◌≡◌}
use Rattle.chan_types.specs.declared.journal.What.TheVariants.{Servers}
use Rattle.chan_types.specs.declared.server_key.ServerKey.{ServerKey}
use Rattle.channel_model.specs.Journal.{Past}
use Rattle.channel_model.specs.Seen.{Seen}
use Rattle.channel_model.specs.Servers.{greatest_key, greatest_of, servers_at}
use Rattle.channel_model.specs.Setting.{Setting}
use Rattle.journal_replay.specs.Kept.{KnowsKeys}
use Rattle.journal_replay.specs.Replays.{IsMade}
use Rattle.journal_replay.specs.declared.keys.Keys.{Keys}

-- they are those of its list, and the greatest of them and of those before is the greatest
pub known_set : (list : List ServerKey) (old new : Seen) (keys keys_then : Keys) → IsMade (Servers list) old new → KnowsKeys keys old → keys_then.list ≡ list → keys_then.greatest ≡ greatest_of keys.greatest list
    → KnowsKeys keys_then new
known_set list old new keys keys_then made known is greatest_is = record {
  list = is ∙ sym (ap₂ (λ (s : Setting) (p : Past). servers_at s p) made.setting made.past);
  greatest = greatest_is ∙ ap (λ (n : ℕ). greatest_of n list) known.greatest ∙ sym (ap₂ (λ (s : Setting) (p : Past). greatest_key s p) made.setting made.past);
}
