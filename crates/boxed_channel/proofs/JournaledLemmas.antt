-- A call of one of the two channels is a call of the channel.
use Rattle.std.proofs.Common.{◌≡◌, List, ap, subst, sym, ℕ}
use Rattle.channel_model.specs.Known.{Calls}
use Rattle.channel_model.specs.Meanings.{Meaning}
use Rattle.channel_table.specs.Calling.{Owned, known_by_owner}
use Rattle.boxed_channel.specs.Journaled.{channel_of, voice_of}
use Rattle.boxed_channel.specs.declared.journaled.Journaled.{Journaled}
use Rattle.boxed_channel.specs.declared.journaled.Journaled.TheVariants.{Kept, Untold}

-- of the channel of which proofs alone see the journal
pub untold_does : {meaning : Meaning} {by : ℕ} {journaled : Journaled} {channel new : Owned} → journaled ≡ Untold channel
    → Calls meaning by (known_by_owner channel) (known_by_owner new) → Calls meaning by (known_by_owner (channel_of journaled)) (known_by_owner new)
untold_does {meaning} {by} {journaled} {channel} {new} is done = subst (λ (old : Owned). Calls meaning by (known_by_owner old) (known_by_owner new)) (sym (ap channel_of is)) done

-- of the channel whose journal is kept
pub kept_does : {meaning : Meaning} {by : ℕ} {journaled : Journaled} {channel new : Owned} {hosts : List ℕ} → journaled ≡ Kept channel hosts
    → Calls meaning by (known_by_owner channel) (known_by_owner new) → Calls meaning by (known_by_owner (channel_of journaled)) (known_by_owner new)
kept_does {meaning} {by} {journaled} {channel} {new} is done = subst (λ (old : Owned). Calls meaning by (known_by_owner old) (known_by_owner new)) (sym (ap channel_of is)) done

-- the same on the command of the request that the channel has
pub untold_voiced : {meaning : Meaning} {journaled : Journaled} {channel new : Owned} → journaled ≡ Untold channel
    → Calls meaning channel.voice (known_by_owner channel) (known_by_owner new) → Calls meaning (voice_of journaled) (known_by_owner (channel_of journaled)) (known_by_owner new)
untold_voiced {meaning} {journaled} {channel} {new} is done = subst (λ (old : Owned). Calls meaning old.voice (known_by_owner old) (known_by_owner new)) (sym (ap channel_of is)) done

pub kept_voiced : {meaning : Meaning} {journaled : Journaled} {channel new : Owned} {hosts : List ℕ} → journaled ≡ Kept channel hosts
    → Calls meaning channel.voice (known_by_owner channel) (known_by_owner new) → Calls meaning (voice_of journaled) (known_by_owner (channel_of journaled)) (known_by_owner new)
kept_voiced {meaning} {journaled} {channel} {new} is done = subst (λ (old : Owned). Calls meaning old.voice (known_by_owner old) (known_by_owner new)) (sym (ap channel_of is)) done
