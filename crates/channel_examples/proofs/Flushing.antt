-- When a link is flushed: all is written, or the last write took no byte, though it had one.
use Rattle.std.proofs.Common.{◌≡◌, List, [], ◌∷◌, true, false, refl}
use Rattle.net_world.specs.declared.answers.Wrote.TheVariants.{Count}
use Rattle.net_world.specs.declared.log.WorldCall.{WorldCall}
use Rattle.net_world.specs.declared.log.WorldCall.TheVariants.{Write}
use Rattle.channel_model.specs.Links.{Link}
use Rattle.channel_model.specs.Turn.{is_flushed}

-- the link
abbrev link : Link
link = record { number = 1; server = 0; unread = [] }

-- two bytes were left to be written when one of them was taken
abbrev half : List WorldCall
half = Write 1 (5 ∷ 6 ∷ []) (Count 1) ∷ []

pub not_flushed : is_flushed (λ number. 6 ∷ []) [] half link ≡ false
not_flushed = refl

pub took_none : is_flushed (λ number. 6 ∷ []) [] (Write 1 (5 ∷ 6 ∷ []) (Count 1) ∷ Write 1 (6 ∷ []) (Count 0) ∷ []) link ≡ true
took_none = refl

-- a write that had no byte shows nothing
pub nothing_offered : is_flushed (λ number. 6 ∷ []) [] (Write 1 (5 ∷ 6 ∷ []) (Count 1) ∷ Write 1 [] (Count 0) ∷ []) link ≡ false
nothing_offered = refl

pub other_took_none : is_flushed (λ number. 6 ∷ []) [] (Write 1 (5 ∷ 6 ∷ []) (Count 1) ∷ Write 2 (6 ∷ []) (Count 0) ∷ []) link ≡ false
other_took_none = refl

pub all_written : is_flushed (λ number. []) [] (Write 1 (5 ∷ 6 ∷ []) (Count 1) ∷ Write 1 (6 ∷ []) (Count 1) ∷ []) link ≡ true
all_written = refl
