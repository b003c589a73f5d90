-- The answer to which a finding of a host comes.
use Rattle.std.specs.Prelude.{ℕ, Bool, [], Option, Some, None}
use Rattle.chan_types.specs.declared.answer.Answer.{Answer}
use Rattle.channel_model.specs.Merge.{bare, found}
use Rattle.channel_model.specs.Setting.{Setting}
use Rattle.addr_lookup.specs.declared.finding.Finding.{Finding}
use Rattle.addr_lookup.specs.declared.finding.Finding.TheVariants.{Nothing, Ended, Host}

-- the answer: none, one with a status alone, or a good one with the addresses in the order that the caller gets
abbrev pub answer_of : Setting → ℕ → Bool → Finding → Option Answer
answer_of channel request nosort Nothing = None
answer_of channel request nosort (Ended status) = Some (bare request status [])
answer_of channel request nosort (Host addresses canonical) = Some (found channel request nosort addresses canonical)
