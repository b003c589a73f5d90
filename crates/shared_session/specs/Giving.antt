-- What is made through the passes of a session's owner and its workers: requests are taken, and callbacks' commands are performed.
use Rattle.std.specs.List.{AllByRecursion}
use Rattle.std.specs.Prelude.{IsTrue, List, is_some, ◌≡◌, ◌⊎◌}
use Rattle.chan_types.specs.declared.answer.Answer.{Answer}
use Rattle.chan_types.specs.declared.journal.Entry.{Entry}
use Rattle.channel_model.specs.Completion.{taken_by}
use Rattle.shared_channel.specs.Passes.{PassView}
use Rattle.worker_rounds.specs.Going.{IsCommanded}

-- the entry takes a request on nobody's command, or the callback that was told one of these answers commanded it
abbrev pub IsGiven : List Answer → Entry → Type 0
IsGiven answers entry = (IsTrue (is_some (taken_by entry.what)) × (entry.by ≡ 0)) ⊎ IsCommanded answers entry

-- each entry that was made through a pass is such a one, by the answers that were told through it
abbrev pub OnlyGives : PassView → Type 0
OnlyGives pass = AllByRecursion (IsGiven pass.calls) pass.own

-- each entry that was made through a pass was commanded by a callback that was told an answer through it
abbrev pub OnlyObeys : PassView → Type 0
OnlyObeys pass = AllByRecursion (IsCommanded pass.calls) pass.own
