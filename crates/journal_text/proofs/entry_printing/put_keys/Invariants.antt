use Rattle.std.proofs.Common.{◌≡◌, ◌++◌, take}
use Rattle.std.specs.List.{flat_map}
use Rattle.journal_text.specs.Words.{spaced}
use Rattle.journal_text.specs.Entries.{key_words}
use Rattle.journal_text.proofs.entry_printing.put_keys.Given as goal

-- the words so far are those of the servers so far
abbrev pub invariant-loop-server : goal.invariant-loop-server
invariant-loop-server l = l.text.items ≡ l.initial.text.items ++ flat_map spaced (flat_map key_words (take l.server-index l.list))
