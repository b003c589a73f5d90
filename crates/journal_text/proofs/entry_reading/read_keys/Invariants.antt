use Rattle.std.proofs.Common.{◌≡◌, ◌++◌, length}
use Rattle.std.specs.Prelude.{flat_map}
use Rattle.std.specs.List.{AllByRecursion}
use Rattle.journal_text.specs.Entries.{key_words}
use Rattle.journal_text.specs.Fits.{FitsKey}
use Rattle.journal_text.specs.EntryReading.{keys_from}
use Rattle.journal_text.proofs.KeyLemmas.{with_front}
use Rattle.journal_text.proofs.entry_reading.read_keys.Given as goal

-- the servers so far, and those of the words that are left
abbrev pub invariant-servers : goal.invariant-servers
invariant-servers l = record {
  value : with_front l.list (keys_from l.words) ≡ keys_from l.fn.words;
  took : l.fn.words ≡ flat_map key_words l.list ++ l.words;
  fits : AllByRecursion FitsKey l.list;
}

abbrev pub decreases-servers : goal.decreases-servers
decreases-servers l = length l.words
