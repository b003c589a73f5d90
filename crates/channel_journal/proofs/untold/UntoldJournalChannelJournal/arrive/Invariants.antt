use Rattle.channel_journal.specs.Told.{arrived}
use Rattle.channel_journal.proofs.untold.UntoldJournalChannelJournal.arrive.Given as goal

abbrev pub ghosts-tell_arrival : goal.ghosts-tell_arrival
ghosts-tell_arrival a = record { entry = arrived a._seat a._server a._link a._bytes.now }
