use Rattle.channel_journal.proofs.untold.UntoldJournalChannelJournal.add.Given as goal

abbrev pub ghosts-tell : goal.ghosts-tell
ghosts-tell a = record { entry = a._entry.now }
