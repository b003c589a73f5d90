-- What a run of areplay comes to: by its words, by the file that it reads, and by the journal that the file has.
use Rattle.std.specs.Prelude.{List, [], codes, ℕ, ◌++◌, ◌∷◌, ◌≡◌, ◌≢◌, ◌⊎◌}
use Rattle.net_world.specs.Cause.{Rose}
use Rattle.net_world.specs.Files.{IsReadOf}
use Rattle.net_world.specs.declared.answers.FileRead.{FileRead}
use Rattle.net_world.specs.declared.answers.FileRead.TheVariants.{Absent, Content, Failed as NotRead, Large}
use Rattle.channel_model.specs.Lawful.{IsLawful}
use Rattle.journal_replay.specs.Checks.{IsFirstUnlawful}
use Rattle.journal_text.specs.Faults.{HasCause, IsReadAs}
use Rattle.journal_text.specs.declared.book.Book.{Book}
use Rattle.journal_text.specs.declared.fault.BookFault.{BookFault}
use Rattle.journal_text.specs.declared.fault.BookFault.TheVariants.{BadHosts, BadLine, NoMemory, TooLarge, TooMany}
use Rattle.tool_line.specs.Outside.{FilesTold, OutputTold}
use Rattle.tool_line.specs.Read.{HasRead, read_call}
use Rattle.tool_line.specs.Words.{Text}
use Rattle.areplay_tool.specs.Page.{lawful_page, setting_of_book, unlawful_line}
use Rattle.areplay_tool.specs.Put.{IsPut, WantsMemory}

-- the words are this path, which isn't empty
abbrev pub IsPathOf : List Text → Text → Type 0
IsPathOf words path = (words ≡ path ∷ []) × (path ≢ [])

-- the words aren't one path
abbrev pub AreRefused : List Text → Type 0
AreRefused words = (path : Text) → IsPathOf words path → ⊥

-- this holds of the path that the words are, if they are one
abbrev pub ForPath : List Text → (Text → Type 0) → Type 0
ForPath words holds = (path : Text) → IsPathOf words path → holds path

-- the lines in place of a page
abbrev pub usage_line : Text
usage_line = codes "areplay: usage" ++ 10 ∷ []

abbrev pub file_fault_line : Text
file_fault_line = codes "areplay: file fault" ++ 10 ∷ []

abbrev pub bad_book_line : Text
bad_book_line = codes "areplay: bad book" ++ 10 ∷ []

-- what a run puts of a stored run, and its exit status: where the journal is lawful, its page, and 0; where it isn't, the position of the first entry that isn't allowed, and 1; or memory was wanting
abbrev pub TellsBook : Book → ℕ → OutputTold → OutputTold → Type 0
TellsBook book status before after =
    (IsLawful (setting_of_book book) book.journal × IsPut (lawful_page (setting_of_book book) book.journal) 0 status before after)
    ⊎ ((position : ℕ) × IsFirstUnlawful (setting_of_book book) book.journal position × IsPut (unlawful_line position) 1 status before after)
    ⊎ WantsMemory status before after

-- the same of a text that is read as no run, for this cause
abbrev pub TellsFault : BookFault → ℕ → OutputTold → OutputTold → Type 0
TellsFault TooLarge status before after = IsPut file_fault_line 3 status before after
TellsFault (BadLine line) status before after = IsPut bad_book_line 8 status before after
TellsFault TooMany status before after = IsPut bad_book_line 8 status before after
TellsFault BadHosts status before after = IsPut bad_book_line 8 status before after
TellsFault NoMemory status before after = WantsMemory status before after

-- the same of any text: it is that of a run within the limits, or it isn't
abbrev pub TellsText : Text → ℕ → OutputTold → OutputTold → Type 0
TellsText text status before after =
    ((book : Book) × IsReadAs text book × TellsBook book status before after)
    ⊎ ((fault : BookFault) × HasCause text fault × TellsFault fault status before after)

-- the same of a file as it was read
abbrev pub TellsFile : FileRead → ℕ → OutputTold → OutputTold → Type 0
TellsFile (Content text) status before after = TellsText text status before after
TellsFile Absent status before after = IsPut file_fault_line 3 status before after
TellsFile Large status before after = IsPut file_fault_line 3 status before after
TellsFile NotRead status before after = IsPut file_fault_line 3 status before after

-- the file of the path was read once, of 16,777,216 bytes at most, with this answer
pub record IsReadAt (path : Text) (file : FileRead) (before after : FilesTold) : Type 0 where
  -- Where files are told, it is the file's whole content, or that there is none, or that it has more.
  pub fits : IsReadOf before.files path 16777216 file
  -- That is the run's one read.
  pub reads : HasRead (read_call path 16777216 file ∷ []) before.reads after.reads
  -- A read fails only where the count of failures rose in this run.
  pub fails : file ≡ NotRead → Rose before.faults after.faults

-- a run for this path: its file was read, and what was put follows from it; or memory was wanting at the read, and nothing was read
abbrev pub IsReplay : Text → ℕ → FilesTold → FilesTold → OutputTold → OutputTold → Type 0
IsReplay path status files_before files_after before after =
    ((file : FileRead) × IsReadAt path file files_before files_after × TellsFile file status before after)
    ⊎ ((files_after.reads ≡ files_before.reads) × WantsMemory status before after)
