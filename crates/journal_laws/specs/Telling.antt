-- What the text of a run tells whoever reads it: the run itself, that its journal is lawful, and what its callbacks were told.
use Rattle.std.specs.Prelude.{Err, IfErr, IfOk, List, None, Ok, Option, Result, find, flat_map, length, ℕ, ◌++◌, ◌==◌, ◌↔◌, ◌≡◌, ◌≢◌, ◌≤◌, ◌⊎◌}
use Rattle.chan_types.specs.declared.answer.Answer.{Answer}
use Rattle.net_world.specs.declared.answers.PutEnd.TheVariants.{Done}
use Rattle.channel_model.specs.Completion.{fate, occurrences, requests}
use Rattle.channel_model.specs.Journal.{past_of}
use Rattle.channel_model.specs.Lawful.{IsLawful}
use Rattle.journal_text.specs.BookText.{text_of_book}
use Rattle.journal_text.specs.Faults.{HasCause, IsReadAs}
use Rattle.journal_text.specs.declared.book.Book.{Book}
use Rattle.journal_text.specs.declared.fault.BookFault.{BookFault}
use Rattle.journal_text.specs.declared.fault.BookFault.TheVariants.{NoMemory}
use Rattle.journal_replay.specs.declared.checking.Checked.{Checked}
use Rattle.journal_replay.specs.declared.checking.Checked.TheVariants.{Lawful}
use Rattle.tool_line.specs.Outside.{GrowsBy, OutputTold}
use Rattle.tool_line.specs.Put.{PutsOnce}
use Rattle.tool_line.specs.Words.{Text}
use Rattle.areplay_tool.specs.Page.{lawful_line, line_of, setting_of_book}
use Rattle.areplay_tool.specs.Put.{IsPut}
use Rattle.areplay_tool.specs.Replay.{TellsText}

-- the run is within the limits of its readers: at most 4,096 entries, and a text of at most 16,777,216 bytes
pub record IsWithinLimits (book : Book) : Type 0 where
  pub few : length book.journal ≤ 4096
  pub short : length (text_of_book book) ≤ 16777216

-- the exit status says that the run's text was put whole
abbrev pub HasPut : ℕ → Type 0
HasPut status = (status ≡ 0) ⊎ (status ≡ 1)

-- what a request's callback was told, if it was called
abbrev pub told_to : ℕ → List Answer → Option Answer
told_to request calls = find (λ answer. answer.number == request) calls

-- the page by what callbacks were told: how many entries and requests the run has, and then a line for each request, with the status that its callback was told
abbrev pub page_told : Book → List Answer → Text
page_told book calls =
    lawful_line (length book.journal) (length (requests (past_of book.journal)))
    ++ flat_map (λ request. line_of request (told_to request calls)) (requests (past_of book.journal))

-- a run's text tells the run, whose callbacks were called with these answers
pub record TellsRun (book : Book) (calls : List Answer) : Type 0 where
  -- What `read_book` answers of the text is this run and no other, unless memory is wanting.
  pub read : (result : Result Book BookFault) → IfOk result (IsReadAs (text_of_book book)) → IfErr result (HasCause (text_of_book book)) → (result ≡ Ok book) ⊎ (result ≡ Err NoMemory)
  -- Its journal is lawful under its options and its hosts file, so that this is what `check` answers of it.
  pub lawful : IsLawful (setting_of_book book) book.journal
  pub checked : (checked : Checked) → ((checked ≡ Lawful) ↔ IsLawful (setting_of_book book) book.journal) → checked ≡ Lawful
  -- A request's fate, which `fate_of` answers, is what its callback was told; there is none where no callback was.
  pub fates : (request : ℕ) → fate (setting_of_book book) request (past_of book.journal) ≡ told_to request calls
  -- The callback of each request of the journal was called.
  pub each : (request : ℕ) → 1 ≤ occurrences request (requests (past_of book.journal)) → told_to request calls ≢ None
  -- What `areplay` puts of the text is the page by what callbacks were told, with exit status 0; or its one put failed behind a part of it, and it is 4; or memory was wanting, and it is 5.
  pub replayed : (status : ℕ) (before after : OutputTold) → TellsText (text_of_book book) status before after → IsPut (page_told book calls) 0 status before after

-- a run's one put was this run's text, whole, and the text tells the run
pub record PutsRun (book : Book) (calls : List Answer) (before after : OutputTold) : Type 0 where
  pub grows : GrowsBy before.bytes after.bytes (text_of_book book)
  pub once : PutsOnce (text_of_book book) Done before.puts after.puts
  pub tells : TellsRun book calls
