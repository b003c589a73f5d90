-- The text of a lawful run whose callbacks were told the fates of its requests tells the run.
use Rattle.std.proofs.Common.{ap, ap₂, inl, inr, subst, sym, ◌∙◌}
use Rattle.std.specs.Prelude.{Err, List, Ok, Result, [], flat_map, length, refl, ℕ, ◌++◌, ◌∷◌, ◌≡◌, ◌≤◌, ◌⊎◌}
use Rattle.chan_types.specs.declared.answer.Answer.{Answer}
use Rattle.channel_model.proofs.Theorems.{IsLawfulPast-before, followed_by-append}
use Rattle.channel_model.specs.Completion.{fate, occurrences, requests}
use Rattle.channel_model.specs.Journal.{past_of}
use Rattle.channel_model.specs.Lawful.{IsLawful, IsLawfulPast}
use Rattle.channel_model.specs.Setting.{Setting}
use Rattle.journal_replay.specs.Checks.{IsFirstUnlawful}
use Rattle.journal_text.proofs.TextLemmas.{read_back}
use Rattle.journal_text.specs.BookText.{text_of_book}
use Rattle.journal_text.specs.Fits.{IsBook}
use Rattle.journal_text.specs.declared.book.Book.{Book}
use Rattle.journal_text.specs.declared.fault.BookFault.{BookFault}
use Rattle.journal_text.specs.declared.fault.BookFault.TheVariants.{BadHosts, BadLine, NoMemory, TooLarge, TooMany}
use Rattle.tool_line.specs.Outside.{OutputTold}
use Rattle.tool_line.specs.Words.{Text}
use Rattle.areplay_tool.specs.Page.{lawful_line, lawful_page, line_of, setting_of_book}
use Rattle.areplay_tool.specs.Put.{IsPut}
use Rattle.areplay_tool.specs.Replay.{TellsBook, TellsFault, TellsText}
use Rattle.journal_laws.specs.Telling.{IsWithinLimits, TellsRun, page_told, told_to}
use Rattle.journal_laws.proofs.FateLemmas.{AreFates, numbers_of, told_each, told_fates}

-- lines that are made alike are the same
same_lines : (f g : ℕ → Text) → ((n : ℕ) → f n ≡ g n) → (numbers : List ℕ) → flat_map f numbers ≡ flat_map g numbers
same_lines f g same [] = refl
same_lines f g same (number ∷ numbers) = ap₂ (λ (line lines : Text). line ++ lines) (same number) (same_lines f g same numbers)

module _ (book : Book) (calls : List Answer) (fits : IsBook book) (limits : IsWithinLimits book) (small : length book.hosts ≤ 4194304)
    (lawful : IsLawful (setting_of_book book) book.journal)
    (fates : (request : ℕ) → fate (setting_of_book book) request (past_of book.journal) ≡ told_to request calls) where
  -- the page of the journal is that by what callbacks were told
  page_is : lawful_page (setting_of_book book) book.journal ≡ page_told book calls
  page_is = ap (λ (lines : Text). lawful_line (length book.journal) (length (requests (past_of book.journal))) ++ lines)
      (same_lines (λ request. line_of request (fate (setting_of_book book) request (past_of book.journal))) (λ request. line_of request (told_to request calls))
      (λ request. ap (line_of request) (fates request)) (requests (past_of book.journal)))

  -- each entry of a lawful journal is allowed
  none_unlawful : (position : ℕ) → IsFirstUnlawful (setting_of_book book) book.journal position → ⊥
  none_unlawful position first =
      let past : past_of book.journal ≡ _ = ap past_of first.parts ∙ followed_by-append [] first.before (first.entry ∷ first.behind) in
      let whole = subst (IsLawfulPast (setting_of_book book)) past lawful.allowed in
      first.not_allowed (IsLawfulPast-before (setting_of_book book) (first.entry.what ∷ past_of first.before) first.behind whole).0

  -- it is this run that was read, or memory was wanting
  abbrev IsReadBack : Result Book BookFault → Type 0
  IsReadBack result = (result ≡ Ok book) ⊎ (result ≡ Err NoMemory)

  module _ (status : ℕ) (before after : OutputTold) where
    -- what is put of the run is its page
    of_book : TellsBook book status before after → IsPut (page_told book calls) 0 status before after
    of_book (inl told) = subst (λ (page : Text). IsPut page 0 status before after) page_is told.1
    of_book (inr (inl unlawful)) = absurd (none_unlawful unlawful.0 unlawful.1)
    of_book (inr (inr wanting)) = inr (inr wanting)

    -- the text is read as the run
    of_found : (found : Book) → IsReadBack (Ok found) → TellsBook found status before after → IsPut (page_told book calls) 0 status before after
    of_found found (inl is) tells = let same : found ≡ book = cc is in of_book (subst (λ (b : Book). TellsBook b status before after) same tells)
    of_found found (inr is) tells = absurd (cc is)

    -- it is read as none only for want of memory
    of_fault : (fault : BookFault) → IsReadBack (Err fault) → TellsFault fault status before after → IsPut (page_told book calls) 0 status before after
    of_fault fault (inl is) tells = absurd (cc is)
    of_fault TooLarge (inr is) tells = absurd (cc is)
    of_fault (BadLine line) (inr is) tells = absurd (cc is)
    of_fault TooMany (inr is) tells = absurd (cc is)
    of_fault BadHosts (inr is) tells = absurd (cc is)
    of_fault NoMemory (inr is) tells = inr (inr tells)

    of_text : TellsText (text_of_book book) status before after → IsPut (page_told book calls) 0 status before after
    of_text (inl found) = of_found found.0 (read_back book (Ok found.0) fits limits.short limits.few small found.1 tt) found.2
    of_text (inr fault) = of_fault fault.0 (read_back book (Err fault.0) fits limits.short limits.few small tt fault.1) fault.2

-- the text of such a run, where its setting is this one
pub tells_run : (book : Book) (calls : List Answer) (setting : Setting) → setting_of_book book ≡ setting
    → IsBook book → IsWithinLimits book → length book.hosts ≤ 4194304
    → IsLawful setting book.journal → AreFates setting (past_of book.journal) calls
    → ((request : ℕ) → occurrences request (numbers_of calls) ≡ occurrences request (requests (past_of book.journal)))
    → TellsRun book calls
tells_run book calls setting same fits limits small allowed are_fates once =
    let lawful : IsLawful (setting_of_book book) book.journal = subst (λ (s : Setting). IsLawful s book.journal) (sym same) allowed in
    let fates : (request : ℕ) → fate (setting_of_book book) request (past_of book.journal) ≡ told_to request calls =
    λ request. ap (λ (s : Setting). fate s request (past_of book.journal)) same ∙ told_fates setting (past_of book.journal) calls once are_fates request in
    record {
      read = λ result found fault. read_back book result fits limits.short limits.few small found fault;
      lawful = lawful;
      checked = λ checked decides. decides.1 lawful;
      fates = fates;
      each = told_each setting (past_of book.journal) calls once;
      replayed = of_text book calls fits limits small lawful fates;
    }
