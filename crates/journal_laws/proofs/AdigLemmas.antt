-- What a run of adig that puts its text whole tells.
use Rattle.std.proofs.Common.{ap, arith, inl, inr, subst}
use Rattle.std.specs.Prelude.{Bool, Ok, Option, Result, Some, refl, true, ℕ, ◌≡◌}
use Rattle.channel_model.specs.Completion.{occurrences, requests}
use Rattle.channel_model.specs.Journal.{past_of}
use Rattle.journal_text.specs.BookText.{text_of_book}
use Rattle.journal_text.specs.Fits.{IsBook}
use Rattle.journal_text.specs.declared.book.Book.{Book}
use Rattle.resolv_options.specs.Values.{OptionValues}
use Rattle.tool_line.specs.Files.{options_set}
use Rattle.tool_line.specs.Outside.{FilesTold, Outside}
use Rattle.tool_line.specs.Words.{Text}
use Rattle.tool_line.specs.declared.adig.AdigAsk.{AdigAsk}
use Rattle.tool_line.specs.declared.ending.Exit.{Exit}
use Rattle.tool_line.specs.declared.files.FileFault.{FileFault as FaultOfFile}
use Rattle.adig_tool.specs.Cookies.{own_end}
use Rattle.adig_tool.specs.Output.{book_of, text_at}
use Rattle.adig_tool.specs.Promise.{Promise}
use Rattle.adig_tool.specs.Running.{Comes, IsRunFor, setting_with}
use Rattle.adig_tool.specs.declared.ended.Ended.{Ended}
use Rattle.run_end.specs.Ends.{IsPageEnd}
use Rattle.journal_laws.specs.Telling.{HasPut, IsWithinLimits, PutsRun}
use Rattle.journal_laws.proofs.FateLemmas.{fates_in_order}
use Rattle.journal_laws.proofs.PutLemmas.{whole_put}
use Rattle.journal_laws.proofs.TellingLemmas.{tells_run}

-- at an end with a page the text is that page
page_at : (page : Option Text) (end : Exit) → IsPageEnd end → text_at page end ≡ page
page_at page end (inl is) = ap (text_at page) is
page_at page end (inr is) = ap (text_at page) is

module _ (options : OptionValues) (turns : ℕ) (before after : Outside) (ended : Ended) (ask : AdigAsk) (files_before files_after : FilesTold) where
  -- the promise of a run whose book is asked for
  promised : (run : IsRunFor ask turns (own_end ended) files_before files_after before after) → ask.journal ≡ true → options_set ask.settings run.file ≡ Ok options
      → Promise ask.spec true (setting_with options) turns (own_end ended) before after
  promised run as_book are =
      subst (λ (b : Bool). Promise ask.spec b (setting_with options) turns (own_end ended) before after) as_book
      (subst (λ (r : Result OptionValues FaultOfFile). Comes ask.spec ask.journal turns r (own_end ended) before after) are run.comes)

  pub adig_tells : IsBook (book_of (setting_with options) ended.journal)
      → (run : IsRunFor ask turns (own_end ended) files_before files_after before after)
      → ask.journal ≡ true → options_set ask.settings run.file ≡ Ok options → HasPut ended.status
      → IsWithinLimits (book_of (setting_with options) ended.journal)
      → PutsRun (book_of (setting_with options) ended.journal) ended.calls before.output after.output
  adig_tells fits run as_book are has_put limits =
      let book : Book = book_of (setting_with options) ended.journal in
      let promise = promised run as_book are in
      let whole = whole_put ended.status before.output after.output has_put (text_of_book book) _ promise.end
      (page_at (Some (text_of_book book)) promise.end) promise.put.told in
      let called = fates_in_order (setting_with options) (past_of ended.journal) ended.calls (requests (past_of ended.journal)) promise.called_once in
      record {
        grows = whole.grows;
        once = whole.once;
        tells = tells_run book ended.calls (setting_with options) refl fits limits (omega arith) promise.lawful called.1
            (λ request. ap (occurrences request) called.0);
      }
