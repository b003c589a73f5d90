-- What ahost puts. Its page: a block for each name, in order, and in it the blocks of the requests that its callback asked, two blanks further to the right.
use Rattle.std.specs.Option.{option_map_or}
use Rattle.std.specs.Prelude.{Bool, List, None, Option, Some, [], false, find, flat_map, if◌then◌else◌, length, suc, true, zero, ℕ, ◌++◌, ◌+◌, ◌==◌}
use Rattle.chan_types.specs.declared.answer.Answer.{Answer}
use Rattle.chan_types.specs.declared.journal.Entry.{Entry}
use Rattle.chan_types.specs.declared.spec.Spec.{Spec}
use Rattle.channel_model.specs.Journal.{Accepted, accepted_by}
use Rattle.journal_text.specs.BookText.{text_of_book}
use Rattle.resolv_options.specs.Values.{OptionValues}
use Rattle.tool_line.specs.Block.{block_lines}
use Rattle.tool_line.specs.Ending.{text_of}
use Rattle.tool_line.specs.Words.{Text}
use Rattle.tool_line.specs.declared.ending.Exit.{Exit}
use Rattle.tool_line.specs.declared.ending.Exit.TheVariants.{Failure, FileFault, OutOfMemory, SinkFault, Stalled, Success, Usage, WaitFault}
use Rattle.tool_line.specs.declared.ending.Tool.TheVariants.{Ahost}
use Rattle.ahost_tool.specs.Summary.{summary_of}
use Rattle.ahost_tool.specs.declared.reporting.Report.{Report}
use Rattle.ahost_tool.specs.declared.reporting.Report.TheVariants.{Book, Page, Summary}

-- the request that the entry accepts on the command of a request's callback, or with 0 on nobody's
abbrev pub asked_in : ℕ → Entry → Option Accepted
asked_in by entry = if entry.by == by then accepted_by entry.what else None

-- the answer with which a request's callback was called
abbrev pub answer_for : ℕ → List Answer → Option Answer
answer_for number calls = find (λ answer. answer.number == number) calls

-- the lines of a request that asks this, if its callback was called
abbrev pub lines_of : List Answer → ℕ → ℕ → Spec → Text
lines_of calls depth number spec = option_map_or (block_lines depth spec) (answer_for number calls) []

-- the blocks of the requests that a request's callback asked, or with 0 of those that none did, in order: of each its lines, and the blocks of the requests that its own callback asked; they are nested at most so deep
abbrev pub blocks : List Entry → List Answer → ℕ → ℕ → ℕ → Text
blocks journal calls zero depth by = []
blocks journal calls (suc most) depth by =
    flat_map (λ entry. option_map_or (λ request. lines_of calls depth request.number request.spec ++ blocks journal calls most (depth + 1) request.number) (asked_in by entry) []) journal

-- the page: no block is nested deeper than the journal has entries
abbrev pub page_of : List Entry → List Answer → Text
page_of journal calls = blocks journal calls (length journal) 0 0

-- the run itself as text: the hosts file's bytes, the options of its channel, and its journal
abbrev pub book_text : List ℕ → OptionValues → List Entry → Text
book_text hosts options journal = text_of_book (record { options = options; hosts = hosts; journal = journal })

-- what a run for names puts: its page, or where the words ask for it its book, with these bytes of the hosts file
abbrev pub report_for : Bool → List ℕ → Report
report_for false hosts = Page
report_for true hosts = Book hosts

-- the text of a run whose requests have their answers, of a channel of these options: its page, its book, or the summary of its load
abbrev pub report_of : Report → OptionValues → List Entry → List Answer → Text
report_of Page options journal calls = page_of journal calls
report_of (Book hosts) options journal calls = book_text hosts options journal
report_of (Summary load) options journal calls = summary_of load journal calls

-- the text of a run that comes to this end: its report, or the line in place of it; none for want of memory
abbrev pub text_at : Report → OptionValues → List Entry → List Answer → Exit → Option Text
text_at report options journal calls Success = Some (report_of report options journal calls)
text_at report options journal calls Failure = Some (report_of report options journal calls)
text_at report options journal calls Usage = text_of Ahost Usage
text_at report options journal calls FileFault = text_of Ahost FileFault
text_at report options journal calls SinkFault = None
text_at report options journal calls OutOfMemory = None
text_at report options journal calls WaitFault = text_of Ahost WaitFault
text_at report options journal calls Stalled = text_of Ahost Stalled
