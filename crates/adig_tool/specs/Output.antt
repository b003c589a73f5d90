-- The text that a run puts.
use Rattle.std.specs.Prelude.{Bool, List, None, Option, Some, [], false, option_map, true}
use Rattle.chan_types.specs.declared.answer.Answer.{Answer}
use Rattle.chan_types.specs.declared.journal.Entry.{Entry}
use Rattle.chan_types.specs.declared.spec.Spec.{Spec}
use Rattle.channel_model.specs.Lawful.{first}
use Rattle.channel_model.specs.Setting.{Setting}
use Rattle.journal_text.specs.BookText.{text_of_book}
use Rattle.journal_text.specs.declared.book.Book.{Book}
use Rattle.tool_line.specs.Ending.{text_of}
use Rattle.tool_line.specs.Heads.{page_of}
use Rattle.tool_line.specs.Words.{Text}
use Rattle.tool_line.specs.declared.ending.Exit.{Exit}
use Rattle.tool_line.specs.declared.ending.Exit.TheVariants.{Failure, FileFault, OutOfMemory, SinkFault, Stalled, Success, Usage, WaitFault}
use Rattle.tool_line.specs.declared.ending.Tool.TheVariants.{Adig}

-- the book of a run whose channel had this setting and this journal: the setting's options, an empty hosts file, and the journal
abbrev pub book_of : Setting → List Entry → Book
book_of setting journal = record { options = setting.options; hosts = []; journal = journal }

-- the page of a request whose callback was called with its answer
abbrev pub answer_page : Spec → List Answer → Option Text
answer_page spec calls = option_map (page_of spec) (first calls)

-- that page; or where the book is asked for, the book's text in place of it
abbrev pub page_for : Spec → Bool → Book → List Answer → Option Text
page_for spec false book calls = answer_page spec calls
page_for spec true book calls = Some (text_of_book book)

-- the text of a run that comes to this end: its page, or the line in place of one; none for want of memory
abbrev pub text_at : Option Text → Exit → Option Text
text_at page Success = page
text_at page Failure = page
text_at page Usage = text_of Adig Usage
text_at page FileFault = text_of Adig FileFault
text_at page SinkFault = None
text_at page OutOfMemory = None
text_at page WaitFault = text_of Adig WaitFault
text_at page Stalled = text_of Adig Stalled
