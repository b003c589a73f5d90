-- A run as text: its lines in order, each ended by a line feed.
use Rattle.std.specs.Prelude.{ℕ, List, [], ◌∷◌, ◌++◌, map, flat_map}
use Rattle.chan_types.specs.declared.journal.Entry.{Entry}
use Rattle.resolv_options.specs.Values.{OptionValues}
use Rattle.journal_text.specs.declared.book.Book.{Book}
use Rattle.journal_text.specs.declared.line.Line.{Line}
use Rattle.journal_text.specs.declared.line.Line.TheVariants.{Head, Set, Server, Domain, Source, Hosts, Event, End}
use Rattle.journal_text.specs.Settings.{line_of_options}
use Rattle.journal_text.specs.Lines.{line_text, ended_line}

-- the lines of a run: what the text is, the options, one line for each server, domain and source, the hosts file, one line for each entry, and the end
abbrev pub lines_of_book : Book → List Line
lines_of_book book =
    Head ∷ Set (line_of_options book.options) ∷ []
    ++ map Server book.options.servers
    ++ map Domain book.options.domains
    ++ map Source book.options.sources
    ++ Hosts book.hosts ∷ []
    ++ map Event book.journal
    ++ End ∷ []

-- the lines of items, each of this kind
abbrev pub lines_text : {A : Type 0} → (A → Line) → List A → List ℕ
lines_text line items = flat_map (λ item. ended_line (line_text (line item))) items

-- the text of a run
abbrev pub text_of_book : Book → List ℕ
text_of_book book = flat_map (λ line. ended_line (line_text line)) (lines_of_book book)

-- the same by its parts: its options, the bytes of its hosts file, and its entries
abbrev pub text_of_run : OptionValues → List ℕ → List Entry → List ℕ
text_of_run options hosts entries = text_of_book (record { options = options; hosts = hosts; journal = entries })
