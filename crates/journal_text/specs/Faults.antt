-- When a text is read as a run, and when each fault comes.
use Rattle.std.specs.Prelude.{◌≡◌, ◌≢◌, ℕ, ◌+◌, ◌-◌, ◌<◌, ◌≤◌, List, length, take, map, ⊤}
use mathlib.Core.List.{IsPrefix}
use Rattle.text_lines.specs.Lines.{lines_of}
use Rattle.journal_text.specs.declared.book.Book.{Book}
use Rattle.journal_text.specs.declared.fault.BookFault.{BookFault}
use Rattle.journal_text.specs.declared.fault.BookFault.TheVariants.{TooLarge, BadLine, TooMany, BadHosts, NoMemory}
use Rattle.journal_text.specs.Fits.{IsBook}
use Rattle.journal_text.specs.Lines.{line_text}
use Rattle.journal_text.specs.BookText.{lines_of_book, text_of_book}

-- some run's text begins with so many of the text's lines
abbrev pub Begins : List ℕ → ℕ → Type 0
Begins text count = (book : Book) × IsBook book × IsPrefix (take count (lines_of text)) (map line_text (lines_of_book book))

-- The line is the first such that no run's text begins with the lines up to it.
-- The last of a text's lines is what stands behind its last line feed. It is the bad one where the whole lines before
-- it begin some run's text and the text is none: it ends too early, or bytes stand behind the last line feed.
pub record IsFirstBad (text : List ℕ) (line : ℕ) : Type 0 where
  pub counted : 1 ≤ line
  pub among : line ≤ length (lines_of text)
  pub before : Begins text (line - 1)
  pub bad : line < length (lines_of text) → ¬ (Begins text line)
  pub ended : line ≡ length (lines_of text) → (book : Book) → IsBook book → text ≢ text_of_book book

-- the text is within its limit: 16 MiB
abbrev pub IsShort : List ℕ → Type 0
IsShort text = length text ≤ 16777216

-- the text is that of the run
pub record IsTextOf (text : List ℕ) (book : Book) : Type 0 where
  pub short : IsShort text
  pub is_book : IsBook book
  pub spelled : text ≡ text_of_book book

-- the text is that of the run, which is within its limits: 4,096 entries, and 4 MiB of the hosts file
pub record IsReadAs (text : List ℕ) (book : Book) : Type 0 where
  pub of_text : IsTextOf text book
  pub few : length book.journal ≤ 4096
  pub hosts : length book.hosts ≤ 4194304

-- the fault has its cause in the text; want of memory needs none
abbrev pub HasCause : List ℕ → BookFault → Type 0
HasCause text TooLarge = 16777216 < length text
HasCause text (BadLine line) = IsShort text × IsFirstBad text line
HasCause text TooMany = (book : Book) × IsTextOf text book × (4096 < length book.journal)
HasCause text BadHosts = (book : Book) × IsTextOf text book × (length book.journal ≤ 4096) × (4194304 < length book.hosts)
HasCause text NoMemory = ⊤
