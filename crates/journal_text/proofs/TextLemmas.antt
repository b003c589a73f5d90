-- Texts of runs: which lines they have, and which line of another text is the first bad one.
use Rattle.std.proofs.Common.{◌≡◌, ℕ, zero, suc, ◌+◌, ◌-◌, ◌<◌, ◌≤◌, Bool, true, false, eqb, List, [], ◌∷◌, ◌++◌, length, map, take, drop, All, Option, Some, None, Result, Ok, Err, ◌⊎◌, inl, inr, refl, sym, ap, subst, ◌∙◌, append_assoc, arith}
use Rattle.std.specs.Prelude.{◌≢◌, flat_map, IfOk, IfErr}
use Rattle.std.specs.List.{AllByRecursion}
use Rattle.std.proofs.lemmas.Bool.{cases_lt}
use Rattle.std.proofs.lemmas.List.{append-nil, map-append, length-append, length-map, take_at, take-append-le, take-append-drop}
use Rattle.std.proofs.lemmas.List.Concat.{flat_map-cons}
use Rattle.std.proofs.lemmas.List.Splits.{length-slice_split}
use mathlib.Core.List.{IsPrefix}
use Rattle.text_lines.specs.Lines.{lines_of}
use Rattle.journal_text.specs.declared.book.Book.{Book}
use Rattle.journal_text.specs.declared.fault.BookFault.{BookFault}
use Rattle.journal_text.specs.declared.fault.BookFault.TheVariants.{TooLarge, BadLine, TooMany, BadHosts, NoMemory}
use Rattle.journal_text.specs.declared.draft.Draft.{Draft}
use Rattle.journal_text.specs.declared.draft.Section.TheVariants as at
use Rattle.journal_text.specs.declared.line.Line.{Line}
use Rattle.journal_text.specs.Reads.{◌>>=◌}
use Rattle.journal_text.specs.Lines.{line_text, line_words, ended_line}
use Rattle.journal_text.specs.LineReading.{line_of}
use Rattle.journal_text.specs.BookText.{lines_of_book, text_of_book}
use Rattle.journal_text.specs.Fits.{FitsLine, IsBook}
use Rattle.journal_text.specs.declared.draft.Section.{Section}
use Rattle.journal_text.specs.Drafts.{blank, added, drafted, book_of, is_ended, ended_at, HasLimits, TakesLine, TakesNone}
use Rattle.journal_text.specs.Cuts.{Lacks}
use Rattle.journal_text.specs.Faults.{Begins, IsFirstBad, IsShort, IsTextOf, IsReadAs, HasCause}
use Rattle.journal_text.proofs.CutLemmas.{parts_behind, one_part}
use Rattle.journal_text.proofs.WordsLemmas.{IsNoFeed, joined_unfed, lines_cut}
use Rattle.journal_text.proofs.LineLemmas.{dark_line, line_again}
use Rattle.journal_text.proofs.DraftLemmas.{IsRead, begins_run, chained, push_all, read_more, blank_read, whole_read}
use Rattle.journal_text.proofs.RunLemmas.{done_of, done_ended, done_book, run_drafted, run_fits}

-- the texts of lines, each ended
abbrev pub text_of_lines : List Line → List ℕ
text_of_lines lines = flat_map ended_line (map line_text lines)

one : {A : Type 0} (a b : A) → Some a ≡ Some b → a ≡ b
one a b is = cc

-- lines with one text are one
line_once : (line other : Line) → FitsLine line → FitsLine other → line_text line ≡ line_text other → line ≡ other
line_once line other fits others same = one line other (sym (line_again line fits) ∙ ap line_of same ∙ line_again other others)

-- lists of lines with the same texts are one
lines_once : (lines others : List Line) → AllByRecursion FitsLine lines → AllByRecursion FitsLine others → map line_text lines ≡ map line_text others → lines ≡ others
lines_once [] [] fits more same = refl
lines_once [] (other ∷ others) fits more same = absurd cc
lines_once (line ∷ lines) [] fits more same = absurd cc
lines_once (line ∷ lines) (other ∷ others) fits more same =
    let first : line_text line ≡ line_text other = cc in
    let rest : map line_text lines ≡ map line_text others = cc in
    let a = line_once line other fits.0 more.0 first in
    let b = lines_once lines others fits.1 more.1 rest in
    rw (a, b) refl

-- no line of a run has a line feed in it
unfed : (lines : List Line) → AllByRecursion FitsLine lines → AllByRecursion (All IsNoFeed) (map line_text lines)
unfed [] fits = tt
unfed (line ∷ lines) fits = (joined_unfed (line_words line) (dark_line line fits.0), unfed lines fits.1)

-- the lines of a text that begins with lines
pub lines_parted : (lines : List Line) (rest : List ℕ) → AllByRecursion FitsLine lines → lines_of (text_of_lines lines ++ rest) ≡ map line_text lines ++ lines_of rest
lines_parted lines rest fits = lines_cut (map line_text lines) rest (unfed lines fits)

-- what a run's lines go on with behind some of them
record GoesOn (all lines : List Line) (text : List ℕ) : Type 0 where
  line : Line
  rest : List Line
  parts : all ≡ lines ++ line ∷ rest
  fits : FitsLine line
  spelled : line_text line ≡ text

goes_on : (all lines : List Line) (text : List ℕ) (more : List (List ℕ)) → AllByRecursion FitsLine all → AllByRecursion FitsLine lines
    → map line_text all ≡ (map line_text lines ++ text ∷ []) ++ more → GoesOn all lines text
goes_on [] [] text more fits others same = absurd cc
goes_on (line ∷ all) [] text more fits others same = record { line = line; rest = all; parts = refl; fits = fits.0; spelled = cc }
goes_on [] (other ∷ lines) text more fits others same = absurd cc
goes_on (line ∷ all) (other ∷ lines) text more fits others same =
    let first : line_text line ≡ line_text other = cc in
    let behind : map line_text all ≡ (map line_text lines ++ text ∷ []) ++ more = cc in
    let is = line_once line other fits.0 others.0 first in
    let next = goes_on all lines text more fits.1 others.1 behind in
    record { line = next.line; rest = next.rest; parts = rw (is, next.parts) refl; fits = next.fits; spelled = next.spelled }

-- what was read so far: these lines, this draft, and the text behind them
pub record IsReadTo (text : List ℕ) (draft : Draft) (rest : List ℕ) (count : ℕ) : Type 0 where
  pub lines : List Line
  pub fits : AllByRecursion FitsLine lines
  pub is_drafted : drafted blank lines ≡ Some draft
  pub read : IsRead draft lines
  pub counted : count ≡ length lines
  pub parts : text ≡ text_of_lines lines ++ rest

-- a prefix of the lines begins some run's text
begins_so : (text : List ℕ) (lines : List Line) (draft : Draft) (others : List (List ℕ)) → IsRead draft lines → lines_of text ≡ map line_text lines ++ others → Begins text (length lines)
begins_so text lines draft others read parts =
    let run = begins_run draft lines read in
    let front : take (length lines) (lines_of text) ≡ map line_text lines = ap (take (length lines)) parts ∙ take_at (map line_text lines) others (length lines) (length-map lines line_text) in
    (run.book, run.is_book, (map line_text run.more, rw front (sym (map-append line_text lines run.more)) ∙ ap (map line_text) run.lines_are))

-- a text has at least one line
some_line : (text : List ℕ) → 1 ≤ length (lines_of text)
some_line text = omega (arith, length-slice_split (λ byte. eqb byte 10) text)

-- the lines of a text whose next line ends
lines_of_parts : (text : List ℕ) (draft : Draft) (line behind : List ℕ) (count : ℕ) (read : IsReadTo text draft (line ++ 10 ∷ behind) count) → Lacks 10 line
    → lines_of text ≡ map line_text read.lines ++ line ∷ lines_of behind
lines_of_parts text draft line behind count read lacks =
    ap lines_of read.parts ∙ lines_parted read.lines (line ++ 10 ∷ behind) read.fits
    ∙ ap (λ (ls : List (List ℕ)). map line_text read.lines ++ ls) (parts_behind 10 line behind lacks)

-- no run's text goes on with a line that is read as none, or that may not stand there
none_begins : (text : List ℕ) (draft : Draft) (lines : List Line) (line : List ℕ) (others : List (List ℕ)) → AllByRecursion FitsLine lines → drafted blank lines ≡ Some draft
    → lines_of text ≡ map line_text lines ++ line ∷ others → (line_of line >>= λ found. added draft found) ≡ None → ¬ (Begins text (length lines + 1))
none_begins text draft lines line others fits is parts refused begins =
    let book = begins.0 in
    let is_book = begins.1 in
    let regrouped : lines_of text ≡ (map line_text lines ++ line ∷ []) ++ others = parts ∙ sym (append_assoc (map line_text lines) (line ∷ []) others) in
    let long : length (map line_text lines ++ line ∷ []) ≡ length lines + 1 = omega (arith, length-append (map line_text lines) (line ∷ []), length-map lines line_text) in
    let front : take (length lines + 1) (lines_of text) ≡ map line_text lines ++ line ∷ [] = ap (take (length lines + 1)) regrouped ∙ take_at (map line_text lines ++ line ∷ []) others (length lines + 1) long in
    let same = sym begins.2.1 ∙ ap (λ (ls : List (List ℕ)). ls ++ begins.2.0) front in
    let goes = goes_on (lines_of_book book) lines line begins.2.0 (run_fits book is_book) fits same in
    let all : drafted draft (goes.line ∷ goes.rest) ≡ Some (done_of book) =
    sym (chained blank draft lines (goes.line ∷ goes.rest) is) ∙ ap (drafted blank) (sym goes.parts) ∙ run_drafted book is_book in
    let read : line_of line ≡ Some goes.line = ap line_of (sym goes.spelled) ∙ line_again goes.line goes.fits in
    let none : added draft goes.line ≡ None = subst (λ (o : Option Line). (o >>= λ found. added draft found) ≡ None) read refused in
    let no : (None >>= λ n. drafted n goes.rest) ≡ Some (done_of book) = subst (λ (o : Option Draft). (o >>= λ n. drafted n goes.rest) ≡ Some (done_of book)) none all in
    none_is_some (done_of book) no
  where
    none_is_some : (d : Draft) → None ≡ Some d → ⊥
    none_is_some d e = absurd cc

-- the line that is refused is the first bad one
pub bad_line : (text : List ℕ) (draft : Draft) (line behind : List ℕ) (count : ℕ) → IsReadTo text draft (line ++ 10 ∷ behind) count → Lacks 10 line
    → (line_of line >>= λ found. added draft found) ≡ None → IsFirstBad text (count + 1)
bad_line text draft line behind count read lacks refused =
    let parts = lines_of_parts text draft line behind count read lacks in
    let long : length (lines_of text) ≡ length read.lines + 1 + length (lines_of behind) =
    ap length parts ∙ omega (arith, length-append (map line_text read.lines) (line ∷ lines_of behind), length-map read.lines line_text) in
    record {
      counted = omega arith;
      among = omega (arith, long, read.counted);
      before = subst (Begins text) (omega (arith, read.counted)) (begins_so text read.lines draft (line ∷ lines_of behind) read.read parts);
      bad = subst (λ (k : ℕ). k < length (lines_of text) → ¬ (Begins text k)) (omega (arith, read.counted)) (λ within. none_begins text draft read.lines line (lines_of behind) read.fits read.is_drafted parts refused);
      ended = λ last. absurd (omega (arith, last, long, read.counted, some_line behind));
    }

-- ---- the end of a text

snoc_once : {A : Type 0} (xs ys : List A) (x y : A) → xs ++ x ∷ [] ≡ ys ++ y ∷ [] → (xs ≡ ys) × (x ≡ y)
snoc_once [] [] x y same = (refl, cc)
snoc_once [] (b ∷ []) x y same = absurd cc
snoc_once [] (b ∷ c ∷ ys) x y same = absurd cc
snoc_once (a ∷ []) [] x y same = absurd cc
snoc_once (a ∷ b ∷ xs) [] x y same = absurd cc
snoc_once (a ∷ xs) (b ∷ ys) x y same =
    let first : a ≡ b = cc in
    let rest : xs ++ x ∷ [] ≡ ys ++ y ∷ [] = cc in
    let others = snoc_once xs ys x y rest in
    (rw (first, others.0) refl, others.1)

pub text_is : (lines : List Line) → flat_map (λ line. ended_line (line_text line)) lines ≡ text_of_lines lines
text_is [] = refl
text_is (line ∷ lines) =
    flat_map-cons (λ l. ended_line (line_text l)) line lines ∙ ap (λ (t : List ℕ). ended_line (line_text line) ++ t) (text_is lines) ∙ sym (flat_map-cons ended_line (line_text line) (map line_text lines))

-- the lines of a run's text: behind the last line feed nothing stands
run_lines : (book : Book) (text : List ℕ) → IsBook book → text ≡ text_of_book book → lines_of text ≡ map line_text (lines_of_book book) ++ [] ∷ []
run_lines book text is_book same =
    ap lines_of (same ∙ text_is (lines_of_book book) ∙ sym (append-nil (text_of_lines (lines_of_book book)))) ∙ lines_parted (lines_of_book book) [] (run_fits book is_book)

-- where lines are those of a run, it is the draft's
same_draft : (draft : Draft) (lines : List Line) (book : Book) → drafted blank lines ≡ Some draft → IsBook book → lines ≡ lines_of_book book → draft ≡ done_of book
same_draft draft lines book is is_book same = one draft (done_of book) (sym is ∙ ap (drafted blank) same ∙ run_drafted book is_book)

done_is_ended : (book : Book) → is_ended (done_of book) ≡ true
unfolding done_of
done_is_ended book = refl

never : false ≡ true → ⊥
never e = absurd cc

-- a text that ends too early, or behind whose last line feed bytes stand
pub bad_end : (text : List ℕ) (draft : Draft) (rest : List ℕ) (count : ℕ) → IsReadTo text draft rest count → Lacks 10 rest → (rest ≡ [] → is_ended draft ≡ false) → IsFirstBad text (count + 1)
bad_end text draft rest count read lacks unended =
    let alone : lines_of rest ≡ rest ∷ [] = one_part 10 rest lacks in
    let parts : lines_of text ≡ map line_text read.lines ++ rest ∷ [] =
    ap lines_of read.parts ∙ lines_parted read.lines rest read.fits ∙ ap (λ (ls : List (List ℕ)). map line_text read.lines ++ ls) alone in
    let long : length (lines_of text) ≡ length read.lines + 1 = ap length parts ∙ omega (arith, length-append (map line_text read.lines) (rest ∷ []), length-map read.lines line_text) in
    record {
      counted = omega arith;
      among = omega (arith, long, read.counted);
      before = subst (Begins text) (omega (arith, read.counted)) (begins_so text read.lines draft (rest ∷ []) read.read parts);
      bad = λ within. absurd (omega (arith, within, long, read.counted));
      ended = λ last book is_book same. no_text parts book is_book same;
    }
  where
    no_text : lines_of text ≡ map line_text read.lines ++ rest ∷ [] → (book : Book) → IsBook book → text ≢ text_of_book book
    no_text parts book is_book same =
        let both = snoc_once (map line_text read.lines) (map line_text (lines_of_book book)) rest [] (sym parts ∙ run_lines book text is_book same) in
        let lines = lines_once read.lines (lines_of_book book) read.fits (run_fits book is_book) both.0 in
        let draft_is = same_draft draft read.lines book read.is_drafted is_book lines in
        never (sym (unended both.1) ∙ ap is_ended draft_is ∙ done_is_ended book)

-- ---- the loop over the lines

pub read_start : (text : List ℕ) → IsReadTo text blank text 0
read_start text = record { lines = []; fits = tt; is_drafted = refl; read = blank_read; counted = refl; parts = refl }

text_push : (lines : List Line) (line : Line) → text_of_lines (lines ++ line ∷ []) ≡ text_of_lines lines ++ ended_line (line_text line)
text_push [] line = flat_map-cons ended_line (line_text line) [] ∙ append-nil (ended_line (line_text line))
text_push (first ∷ lines) line =
    flat_map-cons ended_line (line_text first) (map line_text (lines ++ line ∷ []))
    ∙ ap (λ (t : List ℕ). ended_line (line_text first) ++ t) (text_push lines line)
    ∙ sym (append_assoc (ended_line (line_text first)) (text_of_lines lines) (ended_line (line_text line)))
    ∙ ap (λ (t : List ℕ). t ++ ended_line (line_text line)) (sym (flat_map-cons ended_line (line_text first) (map line_text lines)))

pub read_next : (text : List ℕ) (draft next : Draft) (line : Line) (bytes behind : List ℕ) (count : ℕ) → IsReadTo text draft (bytes ++ 10 ∷ behind) count
    → bytes ≡ line_text line → FitsLine line → added draft line ≡ Some next → IsReadTo text next behind (count + 1)
read_next text draft next line bytes behind count read spelled fits is = record {
  lines = read.lines ++ line ∷ [];
  fits = push_all FitsLine read.lines line read.fits fits;
  is_drafted = chained blank draft read.lines (line ∷ []) read.is_drafted ∙ rw is refl;
  read = read_more draft next line read.lines fits is read.read;
  counted = omega (arith, read.counted, length-append read.lines (line ∷ []));
  parts =
      read.parts ∙ ap (λ (b : List ℕ). text_of_lines read.lines ++ (b ++ 10 ∷ behind)) spelled
      ∙ ap (λ (t : List ℕ). text_of_lines read.lines ++ t) (sym (append_assoc (line_text line) (10 ∷ []) behind))
      ∙ sym (append_assoc (text_of_lines read.lines) (ended_line (line_text line)) behind)
      ∙ ap (λ (t : List ℕ). t ++ behind) (sym (text_push read.lines line));
}

section_ended : (draft : Draft) → is_ended draft ≡ true → draft.section ≡ at.Ended
section_ended draft ended = by_section draft.section ended where
  by_section : (section : Section) → ended_at section ≡ true → section ≡ at.Ended
  by_section at.Nothing is = absurd cc
  by_section at.Headed is = absurd cc
  by_section at.Optioned is = absurd cc
  by_section at.Servers is = absurd cc
  by_section at.Domains is = absurd cc
  by_section at.Sources is = absurd cc
  by_section at.Entries is = absurd cc
  by_section at.Ended is = refl

-- a text that was read to its end
pub record IsReadWhole (text : List ℕ) (draft : Draft) : Type 0 where
  pub limits : HasLimits draft
  pub is_book : IsBook (book_of draft)
  pub spelled : text ≡ text_of_book (book_of draft)

pub read_whole : (text : List ℕ) (draft : Draft) (count : ℕ) → IsReadTo text draft [] count → is_ended draft ≡ true → IsReadWhole text draft
read_whole text draft count read ended =
    let whole = whole_read draft read.lines (section_ended draft ended) read.read in
    record {
      limits = whole.limits;
      is_book = whole.is_book;
      spelled = read.parts ∙ append-nil (text_of_lines read.lines) ∙ ap text_of_lines whole.lines_are ∙ sym (text_is (lines_of_book (book_of draft)));
    }

-- the same, as the loop has it
pub read_takes : (text : List ℕ) (draft next : Draft) (rest bytes behind : List ℕ) (count : ℕ) → IsReadTo text draft rest count → rest ≡ bytes ++ 10 ∷ behind → TakesLine bytes draft next
    → IsReadTo text next behind (count + 1)
read_takes text draft next rest bytes behind count read parts takes =
    read_next text draft next takes.0 bytes behind count (subst (λ (r : List ℕ). IsReadTo text draft r count) parts read) takes.1 takes.2 takes.3

pub read_refused : (text : List ℕ) (draft : Draft) (rest line behind : List ℕ) (count : ℕ) → IsReadTo text draft rest count → rest ≡ line ++ 10 ∷ behind → Lacks 10 line → TakesNone line draft
    → IsFirstBad text (count + 1)
read_refused text draft rest line behind count read parts lacks none =
    bad_line text draft line behind count (subst (λ (r : List ℕ). IsReadTo text draft r count) parts read) lacks none

-- bytes behind the last line feed
pub end_with_rest : (text : List ℕ) (draft : Draft) (rest : List ℕ) (count : ℕ) → IsReadTo text draft rest count → Lacks 10 rest → 0 < length rest → IsFirstBad text (count + 1)
end_with_rest text draft rest count read lacks more = bad_end text draft rest count read lacks (λ empty. absurd (omega (arith, more, ap length empty)))

-- a text that isn't ended
pub end_too_early : (text : List ℕ) (draft : Draft) (rest : List ℕ) (count : ℕ) → IsReadTo text draft rest count → Lacks 10 rest → is_ended draft ≡ false → IsFirstBad text (count + 1)
end_too_early text draft rest count read lacks unended = bad_end text draft rest count read lacks (λ empty. unended)

empty_rest : (rest : List ℕ) → length rest ≤ 0 → rest ≡ []
empty_rest [] none = refl
empty_rest (b ∷ rest) none = absurd (omega (arith, none))

through : (text : List ℕ) (draft : Draft) (rest : List ℕ) (count : ℕ) → IsReadTo text draft rest count → length rest ≤ 0 → is_ended draft ≡ true → IsReadWhole text draft
through text draft rest count read none ended = read_whole text draft count (subst (λ (r : List ℕ). IsReadTo text draft r count) (empty_rest rest none) read) ended

pub read_limits : (text : List ℕ) (draft : Draft) (rest : List ℕ) (count : ℕ) → IsReadTo text draft rest count → length rest ≤ 0 → is_ended draft ≡ true → HasLimits draft
read_limits text draft rest count read none ended = (through text draft rest count read none ended).limits

pub text_read : (text : List ℕ) (draft : Draft) (rest : List ℕ) (count : ℕ) (book : Book) → IsShort text → IsReadTo text draft rest count → length rest ≤ 0 → is_ended draft ≡ true → book ≡ book_of draft → IsTextOf text book
text_read text draft rest count book short read none ended is =
    let whole = through text draft rest count read none ended in
    rw is (record { short = short; is_book = whole.is_book; spelled = whole.spelled })

-- ---- texts and runs, one to one

pub texts_once : (a b : Book) → IsBook a → IsBook b → text_of_book a ≡ text_of_book b → a ≡ b
texts_once a b fits others same =
    let lines_a = run_lines a (text_of_book a) fits refl in
    let lines_b = run_lines b (text_of_book a) others same in
    let texts = (snoc_once (map line_text (lines_of_book a)) (map line_text (lines_of_book b)) [] [] (sym lines_a ∙ lines_b)).0 in
    let lines = lines_once (lines_of_book a) (lines_of_book b) (run_fits a fits) (run_fits b others) texts in
    let drafts : done_of a ≡ done_of b = one (done_of a) (done_of b) (sym (run_drafted a fits) ∙ ap (drafted blank) lines ∙ run_drafted b others) in
    sym (done_book a) ∙ ap book_of drafts ∙ done_book b

-- ---- what is printed is read

cases_le : (a b : ℕ) → a ≤ b → (a < b) ⊎ (a ≡ b)
cases_le a b le = elim (cases_lt a b) [
  | inl lt ↦ inl lt
  | inr ge ↦ inr (omega (arith, le, ge))
]

-- a run's text has no bad line
none_bad : (text : List ℕ) (line : ℕ) (book : Book) → IsFirstBad text line → IsBook book → text ≡ text_of_book book → ⊥
none_bad text line book bad is_book same = elim (cases_le line (length (lines_of text)) bad.among) [
  | inl within ↦ bad.bad within (begins within)
  | inr last ↦ bad.ended last book is_book same
] where
  begins : line < length (lines_of text) → Begins text line
  begins within =
      let lines = run_lines book text is_book same in
      let few : line ≤ length (map line_text (lines_of_book book)) = omega (arith, within, ap length lines, length-append (map line_text (lines_of_book book)) ([] ∷ [])) in
      let front : take line (lines_of text) ≡ take line (map line_text (lines_of_book book)) = ap (take line) lines ∙ take-append-le line (map line_text (lines_of_book book)) ([] ∷ []) few in
      (book, is_book, (drop line (map line_text (lines_of_book book)), rw front (take-append-drop line (map line_text (lines_of_book book)))))

pub read_back : (book : Book) (result : Result Book BookFault) → IsBook book → length (text_of_book book) ≤ 16777216 → length book.journal ≤ 4096 → length book.hosts ≤ 4194304
    → IfOk result (IsReadAs (text_of_book book)) → IfErr result (HasCause (text_of_book book)) → (result ≡ Ok book) ⊎ (result ≡ Err NoMemory)
read_back book (Ok found) is_book short few small read fault =
    inl (ap (λ (b : Book). Ok b) (texts_once found book read.of_text.is_book is_book (sym read.of_text.spelled)))
read_back book (Err TooLarge) is_book short few small read fault = absurd (omega (arith, short, fault))
read_back book (Err (BadLine line)) is_book short few small read fault = absurd (none_bad (text_of_book book) line book fault.1 is_book refl)
read_back book (Err TooMany) is_book short few small read fault =
    let same = texts_once fault.0 book fault.1.is_book is_book (sym fault.1.spelled) in
    absurd (omega (arith, few, subst (λ (b : Book). 4096 < length b.journal) same fault.2))
read_back book (Err BadHosts) is_book short few small read fault =
    let same = texts_once fault.0 book fault.1.is_book is_book (sym fault.1.spelled) in
    absurd (omega (arith, small, subst (λ (b : Book). 4194304 < length b.hosts) same fault.3))
read_back book (Err NoMemory) is_book short few small read fault = inr refl
