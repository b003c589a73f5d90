-- The text of a run, part by part.
use Rattle.std.proofs.Common.{◌≡◌, ℕ, List, [], ◌∷◌, ◌++◌, map, refl, sym, ap, ◌∙◌, append_assoc}
use Rattle.std.specs.List.{flat_map}
use Rattle.std.proofs.lemmas.List.{append-nil}
use Rattle.std.proofs.lemmas.List.Concat.{flat_map-append}
use Rattle.journal_text.specs.declared.book.Book.{Book}
use Rattle.journal_text.specs.declared.line.Line.{Line}
use Rattle.journal_text.specs.declared.line.Line.TheVariants.{Head, Set, Server, Domain, Source, Hosts, Event, End}
use Rattle.journal_text.specs.Settings.{line_of_options}
use Rattle.journal_text.specs.Lines.{line_text, ended_line}
use Rattle.journal_text.specs.BookText.{lines_of_book, lines_text, text_of_book}

abbrev text_of : List Line → List ℕ
text_of lines = flat_map (λ line. ended_line (line_text line)) lines

items_text : {A : Type 0} (line : A → Line) (items : List A) → text_of (map line items) ≡ lines_text line items
items_text line [] = refl
items_text line (item ∷ items) = ap (λ (text : List ℕ). ended_line (line_text (line item)) ++ text) (items_text line items)

two : (lines others : List Line) → text_of (lines ++ others) ≡ text_of lines ++ text_of others
two lines others = flat_map-append (λ line. ended_line (line_text line)) lines others

-- one more part of a text
part : (lines more : List Line) (text other : List ℕ) → text_of lines ≡ text → text_of more ≡ other → text_of (lines ++ more) ≡ text ++ other
part lines more text other is also = two lines more ∙ ap (λ (t : List ℕ). t ++ text_of more) is ∙ ap (λ (t : List ℕ). text ++ t) also

only : (line : Line) → text_of (line ∷ []) ≡ ended_line (line_text line)
only line = append-nil (ended_line (line_text line))

-- what is printed one part after the other is the text
pub text_printed : (book : Book) (t0 t1 t2 t3 t4 t5 t6 t7 t8 : List ℕ) → t0 ≡ [] → t1 ≡ t0 ++ ended_line (line_text Head) → t2 ≡ t1 ++ ended_line (line_text (Set (line_of_options book.options)))
    → t3 ≡ t2 ++ lines_text Server book.options.servers → t4 ≡ t3 ++ lines_text Domain book.options.domains → t5 ≡ t4 ++ lines_text Source book.options.sources
    → t6 ≡ t5 ++ ended_line (line_text (Hosts book.hosts)) → t7 ≡ t6 ++ lines_text Event book.journal → t8 ≡ t7 ++ ended_line (line_text End) → t8 ≡ text_of_book book
text_printed book t0 t1 t2 t3 t4 t5 t6 t7 t8 e0 e1 e2 e3 e4 e5 e6 e7 e8 =
    let head = Head ∷ Set (line_of_options book.options) ∷ [] in
    let servers = map Server book.options.servers in
    let domains = map Domain book.options.domains in
    let sources = map Source book.options.sources in
    let entries = map Event book.journal in
    let p1 : t1 ≡ ended_line (line_text Head) = e1 ∙ ap (λ (t : List ℕ). t ++ ended_line (line_text Head)) e0 in
    let p2 : text_of head ≡ t2 = ap (λ (t : List ℕ). ended_line (line_text Head) ++ t) (only (Set (line_of_options book.options))) ∙ ap (λ (t : List ℕ). t ++ ended_line (line_text (Set (line_of_options book.options)))) (sym p1) ∙ sym e2 in
    let p3 : text_of (head ++ servers) ≡ t3 = part head servers t2 (lines_text Server book.options.servers) p2 (items_text Server book.options.servers) ∙ sym e3 in
    let p4 : text_of (head ++ servers ++ domains) ≡ t4 = part (head ++ servers) domains t3 (lines_text Domain book.options.domains) p3 (items_text Domain book.options.domains) ∙ sym e4 in
    let p5 : text_of (head ++ servers ++ domains ++ sources) ≡ t5 = part (head ++ servers ++ domains) sources t4 (lines_text Source book.options.sources) p4 (items_text Source book.options.sources) ∙ sym e5 in
    let p6 : text_of (head ++ servers ++ domains ++ sources ++ Hosts book.hosts ∷ []) ≡ t6 = part (head ++ servers ++ domains ++ sources) (Hosts book.hosts ∷ []) t5 (ended_line (line_text (Hosts book.hosts))) p5 (only (Hosts book.hosts)) ∙ sym e6 in
    let p7 : text_of (head ++ servers ++ domains ++ sources ++ Hosts book.hosts ∷ [] ++ entries) ≡ t7 = part (head ++ servers ++ domains ++ sources ++ Hosts book.hosts ∷ []) entries t6 (lines_text Event book.journal) p6 (items_text Event book.journal) ∙ sym e7 in
    let p8 : text_of (head ++ servers ++ domains ++ sources ++ Hosts book.hosts ∷ [] ++ entries ++ End ∷ []) ≡ t8 = part (head ++ servers ++ domains ++ sources ++ Hosts book.hosts ∷ [] ++ entries) (End ∷ []) t7 (ended_line (line_text End)) p7 (only End) ∙ sym e8 in
    sym p8
