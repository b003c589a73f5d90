-- The lines of a run may all stand where they do.
use Rattle.std.proofs.Common.{◌≡◌, ℕ, ◌+◌, ◌<◌, ◌≤◌, Bool, true, false, cond, ltb, List, [], ◌∷◌, ◌++◌, length, map, Option, Some, None, refl, sym, ap, subst, ◌∙◌, append_assoc, arith}
use Rattle.std.specs.List.{AllByRecursion}
use Rattle.std.proofs.lemmas.Bool.{lt-ltb}
use Rattle.std.proofs.lemmas.List.{append-nil, length-append}
use Rattle.net_addr.specs.Addr.{IsAddr}
use Rattle.net_addr.specs.declared.addr.Addr.{Addr}
use Rattle.net_addr.specs.declared.addr.ServerAddr.{ServerAddr}
use Rattle.chan_types.specs.declared.journal.Entry.{Entry}
use Rattle.journal_text.specs.declared.book.Book.{Book}
use Rattle.journal_text.specs.declared.draft.Draft.{Draft}
use Rattle.journal_text.specs.declared.draft.Section.{Section}
use Rattle.journal_text.specs.declared.draft.Section.TheVariants as at
use Rattle.journal_text.specs.declared.line.OptionLine.{OptionLine}
use Rattle.journal_text.specs.declared.line.Line.{Line}
use Rattle.journal_text.specs.declared.line.Line.TheVariants.{Head, Set, Server, Domain, Source, Hosts, Event, End}
use Rattle.journal_text.specs.Reads.{◌>>=◌}
use Rattle.journal_text.specs.Settings.{line_of_options}
use Rattle.journal_text.specs.BookText.{lines_of_book}
use Rattle.journal_text.specs.Fits.{FitsServer, FitsName, FitsEntry, FitsOptionLine, FitsLine, IsBook}
use Rattle.journal_text.specs.Drafts.{plain_line, blank, section_behind, has_room, with_line, moved, added, drafted, book_of}
use Rattle.journal_text.proofs.DraftLemmas.{chained}

-- a draft of these values
abbrev pub draft_at : Section → OptionLine → List ServerAddr → List (List (List ℕ)) → List Addr → List ℕ → List Entry → Draft
draft_at section line servers domains sources hosts entries = record {
  section = section;
  line = line;
  servers = servers;
  domains = domains;
  sources = sources;
  hosts = hosts;
  entries = entries;
}

servers_on : (line : OptionLine) (before servers : List ServerAddr) → length before + length servers ≤ 8
    → drafted (draft_at at.Servers line before [] [] [] []) (map Server servers) ≡ Some (draft_at at.Servers line (before ++ servers) [] [] [] [])
servers_on line before [] few = rw (append-nil before) refl
servers_on line before (server ∷ servers) few =
    rw (lt-ltb (length before) 8 (omega (arith, few)))
    (servers_on line (before ++ server ∷ []) servers (omega (arith, few, length-append before (server ∷ [])))
    ∙ ap (λ (all : List ServerAddr). Some (draft_at at.Servers line all [] [] [] [])) (append_assoc before (server ∷ []) servers))

servers_drafted : (line : OptionLine) (servers : List ServerAddr) → 1 ≤ length servers → length servers ≤ 8
    → drafted (draft_at at.Optioned line [] [] [] [] []) (map Server servers) ≡ Some (draft_at at.Servers line servers [] [] [] [])
servers_drafted line [] some few = absurd (omega (arith, some))
servers_drafted line (server ∷ servers) some few = servers_on line (server ∷ []) servers (omega (arith, few))

-- where domains may stand, where sources may, and where the hosts file may
record BeforeDomains (section : Section) : Type 0 where
  domain : (name : List (List ℕ)) → section_behind section (Domain name) ≡ Some at.Domains
  source : (address : Addr) → section_behind section (Source address) ≡ Some at.Sources
  hosts : (bytes : List ℕ) → section_behind section (Hosts bytes) ≡ Some at.Entries

record BeforeSources (section : Section) : Type 0 where
  source : (address : Addr) → section_behind section (Source address) ≡ Some at.Sources
  hosts : (bytes : List ℕ) → section_behind section (Hosts bytes) ≡ Some at.Entries

servers_then : BeforeDomains at.Servers
servers_then = record { domain = λ n. refl; source = λ a. refl; hosts = λ b. refl }

domains_then : BeforeDomains at.Domains
domains_then = record { domain = λ n. refl; source = λ a. refl; hosts = λ b. refl }

sources_then : BeforeSources at.Sources
sources_then = record { source = λ a. refl; hosts = λ b. refl }

record DomainsOn (line : OptionLine) (servers : List ServerAddr) (section : Section) (before domains : List (List (List ℕ))) : Type 0 where
  next : Section
  then : BeforeDomains next
  is : drafted (draft_at section line servers before [] [] []) (map Domain domains) ≡ Some (draft_at next line servers (before ++ domains) [] [] [])

domains_on : (line : OptionLine) (servers : List ServerAddr) (section : Section) (before domains : List (List (List ℕ))) → BeforeDomains section → length before + length domains ≤ 8
    → DomainsOn line servers section before domains
domains_on line servers section before [] then few = record { next = section; then = then; is = rw (append-nil before) refl }
domains_on line servers section before (name ∷ domains) then few =
    let others = domains_on line servers at.Domains (before ++ name ∷ []) domains domains_then (omega (arith, few, length-append before (name ∷ []))) in
    record {
      next = others.next;
      then = others.then;
      is = rw (lt-ltb (length before) 8 (omega (arith, few)), then.domain name)
          (others.is ∙ ap (λ (all : List (List (List ℕ))). Some (draft_at others.next line servers all [] [] [])) (append_assoc before (name ∷ []) domains));
    }

record SourcesOn (line : OptionLine) (servers : List ServerAddr) (domains : List (List (List ℕ))) (section : Section) (before sources : List Addr) : Type 0 where
  next : Section
  then : BeforeSources next
  is : drafted (draft_at section line servers domains before [] []) (map Source sources) ≡ Some (draft_at next line servers domains (before ++ sources) [] [])

sources_on : (line : OptionLine) (servers : List ServerAddr) (domains : List (List (List ℕ))) (section : Section) (before sources : List Addr) → BeforeSources section → length before + length sources ≤ 8
    → SourcesOn line servers domains section before sources
sources_on line servers domains section before [] then few = record { next = section; then = then; is = rw (append-nil before) refl }
sources_on line servers domains section before (address ∷ sources) then few =
    let others = sources_on line servers domains at.Sources (before ++ address ∷ []) sources sources_then (omega (arith, few, length-append before (address ∷ []))) in
    record {
      next = others.next;
      then = others.then;
      is = rw (lt-ltb (length before) 8 (omega (arith, few)), then.source address)
          (others.is ∙ ap (λ (all : List Addr). Some (draft_at others.next line servers domains all [] [])) (append_assoc before (address ∷ []) sources));
    }

entries_on : (line : OptionLine) (servers : List ServerAddr) (domains : List (List (List ℕ))) (sources : List Addr) (hosts : List ℕ) (before entries : List Entry)
    → drafted (draft_at at.Entries line servers domains sources hosts before) (map Event entries) ≡ Some (draft_at at.Entries line servers domains sources hosts (before ++ entries))
entries_on line servers domains sources hosts before [] = rw (append-nil before) refl
entries_on line servers domains sources hosts before (entry ∷ entries) =
    entries_on line servers domains sources hosts (before ++ entry ∷ []) entries
    ∙ ap (λ (all : List Entry). Some (draft_at at.Entries line servers domains sources hosts all)) (append_assoc before (entry ∷ []) entries)

-- the draft of a run's lines
unfoldable pub done_of : Book → Draft
done_of book = draft_at at.Ended (line_of_options book.options) book.options.servers book.options.domains book.options.sources book.hosts book.journal

pub done_ended : (book : Book) → (done_of book).section ≡ at.Ended
unfolding done_of
done_ended book = refl

pub done_book : (book : Book) → book_of (done_of book) ≡ book
unfolding done_of
done_book book = refl

-- lists one after another, grouped to the right
grouped : (a b c d e f : List Line) → a ++ b ++ c ++ d ++ e ++ f ≡ a ++ (b ++ (c ++ (d ++ (e ++ f))))
grouped a b c d e f = append_assoc (a ++ b ++ c ++ d) e f ∙ append_assoc (a ++ b ++ c) d (e ++ f) ∙ append_assoc (a ++ b) c (d ++ (e ++ f)) ∙ append_assoc a b (c ++ (d ++ (e ++ f)))

-- the lines of a run are read to their end
pub run_drafted : (book : Book) → IsBook book → drafted blank (lines_of_book book) ≡ Some (done_of book)
unfolding done_of
run_drafted book fits =
    let line = line_of_options book.options in
    let servers = book.options.servers in
    let domains = book.options.domains in
    let sources = book.options.sources in
    let one = servers_drafted line servers fits.limits.some_server fits.limits.few_servers in
    let two = domains_on line servers at.Servers [] domains servers_then (omega (arith, fits.limits.few_domains)) in
    let before : BeforeSources two.next = record { source = two.then.source; hosts = two.then.hosts } in
    let three = sources_on line servers domains two.next [] sources before (omega (arith, fits.limits.few_sources)) in
    let four = entries_on line servers domains sources book.hosts [] book.journal in
    ap (λ (ls : List Line). drafted blank (Head ∷ Set line ∷ ls)) (grouped (map Server servers) (map Domain domains) (map Source sources) (Hosts book.hosts ∷ []) (map Event book.journal) (End ∷ []))
    ∙ chained (draft_at at.Optioned line [] [] [] [] []) (draft_at at.Servers line servers [] [] [] []) (map Server servers) (map Domain domains ++ (map Source sources ++ (Hosts book.hosts ∷ (map Event book.journal ++ End ∷ [])))) one
    ∙ chained (draft_at at.Servers line servers [] [] [] []) (draft_at two.next line servers domains [] [] []) (map Domain domains) (map Source sources ++ (Hosts book.hosts ∷ (map Event book.journal ++ End ∷ []))) two.is
    ∙ chained (draft_at two.next line servers domains [] [] []) (draft_at three.next line servers domains sources [] []) (map Source sources) (Hosts book.hosts ∷ (map Event book.journal ++ End ∷ [])) three.is
    ∙ rw (three.then.hosts book.hosts)
    (chained (draft_at at.Entries line servers domains sources book.hosts []) (draft_at at.Entries line servers domains sources book.hosts book.journal) (map Event book.journal) (End ∷ []) four)

-- ---- its lines fit

map_all : {A : Type 0} (P : A → Type 0) (line : A → Line) (fits : (item : A) → P item → FitsLine (line item)) (items : List A) → AllByRecursion P items → AllByRecursion FitsLine (map line items)
map_all P line fits [] all = tt
map_all P line fits (item ∷ items) all = (fits item all.0, map_all P line fits items all.1)

pub append_all : (lines more : List Line) → AllByRecursion FitsLine lines → AllByRecursion FitsLine more → AllByRecursion FitsLine (lines ++ more)
append_all [] more fits others = others
append_all (line ∷ lines) more fits others = (fits.0, append_all lines more fits.1 others)

pub run_fits : (book : Book) → IsBook book → AllByRecursion FitsLine (lines_of_book book)
run_fits book fits =
    let numbers : FitsOptionLine (line_of_options book.options) = record {
      some_wait = fits.limits.some_wait;
      short_wait = fits.limits.short_wait;
      some_try = fits.limits.some_try;
      few_tries = fits.limits.few_tries;
      few_dots = fits.limits.few_dots;
      short_waits = fits.limits.short_waits;
      plain_reply_fits = fits.limits.plain_reply_fits;
      size_is_one = fits.limits.size_is_one;
    } in
    let a = map_all FitsServer Server (λ item f. f) book.options.servers fits.servers in
    let b = map_all FitsName Domain (λ item f. f) book.options.domains fits.domains in
    let c = map_all IsAddr Source (λ item f. f) book.options.sources fits.sources in
    let e = map_all FitsEntry Event (λ item f. f) book.journal fits.entries in
    let servers = map Server book.options.servers in
    let domains = map Domain book.options.domains in
    let sources = map Source book.options.sources in
    let entries = map Event book.journal in (
      tt,
      (
        numbers,
        append_all (servers ++ domains ++ sources ++ Hosts book.hosts ∷ [] ++ entries) (End ∷ [])
            (append_all (servers ++ domains ++ sources ++ Hosts book.hosts ∷ []) entries
            (append_all (servers ++ domains ++ sources) (Hosts book.hosts ∷ [])
            (append_all (servers ++ domains) sources (append_all servers domains a b) c) (fits.hosts_bytes, tt)) e) (tt, tt),
      ),
    )
