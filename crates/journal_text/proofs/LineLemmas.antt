-- A line is read off its text.
use Rattle.std.proofs.Common.{◌≡◌, ℕ, ◌+◌, ◌<◌, ◌≤◌, ◌^◌, Bool, true, false, cond, leb, List, [], ◌∷◌, ◌++◌, All, Option, Some, None, refl, sym, ap, ◌∙◌, arith}
use Rattle.std.specs.Prelude.{decimal, codes, flat_map, bytes_eq}
use Rattle.std.specs.List.{AllByRecursion}
use Rattle.std.proofs.lemmas.Bool.{le-leb}
use Rattle.chan_types.specs.declared.spec.Spec.{Spec}
use Rattle.chan_types.specs.declared.spec.Spec.TheVariants.{Query, Search, Address, Reverse}
use Rattle.chan_types.specs.declared.journal.Entry.{Entry}
use Rattle.chan_types.specs.declared.journal.What.{What}
use Rattle.chan_types.specs.declared.journal.What.TheVariants.{Accept, Cancel, Destroy, Take, Start, Arrive, Expire, Fault, Servers}
use Rattle.chan_types.specs.declared.server_key.ServerKey.{ServerKey}
use Rattle.chan_types.specs.declared.orders.When.{When}
use Rattle.chan_types.specs.declared.orders.When.TheVariants as when
use Rattle.chan_types.specs.declared.orders.Need.{Need}
use Rattle.chan_types.specs.declared.orders.Need.TheVariants as need
use Rattle.chan_types.specs.Plans.{Plan, Moves, Deed, stop, step, ask, reverse, cancel, destroy}
use Rattle.net_addr.specs.declared.addr.Family.{Family}
use Rattle.net_addr.specs.declared.addr.Family.TheVariants.{Any, V4, V6}
use Rattle.net_addr.specs.Text.{text_of as address_text}
use Rattle.resolv_options.specs.declared.lookups.Lookups.{Lookups}
use Rattle.resolv_options.specs.declared.lookups.Lookups.TheVariants.{FilesDns, Dns, Files}
use Rattle.journal_text.specs.declared.line.OptionLine.{OptionLine}
use Rattle.journal_text.specs.declared.line.Line.{Line}
use Rattle.journal_text.specs.declared.line.Line.TheVariants.{Head, Set, Server, Domain, Source, Hosts, Event, End}
use Rattle.journal_text.specs.Words.{Word, joined, flags_word, truth_number, family_number, lookups_number, when_number, need_number}
use Rattle.journal_text.specs.Requests.{spec_words}
use Rattle.journal_text.specs.Scripts.{script_words, deed_words, moves_words, plan_words}
use Rattle.journal_text.specs.Entries.{entry_words, what_words, key_words}
use Rattle.journal_text.specs.Settings.{option_words}
use Rattle.journal_text.specs.Lines.{line_words, line_text}
use Rattle.journal_text.specs.Fits.{FitsSpec, FitsDeed, FitsMoves, FitsPlan, FitsKey, FitsWhat, FitsEntry, FitsOptionLine, FitsLine, Fits64}
use Rattle.journal_text.specs.LineReading.{words_of, within_limits, option_from, set_from, head_from, server_from, domain_from, source_from, hosts_from, event_from, keyed_from, begins_with_digit, line_from, whole, line_of}
use Rattle.journal_text.proofs.DigitLemmas.{decimal_begins}
use Rattle.journal_text.proofs.AtomLemmas.{number_again, truth_again, bytes_again, address_again, name_again, flags_again, lookups_again}
use Rattle.journal_text.proofs.EntryLemmas.{entry_again, server_addr_again}
use Rattle.journal_text.proofs.DarkLemmas.{IsDark, AreDark, dark_decimal, dark_bytes, dark_mix, dark_address, dark_name, dark_flags, dark_word}
use Rattle.std.proofs.lemmas.List.{append-nil}
use Rattle.journal_text.proofs.WordsLemmas.{words_again, joined_again}

-- ---- words of a line are read as the line

within_again : (line : OptionLine) (words : List Word) → FitsOptionLine line → within_limits line words ≡ Some (line, words)
within_again line words fits = rw (le-leb 1 line.timeout fits.some_wait, le-leb 1 line.tries fits.some_try, le-leb 512 line.edns_size fits.plain_reply_fits) refl

option_again : (line : OptionLine) (rest : List Word) → FitsOptionLine line → option_from
    (decimal line.timeout ∷ decimal line.tries ∷ decimal line.ndots ∷ decimal line.max_timeout ∷ flags_word line.flags
    ∷ decimal (truth_number line.rotate) ∷ decimal (lookups_number line.lookups) ∷ decimal line.edns_size ∷ rest) ≡ Some (line, rest)
unfolding option_from
option_again line rest fits =
    rw (
      number_again 60000 line.timeout _ fits.short_wait (omega (arith, fits.short_wait)),
      number_again 10 line.tries _ fits.few_tries (omega (arith, fits.few_tries)),
      number_again 15 line.ndots _ fits.few_dots (omega (arith, fits.few_dots)),
      number_again 3600000 line.max_timeout _ fits.short_waits (omega (arith, fits.short_waits)),
      flags_again line.flags _,
      truth_again line.rotate _,
      lookups_again line.lookups _,
      number_again 65535 line.edns_size rest fits.size_is_one (omega (arith, fits.size_is_one)),
      within_again line rest fits,
    ) refl

begins_again : (n : ℕ) → n < 2 ^ 64 → begins_with_digit (decimal n) ≡ true
begins_again n small = let begins = decimal_begins n small in rw begins.parts begins.is_digit

line_from_again : (line : Line) → FitsLine line → line_from (line_words line) ≡ Some (line, [])
unfolding line_from keyed_from set_from head_from server_from domain_from source_from hosts_from event_from
line_from_again Head fits = refl
line_from_again (Set line) fits = rw (option_again line [] fits) refl
line_from_again (Server server) fits = rw (server_addr_again server [] fits) refl
line_from_again (Domain name) fits = rw (name_again name [] fits) refl
line_from_again (Source address) fits = rw (address_again address [] fits) refl
line_from_again (Hosts bytes) fits = rw (bytes_again bytes [] fits) refl
line_from_again (Event entry) fits = rw (begins_again entry.seat fits.seat_fits, entry_again entry fits) refl
line_from_again End fits = refl

-- ---- words of a line are dark

dark_append : (words others : List Word) → AllByRecursion AreDark words → AllByRecursion AreDark others → AllByRecursion AreDark (words ++ others)
dark_append [] others dark more = more
dark_append (word ∷ words) others dark more = (dark.0, dark_append words others dark.1 more)

truth_small : (truth : Bool) → truth_number truth < 2 ^ 64
truth_small true = omega arith
truth_small false = omega arith

family_small : (family : Family) → family_number family < 2 ^ 64
family_small Any = omega arith
family_small V4 = omega arith
family_small V6 = omega arith

lookups_small : (lookups : Lookups) → lookups_number lookups < 2 ^ 64
lookups_small FilesDns = omega arith
lookups_small Dns = omega arith
lookups_small Files = omega arith

when_small : (w : When) → when_number w < 2 ^ 64
when_small when.Always = omega arith
when_small when.Good = omega arith
when_small when.Bad = omega arith

need_small : (n : Need) → need_number n < 2 ^ 64
need_small need.Nothing = omega arith
need_small need.Follow = omega arith
need_small need.First = omega arith
need_small need.Quit = omega arith

dark_spec : (spec : Spec) → FitsSpec spec → AllByRecursion AreDark (spec_words spec)
dark_spec (Query name kind class) fits =
    (dark_word (codes "q") refl, (dark_bytes name fits.0, (dark_decimal kind (omega (arith, fits.1)), (dark_decimal class (omega (arith, fits.2)), tt))))
dark_spec (Search name kind class) fits =
    (dark_word (codes "s") refl, (dark_bytes name fits.0, (dark_decimal kind (omega (arith, fits.1)), (dark_decimal class (omega (arith, fits.2)), tt))))
dark_spec (Address host family nosort) fits =
    (dark_word (codes "a") refl, (dark_bytes host fits, (dark_decimal (family_number family) (family_small family), (dark_decimal (truth_number nosort) (truth_small nosort), tt))))
dark_spec (Reverse address) fits = (dark_word (codes "r") refl, (dark_address address fits, tt))

dark_script : (tag : ℕ) (steps : List Word) → Fits64 tag → AllByRecursion AreDark steps → AllByRecursion AreDark (script_words tag steps)
dark_script tag steps small dark =
    (dark_word (codes "(") refl, (dark_decimal tag small, dark_append steps (codes ")" ∷ []) dark (dark_word (codes ")") refl, tt)))

dark_deed : (deed : Deed) (inside : Moves) (words : List Word) → FitsDeed deed inside → AllByRecursion AreDark words → AllByRecursion AreDark (deed_words deed words)
dark_deed (ask spec tag) inside words fits dark =
    (dark_word (codes "ask") refl, dark_append (spec_words spec) (script_words tag words) (dark_spec spec fits.0) (dark_script tag words fits.1 dark))
dark_deed (reverse tag) inside words fits dark = (dark_word (codes "rev") refl, dark_script tag words fits dark)
dark_deed cancel inside words fits dark = (dark_word (codes "cancel") refl, tt)
dark_deed destroy inside words fits dark = (dark_word (codes "destroy") refl, tt)

dark_moves : (moves : Moves) → FitsMoves moves → AllByRecursion AreDark (moves_words moves)
dark_moves stop fits = tt
dark_moves (step w n deed inside rest) fits = (
  dark_decimal (when_number w) (when_small w),
  (
    dark_decimal (need_number n) (need_small n),
    dark_append (deed_words deed (moves_words inside)) (moves_words rest) (dark_deed deed inside (moves_words inside) fits.0 (dark_moves inside fits.2)) (dark_moves rest fits.3),
  ),
)

dark_keys : (list : List ServerKey) → AllByRecursion FitsKey list → AllByRecursion AreDark (flat_map key_words list)
dark_keys [] fits = tt
dark_keys (server ∷ list) fits =
    (dark_decimal server.key (omega (arith, fits.0.0)), (dark_address server.address.address fits.0.1.0, (dark_decimal server.address.port (omega (arith, fits.0.1.1)), dark_keys list fits.1)))

dark_what : (what : What) → FitsWhat what → AllByRecursion AreDark (what_words what)
dark_what (Accept number spec script) fits = (
  dark_word (codes "accept") refl,
  (
    dark_decimal number fits.0,
    dark_append (spec_words spec) (plan_words script) (dark_spec spec fits.1) (dark_script script.tag (moves_words script.moves) fits.2.tag_fits (dark_moves script.moves fits.2.steps)),
  ),
)
dark_what Cancel fits = (dark_word (codes "cancel") refl, tt)
dark_what Destroy fits = (dark_word (codes "destroy") refl, tt)
dark_what (Take number) fits = (dark_word (codes "take") refl, (dark_decimal number fits, tt))
dark_what (Start number leg server link id mix moment) fits = (
  dark_word (codes "start") refl,
  (
    dark_decimal number fits.0,
    (
      dark_decimal leg (omega (arith, fits.1)),
      (
        dark_decimal server (omega (arith, fits.2)),
        (dark_decimal link fits.3, (dark_decimal id (omega (arith, fits.4)), (dark_mix mix fits.5, (dark_decimal moment fits.6, tt)))),
      ),
    ),
  ),
)
dark_what (Arrive server link bytes) fits =
    (dark_word (codes "arrive") refl, (dark_decimal server (omega (arith, fits.0)), (dark_decimal link fits.1, (dark_bytes bytes fits.2, tt))))
dark_what (Expire number leg moment) fits =
    (dark_word (codes "expire") refl, (dark_decimal number fits.0, (dark_decimal leg (omega (arith, fits.1)), (dark_decimal moment fits.2, tt))))
dark_what (Fault server link moment) fits =
    (dark_word (codes "fault") refl, (dark_decimal server (omega (arith, fits.0)), (dark_decimal link fits.1, (dark_decimal moment fits.2, tt))))
dark_what (Servers list) fits =
    (dark_word (codes "servers") refl, dark_keys list fits)

pub dark_line : (line : Line) → FitsLine line → AllByRecursion AreDark (line_words line)
dark_line Head fits = (dark_word (codes "journal") refl, (dark_word (codes "1") refl, tt))
dark_line (Set line) fits = (
  dark_word (codes "option") refl,
  (
    dark_decimal line.timeout (omega (arith, fits.short_wait)),
    (
      dark_decimal line.tries (omega (arith, fits.few_tries)),
      (
        dark_decimal line.ndots (omega (arith, fits.few_dots)),
        (
          dark_decimal line.max_timeout (omega (arith, fits.short_waits)),
          (dark_flags line.flags, (dark_decimal (truth_number line.rotate) (truth_small line.rotate), (dark_decimal (lookups_number line.lookups) (lookups_small line.lookups), (dark_decimal line.edns_size (omega (arith, fits.size_is_one)), tt)))),
        ),
      ),
    ),
  ),
)
dark_line (Server server) fits =
    (dark_word (codes "server") refl, (dark_address server.address fits.0, (dark_decimal server.port (omega (arith, fits.1)), tt)))
dark_line (Domain name) fits = (dark_word (codes "domain") refl, (dark_name name fits, tt))
dark_line (Source address) fits = (dark_word (codes "source") refl, (dark_address address fits, tt))
dark_line (Hosts bytes) fits = (dark_word (codes "hosts") refl, (dark_bytes bytes fits, tt))
dark_line (Event entry) fits = (dark_decimal entry.seat fits.seat_fits, (dark_decimal entry.by fits.by_fits, dark_what entry.what fits.what_fits))
dark_line End fits = (dark_word (codes "end") refl, tt)

-- ---- the line

parted : (words : List Word) (line : Line) → AllByRecursion AreDark words → line_from words ≡ Some (line, []) → whole (line_from (words_of (joined words))) ≡ Some line
unfolding line_from
parted [] line dark is = absurd cc
parted (word ∷ words) line dark is = rw (words_again word words dark, is) refl

-- a line's text is read as the line
pub line_again : (line : Line) → FitsLine line → line_of (line_text line) ≡ Some line
line_again line fits = parted (line_words line) line (dark_line line fits) (line_from_again line fits)

-- a line whose words are those of a line is its text
pub line_spelled : (line : List ℕ) (words left : List Word) (found : Line) → words ≡ words_of line → words ≡ line_words found ++ left → left ≡ [] → line ≡ line_text found
line_spelled line words left found is took none =
    sym (joined_again line) ∙ ap joined (sym is ∙ took ∙ ap (λ (ws : List Word). line_words found ++ ws) none ∙ append-nil (line_words found))
