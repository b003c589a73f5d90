-- A line is cut into its words at its blanks, and a text into its lines at its line feeds.
use Rattle.std.proofs.Common.{◌≡◌, ℕ, ◌+◌, ◌<◌, ◌≤◌, Bool, true, false, eqb, List, [], ◌∷◌, ◌++◌, length, map, All, refl, sym, ap, ◌∙◌, append_assoc, arith}
use Rattle.std.specs.Prelude.{flat_map}
use Rattle.std.specs.List.{AllByRecursion, slice_split, join_with_byte}
use Rattle.std.proofs.lemmas.Bool.{ne_eqb}
use Rattle.std.proofs.lemmas.List.{append-nil}
use Rattle.std.proofs.lemmas.List.Concat.{flat_map-cons}
use Rattle.std.proofs.lemmas.List.Elements.{All-nil, All-cons, All-append, All-weaker}
use Rattle.std.proofs.lemmas.List.Splits.{slice_split_none, slice_split_at, join_with_byte-slice_split}
use Rattle.text_lines.specs.Lines.{lines_of}
use Rattle.journal_text.specs.Words.{Word, joined, spaced}
use Rattle.journal_text.specs.Lines.{ended_line}
use Rattle.journal_text.specs.LineReading.{words_of}
use Rattle.journal_text.proofs.DarkLemmas.{IsDark, AreDark}

-- dark bytes are no blanks
no_blank : (word : Word) → AreDark word → All (λ byte. eqb byte 32 ≡ false) word
no_blank word dark = All-weaker IsDark (λ byte. eqb byte 32 ≡ false) (λ byte is. ne_eqb byte 32 (λ same. omega (arith, is, same))) word dark

-- words are parted again
pub words_again : (word : Word) (words : List Word) → AllByRecursion AreDark (word ∷ words) → words_of (joined (word ∷ words)) ≡ word ∷ words
words_again word [] dark = ap words_of (append-nil word) ∙ slice_split_none (λ byte. eqb byte 32) word (no_blank word dark.0)
words_again word (next ∷ words) dark =
    slice_split_at (λ byte. eqb byte 32) word 32 (joined (next ∷ words)) (no_blank word dark.0) refl ∙ ap (λ (ws : List Word). word ∷ ws) (words_again next words dark.1)

-- words joined by blanks, in std's form
joined_is : (words : List Word) → join_with_byte 32 words ≡ joined words
joined_is [] = refl
joined_is (word ∷ []) = sym (append-nil word)
joined_is (word ∷ next ∷ words) = ap (λ (rest : List ℕ). word ++ 32 ∷ rest) (joined_is (next ∷ words))

-- a line is its words, joined by blanks
pub joined_again : (line : List ℕ) → joined (words_of line) ≡ line
joined_again line = sym (joined_is (words_of line)) ∙ join_with_byte-slice_split 32 line

-- the byte is no line feed
abbrev pub IsNoFeed : ℕ → Type 0
IsNoFeed byte = 32 ≤ byte

spaced_unfed : (words : List Word) → AllByRecursion AreDark words → All IsNoFeed (flat_map spaced words)
spaced_unfed [] dark = All-nil IsNoFeed
spaced_unfed (word ∷ words) dark =
    All-append IsNoFeed (spaced word) (flat_map spaced words)
    (All-cons IsNoFeed 32 word (omega arith) (All-weaker IsDark IsNoFeed (λ byte is. omega (arith, is)) word dark.0))
    (spaced_unfed words dark.1)

-- a line of words has no line feed
pub joined_unfed : (words : List Word) → AllByRecursion AreDark words → All IsNoFeed (joined words)
joined_unfed [] dark = All-nil IsNoFeed
joined_unfed (word ∷ words) dark =
    All-append IsNoFeed word (flat_map spaced words) (All-weaker IsDark IsNoFeed (λ byte is. omega (arith, is)) word dark.0) (spaced_unfed words dark.1)

no_feed : (line : List ℕ) → All IsNoFeed line → All (λ byte. eqb byte 10 ≡ false) line
no_feed line unfed = All-weaker IsNoFeed (λ byte. eqb byte 10 ≡ false) (λ byte is. ne_eqb byte 10 (λ same. omega (arith, is, same))) line unfed

-- the first line of a text is cut off
pub line_cut : (line rest : List ℕ) → All IsNoFeed line → lines_of (ended_line line ++ rest) ≡ line ∷ lines_of rest
line_cut line rest unfed = ap lines_of (append_assoc line (10 ∷ []) rest) ∙ slice_split_at (λ byte. eqb byte 10) line 10 rest (no_feed line unfed) refl

-- so are many
pub lines_cut : (lines : List (List ℕ)) (rest : List ℕ) → AllByRecursion (All IsNoFeed) lines → lines_of (flat_map ended_line lines ++ rest) ≡ lines ++ lines_of rest
lines_cut [] rest unfed = refl
lines_cut (line ∷ lines) rest unfed =
    ap lines_of (append_assoc (ended_line line) (flat_map ended_line lines) rest)
    ∙ line_cut line (flat_map ended_line lines ++ rest) unfed.0
    ∙ ap (λ (ls : List (List ℕ)). line ∷ ls) (lines_cut lines rest unfed.1)
