-- What the text of a hosts file says (hosts(5)): a line has an address, and then names.
use Rattle.std.specs.Prelude.{ℕ, List, [], ◌∷◌, Option, Some, None, option_and_then, filter_map}
use Rattle.net_addr.specs.declared.addr.Addr.{Addr}
use Rattle.net_addr.specs.Reading.{address_of}
use Rattle.text_lines.specs.Lines.{lines_of, before_comment}
use Rattle.text_lines.specs.Words.{words_before_comment}
use Rattle.text_lines.specs.Names.{names_of}
use Rattle.hosts_file.specs.declared.hosts.HostLine.{HostLine}

-- what a line says that gives these names an address: the first is the canonical one; without a name it says nothing
abbrev pub line_of : Addr → List (List (List ℕ)) → Option HostLine
line_of address [] = None
line_of address (canonical ∷ aliases) = Some (record { address = address; canonical = canonical; aliases = aliases })

-- what a line of these words says: the first is an address, and those of the others count that are names
abbrev pub host_of_words : List (List ℕ) → Option HostLine
host_of_words [] = None
host_of_words (word ∷ others) = option_and_then (λ address. line_of address (names_of others)) (address_of word)

-- what a line says; `#` begins a comment wherever it stands, and a word that begins with `;` is one too (this project's profile)
abbrev pub host_of_line : List ℕ → Option HostLine
host_of_line line = host_of_words (words_before_comment (before_comment line))

-- what the lines of a text say, in order
abbrev pub hosts_of : List ℕ → List HostLine
hosts_of text = filter_map host_of_line (lines_of text)
