-- What the text of resolv.conf says (resolv.conf(5)). What can't be read is passed over. How many servers and domains are kept is this project's profile.
use Rattle.std.specs.Prelude.{ℕ, List, [], ◌∷◌, ◌++◌, map, take, Option, Some, None, option_map, option_to_list, filter_map, flat_map}
use Rattle.net_addr.specs.declared.addr.ServerAddr.{ServerAddr}
use Rattle.net_addr.specs.Reading.{address_of}
use Rattle.text_lines.specs.Lines.{lines_of}
use Rattle.text_lines.specs.Words.{words_before_comment}
use Rattle.text_lines.specs.Names.{name_of, names_of}
use Rattle.resolv_options.specs.declared.keyword.Keyword.{Keyword}
use Rattle.resolv_options.specs.declared.keyword.Keyword.TheVariants.{Nameserver, Domain, Search, Options, Other}
use Rattle.resolv_options.specs.Values.{OptionValues}
use Rattle.resolv_options.specs.Defaults.{local_server, plain_values}
use Rattle.resolv_options.specs.Lasts.{last_or}
use Rattle.resolv_options.specs.Keywords.{keyword_of}
use Rattle.resolv_options.specs.OptionWords.{with_options}

-- a line: what it is for, and the words behind its keyword
pub record Directive : Type 0 where
  pub keyword : Keyword
  pub words : List (List ℕ)

-- the line that has these words; a line without words is for nothing
abbrev pub directive_of : List (List ℕ) → Directive
directive_of [] = record { keyword = Other; words = [] }
directive_of (word ∷ words) = record { keyword = keyword_of word; words = words }

-- what a line of the text is for, up to a comment
abbrev pub directive_of_line : List ℕ → Directive
directive_of_line line = directive_of (words_before_comment line)

-- what the lines of a text are for
abbrev pub directives_of : List ℕ → List Directive
directives_of text = map directive_of_line (lines_of text)

-- the server whose address is the first of these words, at port 53
abbrev pub server_in : List (List ℕ) → Option ServerAddr
server_in [] = None
server_in (word ∷ words) = option_map (λ address. record { address = address; port = 53 }) (address_of word)

-- the server that a line names
abbrev pub server_by : Keyword → List (List ℕ) → Option ServerAddr
server_by Nameserver words = server_in words
server_by Domain words = None
server_by Search words = None
server_by Options words = None
server_by Other words = None

-- the first eight servers, where those in front have been named before these lines
abbrev pub servers_after : List ServerAddr → List Directive → List ServerAddr
servers_after servers lines = take 8 (servers ++ filter_map (λ line. server_by line.keyword line.words) lines)

-- these servers, or this machine's own where there is none
abbrev pub or_local : List ServerAddr → List ServerAddr
or_local [] = local_server ∷ []
or_local (server ∷ servers) = server ∷ servers

-- the domain that is the first of these words, where that is a name
abbrev pub domain_in : List (List ℕ) → List (List (List ℕ))
domain_in [] = []
domain_in (word ∷ words) = option_to_list (name_of word)

-- the domains that are these words: the first eight names
abbrev pub search_in : List (List ℕ) → List (List (List ℕ))
search_in words = take 8 (names_of words)

-- the domains that a line sets
abbrev pub domains_by : Keyword → List (List ℕ) → Option (List (List (List ℕ)))
domains_by Nameserver words = None
domains_by Domain words = Some (domain_in words)
domains_by Search words = Some (search_in words)
domains_by Options words = None
domains_by Other words = None

-- the options that a line has
abbrev pub options_by : Keyword → List (List ℕ) → List (List ℕ)
options_by Nameserver words = []
options_by Domain words = []
options_by Search words = []
options_by Options words = words
options_by Other words = []

-- what these lines set, but for the servers: the options of all, and the domains of the last that has some
abbrev pub with_directives : OptionValues → List Directive → OptionValues
with_directives options lines = record (with_options options (flat_map (λ line. options_by line.keyword line.words) lines)) {
  domains = last_or options.domains (filter_map (λ line. domains_by line.keyword line.words) lines);
}

-- the options that a resolv.conf of this text sets
abbrev pub resolv_values : List ℕ → OptionValues
resolv_values text = record (with_directives plain_values (directives_of text)) { servers = or_local (servers_after [] (directives_of text)) }
