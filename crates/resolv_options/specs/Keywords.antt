-- What a line of resolv.conf is for, by its first word, in lower case (resolv.conf(5)).
use Rattle.std.specs.Prelude.{ℕ, List, codes, if◌then◌else◌, bytes_eq}
use Rattle.resolv_options.specs.declared.keyword.Keyword.{Keyword}
use Rattle.resolv_options.specs.declared.keyword.Keyword.TheVariants as keywords

-- what a line is for that begins with this word
abbrev pub keyword_of : List ℕ → Keyword
keyword_of word =
    if bytes_eq word (codes "nameserver") then keywords.Nameserver
    else (if bytes_eq word (codes "domain") then keywords.Domain
    else (if bytes_eq word (codes "search") then keywords.Search
    else (if bytes_eq word (codes "options") then keywords.Options
    else keywords.Other)))
