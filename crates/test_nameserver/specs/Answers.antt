-- Which records a zone has for a name and a type, with the aliases that lead to them (RFC 1034, sections 3.6.2 and 4.3.2).
use Rattle.std.specs.Prelude.{ℕ, zero, suc, Bool, ◌||◌, ◌==◌, List, [], ◌∷◌, filter, find, Option, Some, None, option_map}
use Rattle.std.specs.Option.{option_and_then}
use Rattle.dns_message.specs.Numbers.{kind_any, kind_cname}
use Rattle.dns_message.specs.declared.message.Record.{Record}
use Rattle.dns_rdata.specs.Parts.{whole_name}
use Rattle.test_nameserver.specs.Zone.{records_of}

-- the record has the type that is asked for; 255 asks for all (RFC 1035, section 3.2.3)
abbrev pub has_kind : ℕ → Record → Bool
has_kind kind rr = kind == kind_any || rr.kind == kind

-- the records of a type, in order
abbrev pub of_kind : ℕ → List Record → List Record
of_kind kind records = filter (has_kind kind) records

-- a CNAME record
abbrev pub is_alias : Record → Bool
is_alias rr = rr.kind == kind_cname

-- the first CNAME record, and the name that it leads to
abbrev pub alias_of : List Record → Option (Record × List (List ℕ))
alias_of records = option_and_then (λ rr. option_map (λ target. (rr, target)) (whole_name rr.rdata)) (find is_alias records)

-- the record of an alias and what stands behind it; nothing without one
abbrev pub followed_by : (List (List ℕ) → List Record) → Option (Record × List (List ℕ)) → List Record
followed_by behind None = []
followed_by behind (Some alias) = alias.0 ∷ behind alias.1

-- the records that were found, or else others
abbrev pub found_or : List Record → List Record → List Record
found_or [] others = others
found_or (rr ∷ records) others = rr ∷ records

-- the records of a name with a type; where there are none and the name is an alias, its record and then those of its target, over at most so many aliases
unfoldable pub answers_over : List Record → ℕ → ℕ → List (List ℕ) → List Record
answers_over zone kind zero name = of_kind kind (records_of name zone)
answers_over zone kind (suc aliases) name = found_or (of_kind kind (records_of name zone)) (followed_by (answers_over zone kind aliases) (alias_of (records_of name zone)))

-- the answers of a zone: at most eight aliases are followed (this project's profile)
abbrev pub answers_of : List Record → ℕ → List (List ℕ) → List Record
answers_of zone kind name = answers_over zone kind 8 name
