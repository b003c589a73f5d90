-- Which names a search asks for, and in which order. The order is that of the stub resolvers in use; what is passed over is this project's profile.
use Rattle.std.specs.Prelude.{ℕ, ◌-◌, Bool, ◌&&◌, ◌||◌, nat_le, if◌then◌else◌, List, [], ◌∷◌, ◌++◌, length, map, filter, not, codes}
use Rattle.std.specs.List.{list_any}
use Rattle.dns_message.specs.Name.{wire_length, same_name, last_is}
use Rattle.dns_message.specs.declared.name.NameText.{NameText}
use Rattle.resolv_options.specs.declared.options.Options.{Options}

-- a name may be asked for: it takes at most 255 bytes, and isn't a hidden service's name (RFC 7686, section 2)
abbrev pub may_be_asked : List (List ℕ) → Bool
may_be_asked name = nat_le (wire_length name) 255 && not (last_is (codes "onion") name)

-- the dots between the labels of a name; the root has none
abbrev pub dots : List (List ℕ) → ℕ
dots name = length name - 1

-- the name with each of the domains behind it, in order
abbrev pub with_domains : List (List ℕ) → List (List (List ℕ)) → List (List (List ℕ))
with_domains name domains = map (λ domain. name ++ domain) domains

-- the names to try, in order: an absolute name alone, and any name where searching is off; one with enough dots before those with a domain, any other behind them
abbrev pub search_order : NameText → Options → List (List (List ℕ))
search_order text options =
    if text.absolute || options.flags.nosearch then text.name ∷ []
    else (if nat_le options.ndots (dots text.name) then text.name ∷ with_domains text.name options.domains
    else with_domains text.name options.domains ++ text.name ∷ [])

-- the names that aren't the same as an earlier one, where `earlier` stand before them
abbrev pub without_repeats : List (List (List ℕ)) → List (List (List ℕ)) → List (List (List ℕ))
without_repeats earlier [] = []
without_repeats earlier (name ∷ names) =
    if list_any (same_name name) earlier then without_repeats earlier names
    else name ∷ without_repeats (earlier ++ name ∷ []) names

-- the candidates that these names are behind earlier ones: those that may be asked for, without repeats
abbrev pub candidates_after : List (List (List ℕ)) → List (List (List ℕ)) → List (List (List ℕ))
candidates_after earlier names = without_repeats earlier (filter may_be_asked names)

-- the candidates of a search, in order
abbrev pub candidates : NameText → Options → List (List (List ℕ))
candidates text options = candidates_after [] (search_order text options)
