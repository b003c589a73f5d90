-- What lines of resolv.conf set, one after another.
use Rattle.std.proofs.Common.{◌≡◌, ℕ, zero, suc, ◌≤◌, List, [], ◌∷◌, ◌++◌, length, take, refl, ap, append-nil, append_assoc, arith}
use Rattle.std.specs.Prelude.{filter_map, flat_map}
use Rattle.std.proofs.lemmas.List.{take_all, length-take}
use Rattle.std.proofs.lemmas.List.Concat.{flat_map-append}
use Rattle.std.proofs.lemmas.List.Elements.{filter_map-append}
use Rattle.net_addr.specs.declared.addr.ServerAddr.{ServerAddr}
use Rattle.resolv_options.specs.Values.{OptionValues}
use Rattle.resolv_options.specs.Lasts.{last_or}
use Rattle.resolv_options.specs.Resolv.{Directive, server_by, servers_after, domains_by, options_by, with_directives}
use Rattle.resolv_options.proofs.OptionLemmas.{last_set, options_in_turn}

-- what is cut in front is cut behind
take_front : {A : Type 0} (n : ℕ) (xs ys : List A) → take n (take n xs ++ ys) ≡ take n (xs ++ ys)
take_front zero xs ys = refl
take_front (suc n) [] ys = refl
take_front (suc n) (x ∷ xs) ys = ap (λ l. x ∷ l) (take_front n xs ys)

-- the servers of lines in two parts
pub servers_in_turn : (servers : List ServerAddr) (xs ys : List Directive) → servers_after (servers_after servers xs) ys ≡ servers_after servers (xs ++ ys)
servers_in_turn servers xs ys =
    let f = λ (line : Directive). server_by line.keyword line.words in
    rw (filter_map-append f xs ys, take_front 8 (servers ++ filter_map f xs) (filter_map f ys)) (ap (take 8) (append_assoc servers (filter_map f xs) (filter_map f ys)))

-- eight servers at most are kept as they are, where no line follows
pub servers_kept : (servers : List ServerAddr) → length servers ≤ 8 → take 8 (servers ++ []) ≡ servers
servers_kept servers few = rw (append-nil servers) (take_all 8 servers few)

-- no more are kept
pub servers_few : (servers : List ServerAddr) (lines : List Directive) → length (servers_after servers lines) ≤ 8
servers_few servers lines = omega (arith, length-take 8 (servers ++ filter_map (λ (line : Directive). server_by line.keyword line.words) lines))

-- what lines in two parts set
pub directives_in_turn : (options : OptionValues) (xs ys : List Directive) → with_directives (with_directives options xs) ys ≡ with_directives options (xs ++ ys)
directives_in_turn options xs ys =
    let f = λ (line : Directive). options_by line.keyword line.words in
    let g = λ (line : Directive). domains_by line.keyword line.words in
    rw (flat_map-append f xs ys, last_set g options.domains xs ys)
    (ap (λ (set : OptionValues). record set { domains = last_or (last_or options.domains (filter_map g xs)) (filter_map g ys) }) (options_in_turn options (flat_map f xs) (flat_map f ys)))
