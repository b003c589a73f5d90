-- Candidates are found one after another.
use Rattle.std.proofs.Common.{◌≡◌, ◌≢◌, ℕ, ◌+◌, ◌<◌, ◌≤◌, ◌⊎◌, inl, inr, Bool, true, false, cond, List, [], ◌∷◌, ◌++◌, length, take, get_or, codes, refl, ap, ◌∙◌, sym, arith, append_assoc, append-nil, ◌||◌, nat_le}
use Rattle.std.specs.List.{list_any, filter}
use Rattle.std.proofs.lemmas.List.{map-append, take_more}
use Rattle.std.proofs.lemmas.List.Elements.{filter-append}
use Rattle.std.proofs.lemmas.Bool.Decides.{nat_tests}
use Rattle.dns_message.specs.Name.{same_name, LastIs, last_is, wire_length}
use Rattle.dns_message.proofs.Theorems.{last_is_says}
use Rattle.dns_message.specs.declared.name.NameText.{NameText}
use Rattle.resolv_options.specs.declared.options.Options.{Options}
use Rattle.resolv_options.specs.Search.{may_be_asked, dots, with_domains, without_repeats, candidates_after, candidates}

-- a test that fails is false
is_false : (t : Bool) → ¬ (t ≡ true) → t ≡ false
is_false true never = absurd (never refl)
is_false false never = refl

-- a hidden service's name is no candidate, nor is one that is the same as an earlier one
pub passed_over : (names : List (List (List ℕ))) (name : List (List ℕ)) → (last_is (codes "onion") name ≡ true) ⊎ (list_any (same_name name) names ≡ true) → candidates_after names (name ∷ []) ≡ []
passed_over names name (inl onion) = grind (arith, onion)
passed_over names name (inr same) = grind (arith, same)

-- any other name is one, where it isn't too long
pub added : (names : List (List (List ℕ))) (name : List (List ℕ)) → wire_length name ≤ 255 → last_is (codes "onion") name ≡ false → list_any (same_name name) names ≡ false → candidates_after names (name ∷ []) ≡ name ∷ []
added names name short onion same = grind (arith, nat_tests, onion, same)

-- what is without repeats in two parts
pub without_repeats-append : (earlier names more : List (List (List ℕ)))
    → without_repeats earlier (names ++ more) ≡ without_repeats earlier names ++ without_repeats (earlier ++ without_repeats earlier names) more
without_repeats-append earlier [] more = ap (λ l. without_repeats l more) (sym (append-nil earlier))
without_repeats-append earlier (name ∷ names) more =
    elim (list_any (same_name name) earlier) as (λ (b : Bool).
    cond b (without_repeats earlier (names ++ more)) (name ∷ without_repeats (earlier ++ name ∷ []) (names ++ more))
    ≡ cond b (without_repeats earlier names) (name ∷ without_repeats (earlier ++ name ∷ []) names)
    ++ without_repeats (earlier ++ cond b (without_repeats earlier names) (name ∷ without_repeats (earlier ++ name ∷ []) names)) more) [
      | true ↦ without_repeats-append earlier names more
      | false ↦ ap (λ l. name ∷ l) (rw (append_assoc earlier (name ∷ []) (without_repeats (earlier ++ name ∷ []) names)) at (without_repeats-append (earlier ++ name ∷ []) names more))
    ]

-- the candidates of names in two parts
pub candidates_in_turn : (earlier names more : List (List (List ℕ)))
    → candidates_after earlier (names ++ more) ≡ candidates_after earlier names ++ candidates_after (earlier ++ candidates_after earlier names) more
candidates_in_turn earlier names more = rw filter-append (without_repeats-append earlier (filter may_be_asked names) (filter may_be_asked more))

-- one domain more
pub domain_more : (earlier names : List (List (List ℕ))) (name : List (List ℕ)) (domains : List (List (List ℕ))) (i : ℕ) (domain : List (List ℕ)) → i < length domains → domain ≡ get_or domains i domain
    → names ≡ earlier ++ candidates_after earlier (with_domains name (take i domains))
    → names ++ candidates_after names ((name ++ domain) ∷ []) ≡ earlier ++ candidates_after earlier (with_domains name (take (i + 1) domains))
domain_more earlier names name domains i domain lt is so =
    let before = with_domains name (take i domains) in
    let read : take (i + 1) domains ≡ take i domains ++ domain ∷ [] = take_more domains i domain lt ∙ ap (λ d. take i domains ++ d ∷ []) (sym is) in
    let all : with_domains name (take (i + 1) domains) ≡ before ++ (name ++ domain) ∷ [] = rw (read, map-append) refl in
    rw (all, candidates_in_turn earlier before ((name ++ domain) ∷ []), so) (append_assoc earlier (candidates_after earlier before) (candidates_after (earlier ++ candidates_after earlier before) ((name ++ domain) ∷ [])))

-- where one name may be asked for, some are
some_asked : (front : List (List (List ℕ))) (name : List (List ℕ)) (back : List (List (List ℕ))) → may_be_asked name ≡ true → filter may_be_asked (front ++ name ∷ back) ≢ []
some_asked [] name back asked = rw asked (λ e. absurd cc)
some_asked (first ∷ front) name back asked =
    elim (may_be_asked first) as (λ (b : Bool). cond b (first ∷ filter may_be_asked (front ++ name ∷ back)) (filter may_be_asked (front ++ name ∷ back)) ≢ [])
    [ true ↦ λ e. absurd cc | false ↦ some_asked front name back asked ]

-- the first of some names is none that is passed over
first_kept : (names : List (List (List ℕ))) → names ≢ [] → without_repeats [] names ≢ []
first_kept [] some = some
first_kept (name ∷ names) some = λ e. absurd cc

-- a name that may be asked for has a candidate
pub candidates_some : (text : NameText) (options : Options) → wire_length text.name ≤ 255 → ¬ LastIs text.name (codes "onion") → candidates text options ≢ []
candidates_some text options short plain =
    let other : last_is (codes "onion") text.name ≡ false = is_false _ (λ e. plain ((last_is_says (codes "onion") text.name).0 e)) in
    let asked : may_be_asked text.name ≡ true = grind (arith, nat_tests, other, short) in
    elim (text.absolute || options.flags.nosearch) as (λ (alone : Bool). candidates_after [] (cond alone (text.name ∷ []) (cond (nat_le options.ndots (dots text.name)) (text.name ∷ with_domains text.name options.domains) (with_domains text.name options.domains ++ text.name ∷ []))) ≢ []) [
      | true ↦ first_kept _ (some_asked [] text.name [] asked)
      | false ↦ elim (nat_le options.ndots (dots text.name)) as (λ (first : Bool). candidates_after [] (cond first (text.name ∷ with_domains text.name options.domains) (with_domains text.name options.domains ++ text.name ∷ [])) ≢ []) [
        | true ↦ first_kept _ (some_asked [] text.name (with_domains text.name options.domains) asked)
        | false ↦ first_kept _ (some_asked (with_domains text.name options.domains) text.name [] asked)
      ]
    ]
