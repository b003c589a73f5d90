-- A request has nine candidates at most: one, and one for each of eight domains.
use Rattle.channel_table.proofs.Base.{ℕ, suc, ◌≤◌, Bool, true, false, List, [], ◌∷◌, ◌++◌, Option, Some, None, cond, arith, length, length-map, list_any, filter, nat_le, option_map, unwrap_or, ◌||◌, Spec, Address, Query, Reverse, Search, Name, NameText, candidates_of, name_of_text, Setting, AreWithinLimits, Options}
use Rattle.std.proofs.Common.{length-append}
use Rattle.dns_message.specs.Name.{same_name}
use Rattle.channel_model.specs.Questions.{names_of}
use Rattle.resolv_options.specs.Search.{candidates, dots, may_be_asked, search_order, with_domains, without_repeats}

fewer_filtered : {X : Type 0} (t : X → Bool) (xs : List X) → length (filter t xs) ≤ length xs
fewer_filtered t [] = omega arith
fewer_filtered t (x ∷ xs) = by_test (t x) (fewer_filtered t xs)
  where
    by_test : (b : Bool) → length (filter t xs) ≤ length xs → length (cond b (x ∷ filter t xs) (filter t xs)) ≤ suc (length xs)
    by_test true rest = omega (arith, rest)
    by_test false rest = omega (arith, rest)

fewer_once : (earlier names : List Name) → length (without_repeats earlier names) ≤ length names
fewer_once earlier [] = omega arith
fewer_once earlier (name ∷ names) = by_test (list_any (same_name name) earlier) (fewer_once earlier names) (fewer_once (earlier ++ name ∷ []) names)
  where
    by_test : (b : Bool) → length (without_repeats earlier names) ≤ length names → length (without_repeats (earlier ++ name ∷ []) names) ≤ length names
        → length (cond b (without_repeats earlier names) (name ∷ without_repeats (earlier ++ name ∷ []) names)) ≤ suc (length names)
    by_test true rest more = omega (arith, rest)
    by_test false rest more = omega (arith, more)

module _ (options : Options) (few : length options.domains ≤ 8) (text : NameText) where
  domains_few : length (with_domains text.name options.domains) ≤ 8
  domains_few = omega (arith, few, length-map options.domains (λ domain. text.name ++ domain))

  ordered_few : (alone early : Bool) → length (cond alone (text.name ∷ []) (cond early (text.name ∷ with_domains text.name options.domains) (with_domains text.name options.domains ++ text.name ∷ []))) ≤ 9
  ordered_few true early = omega arith
  ordered_few false true = omega (arith, domains_few)
  ordered_few false false = omega (arith, domains_few, length-append (with_domains text.name options.domains) (text.name ∷ []))

  searched_few : length (candidates text options) ≤ 9
  searched_few = omega (
    arith,
    fewer_once [] (filter may_be_asked (search_order text options)),
    fewer_filtered may_be_asked (search_order text options),
    ordered_few (text.absolute || options.flags.nosearch) (nat_le options.ndots (dots text.name)),
  )

-- the candidates of a text are few, where those of each name are
names_few : (names : NameText → List Name) (text : List ℕ) → ((read : NameText) → length (names read) ≤ 9) → length (names_of names text) ≤ 9
names_few names text few = by_read (name_of_text text)
  where
    by_read : (o : Option NameText) → length (unwrap_or (option_map names o) []) ≤ 9
    by_read None = omega arith
    by_read (Some read) = few read

pub few_candidates : (setting : Setting) → AreWithinLimits setting.options → (spec : Spec) → length (candidates_of setting spec) ≤ 9
few_candidates setting limits (Query text kind class) = names_few (λ read. read.name ∷ []) text (λ read. omega arith)
few_candidates setting limits (Search text kind class) = names_few (λ read. candidates read setting.options) text (λ read. searched_few setting.options limits.few_domains read)
few_candidates setting limits (Address host family nosort) = names_few (λ read. candidates read setting.options) host (λ read. searched_few setting.options limits.few_domains read)
few_candidates setting limits (Reverse address) = omega arith
