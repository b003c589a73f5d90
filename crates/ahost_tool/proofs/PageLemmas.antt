-- Pages: the requests that a callback asked, entry by entry, and their blocks, each by its request.
use Rattle.std.proofs.Common.{◌≡◌, ◌≢◌, ◌∙◌, ℕ, suc, zero, ◌+◌, ◌-◌, ◌<◌, ◌≤◌, List, [], ◌∷◌, ◌++◌, Option, Some, None, get_or, length, map, take, refl, ap, sym, arith}
use Rattle.std.specs.List.{cons_option, filter_map, flat_map}
use Rattle.std.specs.Option.{option_map, option_map_or}
use Rattle.std.proofs.lemmas.List.{append-nil, take_all, take_more}
use Rattle.std.proofs.lemmas.List.Elements.{filter_map-append}
use Rattle.chan_types.specs.declared.answer.Answer.{Answer}
use Rattle.chan_types.specs.declared.journal.Entry.{Entry}
use Rattle.chan_types.specs.declared.spec.Spec.{Spec}
use Rattle.channel_model.specs.Journal.{Accepted}
use Rattle.tool_line.specs.Words.{Text}
use Rattle.ahost_tool.specs.Page.{asked_in, blocks}
use Rattle.ahost_tool.specs.Told.{as_told, request_block, requests_by}
use Rattle.ahost_tool.specs.declared.page.told.Request.{Request}

module _ {Y Z : Type 0} (print : Z → Text) (tell : Y → Z) where
  -- what is printed of what is found, if something is
  abbrev print_found : Option Y → Text
  print_found found = option_map_or (λ y. print (tell y)) found []

  -- with what is found before the others, if something is
  printed_cons : (found : Option Y) (items : List Z) (rest : Text) → flat_map print items ≡ rest
      → flat_map print (cons_option (option_map tell found) items) ≡ print_found found ++ rest
  printed_cons None items rest same = same
  printed_cons (Some y) items rest same = ap (λ t. print (tell y) ++ t) same

  -- what is printed of the items that are found in a list, by each of its places
  printed_found : {X : Type 0} (find : X → Option Y) (xs : List X)
      → flat_map print (filter_map (λ x. option_map tell (find x)) xs) ≡ flat_map (λ x. print_found (find x)) xs
  printed_found find [] = refl
  printed_found find (x ∷ xs) = printed_cons (find x) _ _ (printed_found find xs)

-- the requests of the entries so far, with that of one entry more
pub requests_more : (journal : List Entry) (i : ℕ) (entry : Entry) → i < length journal → entry ≡ get_or journal i entry
    → (by : ℕ) → requests_by by (take i journal) ++ requests_by by (entry ∷ []) ≡ requests_by by (take (i + 1) journal)
requests_more journal i entry within is by =
    sym (filter_map-append (λ e. option_map (λ (request : Accepted). (request.number, request.spec)) (asked_in by e)) (take i journal) (entry ∷ []))
    ∙ ap (requests_by by) (sym (take_more journal i entry within ∙ ap (λ e. take i journal ++ e ∷ []) (sym is)))

module _ {X Z : Type 0} (print : Z → Text) (tell : X → Z) where
  -- what is printed of items by what each tells
  printed_told : (xs : List X) → flat_map (λ x. print (tell x)) xs ≡ flat_map print (map tell xs)
  printed_told [] = refl
  printed_told (x ∷ xs) = ap (λ t. print (tell x) ++ t) (printed_told xs)

-- where some may be nested, the blocks are those of each of its requests
blocks_some : (journal : List Entry) (calls : List Answer) (most depth by : ℕ) → most ≢ 0
    → flat_map (request_block journal calls (most - 1) depth) (requests_by by journal) ≡ blocks journal calls most depth by
blocks_some journal calls zero depth by some = absurd (some refl)
blocks_some journal calls (suc most) depth by some =
    let same : (suc most) - 1 ≡ most = omega arith in
    ap (λ n. flat_map (request_block journal calls n depth) (requests_by by journal)) same
    ∙ printed_found (request_block journal calls most depth) (λ (request : Accepted). (request.number, request.spec)) (asked_in by) journal

module _ (journal : List Entry) (calls : List Answer) (most depth by : ℕ) (some : most ≢ 0) where
  -- what is printed of one of its requests
  abbrev print : ℕ × Spec → Text
  print = request_block journal calls (most - 1) depth

  -- a request whose callback asked none has no blocks in its own
  pub blocks_none : (text : Text) → [] ≡ requests_by by journal → text ≡ text ++ blocks journal calls most depth by
  blocks_none text none = sym (append-nil text) ∙ ap (λ t. text ++ t) (ap (flat_map print) none ∙ blocks_some journal calls most depth by some)

  -- behind the last of its requests all were printed
  pub blocks_all : (requests : List Request) → map as_told requests ≡ requests_by by journal → (i : ℕ) (begun text : Text) → length requests ≤ i
      → text ≡ begun ++ flat_map (λ request. print (as_told request)) (take i requests) → text ≡ begun ++ blocks journal calls most depth by
  blocks_all requests are i begun text behind so_far =
      so_far ∙ ap (λ xs. begun ++ flat_map (λ request. print (as_told request)) xs) (take_all i requests behind)
      ∙ ap (λ t. begun ++ t) (printed_told print as_told requests ∙ ap (flat_map print) are ∙ blocks_some journal calls most depth by some)
