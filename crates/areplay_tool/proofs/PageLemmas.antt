-- The requests of a journal, up to an index.
use Rattle.std.proofs.Common.{ap, sym, ◌∙◌}
use Rattle.std.proofs.lemmas.List.{map-append, take_more}
use Rattle.std.specs.Prelude.{List, get_or, length, map, option_to_list, take, ℕ, ◌++◌, ◌+◌, ◌<◌, ◌≡◌}
use Rattle.chan_types.specs.declared.journal.Entry.{Entry}
use Rattle.channel_model.proofs.Theorems.{past_of-push}
use Rattle.channel_model.specs.Completion.{requests}
use Rattle.channel_model.specs.Journal.{Accepted, accepted, accepted_by, past_of}

-- the numbers of requests
abbrev pub numbers_of : List Accepted → List ℕ
numbers_of all = map (λ (request : Accepted). request.number) all

-- with one entry more there is its request more
pub requests_more : (journal : List Entry) (index : ℕ) (d : Entry) (numbers : List ℕ) → index < length journal → numbers ≡ requests (past_of (take index journal)) →
    numbers ++ numbers_of (option_to_list (accepted_by (get_or journal index d).what)) ≡ requests (past_of (take (index + 1) journal))
requests_more journal index d numbers inside so_far =
    let entry : Entry = get_or journal index d in
    let past = past_of (take index journal) in
    ap (λ (before : List ℕ). before ++ numbers_of (option_to_list (accepted_by entry.what))) so_far
    ∙ sym (map-append (λ (request : Accepted). request.number) (accepted past) (option_to_list (accepted_by entry.what)))
    ∙ sym (ap requests (ap past_of (take_more journal index d inside) ∙ past_of-push (take index journal) entry))
