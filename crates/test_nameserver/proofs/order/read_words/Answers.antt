use Rattle.std.proofs.Common.{◌≡◌, ℕ, List, [], codes, rules, slice_index_or, Bor}
use Rattle.test_nameserver.proofs.WordLemmas.{six_words}
use Rattle.test_nameserver.proofs.order.read_words.Goals as goal

pub returns-clause-only : goal.returns-clause-only
returns-clause-only c = λ order orders.
    let d : Bor (List ℕ) = record { ref_ptr = (0, 0); now = [] } in
    let options : ((slice_index_or c.args.words.now 0 d).now ≡ codes "--port") × ((slice_index_or c.args.words.now 2 d).now ≡ codes "--zone") × ((slice_index_or c.args.words.now 4 d).now ≡ codes "--count") = search rules in
    c.order_of.ensures.only order (rw (six_words d c.args.words.now c.in-len6.len_at_least c.in-len6.len_below, options.0, options.1, options.2) at orders)
