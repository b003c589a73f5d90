use Rattle.std.proofs.Common.{sym, ◌∙◌}
use Rattle.journal_replay.proofs.KeyLemmas.{kept_result}
use Rattle.journal_replay.proofs.keys.+have_keys.Goals as goal

pub returns-in_ok-left-in-Some-find_server : goal.returns-in_ok-left-in-Some-find_server
returns-in_ok-left-in-Some-find_server t c =
    kept_result c.in-Some.server.now c.in-Some.rest.now c.args.left.now c.args.greatest c.in-Some-find_server.known (sym c.in-Some-find_server.ensures) c.args.list.now _ c.have_keys.result c.in-Some.ensures.cases.0
    (c.as_slice.ensures.value ∙ c.in_ok-left-in-Some-find_server.ensures) c.if-known-server.false c.have_keys.ensures
