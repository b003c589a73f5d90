use Rattle.std.proofs.Common.{◌≡◌, ◌∙◌, true, sym, refl}
use Rattle.hosts_file.specs.Hosts.{serves}
use Rattle.hosts_file.proofs.SearchLemmas.{canonical_here, canonical_nowhere, canonical_none}
use Rattle.hosts_file.proofs.hosts.Hosts.canonical.Goals as goal

pub returns-then-line_serves-clause-value : goal.returns-then-line_serves-clause-value
returns-then-line_serves-clause-value c =
    let hit : serves c.args.name.now c.args.family c.line-line.result.now ≡ true = sym c.line_serves.ensures ∙ c.if-line_serves.true in
    rw c.in_ok-copy.ensures
    (sym (canonical_here c.args.name.now c.args.family c.args.self.now c.names_like-found.result.now c.names_like-found.ensures c.loop-like.like-index _ c.line-line.result.now
    c.loop-like-test.true c.line-line.ensures hit c.loop-like.invariant))

pub returns-then-line_serves-clause-none : goal.returns-then-line_serves-clause-none
returns-then-line_serves-clause-none c = rw (returns-then-line_serves-clause-value c) (canonical_none c.args.name.now c.args.family c.args.self.now)

pub returns-clause-value : goal.returns-clause-value
returns-clause-value c =
    sym (canonical_nowhere c.args.name.now c.args.family c.args.self.now c.names_like-found.result.now c.names_like-found.ensures c.loop-like.like-index
    c.loop-like-test.false c.loop-like.invariant)

pub returns-clause-none : goal.returns-clause-none
returns-clause-none c = (λ e. (canonical_none c.args.name.now c.args.family c.args.self.now).0 (sym (returns-clause-value c)), λ e. refl)
