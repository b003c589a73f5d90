use Rattle.std.proofs.Common.{refl, subst, sym}
use Rattle.chan_types.specs.Plans.{blank}
use Rattle.acache_tool.specs.Bringing.{AsksFor}
use Rattle.acache_tool.proofs.AskLemmas.{asks_err}
use Rattle.acache_tool.proofs.OwnerLemmas.{asks_name, asks_none}
use Rattle.acache_tool.proofs.asking.accept.Goals as goal
use Rattle.acache_tool.proofs.asking.accept.Goals.{in-Ok, in-Err}

pub returns : goal.returns
returns c = record {
  asks = elim c.match-accept.branch [
    | in-Ok w ↦ subst (λ r. AsksFor c.args.name.now r c.args.alone.now c.accept.new.self) (sym w.result-is)
        (asks_name {T = Unit {0}} (λ quiet. blank 0) _ tt _ c.args.name.now c.args.alone.now c.accept.new.self c.in_ok-spec.ensures refl c.requires.silent (rw w.in-Ok.is at c.accept.ensures.done))
    | in-Err w ↦ subst (λ r. AsksFor c.args.name.now r c.args.alone.now c.accept.new.self) (sym w.result-is)
        (asks_none {T = Unit {0}} (λ quiet. blank 0) _ tt _ c.args.alone.now c.accept.new.self (rw w.in-Err.is at c.accept.ensures.done))
  ];
}

pub returns-in_err-spec : goal.returns-in_err-spec
returns-in_err-spec c = record { asks = asks_err c.args.name.now c.args.alone.now c.from_residual.result c.from_residual.ensures.0 }
