use Rattle.std.proofs.Common.{ap, sym, ◌∙◌}
use Rattle.std.specs.Prelude.{nat_eq}
use Rattle.std.specs.Map.{lookup}
use Rattle.std.specs.Option.{option_eq}
use Rattle.std.proofs.lemmas.Bool.{false≢true}
use Rattle.std.specs.Prelude.{Some}
use Rattle.timeout_queue.specs.Key.{key_eq}
use Rattle.timeout_queue.specs.Rows.{is_live}
use Rattle.timeout_queue.specs.declared.key.Deadline.{Deadline}
use Rattle.timeout_queue.proofs.MomentLemmas.{adds_live, adds_one, drops_one, get_absent, seen_put, with_one}
use Rattle.timeout_queue.proofs.queue.Queue.put.Goals as goal

-- the key takes its moment
pub invariant_of-self-in-Ok : goal.invariant_of-self-in-Ok
invariant_of-self-in-Ok c =
    let moments = c.self.inside.moments in
    c.in_ok-add.ensures.ok (is_live c.insert.new.self) (adds_live moments c.insert.new.self _ _ (get_absent moments _ c.self.view_is c.args.key c.requires.absent) c.in-Ok.ensures.updates.0)

pub returns-in-Ok-clause-ok : goal.returns-in-Ok-clause-ok
returns-in-Ok-clause-ok c = seen_put c.self.inside.moments c.insert.new.self _ c.self.view_is c.args.key c.args.due c.in-Ok.ensures.updates.0

-- or its deadline leaves the rows again
pub remove-requires : goal.remove-requires
remove-requires c =
    let moments = c.self.inside.moments in
    let one : Deadline = record { due = c.args.due; key = c.args.key } in
    let absent = get_absent moments _ c.self.view_is c.args.key c.requires.absent in (
      with_one one (is_live moments),
      c.in_ok-add.ensures.ok _ (adds_one one (is_live moments)),
      drops_one one (is_live moments) (is_live c.insert.new.self)
          (λ d. ap (λ es. option_eq nat_eq (lookup (key_eq d.key) es) (Some d.due)) c.in-Err.ensures.err)
          (λ live. false≢true (sym (ap (λ moment. option_eq nat_eq moment (Some c.args.due)) absent) ∙ live)),
    )
