use Rattle.std.proofs.Common.{◌≡◌, ◌⊎◌, List, true}
use Rattle.timeout_queue.specs.declared.key.Deadline.{Deadline}
use Rattle.timeout_queue.specs.Rows.{IsLed, is_live}
use Rattle.timeout_queue.proofs.RowsLemmas.{have_without, holds_without, keeps_trans, led_weaker}
use Rattle.timeout_queue.proofs.rows.Rows.remove.Goals as goal

-- what stands is live: so are the first deadlines
pub returns-then-all_stand : goal.returns-then-all_stand
returns-then-all_stand c =
    let before = c.requires in
    let live = is_live c.args.moments.now in
    let one = c.leave-first.ensures.keeps live before.2.gone in
    let two = c.leave-second.ensures.keeps live before.2.gone in
    have_without before.0 c.args.self.now _ before.1 c.args.deadline live before.2 one two c.drop_apart.ensures
    (c.all_stand.ensures c.if-all_stand.true (holds_without before.0 c.args.self.now (record { row = c.leave-first.new.row; other = c.leave-second.new.row; rest = c.drop_apart.new.rest }) before.1 c.args.deadline live before.2 one two c.drop_apart.ensures))

-- else those that were dropped leave the front of a row whose first has left
pub returns : goal.returns
returns c =
    let before = c.requires in
    let live = is_live c.args.moments.now in
    let led_behind : (row : List Deadline) → IsLed (λ q. before.0 q ≡ true) row → IsLed (λ q. (c.args.deadline ≡ q) ⊎ (live q ≡ true)) row
    = led_weaker (λ q. before.0 q ≡ true) (λ q. (c.args.deadline ≡ q) ⊎ (live q ≡ true)) before.2.kept in
    have_without before.0 c.args.self.now _ before.1 c.args.deadline live before.2
    (keeps_trans live _ _ _ (c.leave-first.ensures.keeps live before.2.gone) c.settle.ensures.keeps)
    (keeps_trans live _ _ _ (c.leave-second.ensures.keeps live before.2.gone) c.settle-2.ensures.keeps)
    c.drop_apart.ensures
    (c.settle.ensures.led (λ stays. c.leave-first.ensures.led stays live (led_behind _ before.1.led)), c.settle-2.ensures.led (λ stays. c.leave-second.ensures.led stays live (led_behind _ before.1.other_led)))
