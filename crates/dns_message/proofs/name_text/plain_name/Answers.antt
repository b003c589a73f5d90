use Rattle.std.proofs.Common.{◌≡◌, ◌≤◌, ◌+◌, ◌∷◌, ◌++◌, [], length, get_or, set, false, refl, sym, ap, ◌∙◌, arith, ◌-◌}
use Rattle.std.specs.Prelude.{codes}
use Rattle.std.specs.Str.{bytes_eq}
use Rattle.std.proofs.lemmas.List.{length-append, length-set}
use Rattle.dns_message.proofs.WireLemmas.{wire_none, wire_many}
use Rattle.dns_message.proofs.PlainNameLemmas.{begins, same_front, goes_on, is_whole, ends, ends_dotted, front_next, next}
use Rattle.dns_message.proofs.name_text.plain_name.Goals as goal
use Rattle.dns_message.proofs.name_text.plain_name.Goals.{then-byte-eq46+else-len-eq0+else-len-gt-LABEL_MOST+else-start-text, else-byte-eq46}

pub loop-at-init : goal.loop-at-init
loop-at-init c =
    let items : c.push_reserved.new.self.items ≡ 0 ∷ [] = rw c.in_ok-wire.ensures.items at c.push_reserved.ensures.items in
    let other : bytes_eq c.args.text.now (codes ".") ≡ false = ap (bytes_eq c.args.text.now) (sym c.as_slice.ensures) ∙ sym c.if-eq.ensures in
    record {
      start = omega arith;
      end = omega arith;
      short = c.if-text-ge-NAME_MOST.false;
      long = ap length items;
      room = rw c.push_reserved.ensures.capacity c.in_ok-wire.ensures.capacity;
      whole = wire_none;
      read = begins c.args.text.now c.push_reserved.new.self.items (ap length items) (rw other refl);
    }

pub overflow_add-count : goal.overflow_add-count
overflow_add-count c = omega (arith, wire_many _ _ c.loop-at.invariant.whole)

pub of_wire-requires : goal.of_wire-requires
of_wire-requires c =
    let l = c.loop-at.invariant in
    is_whole c.args.text.now c.loop-at.wire.items c.loop-at.start c.loop-at.at l.start l.long l.read c.loop-at.count l.whole c.if-len-eq0.false c.if-len-gt-LABEL_MOST.false (omega (arith, l.short, c.loop-at-test.true))

pub returns-then-start-text : goal.returns-then-start-text
returns-then-start-text c =
    let l = c.loop-at.invariant in
    rw c.of_wire.ensures (ends_dotted c.args.text.now c.loop-at.wire.items c.loop-at.start c.loop-at.at l.start l.long l.read c.loop-at.count l.whole c.if-len-eq0.false c.if-len-gt-LABEL_MOST.false (omega (arith, l.short, c.loop-at-test.true))
    c.loop-at-test.true c.if-byte-eq46.true c.if-start-text.true)

pub loop-at-preserved : goal.loop-at-preserved
loop-at-preserved c =
    let l = c.loop-at.invariant in
    let text = c.args.text.now in
    let wire = c.loop-at.wire.items in
    let start = c.loop-at.start in
    let at = c.loop-at.at in
    elim c.if-byte-eq46.branch [
      | then-byte-eq46+else-len-eq0+else-len-gt-LABEL_MOST+else-start-text w ↦
          let room : at + 2 ≤ 255 = omega (arith, l.short, c.loop-at-test.true) in
          let items : c.if-byte-eq46.wire.items ≡ set wire start (at - start) ++ 0 ∷ [] = rw w.wire-is w.push_reserved-then-byte-eq46.ensures.items in
          record {
            start = rw w.start-is (omega arith);
            end = omega (arith, c.loop-at-test.true);
            short = l.short;
            long = rw items (omega (arith, length-append (set wire start (at - start)) (0 ∷ []), length-set wire start (at - start), l.long));
            room = rw (w.wire-is, w.push_reserved-then-byte-eq46.ensures.capacity) l.room;
            whole = rw (w.start-is, w.count-is, items, front_next text wire start at l.start l.long l.read c.loop-at.count l.whole w.if-len-eq0.false w.if-len-gt-LABEL_MOST.false room c.loop-at-test.true w.if-byte-eq46.true)
                (is_whole text wire start at l.start l.long l.read c.loop-at.count l.whole w.if-len-eq0.false w.if-len-gt-LABEL_MOST.false room);
            read = rw (w.start-is, items)
                (next text wire start at l.start l.long l.read c.loop-at.count l.whole w.if-len-eq0.false w.if-len-gt-LABEL_MOST.false room c.loop-at-test.true w.if-byte-eq46.true w.if-start-text.false);
          }
      | else-byte-eq46 w ↦
          let byte = get_or text at 0 in
          let items : c.if-byte-eq46.wire.items ≡ wire ++ byte ∷ [] = rw w.wire-is w.push_reserved-else-byte-eq46.ensures.items in
          record {
            start = rw w.start-is (omega (arith, l.start));
            end = omega (arith, c.loop-at-test.true);
            short = l.short;
            long = rw items (omega (arith, length-append wire (byte ∷ []), l.long));
            room = rw (w.wire-is, w.push_reserved-else-byte-eq46.ensures.capacity) l.room;
            whole = rw (w.start-is, w.count-is, items, same_front text wire start at l.start l.long l.read byte) l.whole;
            read = rw (w.start-is, items) (goes_on text wire start at l.start l.long l.read c.loop-at-test.true w.if-byte-eq46.false c.if-byte-eq92.false);
          }
    ]

pub overflow_add-count-2 : goal.overflow_add-count-2
overflow_add-count-2 c = omega (arith, wire_many _ _ c.loop-at.invariant.whole)

pub of_wire-requires-2 : goal.of_wire-requires-2
of_wire-requires-2 c =
    let l = c.loop-at.invariant in
    is_whole c.args.text.now c.loop-at.wire.items c.loop-at.start c.loop-at.at l.start l.long l.read c.loop-at.count l.whole c.if-len-eq0-2.false c.if-len-gt-LABEL_MOST-2.false (omega (arith, c.if-at-ge-NAME_MOST.false))

pub returns : goal.returns
returns c =
    let l = c.loop-at.invariant in
    rw c.of_wire-2.ensures (ends c.args.text.now c.loop-at.wire.items c.loop-at.start c.loop-at.at l.start l.long l.read c.loop-at.count l.whole c.if-len-eq0-2.false c.if-len-gt-LABEL_MOST-2.false (omega (arith, c.if-at-ge-NAME_MOST.false)) c.loop-at-test.false)
