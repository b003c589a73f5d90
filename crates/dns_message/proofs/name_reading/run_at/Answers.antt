use Rattle.std.proofs.Common.{◌≡◌, ℕ, List, ◌+◌, ◌-◌, ◌≤◌, length, ◌++◌, ◌∷◌, [], ◌∙◌, ap, append_assoc, append-nil, sym, refl, arith}
use Rattle.std.specs.Prelude.{slice_range}
use Rattle.std.proofs.lemmas.Result.{err_from_is_err_and}
use Rattle.dns_message.specs.Name.{wire_length}
use Rattle.dns_message.specs.Reading.{byte_at, label_of, run_of}
use Rattle.dns_message.specs.Wire.{labels_in}
use Rattle.dns_message.proofs.RunLemmas.{run_past, run_root, run_cut, run_pointer, run_on, run_stops}
use Rattle.dns_message.proofs.WireLemmas.{wire_none, wire_many, labels_none, run_none, run_taken, run_wire, run_labels}
use Rattle.dns_message.proofs.name_reading.run_at.Goals as goal

pub loop-at-init : goal.loop-at-init
loop-at-init c = record {
  from = omega arith;
  wire = rw (run_none c.args.bytes.now c.args.run) wire_none;
  room = omega arith;
  read = λ front taken.
      let same : front ++ labels_in (slice_range c.args.bytes.now c.args.run c.args.run) ≡ front = rw (run_none c.args.bytes.now c.args.run, labels_none) (append-nil front) in
      rw same refl;
}

pub overflow_add-count : goal.overflow_add-count
overflow_add-count c = omega (arith, wire_many _ _ c.loop-at.invariant.wire)

pub returns-then-len-eq0-clause-read : goal.returns-then-len-eq0-clause-read
returns-then-len-eq0-clause-read c = λ front taken.
    c.loop-at.invariant.read front taken ∙ run_root c.args.bytes.now c.args.start c.loop-at.at _ c.loop-at-test.true c.if-len-eq0.true

pub returns-then-len-eq0-clause-taken : goal.returns-then-len-eq0-clause-taken
returns-then-len-eq0-clause-taken c = λ front taken.
    rw (← taken) (run_taken c.args.bytes.now c.args.run c.loop-at.at _ front c.loop-at.invariant.from (omega arith) c.loop-at.invariant.wire)

pub returns-then-bytes-at-lt2-clause-read : goal.returns-then-bytes-at-lt2-clause-read
returns-then-bytes-at-lt2-clause-read c = λ front taken.
    c.loop-at.invariant.read front taken ∙ run_cut c.args.bytes.now c.args.start c.loop-at.at _ c.loop-at-test.true c.if-len-eq0.false c.if-len-ge-POINTER_LEAST.true c.if-bytes-at-lt2.true

pub returns-then-len-ge-POINTER_LEAST-clause-read : goal.returns-then-len-ge-POINTER_LEAST-clause-read
returns-then-len-ge-POINTER_LEAST-clause-read c = λ front taken.
    c.loop-at.invariant.read front taken ∙ run_pointer c.args.bytes.now c.args.start c.loop-at.at _ c.loop-at-test.true c.if-len-eq0.false c.if-len-ge-POINTER_LEAST.true c.if-bytes-at-lt2.false

pub returns-then-len-ge-POINTER_LEAST-clause-taken : goal.returns-then-len-ge-POINTER_LEAST-clause-taken
returns-then-len-ge-POINTER_LEAST-clause-taken c = λ front taken.
    rw (← taken) (run_taken c.args.bytes.now c.args.run c.loop-at.at _ front c.loop-at.invariant.from (omega arith) c.loop-at.invariant.wire)

pub returns-in_err-at-clause-read : goal.returns-in_err-at-clause-read
returns-in_err-at-clause-read c =
    let p = err_from_is_err_and c.from_residual.result c.from_residual.ensures.1 in
    let within : c.loop-at.at ≤ length c.args.bytes.now = omega arith in
    rw (p.1, p.2) (λ front taken.
    let behind : wire_length (front ++ labels_in (slice_range c.args.bytes.now c.args.run c.loop-at.at)) ≡ c.args.taken + (c.loop-at.at - c.args.run) = rw (← taken) (run_taken c.args.bytes.now c.args.run c.loop-at.at _ front c.loop-at.invariant.from within c.loop-at.invariant.wire) in
    c.loop-at.invariant.read front taken ∙ run_stops c.args.bytes.now c.args.start c.loop-at.at _ c.loop-at-test.true c.if-len-eq0.false c.if-len-ge-POINTER_LEAST.false c.in_err-at.field-0.0 (c.in_err-at.ensures.read _ behind))

pub returns-clause-read : goal.returns-clause-read
returns-clause-read c = λ front taken. c.loop-at.invariant.read front taken ∙ run_past c.args.bytes.now c.args.start c.loop-at.at _ c.loop-at-test.false

pub loop-at-preserved : goal.loop-at-preserved
loop-at-preserved c =
    let bytes = c.args.bytes.now in
    let at = c.loop-at.at in
    let run = c.args.run in
    let within : at ≤ length bytes = omega arith in
    let fits : at + 1 + byte_at bytes at ≤ length bytes = rw (← c.in_ok-at.ensures.end) c.in_ok-at.ensures.within in
    let room : at - run + byte_at bytes at + 2 ≤ 255 = omega (arith, c.in_ok-at.ensures.room, c.in_ok-at.ensures.end, c.requires.0) in
    let label = c.in_ok-at.ensures.label in
    let labels : labels_in (slice_range bytes run c.in_ok-at.at) ≡ labels_in (slice_range bytes run at) ++ label_of bytes at ∷ [] =
    rw c.in_ok-at.ensures.end (run_labels bytes run at _ c.loop-at.invariant.from c.loop-at-test.true fits c.loop-at.invariant.wire label.0 label.1 room) in
    record {
      from = omega (arith, c.in_ok-at.ensures.end, c.loop-at.invariant.from);
      wire = rw c.in_ok-at.ensures.end (run_wire bytes run at _ c.loop-at.invariant.from c.loop-at-test.true fits c.loop-at.invariant.wire label.0 label.1 room);
      room = omega (arith, c.in_ok-at.ensures.end, c.in_ok-at.ensures.room, c.loop-at.invariant.from);
      read = λ front taken.
          let behind : wire_length (front ++ labels_in (slice_range bytes run at)) ≡ c.args.taken + (at - run) = rw (← taken) (run_taken bytes run at _ front c.loop-at.invariant.from within c.loop-at.invariant.wire) in
          c.loop-at.invariant.read front taken
          ∙ run_on bytes c.args.start at _ c.loop-at-test.true c.if-len-eq0.false c.if-len-ge-POINTER_LEAST.false c.in_ok-at.at (c.in_ok-at.ensures.read _ behind)
          ∙ ap (run_of bytes c.args.start c.in_ok-at.at) (append_assoc front (labels_in (slice_range bytes run at)) (label_of bytes at ∷ []) ∙ ap (λ (rest : List (List ℕ)). front ++ rest) (sym labels));
    }
