use Rattle.event_runner.proofs.Base.{refl}
use Rattle.event_runner.proofs.PieceLemmas.{piece_ends}
use Rattle.event_runner.proofs.ReceiveLemmas.{passes_piece}
use Rattle.event_runner.proofs.RowLemmas.{found_row, rows_set}
use Rattle.event_runner.proofs.receiving.take_piece.Goals as goal

pub returns-in-Some : goal.returns-in-Some
returns-in-Some g c = record {
  goes = λ before after log.
      let row = c.index_mut-link.result.now in
      let at = rw c.deref.ensures.value at c.in-Some.ensures in
      let found = found_row _ _ _ _ row c.deref.ensures.value c.in-Some.ensures c.index_mut-link.ensures.value in
      piece_ends _ _ _ _ row _ c.args.number c.args.bytes.now c.feed.new.self c.feed.result found.0 found.1 log (rows_set _ _ _ at.within) refl refl c.feed.ensures.left c.feed.ensures.delivers;
}

pub returns-in-None : goal.returns-in-None
returns-in-None g c = record {
  goes = λ before after log. passes_piece _ _ _ c.args.number (rw c.deref.ensures.value at c.in-None.ensures) _ refl (record { rows = refl; told = refl; mix = refl }) log;
}
