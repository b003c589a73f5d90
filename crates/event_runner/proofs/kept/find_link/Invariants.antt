use Rattle.event_runner.proofs.Base.{◌≡◌, drop, map, link_of_row, held_link}
use Rattle.event_runner.proofs.kept.find_link.Given as goal

abbrev pub invariant-loop-index : goal.invariant-loop-index
invariant-loop-index l = held_link l.number (map link_of_row l.links) ≡ held_link l.number (map link_of_row (drop l.index l.links))
