use Rattle.std.proofs.Common.{◌≡◌, refl, false, true, sym, rules, append-nil}
use Rattle.test_nameserver.specs.Load.{is_there, load_zone}
use Rattle.test_nameserver.proofs.LoadLemmas.{load_more}
use Rattle.test_nameserver.proofs.zone.Zone.load.Goals as goal
use Rattle.test_nameserver.proofs.zone.Zone.load.Goals.{then-number-ne3+in_ok-host_record+in_ok-zone, else-number-ne3}

pub loop-number-preserved : goal.loop-number-preserved
loop-number-preserved c = elim c.if-number-ne3.branch [
  | then-number-ne3+in_ok-host_record+in_ok-zone w ↦
      let there : is_there c.loop-number.number ≡ true = search rules in
      rw (load_more c.loop-number.number, there, w.zone-is, w.in_ok-zone.ensures, w.in_ok-host_record.ensures, c.loop-number.invariant) refl
  | else-number-ne3 w ↦
      let there : is_there c.loop-number.number ≡ false = search rules in
      rw (load_more c.loop-number.number, there, w.zone-is, c.loop-number.invariant) (sym (append-nil (load_zone c.loop-number.number)))
]
