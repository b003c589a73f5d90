use Rattle.std.proofs.Common.{ap, sym, Some}
use Rattle.net_addr.proofs.ReadingLemmas.{address_by_spelling, no_address}
use Rattle.net_addr.proofs.TextLemmas.{spelled_by_ip, no_spelling, one_address}
use Rattle.net_addr.proofs.text.read.Goals as goal

pub returns-in-Ok : goal.returns-in-Ok
returns-in-Ok c =
    let text = c.args.text.now in
    let found = c.addr_of.result in
    let spelled = spelled_by_ip text c.in-Ok.ip found c.in-Ok.ensures c.addr_of.ensures in
    record {
      value = sym (address_by_spelling text found spelled);
      found = spelled;
      only = λ a k. ap Some (one_address text found a spelled k);
    }

pub returns-in-Err : goal.returns-in-Err
returns-in-Err c =
    let text = c.args.text.now in
    let none = no_spelling text c.in-Err.ensures in
    record { value = sym (no_address text none); found = tt; only = λ a k. absurd (none a k) }
