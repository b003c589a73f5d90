use Rattle.std.proofs.Common.{append_assoc}
use Rattle.std.proofs.lemmas.List.{map-append}
use Rattle.net_addr.proofs.ReverseLemmas.{IsName-digits}
use Rattle.net_addr.proofs.reverse.reverse_v6.Goals as goal

pub name_of-requires : goal.name_of-requires
name_of-requires c =
    simp (c.deref.ensures.value, c.in_ok-push-2.ensures.items, c.in_ok-push.ensures.items, map-append, append_assoc, c.in_ok-labels.ensures, c.digits_backwards-digits.ensures)
    (IsName-digits c.args.bits)
