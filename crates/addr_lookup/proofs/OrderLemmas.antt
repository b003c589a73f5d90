-- What is sorted is the list that the definition computes.
use Rattle.std.proofs.Common.{◌≡◌, List, subst}
use Rattle.dest_sorting.specs.Order.{IsSortedBy}
use Rattle.net_addr.specs.declared.addr.Addr.{Addr}
use Rattle.channel_model.proofs.Theorems.{sorted_is}
use Rattle.channel_model.specs.Merge.{sorted}

-- with sources and addresses that are the same
pub sorted_as : (sources mine items given out : List Addr) → sources ≡ mine → items ≡ given → IsSortedBy sources items out → out ≡ sorted mine given
sorted_as sources mine items given out s i is =
    sorted_is mine given out (subst (λ (l : List Addr). IsSortedBy mine l out) i (subst (λ (l : List Addr). IsSortedBy l items out) s is))
