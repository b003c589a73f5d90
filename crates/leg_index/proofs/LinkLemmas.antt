-- When the items of links make one busy.
use Rattle.std.proofs.Common.{◌≡◌, ◌≢◌, ℕ, ◌-◌, not, List, arith, ap, sym, is_some, Option, None, Some}
use Rattle.std.specs.Prelude.{◌==◌}
use Rattle.std.proofs.lemmas.Bool.{eq-eqb, ne_eqb}
use Rattle.std.proofs.lemmas.List.Sums.{get_or-le-sum_by}
use Rattle.leg_index.specs.Links.{used_in, used, UseAt, FindsUse}
use Rattle.leg_index.specs.declared.links.LinkUse.{LinkUse}

-- an item that counts a leg makes its link busy
pub busy_at : (server link : ℕ) (items : List LinkUse) (index : ℕ) → UseAt server link items index → used server link items ≢ 0
busy_at server link items index at none = at.counts d (omega (arith, get_or-le-sum_by (used_in server link) items index d at.inside, none))
  where
    d : LinkUse
    d = record { server = 0; link = 0; count = 0 }

-- a link is busy where an item is found that counts a leg on it
pub busy_found : (server link : ℕ) (items : List LinkUse) (r : Option ℕ) → FindsUse server link items r → is_some r ≡ not (used server link items == 0)
busy_found server link items None none = sym (ap not (eq-eqb (used server link items) 0 none))
busy_found server link items (Some index) at = sym (ap not (ne_eqb (used server link items) 0 (busy_at server link items index at)))
