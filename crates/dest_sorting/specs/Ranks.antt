-- What the code sorts by: for each rule a value that is less where the rule favours.
use Rattle.std.specs.Prelude.{ℕ, not, Option, is_some, unwrap_or}
use Rattle.net_addr.specs.declared.addr.Addr.{Addr}
use Rattle.net_addr.specs.Scope.{scope}
use Rattle.dest_sorting.specs.declared.ranks.Rank.{Rank}
use Rattle.dest_sorting.specs.Policy.{precedence}
use Rattle.dest_sorting.specs.Order.{has_scope, has_label, closeness}

-- how many leading bits a destination shares with its source; 0 where that is not compared
abbrev pub counted : Addr → Option Addr → ℕ
counted dest source = unwrap_or (closeness dest source) 0

-- the rank of a destination with a source
abbrev pub rank_of : Addr → Option Addr → Rank
rank_of dest source = record {
  unusable = not (is_some source);
  other_scope = not (has_scope dest source);
  other_label = not (has_label dest source);
  precedence = record { 0 = precedence dest };
  scope = scope dest;
  shared = record { 0 = counted dest source };
}
