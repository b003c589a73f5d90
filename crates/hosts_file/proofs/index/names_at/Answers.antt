use Rattle.std.proofs.Common.{◌≡◌, ◌-◌, leb, ltb, length, take, drop, List, subst, sym, rules}
use Rattle.std.specs.List.Sorted.{IsNonDecreasingBy}
use Rattle.std.proofs.lemmas.List.{take_rest}
use Rattle.std.proofs.lemmas.List.Sorted.{IsPartitionPoint-from_clause, IsPartitionedBy-leb, IsPartitionedBy-ltb, IsNonDecreasingBy-drop}
use Rattle.hosts_file.specs.declared.index.HashedName.{HashedName}
use Rattle.hosts_file.proofs.IndexLemmas.{hashes_rise, names_cut}
use Rattle.hosts_file.proofs.index.names_at.Goals as goal

pub returns : goal.returns
returns c =
    let names = c.args.names.now in
    let hash = c.args.hash in
    let start = c.partition_point-start.result in
    let rest : List HashedName = take (length names - start) (drop start names) in
    let is : rest ≡ drop start names = take_rest names start in
    let rise : IsNonDecreasingBy (λ (name : HashedName). name.hash) names = hashes_rise names c.requires in
    let rest_rise : IsNonDecreasingBy (λ (name : HashedName). name.hash) rest = subst (IsNonDecreasingBy (λ (name : HashedName). name.hash)) (sym is) (IsNonDecreasingBy-drop (λ name. name.hash) start names rise) in
    let first = IsPartitionPoint-from_clause (λ (name : HashedName). ltb name.hash hash) _ _ c.partition_point-start.ensures.partitioned (IsPartitionedBy-ltb (λ name. name.hash) _ hash rise) (λ a r q k. search rules) in
    let second = IsPartitionPoint-from_clause (λ (name : HashedName). leb name.hash hash) _ _ c.partition_point.ensures.partitioned (IsPartitionedBy-leb (λ name. name.hash) _ hash rest_rise) (λ a r q k. search rules) in
    names_cut hash names rest start c.partition_point.result is first second c.partition_point.ensures.bound
