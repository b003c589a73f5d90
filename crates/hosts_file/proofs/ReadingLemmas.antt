-- How many lines a hosts file has at most.
use Rattle.std.proofs.Common.{◌≡◌, ℕ, ◌+◌, ◌≤◌, eqb, List, [], ◌∷◌, ◌++◌, length, Option, Some, None, ap, length-append, arith}
use Rattle.std.specs.List.{filter_map, cons_option}
use Rattle.std.proofs.lemmas.List.Splits.{length-slice_split}
use Rattle.std.proofs.lemmas.List.Sums.{count_by-le-length}
use Rattle.text_lines.specs.Lines.{lines_of}
use Rattle.hosts_file.specs.declared.hosts.HostLine.{HostLine}
use Rattle.hosts_file.specs.File.{host_of_line, hosts_of}

one_more : {X : Type 0} (found : Option X) (xs : List X) → length (cons_option found xs) ≤ length xs + 1
one_more None xs = omega arith
one_more (Some x) xs = omega arith

few_kept : {X Y : Type 0} (f : X → Option Y) (xs : List X) → length (filter_map f xs) ≤ length xs
few_kept f [] = omega arith
few_kept f (x ∷ xs) = omega (arith, one_more (f x) (filter_map f xs), few_kept f xs)

-- there are no more than bytes, and one
pub few_lines : (hosts rest : List HostLine) (text : List ℕ) → hosts ++ rest ≡ hosts_of text → length hosts ≤ length text + 1
few_lines hosts rest text all =
    omega (arith, ap length all, length-append hosts rest, few_kept host_of_line (lines_of text), length-slice_split (λ byte. eqb byte 10) text, count_by-le-length (λ byte. eqb byte 10) text)
