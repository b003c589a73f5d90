-- A map from texts, looked up by bytes.
use Rattle.std.proofs.Common.{◌≡◌, ℕ, List, [], ◌∷◌, String, refl}
use Rattle.std.specs.BTreeMap.{is_at}
use Rattle.std.specs.Cmp.Lexicographic.{slice_cmp}
use Rattle.std.specs.Map.{lookup}
use Rattle.std.specs.Ordering.{nat_cmp}
use Rattle.std.specs.String.{string_bytes}
use Rattle.std.specs.declared.alloc.Global.{Global}
use Rattle.std.proofs.lemmas.Map.Text.{is_eq-slice_cmp}
use Rattle.net_world.specs.MemFiles.{paths_of, file_of}

-- by the order of its keys and by equal bytes, the same is found
pub lookup_paths : (path : List ℕ) (entries : List (String Global × List ℕ)) → file_of (paths_of entries) path ≡ lookup (is_at (λ key. slice_cmp nat_cmp path (string_bytes key))) entries
lookup_paths path [] = refl
lookup_paths path (entry ∷ entries) = rw (is_eq-slice_cmp path (string_bytes entry.0), lookup_paths path entries) refl
