-- The numbers of a name's labels are bytes, since those of its bytes on the wire are.
use Rattle.std.proofs.Common.{◌≡◌, ℕ, zero, suc, ◌<◌, List, [], ◌∷◌, ◌++◌, get_or, arith, sym, subst}
use Rattle.std.specs.List.{AllByRecursion}
use Rattle.std.proofs.lemmas.List.Concat.{flat_map-cons}
use Rattle.dns_message.specs.Wire.{wire_bytes, label_bytes}
use Rattle.dns_message.specs.NamePrinting.{AreBytes}

abbrev IsByte : ℕ → Type 0
IsByte b = b < 256

bytes_all : (bytes : List ℕ) → ((i : ℕ) → get_or bytes i 0 < 256) → AllByRecursion IsByte bytes
bytes_all [] fits = tt
bytes_all (b ∷ bytes) fits = (fits 0, bytes_all bytes (λ i. fits (suc i)))

parted : (front rest : List ℕ) → AllByRecursion IsByte (front ++ rest) → AllByRecursion IsByte front × AllByRecursion IsByte rest
parted [] rest all = (tt, all)
parted (b ∷ front) rest all = let others = parted front rest all.1 in ((all.0, others.0), others.1)

labels_all : (labels : List (List ℕ)) → AllByRecursion IsByte (wire_bytes labels) → AreBytes labels
labels_all [] all = tt
labels_all (label ∷ labels) all =
    let whole : AllByRecursion IsByte (label_bytes label ++ wire_bytes labels) = subst (AllByRecursion IsByte) (flat_map-cons label_bytes label labels) all in
    let others = parted label (wire_bytes labels) whole.1 in
    (others.0, labels_all labels others.1)

pub labels_are_bytes : (labels : List (List ℕ)) (wire : List ℕ) → wire ≡ wire_bytes labels → ((i : ℕ) → get_or wire i 0 < 256) → AreBytes labels
labels_are_bytes labels wire is fits = labels_all labels (subst (AllByRecursion IsByte) is (bytes_all wire fits))
