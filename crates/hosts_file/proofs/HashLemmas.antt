-- Names that are the same have one hash.
use Rattle.std.proofs.Common.{◌≡◌, ℕ, ◌/◌, ◌^◌, true, List, [], ◌∷◌, length, map, flat_map, fold, refl, ap, sym, ◌∙◌}
use Rattle.std.specs.Char.{to_ascii_lowercase}
use Rattle.std.specs.Hash.FoldHasher.{initial, write, finish}
use Rattle.std.proofs.lemmas.List.{map-append, length-map}
use Rattle.dns_message.specs.Name.{same_name}
use Rattle.dns_message.specs.Wire.{wire_bytes}
use Rattle.dns_message.proofs.Theorems.{same_name_says}
use Rattle.hosts_file.specs.Index.{hash_input, hash_of}

-- what is hashed of labels in lower case
low_input : List (List ℕ) → List ℕ
low_input labels = flat_map (λ low. to_ascii_lowercase (length low) ∷ low) labels

-- what is hashed of a name is made of its labels in lower case alone
input_is_low : (labels : List (List ℕ)) → hash_input labels ≡ low_input (map (map to_ascii_lowercase) labels)
unfolding low_input
input_is_low [] = refl
input_is_low (label ∷ labels) =
    ap (λ bytes. to_ascii_lowercase (length label) ∷ bytes) (map-append to_ascii_lowercase label (wire_bytes labels))
    ∙ rw (length-map label to_ascii_lowercase, input_is_low labels) refl

pub same_hash : (name other : List (List ℕ)) → same_name name other ≡ true → hash_of name ≡ hash_of other
same_hash name other same =
    let input : hash_input name ≡ hash_input other = input_is_low name ∙ (ap low_input ((same_name_says name other).0 same) ∙ sym (input_is_low other)) in
    ap (λ (bytes : List ℕ). finish (fold (λ hasher byte. write hasher (byte ∷ [])) initial bytes) / 2 ^ 32) input
