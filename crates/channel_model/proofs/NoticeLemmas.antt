-- What calls tell in one list: nothing where each of the four lists is empty, and of one call its four lists.
use Rattle.std.proofs.Common.{◌≡◌, List, [], ◌∷◌, ◌++◌, map, refl, sym, ap, ap₂, ◌∙◌}
use Rattle.std.proofs.lemmas.List.{append-nil, append_assoc}
use Rattle.net_world.specs.declared.log.WorldCall.{WorldCall}
use Rattle.channel_model.specs.Links.{Link, held_by, told}
use Rattle.channel_model.specs.Traffic.{Parcel, Route, connects, datagrams, faults, messages, notices, notices_of, of_datagram, of_fault, of_link, of_message}

-- both parts of a list that is empty are empty
none_of_both : {A : Type 0} (xs ys : List A) → xs ++ ys ≡ [] → (xs ≡ []) × (ys ≡ [])
none_of_both [] ys none = (refl, none)
none_of_both (x ∷ xs) ys none = absurd (cc none)

-- the same four lists give the same notices
pub same_notices : {ms ms' ds ds' : List Parcel} {ks ks' fs fs' : List Route} → ms ≡ ms' → ds ≡ ds' → ks ≡ ks' → fs ≡ fs' → notices_of ms ds ks fs ≡ notices_of ms' ds' ks' fs'
same_notices m d k f =
    ap₂ (λ x y. x ++ y) (ap (map of_message) m) (ap₂ (λ x y. x ++ y) (ap (map of_datagram) d) (ap₂ (λ x y. x ++ y) (ap (map of_link) k) (ap (map of_fault) f)))

-- calls that bring no message, send no datagram, connect no link and tell no fault give no notice
pub told-quiet : (held : List Link) (calls : List WorldCall) → told messages held calls ≡ [] → told datagrams held calls ≡ [] → told connects held calls ≡ [] → told faults held calls ≡ [] →
    told notices held calls ≡ []
told-quiet held [] m d k f = refl
told-quiet held (call ∷ calls) m d k f =
    let ms = none_of_both (messages held call) (told messages (held_by held call) calls) m in
    let ds = none_of_both (datagrams held call) (told datagrams (held_by held call) calls) d in
    let ks = none_of_both (connects held call) (told connects (held_by held call) calls) k in
    let fs = none_of_both (faults held call) (told faults (held_by held call) calls) f in
    ap₂ (λ l n. l ++ n) (same_notices ms.0 ds.0 ks.0 fs.0) (told-quiet (held_by held call) calls ms.1 ds.1 ks.1 fs.1)

-- one call tells its four lists
pub told-one : (held : List Link) (call : WorldCall) → told notices held (call ∷ [])
    ≡ notices_of (told messages held (call ∷ [])) (told datagrams held (call ∷ [])) (told connects held (call ∷ [])) (told faults held (call ∷ []))
told-one held call =
    append-nil (notices held call)
    ∙ same_notices (sym (append-nil (messages held call))) (sym (append-nil (datagrams held call))) (sym (append-nil (connects held call))) (sym (append-nil (faults held call)))

-- a fault that is noted behind a datagram or a link
pub fault-behind : (ds : List Parcel) (ks fs : List Route) → notices_of [] ds ks [] ++ notices_of [] [] [] fs ≡ notices_of [] ds ks fs
fault-behind ds ks fs =
    append_assoc (map of_datagram ds) (map of_link ks ++ []) (map of_fault fs)
    ∙ ap (λ l. map of_datagram ds ++ (l ++ map of_fault fs)) (append-nil (map of_link ks))
