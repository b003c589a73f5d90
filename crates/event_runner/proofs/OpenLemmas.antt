-- Servers that are told at the beginning, one by one.
use Rattle.event_runner.proofs.Base.{◌≡◌, ◌∙◌, ℕ, ◌+◌, ◌<◌, List, [], ◌∷◌, ◌++◌, length, take, get_or, map, Result, Ok, Err, Option, true, refl, ap, sym, arith, zero, suc, add-one, is_err, option_map, IsPrefix, NoMemory, ServerAddr, WorldCall, Serve, serves_from, keyed_from, Opens, Gets}
use Rattle.event_runner.proofs.CallLemmas.{log_trans}
use Rattle.event_runner.proofs.GoesLemmas.{told_by}

-- one server more
serves_more : (k i : ℕ) (servers : List ServerAddr) (d : ServerAddr) → i < length servers → serves_from k (take (suc i) servers) ≡ serves_from k (take i servers) ++ Serve (k + i) (get_or servers i d) ∷ []
serves_more k i [] d within = absurd (omega arith)
serves_more k zero (s ∷ servers) d within = let same : k ≡ k + 0 = omega arith in ap (λ n. Serve n s ∷ []) same
serves_more k (suc i) (s ∷ servers) d within =
    let same : k + 1 + i ≡ k + suc i = omega arith in
    ap (λ l. Serve k s ∷ l) (serves_more (k + 1) i servers d (omega arith) ∙ ap (λ n. serves_from (k + 1) (take i servers) ++ Serve n (get_or servers i d) ∷ []) same)

keys_more : (k i : ℕ) (servers : List ServerAddr) → i < length servers → map (λ s. s.key) (keyed_from k (take (suc i) servers)) ≡ map (λ s. s.key) (keyed_from k (take i servers)) ++ (k + i) ∷ []
keys_more k i [] within = absurd (omega arith)
keys_more k zero (s ∷ servers) within = let same : k ≡ k + 0 = omega arith in ap (λ n. n ∷ []) same
keys_more k (suc i) (s ∷ servers) within =
    let same : k + 1 + i ≡ k + suc i = omega arith in
    ap (λ l. k ∷ l) (keys_more (k + 1) i servers (omega arith) ∙ ap (λ n. map (λ s. s.key) (keyed_from (k + 1) (take i servers)) ++ n ∷ []) same)

pub keys_next : (i : ℕ) (servers : List ServerAddr) → i < length servers → map (λ s. s.key) (keyed_from 0 (take (i + 1) servers)) ≡ map (λ s. s.key) (keyed_from 0 (take i servers)) ++ i ∷ []
keys_next i servers within =
    let same : 0 + i ≡ i = omega arith in
    ap (λ n. map (λ s. s.key) (keyed_from 0 (take n servers))) (add-one i) ∙ keys_more 0 i servers within ∙ ap (λ n. map (λ s. s.key) (keyed_from 0 (take i servers)) ++ n ∷ []) same

pub serves_next : (i : ℕ) (servers : List ServerAddr) (d : ServerAddr) → i < length servers → serves_from 0 (take (i + 1) servers) ≡ serves_from 0 (take i servers) ++ Serve i (get_or servers i d) ∷ []
serves_next i servers d within =
    let same : 0 + i ≡ i = omega arith in
    ap (λ n. serves_from 0 (take n servers)) (add-one i) ∙ serves_more 0 i servers d within ∙ ap (λ n. serves_from 0 (take i servers) ++ Serve n (get_or servers i d) ∷ []) same

-- the first servers
serves_prefix : (k i : ℕ) (servers : List ServerAddr) → IsPrefix (serves_from k (take i servers)) (serves_from k servers)
serves_prefix k zero servers = (serves_from k servers, refl)
serves_prefix k (suc i) [] = ([], refl)
serves_prefix k (suc i) (s ∷ servers) = let rest = serves_prefix (k + 1) i servers in (rest.0, ap (λ l. Serve k s ∷ l) rest.1)

module _ (servers : List ServerAddr) (i : ℕ) (l m n : Option (List WorldCall)) (so_far : m ≡ option_map (λ calls. calls ++ serves_from 0 (take i servers)) l) where
  pub opens_err : {T : Type 0} (keys : T → List ℕ) (result : Result T NoMemory) → is_err result ≡ true → n ≡ m → Opens keys servers result l n
  opens_err keys (Ok answer) err same = absurd (cc err)
  opens_err keys (Err fault) err same =
      told_by (λ calls. IsPrefix calls (serves_from 0 servers)) (serves_from 0 (take i servers)) (serves_prefix 0 i servers) l n (same ∙ so_far)

  pub opens_more : (d : ServerAddr) → i < length servers → Gets (Serve i (get_or servers i d)) m n → n ≡ option_map (λ calls. calls ++ serves_from 0 (take (i + 1) servers)) l
  opens_more d within got =
      log_trans (serves_from 0 (take i servers)) (Serve i (get_or servers i d) ∷ []) l m n so_far got ∙ ap (λ c. option_map (λ calls. calls ++ c) l) (sym (serves_next i servers d within))
