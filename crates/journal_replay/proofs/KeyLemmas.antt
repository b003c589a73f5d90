-- Whether servers have the keys that they get by the rule, server by server.
use Rattle.std.proofs.Common.{ap, subst, sym, ⊎_elim, ◌∙◌}
use Rattle.std.proofs.lemmas.Bool.{cases_Bool}
use Rattle.std.specs.Prelude.{Bool, Decides, Err, IfOk, List, Ok, Result, Some, [], cond, false, find, map, true, ℕ, ◌∷◌, ◌≡◌}
use Rattle.chan_types.specs.declared.server_key.ServerKey.{ServerKey}
use Rattle.channel_model.proofs.ListLemmas.{none_is_some}
use Rattle.channel_model.proofs.TestLemmas.{server_decided}
use Rattle.channel_model.specs.Servers.{rekeyed, rekeyed_first, same_server, without_key}
use Rattle.item_list.specs.declared.no_memory.NoMemory.{NoMemory}
use Rattle.net_addr.specs.declared.addr.ServerAddr.{ServerAddr}
use Rattle.journal_replay.proofs.FollowLemmas.{some_same}

-- what is found for an address has it
found_has : (address : ServerAddr) (known : ServerKey) (left : List ServerKey) → find (λ (s : ServerKey). same_server s.address address) left ≡ Some known → known.address ≡ address
found_has address known [] is = none_is_some known is
found_has address known (s ∷ left) is = ⊎_elim
    (λ (here : same_server s.address address ≡ true).
    let one : s ≡ known = some_same s known (subst (λ b. cond b (Some s) (find (λ (x : ServerKey). same_server x.address address) left) ≡ Some known) here is) in
    ap (λ (x : ServerKey). x.address) (sym one) ∙ (server_decided s.address address).0 here)
    (λ (other : same_server s.address address ≡ false).
    found_has address known left (subst (λ b. cond b (Some s) (find (λ (x : ServerKey). same_server x.address address) left) ≡ Some known) other is))
    (cases_Bool (same_server s.address address))

-- two lists that begin with one item are one where their rests are
cons_decided : {A : Type 0} (x y : A) (xs ys : List A) (b : Bool) → x ≡ y → Decides b (xs ≡ ys) → Decides b (x ∷ xs ≡ y ∷ ys)
cons_decided x y xs ys b one rests = (λ e. λ k. one k ∷ rests.0 e k, λ e. rests.1 cc)

module _ (server : ServerKey) (rest left : List ServerKey) (greatest : ℕ) where
  -- these servers have their keys by the rule
  abbrev Are : Type 0
  Are = server ∷ rest ≡ rekeyed (map (λ s. s.address) (server ∷ rest)) left greatest

  -- the first of them stays, with this key
  module _ (known : ServerKey) (found : find (λ (s : ServerKey). same_server s.address server.address) left ≡ Some known) where
    stays : rekeyed (map (λ s. s.address) (server ∷ rest)) left greatest ≡ known ∷ rekeyed (map (λ s. s.address) rest) (without_key known.key left) greatest
    stays = ap (λ o. rekeyed_first o server.address (rekeyed (map (λ s. s.address) rest)) left greatest) found

    pub kept_if : (b : Bool) → known.key ≡ server.key → Decides b (rest ≡ rekeyed (map (λ s. s.address) rest) (without_key known.key left) greatest) → Decides b Are
    kept_if b same others =
        let one : server ≡ known = λ k. record { key = sym same k; address = sym (found_has server.address known left found) k } in
        subst (λ l. Decides b (server ∷ rest ≡ l)) (sym stays) (cons_decided server known rest _ b one others)

    -- the same of what a call answers for the others
    pub kept_result : (list left_then : List ServerKey) (result : Result Bool NoMemory) → list ≡ server ∷ rest → left_then ≡ without_key known.key left → known.key ≡ server.key
        → IfOk result (λ b. Decides b (rest ≡ rekeyed (map (λ s. s.address) rest) left_then greatest)) → IfOk result (λ b. Decides b (list ≡ rekeyed (map (λ s. s.address) list) left greatest))
    kept_result list left_then (Ok b) whole then same others =
        subst (λ (l : List ServerKey). Decides b (l ≡ rekeyed (map (λ s. s.address) l) left greatest)) (sym whole)
        (kept_if b same (subst (λ (l : List ServerKey). Decides b (rest ≡ rekeyed (map (λ s. s.address) rest) l greatest)) then others))
    kept_result list left_then (Err fault) whole then same others = tt
