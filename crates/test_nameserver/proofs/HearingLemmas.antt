-- Questions that are noted, and messages that are cut from what a link carries.
use Rattle.std.proofs.Common.{get_or, ◌≡◌, ℕ, zero, suc, ◌+◌, ◌*◌, ◌<◌, ◌≤◌, Bool, true, false, cond, List, [], ◌∷◌, ◌++◌, length, map, take, drop, Option, Some, None, nat_lt, refl, ap, sym, ◌∙◌, append_assoc, append-nil, arith}
use Rattle.std.specs.Str.{bytes_eq}
use Rattle.std.specs.Global.{Vec}
use Rattle.std.specs.Prelude.{filter_map, option_to_list}
use Rattle.std.specs.List.{list_any, cons_option}
use Rattle.std.proofs.lemmas.List.Elements.{filter_map-append}
use Rattle.std.proofs.lemmas.List.{map-append, length-drop, take_more}
use Rattle.indexmap.specs.IndexSet.{insert_key}
use Rattle.test_nameserver.specs.Peer.{was_asked, noted, first_message, message_and, messages_within, messages_in}

-- a key is among some where its bytes are among theirs
pub any_keys : (bytes : List ℕ) (keys : List (Vec ℕ)) → list_any (λ key. bytes_eq bytes key.items) keys ≡ was_asked (map (λ key. key.items) keys) bytes
any_keys bytes [] = refl
any_keys bytes (key ∷ keys) = rw (any_keys bytes keys) refl

by_known : (known : Bool) (keys : List (Vec ℕ)) (key : Vec ℕ) → map (λ (other : Vec ℕ). other.items) (cond known keys (keys ++ key ∷ [])) ≡ cond known (map (λ (other : Vec ℕ). other.items) keys) (map (λ (other : Vec ℕ). other.items) keys ++ key.items ∷ [])
by_known true keys key = refl
by_known false keys key = map-append (λ (other : Vec ℕ). other.items) keys (key ∷ [])

-- a key that is inserted is noted
pub inserted_noted : (keys : List (Vec ℕ)) (key : Vec ℕ) → map (λ (other : Vec ℕ). other.items) (insert_key (λ x y. bytes_eq x.items y.items) keys key) ≡ noted (map (λ (other : Vec ℕ). other.items) keys) key.items
inserted_noted keys key = by_known (list_any (λ other. bytes_eq key.items other.items) keys) keys key ∙ rw (any_keys key.items keys) refl

cut_shorter : (short : Bool) (n : ℕ) (bytes : List ℕ) (first : List ℕ × List ℕ) → cond short None (Some (take n bytes, drop n bytes)) ≡ Some first → length first.1 ≤ length bytes
cut_shorter true n bytes first is = absurd (cc)
cut_shorter false n bytes first is = let same : first ≡ (take n bytes, drop n bytes) = cc in rw same (omega (arith, length-drop n bytes))

-- what stands behind a message is shorter
pub behind_shorter : (bytes : List ℕ) (first : List ℕ × List ℕ) → first_message bytes ≡ Some first → length first.1 < length bytes
behind_shorter [] first is = absurd (cc)
behind_shorter (high ∷ []) first is = absurd (cc)
behind_shorter (high ∷ low ∷ bytes) first is = omega (arith, cut_shorter (nat_lt (length bytes) (high * 256 + low)) (high * 256 + low) bytes first is)

empty_within : (n : ℕ) → messages_within n [] ≡ ([], [])
empty_within zero = refl
empty_within (suc n) = refl

mutual_none : (bytes : List ℕ) → length bytes ≤ 0 → bytes ≡ []
mutual_none [] few = refl
mutual_none (b ∷ bytes) few = absurd (omega (arith, few))

within_by : (n m : ℕ) (bytes : List ℕ) (found : Option (List ℕ × List ℕ)) → first_message bytes ≡ found → length bytes ≤ suc n → length bytes ≤ suc m
    → ((rest : List ℕ) → length rest ≤ n → length rest ≤ m → messages_within n rest ≡ messages_within m rest)
    → message_and (messages_within n) bytes found ≡ message_and (messages_within m) bytes found
within_by n m bytes None is a b same = refl
within_by n m bytes (Some first) is a b same =
    let shorter = behind_shorter bytes first is in
    rw (same first.1 (omega (arith, shorter)) (omega (arith, shorter))) refl

-- any number of messages will do that is enough
within_enough : (n m : ℕ) (bytes : List ℕ) → length bytes ≤ n → length bytes ≤ m → messages_within n bytes ≡ messages_within m bytes
within_enough zero m bytes a b = rw (mutual_none bytes a) (sym (empty_within m))
within_enough (suc n) zero bytes a b = rw (mutual_none bytes b) (empty_within (suc n))
within_enough (suc n) (suc m) bytes a b = within_by n m bytes (first_message bytes) refl a b (within_enough n m)

-- without a message in front, all is behind
pub no_message : (bytes : List ℕ) → first_message bytes ≡ None → messages_in bytes ≡ ([], bytes)
unfolding messages_in
no_message [] is = refl
no_message (b ∷ bytes) is = rw is refl

-- a message in front is the first
pub one_message : (bytes : List ℕ) (first : List ℕ × List ℕ) → first_message bytes ≡ Some first → messages_in bytes ≡ (first.0 ∷ (messages_in first.1).0, (messages_in first.1).1)
unfolding messages_in
one_message [] first is = absurd (cc)
one_message (b ∷ bytes) first is =
    let shorter = behind_shorter (b ∷ bytes) first is in
    rw (is, within_enough (length bytes) (length first.1) first.1 (omega (arith, shorter)) (omega arith)) refl

last_by : {A : Type 0} (found : Option A) → cons_option found [] ≡ option_to_list found
last_by None = refl
last_by (Some x) = refl

last_one : {A : Type 0} (ask : List ℕ → Option A) (message : List ℕ) → filter_map ask (message ∷ []) ≡ option_to_list (ask message)
last_one ask message = last_by (ask message)

-- what is heard of one message more
pub heard_more : {A B M : Type 0} (now : M → List ℕ) (ask : List ℕ → Option A) (f : A → B) (messages : List M) (i : ℕ) (d : M) (old new : List B) → i < length messages
    → old ≡ map f (filter_map ask (map now (take i messages))) → new ≡ old ++ map f (option_to_list (ask (now (get_or messages i d))))
    → new ≡ map f (filter_map ask (map now (take (i + 1) messages)))
heard_more now ask f messages i d old new within is more =
    more ∙ ap (λ (front : List _). front ++ map f (option_to_list (ask (now (get_or messages i d))))) is
    ∙ sym (ap (λ (all : List _). map f (filter_map ask (map now all))) (take_more messages i d within)
    ∙ ap (λ (all : List _). map f (filter_map ask all)) (map-append now (take i messages) (get_or messages i d ∷ []))
    ∙ ap (map f) (filter_map-append ask (map now (take i messages)) (now (get_or messages i d) ∷ []))
    ∙ map-append f (filter_map ask (map now (take i messages))) (filter_map ask (now (get_or messages i d) ∷ []))
    ∙ ap (λ (back : List _). map f (filter_map ask (map now (take i messages))) ++ map f back) (last_one ask (now (get_or messages i d))))

-- a message more, and the bytes behind it
pub next_message : (front : List (List ℕ)) (rest bytes : List ℕ) (first : List ℕ × List ℕ) → first_message rest ≡ Some first → front ++ (messages_in rest).0 ≡ (messages_in bytes).0 → (messages_in rest).1 ≡ (messages_in bytes).1
    → ((front ++ first.0 ∷ []) ++ (messages_in first.1).0 ≡ (messages_in bytes).0) × ((messages_in first.1).1 ≡ (messages_in bytes).1)
next_message front rest bytes first is all behind =
    let one = one_message rest first is in (
      append_assoc front (first.0 ∷ []) (messages_in first.1).0 ∙ ap (λ (found : List (List ℕ) × List ℕ). front ++ found.0) (sym one) ∙ all,
      ap (λ (found : List (List ℕ) × List ℕ). found.1) (sym one) ∙ behind,
    )

-- without a message in front these are all
pub all_messages : (front : List (List ℕ)) (rest bytes : List ℕ) → first_message rest ≡ None → front ++ (messages_in rest).0 ≡ (messages_in bytes).0 → (messages_in rest).1 ≡ (messages_in bytes).1
    → (front, rest) ≡ messages_in bytes
all_messages front rest bytes is all behind =
    let none = no_message rest is in
    let messages : front ≡ (messages_in bytes).0 = sym (append-nil front) ∙ ap (λ (found : List (List ℕ) × List ℕ). front ++ found.0) (sym none) ∙ all in
    let left : rest ≡ (messages_in bytes).1 = ap (λ (found : List (List ℕ) × List ℕ). found.1) (sym none) ∙ behind in
    λ i. (messages i, left i)
