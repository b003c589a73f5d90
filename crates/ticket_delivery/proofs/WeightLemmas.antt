-- Deliveries come to their end: a request that is taken takes more weight away than what its callback commands brings.
use Rattle.std.proofs.Common.{◌≡◌, ◌≢◌, ◌∙◌, ◌≤◌, ◌<◌, ℕ, ◌+◌, ◌==◌, ◌&&◌, Bool, true, false, List, [], ◌∷◌, ◌++◌, Option, Some, None, cond, find, option_map, refl, ap, sym, arith, eq-eqb, eqb-true}
use Rattle.std.specs.Prelude.{option_to_list, sum_by}
use Rattle.std.specs.Option.{option_map_or}
use Rattle.std.specs.List.{AllByRecursion}
use Rattle.std.proofs.lemmas.List.{append-nil}
use Rattle.std.proofs.lemmas.List.Sums.{sum_by-append, sum_by-cons}
use Rattle.net_addr.specs.declared.addr.Addr.{Addr}
use Rattle.chan_types.specs.Gives.{commanded, commands_of, gives, is_for, is_ordered}
use Rattle.chan_types.specs.PlanCode.{moves_size, plan_size}
use Rattle.chan_types.specs.Plans.{Deed, Moves, Plan, ask, cancel, destroy, reverse, step, stop}
use Rattle.chan_types.specs.declared.answer.Answer.{Answer}
use Rattle.chan_types.specs.declared.journal.Entry.{Entry}
use Rattle.chan_types.specs.declared.journal.What.{What}
use Rattle.chan_types.specs.declared.orders.Orders.{Orders}
use Rattle.channel_model.specs.Completion.{occurrences, taken, taken_by}
use Rattle.channel_model.specs.Journal.{Accepted, Past, accepted, accepted_by, followed_by, script_of}
use Rattle.ticket_delivery.specs.Weight.{command_size, commands_size, script_size, scripts_size, size_left, weight}

-- one deed brings no more than the script inside it weighs
deed_size : (deed : Deed) (inside : Moves) (addresses : List Addr) → commands_size (commanded deed inside addresses) ≤ moves_size inside
deed_size (ask spec tag) inside addresses = omega arith
deed_size (reverse tag) inside [] = omega arith
deed_size (reverse tag) inside (address ∷ addresses) = omega arith
deed_size cancel inside addresses = omega arith
deed_size destroy inside addresses = omega arith

-- what a script gives weighs less than the script
moves_less : (moves : Moves) (answer : Answer) (orders : Orders) → commands_size (commands_of moves answer orders) < moves_size moves
moves_less stop answer orders = omega arith
moves_less (step when need deed inside rest) answer orders =
    let more = moves_less rest answer orders in
    let one = deed_size deed inside answer.addresses in
    by_test (is_for when answer.status && is_ordered need orders) more one
  where
    by_test : (b : Bool) → commands_size (commands_of rest answer orders) < moves_size rest → commands_size (commanded deed inside answer.addresses) ≤ moves_size inside →
        commands_size (cond b (commanded deed inside answer.addresses) [] ++ commands_of rest answer orders) < moves_size inside + moves_size rest + 1
    by_test true more one = omega (arith, more, one, sum_by-append command_size (commanded deed inside answer.addresses) (commands_of rest answer orders))
    by_test false more one = omega (arith, more)

pub gives_less : (plan : Plan) (answer : Answer) (orders : Orders) → commands_size (gives plan answer orders) < plan_size plan
gives_less plan answer orders = moves_less plan.moves answer orders

-- ---- what is left, behind an entry

-- a number that stands nowhere in a list stands nowhere in its beginning
fewer : (n : ℕ) (xs ms : List ℕ) → occurrences n (xs ++ ms) ≡ 0 → occurrences n xs ≡ 0
fewer n [] ms none = refl
fewer n (x ∷ xs) ms none = at (x == n) none (fewer n xs ms)
  where
    at : (b : Bool) → cond b (occurrences n (xs ++ ms) + 1) (occurrences n (xs ++ ms)) ≡ 0 → (occurrences n (xs ++ ms) ≡ 0 → occurrences n xs ≡ 0) → cond b (occurrences n xs + 1) (occurrences n xs) ≡ 0
    at true none rest = absurd (omega (arith, none))
    at false none rest = rest none

-- with more requests taken no more is left of a request
left_less : (ns ms : List ℕ) (r : Accepted) → size_left (ns ++ ms) r ≤ size_left ns r
left_less ns ms r = by (occurrences r.number (ns ++ ms) == 0) (occurrences r.number ns == 0) refl refl
  where
    by : (b c : Bool) → (occurrences r.number (ns ++ ms) == 0) ≡ b → (occurrences r.number ns == 0) ≡ c → cond b (plan_size r.script) 0 ≤ cond c (plan_size r.script) 0
    by true true more some = omega arith
    by true false more some = absurd (let h : true ≡ false = sym (eq-eqb (occurrences r.number ns) 0 (fewer r.number ns ms (eqb-true (occurrences r.number (ns ++ ms)) 0 more))) ∙ some in cc)
    by false true more some = omega arith
    by false false more some = omega arith

-- nor of several
all_left_less : (ns ms : List ℕ) (rs : List Accepted) → sum_by (size_left (ns ++ ms)) rs ≤ sum_by (size_left ns) rs
all_left_less ns ms [] = omega arith
all_left_less ns ms (r ∷ rs) = omega (arith, left_less ns ms r, all_left_less ns ms rs, sum_by-cons (size_left (ns ++ ms)) r rs, sum_by-cons (size_left ns) r rs)

-- of a request that is taken nothing is left
stands_last : (n : ℕ) (ns : List ℕ) → occurrences n (ns ++ n ∷ []) ≢ 0
stands_last n [] none = let one : cond (n == n) 1 0 ≡ 0 = none in let some : ◌≡◌ {A = ℕ} (cond (n == n) 1 0) 1 = ap (λ b. cond b 1 0) (eq-eqb n n refl) in absurd (omega (arith, one, some))
stands_last n (m ∷ ns) none = at (m == n) none (stands_last n ns)
  where
    at : (b : Bool) → cond b (occurrences n (ns ++ n ∷ []) + 1) (occurrences n (ns ++ n ∷ [])) ≡ 0 → (occurrences n (ns ++ n ∷ []) ≡ 0 → ⊥) → ⊥
    at true none rest = absurd (omega (arith, none))
    at false none rest = rest none

none_left : (n : ℕ) (ns : List ℕ) (r : Accepted) → r.number ≡ n → size_left (ns ++ n ∷ []) r ≡ 0
none_left n ns r same = by (occurrences r.number (ns ++ n ∷ []) == 0) refl
  where
    by : (b : Bool) → (occurrences r.number (ns ++ n ∷ []) == 0) ≡ b → cond b (plan_size r.script) 0 ≡ 0
    by true none = absurd (stands_last n ns (ap (λ m. occurrences m (ns ++ n ∷ [])) (sym same) ∙ eqb-true (occurrences r.number (ns ++ n ∷ [])) 0 none))
    by false some = refl

-- and all was before
all_was_left : (n : ℕ) (ns : List ℕ) (r : Accepted) → r.number ≡ n → occurrences n ns ≡ 0 → size_left ns r ≡ plan_size r.script
all_was_left n ns r same none = ap (λ b. cond b (plan_size r.script) 0) (eq-eqb (occurrences r.number ns) 0 (ap (λ m. occurrences m ns) same ∙ none))

-- so a request that is taken takes the weight of its script away
taken_less : (n : ℕ) (ns : List ℕ) (script : Plan) (rs : List Accepted) → occurrences n ns ≡ 0 → option_map (λ r. r.script) (find (λ r. r.number == n) rs) ≡ Some script →
    sum_by (size_left (ns ++ n ∷ [])) rs + plan_size script ≤ sum_by (size_left ns) rs
taken_less n ns script [] none found = absurd (cc found)
taken_less n ns script (r ∷ rs) none found = by (r.number == n) refl found (taken_less n ns script rs none)
  where
    split : sum_by (size_left (ns ++ n ∷ [])) (r ∷ rs) ≡ size_left (ns ++ n ∷ []) r + sum_by (size_left (ns ++ n ∷ [])) rs
    split = sum_by-cons (size_left (ns ++ n ∷ [])) r rs

    split_old : sum_by (size_left ns) (r ∷ rs) ≡ size_left ns r + sum_by (size_left ns) rs
    split_old = sum_by-cons (size_left ns) r rs

    by : (b : Bool) → (r.number == n) ≡ b → option_map (λ q. q.script) (cond b (Some r) (find (λ q. q.number == n) rs)) ≡ Some script →
        (option_map (λ q. q.script) (find (λ q. q.number == n) rs) ≡ Some script → sum_by (size_left (ns ++ n ∷ [])) rs + plan_size script ≤ sum_by (size_left ns) rs) →
        sum_by (size_left (ns ++ n ∷ [])) (r ∷ rs) + plan_size script ≤ sum_by (size_left ns) (r ∷ rs)
    by true is found rest =
        let same : r.number ≡ n = eqb-true r.number n is in
        let script_is : r.script ≡ script = let h : Some r.script ≡ Some script = found in cc in
        omega (arith, split, split_old, none_left n ns r same, all_was_left n ns r same none, ap plan_size script_is, all_left_less ns (n ∷ []) rs)
    by false is found rest = omega (arith, split, split_old, left_less ns (n ∷ []) r, rest found)

pub take_weighs : (past : Past) (n : ℕ) (script : Plan) → occurrences n (taken past) ≡ 0 → script_of n past ≡ Some script → weight (What.Take n ∷ past) + plan_size script ≤ weight past
take_weighs past n script none found =
    let same : accepted (What.Take n ∷ past) ≡ accepted past = append-nil (accepted past) in
    omega (arith, taken_less n (taken past) script (accepted past) none found, ap (sum_by (size_left (taken past ++ n ∷ []))) same)

-- an entry that takes nothing brings at most its script
entry_weighs : (past : Past) (e : Entry) → taken_by e.what ≡ None → weight (e.what ∷ past) ≤ weight past + script_size e
entry_weighs past e none =
    let takes : taken (e.what ∷ past) ≡ taken past = ap (λ found. taken past ++ option_to_list found) none ∙ append-nil (taken past) in
    let is : weight (e.what ∷ past) ≡ sum_by (size_left (taken past)) (accepted past ++ option_to_list (accepted_by e.what)) = ap (λ ns. sum_by (size_left ns) (accepted past ++ option_to_list (accepted_by e.what))) takes in
    omega (arith, is, sum_by-append (size_left (taken past)) (accepted past) (option_to_list (accepted_by e.what)), one (accepted_by e.what))
  where
    at_most : (b : Bool) (n : ℕ) → cond b n 0 ≤ n
    at_most true n = omega arith
    at_most false n = omega arith

    one : (found : Option Accepted) → sum_by (size_left (taken past)) (option_to_list found) ≤ option_map_or (λ r. plan_size r.script) found 0
    one None = omega arith
    one (Some r) = omega (arith, sum_by-cons (size_left (taken past)) r [], at_most (occurrences r.number (taken past) == 0) (plan_size r.script))

pub entries_weigh : (past : Past) (es : List Entry) → AllByRecursion (λ e. taken_by e.what ≡ None) es → weight (followed_by past es) ≤ weight past + scripts_size es
entries_weigh past [] none = omega arith
entries_weigh past (e ∷ es) none = omega (arith, entries_weigh (e.what ∷ past) es none.1, entry_weighs past e none.0, sum_by-cons script_size e es)
