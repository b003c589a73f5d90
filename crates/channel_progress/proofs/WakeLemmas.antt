-- What stands behind a wait in a log whose network wakes in time.
use Rattle.std.proofs.Common.{◌≡◌, ◌∙◌, ℕ, ◌+◌, ◌≤◌, Bool, true, false, List, [], ◌∷◌, ◌++◌, Option, Some, None, refl, ap, ap₂, sym, cond, arith, length, length-append, inl, inr, true≢false}
use Rattle.std.proofs.lemmas.Bool.{and_parts, leb-true, or_parts}
use Rattle.std.proofs.lemmas.List.Elements.{filter_map-append}
use Rattle.std.proofs.lemmas.List.Sums.{sum_by-cons}
use Rattle.std.specs.List.{cons_option, list_any}
use Rattle.std.specs.Option.{option_map_or, option_to_list}
use Rattle.std.specs.Prelude.{filter_map, nat_le, not, sum_by, ◌||◌}
use Rattle.chan_types.specs.declared.journal.Entry.{Entry}
use Rattle.net_world.specs.Cause.{is_not_waited}
use Rattle.net_world.specs.declared.answers.Got.{Got}
use Rattle.net_world.specs.declared.answers.Got.TheVariants.{Nothing}
use Rattle.net_world.specs.declared.answers.Waited.{Waited}
use Rattle.net_world.specs.declared.answers.Waited.TheVariants.{Failed as NotWaited, Woken}
use Rattle.net_world.specs.declared.log.WorldCall.{WorldCall}
use Rattle.net_world.specs.declared.log.WorldCall.TheVariants.{Now, Wait}
use Rattle.channel_model.specs.Calls.{received_by}
use Rattle.channel_model.specs.Endings.{waited_by}
use Rattle.channel_model.specs.Lawful.{first}
use Rattle.channel_model.specs.Links.{Link, held_by, told}
use Rattle.channel_model.specs.Setting.{Setting}
use Rattle.channel_model.specs.Stretch.{Standing}
use Rattle.channel_model.specs.Turn.{IsTurn, IsWholeReceive, is_nothing, most_receives, received_in, receives}
use Rattle.channel_progress.specs.Waking.{is_in_time, read_by, wakes_in_time, woken_by}

-- what stands behind some calls wakes in time
pub wakes_behind : (xs ys : List WorldCall) → wakes_in_time (xs ++ ys) ≡ true → wakes_in_time ys ≡ true
wakes_behind [] ys e = e
wakes_behind (x ∷ xs) ys e = wakes_behind xs ys (and_parts (option_map_or (λ until. is_in_time until (xs ++ ys)) (woken_by x) true) (wakes_in_time (xs ++ ys)) e).1

-- and no wait of it failed
pub failed_behind : (xs ys : List WorldCall) → list_any is_not_waited (filter_map waited_by (xs ++ ys)) ≡ false → list_any is_not_waited (filter_map waited_by ys) ≡ false
failed_behind [] ys e = e
failed_behind (x ∷ xs) ys e = by_wait (waited_by x) e (failed_behind xs ys)
  where
    by_wait : (o : Option Waited) → list_any is_not_waited (cons_option o (filter_map waited_by (xs ++ ys))) ≡ false
        → (list_any is_not_waited (filter_map waited_by (xs ++ ys)) ≡ false → list_any is_not_waited (filter_map waited_by ys) ≡ false) → list_any is_not_waited (filter_map waited_by ys) ≡ false
    by_wait None e rest = rest e
    by_wait (Some waited) e rest = rest (or_parts (is_not_waited waited) (list_any is_not_waited (filter_map waited_by (xs ++ ys))) e).1

-- behind a wait that didn't fail the calls are in time for it
pub in_time_behind : (until : ℕ) (outcome : Waited) (calls : List WorldCall) → wakes_in_time (Wait until outcome ∷ calls) ≡ true → list_any is_not_waited (filter_map waited_by (Wait until outcome ∷ calls)) ≡ false → is_in_time until calls ≡ true
in_time_behind until Woken calls wakes failed = (and_parts (is_in_time until calls) (wakes_in_time calls) wakes).0
in_time_behind until NotWaited calls wakes failed = absurd (true≢false failed)

-- what is told to be received is what the calls received
receives_all : (held : List Link) (cs : List WorldCall) → told receives held cs ≡ filter_map received_by cs
receives_all held [] = refl
receives_all held (c ∷ cs) = by_call (received_by c) (receives_all (held_by held c) cs)
  where
    by_call : (got : Option Got) → told receives (held_by held c) cs ≡ filter_map received_by cs → option_to_list got ++ told receives (held_by held c) cs ≡ cons_option got (filter_map received_by cs)
    by_call None rest = rest
    by_call (Some got) rest = ap (λ l. got ∷ l) rest

-- calls of which the first to receive got this
abbrev pub FirstReceives : List WorldCall → Type 0
FirstReceives calls = (got : Got) × (gots : List Got) × (filter_map received_by calls ≡ got ∷ gots)

-- whoever receives whole receives at least once
received_first : (gots : List Got) → IsWholeReceive most_receives gots → (got : Got) × (more : List Got) × (gots ≡ got ∷ more)
received_first [] (inl ends) =
    let is : length {A = Got} [] ≡ length (ends.0.items ++ Nothing ∷ []) = ap length ends.0.gots_are in
    absurd (omega (arith, is, length-append ends.0.items (Nothing ∷ [])))
received_first [] (inr many) = let none : length {A = Got} [] ≡ 0 = refl in absurd (omega (arith, many.1, none))
received_first (got ∷ more) whole = (got, more, refl)

-- a turn receives
pub turn_receives : (setting : Setting) (seat reading : ℕ) (old new : Standing) (entries : List Entry) (calls : List WorldCall) → IsTurn setting seat reading old entries calls new → FirstReceives calls
turn_receives setting seat reading old new entries calls turn =
    let j = turn.parts in
    let here = received_first (told receives old.held j.calls_first) j.one.all in
    let first : filter_map received_by j.calls_first ≡ here.0 ∷ here.1 = sym (receives_all old.held j.calls_first) ∙ here.2 in (
      here.0,
      here.1 ++ filter_map received_by j.calls_then,
      ap (filter_map received_by) turn.calls_are ∙ ap (filter_map received_by) j.calls_are ∙ filter_map-append received_by j.calls_first j.calls_then ∙ ap (λ l. l ++ filter_map received_by j.calls_then) first,
    )

-- where a turn in time for a wait received nothing, its reading is at the wait's moment or past it
pub late_reading : (until reading : ℕ) (calls made later : List WorldCall) → calls ≡ Now reading ∷ made → FirstReceives calls → received_in calls ≡ 0 → is_in_time until (calls ++ later) ≡ true → until ≤ reading
late_reading until reading calls made later is received none in_time =
    let gots : filter_map received_by (calls ++ later) ≡ received.0 ∷ (received.1 ++ filter_map received_by later) = filter_map-append received_by calls later ∙ ap (λ l. l ++ filter_map received_by later) received.2 in
    let reads : filter_map read_by (calls ++ later) ≡ reading ∷ filter_map read_by (made ++ later) = ap (λ l. filter_map read_by (l ++ later)) is in
    let either : (not (is_nothing received.0) || nat_le until reading) ≡ true =
    sym (ap₂ (λ l m. option_map_or (λ got. not (is_nothing got)) (first l) true || option_map_or (λ r. nat_le until r) (first m) true) gots reads) ∙ in_time in
    let count : received_in calls ≡ cond (not (is_nothing received.0)) 1 0 + sum_by (λ got. cond (not (is_nothing got)) 1 0) received.1 =
    ap (sum_by (λ got. cond (not (is_nothing got)) 1 0)) received.2 ∙ sum_by-cons (λ got. cond (not (is_nothing got)) 1 0) received.0 received.1 in
    by_test (not (is_nothing received.0)) (sum_by (λ got. cond (not (is_nothing got)) 1 0) received.1) (sym count ∙ none) either
  where
    by_test : (b : Bool) (n : ℕ) → cond b 1 0 + n ≡ 0 → (b || nat_le until reading) ≡ true → until ≤ reading
    by_test true n few e = absurd (omega (arith, few))
    by_test false n few e = leb-true until reading e
