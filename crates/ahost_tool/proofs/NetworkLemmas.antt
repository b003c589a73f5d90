-- The network of a load wakes in time, where no link is closed between a wait and the next receive; and its waits don't fail.
use Rattle.std.proofs.Common.{◌≡◌, ◌≢◌, ℕ, ◌≤◌, ◌⊎◌, inl, inr, Bool, true, false, List, [], ◌∷◌, ap, refl, sym, subst, arith}
use Rattle.std.proofs.lemmas.Bool.{and_from, and_parts, le-leb, or_left, or_right}
use Rattle.std.specs.List.{AllByRecursion, list_any}
use Rattle.std.specs.Option.{option_map_or}
use Rattle.std.specs.Prelude.{filter_map, nat_le, not, ◌&&◌}
use Rattle.channel_model.specs.Calls.{received_by}
use Rattle.channel_model.specs.Endings.{waited_by}
use Rattle.channel_model.specs.Lawful.{first}
use Rattle.channel_model.specs.Turn.{is_nothing}
use Rattle.channel_progress.specs.Waking.{is_in_time, read_by, wakes_in_time, woken_by}
use Rattle.net_world.specs.Cause.{is_not_waited}
use Rattle.net_world.specs.Script.{MayCome}
use Rattle.net_world.specs.declared.answers.Got.{Got}
use Rattle.net_world.specs.declared.answers.Got.TheVariants.{Datagram, Ended, Failed as LinkFailed, Nothing, Piece}
use Rattle.net_world.specs.declared.answers.Waited.TheVariants.{Failed as NotWaited, Woken}
use Rattle.net_world.specs.declared.log.WorldCall.{WorldCall}
use Rattle.net_world.specs.declared.log.WorldCall.TheVariants.{Close, Connect, Now, Receive, Send, Serve, Wait, Word, Write}
use Rattle.test_nameserver.specs.Peer.{PeerState}
use Rattle.test_nameserver.specs.PeerLog.{AreMade, Makes}
use Rattle.test_nameserver.proofs.Theorems.{clock_goes_on, is_woken, receives_some, stays_some, still_may_come, woken_well}

-- the first of these calls that receives or closes a link receives, if there is one
abbrev pub is_quiet : List WorldCall → Bool
is_quiet [] = true
is_quiet (Serve server address ∷ calls) = is_quiet calls
is_quiet (Now reading ∷ calls) = is_quiet calls
is_quiet (Word word ∷ calls) = is_quiet calls
is_quiet (Send server bytes outcome ∷ calls) = is_quiet calls
is_quiet (Connect server link outcome ∷ calls) = is_quiet calls
is_quiet (Write link bytes outcome ∷ calls) = is_quiet calls
is_quiet (Receive got ∷ calls) = true
is_quiet (Close link ∷ calls) = false
is_quiet (Wait until outcome ∷ calls) = is_quiet calls

-- so it is behind each wait
abbrev pub waits_quietly : List WorldCall → Bool
waits_quietly [] = true
waits_quietly (call ∷ calls) = option_map_or (λ until. is_quiet calls) (woken_by call) true && waits_quietly calls

-- what may come is something
comes_some : (got : Got) → MayCome got → is_nothing got ≡ false
comes_some (Datagram server bytes) may = refl
comes_some (Piece link bytes) may = refl
comes_some (Ended link) may = refl
comes_some Nothing may = absurd may
comes_some (LinkFailed server link) may = absurd may

-- where the clock has come to a moment, the next reading is at it or past it
clock_in_time : (until : ℕ) (calls : List WorldCall) (old last : PeerState) → AreMade calls old last → until ≤ old.clock → option_map_or (λ reading. nat_le until reading) (first (filter_map read_by calls)) true ≡ true
clock_in_time until [] old last made late = refl
clock_in_time until (Serve server address ∷ calls) old last made late = clock_in_time until calls made.0 last made.2 (omega (arith, late, clock_goes_on (Serve server address) old made.0 made.1))
clock_in_time until (Now reading ∷ calls) old last made late = le-leb until reading (subst (λ (n : ℕ). until ≤ n) (sym made.1.clock) late)
clock_in_time until (Word word ∷ calls) old last made late = clock_in_time until calls made.0 last made.2 (omega (arith, late, clock_goes_on (Word word) old made.0 made.1))
clock_in_time until (Send server bytes outcome ∷ calls) old last made late = clock_in_time until calls made.0 last made.2 (omega (arith, late, clock_goes_on (Send server bytes outcome) old made.0 made.1))
clock_in_time until (Connect server link outcome ∷ calls) old last made late = clock_in_time until calls made.0 last made.2 (omega (arith, late, clock_goes_on (Connect server link outcome) old made.0 made.1))
clock_in_time until (Write link bytes outcome ∷ calls) old last made late = clock_in_time until calls made.0 last made.2 (omega (arith, late, clock_goes_on (Write link bytes outcome) old made.0 made.1))
clock_in_time until (Receive got ∷ calls) old last made late = clock_in_time until calls made.0 last made.2 (omega (arith, late, clock_goes_on (Receive got) old made.0 made.1))
clock_in_time until (Close link ∷ calls) old last made late = clock_in_time until calls made.0 last made.2 (omega (arith, late, clock_goes_on (Close link) old made.0 made.1))
clock_in_time until (Wait other outcome ∷ calls) old last made late = clock_in_time until calls made.0 last made.2 (omega (arith, late, clock_goes_on (Wait other outcome) old made.0 made.1))

-- where something can be received and no link is closed before the next receive, that receives something
item_in_time : (calls : List WorldCall) (old last : PeerState) → AreMade calls old last → is_quiet calls ≡ true → AllByRecursion MayCome old.items → old.items ≢ [] → option_map_or (λ got. not (is_nothing got)) (first (filter_map received_by calls)) true ≡ true
item_in_time [] old last made quiet each some = refl
item_in_time (Serve server address ∷ calls) old last made quiet each some =
    item_in_time calls made.0 last made.2 quiet (still_may_come (Serve server address) old made.0 made.1 each) (stays_some (Serve server address) old made.0 refl made.1 some)
item_in_time (Now reading ∷ calls) old last made quiet each some =
    item_in_time calls made.0 last made.2 quiet (still_may_come (Now reading) old made.0 made.1 each) (stays_some (Now reading) old made.0 refl made.1 some)
item_in_time (Word word ∷ calls) old last made quiet each some =
    item_in_time calls made.0 last made.2 quiet (still_may_come (Word word) old made.0 made.1 each) (stays_some (Word word) old made.0 refl made.1 some)
item_in_time (Send server bytes outcome ∷ calls) old last made quiet each some =
    item_in_time calls made.0 last made.2 quiet (still_may_come (Send server bytes outcome) old made.0 made.1 each) (stays_some (Send server bytes outcome) old made.0 refl made.1 some)
item_in_time (Connect server link outcome ∷ calls) old last made quiet each some =
    item_in_time calls made.0 last made.2 quiet (still_may_come (Connect server link outcome) old made.0 made.1 each) (stays_some (Connect server link outcome) old made.0 refl made.1 some)
item_in_time (Write link bytes outcome ∷ calls) old last made quiet each some =
    item_in_time calls made.0 last made.2 quiet (still_may_come (Write link bytes outcome) old made.0 made.1 each) (stays_some (Write link bytes outcome) old made.0 refl made.1 some)
item_in_time (Receive got ∷ calls) old last made quiet each some = ap not (comes_some got (receives_some got old made.0 made.1 each some))
item_in_time (Close link ∷ calls) old last made quiet each some = absurd (cc quiet)
item_in_time (Wait until outcome ∷ calls) old last made quiet each some =
    item_in_time calls made.0 last made.2 quiet (still_may_come (Wait until outcome) old made.0 made.1 each) (stays_some (Wait until outcome) old made.0 refl made.1 some)

module _ (calls : List WorldCall) (old middle last : PeerState) (made : AreMade calls middle last) (each : AllByRecursion MayCome middle.items) where
  -- what stands behind a call is in time for it, if it waits
  awake : (call : WorldCall) → Makes call old middle → option_map_or (λ until. is_quiet calls) (woken_by call) true ≡ true → option_map_or (λ until. is_in_time until calls) (woken_by call) true ≡ true
  awake (Serve server address) makes quiet = refl
  awake (Now reading) makes quiet = refl
  awake (Word word) makes quiet = refl
  awake (Send server bytes outcome) makes quiet = refl
  awake (Connect server link outcome) makes quiet = refl
  awake (Write link bytes outcome) makes quiet = refl
  awake (Receive got) makes quiet = refl
  awake (Close link) makes quiet = refl
  awake (Wait until NotWaited) makes quiet = refl
  awake (Wait until Woken) makes quiet = by (woken_well until old middle Woken makes)
    where
      by : (middle.items ≢ []) ⊎ (until ≤ middle.clock) → is_in_time until calls ≡ true
      by (inl some) = or_left _ _ (item_in_time calls middle last made quiet each some)
      by (inr late) = or_right _ _ (clock_in_time until calls middle last made late)

-- calls of such a network wake in time
pub wakes : (calls : List WorldCall) (old last : PeerState) → AreMade calls old last → AllByRecursion MayCome old.items → waits_quietly calls ≡ true → wakes_in_time calls ≡ true
wakes [] old last made each quiet = refl
wakes (call ∷ calls) old last made each quiet =
    let parts = and_parts (option_map_or (λ until. is_quiet calls) (woken_by call) true) (waits_quietly calls) quiet in
    let later : AllByRecursion MayCome made.0.items = still_may_come call old made.0 made.1 each in
    and_from (option_map_or (λ until. is_in_time until calls) (woken_by call) true) (wakes_in_time calls)
    (awake calls old made.0 last made.2 later call made.1 parts.0) (wakes calls made.0 last made.2 later parts.1)

-- and no wait of them fails
pub none_failed : (calls : List WorldCall) (old last : PeerState) → AreMade calls old last → list_any is_not_waited (filter_map waited_by calls) ≡ false
none_failed [] old last made = refl
none_failed (Serve server address ∷ calls) old last made = none_failed calls made.0 last made.2
none_failed (Now reading ∷ calls) old last made = none_failed calls made.0 last made.2
none_failed (Word word ∷ calls) old last made = none_failed calls made.0 last made.2
none_failed (Send server bytes outcome ∷ calls) old last made = none_failed calls made.0 last made.2
none_failed (Connect server link outcome ∷ calls) old last made = none_failed calls made.0 last made.2
none_failed (Write link bytes outcome ∷ calls) old last made = none_failed calls made.0 last made.2
none_failed (Receive got ∷ calls) old last made = none_failed calls made.0 last made.2
none_failed (Close link ∷ calls) old last made = none_failed calls made.0 last made.2
none_failed (Wait until Woken ∷ calls) old last made = none_failed calls made.0 last made.2
none_failed (Wait until NotWaited ∷ calls) old last made = absurd (let never : NotWaited ≡ Woken = is_woken until old made.0 NotWaited made.1 in cc never)
