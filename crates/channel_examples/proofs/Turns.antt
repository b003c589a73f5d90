-- What is no turn: calls or entries out of order, another moment, and parts that were left undone or overdone, each refused by one condition alone.
use Rattle.std.proofs.Common.{◌≡◌, ℕ, List, [], ◌∷◌, ◌++◌, Bool, true, false, ◌||◌, None, ◌≤◌, refl, ap, arith, inl, inr}
use Rattle.std.specs.List.{list_any}
use Rattle.std.specs.Prelude.{IsFalse, replicate}
use Rattle.chan_types.specs.declared.journal.Entry.{Entry}
use Rattle.chan_types.specs.declared.journal.What.TheVariants.{Start, Arrive, Expire, Take}
use Rattle.net_world.specs.declared.answers.Got.{Got}
use Rattle.net_world.specs.declared.answers.Got.TheVariants.{Ended, Nothing}
use Rattle.net_world.specs.declared.answers.Waited.TheVariants.{Woken}
use Rattle.net_world.specs.declared.answers.Wrote.TheVariants.{Count}
use Rattle.net_world.specs.declared.log.WorldCall.{WorldCall}
use Rattle.net_world.specs.declared.log.WorldCall.TheVariants.{Now, Word, Write, Receive, Close, Wait}
use Rattle.channel_model.specs.Stretch.{Standing}
use Rattle.channel_model.specs.Turn.{receiving, writing, closing, WasCut, HasReceived, HasWritten, HasClosed, EndsWithNothing, IsPartialReceive, IsTurn, IsWholeReceive, is_nothing, most_receives}
use Rattle.channel_examples.proofs.TruncatedReply.{setting, stands, link_with}
use Rattle.channel_examples.proofs.TurnTests.{turn_calls, turn_entries}
use Rattle.channel_examples.proofs.Words.{own}
use Rattle.dns_message.specs.NameText as NameText
use Rattle.dns_message.specs.Reading as Reading

-- ---- calls out of order, whatever stands before and behind

-- a turn doesn't wait
pub wait_inside : (a b : Standing) (es : List Entry) → IsTurn setting 0 0 a es (Now 0 ∷ Receive Nothing ∷ Wait 20 Woken ∷ []) b → ⊥
wait_inside a b es turn = cc (turn_calls setting 0 0 a es (Receive Nothing ∷ Wait 20 Woken ∷ []) b turn)

-- it reads the clock once
pub second_reading : (a b : Standing) (es : List Entry) → IsTurn setting 0 0 a es (Now 0 ∷ Receive Nothing ∷ Now 1 ∷ []) b → ⊥
second_reading a b es turn = cc (turn_calls setting 0 0 a es (Receive Nothing ∷ Now 1 ∷ []) b turn)

pub other_reading : (a b : Standing) (es : List Entry) → IsTurn setting 0 0 a es (Now 1 ∷ Receive Nothing ∷ []) b → ⊥
other_reading a b es turn = cc turn.calls_are

-- it receives before it starts
pub late_receive : (a b : Standing) (es : List Entry) → IsTurn setting 0 0 a es (Now 0 ∷ Receive Nothing ∷ Word 7 ∷ Receive Nothing ∷ []) b → ⊥
late_receive a b es turn = cc (turn_calls setting 0 0 a es (Receive Nothing ∷ Word 7 ∷ Receive Nothing ∷ []) b turn)

-- it writes behind all starts
pub early_write : (a b : Standing) (es : List Entry) → IsTurn setting 0 0 a es (Now 0 ∷ Receive Nothing ∷ Write 1 (5 ∷ []) (Count 1) ∷ Word 7 ∷ []) b → ⊥
early_write a b es turn = cc (turn_calls setting 0 0 a es (Receive Nothing ∷ Write 1 (5 ∷ []) (Count 1) ∷ Word 7 ∷ []) b turn)

-- ---- entries out of order

-- each moment is the turn's reading
pub other_moment : (a b : Standing) (cs : List WorldCall) → IsTurn setting 0 0 a (own (Start 1 0 0 0 7 None 1) ∷ []) cs b → ⊥
other_moment a b cs turn = cc (turn_entries setting 0 0 a (own (Start 1 0 0 0 7 None 1) ∷ []) cs b turn)

-- it doesn't expire before it has received
pub early_expiry : (a b : Standing) (cs : List WorldCall) → IsTurn setting 0 2000 a (own (Expire 1 0 2000) ∷ own (Arrive 0 0 []) ∷ []) cs b → ⊥
early_expiry a b cs turn = cc (turn_entries setting 0 2000 a (own (Expire 1 0 2000) ∷ own (Arrive 0 0 []) ∷ []) cs b turn)

-- nor behind a start
pub late_expiry : (a b : Standing) (cs : List WorldCall) → IsTurn setting 0 2000 a (own (Start 1 0 0 0 7 None 2000) ∷ own (Expire 2 0 2000) ∷ []) cs b → ⊥
late_expiry a b cs turn = cc (turn_entries setting 0 2000 a (own (Start 1 0 0 0 7 None 2000) ∷ own (Expire 2 0 2000) ∷ []) cs b turn)

-- what a turn doesn't make stands behind it
pub take_inside : (a b : Standing) (cs : List WorldCall) → IsTurn setting 0 0 a (own (Take 1) ∷ []) cs b → ⊥
take_inside a b cs turn = cc (turn_entries setting 0 0 a (own (Take 1) ∷ []) cs b turn)

-- ---- receiving

-- a list with a Nothing at its end has one
has_nothing : (gots : List Got) → list_any is_nothing (gots ++ Nothing ∷ []) ≡ true
has_nothing [] = refl
has_nothing (got ∷ gots) = by_test (is_nothing got) (has_nothing gots)
  where
    by_test : (b : Bool) → list_any is_nothing (gots ++ Nothing ∷ []) ≡ true → (b || list_any is_nothing (gots ++ Nothing ∷ [])) ≡ true
    by_test true h = refl
    by_test false h = h

-- so one without doesn't end so
ends_without : (gots : List Got) → IsFalse (list_any is_nothing gots) → EndsWithNothing gots → ⊥
ends_without gots none ends = cc (none, ap (list_any is_nothing) ends.gots_are, has_nothing ends.items)

-- so many receives, none of them of nothing
abbrev pub busy : ℕ → List Got
busy count = replicate count (Ended 9)

-- 64 receives are enough, and with one less a turn goes on up to the first Nothing
pub sixty_four : IsWholeReceive most_receives (busy 64)
sixty_four = inr (refl, refl)

pub sixty_three : IsWholeReceive most_receives (busy 63) → ⊥
sixty_three (inl ends) = ends_without (busy 63) refl ends.0
sixty_three (inr full) = let count : ◌≡◌ {A = ℕ} 63 64 = full.1 in omega (arith, count)

-- there is no 65th, also where the turn was cut short
pub sixty_five : IsWholeReceive most_receives (busy 65) → ⊥
sixty_five (inl ends) = ends_without (busy 65) refl ends.0
sixty_five (inr full) = let count : ◌≡◌ {A = ℕ} 65 64 = full.1 in omega (arith, count)

pub sixty_five_cut : IsPartialReceive (busy 65) → ⊥
sixty_five_cut part = let few : 65 ≤ 64 = part.few in omega (arith, few)

-- behind a Nothing it doesn't receive
pub behind_nothing : IsWholeReceive most_receives (Nothing ∷ Nothing ∷ []) → ⊥
behind_nothing (inl ends) = by_items ends.0.items ends.0.gots_are ends.0.no_earlier
  where
    by_items : (items : List Got) → Nothing ∷ Nothing ∷ [] ≡ items ++ Nothing ∷ [] → IsFalse (list_any is_nothing items) → ⊥
    by_items [] same none = cc same
    by_items (got ∷ items) same none = let is : got ≡ Nothing = cc same in cc (none, is)
behind_nothing (inr full) = cc full.0

-- a held link that ends is closed
pub ended_not_closed : (es : List Entry) (new : Standing) → HasReceived setting 0 2 (stands 4 (link_with [])) es (Receive (Ended 1) ∷ Receive Nothing ∷ []) new → ⊥
ended_not_closed es new made = cc made.closed

-- ---- writing and closing

-- a write goes to a held link
pub to_no_link : (es : List Entry) (new : Standing) → HasWritten setting 0 1 (stands 4 (link_with [])) es (Write 2 (5 ∷ []) (Count 1) ∷ []) new → ⊥
to_no_link es new made = cc made.to_held

-- a link over which no attempt is in flight is closed
pub idle_kept : (new : Standing) → HasClosed setting 0 3 (stands 5 (link_with [])) [] [] new → ⊥
unfolding NameText.units_of Reading.message_read Reading.question_of Reading.record_of Reading.name_of Reading.run_of
idle_kept new made = cc made.all

-- and one over which an attempt is in flight isn't
pub busy_closed : (new : Standing) → HasClosed setting 0 2 (stands 4 (link_with [])) [] (Close 1 ∷ []) new → ⊥
unfolding NameText.units_of Reading.message_read Reading.question_of Reading.record_of Reading.name_of Reading.run_of
busy_closed new made = cc made.all

-- nor is one that isn't held
pub other_closed : (new : Standing) → HasClosed setting 0 2 (stands 4 (link_with [])) [] (Close 2 ∷ []) new → ⊥
other_closed new made = cc made.closed

-- ---- parts that were cut short

-- of the links that ended the first are closed
pub cut_close : (es : List Entry) → WasCut setting 0 2 receiving (stands 4 (link_with [])) es (Receive (Ended 1) ∷ Close 2 ∷ []) → ⊥
cut_close es cut = let first : Close 2 ≡ Close 1 = ap Close (heads cut.by_rule.1.1) in cc first
  where
    heads : {rest : List ℕ} → (2 ∷ []) ++ rest ≡ 1 ∷ [] → ◌≡◌ {A = ℕ} 2 1
    heads same = cc same

-- no busy one is closed
pub cut_busy_closed : (es : List Entry) → WasCut setting 0 2 closing (stands 4 (link_with [])) [] (Close 1 ∷ []) → ⊥
unfolding NameText.units_of Reading.message_read Reading.question_of Reading.record_of Reading.name_of Reading.run_of
cut_busy_closed es cut = cc cut.by_rule.1

-- and no query is written to a link that isn't held
pub cut_to_no_link : (es : List Entry) → WasCut setting 0 1 writing (stands 4 (link_with [])) es (Write 2 (5 ∷ []) (Count 1) ∷ []) → ⊥
cut_to_no_link es cut = cc cut.by_rule.0
