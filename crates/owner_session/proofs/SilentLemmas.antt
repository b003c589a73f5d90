-- Callbacks that command nothing: where all requests that were asked on nobody's command have such, nobody commands an entry.
use Rattle.std.proofs.Common.{◌≡◌, ℕ, ◌==◌, true, false, cond, Bool, List, [], ◌∷◌, ◌++◌, Option, Some, None, find, option_map, refl, ap, subst}
use Rattle.std.proofs.lemmas.List.Elements.{filter_map-append}
use Rattle.std.specs.List.{AllByRecursion, cons_option, list_all}
use Rattle.std.specs.Prelude.{option_to_list}
use Rattle.chan_types.specs.Gives.{commands_of, gives}
use Rattle.chan_types.specs.Plans.{Plan, stop}
use Rattle.chan_types.specs.declared.answer.Answer.{Answer}
use Rattle.chan_types.specs.declared.journal.Entry.{Entry}
use Rattle.chan_types.specs.declared.orders.Orders.{Orders}
use Rattle.channel_model.specs.Commands.{AllBecame, Asking, Outcome, accepted_for, asking_in, positions_from}
use Rattle.channel_model.specs.Journal.{Accepted, Past, accepted, accepted_by, followed_by, past_of, script_of}
use Rattle.channel_model.specs.Setting.{Setting}
use Rattle.owner_session.specs.Asked.{AreSilent}
use Rattle.seat_laws.proofs.ListLemmas.{first_passes}
use Rattle.owner_session.proofs.ListLemmas.{each_front, each_of}

-- what was accepted on a request's command, by parts
pub accepted_parts : (by : ℕ) (xs ys : List Entry) → accepted_for by (xs ++ ys) ≡ accepted_for by xs ++ accepted_for by ys
accepted_parts by xs ys = filter_map-append (λ entry. cond (entry.by == by) (asking_in entry.what) None) xs ys

-- the first of silent requests are silent
pub silent_front : (xs ys : List Entry) → AreSilent (accepted_for 0 (xs ++ ys)) → AreSilent (accepted_for 0 xs)
silent_front xs ys silent =
    each_front (λ asking. asking.script.moves ≡ stop) (accepted_for 0 xs) (accepted_for 0 ys) (subst AreSilent (accepted_parts 0 xs ys) silent)

-- ---- the scripts of a journal in which nobody commands an entry

-- the request's script has no step
abbrev HasNoStep : Accepted → Type 0
HasNoStep request = request.script.moves ≡ stop

-- the first entry accepts such a request, or none, and so do the others
first_silent : (b : Bool) (found : Option Accepted) (rest : List Asking) → b ≡ true →
    AreSilent (cons_option (cond b (option_map (λ request. record { spec = request.spec; script = request.script }) found) None) rest) → AllByRecursion HasNoStep (option_to_list found) × AreSilent rest
first_silent true None rest is silent = (tt, silent)
first_silent true (Some request) rest is silent = ((silent.0, tt), silent.1)
first_silent false found rest is silent = absurd (cc is)

accepted_silent : (past : Past) (es : List Entry) → AllByRecursion HasNoStep (accepted past) → list_all (λ e. e.by == 0) es ≡ true → AreSilent (accepted_for 0 es) → AllByRecursion HasNoStep (accepted (followed_by past es))
accepted_silent past [] before own silent = before
accepted_silent past (e ∷ es) before own silent =
    let now = first_passes (λ x. x.by == 0) e es own in
    let here = first_silent (e.by == 0) (accepted_by e.what) (accepted_for 0 es) now.0 silent in
    accepted_silent (e.what ∷ past) es (each_of HasNoStep (accepted past) (option_to_list (accepted_by e.what)) before here.0) now.1 here.1

found_silent : (number : ℕ) (requests : List Accepted) (script : Plan) → AllByRecursion HasNoStep requests → option_map (λ request. request.script) (find (λ request. request.number == number) requests) ≡ Some script → script.moves ≡ stop
found_silent number [] script silent is = absurd (cc is)
found_silent number (r ∷ requests) script silent is = by (found_silent number requests script silent.1) (r.number == number) is
  where
    by : (option_map (λ (request : Accepted). request.script) (find (λ request. request.number == number) requests) ≡ Some script → script.moves ≡ stop) →
        (b : Bool) → option_map (λ (request : Accepted). request.script) (cond b (Some r) (find (λ request. request.number == number) requests)) ≡ Some script → script.moves ≡ stop
    by others true same = let it : r.script ≡ script = (let h : Some r.script ≡ Some script = same in cc) in subst (λ (s : Plan). s.moves ≡ stop) it silent.0
    by others false same = others same

pub script_silent : (journal : List Entry) (number : ℕ) (script : Plan) → list_all (λ e. e.by == 0) journal ≡ true → AreSilent (accepted_for 0 journal) → script_of number (past_of journal) ≡ Some script → script.moves ≡ stop
script_silent journal number script own silent is = found_silent number (accepted (past_of journal)) script (accepted_silent [] journal tt own silent) is

-- ---- what such a script commands

pub gives_none : (script : Plan) (answer : Answer) (orders : Orders) → script.moves ≡ stop → gives script answer orders ≡ []
gives_none script answer orders silent = ap (λ moves. commands_of moves answer orders) silent

pub outcomes_none : (setting : Setting) (journal : List Entry) (from : ℕ) (outcomes : List Outcome) → AllBecame setting journal from [] outcomes → outcomes ≡ []
outcomes_none setting journal from [] became = refl
outcomes_none setting journal from (o ∷ outcomes) became = absurd became

-- entries without positions are none
pub entries_none : (from : ℕ) (es : List Entry) → positions_from (λ entry. true) from es ≡ [] → es ≡ []
entries_none from [] is = refl
entries_none from (e ∷ es) is = absurd (cc is)
