-- What a runner, its pauses and deliveries do to a pass: each request that is taken is told its answer, and beside takings, turns and what callbacks command nothing is done.
use Rattle.std.proofs.Common.{◌≡◌, ◌≢◌, ◌∙◌, ◌+◌, ◌<◌, ◌==◌, ℕ, zero, suc, true, List, [], ◌∷◌, Option, Some, None, Result, Ok, Err, length, refl, ap, sym, subst, arith, ne_eqb}
use Rattle.std.proofs.lemmas.Bool.{and_parts}
use Rattle.std.specs.List.{list_all, range_with_len}
use Rattle.std.specs.Prelude.{not}
use Rattle.chan_types.specs.declared.answer.Answer.{Answer}
use Rattle.chan_types.specs.declared.journal.Entry.{Entry}
use Rattle.chan_types.specs.declared.journal.What.{What}
use Rattle.chan_types.specs.declared.journal.What.TheVariants.{Accept, Arrive, Cancel, Destroy, Expire, Fault, Servers, Start, Take}
use Rattle.chan_types.specs.declared.orders.Orders.{Orders}
use Rattle.chan_types.specs.declared.ticket.Ticket.{Ticket}
use Rattle.channel_model.proofs.Theorems.{each-then, goes_on_trans, requests_numbered, unasked_fate}
use Rattle.channel_model.specs.Completion.{fate, occurrences}
use Rattle.channel_model.specs.Course.{is_of_turn}
use Rattle.channel_model.specs.Journal.{accepted, own_entries, past_of}
use Rattle.channel_model.specs.Known.{Calls, GoesOn, Known}
use Rattle.channel_model.specs.Lawful.{IsLawful}
use Rattle.channel_model.specs.Meanings.{Takes, TellsCounts}
use Rattle.channel_model.specs.Seen.{entries_of}
use Rattle.channel_model.specs.Setting.{Setting}
use Rattle.channel_model.specs.Turn.{parts_of_entry}
use Rattle.channel_model.specs.declared.answers.Counts.{Counts}
use Rattle.channel_table.specs.Commanded.{IsOfCommand}
use Rattle.completion_ticket.specs.States.{CallbackState, CalledState}
use Rattle.event_runner.specs.Goes.{AreMadeInTurns, Break, Ends, Stretch, is_made_in_turn}
use Rattle.event_runner.specs.Running.{HasLooked, Pauses, Running, run_of}
use Rattle.event_runner.specs.declared.answers.Paused.{Paused}
use Rattle.event_runner.specs.declared.answers.Paused.TheVariants.{Skipped, WaitFault, Woken}
use Rattle.item_list.specs.declared.no_memory.NoMemory.{NoMemory}
use Rattle.net_world.specs.declared.log.WorldCall.{WorldCall}
use Rattle.shared_channel.specs.Passes.{PassView, desk_of}
use Rattle.shared_channel.specs.Spending.{DeliversOne}
use Rattle.shared_channel.specs.Under.{plan_of}
use Rattle.shared_channel.proofs.Theorems.{fate_later, stays_counts, stays_delivery, stays_looks, stays_more, stays_none, stays_turns}
use Rattle.thread_lookups.specs.Asking.{use_by, uses_in, free_use}
use Rattle.thread_lookups.specs.Passing.{OnlyRuns}
use Rattle.thread_lookups.proofs.AskLemmas.{uses_kept, command_uses, event_uses, none_used}

-- by nothing, and by one part behind another
pub nothing_asked : (pass : PassView) → OnlyRuns pass pass
nothing_asked pass = record { stays = stays_none pass; uses = refl }

pub nothing_more : (a b c : PassView) → OnlyRuns a b → OnlyRuns b c → OnlyRuns a c
nothing_more a b c one two = record { stays = stays_more a b c one.stays two.stays; uses = two.uses ∙ one.uses }

-- by looks
looks_ask : (old new : PassView) → HasLooked (desk_of old) (desk_of new) → OnlyRuns old new
looks_ask old new looked = record { stays = stays_looks old new looked.goes_on looked.own; uses = ap uses_in looked.own }

-- what only a turn makes is no use of the channel
turn_asks : (what : What) → not (length (parts_of_entry what) == 0) ≡ true → use_by what ≡ None
turn_asks (Accept number spec script) of_turn = absurd (cc of_turn)
turn_asks Cancel of_turn = absurd (cc of_turn)
turn_asks Destroy of_turn = absurd (cc of_turn)
turn_asks (Take number) of_turn = refl
turn_asks (Start number leg server link id mix moment) of_turn = refl
turn_asks (Arrive server link bytes) of_turn = refl
turn_asks (Expire number leg moment) of_turn = refl
turn_asks (Fault server link moment) of_turn = refl
turn_asks (Servers list) of_turn = absurd (cc of_turn)

turns_ask : (es : List Entry) → list_all is_made_in_turn es ≡ true → uses_in es ≡ []
turns_ask [] all = refl
turns_ask (e ∷ es) all =
    let parts = and_parts (is_made_in_turn e) (list_all is_made_in_turn es) all in
    rw (event_uses e (turn_asks e.what (and_parts (is_of_turn e) (e.by == 0) parts.0).0)) (turns_ask es parts.1)

turns_are : (es : List Entry) → list_all is_made_in_turn es ≡ true → list_all is_of_turn es ≡ true
turns_are [] all = refl
turns_are (e ∷ es) all =
    let parts = and_parts (is_made_in_turn e) (list_all is_made_in_turn es) all in
    rw ((and_parts (is_of_turn e) (e.by == 0) parts.0).0) (turns_are es parts.1)

went_by_turns : (old new : PassView) (goes : GoesOn (desk_of old) (desk_of new)) → AreMadeInTurns old.number goes.since → OnlyRuns old new
went_by_turns old new goes made = record {
  stays = stays_turns old new goes (turns_are (own_entries old.number goes.since) made);
  uses = uses_kept old.own new.own (own_entries old.number goes.since) goes.own (turns_ask (own_entries old.number goes.since) made);
}

-- by a turn, whatever it answers
pub turn_asks_nothing : {T : Type 0} (whole : T → Stretch) (cut : Break) (result : Result T NoMemory) (old new : PassView) (was is : Running) (before after : Option (List WorldCall)) →
    Ends whole cut result (run_of (desk_of old) was before) (run_of (desk_of new) is after) → OnlyRuns old new
turn_asks_nothing whole cut (Ok answer) old new was is before after ends = went_by_turns old new ends.goes_on ends.made
turn_asks_nothing whole cut (Err fault) old new was is before after ends = went_by_turns old new ends.goes_on ends.made

-- by two looks
looked_twice : (old middle new : Known) → HasLooked old middle → HasLooked middle new → HasLooked old new
looked_twice old middle new one two = record {
  goes_on = goes_on_trans old middle new one.goes_on two.goes_on;
  own = two.own ∙ one.own;
  names = two.names ∙ one.names;
}

-- by a pause, whatever it answers
pub pause_asks_nothing : (latest : ℕ) (result : Result Paused NoMemory) (old new : PassView) (before after : Option (List WorldCall)) → Pauses latest result (desk_of old) (desk_of new) before after → OnlyRuns old new
pause_asks_nothing latest (Ok Skipped) old new before after pauses = looks_ask old new pauses.looked
pause_asks_nothing latest (Ok Woken) old new before after pauses = looks_ask old new (looked_twice (desk_of old) pauses.middle (desk_of new) pauses.looked pauses.looked_again)
pause_asks_nothing latest (Ok WaitFault) old new before after pauses = looks_ask old new (looked_twice (desk_of old) pauses.middle (desk_of new) pauses.looked pauses.looked_again)
pause_asks_nothing latest (Err fault) old new before after pauses = looks_ask old new pauses.0

-- by a look at the counts
pub counts_ask : (counts : Counts) (old new : PassView) → Calls (TellsCounts counts) 0 (desk_of old) (desk_of new) → OnlyRuns old new
counts_ask counts old new call = record {
  stays = stays_counts counts old new call;
  uses = uses_kept old.own new.own (entries_of old.number 0 call.added) call.own (ap (λ added. uses_in (entries_of old.number 0 added)) call.meant.nothing);
}

-- no request has the number 0
zero_above : (from count : ℕ) → 0 < from → occurrences 0 (range_with_len from count) ≡ 0
zero_above from zero some = refl
zero_above from (suc count) some = rw (ne_eqb from 0 (λ e. omega (arith, some, e))) (zero_above (from + 1) count (omega arith))

some_none : (o : Option Answer) (answer : Answer) → o ≡ Some answer → o ≢ None
some_none None answer is none = absurd (cc is)
some_none (Some other) answer is none = absurd (cc none)

fate_numbered : (setting : Setting) (request : ℕ) (answer : Answer) (journal : List Entry) → IsLawful setting journal → fate setting request (past_of journal) ≡ Some answer → request ≢ 0
fate_numbered setting request answer journal lawful is zero_is =
    let none : occurrences request (range_with_len 1 (length (accepted (past_of journal)))) ≡ 0 =
    ap (λ n. occurrences n (range_with_len 1 (length (accepted (past_of journal))))) zero_is ∙ zero_above 1 (length (accepted (past_of journal))) (omega arith) in
    some_none (fate setting request (past_of journal)) answer is
    (unasked_fate setting request (past_of journal) (ap (occurrences request) (requests_numbered setting (past_of journal) lawful.allowed) ∙ none))

-- by a delivery
pub delivery_asks : (orders : Orders) (called : Option CalledState) (old new : PassView) → DeliversOne orders old called new → OnlyRuns old new
delivery_asks orders None old new call = record {
  stays = stays_delivery orders None old new call;
  uses = uses_kept old.own new.own (entries_of old.number 0 call.added) call.own (ap (λ added. uses_in (entries_of old.number 0 added)) call.meant.0);
}
delivery_asks orders (Some called) old new delivers = record { stays = stays_delivery orders (Some called) old new delivers; uses = spent ∙ taken }
  where
    ticket : Ticket CallbackState
    ticket = delivers.0

    middle : PassView
    middle = delivers.1

    call : Calls (Takes plan_of (Some ticket)) 0 (desk_of old) (desk_of middle)
    call = delivers.2

    taken : uses_in middle.own ≡ uses_in old.own
    taken = uses_kept old.own middle.own (entries_of old.number 0 call.added) call.own (ap (λ added. uses_in (entries_of old.number 0 added)) call.meant.0)

    -- the request was accepted, and so has a number
    numbered : ticket.call.number ≢ 0
    numbered = fate_numbered middle.setting ticket.call.number ticket.call middle.seen call.lawful
        (subst (λ s. fate s ticket.call.number (past_of middle.seen) ≡ Some ticket.call) (sym call.desk.setting)
        (fate_later old.setting ticket.call.number ticket.call call.here middle.seen (entries_of old.number 0 call.added, sym call.seen) call.meant.2))

    spent : uses_in new.own ≡ uses_in middle.own
    spent =
        let done = delivers.3.performed in
        uses_kept middle.own new.own (own_entries middle.number done.since) done.own
        (none_used (own_entries middle.number done.since)
        (each-then (λ (e : Entry). (e.by ≡ ticket.call.number) × IsOfCommand e.what) (λ e. free_use e ≡ None) (own_entries middle.number done.since)
        (λ e commanded. command_uses e (λ zero_is. numbered (sym commanded.0 ∙ zero_is))) done.commanded))
