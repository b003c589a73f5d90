-- Commands that are performed through a desk: none, one, and more behind others.
use Rattle.std.proofs.Common.{◌≡◌, ◌∙◌, ◌≢◌, ◌≤◌, ℕ, ◌+◌, ◌-◌, ◌^◌, ◌==◌, Bool, true, false, List, [], ◌∷◌, ◌++◌, Option, Some, None, cond, length, refl, ap, ap₂, sym, subst, arith, eq-eqb, ne_eqb, append_assoc, length-append}
use Rattle.std.proofs.lemmas.List.{append-nil, take-append-le}
use Rattle.std.proofs.lemmas.List.Sums.{sum_by-append, sum_by-cons}
use Rattle.std.proofs.lemmas.Option.{slice_get_within}
use Rattle.std.specs.List.{AllByRecursion}
use Rattle.std.specs.Prelude.{Err, IfSome, IsFalse, IsTrue, Ok, Result, count_by, min, not, slice_get, take}
use base.Stored.{Gv}
use Rattle.chan_types.specs.Plans.{Plan}
use Rattle.chan_types.specs.declared.command.Command.{Command}
use Rattle.chan_types.specs.declared.command.Command.TheVariants.{Ask}
use Rattle.chan_types.specs.declared.journal.Entry.{Entry}
use Rattle.chan_types.specs.declared.journal.What.{What}
use Rattle.chan_types.specs.declared.journal.What.TheVariants.{Accept, Arrive, Cancel, Destroy, Expire, Fault, Servers, Start, Take}
use Rattle.chan_types.specs.declared.refusal.Refusal.{Refusal}
use Rattle.chan_types.specs.declared.refusal.Refusal.TheVariants.{Closed, NoMemory}
use Rattle.chan_types.specs.declared.spec.Spec.{Spec}
use Rattle.channel_model.specs.Commands.{AllBecame, Became, IsEntryOf, Outcome, is_lost, leaves, left, lost, passed, past_at, position_behind, position_of, positions_from, positions_left}
use Rattle.channel_model.specs.Completion.{pending, taken_by}
use Rattle.channel_model.specs.Journal.{is_destroyed, own_entries, past_of}
use Rattle.channel_model.specs.Known.{Calls, IsSameDesk, Known}
use Rattle.channel_model.specs.Meanings.{Accepts, Cancels, Destroys, Meaning}
use Rattle.channel_model.specs.Seen.{entries_of}
use Rattle.channel_model.specs.Setting.{Setting}
use Rattle.channel_model.specs.declared.answers.Refused.{Refused}
use Rattle.channel_model.proofs.Theorems.{all_became_append, all_became_longer, calls_stretch, each-append, names_stay_behind, names_stay_refl, names_stay_trans, own-append, own-others, own_added, position_after}
use Rattle.channel_table.specs.Commanded.{IsOfCommand, lost_by, lost_for}
use Rattle.completion_ticket.specs.States.{CallbackState, script_alone}
use Rattle.ticket_delivery.specs.Performing.{IsBy, Performs, plan_of}
use Rattle.ticket_delivery.specs.Weight.{command_size, commands_size, script_size, scripts_size}

-- what a command leaves takes nothing
pub command_takes : (what : What) → IsOfCommand what → taken_by what ≡ None
command_takes (Accept number spec script) of_command = refl
command_takes Cancel of_command = refl
command_takes Destroy of_command = refl
command_takes (Take number) of_command = absurd of_command
command_takes (Start number leg server link id mix moment) of_command = absurd of_command
command_takes (Arrive server link bytes) of_command = absurd of_command
command_takes (Expire number leg moment) of_command = absurd of_command
command_takes (Fault server link moment) of_command = absurd of_command
command_takes (Servers list) of_command = absurd of_command

-- the positions of entries that satisfy a test, where some stand behind others
pub positions-append : (test : Entry → Bool) (from : ℕ) (xs ys : List Entry) → positions_from test from (xs ++ ys) ≡ positions_from test from xs ++ positions_from test (from + length xs) ys
positions-append test from [] ys = ap (λ n. positions_from test n ys) (omega arith)
positions-append test from (x ∷ xs) ys =
    let rest = positions-append test (from + 1) xs ys in
    let at : positions_from test ((from + 1) + length xs) ys ≡ positions_from test (from + length (x ∷ xs)) ys = ap (λ n. positions_from test n ys) (omega arith) in
    by_test (test x) (rest ∙ ap (λ l. positions_from test (from + 1) xs ++ l) at)
  where
    by_test : (b : Bool) → positions_from test (from + 1) (xs ++ ys) ≡ positions_from test (from + 1) xs ++ positions_from test (from + length (x ∷ xs)) ys →
        cond b (from ∷ []) [] ++ positions_from test (from + 1) (xs ++ ys) ≡ (cond b (from ∷ []) [] ++ positions_from test (from + 1) xs) ++ positions_from test (from + length (x ∷ xs)) ys
    by_test true e = ap (λ l. from ∷ l) e
    by_test false e = e

-- entries of others are at none of a seat's positions
others_nowhere : (seat from : ℕ) (others : List Entry) → AllByRecursion (λ (entry : Entry). entry.seat ≢ seat) others → positions_from (λ entry. entry.seat == seat) from others ≡ []
others_nowhere seat from [] each = refl
others_nowhere seat from (entry ∷ others) each = rw (ne_eqb entry.seat seat each.0) (others_nowhere seat (from + 1) others each.1)

-- what is added was commanded so, and stands where it was added
added_by : (seat by : ℕ) (added : Option What) → IfSome added IsOfCommand → AllByRecursion (IsBy by) (entries_of seat by added)
added_by seat by None leaves = tt
added_by seat by (Some what) leaves = ((refl, leaves), tt)

-- the position at which something was added, if it was
abbrev pub position_added : Option What → ℕ → List ℕ
position_added None here = []
position_added (Some what) here = here ∷ []

added_at : (seat by here : ℕ) (added : Option What) → positions_from (λ (entry : Entry). entry.seat == seat) here (entries_of seat by added) ≡ position_added added here
added_at seat by here None = refl
added_at seat by here (Some what) = rw (eq-eqb seat seat refl) refl

-- outcomes, behind others
positions_left-append : (os ps : List Outcome) → positions_left (os ++ ps) ≡ positions_left os ++ positions_left ps
positions_left-append [] ps = refl
positions_left-append (left k ∷ os) ps = ap (λ l. k ∷ l) (positions_left-append os ps)
positions_left-append (passed k ∷ os) ps = positions_left-append os ps
positions_left-append (lost k ∷ os) ps = positions_left-append os ps

-- counts that stop at a limit, in two steps and in one
capped_again : (m n a b limit : ℕ) → m ≡ min a limit → n ≡ min b limit → min (m + n) limit ≡ min (a + b) limit
capped_again m n a b limit one more = omega (arith, one, more)

module _ (setting : Setting) (journal : List Entry) where
  -- what became of a command is behind no later position than the journal's end
  pub behind_end : (command : Command) (outcome : Outcome) → Became setting journal command outcome → position_behind outcome ≤ length journal
  behind_end command (left k) became = omega (arith, slice_get_within journal k became.0.entry became.0.stands)
  behind_end command (passed k) became = became.0
  behind_end command (lost k) became = became.0

  all_behind_end : (from : ℕ) (commands : List Command) (outcomes : List Outcome) → from ≤ length journal → AllBecame setting journal from commands outcomes → position_after from outcomes ≤ length journal
  all_behind_end from [] [] le became = le
  all_behind_end from [] (o ∷ os) le became = absurd became
  all_behind_end from (c ∷ cs) [] le became = absurd became
  all_behind_end from (c ∷ cs) (o ∷ os) le became = all_behind_end (position_behind o) cs os (behind_end c o became.1) became.2

  -- commands that were performed from a position on were performed from an earlier one on
  pub earlier : (from to : ℕ) (commands : List Command) (outcomes : List Outcome) → from ≤ to → AllBecame setting journal to commands outcomes → AllBecame setting journal from commands outcomes
  earlier from to [] [] le became = became
  earlier from to [] (o ∷ os) le became = absurd became
  earlier from to (c ∷ cs) [] le became = absurd became
  earlier from to (c ∷ cs) (o ∷ os) le became = (omega (arith, le, became.0), became.1, became.2)

-- no command
pub performs_none : (by : ℕ) (desk : Known) → Performs [] by desk desk 0
performs_none by desk = record {
  outcomes = [];
  became = tt;
  since = [];
  seen = sym (append-nil desk.seen);
  entries_are = refl;
  own = sym (append-nil desk.own);
  commanded = tt;
  handed_on = omega arith;
  lost = omega arith;
  lawful = λ was. was;
  names = names_stay_refl desk.names;
  setting = refl;
  seat = refl;
  nothing = λ none. refl;
}

-- which channel it is plays no part in it
pub performs_home : (commands : List Command) (by : ℕ) (old new : Known) (count : ℕ) (home : Gv) → Performs commands by old new count → Performs commands by old (record new { home = home }) count
performs_home commands by old new count home done = record {
  outcomes = done.outcomes;
  became = done.became;
  since = done.since;
  seen = done.seen;
  entries_are = done.entries_are;
  own = done.own;
  commanded = done.commanded;
  handed_on = done.handed_on;
  lost = done.lost;
  lawful = done.lawful;
  names = done.names;
  setting = done.setting;
  seat = done.seat;
  nothing = done.nothing;
}

-- two lists that make an empty one are empty
both_empty : {A : Type 0} (xs ys : List A) → xs ++ ys ≡ [] → (xs ≡ []) × (ys ≡ [])
both_empty [] ys none = (refl, none)
both_empty (x ∷ xs) ys none = absurd (cc none)

-- commands, and further ones behind them
pub performs_more : (cs ds : List Command) (by : ℕ) (old middle new : Known) (m n : ℕ) → Performs cs by old middle m → Performs ds by middle new n → Performs (cs ++ ds) by old new (min (m + n) (2 ^ 64 - 1))
performs_more cs ds by old middle new m n first more =
    let len_is : length middle.seen ≡ length old.seen + length first.since = ap length first.seen ∙ length-append old.seen first.since in
    let own_by : ℕ → List Entry → List ℕ = λ seat entries. positions_from (λ (entry : Entry). entry.seat == seat) (length middle.seen) entries in
    let became_first : AllBecame old.setting new.seen (length old.seen) cs first.outcomes =
    subst (λ journal. AllBecame old.setting journal (length old.seen) cs first.outcomes) (sym more.seen) (all_became_longer old.setting middle.seen more.since (length old.seen) cs first.outcomes first.became) in
    let became_more : AllBecame old.setting new.seen (length middle.seen) ds more.outcomes =
    subst (λ s. AllBecame s new.seen (length middle.seen) ds more.outcomes) first.setting more.became in
    let within : position_after (length old.seen) first.outcomes ≤ length middle.seen =
    all_behind_end old.setting middle.seen (length old.seen) cs first.outcomes (omega (arith, len_is)) first.became in
    let own_more : own_entries old.seat (first.since ++ more.since) ≡ own_entries old.seat first.since ++ own_entries old.seat more.since = own-append old.seat first.since more.since in
    let seat_more : own_entries middle.seat more.since ≡ own_entries old.seat more.since = ap (λ s. own_entries s more.since) first.seat in
    record {
      outcomes = first.outcomes ++ more.outcomes;
      became = all_became_append old.setting new.seen (length old.seen) cs ds first.outcomes more.outcomes became_first
          (earlier old.setting new.seen (position_after (length old.seen) first.outcomes) (length middle.seen) ds more.outcomes within became_more);
      since = first.since ++ more.since;
      seen = more.seen ∙ ap (λ h. h ++ more.since) first.seen ∙ append_assoc old.seen first.since more.since;
      entries_are = positions-append (λ (entry : Entry). entry.seat == old.seat) (length old.seen) first.since more.since
          ∙ ap₂ (λ xs ys. xs ++ ys) first.entries_are
          (ap (λ k. positions_from (λ (entry : Entry). entry.seat == old.seat) k more.since) (sym len_is) ∙ ap (λ (s : ℕ). own_by s more.since) (sym first.seat) ∙ more.entries_are)
          ∙ sym (positions_left-append first.outcomes more.outcomes);
      own = more.own ∙ ap (λ es. middle.own ++ es) seat_more ∙ ap (λ es. es ++ own_entries old.seat more.since) first.own
          ∙ append_assoc old.own (own_entries old.seat first.since) (own_entries old.seat more.since) ∙ ap (λ es. old.own ++ es) (sym own_more);
      commanded = subst (AllByRecursion (IsBy by)) (sym own_more)
          (each-append (IsBy by) (own_entries old.seat first.since) (own_entries old.seat more.since) first.commanded (subst (AllByRecursion (IsBy by)) seat_more more.commanded));
      handed_on = omega (
        arith,
        first.handed_on,
        more.handed_on,
        ap scripts_size own_more,
        ap scripts_size seat_more,
        sum_by-append script_size (own_entries old.seat first.since) (own_entries old.seat more.since),
        sum_by-append command_size cs ds,
      );
      lost = capped_again m n (count_by is_lost first.outcomes) (count_by is_lost more.outcomes) (2 ^ 64 - 1) first.lost more.lost
          ∙ ap (λ k. min k (2 ^ 64 - 1)) (sym (sum_by-append (λ o. cond (is_lost o) 1 0) first.outcomes more.outcomes));
      lawful = λ was. more.lawful (first.lawful was);
      names = names_stay_trans first.since more.since old.names middle.names new.names first.names more.names;
      setting = more.setting ∙ first.setting;
      seat = more.seat ∙ first.seat;
      nothing = λ none. let parts = both_empty cs ds none in ap₂ (λ xs ys. xs ++ ys) (first.nothing parts.0) (more.nothing parts.1);
    }

-- what stands where the journal ended, and what happened before it
at_end : (here : List Entry) (entry : Entry) → slice_get (here ++ entry ∷ []) (length here) ≡ Some entry
at_end [] entry = refl
at_end (e ∷ here) entry = at_end here entry

before_end : (here more journal : List Entry) → journal ≡ here ++ more → past_at journal (length here) ≡ past_of here
before_end here more journal is = ap past_of (ap (take (length here)) is ∙ take-append-le (length here) here more (omega arith) ∙ take_whole here)
  where
    take_whole : (xs : List Entry) → take (length xs) xs ≡ xs
    take_whole [] = refl
    take_whole (x ∷ xs) = ap (λ l. x ∷ l) (take_whole xs)

-- one command by a call of the desk, by what became of it
module _ (meaning : Meaning) (command : Command) (by : ℕ) (old new : Known) (call : Calls meaning by old new) where
  performs_one : (count : ℕ) (outcome : Outcome) → count ≡ min (count_by is_lost (outcome ∷ [])) (2 ^ 64 - 1) → IfSome call.added IsOfCommand
      → position_of outcome ≡ length call.here → positions_left (outcome ∷ []) ≡ position_added call.added (length call.here) → Became old.setting new.seen command outcome
      → scripts_size (entries_of old.seat by call.added) ≤ commands_size (command ∷ [])
      → Performs (command ∷ []) by old new count
  performs_one count outcome is of_command at leaves_it became size =
      let others = call.stands.others in
      let added = entries_of old.seat by call.added in
      let stretch = calls_stretch meaning by old new call in
      let here_is : length call.here ≡ length old.seen + length others = ap length call.stands.parts ∙ length-append old.seen others in
      let mine : own_entries old.seat (others ++ added) ≡ added =
      own-append old.seat others added ∙ ap₂ (λ xs ys. xs ++ ys) (own-others old.seat others call.stands.by_others) (own_added old.seat by call.added) in
      record {
        outcomes = outcome ∷ [];
        became = (omega (arith, at, here_is), became, tt);
        since = others ++ added;
        seen = stretch.0;
        entries_are = positions-append (λ (entry : Entry). entry.seat == old.seat) (length old.seen) others added
            ∙ ap₂ (λ xs ys. xs ++ ys) (others_nowhere old.seat (length old.seen) others call.stands.by_others)
            (ap (λ k. positions_from (λ (entry : Entry). entry.seat == old.seat) k added) (sym here_is) ∙ added_at old.seat by (length call.here) call.added) ∙ sym leaves_it;
        own = stretch.1;
        commanded = subst (AllByRecursion (IsBy by)) (sym mine) (added_by old.seat by call.added of_command);
        handed_on = subst (λ es. scripts_size es ≤ commands_size (command ∷ [])) (sym mine) size;
        lost = is;
        lawful = λ was. call.lawful;
        names = names_stay_behind old.seat by call.added others old.names new.names call.names;
        setting = call.desk.setting;
        seat = call.desk.seat;
        nothing = λ none. absurd (cc none);
      }

  -- where no request is lost: it left its entry, or it had nothing to do
  left_one : (what : What) → call.added ≡ Some what → IsOfCommand what → IsEntryOf command what → IsTrue (leaves old.setting command (past_of call.here))
      → scripts_size (entries_of old.seat by (Some what)) ≤ commands_size (command ∷ []) → Performs (command ∷ []) by old new 0
  left_one what is of_command its must size =
      let k : ℕ = length call.here in
      let entry : Entry = record { seat = old.seat; by = by; what = what } in
      let seen_is : new.seen ≡ call.here ++ entry ∷ [] = call.seen ∙ ap (λ a. call.here ++ entries_of old.seat by a) is in
      performs_one 0 (left k) (omega arith) (subst (λ a. IfSome a IsOfCommand) (sym is) of_command) refl (ap (λ a. position_added a k) (sym is)) (
        record { entry = entry; stands = ap (λ l. slice_get l k) seen_is ∙ at_end call.here entry; is_its = its },
        subst (λ p. IsTrue (leaves old.setting command p)) (sym (before_end call.here (entry ∷ []) new.seen seen_is)) must,
      ) (subst (λ a. scripts_size (entries_of old.seat by a) ≤ commands_size (command ∷ [])) (sym is) size)

  -- one that added nothing stands within the journal, behind all that happened before
  unchanged : call.added ≡ None → (length call.here ≤ length new.seen) × (past_at new.seen (length call.here) ≡ past_of call.here)
  unchanged is =
      let seen_is : new.seen ≡ call.here ++ [] = call.seen ∙ ap (λ a. call.here ++ entries_of old.seat by a) is in
      (omega (arith, ap length seen_is, length-append call.here []), before_end call.here [] new.seen seen_is)

  passed_one : call.added ≡ None → IsFalse (leaves old.setting command (past_of call.here)) → Performs (command ∷ []) by old new 0
  passed_one is needs_none =
      let at = unchanged is in
      performs_one 0 (passed (length call.here)) (omega arith) (subst (λ a. IfSome a IsOfCommand) (sym is) tt) refl (ap (λ a. position_added a (length call.here)) (sym is))
      (at.0, subst (λ p. IsFalse (leaves old.setting command p)) (sym at.1) needs_none)
      (subst (λ a. scripts_size (entries_of old.seat by a) ≤ commands_size (command ∷ [])) (sym is) (omega arith))

-- a cancel, by how many requests were pending
pub cancel_performed : (pending_count by : ℕ) (old new : Known) → Calls (Cancels pending_count) by old new → Performs (Command.Cancel ∷ []) by old new 0
cancel_performed pending_count by old new call = by_count (pending_count == 0) refl call.meant.entry
  where
    same_test : (pending_count == 0) ≡ (length (pending old.setting (past_of call.here)) == 0)
    same_test = ap (λ n. n == 0) call.meant.all_pending

    by_count : (b : Bool) → (pending_count == 0) ≡ b → call.added ≡ cond b None (Some What.Cancel) → Performs (Command.Cancel ∷ []) by old new 0
    by_count true is added = passed_one (Cancels pending_count) Command.Cancel by old new call added (ap not (sym same_test ∙ is))
    by_count false is added = left_one (Cancels pending_count) Command.Cancel by old new call What.Cancel added tt refl (ap not (sym same_test ∙ is)) (omega arith)

-- a destroy, by whether it was the first
pub destroy_performed : (is_first : Bool) (by : ℕ) (old new : Known) → Calls (Destroys is_first) by old new → Performs (Command.Destroy ∷ []) by old new 0
destroy_performed true by old new call = left_one (Destroys true) Command.Destroy by old new call What.Destroy call.meant.entry tt refl (sym call.meant.answer) (omega arith)
destroy_performed false by old new call = passed_one (Destroys false) Command.Destroy by old new call call.meant.entry (sym call.meant.answer)

-- a request that is asked, by the reply: it was accepted, it was refused as closed, or it was lost
pub ask_performed : (spec : Spec) (script : Plan) (token : CallbackState) (reply : Result ℕ (Refused CallbackState)) (by : ℕ) (old new : Known) (count : ℕ) → token ≡ script_alone script
    → Calls (Accepts plan_of spec token reply) by old new → count ≡ lost_by reply → Performs (Ask spec script ∷ []) by old new count
ask_performed spec script token reply by old new count token_is call is =
    subst (Performs (Ask spec script ∷ []) by old new) (sym is) (by_reply reply (subst (λ t. Calls (Accepts plan_of spec t reply) by old new) token_is call))
  where
    by_reply : (r : Result ℕ (Refused CallbackState)) → Calls (Accepts plan_of spec (script_alone script) r) by old new → Performs (Ask spec script ∷ []) by old new (lost_by r)
    by_reply (Ok number) done =
        left_one (Accepts plan_of spec (script_alone script) (Ok number)) (Ask spec script) by old new done (Accept number spec script) done.meant.0 tt (number, refl) (ap not done.meant.1)
        (omega (arith, sum_by-cons script_size (record { seat = old.seat; by = by; what = Accept number spec script }) [], sum_by-cons command_size (Ask spec script) []))
    by_reply (Err refused) done = by_why refused.why refl
      where
        meaning : Meaning
        meaning = Accepts plan_of spec (script_alone script) (Err refused)

        not_destroyed : refused.why ≡ NoMemory → IsTrue (not (is_destroyed (past_of done.here)))
        not_destroyed why = by_test (is_destroyed (past_of done.here)) refl
          where
            by_test : (b : Bool) → is_destroyed (past_of done.here) ≡ b → IsTrue (not b)
            by_test false at = refl
            by_test true at = let clash : NoMemory ≡ Closed = sym why ∙ done.meant.1.1 at in absurd (cc clash)

        by_why : (why : Refusal) → refused.why ≡ why → Performs (Ask spec script ∷ []) by old new (lost_for why)
        by_why Closed why = passed_one meaning (Ask spec script) by old new done done.meant.0 (ap not (done.meant.1.0 why))
        by_why NoMemory why =
            let at = unchanged meaning (Ask spec script) by old new done done.meant.0 in
            performs_one meaning (Ask spec script) by old new done 1 (lost (length done.here)) (omega arith) (subst (λ a. IfSome a IsOfCommand) (sym done.meant.0) tt) refl
            (ap (λ a. position_added a (length done.here)) (sym done.meant.0)) (at.0, refl, subst (λ p. IsTrue (leaves old.setting (Ask spec script) p)) (sym at.1) (not_destroyed why))
            (subst (λ a. scripts_size (entries_of old.seat by a) ≤ commands_size (Ask spec script ∷ [])) (sym done.meant.0) (omega arith))

-- of some commands, those before the ones that are left were performed, through one desk
pub record HasPerformed (all rest : List Command) (by : ℕ) (old new : Known) (count : ℕ) : Type 0 where
  pub done : List Command
  pub parts : all ≡ done ++ rest
  pub same : IsSameDesk old new
  pub performed : Performs done by old new count

pub none_performed : (all : List Command) (by : ℕ) (desk : Known) → HasPerformed all all by desk desk 0
none_performed all by desk = record { done = []; parts = refl; same = record { setting = refl; home = refl; seat = refl; voice = refl }; performed = performs_none by desk }

pub next_performed : (all rest behind : List Command) (command : Command) (by : ℕ) (old middle new : Known) (m n : ℕ) → rest ≡ command ∷ behind → HasPerformed all rest by old middle m
    → IsSameDesk middle new → Performs (command ∷ []) by middle new n → HasPerformed all behind by old new (min (m + n) (2 ^ 64 - 1))
next_performed all rest behind command by old middle new m n is has same one = record {
  done = has.done ++ command ∷ [];
  parts = has.parts ∙ ap (λ cs. has.done ++ cs) is ∙ sym (append_assoc has.done (command ∷ []) behind);
  same = record { setting = same.setting ∙ has.same.setting; home = same.home ∙ has.same.home; seat = same.seat ∙ has.same.seat; voice = same.voice ∙ has.same.voice };
  performed = performs_more has.done (command ∷ []) by old middle new m n has.performed one;
}
