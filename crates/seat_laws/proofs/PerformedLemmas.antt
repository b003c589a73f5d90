-- What one seat performed of a request's commands, as its own entries tell it: right behind it, and in a longer journal.
use Rattle.std.proofs.Common.{◌≡◌, ◌∙◌, ℕ, ◌+◌, ◌≤◌, ◌<◌, ◌==◌, ◌&&◌, Bool, true, false, not, cond, nat_lt, nat_le, List, [], ◌∷◌, ◌++◌, length, refl, sym, ap, subst, arith, le-leb, leb-true, lt-ltb, ltb-true}
use Rattle.std.proofs.lemmas.Bool.{and_from, and_parts}
use Rattle.std.proofs.lemmas.List.{append-nil, length-append}
use Rattle.std.specs.List.{AllByRecursion, list_all}
use Rattle.std.specs.Option.{option_map_or}
use Rattle.chan_types.specs.declared.command.Command.{Command}
use Rattle.chan_types.specs.declared.journal.Entry.{Entry}
use Rattle.channel_model.proofs.Theorems.{all_became_longer, each-append}
use Rattle.channel_model.specs.Commands.{AllBecame, Outcome, is_before_next, is_before_other_work, is_behind_take, is_other_work, is_own_take, left, lost, passed, position_behind, position_of, positions_from, positions_left}
use Rattle.channel_model.specs.Completion.{taken_by}
use Rattle.channel_model.specs.Journal.{own_entries}
use Rattle.channel_model.specs.Setting.{Setting}
use Rattle.seat_laws.proofs.ListLemmas.{all_pass, each_passes, first_passes}
use Rattle.seat_laws.proofs.OwnLemmas.{HasOne, one_position, own_everywhere, own_nowhere, positions_above, positions_below}
use Rattle.ticket_delivery.proofs.Theorems.{behind_end, earlier, positions-append}

-- the entry takes the request
abbrev pub takes_it : ℕ → Entry → Bool
takes_it request entry = option_map_or (λ number. number == request) (taken_by entry.what) false

-- the request's callback didn't command the entry, which doesn't take it
abbrev pub spares : ℕ → Entry → Bool
spares request entry = not (entry.by == request) && not (takes_it request entry)

-- both halves of it, of several entries
pub unspared_by : (request : ℕ) (es : List Entry) → list_all (spares request) es ≡ true → list_all (λ e. not (e.by == request)) es ≡ true
unspared_by request es h = all_pass (spares request) (λ e. not (e.by == request)) (λ e s. (and_parts (not (e.by == request)) (not (takes_it request e)) s).0) es h

pub untakes : (request : ℕ) (es : List Entry) → list_all (spares request) es ≡ true → list_all (λ e. not (takes_it request e)) es ≡ true
untakes request es h = all_pass (spares request) (λ e. not (takes_it request e)) (λ e s. (and_parts (not (e.by == request)) (not (takes_it request e)) s).1) es h

-- as far as this seat's entries tell, the commands of the request's callback came to these outcomes, none behind the last position
pub record IsOwnPerformed (setting : Setting) (journal : List Entry) (seat request : ℕ) (commands : List Command) (last : ℕ) (outcomes : List Outcome) : Type 0 where
  pub became : AllBecame setting journal 0 commands outcomes
  pub entries_are : positions_from (λ e. (e.seat == seat) && (e.by == request)) 0 journal ≡ positions_left outcomes
  pub in_time : list_all (λ o. nat_le (position_of o) last) outcomes ≡ true
  pub behind_take : list_all (λ o. is_behind_take journal seat request (position_of o)) outcomes ≡ true
  pub before_other_work : list_all (λ o. is_before_other_work journal seat request (position_of o)) outcomes ≡ true

-- ---- in a longer journal

-- a position that is before the next of some is before the next of more that are behind
pub before_more : (position from : ℕ) (ps qs : List ℕ) → AllByRecursion (λ q. position ≤ q) qs → is_before_next position from ps ≡ true → is_before_next position from (ps ++ qs) ≡ true
before_more position from [] [] above h = refl
before_more position from [] (q ∷ qs) above h = by (nat_lt from q) (before_more position from [] qs above.1 refl)
  where
    by : (b : Bool) → is_before_next position from qs ≡ true → cond b (nat_le position q) (is_before_next position from qs) ≡ true
    by true rest = le-leb position q above.0
    by false rest = rest
before_more position from (p ∷ ps) qs above h = by (nat_lt from p) h (before_more position from ps qs above)
  where
    by : (b : Bool) → cond b (nat_le position p) (is_before_next position from ps) ≡ true → (is_before_next position from ps ≡ true → is_before_next position from (ps ++ qs) ≡ true) →
        cond b (nat_le position p) (is_before_next position from (ps ++ qs)) ≡ true
    by true h rest = h
    by false h rest = rest h

-- nothing stands behind a position above all
pub before_none : (position from : ℕ) (ps : List ℕ) → AllByRecursion (λ p. p < from + 1) ps → is_before_next position from ps ≡ true
before_none position from [] below = refl
before_none position from (p ∷ ps) below = by (nat_lt from p) refl (before_none position from ps below.1)
  where
    by : (b : Bool) → nat_lt from p ≡ b → is_before_next position from ps ≡ true → cond b (nat_le position p) (is_before_next position from ps) ≡ true
    by true is rest = absurd (omega (arith, below.0, ltb-true from p is))
    by false is rest = rest

module _ (setting : Setting) (journal es : List Entry) (seat request : ℕ) (commands : List Command) (last later : ℕ) (outcomes : List Outcome) (within : last ≤ length journal) (le : last ≤ later)
    (spared : list_all (spares request) (own_entries seat es) ≡ true) where
  takes_same : positions_from (is_own_take seat request) 0 (journal ++ es) ≡ positions_from (is_own_take seat request) 0 journal
  takes_same =
      positions-append (is_own_take seat request) 0 journal es
      ∙ ap (λ l. positions_from (is_own_take seat request) 0 journal ++ l) (own_nowhere seat (takes_it request) (0 + length journal) es (untakes request (own_entries seat es) spared))
      ∙ append-nil (positions_from (is_own_take seat request) 0 journal)

  before_longer : (position : ℕ) → position ≤ last → is_before_other_work journal seat request position ≡ true → is_before_other_work (journal ++ es) seat request position ≡ true
  before_longer position in_time h =
      ap (λ ts. list_all (λ t. is_before_next position t (positions_from (is_other_work seat request) 0 (journal ++ es))) ts) takes_same
      ∙ all_pass
      (λ t. is_before_next position t (positions_from (is_other_work seat request) 0 journal))
      (λ t. is_before_next position t (positions_from (is_other_work seat request) 0 (journal ++ es)))
      (λ t before. subst (λ ps. is_before_next position t ps ≡ true) (sym (positions-append (is_other_work seat request) 0 journal es))
      (before_more position t (positions_from (is_other_work seat request) 0 journal) (positions_from (is_other_work seat request) (0 + length journal) es)
      (positions_above (is_other_work seat request) (0 + length journal) position es (omega (arith, in_time, within))) before))
      (positions_from (is_own_take seat request) 0 journal) h

  befores : (os : List Outcome) → list_all (λ o. nat_le (position_of o) last) os ≡ true → list_all (λ o. is_before_other_work journal seat request (position_of o)) os ≡ true →
      list_all (λ o. is_before_other_work (journal ++ es) seat request (position_of o)) os ≡ true
  befores [] in_time h = refl
  befores (o ∷ os) in_time h =
      let now = first_passes (λ x. nat_le (position_of x) last) o os in_time in
      let here = first_passes (λ x. is_before_other_work journal seat request (position_of x)) o os h in
      and_from (is_before_other_work (journal ++ es) seat request (position_of o)) (list_all (λ x. is_before_other_work (journal ++ es) seat request (position_of x)) os)
      (before_longer (position_of o) (leb-true (position_of o) last now.0) here.0) (befores os now.1 here.1)

  -- entries of the seat that spare the request leave what it performed as it was
  pub own_longer : IsOwnPerformed setting journal seat request commands last outcomes → IsOwnPerformed setting (journal ++ es) seat request commands later outcomes
  own_longer is = record {
    became = all_became_longer setting journal es 0 commands outcomes is.became;
    entries_are =
        positions-append (λ e. (e.seat == seat) && (e.by == request)) 0 journal es
        ∙ ap (λ l. positions_from (λ e. (e.seat == seat) && (e.by == request)) 0 journal ++ l) (own_nowhere seat (λ e. e.by == request) (0 + length journal) es (unspared_by request (own_entries seat es) spared))
        ∙ append-nil (positions_from (λ e. (e.seat == seat) && (e.by == request)) 0 journal) ∙ is.entries_are;
    in_time = all_pass (λ o. nat_le (position_of o) last) (λ o. nat_le (position_of o) later)
        (λ o h. le-leb (position_of o) later (omega (arith, le, leb-true (position_of o) last h))) outcomes is.in_time;
    behind_take = subst (λ ts. list_all (λ o. list_all (λ t. nat_lt t (position_of o)) ts) outcomes ≡ true) (sym takes_same) is.behind_take;
    before_other_work = befores outcomes is.in_time is.before_other_work;
  }

-- ---- right behind it

-- a position behind an outcome isn't before it
behind_it : (o : Outcome) → position_of o ≤ position_behind o
behind_it (left k) = omega arith
behind_it (passed k) = omega arith
behind_it (lost k) = omega arith

-- commands were performed from a position on, and within the journal
pub outcomes_within : (setting : Setting) (journal : List Entry) (least from : ℕ) (commands : List Command) (outcomes : List Outcome) → least ≤ from → AllBecame setting journal from commands outcomes →
    AllByRecursion (λ o. (least ≤ position_of o) × (position_of o ≤ length journal)) outcomes
outcomes_within setting journal least from [] [] le became = tt
outcomes_within setting journal least from [] (o ∷ os) le became = absurd became
outcomes_within setting journal least from (c ∷ cs) [] le became = absurd became
outcomes_within setting journal least from (c ∷ cs) (o ∷ os) le became = (
  (omega (arith, le, became.0), omega (arith, behind_it o, behind_end setting journal c o became.1)),
  outcomes_within setting journal least (position_behind o) cs os (omega (arith, le, became.0, behind_it o)) became.2,
)

-- where the seat took the request, it did nothing else behind that
pub record TookLast (seat request : ℕ) (journal : List Entry) (position : ℕ) : Type 0 where
  pub within : position < length journal
  pub last : AllByRecursion (λ p. p < position + 1) (positions_from (is_other_work seat request) 0 journal)

-- each time that it took it
abbrev pub HasTakenLast : ℕ → ℕ → List Entry → Type 0
HasTakenLast seat request journal = AllByRecursion (TookLast seat request journal) (positions_from (is_own_take seat request) 0 journal)

-- a seat that didn't take it
pub taken_elsewhere : (seat request : ℕ) (journal : List Entry) → list_all (spares request) (own_entries seat journal) ≡ true → HasTakenLast seat request journal
taken_elsewhere seat request journal spared =
    subst (AllByRecursion (TookLast seat request journal)) (sym (own_nowhere seat (takes_it request) 0 journal (untakes request (own_entries seat journal) spared))) tt

-- a seat that has just taken it
module _ (seat request : ℕ) (journal es : List Entry) (spared : list_all (spares request) (own_entries seat journal) ≡ true) (one : length (own_entries seat es) ≡ 1)
    (takes : list_all (takes_it request) (own_entries seat es) ≡ true) (others : list_all (λ e. not (e.by == request)) (own_entries seat es) ≡ true) where
  found : HasOne seat (0 + length journal) es
  found = one_position seat (0 + length journal) es one

  taken_at : positions_from (is_own_take seat request) 0 (journal ++ es) ≡ found.at ∷ []
  taken_at =
      positions-append (is_own_take seat request) 0 journal es
      ∙ ap (λ l. l ++ positions_from (is_own_take seat request) (0 + length journal) es) (own_nowhere seat (takes_it request) 0 journal (untakes request (own_entries seat journal) spared))
      ∙ own_everywhere seat (takes_it request) (0 + length journal) es takes ∙ found.positions

  others_at : positions_from (is_other_work seat request) 0 (journal ++ es) ≡ positions_from (is_other_work seat request) 0 journal ++ found.at ∷ []
  others_at =
      positions-append (is_other_work seat request) 0 journal es
      ∙ ap (λ l. positions_from (is_other_work seat request) 0 journal ++ l) (own_everywhere seat (λ e. not (e.by == request)) (0 + length journal) es others ∙ found.positions)

  pub just_taken : HasTakenLast seat request (journal ++ es)
  just_taken =
      subst (AllByRecursion (TookLast seat request (journal ++ es))) (sym taken_at) (
        record {
          within = omega (arith, found.most, length-append journal es);
          last = subst (AllByRecursion (λ p. p < found.at + 1)) (sym others_at)
              (each-append (λ p. p < found.at + 1) (positions_from (is_other_work seat request) 0 journal) (found.at ∷ [])
              (positions_below (is_other_work seat request) 0 (found.at + 1) journal (omega (arith, found.least))) (omega arith, tt));
        },
        tt,
      )

module _ (setting : Setting) (journal es : List Entry) (seat request : ℕ) (commands : List Command) (outcomes : List Outcome)
    (none_by : list_all (λ e. not (e.by == request)) (own_entries seat journal) ≡ true)
    (taken_last : HasTakenLast seat request journal)
    (by_it : list_all (λ e. e.by == request) (own_entries seat es) ≡ true)
    (takes_none : list_all (λ e. not (takes_it request e)) (own_entries seat es) ≡ true)
    (became : AllBecame setting (journal ++ es) (length journal) commands outcomes)
    (entries : positions_from (λ e. e.seat == seat) (length journal) es ≡ positions_left outcomes) where
  abbrev whole : List Entry
  whole = journal ++ es

  within_it : AllByRecursion (λ o. (length journal ≤ position_of o) × (position_of o ≤ length whole)) outcomes
  within_it = outcomes_within setting whole (length journal) (length journal) commands outcomes (omega arith) became

  takes_before : positions_from (is_own_take seat request) 0 whole ≡ positions_from (is_own_take seat request) 0 journal
  takes_before =
      positions-append (is_own_take seat request) 0 journal es
      ∙ ap (λ l. positions_from (is_own_take seat request) 0 journal ++ l) (own_nowhere seat (takes_it request) (0 + length journal) es takes_none)
      ∙ append-nil (positions_from (is_own_take seat request) 0 journal)

  others_before : positions_from (is_other_work seat request) 0 whole ≡ positions_from (is_other_work seat request) 0 journal
  others_before =
      positions-append (is_other_work seat request) 0 journal es
      ∙ ap (λ l. positions_from (is_other_work seat request) 0 journal ++ l) (own_nowhere seat (λ e. not (e.by == request)) (0 + length journal) es
      (all_pass (λ e. e.by == request) (λ e. not (not (e.by == request))) (λ e h. ap (λ b. not (not b)) h) (own_entries seat es) by_it))
      ∙ append-nil (positions_from (is_other_work seat request) 0 journal)

  -- what a seat performed of a request that it has just taken, or that it hasn't taken
  pub own_performed : IsOwnPerformed setting whole seat request commands (length whole) outcomes
  own_performed = record {
    became = earlier setting whole 0 (length journal) commands outcomes (omega arith) became;
    entries_are =
        positions-append (λ e. (e.seat == seat) && (e.by == request)) 0 journal es
        ∙ ap (λ l. l ++ positions_from (λ e. (e.seat == seat) && (e.by == request)) (0 + length journal) es) (own_nowhere seat (λ e. e.by == request) 0 journal none_by)
        ∙ own_everywhere seat (λ e. e.by == request) (0 + length journal) es by_it
        ∙ ap (λ k. positions_from (λ e. e.seat == seat) k es) (omega arith) ∙ entries;
    in_time = each_passes (λ o. (length journal ≤ position_of o) × (position_of o ≤ length whole)) (λ o. nat_le (position_of o) (length whole)) (λ o h. le-leb (position_of o) (length whole) h.1) outcomes within_it;
    behind_take = subst (λ ts. list_all (λ o. list_all (λ t. nat_lt t (position_of o)) ts) outcomes ≡ true) (sym takes_before)
        (each_passes (λ o. (length journal ≤ position_of o) × (position_of o ≤ length whole)) (λ o. list_all (λ t. nat_lt t (position_of o)) (positions_from (is_own_take seat request) 0 journal))
        (λ o h. each_passes (TookLast seat request journal) (λ t. nat_lt t (position_of o)) (λ t took. lt-ltb t (position_of o) (omega (arith, took.within, h.0)))
        (positions_from (is_own_take seat request) 0 journal) taken_last) outcomes within_it);
    before_other_work = subst (λ ts. list_all (λ o. list_all (λ t. is_before_next (position_of o) t (positions_from (is_other_work seat request) 0 whole)) ts) outcomes ≡ true) (sym takes_before)
        (each_passes (λ o. (length journal ≤ position_of o) × (position_of o ≤ length whole))
        (λ o. list_all (λ t. is_before_next (position_of o) t (positions_from (is_other_work seat request) 0 whole)) (positions_from (is_own_take seat request) 0 journal))
        (λ o h. each_passes (TookLast seat request journal) (λ t. is_before_next (position_of o) t (positions_from (is_other_work seat request) 0 whole))
        (λ t took. before_none (position_of o) t (positions_from (is_other_work seat request) 0 whole) (subst (AllByRecursion (λ p. p < t + 1)) (sym others_before) took.last))
        (positions_from (is_own_take seat request) 0 journal) taken_last) outcomes within_it);
  }
