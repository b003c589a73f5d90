-- How a whole table follows an Accept.
use Rattle.channel_table.proofs.Base.{◌≡◌, ◌∙◌, ℕ, ◌+◌, ◌≤◌, true, false, List, [], ◌∷◌, ◌++◌, Option, Some, None, refl, ap, ap₂, sym, subst, map, arith, length, ne_eqb, flat_map-append, append-nil, map-append, AllByRecursion, option_and_then, IfSome, filter, flat_map, option_map, option_to_list, Accept, Script, Spec, Ticket, Name, each-append, asked_once, in_flight-closed, next_unasked, started-says, HaveAsMany, at_once, fate, occurrences, pending, ready, requests, has_leg, in_flight, started, Accepted, Past, accepted, script_of, IsLawfulPast, leg_of, legs_of, candidates_of, question_for, Setting, wanted_by, first_number, IsNewRow, Wanted, RowStands, LookupStands, TableStands, TicketStands, flown, number_of, lookups, ticket_number, end_of_lookup, flown_lookup, leg_of_lookup, new_lookup, number_of_leg, Asked, Lookup, fresh_leg, Flags, Row}
use Rattle.channel_model.proofs.Theorems.{accept-fate, accept-pending, accept-ready, accept-request, accept_spares, unasked_closings, unasked_flight}
use Rattle.channel_table.proofs.FreshLegs.{unstarted_stands}
use Rattle.channel_table.proofs.RowFrames.{IsSpared, SparesLookup, rows_spared}
use Rattle.channel_table.proofs.SearchSteps.{no_end}
use Rattle.channel_table.proofs.TableSteps.{tickets_later}

pub filter_true : {X : Type 0} (xs : List X) → filter (λ x. true) xs ≡ xs
filter_true [] = refl
filter_true (x ∷ xs) = ap (λ r. x ∷ r) (filter_true xs)

module _ {T : Type 0} (plan : T → Script) (setting : Setting) (past : Past) (spec : Spec) (script : Script) (number : ℕ) (lawful : IsLawfulPast setting past) (next : number ≡ length (accepted past) + 1) where
  new : occurrences number (requests past) ≡ 0
  new = subst (λ n. occurrences n (requests past) ≡ 0) (sym next) (next_unasked setting past lawful)

  accept_flying : in_flight setting (Accept number spec script ∷ past) ≡ in_flight setting past
  accept_flying = in_flight-closed setting (Accept number spec script) past refl ∙ filter_true (in_flight setting past)

  each_spared : (ss : List Lookup) → AllByRecursion (SparesLookup setting (Accept number spec script) past) ss
  each_spared [] = tt
  each_spared (lookup ∷ ss) = (accept_spares setting past (leg_of_lookup lookup) number spec script, each_spared ss)

  others_spared : (rows : List (Row T)) → AllByRecursion (RowStands plan setting past) rows → AllByRecursion (IsSpared plan setting (Accept number spec script) past) rows
  others_spared [] each = tt
  others_spared (row ∷ rows) each =
      let asked = asked_once setting row.number past _ (ap (option_map (λ (r : Accepted). r.spec)) each.0.accepts) in (
        record {
          spared = each_spared (lookups row);
          others = λ k. tt;
          uncompleted = rw (ne_eqb number row.number (λ same. absurd (omega (arith, asked, subst (λ n. occurrences n (requests past) ≡ 0) same new)))) refl;
        },
        others_spared rows each.1,
      )

  -- the new request is pending
  pub table_asked : (rows : List (Row T)) (tickets : List (Ticket T)) (row : Row T) → row.number ≡ number → at_once setting number spec ≡ None → RowStands plan setting (Accept number spec script ∷ past) row → flown row ≡ []
      → TableStands plan setting past rows tickets → TableStands plan setting (Accept number spec script ∷ past) (rows ++ row ∷ []) tickets
  table_asked rows tickets row numbered asks stands idle table = record {
    stand = record {
      pending_are = accept-pending setting past number spec script new ∙ rw asks (ap₂ (λ xs n. xs ++ n ∷ []) table.stand.pending_are (sym numbered)) ∙ sym (map-append number_of rows (row ∷ []));
      ready_are = accept-ready setting past number spec script new ∙ rw asks (append-nil (ready setting past)) ∙ table.stand.ready_are;
      flying_are =
          let none : flat_map flown (rows ++ row ∷ []) ≡ flat_map flown rows = flat_map-append flown rows (row ∷ []) ∙ rw idle (append-nil (flat_map flown rows)) in
          subst (λ xs. HaveAsMany xs (flat_map flown (rows ++ row ∷ []))) (sym accept_flying) (subst (HaveAsMany (in_flight setting past)) (sym none) table.stand.flying_are);
    };
    each_row = each-append (RowStands plan setting (Accept number spec script ∷ past)) rows (row ∷ []) (rows_spared plan setting (Accept number spec script) past rows (others_spared rows table.each_row) table.each_row) (stands, tt);
    each_ticket = tickets_later plan setting (Accept number spec script) past tickets table.each_ticket;
  }

  -- the new request is ready
  pub table_answered : (rows : List (Row T)) (tickets : List (Ticket T)) (ticket : Ticket T) → ticket.call.number ≡ number → at_once setting number spec ≡ Some ticket.call → plan ticket.token ≡ script
      → TableStands plan setting past rows tickets → TableStands plan setting (Accept number spec script ∷ past) rows (tickets ++ ticket ∷ [])
  table_answered rows tickets ticket numbered answers scripted table = record {
    stand = record {
      pending_are = accept-pending setting past number spec script new ∙ rw answers (append-nil (pending setting past)) ∙ table.stand.pending_are;
      ready_are = accept-ready setting past number spec script new ∙ rw answers (ap₂ (λ xs n. xs ++ n ∷ []) table.stand.ready_are (sym numbered)) ∙ sym (map-append ticket_number tickets (ticket ∷ []));
      flying_are = subst (λ xs. HaveAsMany xs (flat_map flown rows)) (sym accept_flying) table.stand.flying_are;
    };
    each_row = rows_spared plan setting (Accept number spec script) past rows (others_spared rows table.each_row) table.each_row;
    each_ticket = each-append (TicketStands plan setting (Accept number spec script ∷ past)) tickets (ticket ∷ []) (tickets_later plan setting (Accept number spec script) past tickets table.each_ticket) (
      record {
        completes = subst (λ n. fate setting n (Accept number spec script ∷ past) ≡ Some ticket.call) (sym numbered) (accept-fate setting past number spec script new ∙ answers);
        accepts = subst (λ n. script_of n (Accept number spec script ∷ past) ≡ Some (plan ticket.token)) (sym numbered) (rw (accept-request setting past number spec script new) (ap Some (sym scripted)));
      },
      tt,
    );
  }

  -- it has no Start
  unbegun : (k : ℕ) → has_leg (leg_of number k) (started (Accept number spec script ∷ past)) ≡ false
  unbegun k = started-says setting (leg_of number k) past ∙ rw (unasked_flight setting number k past lawful new, unasked_closings setting number k past lawful new) refl

  -- a lookup of a new request stands
  new_stands : (k : ℕ) (asked : Asked) (rest : List Name) → asked.names ≡ rest → question_for spec k asked.question.name ≡ asked.question
      → LookupStands setting (Accept number spec script ∷ past) number spec asked.question.name rest (new_lookup number k asked (fresh_leg setting.options.flags))
  new_stands k asked rest names asks = record {
    numbered = refl;
    current = refl;
    behind = names;
    asks = asks;
    leg = unstarted_stands setting (Accept number spec script ∷ past) (leg_of number k) (unbegun k);
    begun = unbegun k;
  }

  -- the row of a new request stands, which asks its first candidate
  pub row_stands : (wanted : Wanted) (asked : Asked) (second : Option Asked) (row : Row T) → wanted_by spec ≡ wanted → legs_of spec 0 ≡ first_number wanted ∷ option_to_list (option_map (λ (a : Asked). 1) second) → candidates_of setting spec ≡ asked.question.name ∷ asked.names
      → length (candidates_of setting spec) ≤ 9 → question_for spec (first_number wanted) asked.question.name ≡ asked.question
      → IfSome second (λ a. (a.question.name ≡ asked.question.name) × (a.names ≡ asked.names) × (question_for spec 1 a.question.name ≡ a.question)) → at_once setting number spec ≡ None
      → IsNewRow setting.options.flags number wanted row.token asked second row → plan row.token ≡ script → RowStands plan setting (Accept number spec script ∷ past) row
  row_stands wanted asked second row wants legs candidates few asks too unanswered is scripted = record {
    spec = spec;
    wants = wants ∙ sym is.wants;
    passed = [];
    name = asked.question.name;
    rest = asked.names;
    candidates = candidates;
    few = few;
    legged = legs ∙ rw (is.first_lookup, is.second_lookup) (by_second second);
    came = refl;
    emptied = sym is.unpassed;
    accepts = rw (is.numbered, scripted) (accept-request setting past number spec script new);
    undecided = subst (λ n. fate setting n (Accept number spec script ∷ past) ≡ None) (sym is.numbered) (accept-fate setting past number spec script new ∙ unanswered);
    each_lookup = rw (is.first_lookup, is.second_lookup)
        (subst (λ n. AllByRecursion (LookupStands setting (Accept number spec script ∷ past) n spec asked.question.name asked.names) (new_lookup number (first_number wanted) asked (fresh_leg setting.options.flags) ∷ option_to_list (option_map (λ (a : Asked). new_lookup number 1 a (fresh_leg setting.options.flags)) second)))
        (sym is.numbered) (each second too));
    unanswered = rw is.first_lookup (no_end setting.options row.number row.wanted asked.question.name (option_and_then end_of_lookup row.second));
    later = λ k above. rw is.numbered (unbegun k);
  }
    where
      by_second : (o : Option Asked) → first_number wanted ∷ option_to_list (option_map (λ (a : Asked). 1) o)
          ≡ map number_of_leg (new_lookup number (first_number wanted) asked (fresh_leg setting.options.flags) ∷ option_to_list (option_map (λ (a : Asked). new_lookup number 1 a (fresh_leg setting.options.flags)) o))
      by_second None = refl
      by_second (Some a) = refl

      each : (o : Option Asked) → IfSome o (λ a. (a.question.name ≡ asked.question.name) × (a.names ≡ asked.names) × (question_for spec 1 a.question.name ≡ a.question))
          → AllByRecursion (LookupStands setting (Accept number spec script ∷ past) number spec asked.question.name asked.names)
          (new_lookup number (first_number wanted) asked (fresh_leg setting.options.flags) ∷ option_to_list (option_map (λ (a : Asked). new_lookup number 1 a (fresh_leg setting.options.flags)) o))
      each None too = (new_stands (first_number wanted) asked asked.names refl asks, tt)
      each (Some a) too = (
        new_stands (first_number wanted) asked asked.names refl asks,
        (subst (λ n. LookupStands setting (Accept number spec script ∷ past) number spec n asked.names (new_lookup number 1 a (fresh_leg setting.options.flags))) too.0 (new_stands 1 a asked.names too.1 too.2), tt),
      )

-- no attempt of a new row is in flight
pub new_flown : {T : Type 0} (flags : Flags) (number : ℕ) (wanted : Wanted) (token : T) (asked : Asked) (second : Option Asked) (row : Row T) → IsNewRow flags number wanted token asked second row → flown row ≡ []
new_flown flags number wanted token asked second row is =
    ap₂ (λ (s : Lookup) (o : Option Lookup). flat_map flown_lookup (s ∷ option_to_list o)) is.first_lookup is.second_lookup ∙ by_second second
  where
    by_second : (o : Option Asked) → flat_map flown_lookup (new_lookup number (first_number wanted) asked (fresh_leg flags) ∷ option_to_list (option_map (λ (a : Asked). new_lookup number 1 a (fresh_leg flags)) o)) ≡ []
    by_second None = refl
    by_second (Some a) = refl
