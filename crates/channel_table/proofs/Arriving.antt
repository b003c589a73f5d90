-- How a table follows an Arrive.
use Rattle.channel_table.proofs.Base.{◌≡◌, ◌∙◌, ℕ, ◌<◌, ◌+◌, ◌≤◌, ◌^◌, Bool, true, false, List, [], ◌∷◌, ◌++◌, Option, Some, None, Result, Ok, Err, refl, ap, ap₂, sym, subst, map, take, drop, get_or, length, cond, eq-eqb, eqb-true, true≢false, and_parts, false_from_ne_true, or_parts, append-nil, list_any-append, then_some, AllByRecursion, list_any, option_and_then, IsErr, IfSome, IsFalse, IsSomeAnd, flat_map, if◌then◌else◌, is_some, not, option_map, option_to_list, ◌&&◌, ◌||◌, Answer, What, Arrive, Script, Ticket, Question, Spares, as_many-any, taken_by, Attempt, answer_to, answers, asked_with, begun_by, closes, flight, in_flight, Past, accepted_by, spec_of, IsLawfulPast, LegFacts, Leg, leg_of, Arrives, closings, has_opt, outcome_of, question_of, wanted_kind, Reply, attempts, Setting, verdict_of, Landed, Judged, NoMemory, Flying, answer_behind, is_of_addresses, FindsAt, judged_of, kind_wanted, lands_on, reply_for, row_lands, AreCounted, EndsRow, attempt_of, flown_by, RowStands, TableStands, flown, number_of, lookup_at, lookups, concerned_at, flew_over, flown_lookup, flying_of, flying_over, concerns, leg_of_lookup, Wanted, Lookup, Landing, Row, ◌==◌, ChannelServers, servers_behind}
use Rattle.std.specs.Prelude.{IsTrue}
use Rattle.channel_model.proofs.Theorems.{arrive_spares, one_leg}
use Rattle.channel_model.specs.Flight.{reply_to}
use Rattle.channel_model.specs.Replies.{read_reply}
use Rattle.channel_table.proofs.FailureCounts.{counted_changed}
use Rattle.channel_table.proofs.OneRow.{each-split}
use Rattle.channel_table.proofs.TableEnds.{IsOther, others_apart, table_row_ended}
use Rattle.channel_table.proofs.Asking.{IsOfRow, asked_question, each_of_row}
use Rattle.channel_table.proofs.RowAt.{item_at, lookup_of_each, stands_at}
use Rattle.channel_table.proofs.RowEnds.{Meets}
use Rattle.channel_table.proofs.RowLookups.{brought_second, if_second, meets_at, other_differs}
use Rattle.channel_table.proofs.LookupLists.{LegOf}
use Rattle.channel_table.proofs.SearchSteps.{kind_is}
use Rattle.channel_table.proofs.RowFrames.{IsSpared, SparesLookup, keep_all, keep_all-becomes, keep_all-follow, keep_all-stand, spared_uncompleted, spec_of_row}
use Rattle.channel_table.proofs.TableSteps.{table_behind}

-- an entry that concerns no row leaves the table
pub table_spared : {T : Type 0} (plan : T → Script) (setting : Setting) (what : What) (past : Past) (rows : List (Row T)) (tickets : List (Ticket T)) → accepted_by what ≡ None → begun_by what ≡ None → taken_by what ≡ None
    → AllByRecursion (IsSpared plan setting what past) rows → TableStands plan setting past rows tickets → TableStands plan setting (what ∷ past) rows tickets
table_spared plan setting what past rows tickets accepts begins takes spared table =
    subst (TableStands plan setting (what ∷ past) rows) (append-nil tickets)
    (table_behind plan setting what past (keep_all plan setting what past rows) rows rows tickets [] accepts begins takes (keep_all-becomes plan setting what past rows)
    (keep_all-follow plan setting what past rows spared table.each_row) (keep_all-stand plan setting what past rows spared table.each_row) table)

module _ {T : Type 0} (plan : T → Script) (setting : Setting) (past : Past) (server link : ℕ) (bytes : List ℕ) where
  -- what the entry is
  abbrev pub arrive : What
  arrive = Arrive server link bytes

  some_if : (b : Bool) (o : Option Reply) (f : Reply → Judged) → (b && is_some o) ≡ is_some (cond b (option_map f o) None)
  some_if true None f = refl
  some_if true (Some reply) f = refl
  some_if false o f = refl

  flight_by : (lookup : Lookup) (o : Option Flying) → flying_of lookup ≡ o → LegOf setting past lookup → flight setting (leg_of_lookup lookup) past ≡ flown_by (leg_of_lookup lookup) o
  flight_by lookup o is stands = ap (λ (f : LegFacts). f.flies) stands.facts ∙ ap (flown_by (leg_of_lookup lookup)) is

  module _ (row : Row T) (stands : RowStands plan setting past row) where
    -- what the bytes say, where they answer the lookup's attempt
    pub reply_of_lookup : (lookup : Lookup) (flying : Flying) → flying_of lookup ≡ Some flying → IsOfRow plan setting past row stands lookup → reply_to setting (attempt_of (leg_of_lookup lookup) flying) bytes past ≡ reply_for bytes lookup.question (flying_of lookup)
    reply_of_lookup lookup flying is own =
        ap (λ o. answer_to flying.id (is_some flying.mix) (option_map (asked_with flying.mix) o) bytes) (asked_question plan setting past row stands lookup own) ∙ ap (reply_for bytes lookup.question) (sym is)

    -- the message closes a lookup's attempt exactly where it lands on it
    pub closes_lookup : (lookup : Lookup) (flying : Flying) → flying_of lookup ≡ Some flying → IsOfRow plan setting past row stands lookup
        → closes setting (attempt_of (leg_of_lookup lookup) flying) (Arrive server link bytes) past ≡ lands_on setting.options.flags server link bytes row.wanted lookup
    closes_lookup lookup flying is own =
        ap₂ (λ b o. b && is_some o) (ap (flying_over server link) (sym is)) (reply_of_lookup lookup flying is own)
        ∙ some_if (flew_over server link lookup) (reply_for bytes lookup.question (flying_of lookup)) (verdict_of setting.options.flags (not (link == 0)) lookup.leg.has_opt (kind_wanted row.wanted lookup))

    -- a lookup on which it doesn't land isn't concerned
    misses_lookup : (lookup : Lookup) (o : Option Flying) → flying_of lookup ≡ o → IsOfRow plan setting past row stands lookup → lands_on setting.options.flags server link bytes row.wanted lookup ≡ false → IfSome (flight setting (leg_of_lookup lookup) past) (λ a. IsFalse (closes setting a (Arrive server link bytes) past))
    misses_lookup lookup None is own misses = subst (λ f. IfSome f (λ a. IsFalse (closes setting a (Arrive server link bytes) past))) (sym (flight_by lookup None is own.stands_so.leg)) tt
    misses_lookup lookup (Some flying) is own misses = subst (λ f. IfSome f (λ a. IsFalse (closes setting a (Arrive server link bytes) past))) (sym (flight_by lookup (Some flying) is own.stands_so.leg)) (closes_lookup lookup flying is own ∙ misses)

    pub spared_lookup : (lookup : Lookup) → IsOfRow plan setting past row stands lookup → lands_on setting.options.flags server link bytes row.wanted lookup ≡ false → Spares setting (Arrive server link bytes) past (leg_of_lookup lookup)
    spared_lookup lookup own misses = arrive_spares setting past (leg_of_lookup lookup) server link bytes (misses_lookup lookup (flying_of lookup) refl own misses)

    spared_lookups : (ss : List Lookup) → AllByRecursion (IsOfRow plan setting past row stands) ss → AllByRecursion (λ (s : Lookup). lands_on setting.options.flags server link bytes row.wanted s ≡ false) ss → AllByRecursion (SparesLookup setting (Arrive server link bytes) past) ss
    spared_lookups [] own misses = tt
    spared_lookups (lookup ∷ ss) own misses = (spared_lookup lookup own.0 misses.0, spared_lookups ss own.1 misses.1)

    closed_lookups : (ss : List Lookup) → AllByRecursion (IsOfRow plan setting past row stands) ss → list_any (λ a. closes setting a (Arrive server link bytes) past) (flat_map flown_lookup ss) ≡ list_any (lands_on setting.options.flags server link bytes row.wanted) ss
    closed_lookups [] own = refl
    closed_lookups (lookup ∷ ss) own = by_attempt (flying_of lookup) refl (closed_lookups ss own.1)
      where
        by_attempt : (o : Option Flying) → flying_of lookup ≡ o → list_any (λ a. closes setting a (Arrive server link bytes) past) (flat_map flown_lookup ss) ≡ list_any (lands_on setting.options.flags server link bytes row.wanted) ss
            → list_any (λ a. closes setting a (Arrive server link bytes) past) (flown_lookup lookup ++ flat_map flown_lookup ss) ≡ (lands_on setting.options.flags server link bytes row.wanted lookup || list_any (lands_on setting.options.flags server link bytes row.wanted) ss)
        by_attempt None is rest =
            ap (λ f. list_any (λ a. closes setting a (Arrive server link bytes) past) (option_to_list (flown_by (leg_of_lookup lookup) f) ++ flat_map flown_lookup ss)) is ∙ rest
            ∙ ap (λ f. is_some (cond (flying_over server link f) (option_map (verdict_of setting.options.flags (not (link == 0)) lookup.leg.has_opt (kind_wanted row.wanted lookup)) (reply_for bytes lookup.question f)) None) || list_any (lands_on setting.options.flags server link bytes row.wanted) ss) (sym is)
        by_attempt (Some flying) is rest =
            ap (λ f. list_any (λ a. closes setting a (Arrive server link bytes) past) (option_to_list (flown_by (leg_of_lookup lookup) f) ++ flat_map flown_lookup ss)) is
            ∙ ap₂ (λ b c. b || c) (closes_lookup lookup flying is own.0) rest

  each_false : {X : Type 0} (p : X → Bool) (xs : List X) → list_any p xs ≡ false → AllByRecursion (λ x. p x ≡ false) xs
  each_false p [] none = tt
  each_false p (x ∷ xs) none = let parts = or_parts (p x) (list_any p xs) none in (parts.0, each_false p xs parts.1)

  spared_rows : (rows : List (Row T)) → AllByRecursion (λ (r : Row T). row_lands setting.options.flags server link bytes r ≡ false) rows → AllByRecursion (RowStands plan setting past) rows → AllByRecursion (IsSpared plan setting (Arrive server link bytes) past) rows
  spared_rows [] misses each = tt
  spared_rows (row ∷ rows) misses each =
      let spared = spared_lookups row each.0 (lookups row) (each_of_row plan setting past row each.0) (each_false (lands_on setting.options.flags server link bytes row.wanted) (lookups row) misses.0) in
      (record { spared = spared; others = λ k. tt; uncompleted = spared_uncompleted plan setting (Arrive server link bytes) past row refl spared each.0 }, spared_rows rows misses.1 each.1)

  -- a stray leaves the table
  pub table_stray : (rows : List (Row T)) (tickets : List (Ticket T)) → list_any (row_lands setting.options.flags server link bytes) rows ≡ false → TableStands plan setting past rows tickets → TableStands plan setting (Arrive server link bytes ∷ past) rows tickets
  table_stray rows tickets none table =
      table_spared plan setting (Arrive server link bytes) past rows tickets refl refl refl (spared_rows rows (each_false (row_lands setting.options.flags server link bytes) rows none) table.each_row) table

  closed_rows : (rows : List (Row T)) → AllByRecursion (RowStands plan setting past) rows → list_any (λ a. closes setting a (Arrive server link bytes) past) (flat_map flown rows) ≡ list_any (row_lands setting.options.flags server link bytes) rows
  closed_rows [] each = refl
  closed_rows (row ∷ rows) each =
      list_any-append (λ a. closes setting a (Arrive server link bytes) past) (flown row) (flat_map flown rows)
      ∙ ap₂ (λ b c. b || c) (closed_lookups row each.0 (lookups row) (each_of_row plan setting past row each.0)) (closed_rows rows each.1)

  -- it closes no attempt in flight
  pub stray_closes_none : (rows : List (Row T)) (tickets : List (Ticket T)) → list_any (row_lands setting.options.flags server link bytes) rows ≡ false → TableStands plan setting past rows tickets
      → list_any (λ a. closes setting a (Arrive server link bytes) past) (in_flight setting past) ≡ false
  stray_closes_none rows tickets none table =
      as_many-any (λ a. closes setting a (Arrive server link bytes) past) (in_flight setting past) (flat_map flown rows) table.stand.flying_are ∙ closed_rows rows table.each_row ∙ none

-- bytes that answer an attempt are a message with its identifier
record Answered (id : ℕ) (bytes : List ℕ) (reply : Reply) : Type 0 where
  read : read_reply bytes ≡ Some reply
  same_id : reply.message.id ≡ id

answered_says : (id : ℕ) (exact : Bool) (asked : Option Question) (bytes : List ℕ) (reply : Reply) → answer_to id exact asked bytes ≡ Some reply → Answered id bytes reply
answered_says id exact asked bytes reply e = by_read (read_reply bytes) refl e
  where
    by_test : (r : Reply) (b : Bool) → answers id exact asked r.message ≡ b → read_reply bytes ≡ Some r → ◌≡◌ {A = Option Reply} (then_some b r) (Some reply) → Answered id bytes reply
    by_test r true fits is e =
        let same : r ≡ reply = cc in
        let id_is = (and_parts _ _ (and_parts _ _ (and_parts _ _ fits).0).0).0 in
        record { read = is ∙ ap Some same; same_id = sym (ap (λ (q : Reply). q.message.id) same) ∙ eqb-true r.message.id id id_is }
    by_test r false else_ is e = absurd cc

    by_read : (read : Option Reply) → read_reply bytes ≡ read → option_and_then (λ r. then_some (answers id exact asked r.message) r) read ≡ Some reply → Answered id bytes reply
    by_read None is e = absurd cc
    by_read (Some r) is e = by_test r (answers id exact asked r.message) refl is e

-- a lookup's attempt that the message answers
pub record HasLanded (setting : Setting) (server link : ℕ) (bytes : List ℕ) (wanted : Wanted) (lookup : Lookup) (judged : Judged) : Type 0 where
  pub flying : Flying
  pub flies : flying_of lookup ≡ Some flying
  pub same_server : flying.server ≡ server
  pub same_link : flying.link ≡ link
  pub reply : Reply
  pub found : reply_for bytes lookup.question (Some flying) ≡ Some reply
  pub means : judged ≡ verdict_of setting.options.flags (not (link == 0)) lookup.leg.has_opt (kind_wanted wanted lookup) reply

has_landed : (setting : Setting) (server link : ℕ) (bytes : List ℕ) (wanted : Wanted) (lookup : Lookup) (judged : Judged) (o : Option Flying) → flying_of lookup ≡ o
    → cond (flying_over server link o) (option_map (verdict_of setting.options.flags (not (link == 0)) lookup.leg.has_opt (kind_wanted wanted lookup)) (reply_for bytes lookup.question o)) None ≡ Some judged → HasLanded setting server link bytes wanted lookup judged
has_landed setting server link bytes wanted lookup judged None is e = absurd cc
has_landed setting server link bytes wanted lookup judged (Some flying) is e = by_test (flying_over server link (Some flying)) (reply_for bytes lookup.question (Some flying)) refl refl e
  where
    by_test : (b : Bool) (r : Option Reply) → flying_over server link (Some flying) ≡ b → reply_for bytes lookup.question (Some flying) ≡ r
        → cond b (option_map (verdict_of setting.options.flags (not (link == 0)) lookup.leg.has_opt (kind_wanted wanted lookup)) r) None ≡ Some judged → HasLanded setting server link bytes wanted lookup judged
    by_test false r over found e = absurd cc
    by_test true None over found e = absurd cc
    by_test true (Some reply) over found e =
        let parts = and_parts (flying.server == server) (flying.link == link) over in
        record {
          flying = flying;
          flies = is;
          same_server = eqb-true flying.server server parts.0;
          same_link = eqb-true flying.link link parts.1;
          reply = reply;
          found = found;
          means = cc;
        }

-- a lookup on which the message lands has such an attempt
pub landed_says : (setting : Setting) (server link : ℕ) (bytes : List ℕ) (wanted : Wanted) (lookup : Lookup) (judged : Judged) → judged_of setting.options.flags server link bytes wanted lookup ≡ Some judged → HasLanded setting server link bytes wanted lookup judged
landed_says setting server link bytes wanted lookup judged e = has_landed setting server link bytes wanted lookup judged (flying_of lookup) refl e

reply_of : (o : Option Reply) → is_some o ≡ true → (reply : Reply) × (o ≡ Some reply)
reply_of None e = absurd cc
reply_of (Some reply) e = (reply, refl)

some_same : (a b : Attempt) → ◌≡◌ {A = Option Attempt} (Some a) (Some b) → a ≡ b
some_same a b e = cc

module _ {T : Type 0} (plan : T → Script) (setting : Setting) (past : Past) (server link : ℕ) (bytes : List ℕ) (lawful : IsLawfulPast setting past) (row : Row T) (judged : Judged) (stands : RowStands plan setting past row)
    (second : Bool) (lookup : Lookup) (at : lookup_at second row ≡ Some lookup) (landed : HasLanded setting server link bytes row.wanted lookup judged) where
  own : IsOfRow plan setting past row stands lookup
  own = lookup_of_each (IsOfRow plan setting past row stands) row (each_of_row plan setting past row stands) second lookup at

  landed_flies : flight setting (leg_of_lookup lookup) past ≡ Some (attempt_of (leg_of_lookup lookup) landed.flying)
  landed_flies = flight_by plan setting past server link bytes lookup (Some landed.flying) landed.flies own.stands_so.leg

  landed_closes : closes setting (attempt_of (leg_of_lookup lookup) landed.flying) (Arrive server link bytes) past ≡ true
  landed_closes = closes_lookup plan setting past server link bytes row stands lookup landed.flying landed.flies own ∙ lands
    where
      lands : lands_on setting.options.flags server link bytes row.wanted lookup ≡ true
      lands =
          ap (λ f. is_some (cond (flying_over server link f) (option_map (verdict_of setting.options.flags (not (link == 0)) lookup.leg.has_opt (kind_wanted row.wanted lookup)) (reply_for bytes lookup.question f)) None)) landed.flies
          ∙ rw (landed.same_server, landed.same_link, eq-eqb server server refl, eq-eqb link link refl, landed.found) refl

  -- it closes no other attempt
  only_one : (b : Attempt) → flight setting b.leg past ≡ Some b → closes setting b (Arrive server link bytes) past ≡ true → b ≡ attempt_of (leg_of_lookup lookup) landed.flying
  only_one b flies closed =
      let a : Attempt = attempt_of (leg_of_lookup lookup) landed.flying in
      let parts = and_parts _ _ closed in
      let other = reply_of (reply_to setting b bytes past) parts.1 in
      let theirs = answered_says b.id (is_some b.mix) (option_map (asked_with b.mix) (question_of setting b.leg past)) bytes other.0 other.1 in
      let ours = answered_says landed.flying.id (is_some landed.flying.mix) (Some (asked_with landed.flying.mix lookup.question)) bytes landed.reply landed.found in
      let same_reply : ◌≡◌ {A = Option Reply} (Some other.0) (Some landed.reply) = sym theirs.read ∙ ours.read in
      let same_id : other.0.message.id ≡ landed.reply.message.id = some_ids other.0 landed.reply same_reply in
      let leg : b.leg ≡ leg_of_lookup lookup = one_leg setting past lawful b.leg (leg_of_lookup lookup) b a flies landed_flies (sym theirs.same_id ∙ same_id ∙ ours.same_id) in
      some_same b a (sym flies ∙ ap (λ (l : Leg). flight setting l past) leg ∙ landed_flies)
    where
      some_ids : (p q : Reply) → ◌≡◌ {A = Option Reply} (Some p) (Some q) → p.message.id ≡ q.message.id
      some_ids p q e = let same : p ≡ q = cc in ap (λ (r : Reply). r.message.id) same

  -- it lands on no lookup with another leg
  misses_leg : (other : Row T) (others : RowStands plan setting past other) (it : Lookup) → IsOfRow plan setting past other others it → (leg_of_lookup it ≡ leg_of_lookup lookup → ⊥) → lands_on setting.options.flags server link bytes other.wanted it ≡ false
  misses_leg other others it is apart = false_from_ne_true (lands_on setting.options.flags server link bytes other.wanted it) (λ lands. by_attempt (flying_of it) refl lands)
    where
      by_attempt : (o : Option Flying) → flying_of it ≡ o → lands_on setting.options.flags server link bytes other.wanted it ≡ true → ⊥
      by_attempt None flies lands = true≢false (sym lands ∙ ap (λ f. is_some (cond (flying_over server link f) (option_map (verdict_of setting.options.flags (not (link == 0)) it.leg.has_opt (kind_wanted other.wanted it)) (reply_for bytes it.question f)) None)) flies)
      by_attempt (Some flying) flies lands =
          let same = only_one (attempt_of (leg_of_lookup it) flying) (flight_by plan setting past server link bytes it (Some flying) flies is.stands_so.leg) (closes_lookup plan setting past server link bytes other others it flying flies is ∙ lands) in
          apart (ap (λ (a : Attempt). a.leg) same)

  misses_lookups : (other : Row T) (others : RowStands plan setting past other) → IsOther row.number other → (ss : List Lookup) → AllByRecursion (IsOfRow plan setting past other others) ss → AllByRecursion (λ (s : Lookup). lands_on setting.options.flags server link bytes other.wanted s ≡ false) ss
  misses_lookups other others apart [] each = tt
  misses_lookups other others apart (it ∷ ss) each = (
    misses_leg other others it each.0
        (λ same. true≢false (sym (eq-eqb other.number row.number (sym each.0.stands_so.numbered ∙ ap (λ (l : Leg). l.request) same ∙ own.stands_so.numbered)) ∙ apart)),
    misses_lookups other others apart ss each.1,
  )

  any_false : (p : Lookup → Bool) (ss : List Lookup) → AllByRecursion (λ (s : Lookup). p s ≡ false) ss → list_any p ss ≡ false
  any_false p [] each = refl
  any_false p (s ∷ ss) each = ap₂ (λ b c. b || c) each.0 (any_false p ss each.1)

  each_other_misses : (rows : List (Row T)) → AllByRecursion (RowStands plan setting past) rows → AllByRecursion (IsOther row.number) rows → AllByRecursion (λ (r : Row T). row_lands setting.options.flags server link bytes r ≡ false) rows
  each_other_misses [] each apart = tt
  each_other_misses (other ∷ rows) each apart = (
    any_false (lands_on setting.options.flags server link bytes other.wanted) (lookups other) (misses_lookups other each.0 apart.0 (lookups other) (each_of_row plan setting past other each.0)),
    each_other_misses rows each.1 apart.1,
  )

  spared_others : (rows : List (Row T)) → AllByRecursion (RowStands plan setting past) rows → AllByRecursion (IsOther row.number) rows → AllByRecursion (IsSpared plan setting (Arrive server link bytes) past) rows
  spared_others rows each apart = spared_rows plan setting past server link bytes rows (each_other_misses rows each apart) each

  -- what it means for the leg
  means_so : outcome_of setting (attempt_of (leg_of_lookup lookup) landed.flying) (Arrive server link bytes) past (closings setting (leg_of_lookup lookup) past) ≡ Some judged
  means_so =
      let found : reply_to setting (attempt_of (leg_of_lookup lookup) landed.flying) bytes past ≡ Some landed.reply =
      reply_of_lookup plan setting past server link bytes row stands lookup landed.flying landed.flies own ∙ ap (reply_for bytes lookup.question) landed.flies ∙ landed.found in
      let flags = setting.options.flags in
      let opt : has_opt setting (closings setting (leg_of_lookup lookup) past) ≡ lookup.leg.has_opt = ap (λ (f : LegFacts). f.with_opt) own.stands_so.leg.facts in
      ap (option_map (λ (r : Reply). verdict_of flags (not (landed.flying.link == 0)) (has_opt setting (closings setting (leg_of_lookup lookup) past)) (wanted_kind (spec_of lookup.number past) lookup.leg_number) r)) found
      ∙ ap₂ (λ l o. Some (verdict_of flags (not (l == 0)) o (wanted_kind (spec_of lookup.number past) lookup.leg_number) landed.reply)) landed.same_link opt
      ∙ ap (λ n. Some (verdict_of flags (not (link == 0)) lookup.leg.has_opt (wanted_kind (spec_of n past) lookup.leg_number) landed.reply)) own.stands_so.numbered
      ∙ ap (λ s. Some (verdict_of flags (not (link == 0)) lookup.leg.has_opt (wanted_kind s lookup.leg_number) landed.reply)) (spec_of_row plan setting (Arrive server link bytes) past row stands)
      ∙ ap (λ k. Some (verdict_of flags (not (link == 0)) lookup.leg.has_opt k landed.reply)) (kind_is stands.spec lookup.leg_number stands.name lookup.question own.stands_so.asks ∙ ap (λ a. cond (is_of_addresses a) (Some lookup.question.kind) None) stands.wants)
      ∙ ap Some (sym landed.means)

  -- it meets both lookups of the row
  pub meets_landed : (other : Bool) (it : Lookup) → lookup_at other row ≡ Some it → (brought : List ℕ) → (other ≡ second → brought ≡ bytes) → Meets setting (Arrive server link bytes) past (concerned_at second) judged other brought it
  meets_landed other it at_it brought same =
      meets_at plan setting past row stands (Arrive server link bytes) judged bytes landed.flying second lookup at landed.flies
      (record { flying = landed.flying; flies = landed.flies; closed = landed_closes; means = means_so; brings = refl })
      (λ one at_one. spared_lookup plan setting past server link bytes row stands one (of_row one at_one)
      (misses_leg row stands one (of_row one at_one) (λ is. other_differs plan setting past row stands second lookup one at at_one is)))
      other it at_it brought same
    where
      of_row : (one : Lookup) → lookup_at (if second then false else true) row ≡ Some one → IsOfRow plan setting past row stands one
      of_row one at_one = lookup_of_each (IsOfRow plan setting past row stands) row (each_of_row plan setting past row stands) (if second then false else true) one at_one

  -- it changes the count of its server by that
  pub counted_landed : {servers : ChannelServers} → length past + 1 < 2 ^ 64 → AreCounted setting past servers → AreCounted setting (Arrive server link bytes ∷ past) (servers_behind server judged servers)
  counted_landed small counted =
      counted_changed setting (Arrive server link bytes) past counted refl refl server judged (attempt_of (leg_of_lookup lookup) landed.flying) small landed_flies landed.same_server landed_closes
      (λ b flies closed. by_same b (only_one b flies closed))
    where
      by_same : (b : Attempt) → b ≡ attempt_of (leg_of_lookup lookup) landed.flying → (b.server ≡ server) × (outcome_of setting b (Arrive server link bytes) past (closings setting b.leg past) ≡ Some judged)
      by_same b is = (ap (λ (a : Attempt). a.server) is ∙ landed.same_server, ap (λ (a : Attempt). outcome_of setting a (Arrive server link bytes) past (closings setting a.leg past)) is ∙ means_so)

  -- the leg of the lookup is in flight, and the message closes its attempt
  pub matched_closes : (leg : Leg) → leg ≡ leg_of_lookup lookup → IsSomeAnd (flight setting leg past) (λ a. IsTrue (closes setting a (Arrive server link bytes) past))
  matched_closes leg is =
      subst (λ (l : Leg). IsSomeAnd (flight setting l past) (λ a. IsTrue (closes setting a (Arrive server link bytes) past))) (sym is)
      (subst (λ o. IsSomeAnd o (λ a. IsTrue (closes setting a (Arrive server link bytes) past))) (sym landed_flies) landed_closes)

-- the attempt on which it landed ends
pub table_landed : {T : Type 0} (plan : T → Script) (setting : Setting) (past : Past) (server link : ℕ) (bytes : List ℕ) (judged : Judged) (answer : Option Answer) (most index : ℕ) (second : Bool) (rows new_rows : List (Row T)) (tickets new_tickets : List (Ticket T)) → IsLawfulPast setting past
    → (ends : EndsRow setting.options.flags (concerned_at second) judged bytes most answer index rows tickets new_rows new_tickets) → (lookup : Lookup) → lookup_at second ends.row ≡ Some lookup → judged_of setting.options.flags server link bytes ends.row.wanted lookup ≡ Some judged → attempts setting past ≡ most → most ≤ 80
    → answer ≡ answer_behind setting.options (concerned_at second) judged bytes most ends.row
    → TableStands plan setting past rows tickets → TableStands plan setting (Arrive server link bytes ∷ past) new_rows new_tickets
table_landed plan setting past server link bytes judged answer most index second rows new_rows tickets new_tickets lawful ends lookup at lands may few answers table =
    let parts = each-split (RowStands plan setting past) (take index rows) ends.row (drop (index + 1) rows) (subst (AllByRecursion (RowStands plan setting past)) ends.parts table.each_row) in
    let apart = others_apart setting past (take index rows) (drop (index + 1) rows) ends.row lawful (table.stand.pending_are ∙ ap (map number_of) ends.parts) in
    let landed = landed_says setting server link bytes ends.row.wanted lookup judged lands in
    let meets = meets_landed plan setting past server link bytes lawful ends.row judged parts.1 second lookup at landed in
    table_row_ended plan setting (Arrive server link bytes) past (concerned_at second) judged bytes most answer index rows new_rows tickets new_tickets ends table refl refl refl
    (spared_others plan setting past server link bytes lawful ends.row judged parts.1 second lookup at landed (take index rows) parts.0 apart.0)
    (spared_others plan setting past server link bytes lawful ends.row judged parts.1 second lookup at landed (drop (index + 1) rows) parts.2 apart.1)
    refl may few (meets false ends.row.first refl bytes (λ e. refl))
    (if_second ends.row.second (λ it at_it. meets true it at_it (if concerns (concerned_at second) false ends.row.first then [] else bytes) (brought_second plan setting past ends.row parts.1 (Arrive server link bytes) judged bytes landed.flying second bytes))) answers

-- an arrival that found no memory
pub arrives_failed : (server link : ℕ) (bytes : List ℕ) (result : Result Landed NoMemory) (setting : Setting) (past : Past) → IsErr result → Arrives server link bytes result setting past None
arrives_failed server link bytes (Ok landed) setting past failed = absurd (cc failed)
arrives_failed server link bytes (Err fault) setting past failed = refl

-- the lookup that the message was found to answer, and what is known of it
pub record LandsAt {T : Type 0} (plan : T → Script) (setting : Setting) (past : Past) (server link : ℕ) (bytes : List ℕ) (rows : List (Row T)) (landing : Landing) : Type 0 where
  pub row : Row T
  pub at_index : (d : Row T) → get_or rows landing.index d ≡ row
  pub stands : RowStands plan setting past row
  pub lookup : Lookup
  pub at : lookup_at landing.is_second row ≡ Some lookup
  pub judged : judged_of setting.options.flags server link bytes row.wanted lookup ≡ Some landing.judged
  pub own : leg_of landing.number landing.leg_number ≡ leg_of_lookup lookup
  pub landed : HasLanded setting server link bytes row.wanted lookup landing.judged

pub lands_at : {T : Type 0} (plan : T → Script) (setting : Setting) (past : Past) (server link : ℕ) (bytes : List ℕ) (rows : List (Row T)) (tickets : List (Ticket T)) → TableStands plan setting past rows tickets → (landing : Landing) → FindsAt setting.options.flags server link bytes rows landing
    → LandsAt plan setting past server link bytes rows landing
lands_at {T} plan setting past server link bytes rows tickets table landing found = by_item (item_at rows landing.index found.inside)
  where
    by_item : (row : Row T) × ((d : Row T) → get_or rows landing.index d ≡ row) → LandsAt plan setting past server link bytes rows landing
    by_item at =
        let row : Row T = at.0 in
        let is = found.is row in
        let same = at.1 row in
        let judged : judged_of setting.options.flags server link bytes row.wanted is.lookup ≡ Some landing.judged = ap (λ (r : Row T). judged_of setting.options.flags server link bytes r.wanted is.lookup) (sym same) ∙ is.judged in
        record {
          row = row;
          at_index = at.1;
          stands = stands_at plan setting past rows tickets table landing.index row found.inside (sym same);
          lookup = is.lookup;
          at = ap (lookup_at landing.is_second) (sym same) ∙ is.at;
          judged = judged;
          own = is.own;
          landed = landed_says setting server link bytes row.wanted is.lookup landing.judged judged;
        }
