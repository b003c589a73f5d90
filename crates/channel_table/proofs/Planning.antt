-- What a start makes of a table, by what it comes to.
use Rattle.channel_table.proofs.Base.{◌≡◌, ◌∙◌, ℕ, ◌+◌, ◌≤◌, ◌-◌, ◌^◌, List, ◌∷◌, Option, Some, None, Ok, Result, refl, ap, ap₂, sym, subst, arith, true, min, option_map, IfSome, IsSomeAnd, IsErr, Entry, Script, Start, message_bytes, wait_of, flight, has_leg, started, Past, past_of, MayStart, LegFacts, Leg, leg_of, Starts, leg_query, has_key, NoId, Idle, IsWaiting, NoneFlies, AreCounted, IsKept, setting_of, flown_by, TableStands, all_lookups, lookup_at, leg_of_lookup, Lookup, Row, Inside, Begun, NoMemory, IsApart, begun_servers, query_written, start_told, BeginsRow, WaitsAt}
use Rattle.channel_model.specs.Servers.{address_of}
use Rattle.query_machine.specs.declared.leg.Leg as machine
use Rattle.channel_table.proofs.Apart.{none_flies}
use Rattle.channel_table.proofs.Attempts.{list_few, list_some}
use Rattle.channel_table.proofs.Finding.{waiting_says}
use Rattle.channel_table.proofs.Links.{link_few, one_first}
use Rattle.channel_table.proofs.LookupLists.{all_legs_stand}
use Rattle.channel_table.proofs.Starting.{StartsAt, all_used, chosen_there, counted_begun, counts_length, first_free, may_begin, query_told, server_is, some_free, some_wait, starts_at, starts_failed, table_begun, used_is}
use Rattle.channel_table.proofs.Telling.{waiting_rows}
use Rattle.channel_table.specs.Planning.{IsPlan, IsPlanned, MayBegin, MayPlan, begun_answer, planned_flying}
use Rattle.channel_table.specs.declared.table.start_plan.Planned.{Planned}
use Rattle.channel_table.specs.declared.table.start_plan.StartPlan.TheVariants.{NoIdentifier, NoLeg}

module _ {T J : Type 0} {plan : T → Script} {told : J → List Entry} {room_of : J → ℕ} {t : Inside T J} (kept : IsKept plan told room_of t) where
  -- it can be planned
  pub may_plan : MayPlan t.options t.servers t.rows
  may_plan = record {
    some = list_some (setting_of t) (past_of (told t.journal)) kept.counted kept.limits kept.lawful.allowed;
    few = list_few (setting_of t) (past_of (told t.journal)) kept.counted kept.limits kept.lawful.allowed;
    counted = counts_length (setting_of t) (past_of (told t.journal)) kept.counted;
    fits = omega (arith, kept.few_links, kept.fits);
    one_link = one_first plan (setting_of t) (past_of (told t.journal)) t.rows t.ready.items kept.stands kept.lawful.allowed;
    there = λ idle found.
        let s = starts_at plan (setting_of t) (past_of (told t.journal)) t.rows t.ready.items kept.stands idle found in
        subst (λ k. has_key k t.servers.list ≡ true) (sym (server_is (setting_of t) (past_of (told t.journal)) kept.counted (leg_of_lookup s.lookup) idle.leg.forced s.forces)) (chosen_there (setting_of t) (past_of (told t.journal)) kept.counted (leg_of_lookup s.lookup) kept.limits kept.lawful.allowed);
  }

  -- no leg waits
  pub none_waits : (word mix at : ℕ) → IsPlan t.options t.servers t.rows word mix NoLeg → Starts word mix at (Ok Idle) (setting_of t) (past_of (told t.journal)) None
  none_waits word mix at none = (refl, waiting_rows plan (setting_of t) (past_of (told t.journal)) t.rows t.ready.items kept.stands ∙ none)

  -- one waits, and no identifier is free
  pub none_free : (word mix at : ℕ) → IsPlan t.options t.servers t.rows word mix NoIdentifier → Starts word mix at (Ok NoId) (setting_of t) (past_of (told t.journal)) None
  none_free word mix at is = (
    refl,
    some_wait plan (setting_of t) (past_of (told t.journal)) t.rows t.ready.items kept.stands _ is.0.1.firsts,
    all_used plan (setting_of t) (past_of (told t.journal)) t.rows t.ready.items kept.stands word is.1,
  )

  -- memory was missing for an attempt
  pub begin_failed : {word : ℕ} (mix at : ℕ) (result : Result Begun NoMemory) → IsErr result → MayBegin t.rows word → Starts word mix at result (setting_of t) (past_of (told t.journal)) None
  begin_failed {word} mix at result failed may =
      starts_failed word mix at result (setting_of t) (past_of (told t.journal)) failed
      (some_wait plan (setting_of t) (past_of (told t.journal)) t.rows t.ready.items kept.stands _ may.found.firsts)
      (some_free plan (setting_of t) (past_of (told t.journal)) t.rows t.ready.items kept.stands word may.id may.free)

  -- this attempt begins
  module _ {word mix : ℕ} {planned : Planned} (is : IsPlanned t.options t.servers t.rows word mix planned) where
    of_lookup : StartsAt plan (setting_of t) (past_of (told t.journal)) t.rows planned.idle
    of_lookup = starts_at plan (setting_of t) (past_of (told t.journal)) t.rows t.ready.items kept.stands planned.idle is.found

    pub planned_free : MayBegin t.rows word
    planned_free = record { idle = planned.idle; found = is.found; id = planned.id; free = is.free }

    pub planned_may : MayStart (setting_of t) (past_of (told t.journal)) (leg_of planned.idle.number planned.idle.leg_number) planned.server planned.link planned.id planned.mix
    planned_may =
        may_begin plan (setting_of t) (past_of (told t.journal)) t.rows t.ready.items kept.stands planned.idle of_lookup mix t.servers.greatest_link kept.lawful.allowed kept.counted.linked
        (is.to_server ∙ server_is (setting_of t) (past_of (told t.journal)) kept.counted (leg_of_lookup of_lookup.lookup) planned.idle.leg.forced of_lookup.forces) is.over_link is.free.3 is.drawn

    pub planned_waits : WaitsAt planned.idle.index planned.idle.is_second t.rows
    planned_waits d =
        let one = is.found.is d in
        subst (λ (o : Option Lookup). IfSome o (λ (s : Lookup). IsWaiting s.leg.phase)) (sym one.at) (waiting_says one.lookup.leg.phase one.waiting).0

    -- no attempt in flight is of its leg
    pub planned_apart : IsApart planned.idle.index planned.idle.is_second t.rows
    planned_apart d =
        let s = of_lookup in
        let idle : flight (setting_of t) (leg_of_lookup s.lookup) (past_of (told t.journal)) ≡ None = ap (λ (f : LegFacts). f.flies) s.is_of.stands_so.leg.facts ∙ ap (flown_by (leg_of_lookup s.lookup)) s.lands in
        subst (λ (o : Option Lookup). IsSomeAnd o (λ (one : Lookup). NoneFlies (leg_of_lookup one) (all_lookups t.rows))) (sym (ap (lookup_at planned.idle.is_second) (s.at_index d) ∙ s.at))
        (none_flies (setting_of t) (past_of (told t.journal)) (leg_of_lookup s.lookup) (all_lookups t.rows) idle (all_legs_stand plan (setting_of t) (past_of (told t.journal)) t.rows kept.stands.each_row))

    -- the table behind it
    pub planned_stands : (at : ℕ) {new_rows : List (Row T)} → BeginsRow (planned_flying at planned) planned.idle.index planned.idle.is_second t.rows new_rows
        → TableStands plan (setting_of t) (start_told at planned ∷ past_of (told t.journal)) new_rows t.ready.items
    planned_stands at {new_rows} begins =
        let s = of_lookup in
        let there = ap (lookup_at planned.idle.is_second) (sym (begins.is s.row) ∙ s.at_index s.row) ∙ s.at in
        let wait = is.given ∙ ap₂ (wait_of t.options) (sym (ap (λ (l : machine.Leg). l.spent) s.leg)) (used_is (setting_of t) (past_of (told t.journal)) kept.counted) in
        subst (λ (l : Leg). TableStands plan (setting_of t) (Start l.request l.number planned.server planned.link planned.id planned.mix at ∷ past_of (told t.journal)) new_rows t.ready.items) s.own
        (table_begun plan (setting_of t) (past_of (told t.journal)) t.rows new_rows t.ready.items planned.idle.index planned.idle.is_second (planned_flying at planned) kept.lawful.allowed begins s.lookup there s.lands s.unended (ap (λ (w : ℕ). min (at + w) (2 ^ 64 - 1)) wait) kept.stands)

    pub planned_counted : (at : ℕ) → AreCounted (setting_of t) (start_told at planned ∷ past_of (told t.journal)) (begun_servers planned.link planned.idle.begun t.servers)
    planned_counted at =
        counted_begun (setting_of t) (past_of (told t.journal)) kept.counted (leg_of planned.idle.number planned.idle.leg_number) (planned_flying at planned) planned.idle.begun
        (ap (λ (l : Leg). has_leg l (started (past_of (told t.journal)))) (sym of_lookup.own) ∙ of_lookup.started_so)

    pub planned_link : planned.link ≤ t.servers.greatest_link + 1
    planned_link = omega (arith, is.over_link, link_few plan (setting_of t) (past_of (told t.journal)) t.rows t.ready.items kept.stands planned.idle.leg.over_tcp planned.server t.servers.greatest_link kept.counted.linked)

    -- and what the start answers
    pub planned_starts : (at : ℕ) → Starts word mix at (Ok (begun_answer planned)) (setting_of t) (past_of (told t.journal)) (Some (start_told at planned))
    planned_starts at =
        let s = of_lookup in
        let leg : Leg = leg_of planned.idle.number planned.idle.leg_number in
        let past : Past = past_of (told t.journal) in
        let asks = subst (λ (o : Option Lookup). IfSome o (λ (lookup : Lookup). planned.message ≡ query_written t.options planned.id planned.mix planned.idle.leg.has_opt lookup.question))
        (ap (lookup_at planned.idle.is_second) (s.at_index s.row) ∙ s.at) (is.asks s.row) in
        let query : option_map message_bytes (leg_query (setting_of t) leg planned.id planned.mix past) ≡ Some planned.message =
        ap (λ (l : Leg). option_map message_bytes (leg_query (setting_of t) l planned.id planned.mix past)) (sym s.own)
        ∙ query_told plan (setting_of t) past t.rows t.ready.items kept.stands s.row s.stands s.lookup planned.id planned.mix s.is_of
        ∙ ap (λ (l : machine.Leg). Some (query_written t.options planned.id planned.mix l.has_opt s.lookup.question)) s.leg
        ∙ ap Some (sym asks) in (
          ap (λ (m : Option ℕ). Some (Start planned.idle.number planned.idle.leg_number planned.server planned.link planned.id m at)) is.drawn,
          subst (λ (m : Option ℕ). MayStart (setting_of t) past leg planned.server planned.link planned.id m) is.drawn planned_may,
          first_free plan (setting_of t) past t.rows t.ready.items kept.stands word planned.id is.free,
          ap (address_of planned.server) kept.counted.listed ∙ is.listens,
          subst (λ (m : Option ℕ). option_map message_bytes (leg_query (setting_of t) leg planned.id m past) ≡ Some planned.message) is.drawn query,
        )
