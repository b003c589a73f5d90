-- A leg without a Start stands as a fresh one.
use Rattle.channel_table.proofs.Base.{◌≡◌, ◌∙◌, Bool, true, false, List, [], ◌∷◌, Option, Some, None, refl, ap, ap₂, sym, cond, arith, or_parts, is_some, option_map, ◌&&◌, ◌||◌, started-says, deadline, Attempt, closes, flight, has_leg, started, Past, end_of, Leg, closing_of, closings, forced_server, has_opt, is_over_tcp, spent, with_closing, Setting, has_item, fresh_leg, LegStands, facts_of}
use Rattle.channel_model.specs.LegFacts.{leg_facts}
use Rattle.channel_model.specs.Past.{forced_behind, forced_by, if_left}
use Rattle.channel_table.proofs.Finding.{no_attempt}

or_nothing : (b : Bool) → (b || false) ≡ b
or_nothing true = refl
or_nothing false = refl

and_all : (b : Bool) → (b && true) ≡ b
and_all true = refl
and_all false = refl

no_items : {X : Type 0} (xs : List X) → has_item xs ≡ false → xs ≡ []
no_items [] e = refl
no_items (x ∷ xs) e = absurd cc

-- a leg of which no attempt has ended has no server to go to
unclosed_forced : (setting : Setting) (leg : Leg) (past : Past) → closings setting leg past ≡ [] → forced_server setting leg past ≡ None
unclosed_forced setting leg [] e = refl
unclosed_forced setting leg (what ∷ past) e = by_flight (flight setting leg past) e (unclosed_forced setting leg past)
  where
    by_test : (a : Attempt) (b : Bool) → cond b (closing_of setting a what past (closings setting leg past) ∷ closings setting leg past) (closings setting leg past) ≡ [] → (closings setting leg past ≡ [] → forced_server setting leg past ≡ None)
        → cond b (forced_by (closing_of setting a what past (closings setting leg past))) (if_left what (forced_server setting leg past)) ≡ None
    by_test a true e rest = absurd cc
    by_test a false e rest = rw (rest e) refl

    by_flight : (o : Option Attempt) → with_closing setting what past o (closings setting leg past) ≡ [] → (closings setting leg past ≡ [] → forced_server setting leg past ≡ None) → forced_behind setting what past leg o (forced_server setting leg past) ≡ None
    by_flight None e rest = rw (rest e) refl
    by_flight (Some a) e rest = by_test a (closes setting a what past) e rest

module _ (setting : Setting) (past : Past) (leg : Leg) (unstarted : has_leg leg (started past) ≡ false) where
  parts : (is_some (flight setting leg past) ≡ false) × (has_item (closings setting leg past) ≡ false)
  parts = or_parts (is_some (flight setting leg past)) (has_item (closings setting leg past)) (sym (started-says setting leg past) ∙ unstarted)

  idle : flight setting leg past ≡ None
  idle = no_attempt (flight setting leg past) parts.0

  unclosed : closings setting leg past ≡ []
  unclosed = no_items (closings setting leg past) parts.1

  fresh_facts : leg_facts setting leg past ≡ facts_of leg (fresh_leg setting.options.flags)
  fresh_facts =
      let free : forced_server setting leg past ≡ None = unclosed_forced setting leg past unclosed in
      let same : leg_facts setting leg past ≡ record { flies = None; due = None; spends = 0; over_tcp = setting.options.flags.usevc || false; with_opt = setting.options.flags.edns && true; forced = None } =
      λ k. record { flies = idle k; due = option_map (λ (a : Attempt). deadline setting leg past) (idle k); spends = spent (unclosed k); over_tcp = is_over_tcp setting (unclosed k); with_opt = has_opt setting (unclosed k); forced = free k } in
      same ∙ ap₂ (λ (b c : Bool). record { flies = None; due = None; spends = 0; over_tcp = b; with_opt = c; forced = None }) (or_nothing setting.options.flags.usevc) (and_all setting.options.flags.edns)

  pub unstarted_stands : LegStands setting past leg (fresh_leg setting.options.flags) []
  unstarted_stands = record {
    facts = fresh_facts;
    ends = ap end_of unclosed;
    few = λ on. omega arith;
  }
