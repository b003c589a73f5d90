-- A journal in which no servers are set: its list is the opening one, and what is forced is what the last end of an attempt forces.
use Rattle.std.proofs.Common.{◌≡◌, ◌∙◌, ℕ, Bool, true, false, List, [], ◌∷◌, Option, Some, None, refl, ap, cond, true≢false}
use Rattle.std.specs.Bool.{then_some}
use Rattle.std.specs.List.{AllByRecursion}
use Rattle.std.specs.Option.{option_map_or}
use Rattle.std.specs.Prelude.{IfSome, IsFalse, is_some, option_and_then, ◌&&◌, ◌==◌}
use Rattle.chan_types.specs.declared.journal.Entry.{Entry}
use Rattle.chan_types.specs.declared.journal.What.{What}
use Rattle.channel_model.proofs.LawfulLemmas.{start_allowed}
use Rattle.channel_model.specs.Flight.{Attempt, begun_by, closes, flight}
use Rattle.channel_model.specs.Journal.{Past, past_of}
use Rattle.channel_model.specs.Lawful.{IsLawful, IsLawfulPast, first}
use Rattle.channel_model.specs.Legs.{Leg}
use Rattle.channel_model.specs.Past.{closing_of, closings, forced_behind, forced_by, forced_server, if_left, with_closing}
use Rattle.channel_model.specs.Servers.{has_key, leaves_server, opening_servers, servers_at, servers_set_by}
use Rattle.channel_model.specs.Setting.{Setting}

-- an entry that sets no servers leaves each server in the list
pub no_set-leaves : (what : What) (key : ℕ) → servers_set_by what ≡ None → leaves_server key what ≡ true
no_set-leaves what key none = ap (λ o. option_map_or (has_key key) o true) none

-- and the server that a leg has to go to
pub no_set-left : (what : What) (server : Option ℕ) → servers_set_by what ≡ None → if_left what server ≡ server
no_set-left what None none = refl
no_set-left what (Some key) none = ap (λ b. then_some b key) (no_set-leaves what key none)

module _ (setting : Setting) where
  -- and the list
  pub no_set-servers : (what : What) (past : Past) → servers_set_by what ≡ None → servers_at setting (what ∷ past) ≡ servers_at setting past
  no_set-servers what past none = rw none refl

  -- where no servers are set the list is the opening one
  pub opening_stays : (past : Past) → AllByRecursion (λ what. servers_set_by what ≡ None) past → servers_at setting past ≡ opening_servers setting
  opening_stays [] none = refl
  opening_stays (what ∷ past) none = no_set-servers what past none.0 ∙ opening_stays past none.1

  -- and the server that a leg has to go to is the one that its last closing forces
  pub forced_by_last : (leg : Leg) (past : Past) → AllByRecursion (λ what. servers_set_by what ≡ None) past → forced_server setting leg past ≡ option_and_then forced_by (first (closings setting leg past))
  forced_by_last leg [] none = refl
  forced_by_last leg (what ∷ past) none = by_flight (flight setting leg past) (no_set-left what (forced_server setting leg past) none.0 ∙ forced_by_last leg past none.1)
    where
      by_flight : (o : Option Attempt) → if_left what (forced_server setting leg past) ≡ option_and_then forced_by (first (closings setting leg past))
          → forced_behind setting what past leg o (forced_server setting leg past) ≡ option_and_then forced_by (first (with_closing setting what past o (closings setting leg past)))
      by_flight None before = before
      by_flight (Some a) before = by_test (closes setting a what past)
        where
          by_test : (b : Bool) → cond b (forced_by (closing_of setting a what past (closings setting leg past))) (if_left what (forced_server setting leg past))
              ≡ option_and_then forced_by (first (cond b (closing_of setting a what past (closings setting leg past) ∷ closings setting leg past) (closings setting leg past)))
          by_test true = refl
          by_test false = before

  -- where the case of letters isn't drawn, no Start has bits for it
  pub none_mixed : (past : Past) → setting.options.flags.mix ≡ false → IsLawfulPast setting past → AllByRecursion (λ what. IfSome (begun_by what) (λ a. a.mix ≡ None)) past
  none_mixed [] unset lawful = tt
  none_mixed (what ∷ past) unset lawful = (by_begun (begun_by what) refl, none_mixed past unset lawful.1)
    where
      no_bits : (o : Option ℕ) → is_some o ≡ false → o ≡ None
      no_bits None e = refl
      no_bits (Some bits) e = absurd (true≢false e)

      by_begun : (o : Option Attempt) → begun_by what ≡ o → IfSome o (λ a. a.mix ≡ None)
      by_begun None is = tt
      by_begun (Some a) is = no_bits a.mix ((start_allowed setting past what a lawful.0 is).mixes ∙ ap (λ b. b && (a.link == 0)) unset)

-- the same of journals
pub opening_list : (setting : Setting) (journal : List Entry) → AllByRecursion (λ what. servers_set_by what ≡ None) (past_of journal) → servers_at setting (past_of journal) ≡ opening_servers setting
opening_list setting journal none = opening_stays setting (past_of journal) none

pub last_forces : (setting : Setting) (journal : List Entry) (leg : Leg) → AllByRecursion (λ what. servers_set_by what ≡ None) (past_of journal)
    → forced_server setting leg (past_of journal) ≡ option_and_then forced_by (first (closings setting leg (past_of journal)))
last_forces setting journal leg none = forced_by_last setting leg (past_of journal) none

pub plain_starts : (setting : Setting) (journal : List Entry) → IsLawful setting journal → IsFalse setting.options.flags.mix → AllByRecursion (λ what. IfSome (begun_by what) (λ a. a.mix ≡ None)) (past_of journal)
plain_starts setting journal lawful unset = none_mixed setting (past_of journal) unset lawful.allowed
