-- A new attempt goes over link 0, over the link of an attempt in flight, or over a link that has no Start yet.
use Rattle.std.proofs.Common.{◌≡◌, ℕ, ◌+◌, ◌<◌, ◌==◌, [], ◌∷◌, Bool, true, false, ◌||◌, Option, Some, None, refl, arith, inl, inr, ne_eqb}
use Rattle.std.specs.Prelude.{IsFalse, ◌⊎◌, find}
use Rattle.std.specs.List.{list_any}
use Rattle.std.specs.Option.{option_map_or}
use Rattle.channel_model.specs.Choice.{chosen_link, tcp_link, is_on_tcp, greatest_link, link_of}
use Rattle.channel_model.specs.Flight.{Attempt, begun_by, in_flight}
use Rattle.channel_model.specs.Journal.{Past}
use Rattle.channel_model.specs.Legs.{Leg}
use Rattle.channel_model.specs.Past.{closings, is_over_tcp}
use Rattle.channel_model.specs.Setting.{Setting}
use Rattle.channel_model.specs.Traffic.{is_start_on}

-- no Start goes over a link with a greater number
pub greatest_link-above : (past : Past) (link : ℕ) → greatest_link past < link → IsFalse (list_any (is_start_on link) past)
greatest_link-above [] link above = refl
greatest_link-above (what ∷ past) link above = by_start (begun_by what) (omega (arith, above)) (greatest_link-above past link (omega (arith, above)))
  where
    by_start : (start : Option Attempt) → link_of start < link → IsFalse (list_any (is_start_on link) past) → IsFalse (option_map_or (λ a. a.link == link) start false || list_any (is_start_on link) past)
    by_start None above rest = rest
    by_start (Some a) above rest = rw (ne_eqb a.link link (omega (arith, above))) rest

-- a link behind the greatest one has no Start
pub new_link-fresh : (past : Past) → IsFalse (list_any (is_start_on (greatest_link past + 1)) past)
new_link-fresh past = greatest_link-above past (greatest_link past + 1) (omega arith)

module _ (setting : Setting) (server : ℕ) (past : Past) where
  -- the link over TCP is that of an attempt in flight to the server, or a new one
  pub tcp_link-cases : ((a : Attempt) × (find (is_on_tcp setting server) (in_flight setting past) ≡ Some a) × (tcp_link setting server past ≡ a.link)) ⊎ (tcp_link setting server past ≡ greatest_link past + 1)
  tcp_link-cases = by_found (find (is_on_tcp setting server) (in_flight setting past)) refl
    where
      by_found : (found : Option Attempt) → find (is_on_tcp setting server) (in_flight setting past) ≡ found →
          ((a : Attempt) × (find (is_on_tcp setting server) (in_flight setting past) ≡ Some a) × (tcp_link setting server past ≡ a.link)) ⊎ (tcp_link setting server past ≡ greatest_link past + 1)
      by_found None is = inr (rw is refl)
      by_found (Some a) is = inl (a, is, rw is refl)

  -- the link of a leg's next attempt: 0, that of an attempt in flight, or a new one
  pub chosen_link-cases : (leg : Leg) →
      (chosen_link setting leg server past ≡ 0)
      ⊎ ((a : Attempt) × (find (is_on_tcp setting server) (in_flight setting past) ≡ Some a) × (chosen_link setting leg server past ≡ a.link))
      ⊎ (chosen_link setting leg server past ≡ greatest_link past + 1)
  chosen_link-cases leg = by_tcp (is_over_tcp setting (closings setting leg past)) refl tcp_link-cases
    where
      by_tcp : (b : Bool) → is_over_tcp setting (closings setting leg past) ≡ b →
          ((a : Attempt) × (find (is_on_tcp setting server) (in_flight setting past) ≡ Some a) × (tcp_link setting server past ≡ a.link)) ⊎ (tcp_link setting server past ≡ greatest_link past + 1) →
          (chosen_link setting leg server past ≡ 0)
          ⊎ ((a : Attempt) × (find (is_on_tcp setting server) (in_flight setting past) ≡ Some a) × (chosen_link setting leg server past ≡ a.link))
          ⊎ (chosen_link setting leg server past ≡ greatest_link past + 1)
      by_tcp false is cases = inl (rw is refl)
      by_tcp true is (inl x) = inr (inl (x.0, x.1, rw is x.2))
      by_tcp true is (inr x) = inr (inr (rw is x))
