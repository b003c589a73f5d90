-- Where a new attempt goes, and when it is due (this project's profile).
use Rattle.std.specs.Prelude.{ℕ, List, [], ◌∷◌, if◌then◌else◌, nat_lt, Option, None, Some, max, ◌+◌, filter, ◌==◌, ◌&&◌, length, ◌%◌, map, unwrap_or, Bool, not, option_map, find, ◌*◌, ◌^◌, ◌/◌, min, ◌-◌}
use Rattle.chan_types.specs.declared.journal.What.{What}
use Rattle.resolv_options.specs.declared.options.Options.{Options}
use Rattle.channel_model.specs.Flight.{Attempt, begun_by, closes, in_flight, is_of_leg, started}
use Rattle.channel_model.specs.Journal.{Past}
use Rattle.channel_model.specs.Legs.{Leg}
use Rattle.channel_model.specs.Past.{outcome_of, closings, forced_server, is_over_tcp, spent}
use Rattle.channel_model.specs.Servers.{enters, from_place, in_use, servers_at, servers_used}
use Rattle.channel_model.specs.Setting.{Setting}
use Rattle.channel_model.specs.declared.judged.Judged.{Judged}
use Rattle.channel_model.specs.declared.judged.Judged.TheVariants.{NextTcp, NextPlain, Failed, Final}

-- a server with the count of its failures
pub record Failing : Type 0 where
  pub server : ℕ
  pub count : ℕ

-- of this server and those of a list the first with the least count
abbrev pub least_failing : Failing → List Failing → ℕ
least_failing best [] = best.server
least_failing best (next ∷ rest) = least_failing (if nat_lt next.count best.count then next else best) rest

-- the first server of a list with the least count
abbrev pub least_of : List Failing → ℕ
least_of [] = 0
least_of (server ∷ rest) = least_failing server rest

-- the link number of an attempt that begins
abbrev pub link_of : Option Attempt → ℕ
link_of None = 0
link_of (Some a) = a.link

-- the greatest link number in a Start
abbrev pub greatest_link : Past → ℕ
greatest_link [] = 0
greatest_link (what ∷ past) = max (link_of (begun_by what)) (greatest_link past)

-- the failures of a server behind the end of an attempt on it: a good reply sets them to 0
abbrev pub count_with : Option Judged → ℕ → ℕ
count_with None count = count
count_with (Some NextTcp) count = 0
count_with (Some NextPlain) count = 0
count_with (Some (Failed status)) count = count + 1
count_with (Some (Final status)) count = 0

-- this long, or the longest wait where one is set and is shorter
abbrev pub at_longest : Options → ℕ → ℕ
at_longest options wait = if not (options.max_timeout == 0) && nat_lt options.max_timeout wait then options.max_timeout else wait

-- how long an attempt is given where so many are spent and so many servers in use: the timeout, doubled with each round of these, nine times at most
abbrev pub wait_of : Options → ℕ → ℕ → ℕ
wait_of options count used = at_longest options (options.timeout * 2 ^ min 9 (count / used))

-- a server's count behind the end of an attempt on this server
abbrev pub counted_at : ℕ → Option Judged → Failing → Failing
counted_at server outcome failing = if failing.server == server then record failing { count = count_with outcome failing.count } else failing

module _ (setting : Setting) where
  -- the attempts on a server that an entry closes
  abbrev pub closed_on : ℕ → What → Past → List Attempt
  closed_on server what past = filter (λ a. (a.server == server) && closes setting a what past) (in_flight setting past)

  -- the failures of a server behind an entry that closes these attempts on it: several of them count as one
  abbrev pub count_behind : What → Past → List Attempt → ℕ → ℕ
  count_behind what past [] count = count
  count_behind what past (a ∷ more) count = count_with (outcome_of setting a what past (closings setting a.leg past)) count

  -- the failures of a server since its last good reply, and since it entered the list
  abbrev pub failures : ℕ → Past → ℕ
  failures server [] = 0
  failures server (what ∷ past) = if enters setting server what past then 0 else count_behind what past (closed_on server what past) (failures server past)

  -- the servers of the list, in its order, with their failures
  abbrev pub failures_of_list : Past → List Failing
  failures_of_list past = map (λ server. record { server = server.key; count = failures server.key past }) (servers_at setting past)

  -- the place in the list at which the order of ties begins: the first, or with `rotate` one further for each leg that has a Start
  abbrev pub first_server : Past → ℕ
  first_server past = if setting.options.rotate then length (started past) % in_use setting past else 0

  -- the servers in use, in the order of ties, with their failures
  abbrev pub failing : Past → List Failing
  failing past = map (λ server. record { server = server.key; count = failures server.key past }) (from_place (first_server past) (servers_used setting past))

  -- the server of a leg's next attempt: the forced one, else the first with the fewest failures
  abbrev pub chosen_server : Leg → Past → ℕ
  chosen_server leg past = unwrap_or (forced_server setting leg past) (least_of (failing past))

  -- the attempt went over TCP to this server
  abbrev pub is_on_tcp : ℕ → Attempt → Bool
  is_on_tcp server a = (a.server == server) && not (a.link == 0)

  -- a link over TCP to the server on which a leg is in flight, else a new one
  abbrev pub tcp_link : ℕ → Past → ℕ
  tcp_link server past = unwrap_or (option_map (λ a. a.link) (find (is_on_tcp server) (in_flight setting past))) (greatest_link past + 1)

  -- the link of a leg's next attempt to the server: 0 over UDP
  abbrev pub chosen_link : Leg → ℕ → Past → ℕ
  chosen_link leg server past = if is_over_tcp setting (closings setting leg past) then tcp_link server past else 0

  -- the deadline of an attempt that begins behind this past: its moment and its wait; moments stop at the greatest of 64 bits
  abbrev pub deadline_from : Attempt → Past → ℕ
  deadline_from a past = min (a.moment + wait_of setting.options (spent (closings setting a.leg past)) (in_use setting past)) (2 ^ 64 - 1)

  -- a leg's deadline, where an entry begins this attempt, and it had that deadline before
  abbrev pub deadline_or : Leg → Past → Option Attempt → ℕ → ℕ
  deadline_or leg past None before = before
  deadline_or leg past (Some a) before = if is_of_leg leg a then deadline_from a past else before

  -- when a leg's attempt in flight is due: the deadline of its last Start, by the servers that were in use there
  abbrev pub deadline : Leg → Past → ℕ
  deadline leg [] = 0
  deadline leg (what ∷ past) = deadline_or leg past (begun_by what) (deadline leg past)
