-- Attempts in flight are on servers of the list, and so is the server that a leg's next attempt has to go to.
use Rattle.std.proofs.Common.{◌≡◌, ◌∙◌, ℕ, ◌+◌, ◌≤◌, Bool, true, false, List, [], ◌∷◌, Option, Some, None, refl, ap, sym, subst, map, cond, arith, length, length-append, eq-eqb, true≢false, ⊎_elim}
use Rattle.std.proofs.lemmas.Bool.{cond_both, or_left, or_right}
use Rattle.std.proofs.lemmas.List.{length-map, take-append-drop}
use Rattle.std.proofs.lemmas.List.Folds.{list_any-append}
use Rattle.std.specs.Bool.{then_some}
use Rattle.std.specs.List.{list_any}
use Rattle.std.specs.Option.{option_map_or}
use Rattle.std.specs.Prelude.{IfSome, IsTrue, drop, nat_lt, not, take, unwrap_or, ◌==◌, ◌||◌}
use Rattle.chan_types.specs.declared.journal.Entry.{Entry}
use Rattle.chan_types.specs.declared.journal.What.{What}
use Rattle.chan_types.specs.declared.journal.What.TheVariants.{Accept, Arrive, Cancel, Destroy, Expire, Fault, Servers, Start, Take}
use Rattle.chan_types.specs.declared.server_key.ServerKey.{ServerKey}
use Rattle.net_addr.specs.declared.addr.ServerAddr.{ServerAddr}
use Rattle.channel_model.proofs.FlightLemmas.{flight-cases}
use Rattle.channel_model.proofs.KeyLemmas.{set_allowed}
use Rattle.channel_model.proofs.LawfulLemmas.{start_allowed}
use Rattle.channel_model.proofs.ListLemmas.{none_is_some}
use Rattle.channel_model.specs.Choice.{Failing, chosen_server, failing, failures, first_server, least_failing, least_of}
use Rattle.channel_model.specs.Flight.{Attempt, begun_by, closes, flight}
use Rattle.channel_model.specs.Journal.{Past, past_of}
use Rattle.channel_model.specs.Lawful.{IsLawful, IsLawfulPast, MaySet}
use Rattle.channel_model.specs.Legs.{Leg}
use Rattle.channel_model.specs.Past.{Closing, closing_of, closings, forced_behind, forced_by, forced_server, if_left, is_next_plain, is_next_tcp, outcome_of}
use Rattle.channel_model.specs.Servers.{from_place, has_key, keyed_from, leaves_server, servers_at, servers_set_by, servers_used}
use Rattle.channel_model.specs.Setting.{Setting}

-- the least of some counts is one of them
least_failing-in : (best : Failing) (rest : List Failing) → list_any (λ (f : Failing). f.server == least_failing best rest) (best ∷ rest) ≡ true
least_failing-in best [] = or_left (best.server == best.server) false (eq-eqb best.server best.server refl)
least_failing-in best (next ∷ rest) = by_test (nat_lt next.count best.count) (least_failing-in next rest) (least_failing-in best rest)
  where
    past_next : (x y z : Bool) → (x || z) ≡ true → (x || (y || z)) ≡ true
    past_next true y z e = refl
    past_next false y z e = or_right y z e

    by_test : (b : Bool) → list_any (λ (f : Failing). f.server == least_failing next rest) (next ∷ rest) ≡ true → list_any (λ (f : Failing). f.server == least_failing best rest) (best ∷ rest) ≡ true
        → list_any (λ (f : Failing). f.server == least_failing (cond b next best) rest) (best ∷ next ∷ rest) ≡ true
    by_test true some other = or_right (best.server == least_failing next rest) _ some
    by_test false other some = past_next (best.server == least_failing best rest) (next.server == least_failing best rest) (list_any (λ (f : Failing). f.server == least_failing best rest) rest) some

least_of-in : (servers : List Failing) → 1 ≤ length servers → list_any (λ (f : Failing). f.server == least_of servers) servers ≡ true
least_of-in [] some = absurd (omega (arith, some))
least_of-in (best ∷ rest) some = least_failing-in best rest

or_swapped : (x y : Bool) → (x || y) ≡ (y || x)
or_swapped true true = refl
or_swapped true false = refl
or_swapped false true = refl
or_swapped false false = refl

-- a list in another order has the same items
from_place-any : {A : Type 0} (test : A → Bool) (k : ℕ) (items : List A) → list_any test (from_place k items) ≡ list_any test items
from_place-any test k items =
    list_any-append test (drop k items) (take k items) ∙ or_swapped (list_any test (drop k items)) (list_any test (take k items))
    ∙ sym (list_any-append test (take k items) (drop k items)) ∙ ap (list_any test) (take-append-drop k items)

from_place-length : {A : Type 0} (k : ℕ) (items : List A) → length (from_place k items) ≡ length items
from_place-length k items =
    omega (arith, length-append (drop k items) (take k items), length-append (take k items) (drop k items), ap length (take-append-drop k items))

-- the first alone is one of all
first_any : {A : Type 0} (test : A → Bool) (items : List A) → list_any test (take 1 items) ≡ true → list_any test items ≡ true
first_any test [] some = absurd (true≢false (sym some))
first_any {A} test (x ∷ xs) some = by_test (test x) some
  where
    by_test : (b : Bool) → (b || list_any test (take 0 xs)) ≡ true → (b || list_any test xs) ≡ true
    by_test true e = refl
    by_test false e = absurd (true≢false (sym e))

one_first : {A : Type 0} (items : List A) → 1 ≤ length items → 1 ≤ length (take 1 items)
one_first [] some = some
one_first (x ∷ xs) some = omega arith

keyed_from-length : (from : ℕ) (addresses : List ServerAddr) → length (keyed_from from addresses) ≡ length addresses
keyed_from-length from [] = refl
keyed_from-length from (address ∷ addresses) = omega (arith, keyed_from-length (from + 1) addresses)

-- the server that is left is one that was, and that the entry leaves
pub if_left-says : (what : What) (server : Option ℕ) (key : ℕ) → if_left what server ≡ Some key → (server ≡ Some key) × IsTrue (leaves_server key what)
if_left-says what None key e = none_is_some key e
if_left-says what (Some k) key e = by_test (leaves_server k what) refl e
  where
    by_test : (b : Bool) → leaves_server k what ≡ b → ◌≡◌ {A = Option ℕ} (then_some b k) (Some key) → (◌≡◌ {A = Option ℕ} (Some k) (Some key)) × IsTrue (leaves_server key what)
    by_test true is e = let same : k ≡ key = cc in (ap Some same, subst (λ n. leaves_server n what ≡ true) same is)
    by_test false is e = none_is_some key e

module _ (setting : Setting) where
  -- an entry that leaves an attempt leaves its server in the list
  pub open_leaves : (a : Attempt) (what : What) (past : Past) → closes setting a what past ≡ false → IsTrue (leaves_server a.server what)
  open_leaves a (Accept number spec script) past open' = refl
  open_leaves a Cancel past open' = refl
  open_leaves a Destroy past open' = refl
  open_leaves a (Take number) past open' = refl
  open_leaves a (Start number leg server link id mix moment) past open' = refl
  open_leaves a (Arrive server link bytes) past open' = refl
  open_leaves a (Expire number leg moment) past open' = refl
  open_leaves a (Fault server link moment) past open' = refl
  open_leaves a (Servers list) past open' = by_test (has_key a.server list) open'
    where
      by_test : (b : Bool) → not b ≡ false → b ≡ true
      by_test true e = refl
      by_test false e = sym e

  -- a server that an entry leaves in the list is in the list behind it
  stays_in : (key : ℕ) (what : What) (past : Past) → leaves_server key what ≡ true → has_key key (servers_at setting past) ≡ true → has_key key (servers_at setting (what ∷ past)) ≡ true
  stays_in key what past leaves has = by_set (servers_set_by what) leaves
    where
      by_set : (o : Option (List ServerKey)) → option_map_or (has_key key) o true ≡ true → has_key key (unwrap_or o (servers_at setting past)) ≡ true
      by_set None leaves = has
      by_set (Some list) leaves = leaves

  -- an attempt whose end asks its question again was closed by an entry that sets no servers
  closed_sets_none : (a : Attempt) (what : What) (past : Past) (earlier : List Closing) (key : ℕ) → forced_by (closing_of setting a what past earlier) ≡ Some key → (a.server ≡ key) × (leaves_server key what ≡ true)
  closed_sets_none a what past earlier key e = by_what what refl (outcome_says (is_next_tcp (outcome_of setting a what past earlier) || is_next_plain (outcome_of setting a what past earlier)) e)
    where
      outcome_says : (b : Bool) → ◌≡◌ {A = Option ℕ} (cond b (Some a.server) None) (Some key) → a.server ≡ key
      outcome_says true e = cc
      outcome_says false e = none_is_some key e

      by_what : (w : What) → what ≡ w → a.server ≡ key → (a.server ≡ key) × (leaves_server key what ≡ true)
      by_what (Accept number spec script) is same = (same, rw is refl)
      by_what Cancel is same = (same, rw is refl)
      by_what Destroy is same = (same, rw is refl)
      by_what (Take number) is same = (same, rw is refl)
      by_what (Start number leg server link id mix moment) is same = (same, rw is refl)
      by_what (Arrive server link bytes) is same = (same, rw is refl)
      by_what (Expire number leg moment) is same = (same, rw is refl)
      by_what (Fault server link moment) is same = (same, rw is refl)
      by_what (Servers list) is same = none_is_some key (subst (λ w. forced_by (closing_of setting a w past earlier) ≡ Some key) is e)

  -- where the channel was made with a server, its list always has one
  pub servers_some : (past : Past) → IsLawfulPast setting past → 1 ≤ length setting.options.servers → 1 ≤ length (servers_at setting past)
  servers_some [] lawful some = omega (arith, some, keyed_from-length 0 setting.options.servers)
  servers_some (what ∷ past) lawful some = by_set (servers_set_by what) (set_allowed setting past what lawful.0) (servers_some past lawful.1 some)
    where
      by_set : (o : Option (List ServerKey)) → IfSome o (MaySet setting past) → 1 ≤ length (servers_at setting past) → 1 ≤ length (unwrap_or o (servers_at setting past))
      by_set None may before = before
      by_set (Some list) may before = may.some

  -- so does what is in use
  pub used_some : (past : Past) → 1 ≤ length (servers_at setting past) → 1 ≤ length (servers_used setting past)
  used_some past some = cond_both setting.options.flags.primary (take 1 (servers_at setting past)) (servers_at setting past) (λ l. 1 ≤ length l) (λ _. one_first (servers_at setting past) some) (λ _. some)

  -- and a server in use is in the list
  pub used_in : (key : ℕ) (past : Past) → has_key key (servers_used setting past) ≡ true → has_key key (servers_at setting past) ≡ true
  used_in key past =
      cond_both setting.options.flags.primary (take 1 (servers_at setting past)) (servers_at setting past) (λ l. has_key key l ≡ true → has_key key (servers_at setting past) ≡ true)
      (λ _ h. first_any (λ (s : ServerKey). s.key == key) (servers_at setting past) h) (λ _ h. h)

  failing_any : (key : ℕ) (past : Past) (servers : List ServerKey)
      → list_any (λ (f : Failing). f.server == key) (map (λ (s : ServerKey). record { server = s.key; count = failures setting s.key past }) servers) ≡ has_key key servers
  failing_any key past [] = refl
  failing_any key past (server ∷ servers) = ap (λ b. (server.key == key) || b) (failing_any key past servers)

  length_of_failing : (past : Past) (servers : List ServerKey) → length (map {B = Failing} (λ (s : ServerKey). record { server = s.key; count = failures setting s.key past }) servers) ≡ length servers
  length_of_failing past servers = length-map servers (λ (s : ServerKey). record { server = s.key; count = failures setting s.key past })

  -- the server with the fewest failures is in the list
  pub least_in_list : (past : Past) → 1 ≤ length (servers_at setting past) → has_key (least_of (failing setting past)) (servers_at setting past) ≡ true
  least_in_list past some =
      let place : List ServerKey = from_place (first_server setting past) (servers_used setting past) in
      let long : 1 ≤ length (failing setting past) = omega (arith, used_some past some, from_place-length (first_server setting past) (servers_used setting past), length_of_failing past place) in
      used_in (least_of (failing setting past)) past
      (sym (from_place-any (λ (s : ServerKey). s.key == least_of (failing setting past)) (first_server setting past) (servers_used setting past))
      ∙ sym (failing_any (least_of (failing setting past)) past place) ∙ least_of-in (failing setting past) long)

  -- the attempt of a leg in flight, and the server that the next one has to go to, are on servers of the list
  pub record AreListed (past : Past) (leg : Leg) : Type 0 where
    pub flies : (a : Attempt) → flight setting leg past ≡ Some a → IsTrue (has_key a.server (servers_at setting past))
    pub forced : (key : ℕ) → forced_server setting leg past ≡ Some key → IsTrue (has_key key (servers_at setting past))

  chosen_listed : (past : Past) (leg : Leg) → 1 ≤ length (servers_at setting past) → AreListed past leg → has_key (chosen_server setting leg past) (servers_at setting past) ≡ true
  chosen_listed past leg some listed = by_forced (forced_server setting leg past) refl
    where
      by_forced : (o : Option ℕ) → forced_server setting leg past ≡ o → has_key (unwrap_or o (least_of (failing setting past))) (servers_at setting past) ≡ true
      by_forced None is = least_in_list past some
      by_forced (Some key) is = listed.forced key is

  listed_step : (what : What) (past : Past) (leg : Leg) → 1 ≤ length (servers_at setting past) → IsLawfulPast setting (what ∷ past) → ((l : Leg) → AreListed past l) → AreListed (what ∷ past) leg
  listed_step what past leg some lawful before = record { flies = flies; forced = λ key e. by_flight (flight setting leg past) refl key e }
    where
      flies : (a : Attempt) → flight setting leg (what ∷ past) ≡ Some a → has_key a.server (servers_at setting (what ∷ past)) ≡ true
      flies a e = ⊎_elim
          (λ h. let may = start_allowed setting past what a lawful.0 h.0 in
          stays_in a.server what past (start_leaves what a h.0) (subst (λ n. has_key n (servers_at setting past) ≡ true) (sym may.to_server) (chosen_listed past a.leg some (before a.leg))))
          (λ h. stays_in a.server what past (open_leaves a what past h.1) ((before leg).flies a h.0))
          (flight-cases setting leg what past a e)
        where
          start_leaves : (w : What) (b : Attempt) → begun_by w ≡ Some b → leaves_server b.server w ≡ true
          start_leaves (Accept number spec script) b e = refl
          start_leaves Cancel b e = refl
          start_leaves Destroy b e = refl
          start_leaves (Take number) b e = refl
          start_leaves (Start number l server link id mix moment) b e = refl
          start_leaves (Arrive server link bytes) b e = refl
          start_leaves (Expire number l moment) b e = refl
          start_leaves (Fault server link moment) b e = refl
          start_leaves (Servers list) b e = none_is_some b e

      left : (key : ℕ) → if_left what (forced_server setting leg past) ≡ Some key → has_key key (servers_at setting (what ∷ past)) ≡ true
      left key e = let says = if_left-says what (forced_server setting leg past) key e in stays_in key what past says.1 ((before leg).forced key says.0)

      by_flight : (o : Option Attempt) → flight setting leg past ≡ o → (key : ℕ) → forced_behind setting what past leg o (forced_server setting leg past) ≡ Some key → has_key key (servers_at setting (what ∷ past)) ≡ true
      by_flight None is key e = left key e
      by_flight (Some a) is key e = by_test (closes setting a what past) e
        where
          by_test : (b : Bool) → cond b (forced_by (closing_of setting a what past (closings setting leg past))) (if_left what (forced_server setting leg past)) ≡ Some key → has_key key (servers_at setting (what ∷ past)) ≡ true
          by_test true e =
              let says = closed_sets_none a what past (closings setting leg past) key e in
              stays_in key what past says.1 (subst (λ n. has_key n (servers_at setting past) ≡ true) says.0 ((before leg).flies a is))
          by_test false e = left key e

  pub listed : (past : Past) → IsLawfulPast setting past → 1 ≤ length setting.options.servers → (leg : Leg) → AreListed past leg
  listed [] lawful some leg = record { flies = λ a e. none_is_some a e; forced = λ key e. none_is_some key e }
  listed (what ∷ past) lawful some leg = listed_step what past leg (servers_some past lawful.1 some) lawful (listed past lawful.1 some)

-- the same of journals
pub flies_listed : (setting : Setting) (journal : List Entry) (leg : Leg) (a : Attempt) → 1 ≤ length setting.options.servers → IsLawful setting journal → flight setting leg (past_of journal) ≡ Some a
    → IsTrue (has_key a.server (servers_at setting (past_of journal)))
flies_listed setting journal leg a some lawful flies = (listed setting (past_of journal) lawful.allowed some leg).flies a flies

pub forced_listed : (setting : Setting) (journal : List Entry) (leg : Leg) (key : ℕ) → 1 ≤ length setting.options.servers → IsLawful setting journal → forced_server setting leg (past_of journal) ≡ Some key
    → IsTrue (has_key key (servers_at setting (past_of journal)))
forced_listed setting journal leg key some lawful forced = (listed setting (past_of journal) lawful.allowed some leg).forced key forced
