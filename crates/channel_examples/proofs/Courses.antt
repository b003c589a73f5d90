-- What is no course: a turn's entry before the first turn, and servers that weren't told, or told otherwise.
-- Nor is it one that was cut short while the servers were told.
use Rattle.std.proofs.Common.{◌≡◌, ℕ, ◌+◌, List, [], ◌∷◌, ◌++◌, length, None, refl, ap, subst, arith}
use Rattle.std.specs.Prelude.{IsTrue, flat_map}
use Rattle.chan_types.specs.declared.journal.Entry.{Entry}
use Rattle.chan_types.specs.declared.journal.What.TheVariants.{Start}
use Rattle.net_addr.specs.declared.addr.Addr.TheVariants.{V4}
use Rattle.net_world.specs.declared.log.WorldCall.{WorldCall}
use Rattle.net_world.specs.declared.log.WorldCall.TheVariants.{Serve}
use Rattle.resolv_options.specs.Defaults.{plain_values}
use Rattle.channel_model.specs.Course.{IsCourse, IsCutServing, Round, entries_of, has_no_turn}
use Rattle.channel_model.specs.Setting.{Setting}
use Rattle.channel_examples.specs.Words.{channel_with, two_servers}
use Rattle.channel_examples.proofs.Starts.{host_of}
use Rattle.channel_examples.proofs.Words.{own}

-- a channel with the servers 192.0.2.53 and 192.0.2.54
abbrev pub setting : Setting
setting = channel_with (record plain_values { servers = two_servers })

-- this host of 192.0.2.0/24 is told as the server of this number
abbrev tell : ℕ → ℕ → WorldCall
tell server host = Serve server (record { address = V4 (3221225984 + host); port = 53 })

-- a run without a turn
abbrev IsRun : List Entry → List WorldCall → Type 0
IsRun journal log = IsCourse setting 0 20 journal log 0 0

pub both_told : IsRun [] (tell 0 53 ∷ tell 1 54 ∷ [])
both_told = record {
  first = [];
  first_asides = [];
  rounds = [];
  journal_is = refl;
  log_is = refl;
  before = refl;
  turns_are = tt;
  count = refl;
  asides_are = refl;
  of_seat = refl;
}

-- each server is told, by its own number
pub one_not_told : IsRun [] (tell 0 53 ∷ []) → ⊥
one_not_told course = cc course.log_is

pub told_by_another_number : IsRun [] (tell 0 53 ∷ tell 2 54 ∷ []) → ⊥
told_by_another_number course = cc course.log_is

pub told_out_of_order : IsRun [] (tell 1 54 ∷ tell 0 53 ∷ []) → ⊥
told_out_of_order course = cc course.log_is

-- and with its address
abbrev first_told : List WorldCall → ℕ
first_told (Serve server address ∷ calls) = host_of address.address
first_told calls = 0

pub told_with_another_address : IsRun [] (tell 0 55 ∷ tell 1 54 ∷ []) → ⊥
told_with_another_address course = let same : ◌≡◌ {A = ℕ} 3221226039 3221226037 = ap first_told course.log_is in omega (arith, same)

-- what a turn makes doesn't stand before the first one
abbrev started : Entry
started = own (Start 1 0 0 0 7 None 0)

pub start_without_a_turn : IsRun (started ∷ []) (tell 0 53 ∷ tell 1 54 ∷ []) → ⊥
start_without_a_turn course = by_rounds course.rounds course.count course.first course.journal_is course.before
  where
    by_rounds : (rounds : List Round) → length rounds ≡ 0 → (first : List Entry) →
        started ∷ [] ≡ first ++ flat_map entries_of rounds → IsTrue (has_no_turn first) → ⊥
    by_rounds (round ∷ rounds) none first same before = cc none
    by_rounds [] none [] same before = cc same
    by_rounds [] none (entry ∷ entries) same before =
        let is : entry ≡ started = cc same in
        let no : IsTrue (has_no_turn (started ∷ entries)) = subst (λ e. IsTrue (has_no_turn (e ∷ entries))) is before in
        cc no

-- ---- cut short while it tells the servers

pub one_told : IsCutServing setting [] (tell 0 53 ∷ [])
one_told = record { told_so_far = (tell 1 54 ∷ [], refl); no_turn = refl }

pub second_told_first : IsCutServing setting [] (tell 1 54 ∷ []) → ⊥
second_told_first cut = cc cut.told_so_far.1

pub started_too : IsCutServing setting (started ∷ []) (tell 0 53 ∷ []) → ⊥
started_too cut = cc cut.no_turn
