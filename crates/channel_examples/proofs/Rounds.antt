-- What stands between two turns: a wait up to its moment where there is no reason to go on without, or one of the three reasons; something pending, and nothing ready.
use Rattle.std.proofs.Common.{◌≡◌, ℕ, ◌-◌, ◌^◌, ◌≤◌, List, [], ◌∷◌, take, true, false, Option, Some, None, refl, arith, inl, inr, ◌++◌}
use Rattle.std.specs.Prelude.{flat_map}
use Rattle.chan_types.specs.declared.journal.Entry.{Entry}
use Rattle.chan_types.specs.declared.journal.What.TheVariants.{Arrive, Destroy, Start, Take}
use Rattle.net_addr.specs.declared.addr.Addr.TheVariants.{V4}
use Rattle.net_world.specs.declared.answers.Got.TheVariants.{Nothing}
use Rattle.net_world.specs.declared.answers.Waited.TheVariants.{Woken}
use Rattle.net_world.specs.declared.log.WorldCall.{WorldCall}
use Rattle.net_world.specs.declared.log.WorldCall.TheVariants.{Serve, Now, Receive, Wait}
use Rattle.resolv_options.specs.Defaults.{plain_values}
use Rattle.channel_model.specs.Course.{Rest, Round, AreTurns, IsCourse, calls_of, readings, IsCourseSoFar, goes_on, is_timely, skips, wakes_at}
use Rattle.channel_model.specs.Journal.{past_of}
use Rattle.channel_model.specs.Setting.{Setting}
use Rattle.channel_model.specs.Stretch.{Standing, beginning, behind}
use Rattle.channel_model.specs.Turn.{receiving}
use Rattle.channel_examples.specs.Words.{channel_with, one_server, journal_of, accepts, ask_x, good_reply}
use Rattle.channel_examples.proofs.Words.{own, all_written}
use Rattle.channel_model.proofs.Theorems.{course_reads, course_receives, so_far_reads}
use Rattle.dns_message.specs.NameText as NameText
use Rattle.dns_message.specs.Reading as Reading

abbrev pub setting : Setting
setting = channel_with (record plain_values { servers = one_server })

-- one request is in flight
abbrev pub flying : List Entry
flying = journal_of (accepts 1 ask_x ∷ Start 1 0 0 0 7 None 0 ∷ [])

-- it has completed
abbrev pub completed : List Entry
completed = journal_of (accepts 1 ask_x ∷ Start 1 0 0 0 7 None 0 ∷ Arrive 0 0 (good_reply 7) ∷ [])

-- of two requests one has completed, and the other is in flight
abbrev pub half_done : List Entry
half_done = journal_of (accepts 1 ask_x ∷ accepts 2 ask_x ∷ Start 1 0 0 0 7 None 0 ∷ Start 2 0 0 0 8 None 0 ∷ Arrive 0 0 (good_reply 7) ∷ [])

-- ---- the reasons to skip a wait

pub in_flight_alone : skips setting (past_of flying) ≡ false
unfolding NameText.units_of
in_flight_alone = refl

pub nothing_pending : skips setting (past_of (completed ++ own (Take 1) ∷ [])) ≡ true
unfolding NameText.units_of Reading.message_read Reading.question_of Reading.record_of Reading.name_of Reading.run_of
nothing_pending = refl

pub something_ready : skips setting (past_of half_done) ≡ true
unfolding NameText.units_of Reading.message_read Reading.question_of Reading.record_of Reading.name_of Reading.run_of
something_ready = refl

pub none_ready_then : skips setting (past_of (half_done ++ own (Take 1) ∷ [])) ≡ false
unfolding NameText.units_of Reading.message_read Reading.question_of Reading.record_of Reading.name_of Reading.run_of
none_ready_then = refl

pub leg_waits : skips setting (past_of (take 1 flying)) ≡ true
unfolding NameText.units_of
leg_waits = refl

-- ---- a turn and what stands behind it

-- a turn that ended where this journal stands
abbrev round_at : List Entry → List Entry → Option Rest → Round
round_at journal between rest =
    record { reading = 0; entries = []; calls = []; new = record { past = past_of journal; held = []; unwritten = all_written }; between = between; asides = []; rest = rest }

-- a wait up to a moment
abbrev until : ℕ → Option Rest
until moment = Some (record { until = moment; outcome = Woken })

-- behind an attempt in flight the next turn comes behind a wait
pub no_wait : (a : Standing) (next : Round) (rounds : List Round) → AreTurns setting 0 20 a (round_at flying [] None ∷ next ∷ rounds) → ⊥
unfolding NameText.units_of
no_wait a next rounds turns = cc turns.3

pub with_wait : goes_on setting 0 20 (round_at flying [] (until 20)) ≡ true
unfolding NameText.units_of
with_wait = refl

-- where nothing is pending no turn comes any more
pub all_done : (a : Standing) (next : Round) (rounds : List Round) → AreTurns setting 0 20 a (round_at completed (own (Take 1) ∷ []) None ∷ next ∷ rounds) → ⊥
unfolding NameText.units_of Reading.message_read Reading.question_of Reading.record_of Reading.name_of Reading.run_of
all_done a next rounds turns = cc turns.3

-- none comes before what is ready was taken
pub not_delivered : (a : Standing) (next : Round) (rounds : List Round) → AreTurns setting 0 20 a (round_at half_done [] None ∷ next ∷ rounds) → ⊥
unfolding NameText.units_of Reading.message_read Reading.question_of Reading.record_of Reading.name_of Reading.run_of
not_delivered a next rounds turns = cc turns.3

pub delivered : goes_on setting 0 20 (round_at half_done (own (Take 1) ∷ []) (until 20)) ≡ true
unfolding NameText.units_of Reading.message_read Reading.question_of Reading.record_of Reading.name_of Reading.run_of
delivered = refl

-- none comes behind the closing Destroy, where nothing is pending
pub behind_destroy : (a : Standing) (next : Round) (rounds : List Round) → AreTurns setting 0 20 a (round_at flying (own Destroy ∷ []) None ∷ next ∷ rounds) → ⊥
unfolding NameText.units_of
behind_destroy a next rounds turns = cc turns.3

-- a turn's entry stands in a turn
pub start_between : (a : Standing) → AreTurns setting 0 20 a (round_at (take 1 flying) (own (Start 1 0 0 0 7 None 0) ∷ []) None ∷ []) → ⊥
start_between a turns = cc turns.1

-- ---- when a run may wait

-- not where something is ready
pub ready_waits : (a : Standing) → AreTurns setting 0 20 a (round_at half_done [] (until 20) ∷ []) → ⊥
unfolding NameText.units_of Reading.message_read Reading.question_of Reading.record_of Reading.name_of Reading.run_of
ready_waits a turns = cc turns.2

-- but where that was taken
pub taken_waits : is_timely setting 0 20 (round_at half_done (own (Take 1) ∷ []) (until 20)) ≡ true
unfolding NameText.units_of Reading.message_read Reading.question_of Reading.record_of Reading.name_of Reading.run_of
taken_waits = refl

-- not where a leg waits for its attempt
pub leg_kept_waiting : (a : Standing) → AreTurns setting 0 20 a (round_at (take 1 flying) [] (until 20) ∷ []) → ⊥
unfolding NameText.units_of
leg_kept_waiting a turns = cc turns.2

-- and not where nothing is pending
pub waits_for_nothing : (a : Standing) → AreTurns setting 0 20 a (round_at (completed ++ own (Take 1) ∷ []) [] (until 20) ∷ []) → ⊥
unfolding NameText.units_of Reading.message_read Reading.question_of Reading.record_of Reading.name_of Reading.run_of
waits_for_nothing a turns = cc turns.2

-- ---- the moment of a wait

-- it is the last reading plus the slice
pub by_slice : is_timely setting 0 20 (round_at flying [] (until 20)) ≡ true
unfolding NameText.units_of
by_slice = refl

pub other_moment : (a : Standing) → AreTurns setting 0 20 a (round_at flying [] (until 25) ∷ []) → ⊥
unfolding NameText.units_of
other_moment a turns = cc turns.2

-- or the first deadline in flight, where that is earlier
pub by_deadline : is_timely setting 0 5000 (round_at flying [] (until 2000)) ≡ true
unfolding NameText.units_of
by_deadline = refl

pub past_deadline : (a : Standing) → AreTurns setting 0 5000 a (round_at flying [] (until 5000) ∷ []) → ⊥
unfolding NameText.units_of
past_deadline a turns = cc turns.2

-- at the position that calls for the wait, and not at one behind a Destroy, where nothing is in flight
pub later_moment : (a : Standing) → AreTurns setting 0 (2 ^ 64 - 1) a (round_at flying (own Destroy ∷ []) (until (2 ^ 64 - 1)) ∷ []) → ⊥
unfolding NameText.units_of
later_moment a turns = cc turns.2

-- but never more than 64 bits hold
pub last_moment : wakes_at setting (2 ^ 64 - 10) 20 [] ≡ 2 ^ 64 - 1
last_moment = refl

-- ---- readings of the clock that are no turn's, and turns that were cut short

-- the only server is told
abbrev told : WorldCall
told = Serve 0 (record { address = V4 3221226037; port = 53 })

-- a run without a turn that read the clock once
pub aside : IsCourse setting 0 20 [] (told ∷ Now 5 ∷ []) 0 1
aside = record {
  first = [];
  first_asides = 5 ∷ [];
  rounds = [];
  journal_is = refl;
  log_is = refl;
  before = refl;
  turns_are = tt;
  count = refl;
  asides_are = refl;
  of_seat = refl;
}

-- which a course has to say
pub not_said : IsCourse setting 0 20 [] (told ∷ Now 5 ∷ []) 0 0 → ⊥
not_said course = let read : ◌≡◌ {A = ℕ} 1 0 = course_reads setting 0 20 [] (told ∷ Now 5 ∷ []) 0 0 course in omega (arith, read)

-- and it is no turn, since none receives
pub no_turn : IsCourse setting 0 20 [] (told ∷ Now 5 ∷ []) 1 0 → ⊥
no_turn course = let received : 1 ≤ 0 = course_receives setting 0 20 [] (told ∷ Now 5 ∷ []) 1 0 course in omega (arith, received)

-- a run that was cut short in its first turn, when it had received nothing
pub cut : IsCourseSoFar setting 0 20 [] (told ∷ Now 0 ∷ Receive Nothing ∷ []) 1 0
cut = inr (inl (record {
  whole = 0;
  count = refl;
  earlier = [];
  cut = [];
  later = [];
  calls_earlier = told ∷ [];
  calls_cut = Now 0 ∷ Receive Nothing ∷ [];
  reading = 0;
  course = record {
    first = [];
    first_asides = [];
    rounds = [];
    journal_is = refl;
    log_is = refl;
    before = refl;
    turns_are = tt;
    count = refl;
    asides_are = refl;
    of_seat = refl;
  };
  going_on = refl;
  of_seat = refl;
  turn = record {
    made = Receive Nothing ∷ [];
    part = receiving;
    calls_are = refl;
    parts = record {
      middle = beginning;
      entries_first = [];
      entries_then = [];
      calls_first = [];
      calls_then = Receive Nothing ∷ [];
      entries_are = refl;
      calls_are = refl;
      one = record { no_entry = refl; no_call = refl; same = refl };
      two = record {
        nearly = record { arrivals = inl refl; sends = inl refl; links = inl refl; writes = λ link. ([], refl); faults_are = inl refl; in_order = inl (inl refl) };
        alone = refl;
        by_rule = (record { ends = inl (record { items = []; gots_are = refl; no_earlier = refl }); few = omega arith }, ([], refl));
      };
    };
  };
  no_turn = refl;
  journal_is = refl;
  log_is = refl;
}))

-- that turn counts
pub cut_counts : IsCourseSoFar setting 0 20 [] (told ∷ Now 0 ∷ Receive Nothing ∷ []) 0 0 → ⊥
cut_counts course = let read : ◌≡◌ {A = ℕ} 1 0 = so_far_reads setting 0 20 [] (told ∷ Now 0 ∷ Receive Nothing ∷ []) 0 0 course in omega (arith, read)

-- only the one seat makes a turn's entries
pub another_seat : (log : List WorldCall) (turns asides : ℕ) → IsCourse setting 0 20 (record { seat = 1; by = 0; what = Start 1 0 0 0 7 None 0 } ∷ []) log turns asides → ⊥
another_seat log turns asides course = cc course.of_seat

-- nothing waits before the first turn
pub wait_first : (turns asides : ℕ) → IsCourse setting 0 20 [] (told ∷ Wait 20 Woken ∷ []) turns asides → ⊥
wait_first turns asides course = by_parts course.first_asides course.rounds course.log_is course.turns_are
  where
    by_parts : (moments : List ℕ) (rounds : List Round) → told ∷ Wait 20 Woken ∷ [] ≡ (told ∷ []) ++ readings moments ++ flat_map calls_of rounds →
        AreTurns setting 0 20 (behind beginning course.first) rounds → ⊥
    by_parts (moment ∷ moments) rounds same are = cc same
    by_parts [] [] same are = cc same
    by_parts [] (r ∷ rs) same are = cc (same, are.0.calls_are)
