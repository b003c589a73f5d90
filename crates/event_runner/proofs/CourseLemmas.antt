-- Courses with one turn more, with a wait behind the last turn, and with more entries behind that.
use Rattle.event_runner.proofs.Base.{◌≡◌, ◌∙◌, ℕ, ◌+◌, ◌==◌, ◌||◌, Bool, true, List, [], ◌∷◌, ◌++◌, length, not, refl, ap, sym, arith, inl, inr, ⊎_elim, IsTrue, Some, None, flat_map, sum_by, list_all, and_from, and_parts, append-nil, append_assoc, flat_map_more, length-append, list_all-append, sum_by-append, sum_by-cons, Entry, WorldCall, pending, AreTurns, IsCourse, IsCourseSoFar, Rest, Round, asides_of, calls_of, calls_of_rest, goes_on, has_no_turn, is_of_turn, is_timely, readings, serves_from, standing_after, IsStalledBehind, somewhere_behind, Past, Setting, Standing, beginning, behind, IsTurn}
use Rattle.channel_model.specs.Course.{entries_of}
use Rattle.event_runner.proofs.RoundLemmas.{by_last, either_first, flat_last, no_turn-append, somewhere-grows, somewhere_behind-snoc, turn_more, turns_last, turns_snoc, with_more, with_rest}

-- the entry is the seat's, if only a turn makes such a one
abbrev pub is_seats : ℕ → Entry → Bool
is_seats seat entry = not (is_of_turn entry) || (entry.seat == seat)

-- entries that no turn makes are none of another seat's turns
seats_none : (seat : ℕ) (es : List Entry) → has_no_turn es ≡ true → list_all (is_seats seat) es ≡ true
seats_none seat [] none = refl
seats_none seat (e ∷ es) none =
    let parts = and_parts (not (is_of_turn e)) (has_no_turn es) none in
    and_from (is_seats seat e) (list_all (is_seats seat) es) (either_first (not (is_of_turn e)) (e.seat == seat) parts.0) (seats_none seat es parts.1)

pub seats_more : (seat : ℕ) (es more : List Entry) → list_all (is_seats seat) es ≡ true → has_no_turn more ≡ true → list_all (is_seats seat) (es ++ more) ≡ true
seats_more seat es more of_seat none =
    list_all-append (is_seats seat) es more ∙ and_from (list_all (is_seats seat) es) (list_all (is_seats seat) more) of_seat (seats_none seat more none)

-- readings that are no turn's, and turns, where the last turn changes and has as many of them
asides_last : (before : List Round) (old new : Round) → length new.asides ≡ length old.asides → asides_of (before ++ new ∷ []) ≡ asides_of (before ++ old ∷ [])
asides_last before old new same =
    let count : Round → ℕ = λ round. length round.asides in
    sum_by-append count before (new ∷ [])
    ∙ ap (λ n. sum_by count before + n) (sum_by-cons count new [] ∙ ap (λ n. n + sum_by count []) same ∙ sym (sum_by-cons count old []))
    ∙ sym (sum_by-append count before (old ∷ []))

asides_snoc : (rounds : List Round) (round : Round) → round.asides ≡ [] → asides_of (rounds ++ round ∷ []) ≡ asides_of rounds
asides_snoc rounds round none =
    let count : Round → ℕ = λ r. length r.asides in
    let split : sum_by count (rounds ++ round ∷ []) ≡ sum_by count rounds + sum_by count (round ∷ []) = sum_by-append count rounds (round ∷ []) in
    let one : sum_by count (round ∷ []) ≡ length round.asides + sum_by count [] = sum_by-cons count round [] in
    let zero_ : length round.asides ≡ 0 = ap length none in
    omega (arith, split, one, zero_)

count_snoc : (rounds : List Round) (round : Round) → length (rounds ++ round ∷ []) ≡ length rounds + 1
count_snoc rounds round = length-append rounds (round ∷ [])

module _ (setting : Setting) (seat slice : ℕ) where
  -- a journal and a log are a course with these turns, but for what other seats made
  pub record Plain (journal : List Entry) (log : List WorldCall) (turns asides : ℕ) (first : List Entry) (first_asides : List ℕ) (rounds : List Round) : Type 0 where
    pub journal_is : journal ≡ first ++ flat_map entries_of rounds
    pub log_is : log ≡ serves_from 0 setting.options.servers ++ readings first_asides ++ flat_map calls_of rounds
    pub before : has_no_turn first ≡ true
    pub turns_are : AreTurns setting seat slice (behind beginning first) rounds
    pub count : length rounds ≡ turns
    pub asides_are : length first_asides + asides_of rounds ≡ asides

  -- from a course, and to one
  pub plain_of : (journal : List Entry) (log : List WorldCall) (turns asides : ℕ) (course : IsCourse setting seat slice journal log turns asides) →
      Plain journal log turns asides course.first course.first_asides course.rounds
  plain_of journal log turns asides course = record {
    journal_is = course.journal_is;
    log_is = course.log_is;
    before = course.before;
    turns_are = course.turns_are;
    count = course.count;
    asides_are = course.asides_are;
  }

  abbrev pub course_of : (journal : List Entry) (log : List WorldCall) (turns asides : ℕ) (first : List Entry) (first_asides : List ℕ) (rounds : List Round) →
      Plain journal log turns asides first first_asides rounds → list_all (is_seats seat) journal ≡ true → IsCourse setting seat slice journal log turns asides
  course_of journal log turns asides first first_asides rounds p of_seat = record {
    first = first;
    first_asides = first_asides;
    rounds = rounds;
    journal_is = p.journal_is;
    log_is = p.log_is;
    before = p.before;
    turns_are = p.turns_are;
    count = p.count;
    asides_are = p.asides_are;
    of_seat = of_seat;
  }

  module _ (journal : List Entry) (log : List WorldCall) (turns asides : ℕ) (first : List Entry) (first_asides : List ℕ) where
    -- more entries before the first turn
    pub first_more : (more : List Entry) → has_no_turn more ≡ true → Plain journal log turns asides first first_asides [] → Plain (journal ++ more) log turns asides (first ++ more) first_asides []
    first_more more none p = record {
      journal_is = ap (λ l. l ++ more) (p.journal_is ∙ append-nil first) ∙ sym (append-nil (first ++ more));
      log_is = p.log_is;
      before = no_turn-append first more p.before none;
      turns_are = tt;
      count = p.count;
      asides_are = p.asides_are;
    }

    -- more entries behind the last turn
    pub last_more : (more : List Entry) (before : List Round) (round : Round) → has_no_turn more ≡ true → Plain journal log turns asides first first_asides (before ++ round ∷ []) →
        Plain (journal ++ more) log turns asides first first_asides (before ++ with_more more round ∷ [])
    last_more more before round none p = record {
      journal_is = ap (λ l. l ++ more) p.journal_is ∙ sym (flat_last entries_of first before round (with_more more round) more (sym (append_assoc round.entries round.between more)));
      log_is = p.log_is
          ∙ ap (λ l. serves_from 0 setting.options.servers ++ readings first_asides ++ l)
          (sym (flat_last calls_of [] before round (with_more more round) [] (sym (append-nil (calls_of round))) ∙ append-nil (flat_map calls_of (before ++ round ∷ []))));
      before = p.before;
      turns_are = turns_last setting seat slice (behind beginning first) before round (with_more more round) p.turns_are
          (turn_more setting seat slice (standing_after (behind beginning first) before) more round none);
      count = count_snoc before (with_more more round) ∙ sym (count_snoc before round) ∙ p.count;
      asides_are = ap (λ n. length first_asides + n) (asides_last before round (with_more more round) refl) ∙ p.asides_are;
    }

    -- a wait behind the last turn
    pub last_rest : (rest : Rest) (before : List Round) (round : Round) → round.rest ≡ None → is_timely setting seat slice (with_rest rest round) ≡ true →
        Plain journal log turns asides first first_asides (before ++ round ∷ []) → Plain journal (log ++ calls_of_rest (Some rest)) turns asides first first_asides (before ++ with_rest rest round ∷ [])
    last_rest rest before round none timely p =
        let waits : List WorldCall = calls_of_rest (Some rest) in
        let quiet : calls_of (with_rest rest round) ≡ calls_of round ++ waits =
        ap (λ l. l ++ waits) (sym (ap (λ o. (round.calls ++ readings round.asides) ++ calls_of_rest o) none ∙ append-nil (round.calls ++ readings round.asides))) in
        record {
          journal_is = p.journal_is
              ∙ ap (λ l. first ++ l)
              (sym (flat_last entries_of [] before round (with_rest rest round) [] (sym (append-nil (entries_of round))) ∙ append-nil (flat_map entries_of (before ++ round ∷ []))));
          log_is =
              ap (λ l. l ++ waits) p.log_is
              ∙ sym (flat_last calls_of (serves_from 0 setting.options.servers ++ readings first_asides) before round (with_rest rest round) waits quiet);
          before = p.before;
          turns_are = turns_last setting seat slice (behind beginning first) before round (with_rest rest round) p.turns_are
              (λ turns. (turns.0, turns.1, timely, refl, tt));
          count = count_snoc before (with_rest rest round) ∙ sym (count_snoc before round) ∙ p.count;
          asides_are = ap (λ n. length first_asides + n) (asides_last before round (with_rest rest round) refl) ∙ p.asides_are;
        }

    -- one turn more
    pub one_turn_more : (rounds : List Round) (reading : ℕ) (es : List Entry) (cs : List WorldCall) (new : Standing) → list_all (goes_on setting seat slice) rounds ≡ true →
        IsTurn setting seat reading (standing_after (behind beginning first) rounds) es cs new → Plain journal log turns asides first first_asides rounds →
        Plain (journal ++ es) (log ++ cs) (turns + 1) asides first first_asides (rounds ++ record { reading = reading; entries = es; calls = cs; new = new; between = []; asides = []; rest = None } ∷ [])
    one_turn_more rounds reading es cs new go turn p =
        let round : Round = record { reading = reading; entries = es; calls = cs; new = new; between = []; asides = []; rest = None } in
        let front : List WorldCall = serves_from 0 setting.options.servers ++ readings first_asides in
        record {
          journal_is = ap (λ l. l ++ es) p.journal_is ∙ ap (λ l. (first ++ flat_map entries_of rounds) ++ l) (sym (append-nil es)) ∙ flat_map_more entries_of first rounds round;
          log_is =
              ap (λ l. l ++ cs) p.log_is ∙ ap (λ l. (front ++ flat_map calls_of rounds) ++ l) (sym (append-nil (cs ++ []) ∙ append-nil cs))
              ∙ flat_map_more calls_of front rounds round;
          before = p.before;
          turns_are = turns_snoc setting seat slice (behind beginning first) rounds round p.turns_are go (turn, refl, refl, refl, tt);
          count = count_snoc rounds round ∙ ap (λ n. n + 1) p.count;
          asides_are = ap (λ n. length first_asides + n) (asides_snoc rounds round refl) ∙ p.asides_are;
        }

  -- behind the last turn of a course may stand any entries that no turn makes
  pub course_then : (journal more : List Entry) (log : List WorldCall) (turns asides : ℕ) → IsTrue (has_no_turn more) → IsCourse setting seat slice journal log turns asides →
      IsCourse setting seat slice (journal ++ more) log turns asides
  course_then journal more log turns asides none course =
      let of_seat = seats_more seat journal more course.of_seat none in
      by_last (λ rounds. Plain journal log turns asides course.first course.first_asides rounds → IsCourse setting seat slice (journal ++ more) log turns asides)
      (λ p. course_of (journal ++ more) log turns asides _ _ _ (first_more journal log turns asides course.first course.first_asides more none p) of_seat)
      (λ before round p. course_of (journal ++ more) log turns asides _ _ _ (last_more journal log turns asides course.first course.first_asides more before round none p) of_seat)
      course.rounds (plain_of journal log turns asides course)

  -- and behind one that was cut short
  pub so_far_then : (journal more : List Entry) (log : List WorldCall) (turns asides : ℕ) → IsTrue (has_no_turn more) → IsCourseSoFar setting seat slice journal log turns asides →
      IsCourseSoFar setting seat slice (journal ++ more) log turns asides
  so_far_then journal more log turns asides none = ⊎_elim
      (λ course. inl (course_then journal more log turns asides none course))
      (⊎_elim
      (λ cut. inr (inl (record {
        whole = cut.whole;
        count = cut.count;
        earlier = cut.earlier;
        cut = cut.cut;
        later = cut.later ++ more;
        calls_earlier = cut.calls_earlier;
        calls_cut = cut.calls_cut;
        reading = cut.reading;
        course = cut.course;
        going_on = cut.going_on;
        turn = cut.turn;
        no_turn = no_turn-append cut.later more cut.no_turn none;
        journal_is = ap (λ l. l ++ more) cut.journal_is ∙ append_assoc (cut.earlier ++ cut.cut) cut.later more;
        log_is = cut.log_is;
        of_seat = seats_more seat journal more cut.of_seat none;
      })))
      (λ serving. inr (inr (record { told_so_far = serving.0.told_so_far; no_turn = no_turn-append journal more serving.0.no_turn none }, serving.1, serving.2))))

  -- and behind the last turn of one that stalled
  pub stalled_then : (journal more : List Entry) (log : List WorldCall) (turns : ℕ) → IsTrue (has_no_turn more) → IsStalledBehind setting seat slice turns journal log →
      IsStalledBehind setting seat slice turns (journal ++ more) log
  stalled_then journal more log turns none stalled =
      let course = stalled.course in
      let of_seat = seats_more seat journal more course.of_seat none in
      let test : Past → Bool = λ past. not (length (pending setting past) == 0) in
      by_last
      (λ rounds. Plain journal log turns 0 course.first course.first_asides rounds → somewhere_behind test course.first rounds ≡ true → IsStalledBehind setting seat slice turns (journal ++ more) log)
      (λ p left. record {
        course = course_of (journal ++ more) log turns 0 _ _ _ (first_more journal log turns 0 course.first course.first_asides more none p) of_seat;
        left_pending = somewhere-grows test [] course.first more left;
      })
      (λ before round p left. record {
        course = course_of (journal ++ more) log turns 0 _ _ _ (last_more journal log turns 0 course.first course.first_asides more before round none p) of_seat;
        left_pending =
            somewhere_behind-snoc test course.first before (with_more more round)
            ∙ somewhere-grows test round.new.past round.between more (sym (somewhere_behind-snoc test course.first before round) ∙ left);
      })
      course.rounds (plain_of journal log turns 0 course) stalled.left_pending
