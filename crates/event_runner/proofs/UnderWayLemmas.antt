-- A run under way, and what each call does to it: the beginning, a turn, a pause, and entries between turns.
use Rattle.event_runner.proofs.Base.{◌≡◌, ◌≢◌, ◌∙◌, ℕ, ◌-◌, ◌+◌, ◌==◌, ◌&&◌, ◌||◌, Bool, true, false, List, [], ◌∷◌, ◌++◌, length, map, not, refl, ap, sym, subst, eq-eqb, rules, Option, Some, None, is_none, min, ◌^◌, ◌⊎◌, list_any, and_from, and_parts, append-nil, Entry, Waited, WorldCall, Wait, last_or, anywhere-end, followed_by-append, holds-anywhere, holds-end, holds-here, holds-then, pending, ready, Rest, Round, Test, delivers_then, has_no_turn, has_none_of, is_of_turn, rests_there, serves_from, skips, soon, standing_after, waits_there, wakes_at, somewhere_behind, Past, followed_by, past_of, has_key, keyed_from, opening_servers, Setting, Standing, beginning, behind, IsTurn, somewhere, ServerKey, Running, wakes_by, Reach, awaiting, delivered, following, has_come, rested, turned}
use Rattle.event_runner.proofs.CallLemmas.{begins_none}
use Rattle.event_runner.proofs.CourseLemmas.{Plain, first_more, last_more, last_rest, one_turn_more}
use Rattle.event_runner.proofs.RoundLemmas.{all_go_on, by_last, come_more, last_or-snoc, somewhere-end, somewhere_behind-snoc, standing_after-snoc, with_more, with_rest}
use Rattle.event_runner.proofs.SoundLemmas.{AreIdle, Sound, sound_idle}

-- the last turn's reading of the clock
abbrev pub last_reading : List Round → ℕ
last_reading rounds = last_or 0 (map (λ round. round.reading) rounds)

-- entries that no turn makes begin no attempt
pub idle_of : (es : List Entry) → has_no_turn es ≡ true → AreIdle es
idle_of [] none = refl
idle_of (e ∷ es) none =
    let parts = and_parts (not (is_of_turn e)) (has_no_turn es) none in
    and_from _ _ (begins_none e.what (is_not (is_of_turn e) parts.0)) (idle_of es parts.1)
  where
    is_not : (b : Bool) → not b ≡ true → b ≡ false
    is_not true h = absurd (cc h)
    is_not false h = refl

-- a list that isn't empty has some item
some_left : (xs : List ℕ) → xs ≢ [] → not (length xs == 0) ≡ true
some_left [] some = absurd (some refl)
some_left (x ∷ xs) some = search rules

module _ (setting : Setting) (seat slice : ℕ) where
  -- behind the position the seat makes no entry
  abbrev idle : Test
  idle = λ here later. has_none_of seat later

  -- nor there, where a wait is called for
  abbrev called : Test
  called = λ here later. not (skips setting here) && has_none_of seat later

  -- nor there, where a request is pending
  abbrev wanted : Test
  wanted = λ here later. not (length (pending setting here) == 0) && has_none_of seat later

  -- what is said of a run under way, with its turns beside
  pub record Facts (turns asides : ℕ) (reach : Reach) (seen : List Entry) (running : Running) (calls : List WorldCall) (first : List Entry) (first_asides : List ℕ) (rounds : List Round) : Type 0 where
    pub plain : Plain setting seat slice seen calls turns asides first first_asides rounds
    pub come : last_or true (map (has_come setting seat slice reach) rounds) ≡ true
    pub reading : last_reading rounds ≡ running.reading
    pub past : (standing_after (behind beginning first) rounds).past ≡ past_of seen
    pub mixes : running.mix ≡ setting.options.flags.mix
    pub sound : Sound setting running.rows running.told (standing_after (behind beginning first) rounds)

  -- the run begins: the servers were told, and what was made before is no turn's
  pub facts_begun : (reach : Reach) {seen : List Entry} {running : Running} → has_no_turn seen ≡ true → running.reading ≡ 0 → running.rows ≡ [] →
      running.told ≡ map (λ server. server.key) (keyed_from 0 setting.options.servers) → running.mix ≡ setting.options.flags.mix →
      Facts 0 0 reach seen running (serves_from 0 setting.options.servers) seen [] []
  facts_begun reach {seen} {running} none reading rows keys mix = record {
    plain = record {
      journal_is = sym (append-nil seen);
      log_is = sym (append-nil (serves_from 0 setting.options.servers ++ []) ∙ append-nil (serves_from 0 setting.options.servers));
      before = none;
      turns_are = tt;
      count = refl;
      asides_are = refl;
    };
    come = refl;
    reading = sym reading;
    past = refl;
    mixes = mix;
    sound = subst (λ rows. Sound setting rows running.told (behind beginning seen)) (sym rows)
        (sound_idle setting [] running.told seen beginning (idle_of seen none) (record {
          held_are = refl;
          unwritten_are = tt;
          opened_are = tt;
          differ = tt;
          fresh = λ link not_on. refl;
          flying = λ leg a is some. absurd (cc is);
          told_are = λ server. ap (list_any (λ key. key == server)) keys ∙ keys_are server (keyed_from 0 setting.options.servers) ∙ or_false (has_key server (opening_servers setting));
        }));
  }
    where
      keys_are : (server : ℕ) (servers : List ServerKey) → list_any (λ key. key == server) (map (λ (s : ServerKey). s.key) servers) ≡ has_key server servers
      keys_are server [] = refl
      keys_are server (s ∷ servers) = ap (λ b. (s.key == server) || b) (keys_are server servers)

      or_false : (b : Bool) → b ≡ (b || false)
      or_false true = refl
      or_false false = refl

  module _ (seen : List Entry) where
    -- the seat made no entry behind a position, and the test holds at the journal's end
    soon_at_end : (test : Test) → test (past_of seen) [] ≡ true → (past : Past) (es : List Entry) → followed_by past es ≡ past_of seen → has_none_of seat es ≡ true → soon seat test past es ≡ true
    soon_at_end test h past es is none = holds-end (λ entry. entry.seat == seat) test past es none (ap (λ p. test p []) is ∙ h)

    -- what was to come soon behind the deliveries has come, where the one test makes the other hold soon
    delivers_as : (one other : Test) → ((past : Past) (es : List Entry) → followed_by past es ≡ past_of seen → one past es ≡ true → soon seat other past es ≡ true) → (round : Round) → followed_by round.new.past round.between ≡ past_of seen →
        delivers_then setting seat slice one round ≡ true → delivers_then setting seat slice other round ≡ true
    delivers_as one other follows round here h =
        let none : Past → Bool = λ past. length (ready setting past) == 0 in
        let both : Test → Test = λ test past es. none past && soon seat test past es in
        holds-then (λ entry. false) (past_of seen) (both one) (both other)
        (λ past es is held.
        let parts = and_parts (none past) (soon seat one past es) held in
        holds-here (λ entry. false) (both other) past es
        (and_from (none past) (soon seat other past es) parts.0 (holds-then (λ entry. entry.seat == seat) (past_of seen) one other follows past es is parts.1)))
        round.new.past round.between here h

  module _ {turns asides : ℕ} {first : List Entry} {first_asides : List ℕ} where
    -- a turn was made
    pub facts_turned : {seen es : List Entry} {old running : Running} {calls cs : List WorldCall} {reading : ℕ} {rounds : List Round} {new : Standing} →
        IsTurn setting seat reading (standing_after (behind beginning first) rounds) es cs new → running.reading ≡ reading →
        new.past ≡ past_of (seen ++ es) → running.mix ≡ setting.options.flags.mix → Sound setting running.rows running.told new →
        Facts turns asides following seen old calls first first_asides rounds →
        Facts (turns + 1) asides turned (seen ++ es) running (calls ++ cs) first first_asides (rounds ++ record { reading = reading; entries = es; calls = cs; new = new; between = []; asides = []; rest = None } ∷ [])
    facts_turned {seen} {es} {old} {running} {calls} {cs} {reading} {rounds} {new} turn read past mixes sound f =
        let round : Round = record { reading = reading; entries = es; calls = cs; new = new; between = []; asides = []; rest = None } in
        let stands : standing_after (behind beginning first) (rounds ++ round ∷ []) ≡ new = standing_after-snoc (behind beginning first) rounds round in
        record {
          plain = one_turn_more setting seat slice seen calls turns asides first first_asides rounds reading es cs new
              (all_go_on setting seat slice (behind beginning first) rounds f.plain.turns_are f.come) turn f.plain;
          come = last_or-snoc (has_come setting seat slice turned) true rounds round;
          reading = last_or-snoc (λ r. r.reading) 0 rounds round ∙ sym read;
          past = ap (λ s. s.past) stands ∙ past;
          mixes = mixes;
          sound = subst (Sound setting running.rows running.told) (sym stands) sound;
        }

    module _ {reach : Reach} {seen : List Entry} {running : Running} {calls : List WorldCall} where
      -- more entries stand before the first turn
      pub facts_first_more : (more : List Entry) → has_no_turn more ≡ true → Facts turns asides reach seen running calls first first_asides [] →
          Facts turns asides reach (seen ++ more) running calls (first ++ more) first_asides []
      facts_first_more more none f =
          let further : followed_by [] (first ++ more) ≡ followed_by (followed_by [] first) more = followed_by-append [] first more in
          record {
            plain = first_more setting seat slice seen calls turns asides first first_asides more none f.plain;
            come = f.come;
            reading = f.reading;
            past = further ∙ ap (λ p. followed_by p more) f.past ∙ sym (followed_by-append [] seen more);
            mixes = f.mixes;
            sound = subst (λ p. Sound setting running.rows running.told (record beginning { past = p })) (sym further)
                (sound_idle setting running.rows running.told more (behind beginning first) (idle_of more none) f.sound);
          }

      -- more entries stand behind the last
      pub facts_last_more : (more : List Entry) (before : List Round) (round : Round) → has_no_turn more ≡ true → (reach ≡ turned) ⊎ (has_none_of seat more ≡ true) → Facts turns asides reach seen running calls first first_asides (before ++ round ∷ []) →
          Facts turns asides reach (seen ++ more) running calls first first_asides (before ++ with_more more round ∷ [])
      facts_last_more more before round none may f =
          let stood : standing_after (behind beginning first) (before ++ round ∷ []) ≡ behind round.new round.between = standing_after-snoc (behind beginning first) before round in
          let stands : standing_after (behind beginning first) (before ++ with_more more round ∷ []) ≡ behind round.new (round.between ++ more) =
          standing_after-snoc (behind beginning first) before (with_more more round) in
          let further : followed_by round.new.past (round.between ++ more) ≡ followed_by (followed_by round.new.past round.between) more = followed_by-append round.new.past round.between more in
          let sound : Sound setting running.rows running.told (behind round.new round.between) = subst (Sound setting running.rows running.told) stood f.sound in
          record {
            plain = last_more setting seat slice seen calls turns asides first first_asides more before round none f.plain;
            come = last_or-snoc (has_come setting seat slice reach) true before (with_more more round)
                ∙ come_more setting seat slice reach more round may (sym (last_or-snoc (has_come setting seat slice reach) true before round) ∙ f.come);
            reading = last_or-snoc (λ r. r.reading) 0 before (with_more more round) ∙ sym (last_or-snoc (λ r. r.reading) 0 before round) ∙ f.reading;
            past = ap (λ s. s.past) stands ∙ further ∙ ap (λ p. followed_by p more) (sym (ap (λ s. s.past) stood) ∙ f.past) ∙ sym (followed_by-append [] seen more);
            mixes = f.mixes;
            sound = subst (Sound setting running.rows running.told) (sym stands)
                (subst (λ p. Sound setting running.rows running.told (record round.new { past = p })) (sym further)
                (sound_idle setting running.rows running.told more (behind round.new round.between) (idle_of more none) sound));
          }

    module _ {seen : List Entry} {running : Running} {calls : List WorldCall} where
      -- what the last turn has come to
      last_come : {reach : Reach} (before : List Round) (round : Round) → Facts turns asides reach seen running calls first first_asides (before ++ round ∷ []) → has_come setting seat slice reach round ≡ true
      last_come {reach} before round f = sym (last_or-snoc (has_come setting seat slice reach) true before round) ∙ f.come

      -- the journal's end is the last position behind the last turn
      pub ends_here : {reach : Reach} (before : List Round) (round : Round) → Facts turns asides reach seen running calls first first_asides (before ++ round ∷ []) →
          followed_by round.new.past round.between ≡ past_of seen
      ends_here {reach} before round f = sym (ap (λ s. s.past) (standing_after-snoc (behind beginning first) before round)) ∙ f.past

      -- a test that holds at the journal's end holds behind the last turn
      holds_behind : (test : Past → Bool) {reach : Reach} (before : List Round) (round : Round) → test (past_of seen) ≡ true → Facts turns asides reach seen running calls first first_asides (before ++ round ∷ []) →
          somewhere test round.new.past round.between ≡ true
      holds_behind test {reach} before round h f = somewhere-end test round.new.past round.between (ap test (ends_here before round f) ∙ h)

      -- a wait stands behind the last turn
      pub facts_waited : (until : ℕ) (outcome : Waited) (before : List Round) (round : Round) → until ≡ wakes_by setting (min (running.reading + slice) (2 ^ 64 - 1)) (past_of seen) →
          Facts turns asides awaiting seen running calls first first_asides (before ++ round ∷ []) →
          Facts turns asides rested seen running (calls ++ Wait until outcome ∷ []) first first_asides (before ++ with_rest (record { until = until; outcome = outcome }) round ∷ [])
      facts_waited until outcome before round wakes f =
          let rest : Rest = record { until = until; outcome = outcome } in
          let come = and_parts (is_none round.rest) (delivers_then setting seat slice called round) (last_come before round f) in
          let here : followed_by round.new.past round.between ≡ past_of seen = ends_here before round f in
          let reads : round.reading ≡ running.reading = sym (last_or-snoc (λ r. r.reading) 0 before round) ∙ f.reading in
          let is : until ≡ wakes_at setting round.reading slice (past_of seen) = wakes ∙ ap (λ r. wakes_by setting (min (r + slice) (2 ^ 64 - 1)) (past_of seen)) (sym reads) in
          let in_time : (until == wakes_at setting round.reading slice (past_of seen)) ≡ true = eq-eqb until (wakes_at setting round.reading slice (past_of seen)) is in
          let waits : (test : Test) → test (past_of seen) [] ≡ true → (past : Past) (es : List Entry) → followed_by past es ≡ past_of seen → called past es ≡ true → waits_there setting seat slice round.reading until test past es ≡ true =
          λ test at_end past es ends held.
          let parts = and_parts (not (skips setting past)) (has_none_of seat es) held in
          let moment : Test = λ now later. (until == wakes_at setting round.reading slice now) && test now later in
          and_from (not (skips setting past)) (soon seat moment past es) parts.0
          (soon_at_end seen moment (and_from (until == wakes_at setting round.reading slice (past_of seen)) (test (past_of seen) []) in_time at_end) past es ends parts.1) in
          let stands : standing_after (behind beginning first) (before ++ with_rest rest round ∷ []) ≡ standing_after (behind beginning first) (before ++ round ∷ []) =
          standing_after-snoc (behind beginning first) before (with_rest rest round) ∙ sym (standing_after-snoc (behind beginning first) before round) in
          let timely : Test = waits_there setting seat slice round.reading until (λ now later. true) in
          let none : Past → Bool = λ past. length (ready setting past) == 0 in
          record {
            plain = last_rest setting seat slice seen calls turns asides first first_asides rest before round (none_is round.rest come.0)
                (holds-then (λ entry. false) (past_of seen) (λ past es. none past && soon seat called past es) timely
                (λ past es ends held.
                holds-anywhere (λ entry. entry.seat == seat) timely past es
                (holds-then (λ entry. entry.seat == seat) (past_of seen) called timely
                (λ p fs at h. holds-here (λ entry. entry.seat == seat) timely p fs (waits (λ now later. true) refl p fs at h))
                past es ends (and_parts (none past) (soon seat called past es) held).1))
                round.new.past round.between here come.1)
                f.plain;
            come = last_or-snoc (has_come setting seat slice rested) true before (with_rest rest round)
                ∙ delivers_as seen called (rests_there setting seat slice round.reading (Some rest) idle)
                (λ past es ends held. holds-here (λ entry. entry.seat == seat) (rests_there setting seat slice round.reading (Some rest) idle) past es (waits (soon seat idle) refl past es ends held)) round here come.1;
            reading = last_or-snoc (λ r. r.reading) 0 before (with_rest rest round) ∙ reads;
            past = ap (λ s. s.past) stands ∙ f.past;
            mixes = f.mixes;
            sound = subst (Sound setting running.rows running.told) (sym stands) f.sound;
          }
        where
          none_is : (o : Option Rest) → is_none o ≡ true → o ≡ None
          none_is None is = refl
          none_is (Some r) is = absurd (cc is)

      -- the run has come further behind its last turn
      facts_further : (old new : Reach) → ((before : List Round) (round : Round) → Facts turns asides old seen running calls first first_asides (before ++ round ∷ []) → has_come setting seat slice new round ≡ true) →
          {rounds : List Round} → Facts turns asides old seen running calls first first_asides rounds → Facts turns asides new seen running calls first first_asides rounds
      facts_further old new come {rounds} f = record {
        plain = f.plain;
        come = by_last (λ l. Facts turns asides old seen running calls first first_asides l → last_or true (map (has_come setting seat slice new) l) ≡ true)
            (λ g. refl) (λ before round g. last_or-snoc (has_come setting seat slice new) true before round ∙ come before round g) rounds f;
        reading = f.reading;
        past = f.past;
        mixes = f.mixes;
        sound = f.sound;
      }

      -- all that was ready was delivered
      pub facts_delivered : {rounds : List Round} → ready setting (past_of seen) ≡ [] → Facts turns asides turned seen running calls first first_asides rounds → Facts turns asides delivered seen running calls first first_asides rounds
      facts_delivered none = facts_further turned delivered (λ before round f.
          let here : followed_by round.new.past round.between ≡ past_of seen = ends_here before round f in
          and_from (is_none round.rest) (delivers_then setting seat slice idle round) (last_come before round f)
          (anywhere-end (λ past es. (length (ready setting past) == 0) && soon seat idle past es) round.new.past round.between
          (and_from (length (ready setting (followed_by round.new.past round.between)) == 0) true (ap (λ p. length (ready setting p) == 0) here ∙ ap (λ l. length l == 0) none) refl)))

      -- a wait is called for
      pub facts_awaiting : {rounds : List Round} → skips setting (past_of seen) ≡ false → Facts turns asides delivered seen running calls first first_asides rounds → Facts turns asides awaiting seen running calls first first_asides rounds
      facts_awaiting none = facts_further delivered awaiting (λ before round f.
          let come = and_parts (is_none round.rest) (delivers_then setting seat slice idle round) (last_come before round f) in
          and_from (is_none round.rest) (delivers_then setting seat slice called round) come.0
          (delivers_as seen idle called (soon_at_end seen called (and_from (not (skips setting (past_of seen))) true (ap not none) refl)) round (ends_here before round f) come.1))

      -- no wait was called for
      pub facts_skipped : {rounds : List Round} → skips setting (past_of seen) ≡ true → Facts turns asides delivered seen running calls first first_asides rounds → Facts turns asides rested seen running calls first first_asides rounds
      facts_skipped skip = facts_further delivered rested (λ before round f.
          let come = and_parts (is_none round.rest) (delivers_then setting seat slice idle round) (last_come before round f) in
          delivers_as seen idle (rests_there setting seat slice round.reading round.rest idle)
          (soon_at_end seen (rests_there setting seat slice round.reading round.rest idle) (skipped round.reading round.rest come.0)) round (ends_here before round f) come.1)
        where
          skipped : (reading : ℕ) (rest : Option Rest) → is_none rest ≡ true → rests_there setting seat slice reading rest (λ here later. has_none_of seat later) (past_of seen) [] ≡ true
          skipped reading None is = and_from (skips setting (past_of seen)) true skip refl
          skipped reading (Some r) is = absurd (cc is)

      -- a request is pending
      pub facts_following : {rounds : List Round} → pending setting (past_of seen) ≢ [] → Facts turns asides rested seen running calls first first_asides rounds → Facts turns asides following seen running calls first first_asides rounds
      facts_following some = facts_further rested following (λ before round f.
          delivers_as seen (rests_there setting seat slice round.reading round.rest idle) (rests_there setting seat slice round.reading round.rest wanted)
          (λ past es ends held. holds-here (λ entry. entry.seat == seat) (rests_there setting seat slice round.reading round.rest wanted) past es (rests round.reading round.rest past es ends held))
          round (ends_here before round f) (last_come before round f))
        where
          wants : (past : Past) (es : List Entry) → followed_by past es ≡ past_of seen → idle past es ≡ true → soon seat wanted past es ≡ true
          wants = soon_at_end seen wanted (and_from (not (length (pending setting (past_of seen)) == 0)) true (some_left (pending setting (past_of seen)) some) refl)

          -- behind the rest
          soon_wants : (past : Past) (es : List Entry) → followed_by past es ≡ past_of seen → soon seat idle past es ≡ true → soon seat wanted past es ≡ true
          soon_wants = holds-then (λ entry. entry.seat == seat) (past_of seen) idle wanted wants

          rests : (reading : ℕ) (rest : Option Rest) (past : Past) (es : List Entry) → followed_by past es ≡ past_of seen → rests_there setting seat slice reading rest idle past es ≡ true → rests_there setting seat slice reading rest wanted past es ≡ true
          rests reading None past es ends h =
              let parts = and_parts (skips setting past) (soon seat idle past es) h in
              and_from (skips setting past) (soon seat wanted past es) parts.0 (soon_wants past es ends parts.1)
          rests reading (Some r) past es ends h =
              let first : Test = λ now later. (r.until == wakes_at setting reading slice now) && soon seat idle now later in
              let second : Test = λ now later. (r.until == wakes_at setting reading slice now) && soon seat wanted now later in
              let parts = and_parts (not (skips setting past)) (soon seat first past es) h in
              and_from (not (skips setting past)) (soon seat second past es) parts.0
              (holds-then (λ entry. entry.seat == seat) (past_of seen) first second
              (λ p fs at held.
              let both = and_parts (r.until == wakes_at setting reading slice p) (soon seat idle p fs) held in
              holds-here (λ entry. entry.seat == seat) second p fs (and_from (r.until == wakes_at setting reading slice p) (soon seat wanted p fs) both.0 (soon_wants p fs at both.1)))
              past es ends parts.1)

      -- where a request is pending at the journal's end, one is behind the last turn
      pub pending_behind : {reach : Reach} {rounds : List Round} → pending setting (past_of seen) ≢ [] → Facts turns asides reach seen running calls first first_asides rounds →
          somewhere_behind (λ past. not (length (pending setting past) == 0)) first rounds ≡ true
      pending_behind {reach} {rounds} some =
          let test : Past → Bool = λ past. not (length (pending setting past) == 0) in
          let here : test (past_of seen) ≡ true = some_left (pending setting (past_of seen)) some in
          by_last (λ l. Facts turns asides reach seen running calls first first_asides l → somewhere_behind test first l ≡ true)
          (λ f. somewhere-end test [] first (ap test f.past ∙ here))
          (λ before round f. somewhere_behind-snoc test first before round ∙ holds_behind test before round here f)
          rounds
