-- Where a request is pending at the end of a course, one is pending behind its last turn.
use Rattle.std.proofs.Common.{◌≡◌, ◌∙◌, ℕ, Bool, true, false, List, [], ◌∷◌, ap, arith, length, ne_eqb, refl, sym}
use Rattle.std.specs.Prelude.{flat_map, not, ◌==◌, ◌||◌, ◌≢◌}
use Rattle.chan_types.specs.declared.journal.Entry.{Entry}
use Rattle.net_world.specs.declared.log.WorldCall.{WorldCall}
use Rattle.channel_model.proofs.Theorems.{followed_by-append, turn_agrees}
use Rattle.channel_model.specs.Completion.{pending}
use Rattle.channel_model.specs.Course.{AreTurns, IsCourse, Round, entries_of}
use Rattle.channel_model.specs.Endings.{somewhere_behind}
use Rattle.channel_model.specs.Journal.{Past, followed_by, past_of}
use Rattle.channel_model.specs.Setting.{Setting}
use Rattle.channel_model.specs.Stretch.{Standing, beginning, behind}
use Rattle.channel_model.specs.Turn.{IsTurn, somewhere}
use Rattle.channel_progress.specs.Beside.{IsStalledBeside}

-- what holds at the end of some entries holds somewhere there
at_end : (test : Past → Bool) (past : Past) (entries : List Entry) → test (followed_by past entries) ≡ true → somewhere test past entries ≡ true
at_end test past [] holds = holds
at_end test past (entry ∷ entries) holds = either (test past) (at_end test (entry.what ∷ past) entries holds)
  where
    either : (b : Bool) → somewhere test (entry.what ∷ past) entries ≡ true → (b || somewhere test (entry.what ∷ past) entries) ≡ true
    either true e = refl
    either false e = e

-- a list that isn't empty has a length other than 0
some_left : (numbers : List ℕ) → numbers ≢ [] → not (length numbers == 0) ≡ true
some_left [] some = absurd (some refl)
some_left (n ∷ numbers) some = ap not (ne_eqb (length (n ∷ numbers)) 0 (λ (e : length (n ∷ numbers) ≡ 0). omega (arith, e)))

module _ (setting : Setting) (seat slice : ℕ) where
  -- a turn and what stands behind it lead where its entries do
  turned : (old : Standing) (round : Round) → IsTurn setting seat round.reading old round.entries round.calls round.new → followed_by old.past (entries_of round) ≡ followed_by round.new.past round.between
  turned old round turn =
      followed_by-append old.past round.entries round.between
      ∙ ap (λ p. followed_by p round.between) (sym (turn_agrees setting seat round.reading old round.entries round.calls round.new turn).past_is)

  -- what holds at the end of some turns holds behind the last of them
  behind_last : (test : Past → Bool) (rounds : List Round) (round : Round) (standing : Standing) (first : List Entry) → AreTurns setting seat slice standing (round ∷ rounds)
      → test (followed_by (followed_by standing.past (entries_of round)) (flat_map entries_of rounds)) ≡ true → somewhere_behind test first (round ∷ rounds) ≡ true
  behind_last test [] round standing first are holds = at_end test round.new.past round.between (sym (ap test (turned standing round are.0)) ∙ holds)
  behind_last test (next ∷ rounds) round standing first are holds =
      let here : Past = followed_by round.new.past round.between in
      let same : followed_by (followed_by standing.past (entries_of round)) (flat_map entries_of (next ∷ rounds)) ≡ followed_by (followed_by here (entries_of next)) (flat_map entries_of rounds) =
      ap (λ p. followed_by p (flat_map entries_of (next ∷ rounds))) (turned standing round are.0) ∙ followed_by-append here (entries_of next) (flat_map entries_of rounds) in
      behind_last test rounds next (behind round.new round.between) first are.4 (sym (ap test same) ∙ holds)

  -- a course at whose journal's end a request is pending has stalled
  pub stalled_at_end : (journal : List Entry) (log : List WorldCall) (turns asides : ℕ) → IsCourse setting seat slice journal log turns asides → pending setting (past_of journal) ≢ [] → IsStalledBeside setting seat slice turns asides journal log
  stalled_at_end journal log turns asides course some = record {
    course = course;
    left_pending =
        let parts : past_of journal ≡ followed_by (followed_by [] course.first) (flat_map entries_of course.rounds) = ap past_of course.journal_is ∙ followed_by-append [] course.first (flat_map entries_of course.rounds) in
        by course.first course.rounds course.turns_are (sym (ap test parts) ∙ some_left (pending setting (past_of journal)) some);
  }
    where
      test : Past → Bool
      test past = not (length (pending setting past) == 0)

      by : (first : List Entry) (rounds : List Round) → AreTurns setting seat slice (behind beginning first) rounds → test (followed_by (followed_by [] first) (flat_map entries_of rounds)) ≡ true → somewhere_behind test first rounds ≡ true
      by first [] are holds = at_end test [] first holds
      by first (round ∷ rounds) are holds =
          behind_last test rounds round (behind beginning first) first are (sym (ap test (followed_by-append (followed_by [] first) (entries_of round) (flat_map entries_of rounds))) ∙ holds)
