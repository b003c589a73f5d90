-- Each send to the only server fails: three Starts and three Faults in one turn.
use Rattle.std.proofs.Common.{ℕ, [], ◌∷◌, take, refl, inl, None, arith}
use Rattle.chan_types.specs.declared.journal.What.TheVariants.{Start, Fault}
use Rattle.net_world.specs.declared.answers.Sent.TheVariants.{Failed}
use Rattle.net_world.specs.declared.answers.Got.TheVariants.{Nothing}
use Rattle.net_world.specs.declared.log.WorldCall.TheVariants.{Now, Word, Send, Receive}
use Rattle.channel_model.specs.Journal.{past_of}
use Rattle.channel_model.specs.Stretch.{Standing}
use Rattle.channel_model.specs.Turn.{IsTurn}
use Rattle.channel_examples.specs.Faults.{setting, journal}
use Rattle.channel_model.proofs.Theorems.{turn_of}
use Rattle.channel_examples.proofs.Words.{own, query, all_written, received_nothing, word_itself, nothing_expires, nothing_written, nothing_closed}
use Rattle.dns_message.specs.NameText as NameText
use Rattle.dns_message.specs.Reading as Reading

-- where the first so many entries stand, and no link is held
abbrev stands : ℕ → Standing
stands count = record { past = past_of (take count journal); held = []; unwritten = all_written }

pub turn : IsTurn setting 0 0 (stands 1)
    (own (Start 1 0 0 0 7 None 0) ∷ own (Fault 0 0 0) ∷ own (Start 1 0 0 0 8 None 0) ∷ own (Fault 0 0 0) ∷ own (Start 1 0 0 0 9 None 0) ∷ own (Fault 0 0 0) ∷ [])
    (Now 0 ∷ Receive Nothing ∷ Word 7 ∷ Send 0 (query 7) Failed ∷ Word 8 ∷ Send 0 (query 8) Failed ∷ Word 9 ∷ Send 0 (query 9) Failed ∷ Word 0 ∷ []) (stands 7)
unfolding NameText.units_of Reading.message_read Reading.question_of Reading.record_of Reading.name_of Reading.run_of
turn =
    turn_of setting 0 0 (stands 1) (stands 1) (stands 1) (stands 7) (stands 7) (stands 7)
    [] [] (own (Start 1 0 0 0 7 None 0) ∷ own (Fault 0 0 0) ∷ own (Start 1 0 0 0 8 None 0) ∷ own (Fault 0 0 0) ∷ own (Start 1 0 0 0 9 None 0) ∷ own (Fault 0 0 0) ∷ []) [] []
    (Receive Nothing ∷ []) [] (Word 7 ∷ Send 0 (query 7) Failed ∷ Word 8 ∷ Send 0 (query 8) Failed ∷ Word 9 ∷ Send 0 (query 9) Failed ∷ Word 0 ∷ []) [] []
    (record {
      agrees = record { past_is = refl; held_are = refl; arrivals = refl; sends = refl; links = refl; writes = λ link. refl; faults_are = refl; in_order = refl };
      alone = refl;
      all = received_nothing;
      closed = refl;
    })
    (nothing_expires setting 0 0 (stands 1) tt)
    (record {
      agrees = record { past_is = refl; held_are = refl; arrivals = refl; sends = refl; links = refl; writes = λ link. refl; faults_are = refl; in_order = refl };
      alone = refl;
      all = inl (
        inl refl,
        (
          word_itself setting 7 (past_of (take 1 journal)) refl refl,
          (word_itself setting 8 (past_of (take 3 journal)) refl refl, (word_itself setting 9 (past_of (take 5 journal)) refl refl, refl)),
        ),
      );
      few = omega arith;
      served = refl;
      served_first = refl;
    })
    (nothing_written setting 0 0 (stands 7) refl) (nothing_closed setting 0 0 (stands 7) refl)
