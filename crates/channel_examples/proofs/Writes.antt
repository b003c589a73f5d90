-- The writing of a turn: it isn't whole while the World takes bytes and some are left, nor where a link that failed isn't closed.
use Rattle.std.proofs.Common.{◌≡◌, ℕ, ◌==◌, if◌then◌else◌, List, [], ◌∷◌, ◌++◌, take, drop, length, Bool, true, false, ◌&&◌, ◌||◌, refl, ap, subst, arith}
use Rattle.std.specs.List.{list_all}
use Rattle.std.proofs.lemmas.Bool.{eqb-true}
use Rattle.chan_types.specs.declared.journal.Entry.{Entry}
use Rattle.chan_types.specs.declared.journal.What.TheVariants.{Fault}
use Rattle.net_world.specs.declared.answers.Wrote.TheVariants.{Count, Failed as NotWritten}
use Rattle.net_world.specs.declared.log.WorldCall.{WorldCall}
use Rattle.net_world.specs.declared.log.WorldCall.TheVariants.{Write, Close}
use Rattle.channel_model.specs.Frames.{framed}
use Rattle.channel_model.specs.Journal.{past_of}
use Rattle.channel_model.specs.Stretch.{Standing}
use Rattle.channel_model.specs.Turn.{HasWritten, is_flushed}
use Rattle.channel_examples.proofs.TruncatedReply.{setting, journal, link_with, queued_second}
use Rattle.channel_examples.proofs.Words.{own, query}
use Rattle.dns_message.specs.NameText as NameText
use Rattle.dns_message.specs.Reading as Reading

-- ---- what is left to be written

-- of the query's 37 bytes the World takes 30
abbrev first_bytes : WorldCall
first_bytes = Write 1 (framed (query 8)) (Count 30)

-- and then none of the others
abbrev no_more : WorldCall
no_more = Write 1 (drop 30 (framed (query 8))) (Count 0)

-- where the others are still to be written
abbrev seven_left : Standing
seven_left = record { past = past_of (take 4 journal); held = link_with []; unwritten = λ link. if 1 == link then drop 30 (framed (query 8)) else [] }

-- so the part may end
pub took_no_more : HasWritten setting 0 1 queued_second [] (first_bytes ∷ no_more ∷ []) seven_left
unfolding NameText.units_of Reading.message_read Reading.question_of Reading.record_of Reading.name_of Reading.run_of
took_no_more = record {
  agrees = record { past_is = refl; held_are = refl; arrivals = refl; sends = refl; links = refl; writes = λ link. by_link (1 == link); faults_are = refl; in_order = refl };
  alone = refl;
  all = refl;
  to_held = refl;
  closed = refl;
}
  where
    by_link : (b : Bool) → ((if b then framed (query 8) else []) ++ []) ++ []
        ≡ ((if b then take 30 (framed (query 8)) else []) ++ ((if b then [] else []) ++ [])) ++ (if b then drop 30 (framed (query 8)) else [])
    by_link true = refl
    by_link false = refl

-- that nothing is left isn't so, where 30 of the 37 bytes were taken
left_over : (bytes : List ℕ) → framed (query 8) ≡ take 30 (framed (query 8)) ++ bytes → (((length bytes == 0) || false) && true) ≡ true → ⊥
left_over [] same all = let count : ◌≡◌ {A = ℕ} 37 30 = ap length same in omega (arith, count)
left_over (byte ∷ bytes) same all = by_test (length (byte ∷ bytes) == 0) (eqb-true (length (byte ∷ bytes)) 0) all
  where
    by_test : (b : Bool) → (b ≡ true → length (byte ∷ bytes) ≡ 0) → ((b || false) && true) ≡ true → ⊥
    by_test true none h = cc (none refl)
    by_test false none h = cc h

-- but not before a write took none of the seven
pub bytes_left : (new : Standing) → HasWritten setting 0 1 queued_second [] (first_bytes ∷ []) new → ⊥
unfolding NameText.units_of Reading.message_read Reading.question_of Reading.record_of Reading.name_of Reading.run_of
bytes_left new made =
    left_over (new.unwritten 1) (made.agrees.writes 1)
    (subst (λ held. list_all (is_flushed new.unwritten (link_with []) (first_bytes ∷ [])) held ≡ true) made.agrees.held_are made.all)

-- what is written is what was framed
pub other_bytes : (new : Standing) → HasWritten setting 0 1 queued_second [] (Write 1 (5 ∷ []) (Count 1) ∷ []) new → ⊥
unfolding NameText.units_of Reading.message_read Reading.question_of Reading.record_of Reading.name_of Reading.run_of
other_bytes new made = let same : ◌≡◌ {A = ℕ} 0 5 = ap first_byte (made.agrees.writes 1) in omega (arith, same)
  where
    first_byte : List ℕ → ℕ
    first_byte [] = 0
    first_byte (byte ∷ bytes) = byte

-- ---- a link that fails

-- the write fails
abbrev failed : WorldCall
failed = Write 1 (framed (query 8)) NotWritten

abbrev fault : List Entry
fault = own (Fault 0 1 1) ∷ []

-- the link isn't held any more
abbrev lost : Standing
lost = record { past = past_of (take 4 journal ++ fault); held = []; unwritten = queued_second.unwritten }

-- it is closed
pub failed_closed : HasWritten setting 0 1 queued_second fault (failed ∷ Close 1 ∷ []) lost
failed_closed = record {
  agrees = record { past_is = refl; held_are = refl; arrivals = refl; sends = refl; links = refl; writes = λ link. by_link (1 == link); faults_are = refl; in_order = refl };
  alone = refl;
  all = refl;
  to_held = refl;
  closed = refl;
}
  where
    by_link : (b : Bool) → ((if b then framed (query 8) else []) ++ []) ++ [] ≡ ((if b then [] else []) ++ []) ++ ((if b then framed (query 8) else []) ++ [])
    by_link true = refl
    by_link false = refl

pub failed_not_closed : (new : Standing) → HasWritten setting 0 1 queued_second fault (failed ∷ []) new → ⊥
failed_not_closed new made = cc made.closed

-- and a link whose write succeeded isn't
pub written_closed : (new : Standing) → HasWritten setting 0 1 queued_second [] (Write 1 (framed (query 8)) (Count 37) ∷ Close 1 ∷ []) new → ⊥
written_closed new made = cc made.closed
