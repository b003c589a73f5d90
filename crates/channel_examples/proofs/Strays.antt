-- A connect that fails, a link that ends, one that fails while receiving and one while writing; and what comes of links that aren't held.
use Rattle.std.proofs.Common.{◌≡◌, ℕ, ◌==◌, if◌then◌else◌, List, [], ◌∷◌, ◌++◌, Bool, true, false, ◌&&◌, None, refl, sym, ◌∙◌, eq-eqb}
use Rattle.std.proofs.lemmas.Bool.{eqb-true}
use Rattle.std.specs.Prelude.{IsFalse}
use mathlib.Core.List.{IsPrefix}
use Rattle.chan_types.specs.declared.journal.Entry.{Entry}
use Rattle.chan_types.specs.declared.journal.What.TheVariants.{Start, Fault}
use Rattle.net_addr.specs.declared.addr.Addr.TheVariants.{V4}
use Rattle.net_world.specs.declared.answers.Sent.TheVariants.{Sent, Failed as NotSent}
use Rattle.net_world.specs.declared.answers.Wrote.TheVariants.{Count, Failed as NotWritten}
use Rattle.net_world.specs.declared.answers.Got.TheVariants.{Ended, Nothing, Piece, Failed as LinkFailed}
use Rattle.net_world.specs.declared.answers.Waited.TheVariants.{Woken}
use Rattle.net_world.specs.declared.log.WorldCall.{WorldCall}
use Rattle.net_world.specs.declared.log.WorldCall.TheVariants.{Serve, Now, Word, Connect, Write, Receive, Close, Wait}
use Rattle.resolv_options.specs.Defaults.{plain_values, plain_flags}
use Rattle.channel_model.specs.Frames.{framed}
use Rattle.channel_model.specs.Setting.{Setting}
use Rattle.channel_model.specs.Tests.{first_unlawful}
use Rattle.channel_model.specs.Traffic.{TrafficAgrees}
use Rattle.channel_examples.specs.Words.{channel_with, one_server, ask_x, accepts, good_reply, journal_of}
use Rattle.channel_examples.proofs.Words.{query}
use Rattle.dns_message.specs.NameText as NameText
use Rattle.dns_message.specs.Reading as Reading

abbrev pub setting : Setting
setting = channel_with (record plain_values { servers = one_server; tries = 5; flags = record plain_flags { usevc = true } })

abbrev pub journal : List Entry
journal = journal_of (
    accepts 1 ask_x
    ∷ Start 1 0 0 1 7 None 0
    ∷ Fault 0 1 0
    ∷ Start 1 0 0 2 8 None 0
    ∷ Fault 0 2 5
    ∷ Fault 3 9 5
    ∷ Start 1 0 0 3 9 None 5
    ∷ Fault 0 3 6
    ∷ Start 1 0 0 4 10 None 6
    ∷ Fault 0 4 6
    ∷ [])

pub is_lawful : first_unlawful setting journal ≡ None
unfolding NameText.units_of Reading.message_read Reading.question_of Reading.record_of Reading.name_of Reading.run_of
is_lawful = refl

abbrev pub log : List WorldCall
log =
    Serve 0 (record { address = V4 3221226037; port = 53 })
    ∷ Now 0 ∷ Receive Nothing ∷ Word 7 ∷ Connect 0 1 NotSent ∷ Word 8 ∷ Connect 0 2 Sent ∷ Word 0 ∷ Write 2 (framed (query 8)) (Count 37)
    ∷ Wait 20 Woken
    ∷ Now 5 ∷ Receive (Piece 1 (framed (good_reply 7))) ∷ Receive (Ended 1) ∷ Receive (Ended 2) ∷ Receive (Ended 2) ∷ Receive (Piece 2 (framed (good_reply 8))) ∷ Close 2
    ∷ Receive (LinkFailed 3 9) ∷ Receive Nothing ∷ Word 9 ∷ Connect 0 3 Sent ∷ Word 0 ∷ Write 3 (framed (query 9)) (Count 37)
    ∷ Wait 25 Woken
    ∷ Now 6 ∷ Receive (LinkFailed 7 3) ∷ Receive (Piece 3 (framed (good_reply 9))) ∷ Close 3 ∷ Receive Nothing ∷ Word 10 ∷ Connect 0 4 Sent ∷ Word 0 ∷ Write 4 (framed (query 10)) NotWritten ∷ Close 4
    ∷ []

-- a link isn't two links
apart : (m n link : ℕ) → (m == n) ≡ false → ((m == link) && (n == link)) ≡ false
apart m n link differ = by_links (m == link) (n == link) refl refl
  where
    by_links : (b c : Bool) → (m == link) ≡ b → (n == link) ≡ c → (b && c) ≡ false
    by_links true true is_m is_n = absurd (cc (differ, eq-eqb m n (eqb-true m link is_m ∙ sym (eqb-true n link is_n))))
    by_links true false is_m is_n = refl
    by_links false c is_m is_n = refl

-- what was written to each link is the beginning of its queries
written_first : (one two three four : Bool) → IsFalse (one && two) → IsFalse (one && three) →
    IsPrefix ((if two then framed (query 8) else []) ++ ((if three then framed (query 9) else []) ++ ((if four then [] else []) ++ [])))
    ((if one then framed (query 7) else []) ++ ((if two then framed (query 8) else []) ++ ((if three then framed (query 9) else []) ++ ((if four then framed (query 10) else []) ++ []))))
written_first true true three four h i = absurd (cc h)
written_first true false true four h i = absurd (cc i)
written_first true false false true h i = (framed (query 7) ++ framed (query 10), refl)
written_first true false false false h i = (framed (query 7), refl)
written_first false true true true h i = (framed (query 10), refl)
written_first false true true false h i = ([], refl)
written_first false true false true h i = (framed (query 10), refl)
written_first false true false false h i = ([], refl)
written_first false false true true h i = (framed (query 10), refl)
written_first false false true false h i = ([], refl)
written_first false false false true h i = (framed (query 10), refl)
written_first false false false false h i = ([], refl)

pub agrees : TrafficAgrees setting 0 journal log
unfolding NameText.units_of Reading.message_read Reading.question_of Reading.record_of Reading.name_of Reading.run_of
agrees = record {
  arrivals = refl;
  sends = refl;
  links = refl;
  writes = λ link. written_first (1 == link) (2 == link) (3 == link) (4 == link) (apart 1 2 link refl) (apart 1 3 link refl);
  faults_are = refl;
  in_order = refl;
}
