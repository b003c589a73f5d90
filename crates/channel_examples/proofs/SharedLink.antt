-- Two requests share a TCP link, which ends: one connect, one Fault, and then another link.
use Rattle.std.proofs.Common.{◌==◌, if◌then◌else◌, List, [], ◌∷◌, ◌++◌, Bool, true, false, refl}
use mathlib.Core.List.{IsPrefix}
use Rattle.net_addr.specs.declared.addr.Addr.TheVariants.{V4}
use Rattle.net_world.specs.declared.answers.Sent.TheVariants.{Sent}
use Rattle.net_world.specs.declared.answers.Wrote.TheVariants.{Count}
use Rattle.net_world.specs.declared.answers.Got.TheVariants.{Ended, Nothing, Piece}
use Rattle.net_world.specs.declared.answers.Waited.TheVariants.{Woken}
use Rattle.net_world.specs.declared.log.WorldCall.{WorldCall}
use Rattle.net_world.specs.declared.log.WorldCall.TheVariants.{Serve, Now, Word, Connect, Write, Receive, Close, Wait}
use Rattle.channel_model.specs.Frames.{framed}
use Rattle.channel_model.specs.Traffic.{TrafficAgrees}
use Rattle.channel_examples.specs.SharedLink.{setting, journal}
use Rattle.channel_examples.proofs.Words.{query}
use Rattle.dns_message.specs.NameText as NameText
use Rattle.dns_message.specs.Reading as Reading

-- the second end of the link and a piece of it are passed over, since it isn't held any more; of the last query the World takes three bytes
abbrev log : List WorldCall
log =
    Serve 0 (record { address = V4 3221226037; port = 53 })
    ∷ Now 0 ∷ Receive Nothing ∷ Word 7 ∷ Connect 0 1 Sent ∷ Word 8 ∷ Word 0 ∷ Write 1 (framed (query 7) ++ framed (query 8)) (Count 74)
    ∷ Wait 20 Woken
    ∷ Now 5 ∷ Receive (Ended 1) ∷ Close 1 ∷ Receive (Ended 1) ∷ Receive (Piece 1 (0 ∷ 1 ∷ 9 ∷ [])) ∷ Receive Nothing ∷ Word 9 ∷ Connect 0 2 Sent ∷ Word 10 ∷ Word 0
    ∷ Write 2 (framed (query 9) ++ framed (query 10)) (Count 40) ∷ Write 2 (37 ∷ []) (Count 0)
    ∷ []

-- what was written to each link is the beginning of its queries
written_first : (one two : Bool) →
    IsPrefix ((if one then framed (query 7) ++ framed (query 8) else []) ++ ((if two then framed (query 9) ++ (0 ∷ 35 ∷ 0 ∷ []) else []) ++ ((if two then [] else []) ++ [])))
    ((if one then framed (query 7) else []) ++ ((if one then framed (query 8) else []) ++ ((if two then framed (query 9) else []) ++ ((if two then framed (query 10) else []) ++ []))))
written_first true true = (10 ∷ 1 ∷ 0 ∷ 0 ∷ 1 ∷ 0 ∷ 0 ∷ 0 ∷ 0 ∷ 0 ∷ 1 ∷ 1 ∷ 120 ∷ 4 ∷ 116 ∷ 101 ∷ 115 ∷ 116 ∷ 0 ∷ 0 ∷ 1 ∷ 0 ∷ 1 ∷ 0 ∷ 0 ∷ 41 ∷ 4 ∷ 208 ∷ 0 ∷ 0 ∷ 0 ∷ 0 ∷ 0 ∷ 0 ∷ [], refl)
written_first true false = ([], refl)
written_first false true = (10 ∷ 1 ∷ 0 ∷ 0 ∷ 1 ∷ 0 ∷ 0 ∷ 0 ∷ 0 ∷ 0 ∷ 1 ∷ 1 ∷ 120 ∷ 4 ∷ 116 ∷ 101 ∷ 115 ∷ 116 ∷ 0 ∷ 0 ∷ 1 ∷ 0 ∷ 1 ∷ 0 ∷ 0 ∷ 41 ∷ 4 ∷ 208 ∷ 0 ∷ 0 ∷ 0 ∷ 0 ∷ 0 ∷ 0 ∷ [], refl)
written_first false false = ([], refl)

pub agrees : TrafficAgrees setting 0 journal log
unfolding NameText.units_of Reading.message_read Reading.question_of Reading.record_of Reading.name_of Reading.run_of
agrees = record { arrivals = refl; sends = refl; links = refl; writes = λ link. written_first (1 == link) (2 == link); faults_are = refl; in_order = refl }
