-- The held links of a log: each from a connect that was sent until the link's end, its failure or its close.
use Rattle.std.specs.Prelude.{List, Option, [], filter, find, if◌then◌else◌, map, not, ℕ, ◌++◌, ◌==◌, ◌∷◌}
use Rattle.net_world.specs.declared.answers.Got.{Got}
use Rattle.net_world.specs.declared.answers.Got.TheVariants.{Datagram, Ended, Failed as LinkFailed, Nothing, Piece}
use Rattle.net_world.specs.declared.answers.Sent.{Sent}
use Rattle.net_world.specs.declared.answers.Sent.TheVariants.{Failed as NotSent, Sent as WasSent}
use Rattle.net_world.specs.declared.answers.Wrote.{Wrote}
use Rattle.net_world.specs.declared.answers.Wrote.TheVariants.{Count, Failed as NotWritten}
use Rattle.net_world.specs.declared.log.WorldCall.{WorldCall}
use Rattle.net_world.specs.declared.log.WorldCall.TheVariants.{Close, Connect, Now, Receive, Send, Serve, Wait, Word, Write}
use Rattle.channel_model.specs.Frames.{left_in}

-- a held link, the server that it was connected to, and the bytes that came on it and are no whole frame yet
pub record Link : Type 0 where
  pub number : ℕ
  pub server : ℕ
  pub unread : List ℕ

-- the link with this number, if it is held
abbrev pub held_link : ℕ → List Link → Option Link
held_link number held = find (λ link. link.number == number) held

-- the links without the one with this number
abbrev pub without_link : ℕ → List Link → List Link
without_link number held = filter (λ link. not (link.number == number)) held

-- the link, behind bytes that came on the link with this number
abbrev pub with_bytes : ℕ → List ℕ → Link → Link
with_bytes number bytes link = if link.number == number then record link { unread = left_in link.unread bytes } else link

-- the held links behind a connect: one more, where it was sent
abbrev pub held_by_connect : List Link → ℕ → ℕ → Sent → List Link
held_by_connect held server number WasSent = held ++ record { number = number; server = server; unread = [] } ∷ []
held_by_connect held server number NotSent = held

-- the held links behind a write: without its link, where it failed
abbrev pub held_by_write : List Link → ℕ → Wrote → List Link
held_by_write held number (Count count) = held
held_by_write held number NotWritten = without_link number held

-- the held links behind a receive: bytes go to their link, and a link that ended or failed is gone
abbrev pub held_by_receive : List Link → Got → List Link
held_by_receive held (Datagram server bytes) = held
held_by_receive held (Piece number bytes) = map (with_bytes number bytes) held
held_by_receive held (Ended number) = without_link number held
held_by_receive held Nothing = held
held_by_receive held (LinkFailed server number) = without_link number held

-- the held links behind a call
abbrev pub held_by : List Link → WorldCall → List Link
held_by held (Serve server address) = held
held_by held (Now reading) = held
held_by held (Word word) = held
held_by held (Send server bytes outcome) = held
held_by held (Connect server number outcome) = held_by_connect held server number outcome
held_by held (Write number bytes wrote) = held_by_write held number wrote
held_by held (Receive got) = held_by_receive held got
held_by held (Close number) = without_link number held
held_by held (Wait until outcome) = held

-- the held links behind these calls
abbrev pub held_after : List Link → List WorldCall → List Link
held_after held [] = held
held_after held (call ∷ calls) = held_after (held_by held call) calls

-- what the calls tell, one after the other, where each is read with the links that are held before it
abbrev pub told : {A : Type 0} → (List Link → WorldCall → List A) → List Link → List WorldCall → List A
told tells held [] = []
told tells held (call ∷ calls) = tells held call ++ told tells (held_by held call) calls
