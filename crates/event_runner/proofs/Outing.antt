-- An attempt that is begun: the words that were drawn for it, its Start, and the query that goes out.
use Rattle.event_runner.proofs.Base.{ℕ, AreOthers, Entry, List, Ok, Option, Past, Row, ServerAddr, Setting, Standing, Started, Starts, What}
use Rattle.event_runner.proofs.SoundLemmas.{AreIdle, Sound}

-- as one thing
pub record Outing : Type 0 where
  pub reading : ℕ
  pub word : ℕ
  pub bits : ℕ
  pub number : ℕ
  pub leg : ℕ
  pub server : ℕ
  pub address : ServerAddr
  pub link : ℕ
  pub id : ℕ
  pub message : List ℕ

-- what the desk's call means by which it is begun
abbrev pub means : Outing → Setting → Past → Option What → Type 0
means o = Starts o.word o.bits o.reading (Ok (Started o.number o.leg o.server o.address o.link o.id o.message))

-- entries of others that were made behind a standing, and begin no attempt, where the runner's rows and servers are right at that standing
pub record Since (setting : Setting) (seat : ℕ) (rows : List Row) (keys : List ℕ) : Type 0 where
  pub os : List Entry
  pub others : AreOthers seat os
  pub idle : AreIdle os
  pub from : Standing
  pub sound : Sound setting rows keys from

-- an outing, made of its parts
abbrev pub outing : ℕ → ℕ → ℕ → ℕ → ℕ → ℕ → ServerAddr → ℕ → ℕ → List ℕ → Outing
outing reading word bits number leg server address link id message = record {
  reading = reading;
  word = word;
  bits = bits;
  number = number;
  leg = leg;
  server = server;
  address = address;
  link = link;
  id = id;
  message = message;
}
