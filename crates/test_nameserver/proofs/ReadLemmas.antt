-- The one file that a run of the server's program reads, by how it ends.
use Rattle.std.proofs.Common.{List, ap, inl, inr, ℕ, ◌∙◌, ◌≡◌}
use Rattle.std.specs.Prelude.{Err, Ok, Option, Result}
use Rattle.net_world.specs.declared.put_call.PutCall.{PutCall}
use Rattle.net_world.specs.declared.read_call.ReadCall.{ReadCall}
use Rattle.test_nameserver.specs.Ending.{number_of}
use Rattle.test_nameserver.specs.Output.{PutsTextOf, text_for}
use Rattle.test_nameserver.specs.Reading.{ReadsOnce, ReadsZoneFile}
use Rattle.test_nameserver.specs.declared.ending.End.{End}
use Rattle.test_nameserver.specs.declared.ending.End.TheVariants.{NoMemory}

-- behind a zone the file was read
pub read_served : {T : Type 0} (path : List ℕ) (zone : T) (status : ℕ) (old new : Option (List ReadCall)) → ReadsZoneFile path (Ok zone) old new → ReadsOnce path status old new
read_served path zone status old new (inl read) = inl read
read_served path zone status old new (inr none) = let is = none.0 in absurd (cc)

-- without one it was read too, or memory was wanting
pub read_ended : {T : Type 0} (path : List ℕ) (end : End) (old new : Option (List ReadCall)) → ReadsZoneFile {T = T} path (Err end) old new → ReadsOnce path (number_of end) old new
read_ended path end old new (inl read) = inl read
read_ended {T = T} path end old new (inr none) = inr (ap number none.0, none.1) where
  number : Result T End → ℕ
  number (Ok zone) = 0
  number (Err e) = number_of e

-- and the exit status tells so
pub read_told : (path : List ℕ) (end : End) (status : ℕ) (old new : Option (List ReadCall)) (before after : Option (List PutCall)) →
    PutsTextOf (number_of end) status before after → ReadsOnce path (number_of end) old new → ReadsOnce path status old new
read_told path end status old new before after puts (inl read) = inl read
read_told path end status old new before after (inl none) (inr wanting) = inr (none.1 ∙ wanting.0, wanting.1)
read_told path end status old new before after (inr some) (inr wanting) = absurd (some.0 (ap text_for wanting.0))
