-- A run that was cut short by want of memory: what journal and log may lack of one another at its end.
-- Something came that couldn't be noted any more, or a Start was noted whose query couldn't be sent any more; nothing else.
use Rattle.std.specs.Prelude.{Bool, IsTrue, List, [], false, true, ℕ, ◌++◌, ◌∷◌, ◌≡◌, ◌⊎◌}
use mathlib.Core.List.{IsPrefix}
use Rattle.chan_types.specs.declared.journal.Entry.{Entry}
use Rattle.net_world.specs.declared.log.WorldCall.{WorldCall}
use Rattle.channel_model.specs.Links.{Link, told}
use Rattle.channel_model.specs.Setting.{Setting}
use Rattle.channel_model.specs.Stretch.{Standing}
use Rattle.channel_model.specs.Traffic.{Notice, arrived, asked, connects, datagrams, faulted, faults, messages, noted, noticed, notices, of_datagram, of_fault, of_link, of_message, opened, queued, written}

-- the journal notes one thing more than the calls tell
pub record HasOneMore {A : Type 0} (notes tells : List A) : Type 0 where
  pub last : A
  pub is_behind : notes ≡ tells ++ last ∷ []

-- the journal stops within what the last call tells, as before the second message of a piece
pub record StopsShort {A : Type 0} (tells : List Link → WorldCall → List A) (held : List Link) (calls : List WorldCall) (notes : List A) : Type 0 where
  pub earlier : List WorldCall
  pub last : WorldCall
  pub calls_are : calls ≡ earlier ++ last ∷ []
  pub reached : IsPrefix (told tells held earlier) notes
  pub not_passed : IsPrefix notes (told tells held calls)

-- what is noted is what the calls tell, or it stops short of it
-- something came or failed, and want of memory came before the Arrive or the Fault
abbrev pub FallsShort : {A : Type 0} → (List Link → WorldCall → List A) → List Link → List WorldCall → List A → Type 0
FallsShort tells held calls notes = (notes ≡ told tells held calls) ⊎ StopsShort tells held calls notes

-- what is noted is what the calls tell, or one thing more
-- a Start was made, and want of memory came before the call that it asks for
abbrev pub MayLackOne : {A : Type 0} → (List Link → WorldCall → List A) → List Link → List WorldCall → List A → Type 0
MayLackOne tells held calls notes = (notes ≡ told tells held calls) ⊎ HasOneMore notes (told tells held calls)

-- the notice is what a Start asks for: its datagram or its new link
abbrev pub is_asked_for : Notice → Bool
is_asked_for (of_message parcel) = false
is_asked_for (of_datagram parcel) = true
is_asked_for (of_link route) = true
is_asked_for (of_fault route) = false

-- what is noted in order is what the calls tell, or it stops short of it, or it is the datagram or the link of a Start more
abbrev pub NearlyInOrder : List Link → List WorldCall → List Notice → Type 0
NearlyInOrder held calls notes =
    FallsShort notices held calls notes ⊎ ((more : HasOneMore notes (told notices held calls)) × IsTrue (is_asked_for more.last))

-- from a standing on, what the seat's entries note is what the calls tell, but for what want of memory cut off at the end
pub record NearlyAgrees (setting : Setting) (seat : ℕ) (old : Standing) (entries : List Entry) (calls : List WorldCall) : Type 0 where
  -- a message that came may not be noted, or the later ones of its piece; none is noted that didn't come
  pub arrivals : FallsShort messages old.held calls (noted seat arrived old.past entries)
  -- the datagram of the last Start may not be sent, or its link not be connected; none was sent or connected without a Start
  pub sends : MayLackOne datagrams old.held calls (noted seat (asked setting) old.past entries)
  pub links : MayLackOne connects old.held calls (noted seat opened old.past entries)
  -- the framed query of the last Start may not be written
  pub writes : (link : ℕ) → IsPrefix (told (written link) old.held calls) (old.unwritten link ++ noted seat (queued setting link) old.past entries)
  -- an end or a failure may not be noted; none is noted that didn't happen
  pub faults_are : FallsShort faults old.held calls (noted seat faulted old.past entries)
  -- messages, datagrams, links and faults in the order in which they came: they are amiss only at their end
  pub in_order : NearlyInOrder old.held calls (noted seat (noticed setting) old.past entries)
