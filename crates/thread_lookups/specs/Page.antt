-- The text of what is left of a channel.
use Rattle.std.specs.Prelude.{List, None, Option, Some, [], if◌then◌else◌, unwrap_or, ℕ, ◌==◌, ◌∷◌}
use Rattle.chan_types.specs.declared.answer.Answer.{Answer}
use Rattle.chan_types.specs.declared.journal.Entry.{Entry}
use Rattle.chan_types.specs.declared.journal.What.{What}
use Rattle.chan_types.specs.declared.journal.What.TheVariants.{Accept, Arrive, Cancel, Destroy, Expire, Fault, Servers, Start, Take}
use Rattle.chan_types.specs.declared.spec.Spec.{Spec}
use Rattle.chan_types.specs.declared.spec.Spec.TheVariants.{Address, Query, Reverse, Search}
use Rattle.host_lookups.specs.Page.{line_of}

-- the host whose addresses a request asks
abbrev pub host_of : Spec → Option (List ℕ)
host_of (Query name kind class) = None
host_of (Search name kind class) = None
host_of (Address host family nosort) = Some host
host_of (Reverse address) = None

-- the host for whose addresses the request with this number asks, if the event accepts it
abbrev pub host_by : ℕ → What → Option (List ℕ)
host_by wanted (Accept number spec script) = if number == wanted then host_of spec else None
host_by wanted Cancel = None
host_by wanted Destroy = None
host_by wanted (Take number) = None
host_by wanted (Start number leg server link id mix moment) = None
host_by wanted (Arrive server link bytes) = None
host_by wanted (Expire number leg moment) = None
host_by wanted (Fault server link moment) = None
host_by wanted (Servers list) = None

-- the host for whose addresses the request with this number asked, or a plus sign
abbrev pub host_asked : ℕ → List Entry → List ℕ
host_asked wanted [] = 43 ∷ []
host_asked wanted (entry ∷ entries) = unwrap_or (host_by wanted entry.what) (host_asked wanted entries)

-- an answer on a line, by the journal of its channel
abbrev pub line_in : List Entry → Answer → List ℕ
line_in journal answer = line_of (host_asked answer.number journal) answer
