-- The name that the data of an alias says (RFC 1035, section 3.3.1).
use Rattle.std.specs.Prelude.{ℕ, List, Option, Some, None}
use Rattle.dns_rdata.specs.declared.data.RecordData.{RecordData}
use Rattle.dns_rdata.specs.declared.data.RecordData.TheVariants.{A, Ns, Cname, Soa, Ptr, Hinfo, Mx, Txt, Aaaa, Srv, Opt, Raw}

-- the canonical name of an alias; other data have none
abbrev pub canonical_of : RecordData → Option (List (List ℕ))
canonical_of (A address) = None
canonical_of (Ns name) = None
canonical_of (Cname name) = Some name
canonical_of (Soa mname rname serial refresh retry expire minimum) = None
canonical_of (Ptr name) = None
canonical_of (Hinfo cpu os) = None
canonical_of (Mx preference exchange) = None
canonical_of (Txt strings) = None
canonical_of (Aaaa address) = None
canonical_of (Srv priority weight port target) = None
canonical_of (Opt bytes) = None
canonical_of (Raw bytes) = None
