-- The statuses of a request: their codes and names in c-ares (ares.h). And the numbers of refusals, which are our own.
use Rattle.std.specs.Prelude.{ℕ, List, codes}
use Rattle.chan_types.specs.declared.refusal.Refusal.{Refusal}
use Rattle.chan_types.specs.declared.refusal.Refusal.TheVariants.{Closed, NoMemory}
use Rattle.chan_types.specs.declared.status.Status.{Status}
use Rattle.chan_types.specs.declared.status.Status.TheVariants.{Success, NoData, FormErr, ServFail, NotFound, NotImp, Refused, BadName, BadResp, ConnRefused, TimedOut, Destruction, Cancelled}

-- the number that c-ares gives a status
abbrev pub code_of : Status → ℕ
code_of Success = 0
code_of NoData = 1
code_of FormErr = 2
code_of ServFail = 3
code_of NotFound = 4
code_of NotImp = 5
code_of Refused = 6
code_of BadName = 8
code_of BadResp = 10
code_of ConnRefused = 11
code_of TimedOut = 12
code_of Destruction = 16
code_of Cancelled = 24

-- the name that c-ares gives a status, without its prefix
abbrev pub text_of : Status → List ℕ
text_of Success = codes "SUCCESS"
text_of NoData = codes "ENODATA"
text_of FormErr = codes "EFORMERR"
text_of ServFail = codes "ESERVFAIL"
text_of NotFound = codes "ENOTFOUND"
text_of NotImp = codes "ENOTIMP"
text_of Refused = codes "EREFUSED"
text_of BadName = codes "EBADNAME"
text_of BadResp = codes "EBADRESP"
text_of ConnRefused = codes "ECONNREFUSED"
text_of TimedOut = codes "ETIMEOUT"
text_of Destruction = codes "EDESTRUCTION"
text_of Cancelled = codes "ECANCELLED"

-- the number of a refusal: 1 where the channel was destroyed, 2 for want of memory
abbrev pub refusal_number : Refusal → ℕ
refusal_number Closed = 1
refusal_number NoMemory = 2
