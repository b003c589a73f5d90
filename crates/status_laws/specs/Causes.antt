-- What has to stand in a journal's past where a request has an answer with a status.
use Rattle.std.specs.Prelude.{Bool, List, [], false, true, ℕ, ◌≡◌, ◌⊎◌, None, Some}
use Rattle.chan_types.specs.declared.answer.Answer.{Answer}
use Rattle.chan_types.specs.declared.journal.What.{What}
use Rattle.chan_types.specs.declared.journal.What.TheVariants.{Accept, Arrive, Cancel, Destroy, Expire, Fault}
use Rattle.chan_types.specs.declared.script.Script.{Script}
use Rattle.chan_types.specs.declared.spec.Spec.{Spec}
use Rattle.chan_types.specs.declared.spec.Spec.TheVariants.{Address, Query, Reverse, Search}
use Rattle.chan_types.specs.declared.status.Status.{Status}
use Rattle.chan_types.specs.declared.status.Status.TheVariants.{BadName, BadResp, Cancelled, ConnRefused, Destruction, FormErr, NoData, NotFound, NotImp, Refused, ServFail, Success, TimedOut}
use Rattle.net_addr.specs.declared.addr.Family.{Family}
use Rattle.channel_model.specs.AtOnce.{at_once}
use Rattle.channel_model.specs.Completion.{fate}
use Rattle.channel_model.specs.Journal.{Past}
use Rattle.channel_model.specs.LegEnd.{LegEnd}
use Rattle.channel_model.specs.Legs.{leg_of}
use Rattle.channel_model.specs.Merge.{bare}
use Rattle.channel_model.specs.Setting.{Setting}
use Rattle.status_laws.specs.Positions.{Completes, Ends, IsPending, StandsAt}

-- an ended leg, by its status and the reply that ended it
abbrev pub end_with : Status → List ℕ → LegEnd
end_with status reply = record { status = status; reply = reply }

-- a request asks one question at a time: each of its candidates has one leg, since it isn't for the addresses of both families
abbrev pub has_lone_legs : Spec → Bool
has_lone_legs (Query name kind class) = true
has_lone_legs (Search name kind class) = true
has_lone_legs (Address host Family.Any nosort) = false
has_lone_legs (Address host Family.V4 nosort) = true
has_lone_legs (Address host Family.V6 nosort) = true
has_lone_legs (Reverse address) = true

module _ (setting : Setting) (request : ℕ) where
  -- the entry ends a leg of the request, this one and so, while the request is pending
  pub record EndsLeg (number : ℕ) (end : LegEnd) (what : What) (before past : Past) : Type 0 where
    pub stands : StandsAt what before past
    pub pends : IsPending setting request before
    pub ends : Ends setting (leg_of request number) end what before

  -- an Expire of one of its legs ended that leg
  abbrev pub HasExpired : Past → Type 0
  HasExpired past = (number moment : ℕ) × (before : Past) × EndsLeg number (end_with TimedOut []) (Expire request number moment) before past

  -- a Fault of the link over which one of its legs was in flight ended that leg
  abbrev pub HasLostItsLink : Past → Type 0
  HasLostItsLink past = (number server link moment : ℕ) × (before : Past) × EndsLeg number (end_with ConnRefused []) (Fault server link moment) before past

  -- a message that answers one of its legs ended that leg with this status
  abbrev pub HasReply : Status → Past → Type 0
  HasReply status past = (number server link : ℕ) × (bytes : List ℕ) × (before : Past)
      × EndsLeg number (end_with status bytes) (Arrive server link bytes) before past

  -- the answer came at its Accept, without a query
  pub record CameAtOnce (answer : Answer) (past : Past) : Type 0 where
    pub spec : Spec
    pub script : Script
    pub before : Past
    pub stands : StandsAt (Accept request spec script) before past
    pub open' : fate setting request before ≡ None
    pub known : at_once setting request spec ≡ Some answer

  -- this entry came while the request was pending, and completed it with its bare status
  pub record CameBy (what : What) (answer : Answer) (past : Past) : Type 0 where
    pub before : Past
    pub stands : StandsAt what before past
    pub pends : IsPending setting request before
    pub completes : Completes setting request answer what before
    pub bare_status : answer ≡ bare request answer.status []

  -- the cause that an answer with this status has
  abbrev pub CauseOf : Status → Answer → Past → Type 0
  CauseOf Success answer past = CameAtOnce answer past ⊎ HasReply Success past
  CauseOf NoData answer past = CameAtOnce answer past ⊎ HasReply NoData past
  CauseOf FormErr answer past = HasReply FormErr past
  CauseOf ServFail answer past = HasReply ServFail past
  CauseOf NotFound answer past = CameAtOnce answer past ⊎ HasReply NotFound past
  CauseOf NotImp answer past = HasReply NotImp past
  CauseOf Refused answer past = HasReply Refused past
  CauseOf BadName answer past = CameAtOnce answer past
  CauseOf BadResp answer past = HasReply BadResp past
  CauseOf ConnRefused answer past = HasLostItsLink past
  CauseOf TimedOut answer past = HasExpired past
  CauseOf Destruction answer past = CameBy Destroy answer past
  CauseOf Cancelled answer past = CameBy Cancel answer past

  -- the cause of an answer, by its status
  abbrev pub HasCause : Answer → Past → Type 0
  HasCause answer past = CauseOf answer.status answer past
