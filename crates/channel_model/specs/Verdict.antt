-- What a matching reply means for its leg: the first of four rules that fits. They are this project's profile, in the manner of c-ares.
use Rattle.std.specs.List.{list_any}
use Rattle.std.specs.Prelude.{ℕ, if◌then◌else◌, ◌==◌, Bool, ◌||◌, ◌&&◌, List, [], false, ◌∷◌, true, Option, None, Some, not, is_none}
use Rattle.chan_types.specs.declared.status.Status.{Status}
use Rattle.chan_types.specs.declared.status.Status.TheVariants.{FormErr, ServFail, NotFound, NotImp, Refused, BadResp, Success, NoData}
use Rattle.dns_message.specs.declared.message.Record.{Record}
use Rattle.edns_opt.specs.Opt.{rcode_of}
use Rattle.resolv_options.specs.declared.flags.Flags.{Flags}
use Rattle.dns_message.specs.Numbers.{class_in, is_truncated, header_rcode}
use Rattle.channel_model.specs.Replies.{Reply}
use Rattle.channel_model.specs.declared.judged.Judged.{Judged}
use Rattle.channel_model.specs.declared.judged.Judged.TheVariants.{NextTcp, NextPlain, Failed, Final}

-- the status of a response code other than 0 (RFC 1035, section 4.1.1)
abbrev pub status_of_rcode : ℕ → Status
status_of_rcode code =
    if code == 1 then FormErr else
    if code == 2 then ServFail else
    if code == 3 then NotFound else
    if code == 4 then NotImp else
    if code == 5 then Refused else BadResp

-- the server didn't answer the question: SERVFAIL, NOTIMP or REFUSED
abbrev pub is_refusal : ℕ → Bool
is_refusal code = (code == 2) || (code == 4) || (code == 5)

-- the record is of this kind, in the Internet class
abbrev pub is_of_kind : ℕ → Record → Bool
is_of_kind kind rr = (rr.kind == kind) && (rr.class == class_in)

-- the list has an item
abbrev pub has_item : {A : Type 0} → List A → Bool
has_item [] = false
has_item (x ∷ xs) = true

-- there is an answer of the wanted kind, or any answer where no kind is wanted
abbrev pub has_answer : Option ℕ → List Record → Bool
has_answer None records = has_item records
has_answer (Some kind) records = list_any (is_of_kind kind) records

-- what a matching reply means, where these are the channel's flags, the query went over TCP or didn't, had an OPT record or hadn't, and wanted this kind:
-- truncated over UDP it is asked over TCP; refused for its OPT record it is asked without; a server that didn't answer has failed; anything else ends the leg
abbrev pub verdict_of : Flags → Bool → Bool → Option ℕ → Reply → Judged
verdict_of flags over_tcp had_opt kind reply =
    let code = rcode_of reply.message reply.opt in
    if is_truncated reply.message && not over_tcp && not flags.igntc then NextTcp else
    if (header_rcode reply.message == 1) && is_none reply.opt && had_opt then NextPlain else
    if is_refusal code && not flags.nocheckresp then Failed (status_of_rcode code) else
    if code == 0 then Final (if has_answer kind reply.message.answers then Success else NoData) else
    Final (status_of_rcode code)
