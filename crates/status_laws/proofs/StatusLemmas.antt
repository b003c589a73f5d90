-- Which statuses a reply can bring, and which an Accept.
use Rattle.std.proofs.Common.{ap, eqb-true, subst, sym, ◌∙◌}
use Rattle.std.specs.Prelude.{Bool, IfSome, IsTrue, None, Option, Some, [], codes, cond, false, is_none, not, option_map, refl, true, ℕ, ◌&&◌, ◌==◌, ◌∷◌, ◌≡◌}
use Rattle.std.specs.Option.{option_or}
use Rattle.chan_types.specs.Statuses.{code_of}
use Rattle.chan_types.specs.declared.answer.Answer.{Answer}
use Rattle.chan_types.specs.declared.spec.Spec.{Spec}
use Rattle.chan_types.specs.declared.spec.Spec.TheVariants.{Address, Query, Reverse, Search}
use Rattle.chan_types.specs.declared.status.Status.{Status}
use Rattle.chan_types.specs.declared.status.Status.TheVariants.{BadName, BadResp, Cancelled, ConnRefused, Destruction, FormErr, NoData, NotFound, NotImp, Refused, ServFail, Success, TimedOut}
use Rattle.dns_message.specs.Name.{last_is}
use Rattle.dns_message.specs.Numbers.{header_rcode, is_truncated}
use Rattle.dns_message.specs.declared.name.NameText.{NameText}
use Rattle.edns_opt.specs.Opt.{rcode_of}
use Rattle.net_addr.specs.Mapped.{allows}
use Rattle.net_addr.specs.Reading.{address_of}
use Rattle.net_addr.specs.declared.addr.Addr.{Addr}
use Rattle.net_addr.specs.declared.addr.Family.{Family}
use Rattle.resolv_options.specs.declared.flags.Flags.{Flags}
use Rattle.channel_model.specs.AtOnce.{asks_servers, at_once, known_host, listed, listed_name, literal, loopbacks, unless_asked}
use Rattle.channel_model.specs.Merge.{bare, found, same_status}
use Rattle.channel_model.specs.Questions.{name_of_text}
use Rattle.channel_model.specs.Replies.{Reply}
use Rattle.channel_model.specs.Setting.{Setting}
use Rattle.channel_model.specs.Verdict.{has_answer, has_item, is_refusal, status_of_rcode, verdict_of}
use Rattle.channel_model.specs.declared.judged.Judged.{Judged}
use Rattle.channel_model.specs.declared.judged.Judged.TheVariants.{Failed, Final, NextPlain, NextTcp}

-- a reply can bring the status
abbrev pub is_of_reply : Status → Bool
is_of_reply Success = true
is_of_reply NoData = true
is_of_reply FormErr = true
is_of_reply ServFail = true
is_of_reply NotFound = true
is_of_reply NotImp = true
is_of_reply Refused = true
is_of_reply BadName = false
is_of_reply BadResp = true
is_of_reply ConnRefused = false
is_of_reply TimedOut = false
is_of_reply Destruction = false
is_of_reply Cancelled = false

-- an Accept can
abbrev pub is_of_accept : Status → Bool
is_of_accept Success = true
is_of_accept NoData = true
is_of_accept FormErr = false
is_of_accept ServFail = false
is_of_accept NotFound = true
is_of_accept NotImp = false
is_of_accept Refused = false
is_of_accept BadName = true
is_of_accept BadResp = false
is_of_accept ConnRefused = false
is_of_accept TimedOut = false
is_of_accept Destruction = false
is_of_accept Cancelled = false

-- the status with this code
abbrev status_of_code : ℕ → Status
status_of_code code =
    cond (code == 0) Success
    (cond (code == 1) NoData
    (cond (code == 2) FormErr (cond (code == 3) ServFail (cond (code == 4) NotFound (cond (code == 5) NotImp (cond (code == 6) Refused
    (cond (code == 8) BadName
    (cond (code == 10) BadResp (cond (code == 11) ConnRefused (cond (code == 12) TimedOut (cond (code == 16) Destruction Cancelled)))))))))))

-- each status has its own
code_is_own : (status : Status) → status_of_code (code_of status) ≡ status
code_is_own Success = refl
code_is_own NoData = refl
code_is_own FormErr = refl
code_is_own ServFail = refl
code_is_own NotFound = refl
code_is_own NotImp = refl
code_is_own Refused = refl
code_is_own BadName = refl
code_is_own BadResp = refl
code_is_own ConnRefused = refl
code_is_own TimedOut = refl
code_is_own Destruction = refl
code_is_own Cancelled = refl

-- two statuses that the test calls one are one
pub same_status-says : (a b : Status) → same_status a b ≡ true → a ≡ b
same_status-says a b same = sym (code_is_own a) ∙ ap status_of_code (eqb-true (code_of a) (code_of b) same) ∙ code_is_own b

-- a response code brings one that a reply can
rcode_replied : (code : ℕ) → IsTrue (is_of_reply (status_of_rcode code))
rcode_replied code = by_tests (code == 1) (code == 2) (code == 3) (code == 4) (code == 5)
  where
    by_tests : (a b c d e : Bool) → IsTrue (is_of_reply (cond a FormErr (cond b ServFail (cond c NotFound (cond d NotImp (cond e Refused BadResp))))))
    by_tests true b c d e = refl
    by_tests false true c d e = refl
    by_tests false false true d e = refl
    by_tests false false false true e = refl
    by_tests false false false false true = refl
    by_tests false false false false false = refl

-- the status with which a verdict may end a leg
abbrev pub judged_status : Judged → Option Status
judged_status NextTcp = None
judged_status NextPlain = None
judged_status (Failed status) = Some status
judged_status (Final status) = Some status

-- what a reply means ends a leg with a status that a reply can bring
pub verdict_replied : (flags : Flags) (over_tcp had_opt : Bool) (kind : Option ℕ) (reply : Reply)
    → IfSome (judged_status (verdict_of flags over_tcp had_opt kind reply)) (λ status. IsTrue (is_of_reply status))
verdict_replied flags over_tcp had_opt kind reply =
    let code = rcode_of reply.message reply.opt in
    by_tests (status_of_rcode code) (rcode_replied code) (is_truncated reply.message && not over_tcp && not flags.igntc)
    ((header_rcode reply.message == 1) && is_none reply.opt && had_opt)
    (is_refusal code && not flags.nocheckresp) (code == 0) (has_answer kind reply.message.answers)
  where
    by_tests : (status : Status) → IsTrue (is_of_reply status) → (a b c d e : Bool)
        → IfSome (judged_status (cond a NextTcp (cond b NextPlain (cond c (Failed status) (cond d (Final (cond e Success NoData)) (Final status))))))
        (λ s. IsTrue (is_of_reply s))
    by_tests status replied true b c d e = tt
    by_tests status replied false true c d e = tt
    by_tests status replied false false true d e = replied
    by_tests status replied false false false true true = refl
    by_tests status replied false false false true false = refl
    by_tests status replied false false false false e = replied

module _ (setting : Setting) (request : ℕ) where
  -- the answer has the request's number, and a status that an Accept can bring
  abbrev pub Fits : Answer → Type 0
  Fits answer = IsTrue (is_of_accept answer.status) × (answer.number ≡ request)

  -- an answer that is given without the rules fits, and so does one of rules that fit
  unless_asked_fits : (rules : NameText → Option Answer) → ((text : NameText) → IfSome (rules text) Fits) → (o : Option NameText)
      → IfSome (unless_asked request rules o) Fits
  unless_asked_fits rules fit None = (refl, refl)
  unless_asked_fits rules fit (Some text) = by_test (last_is (codes "onion") text.name)
    where
      by_test : (b : Bool) → IfSome (cond b (Some (bare request NotFound [])) (rules text)) Fits
      by_test true = (refl, refl)
      by_test false = fit text

  literal_fits : (family : Family) (address : Addr) → Fits (literal request family address)
  literal_fits family address = by_test (allows family address)
    where
      by_test : (b : Bool) → Fits (cond b (record (bare request Success []) { addresses = address ∷ [] }) (bare request NoData []))
      by_test true = (refl, refl)
      by_test false = (refl, refl)

  known_host_fits : (family : Family) (nosort : Bool) (text : NameText) → IfSome (known_host setting request family nosort text) Fits
  known_host_fits family nosort text =
      by_tests (has_item (listed setting text.name family)) (last_is (codes "localhost") text.name) (asks_servers setting.options.lookups)
    where
      by_tests : (a b c : Bool)
          → IfSome (cond a (Some (found setting request nosort (listed setting text.name family) (listed_name setting text.name family)))
          (cond b (Some (found setting request nosort (loopbacks family) text.name)) (cond c None (Some (bare request NotFound []))))) Fits
      by_tests true b c = (refl, refl)
      by_tests false true c = (refl, refl)
      by_tests false false true = tt
      by_tests false false false = (refl, refl)

  at_once_fits : (spec : Spec) → IfSome (at_once setting request spec) Fits
  at_once_fits (Query text kind class) = unless_asked_fits (λ text. None) (λ text. tt) (name_of_text text)
  at_once_fits (Search text kind class) = unless_asked_fits (λ text. None) (λ text. tt) (name_of_text text)
  at_once_fits (Address host family nosort) = by_address (address_of host)
    where
      by_address : (o : Option Addr)
          → IfSome (option_or (option_map (literal request family) o)
          (unless_asked request (known_host setting request family nosort) (name_of_text host))) Fits
      by_address None = unless_asked_fits (known_host setting request family nosort) (known_host_fits family nosort) (name_of_text host)
      by_address (Some address) = literal_fits family address
  at_once_fits (Reverse address) = tt

  -- an answer at once fits
  pub at_once_says : (spec : Spec) (answer : Answer) → at_once setting request spec ≡ Some answer → Fits answer
  at_once_says spec answer e = subst (λ (o : Option Answer). IfSome o Fits) e (at_once_fits spec)
