-- What the rules of judging come to: what is handed on has a reason, and a query is sent again once at most.
use Rattle.std.proofs.Common.{◌≡◌, ◌≢◌, ℕ, Bool, true, false, cond, ◌&&◌, eqb, List, ◌++◌, drop, length, Option, Some, None, refl}
use Rattle.std.specs.List.{starts_with}
use Rattle.std.proofs.lemmas.Bool.{and_parts, eqb-true}
use Rattle.std.proofs.lemmas.Bool.Decides.{Decides-eqb}
use Rattle.std.proofs.lemmas.Slice.Eq.{starts_is}
use Rattle.dns_cookie.specs.Judging.{has_length, is_ours, judged_own, judged_cookie, judged_reply, CarriesClient, MayReach, AreRules}
use Rattle.dns_cookie.specs.declared.judging.Judgement.{Judgement}
use Rattle.dns_cookie.specs.declared.judging.Judgement.TheVariants.{HandOn, Discard, Learn, Repeat}
use Rattle.dns_cookie.specs.declared.judging.Way.{Way}
use Rattle.dns_cookie.specs.declared.judging.Way.TheVariants.{Never, Plain, Cookied, Repeated}
use Rattle.dns_cookie.specs.declared.reply.CookieReply.{CookieReply}

-- what begins with the client cookie is that and a rest
begins : (client cookie : List ℕ) → is_ours client cookie ≡ true → cookie ≡ client ++ drop (length client) cookie
begins client cookie ours = (starts_is Decides-eqb cookie client _ refl).0 (and_parts (has_length (length cookie)) (starts_with eqb cookie client) ours).1

-- a cookie that isn't dropped is ours
ours_carries : (client cookie : List ℕ) (other : Judgement) (ours : Bool) → is_ours client cookie ≡ ours → cond ours other Discard ≢ Discard → CarriesClient client true (Some cookie)
ours_carries client cookie other true is kept = (drop (length client) cookie, begins client cookie is)
ours_carries client cookie other false is kept = absurd (kept refl)

-- a reply without a cookie isn't dropped where no server cookie is known
unknown : (known : Bool) → cond known Discard HandOn ≢ Discard → known ≡ false
unknown true kept = absurd (kept refl)
unknown false kept = refl

-- what isn't dropped carries the client cookie, or no server cookie is known
carries : (may : Bool) (client : List ℕ) (known : Bool) (rcode : ℕ) (cookie : Option (List ℕ)) → judged_cookie may client known rcode cookie ≢ Discard → CarriesClient client known cookie
carries may client known rcode None kept = unknown known kept
carries may client known rcode (Some cookie) kept = ours_carries client cookie (judged_own may rcode cookie) (is_ours client cookie) refl kept

-- what isn't dropped may reach the caller
pub reaches : (way : Way) (client : List ℕ) (known : Bool) (reply : CookieReply) → judged_reply way client known reply ≢ Discard → MayReach way client known reply
reaches Never client known reply kept = tt
reaches Plain client known reply kept = tt
reaches Cookied client known reply kept = carries true client known reply.rcode reply.cookie kept
reaches Repeated client known reply kept = carries false client known reply.rcode reply.cookie kept

-- a cookie of ours is repeated where that is asked and may be
own_asks : (eight both : Bool) → cond eight HandOn (cond both Repeat Learn) ≡ Repeat → both ≡ true
own_asks true both is = absurd cc
own_asks false true is = refl
own_asks false false is = absurd cc

none_asks : (known : Bool) → cond known Discard HandOn ≡ Repeat → false ≡ true
none_asks true is = absurd cc
none_asks false is = absurd cc

ours_asks : (ours eight both : Bool) → cond ours (cond eight HandOn (cond both Repeat Learn)) Discard ≡ Repeat → both ≡ true
ours_asks true eight both is = own_asks eight both is
ours_asks false eight both is = absurd cc

-- a query is sent again where the reply asks so, and where it may be
asks : (may : Bool) (client : List ℕ) (known : Bool) (rcode : ℕ) (cookie : Option (List ℕ)) → judged_cookie may client known rcode cookie ≡ Repeat → (rcode ≡ 23) × (may ≡ true)
asks may client known rcode None is = let no : false ≡ true = none_asks known is in absurd cc
asks may client known rcode (Some cookie) is =
    let both = and_parts (eqb rcode 23) may (ours_asks (is_ours client cookie) (eqb (length cookie) 8) (eqb rcode 23 && may) is) in
    (eqb-true rcode 23 both.0, both.1)

-- the rules mean what they are to mean
pub are_rules : (way : Way) (client : List ℕ) (known : Bool) (reply : CookieReply) → AreRules way client known reply
are_rules Never client known reply = record { not_dropped = reaches Never client known reply; once = λ is. absurd cc; asked = λ is. absurd cc }
are_rules Plain client known reply = record { not_dropped = reaches Plain client known reply; once = λ is. absurd cc; asked = λ is. absurd cc }
are_rules Cookied client known reply = record {
  not_dropped = reaches Cookied client known reply;
  once = λ is. refl;
  asked = λ is. (asks true client known reply.rcode reply.cookie is).0;
}
are_rules Repeated client known reply = record {
  not_dropped = reaches Repeated client known reply;
  once = λ is. let no : false ≡ true = (asks false client known reply.rcode reply.cookie is).1 in absurd cc;
  asked = λ is. (asks false client known reply.rcode reply.cookie is).0;
}
