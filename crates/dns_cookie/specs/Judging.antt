-- The rules of judging a datagram by its cookie (our own, in the manner of RFC 7873, section 5.3). The first that fits decides.
use Rattle.std.specs.Prelude.{◌≡◌, ◌≢◌, ◌||◌, ◌&&◌, ℕ, nat_le, ◌==◌, if◌then◌else◌, Bool, true, false, List, ◌++◌, length, Option, Some, None, ⊤}
use Rattle.std.specs.List.{starts_with}
use Rattle.dns_cookie.specs.declared.judging.Judgement.{Judgement}
use Rattle.dns_cookie.specs.declared.judging.Judgement.TheVariants.{HandOn, Discard, Learn, Repeat}
use Rattle.dns_cookie.specs.declared.judging.Way.{Way}
use Rattle.dns_cookie.specs.declared.judging.Way.TheVariants.{Never, Plain, Cookied, Repeated}
use Rattle.dns_cookie.specs.declared.reply.CookieReply.{CookieReply}

-- the response code that asks for the query again, with the server cookie of the reply (RFC 7873, section 8)
abbrev pub badcookie : ℕ
badcookie = 23

-- a cookie has so many bytes: 8 of the client's alone, or 8 to 32 of the server's behind them (RFC 7873, section 4)
abbrev pub has_length : ℕ → Bool
has_length count = count == 8 || (nat_le 16 count && nat_le count 40)

-- the cookie has the length of one, and begins with the client cookie
abbrev pub is_ours : List ℕ → List ℕ → Bool
is_ours client cookie = has_length (length cookie) && starts_with (λ a b. a == b) cookie client

-- rules 4 and 5, for a cookie of ours. From 16 bytes on it teaches the server cookie; where the server asks for the query again,
-- and may, the query is sent again with it. What teaches nothing is handed on
abbrev pub judged_own : Bool → ℕ → List ℕ → Judgement
judged_own may_repeat rcode cookie =
    if length cookie == 8 then HandOn else (if rcode == badcookie && may_repeat then Repeat else Learn)

-- rules 2 to 5. Without a cookie, a reply is dropped where a server cookie is known, and else handed on. One whose cookie
-- isn't ours is dropped
abbrev pub judged_cookie : Bool → List ℕ → Bool → ℕ → Option (List ℕ) → Judgement
judged_cookie may_repeat client known rcode None = if known then Discard else HandOn
judged_cookie may_repeat client known rcode (Some cookie) =
    if is_ours client cookie then judged_own may_repeat rcode cookie else Discard

-- rules 1 to 5, for a reply that could be read: one to a query that was never sent there, or went as it is, is handed on
abbrev pub judged_reply : Way → List ℕ → Bool → CookieReply → Judgement
judged_reply Never client known reply = HandOn
judged_reply Plain client known reply = HandOn
judged_reply Cookied client known reply = judged_cookie true client known reply.rcode reply.cookie
judged_reply Repeated client known reply = judged_cookie false client known reply.rcode reply.cookie

-- what can't be read is handed on (rule 1)
abbrev pub judged : Way → List ℕ → Bool → Option CookieReply → Judgement
judged way client known None = HandOn
judged way client known (Some reply) = judged_reply way client known reply

-- the client cookie stands at its front; or it has none, and no server cookie is known
abbrev pub CarriesClient : List ℕ → Bool → Option (List ℕ) → Type 0
CarriesClient client known None = known ≡ false
CarriesClient client known (Some cookie) = (rest : List ℕ) × (cookie ≡ client ++ rest)

-- a reply may reach the caller: its query went without a cookie or wasn't sent there, or it carries the client cookie, or no
-- server cookie is known
abbrev pub MayReach : Way → List ℕ → Bool → CookieReply → Type 0
MayReach Never client known reply = ⊤
MayReach Plain client known reply = ⊤
MayReach Cookied client known reply = CarriesClient client known reply.cookie
MayReach Repeated client known reply = CarriesClient client known reply.cookie

-- the plain meaning of the rules: what isn't dropped may reach the caller, and a query is sent again once at most, where its reply asks so
pub record AreRules (way : Way) (client : List ℕ) (known : Bool) (reply : CookieReply) : Type 0 where
  pub not_dropped : judged way client known (Some reply) ≢ Discard → MayReach way client known reply
  pub once : judged way client known (Some reply) ≡ Repeat → way ≡ Cookied
  pub asked : judged way client known (Some reply) ≡ Repeat → reply.rcode ≡ 23
