-- The calls of a run of the server's program, part by part.
use Rattle.std.proofs.Common.{◌≡◌, ℕ, ◌+◌, ◌<◌, List, [], ◌∷◌, ◌++◌, refl, sym, ap, subst, ◌∙◌, arith, Bool, true, false, inl, inr}
use Rattle.std.specs.Prelude.{flat_map, Option, Some, None, Result, Ok, Err}
use Rattle.std.proofs.lemmas.List.{append-nil, append_assoc, length-append}
use Rattle.std.proofs.lemmas.Grind.{flat_map-append}
use mathlib.Core.List.{IsPrefix}
use Rattle.item_list.specs.declared.no_memory.NoMemory.{NoMemory as Wanting}
use Rattle.dns_message.specs.declared.message.Record.{Record}
use Rattle.net_world.specs.declared.answers.Sent.{Sent}
use Rattle.net_world.specs.declared.answers.Sent.TheVariants.{Sent as WasSent, Failed as NotSent}
use Rattle.test_nameserver.specs.declared.ending.End.{End}
use Rattle.test_nameserver.specs.declared.ending.End.TheVariants.{Served, Refused, FileFault, NoMemory, SocketFault, BadZone}
use Rattle.test_nameserver.specs.declared.listener.Heard.{Heard}
use Rattle.test_nameserver.specs.declared.listener.Heard.TheVariants.{Message, Failed as NotHeard}
use Rattle.test_nameserver.specs.declared.listener.ListenerCall.{ListenerCall}
use Rattle.test_nameserver.specs.declared.listener.ListenerCall.TheVariants.{Listen, Next, Reply}
use Rattle.test_nameserver.specs.Listening.{Logs, has_failed}
use Rattle.test_nameserver.specs.Reply.{reply_to}
use Rattle.test_nameserver.specs.Service.{GoesOnWith, LastFailed, NoneFailed, run_calls, turn_calls}
use Rattle.test_nameserver.specs.Turns.{AreReplies, AreTurn, AreTurns, EndsAs, FailInTurns, Serves, StopInTurns, TurnTo}

-- ---- logs

-- a log goes on with a call and its answer
pub logs_call : {T : Type 0} (old new : Option (List ListenerCall)) (call : T → ListenerCall) (answer : T) →
    Logs old new (Ok answer) call → GoesOnWith (λ calls. calls ≡ call answer ∷ []) old new
logs_call None new call answer is = is
logs_call (Some log) new call answer is = (call answer ∷ [], is, refl)

-- a log that is as before goes on with no call
pub logs_none : (kind : List ListenerCall → Type 0) (log : Option (List ListenerCall)) → kind [] → GoesOnWith kind log log
logs_none kind None none = refl
logs_none kind (Some log) none = ([], ap Some (sym (append-nil log)), none)

-- one part behind another
pub logs_trans : (P Q R : List ListenerCall → Type 0) (a b c : Option (List ListenerCall)) →
    ((x y : List ListenerCall) → P x → Q y → R (x ++ y)) → GoesOnWith P a b → GoesOnWith Q b c → GoesOnWith R a c
logs_trans P Q R None b c joins p q = subst (λ log. GoesOnWith Q log c) p q
logs_trans P Q R (Some log) b c joins p q =
    let then : GoesOnWith Q (Some (log ++ p.0)) c = subst (λ log. GoesOnWith Q log c) p.1 q in
    (p.0 ++ then.0, then.1 ∙ ap Some (append_assoc log p.0 then.0), joins p.0 then.0 p.2 then.2)

-- the same calls, of which more is said
pub logs_as : (P Q : List ListenerCall → Type 0) (a b : Option (List ListenerCall)) →
    ((calls : List ListenerCall) → P calls → Q calls) → GoesOnWith P a b → GoesOnWith Q a b
logs_as P Q None b says p = p
logs_as P Q (Some log) b says p = (p.0, p.1, says p.0 p.2)

-- ---- lists

-- a part of the second list is a part of the two
prefix_behind : (x y z : List ListenerCall) → IsPrefix y z → IsPrefix (x ++ y) (x ++ z)
prefix_behind x y z part = (part.0, append_assoc x y part.0 ∙ ap (λ l. x ++ l) part.1)

-- none fails behind none
none_behind : (x y : List ListenerCall) → NoneFailed x → NoneFailed y → NoneFailed (x ++ y)
none_behind [] y good more = more
none_behind (call ∷ x) y good more = (good.0, none_behind x y good.1 more)

-- where the last call failed, it did behind others that didn't
last_behind : (x y : List ListenerCall) → NoneFailed x → LastFailed y → LastFailed (x ++ y)
last_behind x y good failed = record {
  before = x ++ failed.before;
  last = failed.last;
  all = ap (λ l. x ++ l) failed.all ∙ sym (append_assoc x failed.before (failed.last ∷ []));
  failed = failed.failed;
  alone = none_behind x failed.before good failed.alone;
}

-- a call alone that failed
one_failed : (call : ListenerCall) → has_failed call ≡ true → LastFailed (call ∷ [])
one_failed call failed = record { before = []; last = call; all = refl; failed = failed; alone = tt }

-- a call alone that didn't
one_good : (call : ListenerCall) → has_failed call ≡ false → NoneFailed (call ∷ [])
one_good call good = (good, tt)

-- behind a call that didn't fail, the others end as they do
ends_behind : (x y : List ListenerCall) (sent : Sent) → NoneFailed x → EndsAs sent y → EndsAs sent (x ++ y)
ends_behind x y WasSent good ends = none_behind x y good ends
ends_behind x y NotSent good ends = last_behind x y good ends

-- ---- turns

-- a reply that was sent or failed
pub reply_sent : (bytes : List ℕ) (sent : Sent) → AreReplies (Some bytes) (Ok sent) (Reply bytes sent ∷ [])
reply_sent bytes WasSent = ((WasSent, refl), one_good (Reply bytes WasSent) refl)
reply_sent bytes NotSent = ((NotSent, refl), one_failed (Reply bytes NotSent) refl)

-- a message and the reply to it are a turn
pub turn_heard : (zone : List Record) (tcp : Bool) (bytes : List ℕ) (result : Result Sent Wanting) (x y : List ListenerCall) →
    x ≡ Next (Message tcp bytes) ∷ [] → AreReplies (reply_to zone bytes tcp) result y → AreTurn zone result (x ++ y)
turn_heard zone tcp bytes (Ok sent) x y heard replies = (
  (record { heard = Message tcp bytes; sent = replies.0.0 }, rw (heard, replies.0.1) refl),
  ends_behind x y sent (rw heard (one_good (Next (Message tcp bytes)) refl)) replies.1,
)
turn_heard zone tcp bytes (Err e) x y heard replies = (
  (record { heard = Message tcp bytes; sent = WasSent }, rw (heard, replies) (_, refl)),
  rw (heard, replies) (one_good (Next (Message tcp bytes)) refl),
)

-- nothing was heard, and that is the turn
pub turn_failed : (zone : List Record) (calls : List ListenerCall) → calls ≡ Next NotHeard ∷ [] → AreTurn zone (Ok NotSent) calls
turn_failed zone calls is = ((record { heard = NotHeard; sent = WasSent }, is), rw is (one_failed (Next NotHeard) refl))

-- memory was wanting before the turn
pub turn_cut : (zone : List Record) (e : Wanting) → AreTurn zone (Err e) []
turn_cut zone e = ((record { heard = NotHeard; sent = WasSent }, (_, refl)), tt)

-- one turn more
pub one_more : (zone : List Record) (count : ℕ) (x y : List ListenerCall) → AreTurns zone count x → AreTurn zone (Ok WasSent) y → AreTurns zone (count + 1) (x ++ y)
one_more zone count x y turns turn = record {
  exchanges = turns.exchanges ++ turn.0.0 ∷ [];
  all = rw (turns.all, turn.0.1, flat_map-append (turn_calls zone) turns.exchanges (turn.0.0 ∷ []), append-nil (turn_calls zone turn.0.0)) refl;
  many = rw (length-append, turns.many) refl;
  good = none_behind x y turns.good turn.1;
}

-- one turn more, which failed
pub one_fails : (zone : List Record) (count most : ℕ) (x y : List ListenerCall) → count < most → AreTurns zone count x → AreTurn zone (Ok NotSent) y → FailInTurns zone most (x ++ y)
one_fails zone count most x y fewer turns turn = record {
  exchanges = turns.exchanges ++ turn.0.0 ∷ [];
  all = rw (turns.all, turn.0.1, flat_map-append (turn_calls zone) turns.exchanges (turn.0.0 ∷ []), append-nil (turn_calls zone turn.0.0)) refl;
  few = rw (length-append, turns.many) (omega (arith, fewer));
  last = last_behind x y turns.good turn.1;
}

-- one turn more, which was cut short
pub one_stops : (zone : List Record) (count most : ℕ) (e : Wanting) (x y : List ListenerCall) → count < most → AreTurns zone count x → AreTurn zone (Err e) y → StopInTurns zone most (x ++ y)
one_stops zone count most e x y fewer turns turn = record {
  exchanges = turns.exchanges ++ turn.0.0 ∷ [];
  part = rw (turns.all, flat_map-append (turn_calls zone) turns.exchanges (turn.0.0 ∷ []), append-nil (turn_calls zone turn.0.0)) (prefix_behind (flat_map (turn_calls zone) turns.exchanges) y (turn_calls zone turn.0.0) turn.0.1);
  few = rw (length-append, turns.many) (omega (arith, fewer));
  good = none_behind x y turns.good turn.1;
}

-- ---- logged turns

-- a reply is logged, unless memory is wanting
pub reply_logged : (reply : Option (List ℕ)) (bytes : List ℕ) (old new : Option (List ListenerCall)) (result : Result Sent Wanting) →
    reply ≡ Some bytes → Logs old new result (λ sent. Reply bytes sent) → GoesOnWith (AreReplies reply result) old new
reply_logged reply bytes old new (Ok sent) is logs =
    rw is (logs_as (λ calls. calls ≡ Reply bytes sent ∷ []) (AreReplies (Some bytes) (Ok sent)) old new (λ calls e. rw e (reply_sent bytes sent)) (logs_call old new (λ s. Reply bytes s) sent logs))
reply_logged reply bytes old new (Err e) is logs = rw logs (logs_none (AreReplies reply (Err e)) old refl)

-- a message is logged, and then its reply
pub turn_logged : (zone : List Record) (tcp : Bool) (bytes taken : List ℕ) (heard : Heard) (result : Result Sent Wanting) (old mid new : Option (List ListenerCall)) →
    heard ≡ Message tcp bytes → taken ≡ bytes → Logs {T = Heard} old mid (Ok heard) (λ h. Next h) → GoesOnWith (AreReplies (reply_to zone taken tcp) result) mid new → GoesOnWith (AreTurn zone result) old new
turn_logged zone tcp bytes taken heard result old mid new is same logs replies =
    logs_trans (λ calls. calls ≡ Next (Message tcp bytes) ∷ []) (AreReplies (reply_to zone bytes tcp) result) (AreTurn zone result) old mid new
    (turn_heard zone tcp bytes result) (rw is at (logs_call {T = Heard} old mid (λ h. Next h) heard logs)) (rw same at replies)

-- that nothing was heard is logged
pub turn_unheard : (zone : List Record) (heard : Heard) (old new : Option (List ListenerCall)) → heard ≡ NotHeard → Logs {T = Heard} old new (Ok heard) (λ h. Next h) → GoesOnWith (AreTurn zone (Ok NotSent)) old new
turn_unheard zone heard old new is logs =
    logs_as (λ calls. calls ≡ Next NotHeard ∷ []) (AreTurn zone (Ok NotSent)) old new (turn_failed zone) (rw is at (logs_call {T = Heard} old new (λ h. Next h) heard logs))

-- nothing was logged
pub turn_wanting : (zone : List Record) (e : Wanting) (old new : Option (List ListenerCall)) → new ≡ old → GoesOnWith (AreTurn zone (Err e)) old new
turn_wanting zone e old new is = rw is (logs_none (AreTurn zone (Err e)) old (turn_cut zone e))

-- ---- a whole run

-- it listens, and its turns follow
pub serves_turns : (zone : List Record) (port count : ℕ) (end : End) (x y : List ListenerCall) → x ≡ Listen port WasSent ∷ [] → TurnTo zone count end y → Serves zone port count end (x ++ y)
serves_turns zone port count Served x y listens turns = rw (listens, turns.all) (record {
  listens = WasSent;
  exchanges = turns.exchanges;
  part = ([], append-nil (run_calls zone port WasSent turns.exchanges));
  few = omega (arith, turns.many);
  ends = inl (none_behind (Listen port WasSent ∷ []) _ (one_good (Listen port WasSent) refl) (rw turns.all at turns.good));
  whole = λ is. (refl, turns.many, none_behind (Listen port WasSent ∷ []) _ (one_good (Listen port WasSent) refl) (rw turns.all at turns.good));
  fault = λ is. absurd (cc);
  known = inl refl;
})
serves_turns zone port count SocketFault x y listens turns = rw listens (record {
  listens = WasSent;
  exchanges = turns.exchanges;
  part = ([], append-nil (Listen port WasSent ∷ y) ∙ ap (λ l. Listen port WasSent ∷ l) turns.all);
  few = turns.few;
  ends = inr (last_behind (Listen port WasSent ∷ []) y (one_good (Listen port WasSent) refl) turns.last);
  whole = λ is. absurd (cc);
  fault = λ is. last_behind (Listen port WasSent ∷ []) y (one_good (Listen port WasSent) refl) turns.last;
  known = inr (inl refl);
})
serves_turns zone port count NoMemory x y listens turns = rw listens (record {
  listens = WasSent;
  exchanges = turns.exchanges;
  part = prefix_behind (Listen port WasSent ∷ []) y (flat_map (turn_calls zone) turns.exchanges) turns.part;
  few = turns.few;
  ends = inl (none_behind (Listen port WasSent ∷ []) y (one_good (Listen port WasSent) refl) turns.good);
  whole = λ is. absurd (cc);
  fault = λ is. absurd (cc);
  known = inr (inr refl);
})
serves_turns zone port count Refused x y listens turns = absurd turns
serves_turns zone port count FileFault x y listens turns = absurd turns
serves_turns zone port count BadZone x y listens turns = absurd turns

-- it can't listen
pub serves_none : (zone : List Record) (port count : ℕ) (calls : List ListenerCall) → calls ≡ Listen port NotSent ∷ [] → Serves zone port count SocketFault calls
serves_none zone port count calls is = rw is (record {
  listens = NotSent;
  exchanges = [];
  part = ([], refl);
  few = omega arith;
  ends = inr (one_failed (Listen port NotSent) refl);
  whole = λ is. absurd (cc);
  fault = λ is. one_failed (Listen port NotSent) refl;
  known = inr (inl refl);
})
