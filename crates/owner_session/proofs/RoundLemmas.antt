-- One round of a session: a request is pending, a turn is made, the servers that are left are set, and what completed is delivered.
use Rattle.std.proofs.Common.{◌≡◌, ◌≢◌, ℕ, ◌+◌, List, [], Option, None, inr, refl}
use Rattle.std.specs.Prelude.{Ok}
use Rattle.net_addr.specs.declared.addr.ServerAddr.{ServerAddr}
use Rattle.net_world.specs.declared.log.WorldCall.{WorldCall}
use Rattle.channel_model.specs.Completion.{ready}
use Rattle.channel_model.specs.Journal.{past_of}
use Rattle.channel_table.specs.Calling.{Owned, known_by_owner}
use Rattle.event_runner.specs.Goes.{Goes}
use Rattle.event_runner.specs.Running.{Running, run_of}
use Rattle.event_runner.specs.Turning.{MakesTurn}
use Rattle.event_runner.specs.UnderWay.{delivered, following, rested, turned}
use Rattle.event_runner.specs.declared.answers.Turned.{Turned}
use Rattle.owner_session.specs.Delivering.{DeliversAll, IsIdle}
use Rattle.owner_session.specs.Session.{CountsPending, SetsLater}
use Rattle.owner_session.specs.declared.caller.Caller.{Caller}
use Rattle.owner_session.proofs.LoopLemmas.{Made, asked_here, made_delivered, made_following, made_then, made_turned, then_counted, then_turned}
use Rattle.owner_session.proofs.MoveLemmas.{MovesQuietly, moves_idle, quiet_all}
use Rattle.owner_session.proofs.PromptLemmas.{prompted_all}
use Rattle.owner_session.proofs.ThenLemmas.{Then, grows_none, moves_set, then_more}

-- so many turns were made, and what completed was delivered; the servers that were left were set behind the first
pub record Round {B : Type 0} (later : Option (List ServerAddr)) (turns : ℕ) (old new : Caller B) (before after : Running) (log_old log_new : Option (List WorldCall)) : Type 0 where
  pub made : Made delivered turns old new before after log_old log_new
  pub sets : Then later None turns old new before log_old log_new

-- before the turn a request is pending and nothing ready, which leaves all as it was
module _ {B : Type 0} (later left : Option (List ServerAddr)) (turns count : ℕ) (a b : Caller B) (before r : Running) (l m : Option (List WorldCall)) (c : Owned) (idle : IsIdle a)
    (made : Made rested turns a b before r l m) (sets : Then later left turns a b before l m) (counts : CountsPending count b.alone c) (some : count ≢ 0) (none_ready : ready b.alone.setting (past_of b.alone.seen) ≡ []) where
  abbrev b_counted : Caller B
  b_counted = record b { alone = c }

  pub counted_made : Made following turns a b_counted before r l m
  counted_made = made_following turns a before l b r m count c counts some made

  pub counted_sets : Then later left turns a b_counted before l m
  counted_sets = then_counted later left turns a b before l m count c counts sets

  -- the turn
  module _ (d : Owned) (u : Running) (n : Option (List WorldCall)) (answer : Turned) (goes : Goes (MakesTurn answer) (run_of (known_by_owner c) r m) (run_of (known_by_owner d) u n)) (reads : u.reading ≡ answer.reading) where
    abbrev b_turned : Caller B
    b_turned = record b { alone = d }

    pub turned_made : Made turned (turns + 1) a b_turned before u l n
    turned_made = made_turned turns a before l b_counted r m d u n answer goes reads (asked_here count b.alone c counts some none_ready) counted_made

    -- the servers that were left, and the deliveries
    pub round : (done : Unit {0}) (e : Owned) → SetsLater left (Ok done) d e → (f : Caller B) → DeliversAll (record b { alone = e }) f → ready f.alone.setting (past_of f.alone.seen) ≡ [] →
        Round later (turns + 1) a f before u l n
    round done e set f delivers none =
        let b_set : Caller B = record b { alone = e } in
        let set_made : Made turned (turns + 1) a b_set before u l n = made_then (turns + 1) a before l turned b_turned b_set u n (inr refl) (moves_set left (Ok done) b_turned e set) turned_made in
        let set_sets : Then later None (turns + 1) a b_set before l n = then_turned later left turns a b_counted before l m d e r u n answer done goes (asked_here count b.alone c counts some none_ready) counted_made set counted_sets in
        let all : MovesQuietly b_set f = quiet_all b_set f (moves_idle a b_set set_made.moves idle) delivers in
        record {
          made = made_delivered (turns + 1) a before l f u n none (made_then (turns + 1) a before l turned b_set f u n (inr refl) (all.0, all.1, prompted_all b_set f delivers all.0 none) set_made);
          sets = then_more later a before l None (turns + 1) b_set f n n all.0 all.2 (grows_none n) set_sets;
        }
