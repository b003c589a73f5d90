-- Where a session stands before its first turn: the servers were told, and requests were accepted through the turner's pass.
use Rattle.std.proofs.Common.{◌≡◌, ◌∙◌, ℕ, Bool, true, false, List, [], ◌∷◌, ◌++◌, Option, Some, None, Ok, Err, Result, map, refl, sym, ap, subst, inl, append_assoc}
use Rattle.std.proofs.lemmas.Bool.{and_from}
use Rattle.std.proofs.lemmas.List.{append-nil, append_cancel_left}
use Rattle.std.proofs.lemmas.List.Folds.{list_all-append}
use Rattle.std.specs.List.{list_all}
use Rattle.std.specs.Prelude.{option_map}
use Rattle.chan_types.specs.declared.journal.Entry.{Entry}
use Rattle.chan_types.specs.declared.spec.Spec.{Spec}
use Rattle.channel_model.proofs.Theorems.{call_goes_on, goes_on_refl, goes_on_trans}
use Rattle.channel_model.specs.Course.{has_no_turn, serves_from}
use Rattle.channel_model.specs.Journal.{own_entries}
use Rattle.channel_model.specs.Known.{Calls, GoesOn, Known}
use Rattle.channel_model.specs.Meanings.{Accepts}
use Rattle.channel_model.specs.Seen.{entries_of}
use Rattle.channel_model.specs.Servers.{keyed_from}
use Rattle.channel_model.specs.declared.answers.Refused.{Refused}
use Rattle.completion_ticket.specs.States.{CallbackState}
use Rattle.event_runner.proofs.Theorems.{runs_begin, runs_behind}
use Rattle.event_runner.specs.Running.{Running}
use Rattle.event_runner.specs.UnderWay.{RunsSince, rested}
use Rattle.net_addr.specs.declared.addr.ServerAddr.{ServerAddr}
use Rattle.net_world.specs.declared.log.WorldCall.{WorldCall}
use Rattle.resolv_options.specs.Values.{OptionValues}
use Rattle.shared_channel.specs.Passes.{PassView, desk_of}
use Rattle.shared_channel.specs.Under.{plan_of}
use Rattle.worker_session.proofs.Theorems.{stands_new}
use Rattle.worker_session.specs.Setting.{SetsNone, has_set}
use Rattle.worker_session.specs.Standing.{StandsIn}
use Rattle.worker_session.specs.Turning.{Turning, longest_pause}
use Rattle.worker_session.specs.declared.coming.Coming.TheVariants.{UnderWay}
use Rattle.shared_session.proofs.SeatLemmas.{is_plain, none_set, plain_turns}
use Rattle.shared_session.proofs.GoneLemmas.{prefix_same}
use Rattle.shared_session.specs.Session.{TellsSome}
use Rattle.shared_session.specs.Asking.{AcceptsEach, AsksAll, AsksOne, EndsAsking}

-- a desk went on, and made plain entries
record PlainOn (old new : Known) : Type 0 where
  goes : GoesOn old new
  own : list_all is_plain (own_entries old.seat goes.since) ≡ true

plain_none : (old new : Known) → new ≡ old → PlainOn old new
plain_none old new same =
    let goes = goes_on_refl old in
    let made : own_entries old.seat goes.since ≡ [] = append_cancel_left old.own (own_entries old.seat goes.since) [] (sym goes.own ∙ sym (append-nil old.own)) in
    subst (PlainOn old) (sym same) (record { goes = goes; own = ap (list_all is_plain) made })

plain_more : (old middle new : Known) → PlainOn old middle → PlainOn middle new → PlainOn old new
plain_more old middle new first more =
    let goes = goes_on_trans old middle new first.goes more.goes in
    let one : List Entry = own_entries old.seat first.goes.since in
    let two : List Entry = own_entries middle.seat more.goes.since in
    let own : new.own ≡ old.own ++ (one ++ two) = more.goes.own ∙ ap (λ l. l ++ two) first.goes.own ∙ append_assoc old.own one two in
    let made : own_entries old.seat goes.since ≡ one ++ two = append_cancel_left old.own (own_entries old.seat goes.since) (one ++ two) (sym goes.own ∙ own) in
    record { goes = goes; own = ap (list_all is_plain) made ∙ list_all-append is_plain one two ∙ and_from (list_all is_plain one) (list_all is_plain two) first.own more.own }

plain_call : (spec : Spec) (token : CallbackState) (reply : Result ℕ (Refused CallbackState)) (old new : Known) (call : Calls (Accepts plan_of spec token reply) 0 old new) → list_all is_plain (entries_of old.seat 0 call.added) ≡ true → PlainOn old new
plain_call spec token reply old new call plain =
    let goes = call_goes_on (Accepts plan_of spec token reply) 0 old new call in
    let made : own_entries old.seat goes.since ≡ entries_of old.seat 0 call.added = append_cancel_left old.own (own_entries old.seat goes.since) (entries_of old.seat 0 call.added) (sym goes.own ∙ call.own) in
    record { goes = goes; own = ap (list_all is_plain) made ∙ plain }

plain_one : (done : Bool) (request : Spec × CallbackState) (old new : PassView) → AsksOne done request old new → PlainOn (desk_of old) (desk_of new)
plain_one true request old new one = plain_call request.0 request.1 (Ok one.0) (desk_of old) (desk_of new) one.1 (ap (λ added. list_all is_plain (entries_of old.number 0 added)) one.1.meant.0)
plain_one false request old new one = plain_call request.0 request.1 (Err one.0) (desk_of old) (desk_of new) one.1 (ap (λ added. list_all is_plain (entries_of old.number 0 added)) one.1.meant.0)

plain_each : (requests : List (Spec × CallbackState)) (old new : PassView) → AcceptsEach requests old new → PlainOn (desk_of old) (desk_of new)
plain_each [] old new same = plain_none (desk_of old) (desk_of new) (ap desk_of same)
plain_each (r ∷ rs) old new each = plain_more (desk_of old) (desk_of each.0) (desk_of new) (plain_one true r old each.0 each.1) (plain_each rs each.0 new each.2)

plain_end : (all : Bool) (left : List (Spec × CallbackState)) (old new : PassView) → EndsAsking all left old new → PlainOn (desk_of old) (desk_of new)
plain_end true left old new ends = plain_none (desk_of old) (desk_of new) (ap desk_of ends.1)
plain_end false left old new ends = plain_one false ends.0 old new ends.3

plain_asks : (requests : List (Spec × CallbackState)) (all : Bool) (old new : PassView) → AsksAll requests all old new → PlainOn (desk_of old) (desk_of new)
plain_asks requests all old new asks = plain_more (desk_of old) (desk_of asks.middle) (desk_of new) (plain_each asks.asked old asks.middle asks.accepts) (plain_end all asks.left asks.middle new asks.ends)

-- with a runner that has told the servers it stands before its first turn
pub stands_before : (requests : List (Spec × CallbackState)) (all : Bool) (old new : PassView) (options : OptionValues) (turns : ℕ) (later : Option (List ServerAddr)) (began : Option (List WorldCall)) (t : Turning) →
    AsksAll requests all old new → old.seen ≡ [] → options ≡ old.setting.options → t.known ≡ desk_of new → t.coming ≡ UnderWay → t.behind_turn ≡ false → t.left ≡ turns → t.later ≡ later →
    t.running ≡ record t.running { reading = 0; broken = false; rows = []; mix = options.flags.mix } →
    (t.running.told ≡ map (λ server. server.key) (keyed_from 0 options.servers)) × (t.log ≡ option_map (λ told. told ++ serves_from 0 options.servers) began) → StandsIn turns later began t
stands_before requests all old new options turns later began t asks unseen same is under_way is_rested all_left later_is fresh opens =
    let plain = plain_asks requests all old new asks in
    let begins : OptionValues → Running = λ o. record t.running { reading = 0; broken = false; rows = []; mix = o.flags.mix } in
    let first : RunsSince longest_pause 0 0 rested (desk_of old) t.running began t.log =
    runs_begin longest_pause rested (desk_of old) t.running began t.log (ap has_no_turn unseen)
    (fresh ∙ ap begins same) (opens.0 ∙ ap (λ (o : OptionValues). map (λ server. server.key) (keyed_from 0 o.servers)) same)
    (opens.1 ∙ ap (λ (o : OptionValues). option_map (λ told. told ++ serves_from 0 o.servers) began) same) in
    let runs : RunsSince longest_pause 0 0 rested (desk_of new) t.running began t.log =
    runs_behind longest_pause 0 0 began t.log rested (desk_of old) (desk_of new) t.running plain.goes (plain_turns (own_entries old.number plain.goes.since) plain.own) (inl refl) first in
    let seen : new.seen ≡ plain.goes.since = plain.goes.seen ∙ ap (λ l. l ++ plain.goes.since) unseen in
    let none : SetsNone old.number new.seen = ap (λ es. has_set (own_entries old.number es)) seen ∙ none_set (own_entries old.number plain.goes.since) plain.own in
    stands_new turns later began t under_way is_rested all_left later_is
    (subst (λ (k : Known). SetsNone k.seat k.seen) (sym is) (subst (λ n. SetsNone n new.seen) (sym plain.goes.desk.seat) none))
    (subst (λ k. RunsSince longest_pause 0 0 rested k t.running began t.log) (sym is) runs)

-- all servers were told
pub tells_all : (servers : List ServerAddr) (old new : Option (List WorldCall)) → new ≡ option_map (λ told. told ++ serves_from 0 servers) old → TellsSome servers old new
tells_all servers None new is = is
tells_all servers (Some earlier) new is = (serves_from 0 servers, is, prefix_same (serves_from 0 servers))
