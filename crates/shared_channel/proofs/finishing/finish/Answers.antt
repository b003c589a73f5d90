use Rattle.std.proofs.Common.{◌∙◌, ◌≡◌, ap, length, subst, sym}
use Rattle.channel_model.specs.Journal.{accepted, past_of}
use Rattle.channel_table.specs.Tokens.{Shown}
use Rattle.completion_ticket.specs.States.{CallbackState}
use Rattle.chan_types.specs.declared.journal.Entry.{Entry}
use Rattle.std.specs.Prelude.{List}
use Rattle.shared_channel.specs.Finishing.{EmptiesChannel, IsJoined}
use Rattle.shared_channel.specs.Passes.{PassView, pass_of}
use Rattle.shared_channel.proofs.EndLemmas.{finishes, has_all, lock_is}
use Rattle.shared_channel.proofs.finishing.finish.Goals as goal

pub close-table-requires-clause-lock : goal.close-table-requires-clause-lock
close-table-requires-clause-lock g c =
    let passes = c.args.passes.items in
    let all = c.at-place.result in
    let last = c.deliver_all.new.place in
    let here = c.account-2.inside in
    let joined = subst (IsJoined passes) (sym c.at-place.ensures) c.join_all-all.ensures.joined in
    let emptied : EmptiesChannel c.args.orders all last = record { is_first = c.destroy.result; destroyed = c.destroy.new.self; destroys = c.destroy.ensures.done; delivered = c.deliver_all.ensures } in
    let is : last ≡ pass_of here.seat here.is_set here.calls here.lost = sym (c.account-2.view_is ∙ c.account.view_is ∙ c.leave.ensures) in
    lock_is c.args.orders c.args.channel passes all last c.requires.all joined emptied here.seat here.is_set here.calls here.lost is ∙ sym c.channel.view_is

pub close-table-requires-clause-all : goal.close-table-requires-clause-all
close-table-requires-clause-all g c =
    let passes = c.args.passes.items in
    let all = c.at-place.result in
    let last = c.deliver_all.new.place in
    let here = c.account-2.inside in
    let joined = subst (IsJoined passes) (sym c.at-place.ensures) c.join_all-all.ensures.joined in
    let emptied : EmptiesChannel c.args.orders all last = record { is_first = c.destroy.result; destroyed = c.destroy.new.self; destroys = c.destroy.ensures.done; delivered = c.deliver_all.ensures } in
    let is : last ≡ pass_of here.seat here.is_set here.calls here.lost = sym (c.account-2.view_is ∙ c.account.view_is ∙ c.leave.ensures) in
    has_all c.args.orders c.args.channel passes all last c.requires.all joined emptied here.seat here.is_set here.calls here.lost is

pub returns : goal.returns
returns g c =
    let passes = c.args.passes.items in
    let all = c.at-place.result in
    let last = c.deliver_all.new.place in
    let here = c.account-2.inside in
    let joined = subst (IsJoined passes) (sym c.at-place.ensures) c.join_all-all.ensures.joined in
    let emptied : EmptiesChannel c.args.orders all last = record { is_first = c.destroy.result; destroyed = c.destroy.new.self; destroys = c.destroy.ensures.done; delivered = c.deliver_all.ensures } in
    let is : last ≡ pass_of here.seat here.is_set here.calls here.lost = sym (c.account-2.view_is ∙ c.account.view_is ∙ c.leave.ensures) in
    let log = c.close-table.result.table.value.journal in
    let inner : c.into_inner-table.result.journal ≡ log = ap (λ (s : Shown CallbackState). s.journal) c.into_inner-table.ensures in
    finishes c.args.orders c.args.channel passes all last c.requires.all joined emptied here.seat here.is_set here.calls here.lost is c.requires.settled log c.close-table.ensures.history _ _ (c.close.ensures ∙ inner)
    (c.accepted-accepted.ensures ∙ ap (λ (l : List Entry). length (accepted (past_of l))) inner)
    (sym (ap (λ (p : PassView). p.calls) is)) (sym (ap (λ (p : PassView). p.lost) is))
