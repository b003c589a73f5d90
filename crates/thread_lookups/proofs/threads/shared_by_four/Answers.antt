use Rattle.std.proofs.Common.{List, false, true, [], arith, subst, ◌++◌, ◌∙◌, ◌∷◌, ◌≡◌, ap}
use Rattle.channel_journal.specs.declared.kept.KeptJournal.{KeptJournal}
use Rattle.host_lookups.specs.Answered.{setting_with}
use Rattle.shared_channel.specs.Finishing.{Finishes}
use Rattle.shared_channel.specs.Making.{IsNewChannel}
use Rattle.shared_channel.specs.Passes.{PassView}
use Rattle.shared_channel.proofs.Theorems.{all_stay_none, may_finish, one_back, stays_more}
use Rattle.thread_lookups.proofs.EndLemmas.{are_answered, four}
use Rattle.thread_lookups.proofs.RunLemmas.{nothing_more}
use Rattle.thread_lookups.proofs.threads.shared_by_four.Goals as goal

pub finish-requires-clause-all : goal.finish-requires-clause-all
finish-requires-clause-all g c =
    let three = c.three_beside-first in
    let rest = c.last_pass-main.new.passes.items in
    let ran = stays_more c.last_pass-main.result three.result.1.1.1.run.pass c.run_at-last.result.run.pass three.ensures.ran.stays c.run_at-last.ensures.stays in
    let back-1 = one_back rest rest c.last_pass-main.ensures.items (all_stay_none rest) ran in
    let back-2 = one_back c.last_pass-first.new.passes.items (rest ++ c.run_at-last.result.run.pass ∷ []) c.last_pass-first.ensures.items back-1 three.ensures.first.stays in
    let back-3 = one_back c.last_pass-second.new.passes.items ((rest ++ c.run_at-last.result.run.pass ∷ []) ++ three.result.0.pass ∷ []) c.last_pass-second.ensures.items back-2 three.ensures.second.stays in
    let back-4 = one_back c.last_pass-third.new.passes.items (((rest ++ c.run_at-last.result.run.pass ∷ []) ++ three.result.0.pass ∷ []) ++ three.result.1.0.pass ∷ []) c.last_pass-third.ensures.items back-3 three.ensures.third.stays in
    rw (c.push_reserved-4.ensures.items, c.push_reserved-3.ensures.items, c.push_reserved-2.ensures.items, c.push_reserved.ensures.items)
    (may_finish ((((rest ++ c.run_at-last.result.run.pass ∷ []) ++ three.result.0.pass ∷ []) ++ three.result.1.0.pass ∷ []) ++ three.result.1.1.0.pass ∷ []) c.in_ok-channel.ensures (omega arith) back-4).0

pub finish-requires-clause-settled : goal.finish-requires-clause-settled
finish-requires-clause-settled g c =
    let three = c.three_beside-first in
    let rest = c.last_pass-main.new.passes.items in
    let ran = stays_more c.last_pass-main.result three.result.1.1.1.run.pass c.run_at-last.result.run.pass three.ensures.ran.stays c.run_at-last.ensures.stays in
    let back-1 = one_back rest rest c.last_pass-main.ensures.items (all_stay_none rest) ran in
    let back-2 = one_back c.last_pass-first.new.passes.items (rest ++ c.run_at-last.result.run.pass ∷ []) c.last_pass-first.ensures.items back-1 three.ensures.first.stays in
    let back-3 = one_back c.last_pass-second.new.passes.items ((rest ++ c.run_at-last.result.run.pass ∷ []) ++ three.result.0.pass ∷ []) c.last_pass-second.ensures.items back-2 three.ensures.second.stays in
    let back-4 = one_back c.last_pass-third.new.passes.items (((rest ++ c.run_at-last.result.run.pass ∷ []) ++ three.result.0.pass ∷ []) ++ three.result.1.0.pass ∷ []) c.last_pass-third.ensures.items back-3 three.ensures.third.stays in
    rw (c.push_reserved-4.ensures.items, c.push_reserved-3.ensures.items, c.push_reserved-2.ensures.items, c.push_reserved.ensures.items)
    (may_finish ((((rest ++ c.run_at-last.result.run.pass ∷ []) ++ three.result.0.pass ∷ []) ++ three.result.1.0.pass ∷ []) ++ three.result.1.1.0.pass ∷ []) c.in_ok-channel.ensures (omega arith) back-4).1

pub returns : goal.returns
returns g c = λ all.
    let three = c.three_beside-first in
    let parts = c.all_asked-all.ensures all in
    let made = c.in_ok-channel.ensures in
    let row = four c.in_ok-channel.passes.items c.last_pass-third.new.passes.items c.last_pass-second.new.passes.items c.last_pass-first.new.passes.items c.last_pass-main.new.passes.items
    c.last_pass-main.result c.last_pass-first.result c.last_pass-second.result c.last_pass-third.result
    c.last_pass-third.ensures.items c.last_pass-second.ensures.items c.last_pass-first.ensures.items c.last_pass-main.ensures.items made.all in
    let ran = nothing_more c.last_pass-main.result three.result.1.1.1.run.pass c.run_at-last.result.run.pass three.ensures.ran c.run_at-last.ensures in
    let back : c.push_reserved-4.new.self.items ≡ c.run_at-last.result.run.pass ∷ three.result.0.pass ∷ three.result.1.0.pass ∷ three.result.1.1.0.pass ∷ [] =
    c.push_reserved-4.ensures.items ∙ ap (λ (ps : List PassView). ps ++ three.result.1.1.0.pass ∷ []) (c.push_reserved-3.ensures.items ∙ ap (λ (ps : List PassView). ps ++ three.result.1.0.pass ∷ [])
    (c.push_reserved-2.ensures.items ∙ ap (λ (ps : List PassView). ps ++ three.result.0.pass ∷ []) (c.push_reserved.ensures.items ∙ ap (λ (ps : List PassView). ps ++ c.run_at-last.result.run.pass ∷ []) row.0))) in
    are_answered c.last_pass-main.result c.last_pass-first.result c.last_pass-second.result c.last_pass-third.result
    c.run_at-last.result.run.pass three.result.0.pass three.result.1.0.pass three.result.1.1.0.pass
    c.args.requests.first.items c.args.requests.second.items c.args.requests.third.items c.finish.result
    (subst (λ ps. IsNewChannel c.in_ok-channel.channel (setting_with c.args.setting.0 c.args.setting.1) 4 ps) row.1 made) ran
    (three.ensures.first.asked parts.0) (three.ensures.second.asked parts.1) (three.ensures.third.asked parts.2)
    (subst (λ ps. Finishes (λ (journal : KeptJournal). journal.entries.items) (record { follow = true; first = false; quit = false }) ps c.finish.result) back c.finish.ensures)
