use Rattle.std.proofs.Common.{◌∙◌, ◌≡◌, ◌∷◌, ◌++◌, [], ap, arith, length, map, subst, sym}
use Rattle.std.proofs.lemmas.List.{length-map, take_at}
use Rattle.std.specs.List.{AllByRecursion}
use Rattle.std.specs.Option.{option_to_list}
use Rattle.channel_fleet.specs.Finishing.{IsRoll}
use Rattle.channel_fleet.specs.Staying.{AllBerthsStay, AllHelmsStay}
use Rattle.channel_fleet.specs.Views.{IsAtFleet}
use Rattle.channel_fleet.specs.declared.stand.Stand.{Stand}
use Rattle.channel_fleet.proofs.Theorems.{all_stay_none, fleet_may_finish, last_at, last_stays, lent_stay, new_helms, served_stay}
use Rattle.fleet_session.proofs.SessionLemmas.{one_pass, stands_len}
use Rattle.fleet_session.proofs.serving.serve_fleet.Goals as goal

pub serve-front-requires-clause-at : goal.serve-front-requires-clause-at
serve-front-requires-clause-at g c κs within =
    let last = c.pop.ensures.items ∙ ap (λ o. c.pop.new.self.items ++ option_to_list o) c.unwrap-pass.ensures in
    (last_at c.args.made.0 c.pop.new.self.items c.unwrap-pass.result (subst (AllByRecursion (IsAtFleet c.args.made.0)) last c.requires.new.1.at)).1

pub serve-front-requires-clause-helms : goal.serve-front-requires-clause-helms
serve-front-requires-clause-helms g c κs within =
    search (new_helms 1 c.requires.new.0 c.args.made.0 c.args.made.1.items c.args.made.2.items c.requires.new.1.channels, c.take_stands-stands.ensures.helms, c.deref_mut.ensures.value)

pub leave_stands-requires-clause-room : goal.leave_stands-requires-clause-room
leave_stands-requires-clause-room g c =
    let all = c.take_stands-stands.result in
    omega (arith, c.take_stands-stands.ensures.left.1, ap length c.take_stands-stands.ensures.helms, length-map all.items (λ (s : Stand g.row.B.Denot g.row.W.Denot g.row.J.Denot). s.helm), all.ok.0, c.args.made.2.ok.0, c.args.made.2.ok.1)

pub finish-roll-requires : goal.finish-roll-requires
finish-roll-requires g c =
    let all = c.take_stands-stands.result in
    let olds = c.deref_mut.result.now in
    let news = c.serve-front.new.stands in
    let helm = λ (s : Stand g.row.B.Denot g.row.W.Denot g.row.J.Denot). s.helm in
    let last = c.pop.ensures.items ∙ ap (λ o. c.pop.new.self.items ++ option_to_list o) c.unwrap-pass.ensures in
    let lent = lent_stay g.F.Front.does c.args.front c.unwrap-pass.result c.serve-front.result c.serve-front.new.pass c.serve-front.ensures.front in
    let both = last_stays c.pop.new.self.items c.pop.new.self.items c.unwrap-pass.result c.serve-front.new.pass (all_stay_none c.pop.new.self.items) lent in
    let stay = served_stay g.W.World.log g.W.World.wait_faults c.args.turns olds news c.serve-front.ensures.helms in
    let len : length news ≡ all.len = omega (arith, stands_len helm olds news stay, ap length c.deref_mut.ensures.value, all.ok.0) in
    let items = take_at news _ all.len len in
    fleet_may_finish c.push_reserved.new.self.items c.leave_stands.new.helms.items c.requires.new.1
    (subst (λ l. AllBerthsStay l c.push_reserved.new.self.items) (sym last) (subst (AllBerthsStay (c.pop.new.self.items ++ c.unwrap-pass.result ∷ [])) (sym c.push_reserved.ensures.items) both))
    (subst (λ l. AllHelmsStay l c.leave_stands.new.helms.items) (ap (map helm) c.deref_mut.ensures.value ∙ c.take_stands-stands.ensures.helms) (subst (AllHelmsStay (map helm olds)) (sym (c.leave_stands.ensures ∙ ap (map helm) items)) stay))

pub returns : goal.returns
returns g c =
    let all = c.take_stands-stands.result in
    let olds = c.deref_mut.result.now in
    let news = c.serve-front.new.stands in
    let helm = λ (s : Stand g.row.B.Denot g.row.W.Denot g.row.J.Denot). s.helm in
    let world = λ (s : Stand g.row.B.Denot g.row.W.Denot g.row.J.Denot). s.world in
    let end_of = λ (s : Stand g.row.B.Denot g.row.W.Denot g.row.J.Denot). s.end in
    let last = c.pop.ensures.items ∙ ap (λ o. c.pop.new.self.items ++ option_to_list o) c.unwrap-pass.ensures in
    let none = one_pass c.pop.new.self.items c.args.made.1.items c.unwrap-pass.result last c.requires.new.1.as_many in
    let stay = served_stay g.W.World.log g.W.World.wait_faults c.args.turns olds news c.serve-front.ensures.helms in
    let len : length news ≡ all.len = omega (arith, stands_len helm olds news stay, ap length c.deref_mut.ensures.value, all.ok.0) in
    let items = take_at news _ all.len len in
    record {
      pass = c.unwrap-pass.result;
      alone = last ∙ ap (λ l. l ++ c.unwrap-pass.result ∷ []) none;
      used = c.serve-front.new.pass;
      front_used = c.serve-front.ensures.front;
      stands = olds;
      stands_new = news;
      helms_are = ap (map helm) c.deref_mut.ensures.value ∙ c.take_stands-stands.ensures.helms;
      worlds_are = ap (map world) c.deref_mut.ensures.value ∙ c.take_stands-stands.ensures.worlds;
      served = c.serve-front.ensures.helms;
      origins = c.serve-front.ensures.origins;
      agree = c.serve-front.ensures.agree;
      ends_are = c.note_ends.ensures ∙ ap (map end_of) (c.deref.ensures.value ∙ items);
      left =
          subst (λ l. IsRoll g.J.ChannelJournal.told c.args.orders l (map helm news) c.finish-roll.result) (c.push_reserved.ensures.items ∙ ap (λ l. l ++ c.serve-front.new.pass ∷ []) none)
          (subst (λ l. IsRoll g.J.ChannelJournal.told c.args.orders c.push_reserved.new.self.items l c.finish-roll.result) (c.leave_stands.ensures ∙ ap (map helm) items) c.finish-roll.ensures);
    }
