use Rattle.std.proofs.Common.{◌≡◌, ◌+◌, ◌∙◌, ap, length, subst, sym}
use Rattle.left_right.specs.Sides.{view}
use Rattle.watched_value.specs.Rule.{IsPageOf}
use Rattle.watched_value.proofs.KeptLemmas.{added, adds, ok_part, shown_next}
use Rattle.watched_value.proofs.publisher.show.Goals as goal

pub publish_as-writer-requires : goal.publish_as-writer-requires
publish_as-writer-requires g c next is =
    let same = shown_next _ _ next _ _ c.requires.none c.in-Ok.ensures.pending is in
    let desk = c.in-Ok.ensures.desk in
    let all : c.append.new.self.desk.shown.value.number ≡ length (view c.append.new.self.desk.place) = subst (λ d. d.shown.value.number ≡ length (view d.place)) (sym desk) c.requires.whole.number in
    let more : next.number ≡ length (view c.append.new.self.desk.place) + 1 = ap (λ p. p.number) same ∙ c.requires.next ∙ ap (λ d. d.shown.value.number + 1) (sym desk) ∙ ap (λ n. n + 1) all in
    adds g.S.Opening.opening _ _ _ _ all more

pub returns-in-Ok-clause-whole : goal.returns-in-Ok-clause-whole
returns-in-Ok-clause-whole g c =
    let e = c.publish_as-writer.ensures in
    let ok = e.succeeds tt in
    let same = shown_next _ _ c.publish_as-writer.result.0.desk.shown.value _ _ c.requires.none c.in-Ok.ensures.pending (ok_part _ _ c.publish_as-writer.result.1 ok e.values).1.0 in
    let desk = c.in-Ok.ensures.desk in
    let rule = (ok_part _ _ c.publish_as-writer.result.1 ok e.rule).1 in
    let all : c.append.new.self.desk.shown.value.number ≡ length (view c.append.new.self.desk.place) = subst (λ d. d.shown.value.number ≡ length (view d.place)) (sym desk) c.requires.whole.number in
    let more : c.publish_as-writer.result.0.desk.shown.value.number ≡ length (view c.append.new.self.desk.place) + 1 = ap (λ p. p.number) same ∙ c.requires.next ∙ ap (λ d. d.shown.value.number + 1) (sym desk) ∙ ap (λ n. n + 1) all in
    subst (λ l. IsPageOf g.S.Opening.opening c.publish_as-writer.result.0.desk.shown.value l) (sym rule) (added g.S.Opening.opening c.publish_as-writer.result.0.desk.shown.value (view c.append.new.self.desk.place) more)
