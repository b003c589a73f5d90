use Rattle.std.proofs.Common.{◌≡◌, ◌∷◌, [], ◌++◌, map, ap, sym, ◌∙◌, append_assoc, rules}
use Rattle.std.specs.Prelude.{fold}
use Rattle.test_nameserver.specs.Peer.{noted}
use Rattle.test_nameserver.specs.Heard.{keys_of, key_heard, got_heard}
use Rattle.test_nameserver.proofs.hearing.note_all.Goals as goal

pub loop-one-preserved : goal.loop-one-preserved
loop-one-preserved c =
    let popped : c.loop-one.left.items ≡ c.in-Some.one ∷ c.pop_front.new.self.items = c.in-Some.ensures.items in
    record {
      room = search rules;
      item_room = search rules;
      asked = ap (λ l. fold noted l (map key_heard c.pop_front.new.self.items)) c.note_one.ensures.noted ∙ ap (λ l. fold noted (keys_of c.loop-one.asked) (map key_heard l)) (sym popped) ∙ c.loop-one.invariant.asked;
      items = ap (λ l. l ++ map got_heard c.pop_front.new.self.items) c.push_back_reserved.ensures.items ∙ append_assoc c.loop-one.items.items (c.in-Some.one.got ∷ []) (map got_heard c.pop_front.new.self.items) ∙ ap (λ l. c.loop-one.items.items ++ map got_heard l) (sym popped) ∙ c.loop-one.invariant.items;
    }
