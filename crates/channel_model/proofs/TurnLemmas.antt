-- A turn agrees, and so does a course.
use Rattle.std.proofs.Common.{ℕ, List, [], ◌∷◌, ◌++◌, refl, sym, subst}
use Rattle.std.proofs.lemmas.List.{append-nil}
use Rattle.chan_types.specs.declared.journal.Entry.{Entry}
use Rattle.net_world.specs.declared.log.WorldCall.{WorldCall}
use Rattle.net_world.specs.declared.log.WorldCall.TheVariants.{Now}
use Rattle.channel_model.specs.Setting.{Setting}
use Rattle.channel_model.specs.Stretch.{Standing, Agrees, IsIdle}
use Rattle.channel_model.specs.Turn.{Part, receiving, expiring, starting, writing, closing, all_parts, HasReceived, HasExpired, HasStarted, HasWritten, HasClosed, HasMade, HaveMade, IsTurn}
use Rattle.channel_model.proofs.TrafficLemmas.{agrees_trans, agrees_none}

module _ (setting : Setting) (seat : ℕ) where
  -- a part of a turn agrees
  pub part_agrees : (reading : ℕ) (part : Part) (a : Standing) (es : List Entry) (cs : List WorldCall) (b : Standing) →
      HasMade setting seat reading part a es cs b → Agrees setting seat a es cs b
  part_agrees reading receiving a es cs b made = made.agrees
  part_agrees reading expiring a es cs b made = made.agrees
  part_agrees reading starting a es cs b made = made.agrees
  part_agrees reading writing a es cs b made = made.agrees
  part_agrees reading closing a es cs b made = made.agrees

  -- where nothing was done
  idle_agrees : (a : Standing) (es : List Entry) (cs : List WorldCall) (b : Standing) → IsIdle a es cs b → Agrees setting seat a es cs b
  idle_agrees a es cs b idle =
      subst (λ x. Agrees setting seat a x cs b) (sym idle.no_entry)
      (subst (λ x. Agrees setting seat a [] x b) (sym idle.no_call)
      (subst (λ x. Agrees setting seat a [] [] x) (sym idle.same) (agrees_none setting seat a)))

  -- parts of a turn, one behind the other, agree
  pub parts_agree : (reading : ℕ) (parts : List Part) (a : Standing) (es : List Entry) (cs : List WorldCall) (b : Standing) →
      HaveMade setting seat reading parts a es cs b → Agrees setting seat a es cs b
  parts_agree reading [] a es cs b made = idle_agrees a es cs b made
  parts_agree reading (part ∷ parts) a es cs b made =
      subst (λ x. Agrees setting seat a x cs b) (sym made.entries_are)
      (subst (λ x. Agrees setting seat a (made.entries_first ++ made.entries_then) x b) (sym made.calls_are)
      (agrees_trans setting seat a made.middle b made.entries_first made.entries_then made.calls_first made.calls_then
      (part_agrees reading part a made.entries_first made.calls_first made.middle made.one)
      (parts_agree reading parts made.middle made.entries_then made.calls_then b made.two)))

  -- the reading of the clock tells nothing
  pub now_agrees : (reading : ℕ) (a : Standing) → Agrees setting seat a [] (Now reading ∷ []) a
  now_agrees reading a =
      record { past_is = refl; held_are = refl; arrivals = refl; sends = refl; links = refl; writes = λ link. append-nil (a.unwritten link); faults_are = refl; in_order = refl }

  -- a turn agrees
  pub turn_agrees : (reading : ℕ) (a : Standing) (es : List Entry) (cs : List WorldCall) (b : Standing) →
      IsTurn setting seat reading a es cs b → Agrees setting seat a es cs b
  turn_agrees reading a es cs b turn =
      subst (λ x. Agrees setting seat a es x b) (sym turn.calls_are)
      (agrees_trans setting seat a a b [] es (Now reading ∷ []) turn.made (now_agrees reading a) (parts_agree reading all_parts a es turn.made b turn.parts))

-- five parts in a row are a turn
pub turn_of : (setting : Setting) (seat reading : ℕ) (a heard lapsed begun flushed b : Standing) (e1 e2 e3 e4 e5 : List Entry) (c1 c2 c3 c4 c5 : List WorldCall) →
    HasReceived setting seat reading a e1 c1 heard → HasExpired setting seat reading heard e2 c2 lapsed → HasStarted setting seat reading lapsed e3 c3 begun →
    HasWritten setting seat reading begun e4 c4 flushed → HasClosed setting seat reading flushed e5 c5 b →
    IsTurn setting seat reading a (e1 ++ (e2 ++ (e3 ++ (e4 ++ (e5 ++ []))))) (Now reading ∷ c1 ++ (c2 ++ (c3 ++ (c4 ++ (c5 ++ []))))) b
turn_of setting seat reading a heard lapsed begun flushed b e1 e2 e3 e4 e5 c1 c2 c3 c4 c5 r x s w c = record {
  made = c1 ++ (c2 ++ (c3 ++ (c4 ++ (c5 ++ []))));
  calls_are = refl;
  parts = record {
    middle = heard;
    entries_first = e1;
    entries_then = e2 ++ (e3 ++ (e4 ++ (e5 ++ [])));
    calls_first = c1;
    calls_then = c2 ++ (c3 ++ (c4 ++ (c5 ++ [])));
    entries_are = refl;
    calls_are = refl;
    one = r;
    two = record {
      middle = lapsed;
      entries_first = e2;
      entries_then = e3 ++ (e4 ++ (e5 ++ []));
      calls_first = c2;
      calls_then = c3 ++ (c4 ++ (c5 ++ []));
      entries_are = refl;
      calls_are = refl;
      one = x;
      two = record {
        middle = begun;
        entries_first = e3;
        entries_then = e4 ++ (e5 ++ []);
        calls_first = c3;
        calls_then = c4 ++ (c5 ++ []);
        entries_are = refl;
        calls_are = refl;
        one = s;
        two = record {
          middle = flushed;
          entries_first = e4;
          entries_then = e5 ++ [];
          calls_first = c4;
          calls_then = c5 ++ [];
          entries_are = refl;
          calls_are = refl;
          one = w;
          two = record {
            middle = b;
            entries_first = e5;
            entries_then = [];
            calls_first = c5;
            calls_then = [];
            entries_are = refl;
            calls_are = refl;
            one = c;
            two = record { no_entry = refl; no_call = refl; same = refl };
          };
        };
      };
    };
  };
}
