-- What a turn of a seat tells its pass, and that a turn of a pass is a call of its desk.
use Rattle.std.proofs.Common.{◌≡◌, ◌∙◌, ◌<◌, ℕ, zero, suc, arith, length, List, [], ◌∷◌, ◌++◌, Option, Some, None, refl, ap, sym, subst, unwrap_or}
use Rattle.std.proofs.lemmas.List.{append_cancel_left}
use Rattle.std.specs.Option.{option_to_list}
use Rattle.std.specs.Prelude.{IsSome, slice_index_or}
use Rattle.chan_types.specs.declared.answer.Answer.{Answer}
use Rattle.chan_types.specs.declared.journal.Entry.{Entry}
use Rattle.channel_model.specs.Journal.{past_of}
use Rattle.channel_model.specs.Known.{Calls}
use Rattle.channel_model.specs.Lawful.{IsLawful}
use Rattle.channel_model.specs.Meanings.{Meaning}
use Rattle.channel_model.specs.Seen.{entries_of}
use Rattle.hosts_file.specs.declared.hosts.Hosts.{Hosts}
use Rattle.resolv_options.specs.declared.options.Options.{Options}
use Rattle.seat_lock.specs.History.{IsNewLock, IsSeatTurn, SeatView, made_by, newcomer}
use Rattle.seat_lock.proofs.Theorems.{others_between}
use Rattle.atomic_table.specs.Seated.{TableId}
use Rattle.shared_channel.specs.Making.{ArePassesOf, IsNewChannel, IsPassOf, new_pass}
use Rattle.shared_channel.specs.Passes.{Never, PassView, belongings_code, belongings_of, desk_of, pass_of, the}
use Rattle.shared_channel.specs.Turns.{IsPassTurn}
use Rattle.shared_channel.specs.Under.{Does, setting_by}

abbrev Both : Type 0
Both = Options × Hosts

abbrev maker : Entry → ℕ
maker entry = entry.seat

-- the item of an option that has one is that one
the_is : {T : Type 0} (o : Option T) (some : IsSome o) (x : T) → o ≡ Some x → the o some ≡ x
the_is None some x e = absurd (subst Never some tt)
the_is (Some y) some x e = ap (λ o. unwrap_or o y) e

-- two options that are the same have the same item
pub the_same : {T : Type 0} (a b : Option T) (p : IsSome a) (q : IsSome b) → b ≡ a → the b q ≡ the a p
the_same a None p q e = absurd (subst Never q tt)
the_same None (Some y) p q e = absurd (subst Never p tt)
the_same (Some x) (Some y) p q e = ap (λ o. unwrap_or o y) e

-- a seat that is the same has a setting where it had one
pub still_set : (old new : SeatView Entry Both) → new ≡ record old { own = new.own; seen = new.seen } → IsSome old.setting → IsSome new.setting
still_set old new same some = subst IsSome (sym (ap (λ k. k.setting) same)) some

module _ {R : Type 0} (means : Both → List Entry → ℕ → R → List Entry → Type 0) (old new : SeatView Entry Both) (p : IsSome old.setting) (q : IsSome new.setting) (calls : List Answer) (lost : ℕ) (reply : R) where
  pub pass_turn : old.own ≡ made_by maker old.number old.seen → IsSeatTurn maker means old reply new → IsPassTurn means (pass_of old p calls lost) reply (pass_of new q calls lost)
  pass_turn aware turn =
      let set : the old.setting p ≡ turn.setting = the_is old.setting p turn.setting turn.is_set in
      let kept : new.setting ≡ Some turn.setting = ap (λ k. k.setting) turn.same ∙ turn.is_set in
      let same : the new.setting q ≡ the old.setting p = the_is new.setting q turn.setting kept ∙ sym set in
      record {
        setting = turn.setting;
        is_set = ap setting_by set;
        here = turn.before;
        stands = record { others = turn.behind.0; parts = sym turn.behind.1; by_others = others_between aware turn };
        meant = turn.meant;
        made = turn.made;
        seen = turn.seen;
        own = turn.own;
        rest = λ i. record {
          lock = (turn.same i).lock;
          seats = (turn.same i).seats;
          number = (turn.same i).number;
          setting = setting_by (same i);
          own = new.own;
          seen = new.seen;
          joined = (turn.same i).joined;
          calls = calls;
          lost = lost;
        };
      }

-- the same, where the pass before is another's
pub turn_tells : {R : Type 0} (means : Both → List Entry → ℕ → R → List Entry → Type 0) (old new : SeatView Entry Both) (p : IsSome old.setting) (q : IsSome new.setting) (calls : List Answer) (lost : ℕ) (reply : R) (was : PassView)
    → pass_of old p calls lost ≡ was → old.own ≡ made_by maker old.number old.seen → IsSeatTurn maker means old reply new → IsPassTurn means was reply (pass_of new q calls lost)
turn_tells means old new p q calls lost reply was is aware turn = subst (λ (b : PassView). IsPassTurn means b reply (pass_of new q calls lost)) is (pass_turn means old new p q calls lost reply aware turn)

module _ {R : Type 0} (means : R → Meaning) (by : ℕ) (old new : PassView) (reply : R) where
  -- a turn of a pass with an operation of this meaning is a call of its desk
  pub calls_of_turn : IsPassTurn (λ setting before seat r after. Does (means r) by setting before seat after) old reply new → Calls (means reply) by (desk_of old) (desk_of new)
  calls_of_turn turn =
      let meant : Does (means reply) by turn.setting turn.here old.number new.seen = turn.meant in
      let made : option_to_list turn.made ≡ entries_of old.number by meant.added = append_cancel_left turn.here _ _ (sym turn.seen ∙ meant.journal) in
      let setting : new.setting ≡ old.setting = ap (λ p. p.setting) turn.rest in
      record {
        here = turn.here;
        added = meant.added;
        meant = subst (λ s. means reply s (past_of turn.here) meant.added) (sym turn.is_set) meant.meant;
        desk = record { setting = setting; home = ap (λ p. belongings_code.code (belongings_of p)) turn.rest; seat = ap (λ p. p.number) turn.rest; voice = refl };
        stands = turn.stands;
        seen = meant.journal;
        own = turn.own ∙ ap (λ m. old.own ++ m) made;
        names = refl;
        lawful = subst (λ s. IsLawful s new.seen) (sym (setting ∙ turn.is_set)) meant.lawful;
      }

-- a pass more for a seat more
pub passes_more : (seats : List (SeatView Entry Both)) (passes : List PassView) (seat : SeatView Entry Both) (pass : PassView) → ArePassesOf seats passes → IsPassOf seat pass → ArePassesOf (seats ++ seat ∷ []) (passes ++ pass ∷ [])
passes_more [] [] seat pass are one = (one, tt)
passes_more [] (q ∷ qs) seat pass are one = absurd are
passes_more (s ∷ ss) [] seat pass are one = absurd are
passes_more (s ∷ ss) (q ∷ qs) seat pass are one = (are.0, passes_more ss qs seat pass are.1 one)

-- the same, where the passes with it are named
pub passes_pushed : (seats : List (SeatView Entry Both)) (passes now : List PassView) (seat : SeatView Entry Both) (pass : PassView) → now ≡ passes ++ pass ∷ [] → ArePassesOf seats passes → IsPassOf seat pass → ArePassesOf (seats ++ seat ∷ []) now
passes_pushed seats passes now seat pass is are one = subst (ArePassesOf (seats ++ seat ∷ [])) (sym is) (passes_more seats passes seat pass are one)

-- the passes of a new lock's seats are those of a new channel
pub passes_new : (lock : TableId) (setting : Both) (count : ℕ) (seats : List (SeatView Entry Both)) (passes : List PassView) → IsNewLock lock setting count seats → ArePassesOf seats passes → IsNewChannel lock (setting_by setting) count passes
passes_new lock setting count seats passes new are =
    let len : length passes ≡ length seats = same_length seats passes are in
    record { all = len ∙ new.all; each = λ k d lt. each seats passes are k d (newcomer lock setting count k) (omega (arith, lt, new.all)) (new.each k (newcomer lock setting count k) lt) }
  where
    same_length : (ss : List (SeatView Entry Both)) (ps : List PassView) → ArePassesOf ss ps → length ps ≡ length ss
    same_length [] [] are = refl
    same_length [] (p ∷ ps) are = absurd are
    same_length (s ∷ ss) [] are = absurd are
    same_length (s ∷ ss) (p ∷ ps) are = omega (arith, same_length ss ps are.1)

    one : (seat : SeatView Entry Both) (pass : PassView) (number : ℕ) → IsPassOf seat pass → seat ≡ newcomer lock setting count number → pass ≡ new_pass lock (setting_by setting) count number
    one seat pass number is same = is.1 ∙ (λ i. record {
      lock = (same i).lock;
      seats = (same i).seats;
      number = (same i).number;
      setting = setting_by (the_is seat.setting is.0 setting (ap (λ k. k.setting) same) i);
      own = (same i).own;
      seen = (same i).seen;
      joined = (same i).joined;
      calls = [];
      lost = 0;
    })

    each : (ss : List (SeatView Entry Both)) (ps : List PassView) → ArePassesOf ss ps → (k : ℕ) (d : PassView) (e : SeatView Entry Both) → k < length ss → slice_index_or ss k e ≡ newcomer lock setting count k
        → slice_index_or ps k d ≡ new_pass lock (setting_by setting) count k
    each ss ps are k d e lt is = at ss ps are k k lt is
      where
        at : (ss : List (SeatView Entry Both)) (ps : List PassView) → ArePassesOf ss ps → (j number : ℕ) → j < length ss → slice_index_or ss j e ≡ newcomer lock setting count number → slice_index_or ps j d ≡ new_pass lock (setting_by setting) count number
        at [] ps are j number lt is = absurd (omega (arith, lt))
        at (s ∷ ss) [] are j number lt is = absurd are
        at (s ∷ ss) (p ∷ ps) are zero number lt is = one s p number are.0 is
        at (s ∷ ss) (p ∷ ps) are (suc j) number lt is = at ss ps are.1 j number (omega (arith, lt)) is
