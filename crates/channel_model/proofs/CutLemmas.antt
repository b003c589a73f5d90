-- Behind a stretch that agrees, one that want of memory cut short lacks no more than before.
use Rattle.std.proofs.Common.{◌≡◌, ℕ, List, [], ◌∷◌, ◌++◌, refl, sym, ap, subst, ◌∙◌, inl, inr}
use mathlib.Core.List.{IsPrefix}
use Rattle.std.proofs.lemmas.List.{append_assoc}
use Rattle.chan_types.specs.declared.journal.Entry.{Entry}
use Rattle.chan_types.specs.declared.journal.What.{What}
use Rattle.net_world.specs.declared.log.WorldCall.{WorldCall}
use Rattle.channel_model.specs.CutShort.{FallsShort, HasOneMore, MayLackOne, NearlyAgrees, NearlyInOrder, StopsShort}
use Rattle.channel_model.specs.Journal.{Past, followed_by}
use Rattle.channel_model.specs.Links.{Link, held_after, told}
use Rattle.channel_model.specs.Setting.{Setting}
use Rattle.channel_model.specs.Stretch.{Standing, Agrees}
use Rattle.channel_model.specs.Traffic.{noted, arrived, faulted, opened, asked, queued, noticed, messages, datagrams, connects, written, faults, notices}
use Rattle.channel_model.proofs.TrafficLemmas.{told-append, noted-append, joined}

-- a prefix stays one behind the same list
prefix_behind : {A : Type 0} (front xs ys : List A) → IsPrefix xs ys → IsPrefix (front ++ xs) (front ++ ys)
prefix_behind front xs ys p = (p.0, append_assoc front xs p.0 ∙ ap (λ l. front ++ l) p.1)

module _ {A : Type 0} (seat : ℕ) (notes : Past → What → List A) (tells : List Link → WorldCall → List A) (past : Past) (held : List Link) (es fs : List Entry) (cs ds : List WorldCall)
    (same : noted seat notes past es ≡ told tells held cs) where
  -- what is noted in both stretches
  both_noted : noted seat notes past (es ++ fs) ≡ told tells held cs ++ noted seat notes (followed_by past es) fs
  both_noted = noted-append seat notes past es fs ∙ ap (λ l. l ++ noted seat notes (followed_by past es) fs) same

  -- one thing more
  goes_on_behind : HasOneMore (noted seat notes (followed_by past es) fs) (told tells (held_after held cs) ds) → HasOneMore (noted seat notes past (es ++ fs)) (told tells held (cs ++ ds))
  goes_on_behind more = record {
    last = more.last;
    is_behind =
        both_noted
        ∙ ap (λ l. told tells held cs ++ l) more.is_behind
        ∙ sym (append_assoc (told tells held cs) (told tells (held_after held cs) ds) (more.last ∷ []))
        ∙ ap (λ l. l ++ more.last ∷ []) (sym (told-append tells held cs ds));
  }

  -- within the last call
  stops_short_behind : StopsShort tells (held_after held cs) ds (noted seat notes (followed_by past es) fs) → StopsShort tells held (cs ++ ds) (noted seat notes past (es ++ fs))
  stops_short_behind stops = record {
    earlier = cs ++ stops.earlier;
    last = stops.last;
    calls_are = ap (λ l. cs ++ l) stops.calls_are ∙ sym (append_assoc cs stops.earlier (stops.last ∷ []));
    reached =
        subst (λ l. IsPrefix l (noted seat notes past (es ++ fs))) (sym (told-append tells held cs stops.earlier))
        (subst (λ l. IsPrefix (told tells held cs ++ told tells (held_after held cs) stops.earlier) l) (sym both_noted)
        (prefix_behind (told tells held cs) (told tells (held_after held cs) stops.earlier) (noted seat notes (followed_by past es) fs) stops.reached));
    not_passed =
        subst (λ l. IsPrefix l (told tells held (cs ++ ds))) (sym both_noted)
        (subst (λ l. IsPrefix (told tells held cs ++ noted seat notes (followed_by past es) fs) l) (sym (told-append tells held cs ds))
        (prefix_behind (told tells held cs) (noted seat notes (followed_by past es) fs) (told tells (held_after held cs) ds) stops.not_passed));
  }

  -- the same in both stretches
  same_behind : noted seat notes (followed_by past es) fs ≡ told tells (held_after held cs) ds → noted seat notes past (es ++ fs) ≡ told tells held (cs ++ ds)
  same_behind alike = joined seat notes tells past (followed_by past es) held (held_after held cs) es fs cs ds refl refl same alike

  pub falls_behind : FallsShort tells (held_after held cs) ds (noted seat notes (followed_by past es) fs) → FallsShort tells held (cs ++ ds) (noted seat notes past (es ++ fs))
  falls_behind (inl alike) = inl (same_behind alike)
  falls_behind (inr stops) = inr (stops_short_behind stops)

  pub lacks_behind : MayLackOne tells (held_after held cs) ds (noted seat notes (followed_by past es) fs) → MayLackOne tells held (cs ++ ds) (noted seat notes past (es ++ fs))
  lacks_behind (inl alike) = inl (same_behind alike)
  lacks_behind (inr more) = inr (goes_on_behind more)

-- all in the order in which it came
in_order_behind : (setting : Setting) (seat : ℕ) (past : Past) (held : List Link) (es fs : List Entry) (cs ds : List WorldCall) →
    noted seat (noticed setting) past es ≡ told notices held cs → NearlyInOrder (held_after held cs) ds (noted seat (noticed setting) (followed_by past es) fs) →
    NearlyInOrder held (cs ++ ds) (noted seat (noticed setting) past (es ++ fs))
unfolding goes_on_behind
in_order_behind setting seat past held es fs cs ds same (inl short) = inl (falls_behind seat (noticed setting) notices past held es fs cs ds same short)
in_order_behind setting seat past held es fs cs ds same (inr more) = inr (goes_on_behind seat (noticed setting) notices past held es fs cs ds same more.0, more.1)

-- the bytes written, and those to be written
writes_behind : (setting : Setting) (seat link : ℕ) (a b : Standing) (es fs : List Entry) (cs ds : List WorldCall) → Agrees setting seat a es cs b →
    IsPrefix (told (written link) b.held ds) (b.unwritten link ++ noted seat (queued setting link) b.past fs) →
    IsPrefix (told (written link) a.held (cs ++ ds)) (a.unwritten link ++ noted seat (queued setting link) a.past (es ++ fs))
writes_behind setting seat link a b es fs cs ds x p =
    subst (λ l. IsPrefix l (a.unwritten link ++ noted seat (queued setting link) a.past (es ++ fs))) (sym told_both)
    (subst (λ l. IsPrefix (told (written link) a.held cs ++ told (written link) b.held ds) l) (sym queued_both)
    (prefix_behind (told (written link) a.held cs) (told (written link) b.held ds) (b.unwritten link ++ noted seat (queued setting link) b.past fs) p))
  where
    told_both : told (written link) a.held (cs ++ ds) ≡ told (written link) a.held cs ++ told (written link) b.held ds
    told_both = told-append (written link) a.held cs ds ∙ ap (λ h. told (written link) a.held cs ++ told (written link) h ds) (sym x.held_are)

    queued_both : a.unwritten link ++ noted seat (queued setting link) a.past (es ++ fs) ≡ told (written link) a.held cs ++ (b.unwritten link ++ noted seat (queued setting link) b.past fs)
    queued_both =
        ap (λ l. a.unwritten link ++ l) (noted-append seat (queued setting link) a.past es fs)
        ∙ ap (λ q. a.unwritten link ++ (noted seat (queued setting link) a.past es ++ noted seat (queued setting link) q fs)) (sym x.past_is)
        ∙ sym (append_assoc (a.unwritten link) (noted seat (queued setting link) a.past es) (noted seat (queued setting link) b.past fs))
        ∙ ap (λ l. l ++ noted seat (queued setting link) b.past fs) (x.writes link)
        ∙ append_assoc (told (written link) a.held cs) (b.unwritten link) (noted seat (queued setting link) b.past fs)

pub nearly_behind : (setting : Setting) (seat : ℕ) (a b : Standing) (es fs : List Entry) (cs ds : List WorldCall) →
    Agrees setting seat a es cs b → NearlyAgrees setting seat b fs ds → NearlyAgrees setting seat a (es ++ fs) (cs ++ ds)
nearly_behind setting seat a b es fs cs ds x y =
    let z : NearlyAgrees setting seat (record { past = followed_by a.past es; held = held_after a.held cs; unwritten = b.unwritten }) fs ds =
    subst (λ h. NearlyAgrees setting seat (record { past = followed_by a.past es; held = h; unwritten = b.unwritten }) fs ds) x.held_are
    (subst (λ p. NearlyAgrees setting seat (record { past = p; held = b.held; unwritten = b.unwritten }) fs ds) x.past_is y) in
    record {
      arrivals = falls_behind seat arrived messages a.past a.held es fs cs ds x.arrivals z.arrivals;
      sends = lacks_behind seat (asked setting) datagrams a.past a.held es fs cs ds x.sends z.sends;
      links = lacks_behind seat opened connects a.past a.held es fs cs ds x.links z.links;
      writes = λ link. writes_behind setting seat link a b es fs cs ds x (y.writes link);
      faults_are = falls_behind seat faulted faults a.past a.held es fs cs ds x.faults_are z.faults_are;
      in_order = in_order_behind setting seat a.past a.held es fs cs ds x.in_order z.in_order;
    }

-- a stretch that agrees lacks nothing
pub agrees_nearly : (setting : Setting) (seat : ℕ) (a b : Standing) (es : List Entry) (cs : List WorldCall) → Agrees setting seat a es cs b → NearlyAgrees setting seat a es cs
agrees_nearly setting seat a b es cs x =
    record { arrivals = inl x.arrivals; sends = inl x.sends; links = inl x.links; writes = λ link. (b.unwritten link, sym (x.writes link)); faults_are = inl x.faults_are; in_order = inl (inl x.in_order) }
