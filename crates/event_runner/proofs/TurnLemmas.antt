-- The parts of a turn, one behind the other.
use Rattle.event_runner.proofs.Base.{◌≡◌, ◌∙◌, ℕ, ◌+◌, List, [], ◌∷◌, ◌++◌, refl, ap, sym, subst, inl, inr, arith, Option, append-nil, append_assoc, Entry, WorldCall, Now, Setting, Standing, HasMade, HaveMade, Part, all_parts, parts_before, Goes, Stops, Counts, CutPart, MakesPart, Gets, State, IsCutShort, MakesTurn}
use Rattle.event_runner.proofs.CallLemmas.{log_stays}
use Rattle.event_runner.proofs.GoesLemmas.{goes_as, goes_by, goes_joined, stops_by, stops_joined}
use Rattle.event_runner.proofs.TrailLemmas.{trail_none}
use Rattle.event_runner.proofs.WithinLemmas.{counts_as, counts_joined}

module _ (setting : Setting) (seat reading : ℕ) where
  -- one part more
  haves_more : (parts : List Part) (part : Part) (a b c : Standing) (es fs : List Entry) (cs ds : List WorldCall) → HaveMade setting seat reading parts a es cs b → HasMade setting seat reading part b fs ds c →
      HaveMade setting seat reading (parts ++ part ∷ []) a (es ++ fs) (cs ++ ds) c
  haves_more [] part a b c es fs cs ds x y = record {
    middle = c;
    entries_first = fs;
    entries_then = [];
    calls_first = ds;
    calls_then = [];
    entries_are = ap (λ l. l ++ fs) x.no_entry ∙ sym (append-nil fs);
    calls_are = ap (λ l. l ++ ds) x.no_call ∙ sym (append-nil ds);
    one = subst (λ s. HasMade setting seat reading part s fs ds c) x.same y;
    two = record { no_entry = refl; no_call = refl; same = refl };
  }
  haves_more (p ∷ parts) part a b c es fs cs ds x y = record {
    middle = x.middle;
    entries_first = x.entries_first;
    entries_then = x.entries_then ++ fs;
    calls_first = x.calls_first;
    calls_then = x.calls_then ++ ds;
    entries_are = ap (λ l. l ++ fs) x.entries_are ∙ append_assoc x.entries_first x.entries_then fs;
    calls_are = ap (λ l. l ++ ds) x.calls_are ∙ append_assoc x.calls_first x.calls_then ds;
    one = x.one;
    two = haves_more parts part x.middle b c x.entries_then fs x.calls_then ds x.two y;
  }

module _ (reading : ℕ) where
  -- a turn read the clock and made these parts
  pub record SoFar (parts : List Part) (received expired started : ℕ) (setting : Setting) (seat : ℕ) (old : Standing) (entries : List Entry) (calls : List WorldCall) (new : Standing) : Type 0 where
    pub made : List WorldCall
    pub calls_are : calls ≡ Now reading ∷ made
    pub parts_are : HaveMade setting seat reading parts old entries made new
    pub counts : Counts seat entries calls received expired started

  -- it read the clock
  pub reads_clock : (a : State) (log : Option (List WorldCall)) → Gets (Now reading) a.log log → Goes (SoFar [] 0 0 0) a (record a { log = log })
  reads_clock a log got =
      goes_by (SoFar [] 0 0 0) a (record a { log = log }) [] (Now reading ∷ []) (trail_none a.known) refl got
      (λ owner from holds. (
        from,
        record {
          made = [];
          calls_are = refl;
          parts_are = record { no_entry = refl; no_call = refl; same = refl };
          counts = record { received_are = refl; expired_are = refl; started_are = refl };
        },
        record { fits = holds.fits; mixes = holds.mixes; told = holds.told },
      ))

  -- and made one part more
  pub part_more : (parts : List Part) (part : Part) (r e s q d t : ℕ) (a b c : State) → Goes (SoFar parts r e s) a b → Goes (MakesPart reading part q d t) b c → Goes (SoFar (parts ++ part ∷ []) (r + q) (e + d) (s + t)) a c
  part_more parts part r e s q d t a b c = goes_joined (SoFar parts r e s) (MakesPart reading part q d t) (SoFar (parts ++ part ∷ []) (r + q) (e + d) (s + t))
      (λ setting seat x y z es fs cs ds p m. record {
        made = p.made ++ ds;
        calls_are = ap (λ l. l ++ ds) p.calls_are;
        parts_are = haves_more setting seat reading parts part x y z es fs p.made ds p.parts_are m.made;
        counts = counts_joined seat es fs cs ds r e s q d t p.counts m.counts;
      }) a b c

  -- or was cut short in the next
  pub part_cut : (part : Part) (r e s : ℕ) (a b c : State) → Goes (SoFar (parts_before part) r e s) a b → Stops (CutPart reading part) b c → Stops IsCutShort a c
  part_cut part r e s a b c = stops_joined (SoFar (parts_before part) r e s) (CutPart reading part) IsCutShort
      (λ setting seat x y es fs cs ds p m. inr (
        reading,
        record {
          made = p.made ++ ds;
          part = part;
          calls_are = ap (λ l. l ++ ds) p.calls_are;
          parts = record {
            middle = y;
            entries_first = es;
            entries_then = fs;
            calls_first = p.made;
            calls_then = ds;
            entries_are = refl;
            calls_are = refl;
            one = p.parts_are;
            two = m;
          };
        },
      )) a b c

  -- or made all
  pub parts_all : (r e s q d t : ℕ) → r ≡ q → e ≡ d → s ≡ t → (a b : State) → Goes (SoFar all_parts r e s) a b → Goes (MakesTurn (record { reading = reading; received = q; expired = d; started = t })) a b
  parts_all r e s q d t i j k a b = goes_as (SoFar all_parts r e s) (MakesTurn (record { reading = reading; received = q; expired = d; started = t }))
      (λ setting seat x y es cs p. record {
        turn = record { made = p.made; calls_are = p.calls_are; parts = p.parts_are };
        counts = counts_as i j k p.counts;
      }) a b

-- the clock wasn't read
pub unread : (a b : State) → b.known ≡ a.known → b.log ≡ a.log → Stops IsCutShort a b
unread a b same log =
    subst (λ k. Stops IsCutShort a (record { known = k; rows = b.rows; told = b.told; mix = b.mix; log = b.log })) (sym same)
    (stops_by IsCutShort a (record { known = a.known; rows = b.rows; told = b.told; mix = b.mix; log = b.log }) [] [] (trail_none a.known) refl (log ∙ log_stays a.log) (λ owner from holds. inl (refl, refl)))

-- five parts are a turn
pub five_parts : (reading q d t : ℕ) (a b : State) → Goes (SoFar reading all_parts (0 + q + 0 + 0 + 0 + 0) (0 + 0 + d + 0 + 0 + 0) (0 + 0 + 0 + t + 0 + 0)) a b → Goes (MakesTurn (record { reading = reading; received = q; expired = d; started = t })) a b
five_parts reading q d t a b x =
    parts_all reading (0 + q + 0 + 0 + 0 + 0) (0 + 0 + d + 0 + 0 + 0) (0 + 0 + 0 + t + 0 + 0) q d t (omega arith) (omega arith) (omega arith) a b x
