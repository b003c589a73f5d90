-- Steps with bytes: the messages that a piece of a held link brings, a query that is sent as a datagram, and a write.
use Rattle.std.proofs.Common.{◌≡◌, ℕ, ◌==◌, if◌then◌else◌, List, [], ◌∷◌, ◌++◌, map, take, drop, Bool, true, false, refl, sym, ap, ◌∙◌}
use Rattle.std.proofs.lemmas.List.{append-nil, take-append-drop}
use Rattle.std.proofs.lemmas.Bool.{eqb-true}
use Rattle.chan_types.specs.declared.journal.Entry.{Entry}
use Rattle.net_world.specs.declared.answers.Got.TheVariants.{Piece}
use Rattle.net_world.specs.declared.answers.Wrote.TheVariants.{Count}
use Rattle.net_world.specs.declared.log.WorldCall.TheVariants.{Receive, Write}
use Rattle.channel_model.specs.Journal.{Past, followed_by}
use Rattle.channel_model.specs.Links.{held_link, held_after}
use Rattle.channel_model.specs.Setting.{Setting}
use Rattle.channel_model.specs.Stretch.{Standing, Agrees}
use Rattle.channel_model.specs.Traffic.{Parcel, of_message, noted, arrived, faulted, opened, asked, queued, noticed, brought}
use Rattle.channel_model.proofs.StepLemmas.{AreOthers, agrees_calls}

-- the seat's entries note these messages, and nothing else
pub record Brings (setting : Setting) (seat : ℕ) (past : Past) (es : List Entry) (ms : List Parcel) : Type 0 where
  pub arrivals : noted seat arrived past es ≡ ms
  pub sends : noted seat (asked setting) past es ≡ []
  pub links : noted seat opened past es ≡ []
  pub writes : (link : ℕ) → noted seat (queued setting link) past es ≡ []
  pub faults_are : noted seat faulted past es ≡ []
  pub in_order : noted seat (noticed setting) past es ≡ map of_message ms

module _ (setting : Setting) (seat : ℕ) where
  -- a piece: its entries note the messages that become whole with it, none where its link isn't held
  pub agrees_piece : (a : Standing) (es : List Entry) (number : ℕ) (bytes : List ℕ) → Brings setting seat a.past es (brought (held_link number a.held) bytes) →
      Agrees setting seat a es (Receive (Piece number bytes) ∷ []) (record { past = followed_by a.past es; held = held_after a.held (Receive (Piece number bytes) ∷ []); unwritten = a.unwritten })
  agrees_piece a es number bytes x = record {
    past_is = refl;
    held_are = refl;
    arrivals = x.arrivals ∙ sym (append-nil (brought (held_link number a.held) bytes));
    sends = x.sends;
    links = x.links;
    writes = λ k. ap (λ l. a.unwritten k ++ l) (x.writes k) ∙ append-nil (a.unwritten k);
    faults_are = x.faults_are;
    in_order = x.in_order ∙ sym (append-nil (map of_message (brought (held_link number a.held) bytes)))
        ∙ sym (append-nil (map of_message (brought (held_link number a.held) bytes) ++ []));
  }

  module _ (a : Standing) (os : List Entry) (others : AreOthers seat os) where
    -- what is still to be written behind a write of the bytes of a link, of which so many were taken
    abbrev pub without_taken : ℕ → List ℕ → ℕ → ℕ → List ℕ
    without_taken link bytes count k = if link == k then drop count bytes else a.unwritten k

    -- a write of all that is to be written to a link, of which the World takes the first bytes
    pub agrees_written : (link : ℕ) (bytes : List ℕ) (count : ℕ) → a.unwritten link ≡ bytes →
        Agrees setting seat a os (Write link bytes (Count count) ∷ []) (record { past = followed_by a.past os; held = a.held; unwritten = without_taken link bytes count })
    agrees_written link bytes count is =
        agrees_calls setting seat a os others (Write link bytes (Count count) ∷ []) (record { past = followed_by a.past os; held = a.held; unwritten = without_taken link bytes count })
        refl refl refl refl refl (λ k. by_link k (link == k) refl) refl
      where
        by_link : (k : ℕ) (b : Bool) → (link == k) ≡ b →
            a.unwritten k ≡ ((if link == k then take count bytes else []) ++ []) ++ (if link == k then drop count bytes else a.unwritten k)
        by_link k true same =
            let here : a.unwritten k ≡ bytes = ap a.unwritten (sym (eqb-true link k same)) ∙ is in
            rw same (here ∙ sym (ap (λ l. l ++ drop count bytes) (append-nil (take count bytes)) ∙ take-append-drop count bytes))
        by_link k false other = rw other refl
