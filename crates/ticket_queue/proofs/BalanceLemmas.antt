-- Each step keeps the queue's rule, and what a pass learns from it.
use Rattle.std.proofs.Common.{◌≡◌, ◌≢◌, ◌<◌, ⊎_elim, ℕ, zero, suc, ◌-◌, List, [], ◌∷◌, ◌++◌, refl, ap₂, sym, subst, ◌∙◌, arith, set, append_assoc, flat_map}
use Rattle.std.proofs.lemmas.List.{append-nil}
use Rattle.std.proofs.lemmas.List.Concat.{flat_map-append}
use Rattle.std.proofs.lemmas.List.Sorted.{IsPermutation-append_left, IsPermutation-refl, IsPermutation-sym, IsPermutation-trans}
use Rattle.std.specs.List.Sorted.{IsPermutation}
use mathlib.Core.Option.{some, some-injective, some-ne-none}
use lib.ListN.{get_elem?}
use Rattle.atomic_table.proofs.Lists.{at_set, at_snoc, set_else}
use Rattle.crossbeam_channel.specs.Fifo.{Forks, Learns, Merges, Pops, Pushes}
use Rattle.ticket_queue.specs.declared.view.View.{View}
use Rattle.ticket_queue.specs.Rule.{AreUnread, IsBalanced, IsFit, first_view, newcomer, spent_view, view_after_join, view_after_receive, view_after_send}
use Rattle.ticket_queue.proofs.ViewLemmas.{alone, emptied, grown, moved, same_order, sum_set, sum_snoc, sum_two, unmoved}

module _ {M : Type 0} where
  abbrev share_of : View M → ℕ
  share_of view = view.share

  abbrev sent_of : View M → List M
  sent_of view = view.sent

  abbrev got_of : View M → List M
  got_of view = view.got

  abbrev AreFit : List (View M) → Type 0
  AreFit views = (i : ℕ) (view : View M) → get_elem? views i ≡ some view → IsFit view

  -- views fit after a change of one that fits, and with one more that fits
  fit_set : (views : List (View M)) (port : ℕ) (w : View M) → AreFit views → IsFit w → AreFit (set views port w)
  fit_set views port w all one i view at = ⊎_elim (λ (is : (i ≡ port) × (w ≡ view)). subst IsFit is.1 one) (λ (is : (i ≢ port) × (get_elem? views i ≡ some view)). all i view is.1) (at_set views port i w view at)

  fit_snoc : (views : List (View M)) (w : View M) → AreFit views → IsFit w → AreFit (views ++ w ∷ [])
  fit_snoc views w all one i view at = ⊎_elim (λ (is : get_elem? views i ≡ some view). all i view is) (λ (is : w ≡ view). subst IsFit is one) (at_snoc views w view i at)

  -- a new queue is balanced
  pub begins : IsBalanced {M = M} [] (first_view ∷ [])
  begins = record {
    shares = refl;
    all = IsPermutation-refl [];
    fit = λ i view at. fit_first i view at;
  }
    where
      fit_first : (i : ℕ) (view : View M) → get_elem? (first_view ∷ []) i ≡ some view → IsFit view
      fit_first zero view at = subst IsFit (some-injective first_view view at) (record { idle = λ none. refl; quiet = λ few. refl })
      fit_first (suc i) view at = absurd (some-ne-none view (sym at))

  -- the pass that may send adds a message
  pub sends : (n port : ℕ) (v : View M) (m : M) → 512 < v.share → Pushes IsBalanced n port v m (λ w. w ≡ view_after_send v m)
  sends n port v m may messages views room held at =
      let w = view_after_send v m in
      let was = held.fit port v at in
      let sent = flat_map sent_of views in
      let got = flat_map got_of views in (
        w,
        record {
          shares = omega (arith, held.shares, sum_set share_of views port v w at);
          all = subst (λ l. IsPermutation (flat_map sent_of (set views port w)) (l ++ (messages ++ m ∷ []))) (sym (unmoved got_of views port v w at refl))
              (IsPermutation-trans (flat_map sent_of (set views port w)) (sent ++ m ∷ []) (got ++ (messages ++ m ∷ [])) (grown sent_of views port v w (m ∷ []) at refl)
              (IsPermutation-trans (sent ++ m ∷ []) ((got ++ messages) ++ m ∷ []) (got ++ (messages ++ m ∷ [])) (IsPermutation-append_left (m ∷ []) sent (got ++ messages) held.all)
              (same_order ((got ++ messages) ++ m ∷ []) (got ++ (messages ++ m ∷ [])) (append_assoc got messages (m ∷ [])))));
          fit = fit_set views port w held.fit (record { idle = was.idle; quiet = λ few. absurd (omega (arith, few, may)) });
        },
        refl,
      )

  -- a pass with a share takes the first message
  pub receives : (port : ℕ) (v : View M) → 0 < v.share → Pops IsBalanced port v (λ m w. w ≡ view_after_receive v m)
  receives port v may m messages views held at =
      let w = view_after_receive v m in
      let was = held.fit port v at in
      let sent = flat_map sent_of views in
      let got = flat_map got_of views in
      let more = flat_map got_of (set views port w) in (
        w,
        record {
          shares = omega (arith, held.shares, sum_set share_of views port v w at);
          all = subst (λ l. IsPermutation l (more ++ messages)) (sym (unmoved sent_of views port v w at refl))
              (IsPermutation-trans sent ((got ++ m ∷ []) ++ messages) (more ++ messages)
              (subst (IsPermutation sent) (sym (append_assoc got (m ∷ []) messages)) held.all)
              (IsPermutation-append_left messages (got ++ m ∷ []) more (IsPermutation-sym more (got ++ m ∷ []) (grown got_of views port v w (m ∷ []) at refl))));
          fit = fit_set views port w held.fit (record { idle = λ none. absurd (omega (arith, none, may)); quiet = was.quiet });
        },
        refl,
      )

  -- a share is cut off
  pub forks : (port : ℕ) (v : View M) → 513 < v.share → Forks IsBalanced port v (record v { share = v.share - 1 }) newcomer
  forks port v may messages views held at =
      let w : View M = record v { share = v.share - 1 } in
      let was = held.fit port v at in
      let changed = set views port w in
      record {
        shares = omega (arith, held.shares, may, sum_set share_of views port v w at, sum_snoc share_of changed newcomer);
        all = subst (λ (l : List M × List M). IsPermutation l.0 (l.1 ++ messages))
            (λ i. (sym (flat_map-append sent_of changed (newcomer ∷ []) ∙ append-nil (flat_map sent_of changed) ∙ unmoved sent_of views port v w at refl) i, sym (flat_map-append got_of changed (newcomer ∷ []) ∙ append-nil (flat_map got_of changed) ∙ unmoved got_of views port v w at refl) i))
            held.all;
        fit = fit_snoc changed newcomer (fit_set views port w held.fit (record { idle = λ none. absurd (omega (arith, none, may)); quiet = λ few. absurd (omega (arith, few, may)) })) (record { idle = λ none. refl; quiet = λ few. refl });
      }

  -- a pass takes in another
  pub merges : (port : ℕ) (v : View M) (other : ℕ) (u : View M) → Merges IsBalanced port v other u (view_after_join v u) spent_view
  merges port v other u messages views held at apart there =
      let w = view_after_join v u in
      let was : get_elem? views other ≡ some u = sym (set_else views port other w apart) ∙ there in
      let left = held.fit port v at in
      let right = held.fit other u was in
      let sent = flat_map sent_of views in
      let got = flat_map got_of views in
      let after = set (set views port w) other spent_view in
      let fits : IsFit w = record {
        idle = λ none. ap₂ (λ xs ys. xs ++ ys) (left.idle (omega (arith, none))) (right.idle (omega (arith, none)));
        quiet = λ few. ap₂ (λ xs ys. xs ++ ys) (left.quiet (omega (arith, few))) (right.quiet (omega (arith, few)));
      } in
      record {
        shares = omega (arith, held.shares, sum_set share_of views port v w at, sum_set share_of (set views port w) other u spent_view there);
        all =
            IsPermutation-trans (flat_map sent_of after) sent (flat_map got_of after ++ messages) (moved sent_of views port v w other u spent_view at was apart refl refl)
            (IsPermutation-trans sent (got ++ messages) (flat_map got_of after ++ messages) held.all
            (IsPermutation-append_left messages got (flat_map got_of after) (IsPermutation-sym (flat_map got_of after) got (moved got_of views port v w other u spent_view at was apart refl refl))));
        fit = fit_set (set views port w) other spent_view (fit_set views port w held.fit fits) (record { idle = λ none. refl; quiet = λ few. refl });
      }

  -- who may send has sent all that was sent
  all_sent : (messages : List M) (views : List (View M)) (port : ℕ) (v : View M) → 512 < v.share → IsBalanced messages views → get_elem? views port ≡ some v → flat_map sent_of views ≡ v.sent
  all_sent messages views port v may held at =
      alone sent_of views port v at (λ i u apart there. (held.fit i u there).quiet (omega (arith, may, held.shares, sum_two share_of views port v i u at there apart)))

  -- what it has sent is what it has received itself, what others have, and what the queue holds
  pub unread : (port : ℕ) (v : View M) → 512 < v.share → Learns IsBalanced port v (AreUnread v.sent v.got)
  unread port v may messages views held at =
      let got = flat_map got_of views in
      let others = flat_map got_of (set views port spent_view) in
      record {
        others = others;
        all = subst (λ l. IsPermutation l (v.got ++ (others ++ messages))) (all_sent messages views port v may held at)
            (IsPermutation-trans (flat_map sent_of views) (got ++ messages) (v.got ++ (others ++ messages)) held.all
            (IsPermutation-trans (got ++ messages) ((v.got ++ others) ++ messages) (v.got ++ (others ++ messages))
            (IsPermutation-append_left messages got (v.got ++ others) (IsPermutation-sym (v.got ++ others) got (emptied got_of views port v spent_view at refl)))
            (same_order ((v.got ++ others) ++ messages) (v.got ++ (others ++ messages)) (append_assoc v.got others messages))));
      }

  -- who has all shares has sent and received all that was
  pub totals : (port : ℕ) (v : View M) → v.share ≡ 1024 → Learns IsBalanced port v (λ messages. IsPermutation v.sent (v.got ++ messages))
  totals port v all messages views held at =
      let none : (i : ℕ) (u : View M) → i ≢ port → get_elem? views i ≡ some u → u.share ≡ 0 = (λ i u apart there. omega (arith, all, held.shares, sum_two share_of views port v i u at there apart)) in
      subst (λ (l : List M × List M). IsPermutation l.0 (l.1 ++ messages))
      (λ i. (all_sent messages views port v (omega (arith, all)) held at i, alone got_of views port v at (λ j u apart there. (held.fit j u there).idle (none j u apart there)) i)) held.all
