-- Items that go round: each is taken from the front of a list, and one comes back behind the others.
use Rattle.std.proofs.Common.{◌≡◌, ◌∙◌, ◌<◌, List, [], ◌∷◌, ◌++◌, length, refl, ap, sym, subst, arith, append_assoc}
use Rattle.std.proofs.lemmas.List.{append-nil, length-append}
use Rattle.std.specs.List.{AllByRecursion}
use Rattle.std.specs.Prelude.{remove, slice_index_or}

module _ {X : Type 0} where
  -- the items of a list in two parts, the one behind the other
  pub all_append : (P : X → Type 0) (xs ys : List X) → AllByRecursion P xs → AllByRecursion P ys → AllByRecursion P (xs ++ ys)
  all_append P [] ys first second = second
  all_append P (x ∷ xs) ys first second = (first.0, all_append P xs ys first.1 second)

  pub all_parts : (P : X → Type 0) (xs ys : List X) → AllByRecursion P (xs ++ ys) → AllByRecursion P xs × AllByRecursion P ys
  all_parts P [] ys each = (tt, each)
  all_parts P (x ∷ xs) ys each = let rest = all_parts P xs ys each.1 in ((each.0, rest.0), rest.1)

  -- the first item of a list, apart from the others
  pub front : (xs : List X) (x : X) (rest : List X) → 0 < length xs → x ≡ slice_index_or xs 0 x → rest ≡ remove xs 0 → xs ≡ x ∷ rest
  front [] x rest some is rest_is = absurd (omega (arith, some))
  front (y ∷ ys) x rest some is rest_is = λ i. sym is i ∷ sym rest_is i

  -- these items were taken from the front of a list, and these came back
  pub record GoesRound (olds now given done : List X) : Type 0 where
    pub left : List X
    pub olds_are : olds ≡ given ++ left
    pub now_are : now ≡ left ++ done

  pub round_none : (olds : List X) → GoesRound olds olds [] []
  round_none olds = record { left = olds; olds_are = refl; now_are = sym (append-nil olds) }

  -- one more is taken, and one comes back
  pub round_more : {olds now given done rest news : List X} (x y : X) → GoesRound olds now given done → length given < length olds → now ≡ x ∷ rest → news ≡ rest ++ y ∷ [] → GoesRound olds news (given ++ x ∷ []) (done ++ y ∷ [])
  round_more {olds} {now} {given} {done} {rest} {news} x y round more now_is news_is = go round.left round.olds_are round.now_are
    where
      go : (left : List X) → olds ≡ given ++ left → now ≡ left ++ done → GoesRound olds news (given ++ x ∷ []) (done ++ y ∷ [])
      go [] olds_are now_are = absurd (omega (arith, more, ap length (olds_are ∙ append-nil given)))
      go (l ∷ ls) olds_are now_are =
          let same : x ∷ rest ≡ l ∷ (ls ++ done) = sym now_is ∙ now_are in
          let is : x ≡ l = ap (λ zs. slice_index_or zs 0 x) same in
          let behind : rest ≡ ls ++ done = ap (λ zs. remove zs 0) same in
          record {
            left = ls;
            olds_are = olds_are ∙ ap (λ z. given ++ z ∷ ls) (sym is) ∙ sym (append_assoc given (x ∷ []) ls);
            now_are = news_is ∙ ap (λ zs. zs ++ y ∷ []) behind ∙ append_assoc ls done (y ∷ []);
          }

  -- all of them were
  pub round_end : {olds now given done : List X} → GoesRound olds now given done → length given ≡ length olds → (given ≡ olds) × (done ≡ now)
  round_end {olds} {now} {given} {done} round all = go round.left round.olds_are round.now_are
    where
      go : (left : List X) → olds ≡ given ++ left → now ≡ left ++ done → (given ≡ olds) × (done ≡ now)
      go [] olds_are now_are = (sym (append-nil given) ∙ sym olds_are, sym now_are)
      go (l ∷ ls) olds_are now_are = absurd (omega (arith, all, ap length olds_are, length-append given (l ∷ ls)))

  -- what holds of each of them holds of the next
  pub round_next : (P : X → Type 0) {olds now given done rest : List X} (x : X) → GoesRound olds now given done → length given < length olds → now ≡ x ∷ rest → AllByRecursion P olds → P x
  round_next P {olds} {now} {given} {done} {rest} x round more now_is each = go round.left round.olds_are round.now_are
    where
      go : (left : List X) → olds ≡ given ++ left → now ≡ left ++ done → P x
      go [] olds_are now_are = absurd (omega (arith, more, ap length (olds_are ∙ append-nil given)))
      go (l ∷ ls) olds_are now_are =
          subst P (sym (ap (λ zs. slice_index_or zs 0 x) (sym now_is ∙ now_are))) (all_parts P given (l ∷ ls) (subst (AllByRecursion P) olds_are each)).1.0
