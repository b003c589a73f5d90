-- What looks at sockets add to the inbox, one behind the other.
use Rattle.std.proofs.Common.{◌≡◌, List, [], ◌∷◌, ◌++◌, refl, sym, ap, ◌∙◌}
use Rattle.std.proofs.lemmas.List.{append-nil, append_assoc}
use Rattle.std.proofs.lemmas.List.Elements.{All-nil, All-cons, All-append}
use mathlib.Core.List.{IsPrefix}
use Rattle.net_world.specs.declared.answers.Got.{Got}
use Rattle.net_world.specs.declared.answers.Got.TheVariants.{Datagram, Piece, Ended, Nothing, Failed as LinkFailed}
use Rattle.sock_engine.specs.Inbox.{BringsOnly, GivesFirst, IsTaken, IsReceived}

module _ (P : Got → Type 0) where
  -- nothing was added
  pub none_brought : (items : List Got) → BringsOnly P items items
  none_brought items = ([], sym (append-nil items), All-nil P)

  -- one item was added
  pub one_brought : (items : List Got) (got : Got) → P got → BringsOnly P items (items ++ got ∷ [])
  one_brought items got is = (got ∷ [], refl, All-cons P got [] is (All-nil P))

  -- one addition followed another
  pub both_brought : (old between new : List Got) → BringsOnly P old between → BringsOnly P between new → BringsOnly P old new
  both_brought old between new first second =
      (first.0 ++ second.0, second.1 ∙ (ap (λ items. items ++ second.0) first.1 ∙ append_assoc old first.0 second.0), All-append P first.0 second.0 first.2 second.2)

  -- what was there comes first
  pub prefix_brought : (old new : List Got) → BringsOnly P old new → IsPrefix old new
  prefix_brought old new brings = (brings.0, sym brings.1)

-- a list begins with itself
pub prefix_same : (items : List Got) → IsPrefix items items
prefix_same items = ([], append-nil items)

-- a beginning's beginning is one
pub prefix_longer : (old between new : List Got) → IsPrefix old between → IsPrefix between new → IsPrefix old new
prefix_longer old between new first second = (first.0 ++ second.0, sym (append_assoc old first.0 second.0) ∙ (ap (λ items. items ++ second.0) first.1 ∙ second.1))

-- the first item was given
pub first_given : (got : Got) (items : List Got) → IsTaken got → GivesFirst (got ∷ items) items got
first_given (Datagram server bytes) items is = record { all = Datagram server bytes ∷ items; held = λ some. refl; first = refl; none = λ same. absurd (cc same) }
first_given (Piece link bytes) items is = record { all = Piece link bytes ∷ items; held = λ some. refl; first = refl; none = λ same. absurd (cc same) }
first_given (Ended link) items is = record { all = Ended link ∷ items; held = λ some. refl; first = refl; none = λ same. absurd (cc same) }
first_given Nothing items is = absurd is
first_given (LinkFailed server link) items is = record { all = LinkFailed server link ∷ items; held = λ some. refl; first = refl; none = λ same. absurd (cc same) }

-- what is taken may be received
pub taken_received : (got : Got) → IsTaken got → IsReceived got
taken_received (Datagram server bytes) is = is
taken_received (Piece link bytes) is = is
taken_received (Ended link) is = is
taken_received Nothing is = tt
taken_received (LinkFailed server link) is = is

-- there was nothing to give
pub none_given : GivesFirst [] [] Nothing
none_given = record { all = []; held = λ some. refl; first = refl; none = λ same. refl }

-- nothing had come, and of what came then the first was given
pub first_later : (old between new : List Got) (got : Got) → old ≡ [] → GivesFirst between new got → GivesFirst old new got
first_later old between new got empty gives = record { all = gives.all; held = λ some. absurd (some empty); first = gives.first; none = gives.none }
