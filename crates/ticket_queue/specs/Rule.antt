-- The queue's rule: what its messages have to do with what its passes sent and received.
--
-- There are 1024 shares. A pass without a share receives nothing, and one with 512 or fewer sends nothing. So who has
-- more than 512 is the only sender and has sent all that was sent; who has all 1024 has received all that was received.
use Rattle.std.specs.List.Sorted.{IsPermutation}
use Rattle.std.specs.Prelude.{List, [], flat_map, sum_by, ℕ, ◌+◌, ◌++◌, ◌∷◌, ◌≡◌, ◌≤◌}
use mathlib.Core.Option.{some}
use lib.ListN.{get_elem?}
use Rattle.ticket_queue.specs.declared.view.View.{View}

module _ {M : Type 0} where
  -- nothing was sent and received yet with this share
  abbrev pub fresh : ℕ → View M
  fresh share = record { share = share; sent = []; got = [] }

  -- the view of the first pass, of one that is cut off, and of one that was joined into another
  abbrev pub first_view : View M
  first_view = fresh 1024

  abbrev pub newcomer : View M
  newcomer = fresh 1

  abbrev pub spent_view : View M
  spent_view = fresh 0

  -- a view behind a message that its pass sent, and behind one that it received
  abbrev pub view_after_send : View M → M → View M
  view_after_send view message = record view { sent = view.sent ++ message ∷ [] }

  abbrev pub view_after_receive : View M → M → View M
  view_after_receive view message = record view { got = view.got ++ message ∷ [] }

  -- a view with what another pass has and did
  abbrev pub view_after_join : View M → View M → View M
  view_after_join left right = record { share = left.share + right.share; sent = left.sent ++ right.sent; got = left.got ++ right.got }

  -- a pass without a share has received nothing, and one with half of the shares or fewer has sent nothing
  pub record IsFit (view : View M) : Type 0 where
    pub idle : view.share ≡ 0 → view.got ≡ []
    pub quiet : view.share ≤ 512 → view.sent ≡ []

  -- what was sent is, up to order, what was received and what the queue holds; and no share is lost
  pub record IsBalanced (messages : List M) (views : List (View M)) : Type 0 where
    pub shares : sum_by (λ view. view.share) views ≡ 1024
    pub all : IsPermutation (flat_map (λ view. view.sent) views) (flat_map (λ view. view.got) views ++ messages)
    pub fit : (i : ℕ) (view : View M) → get_elem? views i ≡ some view → IsFit view

  -- of what was sent, these messages aren't received yet: not by this pass, which has these, nor by others
  pub record AreUnread (sent got messages : List M) : Type 0 where
    pub others : List M
    pub all : IsPermutation sent (got ++ (others ++ messages))
