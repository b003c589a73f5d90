-- How many legs are in flight over a link.
use Rattle.std.specs.Prelude.{◌≡◌, ◌≢◌, ◌<◌, ◌==◌, ◌&&◌, ℕ, Bool, true, cond, not, List, Option, None, Some, length, slice_index_or}
use Rattle.std.specs.List.{sum_by}
use Rattle.leg_index.specs.declared.links.LinkUse.{LinkUse}

-- the two are one link
abbrev pub is_link : ℕ → ℕ → ℕ → ℕ → Bool
is_link s l server link = (s == server) && (l == link)

-- how many legs an item counts on the server over the link
abbrev pub used_in : ℕ → ℕ → LinkUse → ℕ
used_in server link item = cond (is_link item.server item.link server link) item.count 0

-- how many legs are in flight on the server over the link
abbrev pub used : ℕ → ℕ → List LinkUse → ℕ
used server link items = sum_by (used_in server link) items

-- the item at an index counts a leg on the server over the link
pub record UseAt (server link : ℕ) (items : List LinkUse) (index : ℕ) : Type 0 where
  pub inside : index < length items
  pub counts : (d : LinkUse) → used_in server link (slice_index_or items index d) ≢ 0

-- it is such an item, or there is none
abbrev pub FindsUse : ℕ → ℕ → List LinkUse → Option ℕ → Type 0
FindsUse server link items None = used server link items ≡ 0
FindsUse server link items (Some index) = UseAt server link items index

-- the item at an index is of the link
pub record IsOfLink (server link : ℕ) (items : List LinkUse) (index : ℕ) : Type 0 where
  pub inside : index < length items
  pub is : (d : LinkUse) → is_link (slice_index_or items index d).server (slice_index_or items index d).link server link ≡ true

-- the item at an index counts no leg
pub record IsSpare (items : List LinkUse) (index : ℕ) : Type 0 where
  pub inside : index < length items
  pub counts : (d : LinkUse) → (slice_index_or items index d).count ≡ 0

-- the item counts a leg on the server over TCP
abbrev pub counts_tcp : ℕ → LinkUse → Bool
counts_tcp server item = (item.server == server) && not (item.link == 0) && not (item.count == 0)

-- no leg is in flight on the server over TCP
abbrev pub NoneOverTcp : ℕ → List LinkUse → Type 0
NoneOverTcp server items = (link : ℕ) → link ≢ 0 → used server link items ≡ 0

-- a leg is in flight on the server over the link, which is one over TCP
pub record IsOverTcp (server : ℕ) (items : List LinkUse) (link : ℕ) : Type 0 where
  pub tcp : link ≢ 0
  pub busy : used server link items ≢ 0
