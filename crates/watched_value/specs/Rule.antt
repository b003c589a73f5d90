-- The rule over the page that is shown: what the writer and each reader know of what was published.
use Rattle.std.specs.Prelude.{List, length, ℕ, ◌≡◌}
use mathlib.Core.List.{IsPrefix}
use mathlib.Core.Option.{some}
use lib.ListN.{get_elem?}
use Rattle.watched_value.specs.Latest.{latest}
use Rattle.watched_value.specs.declared.page.Page.{Page}

module _ {S : Type 0} where
  -- the page is the last of these values, or the opening one where there is none
  pub record IsPageOf (opening : S) (page : Page S) (values : List S) : Type 0 where
    pub value : page.value ≡ latest opening values
    pub number : page.number ≡ length values

  -- the page that is shown is the last of what was published, of which each side knows a beginning
  pub record IsTold (opening : S) (page : Page S) (sides : List (List S)) : Type 0 where
    pub told : List S
    pub shown : IsPageOf opening page told
    pub each : (i : ℕ) (known : List S) → get_elem? sides i ≡ some known → IsPrefix known told
