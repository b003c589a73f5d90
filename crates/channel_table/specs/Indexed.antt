-- How what finds the legs of the rows follows them.
use Rattle.std.specs.List.{AllByRecursion}
use Rattle.std.specs.Prelude.{false, map, ◌≡◌}
use Rattle.channel_table.specs.Flown.{AreFlown}
use Rattle.channel_table.specs.Linked.{AreLinked}
use Rattle.channel_table.specs.Listed.{IsListed, IsRising}
use Rattle.channel_table.specs.Rows.{all_lookups, number_of}
use Rattle.channel_table.specs.Tally.{IsTally}
use Rattle.channel_table.specs.declared.table.rows.Rows.TheInside.{Inside}

-- the numbers of the rows rise, the attempts of the lookups are those that are found, as many attempts are in flight on each link as the links count, each row that waits is among those that do, but where that was given up, and the tally is that of the rows
pub record IsIndexed {T : Type 0} (rows : Inside T) : Type 0 where
  pub rising : IsRising (map number_of rows.list.items)
  pub flown : AreFlown rows.flown (all_lookups rows.list.items)
  pub linked : AreLinked rows.links rows.list.items
  pub listed : rows.unlisted ≡ false → AllByRecursion (IsListed rows.waiting) rows.list.items
  pub tally : IsTally rows.list.items rows.tally
