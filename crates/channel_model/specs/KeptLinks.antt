-- How the links that a runner keeps stand to a journal and a log.
use Rattle.std.specs.List.{list_any}
use Rattle.std.specs.Prelude.{All, IsFalse, IsTrue, IsSomeAnd, List, [], map, ℕ, ⊤, ◌∷◌, ◌≡◌, ◌≢◌}
use Rattle.chan_types.specs.declared.journal.Entry.{Entry}
use Rattle.channel_model.specs.Flight.{in_flight}
use Rattle.channel_model.specs.Journal.{past_of}
use Rattle.channel_model.specs.Links.{Link, held_link}
use Rattle.channel_model.specs.Setting.{Setting}
use Rattle.channel_model.specs.Stretch.{Standing}
use Rattle.channel_model.specs.Traffic.{is_start_on}

-- a link as a runner keeps it: its number and its server, the bytes that came and are no whole frame yet, and the bytes that are still to be written
pub record Row : Type 0 where
  pub number : ℕ
  pub server : ℕ
  pub unread : List ℕ
  pub unwritten : List ℕ

-- the row as a held link
abbrev pub link_of_row : Row → Link
link_of_row row = record { number = row.number; server = row.server; unread = row.unread }

-- no two of these numbers are one
abbrev pub AreApart : List ℕ → Type 0
AreApart [] = ⊤
AreApart (number ∷ numbers) = All (λ other. other ≢ number) numbers × AreApart numbers

-- the rows are as journal and log have it
pub record Fits (setting : Setting) (seen : List Entry) (rows : List Row) (standing : Standing) : Type 0 where
  pub past_is : standing.past ≡ past_of seen
  pub held_are : standing.held ≡ map link_of_row rows
  pub unwritten_are : All (λ row. standing.unwritten row.number ≡ row.unwritten) rows
  -- each row's link was opened by a Start, over a number that isn't that of UDP, and no two have one number
  pub opened_are : All (λ row. (row.number ≢ 0) × IsTrue (list_any (is_start_on row.number) standing.past)) rows
  pub differ : AreApart (map (λ row. row.number) rows)
  -- over a link that has no Start nothing is to be written
  pub fresh : (link : ℕ) → IsFalse (list_any (is_start_on link) standing.past) → standing.unwritten link ≡ []
  -- an attempt in flight over a link other than 0 has its link held, to its server
  pub flying : All (λ a. a.link ≢ 0 → IsSomeAnd (held_link a.link standing.held) (λ link. link.server ≡ a.server)) (in_flight setting standing.past)
