-- How what finds the legs of the rows follows them where a Fault ends attempts.
use Rattle.channel_table.proofs.Base.{◌≡◌, ◌∙◌, ℕ, false, List, [], ◌++◌, ap, map, subst, sym, append-nil, AllByRecursion, sum_by, ConnRefused, Ticket, Failed, used, Legs, Options, FailsOver, IsUnanswered, answer_over, fails_at, IsListed, IsListedOver, IsRising, Keeps, number_of, over_in, Row, Over}
use Rattle.channel_table.proofs.MarkSteps.{fails_listed, kept, none_fails}
use Rattle.channel_table.proofs.IndexLemmas.{after_number, kept_rising}
use Rattle.channel_table.proofs.ListedLemmas.{kept_listed}
use Rattle.channel_table.specs.Indexed.{IsIndexed}
use Rattle.channel_table.specs.declared.table.rows.Rows.TheInside.{Inside}

-- more requests are among those that wait, and the rows are the same
pub more_listed : {T : Type 0} (rows : Inside T) (legs : Legs) → IsIndexed rows → Keeps rows.waiting legs → IsIndexed (record rows { waiting = legs })
more_listed rows legs indexed keeps = record {
  rising = indexed.rising;
  flown = indexed.flown;
  linked = indexed.linked;
  listed = λ on. kept_listed rows.waiting legs rows.list.items keeps (indexed.listed on);
  tally = indexed.tally;
}

module _ {T : Type 0} (options : Options) (server link most : ℕ) (rows : Inside T) (indexed : IsIndexed rows) where
  -- the numbers of the rows that stay rise
  pub fails_rising : IsRising (map number_of (kept options server link most rows.list.items))
  fails_rising =
      kept_rising (fails_at options server link most) (λ row new is. after_number options.flags (Over server link) (Failed ConnRefused) [] most row new (answer_over options server link most row) is)
      rows.list.items indexed.rising

  module _ (now : List (Row T)) (same : rows.list.items ≡ now) (unanswered : AllByRecursion (IsUnanswered options) now) where
    -- where the links count no attempt over the link, nothing changes
    pub none_counted : (tickets : List (Ticket T)) → used server link rows.links ≡ 0 → FailsOver options server link most now tickets now tickets
    none_counted tickets none =
        let stay = none_fails options server link most now unanswered (ap (sum_by (over_in server link)) (sym same) ∙ sym (indexed.linked server link) ∙ none) in
        record { kept = sym stay.0; made = sym (append-nil tickets) ∙ ap (λ ts. tickets ++ ts) (sym stay.1) }

    -- rows that stay and wait are among those that do, where all that fail are
    pub stays_listed : (legs : Legs) → Keeps rows.waiting legs → (count : ℕ) → (count ≡ sum_by (over_in server link) rows.list.items → AllByRecursion (IsListedOver server link legs) rows.list.items) → count ≡ sum_by (over_in server link) now
        → rows.unlisted ≡ false → AllByRecursion (IsListed legs) (kept options server link most rows.list.items)
    stays_listed legs keeps count over all on =
        fails_listed options server link most legs rows.list.items (kept_listed rows.waiting legs rows.list.items keeps (indexed.listed on)) (over (all ∙ ap (sum_by (over_in server link)) (sym same)))
        (subst (λ (rs : List (Row T)). AllByRecursion (IsUnanswered options) rs) (sym same) unanswered)
