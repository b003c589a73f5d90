-- What is left of a channel through whose four passes requests were asked.
use Rattle.std.proofs.Common.{◌≡◌, ◌∙◌, ◌+◌, ◌<◌, ◌==◌, ℕ, zero, suc, Bool, true, false, cond, List, [], ◌∷◌, ◌++◌, Some, None, length, length-append, map, refl, ap, ap₂, sym, subst, arith, eq-eqb, inl, inr, ◌⊎◌}
use Rattle.std.proofs.lemmas.List.{append_cancel_left, map-append}
use Rattle.std.proofs.lemmas.List.Elements.{filter_map-append}
use Rattle.std.specs.List.{AllByRecursion, Contains}
use Rattle.atomic_table.specs.Seated.{TableId}
use Rattle.channel_journal.specs.declared.kept.KeptJournal.{KeptJournal}
use Rattle.chan_types.specs.declared.journal.Entry.{Entry}
use Rattle.chan_types.specs.declared.journal.What.TheVariants.{Destroy}
use Rattle.chan_types.specs.declared.orders.Orders.{Orders}
use Rattle.chan_types.specs.declared.spec.Spec.{Spec}
use Rattle.channel_model.proofs.Theorems.{each-then, filter_all}
use Rattle.channel_model.specs.Journal.{own_entries}
use Rattle.channel_model.specs.Known.{Calls}
use Rattle.channel_model.specs.Meanings.{Destroys}
use Rattle.channel_model.specs.Seen.{entries_of}
use Rattle.channel_model.specs.Setting.{Setting}
use Rattle.completion_ticket.specs.States.{CalledState}
use Rattle.shared_channel.specs.Finishing.{AnswersAll, DeliversSome, EmptiesChannel, Finishes, IsNumberOfOne, LeavesNothing}
use Rattle.shared_channel.specs.Making.{IsNewChannel, new_pass}
use Rattle.shared_channel.specs.Passes.{PassView, desk_of}
use Rattle.shared_channel.specs.declared.finishing.Finished.{Finished}
use Rattle.shared_channel.proofs.Theorems.{WentOn, went_all, went_destroy, went_on}
use Rattle.thread_lookups.specs.Asking.{Use, destroying, free_use, quiet_ask, uses_in}
use Rattle.thread_lookups.specs.Passing.{AsksEach, OnlyRuns}
use Rattle.thread_lookups.specs.Shared.{AreAnswered, journal_of}
use Rattle.thread_lookups.proofs.RunLemmas.{delivery_asks, nothing_asked, nothing_more}

-- deliveries at the end of a channel
some_ask : (orders : Orders) (calleds : List CalledState) (old new : PassView) → DeliversSome orders old calleds new → OnlyRuns old new
some_ask orders [] old new same = subst (OnlyRuns old) (sym same) (nothing_asked old)
some_ask orders (c ∷ cs) old new some = nothing_more old some.0 new (delivery_asks orders (Some c) old some.0 some.1) (some_ask orders cs some.0 new some.2)

-- what a destroy notes: the first one itself, and a later one nothing
abbrev pub destroyed_by : Bool → List Use
destroyed_by true = destroying ∷ []
destroyed_by false = []

destroy_uses : (is_first : Bool) (old new : PassView) → Calls (Destroys is_first) 0 (desk_of old) (desk_of new) → uses_in new.own ≡ uses_in old.own ++ destroyed_by is_first
destroy_uses is_first old new call =
    ap uses_in call.own ∙ filter_map-append free_use old.own (entries_of old.number 0 call.added) ∙ ap (λ uses. uses_in old.own ++ uses) (by_first is_first call.meant.entry)
  where
    by_first : (b : Bool) → call.added ≡ cond b (Some Destroy) None → uses_in (entries_of old.number 0 call.added) ≡ destroyed_by b
    by_first true is = ap (λ added. uses_in (entries_of old.number 0 added)) is
    by_first false is = ap (λ added. uses_in (entries_of old.number 0 added)) is

module _ (orders : Orders) (all last : PassView) (emptied : EmptiesChannel orders all last) where
  end_uses : uses_in last.own ≡ uses_in all.own ++ destroyed_by emptied.is_first
  end_uses =
      let delivered = emptied.delivered in
      (delivery_asks orders None delivered.middle last delivered.none).uses
      ∙ (some_ask orders delivered.called emptied.destroyed delivered.middle delivered.some).uses
      ∙ destroy_uses emptied.is_first all emptied.destroyed emptied.destroys

  end_went : WentOn all last
  end_went = went_on all emptied.destroyed last (went_destroy emptied.is_first all emptied.destroyed emptied.destroys) (went_all orders emptied.destroyed last emptied.delivered)

-- what one pass of four has as its number is below four
number_below : (number : ℕ) → Contains (0 ∷ 1 ∷ 2 ∷ 3 ∷ []) number → number < 4
number_below number (zero, lt, is) = omega (arith, is)
number_below number (suc zero, lt, is) = omega (arith, is)
number_below number (suc (suc zero), lt, is) = omega (arith, is)
number_below number (suc (suc (suc zero)), lt, is) = omega (arith, is)
number_below number (suc (suc (suc (suc k))), lt, is) = absurd (omega (arith, lt))

module _ {lock : TableId} {setting : Setting} {orders : Orders} (p₀ p₁ p₂ p₃ q₀ q₁ q₂ q₃ : PassView) (specs₁ specs₂ specs₃ : List Spec) (finished : Finished KeptJournal)
    (new : IsNewChannel lock setting 4 (p₀ ∷ p₁ ∷ p₂ ∷ p₃ ∷ []))
    (ran : OnlyRuns p₀ q₀) (asked₁ : AsksEach specs₁ p₁ q₁) (asked₂ : AsksEach specs₂ p₂ q₂) (asked₃ : AsksEach specs₃ p₃ q₃)
    (ends : Finishes (λ (journal : KeptJournal). journal.entries.items) orders (q₀ ∷ q₁ ∷ q₂ ∷ q₃ ∷ []) finished) where
  new₀ : p₀ ≡ new_pass lock setting 4 0
  new₀ = new.each 0 p₀ (omega arith)

  new₁ : p₁ ≡ new_pass lock setting 4 1
  new₁ = new.each 1 p₁ (omega arith)

  new₂ : p₂ ≡ new_pass lock setting 4 2
  new₂ = new.each 2 p₂ (omega arith)

  new₃ : p₃ ≡ new_pass lock setting 4 3
  new₃ = new.each 3 p₃ (omega arith)

  number₀ : q₀.number ≡ 0
  number₀ = ap (λ p. p.number) ran.stays.same ∙ ap (λ p. p.number) new₀

  number₁ : q₁.number ≡ 1
  number₁ = ap (λ p. p.number) asked₁.makes.stays.same ∙ ap (λ p. p.number) new₁

  number₂ : q₂.number ≡ 2
  number₂ = ap (λ p. p.number) asked₂.makes.stays.same ∙ ap (λ p. p.number) new₂

  number₃ : q₃.number ≡ 3
  number₃ = ap (λ p. p.number) asked₃.makes.stays.same ∙ ap (λ p. p.number) new₃

  abbrev all : PassView
  all = ends.all

  abbrev journal : List Entry
  journal = journal_of finished

  all_is : all ≡ record q₀ { seen = all.seen; joined = all.joined; calls = all.calls; lost = all.lost }
  all_is = ends.joined.first

  all_number : all.number ≡ 0
  all_number = ap (λ p. p.number) all_is ∙ number₀

  all_setting : all.setting ≡ setting
  all_setting = ap (λ p. p.setting) all_is ∙ ap (λ p. p.setting) ran.stays.same ∙ ap (λ p. p.setting) new₀

  numbers : map (λ (pass : PassView). pass.number) (q₀ ∷ q₁ ∷ q₂ ∷ q₃ ∷ []) ≡ 0 ∷ 1 ∷ 2 ∷ 3 ∷ []
  numbers i = number₀ i ∷ number₁ i ∷ number₂ i ∷ number₃ i ∷ []

  makers : AllByRecursion (λ (entry : Entry). entry.seat < 4) journal
  makers = each-then (λ (entry : Entry). IsNumberOfOne (q₀ ∷ q₁ ∷ q₂ ∷ q₃ ∷ []) entry.seat) (λ (entry : Entry). entry.seat < 4) journal
      (λ entry one. number_below entry.seat (subst (λ ns. Contains ns entry.seat) numbers one)) ends.journal.makers

  -- what an asking thread made is what its seat made of the journal
  asker : (specs : List Spec) (k : ℕ) (p q : PassView) → p ≡ new_pass lock setting 4 k → q.number ≡ k → (each : AsksEach specs p q) → q.own ≡ own_entries q.number journal
      → map free_use (own_entries k journal) ≡ map (λ spec. Some (quiet_ask spec)) specs
  asker specs k p q new_p number each owns =
      let made : q.own ≡ each.entries = each.makes.own ∙ ap (λ pass. pass.own ++ each.entries) new_p in
      let of_seat : own_entries k journal ≡ each.entries = ap (λ n. own_entries n journal) (sym number) ∙ sym owns ∙ made in
      ap (map free_use) of_seat ∙ each.asked

  -- the thread that ran the channel did nothing else, and the end destroyed it, once at most
  runner : uses_in (own_entries 0 journal) ≡ destroyed_by ends.emptied.is_first
  runner =
      let made : List Entry = ends.journal.made in
      let went = end_went orders all ends.last ends.emptied in
      let since_is : went.since ≡ made = append_cancel_left all.seen went.since made (sym went.seen ∙ sym ends.seen ∙ ends.journal.parts) in
      let own_made : own_entries all.number made ≡ made =
      filter_all (λ entry. entry.seat == all.number) made (each-then (λ (entry : Entry). entry.seat ≡ all.number) (λ entry. (entry.seat == all.number) ≡ true) made (λ entry is. eq-eqb entry.seat all.number is) ends.journal.made_by_first) in
      let last_own : ends.last.own ≡ all.own ++ made = went.own ∙ ap (λ es. all.own ++ own_entries all.number es) since_is ∙ ap (λ es. all.own ++ es) own_made in
      let all_own : uses_in all.own ≡ [] = ap (λ p. uses_in p.own) all_is ∙ ran.uses ∙ ap (λ p. uses_in p.own) new₀ in
      ap (λ n. uses_in (own_entries n journal)) (sym all_number) ∙ ap uses_in (ends.journal.first_owns ∙ sym last_own)
      ∙ end_uses orders all ends.last ends.emptied ∙ ap (λ uses. uses ++ destroyed_by ends.emptied.is_first) all_own

  once_at_most : (b : Bool) → uses_in (own_entries 0 journal) ≡ destroyed_by b → (uses_in (own_entries 0 journal) ≡ []) ⊎ (uses_in (own_entries 0 journal) ≡ destroying ∷ [])
  once_at_most true is = inr is
  once_at_most false is = inl is

  pub are_answered : AreAnswered setting (specs₁ ++ specs₂ ++ specs₃) finished
  are_answered =
      let owns = ends.journal.owns in
      let one = asker specs₁ 1 p₁ q₁ new₁ number₁ asked₁ owns.0 in
      let two = asker specs₂ 2 p₂ q₂ new₂ number₂ asked₂ owns.1.0 in
      let three = asker specs₃ 3 p₃ q₃ new₃ number₃ asked₃ owns.1.1.0 in
      record {
        nothing = subst (λ s. LeavesNothing s journal) all_setting ends.nothing;
        makers = makers;
        asked = map-append free_use (own_entries 1 journal ++ own_entries 2 journal) (own_entries 3 journal)
            ∙ ap₂ (λ xs ys. xs ++ ys) (map-append free_use (own_entries 1 journal) (own_entries 2 journal) ∙ ap₂ (λ xs ys. xs ++ ys) one two) three
            ∙ sym (map-append (λ spec. Some (quiet_ask spec)) (specs₁ ++ specs₂) specs₃
            ∙ ap (λ xs. xs ++ map (λ spec. Some (quiet_ask spec)) specs₃) (map-append (λ spec. Some (quiet_ask spec)) specs₁ specs₂));
        ran = once_at_most ends.emptied.is_first runner;
        accepted_are = ends.accepted_are;
        answers = subst (λ s. AnswersAll s journal finished.accepted finished.calls) all_setting ends.answers;
      }

-- four passes that were taken out of a row of four, from its end
pub four : (all without_d without_c without_b rest : List PassView) (a b c d : PassView) → all ≡ without_d ++ d ∷ [] → without_d ≡ without_c ++ c ∷ [] → without_c ≡ without_b ++ b ∷ [] → without_b ≡ rest ++ a ∷ [] → length all ≡ 4 →
    (rest ≡ []) × (all ≡ a ∷ b ∷ c ∷ d ∷ [])
four all without_d without_c without_b rest a b c d last third second first len =
    let none : length rest ≡ 0 = omega (arith, len, ap length last, length-append without_d (d ∷ []), ap length third, length-append without_c (c ∷ []), ap length second, length-append without_b (b ∷ []), ap length first, length-append rest (a ∷ [])) in
    let empty : rest ≡ [] = no_length rest none in (
      empty,
      last ∙ ap (λ ps. ps ++ d ∷ []) (third ∙ ap (λ ps. ps ++ c ∷ []) (second ∙ ap (λ ps. ps ++ b ∷ []) (first ∙ ap (λ ps. ps ++ a ∷ []) empty))),
    )
  where
    no_length : (ps : List PassView) → length ps ≡ 0 → ps ≡ []
    no_length [] is = refl
    no_length (p ∷ ps) is = absurd (omega (arith, is))
