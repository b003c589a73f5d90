-- A journal that is made once more up to an index: what happened in it, and what its next entry comes to.
use Rattle.std.proofs.Common.{ap, arith, subst, sym, ◌∙◌}
use Rattle.std.proofs.lemmas.List.{length-take-le, take_more}
use Rattle.std.specs.Prelude.{List, [], drop, get_or, length, refl, suc, take, zero, ℕ, ◌++◌, ◌+◌, ◌<◌, ◌↔◌, ◌∷◌, ◌≡◌}
use Rattle.chan_types.specs.declared.journal.Entry.{Entry}
use Rattle.channel_model.proofs.Theorems.{IsLawfulPast-before, followed_by-append, past_of-push}
use Rattle.channel_model.specs.Journal.{Past, past_of}
use Rattle.channel_model.specs.Lawful.{IsAllowed, IsLawful, IsLawfulPast}
use Rattle.channel_model.specs.Seen.{Seen}
use Rattle.channel_model.specs.Setting.{Setting}
use Rattle.journal_replay.specs.Checks.{IsFirstUnlawful}
use Rattle.journal_replay.specs.declared.checking.Checked.TheVariants.{Lawful, Unlawful}
use Rattle.journal_replay.specs.Replays.{IsMade}

-- a list is what stands before an index, the item there, and what stands behind
parts_at : {A : Type 0} (xs : List A) (index : ℕ) (d : A) → index < length xs → xs ≡ take index xs ++ get_or xs index d ∷ drop (suc index) xs
parts_at [] index d inside = absurd (omega (arith, inside))
parts_at (y ∷ ys) zero d inside = refl
parts_at (y ∷ ys) (suc index) d inside = ap (λ zs. y ∷ zs) (parts_at ys index d (omega (arith, inside)))

module _ (setting : Setting) (journal : List Entry) where
  -- the table has this setting, and what happened in it is what happened in the journal before the index, which is lawful
  pub record IsAt (index : ℕ) (table : Seen) : Type 0 where
    pub setting_is : table.setting ≡ setting
    pub past_is : past_of table.journal ≡ past_of (take index journal)
    pub lawful : IsLawfulPast setting (past_of (take index journal))

  module _ (index : ℕ) (d : Entry) (inside : index < length journal) where
    -- the entry at the index
    abbrev entry : Entry
    entry = get_or journal index d

    -- what happened behind it
    pub past_more : past_of (take (index + 1) journal) ≡ entry.what ∷ past_of (take index journal)
    past_more = ap past_of (take_more journal index d inside) ∙ past_of-push (take index journal) entry

    module _ (old : Seen) (at : IsAt index old) where
      -- where it was made, the table stands behind it
      pub at_next : (new : Seen) → IsMade entry.what old new → IsAt (index + 1) new
      at_next new made =
          let setting_is : new.setting ≡ setting = made.setting ∙ at.setting_is in
          let past_is : past_of new.journal ≡ past_of (take (index + 1) journal) = made.past ∙ ap (λ (p : Past). entry.what ∷ p) at.past_is ∙ sym past_more in
          record {
            setting_is = setting_is;
            past_is = past_is;
            lawful = subst (λ (p : Past). IsLawfulPast setting p) past_is (subst (λ (s : Setting). IsLawfulPast s (past_of new.journal)) setting_is made.lawful.allowed);
          }

      -- what is allowed in the journal is so there
      pub allowed_in : IsAllowed setting (past_of (take index journal)) entry.what → IsAllowed old.setting (past_of old.journal) entry.what
      allowed_in allowed =
          subst (λ (s : Setting). IsAllowed s (past_of old.journal) entry.what) (sym at.setting_is) (subst (λ (p : Past). IsAllowed setting p entry.what) (sym at.past_is) allowed)

      -- where it isn't allowed it is the first such
      pub at_fault : ¬ IsAllowed old.setting (past_of old.journal) entry.what → IsFirstUnlawful setting journal index
      at_fault never = record {
        before = take index journal;
        entry = entry;
        behind = drop (suc index) journal;
        parts = parts_at journal index d inside;
        stands_at = sym (length-take-le index journal (omega (arith, inside)));
        lawful = record { allowed = at.lawful };
        not_allowed = λ allowed. never (allowed_in allowed);
      }

      -- an entry of a lawful journal is allowed
      pub lawful_at : IsLawful setting journal → IsAllowed old.setting (past_of old.journal) entry.what
      lawful_at lawful =
          let whole : past_of journal ≡ _ = ap past_of (parts_at journal index d inside) ∙ followed_by-append [] (take index journal) (entry ∷ drop (suc index) journal) in
          allowed_in (IsLawfulPast-before setting (entry.what ∷ past_of (take index journal)) (drop (suc index) journal) (subst (IsLawfulPast setting) whole lawful.allowed)).0

  -- a journal with an entry that isn't allowed isn't lawful
  pub first_spoils : (position : ℕ) → IsFirstUnlawful setting journal position → ¬ IsLawful setting journal
  first_spoils position u lawful =
      let whole : past_of journal ≡ _ = ap past_of u.parts ∙ followed_by-append [] u.before (u.entry ∷ u.behind) in
      u.not_allowed (IsLawfulPast-before setting (u.entry.what ∷ past_of u.before) u.behind (subst (IsLawfulPast setting) whole lawful.allowed)).0

  -- so a check that names it is right
  pub unlawful_checked : (position : ℕ) → IsFirstUnlawful setting journal position → (Unlawful position ≡ Lawful) ↔ IsLawful setting journal
  unlawful_checked position u = (λ e. absurd cc, λ lawful. absurd (first_spoils position u lawful))
