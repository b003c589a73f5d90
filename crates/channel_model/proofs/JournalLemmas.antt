-- A longer journal: what happened in it stands behind what happened before, and what has completed and was lawful stays so.
use Rattle.std.proofs.Common.{ap, sym, ◌∙◌}
use Rattle.std.specs.Prelude.{List, ◌++◌, ◌≡◌, [], refl, ◌∷◌, ℕ, Some}
use mathlib.Core.List.{IsPrefix}
use Rattle.chan_types.specs.declared.answer.Answer.{Answer}
use Rattle.chan_types.specs.declared.journal.Entry.{Entry}
use Rattle.chan_types.specs.declared.journal.What.{What}
use Rattle.channel_model.specs.Completion.{fate}
use Rattle.channel_model.specs.Journal.{Past, followed_by, past_of}
use Rattle.channel_model.specs.Lawful.{IsLawfulPast, IsLawful, IsAllowed}
use Rattle.channel_model.specs.Setting.{Setting}

-- entries behind entries
pub followed_by-append : (past : Past) (entries more : List Entry) → followed_by past (entries ++ more) ≡ followed_by (followed_by past entries) more
followed_by-append past [] more = refl
followed_by-append past (entry ∷ entries) more = followed_by-append (entry.what ∷ past) entries more

-- the past behind one more entry
pub past_of-push : (journal : List Entry) (entry : Entry) → past_of (journal ++ entry ∷ []) ≡ entry.what ∷ past_of journal
past_of-push journal entry = followed_by-append [] journal (entry ∷ [])

-- a journal begins with its prefix
pub past_of-prefix : (journal longer : List Entry) (p : IsPrefix journal longer) → past_of longer ≡ followed_by (past_of journal) p.0
past_of-prefix journal longer p = ap past_of (sym p.1) ∙ followed_by-append [] journal p.0

module _ (setting : Setting) (request : ℕ) (answer : Answer) where
  -- a request that has completed keeps its answer behind one more entry
  pub fate-one : (what : What) (past : Past) → fate setting request past ≡ Some answer → fate setting request (what ∷ past) ≡ Some answer
  fate-one what past completed = rw completed refl

  -- and behind any entries
  pub fate-followed_by : (past : Past) (entries : List Entry) → fate setting request past ≡ Some answer → fate setting request (followed_by past entries) ≡ Some answer
  fate-followed_by past [] completed = completed
  fate-followed_by past (entry ∷ entries) completed = fate-followed_by (entry.what ∷ past) entries (fate-one entry.what past completed)

  -- and in every longer journal
  pub fate_stays : (journal longer : List Entry) → IsPrefix journal longer → fate setting request (past_of journal) ≡ Some answer → fate setting request (past_of longer) ≡ Some answer
  fate_stays journal longer p completed = rw (past_of-prefix journal longer p) (fate-followed_by (past_of journal) p.0 completed)

module _ (setting : Setting) where
  -- what stands before is lawful
  pub IsLawfulPast-before : (past : Past) (entries : List Entry) → IsLawfulPast setting (followed_by past entries) → IsLawfulPast setting past
  IsLawfulPast-before past [] lawful = lawful
  IsLawfulPast-before past (entry ∷ entries) lawful = (IsLawfulPast-before (entry.what ∷ past) entries lawful).1

  -- a lawful journal's prefixes are lawful
  pub lawful_prefix : (journal longer : List Entry) → IsPrefix journal longer → IsLawful setting longer → IsLawful setting journal
  lawful_prefix journal longer p lawful = record { allowed = IsLawfulPast-before (past_of journal) p.0 (rw (← past_of-prefix journal longer p) lawful.allowed) }

  -- a lawful journal with one more entry, allowed behind it, is lawful
  pub lawful_push : (old new : List Entry) (entry : Entry) → IsLawful setting old → new ≡ old ++ entry ∷ [] → IsAllowed setting (past_of old) entry.what → IsLawful setting new
  lawful_push old new entry lawful added allowed = record { allowed = rw (added, past_of-push old entry) (allowed, lawful.allowed) }
