-- What a table keeps true of its fields, behind one entry more.
use Rattle.channel_table.proofs.Base.{◌≡◌, ◌∙◌, ℕ, ◌+◌, ◌≤◌, Bool, true, false, List, [], ◌∷◌, ◌++◌, Some, None, refl, ap, sym, subst, map, cond, arith, length, ◌^◌, deque_len, deque_capacity, append-nil, length-map, length_push, ◌≢◌, Entry, What, Accept, Script, Spec, AreWithinLimits, Past, accepted, accepted_by, is_destroyed, past_of, Meaning, Happens, Setting, AreCounted, IsKept, setting_of, TableStands, Inside}
use Rattle.channel_model.proofs.Theorems.{accepted-none, lawful_push, past_of-push}
use Rattle.channel_model.specs.Lawful.{IsAllowed}
use Rattle.channel_table.specs.Kept.{seen_of, still_to_tell}

module _ {T J : Type 0} (plan : T → Script) (told : J → List Entry) (room_of : J → ℕ) where
  -- a table that went on with one entry, allowed there, and stands for the past behind it: there was room for this many entries, and it may have to tell fewer now
  pub kept_more : (old new : Inside T J) (entry : Entry) → setting_of new ≡ setting_of old → told new.journal ≡ told old.journal ++ entry ∷ []
      → IsKept plan told room_of old → IsAllowed (setting_of old) (past_of (told old.journal)) entry.what
      → TableStands plan (setting_of old) (entry.what ∷ past_of (told old.journal)) new.rows new.ready.items
      → AreCounted (setting_of old) (entry.what ∷ past_of (told old.journal)) new.servers
      → length (accepted (entry.what ∷ past_of (told old.journal))) ≡ new.accepted → is_destroyed (entry.what ∷ past_of (told old.journal)) ≡ new.closed
      → new.accepted ≤ old.accepted + 1 → new.servers.greatest_link ≤ old.servers.greatest_link + 1 → new.servers.started ≤ old.servers.started + 1
      → (many room : ℕ) → many ≤ room → length (told old.journal) + many ≤ 2 ^ 63 → room ≤ room_of new.journal + 1 → still_to_tell new + 1 ≤ many
      → length new.rows + deque_len new.ready ≤ deque_capacity new.ready → IsKept plan told room_of new
  kept_more old new entry same added kept allowed stands counted accepts destroyed few few_links few_starts many room made fits less left room_ready =
      let past : past_of (told new.journal) ≡ entry.what ∷ past_of (told old.journal) = ap past_of added ∙ past_of-push (told old.journal) entry in
      let more : length (told new.journal) ≡ length (told old.journal) + 1 = ap length added ∙ length_push (told old.journal) entry in
      record {
        limits = subst (λ (s : Setting). AreWithinLimits s.options) (sym same) kept.limits;
        lawful = rw same (lawful_push (setting_of old) (told old.journal) (told new.journal) entry kept.lawful added allowed);
        stands = rw (same, past) stands;
        counted = rw (same, past) counted;
        accepts = rw past accepts;
        destroyed = rw past destroyed;
        few = omega (arith, few, kept.few, more);
        few_links = omega (arith, few_links, kept.few_links, more);
        few_starts = omega (arith, few_starts, kept.few_starts, more);
        room = omega (arith, made, less, left);
        fits = omega (arith, fits, left, more);
        room_ready = room_ready;
      }

  -- a table that made room alone
  pub kept_grown : (old new : Inside T J) → record new { journal = old.journal } ≡ old → told new.journal ≡ told old.journal → room_of old.journal ≤ room_of new.journal → IsKept plan told room_of old → IsKept plan told room_of new
  kept_grown old new same items more kept =
      let all : IsKept plan told room_of (record new { journal = old.journal }) = subst (IsKept plan told room_of) (sym same) kept in
      record {
        limits = all.limits;
        lawful = rw items all.lawful;
        stands = rw items all.stands;
        counted = rw items all.counted;
        accepts = rw items all.accepts;
        destroyed = rw items all.destroyed;
        few = rw items all.few;
        few_links = rw items all.few_links;
        few_starts = rw items all.few_starts;
        room = omega (arith, all.room, more);
        fits = rw items all.fits;
        room_ready = all.room_ready;
      }

  -- what a call means that added an entry
  pub happens_one : (means : Meaning) (old new : Inside T J) (seat by : ℕ) (what : What) → setting_of new ≡ setting_of old → told new.journal ≡ told old.journal ++ record { seat = seat; by = by; what = what } ∷ []
      → IsKept plan told room_of new → means (setting_of old) (past_of (told old.journal)) (Some what) → Happens means seat by (seen_of told old) (seen_of told new)
  happens_one means old new seat by what same added kept meant = record { added = Some what; meant = meant; setting = same; journal = added; lawful = kept.lawful }

  -- the same, where the entry is known to be allowed and not what the table keeps behind it
  pub happens_by : (means : Meaning) (old : Inside T J) (entries : List Entry) (seat by : ℕ) (what : What) → entries ≡ told old.journal ++ record { seat = seat; by = by; what = what } ∷ []
      → IsKept plan told room_of old → IsAllowed (setting_of old) (past_of (told old.journal)) what → means (setting_of old) (past_of (told old.journal)) (Some what) → Happens means seat by (seen_of told old) (record { setting = setting_of old; journal = entries })
  happens_by means old entries seat by what added kept allowed meant = record {
    added = Some what;
    meant = meant;
    setting = refl;
    journal = added;
    lawful = lawful_push (setting_of old) (told old.journal) entries (record { seat = seat; by = by; what = what }) kept.lawful added allowed;
  }

  -- and of one that added nothing
  pub happens_nothing : (means : Meaning) (old : Inside T J) (seat by : ℕ) → IsKept plan told room_of old → means (setting_of old) (past_of (told old.journal)) None → Happens means seat by (seen_of told old) (seen_of told old)
  happens_nothing means old seat by kept meant = record { added = None; meant = meant; setting = refl; journal = sym (append-nil (told old.journal)); lawful = kept.lawful }

  -- or made room alone
  pub happens_same : (means : Meaning) (old : Inside T J) (entries : List Entry) (seat by : ℕ) → entries ≡ told old.journal → IsKept plan told room_of old → means (setting_of old) (past_of (told old.journal)) None
      → Happens means seat by (seen_of told old) (record { setting = setting_of old; journal = entries })
  happens_same means old entries seat by same kept meant = record { added = None; meant = meant; setting = refl; journal = same ∙ sym (append-nil (told old.journal)); lawful = rw same kept.lawful }

-- the room for a Destroy is one entry at most
pub few_closed : (b : Bool) → cond b 0 1 ≤ 1
few_closed true = omega arith
few_closed false = omega arith

-- an entry that accepts nothing leaves the count of the accepted requests
pub no_more : (what : What) (past : Past) → accepted_by what ≡ None → length (accepted (what ∷ past)) ≡ length (accepted past)
no_more what past none = ap length (accepted-none what past none)

-- how many requests are pending, and that some are
pub pending_count : {R : Type 0} (number : R → ℕ) (pending : List ℕ) (rows : List R) → pending ≡ map number rows → length rows ≡ length pending
pending_count number pending rows are = sym (ap length are ∙ length-map rows number)

pub some_pending : {R : Type 0} (number : R → ℕ) (pending : List ℕ) (rows : List R) → pending ≡ map number rows → length rows ≢ 0 → pending ≢ []
some_pending number pending rows are some none = some (pending_count number pending rows are ∙ ap length none)

-- an Accept adds one to them
pub one_more_accepted : (number : ℕ) (spec : Spec) (script : Script) (past : Past) → length (accepted (Accept number spec script ∷ past)) ≡ length (accepted past) + 1
one_more_accepted number spec script past = length_push (accepted past) _
