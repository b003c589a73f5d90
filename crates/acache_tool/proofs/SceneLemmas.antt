-- A run behind one name more: by the cache, by a request, or not to its end.
use Rattle.std.proofs.Common.{◌≡◌, ◌∙◌, ℕ, ◌+◌, ◌==◌, ◌&&◌, ◌||◌, Bool, true, false, not, List, [], ◌∷◌, ◌++◌, length, refl, ap, ap₂, sym, subst, arith, inl}
use Rattle.std.specs.Prelude.{IfSome, None, Option, Some, ◌↔◌, ⊤}
use Rattle.std.specs.List.{list_all}
use Rattle.std.proofs.lemmas.Bool.{and_from, and_parts}
use Rattle.std.proofs.lemmas.List.{append-nil, append_assoc}
use mathlib.Core.List.{IsPrefix}
use Rattle.chan_types.specs.declared.answer.Answer.{Answer}
use Rattle.chan_types.specs.declared.journal.Entry.{Entry}
use Rattle.dns_message.specs.declared.message.Question.{Question}
use Rattle.net_world.specs.Logs.{LogGets}
use Rattle.net_world.specs.declared.log.WorldCall.{WorldCall}
use Rattle.net_world.specs.declared.log.WorldCall.TheVariants.{Now}
use Rattle.channel_model.specs.Completion.{taken}
use Rattle.channel_model.specs.Course.{is_of_turn}
use Rattle.channel_model.specs.Journal.{accepted, past_of}
use Rattle.channel_model.specs.Setting.{Setting}
use Rattle.channel_session.specs.Sitting.{Sitting, StandsBehind, moment_of, reach_of}
use Rattle.channel_table.specs.Calling.{known_by_owner}
use Rattle.event_runner.proofs.Theorems.{told_as, told_both, told_by, told_trans}
use Rattle.event_runner.specs.State.{IsTurnOwner}
use Rattle.event_runner.specs.UnderWay.{IsUnderWay}
use Rattle.query_cache.proofs.StandLemmas.{answers_given}
use Rattle.query_cache.specs.Cache.{given}
use Rattle.query_cache.specs.Recency.{LeadTo}
use Rattle.tool_line.specs.Words.{Text}
use Rattle.owner_laws.specs.Sessions.{longest_slice}
use Rattle.acache_tool.specs.Growing.{AreCalled}
use Rattle.acache_tool.specs.Leaving.{AreGoodParts, IsAt, Leaves, numbers_of}
use Rattle.acache_tool.specs.Naming.{IsHit, IsSent, Reads, Scene}
use Rattle.acache_tool.specs.Parts.{GivesAnswer, MayAsk, Open, Part, answers_of, asks_for, cache_calls, calls_for, journal_of, most_seconds, open_requests, question_of, requests_of, text_shown}
use Rattle.acache_tool.specs.Shown.{IsGood, cache_with}
use Rattle.acache_tool.specs.Told.{AreTold, IsLastReading}
use Rattle.acache_tool.proofs.NameLemmas.{leaves_answered, leaves_asked, may_ask}
use Rattle.owner_laws.specs.PlainEntries.{is_plain_entry}

-- the channel's owner makes all entries of turns
pub owner_alone : (es : List Entry) → list_all is_plain_entry es ≡ true → list_all (λ e. not (is_of_turn e) || (e.seat == 0)) es ≡ true
owner_alone [] plain = refl
owner_alone (e ∷ es) plain =
    let this = and_parts (is_plain_entry e) (list_all is_plain_entry es) plain in
    let seat = and_parts (e.seat == 0) (e.by == 0) (and_parts ((e.seat == 0) && (e.by == 0)) _ this.0).0 in
    and_from (not (is_of_turn e) || (e.seat == 0)) (list_all (λ x. not (is_of_turn x) || (x.seat == 0)) es) (either (not (is_of_turn e)) (e.seat == 0) seat.0) (owner_alone es this.1)
  where
    either : (a b : Bool) → b ≡ true → (a || b) ≡ true
    either true b h = refl
    either false b h = h

-- so many readings of the clock
stands_with : (made m n : ℕ) (began : Option (List WorldCall)) (known : _) (s : Sitting) (log : Option (List WorldCall)) → m ≡ n → StandsBehind made m began (moment_of known s log) → StandsBehind made n began (moment_of known s log)
stands_with made m n began known s log is = subst (λ k. StandsBehind made k began (moment_of known s log)) is

-- a good answer more
good_more : (part : Part) (parts : List Part) (old new : Bool) → (new ≡ true) ↔ ((old ≡ true) × IsGood part.answer) → (old ≡ true) ↔ AreGoodParts parts → (new ≡ true) ↔ AreGoodParts (part ∷ parts)
good_more part parts old new step before = (
  λ h. let both = step.0 h in (both.1, before.0 both.0),
  λ all. step.1 (before.1 all.1, all.0),
)

module _ (room : ℕ) (setting : Setting) (turns : ℕ) (parts : List Part) (began : Option (List WorldCall)) (a b : Scene) (name : Text) (at : ℕ) (log : Option (List WorldCall)) (x : IsAt room setting turns parts began a) (reads : Reads at a log) where
  -- the run stands where it did, with the reading of the clock
  read_stands : StandsBehind x.made (length parts + 1) began (moment_of (known_by_owner a.asker.alone) a.asker.session log)
  read_stands = reads.reads.1 (known_by_owner a.asker.alone) began x.made (length parts) x.behind

  read_told : LogGets (λ ds. ds ≡ Now at ∷ []) a.log log
  read_told = told_by (λ ds. ds ≡ Now at ∷ []) (Now at ∷ []) refl a.log log reads.reads.0

  -- ---- the cache gave the answer

  module _ (hit : IsHit name at a b log) where
    abbrev pub answer_hit : Answer
    answer_hit = hit.shows.0

    abbrev pub part_hit : Part
    part_hit = record { name = name; at = at; is_hit = true; answer = answer_hit; entries = []; kept_at = 0 }

    same_asker : (P : _ → Type 0) → P a.asker → P b.asker
    same_asker P = subst P (sym hit.asker)

    gives : GivesAnswer room (cache_calls parts) at answer_hit (question_of name)
    gives = subst (λ o. GivesAnswer room (cache_calls parts) at answer_hit o) (sym hit.is_name)
        ((answers_given room most_seconds (cache_calls parts) a.shown.cache x.kept hit.question at answer_hit).0 hit.shows.1)

    longer : length (requests_of parts ++ []) ≡ length (requests_of parts)
    longer = ap length (append-nil (requests_of parts))

    leaves_hit : Leaves room setting (part_hit ∷ parts) None a.asker.alone a.asker.calls
    leaves_hit = record {
      right = ((gives, refl), x.leaves.right);
      missed = tt;
      setting_is = x.leaves.setting_is;
      voice = x.leaves.voice;
      lawful = x.leaves.lawful;
      plain = x.leaves.plain;
      named = subst (λ l. IsPrefix l a.asker.alone.seen) (sym (append-nil (journal_of parts))) x.leaves.named;
      accepted_are = x.leaves.accepted_are ∙ sym (append-nil (requests_of parts ++ []));
      taken_are = inl (x.taken_are ∙ ap numbers_of (sym (append-nil (requests_of parts))));
      called = x.leaves.called;
      answers_are = subst (λ l. IsPrefix l a.asker.calls) (sym (append-nil (answers_of parts))) x.leaves.answers_are;
    }

    told_hit : LogGets (AreTold setting (part_hit ∷ parts)) began log
    told_hit = told_trans (AreTold setting parts) (λ ds. ds ≡ Now at ∷ []) (AreTold setting (part_hit ∷ parts))
        (λ cs ds told is. record {
          pieces = ds ∷ told.pieces;
          calls_are = ap (λ l. l ++ ds) told.calls_are;
          told = (record { behind = []; begins = is; kept = tt }, told.told);
        })
        began a.log log x.told read_told

    -- with the cache's old asker
    at_old : IsAt room setting turns (part_hit ∷ parts) began (record { asker = a.asker; shown = b.shown; log = log })
    at_old = record {
      leaves = leaves_hit;
      taken_are = x.taken_are ∙ ap numbers_of (sym (append-nil (requests_of parts)));
      calls_are = x.calls_are ∙ sym (append-nil (answers_of parts));
      journal_is = x.journal_is ∙ sym (append-nil (journal_of parts));
      kept = subst (λ o. LeadTo room most_seconds (calls_for o part_hit ++ cache_calls parts) b.shown.cache) (sym hit.is_name)
          (a.shown.cache, x.kept, (sym hit.shows.1, hit.shows.2));
      text_is = hit.shows.3.text ∙ ap (λ l. l ++ text_shown true name answer_hit) x.text_is;
      good_is = good_more part_hit parts a.shown.good b.shown.good hit.shows.3.good x.good_is;
      made = x.made;
      count = x.count;
      behind = stands_with x.made (length parts + 1) (length (part_hit ∷ parts)) began (known_by_owner a.asker.alone) a.asker.session log (omega arith) read_stands;
      told = told_hit;
    }

    pub at_hit : IsAt room setting turns (part_hit ∷ parts) began b
    at_hit = subst (λ asker. IsAt room setting turns (part_hit ∷ parts) began (record { asker = asker; shown = b.shown; log = b.log })) (sym hit.asker)
        (subst (λ l. IsAt room setting turns (part_hit ∷ parts) began (record { asker = a.asker; shown = b.shown; log = l })) (sym hit.no_call) at_old)

  -- ---- the name was sent for, and has its answer

  module _ (f g : ℕ) (sent : IsSent f g name at a b log) where
    abbrev pub open_sent : Open
    open_sent = record { name = name; at = at }

    abbrev pub number_sent : ℕ
    number_sent = length (requests_of parts) + 1

    abbrev pub part_sent : Part
    part_sent = record {
      name = name;
      at = at;
      is_hit = false;
      answer = sent.answer;
      entries = asks_for number_sent name ∷ sent.brings.0.grows.entries;
      kept_at = b.asker.session.reading;
    }

    may : MayAsk room (cache_calls parts) at name
    may = may_ask room setting parts name at a.shown.cache x.kept sent.asked.missed

    asked_same : accepted (past_of a.asker.alone.seen) ≡ requests_of parts
    asked_same = x.leaves.accepted_are ∙ append-nil (requests_of parts)

    left_asked : Leaves room setting parts (Some open_sent) sent.channel a.asker.calls
    left_asked = leaves_asked room setting parts name at a.asker.alone sent.channel a.asker.calls may x.taken_are sent.asked.asks.0 x.leaves

    taken_mid : taken (past_of sent.channel.seen) ≡ numbers_of (requests_of parts)
    taken_mid = sent.asked.asks.0.takes_are ∙ append-nil (taken (past_of a.asker.alone.seen)) ∙ x.taken_are

    answered : Leaves room setting parts (Some open_sent) b.asker.alone (a.asker.calls ++ sent.answer ∷ []) × (taken (past_of b.asker.alone.seen) ≡ numbers_of (requests_of parts ++ open_requests parts (Some open_sent)))
    answered = leaves_answered room setting parts open_sent sent.channel b.asker.alone a.asker.calls sent.answer taken_mid left_asked sent.brings.0.grows sent.brings.0.its_fate

    calls_sent : b.asker.calls ≡ answers_of (part_sent ∷ parts)
    calls_sent = sent.brings.0.called ∙ ap (λ l. l ++ sent.answer ∷ []) x.calls_are

    journal_sent : b.asker.alone.seen ≡ journal_of (part_sent ∷ parts)
    journal_sent =
        sent.brings.0.grows.seen
        ∙ ap (λ l. l ++ sent.brings.0.grows.entries)
        (sent.asked.asks.1 ∙ ap₂ (λ l rs. l ++ asks_for (length rs + 1) name ∷ []) x.journal_is asked_same)
        ∙ append_assoc (journal_of parts) (asks_for number_sent name ∷ []) sent.brings.0.grows.entries

    leaves_sent : Leaves room setting (part_sent ∷ parts) None b.asker.alone b.asker.calls
    leaves_sent = record {
      right = ((may, record { behind = sent.brings.0.grows.entries; entries_are = refl }), x.leaves.right);
      missed = tt;
      setting_is = answered.0.setting_is;
      voice = answered.0.voice;
      lawful = answered.0.lawful;
      plain = answered.0.plain;
      named = ([], append-nil (journal_of (part_sent ∷ parts)) ∙ sym journal_sent);
      accepted_are = answered.0.accepted_are ∙ sym (append-nil (requests_of (part_sent ∷ parts)));
      taken_are = inl answered.1;
      called = subst (λ l. AreCalled b.asker.alone l) (sym sent.brings.0.called) answered.0.called;
      answers_are = ([], append-nil (answers_of (part_sent ∷ parts)) ∙ sym calls_sent);
    }

    stands_sent : StandsBehind (x.made + sent.brings.2.0) (length parts + 1) began (moment_of (known_by_owner b.asker.alone) b.asker.session b.log)
    stands_sent = sent.brings.2.2 began x.made (length parts + 1) (sent.asked.asks.2 a.asker.session log began x.made (length parts + 1) read_stands)

    -- what the calls are
    abbrev IsBehind : List WorldCall → Type 0
    IsBehind calls = (before : List WorldCall) × (mine : List WorldCall) × (behind : List WorldCall) × AreTold setting parts before × (calls ≡ before ++ mine) × (mine ≡ Now at ∷ behind)

    mine_told : LogGets (λ ds. (behind : List WorldCall) × (ds ≡ Now at ∷ behind)) a.log b.log
    mine_told = told_trans (λ ds. ds ≡ Now at ∷ []) (λ ds. ⊤) (λ ds. (behind : List WorldCall) × (ds ≡ Now at ∷ behind))
        (λ cs ds is any. (ds, ap (λ l. l ++ ds) is)) a.log log b.log read_told sent.brings.1

    behind_told : LogGets IsBehind began b.log
    behind_told = told_trans (AreTold setting parts) (λ ds. (behind : List WorldCall) × (ds ≡ Now at ∷ behind)) IsBehind
        (λ cs ds told is. (cs, ds, is.0, told, refl, is.1)) began a.log b.log x.told mine_told

    last_reading : (calls : List WorldCall) → IsUnderWay longest_slice (x.made + sent.brings.2.0) (length parts + 1) (reach_of b.asker.session.behind_turn) (known_by_owner b.asker.alone) b.asker.session.running calls →
        IsLastReading setting (journal_of (part_sent ∷ parts)) calls b.asker.session.reading
    last_reading calls way =
        subst (λ s. IsLastReading s (journal_of (part_sent ∷ parts)) calls b.asker.session.reading) answered.0.setting_is
        (subst (λ journal. IsLastReading b.asker.alone.setting journal calls b.asker.session.reading) journal_sent (record {
          turns = x.made + sent.brings.2.0;
          asides = length parts + 1;
          course = way.course;
          reading = way.reading ∙ sym stands_sent.reading;
        }))

    told_sent : LogGets (AreTold setting (part_sent ∷ parts)) began b.log
    told_sent =
        let owner : IsTurnOwner (known_by_owner b.asker.alone) = owner_alone b.asker.alone.seen answered.0.plain in
        let Way : List WorldCall → Type 0 = λ calls. IsTurnOwner (known_by_owner b.asker.alone) →
        IsUnderWay longest_slice (x.made + sent.brings.2.0) (length parts + 1) (reach_of b.asker.session.behind_turn) (known_by_owner b.asker.alone) b.asker.session.running calls in
        told_as (λ calls. IsBehind calls × Way calls) (AreTold setting (part_sent ∷ parts))
        (λ calls both.
        let told = both.0.3 in
        let mine : List WorldCall = both.0.1 in
        let are : calls ≡ _ = both.0.4 ∙ ap (λ l. l ++ mine) told.calls_are in
        record {
          pieces = mine ∷ told.pieces;
          calls_are = are;
          told = (record { behind = both.0.2; begins = both.0.5; kept = subst (λ l. IsLastReading setting (journal_of (part_sent ∷ parts)) l b.asker.session.reading) are (last_reading calls (both.1 owner)) }, told.told);
        })
        began b.log (told_both IsBehind Way began b.log behind_told stands_sent.runs)

    kept_sent : LeadTo room most_seconds (cache_calls (part_sent ∷ parts)) b.shown.cache
    kept_sent = by (question_of name) sent.asked.missed sent.shows.cache
      where
        by : (o : Option Question) → IfSome o (λ q. given q at a.shown.cache ≡ None) → b.shown.cache ≡ cache_with o sent.answer b.asker.session.reading a.shown.cache →
            LeadTo room most_seconds (calls_for o part_sent ++ cache_calls parts) b.shown.cache
        by None none is = subst (λ c. LeadTo room most_seconds (cache_calls parts) c) (sym is) x.kept
        by (Some q) none is = (a.shown.cache, (a.shown.cache, x.kept, (sym none, refl)), (refl, is))

    pub at_sent : IsAt room setting turns (part_sent ∷ parts) began b
    at_sent = record {
      leaves = leaves_sent;
      taken_are = answered.1;
      calls_are = calls_sent;
      journal_is = journal_sent;
      kept = kept_sent;
      text_is = sent.shows.shown.text ∙ ap (λ l. l ++ text_shown false name sent.answer) x.text_is;
      good_is = good_more part_sent parts a.shown.good b.shown.good sent.shows.shown.good x.good_is;
      made = x.made + sent.brings.2.0;
      count = omega (arith, x.count, sent.brings.2.1);
      behind = stands_with (x.made + sent.brings.2.0) (length parts + 1) (length (part_sent ∷ parts)) began (known_by_owner b.asker.alone) b.asker.session b.log (omega arith) stands_sent;
      told = told_sent;
    }
