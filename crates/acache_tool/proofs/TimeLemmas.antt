-- A run that is given time comes to its page.
use Rattle.std.proofs.Common.{◌≡◌, ◌∙◌, ◌≢◌, ℕ, ◌+◌, ◌*◌, ◌≤◌, ◌==◌, ◌&&◌, Bool, true, false, List, [], ◌∷◌, ◌++◌, length, length-append, refl, ap, sym, subst, arith, inl, inr}
use Rattle.std.specs.Prelude.{Some, filter_map}
use Rattle.std.specs.List.{list_all}
use Rattle.std.proofs.lemmas.Bool.{and_from, and_parts}
use Rattle.std.proofs.lemmas.List.{append-nil}
use Rattle.std.proofs.lemmas.List.Elements.{filter_map-append}
use mathlib.Core.List.{IsPrefix}
use Rattle.chan_types.specs.declared.journal.Entry.{Entry}
use Rattle.net_world.specs.Cause.{Rose}
use Rattle.net_world.specs.declared.answers.Waited.TheVariants.{Failed as NotWaited}
use Rattle.net_world.specs.declared.log.WorldCall.{WorldCall}
use Rattle.net_world.specs.declared.log.WorldCall.TheVariants.{Wait}
use Rattle.channel_model.specs.Completion.{pending}
use Rattle.channel_model.specs.Course.{IsCourse}
use Rattle.channel_model.specs.Endings.{waited_by}
use Rattle.channel_model.specs.Journal.{accepted, past_of}
use Rattle.channel_model.specs.Lawful.{IsLawful}
use Rattle.channel_model.specs.Setting.{Setting}
use Rattle.channel_model.specs.Turn.{received_in}
use Rattle.channel_progress.specs.Allowed.{attempts_allowed}
use Rattle.channel_progress.specs.PlainRun.{IsPlainRun}
use Rattle.channel_progress.proofs.Theorems.{allowed_grows, beside_many, not_failed, stalled_at_end}
use Rattle.channel_table.specs.Calling.{Owned}
use Rattle.net_addr.specs.declared.addr.Addr.{Addr}
use Rattle.tool_line.specs.Outside.{OutputTold}
use Rattle.tool_line.specs.Put.{IsPut, PutsText}
use Rattle.tool_line.specs.Words.{Text}
use Rattle.tool_line.specs.declared.ending.Exit.{Exit}
use Rattle.tool_line.specs.declared.ending.Exit.TheVariants.{Failure, Success}
use Rattle.run_end.specs.Ends.{IsPageEnd}
use Rattle.owner_laws.specs.Sessions.{longest_slice}
use Rattle.acache_tool.specs.Asked.{setting_for}
use Rattle.acache_tool.specs.Completing.{IsComplete, IsGivenTime}
use Rattle.owner_laws.specs.PlainEntries.{is_plain_entry}
use Rattle.acache_tool.specs.Output.{text_at}
use Rattle.acache_tool.specs.Parts.{Open, Part, names_of, open_requests, page, request_for, requests_of, unless_hit}

-- no wait failed where the last call isn't a failed wait
pub not_last : (calls : List WorldCall) (setting : Setting) (turns names : ℕ) (journal : List Entry) → (earlier : List WorldCall) × (until : ℕ) × (calls ≡ earlier ++ Wait until NotWaited ∷ []) → IsGivenTime setting turns names journal calls → ⊥
not_last calls setting turns names journal last time =
    not_failed calls time.waited (record {
      earlier = filter_map waited_by last.0;
      failed = ap (filter_map waited_by) last.2 ∙ filter_map-append waited_by last.0 (Wait last.1 NotWaited ∷ []);
    })

-- a run's entries are of its channel's one seat
all_own : (es : List Entry) → list_all is_plain_entry es ≡ true → list_all (λ entry. entry.seat == 0) es ≡ true
all_own [] plain = refl
all_own (e ∷ es) plain =
    let this = and_parts (is_plain_entry e) (list_all is_plain_entry es) plain in
    let seat = and_parts (e.seat == 0) (e.by == 0) (and_parts ((e.seat == 0) && (e.by == 0)) _ this.0).0 in
    and_from (e.seat == 0) (list_all (λ entry. entry.seat == 0) es) seat.0 (all_own es this.1)

-- no more requests were accepted than names were asked for
few_requests : (parts : List Part) → length (requests_of parts) ≤ length (names_of parts)
few_requests [] = omega arith
few_requests (part ∷ earlier) = by part.is_hit (few_requests earlier)
  where
    by : (h : Bool) → length (requests_of earlier) ≤ length (names_of earlier) →
        length (requests_of earlier ++ unless_hit h (request_for (length (requests_of earlier) + 1) part.name)) ≤ length (names_of earlier ++ part.name ∷ [])
    by true few = omega (arith, few, ap length (append-nil (requests_of earlier)), length-append (names_of earlier) (part.name ∷ []))
    by false few =
        omega (arith, few, length-append (requests_of earlier) (request_for (length (requests_of earlier) + 1) part.name ∷ []), length-append (names_of earlier) (part.name ∷ []))

few_asked : (parts : List Part) (o : Open) (names : List Text) → IsPrefix (names_of parts ++ o.name ∷ []) names → 1 + length (requests_of parts) ≤ length names
few_asked parts o names front =
    omega (arith, few_requests parts, length-append (names_of parts) (o.name ∷ []), length-append (names_of parts ++ o.name ∷ []) front.0, ap length front.1)

module _ (server : Addr) (turns : ℕ) (names : List Text) (parts : List Part) (o : Open) (channel : Owned) (more : List Entry) where
  -- a run that stalled wasn't given time
  pub not_stalled : channel.setting ≡ setting_for server → list_all is_plain_entry channel.seen ≡ true → accepted (past_of channel.seen) ≡ requests_of parts ++ open_requests parts (Some o) → IsPrefix (names_of parts ++ o.name ∷ []) names →
      pending channel.setting (past_of channel.seen) ≢ [] → IsLawful channel.setting channel.seen → (calls : List WorldCall) (asides : ℕ) → IsCourse channel.setting 0 longest_slice channel.seen calls turns asides →
      IsGivenTime (setting_for server) turns (length names) (channel.seen ++ more) calls → ⊥
  not_stalled same plain asked front some lawful calls asides course given =
      let time : IsGivenTime channel.setting turns (length names) (channel.seen ++ more) calls = subst (λ s. IsGivenTime s turns (length names) (channel.seen ++ more) calls) (sym same) given in
      let run : IsPlainRun channel.setting 0 channel.seen calls = record {
        lawful = lawful;
        alone = all_own channel.seen plain;
        some_server = subst (λ (s : Setting). 1 ≤ length s.options.servers) (sym same) (omega arith);
        some_try = subst (λ (s : Setting). 1 ≤ s.options.tries) (sym same) (omega arith);
        waited = time.waited;
        wakes = time.wakes;
      } in
      let few : turns ≤ 2 * attempts_allowed channel.setting channel.seen + 2 * length (accepted (past_of channel.seen)) + received_in calls =
      beside_many channel.setting 0 turns asides channel.seen calls run (stalled_at_end channel.setting 0 longest_slice channel.seen calls turns asides course some) in
      let grows : attempts_allowed channel.setting channel.seen ≤ attempts_allowed channel.setting (channel.seen ++ more) = allowed_grows channel.setting channel.seen more in
      let count : length (accepted (past_of channel.seen)) ≡ length (requests_of parts) + 1 = ap length asked ∙ length-append (requests_of parts) (request_for (length (requests_of parts) + 1) o.name ∷ []) in
      omega (arith, few, grows, count, few_asked parts o names front, time.enough)

-- a page that was put, where the output doesn't fail, is complete
pub page_complete : (names : List Text) (parts : List Part) (end : Exit) (status : ℕ) (before after : OutputTold) → IsPageEnd end → names_of parts ≡ names → IsPut (text_at (page parts) end) end status before after → ¬ Rose before.faults after.faults →
    IsComplete names parts status before after
page_complete names parts end status before after page_end all put quiet = by_end page_end
  where
    by_end : IsPageEnd end → IsComplete names parts status before after
    by_end (inl is) = by (subst (λ e. PutsText (text_at (page parts) e) e status before after) is put.told)
      where
        by : PutsText (Some (page parts)) Success status before after → IsComplete names parts status before after
        by (inl whole) = inl (inl whole.0, all, whole.1)
        by (inr (inl part)) = absurd (quiet part.1)
        by (inr (inr none)) = inr none.0
    by_end (inr is) = by (subst (λ e. PutsText (text_at (page parts) e) e status before after) is put.told)
      where
        by : PutsText (Some (page parts)) Failure status before after → IsComplete names parts status before after
        by (inl whole) = inl (inr whole.0, all, whole.1)
        by (inr (inl part)) = absurd (quiet part.1)
        by (inr (inr none)) = inr none.0
