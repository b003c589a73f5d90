-- Waits among the calls of a run: a turn makes none, nor does the telling of servers.
use Rattle.std.proofs.Common.{◌≡◌, ◌∙◌, ℕ, ◌+◌, ◌&&◌, ◌||◌, true, false, List, [], ◌∷◌, ◌++◌, length, refl, ap, sym, inl, inr, arith}
use Rattle.std.specs.Prelude.{None, filter_map, flat_map}
use Rattle.std.specs.List.{cons_option, list_all, list_any}
use Rattle.std.proofs.lemmas.Bool.{and_parts}
use Rattle.std.proofs.lemmas.List.{append-nil}
use Rattle.std.proofs.lemmas.List.Elements.{filter_map-append}
use Rattle.std.proofs.lemmas.List.Folds.{list_any-append}
use Rattle.chan_types.specs.declared.journal.Entry.{Entry}
use Rattle.net_addr.specs.declared.addr.ServerAddr.{ServerAddr}
use Rattle.net_world.specs.Cause.{is_not_waited}
use Rattle.net_world.specs.declared.answers.Waited.{Waited}
use Rattle.net_world.specs.declared.answers.Waited.TheVariants.{Failed as NotWaited, Woken}
use Rattle.net_world.specs.declared.log.WorldCall.{WorldCall}
use Rattle.net_world.specs.declared.log.WorldCall.TheVariants.{Close, Connect, Now, Receive, Send, Serve, Wait, Word, Write}
use Rattle.channel_model.specs.Course.{IsCourse, IsCourseSoFar, Round, calls_of, readings, serves_from}
use Rattle.channel_model.specs.Endings.{LastWaitFailed, waited_by}
use Rattle.channel_model.specs.Journal.{own_entries}
use Rattle.channel_model.specs.Setting.{Setting}
use Rattle.channel_model.specs.Stretch.{Standing}
use Rattle.channel_model.specs.Turn.{HasMade, HaveMade, IsCutTurn, IsTurn, Part, all_parts, are_of, closing, expiring, is_among, is_at, parts_before, parts_of_call, parts_of_entry, receiving, starting, writing}
use Rattle.channel_progress.specs.Waking.{NoWaitFailed}
use Rattle.event_runner.specs.Turning.{IsCutShort}
use Rattle.owner_laws.specs.Sessions.{EndsWithFailedWait}

-- two stretches of calls without a wait are one
waits_both : (cs ds : List WorldCall) → filter_map waited_by cs ≡ [] → filter_map waited_by ds ≡ [] → filter_map waited_by (cs ++ ds) ≡ []
waits_both cs ds one two = filter_map-append waited_by cs ds ∙ rw (one, two) refl

-- ---- turns

-- a call of a part is no wait
no_wait : (part : Part) (call : WorldCall) → is_among part (parts_of_call call) ≡ true → waited_by call ≡ None
no_wait part (Serve server address) among = refl
no_wait part (Now reading) among = refl
no_wait part (Word word) among = refl
no_wait part (Send server bytes outcome) among = refl
no_wait part (Connect server link outcome) among = refl
no_wait part (Write link bytes outcome) among = refl
no_wait part (Receive got) among = refl
no_wait part (Close link) among = refl
no_wait part (Wait until outcome) among = absurd (cc among)

-- calls of a part have none
part_waits : (part : Part) (cs : List WorldCall) → list_all (λ call. is_among part (parts_of_call call)) cs ≡ true → filter_map waited_by cs ≡ []
part_waits part [] among = refl
part_waits part (c ∷ cs) among =
    let parts = and_parts (is_among part (parts_of_call c)) (list_all (λ call. is_among part (parts_of_call call)) cs) among in
    ap (λ o. cons_option o (filter_map waited_by cs)) (no_wait part c parts.0) ∙ part_waits part cs parts.1

module _ (setting : Setting) (seat reading : ℕ) where
  alone_waits : (part : Part) (es : List Entry) (cs : List WorldCall) → are_of part seat reading es cs ≡ true → filter_map waited_by cs ≡ []
  alone_waits part es cs alone =
      part_waits part cs
      (and_parts (list_all (λ entry. is_among part (parts_of_entry entry.what) && is_at reading entry.what) (own_entries seat es))
      (list_all (λ call. is_among part (parts_of_call call)) cs) alone).1

  made_waits : (part : Part) (a : Standing) (es : List Entry) (cs : List WorldCall) (b : Standing) → HasMade setting seat reading part a es cs b → filter_map waited_by cs ≡ []
  made_waits receiving a es cs b made = alone_waits receiving es cs made.alone
  made_waits expiring a es cs b made = alone_waits expiring es cs made.alone
  made_waits starting a es cs b made = alone_waits starting es cs made.alone
  made_waits writing a es cs b made = alone_waits writing es cs made.alone
  made_waits closing a es cs b made = alone_waits closing es cs made.alone

  -- nor do parts one behind the other
  parts_wait : (parts : List Part) (a : Standing) (es : List Entry) (cs : List WorldCall) (b : Standing) → HaveMade setting seat reading parts a es cs b → filter_map waited_by cs ≡ []
  parts_wait [] a es cs b made = rw made.no_call refl
  parts_wait (part ∷ parts) a es cs b made =
      ap (filter_map waited_by) made.calls_are
      ∙ waits_both made.calls_first made.calls_then (made_waits part a made.entries_first made.calls_first made.middle made.one)
      (parts_wait parts made.middle made.entries_then made.calls_then b made.two)

  -- a turn makes none
  pub turn_waits : (a : Standing) (es : List Entry) (cs : List WorldCall) (b : Standing) → IsTurn setting seat reading a es cs b → filter_map waited_by cs ≡ []
  turn_waits a es cs b turn = ap (filter_map waited_by) turn.calls_are ∙ parts_wait all_parts a es turn.made b turn.parts

  -- nor does one that was cut short
  cut_turn_waits : (a : Standing) (es : List Entry) (cs : List WorldCall) → IsCutTurn setting seat reading a es cs → filter_map waited_by cs ≡ []
  cut_turn_waits a es cs turn =
      let parts = turn.parts in
      ap (filter_map waited_by) turn.calls_are ∙ ap (filter_map waited_by) parts.calls_are
      ∙ waits_both parts.calls_first parts.calls_then (parts_wait (parts_before turn.part) a parts.entries_first parts.calls_first parts.middle parts.one)
      (alone_waits turn.part parts.entries_then parts.calls_then parts.two.alone)

pub cut_short_waits : (setting : Setting) (seat : ℕ) (a : Standing) (es : List Entry) (cs : List WorldCall) → IsCutShort setting seat a es cs → filter_map waited_by cs ≡ []
cut_short_waits setting seat a es cs (inl none) = ap (filter_map waited_by) none.1
cut_short_waits setting seat a es cs (inr cut) = cut_turn_waits setting seat cut.0 a es cs cut.1

-- ---- before the first turn

serves_wait : (server : ℕ) (addresses : List ServerAddr) → filter_map waited_by (serves_from server addresses) ≡ []
serves_wait server [] = refl
serves_wait server (address ∷ addresses) = serves_wait (server + 1) addresses

readings_wait : (moments : List ℕ) → filter_map waited_by (readings moments) ≡ []
readings_wait [] = refl
readings_wait (moment ∷ moments) = readings_wait moments

-- where calls have no wait, none failed
none_failed : (cs : List WorldCall) → filter_map waited_by cs ≡ [] → NoWaitFailed cs
none_failed cs none = ap (list_any is_not_waited) none

-- the first of two lists that are nothing is nothing
front_none : (cs ds : List WorldCall) → filter_map waited_by (cs ++ ds) ≡ [] → filter_map waited_by cs ≡ []
front_none cs ds none = by (filter_map waited_by cs) (filter_map waited_by ds) (sym (filter_map-append waited_by cs ds) ∙ none)
  where
    by : (xs ys : List Waited) → xs ++ ys ≡ [] → xs ≡ []
    by [] ys is = refl
    by (x ∷ xs) ys is = absurd (cc is)

module _ (setting : Setting) (seat slice : ℕ) (journal : List Entry) (log : List WorldCall) where
  -- a run without a turn has no wait
  pub begun_waits : (turns : ℕ) → turns ≡ 0 → IsCourse setting seat slice journal log turns 0 → NoWaitFailed log
  begun_waits turns no_turn course = by course.rounds (course.count ∙ no_turn) course.log_is
    where
      by : (rounds : List Round) → length rounds ≡ 0 → log ≡ serves_from 0 setting.options.servers ++ readings course.first_asides ++ flat_map calls_of rounds → NoWaitFailed log
      by [] none is =
          none_failed log (ap (filter_map waited_by) (is ∙ append-nil (serves_from 0 setting.options.servers ++ readings course.first_asides))
          ∙ waits_both (serves_from 0 setting.options.servers) (readings course.first_asides) (serves_wait 0 setting.options.servers) (readings_wait course.first_asides))
      by (round ∷ rounds) none is = absurd (omega (arith, none))

  -- nor has one that was cut short before its first
  pub unbegun_waits : (turns : ℕ) → turns ≡ 0 → IsCourseSoFar setting seat slice journal log turns 0 → NoWaitFailed log
  unbegun_waits turns no_turn (inl course) = begun_waits turns no_turn course
  unbegun_waits turns no_turn (inr (inl cut)) = absurd (omega (arith, no_turn, cut.count))
  unbegun_waits turns no_turn (inr (inr serving)) =
      let part = serving.0.told_so_far in
      none_failed log (front_none log part.0 (ap (filter_map waited_by) part.1 ∙ serves_wait 0 setting.options.servers))

-- ---- calls behind calls of which no wait failed

module _ (cs : List WorldCall) (h : NoWaitFailed cs) where
  -- without a wait
  pub failed_none : (ds : List WorldCall) → filter_map waited_by ds ≡ [] → NoWaitFailed (cs ++ ds)
  failed_none ds none =
      ap (list_any is_not_waited) (filter_map-append waited_by cs ds ∙ ap (λ l. filter_map waited_by cs ++ l) none ∙ append-nil (filter_map waited_by cs)) ∙ h

  -- a wait that was woken
  pub failed_woken : (until : ℕ) → NoWaitFailed (cs ++ Wait until Woken ∷ [])
  failed_woken until =
      ap (list_any is_not_waited) (filter_map-append waited_by cs (Wait until Woken ∷ []))
      ∙ list_any-append is_not_waited (filter_map waited_by cs) (Woken ∷ []) ∙ ap (λ b. b || false) h

  -- a wait that failed
  pub failed_last : (until : ℕ) → EndsWithFailedWait (cs ++ Wait until NotWaited ∷ [])
  failed_last until = record { earlier = cs; until = until; calls_are = refl; none_earlier = h }

-- calls that end with a failed wait have it as their last wait
pub last_failed : (calls : List WorldCall) → EndsWithFailedWait calls → LastWaitFailed calls
last_failed calls ends = record {
  earlier = filter_map waited_by ends.earlier;
  failed = ap (filter_map waited_by) ends.calls_are ∙ filter_map-append waited_by ends.earlier (Wait ends.until NotWaited ∷ []);
}
