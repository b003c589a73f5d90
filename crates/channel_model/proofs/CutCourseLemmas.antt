-- A course that was cut short agrees with its log, but for what want of memory cut off at its end.
use Rattle.std.proofs.Common.{◌≡◌, ℕ, List, [], ◌∷◌, ◌++◌, refl, sym, ap, subst, ◌∙◌, inl, inr}
use Rattle.std.specs.Prelude.{IsTrue}
use mathlib.Core.List.{IsPrefix}
use Rattle.std.proofs.lemmas.List.{append-nil}
use Rattle.chan_types.specs.declared.journal.Entry.{Entry}
use Rattle.chan_types.specs.declared.journal.What.{What}
use Rattle.net_addr.specs.declared.addr.ServerAddr.{ServerAddr}
use Rattle.net_world.specs.declared.log.WorldCall.{WorldCall}
use Rattle.net_world.specs.declared.log.WorldCall.TheVariants.{Now, Serve}
use Rattle.channel_model.specs.Course.{serves_from, has_no_turn, standing_after, IsCutServing, IsCutCourse, IsCourseSoFar}
use Rattle.channel_model.specs.CutShort.{FallsShort, MayLackOne, NearlyAgrees, NearlyInOrder}
use Rattle.channel_model.specs.Journal.{Past, followed_by}
use Rattle.channel_model.specs.Links.{Link, held_after, told}
use Rattle.channel_model.specs.Setting.{Setting}
use Rattle.channel_model.specs.Stretch.{Standing, beginning, behind}
use Rattle.channel_model.specs.Traffic.{noted, arrived, faulted, opened, asked, queued, noticed, messages, datagrams, connects, written, faults, notices}
use Rattle.channel_model.specs.Turn.{parts_before, IsCutTurn}
use Rattle.channel_model.proofs.CourseLemmas.{Silent, silent_arrived, silent_faulted, silent_opened, silent_asked, silent_queued, silent_noticed, noted-silent, serves_quiet, course_whole}
use Rattle.channel_model.proofs.CutLemmas.{nearly_behind, agrees_nearly}
use Rattle.channel_model.proofs.TrafficLemmas.{noted-append, told-append}
use Rattle.channel_model.proofs.TurnLemmas.{now_agrees, parts_agree}

-- entries that aren't a turn's add nothing to what is noted
noted_behind : {A : Type 0} (seat : ℕ) (notes : Past → What → List A) → Silent notes → (past : Past) (es os : List Entry) → IsTrue (has_no_turn os) → noted seat notes past es ≡ noted seat notes past (es ++ os)
noted_behind seat notes silent past es os none =
    sym (noted-append seat notes past es os ∙ ap (λ l. noted seat notes past es ++ l) (noted-silent seat notes silent (followed_by past es) os none) ∙ append-nil (noted seat notes past es))

-- the first part of a list that is empty is empty
front_empty : {A : Type 0} (xs ys : List A) → xs ++ ys ≡ [] → xs ≡ []
front_empty [] ys h = refl
front_empty (x ∷ xs) ys h = absurd (cc h)

module _ (setting : Setting) (seat : ℕ) where
  -- entries that aren't a turn's may stand behind
  nearly_silent : (a : Standing) (es os : List Entry) (cs : List WorldCall) → IsTrue (has_no_turn os) → NearlyAgrees setting seat a es cs → NearlyAgrees setting seat a (es ++ os) cs
  nearly_silent a es os cs none x =
      record {
        arrivals = subst (λ l. FallsShort messages a.held cs l) (noted_behind seat arrived silent_arrived a.past es os none) x.arrivals;
        sends = subst (λ l. MayLackOne datagrams a.held cs l) (noted_behind seat (asked setting) (silent_asked setting) a.past es os none) x.sends;
        links = subst (λ l. MayLackOne connects a.held cs l) (noted_behind seat opened silent_opened a.past es os none) x.links;
        writes = λ link.
            subst (λ l. IsPrefix (told (written link) a.held cs) (a.unwritten link ++ l)) (noted_behind seat (queued setting link) (silent_queued setting link) a.past es os none) (x.writes link);
        faults_are = subst (λ l. FallsShort faults a.held cs l) (noted_behind seat faulted silent_faulted a.past es os none) x.faults_are;
        in_order = subst (λ l. NearlyInOrder a.held cs l) (noted_behind seat (noticed setting) (silent_noticed setting) a.past es os none) x.in_order;
      }

  -- a turn that was cut short
  pub cut_turn_nearly : (reading : ℕ) (a : Standing) (es : List Entry) (cs : List WorldCall) → IsCutTurn setting seat reading a es cs → NearlyAgrees setting seat a es cs
  cut_turn_nearly reading a es cs turn =
      let parts = turn.parts in
      subst (λ x. NearlyAgrees setting seat a es x) (sym turn.calls_are)
      (nearly_behind setting seat a a [] es (Now reading ∷ []) turn.made (now_agrees setting seat reading a)
      (subst (λ x. NearlyAgrees setting seat a x turn.made) (sym parts.entries_are)
      (subst (λ x. NearlyAgrees setting seat a (parts.entries_first ++ parts.entries_then) x) (sym parts.calls_are)
      (nearly_behind setting seat a parts.middle parts.entries_first parts.entries_then parts.calls_first parts.calls_then
      (parts_agree setting seat reading (parts_before turn.part) a parts.entries_first parts.calls_first parts.middle parts.one) parts.two.nearly))))

  -- a course that was cut short in a turn
  cut_course_nearly : (slice : ℕ) (journal : List Entry) (log : List WorldCall) (turns asides : ℕ) → IsCutCourse setting seat slice journal log turns asides → NearlyAgrees setting seat beginning journal log
  cut_course_nearly slice journal log turns asides x =
      let here = standing_after (behind beginning x.course.first) x.course.rounds in
      subst (λ l. NearlyAgrees setting seat beginning l log) (sym x.journal_is)
      (subst (λ l. NearlyAgrees setting seat beginning ((x.earlier ++ x.cut) ++ x.later) l) (sym x.log_is)
      (nearly_silent beginning (x.earlier ++ x.cut) x.later (x.calls_earlier ++ x.calls_cut) x.no_turn
      (nearly_behind setting seat beginning here x.earlier x.cut x.calls_earlier x.calls_cut
      (course_whole setting seat slice x.earlier x.calls_earlier x.whole asides x.course) (cut_turn_nearly x.reading here x.cut x.calls_cut x.turn))))

  -- the first of the serves tell nothing
  some_serves_quiet : {A : Type 0} (tells : List Link → WorldCall → List A) → ((held : List Link) (server : ℕ) (address : ServerAddr) → tells held (Serve server address) ≡ []) →
      (log : List WorldCall) (addresses : List ServerAddr) → IsPrefix log (serves_from 0 addresses) → told tells [] log ≡ []
  some_serves_quiet tells quiet log addresses p =
      front_empty (told tells [] log) (told tells (held_after [] log) p.0)
      (sym (told-append tells [] log p.0) ∙ ap (told tells []) p.1 ∙ serves_quiet setting seat tells quiet [] 0 addresses)

  -- a run that was cut short while it told the servers
  cut_serving_nearly : (journal : List Entry) (log : List WorldCall) → IsCutServing setting journal log → NearlyAgrees setting seat beginning journal log
  cut_serving_nearly journal log x =
      record {
        arrivals = inl (noted-silent seat arrived silent_arrived [] journal x.no_turn ∙ sym (some_serves_quiet messages (λ h s d. refl) log setting.options.servers x.told_so_far));
        sends = inl (noted-silent seat (asked setting) (silent_asked setting) [] journal x.no_turn ∙ sym (some_serves_quiet datagrams (λ h s d. refl) log setting.options.servers x.told_so_far));
        links = inl (noted-silent seat opened silent_opened [] journal x.no_turn ∙ sym (some_serves_quiet connects (λ h s d. refl) log setting.options.servers x.told_so_far));
        writes = λ link. (
          noted seat (queued setting link) [] journal,
          ap (λ l. l ++ noted seat (queued setting link) [] journal) (some_serves_quiet (written link) (λ h s d. refl) log setting.options.servers x.told_so_far),
        );
        faults_are = inl (noted-silent seat faulted silent_faulted [] journal x.no_turn ∙ sym (some_serves_quiet faults (λ h s d. refl) log setting.options.servers x.told_so_far));
        in_order = inl (inl (noted-silent seat (noticed setting) (silent_noticed setting) [] journal x.no_turn ∙ sym (some_serves_quiet notices (λ h s d. refl) log setting.options.servers x.told_so_far)));
      }

  -- a course, whole or cut short
  pub so_far_nearly : (slice : ℕ) (journal : List Entry) (log : List WorldCall) (turns asides : ℕ) → IsCourseSoFar setting seat slice journal log turns asides → NearlyAgrees setting seat beginning journal log
  so_far_nearly slice journal log turns asides (inl course) =
      agrees_nearly setting seat beginning (standing_after (behind beginning course.first) course.rounds) journal log (course_whole setting seat slice journal log turns asides course)
  so_far_nearly slice journal log turns asides (inr (inl cut)) = cut_course_nearly slice journal log turns asides cut
  so_far_nearly slice journal log turns asides (inr (inr serving)) = cut_serving_nearly journal log serving.0
