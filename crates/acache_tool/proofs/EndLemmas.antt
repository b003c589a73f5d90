-- A name that isn't brought to its answer: what is left, and where the run stands.
use Rattle.std.proofs.Common.{◌≡◌, ◌∙◌, ℕ, ◌+◌, ◌≤◌, List, [], ◌∷◌, ◌++◌, length, refl, ap, sym, subst, arith, ⊎_elim, append_assoc}
use Rattle.std.specs.Prelude.{None, Option, Some, ⊤}
use Rattle.std.proofs.lemmas.List.{append-nil}
use Rattle.chan_types.specs.declared.answer.Answer.{Answer}
use Rattle.net_world.specs.Cause.{Rose}
use Rattle.net_world.specs.declared.answers.Waited.TheVariants.{Failed}
use Rattle.net_world.specs.declared.log.WorldCall.{WorldCall}
use Rattle.net_world.specs.declared.log.WorldCall.TheVariants.{Now, Wait}
use Rattle.channel_model.specs.Completion.{taken}
use Rattle.channel_model.specs.Journal.{past_of}
use Rattle.channel_model.specs.Setting.{Setting}
use Rattle.channel_session.specs.Advancing.{LogGrows}
use Rattle.channel_session.specs.Progressing.{EndsWithWait}
use Rattle.channel_session.specs.Sitting.{Sitting, StandsBehind, moment_of, reach_of}
use Rattle.channel_table.specs.Calling.{Owned, known_by_owner}
use Rattle.net_world.specs.Logs.{LogGets}
use Rattle.event_runner.proofs.Theorems.{ran_at_most, ran_so_far, told_as, told_by, told_trans}
use Rattle.event_runner.specs.UnderWay.{RanSince}
use Rattle.tool_line.specs.Words.{Text}
use Rattle.owner_laws.specs.Sessions.{longest_slice}
use Rattle.acache_tool.specs.Bringing.{Answers, AnswersNone}
use Rattle.acache_tool.specs.Leaving.{EndsCut, EndsStalled, EndsUnwaited, IsAt, Leaves, numbers_of}
use Rattle.acache_tool.specs.Naming.{IsAsked, IsStalled, IsUnanswered, IsUnasked, IsUnread, IsUnwaited, Reads, Scene, with_channel}
use Rattle.acache_tool.specs.Parts.{Open, Part, requests_of}
use Rattle.acache_tool.specs.Told.{AreTold, AreToldThen}
use Rattle.acache_tool.proofs.NameLemmas.{leaves_answered, leaves_asked, leaves_on, may_ask}

-- a run that stands somewhere may have been cut short there, at the latest in so many turns
stood_cut : (made most asides : ℕ) (began log : Option (List WorldCall)) (channel : Owned) (s : Sitting) → made ≤ most → StandsBehind made asides began (moment_of (known_by_owner channel) s log) →
    RanSince longest_slice most asides (known_by_owner channel) began log
stood_cut made most asides began log channel s few here =
    ran_at_most longest_slice made most asides (known_by_owner channel) began log few
    (ran_so_far longest_slice made asides began log (reach_of s.behind_turn) (known_by_owner channel) s.running here.runs)

-- the last of these calls is a wait that failed
abbrev pub IsLastWait : List WorldCall → Type 0
IsLastWait calls = (earlier : List WorldCall) × (until : ℕ) × (calls ≡ earlier ++ Wait until Failed ∷ [])

ends_behind : (l m n : Option (List WorldCall)) → LogGrows l m → EndsWithWait m n → EndsWithWait l n
ends_behind l m n =
    told_trans (λ cs. ⊤) IsLastWait IsLastWait
    (λ cs ds any last. (cs ++ last.0, last.1, ap (λ ws. cs ++ ws) last.2 ∙ sym (append_assoc cs last.0 (Wait last.1 Failed ∷ []))))
    l m n

module _ (room : ℕ) (setting : Setting) (turns : ℕ) (parts : List Part) (began : Option (List WorldCall)) (a b : Scene) (x : IsAt room setting turns parts began a) where
  few_made : x.made ≤ turns
  few_made = omega (arith, x.count)

  -- memory was wanting at the clock
  pub left_unread : IsUnread a b → Leaves room setting parts None b.asker.alone b.asker.calls × EndsCut turns (length parts + 1) began b
  left_unread unread = subst (λ asker. Leaves room setting parts None asker.alone asker.calls × EndsCut turns (length parts + 1) began (record { asker = asker; shown = b.shown; log = b.log })) (sym unread.asker) (
    x.leaves,
    subst (λ l. EndsCut turns (length parts + 1) began (record { asker = a.asker; shown = b.shown; log = l })) (sym unread.no_call) (record {
      asides = length parts;
      few = omega arith;
      ran = stood_cut x.made turns (length parts) began a.log a.asker.alone a.asker.session few_made x.behind;
    }),
  )

  module _ (name : Text) (at : ℕ) (log : Option (List WorldCall)) (reads : Reads at a log) where
    abbrev o : Open
    o = record { name = name; at = at }

    here : StandsBehind x.made (length parts + 1) began (moment_of (known_by_owner a.asker.alone) a.asker.session log)
    here = reads.reads.1 (known_by_owner a.asker.alone) began x.made (length parts) x.behind

    -- the calls of the names before it, and behind them those for this one
    told_then : LogGrows log b.log → LogGets (AreToldThen setting parts o) began b.log
    told_then grows =
        told_trans (λ cs. (front : List WorldCall) × AreTold setting parts front × (cs ≡ front ++ Now at ∷ [])) (λ ds. ⊤) (AreToldThen setting parts o)
        (λ cs ds told any. record {
          front = told.0;
          behind = ds;
          calls_are = ap (λ l. l ++ ds) told.2 ∙ append_assoc told.0 (Now at ∷ []) ds;
          told = told.1;
        })
        began log b.log
        (told_trans (AreTold setting parts) (λ ds. ds ≡ Now at ∷ []) (λ cs. (front : List WorldCall) × AreTold setting parts front × (cs ≡ front ++ Now at ∷ []))
        (λ cs ds told is. (cs, told, ap (λ l. cs ++ l) is)) began a.log log x.told (told_by (λ ds. ds ≡ Now at ∷ []) (Now at ∷ []) refl a.log log reads.reads.0))
        grows

    -- or before the name was asked for
    pub left_unasked : IsUnasked a b log → Leaves room setting parts None b.asker.alone b.asker.calls × EndsCut turns (length parts + 1) began b
    left_unasked unasked =
        subst (λ asker. Leaves room setting parts None asker.alone asker.calls × EndsCut turns (length parts + 1) began (record { asker = asker; shown = b.shown; log = b.log })) (sym unasked.asker) (
          leaves_on room setting parts None a.asker.alone b.asker.alone a.asker.calls unasked.grows x.leaves,
          subst (λ l. EndsCut turns (length parts + 1) began (record { asker = with_channel a.asker b.asker.alone; shown = b.shown; log = l })) (sym unasked.no_call) (record {
            asides = length parts + 1;
            few = omega arith;
            ran = stood_cut x.made turns (length parts + 1) began log b.asker.alone a.asker.session few_made (unasked.stands a.asker.session log began x.made (length parts + 1) here);
          }),
        )

    module _ (channel : Owned) (asked : IsAsked name at a channel) where
      mid : Leaves room setting parts (Some o) channel a.asker.calls
      mid = leaves_asked room setting parts name at a.asker.alone channel a.asker.calls (may_ask room setting parts name at a.shown.cache x.kept asked.missed) x.taken_are asked.asks.0 x.leaves

      taken_mid : taken (past_of channel.seen) ≡ numbers_of (requests_of parts)
      taken_mid = asked.asks.0.takes_are ∙ append-nil (taken (past_of a.asker.alone.seen)) ∙ x.taken_are

      mid_stands : StandsBehind x.made (length parts + 1) began (moment_of (known_by_owner channel) a.asker.session log)
      mid_stands = asked.asks.2 a.asker.session log began x.made (length parts + 1) here

      none_more : AnswersNone (with_channel a.asker channel) b.asker → Leaves room setting parts (Some o) b.asker.alone b.asker.calls
      none_more none = subst (λ calls. Leaves room setting parts (Some o) b.asker.alone calls) (sym none.called)
          (leaves_on room setting parts (Some o) channel b.asker.alone a.asker.calls none.grows mid)

      one_more : (answer : Answer) → Answers answer (with_channel a.asker channel) b.asker → Leaves room setting parts (Some o) b.asker.alone b.asker.calls
      one_more answer one = subst (λ calls. Leaves room setting parts (Some o) b.asker.alone calls) (sym one.called)
          (leaves_answered room setting parts o channel b.asker.alone a.asker.calls answer taken_mid mid one.grows one.its_fate).0

    -- a wait failed
    pub left_unwaited : (f g : ℕ) → IsUnwaited f g name at a b log → Leaves room setting parts (Some o) b.asker.alone b.asker.calls × EndsUnwaited setting turns parts o began b × Rose f g
    left_unwaited f g is = (
      none_more is.channel is.asked is.brings.0,
      record {
        made = x.made + is.brings.3.0;
        count = omega (arith, x.count, is.brings.3.1);
        runs = (is.brings.3.2 began x.made (length parts + 1) (mid_stands is.channel is.asked)).0;
        begun = (is.brings.3.2 began x.made (length parts + 1) (mid_stands is.channel is.asked)).1;
        last = ends_behind began log b.log
            (told_trans (AreTold setting parts) (λ ds. ⊤) (λ ds. ⊤) (λ cs ds p q. tt) began a.log log x.told (told_by (λ ds. ⊤) (Now at ∷ []) tt a.log log reads.reads.0)) is.brings.2;
        told = told_then (told_as IsLastWait (λ ds. ⊤) (λ ds last. tt) log b.log is.brings.2);
      },
      is.brings.1,
    )

    -- no turn was left
    pub left_stalled : (f g : ℕ) → IsStalled f g name at a b log → Leaves room setting parts (Some o) b.asker.alone b.asker.calls × EndsStalled setting turns parts o began b
    left_stalled f g is =
        let all : x.made + a.asker.left ≡ turns = x.count in (
          none_more is.channel is.asked is.brings.0,
          record {
            behind = subst (λ n. StandsBehind n (length parts + 1) began (moment_of (known_by_owner b.asker.alone) b.asker.session b.log)) all
                (is.brings.4 began x.made (length parts + 1) (mid_stands is.channel is.asked));
            told = told_then is.brings.3;
            some_pending = is.brings.2;
          },
        )

    -- memory was wanting behind its Accept
    pub left_unanswered : (f g : ℕ) → IsUnanswered f g name at a b log → Leaves room setting parts (Some o) b.asker.alone b.asker.calls × EndsCut turns (length parts + 1) began b
    left_unanswered f g is = ⊎_elim
        (λ cut. (
          ⊎_elim (λ none. none_more is.channel is.asked none) (λ one. one_more is.channel is.asked one.0 one.1) cut.0,
          record {
            asides = length parts + 1;
            few = omega arith;
            ran = subst (λ n. RanSince longest_slice n (length parts + 1) (known_by_owner b.asker.alone) began b.log) x.count (cut.1 began x.made (length parts + 1) (mid_stands is.channel is.asked));
          },
        ))
        (λ whole. (
          one_more is.channel is.asked whole.0 whole.1.0,
          record {
            asides = length parts + 1;
            few = omega arith;
            ran = stood_cut (x.made + whole.1.2.0) turns (length parts + 1) began b.log b.asker.alone b.asker.session (omega (arith, x.count, whole.1.2.1))
                (whole.1.2.2 began x.made (length parts + 1) (mid_stands is.channel is.asked));
          },
        ))
        is.brings
