-- Plain runs that stalled.
use Rattle.std.proofs.Common.{◌≡◌, ◌∙◌, ℕ, ◌+◌, ◌*◌, ◌-◌, ◌^◌, ◌≤◌, Bool, true, false, List, [], ◌∷◌, ◌++◌, refl, ap, cond, take, arith, length}
use Rattle.std.proofs.Math.Nat.{one-le-mul}
use Rattle.std.specs.Prelude.{All, IsFalse, flat_map}
use Rattle.chan_types.specs.declared.journal.Entry.{Entry}
use Rattle.net_world.specs.declared.log.WorldCall.{WorldCall}
use Rattle.channel_model.proofs.Theorems.{followed_by-append}
use Rattle.channel_model.specs.Course.{entries_of, readings, serves_from}
use Rattle.channel_model.specs.Endings.{IsStalledBehind}
use Rattle.channel_model.specs.Journal.{Past, accepted, followed_by, past_of}
use Rattle.channel_model.specs.Servers.{in_use, keyed_from}
use Rattle.channel_model.specs.Setting.{Setting}
use Rattle.channel_model.specs.Turn.{received_in}
use Rattle.net_addr.specs.declared.addr.ServerAddr.{ServerAddr}
use Rattle.channel_progress.specs.Allowed.{attempts_allowed}
use Rattle.channel_progress.specs.Beside.{IsStalledBeside}
use Rattle.channel_progress.specs.PlainRun.{IsPlainRun}
use Rattle.channel_progress.specs.Prompted.{accepts_some, unprompted_in}
use Rattle.channel_progress.proofs.CourseLemmas.{course_bound}
use Rattle.channel_progress.proofs.FitLemmas.{IsFit}
use Rattle.channel_progress.proofs.MostLemmas.{in_use_most-later}
use Rattle.channel_progress.proofs.PromptedLemmas.{none_unprompted, unprompted_few}

-- where the options have a server, one is in use
used_some : (setting : Setting) → 1 ≤ length setting.options.servers → 1 ≤ in_use setting []
used_some setting server = used setting.options.flags.primary setting.options.servers server
  where
    used : (primary : Bool) (servers : List ServerAddr) → 1 ≤ length servers → 1 ≤ length (cond primary (take 1 (keyed_from 0 servers)) (keyed_from 0 servers))
    used primary [] few = absurd (omega (arith, few))
    used true (server ∷ servers) few = omega arith
    used false (server ∷ servers) few = omega arith

-- at most so many turns, in any case, however often the clock was read beside them
pub beside_any : (setting : Setting) (seat turns asides : ℕ) (journal : List Entry) (log : List WorldCall) → IsPlainRun setting seat journal log → (stalled : IsStalledBeside setting seat (2 ^ 64 - 1) turns asides journal log)
    → turns ≤ 2 * attempts_allowed setting journal + received_in log + 2 * unprompted_in setting stalled.course.rounds
beside_any setting seat turns asides journal log run stalled =
    let end : Past = past_of journal in
    let fit : IsFit setting end end = record {
      lawful = run.lawful.allowed;
      used_most = omega arith;
      set_most = omega arith;
      some_try = one-le-mul (omega (arith, used_some setting run.some_server, in_use_most-later setting [] journal)) run.some_try;
    } in
    let few = course_bound setting end seat stalled.course.rounds stalled.course.first journal (serves_from 0 setting.options.servers ++ readings stalled.course.first_asides) log refl fit run.alone stalled.course.journal_is
    stalled.course.log_is stalled.course.turns_are run.wakes run.waited stalled.left_pending in
    omega (arith, few, stalled.course.count)

-- two turns more for each request that is accepted
pub beside_many : (setting : Setting) (seat turns asides : ℕ) (journal : List Entry) (log : List WorldCall) → IsPlainRun setting seat journal log → IsStalledBeside setting seat (2 ^ 64 - 1) turns asides journal log
    → turns ≤ 2 * attempts_allowed setting journal + 2 * length (accepted (past_of journal)) + received_in log
beside_many setting seat turns asides journal log run stalled =
    let parts : past_of journal ≡ followed_by (followed_by [] stalled.course.first) (flat_map entries_of stalled.course.rounds) = ap past_of stalled.course.journal_is ∙ followed_by-append [] stalled.course.first (flat_map entries_of stalled.course.rounds) in
    omega (arith, beside_any setting seat turns asides journal log run stalled, unprompted_few setting (followed_by [] stalled.course.first) stalled.course.rounds, ap (λ p. length (accepted p)) parts)

-- a run that reads the clock in its turns alone is one of these
abbrev none_beside : (setting : Setting) (seat turns : ℕ) (journal : List Entry) (log : List WorldCall) → IsStalledBehind setting seat (2 ^ 64 - 1) turns journal log → IsStalledBeside setting seat (2 ^ 64 - 1) turns 0 journal log
none_beside setting seat turns journal log stalled = record { course = stalled.course; left_pending = stalled.left_pending }

-- at most so many turns, in any case
pub stalled_any : (setting : Setting) (seat turns : ℕ) (journal : List Entry) (log : List WorldCall) → IsPlainRun setting seat journal log → (stalled : IsStalledBehind setting seat (2 ^ 64 - 1) turns journal log)
    → turns ≤ 2 * attempts_allowed setting journal + received_in log + 2 * unprompted_in setting stalled.course.rounds
stalled_any setting seat turns journal log run stalled = beside_any setting seat turns 0 journal log run (none_beside setting seat turns journal log stalled)

-- where none is accepted between turns
pub stalled_first : (setting : Setting) (seat turns : ℕ) (journal : List Entry) (log : List WorldCall) → IsPlainRun setting seat journal log → (stalled : IsStalledBehind setting seat (2 ^ 64 - 1) turns journal log)
    → All (λ round. IsFalse (accepts_some round.between)) stalled.course.rounds → turns ≤ 2 * attempts_allowed setting journal + received_in log
stalled_first setting seat turns journal log run stalled none = omega (arith, stalled_any setting seat turns journal log run stalled, none_unprompted setting stalled.course.rounds none)

-- two turns more for each request that is accepted
pub stalled_many : (setting : Setting) (seat turns : ℕ) (journal : List Entry) (log : List WorldCall) → IsPlainRun setting seat journal log → IsStalledBehind setting seat (2 ^ 64 - 1) turns journal log
    → turns ≤ 2 * attempts_allowed setting journal + 2 * length (accepted (past_of journal)) + received_in log
stalled_many setting seat turns journal log run stalled = beside_many setting seat turns 0 journal log run (none_beside setting seat turns journal log stalled)

-- and where one is accepted at most
pub stalled_one : (setting : Setting) (seat turns : ℕ) (journal : List Entry) (log : List WorldCall) → IsPlainRun setting seat journal log → IsStalledBehind setting seat (2 ^ 64 - 1) turns journal log
    → length (accepted (past_of journal)) ≤ 1 → turns ≤ 2 * attempts_allowed setting journal + received_in log + 2
stalled_one setting seat turns journal log run stalled one = omega (arith, stalled_many setting seat turns journal log run stalled, one)
