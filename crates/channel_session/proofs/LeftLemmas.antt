-- What is left on a channel, by its counts, and what was taken there.
use Rattle.std.proofs.Common.{◌≡◌, ◌≢◌, ◌∙◌, ℕ, List, [], ◌∷◌, ◌++◌, length, refl, ap, sym, subst, arith}
use Rattle.std.specs.Prelude.{None}
use Rattle.std.proofs.lemmas.List.{append-nil}
use Rattle.chan_types.specs.declared.journal.Entry.{Entry}
use Rattle.chan_types.specs.declared.script.Script.{Script}
use Rattle.channel_model.proofs.Theorems.{call_goes_on}
use Rattle.channel_model.specs.Completion.{pending, ready}
use Rattle.channel_model.specs.Journal.{past_of}
use Rattle.channel_model.specs.Known.{Calls, Known}
use Rattle.channel_model.specs.Meanings.{Meaning, Takes, TellsCounts}
use Rattle.channel_model.specs.Names.{NamesBecome}
use Rattle.channel_model.specs.Seen.{entries_of}
use Rattle.channel_model.specs.Setting.{Setting}
use Rattle.channel_model.specs.declared.answers.Counts.{Counts}
use Rattle.event_runner.proofs.PauseLemmas.{names_same}
use Rattle.event_runner.specs.Running.{HasLooked}
use Rattle.channel_session.specs.Left.{LooksAt}
use Rattle.channel_session.specs.declared.left.Left.TheVariants.{Nothing, Pending, Ready}

-- a call that adds nothing is a look
pub call_looks : (meaning : Meaning) (by : ℕ) (old new : Known) (call : Calls meaning by old new) → call.added ≡ None → HasLooked old new
call_looks meaning by old new call none = record {
  goes_on = call_goes_on meaning by old new call;
  own = call.own ∙ ap (λ added. old.own ++ entries_of old.seat by added) none ∙ append-nil old.own;
  names = names_same old.names new.names (subst (λ added. NamesBecome added old.names new.names) none call.names);
}

-- what a list of a position is, where a call that added nothing left its desk
pub here_new : (list : Setting → List Entry → List ℕ) (meaning : Meaning) (by : ℕ) (old new : Known) (call : Calls meaning by old new) → call.added ≡ None → list old.setting call.here ≡ list new.setting new.seen
here_new list meaning by old new call none =
    let seen : call.here ≡ new.seen = sym (call.seen ∙ ap (λ added. call.here ++ entries_of old.seat by added) none ∙ append-nil call.here) in
    ap (list old.setting) seen ∙ ap (λ setting. list setting new.seen) (sym call.desk.setting)

-- a count
none_counted : (count : ℕ) (xs : List ℕ) → count ≡ length xs → count ≡ 0 → xs ≡ []
none_counted count [] is none = refl
none_counted count (x ∷ xs) is none = let h : length (x ∷ xs) ≡ 0 = sym is ∙ none in absurd (omega (arith, h))

some_counted : (count : ℕ) (xs : List ℕ) → count ≡ length xs → count ≢ 0 → xs ≢ []
some_counted count xs is some none = some (is ∙ ap length none)

module _ (counts : Counts) (old new : Known) (call : Calls (TellsCounts counts) 0 old new) where
  looks : HasLooked old new
  looks = call_looks (TellsCounts counts) 0 old new call call.meant.nothing

  pending_here : counts.pending ≡ length (pending new.setting (past_of new.seen))
  pending_here =
      call.meant.requests_pending ∙ ap length (here_new (λ setting seen. pending setting (past_of seen)) (TellsCounts counts) 0 old new call call.meant.nothing)

  ready_here : counts.ready ≡ length (ready new.setting (past_of new.seen))
  ready_here = call.meant.requests_ready ∙ ap length (here_new (λ setting seen. ready setting (past_of seen)) (TellsCounts counts) 0 old new call call.meant.nothing)

  -- what is left, by the counts
  pub left_pending : counts.pending ≢ 0 → LooksAt Pending old new
  left_pending some = record { looked = looks; is_left = some_counted counts.pending (pending new.setting (past_of new.seen)) pending_here some }

  pub left_ready : counts.pending ≡ 0 → counts.ready ≢ 0 → LooksAt Ready old new
  left_ready none some = record {
    looked = looks;
    is_left = (
      none_counted counts.pending (pending new.setting (past_of new.seen)) pending_here none,
      some_counted counts.ready (ready new.setting (past_of new.seen)) ready_here some,
    );
  }

  pub left_nothing : counts.pending ≡ 0 → counts.ready ≡ 0 → LooksAt Nothing old new
  left_nothing none none_either = record {
    looked = looks;
    is_left = (
      none_counted counts.pending (pending new.setting (past_of new.seen)) pending_here none,
      none_counted counts.ready (ready new.setting (past_of new.seen)) ready_here none_either,
    );
  }

-- nothing is ready where none was taken
pub none_ready : {T : Type 0} (plan : T → Script) (old new : Known) → Calls (Takes {T = T} plan None) 0 old new → ready new.setting (past_of new.seen) ≡ []
none_ready {T} plan old new call = sym (here_new (λ setting seen. ready setting (past_of seen)) (Takes {T = T} plan None) 0 old new call call.meant.0) ∙ call.meant.1
