-- What is there where a desk looks, by the counts.
use Rattle.std.proofs.Common.{◌≡◌, ◌≢◌, ◌∙◌, ℕ, List, [], ◌∷◌, length, refl, ap, sym, arith}
use Rattle.channel_model.specs.Journal.{past_of}
use Rattle.channel_model.specs.Known.{Calls, Known}
use Rattle.channel_model.specs.Completion.{pending, ready}
use Rattle.channel_model.specs.Meanings.{TellsCounts}
use Rattle.channel_model.specs.declared.answers.Counts.{Counts}
use Rattle.channel_session.proofs.LeftLemmas.{call_looks, here_new}
use Rattle.worker_session.specs.Turning.{Looks}
use Rattle.worker_session.specs.declared.looking.Look.TheVariants.{Nothing, Pending, Ready}

-- a count
none_counted : (count : ℕ) (xs : List ℕ) → count ≡ length xs → count ≡ 0 → xs ≡ []
none_counted count [] is none = refl
none_counted count (x ∷ xs) is none = let h : length (x ∷ xs) ≡ 0 = sym is ∙ none in absurd (omega (arith, h))

some_counted : (count : ℕ) (xs : List ℕ) → count ≡ length xs → count ≢ 0 → xs ≢ []
some_counted count xs is some none = some (is ∙ ap length none)

module _ (counts : Counts) (old new : Known) (call : Calls (TellsCounts counts) 0 old new) where
  pending_here : counts.pending ≡ length (pending new.setting (past_of new.seen))
  pending_here =
      call.meant.requests_pending ∙ ap length (here_new (λ setting seen. pending setting (past_of seen)) (TellsCounts counts) 0 old new call call.meant.nothing)

  ready_here : counts.ready ≡ length (ready new.setting (past_of new.seen))
  ready_here = call.meant.requests_ready ∙ ap length (here_new (λ setting seen. ready setting (past_of seen)) (TellsCounts counts) 0 old new call call.meant.nothing)

  pub looks_ready : counts.ready ≢ 0 → Looks Ready old new
  looks_ready some = record {
    looked = call_looks (TellsCounts counts) 0 old new call call.meant.nothing;
    there = some_counted counts.ready (ready new.setting (past_of new.seen)) ready_here some;
  }

  pub looks_pending : counts.ready ≡ 0 → counts.pending ≢ 0 → Looks Pending old new
  looks_pending none some = record {
    looked = call_looks (TellsCounts counts) 0 old new call call.meant.nothing;
    there = (none_counted counts.ready (ready new.setting (past_of new.seen)) ready_here none, some_counted counts.pending (pending new.setting (past_of new.seen)) pending_here some);
  }

  pub looks_nothing : counts.ready ≡ 0 → counts.pending ≡ 0 → Looks Nothing old new
  looks_nothing none none_either = record {
    looked = call_looks (TellsCounts counts) 0 old new call call.meant.nothing;
    there = (none_counted counts.ready (ready new.setting (past_of new.seen)) ready_here none, none_counted counts.pending (pending new.setting (past_of new.seen)) pending_here none_either);
  }
