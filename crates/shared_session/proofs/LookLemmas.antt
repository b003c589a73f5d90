-- What a look at a channel's counts tells.
use Rattle.std.proofs.Common.{◌≡◌, ◌∙◌, ℕ, Bool, true, List, [], ◌∷◌, length, refl, ap, sym, arith}
use Rattle.channel_model.specs.Completion.{pending, ready}
use Rattle.channel_model.specs.Journal.{past_of}
use Rattle.channel_model.specs.Known.{Calls}
use Rattle.channel_model.specs.Meanings.{TellsCounts}
use Rattle.channel_model.specs.declared.answers.Counts.{Counts}
use Rattle.channel_session.proofs.LeftLemmas.{call_looks, here_new}
use Rattle.shared_channel.specs.Passes.{PassView, desk_of}
use Rattle.shared_session.specs.Looking.{Looks}

-- a count of nothing
none_counted : (count : ℕ) (xs : List ℕ) → count ≡ length xs → count ≡ 0 → xs ≡ []
none_counted count [] is none = refl
none_counted count (x ∷ xs) is none = let h : length (x ∷ xs) ≡ 0 = sym is ∙ none in absurd (omega (arith, h))

pub looks_by : (counts : Counts) (old new : PassView) → Calls (TellsCounts counts) 0 (desk_of old) (desk_of new) → (none : Bool) → (none ≡ true → (counts.pending ≡ 0) × (counts.ready ≡ 0)) → Looks none old new
looks_by counts old new call none tells = record {
  looked = call_looks (TellsCounts counts) 0 (desk_of old) (desk_of new) call call.meant.nothing;
  nothing = λ is.
      let zero_ = tells is in
      record {
        none_pending = none_counted counts.pending (pending new.setting (past_of new.seen)) (call.meant.requests_pending ∙ ap length (here_new (λ setting seen. pending setting (past_of seen)) (TellsCounts counts) 0 (desk_of old) (desk_of new) call call.meant.nothing)) zero_.0;
        none_ready = none_counted counts.ready (ready new.setting (past_of new.seen)) (call.meant.requests_ready ∙ ap length (here_new (λ setting seen. ready setting (past_of seen)) (TellsCounts counts) 0 (desk_of old) (desk_of new) call call.meant.nothing)) zero_.1;
      };
}
