-- What entries do on nobody's command, and what a thread that asks does to its pass.
use Rattle.std.proofs.Common.{◌≡◌, ◌∙◌, ◌≢◌, ◌==◌, ℕ, Bool, true, false, List, [], ◌∷◌, ◌++◌, Some, None, Ok, cond, map, refl, ap, ne_eqb}
use Rattle.std.proofs.lemmas.List.{append-nil}
use Rattle.std.proofs.lemmas.List.Elements.{filter_map-append}
use Rattle.std.specs.List.{AllByRecursion}
use Rattle.chan_types.specs.Plans.{blank}
use Rattle.chan_types.specs.declared.journal.Entry.{Entry}
use Rattle.chan_types.specs.declared.spec.Spec.{Spec}
use Rattle.channel_model.specs.Known.{Calls}
use Rattle.channel_model.specs.Meanings.{Accepts}
use Rattle.channel_model.specs.Seen.{entries_of}
use Rattle.completion_ticket.specs.States.{CallbackState}
use Rattle.shared_channel.specs.Passes.{PassView, desk_of}
use Rattle.shared_channel.specs.Under.{plan_of}
use Rattle.shared_channel.proofs.Theorems.{stays_accept}
use Rattle.thread_lookups.specs.Asking.{asking, free_use, use_by, uses_in}
use Rattle.thread_lookups.specs.Passing.{AsksEach}

-- an entry whose event is no use of the channel, and one on a request's command
pub event_uses : (e : Entry) → use_by e.what ≡ None → free_use e ≡ None
event_uses e none = by_test (e.by == 0)
  where
    by_test : (b : Bool) → cond b (use_by e.what) None ≡ None
    by_test true = none
    by_test false = refl

pub command_uses : (e : Entry) → e.by ≢ 0 → free_use e ≡ None
command_uses e some = rw (ne_eqb e.by 0 some) refl

-- entries of which none is one
pub none_used : (es : List Entry) → AllByRecursion (λ e. free_use e ≡ None) es → uses_in es ≡ []
none_used [] each = refl
none_used (e ∷ es) each = rw each.0 (none_used es each.1)

-- more entries, of which none is one
pub uses_kept : (old new more : List Entry) → new ≡ old ++ more → uses_in more ≡ [] → uses_in new ≡ uses_in old
uses_kept old new more is none = ap uses_in is ∙ filter_map-append free_use old more ∙ ap (λ uses. uses_in old ++ uses) none ∙ append-nil (uses_in old)

-- a request that was accepted
pub asks_accepted : (spec : Spec) (token : CallbackState) (number : ℕ) (old new : PassView) → plan_of token ≡ blank 0 → Calls (Accepts plan_of spec token (Ok number)) 0 (desk_of old) (desk_of new) → AsksEach (spec ∷ []) old new
asks_accepted spec token number old new quiet call = record {
  entries = entries_of old.number 0 call.added;
  makes = record { stays = stays_accept spec token (Ok number) old new call; own = call.own };
  asked = ap (λ added. map free_use (entries_of old.number 0 added)) call.meant.0 ∙ ap (λ script. Some (asking spec script) ∷ []) quiet;
}
