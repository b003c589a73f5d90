-- What is done through a pass that a serve is lent.
use Rattle.std.proofs.Common.{◌≡◌, ◌∙◌, ℕ, List, [], ◌∷◌, length, refl, ap, sym, arith}
use Rattle.std.specs.List.{AllZip}
use Rattle.channel_fleet.specs.Fronts.{LooksBehind, LooksOn, UsesFleet}
use Rattle.channel_fleet.specs.Stands.{IsOverAt}
use Rattle.channel_fleet.specs.Staying.{BerthsStay}
use Rattle.channel_fleet.specs.Views.{BerthView}
use Rattle.channel_model.specs.Completion.{pending, ready}
use Rattle.channel_model.specs.Journal.{past_of}
use Rattle.channel_model.specs.Known.{Calls}
use Rattle.channel_model.specs.Meanings.{TellsCounts}
use Rattle.channel_model.specs.declared.answers.Counts.{Counts}
use Rattle.channel_session.proofs.LeftLemmas.{call_looks, here_new}
use Rattle.channel_session.proofs.PartLemmas.{looked_then}
use Rattle.event_runner.proofs.PauseLemmas.{looked_none}
use Rattle.shared_channel.specs.Passes.{PassView, desk_of}
use Rattle.shared_channel.specs.Staying.{StaysSettled}
use Rattle.shared_channel.proofs.Theorems.{stays_looks}
use Rattle.channel_fleet.proofs.CallingLemmas.{calls_pass}
use Rattle.channel_fleet.proofs.StayLemmas.{berths_stay_more}
use Rattle.channel_fleet.proofs.UseLemmas.{uses_stay}

-- a count of nothing
none_counted : (count : ℕ) (xs : List ℕ) → count ≡ length xs → count ≡ 0 → xs ≡ []
none_counted count [] is none = refl
none_counted count (x ∷ xs) is none = let h : length (x ∷ xs) ≡ 0 = sym is ∙ none in absurd (omega (arith, h))

-- counts that were answered are a look
pub looks_counts : (counts : Counts) (old new : PassView) → Calls (TellsCounts counts) 0 (desk_of old) (desk_of new) → LooksOn old new
looks_counts counts old new call =
    let looked = call_looks (TellsCounts counts) 0 (desk_of old) (desk_of new) call call.meant.nothing in
    record { looked = looked; same = (calls_pass (TellsCounts counts) old new call).same ∙ ap (λ own. record old { own = own; seen = new.seen }) looked.own }

-- and where nothing was counted nothing is pending or ready
pub over_counts : (counts : Counts) (old new : PassView) → Calls (TellsCounts counts) 0 (desk_of old) (desk_of new) → counts.pending ≡ 0 → counts.ready ≡ 0 → IsOverAt new
over_counts counts old new call no_pending no_ready = (
  none_counted counts.pending (pending new.setting (past_of new.seen)) (call.meant.requests_pending ∙ ap length (here_new (λ setting seen. pending setting (past_of seen)) (TellsCounts counts) 0 (desk_of old) (desk_of new) call call.meant.nothing)) no_pending,
  none_counted counts.ready (ready new.setting (past_of new.seen)) (call.meant.requests_ready ∙ ap length (here_new (λ setting seen. ready setting (past_of seen)) (TellsCounts counts) 0 (desk_of old) (desk_of new) call call.meant.nothing)) no_ready,
)

pub looks_none : (pass : PassView) → LooksOn pass pass
looks_none pass = record { looked = looked_none (desk_of pass); same = refl }

pub looks_more : (a b c : PassView) → LooksOn a b → LooksOn b c → LooksOn a c
looks_more a b c first second = record {
  looked = looked_then (desk_of a) (desk_of b) (desk_of c) first.looked second.looked;
  same = second.same ∙ ap (λ (p : PassView). record p { seen = c.seen }) first.same;
}

pub looks_stay : (old new : PassView) → LooksOn old new → StaysSettled old new
looks_stay old new looks = stays_looks old new looks.looked.goes_on looks.looked.own

-- berths through which a channel was looked at stay
pub looks_stay_each : (olds news : List BerthView) → AllZip LooksBehind olds news → BerthsStay olds news
looks_stay_each [] [] looks = tt
looks_stay_each [] (n ∷ ns) looks = absurd looks
looks_stay_each (o ∷ os) [] looks = absurd looks
looks_stay_each (o ∷ os) (n ∷ ns) looks = (looks_stay o.pass n.pass looks.0.pass, looks_stay_each os ns looks.1)

-- and so do those of a pass that a serve was lent
pub lent_stay : {F : Type 0} (does : F → List BerthView → F → List BerthView → Type 0) (front : F) (old : List BerthView) (front_new : F) (new : List BerthView) → UsesFleet does front old front_new new → BerthsStay old new
lent_stay does front old front_new new uses = berths_stay_more old uses.middle new (uses_stay old uses.middle uses.used) (looks_stay_each uses.middle new uses.looked)
