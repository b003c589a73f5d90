-- A runner over a place leaves its pass settled: between two moments the pass went on as a desk and took nothing, since a turn makes entries of turns alone, and a pause makes none.
use Rattle.std.proofs.Common.{◌≡◌, ◌∙◌, ◌==◌, true, List, [], ◌∷◌, None, length, refl, ap, sym}
use Rattle.std.proofs.lemmas.Bool.{and_parts}
use Rattle.std.proofs.lemmas.List.{append-nil, append_cancel_left}
use Rattle.std.specs.List.{list_all}
use Rattle.std.specs.Prelude.{not}
use Rattle.chan_types.specs.declared.journal.Entry.{Entry}
use Rattle.chan_types.specs.declared.journal.What.{What}
use Rattle.chan_types.specs.declared.journal.What.TheVariants.{Accept, Arrive, Cancel, Destroy, Expire, Fault, Servers, Start, Take}
use Rattle.channel_model.specs.Completion.{taken_by}
use Rattle.channel_model.specs.Course.{is_of_turn}
use Rattle.channel_model.specs.Journal.{own_entries}
use Rattle.channel_model.specs.Known.{GoesOn}
use Rattle.channel_model.specs.Turn.{parts_of_entry}
use Rattle.shared_channel.specs.Passes.{PassView, desk_of}
use Rattle.shared_channel.specs.Settling.{taken_in}
use Rattle.shared_channel.specs.Staying.{StaysSettled}
use Rattle.shared_channel.proofs.GoingLemmas.{WentOn}
use Rattle.shared_channel.proofs.PassLemmas.{rest_of}
use Rattle.shared_channel.proofs.StayLemmas.{stays}

-- a pass that went on as a desk, and took nothing
pub went_as_desk : (old new : PassView) (goes : GoesOn (desk_of old) (desk_of new)) → taken_in (own_entries old.number goes.since) ≡ [] → WentOn old new
went_as_desk old new goes none =
    let rest = rest_of old new goes.desk in
    record {
      since = goes.since;
      seen = goes.seen;
      own = goes.own;
      told = [];
      calls = ap (λ p. p.calls) rest ∙ sym (append-nil old.calls);
      numbers = sym none;
      fates = tt;
      lawful = goes.lawful;
      rest = rest ∙ (λ i. record old { own = new.own; seen = new.seen; calls = sym (ap (λ p. p.calls) rest) i; lost = sym (ap (λ p. p.lost) rest) i });
    }

-- what only a turn makes takes nothing
turn_takes : (what : What) → not (length (parts_of_entry what) == 0) ≡ true → taken_by what ≡ None
turn_takes (Accept number spec script) of_turn = refl
turn_takes Cancel of_turn = refl
turn_takes Destroy of_turn = refl
turn_takes (Take number) of_turn = absurd (cc of_turn)
turn_takes (Start number leg server link id mix moment) of_turn = refl
turn_takes (Arrive server link bytes) of_turn = refl
turn_takes (Expire number leg moment) of_turn = refl
turn_takes (Fault server link moment) of_turn = refl
turn_takes (Servers list) of_turn = refl

turns_take : (entries : List Entry) → list_all is_of_turn entries ≡ true → taken_in entries ≡ []
turns_take [] all = refl
turns_take (e ∷ es) all =
    let parts = and_parts (is_of_turn e) (list_all is_of_turn es) all in
    rw (turn_takes e.what parts.0) (turns_take es parts.1)

-- by turns: the pass made entries of turns alone
pub stays_turns : (old new : PassView) (goes : GoesOn (desk_of old) (desk_of new)) → list_all is_of_turn (own_entries old.number goes.since) ≡ true → StaysSettled old new
stays_turns old new goes turns = stays old new (went_as_desk old new goes (turns_take (own_entries old.number goes.since) turns))

-- by looks, as those of a pause: the pass made no entry
pub stays_looks : (old new : PassView) → GoesOn (desk_of old) (desk_of new) → new.own ≡ old.own → StaysSettled old new
stays_looks old new goes same =
    let none : own_entries old.number goes.since ≡ [] = append_cancel_left old.own (own_entries old.number goes.since) [] (sym goes.own ∙ same ∙ sym (append-nil old.own)) in
    stays old new (went_as_desk old new goes (ap taken_in none))
