-- Which requests a journal accepts on nobody's command.
use Rattle.std.proofs.Common.{◌≡◌, ◌≢◌, ◌∙◌, ℕ, ◌==◌, ◌&&◌, ◌||◌, Bool, true, false, not, cond, List, [], ◌∷◌, ◌++◌, Option, Some, None, is_some, refl, ap, ne_eqb}
use Rattle.std.proofs.lemmas.Bool.{and_parts}
use Rattle.std.proofs.lemmas.List.Elements.{filter_map-append}
use Rattle.std.specs.List.{cons_option, list_all}
use Rattle.std.specs.Prelude.{option_map}
use Rattle.chan_types.specs.declared.journal.Entry.{Entry}
use Rattle.chan_types.specs.declared.journal.What.{What}
use Rattle.chan_types.specs.declared.journal.What.TheVariants.{Accept, Arrive, Cancel, Destroy, Expire, Fault, Servers, Start, Take}
use Rattle.channel_model.specs.Commands.{accepted_for, asking_in}
use Rattle.channel_model.specs.Completion.{taken_by}
use Rattle.channel_model.specs.Journal.{Accepted, accepted_by, own_entries}
use Rattle.worker_session.specs.Stepping.{is_of_run}

-- by parts
pub accepted_parts : (xs ys : List Entry) → accepted_for 0 (xs ++ ys) ≡ accepted_for 0 xs ++ accepted_for 0 ys
accepted_parts xs ys = filter_map-append (λ (e : Entry). cond (e.by == 0) (asking_in e.what) None) xs ys

-- the entry accepts none on nobody's command
abbrev pub asks_none : Entry → Bool
asks_none entry = not (is_some (accepted_by entry.what) && (entry.by == 0))

none_here : (b : Bool) (found : Option Accepted) (es : List Entry) → not (is_some found && b) ≡ true → cons_option (cond b (option_map (λ request. record { spec = request.spec; script = request.script }) found) None) (accepted_for 0 es) ≡ accepted_for 0 es
none_here true None es is = refl
none_here true (Some request) es is = absurd (cc is)
none_here false found es is = refl

pub unasked : (es : List Entry) → list_all asks_none es ≡ true → accepted_for 0 es ≡ []
unasked [] all = refl
unasked (e ∷ es) all =
    let parts = and_parts (asks_none e) (list_all asks_none es) all in
    none_here (e.by == 0) (accepted_by e.what) es parts.0 ∙ unasked es parts.1

-- where no other seat accepts any on nobody's command, one seat's own entries do
pub first_asks : (n : ℕ) (es : List Entry) → list_all (λ e. asks_none e || (e.seat == n)) es ≡ true → accepted_for 0 es ≡ accepted_for 0 (own_entries n es)
first_asks n [] all = refl
first_asks n (e ∷ es) all =
    let parts = and_parts (asks_none e || (e.seat == n)) (list_all (λ x. asks_none x || (x.seat == n)) es) all in
    by (e.seat == n) parts.0 (first_asks n es parts.1)
  where
    left : (x : Bool) → (x || false) ≡ true → x ≡ true
    left true is = refl
    left false is = is

    by : (b : Bool) → (asks_none e || b) ≡ true → accepted_for 0 es ≡ accepted_for 0 (own_entries n es) → accepted_for 0 (e ∷ es) ≡ accepted_for 0 (cond b (e ∷ own_entries n es) (own_entries n es))
    by true is rest = ap (cons_option (cond (e.by == 0) (asking_in e.what) None)) rest
    by false is rest = none_here (e.by == 0) (accepted_by e.what) es (left (asks_none e) is) ∙ rest

-- ---- kinds of entries

pub commanded_asks : (what : What) (by : ℕ) → by ≢ 0 → not (is_some (accepted_by what) && (by == 0)) ≡ true
commanded_asks what by some = ap (λ b. not (is_some (accepted_by what) && b)) (ne_eqb by 0 some) ∙ never (is_some (accepted_by what))
  where
    never : (b : Bool) → not (b && false) ≡ true
    never true = refl
    never false = refl

pub take_asks : (what : What) (b : Bool) → is_some (taken_by what) ≡ true → not (is_some (accepted_by what) && b) ≡ true
take_asks (Accept number spec script) b is = absurd (cc is)
take_asks Cancel b is = refl
take_asks Destroy b is = refl
take_asks (Take number) b is = refl
take_asks (Start number leg server link id mix moment) b is = refl
take_asks (Arrive server link bytes) b is = refl
take_asks (Expire number leg moment) b is = refl
take_asks (Fault server link moment) b is = refl
take_asks (Servers list) b is = refl

pub run_asks : (seat by : ℕ) (what : What) (b : Bool) → is_of_run (record { seat = seat; by = by; what = what }) ≡ true → not (is_some (accepted_by what) && b) ≡ true
run_asks seat by (Accept number spec script) b run = absurd (cc run)
run_asks seat by Cancel b run = refl
run_asks seat by Destroy b run = refl
run_asks seat by (Take number) b run = refl
run_asks seat by (Start number leg server link id mix moment) b run = refl
run_asks seat by (Arrive server link bytes) b run = refl
run_asks seat by (Expire number leg moment) b run = refl
run_asks seat by (Fault server link moment) b run = refl
run_asks seat by (Servers list) b run = refl
