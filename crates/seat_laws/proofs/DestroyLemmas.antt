-- How often a channel's journal has a Destroy.
use Rattle.std.proofs.Common.{◌≡◌, ◌+◌, ◌||◌, cond, List, [], ◌∷◌, refl, ap, ◌∙◌, arith}
use Rattle.std.proofs.lemmas.List.Sums.{sum_by-cons}
use Rattle.std.specs.Prelude.{count_by}
use Rattle.chan_types.specs.declared.journal.Entry.{Entry}
use Rattle.chan_types.specs.declared.journal.What.{What}
use Rattle.chan_types.specs.declared.journal.What.TheVariants.{Accept, Arrive, Cancel, Destroy, Expire, Fault, Servers, Start, Take}
use Rattle.channel_model.specs.Journal.{Past, followed_by, is_destroy, is_destroyed}
use Rattle.channel_model.specs.Lawful.{IsAllowed, IsLawfulPast}
use Rattle.channel_model.specs.Setting.{Setting}

-- it has one where it is destroyed, and else none
pub destroyed_once : (setting : Setting) (past : Past) → IsLawfulPast setting past → count_by is_destroy past ≡ cond (is_destroyed past) 1 0
destroyed_once setting [] lawful = refl
destroyed_once setting (what ∷ past) lawful = by what lawful.0 (sum_by-cons (λ w. cond (is_destroy w) 1 0) what past) (destroyed_once setting past lawful.1)
  where
    by : (w : What) → IsAllowed setting past w → count_by is_destroy (w ∷ past) ≡ cond (is_destroy w) 1 0 + count_by is_destroy past → count_by is_destroy past ≡ cond (is_destroyed past) 1 0 →
        count_by is_destroy (w ∷ past) ≡ cond (is_destroy w || is_destroyed past) 1 0
    by (Accept number spec script) allowed split rest = omega (arith, split, rest)
    by Cancel allowed split rest = omega (arith, split, rest)
    by Destroy allowed split rest = omega (arith, split, rest ∙ ap (λ b. cond b 1 0) allowed)
    by (Take number) allowed split rest = omega (arith, split, rest)
    by (Start number leg server link id mix moment) allowed split rest = omega (arith, split, rest)
    by (Arrive server link bytes) allowed split rest = omega (arith, split, rest)
    by (Expire number leg moment) allowed split rest = omega (arith, split, rest)
    by (Fault server link moment) allowed split rest = omega (arith, split, rest)
    by (Servers list) allowed split rest = omega (arith, split, rest)

-- and as many as its parts
pub destroys_counted : (past : Past) (es : List Entry) → count_by is_destroy (followed_by past es) ≡ count_by is_destroy past + count_by (λ e. is_destroy e.what) es
destroys_counted past [] = omega arith
destroys_counted past (e ∷ es) =
    omega (arith, destroys_counted (e.what ∷ past) es, sum_by-cons (λ w. cond (is_destroy w) 1 0) e.what past, sum_by-cons (λ (x : Entry). cond (is_destroy x.what) 1 0) e es)
