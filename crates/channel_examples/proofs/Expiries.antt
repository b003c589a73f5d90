-- How many Expires a turn makes: 65,536 at most, whatever they are.
-- No lawful journal is computed here that has so many: those of these lists are of a leg that isn't in flight.
use Rattle.std.proofs.Common.{◌≡◌, ℕ, zero, suc, ◌+◌, ◌≤◌, List, [], ◌∷◌, ◌++◌, cond, refl, sym, ap, subst, ◌∙◌, arith, inl}
use Rattle.std.specs.Prelude.{IsTrue}
use Rattle.std.proofs.lemmas.List.Sums.{sum_by-cons}
use Rattle.chan_types.specs.declared.journal.Entry.{Entry}
use Rattle.chan_types.specs.declared.journal.What.{What}
use Rattle.chan_types.specs.declared.journal.What.TheVariants.{Expire}
use Rattle.resolv_options.specs.Defaults.{plain_values}
use Rattle.channel_model.specs.Flight.{started}
use Rattle.channel_model.specs.Journal.{Past, followed_by, own_entries}
use Rattle.channel_model.specs.Setting.{Setting}
use Rattle.channel_model.specs.Stretch.{Standing, beginning, behind}
use Rattle.channel_model.specs.Traffic.{arrived, asked, faulted, noted, noticed, opened, queued}
use Rattle.channel_model.specs.Turn.{HasExpired, NoneDue, WasCut, are_of, expired_in, expiring, is_expire, most_entries}
use Rattle.channel_examples.specs.Words.{channel_with, one_server}
use Rattle.channel_examples.proofs.Words.{own}

abbrev pub setting : Setting
setting = channel_with (record plain_values { servers = one_server })

-- so many Expires of a leg
abbrev pub expires : ℕ → List Entry
expires zero = []
expires (suc n) = own (Expire 1 0 0) ∷ expires n

-- they are so many
how_many : (n : ℕ) → expired_in 0 (expires n) ≡ n
how_many zero = refl
how_many (suc n) =
    let one : expired_in 0 (expires (suc n)) ≡ 1 + expired_in 0 (expires n) =
    sum_by-cons (λ entry. cond (is_expire entry.what) 1 0) (own (Expire 1 0 0)) (own_entries 0 (expires n)) in
    let rest : expired_in 0 (expires n) ≡ n = how_many n in
    omega (arith, one, rest)

-- all of them are Expires at this moment
of_part : (n : ℕ) → IsTrue (are_of expiring 0 0 (expires n) [])
of_part zero = refl
of_part (suc n) = of_part n

-- they note nothing
note_nothing : {A : Type 0} (notes : Past → What → List A) → ((past : Past) → notes past (Expire 1 0 0) ≡ []) →
    (past : Past) (n : ℕ) → noted 0 notes past (expires n) ≡ []
note_nothing notes none past zero = refl
note_nothing notes none past (suc n) =
    ap (λ l. l ++ noted 0 notes (Expire 1 0 0 ∷ past) (expires n)) (none past) ∙ note_nothing notes none (Expire 1 0 0 ∷ past) n

-- and start nothing
start_nothing : (past : Past) (n : ℕ) → started (followed_by past (expires n)) ≡ started past
start_nothing past zero = refl
start_nothing past (suc n) = start_nothing (Expire 1 0 0 ∷ past) n

-- so nothing is due behind them
none_due : (n : ℕ) → NoneDue setting 0 (followed_by [] (expires n))
none_due n = by_started (followed_by [] (expires n)) (start_nothing [] n)
  where
    by_started : (past : Past) → started past ≡ [] → NoneDue setting 0 past
    by_started past none = rw none tt

-- up to 65,536 are the expiring of a turn
pub enough : (n : ℕ) → n ≤ most_entries → HasExpired setting 0 0 beginning (expires n) [] (behind beginning (expires n))
enough n few = record {
  agrees = record {
    past_is = refl;
    held_are = refl;
    arrivals = note_nothing arrived (λ past. refl) [] n;
    sends = note_nothing (asked setting) (λ past. refl) [] n;
    links = note_nothing opened (λ past. refl) [] n;
    writes = λ link. note_nothing (queued setting link) (λ past. refl) [] n;
    faults_are = note_nothing faulted (λ past. refl) [] n;
    in_order = note_nothing (noticed setting) (λ past. refl) [] n;
  };
  alone = of_part n;
  all = inl (none_due n);
  few = subst (λ count. count ≤ most_entries) (sym (how_many n)) few;
}

-- and one more isn't
pub too_many : (new : Standing) → HasExpired setting 0 0 beginning (expires (most_entries + 1)) [] new → ⊥
too_many new made =
    let count : ◌≡◌ {A = ℕ} (expired_in 0 (expires (most_entries + 1))) (most_entries + 1) = how_many (most_entries + 1) in
    omega (arith, count, made.few)

-- also where the part was cut short
pub too_many_cut : WasCut setting 0 0 expiring beginning (expires (most_entries + 1)) [] → ⊥
too_many_cut cut =
    let count : ◌≡◌ {A = ℕ} (expired_in 0 (expires (most_entries + 1))) (most_entries + 1) = how_many (most_entries + 1) in
    omega (arith, count, cut.by_rule)
