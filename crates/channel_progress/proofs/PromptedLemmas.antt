-- How often a request is accepted unprompted: at most once for each that is accepted.
use Rattle.std.proofs.Common.{◌≡◌, ◌∙◌, ℕ, ◌+◌, ◌≤◌, Bool, true, false, List, [], ◌∷◌, ◌++◌, Option, Some, None, refl, ap, sym, cond, arith, length, length-append, true≢false, ⊎_elim}
use Rattle.std.proofs.lemmas.Bool.{or_cases}
use Rattle.std.proofs.lemmas.List.Elements.{All-head, All-tail}
use Rattle.std.proofs.lemmas.List.Sums.{sum_by-cons}
use Rattle.std.specs.Prelude.{All, IsFalse, flat_map, is_some, not, option_to_list, ◌&&◌, ◌==◌, ◌||◌}
use Rattle.chan_types.specs.declared.journal.Entry.{Entry}
use Rattle.chan_types.specs.declared.journal.What.{What}
use Rattle.channel_model.proofs.Theorems.{followed_by-append}
use Rattle.channel_model.specs.Completion.{ready}
use Rattle.channel_model.specs.Course.{Round, entries_of}
use Rattle.channel_model.specs.Journal.{Accepted, Past, accepted, accepted_by, followed_by}
use Rattle.channel_model.specs.Setting.{Setting}
use Rattle.channel_progress.specs.Prompted.{accepts_some, is_unprompted, unprompted_in}

-- an entry accepts what it does
accepted_one : (what : What) (past : Past) → length (accepted (what ∷ past)) ≡ length (accepted past) + length (option_to_list (accepted_by what))
accepted_one what past = length-append (accepted past) (option_to_list (accepted_by what))

-- what was accepted stays so
accepted_grow : (past : Past) (entries : List Entry) → length (accepted past) ≤ length (accepted (followed_by past entries))
accepted_grow past [] = omega arith
accepted_grow past (entry ∷ entries) = omega (arith, accepted_one entry.what past, accepted_grow (entry.what ∷ past) entries)

-- and more is, where an entry accepts something
accepts_grow : (past : Past) (entries : List Entry) → accepts_some entries ≡ true → length (accepted past) + 1 ≤ length (accepted (followed_by past entries))
accepts_grow past [] some = absurd (true≢false (sym some))
accepts_grow past (entry ∷ entries) some = ⊎_elim
    (λ (here : is_some (accepted_by entry.what) ≡ true). omega (arith, accepted_one entry.what past, one (accepted_by entry.what) here, accepted_grow (entry.what ∷ past) entries))
    (λ (later : accepts_some entries ≡ true). omega (arith, accepted_one entry.what past, accepts_grow (entry.what ∷ past) entries later))
    (or_cases (is_some (accepted_by entry.what)) (accepts_some entries) some)
  where
    one : (o : Option Accepted) → is_some o ≡ true → length (option_to_list o) ≡ 1
    one None e = absurd (true≢false (sym e))
    one (Some request) e = refl

module _ (setting : Setting) where
  -- a request is accepted where one is accepted unprompted
  unprompted_one : (past : Past) (round : Round) → length (accepted past) + cond (is_unprompted setting round) 1 0 ≤ length (accepted (followed_by past round.between))
  unprompted_one past round = by_test (accepts_some round.between) ((length (ready setting round.new.past) == 0) || not (length (ready setting (followed_by round.new.past round.between)) == 0)) refl
    where
      by_test : (b c : Bool) → accepts_some round.between ≡ b → length (accepted past) + cond (b && c) 1 0 ≤ length (accepted (followed_by past round.between))
      by_test true true is = omega (arith, accepts_grow past round.between is)
      by_test true false is = omega (arith, accepted_grow past round.between)
      by_test false c is = omega (arith, accepted_grow past round.between)

  -- no more often than requests are accepted
  pub unprompted_few : (past : Past) (rounds : List Round) → unprompted_in setting rounds + length (accepted past) ≤ length (accepted (followed_by past (flat_map entries_of rounds)))
  unprompted_few past [] = omega arith
  unprompted_few past (round ∷ rounds) =
      let parts : followed_by past (flat_map entries_of (round ∷ rounds)) ≡ followed_by (followed_by (followed_by past round.entries) round.between) (flat_map entries_of rounds) =
      followed_by-append past (round.entries ++ round.between) (flat_map entries_of rounds) ∙ ap (λ p. followed_by p (flat_map entries_of rounds)) (followed_by-append past round.entries round.between) in
      omega (
        arith,
        ap (λ p. length (accepted p)) parts,
        accepted_grow past round.entries,
        unprompted_one (followed_by past round.entries) round,
        unprompted_few (followed_by (followed_by past round.entries) round.between) rounds,
        sum_by-cons (λ r. cond (is_unprompted setting r) 1 0) round rounds,
      )

  -- and never where none is accepted between turns
  pub none_unprompted : (rounds : List Round) → All (λ round. IsFalse (accepts_some round.between)) rounds → unprompted_in setting rounds ≡ 0
  none_unprompted [] none = refl
  none_unprompted (round ∷ rounds) none =
      let here : ◌≡◌ {A = ℕ} (cond (is_unprompted setting round) 1 0) 0 =
      ap (λ b. cond (b && ((length (ready setting round.new.past) == 0) || not (length (ready setting (followed_by round.new.past round.between)) == 0))) 1 0) (All-head (λ r. IsFalse (accepts_some r.between)) round rounds none) in
      omega (arith, here, none_unprompted rounds (All-tail (λ r. IsFalse (accepts_some r.between)) round rounds none), sum_by-cons (λ r. cond (is_unprompted setting r) 1 0) round rounds)
