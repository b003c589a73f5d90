-- A script is read off the words that are printed for it.
use Rattle.std.proofs.Common.{◌≡◌, ℕ, zero, suc, ◌+◌, ◌<◌, ◌≤◌, ◌^◌, true, false, leb, List, [], ◌∷◌, ◌++◌, Option, Some, None, refl, sym, ap, ◌∙◌, append_assoc, arith}
use Rattle.std.specs.Prelude.{decimal, codes, bytes_eq, max}
use Rattle.std.proofs.lemmas.Bool.{le-leb}
use Rattle.chan_types.specs.declared.orders.When.{When}
use Rattle.chan_types.specs.declared.orders.When.TheVariants as when
use Rattle.chan_types.specs.declared.orders.Need.{Need}
use Rattle.chan_types.specs.Plans.{Plan, Moves, Deed, stop, step, ask, reverse, cancel, destroy, count, depth, reach}
use Rattle.journal_text.specs.Words.{Word, when_number, need_number}
use Rattle.journal_text.specs.Requests.{spec_words}
use Rattle.journal_text.specs.Scripts.{script_words, deed_words, moves_words, plan_words}
use Rattle.journal_text.specs.Fits.{Fits64, FitsSpec, FitsDeed, FitsMoves, FitsPlan}
use Rattle.journal_text.specs.Reads.{Found, ◌>>=◌}
use Rattle.journal_text.specs.ScriptReading.{ask_from, rev_from, act_from, step_from, moves_from, made_plan, body_from, script_from}
use Rattle.journal_text.proofs.AtomLemmas.{number_again, when_again, need_again, number_differs}
use Rattle.journal_text.proofs.RequestLemmas.{spec_again}

-- every script is at least one deep
depth_some : (moves : Moves) → 1 ≤ depth moves
depth_some stop = omega arith
depth_some (step when need deed inside rest) = omega (arith, depth_some rest)

when_small : (w : When) → when_number w < 2 ^ 64
when_small when.Always = omega arith
when_small when.Good = omega arith
when_small when.Bad = omega arith

-- where scripts inside are read again, by this rule
module _ (deep : ℕ) (read : List Word → Found Plan) (shallow : deep ≤ 3)
    (inner : (plan : Plan) (rest : List Word) → FitsPlan plan → depth plan.moves ≤ deep → read (plan_words plan ++ rest) ≡ Some (plan, rest)) where
  inside_again : (tag : ℕ) (inside : Moves) (rest : List Word) → Fits64 tag → count inside ≤ 8 → FitsMoves inside → depth inside + 1 ≤ deep + 1
      → read (script_words tag (moves_words inside) ++ rest) ≡ Some (record { tag = tag; moves = inside }, rest)
  inside_again tag inside rest small few fits flat =
      inner (record { tag = tag; moves = inside }) rest (record { tag_fits = small; few = few; flat = omega (arith, flat, shallow); steps = fits }) (omega (arith, flat))

  act_again : (deed : Deed) (inside : Moves) (rest : List Word) → FitsDeed deed inside → count inside ≤ 8 → FitsMoves inside → reach deed (depth inside) ≤ deep + 1
      → act_from read (deed_words deed (moves_words inside) ++ rest) ≡ Some ((deed, inside), rest)
  unfolding act_from ask_from rev_from
  act_again (ask spec tag) inside rest fits few steps flat =
      rw (append_assoc (spec_words spec) (script_words tag (moves_words inside)) rest, spec_again spec (script_words tag (moves_words inside) ++ rest) fits.0, inside_again tag inside rest fits.1 few steps flat) refl
  act_again (reverse tag) inside rest fits few steps flat = rw (inside_again tag inside rest fits few steps flat) refl
  act_again cancel inside rest fits few steps flat = ap (λ (moves : Moves). Some ((cancel, moves), rest)) (sym fits)
  act_again destroy inside rest fits few steps flat = ap (λ (moves : Moves). Some ((destroy, moves), rest)) (sym fits)

  moves_again : (most : ℕ) (moves : Moves) (rest : List Word) → FitsMoves moves → count moves < most → depth moves ≤ deep + 1
      → moves_from read most (moves_words moves ++ codes ")" ∷ rest) ≡ Some (moves, rest)
  unfolding moves_from step_from
  moves_again zero moves rest fits few flat = absurd (omega (arith, few))
  moves_again (suc most) stop rest fits few flat = refl
  moves_again (suc most) (step w n deed inside others) rest fits few flat =
      let behind = moves_words others ++ codes ")" ∷ rest in
      let open_again = append_assoc (deed_words deed (moves_words inside)) (moves_words others) (codes ")" ∷ rest) in
      rw (
        number_differs (when_number w) 41 [] (when_small w) refl,
        open_again,
        when_again w (decimal (need_number n) ∷ (deed_words deed (moves_words inside) ++ behind)),
        need_again n (deed_words deed (moves_words inside) ++ behind),
        act_again deed inside behind fits.0 fits.1 fits.2 (omega (arith, flat)),
        moves_again most others rest fits.3 (omega (arith, few)) (omega (arith, flat)),
      ) refl

made_again : (plan : Plan) → FitsPlan plan → made_plan plan.tag plan.moves ≡ Some plan
unfolding made_plan
made_again plan fits = rw (le-leb (count plan.moves) 8 fits.few, le-leb (depth plan.moves) 4 fits.flat) refl

pub script_again : (deep : ℕ) (plan : Plan) (rest : List Word) → deep ≤ 4 → FitsPlan plan → depth plan.moves ≤ deep → script_from deep (plan_words plan ++ rest) ≡ Some (plan, rest)
unfolding script_from body_from
script_again zero plan rest shallow fits flat = absurd (omega (arith, depth_some plan.moves, flat))
script_again (suc deep) plan rest shallow fits flat =
    let inner = λ (p : Plan) (r : List Word) (f : FitsPlan p) (d : depth p.moves ≤ deep). script_again deep p r (omega (arith, shallow)) f d in
    rw (
      append_assoc (moves_words plan.moves) (codes ")" ∷ []) rest,
      number_again 18446744073709551615 plan.tag (moves_words plan.moves ++ codes ")" ∷ rest) (omega (arith, fits.tag_fits)) fits.tag_fits,
      moves_again deep (script_from deep) (omega (arith, shallow)) inner 9 plan.moves rest fits.steps (omega (arith, fits.few)) (omega (arith, flat)),
      made_again plan fits,
    ) refl
