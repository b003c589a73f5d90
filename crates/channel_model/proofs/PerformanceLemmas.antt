-- What became of commands stays so in a longer journal, and goes on with further commands.
use Rattle.std.proofs.Common.{◌≡◌, ℕ, zero, suc, ◌≤◌, List, [], ◌∷◌, ◌++◌, length, Some, sym, ap, subst, arith}
use Rattle.std.specs.Prelude.{IsTrue, IsFalse, slice_get}
use Rattle.std.proofs.lemmas.List.{length-append, take-append-le}
use Rattle.std.proofs.lemmas.Option.{slice_get_within}
use Rattle.chan_types.specs.declared.command.Command.{Command}
use Rattle.chan_types.specs.declared.journal.Entry.{Entry}
use Rattle.channel_model.specs.Commands.{Outcome, left, passed, lost, position_behind, past_at, leaves, Became, AllBecame}
use Rattle.channel_model.specs.Journal.{past_of}
use Rattle.channel_model.specs.Setting.{Setting}

-- the item at a position stays there
get_longer : {A : Type 0} (xs ys : List A) (k : ℕ) (x : A) → slice_get xs k ≡ Some x → slice_get (xs ++ ys) k ≡ Some x
get_longer [] ys k x is = absurd (cc is)
get_longer (y ∷ xs) ys zero x is = is
get_longer (y ∷ xs) ys (suc k) x is = get_longer xs ys k x is

-- the position behind which further commands are performed
abbrev pub position_after : ℕ → List Outcome → ℕ
position_after from [] = from
position_after from (outcome ∷ outcomes) = position_after (position_behind outcome) outcomes

module _ (setting : Setting) (journal : List Entry) where
  module _ (more : List Entry) where
    -- what happened before a position is the same in a longer journal
    past_longer : (k : ℕ) → k ≤ length journal → past_at journal k ≡ past_at (journal ++ more) k
    past_longer k le = sym (ap past_of (take-append-le k journal more le))

    -- what became of a command stays so
    pub became_longer : (command : Command) (outcome : Outcome) → Became setting journal command outcome → Became setting (journal ++ more) command outcome
    became_longer command (left k) became =
        let at = became.0 in
        let within : k ≤ length journal = omega (arith, slice_get_within journal k at.entry at.stands) in (
          record { entry = at.entry; stands = get_longer journal more k at.entry at.stands; is_its = at.is_its },
          subst (λ p. IsTrue (leaves setting command p)) (past_longer k within) became.1,
        )
    became_longer command (passed k) became =
        (omega (arith, became.0, length-append journal more), subst (λ p. IsFalse (leaves setting command p)) (past_longer k became.0) became.1)
    became_longer command (lost k) became =
        (omega (arith, became.0, length-append journal more), became.1, subst (λ p. IsTrue (leaves setting command p)) (past_longer k became.0) became.2)

    -- and so does what became of several
    pub all_became_longer : (from : ℕ) (commands : List Command) (outcomes : List Outcome) → AllBecame setting journal from commands outcomes → AllBecame setting (journal ++ more) from commands outcomes
    all_became_longer from [] [] became = became
    all_became_longer from [] (outcome ∷ outcomes) became = absurd became
    all_became_longer from (command ∷ commands) [] became = absurd became
    all_became_longer from (command ∷ commands) (outcome ∷ outcomes) became =
        (became.0, became_longer command outcome became.1, all_became_longer (position_behind outcome) commands outcomes became.2)

  -- further commands, behind the first ones
  pub all_became_append : (from : ℕ) (cs ds : List Command) (os ps : List Outcome) → AllBecame setting journal from cs os → AllBecame setting journal (position_after from os) ds ps →
      AllBecame setting journal from (cs ++ ds) (os ++ ps)
  all_became_append from [] ds [] ps first more = more
  all_became_append from [] ds (o ∷ os) ps first more = absurd first
  all_became_append from (c ∷ cs) ds [] ps first more = absurd first
  all_became_append from (c ∷ cs) ds (o ∷ os) ps first more = (first.0, first.1, all_became_append (position_behind o) cs ds os ps first.2 more)
