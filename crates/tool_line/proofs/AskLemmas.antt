-- What is asked by what is said under the names is what the words ask.
use Rattle.std.proofs.Common.{◌≡◌, ◌∙◌, ap, sym, subst, List, Some, None, Result, Ok, Err}
use Rattle.std.specs.Prelude.{IfOk}
use Rattle.tool_line.specs.Asks.{Asks}
use Rattle.tool_line.specs.Lookup.{Lookup, lookup}
use Rattle.tool_line.specs.Parser.{IsReadAs, said}
use Rattle.tool_line.specs.Words.{Table, Text, read}
use Rattle.tool_line.specs.declared.fault.WordFault.{WordFault}
use Rattle.tool_line.specs.declared.words.Words.{Words}

module _ {T : Type 0} (IsSaid : Lookup → T → Type 0) (options table : Table) (words : List Text) (same : table ≡ options) where
  -- words that were read ask it
  pub asks_read : (read_words : Words) → IsReadAs (read table words) read_words → (result : Result T WordFault) → IfOk result (IsSaid (said read_words)) → IfOk result (Asks options IsSaid words)
  asks_read w given (Ok ask) say = record { uses = given.0; are = subst (λ t. read t words ≡ Some given.0) same given.1; say = subst (λ under. IsSaid under ask) given.2 say }
  asks_read w given (Err fault) say = tt

  -- words that say nothing ask nothing
  pub asks_none : (read_words : Words) → IsReadAs (read table words) read_words → ((ask : T) → IsSaid (said read_words) ask → ⊥) → (ask : T) → Asks options IsSaid words ask → ⊥
  asks_none w given none ask asked =
      let mine : read options words ≡ Some given.0 = subst (λ t. read t words ≡ Some given.0) same given.1 in
      let theirs : read options words ≡ Some asked.uses = asked.are in
      let uses : given.0 ≡ asked.uses = cc in
      none ask (subst (λ under. IsSaid under ask) (sym (given.2 ∙ ap lookup uses)) asked.say)

  -- words that are refused ask nothing
  pub asks_refused : read table words ≡ None → (ask : T) → Asks options IsSaid words ask → ⊥
  asks_refused none ask asked =
      let mine : read options words ≡ None = subst (λ t. read t words ≡ None) same none in
      let theirs : read options words ≡ Some asked.uses = asked.are in
      cc
