-- A run that ends with 0 or 1 put its text whole, and that is the text of its page.
use Rattle.std.proofs.Common.{arith, inl, inr, subst}
use Rattle.std.specs.Prelude.{None, Option, Some, refl, ℕ, ◌≡◌, ◌≤◌}
use Rattle.net_world.specs.declared.answers.PutEnd.TheVariants.{Done}
use Rattle.tool_line.specs.Ending.{number_of}
use Rattle.tool_line.specs.Outside.{GrowsBy, OutputTold}
use Rattle.tool_line.specs.Put.{PutsOnce, PutsText}
use Rattle.tool_line.specs.Words.{Text}
use Rattle.tool_line.specs.declared.ending.Exit.{Exit}
use Rattle.tool_line.specs.declared.ending.Exit.TheVariants.{Failure, FileFault, OutOfMemory, SinkFault, Stalled, Success, Usage, WaitFault}
use Rattle.run_end.specs.Ends.{IsPageEnd}
use Rattle.journal_laws.specs.Telling.{HasPut}

-- the text was put whole, in one put
pub record IsWhole (text : Text) (before after : OutputTold) : Type 0 where
  pub grows : GrowsBy before.bytes after.bytes text
  pub once : PutsOnce text Done before.puts after.puts

-- a greater exit status says something else
greater : (status : ℕ) → 2 ≤ status → HasPut status → ⊥
greater status great (inl is) = omega (arith, great, is)
greater status great (inr is) = omega (arith, great, is)

page_end : (end : Exit) → HasPut (number_of end) → IsPageEnd end
page_end Success is = inl refl
page_end Failure is = inr refl
page_end Usage is = absurd (greater 2 (omega arith) is)
page_end FileFault is = absurd (greater 3 (omega arith) is)
page_end SinkFault is = absurd (greater 4 (omega arith) is)
page_end OutOfMemory is = absurd (greater 5 (omega arith) is)
page_end WaitFault is = absurd (greater 6 (omega arith) is)
page_end Stalled is = absurd (greater 7 (omega arith) is)

module _ (status : ℕ) (before after : OutputTold) (has_put : HasPut status) where
  some_put : (text put : Text) (end : Exit) → (IsPageEnd end → Some put ≡ Some text) → PutsText (Some put) end status before after → IsWhole text before after
  some_put text put end page (inl done) =
      let is : Some put ≡ Some text = page (page_end end (subst HasPut done.0 has_put)) in
      let same : put ≡ text = cc is in
      subst (λ (t : Text). IsWhole t before after) same (record { grows = done.1; once = done.2 })
  some_put text put end page (inr (inl failed)) = absurd (greater status (omega (arith, failed.0)) has_put)
  some_put text put end page (inr (inr wanting)) = absurd (greater status (omega (arith, wanting.0)) has_put)

  -- where the text at an end with a page is this one, it was put
  pub whole_put : (text : Text) (at : Option Text) (end : Exit) → (IsPageEnd end → at ≡ Some text) → PutsText at end status before after → IsWhole text before after
  whole_put text None end page nothing = absurd (greater status (omega (arith, nothing.0)) has_put)
  whole_put text (Some put) end page told = some_put text put end page told
