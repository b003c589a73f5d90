use Rattle.std.proofs.Common.{◌≡◌, true, false, refl, sym, ◌∙◌}
use Rattle.dns_message.specs.Validity.{well_formed}
use Rattle.dns_message.proofs.Theorems.{well_formed_says}
use Rattle.dns_rdata.specs.Parts.{Gives}
use Rattle.dns_rdata.specs.Rdata.{data_in, data_of}
use Rattle.dns_rdata.proofs.PartsLemmas.{given, not_given}
use Rattle.dns_rdata.proofs.TypedLemmas.{unformed_is_bare, formed_is_not_bare, only_memory}
use Rattle.dns_rdata.proofs.typing.rdata.Goals as goal

pub returns-then-is_well_formed : goal.returns-then-is_well_formed
unfolding data_of
returns-then-is_well_formed c =
    let item = c.args.item.now in
    let formed : well_formed item ≡ true = sym c.is_well_formed.ensures ∙ c.if-is_well_formed.true in
    let gives : Gives c.data_in.result (data_in item.kind item.class item.rdata) = rw c.as_slice.ensures at c.data_in.ensures.read in
    record {
      read = given c.data_in.result _ gives;
      spelled = rw c.as_slice.ensures at c.data_in.ensures.spelled;
      refused = not_given c.data_in.result _ gives;
      bad = λ none. absurd (formed_is_not_bare item formed none);
      formed = λ _. only_memory c.data_in.result item formed gives;
    }

pub returns-else-is_well_formed : goal.returns-else-is_well_formed
returns-else-is_well_formed c =
    let item = c.args.item.now in
    let unformed : well_formed item ≡ false = sym c.is_well_formed.ensures ∙ c.if-is_well_formed.false in
    record {
      read = tt;
      spelled = tt;
      refused = λ other. unformed_is_bare item unformed;
      bad = λ none. refl;
      formed = λ formed. absurd (let passes : well_formed item ≡ true = (well_formed_says item).1 formed in cc);
    }
