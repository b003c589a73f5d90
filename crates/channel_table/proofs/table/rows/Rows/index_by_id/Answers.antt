use Rattle.channel_table.proofs.Base.{None, Option, subst, sym, ◌∙◌, ℕ, IsOnlyWith}
use Rattle.channel_table.proofs.StrayLemmas.{none_without}
use Rattle.channel_table.proofs.table.rows.Rows.index_by_id.Goals as goal

pub returns-in-Some : goal.returns-in-Some
returns-in-Some g c = subst (λ (id : Option ℕ). IsOnlyWith id c.args.self.now c.index_with.result) (sym c.in-Some.is ∙ c.id_of.ensures) c.index_with.ensures

pub returns-in-None : goal.returns-in-None
returns-in-None g c = subst (λ (id : Option ℕ). IsOnlyWith id c.args.self.now None) (sym c.in-None.is ∙ c.id_of.ensures) (none_without c.args.self.now)
