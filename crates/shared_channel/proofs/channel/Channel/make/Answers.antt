use Rattle.std.proofs.Common.{◌∙◌, ap, subst}
use Rattle.channel_table.specs.Tokens.{Shown}
use Rattle.completion_ticket.specs.States.{CallbackState}
use Rattle.shared_channel.specs.Making.{IsNewChannel}
use Rattle.shared_channel.proofs.Telling.{passes_new}
use Rattle.shared_channel.proofs.channel.Channel.make.Goals as goal

pub returns : goal.returns
returns g c =
    let value = c.in_ok-table.table.value in
    subst (λ s. IsNewChannel c.in-Ok.lock s c.args.seats c.in_ok-passes.passes.items) (ap (λ (s : Shown CallbackState). s.setting) (c.in_ok-table.ensures.ok ∙ c.in_ok-make.ensures))
    (passes_new c.in-Ok.lock (value.setting.options, value.setting.hosts) c.args.seats c.in-Ok.all.items c.in_ok-passes.passes.items c.in-Ok.ensures.made c.in_ok-passes.ensures)
