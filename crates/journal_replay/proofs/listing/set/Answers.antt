use Rattle.std.proofs.Common.{ap, refl, ◌∙◌}
use Rattle.channel_model.specs.Servers.{greatest_of}
use Rattle.channel_table.specs.Tokens.{seen}
use Rattle.journal_replay.proofs.FollowLemmas.{kept_set_follows}
use Rattle.journal_replay.proofs.KeptLemmas.{known_set}
use Rattle.journal_replay.proofs.listing.set.Goals as goal

pub returns-in-Ok-clause-follows : goal.returns-in-Ok-clause-follows
returns-in-Ok-clause-follows c =
    kept_set_follows _ _ c.args.keys.now c.args.list.now c.as_slice.result.now c.in-Ok.field-0 c.in_ok-are_kept_by.field-0 c.requires c.in_ok-are_kept_by.ensures c.if-not-branch.false
    (c.as_slice.ensures.value ∙ c.in_ok-addresses.ensures) (rw c.in-Ok.is at c.set_servers.ensures.done)

pub returns-in-Ok-clause-kept : goal.returns-in-Ok-clause-kept
returns-in-Ok-clause-kept c =
    λ _. known_set c.args.list.now (seen c.args.table.now) (seen c.set_servers.new.self) c.args.keys.now c.set.new.self ((returns-in-Ok-clause-follows c).made refl) c.requires
    (c.set.ensures.list ∙ c.in_ok-list.ensures) (c.set.ensures.greatest ∙ ap (greatest_of c.args.keys.now.greatest) c.in_ok-list.ensures)
