use Rattle.std.proofs.Common.{rules, ◌∙◌}
use Rattle.journal_text.proofs.PrintedLemmas.{text_printed}
use Rattle.journal_text.proofs.book_printing.print_run.Goals as goal

pub returns : goal.returns
returns c =
    c.from_vec.ensures
    ∙ text_printed (record { options = c.args.options.now; hosts = c.args.hosts.now; journal = c.args.entries.now }) c.new-text.result.items c.put_head.new.text.items c.put_options.new.text.items c.put_servers.new.text.items
    c.put_domains.new.text.items c.put_sources.new.text.items c.put_hosts.new.text.items c.put_entries.new.text.items c.put_end.new.text.items
    (search rules) (search rules) (search rules) (search rules) (search rules) (search rules) (search rules) (search rules) (search rules)
