use Rattle.std.proofs.Common.{◌≡◌, ◌∷◌, [], map, refl, sym, ◌∙◌}
use Rattle.text_lines.specs.Left.{lines_left}
use Rattle.resolv_options.specs.Defaults.{plain_values}
use Rattle.resolv_options.specs.Resolv.{directive_of_line, directives_of, servers_after, with_directives}
use Rattle.resolv_options.proofs.ResolvLemmas.{servers_in_turn, servers_kept, servers_few, directives_in_turn}
use Rattle.resolv_options.proofs.resolv_reading.read_lines.Goals as goal

pub loop-line-preserved : goal.loop-line-preserved
loop-line-preserved c =
    let line = directive_of_line c.in-Some.line.now ∷ [] in
    let others = map directive_of_line (lines_left c.next.new.self) in
    let left : lines_left c.loop-line.line-iterator ≡ c.in-Some.line.now ∷ lines_left c.next.new.self = c.in-Some.ensures.steps in
    record {
      options = rw c.in_ok-follow_line.ensures.options (directives_in_turn c.loop-line.options line others ∙ (rw left at c.loop-line.invariant.options));
      servers = rw c.in_ok-follow_line.ensures.servers (servers_in_turn c.loop-line.servers.items line others ∙ (rw left at c.loop-line.invariant.servers));
      few = rw c.in_ok-follow_line.ensures.servers (servers_few c.loop-line.servers.items line);
    }

pub returns : goal.returns
returns c =
    let ended : lines_left c.loop-line.line-iterator ≡ [] = c.in-None.ensures.steps.0 in
    let options : c.loop-line.options ≡ with_directives plain_values (directives_of c.args.text.now) = rw ended at c.loop-line.invariant.options in
    let servers : c.loop-line.servers.items ≡ servers_after [] (directives_of c.args.text.now) =
    sym (servers_kept c.loop-line.servers.items c.loop-line.invariant.few) ∙ (rw ended at c.loop-line.invariant.servers) in
    rw (c.set_servers.ensures, c.in_ok-or_local.ensures.value, options, servers) refl
