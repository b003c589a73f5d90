use Rattle.std.proofs.Common.{◌≡◌, ◌≢◌, ◌∙◌, subst, sym, map, List, true, true≢false, []}
use Rattle.clap.specs.Kinds.{HasKind}
use Rattle.clap.specs.Faults.{fault_of, is_simple_and_free}
use Rattle.clap.specs.Matches.{found_of}
use Rattle.clap.specs.Walk.{rows_of}
use Rattle.clap.specs.Words.{kind_of}
use Rattle.clap.specs.Simple.{HasMatchesOf, app_of, matches_of}
use Rattle.clap.specs.declared.error.ErrorKind.TheVariants as kind
use Rattle.tool_line.specs.Words.{Text, read}
use Rattle.tool_line.specs.Parser.{app, table_of}
use Rattle.tool_line.proofs.ReadingLemmas.{accepted, refused, says, simple, simple_and_free}
use Rattle.tool_line.proofs.words.parse.Goals as goal

pub returns-in-Ok : goal.returns-in-Ok
returns-in-Ok c =
    let t = table_of c.args.table.now in
    let ws : List Text = map (λ w. w.now) c.args.words.now in
    let is : app_of c.in_ok-command.field-0 ≡ app t = c.in_ok-command.ensures in
    let none : fault_of (app t) ws ≡ [] = subst (λ a. is_simple_and_free a ≡ true → fault_of a ws ≡ []) is c.in-Ok.ensures.kinds (simple_and_free t) in
    let rows : rows_of (found_of c.in-Ok.matches) ≡ matches_of (app t) ws = (subst (λ a. HasMatchesOf a ws c.in-Ok.matches) is c.in-Ok.ensures.matches (simple t)).0 in
    accepted t ws _ (read t ws) (says t ws c.requires.names c.all_text.ensures) none rows

pub returns : goal.returns
returns c =
    let t = table_of c.args.table.now in
    let ws : List Text = map (λ w. w.now) c.args.words.now in
    let is : app_of c.in_ok-command.field-0 ≡ app t = c.in_ok-command.ensures in
    let has : HasKind (fault_of (app t) ws) c.in-Err.error = subst (λ a. is_simple_and_free a ≡ true → HasKind (fault_of a ws) c.in-Err.error) is c.in-Err.ensures.kinds (simple_and_free t) in
    let other : kind_of c.in-Err.error ≢ kind.OutOfMemory = λ e.
    let memory : c.kind.result ≡ kind.OutOfMemory = c.kind.ensures ∙ e in
    true≢false (sym (rw memory at c.if-eq.ensures)) in
    refused t ws c.in-Err.error (read t ws) (says t ws c.requires.names c.all_text.ensures) has other
