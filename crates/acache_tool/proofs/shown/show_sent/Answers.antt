use Rattle.std.proofs.Common.{refl}
use Rattle.std.specs.Prelude.{option_copied}
use Rattle.acache_tool.proofs.AskLemmas.{kept_by}
use Rattle.acache_tool.proofs.shown.show_sent.Goals as goal

pub returns-in_ok-keep-in-Some : goal.returns-in_ok-keep-in-Some
returns-in_ok-keep-in-Some c = record {
  shown = record { text = c.in_ok-show.ensures; good = c.still_good-shown.ensures };
  cache = kept_by (option_copied c.args.question) c.in-Some.question.now c.args.answer c.args.at c.in_ok-keep-in-Some.field-0 c.args.shown.now.cache c.keep.new.self (rw c.in-Some.is refl)
      c.in_ok-keep-in-Some.ensures.says c.in_ok-keep-in-Some.ensures.after;
}

pub returns-in-None : goal.returns-in-None
returns-in-None c = record {
  shown = record { text = c.in_ok-show.ensures; good = c.still_good-shown.ensures };
  cache = rw c.in-None.is refl;
}
