use Rattle.std.proofs.Common.{◌≡◌, ◌+◌, ◌<◌, length, arith}
use Rattle.std.proofs.lemmas.List.{take_rest}
use Rattle.text_lines.proofs.LineLemmas.{last_line, first_line}
use Rattle.text_lines.proofs.line_reading.cut_line.Goals as goal

pub returns-then-end-text : goal.returns-then-end-text
returns-then-end-text c =
    let all : c.offset_of-end.result ≡ length c.args.text.now = omega arith in
    last_line c.args.text.now c.offset_of-end.result c.offset_of-end.ensures.value all

pub returns : goal.returns
returns c =
    let more : c.offset_of-end.result < length c.args.text.now = omega arith in
    rw (take_rest c.args.text.now (c.offset_of-end.result + 1)) (first_line c.args.text.now c.offset_of-end.result c.offset_of-end.ensures.value more)
