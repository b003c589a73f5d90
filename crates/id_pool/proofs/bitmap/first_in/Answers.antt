use Rattle.std.proofs.Common.{rules, slice_index}
use Rattle.std.proofs.lemmas.Nat.{trailing_le}
use Rattle.id_pool.proofs.BitmapLemmas.{first_in}
use Rattle.id_pool.proofs.bitmap.first_in.Goals as goal

pub overflow_mul-result : goal.overflow_mul-result
overflow_mul-result c = let small = c.requires.small in search rules

pub overflow_add-result : goal.overflow_add-result
overflow_add-result c =
    let small = c.requires.small in
    let few = trailing_le 64 (slice_index c.args.words.now c.args.word) in
    search rules

pub returns : goal.returns
returns c = first_in c.args.words.now c.args.word (let fits = c.type_inv.words c.args.word in search rules) c.requires.some
