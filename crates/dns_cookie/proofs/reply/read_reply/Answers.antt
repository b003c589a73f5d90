use Rattle.dns_cookie.proofs.reply.read_reply.Goals as goal

pub returns : goal.returns
returns c = let placed = c.in-Ok.ensures.read in rw placed.1 (c.reply_of.ensures placed.0 placed.2)
