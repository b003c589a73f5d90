use Rattle.std.proofs.Common.{◌∙◌, ap, refl, sym}
use Rattle.net_addr.specs.Reading.{address_of}
use Rattle.acache_tool.proofs.WordLemmas.{asks_words, none_named, refused_nameless, refused_room, refused_server, refused_short, some_named}
use Rattle.acache_tool.proofs.asked.cache_ask.Goals as goal

pub returns-in_default-clause-refused : goal.returns-in_default-clause-refused
returns-in_default-clause-refused c = λ none. refused_short c.args.words.now c.in_default.len_below

pub returns-then-not-is_server-clause-refused : goal.returns-then-not-is_server-clause-refused
returns-then-not-is_server-clause-refused c = λ none. refused_server c.args.words.now _ c.is_server_option-is_server.result c.if-not-is_server.true c.is_server_option-is_server.ensures

pub returns-then-not-is_room-clause-refused : goal.returns-then-not-is_room-clause-refused
returns-then-not-is_room-clause-refused c = λ none. refused_room c.args.words.now _ c.is_room_option-is_room.result c.if-not-is_room.true c.is_room_option-is_room.ensures

pub returns-then-named-eq0-clause-refused : goal.returns-then-named-eq0-clause-refused
returns-then-named-eq0-clause-refused c = λ none. refused_nameless c.args.words.now (none_named _ _ refl c.if-named-eq0.true)

pub returns-in-Some-Some-clause-asks : goal.returns-in-Some-Some-clause-asks
returns-in-Some-Some-clause-asks c =
    asks_words c.args.words.now _ _ _ _ c.in-Some-Some.server c.in-Some-Some.room c.in-len4-up.len_at_least (c.is_server_option-is_server.ensures.0 c.if-not-is_server.false) (c.is_room_option-is_room.ensures.0 c.if-not-is_room.false)
    (sym (c.read.ensures.value ∙ ap address_of c.as_bytes.ensures.value) ∙ c.in-Some-Some.is-0) (sym c.number.ensures.value ∙ c.in-Some-Some.is-1) (some_named _ _ refl c.if-named-eq0.false)
