-- A course has one reading of the clock for each turn, and those beside them that are no turn's.
use Rattle.std.proofs.Common.{◌≡◌, ℕ, ◌+◌, List, [], ◌∷◌, ◌++◌, length, Bool, true, false, cond, ◌&&◌, Option, Some, None, refl, sym, ap, ◌∙◌, arith, ◌≤◌, inl, inr, subst}
use Rattle.std.specs.Prelude.{IsTrue, IsFalse, flat_map, filter_map}
use Rattle.std.specs.List.{list_all}
use Rattle.std.proofs.lemmas.List.Sums.{sum_by-cons, sum_by-append}
use Rattle.chan_types.specs.declared.journal.Entry.{Entry}
use Rattle.net_addr.specs.declared.addr.ServerAddr.{ServerAddr}
use Rattle.net_world.specs.declared.log.WorldCall.{WorldCall}
use Rattle.net_world.specs.declared.log.WorldCall.TheVariants.{Serve, Now, Word, Send, Connect, Write, Receive, Close, Wait}
use Rattle.std.specs.Option.{option_to_list}
use Rattle.std.specs.List.{cons_option}
use Rattle.std.proofs.lemmas.List.{length-append}
use Rattle.std.proofs.lemmas.List.Elements.{filter_map-append}
use Rattle.net_world.specs.declared.answers.Got.{Got}
use Rattle.net_world.specs.declared.answers.Got.TheVariants.{Nothing}
use Rattle.channel_model.specs.Calls.{received_by}
use Rattle.channel_model.specs.Links.{Link, held_by, told}
use Rattle.channel_model.specs.Course.{Rest, Round, asides_of, calls_of_rest, calls_of, readings, serves_from, AreTurns, IsCourse, IsCourseSoFar, standing_after}
use Rattle.channel_model.specs.Endings.{is_reading, turns_in}
use Rattle.channel_model.specs.Journal.{own_entries}
use Rattle.channel_model.specs.Setting.{Setting}
use Rattle.channel_model.specs.Stretch.{Standing, behind, beginning}
use Rattle.channel_model.specs.Turn.{Part, receiving, expiring, starting, writing, closing, all_parts, parts_before, is_among, is_at, parts_of_entry, parts_of_call, are_of, HasMade, HaveMade, IsTurn, IsCutTurn, receives, IsWholeReceive, most_receives}

-- how many readings are in two stretches of calls
turns_in-append : (cs ds : List WorldCall) → turns_in (cs ++ ds) ≡ turns_in cs + turns_in ds
turns_in-append cs ds = sum_by-append (λ call. cond (is_reading call) 1 0) cs ds

-- a call that reads no clock counts for nothing
turns_in-other : (c : WorldCall) (cs : List WorldCall) → IsFalse (is_reading c) → turns_in (c ∷ cs) ≡ turns_in cs
turns_in-other c cs other =
    let split : turns_in (c ∷ cs) ≡ cond (is_reading c) 1 0 + turns_in cs = sum_by-cons (λ call. cond (is_reading call) 1 0) c cs in
    let here : ◌≡◌ {A = ℕ} (cond (is_reading c) 1 0) 0 = rw other refl in
    omega (arith, split, here)

-- a call of a part reads no clock
no_reading : (part : Part) (call : WorldCall) → IsTrue (is_among part (parts_of_call call)) → IsFalse (is_reading call)
no_reading part (Serve server address) among = refl
no_reading part (Now reading) among = absurd (cc among)
no_reading part (Word word) among = refl
no_reading part (Send server bytes outcome) among = refl
no_reading part (Connect server link outcome) among = refl
no_reading part (Write link bytes outcome) among = refl
no_reading part (Receive got) among = refl
no_reading part (Close link) among = refl
no_reading part (Wait until outcome) among = refl

-- a conjunction that holds has both parts
both : (b c : Bool) → (b && c) ≡ true → (b ≡ true) × (c ≡ true)
both true true h = (refl, refl)
both true false h = absurd (cc h)
both false c h = absurd (cc h)

-- calls of a part read no clock
part_reads : (part : Part) (cs : List WorldCall) → IsTrue (list_all (λ call. is_among part (parts_of_call call)) cs) → turns_in cs ≡ 0
part_reads part [] among = refl
part_reads part (c ∷ cs) among =
    let parts = both (is_among part (parts_of_call c)) (list_all (λ call. is_among part (parts_of_call call)) cs) among in
    turns_in-other c cs (no_reading part c parts.0) ∙ part_reads part cs parts.1

module _ (setting : Setting) (seat reading : ℕ) where
  -- the calls of a part that was made are of it
  calls_alone : (part : Part) (es : List Entry) (cs : List WorldCall) → IsTrue (are_of part seat reading es cs) → turns_in cs ≡ 0
  calls_alone part es cs alone =
      part_reads part cs
      (both (list_all (λ entry. is_among part (parts_of_entry entry.what) && is_at reading entry.what) (own_entries seat es))
      (list_all (λ call. is_among part (parts_of_call call)) cs) alone).1

  made_reads : (part : Part) (a : Standing) (es : List Entry) (cs : List WorldCall) (b : Standing) → HasMade setting seat reading part a es cs b → turns_in cs ≡ 0
  made_reads receiving a es cs b made = calls_alone receiving es cs made.alone
  made_reads expiring a es cs b made = calls_alone expiring es cs made.alone
  made_reads starting a es cs b made = calls_alone starting es cs made.alone
  made_reads writing a es cs b made = calls_alone writing es cs made.alone
  made_reads closing a es cs b made = calls_alone closing es cs made.alone

  parts_read : (parts : List Part) (a : Standing) (es : List Entry) (cs : List WorldCall) (b : Standing) → HaveMade setting seat reading parts a es cs b → turns_in cs ≡ 0
  parts_read [] a es cs b made = rw made.no_call refl
  parts_read (part ∷ parts) a es cs b made =
      let one = made_reads part a made.entries_first made.calls_first made.middle made.one in
      let two = parts_read parts made.middle made.entries_then made.calls_then b made.two in
      ap turns_in made.calls_are ∙ turns_in-append made.calls_first made.calls_then ∙ omega (arith, one, two)

  -- a turn reads the clock once
  pub turn_reads : (a : Standing) (es : List Entry) (cs : List WorldCall) (b : Standing) → IsTurn setting seat reading a es cs b → turns_in cs ≡ 1
  turn_reads a es cs b turn =
      ap turns_in turn.calls_are ∙ turns_in-append (Now reading ∷ []) turn.made ∙ ap (λ n. 1 + n) (parts_read all_parts a es turn.made b turn.parts)

  -- and so does one that was cut short
  pub cut_turn_reads : (a : Standing) (es : List Entry) (cs : List WorldCall) → IsCutTurn setting seat reading a es cs → turns_in cs ≡ 1
  cut_turn_reads a es cs turn =
      let parts = turn.parts in
      let one = parts_read (parts_before turn.part) a parts.entries_first parts.calls_first parts.middle parts.one in
      let two = calls_alone turn.part parts.entries_then parts.calls_then parts.two.alone in
      let made = ap turns_in parts.calls_are ∙ turns_in-append parts.calls_first parts.calls_then in
      ap turns_in turn.calls_are ∙ turns_in-append (Now reading ∷ []) turn.made ∙ omega (arith, one, two, made)

-- readings of the clock count each
asides_read : (moments : List ℕ) → turns_in (readings moments) ≡ length moments
asides_read [] = refl
asides_read (moment ∷ moments) =
    let rest = asides_read moments in
    turns_in-append (Now moment ∷ []) (readings moments) ∙ omega (arith, rest)

-- a wait reads no clock
rest_reads : (rest : Option Rest) → turns_in (calls_of_rest rest) ≡ 0
rest_reads None = refl
rest_reads (Some rest) = refl

-- nor does a serve
serves_read : (server : ℕ) (addresses : List ServerAddr) → turns_in (serves_from server addresses) ≡ 0
serves_read server [] = refl
serves_read server (address ∷ addresses) =
    turns_in-other (Serve server address) (serves_from (server + 1) addresses) refl ∙ serves_read (server + 1) addresses

module _ (setting : Setting) (seat slice : ℕ) where
  rounds_read : (a : Standing) (rounds : List Round) → AreTurns setting seat slice a rounds → turns_in (flat_map calls_of rounds) ≡ length rounds + asides_of rounds
  rounds_read a [] turns = refl
  rounds_read a (r ∷ rs) turns =
      let turn = turn_reads setting seat r.reading a r.entries r.calls r.new turns.0 in
      let aside = asides_read r.asides in
      let rest = rest_reads r.rest in
      let two = turns_in-append r.calls (readings r.asides) in
      let three = turns_in-append (r.calls ++ readings r.asides) (calls_of_rest r.rest) in
      let there = rounds_read (behind r.new r.between) rs turns.4 in
      let all = sum_by-cons (λ round. length round.asides) r rs in
      turns_in-append (calls_of r) (flat_map calls_of rs) ∙ omega (arith, turn, aside, rest, two, three, there, all)

  -- the readings of the clock in a course are its turns, and those that are no turn's
  pub course_reads : (journal : List Entry) (log : List WorldCall) (turns asides : ℕ) → IsCourse setting seat slice journal log turns asides → turns_in log ≡ turns + asides
  course_reads journal log turns asides course =
      let serves = serves_read 0 setting.options.servers in
      let rounds = rounds_read (behind (record { past = []; held = []; unwritten = λ link. [] }) course.first) course.rounds course.turns_are in
      let first = asides_read course.first_asides in
      let two = turns_in-append (serves_from 0 setting.options.servers) (readings course.first_asides) in
      ap turns_in course.log_is ∙ turns_in-append (serves_from 0 setting.options.servers ++ readings course.first_asides) (flat_map calls_of course.rounds)
      ∙ omega (arith, serves, rounds, first, two, course.count, course.asides_are)

  -- and so they are in a course, whole or cut short
  pub so_far_reads : (journal : List Entry) (log : List WorldCall) (turns asides : ℕ) → IsCourseSoFar setting seat slice journal log turns asides → turns_in log ≡ turns + asides
  so_far_reads journal log turns asides (inl course) = course_reads journal log turns asides course
  so_far_reads journal log turns asides (inr (inl cut)) =
      let earlier = course_reads cut.earlier cut.calls_earlier cut.whole asides cut.course in
      let here = standing_after (behind beginning cut.course.first) cut.course.rounds in
      let last = cut_turn_reads setting seat cut.reading here cut.cut cut.calls_cut cut.turn in
      ap turns_in cut.log_is ∙ turns_in-append cut.calls_earlier cut.calls_cut ∙ omega (arith, earlier, last, cut.count)
  so_far_reads journal log turns asides (inr (inr serving)) =
      let part = serving.0.told_so_far in
      let all = serves_read 0 setting.options.servers in
      let split = sym (turns_in-append log part.0) ∙ ap turns_in part.1 in
      omega (arith, all, split, serving.1, serving.2)

-- what is told to be received is what the calls received
receives_all : (held : List Link) (cs : List WorldCall) → told receives held cs ≡ filter_map received_by cs
receives_all held [] = refl
receives_all held (c ∷ cs) = by_call (received_by c) (receives_all (held_by held c) cs)
  where
    by_call : (got : Option Got) → told receives (held_by held c) cs ≡ filter_map received_by cs → option_to_list got ++ told receives (held_by held c) cs ≡ cons_option got (filter_map received_by cs)
    by_call None rest = rest
    by_call (Some got) rest = ap (λ l. got ∷ l) rest

-- a whole receiving part receives at least once
whole_receives : (most : ℕ) (gots : List Got) → 1 ≤ most → IsWholeReceive most gots → 1 ≤ length gots
whole_receives most gots some (inl ends) = let parts = ap length ends.0.gots_are ∙ length-append ends.0.items (Nothing ∷ []) in omega (arith, parts)
whole_receives most gots some (inr full) = omega (arith, full.1, some)

-- how much was received in two stretches of calls
received-append : (cs ds : List WorldCall) → length (filter_map received_by (cs ++ ds)) ≡ length (filter_map received_by cs) + length (filter_map received_by ds)
received-append cs ds = ap length (filter_map-append received_by cs ds) ∙ length-append (filter_map received_by cs) (filter_map received_by ds)

module _ (setting : Setting) (seat : ℕ) where
  -- a turn receives at least once
  pub turn_receives : (reading : ℕ) (a : Standing) (es : List Entry) (cs : List WorldCall) (b : Standing) → IsTurn setting seat reading a es cs b → 1 ≤ length (filter_map received_by cs)
  turn_receives reading a es cs b turn =
      let parts = turn.parts in
      let here : 1 ≤ length (filter_map received_by parts.calls_first) =
      subst (λ l. 1 ≤ length l) (receives_all a.held parts.calls_first) (whole_receives most_receives (told receives a.held parts.calls_first) (omega arith) parts.one.all) in
      let made : length (filter_map received_by turn.made) ≡ length (filter_map received_by parts.calls_first) + length (filter_map received_by parts.calls_then) =
      ap (λ l. length (filter_map received_by l)) parts.calls_are ∙ received-append parts.calls_first parts.calls_then in
      let whole : length (filter_map received_by cs) ≡ length (filter_map received_by turn.made) = ap (λ l. length (filter_map received_by l)) turn.calls_are in
      omega (arith, here, made, whole)

  rounds_receive : (slice : ℕ) (a : Standing) (rounds : List Round) → AreTurns setting seat slice a rounds → length rounds ≤ length (filter_map received_by (flat_map calls_of rounds))
  rounds_receive slice a [] turns = omega arith
  rounds_receive slice a (r ∷ rs) turns =
      let here = turn_receives r.reading a r.entries r.calls r.new turns.0 in
      let there = rounds_receive slice (behind r.new r.between) rs turns.4 in
      let aside = received-append r.calls (readings r.asides) in
      let one = received-append (r.calls ++ readings r.asides) (calls_of_rest r.rest) in
      let all = received-append (calls_of r) (flat_map calls_of rs) in
      omega (arith, here, there, aside, one, all)

  -- a course receives at least once for each turn
  pub course_receives : (slice : ℕ) (journal : List Entry) (log : List WorldCall) (turns asides : ℕ) → IsCourse setting seat slice journal log turns asides → turns ≤ length (filter_map received_by log)
  course_receives slice journal log turns asides course =
      let rounds = rounds_receive slice (behind beginning course.first) course.rounds course.turns_are in
      let split = ap (λ l. length (filter_map received_by l)) course.log_is ∙ received-append (serves_from 0 setting.options.servers ++ readings course.first_asides) (flat_map calls_of course.rounds) in
      omega (arith, rounds, split, course.count)
