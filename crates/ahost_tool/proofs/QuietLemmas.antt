-- In the turns of a run no link is closed between a wait and the next receive.
use Rattle.std.proofs.Common.{◌≡◌, ◌≢◌, ◌∙◌, ℕ, ◌+◌, ◌==◌, Bool, true, false, cond, not, List, [], ◌∷◌, ◌++◌, Option, Some, None, filter, length, map, inl, inr, ap, refl, sym, subst, arith, eq-eqb, length-append, true≢false}
use Rattle.std.proofs.lemmas.Bool.{and_from, and_parts}
use Rattle.std.proofs.lemmas.List.{append_assoc}
use Rattle.std.specs.List.{AllByRecursion, list_all}
use Rattle.std.specs.Option.{option_map_or}
use Rattle.std.specs.Prelude.{flat_map, option_to_list}
use Rattle.chan_types.specs.declared.journal.Entry.{Entry}
use Rattle.channel_model.specs.Course.{AreTurns, IsCourse, Rest, Round, calls_of, calls_of_rest, readings, serves_from}
use Rattle.channel_model.specs.Frames.{left_in}
use Rattle.channel_model.specs.Links.{Link, held_by_receive, held_link, told, with_bytes, without_link}
use Rattle.channel_model.specs.Setting.{Setting}
use Rattle.channel_model.specs.Stretch.{Standing, beginning, behind}
use Rattle.channel_model.specs.Turn.{HasMade, HasReceived, HaveMade, IsTurn, IsWholeReceive, Part, all_parts, closes_made, closing, expiring, if_held, is_among, losses, lost_receiving, most_receives, parts_of_call, receives, receiving, starting, writing}
use Rattle.channel_progress.specs.Waking.{woken_by}
use Rattle.net_addr.specs.declared.addr.ServerAddr.{ServerAddr}
use Rattle.net_world.specs.declared.answers.Got.{Got}
use Rattle.net_world.specs.declared.answers.Got.TheVariants.{Datagram, Ended, Failed as LinkFailed, Nothing, Piece}
use Rattle.net_world.specs.declared.answers.Waited.TheVariants.{Failed as NotWaited, Woken}
use Rattle.net_world.specs.declared.log.WorldCall.{WorldCall}
use Rattle.net_world.specs.declared.log.WorldCall.TheVariants.{Close, Connect, Now, Receive, Send, Serve, Wait, Word, Write}
use Rattle.owner_session.proofs.Theorems.{each_of}
use Rattle.ahost_tool.proofs.NetworkLemmas.{is_quiet, waits_quietly}

-- ---- calls that don't wait

abbrev NoneWaits : List WorldCall → Type 0
NoneWaits calls = AllByRecursion (λ call. woken_by call ≡ None) calls

-- are quiet behind their waits if the calls behind them are
quiet_behind : (xs ys : List WorldCall) → NoneWaits xs → waits_quietly ys ≡ true → waits_quietly (xs ++ ys) ≡ true
quiet_behind [] ys none quiet = quiet
quiet_behind (x ∷ xs) ys none quiet =
    and_from (option_map_or (λ until. is_quiet (xs ++ ys)) (woken_by x) true) (waits_quietly (xs ++ ys))
    (ap (λ (o : Option ℕ). option_map_or (λ until. is_quiet (xs ++ ys)) o true) none.0) (quiet_behind xs ys none.1 quiet)

-- readings of the clock are such calls, and so is telling the servers
readings_none : (moments : List ℕ) → NoneWaits (readings moments)
readings_none [] = tt
readings_none (moment ∷ moments) = (refl, readings_none moments)

serves_none : (server : ℕ) (addresses : List ServerAddr) → NoneWaits (serves_from server addresses)
serves_none server [] = tt
serves_none server (address ∷ addresses) = (refl, serves_none (server + 1) addresses)

-- a part of a turn doesn't wait
one_none : (part : Part) (call : WorldCall) → is_among part (parts_of_call call) ≡ true → woken_by call ≡ None
one_none part (Serve server address) among = refl
one_none part (Now reading) among = refl
one_none part (Word word) among = refl
one_none part (Send server bytes outcome) among = refl
one_none part (Connect server link outcome) among = refl
one_none part (Write link bytes outcome) among = refl
one_none part (Receive got) among = refl
one_none part (Close link) among = refl
one_none part (Wait until outcome) among = absurd (true≢false (sym among))

part_none : (part : Part) (calls : List WorldCall) → list_all (λ call. is_among part (parts_of_call call)) calls ≡ true → NoneWaits calls
part_none part [] all = tt
part_none part (call ∷ calls) all =
    let parts = and_parts (is_among part (parts_of_call call)) (list_all (λ c. is_among part (parts_of_call c)) calls) all in
    (one_none part call parts.0, part_none part calls parts.1)

-- ---- links that aren't held

module _ (number : ℕ) where
  -- no held link has the number
  abbrev IsGone : List Link → Type 0
  IsGone held = AllByRecursion (λ link. link.number ≢ number) held

  kept_gone : (test : Link → Bool) (held : List Link) → IsGone held → IsGone (filter test held)
  kept_gone test [] gone = tt
  kept_gone test (link ∷ held) gone = by (test link) (kept_gone test held gone.1)
    where
      by : (b : Bool) → IsGone (filter test held) → IsGone (cond b (link ∷ filter test held) (filter test held))
      by true rest = (gone.0, rest)
      by false rest = rest

  -- so it is without its link
  gone_without : (held : List Link) → IsGone (without_link number held)
  gone_without [] = tt
  gone_without (link ∷ held) = by (link.number == number) refl (gone_without held)
    where
      by : (b : Bool) → (link.number == number) ≡ b → IsGone (without_link number held) → IsGone (cond (not b) (link ∷ without_link number held) (without_link number held))
      by true is rest = rest
      by false is rest = (λ same. true≢false (sym (eq-eqb link.number number same) ∙ is), rest)

  -- bytes that come leave the numbers
  same_number : (other : ℕ) (bytes : List ℕ) (link : Link) → (with_bytes other bytes link).number ≡ link.number
  same_number other bytes link = by (link.number == other)
    where
      by : (b : Bool) → (cond b (record link { unread = left_in link.unread bytes }) link).number ≡ link.number
      by true = refl
      by false = refl

  bytes_gone : (other : ℕ) (bytes : List ℕ) (held : List Link) → IsGone held → IsGone (map (with_bytes other bytes) held)
  bytes_gone other bytes [] gone = tt
  bytes_gone other bytes (link ∷ held) gone = (subst (λ (n : ℕ). n ≢ number) (sym (same_number other bytes link)) gone.0, bytes_gone other bytes held gone.1)

  still_gone : (held : List Link) (got : Got) → IsGone held → IsGone (held_by_receive held got)
  still_gone held (Datagram server bytes) gone = gone
  still_gone held (Piece other bytes) gone = bytes_gone other bytes held gone
  still_gone held (Ended other) gone = kept_gone (λ link. not (link.number == other)) held gone
  still_gone held Nothing gone = gone
  still_gone held (LinkFailed server other) gone = kept_gone (λ link. not (link.number == other)) held gone

  -- what is lost then has other numbers
  abbrev AreOthers : List ℕ → Type 0
  AreOthers numbers = AllByRecursion (λ n. n ≢ number) numbers

  held_other : (other : ℕ) (held : List Link) → IsGone held → AreOthers (if_held held other)
  held_other other [] gone = tt
  held_other other (link ∷ held) gone = by (link.number == other) (held_other other held gone.1)
    where
      by : (b : Bool) → AreOthers (map (λ l. l.number) (option_to_list (held_link other held))) → AreOthers (map (λ l. l.number) (option_to_list (cond b (Some link) (held_link other held))))
      by true rest = (gone.0, tt)
      by false rest = rest

  lost_other : (held : List Link) (got : Got) → IsGone held → AreOthers (lost_receiving held got)
  lost_other held (Datagram server bytes) gone = tt
  lost_other held (Piece other bytes) gone = tt
  lost_other held (Ended other) gone = held_other other held gone
  lost_other held Nothing gone = tt
  lost_other held (LinkFailed server other) gone = held_other other held gone

  -- so while a turn receives a link isn't lost any more that isn't held
  never_lost : (calls : List WorldCall) (held : List Link) → list_all (λ call. is_among receiving (parts_of_call call)) calls ≡ true → IsGone held → AreOthers (told losses held calls)
  never_lost [] held all gone = tt
  never_lost (Serve server address ∷ calls) held all gone = absurd (true≢false (sym all))
  never_lost (Now reading ∷ calls) held all gone = absurd (true≢false (sym all))
  never_lost (Word word ∷ calls) held all gone = absurd (true≢false (sym all))
  never_lost (Send server bytes outcome ∷ calls) held all gone = absurd (true≢false (sym all))
  never_lost (Connect server link outcome ∷ calls) held all gone = absurd (true≢false (sym all))
  never_lost (Write link bytes outcome ∷ calls) held all gone = absurd (true≢false (sym all))
  never_lost (Receive got ∷ calls) held all gone =
      each_of (λ n. n ≢ number) (lost_receiving held got) (told losses (held_by_receive held got) calls) (lost_other held got gone) (never_lost calls (held_by_receive held got) all (still_gone held got gone))
  never_lost (Close other ∷ calls) held all gone = never_lost calls (without_link other held) all (kept_gone (λ link. not (link.number == other)) held gone)
  never_lost (Wait until outcome ∷ calls) held all gone = absurd (true≢false (sym all))

-- ---- a turn receives before it closes a link

-- whoever receives whole receives at least once
none_whole : IsWholeReceive most_receives [] → ⊥
none_whole (inl ends) =
    let is : length {A = Got} [] ≡ length (ends.0.items ++ Nothing ∷ []) = ap length ends.0.gots_are in
    omega (arith, is, length-append ends.0.items (Nothing ∷ []))
none_whole (inr many) = let none : length {A = Got} [] ≡ 0 = refl in omega (arith, many.1, none)

module _ (setting : Setting) (seat reading : ℕ) where
  receive_quiet : (old new : Standing) (entries : List Entry) (calls more : List WorldCall) → HasReceived setting seat reading old entries calls new → is_quiet (calls ++ more) ≡ true
  receive_quiet old new entries calls more received = by calls received.all (and_parts _ _ received.alone).1 received.closed
    where
      by : (calls : List WorldCall) → IsWholeReceive most_receives (told receives old.held calls) → list_all (λ call. is_among receiving (parts_of_call call)) calls ≡ true
          → told closes_made old.held calls ≡ told losses old.held calls → is_quiet (calls ++ more) ≡ true
      by [] whole alone closed = absurd (none_whole whole)
      by (Serve server address ∷ calls) whole alone closed = absurd (true≢false (sym alone))
      by (Now moment ∷ calls) whole alone closed = absurd (true≢false (sym alone))
      by (Word word ∷ calls) whole alone closed = absurd (true≢false (sym alone))
      by (Send server bytes outcome ∷ calls) whole alone closed = absurd (true≢false (sym alone))
      by (Connect server link outcome ∷ calls) whole alone closed = absurd (true≢false (sym alone))
      by (Write link bytes outcome ∷ calls) whole alone closed = absurd (true≢false (sym alone))
      by (Receive got ∷ calls) whole alone closed = refl
      by (Close link ∷ calls) whole alone closed =
          let lost = never_lost link calls (without_link link old.held) alone (gone_without link old.held) in
          absurd ((subst (λ (numbers : List ℕ). AllByRecursion (λ n. n ≢ link) numbers) (sym closed) lost).0 refl)
      by (Wait until outcome ∷ calls) whole alone closed = absurd (true≢false (sym alone))

  turn_quiet : (old new : Standing) (entries : List Entry) (calls more : List WorldCall) → IsTurn setting seat reading old entries calls new → is_quiet (calls ++ more) ≡ true
  turn_quiet old new entries calls more turn =
      let j = turn.parts in
      ap (λ (cs : List WorldCall). is_quiet (cs ++ more)) turn.calls_are
      ∙ ap (λ (cs : List WorldCall). is_quiet (cs ++ more)) j.calls_are
      ∙ ap is_quiet (append_assoc j.calls_first j.calls_then more)
      ∙ receive_quiet old j.middle j.entries_first j.calls_first (j.calls_then ++ more) j.one

  -- and it doesn't wait
  made_none : (part : Part) (old new : Standing) (entries : List Entry) (calls : List WorldCall) → HasMade setting seat reading part old entries calls new → NoneWaits calls
  made_none receiving old new entries calls made = part_none receiving calls (and_parts _ _ made.alone).1
  made_none expiring old new entries calls made = part_none expiring calls (and_parts _ _ made.alone).1
  made_none starting old new entries calls made = part_none starting calls (and_parts _ _ made.alone).1
  made_none writing old new entries calls made = part_none writing calls (and_parts _ _ made.alone).1
  made_none closing old new entries calls made = part_none closing calls (and_parts _ _ made.alone).1

  have_none : (parts : List Part) (old new : Standing) (entries : List Entry) (calls : List WorldCall) → HaveMade setting seat reading parts old entries calls new → NoneWaits calls
  have_none [] old new entries calls idle = subst NoneWaits (sym idle.no_call) tt
  have_none (part ∷ parts) old new entries calls j =
      subst NoneWaits (sym j.calls_are)
      (each_of (λ call. woken_by call ≡ None) j.calls_first j.calls_then (made_none part old j.middle j.entries_first j.calls_first j.one) (have_none parts j.middle new j.entries_then j.calls_then j.two))

  turn_none : (old new : Standing) (entries : List Entry) (calls : List WorldCall) → IsTurn setting seat reading old entries calls new → NoneWaits calls
  turn_none old new entries calls turn = subst NoneWaits (sym turn.calls_are) (refl, have_none all_parts old new entries turn.made turn.parts)

-- ---- a run

module _ (setting : Setting) (seat slice : ℕ) where
  -- the wait behind a turn, if there is one, is before calls that are quiet
  rest_quiet : (rest : Option Rest) (more : List WorldCall) → is_quiet more ≡ true → waits_quietly more ≡ true → waits_quietly (calls_of_rest rest ++ more) ≡ true
  rest_quiet None more here later = later
  rest_quiet (Some rest) more here later =
      and_from (option_map_or (λ until. is_quiet more) (woken_by (Wait rest.until rest.outcome)) true) (waits_quietly more) (by rest.outcome) later
    where
      by : (outcome : _) → option_map_or (λ until. is_quiet more) (woken_by (Wait rest.until outcome)) true ≡ true
      by Woken = here
      by NotWaited = refl

  turns_quiet : (standing : Standing) (rounds : List Round) → AreTurns setting seat slice standing rounds → (is_quiet (flat_map calls_of rounds) ≡ true) × (waits_quietly (flat_map calls_of rounds) ≡ true)
  turns_quiet standing [] turns = (refl, refl)
  turns_quiet standing (round ∷ rounds) turns =
      let later = turns_quiet (behind round.new round.between) rounds turns.4 in
      let more : List WorldCall = flat_map calls_of rounds in
      let parts : calls_of round ++ more ≡ round.calls ++ (readings round.asides ++ (calls_of_rest round.rest ++ more)) =
      append_assoc (round.calls ++ readings round.asides) (calls_of_rest round.rest) more ∙ append_assoc round.calls (readings round.asides) (calls_of_rest round.rest ++ more) in (
        ap is_quiet parts ∙ turn_quiet setting seat round.reading standing round.new round.entries round.calls (readings round.asides ++ (calls_of_rest round.rest ++ more)) turns.0,
        ap waits_quietly parts
            ∙ quiet_behind round.calls (readings round.asides ++ (calls_of_rest round.rest ++ more)) (turn_none setting seat round.reading standing round.new round.entries round.calls turns.0)
            (quiet_behind (readings round.asides) (calls_of_rest round.rest ++ more) (readings_none round.asides) (rest_quiet round.rest more later.0 later.1)),
      )

  -- in a run that falls into turns each wait is before calls that are quiet
  pub course_quiet : (journal : List Entry) (log : List WorldCall) (turns asides : ℕ) → IsCourse setting seat slice journal log turns asides → waits_quietly log ≡ true
  course_quiet journal log turns asides course =
      ap waits_quietly (course.log_is ∙ append_assoc (serves_from 0 setting.options.servers) (readings course.first_asides) (flat_map calls_of course.rounds))
      ∙ quiet_behind (serves_from 0 setting.options.servers) (readings course.first_asides ++ flat_map calls_of course.rounds) (serves_none 0 setting.options.servers)
      (quiet_behind (readings course.first_asides) (flat_map calls_of course.rounds) (readings_none course.first_asides) (turns_quiet (behind beginning course.first) course.rounds course.turns_are).1)
