-- How many Starts a turn makes: 65,536 at most, whatever they are; behind so many it doesn't look for another.
-- No lawful journal is computed here that has so many: those of these lists are of a request that wasn't accepted.
use Rattle.std.proofs.Common.{◌≡◌, ℕ, zero, suc, ◌+◌, ◌≤◌, ◌%◌, ◌^◌, ◌==◌, ◌&&◌, List, [], ◌∷◌, ◌++◌, Bool, true, false, not, map, None, refl, sym, ap, subst, ◌∙◌, ◌⊎◌, arith, inl, inr}
use Rattle.std.specs.Prelude.{IsTrue, filter, filter_map, find, flat_map, Option, option_and_then, option_map, slice_get}
use Rattle.std.specs.List.{list_all, list_any}
use Rattle.std.specs.Option.{option_map_or}
use Rattle.chan_types.specs.declared.journal.Entry.{Entry}
use Rattle.chan_types.specs.declared.journal.What.{What}
use Rattle.chan_types.specs.declared.journal.What.TheVariants.{Start}
use Rattle.dns_message.specs.Spelling.{message_bytes}
use Rattle.dns_message.specs.declared.message.Question.{Question}
use Rattle.net_world.specs.declared.answers.Sent.TheVariants.{Sent}
use Rattle.net_world.specs.declared.log.WorldCall.{WorldCall}
use Rattle.net_world.specs.declared.log.WorldCall.TheVariants.{Send, Word}
use Rattle.resolv_options.specs.Defaults.{plain_values}
use Rattle.channel_model.specs.Completion.{is_open, waiting_of}
use Rattle.channel_model.specs.Flight.{asked_with, flight, started}
use Rattle.channel_model.specs.Journal.{Accepted, Past, accepted, followed_by, own_entries, request_of}
use Rattle.channel_model.specs.Lawful.{is_used}
use Rattle.channel_model.specs.Legs.{Leg, candidate_of, leg_of}
use Rattle.channel_model.specs.Links.{held_after, told}
use Rattle.channel_model.specs.Past.{closings, leg_query, query_of}
use Rattle.channel_model.specs.Questions.{candidates_of, question_for, question_of}
use Rattle.channel_model.specs.Setting.{Setting}
use Rattle.channel_model.specs.Stretch.{Agrees, Standing, beginning, behind}
use Rattle.channel_model.specs.Traffic.{Parcel, arrived, asked, connects, datagrams, faulted, faults, messages, noted, noticed, notices, of_datagram, opened, queued, written}
use Rattle.channel_model.specs.Turn.{AreDrawn, HasStarted, NoneStarts, WasCut, are_of, are_served_first, draws, is_among, is_at, is_sent_to, most_entries, numbered, parts_of_call, parts_of_entry, served_by, serves, started_in, starting, words_of_look}
use Rattle.channel_examples.specs.Words.{channel_with, one_server}
use Rattle.channel_examples.proofs.Words.{own, word_itself}

abbrev pub setting : Setting
setting = channel_with (record plain_values { servers = one_server })

-- the identifiers 1 and 0 in turn
abbrev id_of : Bool → ℕ
id_of true = 1
id_of false = 0

-- a Start with the one or the other
abbrev start : Bool → What
start odd = Start 1 0 0 0 (id_of odd) None 0

-- so many Starts
abbrev pub starts : Bool → ℕ → List Entry
starts odd zero = []
starts odd (suc n) = own (start odd) ∷ starts (not odd) n

-- their words and queries, and where the turn looks for another Start the word of that look
abbrev pub calls : Bool → Bool → ℕ → List WorldCall
calls true odd zero = Word 0 ∷ []
calls false odd zero = []
calls looks odd (suc n) = Word (id_of odd) ∷ Send 0 [] Sent ∷ calls looks (not odd) n

-- they are so many
how_many : (odd : Bool) (n : ℕ) → started_in 0 (starts odd n) ≡ n
how_many odd zero = refl
how_many odd (suc n) = let rest : started_in 0 (starts (not odd) n) ≡ n = how_many (not odd) n in omega (arith, rest)

-- ---- no request was accepted

-- so a Start's query has no byte
no_query : (past : Past) (odd : Bool) → accepted past ≡ [] → option_map_or message_bytes (leg_query setting (leg_of 1 0) (id_of odd) None past) [] ≡ []
no_query past odd none =
    let request : request_of 1 past ≡ None = ap (find (λ request. request.number == 1)) none in
    let question : question_of setting (leg_of 1 0) past ≡ None = ap asks request in
    ap (λ found. option_map_or message_bytes (option_map (λ question. query_of setting (id_of odd) (asked_with None question) (closings setting (leg_of 1 0) past)) found) [])
    question
  where
    asks : Option Accepted → Option Question
    asks found =
        option_and_then (λ spec. option_map (question_for spec 0) (slice_get (candidates_of setting spec) (candidate_of 0))) (option_map (λ request. request.spec) found)

-- and no leg waits
none_waits : (past : Past) → accepted past ≡ [] → NoneStarts setting past
none_waits past none = inl (ap waits none)
  where
    waits : List Accepted → List Leg
    waits requests = flat_map (waiting_of setting past) (filter (is_open setting past) (map (λ request. request.number) requests))

-- nor behind Starts
still_none : (past : Past) (odd : Bool) → accepted past ≡ [] → accepted (start odd ∷ past) ≡ []
still_none past odd none = ap (λ requests. requests ++ []) none

none_behind : (odd : Bool) (n : ℕ) (past : Past) → accepted past ≡ [] → accepted (followed_by past (starts odd n)) ≡ []
none_behind odd zero past none = none
none_behind odd (suc n) past none = none_behind (not odd) n (start odd ∷ past) (still_none past odd none)

-- ---- words

-- one leg has Starts, or none, and the next identifier is free
record IsFree (odd : Bool) (past : Past) : Type 0 where
  legs : (started past ≡ []) ⊎ (started past ≡ leg_of 1 0 ∷ [])
  free : is_used setting (id_of odd) past ≡ false

-- behind a Start the leg has one
one_leg : (odd : Bool) (past : Past) → (started past ≡ []) ⊎ (started past ≡ leg_of 1 0 ∷ []) → started (start odd ∷ past) ≡ leg_of 1 0 ∷ []
one_leg odd past (inl none) = rw none refl
one_leg odd past (inr one) = rw one refl

-- and the other identifier is free
other_free : (odd : Bool) (past : Past) → started (start odd ∷ past) ≡ leg_of 1 0 ∷ [] → is_used setting (id_of (not odd)) (start odd ∷ past) ≡ false
other_free true past one = ap (λ legs. list_any (λ a. a.id == 0) (filter_map (λ leg. flight setting leg (start true ∷ past)) legs)) one
other_free false past one = ap (λ legs. list_any (λ a. a.id == 1) (filter_map (λ leg. flight setting leg (start false ∷ past)) legs)) one

next_free : (odd : Bool) (past : Past) → IsFree odd past → IsFree (not odd) (start odd ∷ past)
next_free odd past f = record { legs = inr (one_leg odd past f.legs); free = other_free odd past (one_leg odd past f.legs) }

-- the identifiers have 16 bits
fits : (odd : Bool) → id_of odd % 2 ^ 16 ≡ id_of odd
fits true = refl
fits false = refl

-- how many words are left behind those of the Starts
abbrev is_left : Bool → ℕ → Bool
is_left true left = left == words_of_look setting
is_left false left = left == 0

words : (looks odd : Bool) (n : ℕ) (past : Past) → IsFree odd past →
    AreDrawn setting (is_left looks) (noted 0 numbered past (starts odd n)) (told draws [] (calls looks odd n))
words true odd zero past f = refl
words false odd zero past f = refl
words looks odd (suc n) past f =
    (word_itself setting (id_of odd) past (fits odd) f.free, words looks (not odd) n (start odd ∷ past) (next_free odd past f))

-- ---- journal and log agree

abbrev empty_query : List ℕ → Parcel
empty_query bytes = record { server = 0; link = 0; bytes = bytes }

same_held : (looks odd : Bool) (n : ℕ) → [] ≡ held_after [] (calls looks odd n)
same_held true odd zero = refl
same_held false odd zero = refl
same_held looks odd (suc n) = same_held looks (not odd) n

same_messages : (looks odd : Bool) (n : ℕ) (past : Past) → noted 0 arrived past (starts odd n) ≡ told messages [] (calls looks odd n)
same_messages true odd zero past = refl
same_messages false odd zero past = refl
same_messages looks odd (suc n) past = same_messages looks (not odd) n (start odd ∷ past)

same_sends : (looks odd : Bool) (n : ℕ) (past : Past) → accepted past ≡ [] →
    noted 0 (asked setting) past (starts odd n) ≡ told datagrams [] (calls looks odd n)
same_sends true odd zero past none = refl
same_sends false odd zero past none = refl
same_sends looks odd (suc n) past none =
    ap (λ bytes. empty_query bytes ∷ noted 0 (asked setting) (start odd ∷ past) (starts (not odd) n)) (no_query past odd none)
    ∙ ap (λ rest. empty_query [] ∷ rest) (same_sends looks (not odd) n (start odd ∷ past) (still_none past odd none))

same_links : (looks odd : Bool) (n : ℕ) (past : Past) → noted 0 opened past (starts odd n) ≡ told connects [] (calls looks odd n)
same_links true odd zero past = refl
same_links false odd zero past = refl
same_links looks odd (suc n) past = same_links looks (not odd) n (start odd ∷ past)

same_writes : (looks odd : Bool) (n : ℕ) (past : Past) (link : ℕ) →
    noted 0 (queued setting link) past (starts odd n) ≡ told (written link) [] (calls looks odd n) ++ []
same_writes true odd zero past link = refl
same_writes false odd zero past link = refl
same_writes looks odd (suc n) past link = same_writes looks (not odd) n (start odd ∷ past) link

same_faults : (looks odd : Bool) (n : ℕ) (past : Past) → noted 0 faulted past (starts odd n) ≡ told faults [] (calls looks odd n)
same_faults true odd zero past = refl
same_faults false odd zero past = refl
same_faults looks odd (suc n) past = same_faults looks (not odd) n (start odd ∷ past)

same_order : (looks odd : Bool) (n : ℕ) (past : Past) → accepted past ≡ [] →
    noted 0 (noticed setting) past (starts odd n) ≡ told notices [] (calls looks odd n)
same_order true odd zero past none = refl
same_order false odd zero past none = refl
same_order looks odd (suc n) past none =
    ap (λ bytes. of_datagram (empty_query bytes) ∷ noted 0 (noticed setting) (start odd ∷ past) (starts (not odd) n)) (no_query past odd none)
    ∙ ap (λ rest. of_datagram (empty_query []) ∷ rest) (same_order looks (not odd) n (start odd ∷ past) (still_none past odd none))

agrees : (looks odd : Bool) (n : ℕ) → Agrees setting 0 beginning (starts odd n) (calls looks odd n) (behind beginning (starts odd n))
agrees looks odd n = record {
  past_is = refl;
  held_are = same_held looks odd n;
  arrivals = same_messages looks odd n [];
  sends = same_sends looks odd n [] refl;
  links = same_links looks odd n [];
  writes = λ link. same_writes looks odd n [] link;
  faults_are = same_faults looks odd n [];
  in_order = same_order looks odd n [] refl;
}

-- ---- the part

-- entries and calls are of it
entries_of_part : (odd : Bool) (n : ℕ) →
    list_all (λ entry. is_among starting (parts_of_entry entry.what) && is_at 0 entry.what) (own_entries 0 (starts odd n)) ≡ true
entries_of_part odd zero = refl
entries_of_part odd (suc n) = entries_of_part (not odd) n

calls_of_part : (looks odd : Bool) (n : ℕ) → list_all (λ call. is_among starting (parts_of_call call)) (calls looks odd n) ≡ true
calls_of_part true odd zero = refl
calls_of_part false odd zero = refl
calls_of_part looks odd (suc n) = calls_of_part looks (not odd) n

of_part : (looks odd : Bool) (n : ℕ) → IsTrue (are_of starting 0 0 (starts odd n) (calls looks odd n))
of_part looks odd n =
    both (list_all (λ entry. is_among starting (parts_of_entry entry.what) && is_at 0 entry.what) (own_entries 0 (starts odd n)))
    (list_all (λ call. is_among starting (parts_of_call call)) (calls looks odd n)) (entries_of_part odd n) (calls_of_part looks odd n)
  where
    both : (b c : Bool) → b ≡ true → c ≡ true → (b && c) ≡ true
    both true c first second = second
    both false c first second = first

-- no server is told
same_serves : (looks odd : Bool) (n : ℕ) (past : Past) → noted 0 (served_by setting) past (starts odd n) ≡ told serves [] (calls looks odd n)
same_serves true odd zero past = refl
same_serves false odd zero past = refl
same_serves looks odd (suc n) past = same_serves looks (not odd) n (start odd ∷ past)

none_told : (looks odd : Bool) (n : ℕ) → told serves [] (calls looks odd n) ≡ []
none_told true odd zero = refl
none_told false odd zero = refl
none_told looks odd (suc n) = none_told looks (not odd) n

served_first : (looks odd : Bool) (n : ℕ) → are_served_first (calls looks odd n) ≡ true
served_first true odd zero = refl
served_first false odd zero = refl
served_first looks odd (suc n) =
    subst (λ servers. (list_all (λ server. not (is_sent_to server.key (Word (id_of odd)))) servers
    && (list_all (λ server. not (is_sent_to server.key (Send 0 [] Sent))) servers && are_served_first (calls looks (not odd) n))) ≡ true)
    (sym (none_told looks (not odd) n)) (served_first looks (not odd) n)

-- up to 65,536 are the starting of a turn that then looks
pub enough : (n : ℕ) → n ≤ most_entries → HasStarted setting 0 0 beginning (starts true n) (calls true true n) (behind beginning (starts true n))
enough n few = record {
  agrees = agrees true true n;
  alone = of_part true true n;
  all = inl (none_waits (followed_by [] (starts true n)) (none_behind true n [] refl), words true true n [] (record { legs = inl refl; free = refl }));
  few = subst (λ count. count ≤ most_entries) (sym (how_many true n)) few;
  served = same_serves true true n [];
  served_first = served_first true true n;
}

-- and 65,536 are that of one that doesn't
pub full : (n : ℕ) → n ≡ most_entries → HasStarted setting 0 0 beginning (starts true n) (calls false true n) (behind beginning (starts true n))
full n all = record {
  agrees = agrees false true n;
  alone = of_part false true n;
  all = inr (how_many true n ∙ all, words false true n [] (record { legs = inl refl; free = refl }));
  few = let count : started_in 0 (starts true n) ≡ n = how_many true n in omega (arith, count, all);
  served = same_serves false true n [];
  served_first = served_first false true n;
}

-- but one more isn't, whether it looks or not
pub too_many : (looks : Bool) (new : Standing) →
    HasStarted setting 0 0 beginning (starts true (most_entries + 1)) (calls looks true (most_entries + 1)) new → ⊥
too_many looks new made =
    let count : ◌≡◌ {A = ℕ} (started_in 0 (starts true (most_entries + 1))) (most_entries + 1) = how_many true (most_entries + 1) in
    omega (arith, count, made.few)

-- also where the part was cut short
pub too_many_cut : (looks : Bool) → WasCut setting 0 0 starting beginning (starts true (most_entries + 1)) (calls looks true (most_entries + 1)) → ⊥
too_many_cut looks cut =
    let count : ◌≡◌ {A = ℕ} (started_in 0 (starts true (most_entries + 1))) (most_entries + 1) = how_many true (most_entries + 1) in
    omega (arith, count, cut.by_rule.0)
