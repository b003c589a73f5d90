-- The starts of a turn: their words, also for the case of letters, and those of the last look; a later server is told before its first query, and nothing is left that could start or expire.
use Rattle.std.proofs.Common.{◌≡◌, ℕ, Bool, ◌<◌, ◌==◌, List, [], ◌∷◌, take, Some, None, refl, ap, subst, arith, ◌⊎◌, inl, inr}
use Rattle.chan_types.specs.declared.journal.Entry.{Entry}
use Rattle.chan_types.specs.declared.journal.What.TheVariants.{Start}
use Rattle.chan_types.specs.declared.server_key.ServerKey.{ServerKey}
use Rattle.net_addr.specs.declared.addr.Addr.{Addr}
use Rattle.net_addr.specs.declared.addr.Addr.TheVariants.{V4, V6}
use Rattle.net_world.specs.declared.answers.Sent.TheVariants.{Sent}
use Rattle.net_world.specs.declared.log.WorldCall.{WorldCall}
use Rattle.net_world.specs.declared.log.WorldCall.TheVariants.{Serve, Word, Send}
use Rattle.channel_model.specs.Journal.{past_of}
use Rattle.channel_model.specs.Setting.{Setting}
use Rattle.channel_model.specs.Stretch.{Standing}
use Rattle.channel_model.specs.Turn.{DrawsForStarts, HasExpired, HasStarted, NoneDue, NoneStarts, expired_in, most_entries, started_in, words_of_look}
use Rattle.channel_examples.specs.MixedCase as MixedCase
use Rattle.channel_examples.specs.SetServers as SetServers
use Rattle.channel_examples.specs.SetServers.{at_host}
use Rattle.channel_examples.proofs.TruncatedReply.{setting, stands}
use Rattle.channel_examples.proofs.Words.{own, query, all_written, word_itself}
use Rattle.dns_message.specs.NameText as NameText

-- ---- the case of letters is drawn

-- where the first so many entries stand
abbrev pub mixed : ℕ → Standing
mixed count = record { past = past_of (take count MixedCase.journal); held = []; unwritten = all_written }

abbrev mixed_start : List Entry
mixed_start = own (Start 1 0 0 0 0x1234 (Some 0x0005) 0) ∷ []

-- two words are drawn for each start: that of the identifier, and then that of the letters; and two more to see that nothing starts
pub bits_drawn : HasStarted MixedCase.setting 0 0 (mixed 1) mixed_start (Word 0x1234 ∷ Word 0x0005 ∷ Send 0 MixedCase.mixed_query Sent ∷ Word 0 ∷ Word 0 ∷ []) (mixed 2)
unfolding NameText.units_of
bits_drawn = record {
  agrees = record { past_is = refl; held_are = refl; arrivals = refl; sends = refl; links = refl; writes = λ link. refl; faults_are = refl; in_order = refl };
  alone = refl;
  all = inl (inl refl, (word_itself MixedCase.setting 0x1234 (past_of (take 1 MixedCase.journal)) refl refl, (refl, refl)));
  few = omega arith;
  served = refl;
  served_first = refl;
}

-- by whichever end the part came to, its words are those of its starts
words_drawn : (setting : Setting) (a : Standing) (es : List Entry) (cs : List WorldCall) (new : Standing) → HasStarted setting 0 0 a es cs new → (left : ℕ → Bool) × DrawsForStarts setting 0 0 left a es cs
words_drawn setting a es cs new made = by_end made.all
  where
    by_end : {None All : Type 0} → (None × DrawsForStarts setting 0 0 (λ left. left == words_of_look setting) a es cs) ⊎ (All × DrawsForStarts setting 0 0 (λ left. left == 0) a es cs) →
        (left : ℕ → Bool) × DrawsForStarts setting 0 0 left a es cs
    by_end (inl none) = (λ left. left == words_of_look setting, none.1)
    by_end (inr all) = (λ left. left == 0, all.1)

-- the bits are those of the word that was drawn
abbrev other_calls : List WorldCall
other_calls = Word 0x1234 ∷ Word 0x0006 ∷ Send 0 MixedCase.mixed_query Sent ∷ Word 0 ∷ Word 0 ∷ []

pub other_bits : (new : Standing) → HasStarted MixedCase.setting 0 0 (mixed 1) mixed_start other_calls new → ⊥
other_bits new made = let same : ◌≡◌ {A = ℕ} 5 6 = (words_drawn MixedCase.setting (mixed 1) mixed_start other_calls new made).1.1.0 in omega (arith, same)

-- and one is drawn
abbrev one_word : List WorldCall
one_word = Word 0x1234 ∷ Send 0 MixedCase.mixed_query Sent ∷ []

pub no_bits_drawn : (new : Standing) → HasStarted MixedCase.setting 0 0 (mixed 1) mixed_start one_word new → ⊥
no_bits_drawn new made = (words_drawn MixedCase.setting (mixed 1) mixed_start one_word new made).1.1

-- a word is drawn for each start
abbrev first_query : List Entry
first_query = own (Start 1 0 0 0 7 None 0) ∷ []

pub no_word_drawn : (new : Standing) → HasStarted setting 0 0 (stands 1 []) first_query (Send 0 (query 7) Sent ∷ []) new → ⊥
no_word_drawn new made = (words_drawn setting (stands 1 []) first_query (Send 0 (query 7) Sent ∷ []) new made).1

-- one word is drawn for the look that finds that nothing can start, and no other
abbrev EndsSo : Setting → Standing → List WorldCall → Standing → Type 0
EndsSo setting a cs new =
    (NoneStarts setting new.past × DrawsForStarts setting 0 0 (λ left. left == words_of_look setting) a [] cs)
    ⊎ ((started_in 0 [] ≡ most_entries) × DrawsForStarts setting 0 0 (λ left. left == 0) a [] cs)

pub not_looked : (new : Standing) → HasStarted setting 0 0 (stands 2 []) [] [] new → ⊥
not_looked new made = by_end made.all
  where
    by_end : EndsSo setting (stands 2 []) [] new → ⊥
    by_end (inl none) = cc none.1
    by_end (inr all) = let count : ◌≡◌ {A = ℕ} 0 65536 = all.0 in omega (arith, count)

pub word_too_many : (new : Standing) → HasStarted setting 0 0 (stands 2 []) [] (Word 7 ∷ Word 8 ∷ []) new → ⊥
word_too_many new made = by_end made.all
  where
    by_end : EndsSo setting (stands 2 []) (Word 7 ∷ Word 8 ∷ []) new → ⊥
    by_end (inl none) = cc none.1
    by_end (inr all) = cc all.1

-- where the case of letters is drawn, the look has two
pub look_with_one : (new : Standing) → HasStarted MixedCase.setting 0 0 (mixed 2) [] (Word 7 ∷ []) new → ⊥
look_with_one new made = by_end made.all
  where
    by_end : EndsSo MixedCase.setting (mixed 2) (Word 7 ∷ []) new → ⊥
    by_end (inl none) = cc none.1
    by_end (inr all) = cc all.1

-- ---- a later server is told

-- where the first so many entries stand
abbrev pub renewed : ℕ → Standing
renewed count = record { past = past_of (take count SetServers.journal); held = []; unwritten = all_written }

-- the first attempt on the server with key 2, which came with the second list
abbrev pub first_on_it : List Entry
first_on_it = own (Start 1 0 2 0 9 None 2000) ∷ []

pub told_first : HasStarted SetServers.setting 0 2000 (renewed 5) first_on_it (Word 9 ∷ Serve 2 (at_host 3) ∷ Send 2 (query 9) Sent ∷ Word 0 ∷ []) (renewed 6)
unfolding NameText.units_of
told_first = record {
  agrees = record { past_is = refl; held_are = refl; arrivals = refl; sends = refl; links = refl; writes = λ link. refl; faults_are = refl; in_order = refl };
  alone = refl;
  all = inl (inl refl, (word_itself SetServers.setting 9 (past_of (take 5 SetServers.journal)) refl refl, refl));
  few = omega arith;
  served = refl;
  served_first = refl;
}

-- the number of the first server's IPv4 address
abbrev pub host_of : Addr → ℕ
host_of (V4 number) = number
host_of (V6 number) = 0

abbrev pub first_host : List ServerKey → ℕ
first_host [] = 0
first_host (server ∷ servers) = host_of server.address.address

-- it isn't left out, nor told with another address, nor told behind its first query
pub not_told : (new : Standing) → HasStarted SetServers.setting 0 2000 (renewed 5) first_on_it (Word 9 ∷ Send 2 (query 9) Sent ∷ Word 0 ∷ []) new → ⊥
unfolding NameText.units_of
not_told new made = cc made.served

pub told_otherwise : (new : Standing) → HasStarted SetServers.setting 0 2000 (renewed 5) first_on_it (Word 9 ∷ Serve 2 (at_host 1) ∷ Send 2 (query 9) Sent ∷ Word 0 ∷ []) new → ⊥
unfolding NameText.units_of
told_otherwise new made = let same : ◌≡◌ {A = ℕ} 3221225987 3221225985 = ap first_host made.served in omega (arith, same)

pub told_late : (new : Standing) → HasStarted SetServers.setting 0 2000 (renewed 5) first_on_it (Word 9 ∷ Send 2 (query 9) Sent ∷ Serve 2 (at_host 3) ∷ Word 0 ∷ []) new → ⊥
told_late new made = cc made.served_first

-- it is told once: not again at its second attempt
pub told_again : (new : Standing) → HasStarted SetServers.setting 0 8000 (renewed 9) (own (Start 1 0 2 0 11 None 8000) ∷ []) (Word 11 ∷ Serve 2 (at_host 3) ∷ Send 2 (query 11) Sent ∷ Word 0 ∷ []) new → ⊥
unfolding NameText.units_of
told_again new made = cc made.served

-- and a server of the opening list isn't told at all
pub opening_told : (new : Standing) → HasStarted SetServers.setting 0 0 (renewed 3) (own (Start 1 0 1 0 8 None 0) ∷ []) (Word 8 ∷ Serve 1 (at_host 2) ∷ Send 1 (query 8) Sent ∷ Word 0 ∷ []) new → ⊥
unfolding NameText.units_of
opening_told new made = cc made.served

-- ---- what is left

-- a leg waits, and no identifier is in flight
leg_waits : NoneStarts setting (past_of (take 1 SetServers.journal)) → ⊥
unfolding NameText.units_of
leg_waits (inl none) = cc none
leg_waits (inr used) = cc (used 0 (omega arith))

-- it starts while a leg waits
pub stopped_early : (new : Standing) → HasStarted setting 0 0 (renewed 1) [] (Word 7 ∷ []) new → ⊥
stopped_early new made = by_end made.all
  where
    by_end : EndsSo setting (renewed 1) (Word 7 ∷ []) new → ⊥
    by_end (inl none) = leg_waits (subst (λ past. NoneStarts setting past) made.agrees.past_is none.0)
    by_end (inr full) = let count : ◌≡◌ {A = ℕ} 0 65536 = full.0 in omega (arith, count)

-- an attempt is due at 2000
due_then : NoneDue setting 2000 (past_of (take 2 SetServers.journal)) → ⊥
unfolding NameText.units_of
due_then none = let later : 2000 < 2000 = none in omega (arith, later)

-- it expires what is due
pub left_to_expire : (new : Standing) → HasExpired setting 0 2000 (renewed 2) [] [] new → ⊥
left_to_expire new made = by_end made.all
  where
    by_end : NoneDue setting 2000 new.past ⊎ (expired_in 0 [] ≡ most_entries) → ⊥
    by_end (inl none) = due_then (subst (λ past. NoneDue setting 2000 past) made.agrees.past_is none)
    by_end (inr full) = let count : ◌≡◌ {A = ℕ} 0 65536 = full in omega (arith, count)
