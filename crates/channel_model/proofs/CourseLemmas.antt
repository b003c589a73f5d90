-- A course agrees: turns, what stands between them, the serves and the waits.
use Rattle.std.proofs.Common.{◌≡◌, ℕ, ◌+◌, ◌==◌, if◌then◌else◌, List, [], ◌∷◌, ◌++◌, length, Bool, true, false, not, ◌&&◌, Option, Some, None, refl, sym, ap, subst, ◌∙◌}
use Rattle.std.specs.Prelude.{IsTrue, flat_map}
use Rattle.std.proofs.lemmas.List.{append-nil}
use Rattle.chan_types.specs.declared.journal.Entry.{Entry}
use Rattle.chan_types.specs.declared.journal.What.{What}
use Rattle.chan_types.specs.declared.journal.What.TheVariants.{Accept, Cancel, Destroy, Take, Start, Arrive, Expire, Fault, Servers}
use Rattle.net_addr.specs.declared.addr.ServerAddr.{ServerAddr}
use Rattle.net_world.specs.declared.log.WorldCall.{WorldCall}
use Rattle.net_world.specs.declared.log.WorldCall.TheVariants.{Wait, Serve, Now}
use Rattle.channel_model.specs.Course.{Rest, Round, calls_of_rest, entries_of, calls_of, readings, serves_from, is_of_turn, has_no_turn, AreTurns, IsCourse, standing_after}
use Rattle.channel_model.specs.Journal.{Past}
use Rattle.channel_model.specs.Links.{Link, held_after, told}
use Rattle.channel_model.specs.Setting.{Setting}
use Rattle.channel_model.specs.Stretch.{Standing, beginning, behind, Agrees}
use Rattle.channel_model.specs.Traffic.{noted, arrived, faulted, opened, asked, queued, noticed, messages, datagrams, connects, written, faults, TrafficAgrees}
use Rattle.channel_model.specs.Turn.{parts_of_entry}
use Rattle.channel_model.proofs.NoticeLemmas.{told-quiet}
use Rattle.channel_model.proofs.TrafficLemmas.{agrees_trans, agrees_none, agrees_whole}
use Rattle.channel_model.proofs.TurnLemmas.{turn_agrees, now_agrees}

-- only a turn makes an entry of this kind
abbrev pub of_turn : What → Bool
of_turn what = not (length (parts_of_entry what) == 0)

-- a conjunction that holds has both parts
both : (b c : Bool) → (b && c) ≡ true → (b ≡ true) × (c ≡ true)
both true true h = (refl, refl)
both true false h = absurd (cc h)
both false c h = absurd (cc h)

-- what isn't, is not
not_true : (b : Bool) → not b ≡ true → b ≡ false
not_true true h = absurd (cc h)
not_true false h = refl

-- an entry that isn't only a turn's notes nothing
abbrev pub Silent : {A : Type 0} → (Past → What → List A) → Type 0
Silent notes = (past : Past) (what : What) → of_turn what ≡ false → notes past what ≡ []

pub silent_arrived : Silent arrived
silent_arrived past (Accept number spec script) h = refl
silent_arrived past Cancel h = refl
silent_arrived past Destroy h = refl
silent_arrived past (Take number) h = refl
silent_arrived past (Start number leg server link id mix moment) h = refl
silent_arrived past (Arrive server link bytes) h = absurd (cc h)
silent_arrived past (Expire number leg moment) h = refl
silent_arrived past (Fault server link moment) h = refl
silent_arrived past (Servers list) h = refl

pub silent_faulted : Silent faulted
silent_faulted past (Accept number spec script) h = refl
silent_faulted past Cancel h = refl
silent_faulted past Destroy h = refl
silent_faulted past (Take number) h = refl
silent_faulted past (Start number leg server link id mix moment) h = refl
silent_faulted past (Arrive server link bytes) h = refl
silent_faulted past (Expire number leg moment) h = refl
silent_faulted past (Fault server link moment) h = absurd (cc h)
silent_faulted past (Servers list) h = refl

pub silent_opened : Silent opened
silent_opened past (Accept number spec script) h = refl
silent_opened past Cancel h = refl
silent_opened past Destroy h = refl
silent_opened past (Take number) h = refl
silent_opened past (Start number leg server link id mix moment) h = absurd (cc h)
silent_opened past (Arrive server link bytes) h = refl
silent_opened past (Expire number leg moment) h = refl
silent_opened past (Fault server link moment) h = refl
silent_opened past (Servers list) h = refl

pub silent_asked : (setting : Setting) → Silent (asked setting)
silent_asked setting past (Accept number spec script) h = refl
silent_asked setting past Cancel h = refl
silent_asked setting past Destroy h = refl
silent_asked setting past (Take number) h = refl
silent_asked setting past (Start number leg server link id mix moment) h = absurd (cc h)
silent_asked setting past (Arrive server link bytes) h = refl
silent_asked setting past (Expire number leg moment) h = refl
silent_asked setting past (Fault server link moment) h = refl
silent_asked setting past (Servers list) h = refl

pub silent_queued : (setting : Setting) (link : ℕ) → Silent (queued setting link)
silent_queued setting k past (Accept number spec script) h = refl
silent_queued setting k past Cancel h = refl
silent_queued setting k past Destroy h = refl
silent_queued setting k past (Take number) h = refl
silent_queued setting k past (Start number leg server link id mix moment) h = absurd (cc h)
silent_queued setting k past (Arrive server link bytes) h = refl
silent_queued setting k past (Expire number leg moment) h = refl
silent_queued setting k past (Fault server link moment) h = refl
silent_queued setting k past (Servers list) h = refl

pub silent_noticed : (setting : Setting) → Silent (noticed setting)
silent_noticed setting past (Accept number spec script) h = refl
silent_noticed setting past Cancel h = refl
silent_noticed setting past Destroy h = refl
silent_noticed setting past (Take number) h = refl
silent_noticed setting past (Start number leg server link id mix moment) h = absurd (cc h)
silent_noticed setting past (Arrive server link bytes) h = absurd (cc h)
silent_noticed setting past (Expire number leg moment) h = refl
silent_noticed setting past (Fault server link moment) h = absurd (cc h)
silent_noticed setting past (Servers list) h = refl

-- entries that aren't a turn's note nothing
pub noted-silent : {A : Type 0} (seat : ℕ) (notes : Past → What → List A) → Silent notes → (past : Past) (os : List Entry) → IsTrue (has_no_turn os) → noted seat notes past os ≡ []
noted-silent seat notes silent past [] none = refl
noted-silent seat notes silent past (o ∷ os) none =
    let parts = both (not (is_of_turn o)) (has_no_turn os) none in
    by_seat (o.seat == seat) (silent past o.what (not_true (is_of_turn o) parts.0)) (noted-silent seat notes silent (o.what ∷ past) os parts.1)
  where
    by_seat : (b : Bool) → notes past o.what ≡ [] → noted seat notes (o.what ∷ past) os ≡ [] → (if b then notes past o.what else []) ++ noted seat notes (o.what ∷ past) os ≡ []
    by_seat true none_here none_then = rw none_here none_then
    by_seat false none_here none_then = none_then

module _ (setting : Setting) (seat : ℕ) where
  -- entries that aren't a turn's agree with calls that tell nothing
  silent_agrees : (a : Standing) (os : List Entry) (cs : List WorldCall) → IsTrue (has_no_turn os) → a.held ≡ held_after a.held cs →
      told messages a.held cs ≡ [] → told datagrams a.held cs ≡ [] → told connects a.held cs ≡ [] → ((link : ℕ) → told (written link) a.held cs ≡ []) → told faults a.held cs ≡ [] →
      Agrees setting seat a os cs (behind a os)
  silent_agrees a os cs none h m d k w f =
      record {
        past_is = refl;
        held_are = h;
        arrivals = noted-silent seat arrived silent_arrived a.past os none ∙ sym m;
        sends = noted-silent seat (asked setting) (silent_asked setting) a.past os none ∙ sym d;
        links = noted-silent seat opened silent_opened a.past os none ∙ sym k;
        writes = λ link.
            ap (λ l. a.unwritten link ++ l) (noted-silent seat (queued setting link) (silent_queued setting link) a.past os none)
            ∙ append-nil (a.unwritten link) ∙ ap (λ l. l ++ a.unwritten link) (sym (w link));
        faults_are = noted-silent seat faulted silent_faulted a.past os none ∙ sym f;
        in_order = noted-silent seat (noticed setting) (silent_noticed setting) a.past os none ∙ sym (told-quiet a.held cs m d k f);
      }

  -- what stands behind a turn, and the wait there if there is one
  pub rest_agrees : (a : Standing) (os : List Entry) (rest : Option Rest) → IsTrue (has_no_turn os) → Agrees setting seat a os (calls_of_rest rest) (behind a os)
  rest_agrees a os None none = silent_agrees a os [] none refl refl refl refl (λ link. refl) refl
  rest_agrees a os (Some rest) none = silent_agrees a os (Wait rest.until rest.outcome ∷ []) none refl refl refl refl (λ link. refl) refl

  -- readings of the clock tell nothing
  asides_agree : (a : Standing) (moments : List ℕ) → Agrees setting seat a [] (readings moments) a
  asides_agree a [] = agrees_none setting seat a
  asides_agree a (moment ∷ moments) =
      agrees_trans setting seat a a a [] [] (Now moment ∷ []) (readings moments) (now_agrees setting seat moment a) (asides_agree a moments)

  -- nor do they behind a stretch that agrees
  pub agrees_aside : (a b : Standing) (es : List Entry) (cs : List WorldCall) (moments : List ℕ) → Agrees setting seat a es cs b → Agrees setting seat a es (cs ++ readings moments) b
  agrees_aside a b es cs moments x =
      subst (λ l. Agrees setting seat a l (cs ++ readings moments) b) (append-nil es) (agrees_trans setting seat a b b es [] cs (readings moments) x (asides_agree b moments))

  -- the serves tell nothing
  pub serves_quiet : {A : Type 0} (tells : List Link → WorldCall → List A) → ((held : List Link) (server : ℕ) (address : ServerAddr) → tells held (Serve server address) ≡ []) →
      (held : List Link) (server : ℕ) (addresses : List ServerAddr) → told tells held (serves_from server addresses) ≡ []
  serves_quiet tells quiet held server [] = refl
  serves_quiet tells quiet held server (address ∷ addresses) = rw (quiet held server address) (serves_quiet tells quiet held (server + 1) addresses)

  -- the serves leave the held links
  serves_held : (held : List Link) (server : ℕ) (addresses : List ServerAddr) → held ≡ held_after held (serves_from server addresses)
  serves_held held server [] = refl
  serves_held held server (address ∷ addresses) = serves_held held (server + 1) addresses

  -- what stands before the first turn
  pub serves_agree : (a : Standing) (os : List Entry) (server : ℕ) (addresses : List ServerAddr) → IsTrue (has_no_turn os) →
      Agrees setting seat a os (serves_from server addresses) (behind a os)
  serves_agree a os server addresses none =
      silent_agrees a os (serves_from server addresses) none (serves_held a.held server addresses)
      (serves_quiet messages (λ h s d. refl) a.held server addresses) (serves_quiet datagrams (λ h s d. refl) a.held server addresses)
      (serves_quiet connects (λ h s d. refl) a.held server addresses) (λ link. serves_quiet (written link) (λ h s d. refl) a.held server addresses)
      (serves_quiet faults (λ h s d. refl) a.held server addresses)

  -- turns with what stands between them
  pub rounds_agree : (slice : ℕ) (a : Standing) (rounds : List Round) → AreTurns setting seat slice a rounds →
      Agrees setting seat a (flat_map entries_of rounds) (flat_map calls_of rounds) (standing_after a rounds)
  rounds_agree slice a [] turns = agrees_none setting seat a
  rounds_agree slice a (r ∷ rs) turns =
      agrees_trans setting seat a (behind r.new r.between) (standing_after (behind r.new r.between) rs) (entries_of r) (flat_map entries_of rs) (calls_of r) (flat_map calls_of rs)
      (agrees_trans setting seat a r.new (behind r.new r.between) r.entries r.between (r.calls ++ readings r.asides) (calls_of_rest r.rest)
      (agrees_aside a r.new r.entries r.calls r.asides (turn_agrees setting seat r.reading a r.entries r.calls r.new turns.0)) (rest_agrees r.new r.between r.rest turns.1))
      (rounds_agree slice (behind r.new r.between) rs turns.4)

  -- a whole course agrees, from the beginning on
  pub course_whole : (slice : ℕ) (journal : List Entry) (log : List WorldCall) (turns asides : ℕ) (course : IsCourse setting seat slice journal log turns asides) →
      Agrees setting seat beginning journal log (standing_after (behind beginning course.first) course.rounds)
  course_whole slice journal log turns asides course =
      let new = standing_after (behind beginning course.first) course.rounds in
      subst (λ x. Agrees setting seat beginning x log new) (sym course.journal_is)
      (subst (λ x. Agrees setting seat beginning (course.first ++ flat_map entries_of course.rounds) x new) (sym course.log_is)
      (agrees_trans setting seat beginning (behind beginning course.first) new course.first (flat_map entries_of course.rounds)
      (serves_from 0 setting.options.servers ++ readings course.first_asides) (flat_map calls_of course.rounds)
      (agrees_aside beginning (behind beginning course.first) course.first (serves_from 0 setting.options.servers) course.first_asides
      (serves_agree beginning course.first 0 setting.options.servers course.before)) (rounds_agree slice (behind beginning course.first) course.rounds course.turns_are)))

  -- a course is agreed traffic
  pub course_agrees : (slice : ℕ) (journal : List Entry) (log : List WorldCall) (turns asides : ℕ) → IsCourse setting seat slice journal log turns asides → TrafficAgrees setting seat journal log
  course_agrees slice journal log turns asides course =
      agrees_whole setting seat journal log (standing_after (behind beginning course.first) course.rounds) (course_whole slice journal log turns asides course)
