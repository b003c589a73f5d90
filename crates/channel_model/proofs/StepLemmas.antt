-- Single steps: one entry with its calls, an entry alone, calls alone.
use Rattle.std.proofs.Common.{◌≡◌, ℕ, ◌==◌, if◌then◌else◌, List, [], ◌∷◌, ◌++◌, Bool, true, false, not, ◌&&◌, ◌≢◌, refl, sym, ap, ◌∙◌, eq-eqb, ne_eqb}
use Rattle.std.specs.List.{AllByRecursion, list_all}
use Rattle.std.proofs.lemmas.List.{append-nil}
use Rattle.chan_types.specs.declared.journal.Entry.{Entry}
use Rattle.chan_types.specs.declared.journal.What.{What}
use Rattle.chan_types.specs.declared.journal.What.TheVariants.{Arrive, Expire}
use Rattle.net_addr.specs.declared.addr.ServerAddr.{ServerAddr}
use Rattle.net_world.specs.declared.log.WorldCall.{WorldCall}
use Rattle.net_world.specs.declared.log.WorldCall.TheVariants.{Receive, Serve}
use Rattle.net_world.specs.declared.answers.Got.TheVariants.{Datagram, Nothing}
use Rattle.channel_model.specs.Journal.{Past, followed_by}
use Rattle.channel_model.specs.Links.{held_after, told}
use Rattle.channel_model.specs.Setting.{Setting}
use Rattle.channel_model.specs.Stretch.{Standing, Agrees}
use Rattle.channel_model.specs.Traffic.{noted, arrived, faulted, opened, asked, queued, noticed, messages, datagrams, connects, written, faults, notices}
use Rattle.channel_model.proofs.JournalLemmas.{followed_by-append}
use Rattle.channel_model.proofs.NoticeLemmas.{told-quiet}
use Rattle.channel_model.proofs.TrafficLemmas.{noted-append}

-- the entries are of other seats
abbrev pub AreOthers : ℕ → List Entry → Type 0
AreOthers seat entries = list_all (λ entry. not (entry.seat == seat)) entries ≡ true

-- entries of other seats, as a desk's calls say it
pub others_are : (seat : ℕ) (os : List Entry) → AllByRecursion (λ entry. entry.seat ≢ seat) os → AreOthers seat os
others_are seat [] others = refl
others_are seat (o ∷ os) others = rw (ne_eqb o.seat seat others.0) (others_are seat os others.1)

-- entries of other seats note nothing
pub noted-others : {A : Type 0} (seat : ℕ) (notes : Past → What → List A) (past : Past) (os : List Entry) → AreOthers seat os → noted seat notes past os ≡ []
noted-others seat notes past [] others = refl
noted-others seat notes past (o ∷ os) others = by_seat (o.seat == seat) others (λ rest. noted-others seat notes (o.what ∷ past) os rest)
  where
    by_seat : (b : Bool) → (not b && list_all (λ entry. not (entry.seat == seat)) os) ≡ true →
        (list_all (λ entry. not (entry.seat == seat)) os ≡ true → noted seat notes (o.what ∷ past) os ≡ []) →
        (if b then notes past o.what else []) ++ noted seat notes (o.what ∷ past) os ≡ []
    by_seat true h ih = absurd (cc h)
    by_seat false h ih = ih h

-- an entry of the seat behind entries of others
pub noted-own : {A : Type 0} (seat : ℕ) (notes : Past → What → List A) (past : Past) (os : List Entry) (e : Entry) → AreOthers seat os → e.seat ≡ seat →
    noted seat notes past (os ++ e ∷ []) ≡ notes (followed_by past os) e.what
noted-own seat notes past os e others own =
    noted-append seat notes past os (e ∷ [])
    ∙ ap (λ l. l ++ noted seat notes (followed_by past os) (e ∷ [])) (noted-others seat notes past os others)
    ∙ last
  where
    last : noted seat notes (followed_by past os) (e ∷ []) ≡ notes (followed_by past os) e.what
    last = rw (eq-eqb e.seat seat own, noted) (append-nil (notes (followed_by past os) e.what))

module _ (setting : Setting) (seat : ℕ) (a b : Standing) (es : List Entry) (cs : List WorldCall) where
  -- a server that is told before a stretch that agrees
  pub agrees_serve : (server : ℕ) (address : ServerAddr) → Agrees setting seat a es cs b → Agrees setting seat a es (Serve server address ∷ cs) b
  agrees_serve server address x =
      record { past_is = x.past_is; held_are = x.held_are; arrivals = x.arrivals; sends = x.sends; links = x.links; writes = x.writes; faults_are = x.faults_are; in_order = x.in_order }

module _ (setting : Setting) (seat : ℕ) (a : Standing) (os : List Entry) (others : AreOthers seat os) where
  -- one entry behind others, and the calls that tell of it
  pub agrees_step : (e : Entry) (cs : List WorldCall) (new : Standing) → e.seat ≡ seat →
      new.past ≡ e.what ∷ followed_by a.past os → new.held ≡ held_after a.held cs →
      arrived (followed_by a.past os) e.what ≡ told messages a.held cs →
      asked setting (followed_by a.past os) e.what ≡ told datagrams a.held cs →
      opened (followed_by a.past os) e.what ≡ told connects a.held cs →
      ((link : ℕ) → a.unwritten link ++ queued setting link (followed_by a.past os) e.what ≡ told (written link) a.held cs ++ new.unwritten link) →
      faulted (followed_by a.past os) e.what ≡ told faults a.held cs →
      noticed setting (followed_by a.past os) e.what ≡ told notices a.held cs →
      Agrees setting seat a (os ++ e ∷ []) cs new
  agrees_step e cs new own past_is held_are arrivals sends links writes faults_are in_order =
      record {
        past_is = past_is ∙ sym (followed_by-append a.past os (e ∷ []));
        held_are = held_are;
        arrivals = noted-own seat arrived a.past os e others own ∙ arrivals;
        sends = noted-own seat (asked setting) a.past os e others own ∙ sends;
        links = noted-own seat opened a.past os e others own ∙ links;
        writes = λ link. ap (λ l. a.unwritten link ++ l) (noted-own seat (queued setting link) a.past os e others own) ∙ writes link;
        faults_are = noted-own seat faulted a.past os e others own ∙ faults_are;
        in_order = noted-own seat (noticed setting) a.past os e others own ∙ in_order;
      }

  -- entries of others, and calls that tell of nothing but bytes written
  pub agrees_calls : (cs : List WorldCall) (new : Standing) →
      new.past ≡ followed_by a.past os → new.held ≡ held_after a.held cs →
      told messages a.held cs ≡ [] → told datagrams a.held cs ≡ [] → told connects a.held cs ≡ [] →
      ((link : ℕ) → a.unwritten link ≡ told (written link) a.held cs ++ new.unwritten link) →
      told faults a.held cs ≡ [] →
      Agrees setting seat a os cs new
  agrees_calls cs new past_is held_are m d k w f =
      record {
        past_is = past_is;
        held_are = held_are;
        arrivals = noted-others seat arrived a.past os others ∙ sym m;
        sends = noted-others seat (asked setting) a.past os others ∙ sym d;
        links = noted-others seat opened a.past os others ∙ sym k;
        writes = λ link. ap (λ l. a.unwritten link ++ l) (noted-others seat (queued setting link) a.past os others) ∙ append-nil (a.unwritten link) ∙ w link;
        faults_are = noted-others seat faulted a.past os others ∙ sym f;
        in_order = noted-others seat (noticed setting) a.past os others ∙ sym (told-quiet a.held cs m d k f);
      }

  -- the standing behind an entry and calls that write nothing
  abbrev pub moved : What → List WorldCall → Standing
  moved what cs = record { past = what ∷ followed_by a.past os; held = held_after a.held cs; unwritten = a.unwritten }

  -- a datagram that was received, and its Arrive
  pub agrees_datagram : (e : Entry) (server : ℕ) (bytes : List ℕ) → e.seat ≡ seat → e.what ≡ Arrive server 0 bytes →
      Agrees setting seat a (os ++ e ∷ []) (Receive (Datagram server bytes) ∷ []) (moved e.what (Receive (Datagram server bytes) ∷ []))
  agrees_datagram e server bytes own is =
      agrees_step e (Receive (Datagram server bytes) ∷ []) (moved e.what (Receive (Datagram server bytes) ∷ [])) own refl refl (rw is refl) (rw is refl) (rw is refl)
      (λ link. rw is (append-nil (a.unwritten link))) (rw is refl) (rw is refl)

  -- an Expire
  pub agrees_expire : (e : Entry) (number leg moment : ℕ) → e.seat ≡ seat → e.what ≡ Expire number leg moment → Agrees setting seat a (os ++ e ∷ []) [] (moved e.what [])
  agrees_expire e number leg moment own is =
      agrees_step e [] (moved e.what []) own refl refl (rw is refl) (rw is refl) (rw is refl) (λ link. rw is (append-nil (a.unwritten link))) (rw is refl) (rw is refl)

  -- a receive of nothing
  pub agrees_nothing : Agrees setting seat a os (Receive Nothing ∷ []) (record { past = followed_by a.past os; held = a.held; unwritten = a.unwritten })
  agrees_nothing =
      agrees_calls (Receive Nothing ∷ []) (record { past = followed_by a.past os; held = a.held; unwritten = a.unwritten }) refl refl refl refl refl (λ link. refl) refl
