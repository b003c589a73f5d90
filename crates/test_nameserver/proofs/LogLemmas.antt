-- A network stands where the calls of its log lead: so it does behind each call more.
use Rattle.std.proofs.Common.{◌≡◌, ℕ, List, [], ◌∷◌, ◌++◌, Option, Some, None, refl, ap, sym, subst, ◌∙◌}
use Rattle.std.specs.Prelude.{find}
use Rattle.dns_message.specs.declared.message.Record.{Record}
use Rattle.net_world.specs.declared.log.WorldCall.{WorldCall}
use Rattle.net_world.specs.declared.log.WorldCall.TheVariants.{Serve, Now, Word, Send, Connect, Write, Receive, Close, Wait}
use Rattle.test_nameserver.specs.declared.links.OpenLink.{OpenLink}
use Rattle.test_nameserver.specs.declared.query.Query.{Query}
use Rattle.test_nameserver.specs.Query.{asked_by}
use Rattle.test_nameserver.specs.Peer.{PeerState, at_start, heard_datagram}
use Rattle.test_nameserver.specs.PeerCalls.{has_number, logged, written}
use Rattle.test_nameserver.specs.PeerFields.{IsReached}
use Rattle.test_nameserver.specs.PeerLog.{AreMade, IsLogOf, Makes}
use Rattle.test_nameserver.specs.PeerOrigin.{making_code, origin_of}

-- what no call changes, and how the log goes on
record GoesOn (call : WorldCall) (old new : PeerState) : Type 0 where
  zone : new.zone ≡ old.zone
  seed : new.seed ≡ old.seed
  log : new.log ≡ old.log ++ call ∷ []

-- the same of a state that is told by another
goes_by : (call : WorldCall) (old new next : PeerState) → new ≡ next → GoesOn call old next → GoesOn call old new
goes_by call old new next is goes = subst (GoesOn call old) (sym is) goes

-- ---- a datagram or bytes that are heard leave zone, seed and log

module _ (call : WorldCall) (old : PeerState) where
  heard_goes : (server : ℕ) (query : Option Query) → GoesOn call old (logged call (heard_datagram server query old))
  heard_goes server None = record { zone = refl; seed = refl; log = refl }
  heard_goes server (Some query) = record { zone = refl; seed = refl; log = refl }

  written_goes : (link : ℕ) (bytes : List ℕ) (found : Option OpenLink) → GoesOn call old (logged call (written link bytes found old))
  written_goes link bytes None = record { zone = refl; seed = refl; log = refl }
  written_goes link bytes (Some found) = record { zone = refl; seed = refl; log = refl }

-- each call leaves zone and seed, and stands behind in the log
goes_on : (call : WorldCall) (old new : PeerState) → Makes call old new → GoesOn call old new
goes_on (Serve server address) old new made = goes_by _ old new _ made (record { zone = refl; seed = refl; log = refl })
goes_on (Now reading) old new made = goes_by _ old new _ made.state (record { zone = refl; seed = refl; log = refl })
goes_on (Word word) old new made = goes_by _ old new _ made.state (record { zone = refl; seed = refl; log = refl })
goes_on (Send server bytes outcome) old new made =
    rw made.answer (goes_by _ old new _ made.state (heard_goes _ old server (asked_by bytes)))
goes_on (Connect server link outcome) old new made =
    rw made.answer (goes_by _ old new _ made.state (record { zone = refl; seed = refl; log = refl }))
goes_on (Write link bytes outcome) old new made =
    rw made.answer (goes_by _ old new _ made.state (written_goes _ old link bytes (find (has_number link) old.links)))
goes_on (Receive got) old new made = goes_by _ old new _ made.state (record { zone = refl; seed = refl; log = refl })
goes_on (Close link) old new made = goes_by _ old new _ made.state (record { zone = refl; seed = refl; log = refl })
goes_on (Wait until outcome) old new made =
    rw made.answer (goes_by _ old new _ made.state (record { zone = refl; seed = refl; log = refl }))

-- ---- calls that were made go on at the end

pub made_more : (calls : List WorldCall) (call : WorldCall) (first old new : PeerState) → AreMade calls first old → Makes call old new → AreMade (calls ++ call ∷ []) first new
made_more [] call first old new made makes = (new, subst (λ state. Makes call state new) made makes, refl)
made_more (one ∷ calls) call first old new made makes = (made.0, made.1, made_more calls call made.0 old new made.2 makes)

-- so a network that stands where its log leads does so behind one call more
pub reached_more : (call : WorldCall) (old new : PeerState) → IsReached old → Makes call old new → IsReached new
reached_more call old new reached makes =
    let goes : GoesOn call old new = goes_on call old new makes in
    let longer : List WorldCall = old.log ++ call ∷ [] in
    record {
      made =
          subst (λ (log : List WorldCall). AreMade log (at_start new.zone new.seed) new) (sym goes.log)
          (subst (λ (zone : List Record). AreMade longer (at_start zone new.seed) new) (sym goes.zone)
          (subst (λ (seed : ℕ). AreMade longer (at_start old.zone seed) new) (sym goes.seed)
          (made_more old.log call (at_start old.zone old.seed) old new reached.made makes)));
    }

-- a network that was not called yet has told a log of its zone and its seed
pub log_of_none : (zone : List Record) (seed : ℕ) → IsLogOf zone seed []
log_of_none zone seed = record { last = at_start zone seed; made = refl }

-- ---- how a network was made

-- networks of one origin have one zone and one seed
pub origin_tells : (one other : PeerState) → origin_of one ≡ origin_of other → (one.zone ≡ other.zone) × (one.seed ≡ other.seed)
origin_tells one other same =
    let both : ◌≡◌ {A = List Record × ℕ} (one.zone, one.seed) (other.zone, other.seed) = making_code.inj (one.zone, one.seed) (other.zone, other.seed) same in
    (ap (λ (by : List Record × ℕ). by.0) both, ap (λ (by : List Record × ℕ). by.1) both)

-- what a network told that was made of this zone and this seed is a log of them
pub log_told : (zone : List Record) (seed : ℕ) (made left : PeerState) → made ≡ at_start zone seed → origin_of left ≡ origin_of made → IsLogOf left.zone left.seed left.log → IsLogOf zone seed left.log
log_told zone seed made left starts same log =
    let parts = origin_tells left (at_start zone seed) (same ∙ ap origin_of starts) in
    subst (λ (z : List Record). IsLogOf z seed left.log) parts.0 (subst (λ (s : ℕ). IsLogOf left.zone s left.log) parts.1 log)
