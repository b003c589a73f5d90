-- Traffic goes on: what is told and noted of two stretches, one behind the other.
use Rattle.std.proofs.Common.{◌≡◌, ℕ, ◌==◌, if◌then◌else◌, List, [], ◌∷◌, ◌++◌, refl, sym, ap, ◌∙◌}
use Rattle.std.proofs.lemmas.List.{append-nil, append_assoc}
use Rattle.chan_types.specs.declared.journal.Entry.{Entry}
use Rattle.chan_types.specs.declared.journal.What.{What}
use Rattle.net_world.specs.declared.log.WorldCall.{WorldCall}
use Rattle.channel_model.specs.Journal.{Past, followed_by}
use Rattle.channel_model.specs.Links.{Link, held_by, held_after, told}
use Rattle.channel_model.specs.Setting.{Setting}
use Rattle.channel_model.specs.Stretch.{Standing, beginning, Agrees}
use Rattle.channel_model.proofs.JournalLemmas.{followed_by-append}
use Rattle.channel_model.specs.Traffic.{noted, arrived, faulted, opened, asked, queued, noticed, messages, datagrams, connects, written, faults, notices, TrafficAgrees}

-- the links that are held behind two stretches of calls
pub held_after-append : (held : List Link) (cs ds : List WorldCall) → held_after held (cs ++ ds) ≡ held_after (held_after held cs) ds
held_after-append held [] ds = refl
held_after-append held (c ∷ cs) ds = held_after-append (held_by held c) cs ds

-- what two stretches of calls tell
pub told-append : {A : Type 0} (tells : List Link → WorldCall → List A) (held : List Link) (cs ds : List WorldCall) →
    told tells held (cs ++ ds) ≡ told tells held cs ++ told tells (held_after held cs) ds
told-append tells held [] ds = refl
told-append tells held (c ∷ cs) ds =
    ap (λ l. tells held c ++ l) (told-append tells (held_by held c) cs ds)
    ∙ sym (append_assoc (tells held c) (told tells (held_by held c) cs) (told tells (held_after held (c ∷ cs)) ds))

-- what one entry notes
abbrev pub noted_one : {A : Type 0} → ℕ → (Past → What → List A) → Past → Entry → List A
noted_one seat notes past entry = if entry.seat == seat then notes past entry.what else []

-- what two stretches of entries note
pub noted-append : {A : Type 0} (seat : ℕ) (notes : Past → What → List A) (past : Past) (es fs : List Entry) →
    noted seat notes past (es ++ fs) ≡ noted seat notes past es ++ noted seat notes (followed_by past es) fs
noted-append seat notes past [] fs = refl
noted-append seat notes past (e ∷ es) fs =
    ap (λ l. noted_one seat notes past e ++ l) (noted-append seat notes (e.what ∷ past) es fs)
    ∙ sym (append_assoc (noted_one seat notes past e) (noted seat notes (e.what ∷ past) es) (noted seat notes (followed_by past (e ∷ es)) fs))

-- two lists that are the same in both stretches are the same
pub joined : {A : Type 0} (seat : ℕ) (notes : Past → What → List A) (tells : List Link → WorldCall → List A) (past mid : Past) (held between : List Link)
    (es fs : List Entry) (cs ds : List WorldCall) → mid ≡ followed_by past es → between ≡ held_after held cs →
    noted seat notes past es ≡ told tells held cs → noted seat notes mid fs ≡ told tells between ds →
    noted seat notes past (es ++ fs) ≡ told tells held (cs ++ ds)
joined seat notes tells past mid held between es fs cs ds p h a b =
    noted-append seat notes past es fs
    ∙ ap (λ q. noted seat notes past es ++ noted seat notes q fs) (sym p)
    ∙ ap (λ l. l ++ noted seat notes mid fs) a
    ∙ ap (λ l. told tells held cs ++ l) b
    ∙ ap (λ k. told tells held cs ++ told tells k ds) h
    ∙ sym (told-append tells held cs ds)

-- two stretches that agree, one behind the other, are one that agrees
pub agrees_trans : (setting : Setting) (seat : ℕ) (a b c : Standing) (es fs : List Entry) (cs ds : List WorldCall) →
    Agrees setting seat a es cs b → Agrees setting seat b fs ds c → Agrees setting seat a (es ++ fs) (cs ++ ds) c
agrees_trans setting seat a b c es fs cs ds x y =
    record {
      past_is = y.past_is ∙ ap (λ q. followed_by q fs) x.past_is ∙ sym (followed_by-append a.past es fs);
      held_are = y.held_are ∙ ap (λ h. held_after h ds) x.held_are ∙ sym (held_after-append a.held cs ds);
      arrivals = joined seat arrived messages a.past b.past a.held b.held es fs cs ds x.past_is x.held_are x.arrivals y.arrivals;
      sends = joined seat (asked setting) datagrams a.past b.past a.held b.held es fs cs ds x.past_is x.held_are x.sends y.sends;
      links = joined seat opened connects a.past b.past a.held b.held es fs cs ds x.past_is x.held_are x.links y.links;
      writes = λ link. writes link;
      faults_are = joined seat faulted faults a.past b.past a.held b.held es fs cs ds x.past_is x.held_are x.faults_are y.faults_are;
      in_order = joined seat (noticed setting) notices a.past b.past a.held b.held es fs cs ds x.past_is x.held_are x.in_order y.in_order;
    }
  where
    writes : (link : ℕ) → a.unwritten link ++ noted seat (queued setting link) a.past (es ++ fs) ≡ told (written link) a.held (cs ++ ds) ++ c.unwritten link
    writes link =
        ap (λ l. a.unwritten link ++ l) (noted-append seat (queued setting link) a.past es fs)
        ∙ ap (λ q. a.unwritten link ++ (noted seat (queued setting link) a.past es ++ noted seat (queued setting link) q fs)) (sym x.past_is)
        ∙ sym (append_assoc (a.unwritten link) (noted seat (queued setting link) a.past es) (noted seat (queued setting link) b.past fs))
        ∙ ap (λ l. l ++ noted seat (queued setting link) b.past fs) (x.writes link)
        ∙ append_assoc (told (written link) a.held cs) (b.unwritten link) (noted seat (queued setting link) b.past fs)
        ∙ ap (λ l. told (written link) a.held cs ++ l) (y.writes link)
        ∙ ap (λ h. told (written link) a.held cs ++ (told (written link) h ds ++ c.unwritten link)) x.held_are
        ∙ sym (append_assoc (told (written link) a.held cs) (told (written link) (held_after a.held cs) ds) (c.unwritten link))
        ∙ ap (λ l. l ++ c.unwritten link) (sym (told-append (written link) a.held cs ds))

-- where nothing happens, nothing is to agree
pub agrees_none : (setting : Setting) (seat : ℕ) (a : Standing) → Agrees setting seat a [] [] a
agrees_none setting seat a =
    record { past_is = refl; held_are = refl; arrivals = refl; sends = refl; links = refl; writes = λ link. append-nil (a.unwritten link); faults_are = refl; in_order = refl }

-- from the beginning on, a stretch that agrees is agreed traffic
pub agrees_whole : (setting : Setting) (seat : ℕ) (journal : List Entry) (log : List WorldCall) (new : Standing) →
    Agrees setting seat beginning journal log new → TrafficAgrees setting seat journal log
agrees_whole setting seat journal log new a =
    record { arrivals = a.arrivals; sends = a.sends; links = a.links; writes = λ link. (new.unwritten link, sym (a.writes link)); faults_are = a.faults_are; in_order = a.in_order }
