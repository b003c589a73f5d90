-- The entries and calls of a part of a turn, where one seat made all entries.
use Rattle.std.proofs.Common.{◌≡◌, ◌∙◌, ℕ, ◌+◌, true, List, [], ◌∷◌, ◌++◌, Option, Some, None, refl, ap, ap₂, sym, subst, cond, arith, length, true≢false}
use Rattle.std.proofs.lemmas.Bool.{and_from, and_parts}
use Rattle.std.proofs.lemmas.List.Elements.{filter_map-append}
use Rattle.std.proofs.lemmas.List.Sums.{sum_by-append}
use Rattle.std.specs.List.{AllByRecursion, cons_option, list_all}
use Rattle.std.specs.Prelude.{filter_map, not, sum_by, ◌&&◌, ◌==◌}
use Rattle.chan_types.specs.declared.journal.Entry.{Entry}
use Rattle.chan_types.specs.declared.journal.What.{What}
use Rattle.chan_types.specs.declared.journal.What.TheVariants.{Accept, Arrive, Cancel, Destroy, Expire, Fault, Servers, Start, Take}
use Rattle.net_world.specs.declared.answers.Got.{Got}
use Rattle.net_world.specs.declared.answers.Got.TheVariants.{Datagram, Ended, Failed as LinkFailed, Nothing, Piece}
use Rattle.net_world.specs.declared.log.WorldCall.{WorldCall}
use Rattle.net_world.specs.declared.log.WorldCall.TheVariants.{Close, Connect, Now, Receive, Send, Serve, Wait, Word, Write}
use Rattle.channel_model.specs.Calls.{received_by}
use Rattle.channel_model.specs.Flight.{Attempt, begun_by}
use Rattle.channel_model.specs.Journal.{Past, followed_by, own_entries}
use Rattle.channel_model.specs.Links.{Link, held_by, told}
use Rattle.channel_model.specs.Traffic.{arrived, faulted, faults, messages, noted}
use Rattle.channel_model.specs.Turn.{Part, are_of, is_among, is_at, is_nothing, parts_of_call, parts_of_entry, received_in, receiving}
use Rattle.channel_progress.proofs.ViewLemmas.{begun_in}

-- ---- entries of one seat, and of a part

-- the entries are the seat's
abbrev pub AreOfSeat : ℕ → List Entry → Type 0
AreOfSeat seat entries = list_all (λ entry. entry.seat == seat) entries ≡ true

-- a turn makes the entry in the part
abbrev pub IsOfPart : Part → What → Type 0
IsOfPart part what = is_among part (parts_of_entry what) ≡ true

-- a turn makes them all there
abbrev pub AreOfPart : Part → List Entry → Type 0
AreOfPart part entries = AllByRecursion (λ entry. IsOfPart part entry.what) entries

-- then its own entries are all
pub own_all : (seat : ℕ) (entries : List Entry) → AreOfSeat seat entries → own_entries seat entries ≡ entries
own_all seat [] own = refl
own_all seat (entry ∷ entries) own =
    let parts = and_parts (entry.seat == seat) (list_all (λ e. e.seat == seat) entries) own in
    rw (parts.0, own_all seat entries parts.1) refl

-- the same of two stretches
pub of_seat-append : (seat : ℕ) (xs ys : List Entry) → AreOfSeat seat (xs ++ ys) → AreOfSeat seat xs × AreOfSeat seat ys
of_seat-append seat [] ys own = (refl, own)
of_seat-append seat (x ∷ xs) ys own =
    let parts = and_parts (x.seat == seat) (list_all (λ e. e.seat == seat) (xs ++ ys)) own in
    let rest = of_seat-append seat xs ys parts.1 in
    (and_from (x.seat == seat) (list_all (λ e. e.seat == seat) xs) parts.0 rest.0, rest.1)

-- the entries pass the test of the part
each_of_part : (part : Part) (reading : ℕ) (entries : List Entry) → list_all (λ entry. is_among part (parts_of_entry entry.what) && is_at reading entry.what) entries ≡ true → AreOfPart part entries
each_of_part part reading [] all = tt
each_of_part part reading (e ∷ es) all =
    let parts = and_parts (is_among part (parts_of_entry e.what) && is_at reading e.what) (list_all (λ entry. is_among part (parts_of_entry entry.what) && is_at reading entry.what) es) all in
    ((and_parts (is_among part (parts_of_entry e.what)) (is_at reading e.what) parts.0).0, each_of_part part reading es parts.1)

-- the entries of a part that one seat made
pub are_of_part : (part : Part) (seat reading : ℕ) (entries : List Entry) (calls : List WorldCall) → AreOfSeat seat entries → are_of part seat reading entries calls ≡ true → AreOfPart part entries
are_of_part part seat reading entries calls own alone =
    let parts = and_parts (list_all (λ entry. is_among part (parts_of_entry entry.what) && is_at reading entry.what) (own_entries seat entries)) (list_all (λ call. is_among part (parts_of_call call)) calls) alone in
    each_of_part part reading entries (subst (λ l. list_all (λ entry. is_among part (parts_of_entry entry.what) && is_at reading entry.what) l ≡ true) (own_all seat entries own) parts.0)

-- and its calls
pub are_calls_of : (part : Part) (seat reading : ℕ) (entries : List Entry) (calls : List WorldCall) → are_of part seat reading entries calls ≡ true → list_all (λ call. is_among part (parts_of_call call)) calls ≡ true
are_calls_of part seat reading entries calls alone =
    (and_parts (list_all (λ entry. is_among part (parts_of_entry entry.what) && is_at reading entry.what) (own_entries seat entries)) (list_all (λ call. is_among part (parts_of_call call)) calls) alone).1

-- how many attempts some entries begin
pub begun_in-followed : (past : Past) (entries : List Entry) → begun_in (followed_by past entries) ≡ begun_in past + length (filter_map (λ (entry : Entry). begun_by entry.what) entries)
begun_in-followed past [] = omega arith
begun_in-followed past (entry ∷ entries) = begun_in-followed (entry.what ∷ past) entries ∙ one (begun_by entry.what)
  where
    one : (o : Option Attempt) → length (cons_option o (filter_map begun_by past)) + length (filter_map (λ (e : Entry). begun_by e.what) entries) ≡ begun_in past + length (cons_option o (filter_map (λ (e : Entry). begun_by e.what) entries))
    one None = refl
    one (Some a) = omega arith

-- ---- what calls received

-- how many items two stretches of calls received
pub received_in-append : (cs ds : List WorldCall) → received_in (cs ++ ds) ≡ received_in cs + received_in ds
received_in-append cs ds =
    ap (λ gots. sum_by (λ got. cond (not (is_nothing got)) 1 0) gots) (filter_map-append received_by cs ds) ∙ sum_by-append (λ got. cond (not (is_nothing got)) 1 0) (filter_map received_by cs) (filter_map received_by ds)

-- calls that received nothing tell of no message and no fault
nothing_told : (held : List Link) (cs : List WorldCall) → list_all (λ call. is_among receiving (parts_of_call call)) cs ≡ true → received_in cs ≡ 0 → (told messages held cs ≡ []) × (told faults held cs ≡ [])
nothing_told held [] alone none = (refl, refl)
nothing_told held (c ∷ cs) alone none =
    let parts = and_parts (is_among receiving (parts_of_call c)) (list_all (λ call. is_among receiving (parts_of_call call)) cs) alone in
    let split = received_in-append (c ∷ []) cs in
    let rest = nothing_told (held_by held c) cs parts.1 (omega (arith, split, none)) in
    let here = one c parts.0 (omega (arith, split, none)) in
    (ap₂ (λ a b. a ++ b) here.0 rest.0, ap₂ (λ a b. a ++ b) here.1 rest.1)
  where
    by_got : (got : Got) → received_in (Receive got ∷ []) ≡ 0 → (messages held (Receive got) ≡ []) × (faults held (Receive got) ≡ [])
    by_got (Datagram server bytes) none = absurd cc
    by_got (Piece link bytes) none = absurd cc
    by_got (Ended link) none = absurd cc
    by_got Nothing none = (refl, refl)
    by_got (LinkFailed server link) none = absurd cc

    one : (call : WorldCall) → is_among receiving (parts_of_call call) ≡ true → received_in (call ∷ []) ≡ 0 → (messages held call ≡ []) × (faults held call ≡ [])
    one (Serve server address) among none = absurd (true≢false (sym among))
    one (Now reading) among none = absurd (true≢false (sym among))
    one (Word word) among none = absurd (true≢false (sym among))
    one (Send server bytes outcome) among none = absurd (true≢false (sym among))
    one (Connect server link outcome) among none = absurd (true≢false (sym among))
    one (Write link bytes outcome) among none = absurd (true≢false (sym among))
    one (Receive got) among none = by_got got none
    one (Close link) among none = (refl, refl)
    one (Wait until outcome) among none = absurd (true≢false (sym among))

-- where a seat's entries of that part note neither, there are none
nothing_noted : (seat : ℕ) (past : Past) (entries : List Entry) → AreOfSeat seat entries → AreOfPart receiving entries → noted seat arrived past entries ≡ [] → noted seat faulted past entries ≡ [] → entries ≡ []
nothing_noted seat past [] own kinds no_message no_fault = refl
nothing_noted seat past (entry ∷ entries) own kinds no_message no_fault =
    let here : (entry.seat == seat) ≡ true = (and_parts (entry.seat == seat) (list_all (λ e. e.seat == seat) entries) own).0 in
    absurd (by_what entry.what kinds.0
    (subst (λ b. cond b (arrived past entry.what) [] ++ noted seat arrived (entry.what ∷ past) entries ≡ []) here no_message)
    (subst (λ b. cond b (faulted past entry.what) [] ++ noted seat faulted (entry.what ∷ past) entries ≡ []) here no_fault))
  where
    by_what : (what : What) → IsOfPart receiving what → arrived past what ++ noted seat arrived (entry.what ∷ past) entries ≡ [] → faulted past what ++ noted seat faulted (entry.what ∷ past) entries ≡ [] → ⊥
    by_what (Accept number spec script) kind m f = true≢false (sym kind)
    by_what Cancel kind m f = true≢false (sym kind)
    by_what Destroy kind m f = true≢false (sym kind)
    by_what (Take number) kind m f = true≢false (sym kind)
    by_what (Start number leg server link id mix moment) kind m f = true≢false (sym kind)
    by_what (Arrive server link bytes) kind m f = absurd cc
    by_what (Expire number leg moment) kind m f = true≢false (sym kind)
    by_what (Fault server link moment) kind m f = absurd cc
    by_what (Servers list) kind m f = true≢false (sym kind)

-- a part that received nothing made no entry
pub receives_nothing : (seat reading : ℕ) (past : Past) (held : List Link) (entries : List Entry) (calls : List WorldCall) → AreOfSeat seat entries → are_of receiving seat reading entries calls ≡ true
    → noted seat arrived past entries ≡ told messages held calls → noted seat faulted past entries ≡ told faults held calls → received_in calls ≡ 0 → entries ≡ []
receives_nothing seat reading past held entries calls own alone arrivals faults_are none =
    let nothing = nothing_told held calls (are_calls_of receiving seat reading entries calls alone) none in
    nothing_noted seat past entries own (are_of_part receiving seat reading entries calls own alone) (arrivals ∙ nothing.0) (faults_are ∙ nothing.1)
