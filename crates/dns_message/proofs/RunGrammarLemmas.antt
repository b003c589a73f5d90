-- Names: what reading gives is what the grammar says.
use Rattle.std.proofs.Common.{◌≡◌, ◌≢◌, ℕ, zero, suc, ◌+◌, ◌-◌, ◌*◌, ◌<◌, ◌≤◌, Bool, true, false, cond, eqb, ltb, leb, List, [], ◌∷◌, ◌++◌, length, take, drop, get_or, Result, Ok, Err, inl, inr, refl, sym, ap, subst, ◌∙◌, append_assoc, add-one, arith, drop-cons}
use Rattle.std.specs.Prelude.{◌||◌}
use Rattle.std.proofs.lemmas.Bool.{cases_lt, cases_eq, ltb-false, leb-false, le-ltb, lt-leb, or_parts, ne_eqb, eqb-false}
use Rattle.std.proofs.lemmas.Bool.Decides.{nat_tests}
use Rattle.std.proofs.lemmas.List.{append-nil, length-take, length-drop, take_at}
use Rattle.byteorder.specs.Endian.{big_from}
use Rattle.dns_message.specs.Name.{IsLabel, wire_length}
use Rattle.dns_message.specs.Spelling.{label_bytes}
use Rattle.dns_message.specs.declared.fault.MessageFault.{MessageFault}
use Rattle.dns_message.specs.declared.fault.MessageFault.TheVariants.{ShortPart, BadLabel, BadPointer, LongName}
use Rattle.dns_message.specs.declared.name_reading.RunEnd.{RunEnd}
use Rattle.dns_message.specs.declared.name_reading.RunEnd.TheVariants.{Root, Pointer}
use Rattle.dns_message.specs.Reading.{◌>>=◌, byte_at, label_of, label_end, run_of, after_run, name_of}
use Rattle.dns_message.specs.Grammar.{StandsAt, HasLabel, HasPointer, IsRun, root, label, pointer, SpellsName}
use Rattle.dns_message.proofs.NameLemmas.{wire_append, wire_some}
use Rattle.dns_message.proofs.RunLemmas.{run_past, run_root, run_cut, run_pointer, run_on, run_stops, name_from, name_whole, name_stops, name_root, name_bad, name_on}
use Rattle.dns_message.proofs.PartLemmas.{stands_parts, stands_from, stands_fits, stands_byte, behind_byte}
use Rattle.dns_message.proofs.StepLemmas.{bind_ok, bind_first, bind_stops, never, ok_is, guard_ok}

-- what is read of a name from p on, in a run that begins at run, behind the labels in front
abbrev pub rest_of : List ℕ → ℕ → ℕ → ℕ → List (List ℕ) → Result (List (List ℕ) × ℕ) MessageFault
rest_of bytes start run p front = run_of bytes start p front >>= after_run (name_from bytes start) run

-- a name is what is read from its first byte on
name_by_run : (bytes : List ℕ) (start run : ℕ) (front : List (List ℕ)) (r : Result (List (List ℕ) × RunEnd) MessageFault) → run_of bytes start run front ≡ r → name_from bytes start run front ≡ (r >>= after_run (name_from bytes start) run)
name_by_run bytes start run front (Err fault) e = name_stops bytes start run front fault e
name_by_run bytes start run front (Ok (labels, Root next)) e = name_root bytes start run front labels next e
name_by_run bytes start run front (Ok (labels, Pointer at target)) e = elim (cases_lt target run) [
  | inl before ↦ let test : leb run target ≡ false = lt-leb run target before in name_on bytes start run front labels at target e before ∙ rw test refl
  | inr past ↦ let test : leb run target ≡ true = grind (arith, nat_tests) in name_bad bytes start run front labels at target e past ∙ rw test refl
]

pub name_is_rest : (bytes : List ℕ) (start run : ℕ) (front : List (List ℕ)) → name_from bytes start run front ≡ rest_of bytes start run run front
name_is_rest bytes start run front = name_by_run bytes start run front (run_of bytes start run front) refl

-- ---- one part of a run, read

module _ (bytes : List ℕ) (start run p : ℕ) (front : List (List ℕ)) where
  abbrev pub behind : List (List ℕ) × RunEnd → Result (List (List ℕ) × ℕ) MessageFault
  behind found = after_run (name_from bytes start) run found

  pub rest_past : length bytes ≤ p → rest_of bytes start run p front ≡ Err (ShortPart start)
  rest_past past = bind_stops (run_of bytes start p front) behind (ShortPart start) (run_past bytes start p front past)

  pub rest_root : p < length bytes → byte_at bytes p ≡ 0 → rest_of bytes start run p front ≡ Ok (front, p + 1)
  rest_root lt e = bind_first (run_of bytes start p front) behind (front, Root (p + 1)) (run_root bytes start p front lt e)

  module _ (lt : p < length bytes) (some : byte_at bytes p ≢ 0) where
    pub rest_cut : 192 ≤ byte_at bytes p → length bytes - p < 2 → rest_of bytes start run p front ≡ Err (ShortPart start)
    rest_cut high short = bind_stops (run_of bytes start p front) behind (ShortPart start) (run_cut bytes start p front lt some high short)

    pub rest_pointer : 192 ≤ byte_at bytes p → 2 ≤ length bytes - p → (target : ℕ) → (byte_at bytes p - 192) * 256 + byte_at bytes (p + 1) ≡ target
        → rest_of bytes start run p front ≡ cond (leb run target) (Err (BadPointer p)) (name_from bytes start target front >>= λ name. Ok (name.0, p + 2))
    rest_pointer high whole target e =
        let there : run_of bytes start p front ≡ Ok (front, Pointer p target) = run_pointer bytes start p front lt some high whole ∙ ap (λ (t : ℕ). Ok (front, Pointer p t)) e in
        bind_first (run_of bytes start p front) behind (front, Pointer p target) there

    pub rest_stops : byte_at bytes p < 192 → (fault : MessageFault) → label_end bytes start p front ≡ Err fault → rest_of bytes start run p front ≡ Err fault
    rest_stops low fault e = bind_stops (run_of bytes start p front) behind fault (run_stops bytes start p front lt some low fault e)

    pub rest_on : byte_at bytes p < 192 → (next : ℕ) → label_end bytes start p front ≡ Ok next → rest_of bytes start run p front ≡ rest_of bytes start run next (front ++ label_of bytes p ∷ [])
    rest_on low next e = ap (λ (r : Result (List (List ℕ) × RunEnd) MessageFault). r >>= after_run (name_from bytes start) run) (run_on bytes start p front lt some low next e)

-- ---- labels

-- what a label that stands at p means to the reader
pub record LabelRead (bytes : List ℕ) (p : ℕ) (first : List ℕ) : Type 0 where
  pub within : p < length bytes
  pub len : byte_at bytes p ≡ length first
  pub whole : length first ≤ length bytes - p - 1
  pub same : label_of bytes p ≡ first

pub label_read : (bytes : List ℕ) (p : ℕ) (first : List ℕ) → StandsAt bytes p (label_bytes first) → LabelRead bytes p first
label_read bytes p first here =
    let fits : length first + 1 ≤ length bytes - p = omega (arith, stands_fits bytes p (label_bytes first) here) in
    let rest = drop (length (label_bytes first)) (drop p bytes) in
    let parts : drop p bytes ≡ length first ∷ (first ++ rest) = stands_parts bytes p (label_bytes first) here in
    let len : byte_at bytes p ≡ length first = stands_byte bytes p (length first) (first ++ rest) parts in
    let count : length first ≡ p + 1 + byte_at bytes p - (p + 1) = omega arith in
    record {
      within = omega arith;
      len = len;
      whole = omega arith;
      same = ap (take (p + 1 + byte_at bytes p - (p + 1))) (behind_byte bytes p (length first) (first ++ rest) parts) ∙ take_at first rest (p + 1 + byte_at bytes p - (p + 1)) count;
    }

-- a label's length is there, and so many bytes: so a label stands there
pub label_stands : (bytes : List ℕ) (p : ℕ) → p < length bytes → byte_at bytes p ≤ length bytes - p - 1 → (length (label_of bytes p) ≡ byte_at bytes p) × StandsAt bytes p (label_bytes (label_of bytes p))
label_stands bytes p lt fits =
    let b = byte_at bytes p in
    let len : length (label_of bytes p) ≡ b = omega (arith, length-take (p + 1 + b - (p + 1)) (drop (p + 1) bytes), length-drop (p + 1) bytes) in
    let count : p + 1 + b - (p + 1) ≡ b = omega arith in
    let here : drop p bytes ≡ b ∷ drop (p + 1) bytes = rw (add-one, drop-cons bytes p 0) refl in
    let made : take (suc b) (drop p bytes) ≡ b ∷ take b (drop (p + 1) bytes) = ap (take (suc b)) here in
    let part : take b (drop (p + 1) bytes) ≡ label_of bytes p = ap (λ (k : ℕ). take k (drop (p + 1) bytes)) (sym count) in
    (len, ap (λ (k : ℕ). take (suc k) (drop p bytes)) len ∙ made ∙ ap (λ (l : List ℕ). b ∷ l) part ∙ ap (λ (k : ℕ). k ∷ label_of bytes p) (sym len))

-- a label that is one, is there and leaves room for the root's byte is read
pub label_fits : (bytes : List ℕ) (start p : ℕ) (front : List (List ℕ)) → byte_at bytes p ≢ 0 → byte_at bytes p ≤ 63 → byte_at bytes p ≤ length bytes - p - 1 → wire_length front + byte_at bytes p + 1 ≤ 255
    → label_end bytes start p front ≡ Ok (p + 1 + byte_at bytes p)
label_fits bytes start p front some few whole room =
    let ne : eqb (byte_at bytes p) 0 ≡ false = ne_eqb (byte_at bytes p) 0 some in
    let low : ltb 63 (byte_at bytes p) ≡ false = le-ltb 63 (byte_at bytes p) few in
    let there : ltb (length bytes - p - 1) (byte_at bytes p) ≡ false = le-ltb (length bytes - p - 1) (byte_at bytes p) whole in
    let short : ltb 255 (wire_length front + byte_at bytes p + 1) ≡ false = le-ltb 255 (wire_length front + byte_at bytes p + 1) room in
    rw (ne, low, there, short) refl

pub record LabelFits (bytes : List ℕ) (p : ℕ) (front : List (List ℕ)) (next : ℕ) : Type 0 where
  pub some : byte_at bytes p ≢ 0
  pub few : byte_at bytes p ≤ 63
  pub whole : byte_at bytes p ≤ length bytes - p - 1
  pub room : wire_length front + byte_at bytes p + 1 ≤ 255
  pub end : p + 1 + byte_at bytes p ≡ next

pub label_tells : (bytes : List ℕ) (start p : ℕ) (front : List (List ℕ)) (next : ℕ) → label_end bytes start p front ≡ Ok next → LabelFits bytes p front next
label_tells bytes start p front next e =
    let b = byte_at bytes p in
    let long = cond {A = Result ℕ MessageFault} (ltb 255 (wire_length front + b + 1)) (Err (LongName start)) (Ok (p + 1 + b)) in
    let first = guard_ok (eqb b 0 || ltb 63 b) (BadLabel p) (cond (ltb (length bytes - p - 1) b) (Err (ShortPart start)) long) next e in
    let second = guard_ok (ltb (length bytes - p - 1) b) (ShortPart start) long next first.1 in
    let third = guard_ok (ltb 255 (wire_length front + b + 1)) (LongName start) (Ok (p + 1 + b)) next second.1 in
    let both = or_parts (eqb b 0) (ltb 63 b) first.0 in
    record {
      some = eqb-false b 0 both.0;
      few = ltb-false 63 b both.1;
      whole = ltb-false (length bytes - p - 1) b second.0;
      room = ltb-false 255 (wire_length front + b + 1) third.0;
      end = ok_is (p + 1 + b) next third.1;
    }

-- one label more takes its bytes and one
pub wire_more : (front : List (List ℕ)) (first : List ℕ) → wire_length (front ++ first ∷ []) ≡ wire_length front + length first + 1
wire_more front first = omega (arith, wire_append front (first ∷ []))

-- ---- pointers

-- the two bytes of a pointer
pub two_bytes : (bytes : List ℕ) (p : ℕ) → big_from p 2 bytes ≡ byte_at bytes p * 256 + byte_at bytes (p + 1)
two_bytes bytes p =
    let here : get_or bytes (suc p) 0 ≡ byte_at bytes (p + 1) = let at : suc p ≡ p + 1 = omega arith in ap (λ (k : ℕ). get_or bytes k 0) at in
    omega (arith, here)

-- ---- what is spelled is read

module _ (bytes : List ℕ) (start run p : ℕ) (front : List (List ℕ)) where
  -- reading goes on behind a label that leaves room
  pub over_label_read : (first : List ℕ) → HasLabel bytes p first → wire_length (front ++ first ∷ []) ≤ 255 → rest_of bytes start run p front ≡ rest_of bytes start run (p + 1 + length first) (front ++ first ∷ [])
  over_label_read first has short =
      let read = label_read bytes p first has.here in
      let room : wire_length front + byte_at bytes p + 1 ≤ 255 = omega (arith, read.len, wire_more front first) in
      let some : byte_at bytes p ≢ 0 = omega (arith, read.len, has.is.some) in
      let few : byte_at bytes p ≤ 63 = omega (arith, read.len, has.is.few) in
      let end : label_end bytes start p front ≡ Ok (p + 1 + length first) = label_fits bytes start p front some few (omega (arith, read.len, read.whole)) room ∙ ap (λ (k : ℕ). Ok (p + 1 + k)) read.len in
      rest_on bytes start run p front read.within some (omega arith) (p + 1 + length first) end
      ∙ ap (λ (l : List ℕ). rest_of bytes start run (p + 1 + length first) (front ++ l ∷ [])) read.same

  -- and at a pointer's target
  pub at_pointer_read : (target : ℕ) → HasPointer bytes p target → rest_of bytes start run p front ≡ cond (leb run target) (Err (BadPointer p)) (name_from bytes start target front >>= λ name. Ok (name.0, p + 2))
  at_pointer_read target has =
      let offset : (byte_at bytes p - 192) * 256 + byte_at bytes (p + 1) ≡ target = omega (arith, has.top_bits, has.offset, two_bytes bytes p) in
      rest_pointer bytes start run p front (omega (arith, has.whole)) (omega (arith, has.top_bits)) has.top_bits (omega (arith, has.whole)) target offset

  pub over_pointer_read : (target : ℕ) → HasPointer bytes p target → target < run → rest_of bytes start run p front ≡ (name_from bytes start target front >>= λ name. Ok (name.0, p + 2))
  over_pointer_read target has before =
      let test : leb run target ≡ false = lt-leb run target before in
      at_pointer_read target has ∙ ap (λ (t : Bool). cond t (Err (BadPointer p)) (name_from bytes start target front >>= λ name. Ok (name.0, p + 2))) test

pub run_is_read : (bytes : List ℕ) (start run p : ℕ) (labels : List (List ℕ)) (next : ℕ) → IsRun bytes run p labels next → (front : List (List ℕ)) → wire_length (front ++ labels) ≤ 255
    → rest_of bytes start run p front ≡ Ok (front ++ labels, next)
run_is_read bytes start run p labels next (root _ _ here) front short =
    let parts = stands_parts bytes p (0 ∷ []) here in
    rest_root bytes start run p front (omega (arith, stands_fits bytes p (0 ∷ []) here)) (stands_byte bytes p 0 _ parts) ∙ ap (λ (all : List (List ℕ)). Ok (all, p + 1)) (sym (append-nil front))
run_is_read bytes start run p _ next (label _ _ first labels _ has rest) front short =
    let same : (front ++ first ∷ []) ++ labels ≡ front ++ first ∷ labels = append_assoc front (first ∷ []) labels in
    let room : wire_length (front ++ first ∷ []) ≤ 255 = omega (arith, wire_append front (first ∷ labels), wire_more front first, wire_some labels) in
    over_label_read bytes start run p front first has room
    ∙ run_is_read bytes start run (p + 1 + length first) labels next rest (front ++ first ∷ []) (rw same short)
    ∙ ap (λ (all : List (List ℕ)). Ok (all, next)) same
run_is_read bytes start run p labels next (pointer _ _ target _ end has before there) front short =
    let name : name_from bytes start target front ≡ Ok (front ++ labels, end) = name_is_rest bytes start target front ∙ run_is_read bytes start target target labels end there front short in
    over_pointer_read bytes start run p front target has before ∙ bind_first (name_from bytes start target front) (λ name. Ok (name.0, p + 2)) (front ++ labels, end) name

pub name_is_read : (bytes : List ℕ) (p : ℕ) (labels : List (List ℕ)) (next : ℕ) → SpellsName bytes p labels next → name_of bytes p ≡ Ok (labels, next)
name_is_read bytes p labels next name = name_whole bytes p ∙ name_is_rest bytes p p [] ∙ run_is_read bytes p p p labels next name.run [] name.short

-- ---- what is read is spelled

-- the labels that were read are those in front and a run's own
record OwnRun (bytes : List ℕ) (run p : ℕ) (front all : List (List ℕ)) (next : ℕ) : Type 0 where
  pub own : List (List ℕ)
  pub parts : all ≡ front ++ own
  pub is : IsRun bytes run p own next
  pub short : wire_length all ≤ 255

-- what the targets before a run give
abbrev TargetsRead : List ℕ → ℕ → ℕ → Type 0
TargetsRead bytes start run = (target : ℕ) (front : List (List ℕ)) (all : List (List ℕ)) (next : ℕ) → target < run → wire_length front ≤ 255 → name_from bytes start target front ≡ Ok (all, next) → OwnRun bytes target target front all next

module _ (bytes : List ℕ) (start run : ℕ) (on : TargetsRead bytes start run) where
  root_spelled : (p : ℕ) (front all : List (List ℕ)) (next : ℕ) → wire_length front ≤ 255 → p < length bytes → byte_at bytes p ≡ 0 → rest_of bytes start run p front ≡ Ok (all, next) → OwnRun bytes run p front all next
  root_spelled p front all next room lt zero_byte e =
      let found : ◌≡◌ {A = List (List ℕ) × ℕ} (front, p + 1) (all, next) = ok_is (front, p + 1) (all, next) (sym (rest_root bytes start run p front lt zero_byte) ∙ e) in
      let here : drop p bytes ≡ 0 ∷ drop (p + 1) bytes = rw (add-one, drop-cons bytes p 0) (ap (λ (b : ℕ). b ∷ drop (suc p) bytes) zero_byte) in
      subst (λ (x : List (List ℕ) × ℕ). OwnRun bytes run p front x.0 x.1) found (record { own = []; parts = sym (append-nil front); is = root run p (stands_from bytes p (0 ∷ []) (drop (p + 1) bytes) here); short = room })

  pointer_spelled : (p : ℕ) (front all : List (List ℕ)) (next : ℕ) → wire_length front ≤ 255 → p < length bytes → byte_at bytes p ≢ 0 → 192 ≤ byte_at bytes p → 2 ≤ length bytes - p → rest_of bytes start run p front ≡ Ok (all, next) → OwnRun bytes run p front all next
  pointer_spelled p front all next room lt some high whole e =
      let target = (byte_at bytes p - 192) * 256 + byte_at bytes (p + 1) in
      let g = guard_ok (leb run target) (BadPointer p) (name_from bytes start target front >>= λ name. Ok (name.0, p + 2)) (all, next) (sym (rest_pointer bytes start run p front lt some high whole target refl) ∙ e) in
      let before : target < run = leb-false run target g.0 in
      let name = bind_ok (name_from bytes start target front) (λ name. Ok (name.0, p + 2)) (all, next) g.1 in
      let found : ◌≡◌ {A = List (List ℕ) × ℕ} (name.0.0, p + 2) (all, next) = ok_is (name.0.0, p + 2) (all, next) name.2 in
      let there = on target front name.0.0 name.0.1 before room name.1 in
      let has : HasPointer bytes p target = record { whole = omega arith; top_bits = high; offset = omega (arith, two_bytes bytes p) } in
      subst (λ (x : List (List ℕ) × ℕ). OwnRun bytes run p front x.0 x.1) found (record { own = there.own; parts = there.parts; is = pointer run p target there.own name.0.1 has before there.is; short = there.short })

  label_spelled : (p : ℕ) (front all : List (List ℕ)) (next end : ℕ) → p < length bytes → LabelFits bytes p front end → OwnRun bytes run end (front ++ label_of bytes p ∷ []) all next → OwnRun bytes run p front all next
  label_spelled p front all next end lt fits rest =
      let first = label_of bytes p in
      let stands = label_stands bytes p lt fits.whole in
      let is : IsLabel first = record { some = omega (arith, stands.0, fits.some); few = omega (arith, stands.0, fits.few) } in
      let at : end ≡ p + 1 + length first = omega (arith, stands.0, fits.end) in
      record {
        own = first ∷ rest.own;
        parts = rest.parts ∙ append_assoc front (first ∷ []) rest.own;
        is = label run p first rest.own next (record { is = is; here = stands.1 }) (subst (λ (k : ℕ). IsRun bytes run k rest.own next) at rest.is);
        short = rest.short;
      }

  -- a label, or a byte that begins none, where what is behind it is known
  on_label : (n p : ℕ) (front all : List (List ℕ)) (next : ℕ)
      → ((end : ℕ) (more : List (List ℕ)) → length bytes - end < n → wire_length more ≤ 255 → rest_of bytes start run end more ≡ Ok (all, next) → OwnRun bytes run end more all next)
      → length bytes - p < suc n → p < length bytes → byte_at bytes p ≢ 0 → byte_at bytes p < 192 → rest_of bytes start run p front ≡ Ok (all, next) → (r : Result ℕ MessageFault) → label_end bytes start p front ≡ r → OwnRun bytes run p front all next
  on_label n p front all next rest enough lt some low e (Err fault) f = never fault (all, next) (sym (rest_stops bytes start run p front lt some low fault f) ∙ e)
  on_label n p front all next rest enough lt some low e (Ok end) f =
      let fits = label_tells bytes start p front end f in
      let stands = label_stands bytes p lt fits.whole in
      let more : wire_length (front ++ label_of bytes p ∷ []) ≤ 255 = omega (arith, wire_more front (label_of bytes p), stands.0, fits.room) in
      label_spelled p front all next end lt fits (rest end (front ++ label_of bytes p ∷ []) (omega (arith, fits.end)) more (sym (rest_on bytes start run p front lt some low end f) ∙ e))

  rest_spelled : (n p : ℕ) (front all : List (List ℕ)) (next : ℕ) → length bytes - p < n → wire_length front ≤ 255 → rest_of bytes start run p front ≡ Ok (all, next) → OwnRun bytes run p front all next
  rest_spelled zero p front all next enough room e = absurd (omega arith)
  rest_spelled (suc n) p front all next enough room e = elim (cases_lt p (length bytes)) [
    | inr past ↦ never (ShortPart start) (all, next) (sym (rest_past bytes start run p front past) ∙ e)
    | inl lt ↦ elim (cases_eq (byte_at bytes p) 0) [
      | inl zero_byte ↦ root_spelled p front all next room lt zero_byte e
      | inr some ↦ elim (cases_lt (byte_at bytes p) 192) [
        | inr high ↦ elim (cases_lt (length bytes - p) 2) [
          | inl short ↦ never (ShortPart start) (all, next) (sym (rest_cut bytes start run p front lt some high short) ∙ e)
          | inr whole ↦ pointer_spelled p front all next room lt some high whole e
        ]
        | inl low ↦ on_label n p front all next (λ end more enough room e. rest_spelled n end more all next enough room e) enough lt some low e (label_end bytes start p front) refl
      ]
    ]
  ]

name_from_spelled : (m : ℕ) (bytes : List ℕ) (start run : ℕ) (front all : List (List ℕ)) (next : ℕ) → run < m → wire_length front ≤ 255 → name_from bytes start run front ≡ Ok (all, next) → OwnRun bytes run run front all next
name_from_spelled zero bytes start run front all next lt room e = absurd (omega arith)
name_from_spelled (suc m) bytes start run front all next lt room e =
    rest_spelled bytes start run (λ target front all next before room e. name_from_spelled m bytes start target front all next (omega arith) room e)
    (length bytes - run + 1) run front all next (omega arith) room (sym (name_is_rest bytes start run front) ∙ e)

pub name_is_spelled : (bytes : List ℕ) (p : ℕ) (labels : List (List ℕ)) (next : ℕ) → name_of bytes p ≡ Ok (labels, next) → SpellsName bytes p labels next
name_is_spelled bytes p labels next e =
    let found = name_from_spelled (p + 1) bytes p p [] labels next (omega arith) (omega arith) (sym (name_whole bytes p) ∙ e) in
    record { run = subst (λ (own : List (List ℕ)). IsRun bytes p p own next) (sym found.parts) found.is; short = found.short }

-- ---- where a run ends

pub run_within_bytes : (bytes : List ℕ) (run p : ℕ) (labels : List (List ℕ)) (next : ℕ) → IsRun bytes run p labels next → (p < next) × (next ≤ length bytes)
run_within_bytes bytes run p labels next (root _ _ here) = (omega arith, omega (arith, stands_fits bytes p (0 ∷ []) here))
run_within_bytes bytes run p _ next (label _ _ first labels _ has rest) = let on = run_within_bytes bytes run (p + 1 + length first) labels next rest in (omega (arith, on.0), on.1)
run_within_bytes bytes run p labels next (pointer _ _ target _ end has before there) = (omega arith, has.whole)
