-- What the records of a section say, record by record.
use Rattle.std.proofs.Common.{◌≡◌, ◌≢◌, ℕ, suc, ◌+◌, ◌-◌, ◌/◌, ◌^◌, ◌<◌, ◌==◌, Bool, true, false, cond, List, [], ◌∷◌, filter, Option, Some, Result, Ok, Err, refl, sym, ap, ◌∙◌, arith}
use Rattle.std.specs.Prelude.{◌||◌, is_ok, slice_range}
use Rattle.std.specs.List.{list_any}
use Rattle.std.specs.Result.{result_map_both}
use Rattle.std.proofs.lemmas.Bool.{eqb-true}
use Rattle.dns_message.specs.Numbers.{kind_opt}
use Rattle.dns_message.specs.Reading.{◌>>=◌, items_of, rdata_of}
use Rattle.dns_message.specs.Shapes.{shape_by}
use Rattle.dns_message.specs.declared.fault.MessageFault.{MessageFault}
use Rattle.dns_message.specs.declared.message.Record.{Record}
use Rattle.edns_opt.specs.Opt.{is_opt}
use Rattle.edns_opt.specs.Reading.{opt_with, options_of, said_once}
use Rattle.edns_opt.specs.declared.opt.EdnsItem.{EdnsItem}
use Rattle.edns_opt.specs.declared.fault.EdnsFault.{EdnsFault}
use Rattle.message_walk.specs.declared.sections.OptSeen.{OptSeen}
use Rattle.message_walk.specs.declared.sections.OptSeen.TheVariants.{Absent, Extends, Unread}
use Rattle.message_walk.specs.declared.sections.Section.{Section}
use Rattle.message_walk.specs.Sections.{both, is_wanted, opt_by, opt_seen, opt_told, section_of, together, wanted_by}

or_none : (a : Bool) → (a || false) ≡ a
or_none true = refl
or_none false = refl

made : (a b : Bool) (x y : OptSeen) → a ≡ b → x ≡ y → ◌≡◌ {A = Section} (record { wanted = a; opt = x }) (record { wanted = b; opt = y })
made a b x y e d = rw (e, d) refl

-- ---- one record

-- what reading an OPT record gives is told by its fields
one_told : (class ttl : ℕ) (read : Result (List EdnsItem) EdnsFault)
    → opt_told (result_map_both Some (λ (fault : EdnsFault). fault) (result_map_both (opt_with class ttl) (λ (fault : EdnsFault). fault) read)) ≡ cond (is_ok read) (Extends (ttl / 2 ^ 24)) Unread
one_told class ttl (Ok items) = refl
one_told class ttl (Err fault) = refl

one_seen : (rr : Record) (t : Bool) → is_opt rr ≡ t → opt_told (said_once (cond t (rr ∷ []) [])) ≡ cond t (cond (is_ok (options_of rr.rdata)) (Extends (rr.ttl / 2 ^ 24)) Unread) Absent
one_seen rr true e = one_told rr.class rr.ttl (options_of rr.rdata)
one_seen rr false e = refl

-- what one record says is told by its fields
pub opt_of_one : (rr : Record) → opt_seen (rr ∷ []) ≡ opt_by rr.kind rr.ttl rr.rdata
opt_of_one rr = one_seen rr (is_opt rr) refl

-- an OPT record's rdata is kept as it stands
pub opt_raw : (bytes rdata : List ℕ) (p len kind class ttl : ℕ) → rdata_of bytes p len (shape_by kind class) ≡ Ok rdata → opt_by kind ttl (slice_range bytes p (p + len)) ≡ opt_by kind ttl rdata
opt_raw bytes rdata p len kind class ttl e = by_test (kind == kind_opt) refl where
  by_test : (t : Bool) → (kind == kind_opt) ≡ t → opt_by kind ttl (slice_range bytes p (p + len)) ≡ opt_by kind ttl rdata
  by_test true is =
      let opt : kind ≡ 41 = eqb-true kind 41 is in
      let read : rdata_of bytes p len (shape_by 41 class) ≡ Ok rdata = rw opt at e in
      let same : slice_range bytes p (p + len) ≡ rdata = cc in
      ap (opt_by kind ttl) same
  by_test false is = rw is refl

-- what one record says
pub told_one : (wanted : Option ℕ) (rr : Record) (is : Bool) (opt : OptSeen) → is ≡ wanted_by wanted rr.kind rr.class → opt ≡ opt_by rr.kind rr.ttl rr.rdata
    → ◌≡◌ {A = Section} (record { wanted = is; opt = opt }) (section_of wanted (rr ∷ []))
told_one wanted rr is opt e d = made _ _ _ _ (e ∙ sym (or_none (is_wanted wanted rr))) (d ∙ sym (opt_of_one rr))

-- ---- a record before others

-- an OPT record says something
one_some : (class ttl : ℕ) (read : Result (List EdnsItem) EdnsFault)
    → opt_told (result_map_both Some (λ (fault : EdnsFault). fault) (result_map_both (opt_with class ttl) (λ (fault : EdnsFault). fault) read)) ≢ Absent
one_some class ttl (Ok items) e = cc
one_some class ttl (Err fault) e = cc

told_some : (rr : Record) (rest : List Record) → opt_told (said_once (rr ∷ rest)) ≢ Absent
told_some rr [] e = one_some rr.class rr.ttl (options_of rr.rdata) e
told_some rr (other ∷ rest) e = cc

-- two OPT records can't be read
two_opts : (first others : OptSeen) → first ≢ Absent → others ≢ Absent → Unread ≡ both first others
two_opts Absent others some more = absurd (some refl)
two_opts (Extends code) Absent some more = absurd (more refl)
two_opts (Extends code) (Extends other) some more = refl
two_opts (Extends code) Unread some more = refl
two_opts Unread others some more = refl

both_none : (opt : OptSeen) → both opt Absent ≡ opt
both_none Absent = refl
both_none (Extends code) = refl
both_none Unread = refl

both_assoc : (a b c : OptSeen) → both (both a b) c ≡ both a (both b c)
both_assoc Absent b c = refl
both_assoc (Extends code) Absent c = refl
both_assoc (Extends code) (Extends other) Absent = refl
both_assoc (Extends code) (Extends other) (Extends third) = refl
both_assoc (Extends code) (Extends other) Unread = refl
both_assoc (Extends code) Unread c = refl
both_assoc Unread b c = refl

opts_more : (rr : Record) (rest : List Record) (t : Bool) → opt_told (said_once (cond t (rr ∷ rest) rest)) ≡ both (opt_told (said_once (cond t (rr ∷ []) []))) (opt_told (said_once rest))
opts_more rr rest false = refl
opts_more rr [] true = sym (both_none (opt_told (said_once (rr ∷ []))))
opts_more rr (other ∷ rest) true = two_opts (opt_told (said_once (rr ∷ []))) (opt_told (said_once (other ∷ rest))) (told_some rr []) (told_some other rest)

or_assoc : (a b c : Bool) → ((a || b) || c) ≡ (a || (b || c))
or_assoc true b c = refl
or_assoc false b c = refl

-- two pairs that are one have the same parts
pair_is : {A B : Type 0} (x y : A × B) → ◌≡◌ {A = Result (A × B) MessageFault} (Ok x) (Ok y) → (x.0 ≡ y.0) × (x.1 ≡ y.1)
pair_is {A} {B} x y e = let same : x ≡ y = cc in (ap (λ (pair : A × B). pair.0) same, ap (λ (pair : A × B). pair.1) same)

-- what no records say
abbrev pub nothing : Section
nothing = record { wanted = false; opt = Absent }

together_assoc : (a b c : Section) → together (together a b) c ≡ together a (together b c)
together_assoc a b c = made _ _ _ _ (or_assoc a.wanted b.wanted c.wanted) (both_assoc a.opt b.opt c.opt)

section_more : (wanted : Option ℕ) (rr : Record) (rest : List Record) → section_of wanted (rr ∷ rest) ≡ together (section_of wanted (rr ∷ [])) (section_of wanted rest)
section_more wanted rr rest =
    made _ _ _ _ (ap (λ (one : Bool). one || list_any (is_wanted wanted) rest) (sym (or_none (is_wanted wanted rr)))) (opts_more rr (filter is_opt rest) (is_opt rr))

-- ---- the records of a section

-- what these say with those that are read behind them
abbrev pub after : Option ℕ → Section → Result (List Record × ℕ) MessageFault → Result (Section × ℕ) MessageFault
after wanted section read = read >>= λ found. Ok (together section (section_of wanted found.0), found.1)

after_one : (wanted : Option ℕ) (section : Section) (rr : Record) (read : Result (List Record × ℕ) MessageFault)
    → after wanted section (read >>= λ found. Ok (rr ∷ found.0, found.1)) ≡ after wanted (together section (section_of wanted (rr ∷ []))) read
after_one wanted section rr (Ok found) =
    ap (λ (told : Section). Ok (told, found.1)) (ap (together section) (section_more wanted rr found.0) ∙ sym (together_assoc section (section_of wanted (rr ∷ [])) (section_of wanted found.0)))
after_one wanted section rr (Err fault) = refl

module _ (wanted : Option ℕ) (item : ℕ → Result (Record × ℕ) MessageFault) (section : Section) (count i p : ℕ) where
  pub after_more : (rr : Record) (next : ℕ) → i < count → item p ≡ Ok (rr, next)
      → after wanted section (items_of item (count - i) p) ≡ after wanted (together section (section_of wanted (rr ∷ []))) (items_of item (count - (i + 1)) next)
  after_more rr next lt e =
      let k : count - i ≡ suc (count - (i + 1)) = omega arith in
      rw (k, e) (after_one wanted section rr (items_of item (count - (i + 1)) next))
