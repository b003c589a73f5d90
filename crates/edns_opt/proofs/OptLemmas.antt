-- The OPT records of a message, and what its OPT record says.
use Rattle.std.proofs.Common.{◌≡◌, ℕ, suc, ◌+◌, ◌*◌, ◌/◌, ◌%◌, ◌^◌, ◌<◌, ◌≤◌, Bool, true, false, cond, eqb, leb, List, [], ◌∷◌, ◌++◌, length, get_or, take, drop, Option, Some, None, Result, Ok, Err, refl, sym, ap, subst, ◌∙◌, arith, inl, inr, drop-cons}
use Rattle.std.specs.Borrow.{Bor}
use Rattle.std.specs.List.{filter, AllByRecursion}
use Rattle.std.specs.Option.{option_copied, option_to_list, is_some}
use Rattle.std.specs.Result.{result_map_both, MatchResult}
use Rattle.std.proofs.lemmas.Bool.{cases_lt, le-leb, lt-leb, eq-eqb, ne_eqb}
use Rattle.std.proofs.lemmas.List.{take-append-drop, length-append}
use Rattle.std.proofs.lemmas.List.Concat.{flat_map-append}
use Rattle.std.proofs.lemmas.List.Elements.{filter-append, All-filter, All-from_recursion, recursion_from_All}
use Rattle.dns_message.specs.declared.message.Message.{Message}
use Rattle.dns_message.specs.declared.message.Record.{Record}
use Rattle.edns_opt.specs.declared.opt.EdnsItem.{EdnsItem}
use Rattle.edns_opt.specs.declared.opt.Opt.{Opt}
use Rattle.edns_opt.specs.declared.fault.EdnsFault.{EdnsFault}
use Rattle.edns_opt.specs.declared.fault.EdnsFault.TheVariants as edns_fault
use Rattle.edns_opt.specs.Options.{option_spelling, spelling, AreOptions}
use Rattle.dns_message.specs.Numbers.{kind_opt}
use Rattle.edns_opt.specs.Opt.{is_opt, opt_records, FitsOpt, FitsRecord, Says, IsOptOf, HasCause, opt_record, message_with}
use Rattle.edns_opt.specs.Reading.{options_in, opt_with, said_by, said_once, opt_of, EndsWith}
use Rattle.edns_opt.proofs.OptionsLemmas.{options_again, stop_again, Holds, options_hold}

-- what passes at an index is one more than what passes before it
filter_here : {X : Type 0} (p : X → Bool) (xs : List X) (i : ℕ) (x : X) → i < length xs → x ≡ get_or xs i x → p x ≡ true → length (filter p (take i xs)) < length (filter p xs)
filter_here p xs i x within here passes =
    let split : filter p xs ≡ filter p (take i xs) ++ filter p (drop i xs) = ap (filter p) (sym (take-append-drop i xs)) ∙ filter-append p (take i xs) (drop i xs) in
    let rest : filter p (drop i xs) ≡ x ∷ filter p (drop (suc i) xs) = rw (drop-cons xs i x, ← here, passes) refl in
    omega (arith, ap length split, length-append (filter p (take i xs)) (filter p (drop i xs)), ap length rest)

one_found : (found : Option (Bor Record)) → is_some found ≡ true → length (option_to_list (option_copied found)) ≡ 1
one_found None some = absurd cc
one_found (Some rr) some = refl

-- a record that comes behind the one that was found is a second one
pub second_found : (rrs : List Record) (i : ℕ) (rr : Record) (found : Option (Bor Record)) → i < length rrs → rr ≡ get_or rrs i rr → rr.kind ≡ kind_opt → is_some found ≡ true
    → filter is_opt (take i rrs) ≡ option_to_list (option_copied found) → 1 < length (filter is_opt rrs)
second_found rrs i rr found within here kind some so_far =
    omega (arith, filter_here is_opt rrs i rr within here (eq-eqb _ _ kind), ap length so_far, one_found found some)

-- the options before one, its own front of four bytes and its content are no longer than all of the options
pub spelling_here : (items : List EdnsItem) (i : ℕ) (item : EdnsItem) → i < length items → item ≡ get_or items i item → length (spelling (take i items)) + 4 + length item.content ≤ length (spelling items)
spelling_here items i item within here =
    let split : spelling items ≡ spelling (take i items) ++ spelling (drop i items) = ap spelling (sym (take-append-drop i items)) ∙ flat_map-append option_spelling (take i items) (drop i items) in
    let rest : spelling (drop i items) ≡ option_spelling item ++ spelling (drop (suc i) items) = rw (drop-cons items i item, ← here) refl in
    omega (arith, ap length split, length-append (spelling (take i items)) (spelling (drop i items)), ap length rest, length-append item.content (spelling (drop (suc i) items)))

-- the bit DO is the highest bit of its byte
pub do_in_byte : (ttl : ℕ) → leb 128 (ttl / 256 % 256) ≡ eqb (ttl / 32768 % 2) 1
do_in_byte ttl =
    elim (cases_lt (ttl / 256 % 256) 128) [
      | inl lt ↦ lt-leb 128 (ttl / 256 % 256) lt ∙ sym (ne_eqb (ttl / 32768 % 2) 1 (λ (is : ttl / 32768 % 2 ≡ 1). omega arith))
      | inr le ↦ le-leb 128 (ttl / 256 % 256) le ∙ sym (eq-eqb (ttl / 32768 % 2) 1 (omega arith))
    ]

-- a ttl is made of its parts
ttl_parts : (ttl : ℕ) → ttl ≡ ttl / 2 ^ 24 * 2 ^ 24 + ttl / 2 ^ 16 % 2 ^ 8 * 2 ^ 16 + cond (eqb (ttl / 2 ^ 15 % 2) 1) (2 ^ 15) 0 + ttl % 2 ^ 15
ttl_parts ttl =
    elim (cases_lt (ttl / 2 ^ 15 % 2) 1) [
      | inl lt ↦ rw (ne_eqb (ttl / 2 ^ 15 % 2) 1 (λ (is : ttl / 2 ^ 15 % 2 ≡ 1). omega arith)) (omega arith)
      | inr le ↦ rw (eq-eqb (ttl / 2 ^ 15 % 2) 1 (omega arith)) (omega arith)
    ]

-- what is computed of a record whose rdata is options is what it says
pub says : (rr : Record) (items : List EdnsItem) → rr.class < 2 ^ 16 → rr.ttl < 2 ^ 32 → AreOptions rr.rdata items → Says rr (opt_with rr.class rr.ttl items)
says rr items class_fits ttl_fits are = record {
  fits = record { size = class_fits; ext_rcode = omega arith; version = omega arith; options = are.each };
  z = rr.ttl % 2 ^ 15;
  z_fits = omega arith;
  size = refl;
  ttl = ttl_parts rr.ttl;
  options = are.parts;
}

-- two records or more are a fault
pub double_again : (rrs : List Record) → 1 < length rrs → said_once rrs ≡ Err edns_fault.DoubleOpt
double_again [] more = absurd (omega arith)
double_again (rr ∷ []) more = absurd (omega arith)
double_again (rr ∷ other ∷ rrs) more = refl

-- the flag in a ttl that is made of its parts
do_again : (high z : ℕ) (flag : Bool) → z < 2 ^ 15 → eqb ((high * 2 ^ 16 + cond flag (2 ^ 15) 0 + z) / 2 ^ 15 % 2) 1 ≡ flag
do_again high z true fits = eq-eqb _ 1 (omega arith)
do_again high z false fits = ne_eqb _ 1 (λ (is : (high * 2 ^ 16 + 0 + z) / 2 ^ 15 % 2 ≡ 1). omega arith)

flag_fits : (flag : Bool) → cond flag (2 ^ 15) 0 ≤ 2 ^ 15
flag_fits true = omega arith
flag_fits false = omega arith

-- what a record says is what is computed of it
said_again : (rr : Record) (opt : Opt) → Says rr opt → said_by rr ≡ Ok opt
said_again rr opt said =
    let flag = cond opt.do_bit (2 ^ 15) 0 in
    let high = opt.ext_rcode * 2 ^ 8 + opt.version in
    let ttl : rr.ttl ≡ high * 2 ^ 16 + flag + said.z = said.ttl ∙ omega arith in
    let below : flag ≤ 2 ^ 15 = flag_fits opt.do_bit in
    let ext_rcode : rr.ttl / 2 ^ 24 ≡ opt.ext_rcode = omega (arith, said.fits.version, said.z_fits) in
    let version : rr.ttl / 2 ^ 16 % 2 ^ 8 ≡ opt.version = omega (arith, said.fits.version, said.z_fits) in
    let do_bit : eqb (rr.ttl / 2 ^ 15 % 2) 1 ≡ opt.do_bit = ap (λ (t : ℕ). eqb (t / 2 ^ 15 % 2) 1) ttl ∙ do_again high said.z opt.do_bit said.z_fits in
    let same : opt_with rr.class rr.ttl opt.options ≡ opt = rw (said.size, ext_rcode, version, do_bit) refl in
    ap (result_map_both (opt_with rr.class rr.ttl) (λ (e : EdnsFault). e)) (options_again rr.rdata opt.options (record { each = said.fits.options; parts = said.options }))
    ∙ ap (λ (x : Opt). Ok x) same

-- the OPT records of records that fit
opt_records_fit : (message : Message) → AllByRecursion FitsRecord message.additionals → AllByRecursion FitsRecord (opt_records message)
opt_records_fit message fits = recursion_from_All FitsRecord _ (All-filter is_opt FitsRecord message.additionals (All-from_recursion FitsRecord _ fits))

-- what a message's OPT record says is what is computed
pub opt_again : (message : Message) (found : Option Opt) → IsOptOf message found → opt_of message ≡ Ok found
opt_again message None none = ap said_once none
opt_again message (Some opt) one = ap said_once one.1 ∙ ap (result_map_both (λ (x : Opt). Some x) (λ (e : EdnsFault). e)) (said_again one.0 opt one.2)

-- the record that was added says what it was made of
pub added_again : (message : Message) (opt : Opt) → FitsOpt opt → opt_records message ≡ [] → opt_of (message_with message opt) ≡ Ok (Some opt)
added_again message opt fits none =
    let alone : opt_records (message_with message opt) ≡ opt_record opt ∷ [] = filter-append is_opt message.additionals (opt_record opt ∷ []) ∙ ap (λ (x : List Record). x ++ opt_record opt ∷ []) none in
    opt_again (message_with message opt) (Some opt) (opt_record opt, alone, record { fits = fits; z = 0; z_fits = omega arith; size = refl; ttl = refl; options = refl })

-- each cause is computed to be the fault
pub cause_again : (message : Message) (fault : EdnsFault) → AllByRecursion FitsRecord message.additionals → HasCause message fault → EndsWith fault (opt_of message)
cause_again message edns_fault.DoubleOpt fits more = double_again (opt_records message) more
cause_again message (edns_fault.BadOptions offset) fits one =
    let kept : AllByRecursion FitsRecord (one.0 ∷ []) = subst (AllByRecursion FitsRecord) one.1 (opt_records_fit message fits) in
    ap said_once one.1
    ∙ ap (λ (read : Result (List EdnsItem) EdnsFault). result_map_both (λ (x : Opt). Some x) (λ (e : EdnsFault). e) (result_map_both (opt_with one.0.class one.0.ttl) (λ (e : EdnsFault). e) read)) (stop_again one.0.rdata offset kept.0.rdata one.2)
cause_again message edns_fault.NoMemory fits cause = tt

-- what is computed of an OPT record holds of it
said_holds : (message : Message) (rr : Record) (read : Result (List EdnsItem) ℕ) → opt_records message ≡ rr ∷ [] → FitsRecord rr → Holds rr.rdata read
    → MatchResult (result_map_both (λ (x : Opt). Some x) (λ (e : EdnsFault). e) (result_map_both (opt_with rr.class rr.ttl) (λ (e : EdnsFault). e) (result_map_both (λ (x : List EdnsItem). x) edns_fault.BadOptions read))) (IsOptOf message) (HasCause message)
said_holds message rr (Ok items) alone fits are = (rr, alone, says rr items fits.class fits.ttl are)
said_holds message rr (Err offset) alone fits stops = (rr, alone, stops)

once_holds : (message : Message) (rrs : List Record) → opt_records message ≡ rrs → AllByRecursion FitsRecord rrs → MatchResult (said_once rrs) (IsOptOf message) (HasCause message)
once_holds message [] is fits = is
once_holds message (rr ∷ []) is fits = said_holds message rr (options_in (length rr.rdata) rr.rdata) is fits.0 (options_hold (length rr.rdata) rr.rdata fits.0.rdata (omega arith))
once_holds message (rr ∷ other ∷ rrs) is fits = omega (arith, ap length is)

-- what is computed of a message holds of it
pub opt_holds : (message : Message) → AllByRecursion FitsRecord message.additionals → MatchResult (opt_of message) (IsOptOf message) (HasCause message)
opt_holds message fits = once_holds message (opt_records message) refl (opt_records_fit message fits)
