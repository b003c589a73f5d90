-- An option that is read is the option that was spelled, and what was spelled is read again.
use Rattle.std.proofs.Common.{◌≡◌, ◌≢◌, ℕ, zero, suc, ◌+◌, ◌-◌, ◌<◌, ◌≤◌, Bool, true, false, cond, ltb, eqb, List, [], ◌∷◌, ◌++◌, length, get_or, take, drop, Option, Some, None, Result, Ok, Err, refl, sym, ap, subst, ◌∙◌, append_assoc, arith}
use Rattle.std.specs.List.{AllByRecursion}
use Rattle.std.specs.Int.{w16, from_be_bytes, to_be_bytes}
use Rattle.std.proofs.lemmas.Bool.{ltb-false, le-ltb}
use Rattle.std.proofs.lemmas.List.{take_at, drop_at, get_or-append-add, take-append-drop, length-append, length-take, append-nil, take_more}
use Rattle.std.proofs.lemmas.List.Concat.{flat_map-append}
use Rattle.std.proofs.lemmas.List.Elements.{All-from_recursion, recursion_from_All, All-push, All-more}
use Rattle.std.proofs.lemmas.Nat.{be_bytes_2, from_be_bytes-to_be_bytes_2}
use Rattle.edns_opt.specs.declared.opt.EdnsItem.{EdnsItem}
use Rattle.edns_opt.specs.declared.fault.EdnsFault.TheVariants.{BadOptions}
use Rattle.std.specs.Result.{result_map_both}
use Rattle.edns_opt.specs.Options.{option_spelling, spelling, FitsOption, AreBytes, AreOptions, BeginsNoOption, StopsFitting}
use Rattle.edns_opt.specs.Reading.{first_option, followed_by, then_read, options_in, options_of}

-- an option stands at the front of the bytes, and the rest behind it
pub record Begins (bytes : List ℕ) (item : EdnsItem) (rest : List ℕ) : Type 0 where
  pub fits : FitsOption item
  pub parts : bytes ≡ option_spelling item ++ rest

-- a test that did not fail
guard_some : {A : Type 0} (b : Bool) (x y : A) → cond b None (Some x) ≡ Some y → (b ≡ false) × (x ≡ y)
guard_some true x y e = absurd cc
guard_some false x y e = (refl, cc)

-- two bytes are those of their number
two_bytes : (a b : ℕ) → a < 256 → b < 256 → to_be_bytes w16 (from_be_bytes w16 (a ∷ b ∷ [])) ≡ a ∷ b ∷ []
two_bytes a b a_fits b_fits = be_bytes_2 (a ∷ b ∷ []) _ refl (both a b a_fits b_fits) refl where
  both : (a b : ℕ) → a < 256 → b < 256 → (i : ℕ) → get_or (a ∷ b ∷ []) i 0 < 256
  both a b h k zero = h
  both a b h k (suc zero) = k
  both a b h k (suc (suc i)) = omega arith

-- the option at the front is spelled there
pub first_begins : (bytes : List ℕ) (item : EdnsItem) (rest : List ℕ) → AreBytes bytes → first_option bytes ≡ Some (item, rest) → Begins bytes item rest
first_begins [] item rest fits e = absurd cc
first_begins (a ∷ []) item rest fits e = absurd cc
first_begins (a ∷ b ∷ []) item rest fits e = absurd cc
first_begins (a ∷ b ∷ c ∷ []) item rest fits e = absurd cc
first_begins (a ∷ b ∷ c ∷ d ∷ bytes) item rest fits e =
    let code = from_be_bytes w16 (a ∷ b ∷ []) in
    let len = from_be_bytes w16 (c ∷ d ∷ []) in
    let made : EdnsItem × List ℕ = (record { code = code; content = take len bytes }, drop len bytes) in
    let g = guard_some (ltb (length bytes) len) made (item, rest) e in
    let long : len ≤ length bytes = ltb-false _ _ g.0 in
    let whole : length (take len bytes) ≡ len = omega (arith, length-take len bytes) in
    let a_fits : a < 256 = fits 0 in
    let b_fits : b < 256 = fits 1 in
    let c_fits : c < 256 = fits 2 in
    let d_fits : d < 256 = fits 3 in
    let spelled : a ∷ b ∷ c ∷ d ∷ bytes ≡ option_spelling made.0 ++ made.1 =
    ap (λ (x : List ℕ). x ++ (c ∷ d ∷ bytes)) (sym (two_bytes a b a_fits b_fits))
    ∙ ap (λ (x : List ℕ). to_be_bytes w16 code ++ (x ++ bytes)) (sym (two_bytes c d c_fits d_fits) ∙ ap (to_be_bytes w16) (sym whole))
    ∙ ap (λ (x : List ℕ). to_be_bytes w16 code ++ (to_be_bytes w16 (length (take len bytes)) ++ x)) (sym (take-append-drop len bytes)) in
    subst (λ (x : EdnsItem × List ℕ). Begins (a ∷ b ∷ c ∷ d ∷ bytes) x.0 x.1) g.1 (record { fits = record { code = omega arith; content = omega arith }; parts = spelled })

-- an option that is spelled at the front is the option at the front
pub first_again : (item : EdnsItem) (rest : List ℕ) → FitsOption item → first_option (option_spelling item ++ rest) ≡ Some (item, rest)
first_again item rest fits =
    let long : ltb (length (item.content ++ rest)) (length item.content) ≡ false = le-ltb _ _ (omega (arith, length-append item.content rest)) in
    rw (from_be_bytes-to_be_bytes_2 item.code fits.code, from_be_bytes-to_be_bytes_2 (length item.content) fits.content, long, take_at item.content rest (length item.content) refl, drop_at item.content rest (length item.content) refl) refl

-- where no option is read, none is spelled
pub first_none : (bytes : List ℕ) → first_option bytes ≡ None → BeginsNoOption bytes
first_none bytes none item rest fits parts =
    let read : first_option bytes ≡ Some (item, rest) = ap first_option parts ∙ first_again item rest fits in
    cc

-- how far reading has come: these options stand before the rest
pub record Read (bytes rest : List ℕ) (items : List EdnsItem) : Type 0 where
  pub each : AllByRecursion FitsOption items
  pub parts : bytes ≡ spelling items ++ rest

-- what is left of bytes is bytes
rest_is_bytes : (bytes rest : List ℕ) (items : List EdnsItem) → AreBytes bytes → Read bytes rest items → AreBytes rest
rest_is_bytes bytes rest items fits far i =
    let here : get_or bytes (length (spelling items) + i) 0 ≡ get_or rest i 0 = ap (λ (x : List ℕ). get_or x (length (spelling items) + i) 0) far.parts ∙ get_or-append-add (spelling items) rest i 0 in
    rw (← here) (fits (length (spelling items) + i))

-- one option further
pub read_more : (bytes rest behind : List ℕ) (items : List EdnsItem) (item : EdnsItem) → AreBytes bytes → Read bytes rest items → first_option rest ≡ Some (item, behind) → Read bytes behind (items ++ item ∷ [])
read_more bytes rest behind items item fits far first =
    let next : Begins rest item behind = first_begins rest item behind (rest_is_bytes bytes rest items fits far) first in
    record {
      each = recursion_from_All FitsOption _ (All-push FitsOption items item (All-from_recursion FitsOption items far.each) next.fits);
      parts = far.parts ∙ ap (λ (x : List ℕ). spelling items ++ x) next.parts ∙ sym (append_assoc (spelling items) (option_spelling item) behind)
          ∙ ap (λ (x : List ℕ). x ++ behind) (sym (flat_map-append option_spelling items (item ∷ []) ∙ ap (λ (x : List ℕ). spelling items ++ x) (append-nil (option_spelling item))));
    }

-- the end
pub read_all : (bytes rest : List ℕ) (items : List EdnsItem) → Read bytes rest items → rest ≡ [] → AreOptions bytes items
read_all bytes rest items far end = record { each = far.each; parts = far.parts ∙ ap (λ (x : List ℕ). spelling items ++ x) end ∙ append-nil (spelling items) }

-- what is spelled is read again
pub spelled_again : (items : List EdnsItem) (steps : ℕ) → AllByRecursion FitsOption items → length (spelling items) ≤ steps → options_in steps (spelling items) ≡ Ok items
spelled_again [] zero each enough = refl
spelled_again [] (suc steps) each enough = refl
spelled_again (item ∷ items) zero each enough = absurd (omega arith)
spelled_again (item ∷ items) (suc steps) each enough =
    let behind : options_in steps (spelling items) ≡ Ok items = spelled_again items steps each.1 (omega (arith, length-append item.content (spelling items))) in
    ap (then_read (options_in steps)) (first_again item (spelling items) each.0) ∙ ap (followed_by item) behind

-- where options are spelled and none stands behind them, reading stops there
pub stops_again : (items : List EdnsItem) (rest : List ℕ) (steps : ℕ) → AllByRecursion FitsOption items → length (spelling items ++ rest) ≤ steps → rest ≢ [] → first_option rest ≡ None → options_in steps (spelling items ++ rest) ≡ Err (length (spelling items))
stops_again [] [] steps each enough more none = absurd (more refl)
stops_again [] (a ∷ rest) zero each enough more none = refl
stops_again [] (a ∷ rest) (suc steps) each enough more none = ap (then_read (options_in steps)) none
stops_again (item ∷ items) rest zero each enough more none = absurd (omega arith)
stops_again (item ∷ items) rest (suc steps) each enough more none =
    let regrouped : spelling (item ∷ items) ++ rest ≡ option_spelling item ++ (spelling items ++ rest) = append_assoc (option_spelling item) (spelling items) rest in
    let behind : options_in steps (spelling items ++ rest) ≡ Err (length (spelling items)) = stops_again items rest steps each.1 (omega (arith, ap length regrouped, length-append item.content (spelling items ++ rest))) more none in
    ap (options_in (suc steps)) regrouped
    ∙ ap (then_read (options_in steps)) (first_again item (spelling items ++ rest) each.0)
    ∙ ap (followed_by item) behind
    ∙ ap (λ (n : ℕ). Err n) (sym (length-append (option_spelling item) (spelling items)))

-- what is computed of spelled options
pub options_again : (bytes : List ℕ) (items : List EdnsItem) → AreOptions bytes items → options_of bytes ≡ Ok items
options_again bytes items are =
    let read : options_in (length bytes) bytes ≡ Ok items = rw are.parts (spelled_again items (length (spelling items)) are.each (omega arith)) in
    ap (result_map_both (λ (x : List EdnsItem). x) BadOptions) read

-- what is computed at the end, and where reading stops
pub read_all_again : (bytes rest : List ℕ) (items : List EdnsItem) → Read bytes rest items → rest ≡ [] → options_of bytes ≡ Ok items
read_all_again bytes rest items far end = options_again bytes items (read_all bytes rest items far end)

pub read_stops_again : (bytes rest : List ℕ) (items : List EdnsItem) → Read bytes rest items → rest ≢ [] → first_option rest ≡ None → options_of bytes ≡ Err (BadOptions (length bytes - length rest))
read_stops_again bytes rest items far more none =
    let here : length (spelling items) ≡ length bytes - length rest = omega (arith, ap length far.parts, length-append (spelling items) rest) in
    let read : options_in (length bytes) bytes ≡ Err (length (spelling items)) = rw far.parts (stops_again items rest (length (spelling items ++ rest)) far.each (omega arith) more none) in
    ap (result_map_both (λ (x : List EdnsItem). x) BadOptions) read ∙ ap (λ (n : ℕ). Err (BadOptions n)) here

-- what isn't empty isn't the end
pub nonempty : (rest : List ℕ) → rest ≡ [] → eqb (length rest) 0 ≡ false → ⊥
nonempty rest end test =
    let none : eqb (length rest) 0 ≡ true = ap (λ (x : List ℕ). eqb (length x) 0) end in
    cc

-- the spelling up to the next option
pub spelling_more : (items : List EdnsItem) (i : ℕ) (item : EdnsItem) → i < length items → item ≡ get_or items i item → spelling (take (i + 1) items) ≡ spelling (take i items) ++ option_spelling item
spelling_more items i item within here =
    ap spelling (take_more items i item within ∙ ap (λ (x : EdnsItem). take i items ++ x ∷ []) (sym here))
    ∙ flat_map-append option_spelling (take i items) (item ∷ []) ∙ ap (λ (x : List ℕ). spelling (take i items) ++ x) (append-nil (option_spelling item))

-- one option more is written
pub written_more : (bytes : List ℕ) (items : List EdnsItem) (i : ℕ) (item : EdnsItem) → i < length items → item ≡ get_or items i item → AreOptions bytes (take i items) → FitsOption item → AreOptions (bytes ++ option_spelling item) (take (i + 1) items)
written_more bytes items i item within here are fits = record {
  each = recursion_from_All FitsOption _ (All-more FitsOption items i item within (All-from_recursion FitsOption _ are.each) (rw (← here) fits));
  parts = ap (λ (x : List ℕ). x ++ option_spelling item) are.parts ∙ sym (spelling_more items i item within here);
}

-- bytes that begin no option are read as none
none_again : (bytes : List ℕ) (first : Option (EdnsItem × List ℕ)) → first_option bytes ≡ first → AreBytes bytes → BeginsNoOption bytes → first ≡ None
none_again bytes None is fits none = refl
none_again bytes (Some first) is fits none =
    let begins : Begins bytes first.0 first.1 = first_begins bytes first.0 first.1 fits is in
    absurd (none first.0 first.1 begins.fits begins.parts)

-- where reading stops, it is computed to stop
pub stop_again : (bytes : List ℕ) (offset : ℕ) → AreBytes bytes → StopsFitting bytes offset → options_of bytes ≡ Err (BadOptions offset)
stop_again bytes offset fits stop =
    let far : Read bytes stop.rest stop.items = record { each = stop.each; parts = stop.parts } in
    let here : offset ≡ length bytes - length stop.rest = omega (arith, stop.here, ap length stop.parts, length-append (spelling stop.items) stop.rest) in
    rw here (read_stops_again bytes stop.rest stop.items far stop.more (none_again stop.rest (first_option stop.rest) refl (rest_is_bytes bytes stop.rest stop.items fits far) stop.none))

-- what is computed of bytes holds of them
abbrev pub Holds : List ℕ → Result (List EdnsItem) ℕ → Type 0
Holds bytes (Ok items) = AreOptions bytes items
Holds bytes (Err offset) = StopsFitting bytes offset

holds_behind : (bytes : List ℕ) (item : EdnsItem) (rest : List ℕ) (read : Result (List EdnsItem) ℕ) → Begins bytes item rest → Holds rest read → Holds bytes (followed_by item read)
holds_behind bytes item rest (Ok items) begins holds = record {
  each = (begins.fits, holds.each);
  parts = begins.parts ∙ ap (λ (x : List ℕ). option_spelling item ++ x) holds.parts;
}
holds_behind bytes item rest (Err offset) begins holds = record {
  items = item ∷ holds.items;
  rest = holds.rest;
  each = (begins.fits, holds.each);
  parts = begins.parts ∙ ap (λ (x : List ℕ). option_spelling item ++ x) holds.parts ∙ sym (append_assoc (option_spelling item) (spelling holds.items) holds.rest);
  here = ap (λ (n : ℕ). length (option_spelling item) + n) holds.here ∙ sym (length-append (option_spelling item) (spelling holds.items));
  more = holds.more;
  none = holds.none;
}

holds_step : (steps : ℕ) (bytes : List ℕ) (first : Option (EdnsItem × List ℕ)) → ((rest : List ℕ) → AreBytes rest → length rest ≤ steps → Holds rest (options_in steps rest))
    → first_option bytes ≡ first → AreBytes bytes → length bytes ≤ suc steps → bytes ≢ [] → Holds bytes (then_read (options_in steps) first)
holds_step steps bytes None below is fits enough more =
    record { items = []; rest = bytes; each = tt; parts = refl; here = refl; more = more; none = first_none bytes is }
holds_step steps bytes (Some first) below is fits enough more =
    let begins : Begins bytes first.0 first.1 = first_begins bytes first.0 first.1 fits is in
    let one : Read bytes first.1 (first.0 ∷ []) = record { each = (begins.fits, tt); parts = begins.parts ∙ ap (λ (x : List ℕ). x ++ first.1) (sym (append-nil (option_spelling first.0))) } in
    let shorter : length first.1 ≤ steps = omega (arith, ap length begins.parts, length-append first.0.content first.1) in
    holds_behind bytes first.0 first.1 (options_in steps first.1) begins (below first.1 (rest_is_bytes bytes first.1 (first.0 ∷ []) fits one) shorter)

pub options_hold : (steps : ℕ) (bytes : List ℕ) → AreBytes bytes → length bytes ≤ steps → Holds bytes (options_in steps bytes)
options_hold zero [] fits enough = record { each = tt; parts = refl }
options_hold zero (a ∷ bytes) fits enough = absurd (omega arith)
options_hold (suc steps) [] fits enough = record { each = tt; parts = refl }
options_hold (suc steps) (a ∷ bytes) fits enough =
    holds_step steps (a ∷ bytes) (first_option (a ∷ bytes)) (options_hold steps) refl fits enough (λ (end : a ∷ bytes ≡ []). absurd cc)
