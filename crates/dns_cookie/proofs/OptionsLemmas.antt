-- The first cookie option, option by option.
use Rattle.std.proofs.Common.{◌≡◌, ◌≢◌, ℕ, zero, suc, List, [], ◌∷◌, length, Some, None, Result, Ok, Err, refl, sym, ap, ◌∙◌}
use Rattle.std.specs.Result.{result_map_both}
use Rattle.std.proofs.lemmas.Bool.{ne_eqb}
use Rattle.edns_opt.specs.Reading.{first_option, followed_by, options_in, options_of, then_read}
use Rattle.edns_opt.specs.declared.opt.EdnsItem.{EdnsItem}
use Rattle.edns_opt.specs.declared.fault.EdnsFault.TheVariants.{BadOptions}
use Rattle.dns_cookie.specs.Cookie.{cookie_code}
use Rattle.dns_cookie.specs.Reply.{first_cookie}

-- the first cookie of the options that are left is that of all
abbrev pub OptionsLeft : List EdnsItem → List ℕ → Type 0
OptionsLeft items rest = (steps : ℕ) × (left : List EdnsItem) × (options_in steps rest ≡ Ok left) × (first_cookie items ≡ first_cookie left)

-- at the start all are left
pub all_left : (rdata : List ℕ) (items : List EdnsItem) → options_of rdata ≡ Ok items → OptionsLeft items rdata
all_left rdata items e = by_read (options_in (length rdata) rdata) refl e where
  by_read : (read : Result (List EdnsItem) ℕ) → options_in (length rdata) rdata ≡ read → result_map_both (λ (x : List EdnsItem). x) BadOptions read ≡ Ok items → OptionsLeft items rdata
  by_read (Ok left) is same = (length rdata, left, is, let one : left ≡ items = cc in ap first_cookie (sym one))
  by_read (Err offset) is same = absurd cc

-- behind the first option the others are left
behind : (first : EdnsItem) (read : Result (List EdnsItem) ℕ) (left : List EdnsItem) → followed_by first read ≡ Ok left → (others : List EdnsItem) × (read ≡ Ok others) × (left ≡ first ∷ others)
behind first (Ok others) left e = (others, refl, let same : first ∷ others ≡ left = cc in sym same)
behind first (Err offset) left e = absurd cc

pub left_first : (items : List EdnsItem) (rest : List ℕ) (first : EdnsItem) (others : List ℕ) → OptionsLeft items rest → first_option rest ≡ Some (first, others)
    → (steps : ℕ) × (left : List EdnsItem) × (options_in steps others ≡ Ok left) × (first_cookie items ≡ first_cookie (first ∷ left))
left_first items [] first others l is = absurd cc
left_first items (a ∷ rest) first others (zero, left, read, same) is = absurd cc
left_first items (a ∷ rest) first others (suc steps, left, read, same) is =
    let on = behind first (options_in steps others) left (sym (ap (then_read (options_in steps)) is) ∙ read) in
    (steps, on.0, on.1, same ∙ ap first_cookie on.2)

-- where no option is left, there was no cookie
pub left_end : (items : List EdnsItem) (rest : List ℕ) → OptionsLeft items rest → first_option rest ≡ None → first_cookie items ≡ None
left_end items [] (zero, left, read, same) is = let none : left ≡ [] = cc in same ∙ ap first_cookie none
left_end items [] (suc steps, left, read, same) is = let none : left ≡ [] = cc in same ∙ ap first_cookie none
left_end items (a ∷ rest) (zero, left, read, same) is = absurd cc
left_end items (a ∷ rest) (suc steps, left, read, same) is =
    let stops : ◌≡◌ {A = Result (List EdnsItem) ℕ} (Err 0) (Ok left) = sym (ap (then_read (options_in steps)) is) ∙ read in absurd cc

pub cookie_here : (first : EdnsItem) (left : List EdnsItem) → first.code ≡ cookie_code → first_cookie (first ∷ left) ≡ Some first.content
cookie_here first left is = rw is refl

pub cookie_on : (first : EdnsItem) (left : List EdnsItem) → first.code ≢ cookie_code → first_cookie (first ∷ left) ≡ first_cookie left
cookie_on first left other = rw (ne_eqb first.code cookie_code other) refl
