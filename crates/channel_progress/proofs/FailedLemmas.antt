-- A log in which no wait failed.
use Rattle.std.proofs.Common.{◌≡◌, ◌∙◌, ◌||◌, Bool, true, false, List, [], ◌∷◌, ◌++◌, refl, sym, ap}
use Rattle.std.specs.List.{list_any}
use Rattle.std.specs.Prelude.{filter_map}
use Rattle.net_world.specs.Cause.{is_not_waited}
use Rattle.net_world.specs.declared.answers.Waited.TheVariants.{Failed as NotWaited}
use Rattle.net_world.specs.declared.log.WorldCall.{WorldCall}
use Rattle.channel_model.specs.Endings.{LastWaitFailed, waited_by}
use Rattle.channel_progress.specs.Waking.{NoWaitFailed}

-- a test that fails of all items fails of the last
none_last : {A : Type 0} (test : A → Bool) (front : List A) (last : A) → test last ≡ true → list_any test (front ++ last ∷ []) ≡ true
none_last test [] last is = rw is refl
none_last test (x ∷ front) last is = either (test x) (none_last test front last is)
  where
    either : (b : Bool) → list_any test (front ++ last ∷ []) ≡ true → (b || list_any test (front ++ last ∷ [])) ≡ true
    either true h = refl
    either false h = h

-- where no wait failed, the last didn't
pub not_failed : (calls : List WorldCall) → NoWaitFailed calls → LastWaitFailed calls → ⊥
not_failed calls none last =
    let is : list_any is_not_waited (filter_map waited_by calls) ≡ true = ap (list_any is_not_waited) last.failed ∙ none_last is_not_waited last.earlier NotWaited refl in
    absurd (let h : true ≡ false = sym is ∙ none in cc)
