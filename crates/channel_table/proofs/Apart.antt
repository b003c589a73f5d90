-- Where a leg isn't in flight, no attempt of the rows is that leg's.
use Rattle.channel_table.proofs.Base.{◌≡◌, ◌∙◌, false, List, Option, Some, None, refl, ap, sym, AllByRecursion, is_some, each-then, flight, Past, LegFacts, Leg, Setting, Flying, NoneFlies, flown_by, flying_of, is_flying, leg_of_lookup, Lookup}
use Rattle.channel_table.proofs.LookupLists.{LegOf}

some_flown : (leg : Leg) (o : Option Flying) → is_some (flown_by leg o) ≡ is_some o
some_flown leg None = refl
some_flown leg (Some flying) = refl

pub none_flies : (setting : Setting) (past : Past) (leg : Leg) (ss : List Lookup) → flight setting leg past ≡ None → AllByRecursion (LegOf setting past) ss → NoneFlies leg ss
none_flies setting past leg ss idle each =
    each-then (LegOf setting past) (λ (lookup : Lookup). leg_of_lookup lookup ≡ leg → is_flying lookup ≡ false) ss
    (λ lookup stands same.
    sym (some_flown (leg_of_lookup lookup) (flying_of lookup))
    ∙ ap is_some (sym (ap (λ (f : LegFacts). f.flies) stands.facts) ∙ ap (λ (l : Leg). flight setting l past) same ∙ idle)) each
