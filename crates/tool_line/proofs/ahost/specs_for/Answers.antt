use Rattle.std.proofs.Common.{◌≡◌, List, [], ◌∷◌, map, Some, ap, refl}
use denote.Ref.{Bor}
use Rattle.chan_types.specs.declared.spec.Spec.TheVariants.{Address}
use Rattle.tool_line.specs.Words.{Text}
use Rattle.tool_line.proofs.ahost.specs_for.Goals as goal

-- a list that is mapped twice
map_twice : {A B C : Type 0} (f : B → C) (g : A → B) (xs : List A) → map f (map g xs) ≡ map (λ x. f (g x)) xs
map_twice f g [] = refl
map_twice f g (x ∷ xs) = ap (λ ys. f (g x) ∷ ys) (map_twice f g xs)

pub returns-in_ok-specs-in-Some-clause-read : goal.returns-in_ok-specs-in-Some-clause-read
returns-in_ok-specs-in-Some-clause-read c =
    rw (c.in-Some.is, c.if-loads.false, c.in_ok-specs-in-Some.ensures)
    (ap (λ specs. Some specs) (map_twice (λ (host : Text). Address host c.args.family c.args.nosort) (λ (host : Bor Text). host.now) c.in-Some.hosts.now))
