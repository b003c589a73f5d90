-- Questions as they are told apart: with their names in lower case.
use Rattle.std.proofs.Common.{◌≡◌, Bool, ◌&&◌, map, eqb, ap}
use Rattle.std.specs.Bool.{Decides}
use Rattle.std.specs.Char.{to_ascii_lowercase}
use Rattle.std.specs.Cmp.Lexicographic.{pointwise, pointwise_decides, bytes_decides}
use Rattle.std.specs.Str.{bytes_eq}
use Rattle.std.proofs.lemmas.Bool.{eqb-true, eq-eqb}
use Rattle.std.proofs.lemmas.Bool.Decides.{Decides-and, Decides-like}
use Rattle.dns_message.specs.declared.message.Question.{Question}

-- the question with its name in lower case
abbrev pub low : Question → Question
low question = record { name = map (map to_ascii_lowercase) question.name; kind = question.kind; class = question.class }

-- the test of questions whose names are in lower case
abbrev pub tests : Question → Question → Bool
tests a b = pointwise bytes_eq a.name b.name && eqb a.kind b.kind && eqb a.class b.class

pub tests_decide : (a b : Question) → Decides (tests a b) (a ≡ b)
tests_decide a b =
    Decides-like (tests a b)
    (λ h. λ i. record { name = h.0.0 i; kind = h.0.1 i; class = h.1 i })
    (λ same. ((ap (λ q. q.name) same, ap (λ q. q.kind) same), ap (λ q. q.class) same))
    (Decides-and _ _ (Decides-and _ _ (pointwise_decides bytes_decides a.name b.name) (eqb-true a.kind b.kind, eq-eqb a.kind b.kind)) (eqb-true a.class b.class, eq-eqb a.class b.class))
