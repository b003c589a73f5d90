-- The tests of names, questions and messages are true exactly where what they test holds.
use Rattle.std.proofs.Common.{◌≡◌, ℕ, ◌≤◌, Bool, true, false, IsTrue, ◌↔◌, List, [], ◌∷◌, length, map, eqb, leb, refl}
use Rattle.std.specs.Bool.{Decides}
use Rattle.std.specs.List.{AllByRecursion, list_all}
use Rattle.std.specs.Char.{to_ascii_lowercase}
use Rattle.std.specs.Cmp.Lexicographic.{pointwise_decides, bytes_decides}
use Rattle.std.proofs.lemmas.Bool.{leb-true, le-leb, eqb-true, eq-eqb}
use Rattle.std.proofs.lemmas.Bool.Decides.{Decides-and, Decides-like}
use Rattle.dns_message.specs.Name.{SameName, same_name, LastIs, last_is}
use Rattle.dns_message.specs.Question.{SameQuestion, same_question}
use Rattle.dns_message.specs.Shapes.{shape_by}
use Rattle.dns_message.specs.Validity.{IsWellFormed, well_formed, IsWritable, is_writable, AreWritable, are_writable, IsValid, is_valid}
use Rattle.dns_message.specs.declared.message.Question.{Question}
use Rattle.dns_message.specs.declared.message.Record.{Record}
use Rattle.dns_message.specs.declared.message.Message.{Message}
use Rattle.dns_message.proofs.ShapeLemmas.{shape_says}

-- the test of names
pub same_name_says : (labels others : List (List ℕ)) → Decides (same_name labels others) (SameName labels others)
same_name_says labels others = pointwise_decides bytes_decides (map (map to_ascii_lowercase) labels) (map (map to_ascii_lowercase) others)

-- the test of the last label
pub last_is_says : (label : List ℕ) (labels : List (List ℕ)) → Decides (last_is label labels) (LastIs labels label)
last_is_says label [] = (λ e. absurd cc, λ h. absurd h)
last_is_says label (last ∷ []) = bytes_decides (map to_ascii_lowercase last) (map to_ascii_lowercase label)
last_is_says label (first ∷ second ∷ labels) = last_is_says label (second ∷ labels)

-- the test of numbers that are equal
equal_says : (a b : ℕ) → Decides (eqb a b) (a ≡ b)
equal_says a b = (eqb-true a b, eq-eqb a b)

-- the test of questions
pub same_question_says : (question other : Question) → Decides (same_question question other) (SameQuestion question other)
same_question_says question other =
    Decides-like (same_question question other)
    (λ h. record { name = h.0.0; kind = h.0.1; class = h.1 })
    (λ same. ((same.name, same.kind), same.class))
    (Decides-and _ _ (Decides-and _ _ (same_name_says question.name other.name) (equal_says question.kind other.kind)) (equal_says question.class other.class))

-- two tests of one fact are the same
pub one_test : {P : Type 0} (r s : Bool) → (IsTrue r ↔ P) → Decides s P → r ≡ s
one_test true true r s = refl
one_test true false r s = absurd (let t : false ≡ true = s.1 (r.0 refl) in cc)
one_test false true r s = absurd (let t : false ≡ true = r.1 (s.0 refl) in cc)
one_test false false r s = refl

-- what says whether names are the same is the test of it
pub same_is : (r : Bool) (labels others : List (List ℕ)) → (IsTrue r ↔ SameName labels others) → r ≡ same_name labels others
same_is r labels others says = one_test r _ says (same_name_says labels others)

-- what says whether the last label is that one is the test of it
pub last_is_so : (r : Bool) (label : List ℕ) (labels : List (List ℕ)) → (IsTrue r ↔ LastIs labels label) → r ≡ last_is label labels
last_is_so r label labels says = one_test r _ says (last_is_says label labels)

-- ---- messages

-- the test of a bound
few_says : (a b : ℕ) → Decides (leb a b) (a ≤ b)
few_says a b = (leb-true a b, le-leb a b)

-- the test of a record's shape
pub well_formed_says : (rr : Record) → Decides (well_formed rr) (IsWellFormed rr)
unfolding well_formed
well_formed_says rr = shape_says (shape_by rr.kind rr.class) rr.rdata

-- the test of a record
writable_says : (rr : Record) → Decides (is_writable rr) (IsWritable rr)
writable_says rr =
    Decides-like (is_writable rr)
    (λ h. record { short = h.0; shaped = h.1 })
    (λ is. (is.short, is.shaped))
    (Decides-and (leb (length rr.rdata) 65535) (well_formed rr) (few_says (length rr.rdata) 65535) (well_formed_says rr))

-- the test of each record
each_says : (records : List Record) → Decides (list_all is_writable records) (AllByRecursion IsWritable records)
each_says [] = (λ _. tt, λ _. refl)
each_says (rr ∷ records) = Decides-and (is_writable rr) (list_all is_writable records) (writable_says rr) (each_says records)

-- the test of a section
section_says : (records : List Record) → Decides (are_writable records) (AreWritable records)
section_says records =
    Decides-like (are_writable records)
    (λ h. record { few = h.0; each = h.1 })
    (λ are. (are.few, are.each))
    (Decides-and (leb (length records) 65535) _ (few_says (length records) 65535) (each_says records))

-- the test of a message
pub is_valid_says : (m : Message) → Decides (is_valid m) (IsValid m)
is_valid_says m =
    Decides-like (is_valid m)
    (λ h. record { questions = h.0.0.0; answers = h.0.0.1; authorities = h.0.1; additionals = h.1 })
    (λ is. (((is.questions, is.answers), is.authorities), is.additionals))
    (Decides-and _ _ (Decides-and _ _ (Decides-and _ _ (few_says (length m.questions) 65535) (section_says m.answers)) (section_says m.authorities)) (section_says m.additionals))
