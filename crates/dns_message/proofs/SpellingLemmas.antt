-- How long the bytes of names, questions and records are, and those of lists of them.
use Rattle.std.proofs.Common.{◌≡◌, ℕ, ◌+◌, ◌<◌, ◌≤◌, List, [], ◌∷◌, ◌++◌, length, take, drop, get_or, ap, sym, ◌∙◌, arith}
use Rattle.std.specs.List.{flat_map}
use Rattle.std.proofs.lemmas.List.{length-append, take_more, take-append-drop}
use Rattle.std.proofs.lemmas.List.Concat.{flat_map-cons, flat_map-append}
use Rattle.dns_message.specs.Name.{wire_length}
use Rattle.dns_message.specs.declared.message.Question.{Question}
use Rattle.dns_message.specs.declared.message.Record.{Record}
use Rattle.dns_message.specs.declared.message.Message.{Message}
use Rattle.dns_message.proofs.WireLemmas.{labels_length}
use Rattle.dns_message.specs.Spelling.{label_bytes, name_bytes, question_bytes, record_bytes, message_bytes}

-- a name's bytes
pub name_length : (labels : List (List ℕ)) → length (name_bytes labels) ≡ wire_length labels
name_length labels = omega (arith, length-append (flat_map label_bytes labels) (0 ∷ []), labels_length labels)

-- a question's bytes
pub question_length : (q : Question) → length (question_bytes q) ≡ wire_length q.name + 4
question_length q = simp length-append (omega (arith, labels_length q.name))

-- a record's bytes
pub record_length : (rr : Record) → length (record_bytes rr) ≡ wire_length rr.name + 10 + length rr.rdata
record_length rr = simp length-append (omega (arith, labels_length rr.name))

module _ {A : Type 0} (f : A → List ℕ) where
  -- one item more
  pub total_more : (xs : List A) (k : ℕ) (x : A) → k < length xs → x ≡ get_or xs k x → length (flat_map f (take (k + 1) xs)) ≡ length (flat_map f (take k xs)) + length (f x)
  total_more xs k x lt e =
      let one : length (flat_map f (x ∷ [])) ≡ length (f x) = omega (arith, ap length (flat_map-cons f x []), length-append (f x) (flat_map f [])) in
      rw (take_more xs k x lt, ← e, flat_map-append) (omega (arith, length-append (flat_map f (take k xs)) (flat_map f (x ∷ [])), one))

  -- the items before one, and that one, take no more than all
  pub item_fits : (xs : List A) (k : ℕ) (x : A) → k < length xs → x ≡ get_or xs k x → length (flat_map f (take k xs)) + length (f x) ≤ length (flat_map f xs)
  item_fits xs k x lt e =
      let parts : flat_map f xs ≡ flat_map f (take (k + 1) xs) ++ flat_map f (drop (k + 1) xs) = ap (flat_map f) (sym (take-append-drop (k + 1) xs)) ∙ flat_map-append f (take (k + 1) xs) (drop (k + 1) xs) in
      rw parts (omega (arith, total_more xs k x lt e, length-append (flat_map f (take (k + 1) xs)) (flat_map f (drop (k + 1) xs))))

  -- there are no more items than bytes
  pub count_fits : ((x : A) → 1 ≤ length (f x)) → (xs : List A) → length xs ≤ length (flat_map f xs)
  count_fits some [] = omega arith
  count_fits some (x ∷ xs) = omega (arith, ap length (flat_map-cons f x xs), length-append (f x) (flat_map f xs), some x, count_fits some xs)

some_question : (q : Question) → 1 ≤ length (question_bytes q)
some_question q = omega (arith, question_length q)

some_record : (rr : Record) → 1 ≤ length (record_bytes rr)
some_record rr = omega (arith, record_length rr)

-- where a message is short, so is each of its counts
pub record CountsFit (m : Message) : Type 0 where
  pub questions : length m.questions ≤ 65535
  pub answers : length m.answers ≤ 65535
  pub authorities : length m.authorities ≤ 65535
  pub additionals : length m.additionals ≤ 65535
  pub answers_bytes : length (flat_map record_bytes m.answers) ≤ 65535
  pub authorities_bytes : length (flat_map record_bytes m.authorities) ≤ 65535
  pub additionals_bytes : length (flat_map record_bytes m.additionals) ≤ 65535

pub counts_fit : (m : Message) → length (message_bytes m) ≤ 65535 → CountsFit m
counts_fit m short =
    let parts = simp length-append at short in
    record {
      questions = omega (arith, parts, count_fits question_bytes some_question m.questions);
      answers = omega (arith, parts, count_fits record_bytes some_record m.answers);
      authorities = omega (arith, parts, count_fits record_bytes some_record m.authorities);
      additionals = omega (arith, parts, count_fits record_bytes some_record m.additionals);
      answers_bytes = omega (arith, parts);
      authorities_bytes = omega (arith, parts);
      additionals_bytes = omega (arith, parts);
    }

-- how long a message is
pub message_length : (m : Message) → length (message_bytes m) ≡ 12 + length (flat_map question_bytes m.questions) + length (flat_map record_bytes m.answers) + length (flat_map record_bytes m.authorities) + length (flat_map record_bytes m.additionals)
message_length m = simp length-append (omega arith)
