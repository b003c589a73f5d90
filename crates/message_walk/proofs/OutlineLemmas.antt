-- The outline of a message, by its header, its question and its sections.
use Rattle.std.proofs.Common.{◌≡◌, ◌≢◌, ℕ, ◌<◌, ◌≤◌, Bool, true, false, cond, ltb, List, [], ◌∷◌, length, Option, None, Result, Ok, Err, refl, sym, ◌∙◌}
use Rattle.std.proofs.lemmas.Bool.{le-ltb, lt-ltb}
use Rattle.byteorder.specs.Endian.{big_from}
use Rattle.dns_message.proofs.Theorems.{message_is_spelled}
use Rattle.dns_message.specs.Grammar.{Spells}
use Rattle.dns_message.specs.Reading.{◌>>=◌, items_of, message_read, question_of, record_of}
use Rattle.dns_message.specs.declared.fault.MessageFault.{MessageFault}
use Rattle.dns_message.specs.declared.fault.MessageFault.TheVariants.{TrailingBytes}
use Rattle.dns_message.specs.declared.message.Message.{Message}
use Rattle.dns_message.specs.declared.message.Question.{Question}
use Rattle.dns_message.specs.declared.message.Record.{Record}
use Rattle.message_walk.specs.Matching.{asks_only, repeats}
use Rattle.message_walk.specs.Outlines.{outline_behind, outline_of, sections_of}

module _ (exact : Bool) (asked : Question) (wanted : Option ℕ) (bytes : List ℕ) where
  -- too few bytes for a header
  pub outline_short : length bytes < 12 → outline_of exact asked wanted (message_read bytes) ≡ None
  unfolding message_read
  outline_short short = let test : ltb (length bytes) 12 ≡ true = lt-ltb (length bytes) 12 short in rw test refl

  -- no question, or more than one
  asks_not : (questions : List Question) → length questions ≢ 1 → asks_only exact asked questions ≡ false
  asks_not [] many = refl
  asks_not (question ∷ []) many = absurd (many refl)
  asks_not (question ∷ another ∷ rest) many = refl

  pub outline_many : big_from 4 2 bytes ≢ 1 → outline_of exact asked wanted (message_read bytes) ≡ None
  outline_many many = by_read (message_read bytes) refl where
    by_read : (read : Result Message MessageFault) → message_read bytes ≡ read → outline_of exact asked wanted read ≡ None
    by_read (Ok m) is =
        let spells : Spells bytes m = message_is_spelled bytes m is in
        let no : asks_only exact asked m.questions ≡ false = asks_not m.questions (λ one. many (sym spells.question_count ∙ one)) in
        rw no refl
    by_read (Err fault) is = refl

  module _ (header : 12 ≤ length bytes) (one : big_from 4 2 bytes ≡ 1) where
    -- a question that can't be read
    pub outline_unread : (fault : MessageFault) → question_of bytes 12 ≡ Err fault → outline_of exact asked wanted (message_read bytes) ≡ None
    unfolding message_read
    outline_unread fault e = let test : ltb (length bytes) 12 ≡ false = le-ltb (length bytes) 12 header in rw (test, one, e) refl

    module _ (question : Question) (next : ℕ) (e : question_of bytes 12 ≡ Ok (question, next)) where
      -- the message of three sections
      abbrev with_sections : List Record × List Record × List Record → Message
      with_sections found = record {
        id = big_from 0 2 bytes;
        flags = big_from 2 2 bytes;
        questions = question ∷ [];
        answers = found.0;
        authorities = found.1;
        additionals = found.2;
      }

      read_sections : message_read bytes ≡ (sections_of bytes next >>= λ found. Ok (with_sections found))
      unfolding message_read
      read_sections = let test : ltb (length bytes) 12 ≡ false = le-ltb (length bytes) 12 header in rw (test, one, e) (by_answers (items_of (record_of bytes) (big_from 6 2 bytes) next)) where
        by_end : (t : Bool) (at : ℕ) (found : List Record × List Record × List Record)
            → cond {A = Result Message MessageFault} t (Err (TrailingBytes at)) (Ok (with_sections found)) ≡ (cond {A = Result (List Record × List Record × List Record) MessageFault} t (Err (TrailingBytes at)) (Ok found) >>= λ found. Ok (with_sections found))
        by_end true at found = refl
        by_end false at found = refl

        by_additionals : (answers authorities : List Record) (read : Result (List Record × ℕ) MessageFault)
            → (read >>= λ additionals. cond {A = Result Message MessageFault} (ltb additionals.1 (length bytes)) (Err (TrailingBytes additionals.1)) (Ok (with_sections (answers, authorities, additionals.0))))
            ≡ ((read >>= λ additionals. cond {A = Result (List Record × List Record × List Record) MessageFault} (ltb additionals.1 (length bytes)) (Err (TrailingBytes additionals.1)) (Ok (answers, authorities, additionals.0))) >>= λ found. Ok (with_sections found))
        by_additionals answers authorities (Ok additionals) = by_end (ltb additionals.1 (length bytes)) additionals.1 (answers, authorities, additionals.0)
        by_additionals answers authorities (Err fault) = refl

        by_authorities : (answers : List Record) (read : Result (List Record × ℕ) MessageFault)
            → (read >>= λ authorities. items_of (record_of bytes) (big_from 10 2 bytes) authorities.1 >>= λ additionals. cond {A = Result Message MessageFault} (ltb additionals.1 (length bytes)) (Err (TrailingBytes additionals.1)) (Ok (with_sections (answers, authorities.0, additionals.0))))
            ≡ ((read >>= λ authorities. items_of (record_of bytes) (big_from 10 2 bytes) authorities.1 >>= λ additionals. cond {A = Result (List Record × List Record × List Record) MessageFault} (ltb additionals.1 (length bytes)) (Err (TrailingBytes additionals.1)) (Ok (answers, authorities.0, additionals.0))) >>= λ found. Ok (with_sections found))
        by_authorities answers (Ok authorities) = by_additionals answers authorities.0 (items_of (record_of bytes) (big_from 10 2 bytes) authorities.1)
        by_authorities answers (Err fault) = refl

        by_answers : (read : Result (List Record × ℕ) MessageFault)
            → (read >>= λ answers. items_of (record_of bytes) (big_from 8 2 bytes) answers.1 >>= λ authorities. items_of (record_of bytes) (big_from 10 2 bytes) authorities.1 >>= λ additionals. cond {A = Result Message MessageFault} (ltb additionals.1 (length bytes)) (Err (TrailingBytes additionals.1)) (Ok (with_sections (answers.0, authorities.0, additionals.0))))
            ≡ ((read >>= λ answers. items_of (record_of bytes) (big_from 8 2 bytes) answers.1 >>= λ authorities. items_of (record_of bytes) (big_from 10 2 bytes) authorities.1 >>= λ additionals. cond {A = Result (List Record × List Record × List Record) MessageFault} (ltb additionals.1 (length bytes)) (Err (TrailingBytes additionals.1)) (Ok (answers.0, authorities.0, additionals.0))) >>= λ found. Ok (with_sections found))
        by_answers (Ok answers) = by_authorities answers.0 (items_of (record_of bytes) (big_from 8 2 bytes) answers.1)
        by_answers (Err fault) = refl

      -- the message asks another question
      pub outline_other : repeats exact question asked ≡ false → outline_of exact asked wanted (message_read bytes) ≡ None
      outline_other isnt = rw read_sections (by_found (sections_of bytes next)) where
        by_found : (found : Result (List Record × List Record × List Record) MessageFault) → outline_of exact asked wanted (found >>= λ found. Ok (with_sections found)) ≡ None
        by_found (Ok found) = rw isnt refl
        by_found (Err fault) = refl

      -- it asks that question
      pub outline_same : repeats exact question asked ≡ true → outline_of exact asked wanted (message_read bytes) ≡ outline_behind wanted (sections_of bytes next)
      outline_same is = rw read_sections (by_found (sections_of bytes next)) where
        by_found : (found : Result (List Record × List Record × List Record) MessageFault) → outline_of exact asked wanted (found >>= λ found. Ok (with_sections found)) ≡ outline_behind wanted found
        by_found (Ok found) = rw is refl
        by_found (Err fault) = refl
