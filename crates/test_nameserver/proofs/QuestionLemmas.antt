-- When two questions have one key.
use Rattle.std.proofs.Common.{◌≡◌, ℕ, ◌<◌, ◌^◌, ◌↔◌, List, [], ◌++◌, length, take, drop, ap, sym, ◌∙◌, refl, arith}
use Rattle.std.proofs.lemmas.List.{length-append}
use Rattle.std.proofs.Math.Seq.{take-append_seam, drop-append_seam}
use Rattle.byteorder.specs.Endian.{big_bytes, big_from}
use Rattle.byteorder.specs.Numbers.{big_number-reads_back}
use Rattle.dns_message.specs.Wire.{wire_bytes}
use Rattle.dns_message.specs.Message.{IsQuestion}
use Rattle.dns_message.specs.Question.{SameQuestion}
use Rattle.dns_message.specs.declared.message.Question.{Question}
use Rattle.dns_message.proofs.Theorems.{same_labels, same_bytes}
use Rattle.test_nameserver.specs.Index.{key_of}
use Rattle.test_nameserver.specs.Peer.{question_key}

-- two lists with equally long ends are equal by their parts
module _ (xs ys end other_end : List ℕ) (same : xs ++ end ≡ ys ++ other_end) (long : length end ≡ length other_end) where
  as_long : length xs ≡ length ys
  as_long = omega (arith, ap length same, length-append xs end, length-append ys other_end, long)

  fronts : xs ≡ ys
  fronts = sym (take-append_seam xs end) ∙ ap (take (length xs)) same ∙ ap (λ n. take n (ys ++ other_end)) as_long ∙ take-append_seam ys other_end

  ends : end ≡ other_end
  ends = sym (drop-append_seam xs end) ∙ ap (drop (length xs)) same ∙ ap (λ n. drop n (ys ++ other_end)) as_long ∙ drop-append_seam ys other_end

-- numbers of 16 bits with the same bytes are equal
same_number : (a b : ℕ) → a < 2 ^ 16 → b < 2 ^ 16 → big_bytes 2 a ≡ big_bytes 2 b → a ≡ b
same_number a b fits other_fits same =
    sym (big_number-reads_back 2 a [] fits) ∙ ap (λ (bytes : List ℕ). big_from 0 2 (bytes ++ [])) same ∙ big_number-reads_back 2 b [] other_fits

module _ (question other : Question) (is : IsQuestion question) (is_other : IsQuestion other) where
  named : List ℕ
  named = key_of question.name ++ big_bytes 2 question.kind

  other_named : List ℕ
  other_named = key_of other.name ++ big_bytes 2 other.kind

  apart : question_key question ≡ question_key other → SameQuestion question other
  unfolding named other_named
  apart same =
      let front = fronts named other_named (big_bytes 2 question.class) (big_bytes 2 other.class) same refl in
      let names = fronts (key_of question.name) (key_of other.name) (big_bytes 2 question.kind) (big_bytes 2 other.kind) front refl in
      let kinds = ends (key_of question.name) (key_of other.name) (big_bytes 2 question.kind) (big_bytes 2 other.kind) front refl in
      let classes = ends named other_named (big_bytes 2 question.class) (big_bytes 2 other.class) same refl in
      record {
        name = same_labels (wire_bytes question.name) (wire_bytes other.name) question.name other.name refl refl is.name is_other.name names;
        kind = same_number question.kind other.kind is.kind is_other.kind kinds;
        class = same_number question.class other.class is.class is_other.class classes;
      }

  one_key : SameQuestion question other → question_key question ≡ question_key other
  one_key same =
      let names : key_of question.name ≡ key_of other.name = same_bytes (wire_bytes question.name) (wire_bytes other.name) question.name other.name refl refl is.name is_other.name same.name in
      λ i. names i ++ big_bytes 2 (same.kind i) ++ big_bytes 2 (same.class i)

  -- two questions have one key exactly where they are the same
  pub keys_tell : (question_key question ≡ question_key other) ↔ SameQuestion question other
  keys_tell = (apart, one_key)
