-- A reply without answers is short.
use Rattle.std.proofs.Common.{◌≡◌, ℕ, ◌+◌, ◌≤◌, [], ◌∷◌, ◌++◌, length, Option, Some, None, ap, ◌∙◌, arith, append-nil}
use Rattle.std.specs.List.{flat_map}
use Rattle.std.proofs.lemmas.List.{length-append}
use Rattle.std.proofs.lemmas.List.Concat.{flat_map-cons}
use Rattle.dns_message.specs.Name.{wire_length}
use Rattle.dns_message.specs.Spelling.{question_bytes, record_bytes, header_bytes, sections_bytes, message_bytes}
use Rattle.dns_message.proofs.Theorems.{question_length}
use Rattle.edns_opt.specs.Opt.{opt_record}
use Rattle.test_nameserver.specs.Reply.{reply_with, opt_records_for, own_opt}
use Rattle.test_nameserver.specs.declared.query.Query.{Query}

opts_short : (size : Option ℕ) → length (flat_map record_bytes (opt_records_for size)) ≤ 11
opts_short None = omega arith
opts_short (Some size) = omega (arith, ap length (flat_map-cons record_bytes (opt_record own_opt) []), ap length (append-nil (record_bytes (opt_record own_opt))))

-- a reply without answers is within every limit
pub cut_short : (query : Query) (flags : ℕ) → wire_length query.question.name ≤ 255 → length (message_bytes (reply_with query flags [])) ≤ 512
cut_short query flags short =
    let question = question_bytes query.question in
    let opts = flat_map record_bytes (opt_records_for query.size) in
    let questions : length (flat_map question_bytes (query.question ∷ [])) ≡ wire_length query.question.name + 4 = ap length (flat_map-cons question_bytes query.question []) ∙ ap length (append-nil question) ∙ question_length query.question in
    omega (
      arith,
      opts_short query.size,
      questions,
      length-append (header_bytes (reply_with query flags [])) (sections_bytes (reply_with query flags [])),
      length-append (flat_map question_bytes (query.question ∷ []) ++ [] ++ []) opts,
      length-append {A = ℕ} (flat_map question_bytes (query.question ∷ []) ++ []) [],
      length-append (flat_map question_bytes (query.question ∷ [])) [],
    )
