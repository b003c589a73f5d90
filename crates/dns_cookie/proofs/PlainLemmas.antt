-- Which message a plain query is, and which bytes that has with a cookie.
use Rattle.std.proofs.Common.{◌≡◌, ℕ, zero, suc, ◌+◌, ◌-◌, ◌^◌, ◌<◌, ◌≤◌, ◌==◌, Bool, true, cond, leb, List, [], ◌∷◌, ◌++◌, length, take, drop, get_or, Option, Some, None, Ok, refl, sym, ap, subst, ◌∙◌, append_assoc, append-nil, arith}
use Rattle.std.specs.Int.{w16, w32, from_be_bytes}
use Rattle.std.specs.List.{flat_map}
use Rattle.std.specs.Prelude.{slice_range}
use Rattle.std.specs.Option.{option_and_then}
use Rattle.std.specs.Result.{result_ok}
use Rattle.std.proofs.lemmas.Bool.{and_parts, eqb-true}
use Rattle.std.proofs.lemmas.Bool.Decides.{nat_tests}
use Rattle.std.proofs.lemmas.List.{get_or-drop, length-append, length-drop, take_all, take_at, take-append-drop}
use Rattle.std.proofs.lemmas.List.Concat.{flat_map-cons}
use Rattle.std.proofs.lemmas.Nat.{be_bytes_2, be_bytes_4}
use Rattle.byteorder.specs.Endian.{big_bytes, big_from}
use Rattle.dns_message.proofs.Theorems.{written_is_read}
use Rattle.dns_message.specs.Message.{IsMessage}
use Rattle.dns_message.specs.Name.{IsName}
use Rattle.dns_message.specs.Reading.{message_read}
use Rattle.dns_message.specs.Spelling.{message_bytes, name_bytes, question_bytes, record_bytes}
use Rattle.dns_message.specs.Validity.{IsValid}
use Rattle.dns_message.specs.Wire.{IsWire, labels_in, wire_bytes}
use Rattle.dns_message.specs.declared.message.Message.{Message}
use Rattle.dns_message.specs.declared.message.Question.{Question}
use Rattle.dns_message.specs.declared.message.Record.{Record}
use Rattle.edns_opt.specs.Options.{option_spelling}
use Rattle.dns_cookie.specs.Cookie.{cookie_option, cookied_message, cookied_query, written}
use Rattle.dns_cookie.specs.Plain.{IsEnding, IsHeaded, IsPlain, extended, has_counts, has_ending}

-- ---- numbers and their bytes

two_small : (a b : ℕ) → a < 256 → b < 256 → (i : ℕ) → get_or (a ∷ b ∷ []) i 0 < 256
two_small a b a_fits b_fits zero = a_fits
two_small a b a_fits b_fits (suc zero) = b_fits
two_small a b a_fits b_fits (suc (suc i)) = omega arith

four_small : (a b c d : ℕ) → a < 256 → b < 256 → c < 256 → d < 256 → (i : ℕ) → get_or (a ∷ b ∷ c ∷ d ∷ []) i 0 < 256
four_small a b c d a_fits b_fits c_fits d_fits zero = a_fits
four_small a b c d a_fits b_fits c_fits d_fits (suc zero) = b_fits
four_small a b c d a_fits b_fits c_fits d_fits (suc (suc zero)) = c_fits
four_small a b c d a_fits b_fits c_fits d_fits (suc (suc (suc zero))) = d_fits
four_small a b c d a_fits b_fits c_fits d_fits (suc (suc (suc (suc i)))) = omega arith

-- the number of two bytes
abbrev two : ℕ → ℕ → ℕ
two a b = from_be_bytes w16 (a ∷ b ∷ [])

-- the number of four bytes
abbrev four : ℕ → ℕ → ℕ → ℕ → ℕ
four a b c d = from_be_bytes w32 (a ∷ b ∷ c ∷ d ∷ [])

two_back : (a b : ℕ) → a < 256 → b < 256 → big_bytes 2 (two a b) ≡ a ∷ b ∷ []
two_back a b a_fits b_fits = be_bytes_2 (a ∷ b ∷ []) (two a b) refl (two_small a b a_fits b_fits) refl

four_back : (a b c d : ℕ) → a < 256 → b < 256 → c < 256 → d < 256 → big_bytes 4 (four a b c d) ≡ a ∷ b ∷ c ∷ d ∷ []
four_back a b c d a_fits b_fits c_fits d_fits = be_bytes_4 (a ∷ b ∷ c ∷ d ∷ []) (four a b c d) refl (four_small a b c d a_fits b_fits c_fits d_fits) refl

two_fits : (a b : ℕ) → a < 256 → b < 256 → two a b < 2 ^ 16
two_fits a b a_fits b_fits = omega arith

four_fits : (a b c d : ℕ) → a < 256 → b < 256 → c < 256 → d < 256 → four a b c d < 2 ^ 32
four_fits a b c d a_fits b_fits c_fits d_fits = omega arith

-- ---- its length

few_bytes : (n : ℕ) → n ≤ 65535 → leb n 65535 ≡ true
few_bytes n few = grind (arith, nat_tests)

has_room : (all query cookie : ℕ) → all ≡ query + 4 + cookie → cookie ≤ 40 → query + 44 ≤ 65535 → all + (40 - cookie) ≤ 65535
has_room all query cookie long few room = omega arith

chosen : (t : Bool) (bytes : List ℕ) → t ≡ true → cond {A = Option (List ℕ)} t (Some bytes) None ≡ Some bytes
chosen t bytes e = rw e refl

-- ---- the message of a plain query, with any rdata in its OPT record

module _ (query behind : List ℕ) (h : IsHeaded query behind) (labels : List (List ℕ)) (name : IsName labels) (ending : List ℕ) (e : IsEnding ending) where
  abbrev question : Question
  question = record { name = labels; kind = two e.kind_high e.kind_low; class = two e.class_high e.class_low }

  abbrev opt : List ℕ → Record
  opt rdata = record { name = []; kind = 41; class = two e.size_high e.size_low; ttl = four e.ttl_first e.ttl_second e.ttl_third e.ttl_fourth; rdata = rdata }

  abbrev made : List ℕ → Message
  made rdata = record {
    id = two h.id_high h.id_low;
    flags = two h.flags_high h.flags_low;
    questions = question ∷ [];
    answers = [];
    authorities = [];
    additionals = opt rdata ∷ [];
  }

  -- what stands in front of the length of the rdata, from the question's root on
  abbrev fixed : List ℕ → List ℕ
  fixed rest = 0 ∷ e.kind_high ∷ e.kind_low ∷ e.class_high ∷ e.class_low ∷ 0 ∷ 0 ∷ 41 ∷ e.size_high ∷ e.size_low ∷ e.ttl_first ∷ e.ttl_second ∷ e.ttl_third ∷ e.ttl_fourth ∷ rest

  -- the whole, with these bytes from the length of the rdata on
  abbrev whole : List ℕ → List ℕ
  whole rest = h.id_high ∷ h.id_low ∷ h.flags_high ∷ h.flags_low ∷ 0 ∷ 1 ∷ 0 ∷ 0 ∷ 0 ∷ 0 ∷ 0 ∷ 1 ∷ (wire_bytes labels ++ fixed rest)

  question_spelled : (rest : List ℕ) → flat_map question_bytes (question ∷ []) ++ rest ≡ wire_bytes labels ++ (0 ∷ e.kind_high ∷ e.kind_low ∷ e.class_high ∷ e.class_low ∷ rest)
  question_spelled rest =
      ap (λ (all : List ℕ). all ++ rest) (flat_map-cons question_bytes question [] ∙ append-nil (question_bytes question))
      ∙ ap (λ (kind : List ℕ). ((name_bytes labels ++ kind) ++ big_bytes 2 question.class) ++ rest) (two_back e.kind_high e.kind_low e.kind_high_fits e.kind_low_fits)
      ∙ ap (λ (class : List ℕ). ((name_bytes labels ++ (e.kind_high ∷ e.kind_low ∷ [])) ++ class) ++ rest) (two_back e.class_high e.class_low e.class_high_fits e.class_low_fits)
      ∙ append_assoc (name_bytes labels ++ (e.kind_high ∷ e.kind_low ∷ [])) (e.class_high ∷ e.class_low ∷ []) rest
      ∙ append_assoc (name_bytes labels) (e.kind_high ∷ e.kind_low ∷ []) (e.class_high ∷ e.class_low ∷ rest)
      ∙ append_assoc (wire_bytes labels) (0 ∷ []) (e.kind_high ∷ e.kind_low ∷ e.class_high ∷ e.class_low ∷ rest)

  opt_spelled : (rdata : List ℕ) → flat_map record_bytes (opt rdata ∷ [])
      ≡ 0 ∷ 0 ∷ 41 ∷ e.size_high ∷ e.size_low ∷ e.ttl_first ∷ e.ttl_second ∷ e.ttl_third ∷ e.ttl_fourth ∷ (big_bytes 2 (length rdata) ++ rdata)
  opt_spelled rdata =
      let rest = big_bytes 2 (length rdata) ++ rdata in
      flat_map-cons record_bytes (opt rdata) [] ∙ append-nil (record_bytes (opt rdata))
      ∙ ap (λ (size : List ℕ). 0 ∷ 0 ∷ 41 ∷ (size ++ (big_bytes 4 (opt rdata).ttl ++ rest))) (two_back e.size_high e.size_low e.size_high_fits e.size_low_fits)
      ∙ ap (λ (ttl : List ℕ). 0 ∷ 0 ∷ 41 ∷ e.size_high ∷ e.size_low ∷ (ttl ++ rest))
      (four_back e.ttl_first e.ttl_second e.ttl_third e.ttl_fourth e.ttl_first_fits e.ttl_second_fits e.ttl_third_fits e.ttl_fourth_fits)

  spelled : (rdata : List ℕ) → message_bytes (made rdata) ≡ whole (big_bytes 2 (length rdata) ++ rdata)
  spelled rdata =
      let asked = flat_map question_bytes (question ∷ []) in
      let sections = asked ++ flat_map record_bytes (opt rdata ∷ []) in
      ap (λ (first : List ℕ). big_bytes 2 (made rdata).id ++ (big_bytes 2 (made rdata).flags ++ (0 ∷ 1 ∷ 0 ∷ 0 ∷ 0 ∷ 0 ∷ 0 ∷ 1 ∷ (first ++ flat_map record_bytes (opt rdata ∷ [])))))
      (append-nil (asked ++ []) ∙ append-nil asked)
      ∙ ap (λ (id : List ℕ). id ++ (big_bytes 2 (made rdata).flags ++ (0 ∷ 1 ∷ 0 ∷ 0 ∷ 0 ∷ 0 ∷ 0 ∷ 1 ∷ sections))) (two_back h.id_high h.id_low h.id_high_fits h.id_low_fits)
      ∙ ap (λ (flags : List ℕ). h.id_high ∷ h.id_low ∷ (flags ++ (0 ∷ 1 ∷ 0 ∷ 0 ∷ 0 ∷ 0 ∷ 0 ∷ 1 ∷ sections))) (two_back h.flags_high h.flags_low h.flags_high_fits h.flags_low_fits)
      ∙ ap (λ (rest : List ℕ). h.id_high ∷ h.id_low ∷ h.flags_high ∷ h.flags_low ∷ 0 ∷ 1 ∷ 0 ∷ 0 ∷ 0 ∷ 0 ∷ 0 ∷ 1 ∷ rest)
      (question_spelled (flat_map record_bytes (opt rdata ∷ [])) ∙ ap (λ (rest : List ℕ). wire_bytes labels ++ (0 ∷ e.kind_high ∷ e.kind_low ∷ e.class_high ∷ e.class_low ∷ rest)) (opt_spelled rdata))

  typed : IsMessage (made [])
  typed = record {
    header = record { id = two_fits h.id_high h.id_low h.id_high_fits h.id_low_fits; flags = two_fits h.flags_high h.flags_low h.flags_high_fits h.flags_low_fits };
    sections = record {
      questions = (record { name = name; kind = two_fits e.kind_high e.kind_low e.kind_high_fits e.kind_low_fits; class = two_fits e.class_high e.class_low e.class_high_fits e.class_low_fits }, tt);
      answers = tt;
      authorities = tt;
      additionals = (
        record {
          name = record { each = tt; short = omega arith };
          kind = omega arith;
          class = two_fits e.size_high e.size_low e.size_high_fits e.size_low_fits;
          ttl = four_fits e.ttl_first e.ttl_second e.ttl_third e.ttl_fourth e.ttl_first_fits e.ttl_second_fits e.ttl_third_fits e.ttl_fourth_fits;
        },
        tt,
      );
    };
  }

  valid : IsValid (made [])
  valid = record {
    questions = omega arith;
    answers = record { few = omega arith; each = tt };
    authorities = record { few = omega arith; each = tt };
    additionals = record { few = omega arith; each = (record { short = omega arith; shaped = tt }, tt) };
  }

  module _ (is : behind ≡ wire_bytes labels ++ ending) where
    query_is : query ≡ whole (0 ∷ 0 ∷ [])
    query_is = h.parts ∙ ap (λ (rest : List ℕ). h.id_high ∷ h.id_low ∷ h.flags_high ∷ h.flags_low ∷ 0 ∷ 1 ∷ 0 ∷ 0 ∷ 0 ∷ 0 ∷ 0 ∷ 1 ∷ rest) (is ∙ ap (λ (last : List ℕ). wire_bytes labels ++ last) e.parts)

    pub query_read : message_read query ≡ Ok (made [])
    query_read = ap message_read (query_is ∙ sym (spelled [])) ∙ written_is_read (made []) typed valid

    -- all but the last two bytes
    abbrev front : List ℕ
    front = h.id_high ∷ h.id_low ∷ h.flags_high ∷ h.flags_low ∷ 0 ∷ 1 ∷ 0 ∷ 0 ∷ 0 ∷ 0 ∷ 0 ∷ 1 ∷ (wire_bytes labels ++ fixed [])

    whole_is : (rest : List ℕ) → whole rest ≡ front ++ rest
    whole_is rest = ap (λ (all : List ℕ). h.id_high ∷ h.id_low ∷ h.flags_high ∷ h.flags_low ∷ 0 ∷ 1 ∷ 0 ∷ 0 ∷ 0 ∷ 0 ∷ 0 ∷ 1 ∷ all) (sym (append_assoc (wire_bytes labels) (fixed []) rest))

    front_taken : take (length query - 2) query ≡ front
    front_taken =
        let all : query ≡ front ++ 0 ∷ 0 ∷ [] = query_is ∙ whole_is (0 ∷ 0 ∷ []) in
        let long : length query ≡ length front + 2 = ap length all ∙ length-append front (0 ∷ 0 ∷ []) in
        let count : length query - 2 ≡ length front = omega (arith, long) in
        ap (take (length query - 2)) all ∙ take_at front (0 ∷ 0 ∷ []) (length query - 2) (sym count)

    module _ (cookie : List ℕ) (few : length cookie ≤ 40) (room : length query + 44 ≤ 65535) where
      abbrev option : List ℕ
      option = option_spelling (cookie_option cookie)

      option_long : length option ≡ length cookie + 4
      option_long = let long : length option ≡ suc (suc (suc (suc (length cookie)))) = refl in omega (arith, long)

      bytes_are : message_bytes (made option) ≡ extended cookie query
      bytes_are =
          spelled option ∙ whole_is (big_bytes 2 (length option) ++ option)
          ∙ ap (λ (count : ℕ). front ++ (big_bytes 2 count ++ option)) option_long
          ∙ ap (λ (first : List ℕ). first ++ (big_bytes 2 (length cookie + 4) ++ option)) (sym front_taken)
          ∙ sym (append_assoc (take (length query - 2) query) (big_bytes 2 (length cookie + 4)) option)

      query_long : length query ≡ length front + 2
      query_long = ap length (query_is ∙ whole_is (0 ∷ 0 ∷ [])) ∙ length-append front (0 ∷ 0 ∷ [])

      long : length (message_bytes (made option)) ≡ length query + 4 + length cookie
      long =
          let rest = big_bytes 2 (length option) ++ option in
          let two_more : length rest ≡ suc (suc (length option)) = refl in
          let sum : length front + length rest ≡ length query + 4 + length cookie = omega (arith, two_more, option_long, query_long) in
          ap length (spelled option ∙ whole_is rest) ∙ length-append front rest ∙ sum

      written_so : written (length cookie) (made option) ≡ Some (message_bytes (made option))
      written_so =
          let all = message_bytes (made option) in
          chosen (leb (length all + (40 - length cookie)) 65535) all (few_bytes (length all + (40 - length cookie)) (has_room (length all) (length query) (length cookie) long few room))

      pub extended_is : cookied_query cookie query ≡ Some (extended cookie query)
      extended_is = ap (λ read. option_and_then (cookied_message cookie) (result_ok read)) query_read ∙ written_so ∙ ap (λ (all : List ℕ). Some all) bytes_are

-- a plain query with its cookie
pub plain_cookied : (cookie query : List ℕ) → IsPlain query → length cookie ≤ 40 → length query + 44 ≤ 65535 → Some (extended cookie query) ≡ cookied_query cookie query
plain_cookied cookie query p few room = sym (extended_is query (wire_bytes p.labels ++ p.ending) p.headed p.labels p.name p.ending p.ends refl cookie few room)

-- ---- from the tests of the bytes

-- a small number of two bytes
two_is : (a b n : ℕ) → n < 256 → big_from 0 2 (a ∷ b ∷ []) ≡ n → (a ≡ 0) × (b ≡ n)
two_is a b n few e = (omega arith, omega arith)

-- bytes behind others are bytes
behind_small : (n : ℕ) (bytes : List ℕ) → ((i : ℕ) → get_or bytes i 0 < 256) → (i : ℕ) → get_or (drop n bytes) i 0 < 256
behind_small n bytes small i = rw (get_or-drop n bytes i 0) (small (n + i))

headed_of : (query : List ℕ) → ((i : ℕ) → get_or query i 0 < 256) → 12 ≤ length query → big_from 4 2 query ≡ 1 → big_from 6 2 query ≡ 0 → big_from 8 2 query ≡ 0 → big_from 10 2 query ≡ 1 → IsHeaded query (drop 12 query)
headed_of [] small long f4 f6 f8 f10 = absurd (omega arith)
headed_of (x0 ∷ []) small long f4 f6 f8 f10 = absurd (omega arith)
headed_of (x0 ∷ x1 ∷ []) small long f4 f6 f8 f10 = absurd (omega arith)
headed_of (x0 ∷ x1 ∷ x2 ∷ []) small long f4 f6 f8 f10 = absurd (omega arith)
headed_of (x0 ∷ x1 ∷ x2 ∷ x3 ∷ []) small long f4 f6 f8 f10 = absurd (omega arith)
headed_of (x0 ∷ x1 ∷ x2 ∷ x3 ∷ x4 ∷ []) small long f4 f6 f8 f10 = absurd (omega arith)
headed_of (x0 ∷ x1 ∷ x2 ∷ x3 ∷ x4 ∷ x5 ∷ []) small long f4 f6 f8 f10 = absurd (omega arith)
headed_of (x0 ∷ x1 ∷ x2 ∷ x3 ∷ x4 ∷ x5 ∷ x6 ∷ []) small long f4 f6 f8 f10 = absurd (omega arith)
headed_of (x0 ∷ x1 ∷ x2 ∷ x3 ∷ x4 ∷ x5 ∷ x6 ∷ x7 ∷ []) small long f4 f6 f8 f10 = absurd (omega arith)
headed_of (x0 ∷ x1 ∷ x2 ∷ x3 ∷ x4 ∷ x5 ∷ x6 ∷ x7 ∷ x8 ∷ []) small long f4 f6 f8 f10 = absurd (omega arith)
headed_of (x0 ∷ x1 ∷ x2 ∷ x3 ∷ x4 ∷ x5 ∷ x6 ∷ x7 ∷ x8 ∷ x9 ∷ []) small long f4 f6 f8 f10 = absurd (omega arith)
headed_of (x0 ∷ x1 ∷ x2 ∷ x3 ∷ x4 ∷ x5 ∷ x6 ∷ x7 ∷ x8 ∷ x9 ∷ x10 ∷ []) small long f4 f6 f8 f10 = absurd (omega arith)
headed_of (x0 ∷ x1 ∷ x2 ∷ x3 ∷ x4 ∷ x5 ∷ x6 ∷ x7 ∷ x8 ∷ x9 ∷ x10 ∷ x11 ∷ rest) small long f4 f6 f8 f10 =
    let first = two_is x4 x5 1 (omega arith) f4 in
    let second = two_is x6 x7 0 (omega arith) f6 in
    let third = two_is x8 x9 0 (omega arith) f8 in
    let fourth = two_is x10 x11 1 (omega arith) f10 in
    record {
      id_high = x0;
      id_low = x1;
      flags_high = x2;
      flags_low = x3;
      parts = places first.0 first.1 second.0 second.1 third.0 third.1 fourth.0 fourth.1;
      id_high_fits = small 0;
      id_low_fits = small 1;
      flags_high_fits = small 2;
      flags_low_fits = small 3;
    } where
      places : x4 ≡ 0 → x5 ≡ 1 → x6 ≡ 0 → x7 ≡ 0 → x8 ≡ 0 → x9 ≡ 0 → x10 ≡ 0 → x11 ≡ 1
          → x0 ∷ x1 ∷ x2 ∷ x3 ∷ x4 ∷ x5 ∷ x6 ∷ x7 ∷ x8 ∷ x9 ∷ x10 ∷ x11 ∷ rest ≡ x0 ∷ x1 ∷ x2 ∷ x3 ∷ 0 ∷ 1 ∷ 0 ∷ 0 ∷ 0 ∷ 0 ∷ 0 ∷ 1 ∷ rest
      places d4 d5 d6 d7 d8 d9 d10 d11 = rw (d4, d5, d6, d7, d8, d9, d10, d11) refl

ending_of : (bytes : List ℕ) → ((i : ℕ) → get_or bytes i 0 < 256) → length bytes ≡ 16 → get_or bytes 0 0 ≡ 0 → get_or bytes 5 0 ≡ 0 → big_from 6 2 bytes ≡ 41 → big_from 14 2 bytes ≡ 0 → IsEnding bytes
ending_of [] small long d0 d5 f6 f14 = absurd (omega arith)
ending_of (x0 ∷ []) small long d0 d5 f6 f14 = absurd (omega arith)
ending_of (x0 ∷ x1 ∷ []) small long d0 d5 f6 f14 = absurd (omega arith)
ending_of (x0 ∷ x1 ∷ x2 ∷ []) small long d0 d5 f6 f14 = absurd (omega arith)
ending_of (x0 ∷ x1 ∷ x2 ∷ x3 ∷ []) small long d0 d5 f6 f14 = absurd (omega arith)
ending_of (x0 ∷ x1 ∷ x2 ∷ x3 ∷ x4 ∷ []) small long d0 d5 f6 f14 = absurd (omega arith)
ending_of (x0 ∷ x1 ∷ x2 ∷ x3 ∷ x4 ∷ x5 ∷ []) small long d0 d5 f6 f14 = absurd (omega arith)
ending_of (x0 ∷ x1 ∷ x2 ∷ x3 ∷ x4 ∷ x5 ∷ x6 ∷ []) small long d0 d5 f6 f14 = absurd (omega arith)
ending_of (x0 ∷ x1 ∷ x2 ∷ x3 ∷ x4 ∷ x5 ∷ x6 ∷ x7 ∷ []) small long d0 d5 f6 f14 = absurd (omega arith)
ending_of (x0 ∷ x1 ∷ x2 ∷ x3 ∷ x4 ∷ x5 ∷ x6 ∷ x7 ∷ x8 ∷ []) small long d0 d5 f6 f14 = absurd (omega arith)
ending_of (x0 ∷ x1 ∷ x2 ∷ x3 ∷ x4 ∷ x5 ∷ x6 ∷ x7 ∷ x8 ∷ x9 ∷ []) small long d0 d5 f6 f14 = absurd (omega arith)
ending_of (x0 ∷ x1 ∷ x2 ∷ x3 ∷ x4 ∷ x5 ∷ x6 ∷ x7 ∷ x8 ∷ x9 ∷ x10 ∷ []) small long d0 d5 f6 f14 = absurd (omega arith)
ending_of (x0 ∷ x1 ∷ x2 ∷ x3 ∷ x4 ∷ x5 ∷ x6 ∷ x7 ∷ x8 ∷ x9 ∷ x10 ∷ x11 ∷ []) small long d0 d5 f6 f14 = absurd (omega arith)
ending_of (x0 ∷ x1 ∷ x2 ∷ x3 ∷ x4 ∷ x5 ∷ x6 ∷ x7 ∷ x8 ∷ x9 ∷ x10 ∷ x11 ∷ x12 ∷ []) small long d0 d5 f6 f14 = absurd (omega arith)
ending_of (x0 ∷ x1 ∷ x2 ∷ x3 ∷ x4 ∷ x5 ∷ x6 ∷ x7 ∷ x8 ∷ x9 ∷ x10 ∷ x11 ∷ x12 ∷ x13 ∷ []) small long d0 d5 f6 f14 = absurd (omega arith)
ending_of (x0 ∷ x1 ∷ x2 ∷ x3 ∷ x4 ∷ x5 ∷ x6 ∷ x7 ∷ x8 ∷ x9 ∷ x10 ∷ x11 ∷ x12 ∷ x13 ∷ x14 ∷ []) small long d0 d5 f6 f14 = absurd (omega arith)
ending_of (x0 ∷ x1 ∷ x2 ∷ x3 ∷ x4 ∷ x5 ∷ x6 ∷ x7 ∷ x8 ∷ x9 ∷ x10 ∷ x11 ∷ x12 ∷ x13 ∷ x14 ∷ x15 ∷ x16 ∷ rest) small long d0 d5 f6 f14 = absurd (omega arith)
ending_of (x0 ∷ x1 ∷ x2 ∷ x3 ∷ x4 ∷ x5 ∷ x6 ∷ x7 ∷ x8 ∷ x9 ∷ x10 ∷ x11 ∷ x12 ∷ x13 ∷ x14 ∷ x15 ∷ []) small long d0 d5 f6 f14 =
    let kind = two_is x6 x7 41 (omega arith) f6 in
    let count = two_is x14 x15 0 (omega arith) f14 in
    record {
      kind_high = x1;
      kind_low = x2;
      class_high = x3;
      class_low = x4;
      size_high = x8;
      size_low = x9;
      ttl_first = x10;
      ttl_second = x11;
      ttl_third = x12;
      ttl_fourth = x13;
      parts = places d0 d5 kind.0 kind.1 count.0 count.1;
      kind_high_fits = small 1;
      kind_low_fits = small 2;
      class_high_fits = small 3;
      class_low_fits = small 4;
      size_high_fits = small 8;
      size_low_fits = small 9;
      ttl_first_fits = small 10;
      ttl_second_fits = small 11;
      ttl_third_fits = small 12;
      ttl_fourth_fits = small 13;
    } where
      places : x0 ≡ 0 → x5 ≡ 0 → x6 ≡ 0 → x7 ≡ 41 → x14 ≡ 0 → x15 ≡ 0
          → x0 ∷ x1 ∷ x2 ∷ x3 ∷ x4 ∷ x5 ∷ x6 ∷ x7 ∷ x8 ∷ x9 ∷ x10 ∷ x11 ∷ x12 ∷ x13 ∷ x14 ∷ x15 ∷ [] ≡ 0 ∷ x1 ∷ x2 ∷ x3 ∷ x4 ∷ 0 ∷ 0 ∷ 41 ∷ x8 ∷ x9 ∷ x10 ∷ x11 ∷ x12 ∷ x13 ∷ 0 ∷ 0 ∷ []
      places e0 e5 e6 e7 e14 e15 = rw (e0, e5, e6, e7, e14, e15) refl

-- a query whose counts and whose end are so, and whose name is a run of labels
module _ (query : List ℕ) (stop count : ℕ) (small : (i : ℕ) → get_or query i 0 < 256) (long : 12 ≤ length query) (counts : has_counts query ≡ true)
    (wire : IsWire (slice_range (drop 12 query) 0 stop) count) (ends : has_ending (drop stop (drop 12 query)) ≡ true) where
  headed : IsHeaded query (drop 12 query)
  headed =
      let first = and_parts (big_from 4 2 query == 1) _ counts in
      let second = and_parts (big_from 6 2 query == 0) _ first.1 in
      let third = and_parts (big_from 8 2 query == 0) (big_from 10 2 query == 1) second.1 in
      headed_of query small long (eqb-true (big_from 4 2 query) 1 first.0) (eqb-true (big_from 6 2 query) 0 second.0) (eqb-true (big_from 8 2 query) 0 third.0) (eqb-true (big_from 10 2 query) 1 third.1)

  ended : IsEnding (drop stop (drop 12 query))
  ended =
      let last = drop stop (drop 12 query) in
      let first = and_parts (length last == 16) _ ends in
      let second = and_parts (get_or last 0 0 == 0) _ first.1 in
      let third = and_parts (get_or last 5 0 == 0) _ second.1 in
      let fourth = and_parts (big_from 6 2 last == 41) (big_from 14 2 last == 0) third.1 in
      ending_of last (behind_small stop (drop 12 query) (behind_small 12 query small)) (eqb-true (length last) 16 first.0) (eqb-true (get_or last 0 0) 0 second.0)
      (eqb-true (get_or last 5 0) 0 third.0) (eqb-true (big_from 6 2 last) 41 fourth.0) (eqb-true (big_from 14 2 last) 0 fourth.1)

  parts : drop 12 query ≡ wire_bytes (labels_in (slice_range (drop 12 query) 0 stop)) ++ drop stop (drop 12 query)
  parts =
      let none : stop - 0 ≡ stop = omega arith in
      let name : slice_range (drop 12 query) 0 stop ≡ take stop (drop 12 query) = ap (λ (n : ℕ). take n (drop 12 query)) none in
      sym (take-append-drop stop (drop 12 query)) ∙ ap (λ (front : List ℕ). front ++ drop stop (drop 12 query)) (sym name ∙ wire.spelled)

  pub plain_query : IsPlain query
  plain_query = record {
    labels = labels_in (slice_range (drop 12 query) 0 stop);
    ending = drop stop (drop 12 query);
    name = wire.name;
    headed = subst (λ (rest : List ℕ). IsHeaded query rest) parts headed;
    ends = ended;
  }

-- a slice up to the end is all that is left
pub rest_all : (n : ℕ) (xs : List ℕ) → take (length xs - n) (drop n xs) ≡ drop n xs
rest_all n xs = take_all (length xs - n) (drop n xs) (omega (arith, length-drop n xs))

-- the same of slices up to the end
pub plain_sliced : (query behind : List ℕ) (stop count : ℕ) → ((i : ℕ) → get_or query i 0 < 256) → 12 ≤ length query → has_counts query ≡ true → behind ≡ drop 12 query
    → IsWire (slice_range behind 0 stop) count → has_ending (take (length behind - stop) (drop stop behind)) ≡ true → IsPlain query
plain_sliced query behind stop count small long counts is wire ends =
    plain_query query stop count small long counts (subst (λ (rest : List ℕ). IsWire (slice_range rest 0 stop) count) is wire)
    (sym (ap has_ending (rest_all stop behind ∙ ap (drop stop) is)) ∙ ends)
