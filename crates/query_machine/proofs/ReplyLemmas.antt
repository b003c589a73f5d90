-- What a message that answers a query shows in its header already, and what its outline means.
use Rattle.std.proofs.Common.{◌≡◌, ℕ, ◌/◌, ◌%◌, ◌^◌, ◌==◌, Bool, true, false, IsTrue, ◌↔◌, cond, List, [], ◌∷◌, length, Option, Some, None, Result, Ok, Err, refl, sym, ap, ◌∙◌}
use Rattle.std.specs.Prelude.{option_and_then, option_map}
use Rattle.std.proofs.lemmas.Bool.{and_from, and_parts, eq-eqb, eqb-true, le-leb}
use Rattle.std.specs.Bool.{then_some}
use Rattle.std.specs.Cmp.Lexicographic.{bytes_decides, pointwise_decides}
use Rattle.std.specs.List.{list_any}
use Rattle.byteorder.specs.Endian.{big_from}
use Rattle.channel_model.specs.Flight.{answer_to, answers, asks_only, equal_name}
use Rattle.channel_model.specs.Replies.{Reply, reply_with}
use Rattle.channel_model.specs.Verdict.{has_answer, verdict_of}
use Rattle.channel_model.specs.declared.judged.Judged.{Judged}
use Rattle.dns_message.proofs.Theorems.{message_is_spelled, one_test}
use Rattle.dns_message.specs.Grammar.{Spells}
use Rattle.dns_message.specs.Numbers.{has_bit}
use Rattle.dns_message.specs.Reading.{message_read}
use Rattle.dns_message.specs.declared.fault.MessageFault.{MessageFault}
use Rattle.dns_message.specs.declared.message.Message.{Message}
use Rattle.dns_message.specs.declared.message.Question.{Question}
use Rattle.dns_message.specs.declared.message.Record.{Record}
use Rattle.dns_message.specs.declared.name.Name.{Name}
use Rattle.edns_opt.specs.Reading.{opt_of}
use Rattle.edns_opt.specs.declared.fault.EdnsFault.{EdnsFault}
use Rattle.edns_opt.specs.declared.opt.Opt.{Opt}
use Rattle.message_walk.specs.Matching as walk
use Rattle.message_walk.specs.Outlines.{outline_of, outlined}
use Rattle.message_walk.specs.Sections.{is_wanted, opt_told}
use Rattle.resolv_options.specs.declared.flags.Flags.{Flags}
use Rattle.query_machine.specs.Replies.{may_answer, verdict_by}

-- what says whether names are equal is the test of it
pub equal_is : (r : Bool) (name other : Name) → (IsTrue r ↔ (name ≡ other)) → r ≡ equal_name name other
equal_is r name other says = one_test r _ says (pointwise_decides bytes_decides name other)

-- a list that has a question alone has one question
asks_one : (exact : Bool) (asked : Option Question) (questions : List Question) → asks_only exact asked questions ≡ true → length questions ≡ 1
asks_one exact None questions h = absurd (cc h)
asks_one exact (Some asked) [] h = absurd (cc h)
asks_one exact (Some asked) (question ∷ []) h = refl
asks_one exact (Some asked) (question ∷ another ∷ rest) h = absurd (cc h)

-- an outline's question is the model's
same_asks : (exact : Bool) (asked : Question) (questions : List Question) → walk.asks_only exact asked questions ≡ asks_only exact (Some asked) questions
same_asks exact asked [] = refl
same_asks exact asked (question ∷ []) = refl
same_asks exact asked (question ∷ another ∷ rest) = refl

-- and its answers are
same_answers : (wanted : Option ℕ) (records : List Record) → list_any (is_wanted wanted) records ≡ has_answer wanted records
same_answers None [] = refl
same_answers None (rr ∷ records) = refl
same_answers (Some kind) records = refl

module _ (id : ℕ) (exact : Bool) (asked : Option Question) (bytes : List ℕ) where
  -- a message that answers shows it in the header of its bytes
  shown : (m : Message) → Spells bytes m → answers id exact asked m ≡ true → may_answer id bytes ≡ true
  shown m spells h =
      let last = and_parts _ _ h in
      let third = and_parts _ _ last.0 in
      let second = and_parts _ _ third.0 in
      let ided : big_from 0 2 bytes ≡ id = sym spells.id ∙ eqb-true m.id id second.0 in
      let response : has_bit 15 (big_from 2 2 bytes) ≡ true = ap (has_bit 15) (sym spells.flags) ∙ second.1 in
      let standard : ((big_from 2 2 bytes / 2 ^ 11) % 16 == 0) ≡ true = ap (λ flags. (flags / 2 ^ 11) % 16 == 0) (sym spells.flags) ∙ third.1 in
      let one : big_from 4 2 bytes ≡ 1 = sym spells.question_count ∙ asks_one exact asked m.questions last.1 in
      and_from _ _ (and_from _ _ (and_from _ _ (and_from _ _ (le-leb 12 (length bytes) spells.header) (eq-eqb _ _ ided)) response) standard) (eq-eqb _ _ one)

  -- where the header doesn't show it, a message that was read is no answer
  unshown : (m : Message) → may_answer id bytes ≡ false → Spells bytes m → answers id exact asked m ≡ false
  unshown m none spells = by_test (answers id exact asked m) refl
    where
      by_test : (b : Bool) → answers id exact asked m ≡ b → b ≡ false
      by_test true is = absurd (let t : true ≡ false = sym (shown m spells is) ∙ none in cc)
      by_test false is = refl

  -- bytes whose header doesn't show it answer nothing
  pub unseen : may_answer id bytes ≡ false → answer_to id exact asked bytes ≡ None
  unseen none = by_read (message_read bytes) refl
    where
      by_opt : (m : Message) (opt : Result (Option Opt) EdnsFault) → Spells bytes m → option_and_then (λ reply. then_some (answers id exact asked reply.message) reply) (reply_with m opt) ≡ None
      by_opt m (Ok opt) spells = rw (unshown m none spells) refl
      by_opt m (Err fault) spells = refl

      by_read : (read : Result Message MessageFault) → message_read bytes ≡ read → answer_to id exact asked bytes ≡ None
      by_read (Ok m) is = rw is (by_opt m (opt_of m) (message_is_spelled bytes m is))
      by_read (Err fault) is = rw is refl

  -- where the header shows it, a message answers if it asks the question alone
  answers_by : (m : Message) → may_answer id bytes ≡ true → Spells bytes m → answers id exact asked m ≡ asks_only exact asked m.questions
  answers_by m seen spells =
      let fourth = and_parts _ _ seen in
      let third = and_parts _ _ fourth.0 in
      let second = and_parts _ _ third.0 in
      let first = and_parts _ _ second.0 in
      let ided : (m.id == id) ≡ true = ap (λ found. found == id) spells.id ∙ first.1 in
      let response : has_bit 15 m.flags ≡ true = ap (has_bit 15) spells.flags ∙ second.1 in
      let standard : ((m.flags / 2 ^ 11) % 16 == 0) ≡ true = ap (λ flags. (flags / 2 ^ 11) % 16 == 0) spells.flags ∙ third.1 in
      rw (ided, response, standard) refl

module _ (id : ℕ) (exact : Bool) (asked : Question) (flags : Flags) (tcp edns : Bool) (wanted : Option ℕ) (bytes : List ℕ) (seen : may_answer id bytes ≡ true) where
  -- the verdict on the reply, and that on its outline
  abbrev by_reply : Option Reply → Option Judged
  by_reply reply = option_map (verdict_of flags tcp edns wanted) reply

  -- an outline means what its message does
  told : (m : Message) (opt : Option Opt) (asks : Bool) → m.flags ≡ big_from 2 2 bytes
      → option_map (verdict_by flags tcp edns (big_from 2 2 bytes)) (cond asks (outlined (has_answer wanted m.answers) (opt_told (Ok opt))) None) ≡ by_reply (then_some asks (record { message = m; opt = opt }))
  told m None true same = rw (← same) refl
  told m (Some opt) true same = rw (← same) refl
  told m opt false same = refl

  -- what the bytes mean is what their outline does
  pub outline_means : option_map (verdict_by flags tcp edns (big_from 2 2 bytes)) (outline_of exact asked wanted (message_read bytes)) ≡ by_reply (answer_to id exact (Some asked) bytes)
  outline_means = by_read (message_read bytes) refl
    where
      by_opt : (m : Message) (opt : Result (Option Opt) EdnsFault) → Spells bytes m
          → option_map (verdict_by flags tcp edns (big_from 2 2 bytes)) (cond (asks_only exact (Some asked) m.questions) (outlined (has_answer wanted m.answers) (opt_told opt)) None)
          ≡ by_reply (option_and_then (λ reply. then_some (answers id exact (Some asked) reply.message) reply) (reply_with m opt))
      by_opt m (Ok opt) spells = rw (answers_by id exact (Some asked) bytes m seen spells) (told m opt (asks_only exact (Some asked) m.questions) spells.flags)
      by_opt m (Err fault) spells = nothing (asks_only exact (Some asked) m.questions) where
        nothing : (asks : Bool) → option_map (verdict_by flags tcp edns (big_from 2 2 bytes)) (cond {A = Option _} asks None None) ≡ None
        nothing true = refl
        nothing false = refl

      by_read : (read : Result Message MessageFault) → message_read bytes ≡ read → option_map (verdict_by flags tcp edns (big_from 2 2 bytes)) (outline_of exact asked wanted (message_read bytes)) ≡ by_reply (answer_to id exact (Some asked) bytes)
      by_read (Ok m) is = rw (is, same_asks exact asked m.questions, same_answers wanted m.answers) (by_opt m (opt_of m) (message_is_spelled bytes m is))
      by_read (Err fault) is = rw is refl
