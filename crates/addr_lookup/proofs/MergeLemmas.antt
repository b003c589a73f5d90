-- The answer by the answers of replies is the answer by the replies' bytes.
use Rattle.std.proofs.Common.{◌≡◌, ℕ, List, Bool, true, false, Some, Result, Ok, Err, refl, ap, subst, ◌∙◌}
use Rattle.std.specs.Prelude.{IfOk, IsTrue, if◌then◌else◌, []}
use Rattle.chan_types.specs.declared.answer.Answer.{Answer}
use Rattle.chan_types.specs.declared.status.Status.{Status}
use Rattle.chan_types.specs.declared.status.Status.TheVariants.{Success}
use Rattle.dns_message.specs.declared.message.Record.{Record}
use Rattle.dns_message.specs.declared.name.Name.{Name}
use Rattle.net_addr.specs.declared.addr.Addr.{Addr}
use Rattle.channel_model.specs.LegEnd.{LegEnd as Ending}
use Rattle.channel_model.specs.Merge.{same_status, answers_of, records_of, merged, merged_one, addresses_v4, addresses_v6, status_of_both, found, bare, canonical_name}
use Rattle.channel_model.specs.Setting.{Setting}
use Rattle.addr_lookup.specs.Ends.{IsEnd, counted}
use Rattle.addr_lookup.specs.Merging.{answer_of_one, answer_of_both, answer_of_legs}
use Rattle.addr_lookup.specs.declared.leg_end.LegEnd.{LegEnd}
use Rattle.addr_lookup.specs.declared.leg_end.LegEnd.TheVariants.{Unused, Ended}

-- the records that count of a leg are those that the journal gives its end
counted_is : (status : Status) (records : List Record) (end : Ending) → IsEnd (Ended status records) end → counted (Ended status records) ≡ records_of end
counted_is status records end is =
    subst (λ (s : Status). (if same_status status Success then records else []) ≡ (if same_status s Success then answers_of end.reply else [])) is.0 (tested (same_status status Success) is.1) where
      tested : (test : Bool) → (IsTrue test → records ≡ answers_of end.reply) → (if test then records else []) ≡ (if test then answers_of end.reply else [])
      tested true same = same refl
      tested false same = refl

-- one value is in both
same_in : {A : Type 0} (x y : A) → Some x ≡ Some y → y ≡ x
same_in x y e = cc

module _ (channel : Setting) (request : ℕ) (nosort : Bool) (candidate : Name) where
  -- of both legs
  pub both_is : (left right : LegEnd) (first second : Ending) (answer : Answer) → IsEnd left first → IsEnd right second
      → answer_of_legs channel request nosort candidate left right ≡ Some answer → answer ≡ merged channel request nosort candidate first second
  both_is Unused right first second answer l r is = absurd l
  both_is (Ended s four) Unused first second answer l r is = absurd r
  both_is (Ended s four) (Ended t six) first second answer l r is =
      same_in _ answer is
      ∙ ap (λ status. of_both (status_of_both status t) (counted (Ended s four)) (counted (Ended t six))) l.0
      ∙ ap (λ status. of_both (status_of_both first.status status) (counted (Ended s four)) (counted (Ended t six))) r.0
      ∙ ap (λ records. of_both (status_of_both first.status second.status) records (counted (Ended t six))) (counted_is s four first l)
      ∙ ap (of_both (status_of_both first.status second.status) (records_of first)) (counted_is t six second r) where
        of_both : Status → List Record → List Record → Answer
        of_both status records others = answer_of_both channel request nosort candidate status records others

  -- of one leg
  one_is : (addresses : List Record → List Addr) (status : Status) (records : List Record) (end : Ending) → IsEnd (Ended status records) end
      → answer_of_one channel request nosort candidate addresses status records ≡ merged_one channel request nosort candidate addresses end
  one_is addresses status records end is =
      subst (λ (s : Status). answer_of_one channel request nosort candidate addresses status records ≡ answer_of_one channel request nosort candidate addresses s (answers_of end.reply)) is.0
      (tested (same_status status Success) is.1) where
        of_records : List Record → Answer
        of_records rs = found channel request nosort (addresses rs) (canonical_name candidate rs)

        tested : (test : Bool) → (IsTrue test → records ≡ answers_of end.reply)
            → (if test then of_records records else bare request status []) ≡ (if test then of_records (answers_of end.reply) else bare request status [])
        tested true same = ap of_records (same refl)
        tested false same = refl

  -- of the first leg alone
  pub first_is : (left right : LegEnd) (end : Ending) (answer : Answer) → IsEnd left end → right ≡ Unused
      → answer_of_legs channel request nosort candidate left right ≡ Some answer → answer ≡ merged_one channel request nosort candidate addresses_v4 end
  first_is Unused right end answer l u is = absurd l
  first_is (Ended status records) right end answer l u is =
      same_in _ answer (subst (λ (r : LegEnd). answer_of_legs channel request nosort candidate (Ended status records) r ≡ Some answer) u is) ∙ one_is addresses_v4 status records end l

  -- of the second leg alone
  pub second_is : (left right : LegEnd) (end : Ending) (answer : Answer) → IsEnd right end → left ≡ Unused
      → answer_of_legs channel request nosort candidate left right ≡ Some answer → answer ≡ merged_one channel request nosort candidate addresses_v6 end
  second_is left Unused end answer r u is = absurd r
  second_is left (Ended status records) end answer r u is =
      same_in _ answer (subst (λ (l : LegEnd). answer_of_legs channel request nosort candidate l (Ended status records) ≡ Some answer) u is) ∙ one_is addresses_v6 status records end r

-- what is so of a good result in one way is so in another
pub over_ok : {A E : Type 0} (P Q : A → Type 0) (result : Result A E) → ((x : A) → P x → Q x) → IfOk result P → IfOk result Q
over_ok P Q (Ok x) so is = so x is
over_ok P Q (Err e) so is = tt
