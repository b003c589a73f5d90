-- The answer of an Address request's candidate, by the answers of its legs' replies. channel_model's `merged` and `merged_one` say the same by the replies' bytes.
use Rattle.std.specs.Prelude.{ℕ, Bool, List, [], ◌++◌, Option, None, Some, if◌then◌else◌}
use Rattle.chan_types.specs.declared.answer.Answer.{Answer}
use Rattle.chan_types.specs.declared.status.Status.{Status}
use Rattle.chan_types.specs.declared.status.Status.TheVariants.{Success}
use Rattle.dns_message.specs.declared.message.Record.{Record}
use Rattle.dns_message.specs.declared.name.Name.{Name}
use Rattle.net_addr.specs.declared.addr.Addr.{Addr}
use Rattle.channel_model.specs.Merge.{same_status, bare, found, addresses_v4, addresses_v6, canonical_name, status_of_both}
use Rattle.channel_model.specs.Setting.{Setting}
use Rattle.channel_model.specs.Verdict.{has_item}
use Rattle.addr_lookup.specs.Ends.{counted}
use Rattle.addr_lookup.specs.declared.leg_end.LegEnd.{LegEnd}
use Rattle.addr_lookup.specs.declared.leg_end.LegEnd.TheVariants.{Unused, Ended}

module _ (channel : Setting) where
  -- the answer of one leg that ended with this status, whose addresses are these of its records
  abbrev pub answer_of_one : ℕ → Bool → Name → (List Record → List Addr) → Status → List Record → Answer
  answer_of_one request nosort candidate addresses status records =
      if same_status status Success then found channel request nosort (addresses records) (canonical_name candidate records) else bare request status []

  -- the answer of two legs that give no address with this status: the addresses of the first leg's records that count, then of the second's; the name is that of the first leg's records where they have an address
  abbrev pub answer_of_both : ℕ → Bool → Name → Status → List Record → List Record → Answer
  answer_of_both request nosort candidate status four six =
      let addresses = addresses_v4 four ++ addresses_v6 six in
      let naming = (if has_item (addresses_v4 four) then four else six) in
      if has_item addresses then found channel request nosort addresses (canonical_name candidate naming) else bare request status []

  -- the answer of a candidate whose legs ended so, if it has a leg
  abbrev pub answer_of_legs : ℕ → Bool → Name → LegEnd → LegEnd → Option Answer
  answer_of_legs request nosort candidate Unused Unused = None
  answer_of_legs request nosort candidate (Ended status records) Unused = Some (answer_of_one request nosort candidate addresses_v4 status records)
  answer_of_legs request nosort candidate Unused (Ended status records) = Some (answer_of_one request nosort candidate addresses_v6 status records)
  answer_of_legs request nosort candidate (Ended left four) (Ended right six) =
      Some (answer_of_both request nosort candidate (status_of_both left right) (counted (Ended left four)) (counted (Ended right six)))
