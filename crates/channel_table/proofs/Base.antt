-- What most proofs here cite: the words of the specs, and the laws of the crates below.
pub use Rattle.std.proofs.Common.{Bool, Err, List, MatchOption, None, Ok, Option, Result, Some, [], ap, append_assoc, ap₂, arith, cond, deque_capacity, deque_len, drop, eq-eqb, eqb-true, false, get_or, inl, inr, length, map, ne_eqb, refl, subst, suc, sym, take, true, true≢false, zero, ℕ, ◌%◌, ◌*◌, ◌++◌, ◌+◌, ◌-◌, ◌<◌, ◌^◌, ◌∙◌, ◌∷◌, ◌≡◌, ◌≤◌}
pub use Rattle.std.proofs.lemmas.Bool.{and_parts, false_from_ne_true, false≢true, leb-false, or_parts}
pub use Rattle.std.proofs.lemmas.Bool.Decides.{nat_tests}
pub use Rattle.std.proofs.lemmas.Cmp.{nat_cmp_total}
pub use Rattle.std.proofs.lemmas.Grind.{flat_map-append}
pub use Rattle.std.proofs.lemmas.List.{append-nil, drop_more, get_or_read, length-append, length-map, length_push, map-append, set_split, take_all, take_more}
pub use Rattle.std.proofs.lemmas.List.Elements.{filter-append, filter_map-append}
pub use Rattle.std.proofs.lemmas.List.Folds.{list_any-append}
pub use Rattle.std.proofs.lemmas.List.Sums.{sum_by-append, sum_by-cons, sum_by_push}
pub use Rattle.std.specs.Bool.{then_some}
pub use Rattle.std.specs.List.{AllByRecursion, cons_option, list_any, range_with_len, sum_by}
pub use Rattle.std.specs.Option.{option_and_then, option_map_or, option_or}
pub use Rattle.std.specs.Ordering.{eq_by_cmp, is_le, nat_cmp, ordering_then}
pub use Rattle.std.specs.Prelude.{IfOk, IfSome, IsFalse, IsSomeAnd, codes, count_by, filter, filter_map, flat_map, if◌then◌else◌, is_none, is_some, max, min, nat_le, not, option_map, option_to_list, slice_get, unwrap_or, ⊤, ◌&&◌, ◌==◌, ◌||◌, ◌≢◌}
pub use Rattle.std.specs.Result.{IsErr}
pub use Rattle.std.specs.Vec.Iter.{into_iter_items, into_iter_len}
pub use Rattle.std.specs.declared.cmp.Ordering.{Ordering}
pub use Rattle.std.specs.declared.cmp.Ordering.TheVariants.{Equal, Greater, Less}
pub use Rattle.chan_types.specs.declared.answer.Answer.{Answer}
pub use Rattle.chan_types.specs.declared.journal.Entry.{Entry}
pub use Rattle.chan_types.specs.declared.journal.What.{What}
pub use Rattle.chan_types.specs.declared.journal.What.TheVariants.{Accept, Arrive, Cancel, Destroy, Expire, Fault, Servers, Start, Take}
pub use Rattle.chan_types.specs.declared.script.Script.{Script}
pub use Rattle.chan_types.specs.declared.server_key.ServerKey.{ServerKey}
pub use Rattle.chan_types.specs.declared.spec.Spec.{Spec}
pub use Rattle.chan_types.specs.declared.spec.Spec.TheVariants.{Address, Query, Reverse, Search}
pub use Rattle.chan_types.specs.declared.status.Status.{Status}
pub use Rattle.chan_types.specs.declared.status.Status.TheVariants.{BadName, Cancelled, ConnRefused, Destruction, NoData, NotFound, Success, TimedOut}
pub use Rattle.chan_types.specs.declared.ticket.Ticket.{Ticket}
pub use Rattle.channel_model.proofs.Theorems.{Spares, as_many-any, as_many-filter, as_many-length, asked_once, counts-kept, each-append, each-then, in_flight-closed, in_flight-none, is_leg-itself, is_leg-says, listed, next_unasked, no_set-servers, pending_once, request_of-later, script_of-later, servers_some, spec_of-later, started-kept, started-says}
pub use Rattle.channel_model.specs.AsMany.{HaveAsMany}
pub use Rattle.channel_model.specs.AtOnce.{at_once}
pub use Rattle.channel_model.specs.Choice.{Failing, deadline, greatest_link, link_of, wait_of}
pub use Rattle.channel_model.specs.Completion.{completed_by, fate, left_by, occurrences, pending, ready, requests, taken_by, waiting}
pub use Rattle.channel_model.specs.Flight.{Attempt, answer_to, answers, asked_with, begun_by, closes, flight, has_leg, in_flight, is_of_leg, started, unless_closed, went_over, with_leg}
pub use Rattle.channel_model.specs.Journal.{Accepted, Past, accepted, accepted_by, is_destroyed, past_of, script_of, spec_of}
pub use Rattle.channel_model.specs.Lawful.{Due, IsLawfulPast, MaySet, MayStart, first, first_due, is_before, least, least_due}
pub use Rattle.channel_model.specs.LegEnd.{LegEnd, end_of, ending_status, leg_end}
pub use Rattle.channel_model.specs.LegFacts.{LegFacts, facts_closed}
pub use Rattle.channel_model.specs.Legs.{Leg, candidate_of, is_leg, leg_of, legs_of}
pub use Rattle.channel_model.specs.Meanings.{Accepts, Arrives, Cancels, Destroys, Expires, Fails, Meaning, SetsServers, Starts, Takes, TellsBusy, TellsCounts, TellsDue}
pub use Rattle.channel_model.specs.Merge.{addresses_v4, addresses_v6, bare, found, merged, merged_one, same_status}
pub use Rattle.channel_model.specs.Past.{bytes_of, closing_of, closings, forced_server, has_opt, is_over_tcp, leg_query, outcome_of, spent, with_closing}
pub use Rattle.channel_model.specs.Questions.{candidates_of, name_of_text, question_for, question_of, wanted_kind}
pub use Rattle.channel_model.specs.Replies.{Reply}
pub use Rattle.channel_model.specs.Search.{any_empty, candidate_answer, goes_on, is_empty, search_answer}
pub use Rattle.channel_model.specs.Seen.{Happens}
pub use Rattle.channel_model.specs.Servers.{attempts, greatest_key, greatest_of, has_key, keyed_from, servers_at, servers_set_by}
pub use Rattle.channel_model.specs.Setting.{Setting}
pub use Rattle.channel_model.specs.Verdict.{has_item, verdict_of}
pub use Rattle.channel_model.specs.declared.answers.Begun.{Begun}
pub use Rattle.channel_model.specs.declared.answers.Begun.TheVariants.{Idle, NoId}
pub use Rattle.channel_model.specs.declared.answers.Landed.{Landed}
pub use Rattle.channel_model.specs.declared.answers.Landed.TheVariants.{Matched, Stray}
pub use Rattle.channel_model.specs.declared.answers.Lapse.{Lapse}
pub use Rattle.channel_model.specs.declared.answers.Lapse.TheVariants.{Expired, NotDue}
pub use Rattle.channel_model.specs.declared.answers.SetFault.{SetFault}
pub use Rattle.channel_model.specs.declared.judged.Judged.{Judged}
pub use Rattle.channel_model.specs.declared.judged.Judged.TheVariants.{Failed, Final, NextPlain, NextTcp}
pub use Rattle.dns_message.proofs.Theorems.{last_is_so}
pub use Rattle.dns_message.specs.Numbers.{class_in, kind_a, kind_aaaa}
pub use Rattle.dns_message.specs.Spelling.{message_bytes}
pub use Rattle.dns_message.specs.declared.message.Question.{Question}
pub use Rattle.dns_message.specs.declared.name.Name.{Name}
pub use Rattle.dns_message.specs.declared.name.NameText.{NameText}
pub use Rattle.item_list.specs.declared.no_memory.NoMemory.{NoMemory}
pub use Rattle.leg_index.specs.Links.{is_link, used}
pub use Rattle.leg_index.specs.Waiting.{Legs}
pub use Rattle.leg_index.specs.declared.links.LinkUse.{LinkUse}
pub use Rattle.net_addr.specs.declared.addr.Addr.{Addr}
pub use Rattle.net_addr.specs.declared.addr.Family.{Family}
pub use Rattle.net_addr.specs.declared.addr.ServerAddr.{ServerAddr}
pub use Rattle.query_machine.specs.Legs.{IsWaiting, flying_in, fresh_leg, leg_behind, phase_with, spent_with, status_in}
pub use Rattle.query_machine.specs.declared.leg.Flying.{Flying}
pub use Rattle.query_machine.specs.declared.leg.Phase.{Phase}
pub use Rattle.resolv_options.specs.Values.{AreWithinLimits}
pub use Rattle.resolv_options.specs.declared.flags.Flags.{Flags}
pub use Rattle.resolv_options.specs.declared.options.Options.{Options}
pub use Rattle.timeout_queue.proofs.Theorems.{key_cmp_total, tied_keys}
pub use Rattle.timeout_queue.specs.Key.{key_cmp}
pub use Rattle.timeout_queue.specs.Queue.{Deadlines, IsFirst}
pub use Rattle.timeout_queue.specs.declared.key.Key.{Key}
pub use Rattle.channel_table.specs.After.{after, answer_behind, has_next, last_status, lookups_behind, next_row}
pub use Rattle.channel_table.specs.Apart.{IsApart, NoneFlies}
pub use Rattle.channel_table.specs.Arriving.{FindsAt, RowFinds, judged_of, kind_wanted, lands_on, reply_for, row_lands}
pub use Rattle.channel_table.specs.Calling.{owned}
pub use Rattle.channel_table.specs.Counted.{AreCounted, begun_servers, faulted_servers, servers_behind}
pub use Rattle.channel_table.specs.DueLookups.{IsDueOf, is_due}
pub use Rattle.channel_table.specs.Ends.{Becomes, EndsAttempt, EndsRow, attempts_with}
pub use Rattle.channel_table.specs.Faulting.{AreMarked, FailsOver, IsSpared, IsUnanswered, answer_over, fails_at, kept_of, ticket_made}
pub use Rattle.channel_table.specs.Flown.{AreFlown, entry_by_id, entry_by_leg, key_of_lookup, value_at}
pub use Rattle.channel_table.specs.Forgotten.{begun_flown, concerns_second, ended_of, left_of, left_second}
pub use Rattle.channel_table.specs.Kept.{IsKept, setting_of}
pub use Rattle.channel_table.specs.Leaving.{flying_left, has_left, kept_in, left_in, leg_set, lookup_set, row_set}
pub use Rattle.channel_table.specs.Legs.{LegStands, attempt_of, facts_of, flown_by}
pub use Rattle.channel_table.specs.Linked.{AreLinked, HasOneLink, left_use, over_ended, over_left}
pub use Rattle.channel_table.specs.Listed.{IsListed, IsListedOver, IsRising, Keeps, key_of, some_waits, stays}
pub use Rattle.channel_table.specs.Lookups.{begun_lookup, closed_lookup, concerned_at, concerns, end_of_lookup, ended_seen, flew_over, flown_lookup, flying_of, flying_over, is_flying, is_forced, leg_of_lookup, lookup_behind, new_lookup, next_lookup, number_of_leg, waits, waits_of}
pub use Rattle.channel_table.specs.Opening.{AreAsked, Opens}
pub use Rattle.channel_table.specs.Places.{IsNewRow, Places}
pub use Rattle.channel_table.specs.Planning.{query_written, start_told}
pub use Rattle.channel_table.specs.Rows.{LookupStands, RowStands, StandFor, TableStands, TicketStands, all_lookups, answer_of_row, begun_row, ended_with, flown, forced_in, lookup_at, lookups, number_of, over_in, row_over, row_waits, ticket_number, waiting_in}
pub use Rattle.channel_table.specs.Searching.{are_passed}
pub use Rattle.channel_table.specs.Soonest.{IsSoonest, due_of_lookup, due_of_soonest, dues}
pub use Rattle.channel_table.specs.Starting.{BeginsRow, IsFree, IsIdle, WaitsAt, flying_id, has_id, link_on, link_with, links_on, row_has_id, row_links}
pub use Rattle.channel_table.specs.Strays.{IsNumbered, IsOnlyWith, id_of}
pub use Rattle.channel_table.specs.Tally.{IsTally, IsTallyLeft}
pub use Rattle.channel_table.specs.Tokens.{entries_of, row_entry, ticket_entry, tokens_of}
pub use Rattle.channel_table.specs.Wants.{answer_of_ends, first_number, is_of_addresses, setting_with, wanted_by}
pub use Rattle.channel_table.specs.declared.concerned.Concerned.{Concerned}
pub use Rattle.channel_table.specs.declared.concerned.Concerned.TheVariants.{Over}
pub use Rattle.channel_table.specs.declared.lookup.Asked.{Asked}
pub use Rattle.channel_table.specs.declared.lookup.Lookup.{Lookup}
pub use Rattle.channel_table.specs.declared.row.After.{After}
pub use Rattle.channel_table.specs.declared.row.After.TheVariants.{Ends, Stays}
pub use Rattle.channel_table.specs.declared.row.Row.{Row}
pub use Rattle.channel_table.specs.declared.table.Table.TheInside.{Inside}
pub use Rattle.channel_table.specs.declared.table.accepting.Opening.{Opening}
pub use Rattle.channel_table.specs.declared.table.accepting.Opening.TheVariants.{Answered, Asks}
pub use Rattle.channel_table.specs.declared.table.channel_servers.ChannelServers.{ChannelServers}
pub use Rattle.channel_table.specs.declared.table.flown.Flown.{Flown}
pub use Rattle.channel_table.specs.declared.table.landing.Landing.{Landing}
pub use Rattle.channel_table.specs.declared.table.marking.Mark.{Mark}
pub use Rattle.channel_table.specs.declared.table.seeking.Soonest.{Soonest}
pub use Rattle.channel_table.specs.declared.wanted.Wanted.{Wanted}
pub use Rattle.channel_table.specs.declared.wanted.Wanted.TheVariants.{Addresses}
