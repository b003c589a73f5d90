-- What a table of a channel's requests, a thread under a lock and a run cite of this crate's proofs. Each lemma stands where its name is brought from, with its sentence.
-- A longer journal.
pub use Rattle.channel_model.proofs.JournalLemmas.{IsLawfulPast-before, fate-one, followed_by-append, lawful_push, past_of-prefix, past_of-push}
-- Calls of a desk, one after the other.
pub use Rattle.channel_model.proofs.DeskLemmas.{adds_goes_on, call_goes_on, calls_stretch, goes_on_refl, goes_on_trans, own-append, own-others, own_added, own_stays}
-- The names of tokens, from entry to entry.
pub use Rattle.channel_model.proofs.NameLemmas.{name_kept_by_insert, name_kept_by_remove, name_put, names_stay_behind, names_stay_refl, names_stay_trans, unknown_gives, unknown_keeps}
-- Legs in flight and waiting, in any past and in a lawful one.
pub use Rattle.channel_model.proofs.FlightLemmas.{begun_or-other, each_flies, flight-cases, flight-leg, flight-started, has_leg-new, in_flight-none, is_leg-itself, is_leg-says, unless_closed-says}
pub use Rattle.channel_model.proofs.LawfulLemmas.{Waits, each_waits, ended_lands, first_waits, flies_by_position, flight_open, idle_says, legs_of_request, none_says, one_leg, start_allowed, start_idle, waits_says}
-- One leg behind an entry: one that spares it, one that closes its attempt, its Start, and any where it is idle.
pub use Rattle.channel_model.proofs.LegLemmas.{Spares, accept_spares, arrive_spares, begun-flight, closed-closings, closed-flight, closed-forced, expire_spares, fault_spares, forced_behind-spared, idle-closings, idle-end, idle-forced, if_any, if_left-spared, if_none, if_that, spared-closings, spared-deadline, spared-end, spared-flight, spared-forced, spares_by, start_spares, take_spares, unless_closed-spared, with_closing-spared}
-- All that a past says of a leg, as one value, behind each of these.
pub use Rattle.channel_model.proofs.LegFactsLemmas.{begun-facts, begun-sets_none, closed-end, closed-facts, set-end, set-facts, spared-facts, spent-more, unjudged-end}
-- Requests behind an entry: accepted, pending, completed and ready.
pub use Rattle.channel_model.proofs.CompletionLemmas.{asked_at_most_once, asked_once, cancel_completes, cancelled, completed_asked, completes_once, destroy_completes, destroyed, filter_all, filter_none, front_number, requests_numbered, taken_once, taken_then_ready}
pub use Rattle.channel_model.proofs.RequestLemmas.{accepted-none, asking_no_answer, completed-behind, fate-kept, filter-same, open_behind, pending-behind, pending-kept, pending_once, query_answer, ready-behind, ready-kept, request_of-later, requests-none, script_of-later, servers-pending, servers-ready, spec_of-later, stand_of-same, start-pending, start-ready, take-pending, take-ready}
-- An Accept: nothing in a lawful past is about its number.
pub use Rattle.channel_model.proofs.AcceptLemmas.{accept-completed, accept-fate, accept-pending, accept-ready, accept-request, accept-requests, asked_waits, new_if_none, new_if_some, next_unasked, unasked_closings, unasked_fate, unasked_flight}
-- All attempts in flight, in whatever order, and lists with the same items.
pub use Rattle.channel_model.proofs.IdentifierLemmas.{all_used_many}
pub use Rattle.channel_model.proofs.InFlightLemmas.{any_none, any_some, as_many-any, as_many-filter, as_many-length, as_many-refl, count-filter, in_flight-begun, in_flight-closed, started-again, started-kept, started-new, started-says, started_once, times}
pub use Rattle.channel_model.proofs.DueLemmas.{as_many-map, least-same}
-- Keys of servers, the servers of attempts, and lists that no entry sets.
pub use Rattle.channel_model.proofs.KeyLemmas.{AllUpTo, found_each, keys_differ, keys_given, may_set, rekeyed-addresses, rekeyed-differ, set_allowed}
pub use Rattle.channel_model.proofs.ServerLemmas.{AreListed, if_left-says, least_in_list, listed, open_leaves, servers_some, used_in, used_some}
pub use Rattle.channel_model.proofs.OpeningServersLemmas.{forced_by_last, no_set-leaves, no_set-left, no_set-servers, none_mixed, opening_stays}
-- Failures of servers behind an entry.
pub use Rattle.channel_model.proofs.FailureLemmas.{counts-changed, counts-kept, counts-set, counts-unjudged, failing-is, failures-changed, failures-entered, failures-kept, failures-unjudged, failures_of_list-follow, map-from_place, no_set-enters}
-- Links of attempts over TCP.
pub use Rattle.channel_model.proofs.LinkLemmas.{one_link, tcp_link-is}
pub use Rattle.channel_model.proofs.LinkChoiceLemmas.{chosen_link-cases, greatest_link-above, new_link-fresh, tcp_link-cases}
-- Commands of callbacks.
pub use Rattle.channel_model.proofs.CommandLemmas.{each_is_accepted}
pub use Rattle.channel_model.proofs.PerformanceLemmas.{all_became_append, all_became_longer, position_after}
-- The order of addresses.
pub use Rattle.channel_model.proofs.SortingLemmas.{sorted_is}
-- Journals and logs that agree, those that agree but for what want of memory cut off, and the frames of messages on a link.
pub use Rattle.channel_model.proofs.TrafficLemmas.{agrees_none, agrees_trans, agrees_whole, held_after-append, noted-append, noted_one, told-append}
pub use Rattle.channel_model.proofs.NoticeLemmas.{fault-behind, same_notices, told-one, told-quiet}
pub use Rattle.channel_model.proofs.CutLemmas.{agrees_nearly, nearly_behind}
pub use Rattle.channel_model.proofs.FrameLemmas.{head-messages_in, left_in-append, messages_in-append, messages_in-framed, part-left_in, part-messages_in, whole-messages_in}
-- Call by call: a call and the entries that note it, entries of others, pieces of a link, and what goes out.
pub use Rattle.channel_model.proofs.StepLemmas.{AreOthers, agrees_calls, agrees_datagram, agrees_expire, agrees_nothing, agrees_serve, agrees_step, moved, noted-others, noted-own, others_are}
pub use Rattle.channel_model.proofs.PieceLemmas.{Brings, agrees_piece, agrees_written, without_taken}
-- Turns, and courses of turns.
pub use Rattle.channel_model.proofs.TurnLemmas.{now_agrees, part_agrees, parts_agree, turn_agrees, turn_of}
pub use Rattle.channel_model.proofs.CourseLemmas.{course_agrees, rounds_agree, serves_agree}
pub use Rattle.channel_model.proofs.SoonLemmas.{anywhere-end, holds-anywhere, holds-end, holds-grows, holds-here, holds-somewhere, holds-then}
pub use Rattle.channel_model.proofs.CutCourseLemmas.{so_far_nearly}
pub use Rattle.channel_model.proofs.OrderLemmas.{receives_first}
pub use Rattle.channel_model.proofs.ReadingLemmas.{course_reads, course_receives, so_far_reads}
-- How often an item stands in a list, and what holds of each item.
pub use Rattle.channel_model.proofs.CountLemmas.{occurrences-append}
pub use Rattle.channel_model.proofs.ListLemmas.{each-append, each-then}
