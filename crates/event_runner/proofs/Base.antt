-- What nearly every proof file here brings from elsewhere.
pub use Rattle.std.proofs.Common.{[], ⊎_elim, ◌&&◌, ◌*◌, ◌++◌, ◌+◌, ◌-◌, ◌<◌, ◌==◌, ◌||◌, ◌∙◌, ◌∷◌, ◌≡◌, ◌≢◌, ◌≤◌, Bool, List, Result, add-one, add-zero, ap, ap₂, arith, cond, drop, eq-eqb, eqb-true, false, filter, get_or, inl, inr, le-leb, length, length-append, length-take, map, nat_le, ne_eqb, refl, rules, set, subst, suc, sym, take, true, true≢false, vec_len, zero, ℕ}
pub use Rattle.std.proofs.lemmas.Bool.{and_from, and_parts, cases_Bool, or_parts}
pub use Rattle.std.proofs.lemmas.List.{append-nil, append_assoc, append_cancel_left, flat_map_more, map-append, take-append-drop}
pub use Rattle.std.proofs.lemmas.List.Elements.{filter-append, filter_map-append}
pub use Rattle.std.proofs.lemmas.List.Folds.{list_all-append, list_any-append}
pub use Rattle.std.proofs.lemmas.List.Sums.{sum_by-append, sum_by-cons}
pub use Rattle.std.specs.Bool.{then_some}
pub use Rattle.std.specs.List.{AllByRecursion, cons_option, list_all, list_any}
pub use Rattle.std.specs.Option.{option_map_or}
pub use Rattle.std.specs.Prelude.{⊤, ◌^◌, ◌⊎◌, All, Err, IfSome, IsSomeAnd, IsTrue, MatchOption, None, Ok, OnOk, Option, Some, count_by, filter_map, find, flat_map, is_err, is_none, is_some, min, nat_lt, not, option_map, option_to_list, slice_range, sum_by}
pub use mathlib.Core.List.{IsPrefix}
pub use Rattle.chan_types.specs.Plans.{blank}
pub use Rattle.chan_types.specs.declared.journal.Entry.{Entry}
pub use Rattle.chan_types.specs.declared.journal.What.{What}
pub use Rattle.chan_types.specs.declared.journal.What.TheVariants.{Accept, Arrive, Cancel, Destroy, Expire, Fault, Servers, Start, Take}
pub use Rattle.chan_types.specs.declared.refusal.Refusal.TheVariants.{Closed}
pub use Rattle.chan_types.specs.declared.script.Script.{Script}
pub use Rattle.chan_types.specs.declared.server_key.ServerKey.{ServerKey}
pub use Rattle.chan_types.specs.declared.spec.Spec.{Spec}
pub use Rattle.channel_model.proofs.Theorems.{AreOthers, Brings, agrees_calls, agrees_datagram, agrees_expire, agrees_nearly, agrees_none, agrees_nothing, agrees_piece, agrees_serve, agrees_step, agrees_trans, agrees_written, anywhere-end, call_goes_on, calls_stretch, chosen_link-cases, each-append, each_flies, fault-behind, flight-cases, flight-started, followed_by-append, goes_on_refl, goes_on_trans, head-messages_in, holds-anywhere, holds-end, holds-grows, holds-here, holds-then, in_flight-none, is_leg-says, lawful_push, left_in-append, messages_in-append, names_stay_behind, names_stay_refl, names_stay_trans, nearly_behind, new_link-fresh, noted-append, noted-others, noted-own, others_are, own-append, own-others, own_added, part-left_in, part-messages_in, past_of-push, same_notices, told-append, told-one, told-quiet, without_taken}
pub use Rattle.channel_model.specs.Calls.{Writing, received_by}
pub use Rattle.channel_model.specs.Choice.{chosen_link, greatest_link, is_on_tcp}
pub use Rattle.channel_model.specs.Completion.{completed_at, completed_by, is_open, pending, ready, waiting, waiting_of}
pub use Rattle.channel_model.specs.Course.{AreTurns, IsCourse, IsCourseSoFar, IsCutCourse, Rest, Round, Test, asides_of, calls_of, calls_of_rest, delivers_then, goes_on, has_no_turn, has_none_of, is_of_turn, is_timely, may_follow, readings, rests_there, serves_from, skips, soon, standing_after, waits_there, wakes_at}
pub use Rattle.channel_model.specs.CutShort.{FallsShort, MayLackOne, NearlyAgrees, NearlyInOrder}
pub use Rattle.channel_model.specs.Endings.{IsStalledBehind, LastWaitFailed, somewhere_behind, waited_by}
pub use Rattle.channel_model.specs.Flight.{Attempt, begun_by, closes, flight, has_leg, in_flight, started, went_over}
pub use Rattle.channel_model.specs.Frames.{framed, left_in, messages_in}
pub use Rattle.channel_model.specs.Journal.{Past, accepted, followed_by, is_destroyed, own_entries, past_of}
pub use Rattle.channel_model.specs.KeptLinks.{AreApart, Row, link_of_row}
pub use Rattle.channel_model.specs.Known.{Calls, GoesOn, IsSameDesk, Known}
pub use Rattle.channel_model.specs.Lawful.{Due, IsAllowed, IsLawful, IsLawfulPast, due_of, first_due, is_mixed, least}
pub use Rattle.channel_model.specs.Legs.{Leg, is_leg, leg_of}
pub use Rattle.channel_model.specs.Links.{Link, held_after, held_by, held_by_receive, held_link, told, with_bytes, without_link}
pub use Rattle.channel_model.specs.Meanings.{Accepts, Arrives, Cancels, Destroys, Expires, Fails, Meaning, SetsServers, Starts, Takes, TellsBusy, TellsCounts, TellsDue}
pub use Rattle.channel_model.specs.Names.{Names, NamesBecome, NamesStay}
pub use Rattle.channel_model.specs.Seen.{entries_of}
pub use Rattle.channel_model.specs.Servers.{has_key, keyed_from, opening_servers, servers_at}
pub use Rattle.channel_model.specs.Setting.{Setting}
pub use Rattle.channel_model.specs.Stretch.{Agrees, Standing, beginning, behind}
pub use Rattle.channel_model.specs.Traffic.{Notice, Parcel, Route, arrived, asked, brought, connects, datagrams, fault_received, faulted, faults, is_start_on, messages, messages_of, noted, noticed, notices, notices_of, of_datagram, of_fault, of_link, of_message, opened, query_bytes, queued, written}
pub use Rattle.channel_model.specs.Turn.{AreDrawn, HasBits, HasMade, HaveMade, IsCutTurn, IsTurn, MayLackServer, NoneDue, NoneStarts, Numbered, Part, all_parts, are_of, are_served_first, closes_held, closes_made, closing, draws, expired_in, expiring, if_held, is_among, is_at, is_busy, is_expire, is_flushed, is_looked_at, is_nothing, is_sent_to, is_start_to, last_took_nothing, losses, lost_receiving, most_entries, numbered, parts_before, parts_of_call, parts_of_entry, received_in, receives, receiving, served_by, serves, somewhere, started_in, starting, words_of_look, writes_astray, writing, wrotes}
pub use Rattle.channel_model.specs.declared.answers.Begun.TheVariants.{Idle, NoId, Started}
pub use Rattle.channel_model.specs.declared.answers.Landed.{Landed}
pub use Rattle.channel_model.specs.declared.answers.Landed.TheVariants.{Matched, Stray}
pub use Rattle.channel_model.specs.declared.answers.Lapse.TheVariants.{Expired, NotDue}
pub use Rattle.channel_model.specs.declared.answers.SetFault.TheVariants.{Closed as ChannelClosed}
pub use Rattle.item_list.specs.declared.no_memory.NoMemory.{NoMemory}
pub use Rattle.net_addr.specs.declared.addr.ServerAddr.{ServerAddr}
pub use Rattle.net_world.specs.Logs.{LogGets, Logs}
pub use Rattle.net_world.specs.Script.{MayCome}
pub use Rattle.net_world.specs.declared.answers.Got.{Got}
pub use Rattle.net_world.specs.declared.answers.Got.TheVariants.{Datagram, Ended, Failed as LinkFailed, Nothing, Piece}
pub use Rattle.net_world.specs.declared.answers.Sent.{Sent}
pub use Rattle.net_world.specs.declared.answers.Sent.TheVariants.{Failed as NotSent, Sent as WasSent}
pub use Rattle.net_world.specs.declared.answers.Waited.{Waited}
pub use Rattle.net_world.specs.declared.answers.Waited.TheVariants.{Failed as NotWaited}
pub use Rattle.net_world.specs.declared.answers.Wrote.{Wrote}
pub use Rattle.net_world.specs.declared.answers.Wrote.TheVariants.{Count, Failed as NotWritten}
pub use Rattle.net_world.specs.declared.log.WorldCall.{WorldCall}
pub use Rattle.net_world.specs.declared.log.WorldCall.TheVariants.{Close, Connect, Now, Receive, Send, Serve, Wait, Word, Write}
pub use Rattle.resolv_options.specs.Lasts.{last_or}
pub use Rattle.event_runner.specs.ClosedDesk.{IsClosed, known_of, plain_setting}
pub use Rattle.event_runner.specs.Delivering.{Delivers, HasDelivered, HasDeliveredSome, NoteArrivals}
pub use Rattle.event_runner.specs.Frames.{EndsAt, IsUncut}
pub use Rattle.event_runner.specs.Goes.{AreMadeInTurns, Break, Ends, Goes, Leads, Leaves, Stops, Stretch, is_made_in_turn}
pub use Rattle.event_runner.specs.Parts.{Asks, Begins, BeginsNone, ClosesUpTo, Counts, CutAsking, CutBeginning, CutHearing, CutLook, CutPart, CutWriting, FlushEnds, Flushes, Hears, HearsNothing, LinksApart, LooksAt, MakesPart, NearlyServes, NearlyWithin, Within, Writes, WritesAt, WritesTo, WritesUpTo, is_closed, is_done, with_row, words_of}
pub use Rattle.event_runner.specs.Rows.{IsAt}
pub use Rattle.event_runner.specs.Running.{HasLooked, HasSkipped, HasWaited, Opens, Pauses, PausesBy, Running, run_of, wakes_by}
pub use Rattle.event_runner.specs.State.{Draws, DrawsIf, Gets, HasTold, Holds, IsTurnOwner, State, serve_unless, state_of, told_with, was_told}
pub use Rattle.event_runner.specs.Turning.{IsCutShort, MakesTurn}
pub use Rattle.event_runner.specs.UnderWay.{IsSoFar, IsUnderWay, RanSince, Reach, RunsSince, awaiting, delivered, following, has_come, rested, turned}
pub use Rattle.event_runner.specs.declared.answers.Paused.{Paused}
pub use Rattle.event_runner.specs.declared.answers.Paused.TheVariants.{Skipped, WaitFault, Woken}
pub use Rattle.event_runner.specs.declared.answers.Turned.{Turned}
pub use Rattle.event_runner.specs.declared.kept.Kept.{Kept}
