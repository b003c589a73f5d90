-- What crates above may cite of this crate's lemmas. The other files of this folder may change at any time.

-- each test is true exactly where what it tests holds
pub use Rattle.dns_message.proofs.TestLemmas.{same_name_says, same_is, last_is_says, last_is_so, same_question_says, well_formed_says, is_valid_says, one_test}
pub use Rattle.dns_message.proofs.PieceLemmas.{name_passes}
-- how long names, questions, records and messages are
pub use Rattle.dns_message.proofs.NameLemmas.{wire_append, wire_some}
pub use Rattle.dns_message.proofs.WireLemmas.{labels_length, same_labels, same_bytes}
pub use Rattle.dns_message.proofs.SpellingLemmas.{name_length, question_length, record_length, message_length}
-- a name in mixed case is a name, the same name, and as long
pub use Rattle.dns_message.proofs.MixingLemmas.{mixed_is_name, mixed_is_same, mixed_is_long}
-- reading gives exactly what is spelled, ends exactly at the first fault, and reads back what is written
pub use Rattle.dns_message.proofs.GrammarLemmas.{reading_spells, message_is_spelled}
pub use Rattle.dns_message.proofs.FirstFaultLemmas.{reading_ends, nothing_is_a_fault}
pub use Rattle.dns_message.proofs.WrittenLemmas.{written_is_spelled, written_is_read}
-- the same of a name alone, and what it is that bytes stand at an offset
pub use Rattle.dns_message.proofs.RunGrammarLemmas.{name_is_read}
pub use Rattle.dns_message.proofs.WrittenLemmas.{name_written}
pub use Rattle.dns_message.proofs.PartLemmas.{stands_from}
-- how a name is read run by run, and how items are read one by one
pub use Rattle.dns_message.proofs.RunLemmas.{name_from, name_whole, name_stops, name_root, name_bad, name_on, ending, ending_none, ending_some, after_fits}
pub use Rattle.dns_message.proofs.WireLemmas.{labels_back, run_none, run_short}
pub use Rattle.dns_message.proofs.ItemLemmas.{items_more, items_stop, items_end, prefixed}
pub use Rattle.dns_message.proofs.StepLemmas.{bind_first, bind_stops, bind_ok, bind_err, part_is, part_cut}
-- the same of texts
pub use Rattle.dns_message.proofs.AgreementLemmas.{readings_agree, labels_readings_agree}
pub use Rattle.dns_message.proofs.TextFaultLemmas.{text_ends, labels_end}
pub use Rattle.dns_message.proofs.PrintingLemmas.{printed_back}
