use Rattle.dns_message.proofs.WrittenLemmas.{written_is_spelled, written_is_read}
use Rattle.dns_message.proofs.grammar_laws.written_messages_read_back.Goals as goal

pub returns-clause-spelled : goal.returns-clause-spelled
returns-clause-spelled c = written_is_spelled

pub returns-clause-read : goal.returns-clause-read
returns-clause-read c = written_is_read
