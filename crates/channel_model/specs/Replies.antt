-- What bytes that came say: a message with what its OPT record says (RFC 1035, section 4.1; RFC 6891, section 6.1), or nothing.
use Rattle.std.specs.Prelude.{Option, Result, Ok, Some, Err, None, List, ℕ}
use Rattle.dns_message.specs.Reading.{message_read}
use Rattle.dns_message.specs.declared.fault.MessageFault.{MessageFault}
use Rattle.dns_message.specs.declared.message.Message.{Message}
use Rattle.edns_opt.specs.Reading.{opt_of}
use Rattle.edns_opt.specs.declared.fault.EdnsFault.{EdnsFault}
use Rattle.edns_opt.specs.declared.opt.Opt.{Opt}

-- a message, and what its OPT record says if it has one
pub record Reply : Type 0 where
  pub message : Message
  pub opt : Option Opt

-- the message with what its OPT record says, or nothing where that can't be read
abbrev pub reply_with : Message → Result (Option Opt) EdnsFault → Option Reply
reply_with message (Ok opt) = Some (record { message = message; opt = opt })
reply_with message (Err fault) = None

-- what was read, with what its OPT record says; nothing where nothing was read
abbrev pub reply_of : Result Message MessageFault → Option Reply
reply_of (Ok message) = reply_with message (opt_of message)
reply_of (Err fault) = None

-- what the bytes say
abbrev pub read_reply : List ℕ → Option Reply
read_reply bytes = reply_of (message_read bytes)
