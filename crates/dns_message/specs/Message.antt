-- What the types of messages hold: names that are names, and numbers of 16 bits and of 32 (RFC 1035, section 4.1).
use Rattle.std.specs.Prelude.{◌^◌, ◌<◌}
use Rattle.std.specs.List.{AllByRecursion}
use Rattle.dns_message.specs.Name.{IsName}
use Rattle.dns_message.specs.declared.message.Question.{Question}
use Rattle.dns_message.specs.declared.message.Record.{Record}
use Rattle.dns_message.specs.declared.message.Message.{Message}

-- what a question's types hold: its name is a name, and its numbers have 16 bits
pub record IsQuestion (question : Question) : Type 0 where
  pub name : IsName question.name
  pub kind : question.kind < 2 ^ 16
  pub class : question.class < 2 ^ 16

-- what a record's types hold: its name is a name, and its numbers have 16 bits and 32
pub record IsRecord (rr : Record) : Type 0 where
  pub name : IsName rr.name
  pub kind : rr.kind < 2 ^ 16
  pub class : rr.class < 2 ^ 16
  pub ttl : rr.ttl < 2 ^ 32

-- identifier and flags have 16 bits
pub record HasTypedHeader (m : Message) : Type 0 where
  pub id : m.id < 2 ^ 16
  pub flags : m.flags < 2 ^ 16

-- the items of each section are what their types say
pub record HasTypedSections (m : Message) : Type 0 where
  pub questions : AllByRecursion IsQuestion m.questions
  pub answers : AllByRecursion IsRecord m.answers
  pub authorities : AllByRecursion IsRecord m.authorities
  pub additionals : AllByRecursion IsRecord m.additionals

-- what a message's types hold
pub record IsMessage (m : Message) : Type 0 where
  pub header : HasTypedHeader m
  pub sections : HasTypedSections m
