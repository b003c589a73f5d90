-- When two questions are the same (RFC 1035, section 4.1.2; ignoring ASCII case by RFC 4343, section 3).
use Rattle.std.specs.Prelude.{◌≡◌, Bool, ◌&&◌, ◌==◌}
use Rattle.dns_message.specs.Name.{SameName, same_name}
use Rattle.dns_message.specs.declared.message.Question.{Question}

-- the two questions are the same: they have the same name, ignoring ASCII case, and the same kind and class
pub record SameQuestion (question other : Question) : Type 0 where
  pub name : SameName question.name other.name
  pub kind : question.kind ≡ other.kind
  pub class : question.class ≡ other.class

-- the test whether two questions are the same
abbrev pub same_question : Question → Question → Bool
same_question question other = same_name question.name other.name && question.kind == other.kind && question.class == other.class
