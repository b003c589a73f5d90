-- What a request comes to at its Accept.
use Rattle.std.specs.Prelude.{Bool, List, None, Option, Some, [], codes, false, true, ℕ, ◌∷◌, ◌≡◌}
use Rattle.chan_types.specs.declared.spec.Spec.{Spec}
use Rattle.chan_types.specs.declared.spec.Spec.TheVariants.{Address, Query, Reverse, Search}
use Rattle.chan_types.specs.declared.status.Status.TheVariants.{BadName, NotFound}
use Rattle.dns_message.specs.Name.{last_is}
use Rattle.dns_message.specs.NameText.{name_text}
use Rattle.dns_message.specs.Numbers.{class_in, kind_a, kind_aaaa, kind_ptr}
use Rattle.dns_message.specs.declared.message.Question.{Question}
use Rattle.dns_message.specs.declared.name.Name.{Name}
use Rattle.dns_message.specs.declared.name.NameText.{NameText}
use Rattle.net_addr.specs.Reverse.{reverse_labels}
use Rattle.net_addr.specs.declared.addr.Family.{Family}
use Rattle.resolv_options.specs.Search.{candidates}
use Rattle.channel_model.specs.AtOnce.{at_once}
use Rattle.channel_model.specs.Setting.{Setting}
use Rattle.resolv_options.specs.declared.options.Options.{Options}
use Rattle.channel_table.specs.Lookups.{asked_with_kind}
use Rattle.channel_table.specs.declared.table.accepting.Opening.{Opening}
use Rattle.channel_table.specs.declared.table.accepting.Opening.TheVariants.{Answered, Asks, Ends}

-- the question is for the first of these names, and those are the others
pub record AsksFirst (names : List Name) (kind class : ℕ) (question : Question) (rest : List Name) : Type 0 where
  pub are : names ≡ question.name ∷ rest
  pub of_kind : question.kind ≡ kind
  pub of_class : question.class ≡ class

-- the names are asked for, one after the other
abbrev pub AreAsked : List Name → ℕ → ℕ → Opening → Type 0
AreAsked names kind class (Asks asked second) = AsksFirst names kind class asked.question asked.names × (second ≡ None)
AreAsked names kind class (Ends status) = ⊥
AreAsked names kind class (Answered answer) = ⊥

-- a name comes to this: to its end where it is under `onion` (RFC 7686, section 2), else these names are asked for
abbrev pub OpensName : List Name → Name → ℕ → ℕ → Opening → Type 0
OpensName names name kind class (Asks asked second) = (last_is (codes "onion") name ≡ false) × AsksFirst names kind class asked.question asked.names × (second ≡ None)
OpensName names name kind class (Ends status) = (last_is (codes "onion") name ≡ true) × (status ≡ NotFound)
OpensName names name kind class (Answered answer) = ⊥

-- a text that was read as a name comes to what the name comes to, for which these names are asked for, and one that is no name ends at once
abbrev pub OpensRead : (NameText → List Name) → Option (Name × Bool) → ℕ → ℕ → Opening → Type 0
OpensRead names None kind class opening = opening ≡ Ends BadName
OpensRead names (Some read) kind class opening = OpensName (names (record { name = read.0; absolute = read.1 })) read.0 kind class opening

-- a text comes to this, with this kind and class
abbrev pub OpensText : (NameText → List Name) → List ℕ → ℕ → ℕ → Opening → Type 0
OpensText names text kind class opening = OpensRead names (name_text text) kind class opening

-- for a name it alone is asked for
abbrev pub itself : NameText → List Name
itself text = text.name ∷ []

-- for a name the candidates by the search list are asked for
abbrev pub searched : Options → NameText → List Name
searched options text = candidates text options

-- what is asked for AAAA records beside what is asked for A records
abbrev pub with_second : Opening → Opening
with_second (Asks asked second) = Asks asked (Some (asked_with_kind kind_aaaa asked))
with_second (Ends status) = Ends status
with_second (Answered answer) = Answered answer

-- the name of a host whose addresses of this family are asked for comes to this; for those of both the same names are asked for by two questions
abbrev pub OpensHost : Options → List ℕ → Family → Opening → Type 0
OpensHost options host Family.Any opening = (one : Opening) × OpensText (searched options) host kind_a class_in one × (opening ≡ with_second one)
OpensHost options host Family.V4 opening = OpensText (searched options) host kind_a class_in opening
OpensHost options host Family.V6 opening = OpensText (searched options) host kind_aaaa class_in opening

-- a request for addresses comes to its answer at once if it has one, else to what the name of its host comes to
abbrev pub OpensAddress : Setting → ℕ → Spec → List ℕ → Family → Opening → Type 0
OpensAddress setting number spec host family (Asks asked second) = (at_once setting number spec ≡ None) × OpensHost setting.options host family (Asks asked second)
OpensAddress setting number spec host family (Ends status) = (at_once setting number spec ≡ None) × OpensHost setting.options host family (Ends status)
OpensAddress setting number spec host family (Answered answer) = at_once setting number spec ≡ Some answer

-- a request of this number comes to this: that of an address's names asks for the name of its reverse mapping, by PTR records of the Internet class (RFC 1035, sections 3.2 and 3.5)
abbrev pub Opens : Setting → ℕ → Spec → Opening → Type 0
Opens setting number (Query name kind class) opening = OpensText itself name kind class opening
Opens setting number (Search name kind class) opening = OpensText (searched setting.options) name kind class opening
Opens setting number (Address host family nosort) opening = OpensAddress setting number (Address host family nosort) host family opening
Opens setting number (Reverse address) opening = opening ≡ Asks (record { question = record { name = reverse_labels address; kind = kind_ptr; class = class_in }; names = [] }) None
