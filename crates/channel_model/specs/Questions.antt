-- The questions of a request: its candidates, and the question of each leg.
use Rattle.std.specs.Prelude.{List, ℕ, Option, option_map, unwrap_or, [], if◌then◌else◌, None, Some, ◌∷◌, option_and_then, slice_get}
use Rattle.chan_types.specs.declared.spec.Spec.{Spec}
use Rattle.chan_types.specs.declared.spec.Spec.TheVariants.{Query, Search, Address, Reverse}
use Rattle.dns_message.specs.NameText.{name_text}
use Rattle.dns_message.specs.declared.message.Question.{Question}
use Rattle.dns_message.specs.declared.name.Name.{Name}
use Rattle.dns_message.specs.declared.name.NameText.{NameText}
use Rattle.net_addr.specs.Reverse.{reverse_labels}
use Rattle.resolv_options.specs.Search.{candidates}
use Rattle.channel_model.specs.Journal.{Past, spec_of}
use Rattle.channel_model.specs.Legs.{is_second, Leg, candidate_of}
use Rattle.dns_message.specs.Numbers.{kind_aaaa, kind_a, class_in, kind_ptr}
use Rattle.channel_model.specs.Setting.{Setting}

-- the name that a text is, and whether it is absolute
abbrev pub name_of_text : List ℕ → Option NameText
name_of_text text = option_map (λ read. record { name = read.0; absolute = read.1 }) (name_text text)

-- the names that are asked for a text, or none where it is no name
abbrev pub names_of : (NameText → List Name) → List ℕ → List Name
names_of names text = unwrap_or (option_map names (name_of_text text)) []

-- the kind that a leg of an Address request asks for
abbrev pub kind_of_leg : ℕ → ℕ
kind_of_leg number = if is_second number then kind_aaaa else kind_a

-- the question of a name, for a request's leg
abbrev pub question_for : Spec → ℕ → Name → Question
question_for (Query text kind class) number name = record { name = name; kind = kind; class = class }
question_for (Search text kind class) number name = record { name = name; kind = kind; class = class }
question_for (Address host family nosort) number name = record { name = name; kind = kind_of_leg number; class = class_in }
question_for (Reverse address) number name = record { name = name; kind = kind_ptr; class = class_in }

-- the kind of which an answer is wanted: for a leg of an Address request its own, else any
abbrev pub wanted_kind : Option Spec → ℕ → Option ℕ
wanted_kind None number = None
wanted_kind (Some (Query text kind class)) number = None
wanted_kind (Some (Search text kind class)) number = None
wanted_kind (Some (Address host family nosort)) number = Some (kind_of_leg number)
wanted_kind (Some (Reverse address)) number = None

module _ (setting : Setting) where
  -- the candidates of a text, by the search list
  abbrev pub search_list : NameText → List Name
  search_list text = candidates text setting.options

  -- the candidates of a request, in the order in which they are asked
  abbrev pub candidates_of : Spec → List Name
  candidates_of (Query text kind class) = names_of (λ read. read.name ∷ []) text
  candidates_of (Search text kind class) = names_of search_list text
  candidates_of (Address host family nosort) = names_of search_list host
  candidates_of (Reverse address) = reverse_labels address ∷ []

  -- the question of a request's leg
  abbrev pub question_of : Leg → Past → Option Question
  question_of leg past =
      option_and_then (λ spec. option_map (question_for spec leg.number) (slice_get (candidates_of spec) (candidate_of leg.number))) (spec_of leg.request past)
