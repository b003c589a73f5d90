-- How a request is named on a page.
use Rattle.std.specs.Prelude.{ℕ}
use Rattle.chan_types.specs.declared.answer.Answer.{Answer}
use Rattle.chan_types.specs.declared.spec.Spec.{Spec}
use Rattle.chan_types.specs.declared.spec.Spec.TheVariants.{Address, Query, Reverse, Search}
use Rattle.net_addr.specs.Text.{text_of as address_text}
use Rattle.tool_line.specs.Page.{adig_page}
use Rattle.tool_line.specs.Words.{Text}

-- the request's label: the name or the host as it was given, and of a reverse request the address as it is printed
abbrev pub label_of : Spec → Text
label_of (Query name kind class) = name
label_of (Search name kind class) = name
label_of (Address host family nosort) = host
label_of (Reverse address) = address_text address

-- the type that it is headed by: PTR (RFC 1035, section 3.3.12) for a reverse request, A for addresses, which adig doesn't ask
abbrev pub kind_of : Spec → ℕ
kind_of (Query name kind class) = kind
kind_of (Search name kind class) = kind
kind_of (Address host family nosort) = 1
kind_of (Reverse address) = 12

-- the class that it is headed by: IN (RFC 1035, section 3.2.4) where the request names none
abbrev pub class_of : Spec → ℕ
class_of (Query name kind class) = class
class_of (Search name kind class) = class
class_of (Address host family nosort) = 1
class_of (Reverse address) = 1

-- the page of adig for a request
abbrev pub page_of : Spec → Answer → Text
page_of spec answer = adig_page (label_of spec) (kind_of spec) (class_of spec) answer
