-- How a table follows an Accept, by what its request comes to.
use Rattle.channel_table.proofs.Base.{◌≡◌, ◌∙◌, ℕ, ◌+◌, Bool, true, false, cond, List, [], ◌∷◌, ◌++◌, Option, Some, None, refl, ap, sym, subst, length, Answer, Accept, Script, Spec, Address, Query, Reverse, Search, Status, BadName, NoData, NotFound, Success, Ticket, option_or, IfSome, codes, option_map, option_to_list, class_in, kind_a, kind_aaaa, Question, Name, NameText, Addr, Family, at_once, Past, accepted, IsLawfulPast, bare, found, candidates_of, name_of_text, question_for, Setting, has_item, AreWithinLimits, legs_of, wanted_by, first_number, AreAsked, Opens, Asked, IsNewRow, Places, TableStands, Row, Opening, Answered, Asks}
use Rattle.dns_message.specs.Name.{last_is}
use Rattle.dns_message.specs.NameText.{name_text}
use Rattle.dns_message.specs.Numbers.{kind_ptr}
use Rattle.net_addr.specs.Mapped.{allows}
use Rattle.net_addr.specs.Reading.{address_of}
use Rattle.net_addr.specs.Reverse.{reverse_labels}
use Rattle.channel_model.specs.AtOnce.{asks_servers, known_host, listed, listed_name, literal, loopbacks, unless_asked}
use Rattle.channel_table.proofs.AcceptSteps.{new_flown, row_stands, table_answered, table_asked}
use Rattle.channel_table.proofs.Candidates.{few_candidates}
use Rattle.channel_table.specs.Opening.{OpensHost, OpensName, OpensRead, OpensText, itself, searched, with_second}
use Rattle.channel_table.specs.Lookups.{asked_with_kind}
use Rattle.channel_table.specs.declared.table.accepting.Opening.TheVariants.{Ends}

-- a request that asks: its legs, the first candidate, for which these questions ask, and it isn't answered at once
record AsksQuestion (setting : Setting) (number : ℕ) (spec : Spec) (asked : Asked) (second : Option Asked) : Type 0 where
  legs : legs_of spec 0 ≡ first_number (wanted_by spec) ∷ option_to_list (option_map (λ (a : Asked). 1) second)
  candidates : candidates_of setting spec ≡ asked.question.name ∷ asked.names
  asks : question_for spec (first_number (wanted_by spec)) asked.question.name ≡ asked.question
  too : IfSome second (λ (a : Asked). (a.question.name ≡ asked.question.name) × (a.names ≡ asked.names) × (question_for spec 1 a.question.name ≡ a.question))
  not_at_once : at_once setting number spec ≡ None

-- a name outside `onion` comes to the names that are asked for it
pub opens_asked : (names : List Name) (name : Name) (kind class : ℕ) (opening : Opening) → last_is (codes "onion") name ≡ false → AreAsked names kind class opening → OpensName names name kind class opening
opens_asked names name kind class (Asks asked second) outside are = (outside, are.0, are.1)
opens_asked names name kind class (Ends status) outside asked = absurd asked
opens_asked names name kind class (Answered answer) outside asked = absurd asked

-- a question by its name, its kind and its class
made_of : (question : Question) (kind class : ℕ) → question.kind ≡ kind → question.class ≡ class → ◌≡◌ {A = Question} (record { name = question.name; kind = kind; class = class }) question
made_of question kind class of_kind of_class = λ k. record { name = question.name; kind = sym of_kind k; class = sym of_class k }

-- a text that is asked for under one question, by what it was read as
record TextAsked (names : NameText → List Name) (read : Option (Name × Bool)) (kind class : ℕ) (asked : Asked) (second : Option Asked) : Type 0 where
  name : Name × Bool
  is : read ≡ Some name
  outside : last_is (codes "onion") name.0 ≡ false
  are : names (record { name = name.0; absolute = name.1 }) ≡ asked.question.name ∷ asked.names
  question : ◌≡◌ {A = Question} (record { name = asked.question.name; kind = kind; class = class }) asked.question
  alone : second ≡ None

text_asked : (names : NameText → List Name) (read : Option (Name × Bool)) (kind class : ℕ) (asked : Asked) (second : Option Asked) → OpensRead names read kind class (Asks asked second) → TextAsked names read kind class asked second
text_asked names None kind class asked second opens = absurd cc
text_asked names (Some read) kind class asked second opens = record {
  name = read;
  is = refl;
  outside = opens.0;
  are = opens.1.are;
  question = made_of asked.question kind class opens.1.of_kind opens.1.of_class;
  alone = opens.2;
}

none_too : (second : Option Asked) → second ≡ None → (P : Asked → Type 0) → IfSome second P
none_too second none P = subst (λ (o : Option Asked). IfSome o P) (sym none) tt

one_leg : (second : Option Asked) (k : ℕ) → second ≡ None → ◌≡◌ {A = List ℕ} (k ∷ []) (k ∷ option_to_list (option_map (λ (a : Asked). 1) second))
one_leg second k none = ap (λ (o : Option Asked). k ∷ option_to_list (option_map (λ (a : Asked). 1) o)) (sym none)

asks_question : (setting : Setting) (number : ℕ) (spec : Spec) (asked : Asked) (second : Option Asked) → Opens setting number spec (Asks asked second) → AsksQuestion setting number spec asked second
asks_question setting number (Query text kind class) asked second opens =
    let t = text_asked itself (name_text text) kind class asked second opens in
    record {
      legs = one_leg second 0 t.alone;
      candidates = rw t.is t.are;
      asks = t.question;
      too = none_too second t.alone _;
      not_at_once = rw (t.is, t.outside) refl;
    }
asks_question setting number (Search text kind class) asked second opens =
    let t = text_asked (searched setting.options) (name_text text) kind class asked second opens in
    record {
      legs = one_leg second 0 t.alone;
      candidates = rw t.is t.are;
      asks = t.question;
      too = none_too second t.alone _;
      not_at_once = rw (t.is, t.outside) refl;
    }
asks_question setting number (Address host Family.Any nosort) asked second opens = by_one opens.1.0 opens.1.1 opens.1.2
  where
    by_asked : (one : Asked) (more : Option Asked) → OpensText (searched setting.options) host kind_a class_in (Asks one more) → asked ≡ one → second ≡ Some (asked_with_kind kind_aaaa one) → AsksQuestion setting number (Address host Family.Any nosort) asked second
    by_asked one more text same both =
        let t = text_asked (searched setting.options) (name_text host) kind_a class_in one more text in
        rw (same, both) (record {
          legs = refl;
          candidates = rw t.is t.are;
          asks = t.question;
          too = (refl, refl, ap (λ (q : Question). record q { kind = kind_aaaa }) t.question);
          not_at_once = opens.0;
        })

    by_one : (one : Opening) → OpensText (searched setting.options) host kind_a class_in one → Asks asked second ≡ with_second one → AsksQuestion setting number (Address host Family.Any nosort) asked second
    by_one (Asks one more) text is =
        let same : asked ≡ one = cc in
        let both : second ≡ Some (asked_with_kind kind_aaaa one) = cc in
        by_asked one more text same both
    by_one (Ends status) text is = absurd cc
    by_one (Answered answer) text is = absurd cc
asks_question setting number (Address host Family.V4 nosort) asked second opens =
    let t = text_asked (searched setting.options) (name_text host) kind_a class_in asked second opens.1 in
    record {
      legs = one_leg second 0 t.alone;
      candidates = rw t.is t.are;
      asks = t.question;
      too = none_too second t.alone _;
      not_at_once = opens.0;
    }
asks_question setting number (Address host Family.V6 nosort) asked second opens =
    let t = text_asked (searched setting.options) (name_text host) kind_aaaa class_in asked second opens.1 in
    record {
      legs = one_leg second 1 t.alone;
      candidates = rw t.is t.are;
      asks = t.question;
      too = none_too second t.alone _;
      not_at_once = opens.0;
    }
asks_question setting number (Reverse address) asked second opens =
    let same : asked ≡ record { question = record { name = reverse_labels address; kind = kind_ptr; class = class_in }; names = [] } = cc in
    let alone : second ≡ None = cc in
    rw (same, alone) (record { legs = refl; candidates = refl; asks = refl; too = tt; not_at_once = refl })

-- a name that can't be asked for is answered at once: where none is, its text is a name, and not under `onion`
asked_by_name : (setting : Setting) (number : ℕ) (rules : NameText → Option Answer) (kind class : ℕ) (status : Status) (read : Option (Name × Bool)) → OpensRead (searched setting.options) read kind class (Ends status)
    → unless_asked number rules (option_map (λ (r : Name × Bool). record { name = r.0; absolute = r.1 }) read) ≡ None → ⊥
asked_by_name setting number rules kind class status None opens none = absurd cc
asked_by_name setting number rules kind class status (Some read) opens none = by_onion (last_is (codes "onion") read.0) opens.0 none
  where
    by_onion : (b : Bool) → b ≡ true → ◌≡◌ {A = Option Answer} (cond b (Some (bare number NotFound [])) (rules (record { name = read.0; absolute = read.1 }))) None → ⊥
    by_onion true e none = absurd cc
    by_onion false e none = absurd cc

no_literal : (o p : Option Answer) → option_or o p ≡ None → p ≡ None
no_literal None p none = none
no_literal (Some answer) p none = absurd cc

no_end_of_host : (setting : Setting) (number : ℕ) (host : List ℕ) (family : Family) (nosort : Bool) (status : Status) → at_once setting number (Address host family nosort) ≡ None → OpensHost setting.options host family (Ends status) → ⊥
no_end_of_host setting number host Family.Any nosort status none opens = by_one opens.0 opens.1 opens.2
  where
    by_one : (one : Opening) → OpensText (searched setting.options) host kind_a class_in one → Ends status ≡ with_second one → ⊥
    by_one (Asks asked second) text is = absurd cc
    by_one (Ends other) text is =
        asked_by_name setting number (known_host setting number Family.Any nosort) kind_a class_in other (name_text host) text
        (no_literal (option_map (literal number Family.Any) (address_of host)) (unless_asked number (known_host setting number Family.Any nosort) (name_of_text host)) none)
    by_one (Answered answer) text is = absurd cc
no_end_of_host setting number host Family.V4 nosort status none opens =
    asked_by_name setting number (known_host setting number Family.V4 nosort) kind_a class_in status (name_text host) opens
    (no_literal (option_map (literal number Family.V4) (address_of host)) (unless_asked number (known_host setting number Family.V4 nosort) (name_of_text host)) none)
no_end_of_host setting number host Family.V6 nosort status none opens =
    asked_by_name setting number (known_host setting number Family.V6 nosort) kind_aaaa class_in status (name_text host) opens
    (no_literal (option_map (literal number Family.V6) (address_of host)) (unless_asked number (known_host setting number Family.V6 nosort) (name_of_text host)) none)

-- a request that ends at once ends with its status
ends_at_once : (setting : Setting) (number : ℕ) (spec : Spec) (status : Status) → Opens setting number spec (Ends status) → at_once setting number spec ≡ Some (bare number status [])
ends_at_once setting number (Query text kind class) status opens = by_read (name_text text) refl opens
  where
    by_read : (read : Option (Name × Bool)) → name_text text ≡ read → OpensRead itself read kind class (Ends status) → at_once setting number (Query text kind class) ≡ Some (bare number status [])
    by_read None is opens = let same : status ≡ BadName = cc in rw (is, same) refl
    by_read (Some read) is opens = rw (is, opens.0, opens.1) refl
ends_at_once setting number (Search text kind class) status opens = by_read (name_text text) refl opens
  where
    by_read : (read : Option (Name × Bool)) → name_text text ≡ read → OpensRead (searched setting.options) read kind class (Ends status) → at_once setting number (Search text kind class) ≡ Some (bare number status [])
    by_read None is opens = let same : status ≡ BadName = cc in rw (is, same) refl
    by_read (Some read) is opens = rw (is, opens.0, opens.1) refl
ends_at_once setting number (Address host family nosort) status opens = absurd (no_end_of_host setting number host family nosort status opens.0 opens.1)
ends_at_once setting number (Reverse address) status opens = absurd cc

-- the answer of an address has its request's number
literal_numbered : (request : ℕ) (family : Family) (address : Addr) → (literal request family address).number ≡ request
literal_numbered request family address = by_test (allows family address)
  where
    by_test : (b : Bool) → (cond b (record (bare request Success []) { addresses = address ∷ [] }) (bare request NoData [])).number ≡ request
    by_test true = refl
    by_test false = refl

-- the first of three answers that a test chooses, if there is one, has a number that they all have
chosen_numbered : (p q r : Bool) (x y z : Answer) (request : ℕ) → x.number ≡ request → y.number ≡ request → z.number ≡ request
    → IfSome (cond p (Some x) (cond q (Some y) (cond r None (Some z)))) (λ (a : Answer). a.number ≡ request)
chosen_numbered true q r x y z request a b c = a
chosen_numbered false true r x y z request a b c = b
chosen_numbered false false true x y z request a b c = tt
chosen_numbered false false false x y z request a b c = c

-- the answer that a request for addresses gets at once has its number
at_once_numbered : (setting : Setting) (number : ℕ) (host : List ℕ) (family : Family) (nosort : Bool) → IfSome (at_once setting number (Address host family nosort)) (λ (a : Answer). a.number ≡ number)
at_once_numbered setting number host family nosort = by_address (address_of host)
  where
    by_onion : (text : NameText) (b : Bool) → IfSome (cond b (Some (bare number NotFound [])) (known_host setting number family nosort text)) (λ (a : Answer). a.number ≡ number)
    by_onion text true = refl
    by_onion text false =
        chosen_numbered (has_item (listed setting text.name family)) (last_is (codes "localhost") text.name) (asks_servers setting.options.lookups)
        (found setting number nosort (listed setting text.name family) (listed_name setting text.name family)) (found setting number nosort (loopbacks family) text.name) (bare number NotFound []) number refl refl refl

    by_name : (o : Option NameText) → IfSome (unless_asked number (known_host setting number family nosort) o) (λ (a : Answer). a.number ≡ number)
    by_name None = refl
    by_name (Some text) = by_onion text (last_is (codes "onion") text.name)

    by_address : (o : Option Addr) → IfSome (option_or (option_map (literal number family) o) (unless_asked number (known_host setting number family nosort) (name_of_text host))) (λ (a : Answer). a.number ≡ number)
    by_address None = by_name (name_of_text host)
    by_address (Some address) = literal_numbered number family address

some_numbered : (o : Option Answer) (answer : Answer) (number : ℕ) → IfSome o (λ (a : Answer). a.number ≡ number) → o ≡ Some answer → answer.number ≡ number
some_numbered o answer number numbered is = subst (λ (p : Option Answer). IfSome p (λ (a : Answer). a.number ≡ number)) is numbered

-- a request that is answered at once has that answer
answered_so : (setting : Setting) (number : ℕ) (spec : Spec) (answer : Answer) → Opens setting number spec (Answered answer) → at_once setting number spec ≡ Some answer
answered_so setting number (Query text kind class) answer opens = by_read (name_text text) opens
  where
    by_read : (read : Option (Name × Bool)) → OpensRead itself read kind class (Answered answer) → at_once setting number (Query text kind class) ≡ Some answer
    by_read None opens = absurd cc
    by_read (Some read) opens = absurd opens
answered_so setting number (Search text kind class) answer opens = by_read (name_text text) opens
  where
    by_read : (read : Option (Name × Bool)) → OpensRead (searched setting.options) read kind class (Answered answer) → at_once setting number (Search text kind class) ≡ Some answer
    by_read None opens = absurd cc
    by_read (Some read) opens = absurd opens
answered_so setting number (Address host family nosort) answer opens = opens
answered_so setting number (Reverse address) answer opens = absurd cc

-- which has its number
pub known_number : (setting : Setting) (number : ℕ) (spec : Spec) (answer : Answer) → Opens setting number spec (Answered answer) → answer.number ≡ number
known_number setting number (Query text kind class) answer opens = by_read (name_text text) opens
  where
    by_read : (read : Option (Name × Bool)) → OpensRead itself read kind class (Answered answer) → answer.number ≡ number
    by_read None opens = absurd cc
    by_read (Some read) opens = absurd opens
known_number setting number (Search text kind class) answer opens = by_read (name_text text) opens
  where
    by_read : (read : Option (Name × Bool)) → OpensRead (searched setting.options) read kind class (Answered answer) → answer.number ≡ number
    by_read None opens = absurd cc
    by_read (Some read) opens = absurd opens
known_number setting number (Address host family nosort) answer opens = some_numbered (at_once setting number (Address host family nosort)) answer number (at_once_numbered setting number host family nosort) opens
known_number setting number (Reverse address) answer opens = absurd cc

module _ {T : Type 0} (plan : T → Script) (setting : Setting) (past : Past) (spec : Spec) (token : T) (number : ℕ) (limits : AreWithinLimits setting.options) (lawful : IsLawfulPast setting past) (next : number ≡ length (accepted past) + 1) (rows : List (Row T)) (tickets : List (Ticket T)) where
  -- the request that asks has a row
  pub asked : (first : Asked) (second : Option Asked) (row : Row T) → Opens setting number spec (Asks first second) → IsNewRow setting.options.flags number (wanted_by spec) token first second row
      → TableStands plan setting past rows tickets → TableStands plan setting (Accept number spec (plan token) ∷ past) (rows ++ row ∷ []) tickets
  asked first second row opens is table =
      let asks = asks_question setting number spec first second opens in
      table_asked plan setting past spec (plan token) number lawful next rows tickets row is.numbered asks.not_at_once
      (row_stands plan setting past spec (plan token) number lawful next (wanted_by spec) first second row refl asks.legs asks.candidates (few_candidates setting limits spec) asks.asks asks.too asks.not_at_once
      (subst (λ (t : T). IsNewRow setting.options.flags number (wanted_by spec) t first second row) (sym is.for') is) (ap plan is.for')) (new_flown setting.options.flags number (wanted_by spec) token first second row is) table

  -- the request that ends at once has a ticket
  pub answered : (status : Status) (ticket : Ticket T) → Opens setting number spec (Ends status) → ticket ≡ record { token = token; call = bare number status [] }
      → TableStands plan setting past rows tickets → TableStands plan setting (Accept number spec (plan token) ∷ past) rows (tickets ++ ticket ∷ [])
  answered status ticket opens is table =
      table_answered plan setting past spec (plan token) number lawful next rows tickets ticket (ap (λ (t : Ticket T). t.call.number) is) (ends_at_once setting number spec status opens ∙ ap (λ (t : Ticket T). Some t.call) (sym is)) (ap (λ (t : Ticket T). plan t.token) is) table

  -- so has the request that is answered at once
  pub known : (answer : Answer) (ticket : Ticket T) → at_once setting number spec ≡ Some answer → answer.number ≡ number → ticket ≡ record { token = token; call = answer }
      → TableStands plan setting past rows tickets → TableStands plan setting (Accept number spec (plan token) ∷ past) rows (tickets ++ ticket ∷ [])
  known answer ticket opens numbered is table =
      table_answered plan setting past spec (plan token) number lawful next rows tickets ticket (ap (λ (t : Ticket T). t.call.number) is ∙ numbered) (opens ∙ ap (λ (t : Ticket T). Some t.call) (sym is)) (ap (λ (t : Ticket T). plan t.token) is) table

  -- the table with the new request
  pub placed : (opening : Opening) (new_rows : List (Row T)) (new_tickets : List (Ticket T)) → Opens setting number spec opening → Places setting.options.flags number (wanted_by spec) token rows new_rows tickets new_tickets opening
      → TableStands plan setting past rows tickets → TableStands plan setting (Accept number spec (plan token) ∷ past) new_rows new_tickets
  placed (Asks first second) new_rows new_tickets opens places table = rw (places.2, places.3) (asked first second places.0 opens places.1 table)
  placed (Ends status) new_rows new_tickets opens places table = rw (places.0, places.1) (answered status _ opens refl table)
  placed (Answered answer) new_rows new_tickets opens places table = rw (places.0, places.1) (known answer _ (answered_so setting number spec answer opens) (known_number setting number spec answer opens) refl table)
