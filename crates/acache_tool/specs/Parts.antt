-- The names that were brought to their answers, and what became of each: those that the cache gave, and those that were asked for. The latest name stands first.
use Rattle.std.specs.Prelude.{Bool, IfSome, List, None, Ok, Option, Some, [], codes, false, length, option_map, option_to_list, true, ℕ, ⊤, ◌++◌, ◌+◌, ◌∷◌, ◌≡◌}
use Rattle.chan_types.specs.Plans.{blank}
use Rattle.chan_types.specs.declared.answer.Answer.{Answer}
use Rattle.chan_types.specs.declared.journal.Entry.{Entry}
use Rattle.chan_types.specs.declared.journal.What.TheVariants.{Accept}
use Rattle.chan_types.specs.declared.spec.Spec.{Spec}
use Rattle.chan_types.specs.declared.spec.Spec.TheVariants.{Query}
use Rattle.dns_message.specs.NameText.{name_text}
use Rattle.dns_message.specs.declared.message.Question.{Question}
use Rattle.channel_model.specs.Journal.{Accepted}
use Rattle.query_cache.specs.Lifetime.{may_be_kept}
use Rattle.query_cache.specs.Recency.{CacheCall, IsGiven, keep, look}
use Rattle.tool_line.specs.Heads.{page_of}
use Rattle.tool_line.specs.Words.{Text}

-- what became of a name: the reading of the clock for it; whether the cache gave its answer; the answer; the entries that its request made, if it was asked for; and the moment at which that answer was kept
pub record Part : Type 0 where
  pub name : Text
  pub at : ℕ
  pub is_hit : Bool
  pub answer : Answer
  pub entries : List Entry
  pub kept_at : ℕ

-- a name that was asked for and hasn't its answer: with the reading of the clock for it
pub record Open : Type 0 where
  pub name : Text
  pub at : ℕ

-- an answer is kept for a day at most, in seconds
abbrev pub most_seconds : ℕ
most_seconds = 86400

-- the request for a name: its addresses (A and IN of RFC 1035, sections 3.2.2 and 3.2.4)
abbrev pub spec_for : Text → Spec
spec_for name = Query name 1 1

-- the question for it, where the text is a name
abbrev pub question_of : Text → Option Question
question_of name = option_map (λ found. record { name = found.0; kind = 1; class = 1 }) (name_text name)

-- the calls of the cache for a name with this question, the latest first: a look that gave the answer; or one that gave none, and behind the request's answer a keep of it
abbrev pub calls_by : Bool → Question → Part → List CacheCall
calls_by true question part = look question part.at (Ok (Some part.answer)) ∷ []
calls_by false question part =
    keep question part.answer part.kept_at (Ok (may_be_kept part.answer)) ∷ look question part.at (Ok None) ∷ []

-- none for a text that isn't a name
abbrev pub calls_for : Option Question → Part → List CacheCall
calls_for None part = []
calls_for (Some question) part = calls_by part.is_hit question part

-- all calls of the cache, the latest first
abbrev pub cache_calls : List Part → List CacheCall
cache_calls [] = []
cache_calls (part ∷ earlier) = calls_for (question_of part.name) part ++ cache_calls earlier

-- behind these calls of a cache with this room no answer is given to the question at this moment
abbrev pub IsMissed : ℕ → List CacheCall → ℕ → Question → Type 0
IsMissed room past at question = (answer : Answer) → IsGiven room most_seconds past question at answer → ⊥

-- the name is asked for: the text isn't a name, or its question is missed
abbrev pub MayAsk : ℕ → List CacheCall → ℕ → Text → Type 0
MayAsk room past at name = IfSome (question_of name) (IsMissed room past at)

-- what the cache gives for a name: its answer, where the text is a name and its question is given one
abbrev pub GivesAnswer : ℕ → List CacheCall → ℕ → Answer → Option Question → Type 0
GivesAnswer room past at answer None = ⊥
GivesAnswer room past at answer (Some question) = IsGiven room most_seconds past question at answer

-- the entry by which a name is asked for
abbrev pub asks_for : ℕ → Text → Entry
asks_for number name = record { seat = 0; by = 0; what = Accept number (spec_for name) (blank 0) }

-- the entries of a name that was asked for begin with its Accept
pub record BeginsAsked (number : ℕ) (part : Part) : Type 0 where
  pub behind : List Entry
  pub entries_are : part.entries ≡ asks_for number part.name ∷ behind

-- the request of this number for a name, as it was accepted: its callback commands nothing
abbrev pub request_for : ℕ → Text → Accepted
request_for number name = record { number = number; spec = spec_for name; script = blank 0 }

-- one item for each name that was asked for, and none for one that the cache gave
abbrev pub unless_hit : {A : Type 0} → Bool → A → List A
unless_hit true item = []
unless_hit false item = item ∷ []

-- the requests of the names that were asked for, in order, by the numbers from 1 on
abbrev pub requests_of : List Part → List Accepted
requests_of [] = []
requests_of (part ∷ earlier) = requests_of earlier ++ unless_hit part.is_hit (request_for (length (requests_of earlier) + 1) part.name)

-- their answers, in order
abbrev pub answers_of : List Part → List Answer
answers_of [] = []
answers_of (part ∷ earlier) = answers_of earlier ++ unless_hit part.is_hit part.answer

-- the names, in order
abbrev pub names_of : List Part → List Text
names_of [] = []
names_of (part ∷ earlier) = names_of earlier ++ part.name ∷ []

-- the entries, in order
abbrev pub journal_of : List Part → List Entry
journal_of [] = []
journal_of (part ∷ earlier) = journal_of earlier ++ part.entries

-- the cache gave the answer, or the name was asked for, and both by the cache's calls before
abbrev pub IsRightBy : Bool → ℕ → List Part → Part → Type 0
IsRightBy true room earlier part = GivesAnswer room (cache_calls earlier) part.at part.answer (question_of part.name) × (part.entries ≡ [])
IsRightBy false room earlier part = MayAsk room (cache_calls earlier) part.at part.name × BeginsAsked (length (requests_of earlier) + 1) part

-- each name is one that the cache gave or one that was asked for, by the calls of the cache before it
abbrev pub AreRight : ℕ → List Part → Type 0
AreRight room [] = ⊤
AreRight room (part ∷ earlier) = IsRightBy part.is_hit room earlier part × AreRight room earlier

-- what a name's part of the page begins with
abbrev pub head_of : Bool → Text
head_of true = codes ";; hit" ++ 10 ∷ []
head_of false = codes ";; sent" ++ 10 ∷ []

-- a name's part of the page: whether it was sent, and then adig's page of its answer
abbrev pub text_shown : Bool → Text → Answer → Text
text_shown is_hit name answer = head_of is_hit ++ page_of (spec_for name) answer

abbrev pub text_of_part : Part → Text
text_of_part part = text_shown part.is_hit part.name part.answer

-- the page, in order
abbrev pub page : List Part → Text
page [] = []
page (part ∷ earlier) = page earlier ++ text_of_part part

-- the request of a name that hasn't its answer, and its text
abbrev pub open_requests : List Part → Option Open → List Accepted
open_requests parts open_ = option_to_list (option_map (λ (o : Open). request_for (length (requests_of parts) + 1) o.name) open_)

abbrev pub open_names : Option Open → List Text
open_names open_ = option_to_list (option_map (λ (o : Open). o.name) open_)
