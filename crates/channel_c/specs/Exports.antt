-- What each call of C's says of the word and of what is written, before and behind it, where no pointer is null.
use Rattle.std.specs.Prelude.{Bool, IsSomeAnd, List, MatchBool, None, is_some, ℕ, ◌≡◌}
use Rattle.boxed_channel.specs.Journaled.{text_kept}
use Rattle.boxed_channel.specs.Making.{IsMadeBy}
use Rattle.boxed_channel.specs.State.{AsksAddress, AsksFor, AsksReverse, IfWanting, IsOpen, KeepsBegun, KeepsBoth, KeepsTaken, Means, MeansTold, MeansVoiced, TellsText}
use Rattle.boxed_channel.specs.declared.state.ChannelState.{ChannelState}
use Rattle.c_types.specs.Told.{IfDone, IsToldOf, UnlessDone, begun_told, counts_told, due_told, failed_told, landed_told, lapse_told, quiet, request_told, taken_told}
use Rattle.chan_types.specs.declared.spec.Spec.{Spec}
use Rattle.channel_model.specs.Meanings.{Arrives, Cancels, Destroys, Expires, Fails, Starts, Takes, TellsBusy, TellsCounts, TellsDue}
use Rattle.channel_word.specs.Calls.{OnChannel}
use Rattle.channel_word.specs.declared.word.ChannelWord.{ChannelWord}
use denote.Builtin.{u64}
use Rattle.channel_c.specs.Copies.{Copies}
use Rattle.channel_c.specs.Lent.{Attempt, Buffer, Counts, Leg, Lent, Request}
use Rattle.channel_c.specs.Texts.{AnswersTexts}
use Rattle.channel_c.specs.Told.{busy_told, first_told}

-- a request for this is asked, and its number written
abbrev pub AskCall : Spec → ℕ → Lent u64 → Lent u64 → Type 0
AskCall spec answer before left =
    OnChannel before.word left.word answer (λ old new. AsksFor spec answer left.value old new × KeepsBoth old new)
    × UnlessDone answer (left.value ≡ before.value)

abbrev pub AddressCall : List ℕ → ℕ → Bool → ℕ → Lent u64 → Lent u64 → Type 0
AddressCall host family nosort answer before left =
    OnChannel before.word left.word answer (λ old new. AsksAddress host family nosort answer left.value old new × KeepsBoth old new)
    × UnlessDone answer (left.value ≡ before.value)

abbrev pub ReverseCall : List ℕ → ℕ → Lent u64 → Lent u64 → Type 0
ReverseCall address answer before left =
    OnChannel before.word left.word answer (λ old new. AsksReverse address answer left.value old new × IfWanting answer (IsOpen old) × KeepsBoth old new)
    × UnlessDone answer (left.value ≡ before.value)

abbrev pub TakeCall : ℕ → Lent Request → Lent Request → Type 0
TakeCall answer before left =
    OnChannel before.word left.word answer (λ old new.
    MeansTold (Takes quiet) (taken_told answer new.taken) old new × IfDone answer (left.value ≡ request_told new.taken)
    × KeepsBegun old new × UnlessDone answer (KeepsTaken old new))
    × UnlessDone answer (left.value ≡ before.value)

abbrev pub StartCall : ℕ → ℕ → ℕ → ℕ → Lent Attempt → Lent Attempt → Type 0
StartCall word mix at answer before left =
    OnChannel before.word left.word answer (λ old new.
    MeansTold (Starts word mix at) (begun_told answer left.value new.begun) old new × IfDone answer (IsToldOf new.begun left.value)
    × KeepsTaken old new × UnlessDone answer (KeepsBegun old new))
    × UnlessDone answer (left.value ≡ before.value)

abbrev pub ArriveCall : ℕ → ℕ → List ℕ → ℕ → Lent Leg → Lent Leg → Type 0
ArriveCall server link message answer before left =
    OnChannel before.word left.word answer (λ old new. MeansTold (Arrives server link message) (landed_told answer left.value) old new × KeepsBoth old new)
    × UnlessDone answer (left.value ≡ before.value)

abbrev pub ExpireCall : ℕ → ℕ → Lent Leg → Lent Leg → Type 0
ExpireCall at answer before left =
    OnChannel before.word left.word answer (λ old new. MeansTold (Expires at) (lapse_told answer left.value) old new × KeepsBoth old new)
    × UnlessDone answer (left.value ≡ before.value)

abbrev pub FaultCall : ℕ → ℕ → ℕ → ℕ → Lent u64 → Lent u64 → Type 0
FaultCall server link at answer before left =
    OnChannel before.word left.word answer (λ old new. MeansTold (Fails server link at) (failed_told answer left.value) old new × KeepsBoth old new)
    × UnlessDone answer (left.value ≡ before.value)

abbrev pub DueCall : ℕ → Lent u64 → Lent u64 → Type 0
DueCall answer before left =
    OnChannel before.word left.word answer (λ old new. MeansTold TellsDue (due_told answer left.value) old new × KeepsBoth old new)
    × UnlessDone answer (left.value ≡ before.value)

abbrev pub CountCall : ℕ → Lent Counts → Lent Counts → Type 0
CountCall answer before left =
    OnChannel before.word left.word answer (λ old new. (answer ≡ 0) × Means (TellsCounts (counts_told left.value)) old new × KeepsBoth old new)
    × UnlessDone answer (left.value ≡ before.value)

abbrev pub BusyCall : ℕ → ℕ → ℕ → ChannelWord → ChannelWord → Type 0
BusyCall server link answer before left =
    OnChannel before left answer (λ old new. MeansTold (TellsBusy server link) (busy_told answer) old new × KeepsBoth old new)

-- bytes of the channel's are copied
abbrev pub CopyCall : (ChannelState → List ℕ) → ℕ → Buffer → Buffer → Type 0
CopyCall bytes answer before left =
    OnChannel before.word left.word answer (λ old new. Copies (bytes old) answer left.count before.bytes left.bytes × (new ≡ old))
    × UnlessDone answer ((left.count ≡ before.count) × (left.bytes ≡ before.bytes))

abbrev pub JournalCall : ℕ → Buffer → Buffer → Type 0
JournalCall answer before left =
    OnChannel before.word left.word answer (λ old new. TellsText (text_kept old.channel) answer left.count before.bytes left.bytes × (new ≡ old))
    × UnlessDone answer ((left.count ≡ before.count) × (left.bytes ≡ before.bytes))

abbrev pub CancelCall : ℕ → Lent u64 → Lent u64 → Type 0
CancelCall answer before left =
    OnChannel before.word left.word answer (λ old new. (answer ≡ 0) × MeansVoiced (Cancels left.value) old new × KeepsBoth old new)
    × UnlessDone answer (left.value ≡ before.value)

abbrev pub DestroyCall : ℕ → ChannelWord → ChannelWord → Type 0
DestroyCall answer before left =
    OnChannel before left answer (λ old new. IsSomeAnd (first_told answer) (λ first. MeansVoiced (Destroys first) old new) × KeepsBoth old new)

abbrev pub FreeCall : ℕ → ChannelWord → ChannelWord → Type 0
FreeCall answer before left = MatchBool (is_some before.pointer.state) (answer ≡ 0) (answer ≡ 10) × (left.pointer.state ≡ None)

abbrev pub MakeCall : List ℕ → List ℕ → Bool → ℕ → ChannelWord → ChannelWord → Type 0
MakeCall resolv hosts keeps answer before left =
    MatchBool (is_some before.pointer.state) (answer ≡ 11) (AnswersTexts resolv hosts answer)
    × IfDone answer (IsSomeAnd left.pointer.state (IsMadeBy resolv hosts keeps))
    × UnlessDone answer (left ≡ before)
