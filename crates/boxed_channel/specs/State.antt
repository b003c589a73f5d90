-- What is known of a channel for C, what its calls mean, and what they leave.
use Rattle.std.specs.Prelude.{Bool, IsFalse, IsSomeAnd, List, MatchBool, None, Option, Some, length, ℕ, ◌==◌, ◌≡◌, ⊤}
use Rattle.chan_types.specs.declared.spec.Spec.{Spec}
use Rattle.chan_types.specs.declared.spec.Spec.TheVariants.{Address, Reverse}
use Rattle.channel_model.specs.Journal.{is_destroyed, past_of}
use Rattle.channel_model.specs.Known.{Calls, IsSameDesk, Known}
use Rattle.channel_model.specs.Meanings.{Accepts, Meaning}
use Rattle.channel_table.specs.Calling.{known_by_owner}
use Rattle.c_types.specs.Addresses.{address_in, family_of}
use Rattle.c_types.specs.Laid.{laid_over}
use Rattle.c_types.specs.Told.{accepted_told, quiet}
use Rattle.boxed_channel.specs.Journaled.{KeepsHosts, channel_of}
use Rattle.boxed_channel.specs.declared.state.ChannelState.{ChannelState}

-- what its owner knows of it
abbrev pub known_of : ChannelState → Known
known_of state = known_by_owner (channel_of state.channel)

-- a call of the channel with this meaning was made, on nobody's command
abbrev pub Means : Meaning → ChannelState → ChannelState → Type 0
Means meaning old new = Calls meaning 0 (known_of old) (known_of new)

-- the same, on the command of the request that the channel has
abbrev pub MeansVoiced : Meaning → ChannelState → ChannelState → Type 0
MeansVoiced meaning old new = Calls meaning (known_of old).voice (known_of old) (known_of new)

-- a call of the channel was made that answered what was told; where that is no answer of the call, this is false
abbrev pub MeansTold : {A : Type 0} → (A → Meaning) → Option A → ChannelState → ChannelState → Type 0
MeansTold meaning told old new = IsSomeAnd told (λ answer. Means (meaning answer) old new)

-- the channel and its journal are as before
abbrev pub IsAsBefore : ChannelState → ChannelState → Type 0
IsAsBefore old new = IsSameDesk (known_of old) (known_of new) × ((known_of new).seen ≡ (known_of old).seen)

-- the attempt that was begun last is as before, and so is whether the journal is kept
abbrev pub KeepsBegun : ChannelState → ChannelState → Type 0
KeepsBegun old new = (new.begun ≡ old.begun) × KeepsHosts old.channel new.channel

-- the request that was taken last is as before, and so is whether the journal is kept
abbrev pub KeepsTaken : ChannelState → ChannelState → Type 0
KeepsTaken old new = (new.taken ≡ old.taken) × KeepsHosts old.channel new.channel

-- both are
abbrev pub KeepsBoth : ChannelState → ChannelState → Type 0
KeepsBoth old new = KeepsBegun old new × KeepsTaken old new

-- the channel wasn't destroyed
abbrev pub IsOpen : ChannelState → Type 0
IsOpen state = IsFalse (is_destroyed (past_of (known_of state).seen))

-- memory was wanting, and then this holds
abbrev pub IfWanting : ℕ → Type 0 → Type 0
IfWanting answer fact = MatchBool (answer == 2) fact ⊤

-- the answer to an ask: a request for this was accepted (0) or refused as the channel was destroyed (1), exactly where it was; or memory was wanting (2), and the channel and its journal are as before
abbrev pub AsksFor : Spec → ℕ → ℕ → ChannelState → ChannelState → Type 0
AsksFor spec answer number old new = MatchBool (answer == 2) (IsAsBefore old new)
    (IsSomeAnd (accepted_told spec answer number) (λ accepted. MeansVoiced (Accepts quiet spec tt accepted) old new))

-- the same where the words may not be a request: then the answer is this fault, and nothing has changed
abbrev pub AsksIf : {T : Type 0} → Option T → (T → Spec) → ℕ → ℕ → ℕ → ChannelState → ChannelState → Type 0
AsksIf None spec fault answer number old new = (answer ≡ fault) × (new ≡ old)
AsksIf (Some wanted) spec fault answer number old new = AsksFor (spec wanted) answer number old new

-- an ask for addresses of a host, of the family of a number
abbrev pub AsksAddress : List ℕ → ℕ → Bool → ℕ → ℕ → ChannelState → ChannelState → Type 0
AsksAddress host family nosort = AsksIf (family_of family) (λ wanted. Address host wanted nosort) 5

-- an ask for the names of the address of these bytes
abbrev pub AsksReverse : List ℕ → ℕ → ℕ → ChannelState → ChannelState → Type 0
AsksReverse bytes = AsksIf (address_in bytes) Reverse 6

-- the answer to who wants the journal's text: how many bytes it has is written, and as many of them are laid over the buffer as there is room for (0), or memory was wanting (2); or the journal isn't kept (9)
abbrev pub TellsText : Option (List ℕ) → ℕ → ℕ → List ℕ → List ℕ → Type 0
TellsText None answer size before after = answer ≡ 9
TellsText (Some text) answer size before after = MatchBool (answer == 2) ⊤ ((answer ≡ 0) × (size ≡ length text) × (after ≡ laid_over text before))
