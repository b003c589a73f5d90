-- How the bodies of a run's callbacks come back to the one who gave them.
use Rattle.std.specs.FinMap as finite
use Rattle.std.specs.List.{range_with_len}
use Rattle.std.specs.Prelude.{Err, IsFalse, IsTrue, List, None, Ok, Option, Result, Some, [], filter_map, if◌then◌else◌, length, option_map, slice_set, ℕ, ⊤, ◌++◌, ◌*◌, ◌+◌, ◌-◌, ◌==◌, ◌∷◌, ◌≡◌, ◌≤◌, ◌⊎◌}
use Rattle.item_list.specs.declared.no_memory.NoMemory.{NoMemory as OutOfMemory}
use Rattle.chan_types.specs.Plans.{Plan}
use Rattle.chan_types.specs.declared.journal.Entry.{Entry}
use Rattle.chan_types.specs.declared.journal.What.TheVariants.{Accept}
use Rattle.chan_types.specs.declared.refusal.Refusal.{Refusal}
use Rattle.chan_types.specs.declared.refusal.Refusal.TheVariants.{NoMemory}
use Rattle.chan_types.specs.declared.spec.Spec.{Spec}
use Rattle.channel_model.specs.Completion.{occurrences, taken}
use Rattle.channel_model.specs.Journal.{accepted, accepted_by, is_destroyed, past_of}
use Rattle.channel_model.specs.Names.{Names}
use Rattle.channel_table.specs.Calling.{Owned}
use Rattle.completion_ticket.specs.States.{CalledState}
use Rattle.owner_session.specs.Places.{PlacesState}
use Rattle.owner_session.specs.Session.{IsKept}
use Rattle.owner_session.specs.declared.caller.Caller.{Caller}

-- ---- what a run promises of them

-- the numbers of the requests that were accepted on nobody's command, in order: those that the run itself asked
abbrev pub numbers_asked : List Entry → List ℕ
numbers_asked journal = filter_map (λ entry. if entry.by == 0 then option_map (λ request. request.number) (accepted_by entry.what) else None) journal

module _ {B : Type 0} (name : B → ℕ) (told : B → Option ℕ) where
  -- this is the body that was given, by its name, and it was told the answer of this request, or of none
  abbrev pub IsBack : Option ℕ → B → B → Type 0
  IsBack number body back = (name back ≡ name body) × (told back ≡ number)

  module _ (refusal : B → Option Refusal) where
    -- the first body came back from a request that was refused for want of memory, which it knows, and the others are as they were given
    abbrev pub IsRefused : List B → List B → Type 0
    IsRefused [] back = ⊥
    IsRefused (body ∷ given) [] = ⊥
    IsRefused (body ∷ given) (first ∷ back) = IsBack None body first × (refusal first ≡ Some NoMemory) × (back ≡ given)

    -- bodies that no request was accepted with came back: they are as they were given, unless the first was refused
    abbrev pub AreUnasked : List B → List B → Type 0
    AreUnasked given back = (back ≡ given) ⊎ IsRefused given back

    -- bodies came back in the order in which they were given, and no others: the first of them, one for each of these requests, were told the answer of their request, and the rest are unasked
    abbrev pub AreBack : List ℕ → List B → List B → Type 0
    AreBack [] given back = AreUnasked given back
    AreBack (number ∷ numbers) [] back = ⊥
    AreBack (number ∷ numbers) (body ∷ given) [] = ⊥
    AreBack (number ∷ numbers) (body ∷ given) (first ∷ back) = IsBack (Some number) body first × AreBack numbers given back

-- ---- their places on the way

-- the name of a callback among a channel's tokens, where the caller gave its body, and that has this name
abbrev pub body_name : ℕ → ℕ
body_name name = 2 * name + 1

-- the next body was taken out, and has the last place; or none was left, or memory was wanting, and all is as it was
abbrev pub TakesNext : {B : Type 0} → Result (Option B) OutOfMemory → PlacesState B → PlacesState B → Type 0
TakesNext (Ok (Some body)) old new = (old.rest ≡ body ∷ new.rest) × (new.back ≡ old.back ++ None ∷ [])
TakesNext (Ok None) old new = (old.rest ≡ []) × (new ≡ old)
TakesNext (Err fault) old new = new ≡ old

-- the body is the next one again, and the last place is there no more
abbrev pub GivesBack : {B : Type 0} → B → PlacesState B → PlacesState B → Type 0
GivesBack {B} body old new = (last : Option B) × (old.back ≡ new.back ++ last ∷ []) × (new.rest ≡ body ∷ old.rest)

-- this was asked with this body: the request is the channel's next one, and its token is named so; or it was refused, where the channel wasn't destroyed for want of memory, which the body knows, and the body is the next one again
abbrev pub AsksWith : {B : Type 0} → (B → ℕ) → (B → Option ℕ) → (B → Option Refusal) → Spec → Plan → B → Result (Unit {0}) OutOfMemory → Owned → Owned → PlacesState B → PlacesState B → Type 0
AsksWith name told refusal spec script body (Ok done) old new places_old places_new =
    (new.seen ≡ old.seen ++ record { seat = 0; by = 0; what = Accept (length (accepted (past_of old.seen)) + 1) spec script } ∷ [])
    × (new.names ≡ finite.insert old.names (length (accepted (past_of old.seen)) + 1) (body_name (name body))) × (places_new ≡ places_old)
AsksWith {B} name told refusal spec script body (Err fault) old new places_old places_new =
    (new.seen ≡ old.seen) × (new.names ≡ old.names)
    × ((back : B) × IsBack name told None body back × (IsFalse (is_destroyed (past_of old.seen)) → refusal back ≡ Some NoMemory) × GivesBack back places_old places_new)

module _ {B : Type 0} (name : B → ℕ) (told : B → Option ℕ) where
  -- what is left of a callback that was called: its body, by its name, which was told that answer; or nothing, of a script alone
  abbrev pub IsLeftOf : CalledState → Option B → Type 0
  IsLeftOf called None = IsFalse called.boxed
  IsLeftOf called (Some body) = IsTrue called.boxed × (name body ≡ called.name) × (told body ≡ Some called.number)

  -- it is at the place of its request, where that has one, and all else is as it was
  pub record PutsBack (called : CalledState) (old new : PlacesState B) : Type 0 where
    pub left : Option B
    pub is_left : IsLeftOf called left
    pub back : 1 ≤ called.number → new.back ≡ slice_set old.back (called.number - 1) left
    pub rest : new.rest ≡ old.rest

  -- the body of this request, which was given as this one, is in the channel, as the token of this number, and the request wasn't taken; or it is back at its place, and the request was taken
  abbrev pub IsPlaced : Names → List ℕ → ℕ → B → Option B → Type 0
  IsPlaced names taken_so_far number body None = (finite.get names number ≡ Some (body_name (name body))) × (occurrences number taken_so_far ≡ 0)
  IsPlaced names taken_so_far number body (Some back) = IsBack name told (Some number) body back × (1 ≤ occurrences number taken_so_far)

  -- the same of the bodies of several requests, one for each number from this one on
  abbrev pub ArePlacedFrom : Names → List ℕ → ℕ → List B → List (Option B) → Type 0
  ArePlacedFrom names taken_so_far number [] [] = ⊤
  ArePlacedFrom names taken_so_far number [] (place ∷ back) = ⊥
  ArePlacedFrom names taken_so_far number (body ∷ bodies) [] = ⊥
  ArePlacedFrom names taken_so_far number (body ∷ bodies) (place ∷ back) =
      IsPlaced names taken_so_far number body place × ArePlacedFrom names taken_so_far (number + 1) bodies back

  -- so are those of all requests that the run asked, which are the channel's first ones
  pub record ArePlaced (bodies : List B) (channel : Owned) (back : List (Option B)) : Type 0 where
    pub numbered : numbers_asked channel.seen ≡ range_with_len 1 (length bodies)
    pub few : length bodies ≤ length (accepted (past_of channel.seen))
    pub placed : ArePlacedFrom channel.names (taken (past_of channel.seen)) 1 bodies back

  -- bodies that are placed stay so, and the others are as they were
  pub record KeepsPlaces (old new : Caller B) : Type 0 where
    pub rest : new.places.rest ≡ old.places.rest
    pub placed : IsKept old → (bodies : List B) → ArePlaced bodies old.alone old.places.back → ArePlaced bodies new.alone new.places.back

  -- of these bodies those of the requests that were accepted are placed, and the others are unasked
  pub record HaveAsked (refusal : B → Option Refusal) (given : List B) (channel : Owned) (places : PlacesState B) : Type 0 where
    pub asked : List B
    pub unasked : List B
    pub parts : given ≡ asked ++ unasked
    pub placed : ArePlaced asked channel places.back
    pub left : AreUnasked name told refusal unasked places.rest
