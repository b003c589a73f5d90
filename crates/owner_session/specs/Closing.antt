-- How a channel is closed: it is destroyed, unless a callback has destroyed it, and what is ready then is delivered.
use Rattle.std.specs.List.{list_all}
use Rattle.std.specs.Prelude.{Bool, IsTrue, List, [], is_some, not, ◌++◌, ◌==◌, ◌||◌, ◌∷◌, ◌≡◌, ◌⊎◌}
use Rattle.chan_types.specs.declared.journal.Entry.{Entry}
use Rattle.chan_types.specs.declared.journal.What.TheVariants.{Destroy}
use Rattle.channel_model.specs.Completion.{pending, ready, taken_by}
use Rattle.channel_model.specs.Journal.{is_destroyed, past_of}
use Rattle.channel_model.specs.Known.{Calls}
use Rattle.channel_model.specs.Meanings.{Destroys}
use Rattle.channel_table.specs.Calling.{Owned, known_by_owner}
use Rattle.owner_session.specs.Delivering.{DeliversAll}
use Rattle.owner_session.specs.Kinds.{is_of_session}
use Rattle.owner_session.specs.declared.caller.Caller.{Caller}

-- nothing is left in the channel
pub record Closes {B : Type 0} (old new : Caller B) : Type 0 where
  pub is_first : Bool
  pub destroyed : Owned
  pub destroys : Calls (Destroys is_first) 0 (known_by_owner old.alone) (known_by_owner destroyed)
  pub delivered : DeliversAll (record old { alone = destroyed }) new
  pub none_pending : pending new.alone.setting (past_of new.alone.seen) ≡ []
  pub none_ready : ready new.alone.setting (past_of new.alone.seen) ≡ []

-- the entry by which the owner ends the channel
abbrev pub closing : Entry
closing = record { seat = 0; by = 0; what = Destroy }

-- the entry takes a request, or a callback commanded it
abbrev pub is_delivery : Entry → Bool
is_delivery entry = is_some (taken_by entry.what) || not (entry.by == 0)

-- behind the entries of a session the channel is closed: by the owner's Destroy, unless a callback has destroyed it, and behind that nothing stands but what is delivered
pub record EndsClosed (journal : List Entry) : Type 0 where
  pub earlier : List Entry
  pub closes : List Entry
  pub delivered : List Entry
  pub parts : journal ≡ earlier ++ (closes ++ delivered)
  pub of_session : IsTrue (list_all is_of_session earlier)
  pub once : (closes ≡ closing ∷ []) ⊎ ((closes ≡ []) × IsTrue (is_destroyed (past_of earlier)))
  pub deliveries : IsTrue (list_all is_delivery delivered)
