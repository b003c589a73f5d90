-- The calls by which attempts expire and fail and servers are set, and those that look, leave a pass settled too: none of them takes a request.
use Rattle.std.proofs.Common.{ℕ, List, Bool, Option, Result, Ok, Err, ap}
use Rattle.channel_model.specs.Known.{Calls}
use Rattle.channel_model.specs.Meanings.{Expires, Fails, SetsServers, TellsBusy, TellsCounts, TellsDue}
use Rattle.channel_model.specs.Seen.{entries_of}
use Rattle.channel_model.specs.declared.answers.Counts.{Counts}
use Rattle.channel_model.specs.declared.answers.Lapse.{Lapse}
use Rattle.channel_model.specs.declared.answers.Lapse.TheVariants.{Expired, NotDue}
use Rattle.channel_model.specs.declared.answers.SetFault.{SetFault}
use Rattle.item_list.specs.declared.no_memory.NoMemory.{NoMemory}
use Rattle.net_addr.specs.declared.addr.ServerAddr.{ServerAddr}
use Rattle.shared_channel.specs.Passes.{PassView, desk_of}
use Rattle.shared_channel.specs.Settling.{taken_in}
use Rattle.shared_channel.specs.Staying.{StaysSettled}
use Rattle.shared_channel.proofs.GoingLemmas.{went_call}
use Rattle.shared_channel.proofs.StayLemmas.{stays}

pub stays_expire : (at : ℕ) (reply : Result Lapse NoMemory) (old new : PassView) → Calls (Expires at reply) 0 (desk_of old) (desk_of new) → StaysSettled old new
stays_expire at (Ok (Expired number leg)) old new call = stays old new (went_call (Expires at (Ok (Expired number leg))) 0 old new call (ap (λ a. taken_in (entries_of old.number 0 a)) call.meant.0))
stays_expire at (Ok NotDue) old new call = stays old new (went_call (Expires at (Ok NotDue)) 0 old new call (ap (λ a. taken_in (entries_of old.number 0 a)) call.meant.0))
stays_expire at (Err fault) old new call = stays old new (went_call (Expires at (Err fault)) 0 old new call (ap (λ a. taken_in (entries_of old.number 0 a)) call.meant.0))

pub stays_fault : (server link at : ℕ) (reply : Result ℕ NoMemory) (old new : PassView) → Calls (Fails server link at reply) 0 (desk_of old) (desk_of new) → StaysSettled old new
stays_fault server link at (Ok count) old new call = stays old new (went_call (Fails server link at (Ok count)) 0 old new call (ap (λ a. taken_in (entries_of old.number 0 a)) call.meant.0))
stays_fault server link at (Err fault) old new call = stays old new (went_call (Fails server link at (Err fault)) 0 old new call (ap (λ a. taken_in (entries_of old.number 0 a)) call.meant))

pub stays_servers : (servers : List ServerAddr) (reply : Result ℕ SetFault) (old new : PassView) → Calls (SetsServers servers reply) 0 (desk_of old) (desk_of new) → StaysSettled old new
stays_servers servers (Ok count) old new call = stays old new (went_call (SetsServers servers (Ok count)) 0 old new call (ap (λ a. taken_in (entries_of old.number 0 a)) call.meant.0))
stays_servers servers (Err fault) old new call = stays old new (went_call (SetsServers servers (Err fault)) 0 old new call (ap (λ a. taken_in (entries_of old.number 0 a)) call.meant.0))

pub stays_due : (due : Option ℕ) (old new : PassView) → Calls (TellsDue due) 0 (desk_of old) (desk_of new) → StaysSettled old new
stays_due due old new call = stays old new (went_call (TellsDue due) 0 old new call (ap (λ a. taken_in (entries_of old.number 0 a)) call.meant.nothing))

pub stays_counts : (counts : Counts) (old new : PassView) → Calls (TellsCounts counts) 0 (desk_of old) (desk_of new) → StaysSettled old new
stays_counts counts old new call = stays old new (went_call (TellsCounts counts) 0 old new call (ap (λ a. taken_in (entries_of old.number 0 a)) call.meant.nothing))

pub stays_busy : (server link : ℕ) (busy : Bool) (old new : PassView) → Calls (TellsBusy server link busy) 0 (desk_of old) (desk_of new) → StaysSettled old new
stays_busy server link busy old new call = stays old new (went_call (TellsBusy server link busy) 0 old new call (ap (λ a. taken_in (entries_of old.number 0 a)) call.meant.nothing))
