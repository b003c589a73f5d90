-- What is made through the passes of a session's owner and its workers, step by step: takings, and what callbacks command; through the workers' that alone.
use Rattle.std.proofs.Common.{◌≡◌, ◌∙◌, Bool, List, [], ◌∷◌, ◌++◌, Some, None, map, refl, sym, ap, subst, inl, inr}
use Rattle.std.proofs.lemmas.List.{append-nil, map-append}
use Rattle.std.proofs.lemmas.List.Elements.{Contains-append_left}
use Rattle.std.specs.List.{AllByRecursion, Contains}
use Rattle.chan_types.specs.declared.answer.Answer.{Answer}
use Rattle.chan_types.specs.declared.journal.Entry.{Entry}
use Rattle.chan_types.specs.declared.orders.Orders.{Orders}
use Rattle.chan_types.specs.declared.ticket.Ticket.{Ticket}
use Rattle.channel_model.proofs.Theorems.{each-append}
use Rattle.channel_model.specs.Known.{Calls, IsSameDesk, Known}
use Rattle.channel_model.specs.Meanings.{Takes}
use Rattle.channel_model.specs.Seen.{entries_of}
use Rattle.completion_ticket.specs.States.{CallbackState}
use Rattle.pass_laws.proofs.FirstLemmas.{calls_kept}
use Rattle.seat_laws.specs.Shifts.{taking_entry}
use Rattle.shared_channel.specs.Passes.{PassView, desk_of}
use Rattle.shared_channel.specs.Under.{plan_of}
use Rattle.turner_rounds.specs.Pumping.{Pumps}
use Rattle.worker_rounds.proofs.Theorems.{spend_goes, spends_go}
use Rattle.worker_rounds.specs.Course.{Deed, DoesEach, delivering, finding_none, stepping, taking}
use Rattle.worker_rounds.specs.Going.{GoesAs, IsCommanded}
use Rattle.worker_rounds.specs.Serving.{HasServed, IsStint, Stint}
use Rattle.worker_session.specs.Turning.{Turning}
use Rattle.shared_session.specs.Giving.{IsGiven, OnlyGives, OnlyObeys}
use Rattle.shared_session.specs.Looking.{LookEach, Looks}

-- of more answers that were told it is so all the more
commanded_later : (answers told : List Answer) (entry : Entry) → IsCommanded answers entry → IsCommanded (answers ++ told) entry
commanded_later answers told entry is = (
  subst (λ ns. Contains ns entry.by) (sym (map-append (λ (a : Answer). a.number) answers told)) (Contains-append_left (map (λ (a : Answer). a.number) answers) (map (λ (a : Answer). a.number) told) entry.by is.0),
  is.1,
)

given_later : (answers told : List Answer) (entry : Entry) → IsGiven answers entry → IsGiven (answers ++ told) entry
given_later answers told entry (inl took) = inl took
given_later answers told entry (inr is) = inr (commanded_later answers told entry is)

-- ---- entries of one kind, by the answers that were told

module _ (IsSuch : List Answer → Entry → Type 0) (later : (answers told : List Answer) (entry : Entry) → IsSuch answers entry → IsSuch (answers ++ told) entry) where
  abbrev Only : PassView → Type 0
  Only pass = AllByRecursion (IsSuch pass.calls) pass.own

  each_later : (answers told : List Answer) (made : List Entry) → AllByRecursion (IsSuch answers) made → AllByRecursion (IsSuch (answers ++ told)) made
  each_later answers told [] each = tt
  each_later answers told (e ∷ es) each = (later answers told e each.0, each_later answers told es each.1)

  -- a pass that made such entries and told answers
  such_on : (old new : PassView) (told : List Answer) (made : List Entry) → new.calls ≡ old.calls ++ told → new.own ≡ old.own ++ made → AllByRecursion (IsSuch new.calls) made → Only old → Only new
  such_on old new told made calls own each was =
      subst (AllByRecursion (IsSuch new.calls)) (sym own)
      (each-append (IsSuch new.calls) old.own made (subst (λ l. AllByRecursion (IsSuch l) old.own) (sym calls) (each_later old.calls told old.own was)) each)

  -- one that made and told nothing
  such_still : (old new : PassView) → IsSameDesk (desk_of old) (desk_of new) → new.own ≡ old.own → Only old → Only new
  such_still old new same own was = such_on old new [] [] (calls_kept old new same ∙ sym (append-nil old.calls)) (own ∙ sym (append-nil old.own)) tt was

  -- what callbacks commanded
  such_goes : ((answers : List Answer) (entry : Entry) → IsCommanded answers entry → IsSuch answers entry) → (old new : PassView) → GoesAs IsCommanded old new → Only old → Only new
  such_goes such old new goes was = such_on old new goes.told goes.made goes.calls goes.own (each_is goes.made goes.each) was
    where
      each_is : (made : List Entry) → AllByRecursion (IsCommanded new.calls) made → AllByRecursion (IsSuch new.calls) made
      each_is [] each = tt
      each_is (e ∷ es) each = (such new.calls e each.0, each_is es each.1)

  -- looks
  such_looks : (none : Bool) (old new : PassView) → Looks none old new → Only old → Only new
  such_looks none old new looks was = such_still old new looks.looked.goes_on.desk looks.looked.own was

  such_look_each : (none : Bool) (olds news : List PassView) → LookEach none olds news → AllByRecursion Only olds → AllByRecursion Only news
  such_look_each none [] [] looks was = tt
  such_look_each none [] (n ∷ ns) looks was = absurd looks
  such_look_each none (o ∷ os) [] looks was = absurd looks
  such_look_each none (o ∷ os) (n ∷ ns) looks was = (such_looks none o n looks.0 was.0, such_look_each none os ns looks.1 was.1)

-- ---- through the owner's pass

pub look_gives : (none : Bool) (old new : PassView) → Looks none old new → OnlyGives old → OnlyGives new
look_gives = such_looks IsGiven given_later

gives_still : (old new : PassView) → IsSameDesk (desk_of old) (desk_of new) → new.own ≡ old.own → OnlyGives old → OnlyGives new
gives_still = such_still IsGiven given_later

goes_give : (old new : PassView) → GoesAs IsCommanded old new → OnlyGives old → OnlyGives new
goes_give = such_goes IsGiven given_later (λ answers entry is. inr is)

-- a request that was taken
takes_give : (ticket : Ticket CallbackState) (old new : PassView) → Calls (Takes plan_of (Some ticket)) 0 (desk_of old) (desk_of new) → OnlyGives old → OnlyGives new
takes_give ticket old new call was =
    such_on IsGiven given_later old new [] (taking_entry old.number ticket.call.number ∷ []) (calls_kept old new call.desk ∙ sym (append-nil old.calls)) (call.own ∙ ap (λ added. old.own ++ entries_of old.number 0 added) call.meant.0)
    (inl (refl, refl), tt) was

-- ---- through the workers' passes

pub looks_obey : (none : Bool) (olds news : List PassView) → LookEach none olds news → AllByRecursion OnlyObeys olds → AllByRecursion OnlyObeys news
looks_obey = such_look_each IsCommanded commanded_later

goes_obey : (old new : PassView) → GoesAs IsCommanded old new → OnlyObeys old → OnlyObeys new
goes_obey = such_goes IsCommanded commanded_later (λ answers entry is. is)

-- the workers' stints
stints_obey : (orders : Orders) (stints : List Stint) → AllByRecursion (IsStint orders) stints → AllByRecursion OnlyObeys (map (λ (s : Stint). s.old) stints) → AllByRecursion OnlyObeys (map (λ (s : Stint). s.new) stints)
stints_obey orders [] each was = tt
stints_obey orders (s ∷ ss) each was = (goes_obey s.old s.new (spends_go s.tickets (orders, s.old) (orders, s.new) each.0) was.0, stints_obey orders ss each.1 was.1)

-- what is commanded is one of what the owner's pass makes
pub obeys_gives : (passes : List PassView) → AllByRecursion OnlyObeys passes → AllByRecursion OnlyGives passes
obeys_gives [] each = tt
obeys_gives (p ∷ ps) each = (one p.own each.0, obeys_gives ps each.1)
  where
    one : (es : List Entry) → AllByRecursion (IsCommanded p.calls) es → AllByRecursion (IsGiven p.calls) es
    one [] all = tt
    one (e ∷ es) all = (inr all.0, one es all.1)

module _ (orders : Orders) {P : Type 0} (steps : P → Known → P → Known → Type 0) (ends : P → Known → Type 0) (turning : P → Turning) (pumps : (old : P) (before : Known) (new : P) (behind : Known) → steps old before new behind → Pumps (turning old) before (turning new) behind) where
  -- the owner's deeds
  deeds_give : (deeds : List Deed) (old new : PassView × P) → DoesEach steps orders deeds old new → OnlyGives old.0 → OnlyGives new.0
  deeds_give [] old new same was = subst (λ (s : PassView × P). OnlyGives s.0) (sym same) was
  deeds_give (taking its ∷ deeds) old new does was = deeds_give deeds does.0 new does.2 (takes_give its.ticket old.0 does.0.0 does.1.0.0 was)
  deeds_give (delivering its ∷ deeds) old new does was =
      let took : PassView = does.1.0 in
      deeds_give deeds does.0 new does.2 (goes_give took does.0.0 (spend_goes orders its.ticket does.1.1 took does.0.0 does.1.3) (takes_give its.ticket old.0 took does.1.2.0 was))
  deeds_give (finding_none ∷ deeds) old new does was =
      let middle : PassView = does.0.0 in
      let call : Calls (Takes plan_of None) 0 (desk_of old.0) (desk_of middle) = does.1.0 in
      deeds_give deeds does.0 new does.2 (gives_still old.0 middle call.desk (call.own ∙ ap (λ added. old.0.own ++ entries_of old.0.number 0 added) call.meant.0 ∙ append-nil old.0.own) was)
  deeds_give (stepping ∷ deeds) old new does was =
      let middle : PassView = does.0.0 in
      let same : desk_of middle ≡ desk_of old.0 = (pumps old.1 (desk_of old.0) does.0.1 (desk_of middle) does.1.1).owner in
      deeds_give deeds does.0 new does.2 (gives_still old.0 middle does.1.0.goes_on.desk (ap (λ (k : Known). k.own) same) was)

  module _ (owner : PassView) (workers : List PassView) (pump : P) (owner_new : PassView) (workers_new : List PassView) (pump_new : P) (served : HasServed steps ends orders owner workers pump owner_new workers_new pump_new) where
    pub served_give : OnlyGives owner → OnlyGives owner_new
    served_give was = deeds_give served.deeds (owner, pump) (owner_new, pump_new) served.course was

    pub served_obey : AllByRecursion OnlyObeys workers → AllByRecursion OnlyObeys workers_new
    served_obey was = subst (AllByRecursion OnlyObeys) served.news (stints_obey orders served.stints served.each (subst (AllByRecursion OnlyObeys) (sym served.olds) was))
