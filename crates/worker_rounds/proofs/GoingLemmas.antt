-- How places go on: by steps, takings and tickets that are spent.
use Rattle.std.proofs.Common.{◌≡◌, ◌∙◌, ℕ, ◌==◌, ◌&&◌, Bool, true, false, eqb-true, List, [], ◌∷◌, ◌++◌, Option, Some, None, map, refl, ap, ap₂, sym, subst, append_assoc, inl, inr}
use Rattle.std.proofs.lemmas.Bool.{and_parts}
use Rattle.std.proofs.lemmas.List.{append-nil, append_cancel_left, map-append}
use Rattle.std.proofs.lemmas.List.Folds.{list_all-append}
use Rattle.std.proofs.lemmas.List.Elements.{Contains-append_left, Contains-push, filter_map-append}
use Rattle.std.specs.List.{AllByRecursion, Contains, list_all}
use Rattle.std.specs.Prelude.{drop, is_some, not}
use mathlib.Core.List.{IsPrefix}
use Rattle.chan_types.specs.declared.answer.Answer.{Answer}
use Rattle.chan_types.specs.declared.journal.Entry.{Entry}
use Rattle.chan_types.specs.declared.journal.What.{What}
use Rattle.chan_types.specs.declared.journal.What.TheVariants.{Accept, Arrive, Cancel, Destroy, Expire, Fault, Servers, Start, Take}
use Rattle.chan_types.specs.declared.orders.Orders.{Orders}
use Rattle.chan_types.specs.declared.ticket.Ticket.{Ticket}
use Rattle.channel_model.specs.Completion.{taken_by}
use Rattle.channel_model.specs.Journal.{own_entries}
use Rattle.channel_model.specs.Known.{Calls, GoesOn, IsSameDesk, Known}
use Rattle.channel_model.specs.Meanings.{Meaning}
use Rattle.channel_model.specs.Seen.{entries_of}
use Rattle.channel_model.proofs.Theorems.{call_goes_on, goes_on_refl, goes_on_trans}
use Rattle.channel_table.specs.Commanded.{IsOfCommand}
use Rattle.completion_ticket.specs.States.{CallbackState, CalledState}
use Rattle.delivery_pool.specs.Spending.{SpendsEach}
use Rattle.pooled_places.specs.Delivery.{SpendsTicket}
use Rattle.pooled_places.specs.Tickets.{TicketState}
use Rattle.pooled_places.proofs.Theorems.{same_pass}
use Rattle.shared_channel.specs.Passes.{PassView, desk_of}
use Rattle.shared_channel.specs.Settling.{taken_in}
use Rattle.shared_channel.specs.Spending.{Spends}
use Rattle.worker_rounds.specs.Going.{AllGoAs, GoesAs, GoesFreely, IsCommanded, IsOwners, is_free}

abbrev pub number_of : Answer → ℕ
number_of answer = answer.number

-- a beginning of a beginning is one
pub prefix_more : {X : Type 0} (xs ys zs : List X) → IsPrefix xs ys → IsPrefix ys zs → IsPrefix xs zs
prefix_more xs ys zs first more = (first.0 ++ more.0, sym (append_assoc xs first.0 more.0) ∙ ap (λ l. l ++ more.0) first.1 ∙ more.1)

prefix_same : {X : Type 0} (xs : List X) → IsPrefix xs xs
prefix_same xs = ([], append-nil xs)

-- of more answers that were told, all the more entries are commanded
commanded_later : (answers told : List Answer) (entry : Entry) → IsCommanded answers entry → IsCommanded (answers ++ told) entry
commanded_later answers told entry is =
    (subst (λ ns. Contains ns entry.by) (sym (map-append number_of answers told)) (Contains-append_left (map number_of answers) (map number_of told) entry.by is.0), is.1)

owners_later : (answers told : List Answer) (entry : Entry) → IsOwners answers entry → IsOwners (answers ++ told) entry
owners_later answers told entry (inl own) = inl own
owners_later answers told entry (inr by) = inr (commanded_later answers told entry by)

each_both : {A : Type 0} (P : A → Type 0) (xs ys : List A) → AllByRecursion P xs → AllByRecursion P ys → AllByRecursion P (xs ++ ys)
each_both P [] ys each more = more
each_both P (x ∷ xs) ys each more = (each.0, each_both P xs ys each.1 more)

module _ (IsSuch : List Answer → Entry → Type 0) (later : (answers told : List Answer) (entry : Entry) → IsSuch answers entry → IsSuch (answers ++ told) entry) where
  each_later : (answers told : List Answer) (made : List Entry) → AllByRecursion (IsSuch answers) made → AllByRecursion (IsSuch (answers ++ told)) made
  each_later answers told [] each = tt
  each_later answers told (e ∷ es) each = (later answers told e each.0, each_later answers told es each.1)

  goes_none : (old new : PassView) → new ≡ old → GoesAs IsSuch old new
  goes_none old new is = subst (GoesAs IsSuch old) (sym is) (record { same = refl; told = []; calls = sym (append-nil old.calls); made = []; own = sym (append-nil old.own); seen = prefix_same old.seen; each = tt })

  goes_more : (old middle new : PassView) → GoesAs IsSuch old middle → GoesAs IsSuch middle new → GoesAs IsSuch old new
  goes_more old middle new first more = record {
    same = more.same ∙ ap (λ (p : PassView). record p { own = new.own; seen = new.seen; calls = new.calls; lost = new.lost }) first.same;
    told = first.told ++ more.told;
    calls = more.calls ∙ ap (λ l. l ++ more.told) first.calls ∙ append_assoc old.calls first.told more.told;
    made = first.made ++ more.made;
    own = more.own ∙ ap (λ l. l ++ more.made) first.own ∙ append_assoc old.own first.made more.made;
    seen = prefix_more old.seen middle.seen new.seen first.seen more.seen;
    each = each_both (IsSuch new.calls) first.made more.made (subst (λ l. AllByRecursion (IsSuch l) first.made) (sym more.calls) (each_later middle.calls more.told first.made first.each)) more.each;
  }

pub owner_none : (old new : PassView) → new ≡ old → GoesAs IsOwners old new
owner_none = goes_none IsOwners owners_later

pub owner_more : (old middle new : PassView) → GoesAs IsOwners old middle → GoesAs IsOwners middle new → GoesAs IsOwners old new
owner_more = goes_more IsOwners owners_later

pub worker_more : (old middle new : PassView) → GoesAs IsCommanded old middle → GoesAs IsCommanded middle new → GoesAs IsCommanded old new
worker_more = goes_more IsCommanded commanded_later

-- what a worker may make, the owner may
pub as_owner : (old new : PassView) → GoesAs IsCommanded old new → GoesAs IsOwners old new
as_owner old new goes = record { same = goes.same; told = goes.told; calls = goes.calls; made = goes.made; own = goes.own; seen = goes.seen; each = each_owner goes.made goes.each }
  where
    each_owner : (made : List Entry) → AllByRecursion (IsCommanded new.calls) made → AllByRecursion (IsOwners new.calls) made
    each_owner [] each = tt
    each_owner (e ∷ es) each = (inr each.0, each_owner es each.1)

-- by a ticket that is spent, and by several
pub spend_goes : (orders : Orders) (ticket : Ticket CallbackState) (called : CalledState) (old new : PassView) → Spends orders ticket old called new → GoesAs IsCommanded old new
spend_goes orders ticket called old new spends =
    let done = spends.performed in
    record {
      same = spends.rest;
      told = ticket.call ∷ [];
      calls = spends.calls;
      made = own_entries old.number done.since;
      own = done.own;
      seen = (done.since, sym done.seen);
      each = each_is (own_entries old.number done.since) done.commanded;
    }
  where
    told_now : Contains (map number_of new.calls) ticket.call.number
    told_now = subst (λ l. Contains l ticket.call.number) (sym (ap (map number_of) spends.calls ∙ map-append number_of old.calls (ticket.call ∷ []))) (Contains-push (map number_of old.calls) ticket.call.number)

    each_is : (made : List Entry) → AllByRecursion (λ (entry : Entry). (entry.by ≡ ticket.call.number) × IsOfCommand entry.what) made → AllByRecursion (IsCommanded new.calls) made
    each_is [] each = tt
    each_is (e ∷ es) each = ((subst (Contains (map number_of new.calls)) (sym each.0.0) told_now, each.0.1), each_is es each.1)

pub spends_go : (tickets : List TicketState) (old new : Orders × PassView) → SpendsEach SpendsTicket old tickets new → GoesAs IsCommanded old.1 new.1
spends_go [] old new same = goes_none IsCommanded commanded_later old.1 new.1 (ap (λ (s : Orders × PassView). s.1) same)
spends_go (t ∷ ts) old new each = worker_more old.1 each.0.1 new.1 (spend_goes old.0 t.ticket each.1.1 old.1 each.0.1 each.1.2) (spends_go ts each.0 new each.2)

-- what entries take goes on at the end
taken_in-append : (xs ys : List Entry) → taken_in (xs ++ ys) ≡ taken_in xs ++ taken_in ys
taken_in-append = filter_map-append (λ (entry : Entry). taken_by entry.what)

-- where a worker's place goes on it takes nothing
commanded_take : (answers : List Answer) (made : List Entry) → AllByRecursion (IsCommanded answers) made → taken_in made ≡ []
commanded_take answers [] each = refl
commanded_take answers (e ∷ es) each = by_what e.what refl each.0.1 ∙ commanded_take answers es each.1
  where
    by_what : (what : What) → e.what ≡ what → IsOfCommand what → taken_in (e ∷ es) ≡ taken_in es
    by_what (Accept number spec script) is of_command = rw is refl
    by_what Cancel is of_command = rw is refl
    by_what Destroy is of_command = rw is refl
    by_what (Take number) is of_command = absurd of_command
    by_what (Start number leg server link id mix moment) is of_command = absurd of_command
    by_what (Arrive server link bytes) is of_command = absurd of_command
    by_what (Expire number leg moment) is of_command = absurd of_command
    by_what (Fault server link moment) is of_command = absurd of_command
    by_what (Servers list) is of_command = absurd of_command

pub worker_takes : (old new : PassView) → GoesAs IsCommanded old new → taken_in new.own ≡ taken_in old.own
worker_takes old new goes = ap taken_in goes.own ∙ taken_in-append old.own goes.made ∙ ap (λ l. taken_in old.own ++ l) (commanded_take new.calls goes.made goes.each) ∙ append-nil (taken_in old.own)

-- nor where entries are free
frees_take : (entries : List Entry) → list_all is_free entries ≡ true → taken_in entries ≡ []
frees_take [] all = refl
frees_take (e ∷ es) all =
    let parts = and_parts (is_free e) (list_all is_free es) all in
    by_what e.what refl parts.0 ∙ frees_take es parts.1
  where
    by_what : (what : What) → e.what ≡ what → is_free e ≡ true → taken_in (e ∷ es) ≡ taken_in es
    by_what (Accept number spec script) is free = rw is refl
    by_what Cancel is free = rw is refl
    by_what Destroy is free = rw is refl
    by_what (Take number) is free = let taken : is_free e ≡ false = rw is refl in let clash : false ≡ true = sym taken ∙ free in absurd (cc clash)
    by_what (Start number leg server link id mix moment) is free = rw is refl
    by_what (Arrive server link bytes) is free = rw is refl
    by_what (Expire number leg moment) is free = rw is refl
    by_what (Fault server link moment) is free = rw is refl
    by_what (Servers list) is free = rw is refl

pub free_takes : (old new : PassView) → GoesFreely (desk_of old) (desk_of new) → taken_in new.own ≡ taken_in old.own
free_takes old new by =
    let made : List Entry = own_entries old.number by.goes_on.since in
    ap taken_in by.goes_on.own ∙ taken_in-append old.own made ∙ ap (λ l. taken_in old.own ++ l) (frees_take made by.own) ∙ append-nil (taken_in old.own)

-- a desk that is the same leaves a pass the same
pub desk_same : (old new : PassView) → IsSameDesk (desk_of old) (desk_of new) → new ≡ record old { own = new.own; seen = new.seen; calls = new.calls; lost = new.lost }
desk_same old new is =
    let same = same_pass old new is in
    same ∙ (λ i. record old { own = new.own; seen = new.seen; calls = sym (ap (λ (p : PassView). p.calls) same) i; lost = sym (ap (λ (p : PassView). p.lost) same) i })

-- by a stretch in which nothing is taken or told
pub free_goes : (old new : PassView) → GoesFreely (desk_of old) (desk_of new) → GoesAs IsOwners old new
free_goes old new by =
    let made : List Entry = own_entries old.number by.goes_on.since in
    record {
      same = desk_same old new by.goes_on.desk;
      told = [];
      calls = ap (λ (p : PassView). p.calls) (same_pass old new by.goes_on.desk) ∙ sym (append-nil old.calls);
      made = made;
      own = by.goes_on.own;
      seen = (by.goes_on.since, sym by.goes_on.seen);
      each = each_is made by.own;
    }
  where
    each_is : (made : List Entry) → list_all is_free made ≡ true → AllByRecursion (IsOwners new.calls) made
    each_is [] all = tt
    each_is (e ∷ es) all =
        let parts = and_parts (is_free e) (list_all is_free es) all in
        let both = and_parts (not (is_some (taken_by e.what))) (e.by == 0) parts.0 in
        (inl (eqb-true e.by 0 both.1), each_is es parts.1)

-- a desk that went on without an entry of its own made such a stretch, and so did a call that adds nothing
pub looked_freely : (old new : Known) → GoesOn old new → new.own ≡ old.own → GoesFreely old new
looked_freely old new goes_on same = record { goes_on = goes_on; own = ap (list_all is_free) (nothing old.own (own_entries old.seat goes_on.since) (sym goes_on.own ∙ same)) }
  where
    nothing : (xs ys : List Entry) → xs ++ ys ≡ xs → ys ≡ []
    nothing [] ys is = is
    nothing (x ∷ xs) ys is = nothing xs ys (ap (λ (l : List Entry). drop 1 l) is)

pub looks_freely : (meaning : Meaning) (old new : Known) (call : Calls meaning 0 old new) → call.added ≡ None → GoesFreely old new
looks_freely meaning old new call none =
    looked_freely old new (call_goes_on meaning 0 old new call) (call.own ∙ ap (λ added. old.own ++ entries_of old.seat 0 added) none ∙ append-nil old.own)

pub still_freely : (old new : Known) → new ≡ old → GoesFreely old new
still_freely old new same = subst (GoesFreely old) (sym same) (looked_freely old old (goes_on_refl old) refl)

-- one such stretch behind another
pub freely_more : (old middle new : Known) → GoesFreely old middle → GoesFreely middle new → GoesFreely old new
freely_more old middle new first more =
    let goes = goes_on_trans old middle new first.goes_on more.goes_on in
    let one : List Entry = own_entries old.seat first.goes_on.since in
    let two : List Entry = own_entries middle.seat more.goes_on.since in
    let own : new.own ≡ old.own ++ (one ++ two) = more.goes_on.own ∙ ap (λ l. l ++ two) first.goes_on.own ∙ append_assoc old.own one two in
    let made : own_entries old.seat goes.since ≡ one ++ two = append_cancel_left old.own (own_entries old.seat goes.since) (one ++ two) (sym goes.own ∙ own) in
    record { goes_on = goes; own = ap (list_all is_free) made ∙ list_all-append is_free one two ∙ ap₂ (λ a b. a && b) first.own more.own }
