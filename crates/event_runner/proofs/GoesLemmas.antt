-- Parts of a run, one behind the other.
use Rattle.event_runner.proofs.Base.{◌≡◌, ◌∙◌, ℕ, ◌==◌, ◌||◌, Bool, true, List, [], ◌++◌, Result, Ok, Err, refl, ap, sym, subst, MatchOption, None, Option, Some, is_err, not, option_map, list_all, and_parts, append-nil, append_assoc, list_all-append, Entry, NoMemory, WorldCall, is_of_turn, Known, Setting, Standing, AreMadeInTurns, Break, Ends, Goes, Leads, Leaves, Stops, Stretch, IsTurnOwner, State}
use Rattle.event_runner.proofs.TrailLemmas.{Trail, goes_of, made_trans, trail_none, trail_of, trail_trans}

-- the one relation and then the other is the third
abbrev pub AreJoined : Stretch → Stretch → Stretch → Type 0
AreJoined one two both = (setting : Setting) (seat : ℕ) (a b c : Standing) (es fs : List Entry) (cs ds : List WorldCall) →
    one setting seat a es cs b → two setting seat b fs ds c → both setting seat a (es ++ fs) (cs ++ ds) c

-- the one relation and then the cut one is the third
abbrev pub AreCut : Stretch → Break → Break → Type 0
AreCut one two both = (setting : Setting) (seat : ℕ) (a b : Standing) (es fs : List Entry) (cs ds : List WorldCall) →
    one setting seat a es cs b → two setting seat b fs ds → both setting seat a (es ++ fs) (cs ++ ds)

-- who owns the turns of a longer journal owns those of its beginning
pub owner_before : (a b : Known) (es : List Entry) → Trail a b es → IsTurnOwner b → IsTurnOwner a
owner_before a b es t owner =
    let test : Entry → Bool = λ entry. not (is_of_turn entry) || (entry.seat == a.seat) in
    let all : list_all test (a.seen ++ es) ≡ true =
    subst (λ l. list_all test l ≡ true) t.seen (subst (λ seat. list_all (λ entry. not (is_of_turn entry) || (entry.seat == seat)) b.seen ≡ true) t.desk.seat owner) in
    (and_parts (list_all test a.seen) (list_all test es) (sym (list_all-append test a.seen es) ∙ all)).0

-- a log that goes on with calls of a kind
abbrev pub Told : (List WorldCall → Type 0) → Option (List WorldCall) → Option (List WorldCall) → Type 0
Told kind old new = MatchOption old (new ≡ None) (λ earlier. (calls : List WorldCall) × (new ≡ Some (earlier ++ calls)) × kind calls)

some_same : (x y : List WorldCall) → ◌≡◌ {A = Option (List WorldCall)} (Some x) (Some y) → x ≡ y
some_same x y e = cc

pub told_trans : (P Q R : List WorldCall → Type 0) → ((cs ds : List WorldCall) → P cs → Q ds → R (cs ++ ds)) → (l m n : Option (List WorldCall)) → Told P l m → Told Q m n → Told R l n
told_trans P Q R join None None n a b = b
told_trans P Q R join None (Some y) n a b = absurd (cc a)
told_trans P Q R join (Some x) None n a b = absurd (cc (a.1))
told_trans P Q R join (Some x) (Some y) n a b =
    (a.0 ++ b.0, b.1 ∙ ap (λ z. Some (z ++ b.0)) (some_same y (x ++ a.0) a.1) ∙ ap Some (append_assoc x a.0 b.0), join a.0 b.0 a.2 b.2)

pub told_as : (P Q : List WorldCall → Type 0) → ((cs : List WorldCall) → P cs → Q cs) → (l m : Option (List WorldCall)) → Told P l m → Told Q l m
told_as P Q qs None m a = a
told_as P Q qs (Some x) m a = (a.0, a.1, qs a.0 a.2)

-- a log that goes on with these calls
pub told_by : (P : List WorldCall → Type 0) (cs : List WorldCall) → P cs → (l m : Option (List WorldCall)) → m ≡ option_map (λ calls. calls ++ cs) l → Told P l m
told_by P cs p None m is = is
told_by P cs p (Some x) m is = (cs, is, p)

-- two parts
pub goes_joined : (one two both : Stretch) → AreJoined one two both → (a b c : State) → Goes one a b → Goes two b c → Goes both a c
goes_joined one two both join a b c x y =
    let x_trail = trail_of a.known b.known x.goes_on in
    let y_trail = trail_of b.known c.known y.goes_on in
    let es : List Entry = x.goes_on.since in
    let fs : List Entry = y.goes_on.since in
    record {
      goes_on = goes_of a.known c.known (es ++ fs) (trail_trans a.known b.known c.known es fs x_trail y_trail);
      made = made_trans a.known b.known es fs x_trail.desk.seat x.made y.made;
      told = told_trans
          (λ cs. IsTurnOwner b.known → Leads one a b es cs)
          (λ cs. IsTurnOwner c.known → Leads two b c fs cs)
          (λ cs. IsTurnOwner c.known → Leads both a c (es ++ fs) cs)
          (λ cs ds p q owner from holds.
          let first = p (owner_before b.known c.known fs y_trail owner) from holds in
          let then_ = q owner first.0 first.2 in
          let moved : two a.known.setting a.known.seat first.0 fs ds then_.0 =
          subst (λ seat. two a.known.setting seat first.0 fs ds then_.0) x_trail.desk.seat (subst (λ setting. two setting b.known.seat first.0 fs ds then_.0) x_trail.desk.setting then_.1) in
          (then_.0, join a.known.setting a.known.seat from first.0 then_.0 es fs cs ds first.1 moved, then_.2))
          a.log b.log c.log x.told y.told;
    }

-- a part, and one that is cut short
pub stops_joined : (one : Stretch) (two both : Break) → AreCut one two both → (a b c : State) → Goes one a b → Stops two b c → Stops both a c
stops_joined one two both join a b c x y =
    let x_trail = trail_of a.known b.known x.goes_on in
    let y_trail = trail_of b.known c.known y.goes_on in
    let es : List Entry = x.goes_on.since in
    let fs : List Entry = y.goes_on.since in
    record {
      goes_on = goes_of a.known c.known (es ++ fs) (trail_trans a.known b.known c.known es fs x_trail y_trail);
      made = made_trans a.known b.known es fs x_trail.desk.seat x.made y.made;
      told = told_trans
          (λ cs. IsTurnOwner b.known → Leads one a b es cs)
          (λ cs. IsTurnOwner c.known → Leaves two b fs cs)
          (λ cs. IsTurnOwner c.known → Leaves both a (es ++ fs) cs)
          (λ cs ds p q owner from holds.
          let first = p (owner_before b.known c.known fs y_trail owner) from holds in
          let moved : two a.known.setting a.known.seat first.0 fs ds =
          subst (λ seat. two a.known.setting seat first.0 fs ds) x_trail.desk.seat (subst (λ setting. two setting b.known.seat first.0 fs ds) x_trail.desk.setting (q owner first.0 first.2)) in
          join a.known.setting a.known.seat from first.0 es fs cs ds first.1 moved)
          a.log b.log c.log x.told y.told;
    }

-- a part that went by one relation went by another that follows
pub goes_as : (one other : Stretch) → ((setting : Setting) (seat : ℕ) (a b : Standing) (es : List Entry) (cs : List WorldCall) → one setting seat a es cs b → other setting seat a es cs b) →
    (a b : State) → Goes one a b → Goes other a b
goes_as one other as_other a b x = record {
  goes_on = x.goes_on;
  made = x.made;
  told = told_as
      (λ cs. IsTurnOwner b.known → Leads one a b x.goes_on.since cs) (λ cs. IsTurnOwner b.known → Leads other a b x.goes_on.since cs)
      (λ cs p owner from holds. let to = p owner from holds in (to.0, as_other a.known.setting a.known.seat from to.0 x.goes_on.since cs to.1, to.2))
      a.log b.log x.told;
}

-- nothing was done
pub goes_none : (relation : Stretch) → ((setting : Setting) (seat : ℕ) (a : Standing) → relation setting seat a [] [] a) → (a : State) → Goes relation a a
goes_none relation none a = record {
  goes_on = goes_of a.known a.known [] (trail_none a.known);
  made = refl;
  told = told_by (λ cs. IsTurnOwner a.known → Leads relation a a [] cs) [] (λ owner from holds. (from, none a.known.setting a.known.seat from, holds)) a.log a.log (same a.log);
}
  where
    same : (l : Option (List WorldCall)) → l ≡ option_map (λ calls. calls ++ []) l
    same None = refl
    same (Some x) = ap Some (sym (append-nil x))

-- what a desk and a network did
pub goes_by : (relation : Stretch) (a b : State) (es : List Entry) (cs : List WorldCall) → Trail a.known b.known es → AreMadeInTurns a.known.seat es → b.log ≡ option_map (λ calls. calls ++ cs) a.log →
    (IsTurnOwner b.known → Leads relation a b es cs) → Goes relation a b
goes_by relation a b es cs trail made log leads = record {
  goes_on = goes_of a.known b.known es trail;
  made = made;
  told = told_by (λ calls. IsTurnOwner b.known → Leads relation a b es calls) cs leads a.log b.log log;
}

-- the same, cut short
pub stops_by : (relation : Break) (a b : State) (es : List Entry) (cs : List WorldCall) → Trail a.known b.known es → AreMadeInTurns a.known.seat es → b.log ≡ option_map (λ calls. calls ++ cs) a.log →
    (IsTurnOwner b.known → Leaves relation a es cs) → Stops relation a b
stops_by relation a b es cs trail made log leaves = record {
  goes_on = goes_of a.known b.known es trail;
  made = made;
  told = told_by (λ calls. IsTurnOwner b.known → Leaves relation a es calls) cs leaves a.log b.log log;
}

-- behind want of memory
pub ends_err : {T : Type 0} (whole : T → Stretch) (cut : Break) (result : Result T NoMemory) → is_err result ≡ true → (a b : State) → Stops cut a b → Ends whole cut result a b
ends_err whole cut (Ok answer) err a b x = absurd (cc err)
ends_err whole cut (Err fault) err a b x = x
