-- The servers that are set behind the first turn: what the journal has of them, and where they stand among the network's calls.
use Rattle.std.specs.FinMap as finite
use Rattle.std.proofs.Common.{◌≡◌, ◌≢◌, ◌∙◌, ℕ, ◌+◌, ◌≤◌, ◌==◌, ◌||◌, Bool, true, false, not, List, [], ◌∷◌, ◌++◌, Option, Some, None, Result, Ok, Err, inl, inr, refl, sym, ap, subst, arith, eq-eqb, eqb-true}
use Rattle.std.specs.Prelude.{⊤}
use Rattle.std.proofs.lemmas.Bool.{and_parts}
use Rattle.std.proofs.lemmas.List.{append-nil, append_assoc}
use Rattle.std.proofs.lemmas.List.Folds.{list_all-append}
use Rattle.std.specs.List.{list_all}
use Rattle.item_list.specs.declared.no_memory.NoMemory.{NoMemory}
use Rattle.net_addr.specs.declared.addr.ServerAddr.{ServerAddr}
use Rattle.net_world.specs.declared.log.WorldCall.{WorldCall}
use Rattle.chan_types.specs.declared.journal.Entry.{Entry}
use Rattle.channel_model.proofs.Theorems.{servers-ready}
use Rattle.channel_model.specs.Course.{is_of_turn}
use Rattle.channel_model.specs.Journal.{past_of}
use Rattle.channel_model.specs.Servers.{keys_for}
use Rattle.channel_model.specs.Setting.{Setting}
use Rattle.channel_table.specs.Calling.{Owned, known_by_owner}
use Rattle.event_runner.proofs.Theorems.{told_as, told_trans}
use Rattle.event_runner.specs.Running.{Running}
use Rattle.event_runner.specs.State.{IsTurnOwner}
use Rattle.event_runner.specs.UnderWay.{IsUnderWay, RunsSince, rested}
use Rattle.net_world.specs.Logs.{LogGets}
use Rattle.owner_session.specs.Kinds.{has_servers, is_servers}
use Rattle.owner_session.specs.Session.{SetsAtMost, SetsBehindFirst, SetsLater, SetsOnce, SetsSoFar, SetsThese, servers_entry}
use Rattle.owner_laws.specs.Sessions.{FirstTurn, longest_slice}
use Rattle.owner_laws.proofs.Begun.{first_on}
use Rattle.owner_session.specs.declared.caller.Caller.{Caller}
use Rattle.owner_session.proofs.ListLemmas.{any_of}
use Rattle.owner_session.proofs.MoveLemmas.{Moves, moves_none, moves_plain}
use Rattle.owner_session.proofs.PromptLemmas.{MovesBetween, prompted_none}

-- ---- journals that go on without setting servers

-- servers that were set once are so in a longer journal
abbrev once_more : (setting : Setting) (addresses : List ServerAddr) (journal es : List Entry) → has_servers es ≡ false → SetsOnce setting addresses journal → SetsOnce setting addresses (journal ++ es)
once_more setting addresses journal es none once = record {
  earlier = once.earlier;
  behind = once.behind ++ es;
  parts = ap (λ l. l ++ es) once.parts ∙ append_assoc once.earlier (servers_entry setting addresses (past_of once.earlier) ∷ once.behind) es;
  none_earlier = once.none_earlier;
  none_behind = any_of (λ e. is_servers e.what) once.behind es once.none_behind none;
}

pub at_most_more : (setting : Setting) (later : Option (List ServerAddr)) (journal es : List Entry) → has_servers es ≡ false → SetsAtMost setting later journal → SetsAtMost setting later (journal ++ es)
at_most_more setting None journal es none most = any_of (λ e. is_servers e.what) journal es most none
at_most_more setting (Some addresses) journal es none (inl unset) = inl (any_of (λ e. is_servers e.what) journal es unset none)
at_most_more setting (Some addresses) journal es none (inr once) = inr (once_more setting addresses journal es none once)

-- none were set
pub at_most_none : (setting : Setting) (later : Option (List ServerAddr)) (journal : List Entry) → has_servers journal ≡ false → SetsAtMost setting later journal
at_most_none setting None journal unset = unset
at_most_none setting (Some addresses) journal unset = inl unset

pub behind_more : (setting : Setting) (later : Option (List ServerAddr)) (made again : ℕ) (journal es : List Entry) (calls more : List WorldCall) → (made ≡ 0 → again ≡ 0) → has_servers es ≡ false →
    SetsBehindFirst setting later made journal calls → SetsBehindFirst setting later again (journal ++ es) (calls ++ more)
behind_more setting None made again journal es calls more zero_ none sets = any_of (λ e. is_servers e.what) journal es sets none
behind_more setting (Some addresses) made again journal es calls more zero_ none (inl first) = inl (zero_ first.0, any_of (λ e. is_servers e.what) journal es first.1 none)
behind_more setting (Some addresses) made again journal es calls more zero_ none (inr (inl set)) =
    inr (inl (record { sets = once_more setting addresses journal es none set.sets; behind_first = first_on setting set.sets.earlier calls more set.behind_first }))
behind_more setting (Some addresses) made again journal es calls more zero_ none (inr (inr not_set)) = inr (inr (record {
  earlier = not_set.earlier;
  behind = not_set.behind ++ es;
  parts = ap (λ l. l ++ es) not_set.parts ∙ append_assoc not_set.earlier not_set.behind es;
  behind_first = first_on setting not_set.earlier calls more not_set.behind_first;
  destroyed = not_set.destroyed;
  none_set = any_of (λ e. is_servers e.what) journal es not_set.none_set none;
}))

-- before the first turn none were set
behind_none : (setting : Setting) (later : Option (List ServerAddr)) (journal : List Entry) (calls : List WorldCall) → has_servers journal ≡ false → SetsBehindFirst setting later 0 journal calls
behind_none setting None journal calls unset = unset
behind_none setting (Some addresses) journal calls unset = inl (refl, unset)

-- behind the first turn it is no matter how many turns were made
behind_any : (setting : Setting) (later : Option (List ServerAddr)) (made again : ℕ) (journal : List Entry) (calls : List WorldCall) → made ≢ 0 → SetsBehindFirst setting later made journal calls → SetsBehindFirst setting later again journal calls
behind_any setting None made again journal calls some sets = sets
behind_any setting (Some addresses) made again journal calls some (inl first) = absurd (some first.0)
behind_any setting (Some addresses) made again journal calls some (inr sets) = inr sets

-- ---- a session so far

-- the log of a run goes on
abbrev pub Grows : Option (List WorldCall) → Option (List WorldCall) → Type 0
Grows old new = LogGets (λ calls. ⊤) old new

pub grows_none : (l : Option (List WorldCall)) → Grows l l
grows_none None = refl
grows_none (Some x) = ([], ap Some (sym (append-nil x)), tt)

-- who owns the turns of a journal owned those of its beginning
pub owner_first : (a b : Owned) (es : List Entry) → b.seen ≡ a.seen ++ es → IsTurnOwner (known_by_owner b) → IsTurnOwner (known_by_owner a)
owner_first a b es seen owner =
    let test : Entry → Bool = λ entry. not (is_of_turn entry) || (entry.seat == 0) in
    (and_parts (list_all test a.seen) (list_all test es) (sym (list_all-append test a.seen es) ∙ ap (list_all test) (sym seen) ∙ owner)).0

-- of these servers, since a run of so many turns began: what the journal has, and where it stands among the calls
pub record Sets {B : Type 0} (later : Option (List ServerAddr)) (turns : ℕ) (old new : Caller B) (before : Running) (log_old log_new : Option (List WorldCall)) : Type 0 where
  pub at_most : has_servers old.alone.seen ≡ false → SetsAtMost new.alone.setting later new.alone.seen
  pub told : (log : Option (List WorldCall)) → RunsSince longest_slice 0 0 rested (known_by_owner old.alone) before log log_old → has_servers old.alone.seen ≡ false →
      LogGets (λ calls. IsTurnOwner (known_by_owner new.alone) → SetsBehindFirst new.alone.setting later turns new.alone.seen calls) log log_new

-- the same, with the servers that are still to be set: before the first turn these, and behind it none
pub record Then {B : Type 0} (later left : Option (List ServerAddr)) (turns : ℕ) (old new : Caller B) (before : Running) (log_old log_new : Option (List WorldCall)) : Type 0 where
  pub waits : turns ≡ 0 → left ≡ later
  pub done : turns ≢ 0 → left ≡ None
  pub unset : turns ≡ 0 → has_servers old.alone.seen ≡ false → has_servers new.alone.seen ≡ false
  pub sets : Sets later turns old new before log_old log_new

-- what calls say of servers that are set, where want of memory ended the run behind so many whole turns, or in one more
abbrev pub SetsShort : Option (List ServerAddr) → ℕ → Owned → List WorldCall → Type 0
SetsShort later turns channel calls =
    IsTurnOwner (known_by_owner channel) → (made : ℕ) → made ≤ turns + 1 → SetsSoFar channel.setting later made channel.seen calls

module _ {B : Type 0} (later : Option (List ServerAddr)) (a : Caller B) (before : Running) (l : Option (List WorldCall)) where
  -- a part that sets no servers
  unset_more : (b c : Caller B) (m : Moves b c) → has_servers m.since ≡ false → has_servers b.alone.seen ≡ false → has_servers c.alone.seen ≡ false
  unset_more b c m none unset = ap has_servers m.seen ∙ any_of (λ e. is_servers e.what) b.alone.seen m.since unset none

  most_more : (b c : Caller B) (m : Moves b c) → has_servers m.since ≡ false → SetsAtMost b.alone.setting later b.alone.seen → SetsAtMost c.alone.setting later c.alone.seen
  most_more b c m none most =
      subst (λ s. SetsAtMost s later c.alone.seen) (sym m.setting) (subst (SetsAtMost b.alone.setting later) (sym m.seen) (at_most_more b.alone.setting later b.alone.seen m.since none most))

  sets_more : (turns again : ℕ) (b c : Caller B) (k n : Option (List WorldCall)) (m : Moves b c) → (turns ≡ 0 → again ≡ 0) → has_servers m.since ≡ false → Grows k n →
      Sets later turns a b before l k → Sets later again a c before l n
  sets_more turns again b c k n m zero_ none grows s = record {
    at_most = λ unset. most_more b c m none (s.at_most unset);
    told = λ log since unset.
        told_trans
        (λ calls. IsTurnOwner (known_by_owner b.alone) → SetsBehindFirst b.alone.setting later turns b.alone.seen calls)
        (λ calls. ⊤)
        (λ calls. IsTurnOwner (known_by_owner c.alone) → SetsBehindFirst c.alone.setting later again c.alone.seen calls)
        (λ cs ds behind any owner.
        subst (λ k. SetsBehindFirst k later again c.alone.seen (cs ++ ds)) (sym m.setting)
        (subst (λ j. SetsBehindFirst b.alone.setting later again j (cs ++ ds)) (sym m.seen)
        (behind_more b.alone.setting later turns again b.alone.seen m.since cs ds zero_ none (behind (owner_first b.alone c.alone m.since m.seen owner)))))
        log k n (s.told log since unset) grows;
  }

  -- before the first turn
  pub then_begun : (b : Caller B) (m : Moves a b) → has_servers m.since ≡ false → Then later later 0 a b before l l
  then_begun b m none = record {
    waits = λ zero_. refl;
    done = λ some. absurd (some refl);
    unset = λ zero_ unset. unset_more a b m none unset;
    sets = record {
      at_most = λ unset. at_most_none b.alone.setting later b.alone.seen (unset_more a b m none unset);
      told = λ log since unset.
          told_as (λ calls. IsTurnOwner (known_by_owner a.alone) → IsUnderWay longest_slice 0 0 rested (known_by_owner a.alone) before calls)
          (λ calls. IsTurnOwner (known_by_owner b.alone) → SetsBehindFirst b.alone.setting later 0 b.alone.seen calls)
          (λ calls way owner. behind_none b.alone.setting later b.alone.seen calls (unset_more a b m none unset)) log l since;
    };
  }

  -- a part between two turns
  pub then_more : (left : Option (List ServerAddr)) (turns : ℕ) (b c : Caller B) (k n : Option (List WorldCall)) (m : Moves b c) → has_servers m.since ≡ false → Grows k n →
      Then later left turns a b before l k → Then later left turns a c before l n
  then_more left turns b c k n m none grows t = record {
    waits = t.waits;
    done = t.done;
    unset = λ zero_ unset. unset_more b c m none (t.unset zero_ unset);
    sets = sets_more turns turns b c k n m (λ zero_. zero_) none grows t.sets;
  }

  -- want of memory ends the run here, or in a turn that sets none
  pub sets_short : (left : Option (List ServerAddr)) (turns : ℕ) (c : Caller B) (n : Option (List WorldCall)) → Then later left turns a c before l n →
      (log : Option (List WorldCall)) → RunsSince longest_slice 0 0 rested (known_by_owner a.alone) before log l → has_servers a.alone.seen ≡ false → LogGets (SetsShort later turns c.alone) log n
  sets_short left turns c n t log since unset =
      told_as (λ calls. IsTurnOwner (known_by_owner c.alone) → SetsBehindFirst c.alone.setting later turns c.alone.seen calls) (SetsShort later turns c.alone)
      (λ calls sets owner made few. by calls made few (sets owner) (turns == 0) refl) log n (t.sets.told log since unset)
    where
      by : (calls : List WorldCall) (made : ℕ) → made ≤ turns + 1 → SetsBehindFirst c.alone.setting later turns c.alone.seen calls → (z : Bool) → (turns == 0) ≡ z → SetsSoFar c.alone.setting later made c.alone.seen calls
      by calls made few sets true is = let zero_ : turns ≡ 0 = eqb-true turns 0 is in inr (omega (arith, few, zero_), t.unset zero_ unset)
      by calls made few sets false is =
          let some : turns ≢ 0 = λ zero_. absurd (let h : true ≡ false = sym (eq-eqb turns 0 zero_) ∙ is in cc) in
          inl (behind_any c.alone.setting later turns made c.alone.seen calls some sets)

  -- a turn, and behind it the servers that were still to be set
  module _ (left : Option (List ServerAddr)) (turns : ℕ) (b c : Caller B) (k n : Option (List WorldCall)) (m : Moves b c) (none : has_servers m.since ≡ false) (grows : Grows k n)
      (t : Then later left turns a b before l k)
      (ran : turns ≡ 0 → (log : Option (List WorldCall)) → RunsSince longest_slice 0 0 rested (known_by_owner a.alone) before log l →
      LogGets (λ calls. IsTurnOwner (known_by_owner c.alone) → FirstTurn c.alone.setting c.alone.seen calls) log n) where
    -- they were set, and these are they
    module _ (first : turns ≡ 0) where
      still_unset : has_servers a.alone.seen ≡ false → has_servers c.alone.seen ≡ false
      still_unset unset = unset_more b c m none (t.unset first unset)

      set_these : (addresses : List ServerAddr) → later ≡ Some addresses → (d : Owned) → SetsThese addresses c.alone d → Sets later (turns + 1) a (record c { alone = d }) before l n
      set_these addresses is d (inl set) =
          subst (λ o. Sets later (turns + 1) a (record c { alone = o }) before l n) (sym set.1)
          (subst (λ ls. Sets ls (turns + 1) a (record c { alone = record c.alone { seen = c.alone.seen ++ servers_entry c.alone.setting addresses (past_of c.alone.seen) ∷ [] } }) before l n) (sym is) (record {
            at_most = λ unset. inr (once unset);
            told = λ log since unset.
                told_as
                (λ calls. IsTurnOwner (known_by_owner c.alone) → FirstTurn c.alone.setting c.alone.seen calls)
                (λ calls. IsTurnOwner (known_by_owner (record c.alone { seen = c.alone.seen ++ servers_entry c.alone.setting addresses (past_of c.alone.seen) ∷ [] })) →
                SetsBehindFirst c.alone.setting (Some addresses) (turns + 1) (c.alone.seen ++ servers_entry c.alone.setting addresses (past_of c.alone.seen) ∷ []) calls)
                (λ calls turn owner. inr (inl (record {
                  sets = once unset;
                  behind_first =
                      turn (owner_first c.alone (record c.alone { seen = c.alone.seen ++ servers_entry c.alone.setting addresses (past_of c.alone.seen) ∷ [] }) (servers_entry c.alone.setting addresses (past_of c.alone.seen) ∷ []) refl owner);
                })))
                log n (ran first log since);
          }))
        where
          once : has_servers a.alone.seen ≡ false → SetsOnce c.alone.setting addresses (c.alone.seen ++ servers_entry c.alone.setting addresses (past_of c.alone.seen) ∷ [])
          once unset = record { earlier = c.alone.seen; behind = []; parts = refl; none_earlier = still_unset unset; none_behind = refl }
      set_these addresses is d (inr closed) =
          subst (λ o. Sets later (turns + 1) a (record c { alone = o }) before l n) (sym closed.1)
          (subst (λ ls. Sets ls (turns + 1) a c before l n) (sym is) (record {
            at_most = λ unset. inl (still_unset unset);
            told = λ log since unset.
                told_as
                (λ calls. IsTurnOwner (known_by_owner c.alone) → FirstTurn c.alone.setting c.alone.seen calls)
                (λ calls. IsTurnOwner (known_by_owner c.alone) → SetsBehindFirst c.alone.setting (Some addresses) (turns + 1) c.alone.seen calls)
                (λ calls turn owner. inr (inr (record {
                  earlier = c.alone.seen;
                  behind = [];
                  parts = sym (append-nil c.alone.seen);
                  behind_first = turn owner;
                  destroyed = closed.0;
                  none_set = still_unset unset;
                })))
                log n (ran first log since);
          }))

      set_first : (ls : Option (List ServerAddr)) → later ≡ ls → (d : Owned) (nothing : Unit {0}) → SetsLater ls (Ok nothing) c.alone d → Sets later (turns + 1) a (record c { alone = d }) before l n
      set_first None is d nothing same =
          subst (λ o. Sets later (turns + 1) a (record c { alone = o }) before l n) (sym same)
          (subst (λ ls. Sets ls (turns + 1) a c before l n) (sym is) (record {
            at_most = λ unset. still_unset unset;
            told = λ log since unset.
                told_as
                (λ calls. IsTurnOwner (known_by_owner c.alone) → FirstTurn c.alone.setting c.alone.seen calls)
                (λ calls. IsTurnOwner (known_by_owner c.alone) → SetsBehindFirst c.alone.setting None (turns + 1) c.alone.seen calls)
                (λ calls turn owner. still_unset unset) log n (ran first log since);
          }))
      set_first (Some addresses) is d nothing set = set_these addresses is d set

    -- or nothing was left to be set
    set_none : turns ≢ 0 → (d : Owned) (nothing : Unit {0}) → SetsLater None (Ok nothing) c.alone d → Sets later (turns + 1) a (record c { alone = d }) before l n
    set_none some d nothing same =
        subst (λ o. Sets later (turns + 1) a (record c { alone = o }) before l n) (sym same)
        (sets_more turns (turns + 1) b c k n m (λ zero_. absurd (some zero_)) none grows t.sets)

    pub then_set : (d : Owned) (nothing : Unit {0}) → SetsLater left (Ok nothing) c.alone d → Then later None (turns + 1) a (record c { alone = d }) before l n
    then_set d nothing set = record {
      waits = λ zero_. absurd (omega (arith, zero_));
      done = λ some. refl;
      unset = λ zero_. absurd (omega (arith, zero_));
      sets = by (turns == 0) refl;
    }
      where
        by : (z : Bool) → (turns == 0) ≡ z → Sets later (turns + 1) a (record c { alone = d }) before l n
        by true is =
            let zero_ : turns ≡ 0 = eqb-true turns 0 is in
            set_first zero_ later refl d nothing (subst (λ ls. SetsLater ls (Ok nothing) c.alone d) (t.waits zero_) set)
        by false is =
            let some : turns ≢ 0 = λ zero_. absurd (let h : true ≡ false = sym (eq-eqb turns 0 zero_) ∙ is in cc) in
            set_none some d nothing (subst (λ ls. SetsLater ls (Ok nothing) c.alone d) (t.done some) set)

-- ---- setting them is a part without a turn

-- an entry that sets servers takes and accepts nothing, is no turn's, and leaves ready what is
pub moves_set : {B : Type 0} (left : Option (List ServerAddr)) (result : Result (Unit {0}) NoMemory) (a : Caller B) (d : Owned) → SetsLater left result a.alone d → MovesBetween a (record a { alone = d })
moves_set None result a d same = subst (λ o. MovesBetween a (record a { alone = o })) (sym same) (moves_none a, refl, prompted_none a.alone.setting (past_of a.alone.seen))
moves_set (Some addresses) (Err e) a d same = subst (λ o. MovesBetween a (record a { alone = o })) (sym same) (moves_none a, refl, prompted_none a.alone.setting (past_of a.alone.seen))
moves_set (Some addresses) (Ok done) a d (inr closed) = subst (λ o. MovesBetween a (record a { alone = o })) (sym closed.1) (moves_none a, refl, prompted_none a.alone.setting (past_of a.alone.seen))
moves_set (Some addresses) (Ok done) a d (inl set) =
    let seen : d.seen ≡ a.alone.seen ++ servers_entry a.alone.setting addresses (past_of a.alone.seen) ∷ [] = ap (λ o. o.seen) set.1 in (
      moves_plain a d (servers_entry a.alone.setting addresses (past_of a.alone.seen) ∷ []) seen (ap (λ o. o.setting) set.1) (ap (λ o. o.voice) set.1) (λ was. set.2)
          (d.names, refl, λ number none. ap (λ o. finite.get o.names number) set.1) refl refl refl,
      refl,
      inl (refl, servers-ready a.alone.setting (past_of a.alone.seen) (keys_for a.alone.setting addresses (past_of a.alone.seen))),
    )
