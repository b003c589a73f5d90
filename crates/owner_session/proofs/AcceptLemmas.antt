-- Requests that are accepted one behind the other on nobody's command.
use Rattle.std.proofs.Common.{◌≡◌, ◌∙◌, ℕ, ◌+◌, suc, true, false, List, [], ◌∷◌, ◌++◌, drop, is_err, length, refl, ap, sym, subst, arith}
use Rattle.std.specs.FinMap as finite
use Rattle.std.specs.Option.{unwrap_or}
use Rattle.std.specs.Prelude.{All, Err, None, Ok, Option, Result, Some}
use Rattle.std.specs.List.{list_all}
use Rattle.std.proofs.lemmas.Bool.{and_from}
use Rattle.std.proofs.lemmas.List.{append-nil, append_assoc}
use Rattle.std.proofs.lemmas.List.Folds.{list_all-append}
use Rattle.item_list.specs.declared.no_memory.NoMemory.{NoMemory}
use Rattle.chan_types.specs.Plans.{Plan}
use Rattle.chan_types.specs.declared.journal.What.TheVariants.{Accept}
use Rattle.chan_types.specs.declared.refusal.Refusal.{Refusal}
use Rattle.chan_types.specs.declared.refusal.Refusal.TheVariants.{Closed, NoMemory as Wanting}
use Rattle.chan_types.specs.declared.spec.Spec.{Spec}
use Rattle.channel_model.specs.Commands.{Asking, accepted_for}
use Rattle.channel_model.specs.Journal.{accepted, is_destroyed, past_of}
use Rattle.channel_model.specs.Known.{Calls}
use Rattle.channel_model.proofs.NameLemmas.{name_put}
use Rattle.channel_model.proofs.Theorems.{names_stay_behind, names_stay_refl, names_stay_trans}
use Rattle.channel_model.specs.Meanings.{Accepts}
use Rattle.channel_model.specs.Names.{Names, NamesBecome, NamesStay}
use Rattle.channel_model.specs.Seen.{entries_of}
use Rattle.channel_model.specs.declared.answers.Refused.{Refused}
use Rattle.channel_table.specs.Calling.{Owned, known_by_owner}
use Rattle.completion_ticket.specs.States.{CallbackState, token_name}
use Rattle.owner_session.specs.Asked.{askings}
use Rattle.ticket_delivery.specs.Performing.{plan_of}
use Rattle.owner_session.specs.Places.{PlacesState}
use Rattle.owner_session.specs.Returning.{AsksWith, GivesBack, body_name}
use Rattle.owner_session.specs.Session.{AcceptsAll, is_asking}
use Rattle.owner_session.proofs.SilentLemmas.{accepted_parts}
use Rattle.owner_laws.proofs.Owner.{owner_called}

-- nothing was accepted
pub accepts_none : (a : Owned) → AcceptsAll [] (Ok tt) a a
accepts_none a = record {
  since = [];
  seen = sym (append-nil a.seen);
  setting = refl;
  voice = refl;
  lawful = λ was. was;
  names = names_stay_refl (Some a.names);
  accepts_only = refl;
  accepts_are = refl;
}

-- one was
pub accepts_one : (spec : Spec) (script : Plan) (name number : ℕ) (a b : Owned) → a.voice ≡ 0 → Calls (Accepts plan_of spec (record { plan = script; boxed = true; name = name }) (Ok number)) a.voice (known_by_owner a) (known_by_owner b) →
    (done : Unit {0}) → AcceptsAll (askings (spec ∷ []) (script ∷ [])) (Ok done) a b
accepts_one spec script name number a b nobody call done =
    let h = owner_called (Accepts plan_of spec (record { plan = script; boxed = true; name = name }) (Ok number)) a.voice a b call in
    let added : entries_of 0 a.voice call.added ≡ record { seat = 0; by = 0; what = Accept number spec script } ∷ [] =
    ap (entries_of 0 a.voice) h.meant.0 ∙ ap (λ v. record { seat = 0; by = v; what = Accept number spec script } ∷ []) nobody in
    record {
      since = record { seat = 0; by = 0; what = Accept number spec script } ∷ [];
      seen = h.journal ∙ ap (λ es. a.seen ++ es) added;
      setting = call.desk.setting;
      voice = call.desk.voice;
      lawful = λ was. call.lawful;
      names = subst (λ es. NamesStay es (Some a.names) (Some b.names)) added (names_stay_behind 0 a.voice call.added [] (Some a.names) (Some b.names) call.names);
      accepts_only = refl;
      accepts_are = refl;
    }

-- one was refused
pub refuses_one : {name : ℕ} (spec : Spec) (script : Plan) (refused : Refused CallbackState) (a b : Owned) → Calls (Accepts plan_of spec (record { plan = script; boxed = true; name = name }) (Err refused)) a.voice (known_by_owner a) (known_by_owner b) →
    (fault : NoMemory) → AcceptsAll (askings (spec ∷ []) (script ∷ [])) (Err fault) a b
refuses_one {name} spec script refused a b call fault =
    let h = owner_called (Accepts plan_of spec (record { plan = script; boxed = true; name = name }) (Err refused)) a.voice a b call in
    let seen : b.seen ≡ a.seen ++ [] = h.journal ∙ ap (λ o. a.seen ++ entries_of 0 a.voice o) h.meant.0 in
    record {
      since = [];
      seen = seen;
      setting = call.desk.setting;
      voice = call.desk.voice;
      lawful = λ was. call.lawful;
      names = subst (λ o. NamesStay (entries_of 0 a.voice o) (Some a.names) (Some b.names)) h.meant.0 (names_stay_behind 0 a.voice call.added [] (Some a.names) (Some b.names) call.names);
      accepts_only = refl;
      accepts_are = (askings (spec ∷ []) (script ∷ []), refl);
    }

-- ---- the body with which one was asked

module _ {B : Type 0} (name : B → ℕ) (told : B → Option ℕ) (refusal : B → Option Refusal) (spec : Spec) (script : Plan) (body : B) (a b : Owned) where
  abbrev token : CallbackState
  token = record { plan = script; boxed = true; name = name body }

  -- its token is the one of the next number
  pub asks_one : (number : ℕ) (places : PlacesState B) → a.voice ≡ 0 → Calls (Accepts plan_of spec token (Ok number)) a.voice (known_by_owner a) (known_by_owner b) → finite.get b.names number ≡ Some (token_name token) →
      (done : Unit {0}) → AsksWith name told refusal spec script body (Ok done) a b places places
  asks_one number places nobody call named done =
      let h = owner_called (Accepts plan_of spec token (Ok number)) a.voice a b call in
      let is : number ≡ length (accepted (past_of a.seen)) + 1 = h.meant.2 in
      let become : NamesBecome (Some (Accept number spec script)) (Some a.names) (Some b.names) = subst (λ o. NamesBecome o (Some a.names) (Some b.names)) h.meant.0 call.names in
      let put : b.names ≡ finite.insert a.names number become.2.0 = ap (λ (known : Option Names). unwrap_or known a.names) become.1 ∙ become.2.1 in
      let same : become.2.0 ≡ body_name (name body) = some_name (sym (ap (λ m. finite.get m number) put ∙ name_put a.names number become.2.0) ∙ named) in (
        h.journal ∙ ap (λ o. a.seen ++ entries_of 0 a.voice o) h.meant.0 ∙ ap (λ v. a.seen ++ record { seat = 0; by = v; what = Accept number spec script } ∷ []) nobody
            ∙ ap (λ n. a.seen ++ record { seat = 0; by = 0; what = Accept n spec script } ∷ []) is,
        put ∙ ap (finite.insert a.names number) same ∙ ap (λ n. finite.insert a.names n (body_name (name body))) is,
        refl,
      )
    where
      some_name : {x y : ℕ} → Some x ≡ Some y → x ≡ y
      some_name {x} is = ap (λ (o : Option ℕ). unwrap_or o x) is

  -- what is refused is the callback with this body
  pub refused_body : (refused : Refused CallbackState) → Calls (Accepts plan_of spec token (Err refused)) a.voice (known_by_owner a) (known_by_owner b) → refused.token.boxed ≡ true
  refused_body refused call = ap (λ (t : CallbackState). t.boxed) (owner_called (Accepts plan_of spec token (Err refused)) a.voice a b call).meant.3

  -- or it is given back, and was told why
  pub asks_refused : (refused : Refused CallbackState) (back : B) (old new : PlacesState B) → Calls (Accepts plan_of spec token (Err refused)) a.voice (known_by_owner a) (known_by_owner b) →
      (name back ≡ refused.token.name) × (refusal back ≡ Some refused.why) × (told back ≡ None) → GivesBack back old new → (fault : NoMemory) → AsksWith name told refusal spec script body (Err fault) a b old new
  asks_refused refused back old new call is gives fault =
      let h = owner_called (Accepts plan_of spec token (Err refused)) a.voice a b call in
      let become : NamesBecome None (Some a.names) (Some b.names) = subst (λ o. NamesBecome o (Some a.names) (Some b.names)) h.meant.0 call.names in (
        h.journal ∙ ap (λ o. a.seen ++ entries_of 0 a.voice o) h.meant.0 ∙ append-nil a.seen,
        ap (λ (known : Option Names). unwrap_or known a.names) become.1 ∙ become.2,
        (
          back,
          (is.0 ∙ ap (λ (t : CallbackState). t.name) h.meant.3, is.2),
          λ open_yet. is.1 ∙ ap Some (by refused.why refl (λ closed. h.meant.1.0 closed) open_yet),
          gives,
        ),
      )
    where
      by : (why : Refusal) → refused.why ≡ why → (refused.why ≡ Closed → is_destroyed (past_of a.seen) ≡ true) → is_destroyed (past_of a.seen) ≡ false → refused.why ≡ Wanting
      by Closed is closed open_yet = absurd (let clash : true ≡ false = sym (closed is) ∙ open_yet in cc)
      by Wanting is closed open_yet = is

-- ---- several

-- some were, of all that are asked
pub record AcceptsSome (specs rest : List Spec) (plans left : List Plan) (old new : Owned) : Type 0 where
  pub done : List Asking
  pub parts : askings specs plans ≡ done ++ askings rest left
  pub accepts : AcceptsAll done (Ok tt) old new

pub some_none : (specs : List Spec) (plans : List Plan) (a : Owned) → AcceptsSome specs specs plans plans a a
some_none specs plans a = record { done = []; parts = refl; accepts = accepts_none a }

-- of all that are asked none was accepted yet
pub some_begun : (specs rest : List Spec) (plans left : List Plan) (a : Owned) → rest ≡ specs → left ≡ plans → AcceptsSome specs rest plans left a a
some_begun specs rest plans left a specs_are plans_are =
    subst (λ ps. AcceptsSome specs rest plans ps a a) (sym plans_are) (subst (λ ss. AcceptsSome specs ss plans plans a a) (sym specs_are) (some_none specs plans a))

-- the first of those that are left has a spec and a script
first_asked : (rest behind : List Spec) (left later : List Plan) (spec : Spec) (script : Plan) → rest ≡ spec ∷ behind → left ≡ script ∷ later → askings rest left ≡ record { spec = spec; script = script } ∷ askings behind later
first_asked rest behind left later spec script specs_are plans_are = ap (λ ss. askings ss left) specs_are ∙ ap (askings (spec ∷ behind)) plans_are

-- one more
pub some_more : (specs rest behind : List Spec) (plans left later : List Plan) (spec : Spec) (script : Plan) (a b c : Owned) (result : Result (Unit {0}) NoMemory) → rest ≡ spec ∷ behind → left ≡ script ∷ later →
    is_err result ≡ false → AcceptsSome specs rest plans left a b → AcceptsAll (askings (spec ∷ []) (script ∷ [])) result b c → AcceptsSome specs behind plans later a c
some_more specs rest behind plans left later spec script a b c (Err fault) specs_are plans_are ok x y = absurd (cc ok)
some_more specs rest behind plans left later spec script a b c (Ok done) specs_are plans_are ok x y = record {
  done = x.done ++ askings (spec ∷ []) (script ∷ []);
  parts = x.parts ∙ ap (λ l. x.done ++ l) (first_asked rest behind left later spec script specs_are plans_are) ∙ sym (append_assoc x.done (askings (spec ∷ []) (script ∷ [])) (askings behind later));
  accepts = record {
    since = x.accepts.since ++ y.since;
    seen = y.seen ∙ ap (λ l. l ++ y.since) x.accepts.seen ∙ append_assoc a.seen x.accepts.since y.since;
    setting = y.setting ∙ x.accepts.setting;
    voice = y.voice ∙ x.accepts.voice;
    lawful = λ was. y.lawful (x.accepts.lawful was);
    names = names_stay_trans x.accepts.since y.since (Some a.names) (Some b.names) (Some c.names) x.accepts.names y.names;
    accepts_only = list_all-append is_asking x.accepts.since y.since ∙ and_from (list_all is_asking x.accepts.since) (list_all is_asking y.since) x.accepts.accepts_only y.accepts_only;
    accepts_are = accepted_parts 0 x.accepts.since y.since ∙ ap (λ l. l ++ accepted_for 0 y.since) x.accepts.accepts_are ∙ ap (λ l. x.done ++ l) y.accepts_are;
  };
}

-- one was refused, behind some
pub some_cut : (specs rest behind : List Spec) (plans left later : List Plan) (spec : Spec) (script : Plan) (a b c : Owned) (result whole : Result (Unit {0}) NoMemory) → rest ≡ spec ∷ behind → left ≡ script ∷ later →
    is_err result ≡ true → is_err whole ≡ true → AcceptsSome specs rest plans left a b → AcceptsAll (askings (spec ∷ []) (script ∷ [])) result b c → AcceptsAll (askings specs plans) whole a c
some_cut specs rest behind plans left later spec script a b c (Ok done) whole specs_are plans_are err failed x y = absurd (cc err)
some_cut specs rest behind plans left later spec script a b c (Err fault) (Ok done) specs_are plans_are err failed x y = absurd (cc failed)
some_cut specs rest behind plans left later spec script a b c (Err fault) (Err failure) specs_are plans_are err failed x y =
    let all : askings specs plans ≡ (x.done ++ askings (spec ∷ []) (script ∷ [])) ++ askings behind later =
    x.parts ∙ ap (λ l. x.done ++ l) (first_asked rest behind left later spec script specs_are plans_are) ∙ sym (append_assoc x.done (askings (spec ∷ []) (script ∷ [])) (askings behind later)) in
    record {
      since = x.accepts.since ++ y.since;
      seen = y.seen ∙ ap (λ l. l ++ y.since) x.accepts.seen ∙ append_assoc a.seen x.accepts.since y.since;
      setting = y.setting ∙ x.accepts.setting;
      voice = y.voice ∙ x.accepts.voice;
      lawful = λ was. y.lawful (x.accepts.lawful was);
      names = names_stay_trans x.accepts.since y.since (Some a.names) (Some b.names) (Some c.names) x.accepts.names y.names;
      accepts_only = list_all-append is_asking x.accepts.since y.since ∙ and_from (list_all is_asking x.accepts.since) (list_all is_asking y.since) x.accepts.accepts_only y.accepts_only;
      accepts_are = (
        y.accepts_are.0 ++ askings behind later,
        ap (λ l. l ++ (y.accepts_are.0 ++ askings behind later)) (accepted_parts 0 x.accepts.since y.since ∙ ap (λ l. l ++ accepted_for 0 y.since) x.accepts.accepts_are)
            ∙ append_assoc x.done (accepted_for 0 y.since) (y.accepts_are.0 ++ askings behind later)
            ∙ ap (λ l. x.done ++ l) (sym (append_assoc (accepted_for 0 y.since) y.accepts_are.0 (askings behind later)) ∙ ap (λ l. l ++ askings behind later) y.accepts_are.1)
            ∙ sym (append_assoc x.done (askings (spec ∷ []) (script ∷ [])) (askings behind later)) ∙ sym all,
      );
    }

-- memory was wanting for one more
pub some_wanting : (specs rest : List Spec) (plans left : List Plan) (a b : Owned) (whole : Result (Unit {0}) NoMemory) → is_err whole ≡ true → AcceptsSome specs rest plans left a b → AcceptsAll (askings specs plans) whole a b
some_wanting specs rest plans left a b (Ok done) failed x = absurd (cc failed)
some_wanting specs rest plans left a b (Err failure) failed x = record {
  since = x.accepts.since;
  seen = x.accepts.seen;
  setting = x.accepts.setting;
  voice = x.accepts.voice;
  lawful = x.accepts.lawful;
  names = x.accepts.names;
  accepts_only = x.accepts.accepts_only;
  accepts_are = (askings rest left, ap (λ l. l ++ askings rest left) x.accepts.accepts_are ∙ sym x.parts);
}

-- none is left, or none with a script
pub some_all : (specs rest : List Spec) (plans left : List Plan) (a b : Owned) (done : Unit {0}) → askings rest left ≡ [] → AcceptsSome specs rest plans left a b → AcceptsAll (askings specs plans) (Ok done) a b
some_all specs rest plans left a b done none x =
    subst (λ l. AcceptsAll l (Ok done) a b) (sym (x.parts ∙ ap (λ l. x.done ++ l) none ∙ append-nil x.done)) (record {
      since = x.accepts.since;
      seen = x.accepts.seen;
      setting = x.accepts.setting;
      voice = x.accepts.voice;
      lawful = x.accepts.lawful;
      names = x.accepts.names;
      accepts_only = x.accepts.accepts_only;
      accepts_are = x.accepts.accepts_are;
    })

-- without scripts nothing is asked
pub none_scripted : (specs : List Spec) (plans : List Plan) → plans ≡ [] → askings specs plans ≡ []
none_scripted specs plans none = ap (askings specs) none ∙ by specs
  where
    by : (ss : List Spec) → askings ss [] ≡ []
    by [] = refl
    by (s ∷ ss) = refl

pub none_left : (specs : List Spec) (plans : List Plan) → specs ≡ drop 1 specs → askings specs plans ≡ []
none_left [] plans none = refl
none_left (spec ∷ specs) plans none = absurd (omega (arith, ap length none))

-- what holds of each of a list holds of each behind the first
pub each_behind : {T : Type 0} (P : T → Type 0) (first : T) (all behind : List T) → all ≡ first ∷ behind → All P all → All P behind
each_behind P first all behind is each = λ k d less. (subst (All P) is each) (suc k) d (omega (arith, less))
