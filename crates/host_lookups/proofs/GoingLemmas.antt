-- A run of a session over many of its calls, and how it ends.
use Rattle.std.proofs.Common.{ap, arith, false, inl, inr, length, refl, subst, sym, ◌∙◌}
use Rattle.std.specs.FinMap as finite
use Rattle.std.proofs.lemmas.List.{length-map}
use Rattle.std.specs.Prelude.{Err, IfOk, List, Ok, Option, Result, [], map, option_map, ℕ, ◌+◌, ◌++◌, ◌≡◌, ◌≤◌, ◌⊎◌}
use Rattle.chan_types.specs.declared.answer.Answer.{Answer}
use Rattle.chan_types.specs.declared.spec.Spec.{Spec}
use Rattle.channel_model.specs.Course.{serves_from}
use Rattle.channel_model.specs.Servers.{keyed_from}
use Rattle.channel_session.specs.Advancing.{Advances}
use Rattle.channel_session.specs.Left.{IsOver}
use Rattle.channel_session.specs.Sitting.{IsCount, Moment, Sitting, StandsBehind, longest_pause, moment_of, reach_of}
use Rattle.channel_table.specs.Calling.{Owned, known_by_owner}
use Rattle.channel_session.proofs.Theorems.{begun_none}
use Rattle.event_runner.proofs.Theorems.{runs_begin, told_by}
use Rattle.event_runner.specs.UnderWay.{RunsSince}
use Rattle.hosts_file.specs.declared.hosts.Hosts.{Hosts}
use Rattle.item_list.specs.declared.no_memory.NoMemory.{NoMemory}
use Rattle.net_world.specs.Cause.{Rose}
use Rattle.net_world.specs.declared.log.WorldCall.{WorldCall}
use Rattle.resolv_options.specs.declared.options.Options.{Options}
use Rattle.host_lookups.specs.Answered.{IsStalled, setting_with}
use Rattle.host_lookups.specs.Extending.{AreFates, Extends, StallsOn, StandsStill}
use Rattle.host_lookups.specs.Many.{AreAllAnswered, AreStalled, asked_from}
use Rattle.host_lookups.proofs.StallLemmas.{reach_turned}

-- a run that stood at the one moment stands at the other, behind some turns more
abbrev pub StandsOn : Moment → Moment → Type 0
StandsOn old new = (began : Option (List WorldCall)) (made : ℕ) → StandsBehind made 0 began old → (more : ℕ) × StandsBehind (made + more) 0 began new

pub on_none : (a : Moment) → StandsOn a a
on_none a began made here = (0, subst (λ n. StandsBehind n 0 began a) (omega arith) here)

pub on_then : (a b c : Moment) → StandsOn a b → StandsOn b c → StandsOn a c
on_then a b c one two began made here =
    let first = one began made here in
    let second = two began (made + first.0) first.1 in
    (first.0 + second.0, subst (λ n. StandsBehind n 0 began c) (omega arith) second.1)

-- by turns, and by what is done between them
pub on_by : (made : ℕ) (taken : List ℕ) (a b : Moment) → Advances made taken a b → StandsOn a b
on_by made taken a b advances began turns here = (made, advances.stands began turns 0 here)

pub on_still : (a b : Owned) (s : Sitting) (l : Option (List WorldCall)) → StandsStill a b → StandsOn (moment_of (known_by_owner a) s l) (moment_of (known_by_owner b) s l)
on_still a b s l stands began turns here = (0, subst (λ n. StandsBehind n 0 began (moment_of (known_by_owner b) s l)) (omega arith) (stands s l began turns 0 here))

-- all turns of one call were made, and something is left
pub stalls_on : (turns : ℕ) (a b c : Moment) → StandsOn a b → Advances turns [] b c → ¬ IsOver c.known → StallsOn turns a c
stalls_on turns a b c on advances some = (
  some,
  λ began made here.
      let first = on began made here in
      (first.0 + turns, omega arith, subst (λ n. StandsBehind n 0 began c) (omega arith) (advances.stands began (made + first.0) 0 first.1)),
)

-- that the names' requests stalled, from the moment on at which nobody had used the channel
pub are_stalled : {A : Type 0} (text : A → List ℕ) (names : List A) (answers : List Answer) (turns : ℕ) (a b c : Owned) (s t : Sitting) (l m : Option (List WorldCall)) → 1 ≤ turns → Extends a b → StandsStill a b →
    b.seen ≡ asked_from 0 (length names) (map text names) → Extends b c → AreFates b.setting c.seen answers → StallsOn turns (moment_of (known_by_owner b) s l) (moment_of (known_by_owner c) t m) →
    (began : Option (List WorldCall)) → StandsBehind 0 0 began (moment_of (known_by_owner a) s l) → AreStalled a.setting (map text names) answers turns began m
are_stalled text names answers turns a b c s t l m some one still asks more fates stalls began here =
    let hosts : List (List ℕ) = map text names in
    let first : b.seen ≡ asked_from 0 (length hosts) hosts = asks ∙ ap (λ n. asked_from 0 n hosts) (sym (length-map names text)) in
    let on = stalls.1 began 0 (still s l began 0 0 here) in
    record {
      channel = c;
      since = more.since;
      set = more.setting ∙ one.setting;
      journal = more.seen ∙ ap (λ es. es ++ more.since) first;
      fates = subst (λ at. AreFates at c.seen answers) one.setting fates;
      left = stalls.0;
      made = 0 + on.0;
      many = omega (arith, on.1);
      running = t.running;
      ran = subst (λ reach. RunsSince longest_pause (0 + on.0) 0 reach (known_by_owner c) t.running began m) (reach_turned t.behind_turn (0 + on.0) (omega (arith, on.1, some)) on.2.count) on.2.runs;
    }

-- what is said of an answer, by what is said of a part's
pub all_by : {X : Type 0} (P Q : Type 0) (this : X → Type 0) (result : Result X NoMemory) → IfOk result (λ answer. this answer → P) → (P → Q) → IfOk result (λ answer. this answer → Q)
all_by P Q this (Ok answer) holds gives = λ is. gives (holds is)
all_by P Q this (Err fault) holds gives = tt

beside : (R S P Q : Type 0) → (R → S) → (P → Q) → R ⊎ P → S ⊎ Q
beside R S P Q rises gives (inl rose) = inl (rises rose)
beside R S P Q rises gives (inr stalls) = inr (gives stalls)

pub none_by : {X : Type 0} (R S P Q : Type 0) (this : X → Type 0) (result : Result X NoMemory) → IfOk result (λ answer. this answer → R ⊎ P) → (R → S) → (P → Q) → IfOk result (λ answer. this answer → S ⊎ Q)
none_by R S P Q this result holds rises gives = all_by (R ⊎ P) (S ⊎ Q) this result holds (beside R S P Q rises gives)

first_by : (P Q E : Type 0) → (P → Q) → P ⊎ E → Q ⊎ E
first_by P Q E gives (inl stalls) = inl (gives stalls)
first_by P Q E gives (inr many) = inr many

pub part_by : {X : Type 0} (R S P Q E : Type 0) (this : X → Type 0) (result : Result X NoMemory) → IfOk result (λ answer. this answer → R ⊎ P ⊎ E) → (R → S) → (P → Q) → IfOk result (λ answer. this answer → S ⊎ Q ⊎ E)
part_by R S P Q E this result holds rises gives = none_by R S (P ⊎ E) (Q ⊎ E) this result holds rises (first_by P Q E gives)

-- counts that are one
pub rose_from : (a b c : ℕ) → b ≡ a → Rose b c → Rose a c
rose_from a b c same rose = subst (λ n. Rose n c) same rose

-- a new channel has its options and hosts
module _ (options : Options) (hosts : Hosts) (channel : Owned) (new : channel ≡ record { setting = setting_with options hosts; voice = 0; seen = []; names = finite.empty }) where
  pub all_set : (names : List (List ℕ)) (answers : List Answer) → AreAllAnswered channel.setting names answers → AreAllAnswered (setting_with options hosts) names answers
  all_set names answers all = subst (λ (at : Owned). AreAllAnswered at.setting names answers) new all

  pub many_set : (names : List (List ℕ)) (answers : List Answer) (turns : ℕ) (l m : Option (List WorldCall)) → AreStalled channel.setting names answers turns l m → AreStalled (setting_with options hosts) names answers turns l m
  many_set names answers turns l m stalls = subst (λ (at : Owned). AreStalled at.setting names answers turns l m) new stalls

  pub one_set : (spec : Spec) (turns : ℕ) (l m : Option (List WorldCall)) → IsStalled channel.setting spec turns l m → IsStalled (setting_with options hosts) spec turns l m
  one_set spec turns l m stalls = subst (λ (at : Owned). IsStalled at.setting spec turns l m) new stalls

-- a new session over a new channel stands before its first turn
pub stands_new : (options : Options) (hosts : Hosts) (channel : Owned) (session : Sitting) (l m : Option (List WorldCall)) →
    channel ≡ record { setting = setting_with options hosts; voice = 0; seen = []; names = finite.empty } →
    (session.running.told ≡ map (λ s. s.key) (keyed_from 0 options.servers)) × (m ≡ option_map (λ calls. calls ++ serves_from 0 options.servers) l) →
    session.running ≡ record session.running { reading = 0; broken = false; rows = []; mix = options.flags.mix } → (session.behind_turn ≡ false) × (session.reading ≡ 0) →
    StandsBehind 0 0 l (moment_of (known_by_owner channel) session m)
stands_new options hosts channel session l m new opens fresh unturned =
    let unused : Owned = record { setting = setting_with options hosts; voice = 0; seen = []; names = finite.empty } in
    subst (λ at. StandsBehind 0 0 l (moment_of (known_by_owner at) session m)) (sym new) (record {
      count = subst (λ b. IsCount b 0) (sym unturned.0) refl;
      reading = unturned.1 ∙ sym (ap (λ r. r.reading) fresh);
      begun = begun_none longest_pause (λ told. told ≡ serves_from 0 options.servers) (known_by_owner unused) l m
          (told_by (λ told. told ≡ serves_from 0 options.servers) (serves_from 0 options.servers) refl l m opens.1);
      runs = runs_begin longest_pause (reach_of session.behind_turn) (known_by_owner unused) session.running l m refl fresh opens.0 opens.1;
    })
