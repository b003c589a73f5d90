-- How a run comes to its promise: by its words, and by the files that it reads.
use Rattle.std.proofs.Common.{◌≡◌, ◌≢◌, ℕ, ◌≤◌, List, [], refl, sym, subst, ◌∙◌, inl, inr, arith}
use Rattle.std.specs.Prelude.{Bool, Err, IfSome, None, Ok, Result, false, true}
use Rattle.std.specs.String.{string_bytes}
use Rattle.chan_types.specs.Plans.{Plan}
use Rattle.hosts_file.specs.declared.hosts.HostLine.{HostLine}
use Rattle.resolv_options.specs.Values.{OptionValues}
use Rattle.tool_line.specs.Ahost.{AhostAsks, IsSaid}
use Rattle.tool_line.specs.Lookup.{lookup}
use Rattle.tool_line.specs.Outside.{FilesTold, Outside}
use Rattle.tool_line.specs.Words.{Text}
use Rattle.tool_line.specs.declared.ahost.AhostAsk.{AhostAsk}
use Rattle.tool_line.specs.declared.ahost.Load.{Load}
use Rattle.tool_line.specs.declared.ending.Exit.TheVariants.{FileFault}
use Rattle.tool_line.specs.declared.files.FileFault.{FileFault as FaultOfFile}
use Rattle.tool_line.specs.declared.files.FileFault.TheVariants.{Failed, NoMemory as NoMemoryLeft, TooLarge}
use Rattle.tool_line.proofs.SettingsLemmas.{same_settings, some_same}
use Rattle.ahost_tool.specs.Asked.{Asked, asked_of}
use Rattle.ahost_tool.specs.Page.{report_for}
use Rattle.ahost_tool.specs.Promise.{Promise}
use Rattle.ahost_tool.specs.Running.{Comes, EndsEarly, IsRunFor, IsServed, count_names}
use Rattle.ahost_tool.specs.Setting.{IsPartlyRead, IsRead, IsSettingOf, ReadsSetting, hosts_bytes}
use Rattle.run_end.specs.declared.ended.Ended.{Ended}
use Rattle.ahost_tool.proofs.PromiseLemmas.{promise_early}
use Rattle.ahost_tool.proofs.SettingLemmas.{none_read}

-- ---- words ask one thing

-- by the same uses of options
pub same_uses : (words : List Text) (a b : AhostAsk) (x : AhostAsks words a) (y : AhostAsks words b) → x.uses ≡ y.uses
same_uses words a b x y = some_same x.uses y.uses (sym x.are ∙ y.are)

-- words ask for one load
same_load_asked : (words : List Text) (a b : AhostAsk) → AhostAsks words a → AhostAsks words b → a.load ≡ b.load
same_load_asked words a b x y =
    let says : IsSaid (lookup y.uses) a = subst (λ us. IsSaid (lookup us) a) (same_uses words a b x y) x.say in
    some_same a.load b.load (sym says.load ∙ y.say.load)

-- what holds of the load that is asked for holds of it whatever the words ask
pub same_load : (holds : Load → Type 0) (words : List Text) (a b : AhostAsk) → AhostAsks words a → AhostAsks words b → IfSome a.load holds → IfSome b.load holds
same_load holds words a b x y = subst (λ l. IfSome l holds) (same_load_asked words a b x y)

-- and where the words ask for none, none is asked for
pub same_none : (words : List Text) (a b : AhostAsk) → AhostAsks words a → AhostAsks words b → b.load ≡ None → a.load ≡ None
same_none words a b x y none = same_load_asked words a b x y ∙ none

-- a run for what is asked is one for whatever the words ask
pub same_run : (words : List Text) (plans : List Plan) (a b : AhostAsk) (turns : ℕ) (ended : Ended) (files_before files_after : FilesTold) (before after : Outside) → AhostAsks words a → AhostAsks words b →
    IsRunFor a plans turns ended files_before files_after before after → IsRunFor b plans turns ended files_before files_after before after
same_run words plans a b turns ended files_before files_after before after x y run =
    let says : IsSaid (lookup y.uses) a = subst (λ us. IsSaid (lookup us) a) (same_uses words a b x y) x.say in
    let resolv : string_bytes a.resolv ≡ string_bytes b.resolv = some_same _ _ (sym says.resolv ∙ y.say.resolv) in
    let hosts : string_bytes a.hosts ≡ string_bytes b.hosts = some_same _ _ (sym says.hosts ∙ y.say.hosts) in
    let settings : a.settings ≡ b.settings = same_settings (lookup y.uses) a.settings b.settings says.settings y.say.settings in
    let specs : a.specs ≡ b.specs = some_same _ _ (sym says.specs ∙ y.say.specs) in
    let orders : a.orders ≡ b.orders = says.orders ∙ sym y.say.orders in
    let later : a.later ≡ b.later = some_same _ _ (sym says.later ∙ y.say.later) in
    let journal : a.journal ≡ b.journal = some_same _ _ (sym says.journal ∙ y.say.journal) in
    record {
      setting = run.setting;
      reads = run.reads;
      read =
          subst (λ p. IsSettingOf p (string_bytes b.hosts) b.settings run.setting run.reads files_before files_after) resolv
          (subst (λ p. IsSettingOf (string_bytes a.resolv) p b.settings run.setting run.reads files_before files_after) hosts
          (subst (λ v. IsSettingOf (string_bytes a.resolv) (string_bytes a.hosts) v run.setting run.reads files_before files_after) settings run.read));
      made = run.made;
      made_all = run.made_all;
      comes =
          subst (λ j. Comes (asked_of (report_for j (hosts_bytes run.reads)) b.specs plans b.orders b.later) turns run.setting ended before after) journal
          (subst (λ s. Comes (asked_of (report_for a.journal (hosts_bytes run.reads)) s plans b.orders b.later) turns run.setting ended before after) specs
          (subst (λ o. Comes (asked_of (report_for a.journal (hosts_bytes run.reads)) a.specs plans o b.later) turns run.setting ended before after) orders
          (subst (λ l. Comes (asked_of (report_for a.journal (hosts_bytes run.reads)) a.specs plans a.orders l) turns run.setting ended before after) later run.comes)));
    }

-- and what is served of it is so
pub same_served : (words : List Text) (bodies : ℕ) (a b : AhostAsk) → AhostAsks words a → AhostAsks words b → IsServed bodies b → IsServed bodies a
same_served words bodies a b x y served =
    let says : IsSaid (lookup y.uses) a = subst (λ us. IsSaid (lookup us) a) (same_uses words a b x y) x.say in
    let specs : a.specs ≡ b.specs = some_same _ _ (sym says.specs ∙ y.say.specs) in
    record {
      one_thread = some_same a.workers b.workers (sym says.workers ∙ y.say.workers) ∙ served.one_thread;
      enough =
          subst (λ l. count_names l a.specs ≤ bodies) (sym (same_load_asked words a b x y))
          (subst (λ s. count_names b.load s ≤ bodies) (sym specs) served.enough);
    }

-- by a test of it
module _ (bodies count : ℕ) (a : AhostAsk) (test : Bool) (count_is : count ≡ bodies) where
  pub served_so : (test ≡ true → IsServed count a) → test ≡ true → IsServed bodies a
  served_so tests holds = subst (λ n. IsServed n a) count_is (tests holds)

  -- what isn't served isn't what the words ask either
  pub unserved : (words : List Text) (b : AhostAsk) → AhostAsks words a → AhostAsks words b → (IsServed count a → test ≡ true) → test ≡ false → IsServed bodies b → ⊥
  unserved words b x y tests fails served =
      let holds : test ≡ true = tests (subst (λ n. IsServed n a) (sym count_is) (same_served words bodies a b x y served)) in
      let h : true ≡ false = sym holds ∙ fails in absurd (cc h)

-- ---- want of memory before there is a channel

-- nothing was put, with status 5
nothing_put : (outside : Outside) → EndsEarly FileFault (record { status = 5; journal = []; calls = [] }) outside outside
nothing_put outside = record {
  no_journal = refl;
  no_calls = refl;
  no_traffic = refl;
  put = record { told = inr (inr (refl, (refl, refl))); counted = omega arith };
}

early_comes : (asked : Asked) (turns : ℕ) (setting : Result (OptionValues × List HostLine) FaultOfFile) (outside : Outside) → Comes asked turns setting (record { status = 5; journal = []; calls = [] }) outside outside
early_comes asked turns (Ok setting) outside = promise_early asked (record { options = setting.0; hosts = setting.1 }) turns outside
early_comes asked turns (Err fault) outside = nothing_put outside

-- a run that wanted memory on the way to its setting
partly_run : (ask : AhostAsk) (plans : List Plan) (turns : ℕ) (files_before files_after : FilesTold) (outside : Outside) → IsPartlyRead (string_bytes ask.resolv) (string_bytes ask.hosts) ask.settings files_before files_after →
    IsRunFor ask plans turns (record { status = 5; journal = []; calls = [] }) files_before files_after outside outside
partly_run ask plans turns files_before files_after outside partly = record {
  setting = partly.result;
  reads = partly.reads;
  read = partly.setting;
  made = inr (refl, (partly.first, partly.is_first, partly.made));
  made_all = λ some. absurd (some refl);
  comes = early_comes (asked_of (report_for ask.journal (hosts_bytes partly.reads)) ask.specs plans ask.orders ask.later) turns partly.result outside;
}

-- or before that
pub early_run : (ask : AhostAsk) (plans : List Plan) (turns : ℕ) (files : FilesTold) (outside : Outside) → IsRunFor ask plans turns (record { status = 5; journal = []; calls = [] }) files files outside outside
early_run ask plans turns files outside = partly_run ask plans turns files files outside (none_read (string_bytes ask.resolv) (string_bytes ask.hosts) ask.settings files files refl)

-- ---- files that were read, by their paths as they were passed

module _ (ask : AhostAsk) (plans : List Plan) (turns : ℕ) (files_before files_after : FilesTold) (resolv hosts : Text) (resolv_is : resolv ≡ string_bytes ask.resolv) (hosts_is : hosts ≡ string_bytes ask.hosts) where
  module _ (ended : Ended) (before after : Outside) where
    run_for : (setting : Result (OptionValues × List HostLine) FaultOfFile) (read : IsRead resolv hosts ask.settings setting files_before files_after) →
        Comes (asked_of (report_for ask.journal (hosts_bytes read.reads)) ask.specs plans ask.orders ask.later) turns setting ended before after →
        IsRunFor ask plans turns ended files_before files_after before after
    run_for setting read comes = record {
      setting = setting;
      reads = read.reads;
      read =
          subst (λ p. IsSettingOf p (string_bytes ask.hosts) ask.settings setting read.reads files_before files_after) resolv_is
          (subst (λ p. IsSettingOf resolv p ask.settings setting read.reads files_before files_after) hosts_is read.setting);
      made = inl read.made;
      made_all = λ some. read.made;
      comes = comes;
    }

    -- the run asked a channel with what they set
    pub good_run : (options : OptionValues) (lines : List HostLine) (bytes : List ℕ) → ReadsSetting resolv hosts ask.settings (Ok (options, lines, bytes)) files_before files_after →
        Promise (asked_of (report_for ask.journal bytes) ask.specs plans ask.orders ask.later) (record { options = options; hosts = lines }) turns ended before after → IsRunFor ask plans turns ended files_before files_after before after
    good_run options lines bytes read promise =
        run_for (Ok (options, lines)) read.0
        (subst (λ bs. Promise (asked_of (report_for ask.journal bs) ask.specs plans ask.orders ask.later) (record { options = options; hosts = lines }) turns ended before after) (sym read.1) promise)

    -- a file that can't be read ended the run
    pub fault_run : (fault : FaultOfFile) → fault ≢ NoMemoryLeft → ReadsSetting resolv hosts ask.settings (Err fault) files_before files_after → EndsEarly FileFault ended before after → IsRunFor ask plans turns ended files_before files_after before after
    fault_run Failed other read ends = run_for (Err Failed) read ends
    fault_run TooLarge other read ends = run_for (Err TooLarge) read ends
    fault_run NoMemoryLeft other read ends = absurd (other refl)

  -- memory was wanting for them
  pub wanting_run : (outside : Outside) (fault : FaultOfFile) → fault ≡ NoMemoryLeft → ReadsSetting resolv hosts ask.settings (Err fault) files_before files_after →
      IsRunFor ask plans turns (record { status = 5; journal = []; calls = [] }) files_before files_after outside outside
  wanting_run outside fault none read =
      partly_run ask plans turns files_before files_after outside
      (subst (λ p. IsPartlyRead p (string_bytes ask.hosts) ask.settings files_before files_after) resolv_is
      (subst (λ p. IsPartlyRead resolv p ask.settings files_before files_after) hosts_is
      (subst (λ f. ReadsSetting resolv hosts ask.settings (Err f) files_before files_after) none read)))
