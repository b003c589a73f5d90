-- How a run with workers comes to its promise: by its words, and by the files that it reads.
use Rattle.std.proofs.Common.{◌≡◌, ◌≢◌, ◌<◌, ℕ, ◌≤◌, List, [], codes, refl, sym, subst, ◌∙◌, inl, inr, arith}
use Rattle.std.specs.Prelude.{Bool, Err, None, Ok, Option, Result, Some, false, true}
use Rattle.std.specs.String.{string_bytes}
use Rattle.chan_types.specs.Plans.{Plan}
use Rattle.hosts_file.specs.declared.hosts.HostLine.{HostLine}
use Rattle.resolv_options.specs.Values.{OptionValues}
use Rattle.run_end.specs.declared.ended.Ended.{Ended}
use Rattle.tool_line.specs.Ahost.{AhostAsks, IsSaid}
use Rattle.tool_line.specs.Lookup.{lookup, read_or, value_under}
use Rattle.tool_line.specs.Outside.{FilesTold, Outside}
use Rattle.tool_line.specs.Values.{number_in}
use Rattle.tool_line.specs.Words.{Text}
use Rattle.tool_line.specs.declared.ahost.AhostAsk.{AhostAsk}
use Rattle.tool_line.specs.declared.ending.Exit.TheVariants.{FileFault}
use Rattle.tool_line.specs.declared.files.FileFault.{FileFault as FaultOfFile}
use Rattle.tool_line.specs.declared.files.FileFault.TheVariants.{Failed, NoMemory as NoMemoryLeft, TooLarge}
use Rattle.ahost_tool.specs.Asked.{Asked, asked_of}
use Rattle.ahost_tool.specs.Page.{report_for}
use Rattle.ahost_tool.specs.Running.{EndsEarly, count_names}
use Rattle.ahost_tool.specs.Setting.{IsPartlyRead, IsRead, IsSettingOf, ReadsSetting, hosts_bytes}
use Rattle.ahost_tool.proofs.Theorems.{none_read, number_small, same_uses}
use Rattle.tool_line.proofs.SettingsLemmas.{same_settings, some_same}
use Rattle.ahost_workers.specs.Promise.{PromiseWith}
use Rattle.ahost_workers.specs.Running.{ComesWith, IsRunWith, IsServedWith}
use Rattle.ahost_workers.proofs.PromiseLemmas.{promise_early}

-- ---- words ask one thing

-- the workers that words ask for are few
few_said : (value : Option Text) (workers : ℕ) → read_or (number_in 0 16) 0 value ≡ Some workers → workers ≤ 16
few_said None workers is = subst (λ n. n ≤ 16) (some_same 0 workers is) (omega arith)
few_said (Some word) workers is = number_small 0 16 word workers is

pub few_workers : (words : List Text) (ask : AhostAsk) → AhostAsks words ask → ask.workers ≤ 16
few_workers words ask asks = few_said (value_under (lookup asks.uses) (codes "workers")) ask.workers asks.say.workers

pub some_workers : (workers : ℕ) → workers ≢ 0 → 0 < workers
some_workers workers some = omega (arith, some)

-- words ask of as many workers
pub same_workers : (words : List Text) (a b : AhostAsk) → AhostAsks words a → AhostAsks words b → a.workers ≡ b.workers
same_workers words a b x y =
    let says : IsSaid (lookup y.uses) a = subst (λ us. IsSaid (lookup us) a) (same_uses words a b x y) x.say in
    some_same a.workers b.workers (sym says.workers ∙ y.say.workers)

-- a run for what is asked is one for whatever the words ask
pub same_run : (words : List Text) (plans : List Plan) (a b : AhostAsk) (turns : ℕ) (ended : Ended) (files_before files_after : FilesTold) (before after : Outside) → AhostAsks words a → AhostAsks words b →
    IsRunWith a plans turns ended files_before files_after before after → IsRunWith b plans turns ended files_before files_after before after
same_run words plans a b turns ended files_before files_after before after x y run =
    let says : IsSaid (lookup y.uses) a = subst (λ us. IsSaid (lookup us) a) (same_uses words a b x y) x.say in
    let resolv : string_bytes a.resolv ≡ string_bytes b.resolv = some_same _ _ (sym says.resolv ∙ y.say.resolv) in
    let hosts : string_bytes a.hosts ≡ string_bytes b.hosts = some_same _ _ (sym says.hosts ∙ y.say.hosts) in
    let settings : a.settings ≡ b.settings = same_settings (lookup y.uses) a.settings b.settings says.settings y.say.settings in
    let specs : a.specs ≡ b.specs = some_same _ _ (sym says.specs ∙ y.say.specs) in
    let orders : a.orders ≡ b.orders = says.orders ∙ sym y.say.orders in
    let later : a.later ≡ b.later = some_same _ _ (sym says.later ∙ y.say.later) in
    let journal : a.journal ≡ b.journal = some_same _ _ (sym says.journal ∙ y.say.journal) in
    record {
      setting = run.setting;
      reads = run.reads;
      read =
          subst (λ p. IsSettingOf p (string_bytes b.hosts) b.settings run.setting run.reads files_before files_after) resolv
          (subst (λ p. IsSettingOf (string_bytes a.resolv) p b.settings run.setting run.reads files_before files_after) hosts
          (subst (λ v. IsSettingOf (string_bytes a.resolv) (string_bytes a.hosts) v run.setting run.reads files_before files_after) settings run.read));
      made = run.made;
      made_all = run.made_all;
      comes =
          subst (λ n. ComesWith n (asked_of (report_for b.journal (hosts_bytes run.reads)) b.specs plans b.orders b.later) turns run.setting ended before after) (same_workers words a b x y)
          (subst (λ j. ComesWith a.workers (asked_of (report_for j (hosts_bytes run.reads)) b.specs plans b.orders b.later) turns run.setting ended before after) journal
          (subst (λ s. ComesWith a.workers (asked_of (report_for a.journal (hosts_bytes run.reads)) s plans b.orders b.later) turns run.setting ended before after) specs
          (subst (λ o. ComesWith a.workers (asked_of (report_for a.journal (hosts_bytes run.reads)) a.specs plans o b.later) turns run.setting ended before after) orders
          (subst (λ l. ComesWith a.workers (asked_of (report_for a.journal (hosts_bytes run.reads)) a.specs plans a.orders l) turns run.setting ended before after) later run.comes))));
    }

-- and what is served of it is so
same_served : (words : List Text) (bodies : ℕ) (a b : AhostAsk) → AhostAsks words a → AhostAsks words b → IsServedWith bodies b → IsServedWith bodies a
same_served words bodies a b x y served =
    let says : IsSaid (lookup y.uses) a = subst (λ us. IsSaid (lookup us) a) (same_uses words a b x y) x.say in
    let specs : a.specs ≡ b.specs = some_same _ _ (sym says.specs ∙ y.say.specs) in
    let load : a.load ≡ b.load = some_same _ _ (sym says.load ∙ y.say.load) in
    record {
      several_threads = λ none. served.several_threads (sym (same_workers words a b x y) ∙ none);
      enough =
          subst (λ l. count_names l a.specs ≤ bodies) (sym load)
          (subst (λ s. count_names b.load s ≤ bodies) (sym specs) served.enough);
    }

-- by a test of it
module _ (bodies count : ℕ) (a : AhostAsk) (test : Bool) (count_is : count ≡ bodies) where
  pub served_so : (test ≡ true → IsServedWith count a) → test ≡ true → IsServedWith bodies a
  served_so tests holds = subst (λ n. IsServedWith n a) count_is (tests holds)

  -- what isn't served isn't what the words ask either
  pub unserved : (words : List Text) (b : AhostAsk) → AhostAsks words a → AhostAsks words b → (IsServedWith count a → test ≡ true) → test ≡ false → IsServedWith bodies b → ⊥
  unserved words b x y tests fails served =
      let holds : test ≡ true = tests (subst (λ n. IsServedWith n a) (sym count_is) (same_served words bodies a b x y served)) in
      let h : true ≡ false = sym holds ∙ fails in absurd (cc h)

-- ---- want of memory before there is a channel

-- nothing was put, with status 5
nothing_put : (outside : Outside) → EndsEarly FileFault (record { status = 5; journal = []; calls = [] }) outside outside
nothing_put outside = record {
  no_journal = refl;
  no_calls = refl;
  no_traffic = refl;
  put = record { told = inr (inr (refl, (refl, refl))); counted = omega arith };
}

early_comes : (workers : ℕ) (asked : Asked) (turns : ℕ) (setting : Result (OptionValues × List HostLine) FaultOfFile) (outside : Outside) →
    ComesWith workers asked turns setting (record { status = 5; journal = []; calls = [] }) outside outside
early_comes workers asked turns (Ok setting) outside = promise_early workers turns asked (record { options = setting.0; hosts = setting.1 }) outside
early_comes workers asked turns (Err fault) outside = nothing_put outside

-- a run that wanted memory on the way to its setting
partly_run : (ask : AhostAsk) (plans : List Plan) (turns : ℕ) (files_before files_after : FilesTold) (outside : Outside) → IsPartlyRead (string_bytes ask.resolv) (string_bytes ask.hosts) ask.settings files_before files_after →
    IsRunWith ask plans turns (record { status = 5; journal = []; calls = [] }) files_before files_after outside outside
partly_run ask plans turns files_before files_after outside partly = record {
  setting = partly.result;
  reads = partly.reads;
  read = partly.setting;
  made = inr (refl, (partly.first, partly.is_first, partly.made));
  made_all = λ some. absurd (some refl);
  comes = early_comes ask.workers (asked_of (report_for ask.journal (hosts_bytes partly.reads)) ask.specs plans ask.orders ask.later) turns partly.result outside;
}

-- or before that
pub early_run : (ask : AhostAsk) (plans : List Plan) (turns : ℕ) (files : FilesTold) (outside : Outside) → IsRunWith ask plans turns (record { status = 5; journal = []; calls = [] }) files files outside outside
early_run ask plans turns files outside = partly_run ask plans turns files files outside (none_read (string_bytes ask.resolv) (string_bytes ask.hosts) ask.settings files files refl)

-- ---- files that were read, by their paths as they were passed

module _ (ask : AhostAsk) (plans : List Plan) (turns : ℕ) (files_before files_after : FilesTold) (resolv hosts : Text) (resolv_is : resolv ≡ string_bytes ask.resolv) (hosts_is : hosts ≡ string_bytes ask.hosts) where
  module _ (ended : Ended) (before after : Outside) where
    run_with : (setting : Result (OptionValues × List HostLine) FaultOfFile) (read : IsRead resolv hosts ask.settings setting files_before files_after) →
        ComesWith ask.workers (asked_of (report_for ask.journal (hosts_bytes read.reads)) ask.specs plans ask.orders ask.later) turns setting ended before after →
        IsRunWith ask plans turns ended files_before files_after before after
    run_with setting read comes = record {
      setting = setting;
      reads = read.reads;
      read =
          subst (λ p. IsSettingOf p (string_bytes ask.hosts) ask.settings setting read.reads files_before files_after) resolv_is
          (subst (λ p. IsSettingOf resolv p ask.settings setting read.reads files_before files_after) hosts_is read.setting);
      made = inl read.made;
      made_all = λ some. read.made;
      comes = comes;
    }

    -- the run asked a channel with what they set
    pub good_run : (options : OptionValues) (lines : List HostLine) (bytes : List ℕ) → ReadsSetting resolv hosts ask.settings (Ok (options, lines, bytes)) files_before files_after →
        PromiseWith ask.workers (asked_of (report_for ask.journal bytes) ask.specs plans ask.orders ask.later) (record { options = options; hosts = lines }) turns ended before after → IsRunWith ask plans turns ended files_before files_after before after
    good_run options lines bytes read promise =
        run_with (Ok (options, lines)) read.0
        (subst (λ bs. PromiseWith ask.workers (asked_of (report_for ask.journal bs) ask.specs plans ask.orders ask.later) (record { options = options; hosts = lines }) turns ended before after) (sym read.1) promise)

    -- a file that can't be read ended the run
    pub fault_run : (fault : FaultOfFile) → fault ≢ NoMemoryLeft → ReadsSetting resolv hosts ask.settings (Err fault) files_before files_after → EndsEarly FileFault ended before after → IsRunWith ask plans turns ended files_before files_after before after
    fault_run Failed other read ends = run_with (Err Failed) read ends
    fault_run TooLarge other read ends = run_with (Err TooLarge) read ends
    fault_run NoMemoryLeft other read ends = absurd (other refl)

  -- memory was wanting for them
  pub wanting_run : (outside : Outside) (fault : FaultOfFile) → fault ≡ NoMemoryLeft → ReadsSetting resolv hosts ask.settings (Err fault) files_before files_after →
      IsRunWith ask plans turns (record { status = 5; journal = []; calls = [] }) files_before files_after outside outside
  wanting_run outside fault none read =
      partly_run ask plans turns files_before files_after outside
      (subst (λ p. IsPartlyRead p (string_bytes ask.hosts) ask.settings files_before files_after) resolv_is
      (subst (λ p. IsPartlyRead resolv p ask.settings files_before files_after) hosts_is
      (subst (λ f. ReadsSetting resolv hosts ask.settings (Err f) files_before files_after) none read)))
