-- How a run comes to its promise: by its words, and by the file that it reads.
use Rattle.std.proofs.Common.{◌≡◌, ◌≢◌, ℕ, List, [], ◌∷◌, length, refl, sym, ap, subst, ◌∙◌, inl, inr, arith, ltb-true, ltb-false}
use Rattle.std.specs.Prelude.{Bool, Err, IfOk, None, Ok, Option, Result, Some, false, nat_lt, true}
use Rattle.std.specs.String.{string_bytes}
use Rattle.net_world.specs.Cause.{HasCause, Rose, is_not_read}
use Rattle.net_world.specs.Files.{IsReadOf}
use Rattle.net_world.specs.declared.answers.FileRead.{FileRead}
use Rattle.net_world.specs.declared.answers.FileRead.TheVariants.{Absent, Content, Failed as NotRead, Large}
use Rattle.resolv_options.specs.Values.{OptionValues}
use Rattle.chan_types.specs.declared.spec.Spec.{Spec}
use Rattle.tool_line.specs.Adig.{AdigAsks, IsSaid}
use Rattle.tool_line.specs.Files.{options_set}
use Rattle.tool_line.specs.Lookup.{lookup}
use Rattle.tool_line.specs.Words.{Text}
use Rattle.tool_line.specs.declared.adig.AdigAsk.{AdigAsk}
use Rattle.tool_line.specs.declared.ending.Exit.TheVariants.{FileFault}
use Rattle.tool_line.specs.declared.files.FileFault.{FileFault as FaultOfFile}
use Rattle.tool_line.specs.Outside.{FilesTold, Outside}
use Rattle.tool_line.specs.Read.{HasRead, HasReadAt, read_call}
use Rattle.tool_line.proofs.ReadLemmas.{read_none_at}
use Rattle.net_world.specs.Logs.{LogGets}
use Rattle.tool_line.proofs.SettingsLemmas.{same_settings, some_same}
use Rattle.tool_line.proofs.FileLemmas.{ok_of}
use Rattle.adig_tool.specs.Answered.{AreAnswered}
use Rattle.adig_tool.specs.Running.{Comes, EndsEarly, IsRunFor, setting_with}
use Rattle.run_end.specs.declared.ended.Ended.{Ended}
use Rattle.adig_tool.proofs.AnsweredLemmas.{comes_answered}
use Rattle.adig_tool.proofs.PromiseLemmas.{promise_early}

-- ---- words ask one thing

-- the same uses
pub same_uses : (words : List Text) (a b : AdigAsk) (x : AdigAsks words a) (y : AdigAsks words b) → x.uses ≡ y.uses
same_uses words a b x y = some_same x.uses y.uses (sym x.are ∙ y.are)

-- a run for what is asked is one for whatever the words ask
pub same_run : (words : List Text) (a b : AdigAsk) (turns : ℕ) (ended : Ended) (files_before files_after : FilesTold) (before after : Outside) → AdigAsks words a → AdigAsks words b →
    IsRunFor a turns ended files_before files_after before after → IsRunFor b turns ended files_before files_after before after
same_run words a b turns ended files_before files_after before after x y run =
    let says : IsSaid (lookup y.uses) a = subst (λ us. IsSaid (lookup us) a) (same_uses words a b x y) x.say in
    let path : string_bytes a.resolv ≡ string_bytes b.resolv = some_same _ _ (sym says.resolv ∙ y.say.resolv) in
    let settings : a.settings ≡ b.settings = same_settings (lookup y.uses) a.settings b.settings says.settings y.say.settings in
    let spec : a.spec ≡ b.spec = some_same _ _ (sym says.spec ∙ y.say.spec) in
    let as_book : a.journal ≡ b.journal = says.journal ∙ sym y.say.journal in
    record {
      file = run.file;
      read = subst (λ p. IsReadOf files_before.files p 65536 run.file) path run.read;
      reads = subst (λ p. HasReadAt ended.status (read_call p 65536 run.file ∷ []) files_before.reads files_after.reads) path run.reads;
      read_fault = run.read_fault;
      comes = subst (λ j. Comes b.spec j turns (options_set b.settings run.file) ended before after) as_book
          (subst (λ s. Comes s a.journal turns (options_set b.settings run.file) ended before after) spec
          (subst (λ v. Comes a.spec a.journal turns (options_set v run.file) ended before after) settings run.comes));
      answered = subst (λ s. IfOk (options_set b.settings run.file) (λ options. LogGets (AreAnswered (setting_with options) s ended.status ended.calls) before.network.log after.network.log)) spec
          (subst (λ v. IfOk (options_set v run.file) (λ options. LogGets (AreAnswered (setting_with options) a.spec ended.status ended.calls) before.network.log after.network.log)) settings run.answered);
    }

-- ---- want of memory before there is a channel

-- some answer of a read fits, which is no failure
some_read : (files : Option (List ℕ → Option (List ℕ))) (path : List ℕ) → (file : FileRead) × IsReadOf files path 65536 file × (file ≢ NotRead)
some_read None path = (Absent, tt, λ is. absurd (cc is))
some_read (Some told) path = by (told path) refl
  where
    by : (found : Option (List ℕ)) → told path ≡ found → (file : FileRead) × IsReadOf (Some told) path 65536 file × (file ≢ NotRead)
    by None is = (Absent, is, λ e. absurd (cc e))
    by (Some bytes) is = sized (nat_lt 65536 (length bytes)) refl
      where
        sized : (large : Bool) → nat_lt 65536 (length bytes) ≡ large → (file : FileRead) × IsReadOf (Some told) path 65536 file × (file ≢ NotRead)
        sized true more = (Large, rw is (ltb-true 65536 (length bytes) more), λ e. absurd (cc e))
        sized false most = (Content bytes, (ltb-false 65536 (length bytes) most, is), λ e. absurd (cc e))

-- with whatever options, or none
early_comes : (spec : Spec) (as_book : Bool) (turns : ℕ) (options : Result OptionValues FaultOfFile) (outside : Outside) → Comes spec as_book turns options (record { status = 5; journal = []; calls = [] }) outside outside
early_comes spec as_book turns (Ok options) outside = promise_early spec as_book (setting_with options) turns outside
early_comes spec as_book turns (Err fault) outside = record {
  no_journal = refl;
  no_calls = refl;
  no_traffic = refl;
  put = record { told = inr (inr (refl, (refl, refl))); counted = omega arith };
}

-- a run that wanted memory before it had read the file
pub early_run : (ask : AdigAsk) (turns : ℕ) (files_before files_after : FilesTold) (outside : Outside) → files_after.reads ≡ files_before.reads →
    IsRunFor ask turns (record { status = 5; journal = []; calls = [] }) files_before files_after outside outside
early_run ask turns files_before files_after outside unread =
    let found = some_read files_before.files (string_bytes ask.resolv) in
    record {
      file = found.0;
      read = found.1;
      reads = subst (HasReadAt 5 (read_call (string_bytes ask.resolv) 65536 found.0 ∷ []) files_before.reads) (sym unread) (read_none_at (read_call (string_bytes ask.resolv) 65536 found.0 ∷ []) files_before.reads);
      read_fault = λ is. absurd (found.2 is);
      comes = early_comes ask.spec ask.journal turns (options_set ask.settings found.0) outside;
      answered = comes_answered ask.spec ask.journal turns (options_set ask.settings found.0) _ outside outside (early_comes ask.spec ask.journal turns (options_set ask.settings found.0) outside);
    }

-- a run that came to something with the options of the file that was read
pub run_of : (ask : AdigAsk) (turns : ℕ) (ended : Ended) (files_before files_after : FilesTold) (before after : Outside) (file : FileRead) (options : Result OptionValues FaultOfFile) →
    IsReadOf files_before.files (string_bytes ask.resolv) 65536 file → HasRead (read_call (string_bytes ask.resolv) 65536 file ∷ []) files_before.reads files_after.reads →
    (file ≡ NotRead → Rose files_before.faults files_after.faults) → options_set ask.settings file ≡ options →
    Comes ask.spec ask.journal turns options ended before after → IsRunFor ask turns ended files_before files_after before after
run_of ask turns ended files_before files_after before after file options read told cause is comes = record {
  file = file;
  read = read;
  reads = inl told;
  read_fault = cause;
  comes = subst (λ o. Comes ask.spec ask.journal turns o ended before after) (sym is) comes;
  answered = comes_answered ask.spec ask.journal turns (options_set ask.settings file) ended before after (subst (λ o. Comes ask.spec ask.journal turns o ended before after) (sym is) comes);
}

-- a run that came to something with this file, which was read at a path
module _ (ask : AdigAsk) (turns : ℕ) (ended : Ended) (files_before files_after : FilesTold) (before after : Outside) (path : List ℕ) (file : FileRead)
    (same : path ≡ string_bytes ask.resolv) (read : IsReadOf files_before.files path 65536 file) (cause : HasCause files_before.faults files_after.faults is_not_read (ok_of file))
    (told : HasRead (read_call path 65536 file ∷ []) files_before.reads files_after.reads) where
  pub read_run : (options : Result OptionValues FaultOfFile) → options_set ask.settings file ≡ options → Comes ask.spec ask.journal turns options ended before after → IsRunFor ask turns ended files_before files_after before after
  read_run options is comes =
      run_of ask turns ended files_before files_after before after file options (subst (λ p. IsReadOf files_before.files p 65536 file) same read)
      (subst (λ p. HasRead (read_call p 65536 file ∷ []) files_before.reads files_after.reads) same told) (λ failed. cause.cause (ap is_not_read failed)) is comes

  -- a file that can't be read ended the run
  pub fault_run : (fault : FaultOfFile) → options_set ask.settings file ≡ Err fault → EndsEarly FileFault ended before after → IsRunFor ask turns ended files_before files_after before after
  fault_run fault is ends = read_run (Err fault) is ends

-- memory was wanting behind it
pub wanting_run : (ask : AdigAsk) (turns : ℕ) (files_before files_after : FilesTold) (outside : Outside) (path : List ℕ) (file : FileRead) → path ≡ string_bytes ask.resolv →
    IsReadOf files_before.files path 65536 file → HasCause files_before.faults files_after.faults is_not_read (ok_of file) → HasRead (read_call path 65536 file ∷ []) files_before.reads files_after.reads →
    IsRunFor ask turns (record { status = 5; journal = []; calls = [] }) files_before files_after outside outside
wanting_run ask turns files_before files_after outside path file same read cause told =
    read_run ask turns _ files_before files_after outside outside path file same read cause told (options_set ask.settings file) refl (early_comes ask.spec ask.journal turns (options_set ask.settings file) outside)
