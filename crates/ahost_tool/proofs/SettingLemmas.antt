-- The setting of a run's channel, by the two files as they were read, and the reads that were made on the way to it.
use Rattle.std.proofs.Common.{◌≡◌, ◌≢◌, ℕ, ◌+◌, ◌^◌, ◌≤◌, ◌<◌, Bool, true, false, nat_lt, List, [], ◌∷◌, Option, Some, None, Result, Ok, Err, length, refl, ap, sym, subst, arith, ltb-true, ltb-false}
use Rattle.hosts_file.specs.declared.hosts.HostLine.{HostLine}
use Rattle.net_world.specs.Cause.{HasCause, Rose, is_not_read}
use Rattle.net_world.specs.Files.{IsReadOf}
use Rattle.net_world.specs.declared.answers.FileRead.{FileRead}
use Rattle.net_world.specs.declared.answers.FileRead.TheVariants.{Absent, Content, Failed as NotRead, Large}
use Rattle.net_world.specs.declared.read_call.ReadCall.{ReadCall}
use Rattle.resolv_options.specs.Values.{OptionValues}
use Rattle.tool_line.specs.Files.{hosts_of, options_set}
use Rattle.tool_line.specs.Outside.{FilesTold, files_told}
use Rattle.tool_line.specs.Read.{HasRead, read_call}
use Rattle.tool_line.specs.Settings.{SettingValues}
use Rattle.tool_line.specs.Words.{Text}
use Rattle.tool_line.specs.declared.files.FileFault.{FileFault}
use Rattle.tool_line.specs.declared.files.FileFault.TheVariants.{Failed, NoMemory as NoMemoryLeft, TooLarge}
use Rattle.tool_line.proofs.ReadLemmas.{read_nothing}
use Rattle.tool_line.proofs.FileLemmas.{ok_of}
use Rattle.ahost_tool.specs.Setting.{GivesBytes, GivesHosts, GivesSetting, IsPartlyRead, IsRead, IsSettingOf, ReadsFile, ReadsSetting, bytes_read}

module _ (files : Option (List ℕ → Option (List ℕ))) (before first second after : ℕ) (reads_before reads_after : Option (List ReadCall)) where
  -- a file that was read while others were
  pub was_read : (told : Option (List ℕ → Option (List ℕ))) (path : Text) (most : ℕ) (file : FileRead) → told ≡ files → before ≤ first → second ≤ after →
      IsReadOf told path most file → HasCause first second is_not_read (ok_of file) → (last : Option (List ℕ → Option (List ℕ))) →
      ReadsFile path most file (files_told files before reads_before) (files_told last after reads_after)
  was_read told path most file same earlier later read cause last = record {
    read = subst (λ f. IsReadOf f path most file) same read;
    fault = λ is small. rises (nat_lt (first + 1) (2 ^ 64)) refl (cause.cause (ap is_not_read is)) small cause.later earlier later;
  }
    where
      rises : (b : Bool) → nat_lt (first + 1) (2 ^ 64) ≡ b → Rose first second → before + 1 < 2 ^ 64 → first ≤ second → before ≤ first → second ≤ after → before < after
      rises true fits rose small kept earlier later = let more : first < second = rose (ltb-true (first + 1) (2 ^ 64) fits) in omega (arith, more, earlier, later)
      rises false full rose small kept earlier later = omega (arith, ltb-false (first + 1) (2 ^ 64) full, small, kept, earlier, later)

-- some answer of a read fits, which is no failure
some_read : (before after : FilesTold) (path : Text) (most : ℕ) → (file : FileRead) × ReadsFile path most file before after
some_read before after path most = by before.files refl
  where
    of_told : (told : List ℕ → Option (List ℕ)) (found : Option (List ℕ)) → told path ≡ found → (file : FileRead) × IsReadOf (Some told) path most file × (file ≢ NotRead)
    of_told told None is = (Absent, is, λ e. absurd (cc e))
    of_told told (Some bytes) is = sized (nat_lt most (length bytes)) refl
      where
        sized : (large : Bool) → nat_lt most (length bytes) ≡ large → (file : FileRead) × IsReadOf (Some told) path most file × (file ≢ NotRead)
        sized true more = (Large, rw is (ltb-true most (length bytes) more), λ e. absurd (cc e))
        sized false fits = (Content bytes, (ltb-false most (length bytes) fits, is), λ e. absurd (cc e))

    by : (f : Option (List ℕ → Option (List ℕ))) → before.files ≡ f → (file : FileRead) × ReadsFile path most file before after
    by None is = (Absent, record { read = subst (λ x. IsReadOf x path most Absent) (sym is) tt; fault = λ e. absurd (cc e) })
    by (Some told) is =
        let found = of_told told (told path) refl in
        (found.0, record { read = subst (λ x. IsReadOf x path most found.0) (sym is) found.1; fault = λ e. absurd (found.2 e) })

-- what a setting comes to
abbrev Given : Type 0
Given = Result (OptionValues × List HostLine) FileFault

module _ (resolv hosts : Text) (settings : SettingValues) (before after : FilesTold) where
  -- with the hosts file that was read behind a resolv.conf that gave options
  behind_options : (options : OptionValues) (other : FileRead) → ReadsFile hosts 4194304 other before after → (lines : Result (List HostLine) FileFault) → hosts_of other ≡ lines →
      (result : Given) × GivesHosts hosts options result (read_call hosts 4194304 other ∷ []) before after
  behind_options options other two (Ok lines) says = (Ok (options, lines), (refl, (other, two, says, refl)))
  behind_options options other two (Err fault) says = (Err fault, (other, two, says, refl))

  -- both files that were read give a setting
  both_give : (file other : FileRead) (options : OptionValues) → ReadsFile resolv 65536 file before after → options_set settings file ≡ Ok options → ReadsFile hosts 4194304 other before after →
      (result : Given) × IsSettingOf resolv hosts settings result (read_call resolv 65536 file ∷ read_call hosts 4194304 other ∷ []) before after
  both_give file other options one set two =
      let found = behind_options options other two (hosts_of other) refl in (
        found.0,
        record {
          file = file;
          read = one;
          behind = read_call hosts 4194304 other ∷ [];
          reads_are = refl;
          gives = subst (λ o. GivesSetting hosts o found.0 (read_call hosts 4194304 other ∷ []) before after) (sym set) found.1;
        },
      )

  -- a resolv.conf that has a fault gives that
  fault_gives : (file : FileRead) (fault : FileFault) → ReadsFile resolv 65536 file before after → options_set settings file ≡ Err fault → IsSettingOf resolv hosts settings (Err fault) (read_call resolv 65536 file ∷ []) before after
  fault_gives file fault one set = record {
    file = file;
    read = one;
    behind = [];
    reads_are = refl;
    gives = subst (λ o. GivesSetting hosts o (Err fault) [] before after) (sym set) (refl, refl);
  }

  -- so a resolv.conf that was read gives a setting with some answer of the hosts file
  one_gives : (file : FileRead) → ReadsFile resolv 65536 file before after → (result : Given) × (behind : List ReadCall) × IsSettingOf resolv hosts settings result (read_call resolv 65536 file ∷ behind) before after
  one_gives file one = by (options_set settings file) refl
    where
      by : (set : Result OptionValues FileFault) → options_set settings file ≡ set → (result : Given) × (behind : List ReadCall) × IsSettingOf resolv hosts settings result (read_call resolv 65536 file ∷ behind) before after
      by (Ok options) set =
          let other = some_read before after hosts 4194304 in
          let both = both_give file other.0 options one set other.1 in
          (both.0, read_call hosts 4194304 other.0 ∷ [], both.1)
      by (Err fault) set = (Err fault, [], fault_gives file fault one set)

  -- ---- memory was wanting

  -- before the first read
  pub none_read : after.reads ≡ before.reads → IsPartlyRead resolv hosts settings before after
  none_read same =
      let file = some_read before after resolv 65536 in
      let some = one_gives file.0 file.1 in
      record {
        result = some.0;
        reads = read_call resolv 65536 file.0 ∷ some.1;
        setting = some.2;
        first = [];
        is_first = (read_call resolv 65536 file.0 ∷ some.1, refl);
        made = subst (λ reads. HasRead [] before.reads reads) (sym same) (read_nothing before.reads);
      }

  -- behind it
  pub one_read : (file : FileRead) → ReadsFile resolv 65536 file before after → HasRead (read_call resolv 65536 file ∷ []) before.reads after.reads → IsPartlyRead resolv hosts settings before after
  one_read file one made =
      let some = one_gives file one in
      record {
        result = some.0;
        reads = read_call resolv 65536 file ∷ some.1;
        setting = some.2;
        first = read_call resolv 65536 file ∷ [];
        is_first = (some.1, refl);
        made = made;
      }

  module _ (file other : FileRead) (options : OptionValues) (one : ReadsFile resolv 65536 file before after) (set : options_set settings file ≡ Ok options) (two : ReadsFile hosts 4194304 other before after)
      (made : HasRead (read_call resolv 65536 file ∷ read_call hosts 4194304 other ∷ []) before.reads after.reads) where
    -- or behind both
    pub both_partly : IsPartlyRead resolv hosts settings before after
    both_partly =
        let both = both_give file other options one set two in
        record {
          result = both.0;
          reads = read_call resolv 65536 file ∷ read_call hosts 4194304 other ∷ [];
          setting = both.1;
          first = read_call resolv 65536 file ∷ read_call hosts 4194304 other ∷ [];
          is_first = ([], refl);
          made = made;
        }

    -- ---- nothing was wanting

    -- both were read
    both_read : (result : Given) → GivesHosts hosts options result (read_call hosts 4194304 other ∷ []) before after → IsRead resolv hosts settings result before after
    both_read result gives = record {
      reads = read_call resolv 65536 file ∷ read_call hosts 4194304 other ∷ [];
      setting = record {
        file = file;
        read = one;
        behind = read_call hosts 4194304 other ∷ [];
        reads_are = refl;
        gives = subst (λ o. GivesSetting hosts o result (read_call hosts 4194304 other ∷ []) before after) (sym set) gives;
      };
      made = made;
    }

    -- and set this, with these bytes of the hosts file
    pub reads_both : (lines : List HostLine) (bytes : List ℕ) → hosts_of other ≡ Ok lines → bytes ≡ bytes_read other → GivesBytes resolv hosts settings (options, lines, bytes) before after
    unfolding both_read
    reads_both lines bytes says are = (both_read (Ok (options, lines)) (refl, (other, two, says, refl)), sym are)

    -- or the hosts file has a fault
    pub hosts_fault : (fault : FileFault) → (fault ≢ NoMemoryLeft → hosts_of other ≡ Err fault) → ReadsSetting resolv hosts settings (Err fault) before after
    hosts_fault Failed says = both_read (Err Failed) (other, two, says (λ e. absurd (cc e)), refl)
    hosts_fault TooLarge says = both_read (Err TooLarge) (other, two, says (λ e. absurd (cc e)), refl)
    hosts_fault NoMemoryLeft says = both_partly

  -- resolv.conf has one
  pub resolv_fault : (file : FileRead) → ReadsFile resolv 65536 file before after → HasRead (read_call resolv 65536 file ∷ []) before.reads after.reads → (fault : FileFault) → (fault ≢ NoMemoryLeft → options_set settings file ≡ Err fault) →
      ReadsSetting resolv hosts settings (Err fault) before after
  resolv_fault file one made Failed says = record { reads = read_call resolv 65536 file ∷ []; setting = fault_gives file Failed one (says (λ e. absurd (cc e))); made = made }
  resolv_fault file one made TooLarge says = record { reads = read_call resolv 65536 file ∷ []; setting = fault_gives file TooLarge one (says (λ e. absurd (cc e))); made = made }
  resolv_fault file one made NoMemoryLeft says = one_read file one made
