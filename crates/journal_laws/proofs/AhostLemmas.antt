-- What a run of ahost that puts its text whole tells.
use Rattle.std.proofs.Common.{ap, arith, inl, inr, subst, sym}
use Rattle.std.specs.Prelude.{Bool, Err, List, Ok, Option, Result, Some, [], false, if◌then◌else◌, length, nat_lt, true, ℕ, ◌∷◌, ◌≡◌, ◌≤◌}
use Rattle.std.specs.String.{string_bytes}
use Rattle.chan_types.specs.Plans.{Plan}
use Rattle.chan_types.specs.declared.answer.Answer.{Answer}
use Rattle.chan_types.specs.declared.journal.Entry.{Entry}
use Rattle.channel_model.specs.Setting.{Setting}
use Rattle.hosts_file.specs.File as file
use Rattle.hosts_file.specs.declared.hosts.HostLine.{HostLine}
use Rattle.journal_text.specs.BookText.{text_of_book}
use Rattle.journal_text.specs.Fits.{IsBook}
use Rattle.journal_text.specs.declared.book.Book.{Book}
use Rattle.net_world.specs.Files.{IsReadOf}
use Rattle.net_world.specs.declared.answers.FileRead.{FileRead}
use Rattle.net_world.specs.declared.answers.FileRead.TheVariants.{Absent, Content, Failed as NotRead, Large}
use Rattle.net_world.specs.declared.read_call.ReadCall.{ReadCall}
use Rattle.resolv_options.specs.Values.{OptionValues}
use Rattle.tool_line.specs.Files.{hosts_of, options_set}
use Rattle.tool_line.specs.Outside.{FilesTold, Outside}
use Rattle.tool_line.specs.Read.{read_call}
use Rattle.tool_line.specs.Words.{Text}
use Rattle.tool_line.specs.Settings.{SettingValues}
use Rattle.tool_line.specs.declared.ahost.AhostAsk.{AhostAsk}
use Rattle.tool_line.specs.declared.ending.Exit.{Exit}
use Rattle.tool_line.specs.declared.files.FileFault.{FileFault}
use Rattle.tool_line.specs.declared.files.FileFault.TheVariants.{TooLarge}
use Rattle.ahost_tool.specs.Asked.{asked_of}
use Rattle.ahost_tool.specs.Page.{report_for, text_at}
use Rattle.ahost_tool.specs.Promise.{Promise}
use Rattle.ahost_tool.specs.Running.{Comes, IsRunFor}
use Rattle.ahost_tool.specs.Setting.{GivesSetting, IsSettingOf, bytes_read, hosts_bytes}
use Rattle.run_end.specs.declared.ended.Ended.{Ended}
use Rattle.run_end.specs.Ends.{IsPageEnd}
use Rattle.journal_laws.specs.Telling.{HasPut, IsWithinLimits, PutsRun}
use Rattle.journal_laws.proofs.PutLemmas.{whole_put}
use Rattle.journal_laws.proofs.TellingLemmas.{tells_run}

-- the lines of a hosts file are those of its bytes, which aren't too many
pub record AreLinesOf (bytes : List ℕ) (lines : List HostLine) : Type 0 where
  pub small : length bytes ≤ 4194304
  pub said : file.hosts_of bytes ≡ lines

lines_read : (lines : List HostLine) (read : FileRead) (files : Option (List ℕ → Option (List ℕ))) (path : Text) → IsReadOf files path 4194304 read → hosts_of read ≡ Ok lines → AreLinesOf (bytes_read read) lines
lines_read lines (Content bytes) files path fits is = record { small = fits.0; said = by (nat_lt 4194304 (length bytes)) is }
  where
    by : (b : Bool) → ◌≡◌ {A = Result (List HostLine) FileFault} (if b then Err TooLarge else Ok (file.hosts_of bytes)) (Ok lines) → file.hosts_of bytes ≡ lines
    by true e = absurd (cc e)
    by false e = cc e
lines_read lines Absent files path fits is = let empty : ◌≡◌ {A = List HostLine} [] lines = cc is in record { small = omega arith; said = empty }
lines_read lines Large files path fits is = absurd (cc is)
lines_read lines NotRead files path fits is = absurd (cc is)

-- so are those of a setting that was read
module _ (options : OptionValues) (lines : List HostLine) where
  by_resolv : (hosts : Text) (resolv : ReadCall) (set : Result OptionValues FileFault) (behind : List ReadCall) (before after : FilesTold)
      → GivesSetting hosts set (Ok (options, lines)) behind before after → AreLinesOf (hosts_bytes (resolv ∷ behind)) lines
  by_resolv hosts resolv (Ok found) behind before after gives =
      let read = gives.1 in
      subst (λ (calls : List ReadCall). AreLinesOf (hosts_bytes (resolv ∷ calls)) lines) (sym read.3) (lines_read lines read.0 before.files hosts read.1.read read.2)
  by_resolv hosts resolv (Err fault) behind before after gives = absurd (cc gives.0)

  lines_of_setting : (resolv hosts : Text) (settings : SettingValues) (reads : List ReadCall) (before after : FilesTold)
      → IsSettingOf resolv hosts settings (Ok (options, lines)) reads before after → AreLinesOf (hosts_bytes reads) lines
  lines_of_setting resolv hosts settings reads before after is =
      subst (λ (calls : List ReadCall). AreLinesOf (hosts_bytes calls) lines) (sym is.reads_are)
      (by_resolv hosts (read_call resolv 65536 is.file) (options_set settings is.file) is.behind before after is.gives)

-- a setting with these lines of a hosts file
abbrev setting_with : OptionValues → List HostLine → Setting
setting_with options lines = record { options = options; hosts = lines }

-- the run as a book
abbrev book_of : OptionValues → List ℕ → List Entry → Book
book_of options hosts journal = record { options = options; hosts = hosts; journal = journal }

-- at an end with a page the text is the book, where that is asked for
book_at : (options : OptionValues) (hosts : List ℕ) (journal : List Entry) (calls : List Answer) (end : Exit) → IsPageEnd end
    → text_at (report_for true hosts) options journal calls end ≡ Some (text_of_book (book_of options hosts journal))
book_at options hosts journal calls end (inl is) = ap (text_at (report_for true hosts) options journal calls) is
book_at options hosts journal calls end (inr is) = ap (text_at (report_for true hosts) options journal calls) is

pub ahost_tells : (options : OptionValues) (hosts : List ℕ) (ended : Ended) → IsBook (book_of options hosts ended.journal)
    → (ask : AhostAsk) (plans : List Plan) (turns : ℕ) (files_before files_after : FilesTold) (before after : Outside) (lines : List HostLine)
    → (run : IsRunFor ask plans turns ended files_before files_after before after)
    → ask.journal ≡ true → run.setting ≡ Ok (options, lines) → hosts_bytes run.reads ≡ hosts → HasPut ended.status
    → IsWithinLimits (book_of options hosts ended.journal)
    → PutsRun (book_of options hosts ended.journal) ended.calls before.output after.output
ahost_tells options hosts ended fits ask plans turns files_before files_after before after lines run as_book set bytes has_put limits =
    let book : Book = book_of options hosts ended.journal in
    let setting : Setting = setting_with options lines in
    let promise : Promise (asked_of (report_for true hosts) ask.specs plans ask.orders ask.later) setting turns ended before after =
    subst (λ (found : List ℕ). Promise (asked_of (report_for true found) ask.specs plans ask.orders ask.later) setting turns ended before after) bytes
    (subst (λ (b : Bool). Promise (asked_of (report_for b (hosts_bytes run.reads)) ask.specs plans ask.orders ask.later) setting turns ended before after) as_book
    (subst (λ (r : Result (OptionValues × List HostLine) FileFault). Comes (asked_of (report_for ask.journal (hosts_bytes run.reads)) ask.specs plans ask.orders ask.later) turns r ended before after) set run.comes)) in
    let whole = whole_put ended.status before.output after.output has_put (text_of_book book) _ promise.end
    (book_at options hosts ended.journal ended.calls promise.end) promise.put.told in
    let read = subst (λ (r : Result (OptionValues × List HostLine) FileFault). IsSettingOf (string_bytes ask.resolv) (string_bytes ask.hosts) ask.settings r run.reads files_before files_after) set run.read in
    let are : AreLinesOf hosts lines = subst (λ (b : List ℕ). AreLinesOf b lines) bytes (lines_of_setting options lines (string_bytes ask.resolv) (string_bytes ask.hosts) ask.settings run.reads files_before files_after read) in
    record {
      grows = whole.grows;
      once = whole.once;
      tells = tells_run book ended.calls setting (ap (setting_with options) are.said) fits limits are.small
          promise.lawful promise.called_with_fates promise.called_once;
    }
