-- What a run of the server's program promises: its exit status has its cause, and refused words call nothing.
use Rattle.std.specs.Prelude.{◌≡◌, ◌⊎◌, ℕ, ◌<◌, List, length, Option, MatchOption, Err, ⊤}
use Rattle.dns_message.specs.declared.message.Record.{Record}
use Rattle.net_world.specs.Cause.{Rose}
use Rattle.net_world.specs.Files.{WhereTold}
use Rattle.test_nameserver.specs.Statuses.{status_success, status_usage, status_file_fault, status_sink_fault, status_out_of_memory, status_socket_fault, status_bad_zone}
use Rattle.test_nameserver.specs.declared.fault.ZoneFault.TheVariants.{BadLine}
use Rattle.test_nameserver.specs.Lines.{zone_of}
use Rattle.test_nameserver.specs.Order.{AreRefused, ForWords}
use Rattle.test_nameserver.specs.Output.{GrowsByPart, text_for}
use Rattle.test_nameserver.specs.Service.{ReadsZone}

-- the statuses that go before all others: the output failed, or memory was wanting
abbrev pub GoesBefore : ℕ → Type 0
GoesBefore status = (status ≡ status_sink_fault) ⊎ (status ≡ status_out_of_memory)

-- files are told, and this is so of the file of this path
abbrev pub Told : Option (List ℕ → Option (List ℕ)) → List ℕ → (Option (List ℕ) → Type 0) → Type 0
Told files path holds = MatchOption files ⊥ (λ file. holds (file path))

-- there is no file, or it has more bytes than a zone may have
abbrev pub IsUnfit : Option (List ℕ) → Type 0
IsUnfit file = MatchOption file ⊤ (λ text. 1048576 < length text)

-- the file has a line that is no record
abbrev pub HasBadLine : Option (List ℕ) → Type 0
HasBadLine file = MatchOption file ⊥ (λ text. (number : ℕ) × (zone_of text ≡ Err (BadLine number)))

-- a run that was refused for its words: it called neither files nor network, and put the usage line and no more
pub record Refuses {F L : Type 0} (status : ℕ) (files_old files_new : F) (listener_old listener_new : L) (old new : Option (List ℕ)) : Type 0 where
  pub known : (status ≡ status_usage) ⊎ GoesBefore status
  pub files : files_new ≡ files_old
  pub listener : listener_new ≡ listener_old
  pub part : GrowsByPart old new (text_for status_usage)

-- the causes of the exit status; the numbers count how often files, output and network had failed before the run and behind it
pub record HasExitCause (words : List (List ℕ)) (status : ℕ) (files : Option (List ℕ → Option (List ℕ))) (files_old files_new sink_old sink_new net_old net_new : ℕ) : Type 0 where
  -- it is one of these
  pub known : (status ≡ status_success) ⊎ (status ≡ status_usage) ⊎ (status ≡ status_file_fault) ⊎ (status ≡ status_socket_fault) ⊎ (status ≡ status_bad_zone) ⊎ GoesBefore status
  -- the words are refused
  pub usage : status ≡ status_usage → AreRefused words
  -- a zone was read
  pub read : (status ≡ status_success) ⊎ (status ≡ status_socket_fault) → ForWords words (λ order. (zone : List Record) × ReadsZone files order.path zone)
  -- the file failed in this run, or there is none of a zone's length
  pub file_fault : status ≡ status_file_fault → Rose files_old files_new ⊎ ForWords words (λ order. WhereTold files order.path IsUnfit)
  pub unfit : ForWords words (λ order. Told files order.path IsUnfit → (status ≡ status_file_fault) ⊎ GoesBefore status)
  -- a line of the file is no record
  pub bad_zone : status ≡ status_bad_zone → ForWords words (λ order. WhereTold files order.path HasBadLine)
  pub bad_line : ForWords words (λ order. Told files order.path HasBadLine → (status ≡ status_bad_zone) ⊎ ((status ≡ status_file_fault) × Rose files_old files_new) ⊎ GoesBefore status)
  -- the output or the network failed in this run
  pub sink_fault : status ≡ status_sink_fault → Rose sink_old sink_new
  pub socket_fault : status ≡ status_socket_fault → Rose net_old net_new
