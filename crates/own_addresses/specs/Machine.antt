-- The addresses from which a machine reaches others, by files of its system.
use Rattle.std.specs.Prelude.{◌≡◌, ℕ, Bool, if◌then◌else◌, List, [], ◌++◌, ◌∷◌, codes, Option, option_map}
use mathlib.Core.List.{IsPrefix}
use Rattle.net_addr.specs.declared.addr.Addr.{Addr}
use Rattle.net_world.specs.Cause.{Rose}
use Rattle.net_world.specs.Files.{IsReadOf}
use Rattle.net_world.specs.declared.answers.FileRead.{FileRead}
use Rattle.net_world.specs.declared.answers.FileRead.TheVariants.{Content, Absent, Large, Failed}
use Rattle.net_world.specs.declared.read_call.ReadCall.{ReadCall}
use Rattle.own_addresses.specs.Choice.{chosen_of}
use Rattle.own_addresses.specs.Telling.{has_line, is_default_v4, is_default_v6, v4_told, v6_told}

-- the text that was read, and the empty one where none was
abbrev pub text_of : FileRead → List ℕ
text_of (Content bytes) = bytes
text_of Absent = []
text_of Large = []
text_of Failed = []

-- what a text tells, where there is a way out
abbrev pub where_way : Bool → List Addr → List Addr
where_way way told = if way then told else []

-- the addresses that the system tells of a family that has a default route
abbrev pub told_of : FileRead → FileRead → FileRead → List Addr
told_of routes interfaces leaves =
    where_way (has_line is_default_v6 (text_of routes)) (v6_told (text_of interfaces))
    ++ where_way (has_line is_default_v4 (text_of leaves)) (v4_told (text_of leaves))

-- the read of the file of this path, with this answer
abbrev pub read_of : List ℕ → FileRead → ReadCall
read_of path file = record { path = path; most = 1048576; read = file }

-- the read of each of the three files, with this answer
abbrev pub routes_call : FileRead → ReadCall
routes_call file = read_of (codes "/proc/net/ipv6_route") file

abbrev pub interfaces_call : FileRead → ReadCall
interfaces_call file = read_of (codes "/proc/net/if_inet6") file

abbrev pub leaves_call : FileRead → ReadCall
leaves_call file = read_of (codes "/proc/net/fib_trie") file

-- these are chosen of what three files tell, each read once, in this order, as it is, with 1,048,576 bytes at most; and a read failed only where the count of failures rose
pub record AreOwn (files : Option (List ℕ → Option (List ℕ))) (faults_before faults_after : ℕ) (reads_before reads_after : Option (List ReadCall)) (own : List Addr) : Type 0 where
  pub routes : FileRead
  pub interfaces : FileRead
  pub leaves : FileRead
  pub routes_read : IsReadOf files (codes "/proc/net/ipv6_route") 1048576 routes
  pub interfaces_read : IsReadOf files (codes "/proc/net/if_inet6") 1048576 interfaces
  pub leaves_read : IsReadOf files (codes "/proc/net/fib_trie") 1048576 leaves
  pub reads : reads_after ≡ option_map (λ earlier. earlier ++ routes_call routes ∷ interfaces_call interfaces ∷ leaves_call leaves ∷ []) reads_before
  pub routes_fault : routes ≡ Failed → Rose faults_before faults_after
  pub interfaces_fault : interfaces ≡ Failed → Rose faults_before faults_after
  pub leaves_fault : leaves ≡ Failed → Rose faults_before faults_after
  pub chosen : own ≡ chosen_of (told_of routes interfaces leaves)

-- these are the reads of the three files, or the first ones of them, or none
pub record AreFirstReads (reads : List ReadCall) : Type 0 where
  pub routes : FileRead
  pub interfaces : FileRead
  pub leaves : FileRead
  pub front : IsPrefix reads (routes_call routes ∷ interfaces_call interfaces ∷ leaves_call leaves ∷ [])
