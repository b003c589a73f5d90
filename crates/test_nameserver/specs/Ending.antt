-- The exit status of each end of a run of the server's program (this project's profile).
use Rattle.std.specs.Prelude.{ℕ}
use Rattle.test_nameserver.specs.Statuses.{status_success, status_usage, status_file_fault, status_out_of_memory, status_socket_fault, status_bad_zone}
use Rattle.test_nameserver.specs.declared.ending.End.{End}
use Rattle.test_nameserver.specs.declared.ending.End.TheVariants.{Served, Refused, FileFault, NoMemory, SocketFault, BadZone}

-- the exit status of an end
abbrev pub number_of : End → ℕ
number_of Served = status_success
number_of Refused = status_usage
number_of FileFault = status_file_fault
number_of NoMemory = status_out_of_memory
number_of SocketFault = status_socket_fault
number_of BadZone = status_bad_zone
