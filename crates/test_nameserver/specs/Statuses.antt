-- The exit statuses of the server's program (this project's profile).
use Rattle.std.specs.Prelude.{ℕ}

-- so many messages were taken, and the queries among them answered
abbrev pub status_success : ℕ
status_success = 0

-- the words have another form
abbrev pub status_usage : ℕ
status_usage = 2

-- the zone's file can't be read, isn't there, or is too large
abbrev pub status_file_fault : ℕ
status_file_fault = 3

-- the output failed
abbrev pub status_sink_fault : ℕ
status_sink_fault = 4

-- want of memory
abbrev pub status_out_of_memory : ℕ
status_out_of_memory = 5

-- the network failed
abbrev pub status_socket_fault : ℕ
status_socket_fault = 6

-- a line of the zone's file is no record
abbrev pub status_bad_zone : ℕ
status_bad_zone = 8
