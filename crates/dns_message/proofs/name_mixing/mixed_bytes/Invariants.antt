use Rattle.std.proofs.Common.{◌≡◌, ◌≤◌, ◌++◌, length, drop, vec_len, vec_capacity}
use Rattle.dns_message.specs.Mixing.{mixed_label}
use Rattle.dns_message.proofs.name_mixing.mixed_bytes.Given as goal

-- the bytes so far, and those that are left behind so many letters
abbrev pub invariant-loop-byte : goal.invariant-loop-byte
invariant-loop-byte l = record {
  mixed : l.mixed.items ++ mixed_label l.mix l.letters (drop l.byte-index l.bytes) ≡ mixed_label l.mix 0 l.bytes;
  letters : l.letters ≤ l.byte-index;
  taken : vec_len l.mixed ≡ l.byte-index;
  room : length l.bytes ≤ vec_capacity l.mixed;
}
