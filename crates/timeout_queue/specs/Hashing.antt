-- How a key's hash is made of the word that it feeds.
use Rattle.std.specs.Prelude.{ℕ, ◌*◌, ◌/◌, ◌%◌, ◌^◌, ◌==◌, cond, List, length, bit_and, bit_xor}
use Rattle.std.specs.Int.{w64, from_le_bytes}

-- the word of eight bytes, the lowest first; other bytes change nothing
abbrev pub word_of : ℕ → List ℕ → ℕ
word_of word bytes = cond (length bytes == 8) (from_le_bytes w64 bytes) word

-- the low bits are those of half the number, and the eight highest tell apart what has the same low bits
abbrev pub place_of : ℕ → ℕ
place_of word = bit_xor (word / 2 ^ 9) (bit_and (word * 0x9e3779b97f4a7c15 % 2 ^ 64) 0xff00000000000000)
