-- What texts of a Linux system tell of a machine's addresses and of its routes (proc(5)). The words of a line are counted from 0.
use Rattle.std.specs.Prelude.{ℕ, ◌-◌, ◌/◌, ◌%◌, Bool, false, not, ◌&&◌, ◌==◌, nat_lt, nat_le, if◌then◌else◌, List, [], ◌∷◌, ◌++◌, length, codes, Option, None, unwrap_or, option_to_list, filter_map, fold, bytes_eq}
use Rattle.std.specs.List.{list_any, slice_get}
use Rattle.net_addr.specs.declared.addr.Addr.{Addr}
use Rattle.net_addr.specs.Reading.{address_of}
use Rattle.text_lines.specs.Lines.{lines_of}
use Rattle.text_lines.specs.Words.{words_of}

-- the word at this place of a line, and the empty one where there is none
abbrev pub word_at : List (List ℕ) → ℕ → List ℕ
word_at words place = unwrap_or (slice_get words place) []

-- the words of a line of /proc/net/ipv6_route are a default route: its prefix has no bit, and its interface isn't loopback, by which routes refuse
abbrev pub is_default_v6 : List (List ℕ) → Bool
is_default_v6 words = bytes_eq (word_at words 1) (codes "00") && not (bytes_eq (word_at words 9) (codes "lo"))

-- the words of a line of /proc/net/fib_trie are a default route: a prefix of no bit, that leads to a host
abbrev pub is_default_v4 : List (List ℕ) → Bool
is_default_v4 words = bytes_eq (word_at words 0) (codes "/0") && bytes_eq (word_at words 2) (codes "UNICAST")

-- a line of the text has words of which this holds
abbrev pub has_line : (List (List ℕ) → Bool) → List ℕ → Bool
has_line holds text = list_any (λ line. holds (words_of line)) (lines_of text)

-- the number of a hexadecimal digit in lower case, and 0 for another byte
abbrev pub digit_of : ℕ → ℕ
digit_of byte = if nat_le 48 byte && nat_le byte 57 then byte - 48 else (if nat_le 97 byte && nat_le byte 102 then byte - 87 else 0)

-- an address with these flags serves: it isn't deprecated (20), tentative (40) or a duplicate (08)
abbrev pub serves : List ℕ → Bool
serves [] = false
serves (high ∷ []) = false
serves (high ∷ low ∷ []) = nat_lt (digit_of low) 8 && (digit_of high / 2 % 4 == 0)
serves (high ∷ low ∷ more ∷ rest) = false

-- a text with one hexadecimal digit more: a colon stands behind each four (RFC 4291, section 2.2)
abbrev pub with_digit : List ℕ → ℕ → List ℕ
with_digit text digit = if length text % 5 == 4 then text ++ 58 ∷ digit ∷ [] else text ++ digit ∷ []

-- the address that 32 hexadecimal digits are
abbrev pub v6_of : List ℕ → Option Addr
v6_of digits = if length digits == 32 then address_of (fold with_digit [] digits) else None

-- the address of a line of /proc/net/if_inet6, if it serves: its digits are the first word, and its flags the fifth
abbrev pub v6_in : List (List ℕ) → Option Addr
v6_in words = if serves (word_at words 4) then v6_of (word_at words 0) else None

-- the addresses that a text like /proc/net/if_inet6 tells
abbrev pub v6_told : List ℕ → List Addr
v6_told text = filter_map (λ line. v6_in (words_of line)) (lines_of text)

-- how far a text like /proc/net/fib_trie was read: the address of the last leaf, and the addresses so far that are the machine's own
pub record Leaves : Type 0 where
  pub head : Option Addr
  pub own : List Addr

-- the address that heads what follows a line of these words: that of a leaf, none of a branch, else as before
abbrev pub head_behind : List (List ℕ) → Option Addr → Option Addr
head_behind words before =
    if bytes_eq (word_at words 0) (codes "|--") then address_of (word_at words 1)
    else (if bytes_eq (word_at words 0) (codes "+--") then None else before)

-- the words say that the address of the leaf is the machine's own
abbrev pub is_own : List (List ℕ) → Bool
is_own words = bytes_eq (word_at words 0) (codes "/32") && bytes_eq (word_at words 1) (codes "host") && bytes_eq (word_at words 2) (codes "LOCAL")

-- read further by a line of these words
abbrev pub leaves_behind : Leaves → List (List ℕ) → Leaves
leaves_behind leaves words = record {
  head = head_behind words leaves.head;
  own = leaves.own ++ (if is_own words then option_to_list (head_behind words leaves.head) else []);
}

-- the addresses that a text like /proc/net/fib_trie tells to be the machine's own
abbrev pub v4_told : List ℕ → List Addr
v4_told text = (fold (λ leaves line. leaves_behind leaves (words_of line)) (record { head = None; own = [] }) (lines_of text)).own
