-- The words behind `options` in resolv.conf (resolv.conf(5)). Where a word stands twice, the last counts. That numbers are cut is this project's profile.
use Rattle.std.specs.Prelude.{ℕ, ◌-◌, ◌*◌, ◌&&◌, ◌||◌, ◌==◌, if◌then◌else◌, List, length, map, take, drop, not, min, codes, bytes_eq, Option, Some, None, option_map, filter_map}
use Rattle.std.specs.List.{list_all, list_any}
use Rattle.std.specs.Char.{is_ascii_digit}
use Rattle.net_addr.specs.Reading as reading
use Rattle.resolv_options.specs.Values.{OptionValues}
use Rattle.resolv_options.specs.Lasts.{last_or}

-- the number that a text of decimal digits is, if it is one
abbrev pub number_of : List ℕ → Option ℕ
number_of digits = if not (length digits == 0) && list_all is_ascii_digit digits then Some (reading.number_of 10 (map (λ digit. digit - 48) digits)) else None

-- the number behind what a word begins with, as 2 in `ndots:2`
abbrev pub number_behind : List ℕ → List ℕ → Option ℕ
number_behind key word = if bytes_eq (take (length key) word) key then number_of (drop (length key) word) else None

-- that number, cut to a most
abbrev pub cut_number : List ℕ → ℕ → List ℕ → Option ℕ
cut_number key most word = option_map (λ n. min most n) (number_behind key word)

-- the number, unless it is zero
abbrev pub unless_zero : Option ℕ → Option ℕ
unless_zero None = None
unless_zero (Some n) = if n == 0 then None else Some n

-- `ndots:n`: the dots with which a name is asked as it is first, up to 15
abbrev pub ndots_in : List ℕ → Option ℕ
ndots_in word = cut_number (codes "ndots:") 15 word

-- `timeout:n`: the first wait in seconds, up to 60; zero is passed over
abbrev pub timeout_in : List ℕ → Option ℕ
timeout_in word = option_map (λ seconds. seconds * 1000) (unless_zero (cut_number (codes "timeout:") 60 word))

-- `attempts:n`: how often each server is tried, up to 10; zero is passed over
abbrev pub tries_in : List ℕ → Option ℕ
tries_in word = unless_zero (cut_number (codes "attempts:") 10 word)

-- the options that these words set; `use-vc` sends queries over TCP, and with `rotate` servers take turns
abbrev pub with_options : OptionValues → List (List ℕ) → OptionValues
with_options options words = record options {
  ndots = last_or options.ndots (filter_map ndots_in words);
  timeout = last_or options.timeout (filter_map timeout_in words);
  tries = last_or options.tries (filter_map tries_in words);
  flags = record options.flags { usevc = list_any (λ word. bytes_eq word (codes "use-vc")) words || options.flags.usevc };
  rotate = list_any (λ word. bytes_eq word (codes "rotate")) words || options.rotate;
}
