-- The options that stand on one line.
use Rattle.std.specs.Prelude.{List, [], ◌∷◌, codes, decimal}
use Rattle.resolv_options.specs.Values.{OptionValues}
use Rattle.journal_text.specs.declared.line.OptionLine.{OptionLine}
use Rattle.journal_text.specs.Words.{Word, flags_word, truth_number, lookups_number}

-- what the options say, but for the lists
abbrev pub line_of_options : OptionValues → OptionLine
line_of_options options = record {
  timeout = options.timeout;
  tries = options.tries;
  ndots = options.ndots;
  max_timeout = options.max_timeout;
  flags = options.flags;
  rotate = options.rotate;
  lookups = options.lookups;
  edns_size = options.edns_size;
}

-- `option TIMEOUT TRIES NDOTS MAX FLAGS ROTATE LOOKUPS EDNS`: times in milliseconds, sizes in bytes
abbrev pub option_words : OptionLine → List Word
option_words line =
    codes "option" ∷ decimal line.timeout ∷ decimal line.tries ∷ decimal line.ndots ∷ decimal line.max_timeout
    ∷ flags_word line.flags ∷ decimal (truth_number line.rotate) ∷ decimal (lookups_number line.lookups) ∷ decimal line.edns_size ∷ []
