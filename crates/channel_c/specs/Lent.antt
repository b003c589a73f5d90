-- What lies at the pointers of C's calls: a word, and a value or a buffer that is written, or bytes that are read.
use Rattle.std.specs.Prelude.{List, ℕ}
use Rattle.c_types.specs.contracts.told.ToldAttempt.{the_row as attempt_row}
use Rattle.c_types.specs.contracts.told.ToldCounts.{the_row as counts_row}
use Rattle.c_types.specs.contracts.told.ToldLeg.{the_row as leg_row}
use Rattle.c_types.specs.contracts.told.ToldRequest.{the_row as request_row}
use Rattle.channel_word.specs.contracts.word.ChannelWord.{the_row as word_row}
use Rattle.channel_word.specs.declared.word.ChannelWord.{ChannelWord}
use base.Fml.{Fml, Share, fsep}
use base.Fraction.{full_share}
use denote.Builtin.{usize}
use denote.RattleType.{RattleType}
use denote.RawPtr.{Ptr}
use Rattle.channel_c.specs.Pointers.{bytes_at, value_at}

-- the types of what lies there
abbrev pub Word : RattleType
Word = word_row

abbrev pub Attempt : RattleType
Attempt = attempt_row

abbrev pub Leg : RattleType
Leg = leg_row

abbrev pub Request : RattleType
Request = request_row

abbrev pub Counts : RattleType
Counts = counts_row

-- a word, and a value of this type
pub record Lent (T : RattleType) : Type 0 where
  pub word : ChannelWord
  pub value : T.Denot

-- the same, and a share of bytes that are read
pub record Passed (T : RattleType) : Type 0 where
  pub share : Share
  pub bytes : List ℕ
  pub lent : Lent T

-- a word, a buffer, and a count
pub record Buffer : Type 0 where
  pub word : ChannelWord
  pub bytes : List ℕ
  pub count : ℕ

-- two texts, and a word
pub record Texts : Type 0 where
  pub resolv_share : Share
  pub resolv : List ℕ
  pub hosts_share : Share
  pub hosts : List ℕ
  pub word : ChannelWord

-- they lie at these pointers
abbrev pub word_at : Ptr → ChannelWord → Fml
word_at channel word = value_at Word channel word

abbrev pub lent_at : (T : RattleType) → Ptr → Ptr → Lent T → Fml
lent_at T channel at lent = fsep (value_at Word channel lent.word) (value_at T at lent.value)

abbrev pub passed_at : (T : RattleType) → Ptr → Ptr → ℕ → Ptr → Share → List ℕ → Lent T → Fml
passed_at T channel text length at share bytes lent =
    fsep (value_at Word channel lent.word) (fsep (bytes_at text length share bytes) (value_at T at lent.value))

abbrev pub buffer_at : Ptr → Ptr → ℕ → Ptr → Buffer → Fml
buffer_at channel out length copied buffer =
    fsep (value_at Word channel buffer.word) (fsep (bytes_at out length full_share buffer.bytes) (value_at usize copied buffer.count))

abbrev pub texts_at : Ptr → ℕ → Share → List ℕ → Ptr → ℕ → Share → List ℕ → Ptr → ChannelWord → Fml
texts_at resolv resolv_length resolv_share resolv_bytes hosts hosts_length hosts_share hosts_bytes channel word =
    fsep (bytes_at resolv resolv_length resolv_share resolv_bytes) (fsep (bytes_at hosts hosts_length hosts_share hosts_bytes) (value_at Word channel word))
