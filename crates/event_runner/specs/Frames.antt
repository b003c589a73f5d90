-- Where the bytes of a link are cut into frames (RFC 1035, section 4.2.2).
use Rattle.std.specs.Prelude.{List, [], drop, length, slice_range, ℕ, ◌∷◌, ◌≡◌, ◌≤◌}
use Rattle.channel_model.specs.Frames.{left_in, messages_in}

-- no whole frame is among the bytes
pub record IsUncut (bytes : List ℕ) : Type 0 where
  pub none : messages_in [] bytes ≡ []
  pub all_left : left_in [] bytes ≡ bytes

-- the bytes begin with a whole frame, which ends here: its message comes first, and what is behind it is cut anew
pub record EndsAt (bytes : List ℕ) (end : ℕ) : Type 0 where
  pub some : 2 ≤ end
  pub within : end ≤ length bytes
  pub message : messages_in [] bytes ≡ slice_range bytes 2 end ∷ messages_in [] (drop end bytes)
  pub left : left_in [] bytes ≡ left_in [] (drop end bytes)
