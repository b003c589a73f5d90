-- The names of a run, one behind the other.
use Rattle.std.proofs.Common.{◌≡◌, ◌∙◌, ℕ, ◌+◌, ◌<◌, ◌≤◌, true, List, [], ◌∷◌, ◌++◌, length, map, take, get_or, suc, zero, refl, ap, sym, subst, ⊎_elim}
use Rattle.std.specs.Prelude.{Err, None, Ok, Option, Result, Some, is_err}
use Rattle.std.proofs.lemmas.List.{append-nil, append_assoc, map-append, take_more}
use mathlib.Core.List.{IsPrefix}
use Rattle.item_list.specs.declared.no_memory.NoMemory.{NoMemory}
use Rattle.net_world.specs.declared.log.WorldCall.{WorldCall}
use Rattle.channel_model.specs.Setting.{Setting}
use Rattle.run_end.specs.declared.loop_end.LoopEnd.{LoopEnd}
use Rattle.run_end.specs.declared.loop_end.LoopEnd.TheVariants.{Completed, Stalled, WaitFault}
use Rattle.tool_line.specs.Words.{Text}
use Rattle.channel_session.proofs.StepLemmas.{rose_since}
use Rattle.acache_tool.specs.Leaving.{AsksAll, IsAt}
use Rattle.acache_tool.specs.Naming.{Scene, Tries}
use Rattle.acache_tool.specs.Parts.{Part, names_of}
use Rattle.acache_tool.proofs.EndLemmas.{left_stalled, left_unanswered, left_unasked, left_unread, left_unwaited}
use Rattle.acache_tool.proofs.SceneLemmas.{at_hit, at_sent, part_hit, part_sent}

-- from where the run began, these names were brought to their answers
abbrev pub Brought : List Text → Scene → Scene → Type 0
Brought names from here =
    (room : ℕ) (setting : Setting) (turns : ℕ) (began : Option (List WorldCall)) → IsAt room setting turns [] began from →
    (parts : List Part) × (names_of parts ≡ names) × IsAt room setting turns parts began here

pub brought_none : (a : Scene) → Brought [] a a
brought_none a room setting turns began x = ([], refl, x)

-- one name more
pub brought_more : (names : List Text) (name : Text) (f g : ℕ) (from a b : Scene) → Tries (Ok Completed) f g name a b → Brought names from a → Brought (names ++ name ∷ []) from b
brought_more names name f g from a b tries so_far room setting turns began start =
    let x = so_far room setting turns began start in
    ⊎_elim
    (λ hit. (part_hit room setting turns x.0 began a b name tries.0 tries.1 x.2 tries.2 hit ∷ x.0, ap (λ l. l ++ name ∷ []) x.1, at_hit room setting turns x.0 began a b name tries.0 tries.1 x.2 tries.2 hit))
    (λ sent. (part_sent room setting turns x.0 began a b name tries.0 tries.1 x.2 tries.2 f g sent ∷ x.0, ap (λ l. l ++ name ∷ []) x.1, at_sent room setting turns x.0 began a b name tries.0 tries.1 x.2 tries.2 f g sent))
    tries.3

module _ (names all : List Text) (name : Text) (from a b : Scene) (so_far : Brought names from a) (front : IsPrefix (names ++ name ∷ []) all) (room : ℕ) (setting : Setting) (turns : ℕ) (began : Option (List WorldCall)) (start : IsAt room setting turns [] began from) where
  x : (parts : List Part) × (names_of parts ≡ names) × IsAt room setting turns parts began a
  x = so_far room setting turns began start

  with_last : IsPrefix (names_of x.0 ++ name ∷ []) all
  with_last = subst (λ l. IsPrefix (l ++ name ∷ []) all) (sym x.1) front

  without_last : IsPrefix (names_of x.0 ++ []) all
  without_last = subst (λ l. IsPrefix l all) (sym (append-nil (names_of x.0)))
      (name ∷ with_last.0, sym (append_assoc (names_of x.0) (name ∷ []) with_last.0) ∙ with_last.1)

  pub asks_wait : (f0 f g : ℕ) → f0 ≤ f → f ≤ g → Tries (Ok WaitFault) f g name a b → AsksAll (Ok WaitFault) room setting turns all began f0 g b
  asks_wait f0 f g first later tries =
      let left = left_unwaited room setting turns x.0 began a b x.2 name tries.0 tries.1 tries.2 f g tries.3 in
      (x.0, record { name = name; at = tries.0 }, with_last, left.0, left.1, rose_since f0 f g first later left.2)

  pub asks_stalled : (f0 f g : ℕ) → Tries (Ok Stalled) f g name a b → AsksAll (Ok Stalled) room setting turns all began f0 g b
  asks_stalled f0 f g tries =
      let left = left_stalled room setting turns x.0 began a b x.2 name tries.0 tries.1 tries.2 f g tries.3 in
      (x.0, record { name = name; at = tries.0 }, with_last, left.0, left.1)

  pub asks_err : (result : Result LoopEnd NoMemory) (fault : NoMemory) → is_err result ≡ true → (f0 f g : ℕ) → Tries (Err fault) f g name a b → AsksAll result room setting turns all began f0 g b
  asks_err (Ok end) fault err f0 f g tries = absurd (cc err)
  asks_err (Err again) fault err f0 f g tries = ⊎_elim
      (λ unread. let left = left_unread room setting turns x.0 began a b x.2 unread in (x.0, None, without_last, left.0, left.1))
      (λ read. ⊎_elim
      (λ unasked. let left = left_unasked room setting turns x.0 began a b x.2 name read.0 read.1 read.2 unasked in (x.0, None, without_last, left.0, left.1))
      (λ unanswered. let left = left_unanswered room setting turns x.0 began a b x.2 name read.0 read.1 read.2 f g unanswered in (x.0, Some (record { name = name; at = read.0 }), with_last, left.0, left.1))
      read.3)
      tries

-- ---- the names of the loop

pub names_more : {A : Type 0} (text : A → Text) (xs : List A) (i : ℕ) (d : A) → i < length xs → map text (take (i + 1) xs) ≡ map text (take i xs) ++ text (get_or xs i d) ∷ []
names_more text xs i d within = ap (map text) (take_more xs i d within) ∙ map-append text (take i xs) (get_or xs i d ∷ [])

-- they are the first names of all
front_more : {A : Type 0} (text : A → Text) (xs : List A) (i : ℕ) → IsPrefix (map text (take i xs)) (map text xs)
front_more text [] i = ([], empty i)
  where
    empty : (i : ℕ) → map text (take i []) ++ [] ≡ []
    empty zero = refl
    empty (suc i) = refl
front_more text (x ∷ xs) zero = (map text (x ∷ xs), refl)
front_more text (x ∷ xs) (suc i) = let rest = front_more text xs i in (rest.0, ap (λ l. text x ∷ l) rest.1)

pub names_front : {A : Type 0} (text : A → Text) (xs : List A) (i : ℕ) (d : A) → i < length xs → IsPrefix (map text (take i xs) ++ text (get_or xs i d) ∷ []) (map text xs)
names_front text xs i d within = subst (λ l. IsPrefix l (map text xs)) (names_more text xs i d within) (front_more text xs (i + 1))

pub brought_as : (names more : List Text) (from here : Scene) → names ≡ more → Brought names from here → Brought more from here
brought_as names more from here same = subst (λ l. Brought l from here) same
