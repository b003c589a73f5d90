-- How words are read: from the left, and only as they are printed.
use Rattle.std.specs.Prelude.{◌≡◌, ℕ, Bool, false, List, [], ◌∷◌, ◌++◌, Option, Some, None, Result, Ok, Err, IfOk, if◌then◌else◌, bytes_eq}
use Rattle.journal_text.specs.declared.fault.LineFault.{LineFault}
use Rattle.journal_text.specs.declared.fault.LineFault.TheVariants.{Bad, NoMemory}
use Rattle.journal_text.specs.Words.{Word}

-- what is read of a list of words: a value, and the words behind it
abbrev pub Found : Type 0 → Type 0
Found A = Option (A × List Word)

infixl 10 ◌>>=◌
-- the second step, where the first has a value
abbrev pub ◌>>=◌ : {A B : Type 0} → Option A → (A → Option B) → Option B
None >>= f = None
(Some x) >>= f = f x

-- what was answered is what reading finds, and these words are left; want of memory says nothing
abbrev pub Gives : {A B : Type 0} → (A → B) → Result A LineFault → List Word → Found B → Type 0
Gives view (Ok item) left found = found ≡ Some (view item, left)
Gives view (Err Bad) left found = found ≡ None
Gives view (Err NoMemory) left found = Unit {0}

-- the same of an item alone
abbrev pub Is : {A : Type 0} → Result A LineFault → Option A → Type 0
Is (Ok item) found = found ≡ Some item
Is (Err Bad) found = found ≡ None
Is (Err NoMemory) found = Unit {0}

-- what was read stood in front, as it is printed, and is in its range
abbrev pub Took : {A : Type 0} → (A → List Word) → (A → Type 0) → List Word → Result A LineFault → List Word → Type 0
Took printed Fits words result left = IfOk result (λ item. (words ≡ printed item ++ left) × Fits item)

-- the same of what stands behind a word that was taken before
abbrev pub TookBehind : {A : Type 0} → Word → (A → List Word) → (A → Type 0) → List Word → Result A LineFault → List Word → Type 0
TookBehind word printed Fits words result left = IfOk result (λ item. (word ∷ words ≡ printed item ++ left) × Fits item)

-- the item, where the word is the one that is printed for it
abbrev pub printed_as : {A : Type 0} → (A → Word) → Word → Option A → Option A
printed_as printed word None = None
printed_as printed word (Some item) = if bytes_eq (printed item) word then Some item else None

-- the value of the first word
abbrev pub first_word : {A : Type 0} → (Word → Option A) → List Word → Found A
first_word read [] = None
first_word read (word ∷ words) = read word >>= λ item. Some (item, words)

-- the words begin with this one
abbrev pub begins_with : Word → List Word → Bool
begins_with word [] = false
begins_with word (first ∷ words) = bytes_eq first word
