-- What goes out with the query of an attempt: the calls, the words before them, and what a Start notes.
use Rattle.event_runner.proofs.Base.{◌≡◌, ℕ, ◌==◌, ◌&&◌, ◌||◌, Bool, true, false, List, [], ◌∷◌, ◌++◌, refl, ap, sym, subst, arith, inl, inr, ⊎_elim, cond, le-leb, length, nat_le, true≢false, ◌≤◌, IfSome, Some, find, not, then_some, AllByRecursion, list_all, cases_Bool, Entry, What, ServerKey, ServerAddr, Sent, WorldCall, Connect, Send, Serve, agrees_serve, MayLackOne, NearlyInOrder, Past, own_entries, Link, told, Setting, Agrees, Standing, Parcel, Route, noted, notices, notices_of, of_datagram, of_link, HasBits, Numbered, are_served_first, draws, expired_in, is_among, is_at, is_sent_to, numbered, parts_of_call, parts_of_entry, received_in, served_by, serves, started_in, starting, words_of_look, words_of, serve_unless}

-- what is found passes the test, and is one of the list
pub find_says : {X : Type 0} (P : X → Type 0) (test : X → Bool) (xs : List X) (c : X) → AllByRecursion P xs → find test xs ≡ Some c → (test c ≡ true) × P c
find_says P test [] c each e = absurd (cc e)
find_says {X} P test (x ∷ xs) c each e = by_test (test x) refl e (find_says P test xs c each.1)
  where
    by_test : (b : Bool) → test x ≡ b → cond b (Some x) (find test xs) ≡ Some c → (find test xs ≡ Some c → (test c ≡ true) × P c) → (test c ≡ true) × P c
    by_test true is e rest = let same : x ≡ c = cc in subst (λ y. (test y ≡ true) × P y) same (is, each.0)
    by_test false is e rest = rest e

pub found_test : {X : Type 0} (test : X → Bool) (xs : List X) (c : X) → find test xs ≡ Some c → test c ≡ true
found_test test [] c e = absurd (cc e)
found_test {X} test (x ∷ xs) c e = by_test (test x) refl e (found_test test xs c)
  where
    by_test : (b : Bool) → test x ≡ b → cond b (Some x) (find test xs) ≡ Some c → (find test xs ≡ Some c → test c ≡ true) → test c ≡ true
    by_test true is e rest = let same : x ≡ c = cc in subst (λ y. test y ≡ true) same is
    by_test false is e rest = rest e

-- a list with at most one item is told, or is one more than what is told
pub near_one : {A : Type 0} (tells : List Link → WorldCall → List A) (held : List Link) (cs : List WorldCall) (b : Bool) (x : A) → told tells held cs ≡ [] → MayLackOne tells held cs (cond b (x ∷ []) [])
near_one tells held cs true x none = inr (record { last = x; is_behind = rw none refl })
near_one tells held cs false x none = inl (sym none)

pub near_none : {A : Type 0} (tells : List Link → WorldCall → List A) (held : List Link) (cs : List WorldCall) (b : Bool) (x : A) → told tells held cs ≡ [] → MayLackOne tells held cs (cond b [] (x ∷ []))
near_none tells held cs true x none = inl (sym none)
near_none tells held cs false x none = inr (record { last = x; is_behind = rw none refl })

-- a Start notes its datagram or its new link, or neither: at most one thing more than calls that tell nothing
pub near_start : (held : List Link) (cs : List WorldCall) (b c : Bool) (x : Parcel) (y : Route) → told notices held cs ≡ [] → NearlyInOrder held cs (notices_of [] (cond b (x ∷ []) []) (cond (b || c) [] (y ∷ [])) [])
near_start held cs true c x y none = inr (record { last = of_datagram x; is_behind = rw none refl }, refl)
near_start held cs false true x y none = inl (inl (sym none))
near_start held cs false false x y none = inr (record { last = of_link y; is_behind = rw none refl }, refl)

-- what is queued over a link
pub queued_not : (b c : Bool) (x : List ℕ) → c ≡ false → cond (not b && c) x [] ≡ []
queued_not true c x e = refl
queued_not false c x e = rw e refl

pub queued_yes : (b c : Bool) (x : List ℕ) → b ≡ false → c ≡ true → cond (not b && c) x [] ≡ x
queued_yes b c x e f = rw (e, f) refl

pub or_later : (b c : Bool) → c ≡ true → (b || c) ≡ true
or_later true c e = refl
or_later false c e = e

-- the words behind the first
abbrev more_words : Bool → ℕ → List ℕ
more_words true bits = bits ∷ []
more_words false bits = []

pub words_split : (b : Bool) (word bits : ℕ) (words : List ℕ) → words_of b word bits ++ words ≡ word ∷ (more_words b bits ++ words)
words_split true word bits words = refl
words_split false word bits words = refl

some_bits : (b : Bool) (bits : ℕ) → IfSome (then_some b bits) (λ drawn. drawn ≡ bits)
some_bits true bits = refl
some_bits false bits = tt

-- at most one word is no more than those of one look
pub few_left : (setting : Setting) (words : List ℕ) → length words ≤ 1 → nat_le (length words) (words_of_look setting) ≡ true
few_left setting words few = by_mix setting.options.flags.mix
  where
    by_mix : (b : Bool) → nat_le (length words) (cond b 2 1) ≡ true
    by_mix true = le-leb (length words) 2 (omega (arith, few))
    by_mix false = le-leb (length words) 1 few

pub has_bits : (b mixed : Bool) (bits : ℕ) (setting : Setting) (rest : List ℕ → Type 0) (words : List ℕ) → rest words → HasBits setting b (then_some mixed bits) rest (more_words b bits ++ words)
has_bits true mixed bits setting rest words h = (some_bits mixed bits, h)
has_bits false mixed bits setting rest words h = h

-- the calls by which a query goes out
pub record IsCore (server : ℕ) (core : List WorldCall) : Type 0 where
  pub serves_none : (held : List Link) → told serves held core ≡ []
  pub draws_none : (held : List Link) → told draws held core ≡ []
  pub of_part : list_all (λ call. is_among starting (parts_of_call call)) core ≡ true
  pub first : are_served_first core ≡ true
  pub sent_only : (other : ℕ) → (server == other) ≡ false → list_all (λ call. not (is_sent_to other call)) core ≡ true
  pub receives_none : received_in core ≡ 0

pub core_send : (server : ℕ) (message : List ℕ) (outcome : Sent) → IsCore server (Send server message outcome ∷ [])
core_send server message outcome =
    record { serves_none = λ held. refl; draws_none = λ held. refl; of_part = refl; first = refl; sent_only = λ other ne. rw ne refl; receives_none = refl }

pub core_connect : (server link : ℕ) (outcome : Sent) → IsCore server (Connect server link outcome ∷ [])
core_connect server link outcome =
    record { serves_none = λ held. refl; draws_none = λ held. refl; of_part = refl; first = refl; sent_only = λ other ne. rw ne refl; receives_none = refl }

pub core_none : (server : ℕ) → IsCore server []
core_none server = record { serves_none = λ held. refl; draws_none = λ held. refl; of_part = refl; first = refl; sent_only = λ other ne. refl; receives_none = refl }

-- what tells nothing of a serve
module _ (server : ℕ) (address : ServerAddr) where
  pub serves_quiet : {A : Type 0} (tells : List Link → WorldCall → List A) → ((held : List Link) → tells held (Serve server address) ≡ []) → (already : Bool) (held : List Link) (core : List WorldCall) →
      told tells held (serve_unless already server address ++ core) ≡ told tells held core
  serves_quiet tells quiet true held core = refl
  serves_quiet tells quiet false held core = ap (λ l. l ++ told tells held core) (quiet held)

  pub agrees_serves : (setting : Setting) (seat : ℕ) (a b : Standing) (es : List Entry) (core : List WorldCall) (already : Bool) → Agrees setting seat a es core b → Agrees setting seat a es (serve_unless already server address ++ core) b
  agrees_serves setting seat a b es core true x = x
  agrees_serves setting seat a b es core false x = agrees_serve setting seat a b es core server address x

  -- what is told of a server
  abbrev pub served_list : Bool → List ServerKey
  served_list true = []
  served_list false = record { key = server; address = address } ∷ []

  pub told_serves : (already : Bool) (held : List Link) (core : List WorldCall) → IsCore server core → told serves held (serve_unless already server address ++ core) ≡ served_list already
  told_serves true held core is = is.serves_none held
  told_serves false held core is = ap (λ l. record { key = server; address = address } ∷ l) (is.serves_none held)

  pub serves_part : (already : Bool) (core : List WorldCall) → IsCore server core → list_all (λ call. is_among starting (parts_of_call call)) (serve_unless already server address ++ core) ≡ true
  serves_part true core is = is.of_part
  serves_part false core is = is.of_part

  pub serves_first : (already : Bool) (core : List WorldCall) → IsCore server core → are_served_first (serve_unless already server address ++ core) ≡ true
  serves_first true core is = is.first
  serves_first false core is = rw (is.serves_none [], is.first) refl

  pub serves_sent : (already : Bool) (core : List WorldCall) → IsCore server core → (other : ℕ) → (server == other) ≡ false → list_all (λ call. not (is_sent_to other call)) (serve_unless already server address ++ core) ≡ true
  serves_sent true core is other ne = is.sent_only other ne
  serves_sent false core is other ne = is.sent_only other ne

  pub serves_received : (already : Bool) (core : List WorldCall) → IsCore server core → received_in (serve_unless already server address ++ core) ≡ 0
  serves_received true core is = is.receives_none
  serves_received false core is = is.receives_none

  pub serves_new : (already : Bool) (other : ℕ) → ((server == other) ≡ true → already ≡ true) → list_all (λ key. not (key.key == other)) (served_list already) ≡ true
  serves_new true other told_before = refl
  serves_new false other told_before = ⊎_elim (λ h. absurd (true≢false (sym (told_before h)))) (λ h. rw h refl) (cases_Bool (server == other))

-- the entries are the Start of an attempt, and then perhaps its Fault
pub record IsBegun (setting : Setting) (seat reading : ℕ) (past : Past) (here : Past) (what : What) (n : Numbered) (es : List Entry) : Type 0 where
  pub alone : list_all (λ (e : Entry). is_among starting (parts_of_entry e.what) && is_at reading e.what) (own_entries seat es) ≡ true
  pub expired : expired_in seat es ≡ 0
  pub started : started_in seat es ≡ 1
  pub numbered_is : noted seat numbered past es ≡ n ∷ []
  pub served_is : noted seat (served_by setting) past es ≡ served_by setting here what
