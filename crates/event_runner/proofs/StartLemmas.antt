-- Attempts that are started, one behind the other, up to the end of the starting.
use Rattle.event_runner.proofs.Base.{◌≡◌, ◌∙◌, ℕ, ◌+◌, ◌<◌, ◌≤◌, ◌==◌, ◌||◌, ◌^◌, Bool, true, false, List, [], ◌∷◌, ◌++◌, cond, le-leb, length, map, nat_le, refl, ap, ap₂, sym, subst, arith, inl, inr, ⊎_elim, true≢false, eq-eqb, add-zero, Err, Ok, Option, Result, not, option_map, list_all, list_any, and_from, and_parts, cases_Bool, append-nil, append_assoc, list_all-append, Entry, What, ServerKey, NoMemory, WorldCall, Close, Connect, Now, Receive, Send, Serve, Wait, Word, Write, Idle, NoId, agrees_nearly, AreOthers, agrees_calls, noted-others, noted-append, told-append, Past, followed_by, Calls, Link, held_after, held_by, told, Starts, Setting, Agrees, Standing, connects, datagrams, faults, messages, noted, written, AreDrawn, MayLackServer, NoneStarts, Numbered, are_served_first, draws, is_among, is_sent_to, is_start_to, numbered, parts_of_call, received_in, served_by, serves, started_in, starting, words_of_look, Goes, Stops, Asks, Begins, BeginsNone, CutAsking, CutBeginning, CutPart, MakesPart, NearlyServes, NearlyWithin, Within, words_of, Draws, DrawsIf, Gets, State, Logs}
use Rattle.event_runner.proofs.CallLemmas.{goes_look, log_stays, log_trans, own_none, stops_alone, stops_look}
use Rattle.event_runner.proofs.GoesLemmas.{goes_as, goes_by, goes_joined, goes_none, stops_joined}
use Rattle.event_runner.proofs.HearLemmas.{told_both}
use Rattle.event_runner.proofs.QueryLemmas.{few_left}
use Rattle.event_runner.proofs.ReceiveLemmas.{Keeps, sound_kept}
use Rattle.event_runner.proofs.SoundLemmas.{AreIdle, Sound, sound_idle}
use Rattle.event_runner.proofs.TrailLemmas.{trail_none}
use Rattle.event_runner.proofs.WithinLemmas.{counts_as, nearly_joined, started-append, within_joined, within_none}

-- ---- which servers are told first

serves_same : (held other : List Link) (call : WorldCall) → serves held call ≡ serves other call
serves_same held other (Serve server address) = refl
serves_same held other (Now reading) = refl
serves_same held other (Word word) = refl
serves_same held other (Send server bytes outcome) = refl
serves_same held other (Connect server link outcome) = refl
serves_same held other (Write link bytes wrote) = refl
serves_same held other (Receive got) = refl
serves_same held other (Close link) = refl
serves_same held other (Wait until outcome) = refl

-- what is told of servers doesn't hang on the links
pub serves_held : (calls : List WorldCall) (held other : List Link) → told serves held calls ≡ told serves other calls
serves_held [] held other = refl
serves_held (call ∷ calls) held other = ap₂ (λ l m. l ++ m) (serves_same held other call) (serves_held calls (held_by held call) (held_by other call))

-- no call of these is sent to any of these servers
abbrev UnsentTo : List WorldCall → List ServerKey → Type 0
UnsentTo calls keys = list_all (λ key. list_all (λ call. not (is_sent_to key.key call)) calls) keys ≡ true

first_of_call : (call : WorldCall) (calls : List WorldCall) (keys : List ServerKey) → UnsentTo (call ∷ calls) keys → (list_all (λ key. not (is_sent_to key.key call)) keys ≡ true) × UnsentTo calls keys
first_of_call call calls [] unsent = (refl, refl)
first_of_call call calls (key ∷ keys) unsent =
    let parts = and_parts (list_all (λ c. not (is_sent_to key.key c)) (call ∷ calls)) (list_all (λ k. list_all (λ c. not (is_sent_to k.key c)) (call ∷ calls)) keys) unsent in
    let here = and_parts (not (is_sent_to key.key call)) (list_all (λ c. not (is_sent_to key.key c)) calls) parts.0 in
    let rest = first_of_call call calls keys parts.1 in
    (and_from _ _ here.0 rest.0, and_from _ _ here.1 rest.1)

-- calls behind calls
pub first_joined : (cs ds : List WorldCall) → are_served_first cs ≡ true → are_served_first ds ≡ true → UnsentTo cs (told serves [] ds) → are_served_first (cs ++ ds) ≡ true
first_joined [] ds x y unsent = y
first_joined (c ∷ cs) ds x y unsent =
    let parts = and_parts (list_all (λ server. not (is_sent_to server.key c)) (told serves [] cs)) (are_served_first cs) x in
    let each = first_of_call c cs (told serves [] ds) unsent in
    let split : told serves [] (cs ++ ds) ≡ told serves [] cs ++ told serves [] ds = told_split cs ds in
    and_from _ _
    (ap (list_all (λ server. not (is_sent_to server.key c))) split ∙ list_all-append (λ server. not (is_sent_to server.key c)) (told serves [] cs) (told serves [] ds) ∙ and_from _ _ parts.0 each.0)
    (first_joined cs ds parts.1 y each.1)
  where
    told_split : (cs ds : List WorldCall) → told serves [] (cs ++ ds) ≡ told serves [] cs ++ told serves [] ds
    told_split cs ds = told-append serves [] cs ds ∙ ap (λ l. told serves [] cs ++ l) (serves_held ds (held_after [] cs) [])

-- servers that had no Start got no call, where calls went to servers with a Start
pub unsent_of : (past : Past) (cs : List WorldCall) (keys : List ServerKey) → ((server : ℕ) → list_any (is_start_to server) past ≡ false → list_all (λ call. not (is_sent_to server call)) cs ≡ true) →
    ((server : ℕ) → list_any (is_start_to server) past ≡ true → list_all (λ key. not (key.key == server)) keys ≡ true) → UnsentTo cs keys
unsent_of past cs [] sent new = refl
unsent_of past cs (key ∷ keys) sent new =
    and_from _ _
    (⊎_elim
    (λ h. absurd (true≢false (sym (and_parts (not (key.key == key.key)) (list_all (λ k. not (k.key == key.key)) keys) (new key.key h)).0 ∙ ap not (eq-eqb key.key key.key refl))))
    (λ h. sent key.key h)
    (cases_Bool (list_any (is_start_to key.key) past)))
    (unsent_of past cs keys sent (λ server h. (and_parts (not (key.key == server)) (list_all (λ k. not (k.key == server)) keys) (new server h)).1))

-- a Start stays in the past
pub start_stays : (server : ℕ) (past : Past) (es : List Entry) → list_any (is_start_to server) past ≡ true → list_any (is_start_to server) (followed_by past es) ≡ true
start_stays server past [] h = h
start_stays server past (e ∷ es) h = start_stays server (e.what ∷ past) es (later (is_start_to server e.what) h)
  where
    later : (b : Bool) → list_any (is_start_to server) past ≡ true → (b || list_any (is_start_to server) past) ≡ true
    later true h = refl
    later false h = h

no_start_before : (server : ℕ) (past : Past) (es : List Entry) → list_any (is_start_to server) (followed_by past es) ≡ false → list_any (is_start_to server) past ≡ false
no_start_before server past es none = ⊎_elim (λ h. absurd (true≢false (sym (start_stays server past es h) ∙ none))) (λ h. h) (cases_Bool (list_any (is_start_to server) past))

-- ---- the words

-- the calls that draw words
abbrev pub word_calls : List ℕ → List WorldCall
word_calls words = map (λ word. Word word) words

module _ (held : List Link) where
  words_quiet : {A : Type 0} (tells : List Link → WorldCall → List A) → ((word : ℕ) → tells held (Word word) ≡ []) → (words : List ℕ) → told tells held (word_calls words) ≡ []
  words_quiet tells quiet [] = refl
  words_quiet tells quiet (word ∷ words) = ap₂ (λ l m. l ++ m) (quiet word) (words_quiet tells quiet words)

  words_drawn : (words : List ℕ) → told draws held (word_calls words) ≡ words
  words_drawn [] = refl
  words_drawn (word ∷ words) = ap (λ l. word ∷ l) (words_drawn words)

  words_held : (words : List ℕ) → held ≡ held_after held (word_calls words)
  words_held [] = refl
  words_held (word ∷ words) = words_held words

words_part : (words : List ℕ) → list_all (λ call. is_among starting (parts_of_call call)) (word_calls words) ≡ true
words_part [] = refl
words_part (word ∷ words) = words_part words

words_unsent : (server : ℕ) (words : List ℕ) → list_all (λ call. not (is_sent_to server call)) (word_calls words) ≡ true
words_unsent server [] = refl
words_unsent server (word ∷ words) = words_unsent server words

words_unreceived : (words : List ℕ) → received_in (word_calls words) ≡ 0
words_unreceived [] = refl
words_unreceived (word ∷ words) = words_unreceived words

words_first : (words : List ℕ) → are_served_first (word_calls words) ≡ true
words_first [] = refl
words_first (word ∷ words) = and_from _ _ (ap (list_all (λ server. not (is_sent_to server.key (Word word)))) (words_quiet [] serves (λ w. refl) words)) (words_first words)

module _ (reading : ℕ) where
  -- so many words are drawn for one start
  pub record DrawsWords (word bits : ℕ) (setting : Setting) (seat : ℕ) (old : Standing) (entries : List Entry) (calls : List WorldCall) (new : Standing) : Type 0 where
    pub within : Within reading starting 0 0 0 setting seat old entries calls new
    pub no_entry : entries ≡ []
    pub drawn : told draws old.held calls ≡ words_of setting.options.flags.mix word bits
    pub served_none : told serves old.held calls ≡ []
    pub unsent : (server : ℕ) → list_all (λ call. not (is_sent_to server call)) calls ≡ true
    pub first : are_served_first calls ≡ true

  within_words : (setting : Setting) (seat : ℕ) (from : Standing) (words : List ℕ) → Within reading starting 0 0 0 setting seat from [] (word_calls words) from
  within_words setting seat from words = record {
    agrees = agrees_calls setting seat from [] refl (word_calls words) from refl (words_held from.held words) (words_quiet from.held messages (λ w. refl) words) (words_quiet from.held datagrams (λ w. refl) words)
        (words_quiet from.held connects (λ w. refl) words) (λ link. ap (λ l. l ++ from.unwritten link) (sym (words_quiet from.held (written link) (λ w. refl) words))) (words_quiet from.held faults (λ w. refl) words);
    alone = words_part words;
    counts = record { received_are = words_unreceived words; expired_are = refl; started_are = refl };
  }

  pub goes_drawn : (a : State) (log : Option (List WorldCall)) (word bits : ℕ) → log ≡ option_map (λ calls. calls ++ word_calls (words_of a.mix word bits)) a.log → Goes (DrawsWords word bits) a (record a { log = log })
  goes_drawn a log word bits is =
      goes_by (DrawsWords word bits) a (record a { log = log }) [] (word_calls (words_of a.mix word bits)) (trail_none a.known) refl is
      (λ owner from holds. (
        from,
        record {
          within = within_words a.known.setting a.known.seat from (words_of a.mix word bits);
          no_entry = refl;
          drawn = words_drawn from.held (words_of a.mix word bits) ∙ ap (λ m. words_of m word bits) holds.mixes;
          served_none = words_quiet from.held serves (λ w. refl) (words_of a.mix word bits);
          unsent = λ server. words_unsent server (words_of a.mix word bits);
          first = words_first (words_of a.mix word bits);
        },
        record { fits = holds.fits; mixes = holds.mixes; told = holds.told },
      ))

  -- want of memory at the words, of which at most one was drawn
  pub stops_words : (a b : State) (words : List ℕ) → length words ≤ 1 → b.known ≡ a.known → b.log ≡ option_map (λ calls. calls ++ word_calls words) a.log → Stops (CutBeginning reading) a b
  stops_words a b words one same log =
      stops_alone a b same (word_calls words) log (CutBeginning reading)
      (λ from sound.
      let within = within_words a.known.setting a.known.seat from words in
      record {
        within = record { nearly = agrees_nearly a.known.setting a.known.seat from from [] (word_calls words) within.agrees; alone = within.alone };
        few = omega arith;
        drawn = rw (words_drawn from.held words) (few_left a.known.setting words one);
        served = inl (sym (words_quiet from.held serves (λ w. refl) words));
        served_first = words_first words;
        told_new = λ server before. rw (words_quiet from.held serves (λ w. refl) words) refl;
      })

  -- ---- one start

  -- no attempt is begun
  pub record FindsNone (setting : Setting) (seat : ℕ) (old : Standing) (entries : List Entry) (calls : List WorldCall) (new : Standing) : Type 0 where
    pub within : Within reading starting 0 0 0 setting seat old entries calls new
    pub none : NoneStarts setting new.past
    pub no_call : calls ≡ []
    pub no_start : noted seat numbered old.past entries ≡ []
    pub unserved : noted seat (served_by setting) old.past entries ≡ []

  pub record CutStart (setting : Setting) (seat : ℕ) (old : Standing) (entries : List Entry) (calls : List WorldCall) : Type 0 where
    pub within : NearlyWithin reading starting setting seat old entries calls
    pub no_call : calls ≡ []
    pub none : started_in seat entries ≡ 0
    pub no_start : noted seat numbered old.past entries ≡ []
    pub unserved : noted seat (served_by setting) old.past entries ≡ []

  others_alone : (setting : Setting) (seat : ℕ) (from : Standing) (os : List Entry) → AreOthers seat os → Within reading starting 0 0 0 setting seat from os [] (record { past = followed_by from.past os; held = from.held; unwritten = from.unwritten })
  others_alone setting seat from os others = record {
    agrees = agrees_calls setting seat from os others [] (record { past = followed_by from.past os; held = from.held; unwritten = from.unwritten }) refl refl refl refl refl (λ link. refl) refl;
    alone = rw (own_none seat os others) refl;
    counts = record { received_are = refl; expired_are = rw (own_none seat os others) refl; started_are = rw (own_none seat os others) refl };
  }

  found_none : (a : State) (b : State) → Keeps a b → (os : List Entry) → AreOthers a.known.seat os → AreIdle os → (from : Standing) → Sound a.known.setting a.rows a.told from → NoneStarts a.known.setting (followed_by from.past os) →
      (to : Standing) × (to.past ≡ followed_by from.past os) × FindsNone a.known.setting a.known.seat from os [] to × Sound a.known.setting b.rows b.told to
  found_none a b keeps os others idle from sound none =
      let to : Standing = record { past = followed_by from.past os; held = from.held; unwritten = from.unwritten } in (
        to,
        refl,
        record {
          within = others_alone a.known.setting a.known.seat from os others;
          none = none;
          no_call = refl;
          no_start = noted-others a.known.seat numbered from.past os others;
          unserved = noted-others a.known.seat (served_by a.known.setting) from.past os others;
        },
        sound_kept a.known.setting a b to keeps (sound_idle a.known.setting a.rows a.told os from idle sound),
      )

  pub goes_idle : (a b : State) (word bits : ℕ) → Keeps a b → b.log ≡ a.log → Calls (Starts word bits reading (Ok Idle)) 0 a.known b.known → Goes FindsNone a b
  goes_idle a b word bits keeps log call =
      goes_look (Starts word bits reading (Ok Idle)) a b call call.meant.0 [] (log ∙ log_stays a.log) FindsNone keeps.mix (λ os others idle from sound meant. found_none a b keeps os others idle from sound (inl meant.1))

  pub goes_no_id : (a b : State) (word bits : ℕ) → Keeps a b → b.log ≡ a.log → Calls (Starts word bits reading (Ok NoId)) 0 a.known b.known → Goes FindsNone a b
  goes_no_id a b word bits keeps log call =
      goes_look (Starts word bits reading (Ok NoId)) a b call call.meant.0 [] (log ∙ log_stays a.log) FindsNone keeps.mix (λ os others idle from sound meant. found_none a b keeps os others idle from sound (inr meant.2))

  pub stops_start : (a b : State) (word bits : ℕ) (fault : NoMemory) → b.log ≡ a.log → Calls (Starts word bits reading (Err fault)) 0 a.known b.known → Stops CutStart a b
  stops_start a b word bits fault log call =
      stops_look (Starts word bits reading (Err fault)) a b call call.meant.0 [] (log ∙ log_stays a.log) CutStart
      (λ os others idle from sound.
      let within = others_alone a.known.setting a.known.seat from os others in
      record {
        within = record { nearly = agrees_nearly a.known.setting a.known.seat from (record { past = followed_by from.past os; held = from.held; unwritten = from.unwritten }) os [] within.agrees; alone = within.alone };
        no_call = refl;
        none = within.counts.started_are;
        no_start = noted-others a.known.seat numbered from.past os others;
        unserved = noted-others a.known.seat (served_by a.known.setting) from.past os others;
      })

-- bits that were drawn
pub draws_word : (mix : Bool) (result : Result ℕ NoMemory) (old new : Option (List WorldCall)) → mix ≡ true → Logs old new result (λ word. Word word) → Draws mix result old new
draws_word mix (Ok word) old new is log = rw is log
draws_word mix (Err fault) old new is log = log

-- the words of one start, as two calls drew them
pub words_logged : (mix : Bool) (word bits : ℕ) (l m n : Option (List WorldCall)) → Gets (Word word) l m → DrawsIf mix bits m n → n ≡ option_map (λ calls. calls ++ word_calls (words_of mix word bits)) l
words_logged true word bits l m n x y = log_trans (Word word ∷ []) (Word bits ∷ []) l m n x y
words_logged false word bits l m n x y = y.1 ∙ x

-- ---- parts of the starting, one behind the other

unsent_any : (cs : List WorldCall) (keys : List ServerKey) → ((server : ℕ) → list_all (λ call. not (is_sent_to server call)) cs ≡ true) → UnsentTo cs keys
unsent_any cs [] unsent = refl
unsent_any cs (key ∷ keys) unsent = and_from _ _ (unsent key.key) (unsent_any cs keys unsent)

-- servers that may lack one, behind those that were told
serves_behind : (setting : Setting) (seat : ℕ) (x y : Standing) (es fs : List Entry) (cs ds : List WorldCall) → Agrees setting seat x es cs y → noted seat (served_by setting) x.past es ≡ told serves x.held cs →
    ((server : ℕ) → list_any (is_start_to server) y.past ≡ false → list_all (λ call. not (is_sent_to server call)) cs ≡ true) → NearlyServes setting seat y fs ds → NearlyServes setting seat x (es ++ fs) (cs ++ ds)
serves_behind setting seat x y es fs cs ds agrees same sent = by_cases
  where
    noted_both : noted seat (served_by setting) x.past (es ++ fs) ≡ told serves x.held cs ++ noted seat (served_by setting) y.past fs
    noted_both = noted-append seat (served_by setting) x.past es fs ∙ ap₂ (λ l q. l ++ noted seat (served_by setting) q fs) same (sym agrees.past_is)

    both : told serves x.held cs ++ told serves y.held ds ≡ told serves x.held (cs ++ ds)
    both = sym (told_both serves ds agrees)

    by_cases : NearlyServes setting seat y fs ds → NearlyServes setting seat x (es ++ fs) (cs ++ ds)
    by_cases (inl alike) = inl (noted_both ∙ ap (λ l. told serves x.held cs ++ l) alike ∙ both)
    by_cases (inr lacks) = inr (
      record {
        last = lacks.0.last;
        is_behind =
            noted_both ∙ ap (λ l. told serves x.held cs ++ l) lacks.0.is_behind
            ∙ sym (append_assoc (told serves x.held cs) (told serves y.held ds) (lacks.0.last ∷ [])) ∙ ap (λ l. l ++ lacks.0.last ∷ []) both;
      },
      list_all-append (λ call. not (is_sent_to lacks.0.last.key call)) cs ds ∙ and_from _ _ (sent lacks.0.last.key lacks.2) lacks.1,
      no_start_before lacks.0.last.key x.past es (subst (λ past. list_any (is_start_to lacks.0.last.key) past ≡ false) agrees.past_is lacks.2),
    )

-- so a cut part may lack one
lacks_server : (reading : ℕ) (setting : Setting) (seat : ℕ) (x : Standing) (es : List Entry) (cs : List WorldCall) → NearlyServes setting seat x es cs → MayLackServer setting seat reading x es cs
lacks_server reading setting seat x es cs (inl alike) = inl alike
lacks_server reading setting seat x es cs (inr lacks) = inr (lacks.0, lacks.1)

-- the words of one look
look_words : (setting : Setting) (word bits : ℕ) → length (words_of setting.options.flags.mix word bits) ≡ words_of_look setting
look_words setting word bits = by_mix setting.options.flags.mix
  where
    by_mix : (b : Bool) → length (words_of b word bits) ≡ cond b 2 1
    by_mix true = refl
    by_mix false = refl

module _ (reading : ℕ) where
  module _ {word bits : ℕ} {setting : Setting} {seat : ℕ} {x y : Standing} {es : List Entry} {cs : List WorldCall} (fs : List Entry) (ds : List WorldCall) (p : DrawsWords reading word bits setting seat x es cs y) where
    drawn_noted : {A : Type 0} (notes : Past → What → List A) → noted seat notes x.past (es ++ fs) ≡ noted seat notes y.past fs
    drawn_noted notes =
        noted-append seat notes x.past es fs ∙ ap₂ (λ l m. l ++ m) (ap (noted seat notes x.past) p.no_entry) (ap (λ q. noted seat notes q fs) (sym p.within.agrees.past_is))

    drawn_served : told serves x.held (cs ++ ds) ≡ told serves y.held ds
    drawn_served = told_both serves ds p.within.agrees ∙ ap (λ l. l ++ told serves y.held ds) p.served_none

    drawn_draws : told draws y.held ds ≡ [] → told draws x.held (cs ++ ds) ≡ words_of setting.options.flags.mix word bits
    drawn_draws none = told_both draws ds p.within.agrees ∙ ap₂ (λ l m. l ++ m) p.drawn none ∙ append-nil (words_of setting.options.flags.mix word bits)

    later_start : (server : ℕ) → list_any (is_start_to server) x.past ≡ true → list_any (is_start_to server) y.past ≡ true
    later_start server h = subst (λ q. list_any (is_start_to server) q ≡ true) (sym p.within.agrees.past_is) (start_stays server x.past es h)

  -- words, and the query that they are for
  pub asks_joined : (word bits : ℕ) (a b c : State) → Goes (DrawsWords reading word bits) a b → Goes (Asks reading word bits) b c → Goes (Begins reading 1) a c
  asks_joined word bits a b c = goes_joined (DrawsWords reading word bits) (Asks reading word bits) (Begins reading 1)
      (λ setting seat x y z es fs cs ds p q. record {
        within = within_joined p.within q.within;
        drawn = λ left starts words rest. rw (drawn_noted fs ds p numbered, drawn_draws fs ds p q.no_word) (q.drawn left starts words rest);
        served = drawn_noted fs ds p (served_by setting) ∙ q.served ∙ sym (drawn_served fs ds p);
        served_first = first_joined cs ds p.first q.served_first (unsent_any cs (told serves [] ds) p.unsent);
        told_new = λ server before. rw (drawn_served fs ds p) (q.told_new server (later_start fs ds p server before));
        sent = λ server none. list_all-append (λ call. not (is_sent_to server call)) cs ds ∙ and_from _ _ (p.unsent server) (q.sent server none);
      }) a b c

  pub asks_stop : (word bits : ℕ) (a b c : State) → Goes (DrawsWords reading word bits) a b → Stops (CutAsking reading word bits) b c → Stops (CutBeginning reading) a c
  asks_stop word bits a b c = stops_joined (DrawsWords reading word bits) (CutAsking reading word bits) (CutBeginning reading)
      (λ setting seat x y es fs cs ds p q. record {
        within = nearly_joined p.within q.within;
        few = rw (started-append seat es fs, p.within.counts.started_are) (omega (arith, q.few));
        drawn = rw (drawn_noted fs ds p numbered, drawn_draws fs ds p q.no_word) q.drawn;
        served = serves_behind setting seat x y es fs cs ds p.within.agrees (ap (noted seat (served_by setting) x.past) p.no_entry ∙ sym p.served_none) (λ server none. p.unsent server) q.served;
        served_first = first_joined cs ds p.first q.served_first (unsent_any cs (told serves [] ds) p.unsent);
        told_new = λ server before. rw (drawn_served fs ds p) (q.told_new server (later_start fs ds p server before));
      }) a b c

  pub start_stop : (word bits : ℕ) (a b c : State) → Goes (DrawsWords reading word bits) a b → Stops (CutStart reading) b c → Stops (CutBeginning reading) a c
  start_stop word bits a b c = stops_joined (DrawsWords reading word bits) (CutStart reading) (CutBeginning reading)
      (λ setting seat x y es fs cs ds p q.
      let unserved : told serves x.held (cs ++ ds) ≡ [] = drawn_served fs ds p ∙ ap (told serves y.held) q.no_call in
      record {
        within = nearly_joined p.within q.within;
        few = rw (started-append seat es fs, p.within.counts.started_are, q.none) (omega arith);
        drawn = rw (drawn_noted fs ds p numbered, q.no_start, drawn_draws fs ds p (ap (told draws y.held) q.no_call))
            (le-leb (length (words_of setting.options.flags.mix word bits)) (words_of_look setting) (omega (arith, look_words setting word bits)));
        served = inl (drawn_noted fs ds p (served_by setting) ∙ q.unserved ∙ sym unserved);
        served_first = subst (λ l. are_served_first (cs ++ l) ≡ true) (sym q.no_call) (subst (λ l. are_served_first l ≡ true) (sym (append-nil cs)) p.first);
        told_new = λ server before. rw unserved refl;
      }) a b c

  pub none_joined : (word bits : ℕ) (a b c : State) → Goes (DrawsWords reading word bits) a b → Goes (FindsNone reading) b c → Goes (BeginsNone reading) a c
  none_joined word bits a b c = goes_joined (DrawsWords reading word bits) (FindsNone reading) (BeginsNone reading)
      (λ setting seat x y z es fs cs ds p q.
      let unserved : told serves x.held (cs ++ ds) ≡ [] = drawn_served fs ds p ∙ ap (told serves y.held) q.no_call in
      record {
        begins = within_joined p.within q.within;
        none = q.none;
        no_start = drawn_noted fs ds p numbered ∙ q.no_start;
        drawn = eq-eqb (length (told draws x.held (cs ++ ds))) (words_of_look setting)
            (ap length (drawn_draws fs ds p (ap (told draws y.held) q.no_call)) ∙ look_words setting word bits);
        served = drawn_noted fs ds p (served_by setting) ∙ q.unserved ∙ sym unserved;
        served_none = unserved;
        served_first = subst (λ l. are_served_first (cs ++ l) ≡ true) (sym q.no_call) (subst (λ l. are_served_first l ≡ true) (sym (append-nil cs)) p.first);
      }) a b c

  -- ---- many starts

  pub begins_so_far : (a : State) → Goes (Begins reading 0) a a
  begins_so_far a = goes_none (Begins reading 0)
      (λ setting seat s. record {
        within = within_none s;
        drawn = λ left starts words rest. rest;
        served = refl;
        served_first = refl;
        told_new = λ server before. refl;
        sent = λ server none. refl;
      }) a

  without_nil : (left : ℕ → Bool) (setting : Setting) (starts : List Numbered) (words : List ℕ) → AreDrawn setting left (starts ++ []) (words ++ []) → AreDrawn setting left starts words
  without_nil left setting starts words h = subst (λ l. AreDrawn setting left l words) (append-nil starts) (subst (λ l. AreDrawn setting left (starts ++ []) l) (append-nil words) h)

  module _ {count : ℕ} {setting : Setting} {seat : ℕ} {x y : Standing} {es : List Entry} {cs : List WorldCall} (fs : List Entry) (ds : List WorldCall) (p : Begins reading count setting seat x es cs y) where
    noted_both : {A : Type 0} (notes : Past → What → List A) → noted seat notes x.past (es ++ fs) ≡ noted seat notes x.past es ++ noted seat notes y.past fs
    noted_both notes = noted-append seat notes x.past es fs ∙ ap (λ q. noted seat notes x.past es ++ noted seat notes q fs) (sym p.within.agrees.past_is)

    served_both : noted seat (served_by setting) y.past fs ≡ told serves y.held ds → noted seat (served_by setting) x.past (es ++ fs) ≡ told serves x.held (cs ++ ds)
    served_both same = noted_both (served_by setting) ∙ ap₂ (λ l m. l ++ m) p.served same ∙ sym (told_both serves ds p.within.agrees)

    first_both : are_served_first ds ≡ true → ((server : ℕ) → list_any (is_start_to server) y.past ≡ true → list_all (λ key. not (key.key == server)) (told serves y.held ds) ≡ true) → are_served_first (cs ++ ds) ≡ true
    first_both first new =
        first_joined cs ds p.served_first first
        (unsent_of y.past cs (told serves [] ds) p.sent (λ server h. subst (λ l. list_all (λ (key : ServerKey). not (key.key == server)) l ≡ true) (serves_held ds y.held []) (new server h)))

    drawn_both : (left : ℕ → Bool) (starts : List Numbered) (words : List ℕ) → AreDrawn setting left (noted seat numbered y.past fs ++ starts) (told draws y.held ds ++ words) →
        AreDrawn setting left (noted seat numbered x.past (es ++ fs) ++ starts) (told draws x.held (cs ++ ds) ++ words)
    drawn_both left starts words rest =
        let n : noted seat numbered x.past (es ++ fs) ++ starts ≡ noted seat numbered x.past es ++ (noted seat numbered y.past fs ++ starts) =
        ap (λ l. l ++ starts) (noted_both numbered) ∙ append_assoc (noted seat numbered x.past es) (noted seat numbered y.past fs) starts in
        let t : told draws x.held (cs ++ ds) ++ words ≡ told draws x.held cs ++ (told draws y.held ds ++ words) =
        ap (λ l. l ++ words) (told_both draws ds p.within.agrees) ∙ append_assoc (told draws x.held cs) (told draws y.held ds) words in
        subst (λ l. AreDrawn setting left l (told draws x.held (cs ++ ds) ++ words)) (sym n)
        (subst (λ l. AreDrawn setting left (noted seat numbered x.past es ++ (noted seat numbered y.past fs ++ starts)) l) (sym t)
        (p.drawn left (noted seat numbered y.past fs ++ starts) (told draws y.held ds ++ words) rest))

    -- the same of the whole
    drawn_whole : (left : ℕ → Bool) → AreDrawn setting left (noted seat numbered y.past fs) (told draws y.held ds) → AreDrawn setting left (noted seat numbered x.past (es ++ fs)) (told draws x.held (cs ++ ds))
    drawn_whole left rest =
        without_nil left setting (noted seat numbered x.past (es ++ fs)) (told draws x.held (cs ++ ds))
        (drawn_both left [] [] (rw (append-nil (noted seat numbered y.past fs), append-nil (told draws y.held ds)) rest))

    start_later : (server : ℕ) → list_any (is_start_to server) x.past ≡ true → list_any (is_start_to server) y.past ≡ true
    start_later server h = subst (λ q. list_any (is_start_to server) q ≡ true) (sym p.within.agrees.past_is) (start_stays server x.past es h)

  pub begins_more : (count : ℕ) (a b c : State) → Goes (Begins reading count) a b → Goes (Begins reading 1) b c → Goes (Begins reading (count + 1)) a c
  begins_more count a b c = goes_joined (Begins reading count) (Begins reading 1) (Begins reading (count + 1))
      (λ setting seat x y z es fs cs ds p q. record {
        within = within_joined p.within q.within;
        drawn = λ left starts words rest. drawn_both fs ds p left starts words (q.drawn left starts words rest);
        served = served_both fs ds p q.served;
        served_first = first_both fs ds p q.served_first q.told_new;
        told_new = λ server before.
            ap (list_all (λ (key : ServerKey). not (key.key == server))) (told_both serves ds p.within.agrees)
            ∙ list_all-append (λ (key : ServerKey). not (key.key == server)) (told serves x.held cs) (told serves y.held ds)
            ∙ and_from _ _ (p.told_new server before) (q.told_new server (start_later fs ds p server before));
        sent = λ server none.
            list_all-append (λ call. not (is_sent_to server call)) cs ds
            ∙ and_from _ _ (p.sent server (no_start_before server y.past fs (subst (λ past. list_any (is_start_to server) past ≡ false) q.within.agrees.past_is none))) (q.sent server none);
      }) a b c

  pub begins_all : (count : ℕ) → count ≤ 2 ^ 16 → (a b c : State) → Goes (Begins reading count) a b → Goes (BeginsNone reading) b c → Goes (MakesPart reading starting 0 0 count) a c
  begins_all count few a b c = goes_joined (Begins reading count) (BeginsNone reading) (MakesPart reading starting 0 0 count)
      (λ setting seat x y z es fs cs ds p q.
      let both = within_joined p.within q.begins in
      let counts = counts_as refl refl (add-zero count) both.counts in
      let looked : AreDrawn setting (λ left. left == words_of_look setting) (noted seat numbered y.past fs) (told draws y.held ds) = rw q.no_start q.drawn in
      record {
        made = record {
          agrees = both.agrees;
          alone = both.alone;
          all = inl (q.none, drawn_whole fs ds p (λ left. left == words_of_look setting) looked);
          few = rw counts.started_are few;
          served = served_both fs ds p q.served;
          served_first = first_both fs ds p q.served_first (λ server h. rw q.served_none refl);
        };
        counts = counts;
      }) a b c

  pub begins_most : (count : ℕ) → count ≡ 65536 → (a b : State) → Goes (Begins reading count) a b → Goes (MakesPart reading starting 0 0 65536) a b
  begins_most count all a b = goes_as (Begins reading count) (MakesPart reading starting 0 0 65536)
      (λ setting seat x y es cs p.
      let counts = counts_as refl refl all p.within.counts in
      record {
        made = record {
          agrees = p.within.agrees;
          alone = p.within.alone;
          all = inr (counts.started_are, without_nil (λ left. left == 0) setting (noted seat numbered x.past es) (told draws x.held cs) (p.drawn (λ left. left == 0) [] [] refl));
          few = rw counts.started_are (omega arith);
          served = p.served;
          served_first = p.served_first;
        };
        counts = counts;
      }) a b

  pub begins_stop : (count : ℕ) → count < 65536 → (a b c : State) → Goes (Begins reading count) a b → Stops (CutBeginning reading) b c → Stops (CutPart reading starting) a c
  begins_stop count few a b c = stops_joined (Begins reading count) (CutBeginning reading) (CutPart reading starting)
      (λ setting seat x y es fs cs ds p q.
      let both = nearly_joined p.within q.within in
      record {
        nearly = both.nearly;
        alone = both.alone;
        by_rule = (
          rw (started-append seat es fs, p.within.counts.started_are) (omega (arith, few, q.few)),
          drawn_whole fs ds p (λ left. nat_le left (words_of_look setting)) q.drawn,
          lacks_server reading setting seat x (es ++ fs) (cs ++ ds) (serves_behind setting seat x y es fs cs ds p.within.agrees p.served p.sent q.served),
          first_both fs ds p q.served_first q.told_new,
        );
      }) a b c
