-- `dachumvi_start` tests its pointers, and lends what lies there for lifetimes that are made for the call of `start`.
use Rattle.channel_c.proofs.Steps.{ℕ, ◌<◌, ◌^◌, [], ◌∷◌, refl, lit<, w64, MutBor, proved, Ura, full_share, SProp, ent, sep, id⊢, Lft, GName, ftrue, feq, fex, fsep, flft, flent, named, w16, w32, Val, vint, vptr, Model, Wired, WpFn, Logic, sem, Body, fact, Running, MachineTables, tables, ‵, raw, ◌⊛◌, some, later, at_ret, ◌$◌, ◌∵◌, !, qed, by, done, move, keep, drop, use1, use2, use3, split, join, fsplit, fjoin, fpack, feq_i, pick, await, suffices, group, lft_new, lft_end, enter, of_opd, lit, bin, addr, stop, no_more, and_then, first, blocks, branches, skips, exec, returns, returns_within, alloc_all, pass_all, free_all, look_at, get, through, sets, lands_last, env, u16, u32, u64, yes, Is, shows, lends_ref, ref_back, mem, uint_Makes, uint_vals, uint_Tells, uint_Lawful, Ptr, RawPtr, Testable, block_ptr, null_ptr, ptr_val, rawptr_vals, rawptr_Tells, rawptr_Lawful, tests_null, MutRef, plain, nothing, owned, heard, peeks, calls_at_last, lasts, on_entry, triple_of, framed, Stays, walk_of, stay_dropped, Goes-dropped, ends_at}
use Rattle.channel_c.specs.Exports.{StartCall}
use Rattle.channel_c.specs.Lent.{Attempt, Lent, Word, lent_at}
use Rattle.channel_c.specs.Pointers.{Leaves, some_null}
use Rattle.channel_c.specs.contracts.exports.moving.dachumvi_start as f
use Rattle.channel_c.specs.contracts.moving.start as g
use Rattle.channel_c.proofs.moving.start.Met.{met}
use Rattle.channel_c.proofs.exports.moving.dachumvi_start.Statement.{statement}
use Rattle.channel_c.proofs.exports.moving.dachumvi_start.Code as code

abbrev stayed : Stays f.ended.signature.params f.ended.kept
stayed = (stay_dropped _ yes, (stay_dropped _ yes, (stay_dropped _ yes, (stay_dropped _ yes, (stay_dropped _ yes, tt)))))

module _ {M : Type 1} {𝓤 : Ura M} (𝓛 : Logic 𝓤) (𝓜 : Model 𝓤 𝓛.H) (𝓡 : Running 𝓤 𝓛.H 𝓜) (wired : Wired 𝓡.env code.code) (word : ℕ) (mix : ℕ) (at : ℕ) (fits_word : word < 2 ^ 16) (fits_mix : mix < 2 ^ 16) (fits_at : at < 2 ^ 64) (x : Lent Attempt) where
  open 𝓛 use {H}

  abbrev 𝓣 : MachineTables 𝓤 H 𝓜
  𝓣 = tables 𝓤 H 𝓜 𝓡 𝓡.env

  module _ (p1 : Ptr) (p2 : Ptr) where
    abbrev y : (walk_of 𝓛 f.ended stayed (f.clauses 𝓛 𝓜.mem 𝓡.returns)).Ghost
    y = ((tt, tt, tt, (p1, (word, (mix, (at, (p2, tt))))), (rawptr_vals p1, (vint w16 word ∷ [], (vint w16 mix ∷ [], (vint w64 at ∷ [], (rawptr_vals p2, tt)))))), x)

    abbrev Post : Val → SProp 𝓤
    Post = (walk_of 𝓛 f.ended stayed (f.clauses 𝓛 𝓜.mem 𝓡.returns)).post y

    abbrev Runs : SProp 𝓤
    Runs = WpFn 𝓤 H 𝓣.C 𝓣.Λ code.function (ptr_val p1 ∷ vint w16 word ∷ vint w16 mix ∷ vint w64 at ∷ ptr_val p2 ∷ []) Post

    -- the answer, and what lies there then
    exits : (v : Val) (m : ℕ) → ent 𝓤 (sep 𝓤 (sem 𝓛 (u32.own_val m (v ∷ []))) (sem 𝓛 (Leaves (some_null (p1 ∷ p2 ∷ [])) (lent_at Attempt p1 p2) x (StartCall word mix at m x) m))) (Post v)
    exits v m =
        qed 𝓛 (‵ (u32.own_val m (v ∷ [])) ∷ ‵ (Leaves (some_null (p1 ∷ p2 ∷ [])) (lent_at Attempt p1 p2) x (StartCall word mix at m x) m) ∷ []) ∵
        suffices ! _ (ends_at 𝓛 f.ended stayed (f.clauses 𝓛 𝓜.mem 𝓡.returns) y v m (tt, (tt, (tt, (tt, (tt, tt))))) (tt, (tt, (tt, (tt, (tt, tt)))))) $
        nothing ! $ nothing ! $ join ! $ nothing ! $ join ! $ nothing ! $ join ! $ nothing ! $ join ! $ nothing ! $ join ! $ nothing ! $ group ! 3 $ done !

    refused : ent 𝓤 (sem 𝓛 (fsep (feq ℕ 12 12) (lent_at Attempt p1 p2 x))) (sem 𝓛 (Leaves (some_null (p1 ∷ p2 ∷ [])) (lent_at Attempt p1 p2) x (StartCall word mix at 12 x) 12)) → ent 𝓤 (sem 𝓛 (lent_at Attempt p1 p2 x)) (Post (vint w32 12))
    refused same =
        qed 𝓛 (‵ (lent_at Attempt p1 p2 x) ∷ []) ∵ feq_i ! ℕ 12 12 refl $ fjoin ! $ use1 𝓛 (‵ (Leaves (some_null (p1 ∷ p2 ∷ [])) (lent_at Attempt p1 p2) x (StartCall word mix at 12 x) 12)) same $
        owned ! u32 _ (uint_Makes 𝓛 w32) 12 _ (refl, lit< tt) $ by ! (exits (vint w32 12) 12)

  null1 : (p2 : Ptr) → ent 𝓤 (sem 𝓛 (lent_at Attempt null_ptr p2 x)) (Runs null_ptr p2)
  null1 p2 =
      qed 𝓛 (‵ (lent_at Attempt null_ptr p2 x) ∷ []) ∵ enter ! _ _ _ _ _ $ alloc_all ! (λ l. pass_all ! refl ((tt, record { fits = lit< tt }), ((tt, record { fits = fits_word }), ((tt, record { fits = fits_mix }), ((tt, record { fits = fits_at }), (((rawptr_Lawful 𝓛).typed p2 _ refl).0, tt))))) $
      sets ! (bin ! (get ! refl) (lit ! tt) (tests_null null_ptr (lit< tt))) refl (tt, tt) $ first ! $ branches ! (get ! refl)
      (λ t. sets ! (of_opd ! (lit ! tt)) refl (tt, record { fits = lit< tt }) $ returns_within ! (Post null_ptr p2) refl (look_at ! 0 refl) $ free_all ! refl $ by ! (refused null_ptr p2 (id⊢ 𝓤 _)))
      (λ t. absurd t))

  null2 : (b1 o1 : ℕ) → Testable (block_ptr b1 o1) → ent 𝓤 (sem 𝓛 (lent_at Attempt (block_ptr b1 o1) null_ptr x)) (Runs (block_ptr b1 o1) null_ptr)
  null2 b1 o1 may1 =
      qed 𝓛 (‵ (lent_at Attempt (block_ptr b1 o1) null_ptr x) ∷ []) ∵ enter ! _ _ _ _ _ $ alloc_all ! (λ l. pass_all ! refl ((tt, tt), ((tt, record { fits = fits_word }), ((tt, record { fits = fits_mix }), ((tt, record { fits = fits_at }), ((tt, record { fits = lit< tt }), tt))))) $
      sets ! (bin ! (get ! refl) (lit ! tt) (tests_null (block_ptr b1 o1) may1)) refl (tt, tt) $ first ! $ branches ! (get ! refl) (λ t. absurd t)
      (λ t. skips ! $ exec ! 𝓣.C 𝓣.Λ (env code.Mir.locals l) code.Mir.t-3 (at_ret (env code.Mir.locals l) (Post (block_ptr b1 o1) null_ptr)) $
      sets ! (bin ! (get ! refl) (lit ! tt) (tests_null null_ptr (lit< tt))) refl (tt, tt) $ first ! $ branches ! (get ! refl)
      (λ t. sets ! (of_opd ! (lit ! tt)) refl (tt, record { fits = lit< tt }) $ returns_within ! (Post (block_ptr b1 o1) null_ptr) refl (look_at ! 0 refl) $ free_all ! refl $ by ! (refused (block_ptr b1 o1) null_ptr (id⊢ 𝓤 _)))
      (λ t. absurd t)))

  there : (b1 o1 b2 o2 : ℕ) → Testable (block_ptr b1 o1) → Testable (block_ptr b2 o2) → ent 𝓤 (sem 𝓛 (lent_at Attempt (block_ptr b1 o1) (block_ptr b2 o2) x)) (Runs (block_ptr b1 o1) (block_ptr b2 o2))
  there b1 o1 b2 o2 may1 may2 =
      let G = triple_of 𝓛 g.signature (g.spec 𝓛 𝓜.mem 𝓡.returns) in
      qed 𝓛 (‵ (lent_at Attempt (block_ptr b1 o1) (block_ptr b2 o2) x) ∷ []) ∵ enter ! _ _ _ _ _ $ alloc_all ! (λ l. pass_all ! refl ((tt, tt), ((tt, record { fits = fits_word }), ((tt, record { fits = fits_mix }), ((tt, record { fits = fits_at }), ((tt, tt), tt))))) $
      sets ! (bin ! (get ! refl) (lit ! tt) (tests_null (block_ptr b1 o1) may1)) refl (tt, tt) $ first ! $ branches ! (get ! refl) (λ t. absurd t)
      (λ t. skips ! $ exec ! 𝓣.C 𝓣.Λ (env code.Mir.locals l) code.Mir.t-3 (at_ret (env code.Mir.locals l) (Post (block_ptr b1 o1) (block_ptr b2 o2))) $
      sets ! (bin ! (get ! refl) (lit ! tt) (tests_null (block_ptr b2 o2) may2)) refl (tt, tt) $ first ! $ branches ! (get ! refl) (λ t. absurd t)
      (λ t. skips ! $ exec ! 𝓣.C 𝓣.Λ (env code.Mir.locals l) code.Mir.t-5 (at_ret (env code.Mir.locals l) (Post (block_ptr b1 o1) (block_ptr b2 o2))) $
      first ! $ blocks ! $
      sets ! (addr ! (through ! refl (stop !))) refl (tt, tt) $
      sets ! (addr ! (through ! refl (stop !))) refl (tt, tt) $
      fsplit ! $ move ! (1 ∷ []) $
      lft_new ! tt (λ α1. let κ1 : Lft = α1 ∷ [] in
      move ! (2 ∷ []) $ use1 𝓛 (later (some (λ (γ : GName). ‵ ((MutRef (named 0) κ1 Word).own_val (record { ref_ptr = (b1, o1); ghost_name = γ; now = x.word }) (vptr b1 o1 ∷ [])) ⊛ ‵ (flent κ1 (Body (mem Word) b1 o1 γ)))))
      (lends_ref 𝓛 Word (named 0) κ1 (x.word) b1 o1) $ await ! tt $ pick ! (λ γ1. split ! $
      lft_new ! tt (λ α2. let κ2 : Lft = α2 ∷ [] in
      move ! (4 ∷ []) $ use1 𝓛 (later (some (λ (γ : GName). ‵ ((MutRef (named 1) κ2 Attempt).own_val (record { ref_ptr = (b2, o2); ghost_name = γ; now = x.value }) (vptr b2 o2 ∷ [])) ⊛ ‵ (flent κ2 (Body (mem Attempt) b2 o2 γ)))))
      (lends_ref 𝓛 Attempt (named 1) κ2 (x.value) b2 o2) $ await ! tt $ pick ! (λ γ2. split ! $
      let r1 : MutBor (Word).Denot = record { ref_ptr = (b1, o1); ghost_name = γ1; now = x.word } in
      let r2 : MutBor (Attempt).Denot = record { ref_ptr = (b2, o2); ghost_name = γ2; now = x.value } in
      let z : G.Ghost = (((κ1, (κ2, tt)), (full_share, (full_share, tt)), tt, (r1, (word, (mix, (at, (r2, tt))))), (vptr b1 o1 ∷ [], (vint w16 word ∷ [], (vint w16 mix ∷ [], (vint w64 at ∷ [], (vptr b2 o2 ∷ [], tt)))))), tt) in
      nothing ! $ move ! (1 ∷ 0 ∷ []) $ join ! $ owned ! u64 _ (uint_Makes 𝓛 w64) at _ (refl, fits_at) $ join ! $ owned ! u16 _ (uint_Makes 𝓛 w16) mix _ (refl, fits_mix) $ join ! $ owned ! u16 _ (uint_Makes 𝓛 w16) word _ (refl, fits_word) $ join ! $ move ! (3 ∷ 0 ∷ []) $ join ! $
      nothing ! $ move ! (3 ∷ 0 ∷ []) $ join ! $ move ! (4 ∷ 0 ∷ []) $ join ! $ join ! $ nothing ! $ move ! (1 ∷ 0 ∷ []) $ use2 𝓛 (raw (G.pre z)) (id⊢ 𝓤 _) $
      calls_at_last ! (framed 𝓤 H 𝓜 𝓣) G (met 𝓤 𝓛 𝓜 𝓡 (code.calls-channel_c::moving::start 𝓡.env wired)) z (and_then ! (get ! refl) (and_then ! (get ! refl) (and_then ! (get ! refl) (and_then ! (get ! refl) (and_then ! (get ! refl) (no_more !)))))) (λ v.
      use1 𝓛 (later (some (λ (m : ℕ). ((‵ (flft κ1 full_share) ⊛ ‵ (flft κ2 full_share) ⊛ ‵ ftrue) ⊛ ‵ (u32.own_val m (v ∷ []))) ⊛
      some (λ (ws : (Word).Denot × (Unit {0} × (Unit {0} × (Unit {0} × ((Attempt).Denot × (Unit {0})))))). ‵ (lasts g.ended z.0.0 z.0.3 ws) ⊛ (raw (fact 𝓤 _) ⊛ raw (fact 𝓤 _)))))) (id⊢ 𝓤 _) $
      await ! tt $ pick ! (λ m. split ! $ split ! $
      split ! $ lft_end ! tt $ move ! (1 ∷ []) $ split ! $ lft_end ! tt $ move ! (1 ∷ []) $ drop ! $ move ! (3 ∷ []) $ pick ! (λ ws. split ! $ move ! (1 ∷ []) $ split ! $ heard ! _ (λ does1. heard ! _ (λ does2.
      fsplit ! $ move ! (1 ∷ []) $ fsplit ! $ move ! (1 ∷ []) $ fsplit ! $ move ! (1 ∷ []) $ fsplit ! $ move ! (1 ∷ []) $ fsplit ! $ move ! (1 ∷ []) $ drop ! $
      move ! (4 ∷ []) $ fsplit ! $ move ! (7 ∷ 10 ∷ 0 ∷ []) $ use3 𝓛 (later (‵ ((mem Word).own_at (ws.0) b1 o1))) (ref_back 𝓛 Word κ1 γ1 (ws.0) b1 o1) $ await ! tt $
      move ! (2 ∷ []) $ fsplit ! $ move ! (7 ∷ 9 ∷ 0 ∷ []) $ use3 𝓛 (later (‵ ((mem Attempt).own_at (ws.1.1.1.1.0) b2 o2))) (ref_back 𝓛 Attempt κ2 γ2 (ws.1.1.1.1.0) b2 o2) $ await ! tt $
      move ! (2 ∷ 0 ∷ []) $ fjoin ! $ nothing ! $ fpack ! ((StartCall word mix at m x) (record { word = ws.0; value = ws.1.1.1.1.0 })) (λ _. ftrue) (does1, does2) $ fjoin ! $
      fpack ! (Lent Attempt) (λ left. fsep (fex ((StartCall word mix at m x) left) (λ _. ftrue)) ((lent_at Attempt (block_ptr b1 o1) (block_ptr b2 o2)) left)) (record { word = ws.0; value = ws.1.1.1.1.0 }) $
      move ! (6 ∷ []) $ peeks ! u32 (Is u32) (shows 𝓛 u32) m (v ∷ []) (λ is. lands_last ! refl ((uint_Lawful 𝓛 w32).typed m _ is).0 $
      exec ! 𝓣.C 𝓣.Λ (env code.Mir.locals l) code.Mir.t-6 (at_ret (env code.Mir.locals l) (Post (block_ptr b1 o1) (block_ptr b2 o2))) $
      sets ! (of_opd ! (get ! refl)) refl ((uint_Lawful 𝓛 w32).typed m _ is).0 $
      returns ! (look_at ! 0 refl) $ free_all ! refl $ keep ! (0 ∷ 1 ∷ []) $ by ! (exits (block_ptr b1 o1) (block_ptr b2 o2) v m))))))))))))))

  at_each : (p1 p2 : Ptr) → Testable p1 → Testable p2 → ent 𝓤 (sem 𝓛 (lent_at Attempt p1 p2 x)) (Runs p1 p2)
  at_each null_ptr p2 may1 may2 = null1 p2
  at_each (block_ptr b1 o1) null_ptr may1 may2 = null2 b1 o1 may1
  at_each (block_ptr b1 o1) (block_ptr b2 o2) may1 may2 = there b1 o1 b2 o2 may1 may2

pub dachumvi_start_spec : {M : Type 1} → statement M
dachumvi_start_spec 𝓤 𝓛 𝓜 𝓡 wired =
    proved 𝓛 f.ended stayed (f.clauses 𝓛 𝓜.mem 𝓡.returns) 𝓜 𝓡 (Goes-dropped 𝓛 0 (plain (λ _. RawPtr)) yes (λ κs x w. refl), (Goes-dropped 𝓛 0 (plain (λ _. u16)) yes (λ κs x w. refl), (Goes-dropped 𝓛 0 (plain (λ _. u16)) yes (λ κs x w. refl), (Goes-dropped 𝓛 0 (plain (λ _. u64)) yes (λ κs x w. refl), (Goes-dropped 𝓛 0 (plain (λ _. RawPtr)) yes (λ κs x w. refl), tt)))))
    f.Key.name code.function (code.unfolded 𝓤 𝓛.H 𝓜 𝓡 wired)
    (λ κs. (rawptr_vals, (uint_vals w16, (uint_vals w16, (uint_vals w64, (rawptr_vals, tt)))))) (λ κs. (rawptr_Tells, (uint_Tells w16, (uint_Tells w16, (uint_Tells w64, (rawptr_Tells, tt)))))) (λ κs qs bounds a x are.
    qed 𝓛 (raw (on_entry 𝓛 f.signature κs qs a (rawptr_vals a.0, (uint_vals w16 a.1.0, (uint_vals w16 a.1.1.0, (uint_vals w64 a.1.1.1.0, (rawptr_vals a.1.1.1.1.0, tt)))))) ∷
    (raw (fact 𝓤 (Testable a.0)) ⊛ raw (fact 𝓤 (Testable a.1.1.1.1.0)) ⊛ ‵ (lent_at Attempt a.0 a.1.1.1.1.0 x)) ∷ []) ∵ drop ! $
    split ! $ heard ! _ (λ may1. split ! $ heard ! _ (λ may2. by ! (at_each 𝓛 𝓜 𝓡 wired a.1.0 a.1.1.0 a.1.1.1.0 are.1.0.1 are.1.1.0.1 are.1.1.1.0.1 x a.0 a.1.1.1.1.0 may1 may2))))
