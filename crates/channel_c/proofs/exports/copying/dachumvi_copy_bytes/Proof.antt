-- `dachumvi_copy_bytes` tests its pointers, and lends what lies there for lifetimes that are made for the call of `copy_bytes`.
use Rattle.channel_c.proofs.Steps.{ℕ, ◌*◌, ◌<◌, ◌^◌, List, [], ◌∷◌, length, refl, sym, ◌∙◌, subst, arith, lit<, w64, MutBor, proved, Ura, full_share, SProp, ent, sep, id⊢, Lft, GName, ftrue, feq, fex, fsep, flft, flent, named, w32, Val, vint, vptr, Model, Wired, WpFn, Logic, sem, Body, cells, fact, Running, MachineTables, tables, ‵, raw, ◌⊛◌, some, later, at_ret, ◌$◌, ◌∵◌, !, qed, by, done, move, keep, drop, use1, use2, use3, split, join, fsplit, fjoin, fpack, feq_i, feq_l, pick, await, rewrite, suffices, group, lft_new, lft_end, agg, enter, of_opd, lit, bin, addr, stop, no_more, and_then, first, blocks, branches, skips, exec, returns, returns_within, alloc_all, pass_all, free_all, look_at, get, through, sets, lands_last, env, Array, u8, u32, usize, yes, Is, shows, Held, lends_ref, lends_slice, ref_back, slice_back, mem, part_at, uint_Makes, uint_vals, uint_Tells, uint_Lawful, Ptr, RawPtr, Testable, block_ptr, null_ptr, ptr_val, rawptr_vals, rawptr_Tells, rawptr_Lawful, tests_null, MutRef, plain, MutSlice, slice_val, nothing, owned, heard, peeks, calls_at_last, lasts, on_entry, triple_of, framed, Stays, walk_of, stay_dropped, Goes-dropped, ends_at}
use Rattle.channel_c.specs.Exports.{CopyCall}
use Rattle.channel_c.specs.Lent.{Buffer, Word, buffer_at}
use Rattle.channel_c.specs.Pointers.{Leaves, some_null}
use Rattle.c_types.specs.Outgoing.{sending}
use Rattle.channel_c.proofs.Buffers.{buffer_in, buffer_out}
use Rattle.channel_c.specs.contracts.exports.copying.dachumvi_copy_bytes as f
use Rattle.channel_c.specs.contracts.copying.copy_bytes as g
use Rattle.channel_c.proofs.copying.copy_bytes.Met.{met}
use Rattle.channel_c.proofs.exports.copying.dachumvi_copy_bytes.Statement.{statement}
use Rattle.channel_c.proofs.exports.copying.dachumvi_copy_bytes.Code as code

abbrev stayed : Stays f.ended.signature.params f.ended.kept
stayed = (stay_dropped _ yes, (stay_dropped _ yes, (stay_dropped _ yes, (stay_dropped _ yes, tt))))

module _ {M : Type 1} {𝓤 : Ura M} (𝓛 : Logic 𝓤) (𝓜 : Model 𝓤 𝓛.H) (𝓡 : Running 𝓤 𝓛.H 𝓜) (wired : Wired 𝓡.env code.code) (x : Buffer) where
  open 𝓛 use {H}

  abbrev 𝓣 : MachineTables 𝓤 H 𝓜
  𝓣 = tables 𝓤 H 𝓜 𝓡 𝓡.env

  module _ (n_length : ℕ) (p1 : Ptr) (p2 : Ptr) (p3 : Ptr) where
    abbrev y : (walk_of 𝓛 f.ended stayed (f.clauses 𝓛 𝓜.mem 𝓡.returns)).Ghost
    y = ((tt, tt, tt, (p1, (p2, (n_length, (p3, tt)))), (rawptr_vals p1, (rawptr_vals p2, (vint w64 n_length ∷ [], (rawptr_vals p3, tt))))), x)

    abbrev Post : Val → SProp 𝓤
    Post = (walk_of 𝓛 f.ended stayed (f.clauses 𝓛 𝓜.mem 𝓡.returns)).post y

    abbrev Runs : SProp 𝓤
    Runs = WpFn 𝓤 H 𝓣.C 𝓣.Λ code.function (ptr_val p1 ∷ ptr_val p2 ∷ vint w64 n_length ∷ ptr_val p3 ∷ []) Post

    -- the answer, and what lies there then
    exits : (v : Val) (m : ℕ) → ent 𝓤 (sep 𝓤 (sem 𝓛 (u32.own_val m (v ∷ []))) (sem 𝓛 (Leaves (some_null (p1 ∷ p2 ∷ p3 ∷ [])) (buffer_at p1 p2 n_length p3) x (CopyCall (λ channel. sending channel.begun) m x) m))) (Post v)
    exits v m =
        qed 𝓛 (‵ (u32.own_val m (v ∷ [])) ∷ ‵ (Leaves (some_null (p1 ∷ p2 ∷ p3 ∷ [])) (buffer_at p1 p2 n_length p3) x (CopyCall (λ channel. sending channel.begun) m x) m) ∷ []) ∵
        suffices ! _ (ends_at 𝓛 f.ended stayed (f.clauses 𝓛 𝓜.mem 𝓡.returns) y v m (tt, (tt, (tt, (tt, tt)))) (tt, (tt, (tt, (tt, tt))))) $
        nothing ! $ nothing ! $ join ! $ nothing ! $ join ! $ nothing ! $ join ! $ nothing ! $ join ! $ nothing ! $ group ! 3 $ done !

    refused : ent 𝓤 (sem 𝓛 (fsep (feq ℕ 12 12) (buffer_at p1 p2 n_length p3 x))) (sem 𝓛 (Leaves (some_null (p1 ∷ p2 ∷ p3 ∷ [])) (buffer_at p1 p2 n_length p3) x (CopyCall (λ channel. sending channel.begun) 12 x) 12)) → ent 𝓤 (sem 𝓛 (buffer_at p1 p2 n_length p3 x)) (Post (vint w32 12))
    refused same =
        qed 𝓛 (‵ (buffer_at p1 p2 n_length p3 x) ∷ []) ∵ feq_i ! ℕ 12 12 refl $ fjoin ! $ use1 𝓛 (‵ (Leaves (some_null (p1 ∷ p2 ∷ p3 ∷ [])) (buffer_at p1 p2 n_length p3) x (CopyCall (λ channel. sending channel.begun) 12 x) 12)) same $
        owned ! u32 _ (uint_Makes 𝓛 w32) 12 _ (refl, lit< tt) $ by ! (exits (vint w32 12) 12)

  module _ (n_length : ℕ) (low_length : n_length < 2 ^ 63) where
    fits_length : n_length < 2 ^ 64
    fits_length = omega (arith, low_length)

    null1 : (p2 : Ptr) (p3 : Ptr) → ent 𝓤 (sem 𝓛 (buffer_at null_ptr p2 n_length p3 x)) (Runs n_length null_ptr p2 p3)
    null1 p2 p3 =
        qed 𝓛 (‵ (buffer_at null_ptr p2 n_length p3 x) ∷ []) ∵ enter ! _ _ _ _ _ $ alloc_all ! (λ l. pass_all ! refl ((tt, record { fits = lit< tt }), (((rawptr_Lawful 𝓛).typed p2 _ refl).0, ((tt, record { fits = fits_length }), (((rawptr_Lawful 𝓛).typed p3 _ refl).0, tt)))) $
        sets ! (bin ! (get ! refl) (lit ! tt) (tests_null null_ptr (lit< tt))) refl (tt, tt) $ first ! $ branches ! (get ! refl)
        (λ t. sets ! (of_opd ! (lit ! tt)) refl (tt, record { fits = lit< tt }) $ returns_within ! (Post n_length null_ptr p2 p3) refl (look_at ! 0 refl) $ free_all ! refl $ by ! (refused n_length null_ptr p2 p3 (id⊢ 𝓤 _)))
        (λ t. absurd t))

    null2 : (b1 o1 : ℕ) (p3 : Ptr) → Testable (block_ptr b1 o1) → ent 𝓤 (sem 𝓛 (buffer_at (block_ptr b1 o1) null_ptr n_length p3 x)) (Runs n_length (block_ptr b1 o1) null_ptr p3)
    null2 b1 o1 p3 may1 =
        qed 𝓛 (‵ (buffer_at (block_ptr b1 o1) null_ptr n_length p3 x) ∷ []) ∵ enter ! _ _ _ _ _ $ alloc_all ! (λ l. pass_all ! refl ((tt, tt), ((tt, record { fits = lit< tt }), ((tt, record { fits = fits_length }), (((rawptr_Lawful 𝓛).typed p3 _ refl).0, tt)))) $
        sets ! (bin ! (get ! refl) (lit ! tt) (tests_null (block_ptr b1 o1) may1)) refl (tt, tt) $ first ! $ branches ! (get ! refl) (λ t. absurd t)
        (λ t. skips ! $ exec ! 𝓣.C 𝓣.Λ (env code.Mir.locals l) code.Mir.t-3 (at_ret (env code.Mir.locals l) (Post n_length (block_ptr b1 o1) null_ptr p3)) $
        sets ! (bin ! (get ! refl) (lit ! tt) (tests_null null_ptr (lit< tt))) refl (tt, tt) $ first ! $ branches ! (get ! refl)
        (λ t. sets ! (of_opd ! (lit ! tt)) refl (tt, record { fits = lit< tt }) $ returns_within ! (Post n_length (block_ptr b1 o1) null_ptr p3) refl (look_at ! 0 refl) $ free_all ! refl $ by ! (refused n_length (block_ptr b1 o1) null_ptr p3 (id⊢ 𝓤 _)))
        (λ t. absurd t)))

    null3 : (b1 o1 : ℕ) (b2 o2 : ℕ) → Testable (block_ptr b1 o1) → Testable (block_ptr b2 o2) → ent 𝓤 (sem 𝓛 (buffer_at (block_ptr b1 o1) (block_ptr b2 o2) n_length null_ptr x)) (Runs n_length (block_ptr b1 o1) (block_ptr b2 o2) null_ptr)
    null3 b1 o1 b2 o2 may1 may2 =
        qed 𝓛 (‵ (buffer_at (block_ptr b1 o1) (block_ptr b2 o2) n_length null_ptr x) ∷ []) ∵ enter ! _ _ _ _ _ $ alloc_all ! (λ l. pass_all ! refl ((tt, tt), ((tt, tt), ((tt, record { fits = fits_length }), ((tt, record { fits = lit< tt }), tt)))) $
        sets ! (bin ! (get ! refl) (lit ! tt) (tests_null (block_ptr b1 o1) may1)) refl (tt, tt) $ first ! $ branches ! (get ! refl) (λ t. absurd t)
        (λ t. skips ! $ exec ! 𝓣.C 𝓣.Λ (env code.Mir.locals l) code.Mir.t-3 (at_ret (env code.Mir.locals l) (Post n_length (block_ptr b1 o1) (block_ptr b2 o2) null_ptr)) $
        sets ! (bin ! (get ! refl) (lit ! tt) (tests_null (block_ptr b2 o2) may2)) refl (tt, tt) $ first ! $ branches ! (get ! refl) (λ t. absurd t)
        (λ t. skips ! $ exec ! 𝓣.C 𝓣.Λ (env code.Mir.locals l) code.Mir.t-5 (at_ret (env code.Mir.locals l) (Post n_length (block_ptr b1 o1) (block_ptr b2 o2) null_ptr)) $
        sets ! (bin ! (get ! refl) (lit ! tt) (tests_null null_ptr (lit< tt))) refl (tt, tt) $ first ! $ branches ! (get ! refl)
        (λ t. sets ! (of_opd ! (lit ! tt)) refl (tt, record { fits = lit< tt }) $ returns_within ! (Post n_length (block_ptr b1 o1) (block_ptr b2 o2) null_ptr) refl (look_at ! 0 refl) $ free_all ! refl $ by ! (refused n_length (block_ptr b1 o1) (block_ptr b2 o2) null_ptr (id⊢ 𝓤 _)))
        (λ t. absurd t))))

    there : (b1 o1 b2 o2 b3 o3 : ℕ) → Testable (block_ptr b1 o1) → Testable (block_ptr b2 o2) → Testable (block_ptr b3 o3) → ent 𝓤 (sem 𝓛 (buffer_at (block_ptr b1 o1) (block_ptr b2 o2) n_length (block_ptr b3 o3) x)) (Runs n_length (block_ptr b1 o1) (block_ptr b2 o2) (block_ptr b3 o3))
    there b1 o1 b2 o2 b3 o3 may1 may2 may3 =
        let G = triple_of 𝓛 g.signature (g.spec 𝓛 𝓜.mem 𝓡.returns) in
        qed 𝓛 (‵ (buffer_at (block_ptr b1 o1) (block_ptr b2 o2) n_length (block_ptr b3 o3) x) ∷ []) ∵ enter ! _ _ _ _ _ $ alloc_all ! (λ l. pass_all ! refl ((tt, tt), ((tt, tt), ((tt, record { fits = fits_length }), ((tt, tt), tt)))) $
        sets ! (bin ! (get ! refl) (lit ! tt) (tests_null (block_ptr b1 o1) may1)) refl (tt, tt) $ first ! $ branches ! (get ! refl) (λ t. absurd t)
        (λ t. skips ! $ exec ! 𝓣.C 𝓣.Λ (env code.Mir.locals l) code.Mir.t-3 (at_ret (env code.Mir.locals l) (Post n_length (block_ptr b1 o1) (block_ptr b2 o2) (block_ptr b3 o3))) $
        sets ! (bin ! (get ! refl) (lit ! tt) (tests_null (block_ptr b2 o2) may2)) refl (tt, tt) $ first ! $ branches ! (get ! refl) (λ t. absurd t)
        (λ t. skips ! $ exec ! 𝓣.C 𝓣.Λ (env code.Mir.locals l) code.Mir.t-5 (at_ret (env code.Mir.locals l) (Post n_length (block_ptr b1 o1) (block_ptr b2 o2) (block_ptr b3 o3))) $
        sets ! (bin ! (get ! refl) (lit ! tt) (tests_null (block_ptr b3 o3) may3)) refl (tt, tt) $ first ! $ branches ! (get ! refl) (λ t. absurd t)
        (λ t. skips ! $ exec ! 𝓣.C 𝓣.Λ (env code.Mir.locals l) code.Mir.t-7 (at_ret (env code.Mir.locals l) (Post n_length (block_ptr b1 o1) (block_ptr b2 o2) (block_ptr b3 o3))) $
        first ! $ blocks ! $
        sets ! (addr ! (through ! refl (stop !))) refl (tt, tt) $
        sets ! (agg ! (and_then ! (get ! refl) (and_then ! (get ! refl) (no_more !)))) refl (tt, (tt, (record { fits = fits_length }, tt))) $
        sets ! (addr ! (through ! refl (stop !))) refl (tt, tt) $
        fsplit ! $ move ! (1 ∷ []) $ fsplit ! $ move ! (1 ∷ []) $
        lft_new ! tt (λ α1. let κ1 : Lft = α1 ∷ [] in
        move ! (3 ∷ []) $ use1 𝓛 (later (some (λ (γ : GName). ‵ ((MutRef (named 0) κ1 Word).own_val (record { ref_ptr = (b1, o1); ghost_name = γ; now = x.word }) (vptr b1 o1 ∷ [])) ⊛ ‵ (flent κ1 (Body (mem Word) b1 o1 γ)))))
        (lends_ref 𝓛 Word (named 0) κ1 (x.word) b1 o1) $ await ! tt $ pick ! (λ γ1. split ! $
        lft_new ! tt (λ α2. let κ2 : Lft = α2 ∷ [] in
        move ! (5 ∷ []) $ use1 𝓛 (‵ (fsep (feq ℕ (length x.bytes) n_length) (cells (mem u8) x.bytes b2 o2))) (buffer_out 𝓛 n_length x.bytes b2 o2) $ fsplit ! $ feq_l ! (λ e2.
        let low2 : length x.bytes < 2 ^ 63 = subst (λ (m : ℕ). m < 2 ^ 63) (sym e2) low_length in let fits2 : length x.bytes < 2 ^ 64 = omega (arith, low2) in let room2 : length x.bytes * 1 < 2 ^ 63 = omega (arith, low2) in
        use1 𝓛 (later (some (λ (γ : GName). ‵ ((MutSlice (named 1) κ2 u8).own_val (record { ref_ptr = (b2, o2); ghost_name = γ; now = x.bytes }) (slice_val (b2, o2) (length x.bytes) ∷ [])) ⊛ ‵ (flent κ2 (Held u8 (length x.bytes) b2 o2 γ)))))
        (lends_slice 𝓛 u8 (named 1) κ2 x.bytes b2 o2 (fits2, room2)) $ await ! tt $ pick ! (λ γ2. split ! $
        rewrite ! 0 (λ (m : ℕ). ‵ ((MutSlice (named 1) κ2 u8).own_val (record { ref_ptr = (b2, o2); ghost_name = γ2; now = x.bytes }) (slice_val (b2, o2) m ∷ []))) e2 refl $
        lft_new ! tt (λ α3. let κ3 : Lft = α3 ∷ [] in
        move ! (7 ∷ []) $ use1 𝓛 (later (some (λ (γ : GName). ‵ ((MutRef (named 2) κ3 usize).own_val (record { ref_ptr = (b3, o3); ghost_name = γ; now = x.count }) (vptr b3 o3 ∷ [])) ⊛ ‵ (flent κ3 (Body (mem usize) b3 o3 γ)))))
        (lends_ref 𝓛 usize (named 2) κ3 (x.count) b3 o3) $ await ! tt $ pick ! (λ γ3. split ! $
        let r1 : MutBor (Word).Denot = record { ref_ptr = (b1, o1); ghost_name = γ1; now = x.word } in
        let r2 : MutBor (List ℕ) = record { ref_ptr = (b2, o2); ghost_name = γ2; now = x.bytes } in
        let r3 : MutBor (usize).Denot = record { ref_ptr = (b3, o3); ghost_name = γ3; now = x.count } in
        let z : G.Ghost = (((κ1, (κ2, (κ3, tt))), (full_share, (full_share, (full_share, tt))), tt, (r1, (r2, (r3, tt))), (vptr b1 o1 ∷ [], (slice_val (b2, o2) n_length ∷ [], (vptr b3 o3 ∷ [], tt)))), tt) in
        nothing ! $ move ! (1 ∷ 0 ∷ []) $ join ! $ move ! (3 ∷ 0 ∷ []) $ join ! $ move ! (5 ∷ 0 ∷ []) $ join ! $
        nothing ! $ move ! (3 ∷ 0 ∷ []) $ join ! $ move ! (4 ∷ 0 ∷ []) $ join ! $ move ! (5 ∷ 0 ∷ []) $ join ! $ join ! $ nothing ! $ move ! (1 ∷ 0 ∷ []) $ use2 𝓛 (raw (G.pre z)) (id⊢ 𝓤 _) $
        calls_at_last ! (framed 𝓤 H 𝓜 𝓣) G (met 𝓤 𝓛 𝓜 𝓡 (code.calls-channel_c::copying::copy_bytes 𝓡.env wired)) z (and_then ! (get ! refl) (and_then ! (get ! refl) (and_then ! (get ! refl) (no_more !)))) (λ v.
        use1 𝓛 (later (some (λ (m : ℕ). ((‵ (flft κ1 full_share) ⊛ ‵ (flft κ2 full_share) ⊛ ‵ (flft κ3 full_share) ⊛ ‵ ftrue) ⊛ ‵ (u32.own_val m (v ∷ []))) ⊛
        some (λ (ws : (Word).Denot × (List ℕ × ((usize).Denot × (Unit {0})))). ‵ (lasts g.ended z.0.0 z.0.3 ws) ⊛ (raw (fact 𝓤 _) ⊛ raw (fact 𝓤 _)))))) (id⊢ 𝓤 _) $
        await ! tt $ pick ! (λ m. split ! $ split ! $
        split ! $ lft_end ! tt $ move ! (1 ∷ []) $ split ! $ lft_end ! tt $ move ! (1 ∷ []) $ split ! $ lft_end ! tt $ move ! (1 ∷ []) $ drop ! $ move ! (4 ∷ []) $ pick ! (λ ws. split ! $ move ! (1 ∷ []) $ split ! $ heard ! _ (λ does1. heard ! _ (λ does2.
        fsplit ! $ move ! (1 ∷ []) $ fsplit ! $ move ! (1 ∷ []) $ fsplit ! $ move ! (1 ∷ []) $ drop ! $
        move ! (2 ∷ []) $ fsplit ! $ move ! (6 ∷ 10 ∷ 0 ∷ []) $ use3 𝓛 (later (‵ ((mem Word).own_at (ws.0) b1 o1))) (ref_back 𝓛 Word κ1 γ1 (ws.0) b1 o1) $ await ! tt $
        move ! (3 ∷ []) $ fsplit ! $ fsplit ! $ move ! (1 ∷ []) $ feq_l ! (λ same2. move ! (6 ∷ 9 ∷ 0 ∷ []) $ use3 𝓛 (later (‵ (fsep (feq ℕ (length (ws.1.0)) (length x.bytes)) (cells (mem u8) (ws.1.0) b2 o2)))) (slice_back 𝓛 u8 κ2 γ2 (ws.1.0) (length x.bytes) b2 o2) $ await ! tt $
        fsplit ! $ drop ! $ feq_i ! ℕ (length (ws.1.0)) n_length (same2 ∙ e2) $ fjoin ! $ use1 𝓛 (‵ (part_at (Array u8 n_length) full_share (ws.1.0) b2 o2)) (buffer_in 𝓛 n_length (ws.1.0) b2 o2) $
        move ! (4 ∷ []) $ fsplit ! $ move ! (6 ∷ 8 ∷ 0 ∷ []) $ use3 𝓛 (later (‵ ((mem usize).own_at (ws.1.1.0) b3 o3))) (ref_back 𝓛 usize κ3 γ3 (ws.1.1.0) b3 o3) $ await ! tt $
        move ! (2 ∷ 0 ∷ []) $ fjoin ! $ move ! (3 ∷ 0 ∷ []) $ fjoin ! $ nothing ! $ fpack ! ((CopyCall (λ channel. sending channel.begun) m x) (record { word = ws.0; bytes = ws.1.0; count = ws.1.1.0 })) (λ _. ftrue) (does1, does2) $ fjoin ! $
        fpack ! (Buffer) (λ left. fsep (fex ((CopyCall (λ channel. sending channel.begun) m x) left) (λ _. ftrue)) ((buffer_at (block_ptr b1 o1) (block_ptr b2 o2) n_length (block_ptr b3 o3)) left)) (record { word = ws.0; bytes = ws.1.0; count = ws.1.1.0 }) $
        move ! (4 ∷ []) $ peeks ! u32 (Is u32) (shows 𝓛 u32) m (v ∷ []) (λ is. lands_last ! refl ((uint_Lawful 𝓛 w32).typed m _ is).0 $
        exec ! 𝓣.C 𝓣.Λ (env code.Mir.locals l) code.Mir.t-8 (at_ret (env code.Mir.locals l) (Post n_length (block_ptr b1 o1) (block_ptr b2 o2) (block_ptr b3 o3))) $
        sets ! (of_opd ! (get ! refl)) refl ((uint_Lawful 𝓛 w32).typed m _ is).0 $
        returns ! (look_at ! 0 refl) $ free_all ! refl $ keep ! (0 ∷ 1 ∷ []) $ by ! (exits n_length (block_ptr b1 o1) (block_ptr b2 o2) (block_ptr b3 o3) v m)))))))))))))))))))

    at_each : (p1 p2 p3 : Ptr) → Testable p1 → Testable p2 → Testable p3 → ent 𝓤 (sem 𝓛 (buffer_at p1 p2 n_length p3 x)) (Runs n_length p1 p2 p3)
    at_each null_ptr p2 p3 may1 may2 may3 = null1 p2 p3
    at_each (block_ptr b1 o1) null_ptr p3 may1 may2 may3 = null2 b1 o1 p3 may1
    at_each (block_ptr b1 o1) (block_ptr b2 o2) null_ptr may1 may2 may3 = null3 b1 o1 b2 o2 may1 may2
    at_each (block_ptr b1 o1) (block_ptr b2 o2) (block_ptr b3 o3) may1 may2 may3 = there b1 o1 b2 o2 b3 o3 may1 may2 may3

pub dachumvi_copy_bytes_spec : {M : Type 1} → statement M
dachumvi_copy_bytes_spec 𝓤 𝓛 𝓜 𝓡 wired =
    proved 𝓛 f.ended stayed (f.clauses 𝓛 𝓜.mem 𝓡.returns) 𝓜 𝓡 (Goes-dropped 𝓛 0 (plain (λ _. RawPtr)) yes (λ κs x w. refl), (Goes-dropped 𝓛 0 (plain (λ _. RawPtr)) yes (λ κs x w. refl), (Goes-dropped 𝓛 0 (plain (λ _. usize)) yes (λ κs x w. refl), (Goes-dropped 𝓛 0 (plain (λ _. RawPtr)) yes (λ κs x w. refl), tt))))
    f.Key.name code.function (code.unfolded 𝓤 𝓛.H 𝓜 𝓡 wired)
    (λ κs. (rawptr_vals, (rawptr_vals, (uint_vals w64, (rawptr_vals, tt))))) (λ κs. (rawptr_Tells, (rawptr_Tells, (uint_Tells w64, (rawptr_Tells, tt))))) (λ κs qs bounds a x are.
    qed 𝓛 (raw (on_entry 𝓛 f.signature κs qs a (rawptr_vals a.0, (rawptr_vals a.1.0, (uint_vals w64 a.1.1.0, (rawptr_vals a.1.1.1.0, tt))))) ∷
    (raw (fact 𝓤 (Testable a.0)) ⊛ raw (fact 𝓤 (Testable a.1.0)) ⊛ raw (fact 𝓤 (Testable a.1.1.1.0)) ⊛ raw (fact 𝓤 (a.1.1.0 < 2 ^ 63)) ⊛ ‵ (buffer_at a.0 a.1.0 a.1.1.0 a.1.1.1.0 x)) ∷ []) ∵ drop ! $
    split ! $ heard ! _ (λ may1. split ! $ heard ! _ (λ may2. split ! $ heard ! _ (λ may3. split ! $ heard ! _ (λ low_length. by ! (at_each 𝓛 𝓜 𝓡 wired x a.1.1.0 low_length a.0 a.1.0 a.1.1.1.0 may1 may2 may3))))))
