-- `dachumvi_arrive` tests its pointers, and lends what lies there for lifetimes that are made for the call of `arrive`.
use Rattle.channel_c.proofs.Steps.{ℕ, ◌*◌, ◌<◌, ◌^◌, List, [], ◌∷◌, length, refl, sym, subst, arith, lit<, w8, w64, Bor, MutBor, proved, Ura, full_share, SProp, ent, sep, id⊢, Lft, GName, Incl-refl, ftrue, feq, fex, fsep, flft, flent, named, w32, Val, vint, vptr, Model, Wired, WpFn, Logic, sem, Body, fact, Running, MachineTables, tables, ‵, raw, ◌⊛◌, some, later, at_ret, ◌$◌, ◌∵◌, !, qed, by, done, move, keep, drop, use1, use2, use3, split, join, fsplit, fjoin, fpack, feq_i, feq_l, pick, await, rewrite, suffices, group, lft_new, lft_end, lent_back, agg, enter, of_opd, lit, bin, addr, stop, no_more, and_then, first, blocks, branches, skips, exec, returns, returns_within, alloc_all, pass_all, free_all, look_at, get, through, sets, lands_last, env, Array, u8, u32, u64, usize, uint_Copied, yes, Is, shows, lends_ref, lends_shr_slice, ref_back, mem, part_at, uint_Makes, uint_vals, uint_Tells, uint_Lawful, Ptr, RawPtr, Testable, block_ptr, null_ptr, ptr_val, rawptr_vals, rawptr_Tells, rawptr_Lawful, tests_null, bytes, bytes_apart, bytes_whole, MutRef, plain, ShrSlice, slice_val, nothing, owned, heard, peeks, calls_at_last, lasts, on_entry, triple_of, framed, Stays, walk_of, stay_dropped, Goes-dropped, ends_at}
use Rattle.channel_c.specs.Exports.{ArriveCall}
use Rattle.channel_c.specs.Lent.{Leg, Lent, Passed, Word, passed_at}
use Rattle.channel_c.specs.Pointers.{Leaves, some_null}
use Rattle.channel_c.specs.contracts.exports.moving.dachumvi_arrive as f
use Rattle.channel_c.specs.contracts.moving.arrive as g
use Rattle.channel_c.proofs.moving.arrive.Met.{met}
use Rattle.channel_c.proofs.exports.moving.dachumvi_arrive.Statement.{statement}
use Rattle.channel_c.proofs.exports.moving.dachumvi_arrive.Code as code

abbrev stayed : Stays f.ended.signature.params f.ended.kept
stayed = (stay_dropped _ yes, (stay_dropped _ yes, (stay_dropped _ yes, (stay_dropped _ yes, (stay_dropped _ yes, (stay_dropped _ yes, tt))))))

module _ {M : Type 1} {𝓤 : Ura M} (𝓛 : Logic 𝓤) (𝓜 : Model 𝓤 𝓛.H) (𝓡 : Running 𝓤 𝓛.H 𝓜) (wired : Wired 𝓡.env code.code) (server : ℕ) (link : ℕ) (fits_server : server < 2 ^ 32) (fits_link : link < 2 ^ 64) (x : Passed Leg) where
  open 𝓛 use {H}

  abbrev 𝓣 : MachineTables 𝓤 H 𝓜
  𝓣 = tables 𝓤 H 𝓜 𝓡 𝓡.env

  module _ (n_length : ℕ) (p1 : Ptr) (p2 : Ptr) (p3 : Ptr) where
    abbrev y : (walk_of 𝓛 f.ended stayed (f.clauses 𝓛 𝓜.mem 𝓡.returns)).Ghost
    y = ((tt, tt, tt, (p1, (server, (link, (p2, (n_length, (p3, tt)))))), (rawptr_vals p1, (vint w32 server ∷ [], (vint w64 link ∷ [], (rawptr_vals p2, (vint w64 n_length ∷ [], (rawptr_vals p3, tt))))))), x)

    abbrev Post : Val → SProp 𝓤
    Post = (walk_of 𝓛 f.ended stayed (f.clauses 𝓛 𝓜.mem 𝓡.returns)).post y

    abbrev Runs : SProp 𝓤
    Runs = WpFn 𝓤 H 𝓣.C 𝓣.Λ code.function (ptr_val p1 ∷ vint w32 server ∷ vint w64 link ∷ ptr_val p2 ∷ vint w64 n_length ∷ ptr_val p3 ∷ []) Post

    -- the answer, and what lies there then
    exits : (v : Val) (m : ℕ) → ent 𝓤 (sep 𝓤 (sem 𝓛 (u32.own_val m (v ∷ []))) (sem 𝓛 (Leaves (some_null (p1 ∷ p2 ∷ p3 ∷ [])) (passed_at Leg p1 p2 n_length p3 x.share x.bytes) x.lent (ArriveCall server link x.bytes m x.lent) m))) (Post v)
    exits v m =
        qed 𝓛 (‵ (u32.own_val m (v ∷ [])) ∷ ‵ (Leaves (some_null (p1 ∷ p2 ∷ p3 ∷ [])) (passed_at Leg p1 p2 n_length p3 x.share x.bytes) x.lent (ArriveCall server link x.bytes m x.lent) m) ∷ []) ∵
        suffices ! _ (ends_at 𝓛 f.ended stayed (f.clauses 𝓛 𝓜.mem 𝓡.returns) y v m (tt, (tt, (tt, (tt, (tt, (tt, tt)))))) (tt, (tt, (tt, (tt, (tt, (tt, tt))))))) $
        nothing ! $ nothing ! $ join ! $ nothing ! $ join ! $ nothing ! $ join ! $ nothing ! $ join ! $ nothing ! $ join ! $ nothing ! $ join ! $ nothing ! $ group ! 3 $ done !

    refused : ent 𝓤 (sem 𝓛 (fsep (feq ℕ 12 12) (passed_at Leg p1 p2 n_length p3 x.share x.bytes x.lent))) (sem 𝓛 (Leaves (some_null (p1 ∷ p2 ∷ p3 ∷ [])) (passed_at Leg p1 p2 n_length p3 x.share x.bytes) x.lent (ArriveCall server link x.bytes 12 x.lent) 12)) → ent 𝓤 (sem 𝓛 (passed_at Leg p1 p2 n_length p3 x.share x.bytes x.lent)) (Post (vint w32 12))
    refused same =
        qed 𝓛 (‵ (passed_at Leg p1 p2 n_length p3 x.share x.bytes x.lent) ∷ []) ∵ feq_i ! ℕ 12 12 refl $ fjoin ! $ use1 𝓛 (‵ (Leaves (some_null (p1 ∷ p2 ∷ p3 ∷ [])) (passed_at Leg p1 p2 n_length p3 x.share x.bytes) x.lent (ArriveCall server link x.bytes 12 x.lent) 12)) same $
        owned ! u32 _ (uint_Makes 𝓛 w32) 12 _ (refl, lit< tt) $ by ! (exits (vint w32 12) 12)

  module _ (n_length : ℕ) (low_length : n_length < 2 ^ 63) where
    fits_length : n_length < 2 ^ 64
    fits_length = omega (arith, low_length)

    null1 : (p2 : Ptr) (p3 : Ptr) → ent 𝓤 (sem 𝓛 (passed_at Leg null_ptr p2 n_length p3 x.share x.bytes x.lent)) (Runs n_length null_ptr p2 p3)
    null1 p2 p3 =
        qed 𝓛 (‵ (passed_at Leg null_ptr p2 n_length p3 x.share x.bytes x.lent) ∷ []) ∵ enter ! _ _ _ _ _ $ alloc_all ! (λ l. pass_all ! refl ((tt, record { fits = lit< tt }), ((tt, record { fits = fits_server }), ((tt, record { fits = fits_link }), (((rawptr_Lawful 𝓛).typed p2 _ refl).0, ((tt, record { fits = fits_length }), (((rawptr_Lawful 𝓛).typed p3 _ refl).0, tt)))))) $
        sets ! (bin ! (get ! refl) (lit ! tt) (tests_null null_ptr (lit< tt))) refl (tt, tt) $ first ! $ branches ! (get ! refl)
        (λ t. sets ! (of_opd ! (lit ! tt)) refl (tt, record { fits = lit< tt }) $ returns_within ! (Post n_length null_ptr p2 p3) refl (look_at ! 0 refl) $ free_all ! refl $ by ! (refused n_length null_ptr p2 p3 (id⊢ 𝓤 _)))
        (λ t. absurd t))

    null2 : (b1 o1 : ℕ) (p3 : Ptr) → Testable (block_ptr b1 o1) → ent 𝓤 (sem 𝓛 (passed_at Leg (block_ptr b1 o1) null_ptr n_length p3 x.share x.bytes x.lent)) (Runs n_length (block_ptr b1 o1) null_ptr p3)
    null2 b1 o1 p3 may1 =
        qed 𝓛 (‵ (passed_at Leg (block_ptr b1 o1) null_ptr n_length p3 x.share x.bytes x.lent) ∷ []) ∵ enter ! _ _ _ _ _ $ alloc_all ! (λ l. pass_all ! refl ((tt, tt), ((tt, record { fits = fits_server }), ((tt, record { fits = fits_link }), ((tt, record { fits = lit< tt }), ((tt, record { fits = fits_length }), (((rawptr_Lawful 𝓛).typed p3 _ refl).0, tt)))))) $
        sets ! (bin ! (get ! refl) (lit ! tt) (tests_null (block_ptr b1 o1) may1)) refl (tt, tt) $ first ! $ branches ! (get ! refl) (λ t. absurd t)
        (λ t. skips ! $ exec ! 𝓣.C 𝓣.Λ (env code.Mir.locals l) code.Mir.t-3 (at_ret (env code.Mir.locals l) (Post n_length (block_ptr b1 o1) null_ptr p3)) $
        sets ! (bin ! (get ! refl) (lit ! tt) (tests_null null_ptr (lit< tt))) refl (tt, tt) $ first ! $ branches ! (get ! refl)
        (λ t. sets ! (of_opd ! (lit ! tt)) refl (tt, record { fits = lit< tt }) $ returns_within ! (Post n_length (block_ptr b1 o1) null_ptr p3) refl (look_at ! 0 refl) $ free_all ! refl $ by ! (refused n_length (block_ptr b1 o1) null_ptr p3 (id⊢ 𝓤 _)))
        (λ t. absurd t)))

    null3 : (b1 o1 : ℕ) (b2 o2 : ℕ) → Testable (block_ptr b1 o1) → Testable (block_ptr b2 o2) → ent 𝓤 (sem 𝓛 (passed_at Leg (block_ptr b1 o1) (block_ptr b2 o2) n_length null_ptr x.share x.bytes x.lent)) (Runs n_length (block_ptr b1 o1) (block_ptr b2 o2) null_ptr)
    null3 b1 o1 b2 o2 may1 may2 =
        qed 𝓛 (‵ (passed_at Leg (block_ptr b1 o1) (block_ptr b2 o2) n_length null_ptr x.share x.bytes x.lent) ∷ []) ∵ enter ! _ _ _ _ _ $ alloc_all ! (λ l. pass_all ! refl ((tt, tt), ((tt, record { fits = fits_server }), ((tt, record { fits = fits_link }), ((tt, tt), ((tt, record { fits = fits_length }), ((tt, record { fits = lit< tt }), tt)))))) $
        sets ! (bin ! (get ! refl) (lit ! tt) (tests_null (block_ptr b1 o1) may1)) refl (tt, tt) $ first ! $ branches ! (get ! refl) (λ t. absurd t)
        (λ t. skips ! $ exec ! 𝓣.C 𝓣.Λ (env code.Mir.locals l) code.Mir.t-3 (at_ret (env code.Mir.locals l) (Post n_length (block_ptr b1 o1) (block_ptr b2 o2) null_ptr)) $
        sets ! (bin ! (get ! refl) (lit ! tt) (tests_null (block_ptr b2 o2) may2)) refl (tt, tt) $ first ! $ branches ! (get ! refl) (λ t. absurd t)
        (λ t. skips ! $ exec ! 𝓣.C 𝓣.Λ (env code.Mir.locals l) code.Mir.t-5 (at_ret (env code.Mir.locals l) (Post n_length (block_ptr b1 o1) (block_ptr b2 o2) null_ptr)) $
        sets ! (bin ! (get ! refl) (lit ! tt) (tests_null null_ptr (lit< tt))) refl (tt, tt) $ first ! $ branches ! (get ! refl)
        (λ t. sets ! (of_opd ! (lit ! tt)) refl (tt, record { fits = lit< tt }) $ returns_within ! (Post n_length (block_ptr b1 o1) (block_ptr b2 o2) null_ptr) refl (look_at ! 0 refl) $ free_all ! refl $ by ! (refused n_length (block_ptr b1 o1) (block_ptr b2 o2) null_ptr (id⊢ 𝓤 _)))
        (λ t. absurd t))))

    there : (b1 o1 b2 o2 b3 o3 : ℕ) → Testable (block_ptr b1 o1) → Testable (block_ptr b2 o2) → Testable (block_ptr b3 o3) → ent 𝓤 (sem 𝓛 (passed_at Leg (block_ptr b1 o1) (block_ptr b2 o2) n_length (block_ptr b3 o3) x.share x.bytes x.lent)) (Runs n_length (block_ptr b1 o1) (block_ptr b2 o2) (block_ptr b3 o3))
    there b1 o1 b2 o2 b3 o3 may1 may2 may3 =
        let G = triple_of 𝓛 g.signature (g.spec 𝓛 𝓜.mem 𝓡.returns) in
        qed 𝓛 (‵ (passed_at Leg (block_ptr b1 o1) (block_ptr b2 o2) n_length (block_ptr b3 o3) x.share x.bytes x.lent) ∷ []) ∵ enter ! _ _ _ _ _ $ alloc_all ! (λ l. pass_all ! refl ((tt, tt), ((tt, record { fits = fits_server }), ((tt, record { fits = fits_link }), ((tt, tt), ((tt, record { fits = fits_length }), ((tt, tt), tt)))))) $
        sets ! (bin ! (get ! refl) (lit ! tt) (tests_null (block_ptr b1 o1) may1)) refl (tt, tt) $ first ! $ branches ! (get ! refl) (λ t. absurd t)
        (λ t. skips ! $ exec ! 𝓣.C 𝓣.Λ (env code.Mir.locals l) code.Mir.t-3 (at_ret (env code.Mir.locals l) (Post n_length (block_ptr b1 o1) (block_ptr b2 o2) (block_ptr b3 o3))) $
        sets ! (bin ! (get ! refl) (lit ! tt) (tests_null (block_ptr b2 o2) may2)) refl (tt, tt) $ first ! $ branches ! (get ! refl) (λ t. absurd t)
        (λ t. skips ! $ exec ! 𝓣.C 𝓣.Λ (env code.Mir.locals l) code.Mir.t-5 (at_ret (env code.Mir.locals l) (Post n_length (block_ptr b1 o1) (block_ptr b2 o2) (block_ptr b3 o3))) $
        sets ! (bin ! (get ! refl) (lit ! tt) (tests_null (block_ptr b3 o3) may3)) refl (tt, tt) $ first ! $ branches ! (get ! refl) (λ t. absurd t)
        (λ t. skips ! $ exec ! 𝓣.C 𝓣.Λ (env code.Mir.locals l) code.Mir.t-7 (at_ret (env code.Mir.locals l) (Post n_length (block_ptr b1 o1) (block_ptr b2 o2) (block_ptr b3 o3))) $
        first ! $ blocks ! $
        sets ! (addr ! (through ! refl (stop !))) refl (tt, tt) $
        sets ! (agg ! (and_then ! (get ! refl) (and_then ! (get ! refl) (no_more !)))) refl (tt, (tt, (record { fits = fits_length }, tt))) $
        sets ! (addr ! (through ! refl (stop !))) refl (tt, tt) $
        fsplit ! $ move ! (1 ∷ []) $ fsplit ! $ move ! (1 ∷ []) $
        lft_new ! tt (λ α1. let κ1 : Lft = α1 ∷ [] in
        move ! (3 ∷ []) $ use1 𝓛 (later (some (λ (γ : GName). ‵ ((MutRef (named 0) κ1 Word).own_val (record { ref_ptr = (b1, o1); ghost_name = γ; now = x.lent.word }) (vptr b1 o1 ∷ [])) ⊛ ‵ (flent κ1 (Body (mem Word) b1 o1 γ)))))
        (lends_ref 𝓛 Word (named 0) κ1 (x.lent.word) b1 o1) $ await ! tt $ pick ! (λ γ1. split ! $
        lft_new ! tt (λ α2. let κ2 : Lft = α2 ∷ [] in
        move ! (5 ∷ []) $ use1 𝓛 (‵ (fsep (feq ℕ (length x.bytes) n_length) (bytes x.share x.bytes b2 o2))) (bytes_apart 𝓛 x.share n_length x.bytes b2 o2) $ fsplit ! $ feq_l ! (λ e2. feq_i ! ℕ (length x.bytes) (length x.bytes) refl $ fjoin ! $
        let low2 : length x.bytes < 2 ^ 63 = subst (λ (m : ℕ). m < 2 ^ 63) (sym e2) low_length in let fits2 : length x.bytes < 2 ^ 64 = omega (arith, low2) in let room2 : length x.bytes * 1 < 2 ^ 63 = omega (arith, low2) in
        let s2 : Bor (List ℕ) = record { ref_ptr = (b2, o2); now = x.bytes } in
        use2 𝓛 (later ((‵ ((ShrSlice (named 1) κ2 u8).own_val s2 (slice_val (b2, o2) (length x.bytes) ∷ [])) ⊛ ‵ (flent κ2 (fsep (feq ℕ (length x.bytes) (length x.bytes)) (bytes x.share x.bytes b2 o2)))) ⊛ ‵ (flft κ2 full_share)))
        (lends_shr_slice 𝓛 u8 (named 1) κ2 x.share x.bytes b2 o2 (fits2, room2) κ2 ((uint_Copied 𝓛 w8).shares x.share κ2) ((κ2, full_share) ∷ []) (Incl-refl κ2) (Incl-refl κ2)) $ await ! tt $ split ! $ split ! $
        rewrite ! 0 (λ (m : ℕ). ‵ ((ShrSlice (named 1) κ2 u8).own_val s2 (slice_val (b2, o2) m ∷ []))) e2 refl $
        lft_new ! tt (λ α3. let κ3 : Lft = α3 ∷ [] in
        move ! (7 ∷ []) $ use1 𝓛 (later (some (λ (γ : GName). ‵ ((MutRef (named 2) κ3 Leg).own_val (record { ref_ptr = (b3, o3); ghost_name = γ; now = x.lent.value }) (vptr b3 o3 ∷ [])) ⊛ ‵ (flent κ3 (Body (mem Leg) b3 o3 γ)))))
        (lends_ref 𝓛 Leg (named 2) κ3 (x.lent.value) b3 o3) $ await ! tt $ pick ! (λ γ3. split ! $
        let r1 : MutBor (Word).Denot = record { ref_ptr = (b1, o1); ghost_name = γ1; now = x.lent.word } in
        let r2 : Bor (List ℕ) = s2 in
        let r3 : MutBor (Leg).Denot = record { ref_ptr = (b3, o3); ghost_name = γ3; now = x.lent.value } in
        let z : G.Ghost = (((κ1, (κ2, (κ3, tt))), (full_share, (full_share, (full_share, tt))), tt, (r1, (server, (link, (r2, (r3, tt))))), (vptr b1 o1 ∷ [], (vint w32 server ∷ [], (vint w64 link ∷ [], (slice_val (b2, o2) n_length ∷ [], (vptr b3 o3 ∷ [], tt)))))), tt) in
        nothing ! $ move ! (1 ∷ 0 ∷ []) $ join ! $ move ! (3 ∷ 0 ∷ []) $ join ! $ owned ! u64 _ (uint_Makes 𝓛 w64) link _ (refl, fits_link) $ join ! $ owned ! u32 _ (uint_Makes 𝓛 w32) server _ (refl, fits_server) $ join ! $ move ! (5 ∷ 0 ∷ []) $ join ! $
        nothing ! $ move ! (3 ∷ 0 ∷ []) $ join ! $ move ! (4 ∷ 0 ∷ []) $ join ! $ move ! (5 ∷ 0 ∷ []) $ join ! $ join ! $ nothing ! $ move ! (1 ∷ 0 ∷ []) $ use2 𝓛 (raw (G.pre z)) (id⊢ 𝓤 _) $
        calls_at_last ! (framed 𝓤 H 𝓜 𝓣) G (met 𝓤 𝓛 𝓜 𝓡 (code.calls-channel_c::moving::arrive 𝓡.env wired)) z (and_then ! (get ! refl) (and_then ! (get ! refl) (and_then ! (get ! refl) (and_then ! (get ! refl) (and_then ! (get ! refl) (no_more !)))))) (λ v.
        use1 𝓛 (later (some (λ (m : ℕ). ((‵ (flft κ1 full_share) ⊛ ‵ (flft κ2 full_share) ⊛ ‵ (flft κ3 full_share) ⊛ ‵ ftrue) ⊛ ‵ (u32.own_val m (v ∷ []))) ⊛
        some (λ (ws : (Word).Denot × (Unit {0} × (Unit {0} × (Unit {0} × ((Leg).Denot × (Unit {0})))))). ‵ (lasts g.ended z.0.0 z.0.3 ws) ⊛ (raw (fact 𝓤 _) ⊛ raw (fact 𝓤 _)))))) (id⊢ 𝓤 _) $
        await ! tt $ pick ! (λ m. split ! $ split ! $
        split ! $ lft_end ! tt $ move ! (1 ∷ []) $ split ! $ lft_end ! tt $ move ! (1 ∷ []) $ split ! $ lft_end ! tt $ move ! (1 ∷ []) $ drop ! $ move ! (4 ∷ []) $ pick ! (λ ws. split ! $ move ! (1 ∷ []) $ split ! $ heard ! _ (λ does1. heard ! _ (λ does2.
        fsplit ! $ move ! (1 ∷ []) $ fsplit ! $ move ! (1 ∷ []) $ fsplit ! $ move ! (1 ∷ []) $ fsplit ! $ move ! (1 ∷ []) $ fsplit ! $ move ! (1 ∷ []) $ drop ! $
        move ! (4 ∷ []) $ fsplit ! $ move ! (8 ∷ 12 ∷ 0 ∷ []) $ use3 𝓛 (later (‵ ((mem Word).own_at (ws.0) b1 o1))) (ref_back 𝓛 Word κ1 γ1 (ws.0) b1 o1) $ await ! tt $
        move ! (7 ∷ 10 ∷ []) $ lent_back ! tt $ fsplit ! $ drop ! $ feq_i ! ℕ (length x.bytes) n_length e2 $ fjoin ! $ use1 𝓛 (‵ (part_at (Array u8 n_length) x.share x.bytes b2 o2)) (bytes_whole 𝓛 x.share n_length x.bytes b2 o2) $
        move ! (3 ∷ []) $ fsplit ! $ move ! (8 ∷ 10 ∷ 0 ∷ []) $ use3 𝓛 (later (‵ ((mem Leg).own_at (ws.1.1.1.1.0) b3 o3))) (ref_back 𝓛 Leg κ3 γ3 (ws.1.1.1.1.0) b3 o3) $ await ! tt $
        move ! (2 ∷ 0 ∷ []) $ fjoin ! $ move ! (2 ∷ 0 ∷ []) $ fjoin ! $ nothing ! $ fpack ! ((ArriveCall server link x.bytes m x.lent) (record { word = ws.0; value = ws.1.1.1.1.0 })) (λ _. ftrue) (does1, does2) $ fjoin ! $
        fpack ! (Lent Leg) (λ left. fsep (fex ((ArriveCall server link x.bytes m x.lent) left) (λ _. ftrue)) ((passed_at Leg (block_ptr b1 o1) (block_ptr b2 o2) n_length (block_ptr b3 o3) x.share x.bytes) left)) (record { word = ws.0; value = ws.1.1.1.1.0 }) $
        move ! (6 ∷ []) $ peeks ! u32 (Is u32) (shows 𝓛 u32) m (v ∷ []) (λ is. lands_last ! refl ((uint_Lawful 𝓛 w32).typed m _ is).0 $
        exec ! 𝓣.C 𝓣.Λ (env code.Mir.locals l) code.Mir.t-8 (at_ret (env code.Mir.locals l) (Post n_length (block_ptr b1 o1) (block_ptr b2 o2) (block_ptr b3 o3))) $
        sets ! (of_opd ! (get ! refl)) refl ((uint_Lawful 𝓛 w32).typed m _ is).0 $
        returns ! (look_at ! 0 refl) $ free_all ! refl $ keep ! (0 ∷ 1 ∷ []) $ by ! (exits n_length (block_ptr b1 o1) (block_ptr b2 o2) (block_ptr b3 o3) v m)))))))))))))))))

    at_each : (p1 p2 p3 : Ptr) → Testable p1 → Testable p2 → Testable p3 → ent 𝓤 (sem 𝓛 (passed_at Leg p1 p2 n_length p3 x.share x.bytes x.lent)) (Runs n_length p1 p2 p3)
    at_each null_ptr p2 p3 may1 may2 may3 = null1 p2 p3
    at_each (block_ptr b1 o1) null_ptr p3 may1 may2 may3 = null2 b1 o1 p3 may1
    at_each (block_ptr b1 o1) (block_ptr b2 o2) null_ptr may1 may2 may3 = null3 b1 o1 b2 o2 may1 may2
    at_each (block_ptr b1 o1) (block_ptr b2 o2) (block_ptr b3 o3) may1 may2 may3 = there b1 o1 b2 o2 b3 o3 may1 may2 may3

pub dachumvi_arrive_spec : {M : Type 1} → statement M
dachumvi_arrive_spec 𝓤 𝓛 𝓜 𝓡 wired =
    proved 𝓛 f.ended stayed (f.clauses 𝓛 𝓜.mem 𝓡.returns) 𝓜 𝓡 (Goes-dropped 𝓛 0 (plain (λ _. RawPtr)) yes (λ κs x w. refl), (Goes-dropped 𝓛 0 (plain (λ _. u32)) yes (λ κs x w. refl), (Goes-dropped 𝓛 0 (plain (λ _. u64)) yes (λ κs x w. refl), (Goes-dropped 𝓛 0 (plain (λ _. RawPtr)) yes (λ κs x w. refl), (Goes-dropped 𝓛 0 (plain (λ _. usize)) yes (λ κs x w. refl), (Goes-dropped 𝓛 0 (plain (λ _. RawPtr)) yes (λ κs x w. refl), tt))))))
    f.Key.name code.function (code.unfolded 𝓤 𝓛.H 𝓜 𝓡 wired)
    (λ κs. (rawptr_vals, (uint_vals w32, (uint_vals w64, (rawptr_vals, (uint_vals w64, (rawptr_vals, tt))))))) (λ κs. (rawptr_Tells, (uint_Tells w32, (uint_Tells w64, (rawptr_Tells, (uint_Tells w64, (rawptr_Tells, tt))))))) (λ κs qs bounds a x are.
    qed 𝓛 (raw (on_entry 𝓛 f.signature κs qs a (rawptr_vals a.0, (uint_vals w32 a.1.0, (uint_vals w64 a.1.1.0, (rawptr_vals a.1.1.1.0, (uint_vals w64 a.1.1.1.1.0, (rawptr_vals a.1.1.1.1.1.0, tt))))))) ∷
    (raw (fact 𝓤 (Testable a.0)) ⊛ raw (fact 𝓤 (Testable a.1.1.1.0)) ⊛ raw (fact 𝓤 (Testable a.1.1.1.1.1.0)) ⊛ raw (fact 𝓤 (a.1.1.1.1.0 < 2 ^ 63)) ⊛ ‵ (passed_at Leg a.0 a.1.1.1.0 a.1.1.1.1.0 a.1.1.1.1.1.0 x.share x.bytes x.lent)) ∷ []) ∵ drop ! $
    split ! $ heard ! _ (λ may1. split ! $ heard ! _ (λ may2. split ! $ heard ! _ (λ may3. split ! $ heard ! _ (λ low_length. by ! (at_each 𝓛 𝓜 𝓡 wired a.1.0 a.1.1.0 are.1.0.1 are.1.1.0.1 x a.1.1.1.1.0 low_length a.0 a.1.1.1.0 a.1.1.1.1.1.0 may1 may2 may3))))))
