-- `dachumvi_make` tests its pointers, and lends what lies there for lifetimes that are made for the call of `make`.
use Rattle.channel_c.proofs.Steps.{ℕ, ◌*◌, ◌<◌, ◌^◌, List, [], ◌∷◌, length, refl, sym, subst, arith, lit<, w8, w64, Bor, MutBor, proved_at, Bool, Ura, full_share, SProp, ent, sep, via, snd∗, id⊢, Lft, GName, Incl-refl, ftrue, feq, fex, fsep, flft, flent, named, w32, Val, vbool, vint, vptr, Model, Wired, WpFn, Logic, sem, Body, fact, Running, MachineTables, tables, ‵, raw, ◌⊛◌, some, later, at_ret, ◌$◌, ◌∵◌, !, qed, by, done, move, keep, drop, use1, use2, use3, split, join, fsplit, fjoin, fpack, feq_i, feq_l, pick, await, rewrite, suffices, group, lft_new, lft_end, lent_back, agg, enter, of_opd, lit, bin, addr, stop, no_more, and_then, first, blocks, branches, skips, exec, returns, returns_within, alloc_all, pass_all, free_all, look_at, get, through, sets, lands_last, env, Array, u8, u32, usize, uint_Copied, yes, Is, shows, lends_ref, lends_shr_slice, ref_back, mem, part_at, param_laws, Boolean, uint_Makes, uint_vals, uint_Lawful, bool_Makes, bool_vals, Valss, owns, Ptr, RawPtr, Testable, block_ptr, null_ptr, ptr_val, rawptr_vals, rawptr_Lawful, tests_null, bytes, bytes_apart, bytes_whole, MutRef, plain, types_at, ShrSlice, slice_val, nothing, owned, heard, peeks, calls_at_last, lasts, triple_of, framed, Stays, walk_of, stay_dropped, Goes-dropped, ends_at}
use Rattle.channel_c.specs.Exports.{MakeCall}
use Rattle.channel_c.specs.Lent.{Texts, Word, texts_at}
use Rattle.channel_c.specs.Pointers.{Leaves, some_null}
use Rattle.channel_c.proofs.Buffers.{alone}
use Rattle.channel_word.proofs.AsBox.{E}
use Rattle.std.specs.contracts.alloc.Global as Heap
use Rattle.std.proofs.alloc.Calls.{Fits, α}
use Rattle.channel_c.specs.contracts.exports.making.dachumvi_make as f
use Rattle.channel_c.specs.contracts.making.make as g
use Rattle.channel_c.proofs.making.make.Met.{met}
use Rattle.channel_c.proofs.exports.making.dachumvi_make.Statement.{statement}
use Rattle.channel_c.proofs.exports.making.dachumvi_make.Code as code

abbrev stayed : Stays f.ended.signature.params f.ended.kept
stayed = (stay_dropped _ yes, (stay_dropped _ yes, (stay_dropped _ yes, (stay_dropped _ yes, (stay_dropped _ yes, (stay_dropped _ yes, (stay_dropped _ yes, tt)))))))

module _ {M : Type 1} {𝓤 : Ura M} (𝓛 : Logic 𝓤) (𝓜 : Model 𝓤 𝓛.H) (𝓡 : Running 𝓤 𝓛.H 𝓜) (wired : Wired 𝓡.env code.code) (a : Heap.the_row.Denot) (hv : Val) (fa : Fits E.al hv) (keeps : Bool) (x : Texts) where
  open 𝓛 use {H}

  abbrev 𝓣 : MachineTables 𝓤 H 𝓜
  𝓣 = tables 𝓤 H 𝓜 𝓡 𝓡.env

  module _ (n_resolv_length : ℕ) (n_hosts_length : ℕ) (p1 : Ptr) (p2 : Ptr) (p3 : Ptr) where
    abbrev y : (walk_of 𝓛 f.ended stayed (f.clauses 𝓛 𝓜.mem 𝓡.returns)).Ghost
    y = ((tt, tt, tt, (a, (p1, (n_resolv_length, (p2, (n_hosts_length, (keeps, (p3, tt))))))), (hv ∷ [], (rawptr_vals p1, (vint w64 n_resolv_length ∷ [], (rawptr_vals p2, (vint w64 n_hosts_length ∷ [], (vbool keeps ∷ [], (rawptr_vals p3, tt)))))))), x)

    abbrev Post : Val → SProp 𝓤
    Post = (walk_of 𝓛 f.ended stayed (f.clauses 𝓛 𝓜.mem 𝓡.returns)).post y

    abbrev Runs : SProp 𝓤
    Runs = WpFn 𝓤 H 𝓣.C 𝓣.Λ code.function (hv ∷ ptr_val p1 ∷ vint w64 n_resolv_length ∷ ptr_val p2 ∷ vint w64 n_hosts_length ∷ vbool keeps ∷ ptr_val p3 ∷ []) Post

    -- the answer, and what lies there then
    exits : (v : Val) (m : ℕ) → ent 𝓤 (sep 𝓤 (sem 𝓛 (u32.own_val m (v ∷ []))) (sem 𝓛 (Leaves (some_null (p1 ∷ p2 ∷ p3 ∷ [])) (texts_at p1 n_resolv_length x.resolv_share x.resolv p2 n_hosts_length x.hosts_share x.hosts p3) x.word (MakeCall x.resolv x.hosts keeps m x.word) m))) (Post v)
    exits v m =
        qed 𝓛 (‵ (u32.own_val m (v ∷ [])) ∷ ‵ (Leaves (some_null (p1 ∷ p2 ∷ p3 ∷ [])) (texts_at p1 n_resolv_length x.resolv_share x.resolv p2 n_hosts_length x.hosts_share x.hosts p3) x.word (MakeCall x.resolv x.hosts keeps m x.word) m) ∷ []) ∵
        suffices ! _ (ends_at 𝓛 f.ended stayed (f.clauses 𝓛 𝓜.mem 𝓡.returns) y v m (tt, (tt, (tt, (tt, (tt, (tt, (tt, tt))))))) (tt, (tt, (tt, (tt, (tt, (tt, (tt, tt)))))))) $
        nothing ! $ nothing ! $ join ! $ nothing ! $ join ! $ nothing ! $ join ! $ nothing ! $ join ! $ nothing ! $ join ! $ nothing ! $ join ! $ nothing ! $ join ! $ nothing ! $ group ! 3 $ done !

    refused : ent 𝓤 (sem 𝓛 (fsep (feq ℕ 12 12) (texts_at p1 n_resolv_length x.resolv_share x.resolv p2 n_hosts_length x.hosts_share x.hosts p3 x.word))) (sem 𝓛 (Leaves (some_null (p1 ∷ p2 ∷ p3 ∷ [])) (texts_at p1 n_resolv_length x.resolv_share x.resolv p2 n_hosts_length x.hosts_share x.hosts p3) x.word (MakeCall x.resolv x.hosts keeps 12 x.word) 12)) → ent 𝓤 (sem 𝓛 (texts_at p1 n_resolv_length x.resolv_share x.resolv p2 n_hosts_length x.hosts_share x.hosts p3 x.word)) (Post (vint w32 12))
    refused same =
        qed 𝓛 (‵ (texts_at p1 n_resolv_length x.resolv_share x.resolv p2 n_hosts_length x.hosts_share x.hosts p3 x.word) ∷ []) ∵ feq_i ! ℕ 12 12 refl $ fjoin ! $ use1 𝓛 (‵ (Leaves (some_null (p1 ∷ p2 ∷ p3 ∷ [])) (texts_at p1 n_resolv_length x.resolv_share x.resolv p2 n_hosts_length x.hosts_share x.hosts p3) x.word (MakeCall x.resolv x.hosts keeps 12 x.word) 12)) same $
        owned ! u32 _ (uint_Makes 𝓛 w32) 12 _ (refl, lit< tt) $ by ! (exits (vint w32 12) 12)

  module _ (n_resolv_length : ℕ) (n_hosts_length : ℕ) (low_resolv_length : n_resolv_length < 2 ^ 63) (low_hosts_length : n_hosts_length < 2 ^ 63) where
    fits_resolv_length : n_resolv_length < 2 ^ 64
    fits_resolv_length = omega (arith, low_resolv_length)

    fits_hosts_length : n_hosts_length < 2 ^ 64
    fits_hosts_length = omega (arith, low_hosts_length)

    null1 : (p2 : Ptr) (p3 : Ptr) → ent 𝓤 (sem 𝓛 (texts_at null_ptr n_resolv_length x.resolv_share x.resolv p2 n_hosts_length x.hosts_share x.hosts p3 x.word)) (Runs n_resolv_length n_hosts_length null_ptr p2 p3)
    null1 p2 p3 =
        qed 𝓛 (‵ (texts_at null_ptr n_resolv_length x.resolv_share x.resolv p2 n_hosts_length x.hosts_share x.hosts p3 x.word) ∷ []) ∵ enter ! _ _ _ _ _ $ alloc_all ! (λ l. pass_all ! refl (fa, ((tt, record { fits = lit< tt }), ((tt, record { fits = fits_resolv_length }), (((rawptr_Lawful 𝓛).typed p2 _ refl).0, ((tt, record { fits = fits_hosts_length }), ((tt, tt), (((rawptr_Lawful 𝓛).typed p3 _ refl).0, tt))))))) $
        sets ! (bin ! (get ! refl) (lit ! tt) (tests_null null_ptr (lit< tt))) refl (tt, tt) $ first ! $ branches ! (get ! refl)
        (λ t. sets ! (of_opd ! (lit ! tt)) refl (tt, record { fits = lit< tt }) $ returns_within ! (Post n_resolv_length n_hosts_length null_ptr p2 p3) refl (look_at ! 0 refl) $ free_all ! refl $ by ! (refused n_resolv_length n_hosts_length null_ptr p2 p3 (id⊢ 𝓤 _)))
        (λ t. absurd t))

    null2 : (b1 o1 : ℕ) (p3 : Ptr) → Testable (block_ptr b1 o1) → ent 𝓤 (sem 𝓛 (texts_at (block_ptr b1 o1) n_resolv_length x.resolv_share x.resolv null_ptr n_hosts_length x.hosts_share x.hosts p3 x.word)) (Runs n_resolv_length n_hosts_length (block_ptr b1 o1) null_ptr p3)
    null2 b1 o1 p3 may1 =
        qed 𝓛 (‵ (texts_at (block_ptr b1 o1) n_resolv_length x.resolv_share x.resolv null_ptr n_hosts_length x.hosts_share x.hosts p3 x.word) ∷ []) ∵ enter ! _ _ _ _ _ $ alloc_all ! (λ l. pass_all ! refl (fa, ((tt, tt), ((tt, record { fits = fits_resolv_length }), ((tt, record { fits = lit< tt }), ((tt, record { fits = fits_hosts_length }), ((tt, tt), (((rawptr_Lawful 𝓛).typed p3 _ refl).0, tt))))))) $
        sets ! (bin ! (get ! refl) (lit ! tt) (tests_null (block_ptr b1 o1) may1)) refl (tt, tt) $ first ! $ branches ! (get ! refl) (λ t. absurd t)
        (λ t. skips ! $ exec ! 𝓣.C 𝓣.Λ (env code.Mir.locals l) code.Mir.t-3 (at_ret (env code.Mir.locals l) (Post n_resolv_length n_hosts_length (block_ptr b1 o1) null_ptr p3)) $
        sets ! (bin ! (get ! refl) (lit ! tt) (tests_null null_ptr (lit< tt))) refl (tt, tt) $ first ! $ branches ! (get ! refl)
        (λ t. sets ! (of_opd ! (lit ! tt)) refl (tt, record { fits = lit< tt }) $ returns_within ! (Post n_resolv_length n_hosts_length (block_ptr b1 o1) null_ptr p3) refl (look_at ! 0 refl) $ free_all ! refl $ by ! (refused n_resolv_length n_hosts_length (block_ptr b1 o1) null_ptr p3 (id⊢ 𝓤 _)))
        (λ t. absurd t)))

    null3 : (b1 o1 : ℕ) (b2 o2 : ℕ) → Testable (block_ptr b1 o1) → Testable (block_ptr b2 o2) → ent 𝓤 (sem 𝓛 (texts_at (block_ptr b1 o1) n_resolv_length x.resolv_share x.resolv (block_ptr b2 o2) n_hosts_length x.hosts_share x.hosts null_ptr x.word)) (Runs n_resolv_length n_hosts_length (block_ptr b1 o1) (block_ptr b2 o2) null_ptr)
    null3 b1 o1 b2 o2 may1 may2 =
        qed 𝓛 (‵ (texts_at (block_ptr b1 o1) n_resolv_length x.resolv_share x.resolv (block_ptr b2 o2) n_hosts_length x.hosts_share x.hosts null_ptr x.word) ∷ []) ∵ enter ! _ _ _ _ _ $ alloc_all ! (λ l. pass_all ! refl (fa, ((tt, tt), ((tt, record { fits = fits_resolv_length }), ((tt, tt), ((tt, record { fits = fits_hosts_length }), ((tt, tt), ((tt, record { fits = lit< tt }), tt))))))) $
        sets ! (bin ! (get ! refl) (lit ! tt) (tests_null (block_ptr b1 o1) may1)) refl (tt, tt) $ first ! $ branches ! (get ! refl) (λ t. absurd t)
        (λ t. skips ! $ exec ! 𝓣.C 𝓣.Λ (env code.Mir.locals l) code.Mir.t-3 (at_ret (env code.Mir.locals l) (Post n_resolv_length n_hosts_length (block_ptr b1 o1) (block_ptr b2 o2) null_ptr)) $
        sets ! (bin ! (get ! refl) (lit ! tt) (tests_null (block_ptr b2 o2) may2)) refl (tt, tt) $ first ! $ branches ! (get ! refl) (λ t. absurd t)
        (λ t. skips ! $ exec ! 𝓣.C 𝓣.Λ (env code.Mir.locals l) code.Mir.t-5 (at_ret (env code.Mir.locals l) (Post n_resolv_length n_hosts_length (block_ptr b1 o1) (block_ptr b2 o2) null_ptr)) $
        sets ! (bin ! (get ! refl) (lit ! tt) (tests_null null_ptr (lit< tt))) refl (tt, tt) $ first ! $ branches ! (get ! refl)
        (λ t. sets ! (of_opd ! (lit ! tt)) refl (tt, record { fits = lit< tt }) $ returns_within ! (Post n_resolv_length n_hosts_length (block_ptr b1 o1) (block_ptr b2 o2) null_ptr) refl (look_at ! 0 refl) $ free_all ! refl $ by ! (refused n_resolv_length n_hosts_length (block_ptr b1 o1) (block_ptr b2 o2) null_ptr (id⊢ 𝓤 _)))
        (λ t. absurd t))))

    there : (b1 o1 b2 o2 b3 o3 : ℕ) → Testable (block_ptr b1 o1) → Testable (block_ptr b2 o2) → Testable (block_ptr b3 o3) → ent 𝓤 (sep 𝓤 (sem 𝓛 (Heap.the_row.own_val a (hv ∷ []))) (sem 𝓛 (texts_at (block_ptr b1 o1) n_resolv_length x.resolv_share x.resolv (block_ptr b2 o2) n_hosts_length x.hosts_share x.hosts (block_ptr b3 o3) x.word))) (Runs n_resolv_length n_hosts_length (block_ptr b1 o1) (block_ptr b2 o2) (block_ptr b3 o3))
    there b1 o1 b2 o2 b3 o3 may1 may2 may3 =
        let G = triple_of 𝓛 g.signature (g.spec 𝓛 𝓜.mem 𝓡.returns) in
        qed 𝓛 (‵ (Heap.the_row.own_val a (hv ∷ [])) ∷ ‵ (texts_at (block_ptr b1 o1) n_resolv_length x.resolv_share x.resolv (block_ptr b2 o2) n_hosts_length x.hosts_share x.hosts (block_ptr b3 o3) x.word) ∷ []) ∵ enter ! _ _ _ _ _ $ alloc_all ! (λ l. pass_all ! refl (fa, ((tt, tt), ((tt, record { fits = fits_resolv_length }), ((tt, tt), ((tt, record { fits = fits_hosts_length }), ((tt, tt), ((tt, tt), tt))))))) $
        sets ! (bin ! (get ! refl) (lit ! tt) (tests_null (block_ptr b1 o1) may1)) refl (tt, tt) $ first ! $ branches ! (get ! refl) (λ t. absurd t)
        (λ t. skips ! $ exec ! 𝓣.C 𝓣.Λ (env code.Mir.locals l) code.Mir.t-3 (at_ret (env code.Mir.locals l) (Post n_resolv_length n_hosts_length (block_ptr b1 o1) (block_ptr b2 o2) (block_ptr b3 o3))) $
        sets ! (bin ! (get ! refl) (lit ! tt) (tests_null (block_ptr b2 o2) may2)) refl (tt, tt) $ first ! $ branches ! (get ! refl) (λ t. absurd t)
        (λ t. skips ! $ exec ! 𝓣.C 𝓣.Λ (env code.Mir.locals l) code.Mir.t-5 (at_ret (env code.Mir.locals l) (Post n_resolv_length n_hosts_length (block_ptr b1 o1) (block_ptr b2 o2) (block_ptr b3 o3))) $
        sets ! (bin ! (get ! refl) (lit ! tt) (tests_null (block_ptr b3 o3) may3)) refl (tt, tt) $ first ! $ branches ! (get ! refl) (λ t. absurd t)
        (λ t. skips ! $ exec ! 𝓣.C 𝓣.Λ (env code.Mir.locals l) code.Mir.t-7 (at_ret (env code.Mir.locals l) (Post n_resolv_length n_hosts_length (block_ptr b1 o1) (block_ptr b2 o2) (block_ptr b3 o3))) $
        first ! $ blocks ! $
        sets ! (agg ! (and_then ! (get ! refl) (and_then ! (get ! refl) (no_more !)))) refl (tt, (tt, (record { fits = fits_resolv_length }, tt))) $
        sets ! (agg ! (and_then ! (get ! refl) (and_then ! (get ! refl) (no_more !)))) refl (tt, (tt, (record { fits = fits_hosts_length }, tt))) $
        sets ! (addr ! (through ! refl (stop !))) refl (tt, tt) $
        move ! (1 ∷ []) $ fsplit ! $ move ! (1 ∷ []) $ fsplit ! $ move ! (1 ∷ []) $
        lft_new ! tt (λ α1. let κ1 : Lft = α1 ∷ [] in
        move ! (3 ∷ []) $ use1 𝓛 (‵ (fsep (feq ℕ (length x.resolv) n_resolv_length) (bytes x.resolv_share x.resolv b1 o1))) (bytes_apart 𝓛 x.resolv_share n_resolv_length x.resolv b1 o1) $ fsplit ! $ feq_l ! (λ e1. feq_i ! ℕ (length x.resolv) (length x.resolv) refl $ fjoin ! $
        let low1 : length x.resolv < 2 ^ 63 = subst (λ (m : ℕ). m < 2 ^ 63) (sym e1) low_resolv_length in let fits1 : length x.resolv < 2 ^ 64 = omega (arith, low1) in let room1 : length x.resolv * 1 < 2 ^ 63 = omega (arith, low1) in
        let s1 : Bor (List ℕ) = record { ref_ptr = (b1, o1); now = x.resolv } in
        use2 𝓛 (later ((‵ ((ShrSlice (named 0) κ1 u8).own_val s1 (slice_val (b1, o1) (length x.resolv) ∷ [])) ⊛ ‵ (flent κ1 (fsep (feq ℕ (length x.resolv) (length x.resolv)) (bytes x.resolv_share x.resolv b1 o1)))) ⊛ ‵ (flft κ1 full_share)))
        (lends_shr_slice 𝓛 u8 (named 0) κ1 x.resolv_share x.resolv b1 o1 (fits1, room1) κ1 ((uint_Copied 𝓛 w8).shares x.resolv_share κ1) ((κ1, full_share) ∷ []) (Incl-refl κ1) (Incl-refl κ1)) $ await ! tt $ split ! $ split ! $
        rewrite ! 0 (λ (m : ℕ). ‵ ((ShrSlice (named 0) κ1 u8).own_val s1 (slice_val (b1, o1) m ∷ []))) e1 refl $
        lft_new ! tt (λ α2. let κ2 : Lft = α2 ∷ [] in
        move ! (5 ∷ []) $ use1 𝓛 (‵ (fsep (feq ℕ (length x.hosts) n_hosts_length) (bytes x.hosts_share x.hosts b2 o2))) (bytes_apart 𝓛 x.hosts_share n_hosts_length x.hosts b2 o2) $ fsplit ! $ feq_l ! (λ e2. feq_i ! ℕ (length x.hosts) (length x.hosts) refl $ fjoin ! $
        let low2 : length x.hosts < 2 ^ 63 = subst (λ (m : ℕ). m < 2 ^ 63) (sym e2) low_hosts_length in let fits2 : length x.hosts < 2 ^ 64 = omega (arith, low2) in let room2 : length x.hosts * 1 < 2 ^ 63 = omega (arith, low2) in
        let s2 : Bor (List ℕ) = record { ref_ptr = (b2, o2); now = x.hosts } in
        use2 𝓛 (later ((‵ ((ShrSlice (named 1) κ2 u8).own_val s2 (slice_val (b2, o2) (length x.hosts) ∷ [])) ⊛ ‵ (flent κ2 (fsep (feq ℕ (length x.hosts) (length x.hosts)) (bytes x.hosts_share x.hosts b2 o2)))) ⊛ ‵ (flft κ2 full_share)))
        (lends_shr_slice 𝓛 u8 (named 1) κ2 x.hosts_share x.hosts b2 o2 (fits2, room2) κ2 ((uint_Copied 𝓛 w8).shares x.hosts_share κ2) ((κ2, full_share) ∷ []) (Incl-refl κ2) (Incl-refl κ2)) $ await ! tt $ split ! $ split ! $
        rewrite ! 0 (λ (m : ℕ). ‵ ((ShrSlice (named 1) κ2 u8).own_val s2 (slice_val (b2, o2) m ∷ []))) e2 refl $
        lft_new ! tt (λ α3. let κ3 : Lft = α3 ∷ [] in
        move ! (7 ∷ []) $ use1 𝓛 (later (some (λ (γ : GName). ‵ ((MutRef (named 2) κ3 Word).own_val (record { ref_ptr = (b3, o3); ghost_name = γ; now = x.word }) (vptr b3 o3 ∷ [])) ⊛ ‵ (flent κ3 (Body (mem Word) b3 o3 γ)))))
        (lends_ref 𝓛 Word (named 2) κ3 (x.word) b3 o3) $ await ! tt $ pick ! (λ γ3. split ! $
        let r1 : Bor (List ℕ) = s1 in
        let r2 : Bor (List ℕ) = s2 in
        let r3 : MutBor (Word).Denot = record { ref_ptr = (b3, o3); ghost_name = γ3; now = x.word } in
        let z : G.Ghost = (((κ1, (κ2, (κ3, tt))), (full_share, (full_share, (full_share, tt))), tt, (a, (r1, (r2, (keeps, (r3, tt))))), (hv ∷ [], (slice_val (b1, o1) n_resolv_length ∷ [], (slice_val (b2, o2) n_hosts_length ∷ [], (vbool keeps ∷ [], (vptr b3 o3 ∷ [], tt)))))), tt) in
        nothing ! $ move ! (1 ∷ 0 ∷ []) $ join ! $ owned ! Boolean _ (bool_Makes 𝓛) keeps _ refl $ join ! $ move ! (3 ∷ 0 ∷ []) $ join ! $ move ! (5 ∷ 0 ∷ []) $ join ! $ move ! (7 ∷ 0 ∷ []) $ join ! $
        nothing ! $ move ! (3 ∷ 0 ∷ []) $ join ! $ move ! (4 ∷ 0 ∷ []) $ join ! $ move ! (5 ∷ 0 ∷ []) $ join ! $ join ! $ nothing ! $ move ! (1 ∷ 0 ∷ []) $ use2 𝓛 (raw (G.pre z)) (id⊢ 𝓤 _) $
        calls_at_last ! (framed 𝓤 H 𝓜 𝓣) G (met 𝓤 𝓛 𝓜 𝓡 (code.calls-channel_c::making::make 𝓡.env wired)) z (and_then ! (get ! refl) (and_then ! (get ! refl) (and_then ! (get ! refl) (and_then ! (get ! refl) (and_then ! (get ! refl) (no_more !)))))) (λ v.
        use1 𝓛 (later (some (λ (m : ℕ). ((‵ (flft κ1 full_share) ⊛ ‵ (flft κ2 full_share) ⊛ ‵ (flft κ3 full_share) ⊛ ‵ ftrue) ⊛ ‵ (u32.own_val m (v ∷ []))) ⊛
        some (λ (ws : Unit {0} × (Unit {0} × (Unit {0} × (Unit {0} × ((Word).Denot × (Unit {0})))))). ‵ (lasts g.ended z.0.0 z.0.3 ws) ⊛ (raw (fact 𝓤 _) ⊛ raw (fact 𝓤 _) ⊛ raw (fact 𝓤 _)))))) (id⊢ 𝓤 _) $
        await ! tt $ pick ! (λ m. split ! $ split ! $
        split ! $ lft_end ! tt $ move ! (1 ∷ []) $ split ! $ lft_end ! tt $ move ! (1 ∷ []) $ split ! $ lft_end ! tt $ move ! (1 ∷ []) $ drop ! $ move ! (4 ∷ []) $ pick ! (λ ws. split ! $ move ! (1 ∷ []) $ split ! $ heard ! _ (λ does1. split ! $ heard ! _ (λ does2. heard ! _ (λ does3.
        fsplit ! $ move ! (1 ∷ []) $ fsplit ! $ move ! (1 ∷ []) $ fsplit ! $ move ! (1 ∷ []) $ fsplit ! $ move ! (1 ∷ []) $ fsplit ! $ move ! (1 ∷ []) $ drop ! $
        move ! (7 ∷ 11 ∷ []) $ lent_back ! tt $ fsplit ! $ drop ! $ feq_i ! ℕ (length x.resolv) n_resolv_length e1 $ fjoin ! $ use1 𝓛 (‵ (part_at (Array u8 n_resolv_length) x.resolv_share x.resolv b1 o1)) (bytes_whole 𝓛 x.resolv_share n_resolv_length x.resolv b1 o1) $
        move ! (7 ∷ 10 ∷ []) $ lent_back ! tt $ fsplit ! $ drop ! $ feq_i ! ℕ (length x.hosts) n_hosts_length e2 $ fjoin ! $ use1 𝓛 (‵ (part_at (Array u8 n_hosts_length) x.hosts_share x.hosts b2 o2)) (bytes_whole 𝓛 x.hosts_share n_hosts_length x.hosts b2 o2) $
        move ! (2 ∷ []) $ fsplit ! $ move ! (8 ∷ 10 ∷ 0 ∷ []) $ use3 𝓛 (later (‵ ((mem Word).own_at (ws.1.1.1.1.0) b3 o3))) (ref_back 𝓛 Word κ3 γ3 (ws.1.1.1.1.0) b3 o3) $ await ! tt $
        move ! (2 ∷ 0 ∷ []) $ fjoin ! $ move ! (2 ∷ 0 ∷ []) $ fjoin ! $ nothing ! $ fpack ! ((MakeCall x.resolv x.hosts keeps m x.word) (ws.1.1.1.1.0)) (λ _. ftrue) (does1, does2, does3) $ fjoin ! $
        fpack ! (Word.Denot) (λ left. fsep (fex ((MakeCall x.resolv x.hosts keeps m x.word) left) (λ _. ftrue)) ((texts_at (block_ptr b1 o1) n_resolv_length x.resolv_share x.resolv (block_ptr b2 o2) n_hosts_length x.hosts_share x.hosts (block_ptr b3 o3)) left)) (ws.1.1.1.1.0) $
        move ! (6 ∷ []) $ peeks ! u32 (Is u32) (shows 𝓛 u32) m (v ∷ []) (λ is. lands_last ! refl ((uint_Lawful 𝓛 w32).typed m _ is).0 $
        exec ! 𝓣.C 𝓣.Λ (env code.Mir.locals l) code.Mir.t-8 (at_ret (env code.Mir.locals l) (Post n_resolv_length n_hosts_length (block_ptr b1 o1) (block_ptr b2 o2) (block_ptr b3 o3))) $
        sets ! (of_opd ! (get ! refl)) refl ((uint_Lawful 𝓛 w32).typed m _ is).0 $
        returns ! (look_at ! 0 refl) $ free_all ! refl $ keep ! (0 ∷ 1 ∷ []) $ by ! (exits n_resolv_length n_hosts_length (block_ptr b1 o1) (block_ptr b2 o2) (block_ptr b3 o3) v m))))))))))))))))))

    at_each : (p1 p2 p3 : Ptr) → Testable p1 → Testable p2 → Testable p3 → ent 𝓤 (sep 𝓤 (sem 𝓛 (Heap.the_row.own_val a (hv ∷ []))) (sem 𝓛 (texts_at p1 n_resolv_length x.resolv_share x.resolv p2 n_hosts_length x.hosts_share x.hosts p3 x.word))) (Runs n_resolv_length n_hosts_length p1 p2 p3)
    at_each null_ptr p2 p3 may1 may2 may3 = via 𝓤 (sem 𝓛 (texts_at null_ptr n_resolv_length x.resolv_share x.resolv p2 n_hosts_length x.hosts_share x.hosts p3 x.word)) (snd∗ 𝓤 (sem 𝓛 (Heap.the_row.own_val a (hv ∷ []))) (sem 𝓛 (texts_at null_ptr n_resolv_length x.resolv_share x.resolv p2 n_hosts_length x.hosts_share x.hosts p3 x.word))) (null1 p2 p3)
    at_each (block_ptr b1 o1) null_ptr p3 may1 may2 may3 = via 𝓤 (sem 𝓛 (texts_at (block_ptr b1 o1) n_resolv_length x.resolv_share x.resolv null_ptr n_hosts_length x.hosts_share x.hosts p3 x.word)) (snd∗ 𝓤 (sem 𝓛 (Heap.the_row.own_val a (hv ∷ []))) (sem 𝓛 (texts_at (block_ptr b1 o1) n_resolv_length x.resolv_share x.resolv null_ptr n_hosts_length x.hosts_share x.hosts p3 x.word))) (null2 b1 o1 p3 may1)
    at_each (block_ptr b1 o1) (block_ptr b2 o2) null_ptr may1 may2 may3 = via 𝓤 (sem 𝓛 (texts_at (block_ptr b1 o1) n_resolv_length x.resolv_share x.resolv (block_ptr b2 o2) n_hosts_length x.hosts_share x.hosts null_ptr x.word)) (snd∗ 𝓤 (sem 𝓛 (Heap.the_row.own_val a (hv ∷ []))) (sem 𝓛 (texts_at (block_ptr b1 o1) n_resolv_length x.resolv_share x.resolv (block_ptr b2 o2) n_hosts_length x.hosts_share x.hosts null_ptr x.word))) (null3 b1 o1 b2 o2 may1 may2)
    at_each (block_ptr b1 o1) (block_ptr b2 o2) (block_ptr b3 o3) may1 may2 may3 = there b1 o1 b2 o2 b3 o3 may1 may2 may3

pub dachumvi_make_spec : {M : Type 1} → statement M
dachumvi_make_spec 𝓤 𝓛 𝓜 𝓡 wired =
    let c = f.clauses 𝓛 𝓜.mem 𝓡.returns in let 𝓣' = tables 𝓤 𝓛.H 𝓜 𝓡 𝓡.env in
    proved_at 𝓛 f.ended stayed c 𝓜 𝓡 (Goes-dropped 𝓛 0 (plain (λ _. Heap.the_row)) yes (λ κs x w. refl), (Goes-dropped 𝓛 0 (plain (λ _. RawPtr)) yes (λ κs x w. refl), (Goes-dropped 𝓛 0 (plain (λ _. usize)) yes (λ κs x w. refl), (Goes-dropped 𝓛 0 (plain (λ _. RawPtr)) yes (λ κs x w. refl), (Goes-dropped 𝓛 0 (plain (λ _. usize)) yes (λ κs x w. refl), (Goes-dropped 𝓛 0 (plain (λ _. Boolean)) yes (λ κs x w. refl), (Goes-dropped 𝓛 0 (plain (λ _. RawPtr)) yes (λ κs x w. refl), tt)))))))
    f.Key.name code.function (code.unfolded 𝓤 𝓛.H 𝓜 𝓡 wired) (λ y are.
    let A = y.0.3 in let x = y.1 in let one = alone (α E.al) y.0.4.0 (((param_laws 0 E.al.row E.al.laws).lawful 𝓛).typed A.0 y.0.4.0 are.0) in let hv = one.0 in
    subst (λ (us : Valss (types_at f.signature.params y.0.0)). ent 𝓤 ((walk_of 𝓛 f.ended stayed c).pre ((y.0.0, y.0.1, y.0.2, y.0.3, us), y.1)) (WpFn 𝓤 𝓛.H 𝓣'.C 𝓣'.Λ code.function ((walk_of 𝓛 f.ended stayed c).args ((y.0.0, y.0.1, y.0.2, y.0.3, us), y.1)) ((walk_of 𝓛 f.ended stayed c).post ((y.0.0, y.0.1, y.0.2, y.0.3, us), y.1))))
    (λ i. (sym one.1.0 i, (sym are.1.0 i, (sym are.1.1.0.0 i, (sym are.1.1.1.0 i, (sym are.1.1.1.1.0.0 i, (sym are.1.1.1.1.1.0 i, (sym are.1.1.1.1.1.1.0 i, tt))))))))
    (qed 𝓛 ((‵ ftrue ⊛ ‵ (owns (types_at f.signature.params y.0.0) A (hv ∷ [], (rawptr_vals A.1.0, (uint_vals w64 A.1.1.0, (rawptr_vals A.1.1.1.0, (uint_vals w64 A.1.1.1.1.0, (bool_vals A.1.1.1.1.1.0, (rawptr_vals A.1.1.1.1.1.1.0, tt))))))))) ∷
    (raw (fact 𝓤 (Testable A.1.0)) ⊛ raw (fact 𝓤 (Testable A.1.1.1.0)) ⊛ raw (fact 𝓤 (Testable A.1.1.1.1.1.1.0)) ⊛ raw (fact 𝓤 (A.1.1.0 < 2 ^ 63)) ⊛ raw (fact 𝓤 (A.1.1.1.1.0 < 2 ^ 63)) ⊛ ‵ (texts_at A.1.0 A.1.1.0 x.resolv_share x.resolv A.1.1.1.0 A.1.1.1.1.0 x.hosts_share x.hosts A.1.1.1.1.1.1.0 x.word)) ∷ []) ∵ split ! $ drop ! $ fsplit ! $ move ! (1 ∷ []) $ drop ! $ move ! (1 ∷ []) $
    split ! $ heard ! _ (λ may1. split ! $ heard ! _ (λ may2. split ! $ heard ! _ (λ may3. split ! $ heard ! _ (λ low_resolv_length. split ! $ heard ! _ (λ low_hosts_length. move ! (1 ∷ 0 ∷ []) $ by ! (at_each 𝓛 𝓜 𝓡 wired A.0 hv one.1.1 A.1.1.1.1.1.0 x A.1.1.0 A.1.1.1.1.0 low_resolv_length low_hosts_length A.1.0 A.1.1.1.0 A.1.1.1.1.1.1.0 may1 may2 may3))))))))
