-- `dachumvi_destroy` tests its pointers, and lends what lies there for lifetimes that are made for the call of `destroy`.
use Rattle.channel_c.proofs.Steps.{ℕ, [], ◌∷◌, refl, lit<, MutBor, proved, Ura, full_share, SProp, ent, sep, id⊢, Lft, GName, ftrue, feq, fex, fsep, flft, flent, named, w32, Val, vint, vptr, Model, Wired, WpFn, Logic, sem, Body, fact, Running, MachineTables, tables, ‵, raw, ◌⊛◌, some, later, at_ret, ◌$◌, ◌∵◌, !, qed, by, done, move, keep, drop, use1, use2, use3, split, join, fsplit, fjoin, fpack, feq_i, pick, await, suffices, group, lft_new, lft_end, enter, of_opd, lit, bin, addr, stop, no_more, and_then, first, blocks, branches, skips, exec, returns, returns_within, alloc_all, pass_all, free_all, look_at, get, through, sets, lands_last, env, u32, yes, Is, shows, lends_ref, ref_back, mem, uint_Makes, uint_Lawful, Ptr, RawPtr, Testable, block_ptr, null_ptr, ptr_val, rawptr_vals, rawptr_Tells, tests_null, MutRef, plain, nothing, owned, heard, peeks, calls_at_last, lasts, on_entry, triple_of, framed, Stays, walk_of, stay_dropped, Goes-dropped, ends_at}
use Rattle.channel_c.specs.Exports.{DestroyCall}
use Rattle.channel_c.specs.Lent.{Word, word_at}
use Rattle.channel_c.specs.Pointers.{Leaves, some_null}
use Rattle.channel_c.specs.contracts.exports.making.dachumvi_destroy as f
use Rattle.channel_c.specs.contracts.making.destroy as g
use Rattle.channel_c.proofs.making.destroy.Met.{met}
use Rattle.channel_c.proofs.exports.making.dachumvi_destroy.Statement.{statement}
use Rattle.channel_c.proofs.exports.making.dachumvi_destroy.Code as code

abbrev stayed : Stays f.ended.signature.params f.ended.kept
stayed = (stay_dropped _ yes, tt)

module _ {M : Type 1} {𝓤 : Ura M} (𝓛 : Logic 𝓤) (𝓜 : Model 𝓤 𝓛.H) (𝓡 : Running 𝓤 𝓛.H 𝓜) (wired : Wired 𝓡.env code.code) (x : Word.Denot) where
  open 𝓛 use {H}

  abbrev 𝓣 : MachineTables 𝓤 H 𝓜
  𝓣 = tables 𝓤 H 𝓜 𝓡 𝓡.env

  module _ (p1 : Ptr) where
    abbrev y : (walk_of 𝓛 f.ended stayed (f.clauses 𝓛 𝓜.mem 𝓡.returns)).Ghost
    y = ((tt, tt, tt, (p1, tt), (rawptr_vals p1, tt)), x)

    abbrev Post : Val → SProp 𝓤
    Post = (walk_of 𝓛 f.ended stayed (f.clauses 𝓛 𝓜.mem 𝓡.returns)).post y

    abbrev Runs : SProp 𝓤
    Runs = WpFn 𝓤 H 𝓣.C 𝓣.Λ code.function (ptr_val p1 ∷ []) Post

    -- the answer, and what lies there then
    exits : (v : Val) (m : ℕ) → ent 𝓤 (sep 𝓤 (sem 𝓛 (u32.own_val m (v ∷ []))) (sem 𝓛 (Leaves (some_null (p1 ∷ [])) (word_at p1) x (DestroyCall m x) m))) (Post v)
    exits v m =
        qed 𝓛 (‵ (u32.own_val m (v ∷ [])) ∷ ‵ (Leaves (some_null (p1 ∷ [])) (word_at p1) x (DestroyCall m x) m) ∷ []) ∵
        suffices ! _ (ends_at 𝓛 f.ended stayed (f.clauses 𝓛 𝓜.mem 𝓡.returns) y v m (tt, tt) (tt, tt)) $
        nothing ! $ nothing ! $ join ! $ nothing ! $ group ! 3 $ done !

    refused : ent 𝓤 (sem 𝓛 (fsep (feq ℕ 12 12) (word_at p1 x))) (sem 𝓛 (Leaves (some_null (p1 ∷ [])) (word_at p1) x (DestroyCall 12 x) 12)) → ent 𝓤 (sem 𝓛 (word_at p1 x)) (Post (vint w32 12))
    refused same =
        qed 𝓛 (‵ (word_at p1 x) ∷ []) ∵ feq_i ! ℕ 12 12 refl $ fjoin ! $ use1 𝓛 (‵ (Leaves (some_null (p1 ∷ [])) (word_at p1) x (DestroyCall 12 x) 12)) same $
        owned ! u32 _ (uint_Makes 𝓛 w32) 12 _ (refl, lit< tt) $ by ! (exits (vint w32 12) 12)

  null1 : ent 𝓤 (sem 𝓛 (word_at null_ptr x)) (Runs null_ptr)
  null1 =
      qed 𝓛 (‵ (word_at null_ptr x) ∷ []) ∵ enter ! _ _ _ _ _ $ alloc_all ! (λ l. pass_all ! refl ((tt, record { fits = lit< tt }), tt) $
      sets ! (bin ! (get ! refl) (lit ! tt) (tests_null null_ptr (lit< tt))) refl (tt, tt) $ first ! $ branches ! (get ! refl)
      (λ t. sets ! (of_opd ! (lit ! tt)) refl (tt, record { fits = lit< tt }) $ returns_within ! (Post null_ptr) refl (look_at ! 0 refl) $ free_all ! refl $ by ! (refused null_ptr (id⊢ 𝓤 _)))
      (λ t. absurd t))

  there : (b1 o1 : ℕ) → Testable (block_ptr b1 o1) → ent 𝓤 (sem 𝓛 (word_at (block_ptr b1 o1) x)) (Runs (block_ptr b1 o1))
  there b1 o1 may1 =
      let G = triple_of 𝓛 g.signature (g.spec 𝓛 𝓜.mem 𝓡.returns) in
      qed 𝓛 (‵ (word_at (block_ptr b1 o1) x) ∷ []) ∵ enter ! _ _ _ _ _ $ alloc_all ! (λ l. pass_all ! refl ((tt, tt), tt) $
      sets ! (bin ! (get ! refl) (lit ! tt) (tests_null (block_ptr b1 o1) may1)) refl (tt, tt) $ first ! $ branches ! (get ! refl) (λ t. absurd t)
      (λ t. skips ! $ exec ! 𝓣.C 𝓣.Λ (env code.Mir.locals l) code.Mir.t-3 (at_ret (env code.Mir.locals l) (Post (block_ptr b1 o1))) $
      first ! $ blocks ! $
      sets ! (addr ! (through ! refl (stop !))) refl (tt, tt) $
      lft_new ! tt (λ α1. let κ1 : Lft = α1 ∷ [] in
      move ! (1 ∷ []) $ use1 𝓛 (later (some (λ (γ : GName). ‵ ((MutRef (named 0) κ1 Word).own_val (record { ref_ptr = (b1, o1); ghost_name = γ; now = x }) (vptr b1 o1 ∷ [])) ⊛ ‵ (flent κ1 (Body (mem Word) b1 o1 γ)))))
      (lends_ref 𝓛 Word (named 0) κ1 (x) b1 o1) $ await ! tt $ pick ! (λ γ1. split ! $
      let r1 : MutBor (Word).Denot = record { ref_ptr = (b1, o1); ghost_name = γ1; now = x } in
      let z : G.Ghost = (((κ1, tt), (full_share, tt), tt, (r1, tt), (vptr b1 o1 ∷ [], tt)), tt) in
      nothing ! $ move ! (1 ∷ 0 ∷ []) $ join ! $
      nothing ! $ move ! (3 ∷ 0 ∷ []) $ join ! $ join ! $ nothing ! $ move ! (1 ∷ 0 ∷ []) $ use2 𝓛 (raw (G.pre z)) (id⊢ 𝓤 _) $
      calls_at_last ! (framed 𝓤 H 𝓜 𝓣) G (met 𝓤 𝓛 𝓜 𝓡 (code.calls-channel_c::making::destroy 𝓡.env wired)) z (and_then ! (get ! refl) (no_more !)) (λ v.
      use1 𝓛 (later (some (λ (m : ℕ). ((‵ (flft κ1 full_share) ⊛ ‵ ftrue) ⊛ ‵ (u32.own_val m (v ∷ []))) ⊛
      some (λ (ws : (Word).Denot × (Unit {0})). ‵ (lasts g.ended z.0.0 z.0.3 ws) ⊛ raw (fact 𝓤 ((DestroyCall m x) (ws.0))))))) (id⊢ 𝓤 _) $
      await ! tt $ pick ! (λ m. split ! $ split ! $
      split ! $ lft_end ! tt $ move ! (1 ∷ []) $ drop ! $ move ! (2 ∷ []) $ pick ! (λ ws. split ! $ move ! (1 ∷ []) $ heard ! _ (λ does1.
      fsplit ! $ move ! (1 ∷ []) $ drop ! $
      fsplit ! $ move ! (2 ∷ 4 ∷ 0 ∷ []) $ use3 𝓛 (later (‵ ((mem Word).own_at (ws.0) b1 o1))) (ref_back 𝓛 Word κ1 γ1 (ws.0) b1 o1) $ await ! tt $
      nothing ! $ fpack ! ((DestroyCall m x) (ws.0)) (λ _. ftrue) does1 $ fjoin ! $
      fpack ! (Word.Denot) (λ left. fsep (fex ((DestroyCall m x) left) (λ _. ftrue)) ((word_at (block_ptr b1 o1)) left)) (ws.0) $
      move ! (2 ∷ []) $ peeks ! u32 (Is u32) (shows 𝓛 u32) m (v ∷ []) (λ is. lands_last ! refl ((uint_Lawful 𝓛 w32).typed m _ is).0 $
      exec ! 𝓣.C 𝓣.Λ (env code.Mir.locals l) code.Mir.t-4 (at_ret (env code.Mir.locals l) (Post (block_ptr b1 o1))) $
      sets ! (of_opd ! (get ! refl)) refl ((uint_Lawful 𝓛 w32).typed m _ is).0 $
      returns ! (look_at ! 0 refl) $ free_all ! refl $ keep ! (0 ∷ 1 ∷ []) $ by ! (exits (block_ptr b1 o1) v m))))))))))

  at_each : (p1 : Ptr) → Testable p1 → ent 𝓤 (sem 𝓛 (word_at p1 x)) (Runs p1)
  at_each null_ptr may1 = null1
  at_each (block_ptr b1 o1) may1 = there b1 o1 may1

pub dachumvi_destroy_spec : {M : Type 1} → statement M
dachumvi_destroy_spec 𝓤 𝓛 𝓜 𝓡 wired =
    proved 𝓛 f.ended stayed (f.clauses 𝓛 𝓜.mem 𝓡.returns) 𝓜 𝓡 (Goes-dropped 𝓛 0 (plain (λ _. RawPtr)) yes (λ κs x w. refl), tt)
    f.Key.name code.function (code.unfolded 𝓤 𝓛.H 𝓜 𝓡 wired)
    (λ κs. (rawptr_vals, tt)) (λ κs. (rawptr_Tells, tt)) (λ κs qs bounds a x are.
    qed 𝓛 (raw (on_entry 𝓛 f.signature κs qs a (rawptr_vals a.0, tt)) ∷
    (raw (fact 𝓤 (Testable a.0)) ⊛ ‵ (word_at a.0 x)) ∷ []) ∵ drop ! $
    split ! $ heard ! _ (λ may1. by ! (at_each 𝓛 𝓜 𝓡 wired x a.0 may1)))
