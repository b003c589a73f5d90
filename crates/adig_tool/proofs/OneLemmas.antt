-- A session that asked one request, whose callback commands nothing: what its journal says then.
use Rattle.std.proofs.Common.{◌≡◌, ◌≢◌, ℕ, ◌+◌, ◌==◌, ◌&&◌, ◌||◌, not, cond, List, [], ◌∷◌, ◌++◌, length, refl, sym, ap, subst, ◌∙◌, map, Bool, true, false, inl, inr, arith, eqb-true, eq-eqb, ne_eqb}
use Rattle.std.specs.Prelude.{None, Option, Some, is_some, option_map, option_to_list, ◌⊎◌}
use Rattle.std.specs.List.{AllByRecursion, cons_option, list_all, range_with_len}
use Rattle.std.proofs.lemmas.Bool.{and_from, and_parts}
use Rattle.std.proofs.lemmas.List.{append-nil, append_assoc, map-append}
use mathlib.Core.List.{IsPrefix}
use Rattle.chan_types.specs.Plans.{Plan, blank}
use Rattle.chan_types.specs.declared.answer.Answer.{Answer}
use Rattle.chan_types.specs.declared.journal.Entry.{Entry}
use Rattle.chan_types.specs.declared.journal.What.{What}
use Rattle.chan_types.specs.declared.journal.What.TheVariants.{Accept, Arrive, Cancel, Destroy, Expire, Fault, Servers, Start, Take}
use Rattle.chan_types.specs.declared.spec.Spec.{Spec}
use Rattle.channel_model.specs.Commands.{Asking, accepted_for}
use Rattle.channel_model.specs.Completion.{fate, occurrences, requests, taken_by}
use Rattle.channel_model.specs.Journal.{Accepted, Past, accepted, accepted_by, followed_by, is_destroy, is_destroyed, past_of}
use Rattle.channel_model.specs.Setting.{Setting}
use Rattle.owner_laws.proofs.ListLemmas.{denies, heads, stands_first}
use Rattle.owner_session.specs.Closing.{EndsClosed, closing, is_delivery}
use Rattle.owner_session.specs.Kinds.{has_servers, is_cancel, is_of_session, is_ruled, is_servers}
use Rattle.owner_session.proofs.Theorems.{none_of}
use Rattle.adig_tool.specs.Entries.{first_request, is_own, is_steady}
use Rattle.adig_tool.specs.Promise.{IsClosed}
use Rattle.adig_tool.proofs.ListLemmas.{first_passes, one_at_most, two_pass}

-- nobody commanded the entries
abbrev pub AreUncommanded : List Entry → Type 0
AreUncommanded es = list_all (λ e. e.by == 0) es ≡ true

-- ---- tests of entries that nobody commanded

-- a test that follows from another, of such entries
pub uncommanded_pass : (p q : Entry → Bool) → ((e : Entry) → (e.by == 0) ≡ true → p e ≡ true → q e ≡ true) → (es : List Entry) → AreUncommanded es → list_all p es ≡ true → list_all q es ≡ true
uncommanded_pass p q follows [] own all = refl
uncommanded_pass p q follows (e ∷ es) own all =
    let first = first_passes (λ x. x.by == 0) e es own in
    let now = first_passes p e es all in
    and_from (q e) (list_all q es) (follows e first.0 now.0) (uncommanded_pass p q follows es first.1 now.1)

-- an event that nobody's callback commanded, and that neither cancels nor sets servers, is steady
steady : (what : What) (own : Bool) → own ≡ true → not (own && is_cancel what) ≡ true → is_servers what ≡ false → is_steady what ≡ true
steady (Accept number spec script) own is cancels sets = refl
steady Cancel true is cancels sets = absurd (cc cancels)
steady Cancel false is cancels sets = absurd (cc is)
steady Destroy own is cancels sets = refl
steady (Take number) own is cancels sets = refl
steady (Start number leg server link id mix moment) own is cancels sets = refl
steady (Arrive server link bytes) own is cancels sets = refl
steady (Expire number leg moment) own is cancels sets = refl
steady (Fault server link moment) own is cancels sets = refl
steady (Servers list) own is cancels sets = absurd (cc sets)

pub own_of : (es : List Entry) → AreUncommanded es → list_all is_ruled es ≡ true → has_servers es ≡ false → list_all is_own es ≡ true
own_of [] own ruled sets = refl
own_of (e ∷ es) own ruled sets =
    let first = first_passes (λ x. x.by == 0) e es own in
    let now = first_passes is_ruled e es ruled in
    let set = none_of (is_servers e.what) (has_servers es) sets in
    let parts = and_parts (e.seat == 0) (not ((e.by == 0) && is_cancel e.what)) now.0 in
    and_from (is_own e) (list_all is_own es)
    (and_from ((e.seat == 0) && (e.by == 0)) (is_steady e.what) (and_from (e.seat == 0) (e.by == 0) parts.0 first.0) (steady e.what (e.by == 0) first.0 parts.1 set.0))
    (own_of es first.1 now.1 set.1)

-- ---- how its channel was closed

-- an entry of a session that nobody commanded is no Destroy
no_destroy : (e : Entry) → (e.by == 0) ≡ true → is_of_session e ≡ true → not (is_destroy e.what) ≡ true
no_destroy e own session = by (e.by == 0) own (and_parts (is_ruled e) (not ((e.by == 0) && is_destroy e.what)) session).1
  where
    by : (b : Bool) → b ≡ true → not (b && is_destroy e.what) ≡ true → not (is_destroy e.what) ≡ true
    by true is denied = denied
    by false is denied = absurd (cc is)

-- a delivery that nobody commanded is a Take
takes : (e : Entry) → (e.by == 0) ≡ true → is_delivery e ≡ true → is_some (taken_by e.what) ≡ true
takes e own delivered = by (is_some (taken_by e.what)) (e.by == 0) own delivered
  where
    by : (a b : Bool) → b ≡ true → (a || not b) ≡ true → a ≡ true
    by true b is either = refl
    by false true is either = absurd (cc either)
    by false false is either = absurd (cc is)

-- the channel is open behind entries of which none is a Destroy
kept_open : (past : Past) (es : List Entry) → list_all (λ e. not (is_destroy e.what)) es ≡ true → is_destroyed (followed_by past es) ≡ is_destroyed past
kept_open past [] kept = refl
kept_open past (e ∷ es) kept =
    let now = first_passes (λ x. not (is_destroy x.what)) e es kept in
    kept_open (e.what ∷ past) es now.1 ∙ opened (is_destroy e.what) (denies (is_destroy e.what) now.0)
  where
    opened : (b : Bool) → b ≡ false → (b || is_destroyed past) ≡ is_destroyed past
    opened true is = absurd (cc is)
    opened false is = refl

pub closed_of : (journal : List Entry) → AreUncommanded journal → EndsClosed journal → IsClosed journal
closed_of journal own ends =
    let parts = two_pass (λ e. e.by == 0) ends.earlier (ends.closes ++ ends.delivered) (subst AreUncommanded ends.parts own) in
    let behind = two_pass (λ e. e.by == 0) ends.closes ends.delivered parts.1 in
    let open_before = uncommanded_pass is_of_session (λ e. not (is_destroy e.what)) no_destroy ends.earlier parts.0 ends.of_session in
    by open_before (uncommanded_pass is_delivery (λ e. is_some (taken_by e.what)) takes ends.delivered behind.1 ends.deliveries) ends.once
  where
    by : list_all (λ e. not (is_destroy e.what)) ends.earlier ≡ true → list_all (λ e. is_some (taken_by e.what)) ends.delivered ≡ true →
        (ends.closes ≡ closing ∷ []) ⊎ ((ends.closes ≡ []) × (is_destroyed (past_of ends.earlier) ≡ true)) → IsClosed journal
    by open_before takes_behind (inl is) = record {
      earlier = ends.earlier;
      later = ends.delivered;
      parts = ends.parts ∙ ap (λ closes. ends.earlier ++ (closes ++ ends.delivered)) is;
      open_before = open_before;
      takes_behind = takes_behind;
    }
    by open_before takes_behind (inr is) = absurd (let clash : false ≡ true = sym (kept_open [] ends.earlier open_before) ∙ is.1 in cc)

-- ---- what was accepted

-- what an accepted request asks
abbrev asked : Accepted → Asking
asked request = record { spec = request.spec; script = request.script }

first_asked : (b : Bool) (found : Option Accepted) (rest : List Asking) → b ≡ true → map asked (option_to_list found) ++ rest ≡ cons_option (cond b (option_map asked found) None) rest
first_asked true None rest is = refl
first_asked true (Some request) rest is = refl
first_asked false found rest is = absurd (cc is)

-- all requests were asked on nobody's command
accepted_are : (past : Past) (es : List Entry) → AreUncommanded es → map asked (accepted (followed_by past es)) ≡ map asked (accepted past) ++ accepted_for 0 es
accepted_are past [] own = sym (append-nil (map asked (accepted past)))
accepted_are past (e ∷ es) own =
    let now = first_passes (λ x. x.by == 0) e es own in
    accepted_are (e.what ∷ past) es now.1
    ∙ ap (λ l. l ++ accepted_for 0 es) (map-append asked (accepted past) (option_to_list (accepted_by e.what)))
    ∙ append_assoc (map asked (accepted past)) (map asked (option_to_list (accepted_by e.what))) (accepted_for 0 es)
    ∙ ap (λ l. map asked (accepted past) ++ l) (first_asked (e.by == 0) (accepted_by e.what) (accepted_for 0 es) now.0)

module _ (spec : Spec) where
  -- the request as it was asked
  abbrev pub one_asking : Asking
  one_asking = record { spec = spec; script = blank 0 }

  none_accepted : (rs : List Accepted) → map asked rs ≡ [] → rs ≡ []
  none_accepted [] is = refl
  none_accepted (r ∷ rs) is = absurd (cc is)

  one_accepted : (rs : List Accepted) → map asked rs ≡ one_asking ∷ [] → map (λ r. r.number) rs ≡ range_with_len 1 (length rs) → rs ≡ first_request spec ∷ []
  one_accepted [] is numbered = absurd (cc is)
  one_accepted (r ∷ []) is numbered =
      let same : asked r ≡ one_asking = heads (asked r) one_asking [] [] is in
      made r.number 1 r.spec spec r.script (blank 0) (heads r.number 1 [] [] numbered) (ap (λ asking. asking.spec) same) (ap (λ asking. asking.script) same)
    where
      made : (m n : ℕ) (s t : Spec) (p q : Plan) → m ≡ n → s ≡ t → p ≡ q → ◌≡◌ {A = List Accepted} (record { number = m; spec = s; script = p } ∷ []) (record { number = n; spec = t; script = q } ∷ [])
      made m n s t p q a b c = cc
  one_accepted (r ∷ s ∷ rs) is numbered = absurd (let h : asked r ∷ asked s ∷ map asked rs ≡ one_asking ∷ [] = is in cc)

  module _ (journal : List Entry) (own : AreUncommanded journal) (numbered : requests (past_of journal) ≡ range_with_len 1 (length (accepted (past_of journal)))) where
    pub accepted_one : accepted_for 0 journal ≡ one_asking ∷ [] → accepted (past_of journal) ≡ first_request spec ∷ []
    accepted_one is = one_accepted (accepted (past_of journal)) (accepted_are [] journal own ∙ is) numbered

    -- it was accepted, or nothing was
    pub accepted_few : IsPrefix (accepted_for 0 journal) (one_asking ∷ []) → (accepted (past_of journal) ≡ []) ⊎ (accepted (past_of journal) ≡ first_request spec ∷ [])
    accepted_few at_most = by (one_at_most one_asking (accepted_for 0 journal) at_most)
      where
        by : (accepted_for 0 journal ≡ []) ⊎ (accepted_for 0 journal ≡ one_asking ∷ []) → (accepted (past_of journal) ≡ []) ⊎ (accepted (past_of journal) ≡ first_request spec ∷ [])
        by (inl none) = inl (none_accepted (accepted (past_of journal)) (accepted_are [] journal own ∙ none))
        by (inr one) = inr (accepted_one one)

  pub prefix_of : (rs : List Accepted) → (rs ≡ []) ⊎ (rs ≡ first_request spec ∷ []) → IsPrefix rs (first_request spec ∷ [])
  prefix_of rs (inl none) = (first_request spec ∷ [], ap (λ l. l ++ first_request spec ∷ []) none)
  prefix_of rs (inr one) = ([], append-nil rs ∙ one)

  pub numbers_of_few : (rs : List Accepted) → (rs ≡ []) ⊎ (rs ≡ first_request spec ∷ []) → (map (λ r. r.number) rs ≡ []) ⊎ (map (λ r. r.number) rs ≡ 1 ∷ [])
  numbers_of_few rs (inl none) = inl (ap (map (λ (r : Accepted). r.number)) none)
  numbers_of_few rs (inr one) = inr (ap (map (λ (r : Accepted). r.number)) one)

-- ---- lists by how often their items stand in them

-- no item stands in a list without one
no_item : (xs : List ℕ) → ((n : ℕ) → occurrences n xs ≡ 0) → xs ≡ []
no_item [] none = refl
no_item (x ∷ xs) none = absurd (omega (arith, none x, stands_first x xs))

-- the one item
one_item : (xs : List ℕ) → occurrences 1 xs ≡ 1 → ((n : ℕ) → n ≢ 1 → occurrences n xs ≡ 0) → xs ≡ 1 ∷ []
one_item [] one none = absurd (omega (arith, one))
one_item (x ∷ xs) one none = by (x == 1) refl
  where
    rest_none : (x == 1) ≡ true → (n : ℕ) → occurrences n xs ≡ 0
    rest_none is n = of_n (n == 1) refl
      where
        of_n : (b : Bool) → (n == 1) ≡ b → occurrences n xs ≡ 0
        of_n true same =
            let h : occurrences 1 xs + 1 ≡ 1 = rw is at one in
            subst (λ m. occurrences m xs ≡ 0) (sym (eqb-true n 1 same)) (omega (arith, h))
        of_n false other =
            let not_one : n ≢ 1 = λ e. absurd (let h = eq-eqb n 1 e in cc) in
            let not_x : (x == n) ≡ false = ne_eqb x n (λ e. not_one (sym e ∙ eqb-true x 1 is)) in
            rw not_x at (none n not_one)

    by : (b : Bool) → (x == 1) ≡ b → x ∷ xs ≡ 1 ∷ []
    by true is = rw (eqb-true x 1 is, no_item xs (rest_none is)) refl
    by false other =
        let not_one : x ≢ 1 = λ e. absurd (let h = eq-eqb x 1 e in cc) in
        absurd (omega (arith, none x not_one, stands_first x xs))

-- a list with the items of none, or of the one
pub same_few : (xs ys : List ℕ) → (ys ≡ []) ⊎ (ys ≡ 1 ∷ []) → ((n : ℕ) → occurrences n xs ≡ occurrences n ys) → xs ≡ ys
same_few xs ys (inl none) same = no_item xs (λ n. same n ∙ ap (occurrences n) none) ∙ sym none
same_few xs ys (inr one) same =
    one_item xs (same 1 ∙ ap (occurrences 1) one) (λ n other. same n ∙ ap (occurrences n) one ∙ ap (λ b. cond b 1 0) (ne_eqb 1 n (λ e. other (sym e)))) ∙ sym one

-- ---- what was called for

-- fates of answers by their numbers
pub fates_numbered : (setting : Setting) (past : Past) (answers : List Answer) → AllByRecursion (λ answer. fate setting answer.number past ≡ Some answer) answers →
    map Some answers ≡ map (λ n. fate setting n past) (map (λ (answer : Answer). answer.number) answers)
fates_numbered setting past [] are = refl
fates_numbered setting past (a ∷ answers) are = rw (are.0, fates_numbered setting past answers are.1) refl
