-- The entries by which hosts are asked for, and what answers are behind them.
use Rattle.std.proofs.Common.{ap, arith, refl, get_or, length-append, subst, sym, take, ◌<◌, ◌∙◌}
use Rattle.std.proofs.lemmas.List.{append-nil, length-map, length-take-le, map-append, take_more}
use Rattle.std.specs.Prelude.{List, [], length, map, ℕ, ◌+◌, ◌++◌, ◌∷◌, ◌≡◌}
use Rattle.chan_types.specs.Plans.{Plan}
use Rattle.chan_types.specs.declared.answer.Answer.{Answer}
use Rattle.chan_types.specs.declared.journal.Entry.{Entry}
use Rattle.chan_types.specs.declared.journal.What.TheVariants.{Accept}
use Rattle.channel_model.specs.Completion.{pending, ready, taken}
use Rattle.channel_model.specs.Journal.{Past, accepted, followed_by, past_of}
use Rattle.channel_model.specs.Setting.{Setting}
use Rattle.channel_session.specs.Left.{IsOver}
use Rattle.channel_table.specs.Calling.{Owned, known_by_owner}
use Rattle.host_lookups.specs.Answered.{addresses_of, asked}
use Rattle.host_lookups.specs.Extending.{AreFates, Extends}
use Rattle.host_lookups.specs.Many.{AreAllAnswered, AreAnswered, asked_from, script_at}

-- one host more, at the end
asked_more : (index count : ℕ) (hosts : List (List ℕ)) (host : List ℕ) →
    asked_from index count (hosts ++ host ∷ []) ≡ asked_from index count hosts ++ asked (index + length hosts + 1) (addresses_of host) (script_at (index + length hosts) count) ∷ []
asked_more index count [] host =
    let none : index ≡ index + length {A = List ℕ} [] = omega arith in
    ap (λ i. asked (i + 1) (addresses_of host) (script_at i count) ∷ []) none
asked_more index count (first ∷ hosts) host =
    let more : index + 1 + length hosts ≡ index + length (first ∷ hosts) = omega arith in
    ap (λ rest. asked (index + 1) (addresses_of first) (script_at index count) ∷ rest) (asked_more (index + 1) count hosts host)
    ∙ ap (λ i. asked_from index count (first ∷ hosts) ++ asked (i + 1) (addresses_of host) (script_at i count) ∷ []) more

-- by each of them a request is accepted
accepted_more : (index count : ℕ) (past : Past) (hosts : List (List ℕ)) → length (accepted (followed_by past (asked_from index count hosts))) ≡ length (accepted past) + length hosts
accepted_more index count past [] = omega arith
accepted_more index count past (host ∷ hosts) =
    let what = Accept (index + 1) (addresses_of host) (script_at index count) in
    let one : length (accepted (what ∷ past)) ≡ length (accepted past) + 1 = length-append (accepted past) _ in
    accepted_more (index + 1) count (what ∷ past) hosts ∙ omega (arith, one)

-- the next name's request was accepted behind those of the names before it
pub asked_next : {A : Type 0} (text : A → List ℕ) (count index : ℕ) (names : List A) (d : A) (script : Plan) (old new : List Entry) →
    index < length names → script ≡ script_at index count → old ≡ asked_from 0 count (map text (take index names)) →
    new ≡ old ++ asked (length (accepted (past_of old)) + 1) (addresses_of (text (get_or names index d))) script ∷ [] → new ≡ asked_from 0 count (map text (take (index + 1) names))
asked_next text count index names d script old new within scripted so_far more =
    let host : List ℕ = text (get_or names index d) in
    let here : List (List ℕ) = map text (take index names) in
    let taken : length here ≡ index = length-map (take index names) text ∙ length-take-le index names (omega (arith, within)) in
    let position : 0 + length here ≡ index = omega (arith, taken) in
    let number : length (accepted (past_of old)) ≡ index = ap (λ es. length (accepted (past_of es))) so_far ∙ accepted_more 0 count [] here ∙ position in
    let all : map text (take (index + 1) names) ≡ here ++ host ∷ [] = ap (map text) (take_more names index d within) ∙ map-append text (take index names) (get_or names index d ∷ []) in
    let entry : ℕ → Plan → List Entry = λ n with_script. asked (n + 1) (addresses_of host) with_script ∷ [] in
    more ∙ ap (λ es. es ++ entry (length (accepted (past_of old))) script) so_far
    ∙ ap (λ n. asked_from 0 count here ++ entry n script) number ∙ ap (λ with_script. asked_from 0 count here ++ entry index with_script) scripted
    ∙ sym (ap (asked_from 0 count) all ∙ asked_more 0 count here host ∙ ap (λ i. asked_from 0 count here ++ entry i (script_at i count)) position)

-- answers behind the requests of these names, where the channel's journal went on
pub are_answered : {A : Type 0} (text : A → List ℕ) (names : List A) (answers : List Answer) (a b c : Owned) → Extends a b → b.seen ≡ asked_from 0 (length names) (map text names) → Extends b c →
    AreFates b.setting c.seen answers → AreAnswered a.setting (map text names) answers
are_answered text names answers a b c one asks more fates =
    let hosts : List (List ℕ) = map text names in
    let first : b.seen ≡ asked_from 0 (length hosts) hosts = asks ∙ ap (λ n. asked_from 0 n hosts) (sym (length-map names text)) in (
      more.since,
      subst (λ at. AreFates at (asked_from 0 (length hosts) hosts ++ more.since) answers) one.setting
          (subst (λ journal. AreFates b.setting journal answers) (more.seen ∙ ap (λ es. es ++ more.since) first) fates),
    )

-- and where nothing is pending or ready any more, they are all
pub are_all_answered : {A : Type 0} (text : A → List ℕ) (names : List A) (answers : List Answer) (a b c : Owned) → Extends a b → b.seen ≡ asked_from 0 (length names) (map text names) → Extends b c →
    AreFates b.setting c.seen answers → IsOver (known_by_owner c) → AreAllAnswered a.setting (map text names) answers
are_all_answered text names answers a b c one asks more fates over =
    let hosts : List (List ℕ) = map text names in
    let journal : List Entry = asked_from 0 (length hosts) hosts ++ more.since in
    let first : b.seen ≡ asked_from 0 (length hosts) hosts = asks ∙ ap (λ n. asked_from 0 n hosts) (sym (length-map names text)) in
    let seen : c.seen ≡ journal = more.seen ∙ ap (λ es. es ++ more.since) first in
    let set : c.setting ≡ a.setting = more.setting ∙ one.setting in
    let still : (left : Setting → Past → List ℕ) → left c.setting (past_of c.seen) ≡ [] → left a.setting (past_of journal) ≡ [] =
    λ left none. ap (λ es. left a.setting (past_of es)) (sym seen) ∙ ap (λ at. left at (past_of c.seen)) (sym set) ∙ none in (
      more.since,
      subst (λ at. AreFates at journal answers) one.setting (subst (λ es. AreFates b.setting es answers) seen fates),
      still pending over.0,
      still ready over.1,
    )

-- nothing was taken where hosts were asked for
taken_asked : (index count : ℕ) (past : Past) (hosts : List (List ℕ)) → taken (followed_by past (asked_from index count hosts)) ≡ taken past
taken_asked index count past [] = refl
taken_asked index count past (host ∷ hosts) =
    taken_asked (index + 1) count (Accept (index + 1) (addresses_of host) (script_at index count) ∷ past) hosts ∙ append-nil (taken past)

pub none_taken : (count : ℕ) (hosts : List (List ℕ)) (journal : List Entry) → journal ≡ asked_from 0 count hosts → taken (past_of journal) ≡ []
none_taken count hosts journal is = ap (λ es. taken (past_of es)) is ∙ taken_asked 0 count [] hosts
