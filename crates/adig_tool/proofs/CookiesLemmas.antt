-- A run over a network with cookies, and what its loan tells.
use Rattle.std.proofs.Common.{◌≡◌, ℕ, List, [], ◌++◌, refl, sym, ap, subst, ◌∙◌}
use Rattle.std.specs.Prelude.{Bool, None, Option, Some, false, option_map, true}
use Rattle.std.proofs.lemmas.List.{append-nil}
use base.Stored.{Gv, gnil, gnum, gcons}
use Rattle.tool_line.specs.Adig.{AdigAsks, IsSaid}
use Rattle.tool_line.specs.Lookup.{lookup}
use Rattle.net_world.specs.declared.log.WorldCall.{WorldCall}
use Rattle.net_world.specs.declared.put_call.PutCall.{PutCall}
use Rattle.cookie_world.specs.Agreement.{Stands}
use Rattle.cookie_world.specs.State.{CookieState, at_start}
use Rattle.cookie_world.specs.View.{CookieView}
use Rattle.tool_line.specs.Outside.{FilesTold, NetworkTold, Outside, outside}
use Rattle.tool_line.specs.Words.{Text}
use Rattle.tool_line.specs.declared.adig.AdigAsk.{AdigAsk}
use Rattle.run_end.specs.declared.ended.Ended.{Ended as OwnEnd}
use Rattle.adig_tool.specs.Cookies.{AreMadeOf, around, own_end}
use Rattle.adig_tool.specs.Loan.{loan_origin}
use Rattle.adig_tool.specs.Running.{IsRun, IsRunBy, IsRunFor, IsRunWithCookies}
use Rattle.adig_tool.specs.declared.ended.Ended.{Ended}
use Rattle.adig_tool.proofs.RunningLemmas.{early_run, same_run, same_uses}

-- a run for what is asked is one for whatever the words ask, with cookies as without
pub same_run_by : (words : List Text) (a b : AdigAsk) (turns : ℕ) (ended : Ended) (files_before files_after : FilesTold) (before after : Outside) → AdigAsks words a → AdigAsks words b →
    IsRun a turns ended files_before files_after before after → IsRun b turns ended files_before files_after before after
same_run_by words a b turns ended files_before files_after before after x y run =
    let says : IsSaid (lookup y.uses) a = subst (λ us. IsSaid (lookup us) a) (same_uses words a b x y) x.say in
    let flag : a.cookie ≡ b.cookie = says.cookie ∙ sym y.say.cookie in
    by b.cookie (subst (λ cookie. IsRunBy cookie a turns ended files_before files_after before after) flag run)
  where
    by : (cookie : Bool) → IsRunBy cookie a turns ended files_before files_after before after → IsRunBy cookie b turns ended files_before files_after before after
    by false plain = (same_run words a b turns _ files_before files_after before after x y plain.0, plain.1)
    by true around = record {
      run = same_run words a b turns _ files_before files_after _ _ x y around.run;
      made = around.made;
    }

-- the parts of a stored pair
second : Gv → Gv
second gnil = gnil
second (gnum n) = gnil
second (gcons a b) = b

first : Gv → ℕ
first gnil = 0
first (gnum n) = 0
first (gcons gnil b) = 0
first (gcons (gnum n) b) = n
first (gcons (gcons a c) b) = 0

-- an origin tells which loan it is
pub loan_is : (one other : ℕ) (a b : Gv) → loan_origin one a ≡ loan_origin other b → one ≡ other
unfolding first
loan_is one other a b same = ap first same

-- and how what is lent was made
pub lent_is : (one other : ℕ) (a b : Gv) → loan_origin one a ≡ loan_origin other b → a ≡ b
unfolding second
lent_is one other a b same = ap second same

-- ---- a run over a network with cookies

-- what the run over it came to, and how its calls stand to those of the network that was handed in, which it held as it was made, and behind the run
pub cookies_run : {X : Type 0} (log_of : X → Option (List WorldCall)) (waits_of : X → ℕ) (old new : CookieView X) (lent left : X) (ask : AdigAsk) (turns : ℕ) (end : OwnEnd) (ended : Ended) (files_before files_after : FilesTold)
    (bytes_before : Option Text) (faults_before : ℕ) (puts_before : Option (List PutCall)) (bytes_after : Option Text) (faults_after : ℕ) (puts_after : Option (List PutCall)) →
    own_end ended ≡ end → ended.outer ≡ new.state.log → old.inner ≡ lent → old.state ≡ at_start → left ≡ new.inner → new.began ≡ log_of lent → Stands new.began (log_of new.inner) new.state →
    IsRunFor ask turns end files_before files_after (outside (option_map (λ _. old.state.log) (log_of old.inner)) (waits_of old.inner) bytes_before faults_before puts_before)
    (outside (option_map (λ _. new.state.log) (log_of new.inner)) (waits_of new.inner) bytes_after faults_after puts_after) →
    IsRunWithCookies ask turns ended files_before files_after (outside (log_of lent) (waits_of lent) bytes_before faults_before puts_before) (outside (log_of left) (waits_of left) bytes_after faults_after puts_after)
cookies_run {X} log_of waits_of old new lent left ask turns end ended files_before files_after bytes_before faults_before puts_before bytes_after faults_after puts_after same outer made started behind begins stands run =
    let before = λ (x : X). outside (log_of x) (waits_of x) bytes_before faults_before puts_before in
    let after = λ (x : X). outside (log_of x) (waits_of x) bytes_after faults_after puts_after in
    let first : IsRunFor ask turns end files_before files_after (around [] (before old.inner)) (around new.state.log (after new.inner)) =
    subst (λ (state : CookieState). IsRunFor ask turns end files_before files_after (around state.log (before old.inner)) (around new.state.log (after new.inner))) started run in
    let held : IsRunFor ask turns end files_before files_after (around [] (before lent)) (around new.state.log (after new.inner)) =
    subst (λ x. IsRunFor ask turns end files_before files_after (around [] (before x)) (around new.state.log (after new.inner))) made first in
    let own : IsRunFor ask turns (own_end ended) files_before files_after (around [] (before lent)) (around new.state.log (after new.inner)) =
    subst (λ e. IsRunFor ask turns e files_before files_after (around [] (before lent)) (around new.state.log (after new.inner))) (sym same) held in
    let told : IsRunFor ask turns (own_end ended) files_before files_after (around [] (before lent)) (around ended.outer (after new.inner)) =
    subst (λ calls. IsRunFor ask turns (own_end ended) files_before files_after (around [] (before lent)) (around calls (after new.inner))) (sym outer) own in
    record {
      run = subst (λ x. IsRunFor ask turns (own_end ended) files_before files_after (around [] (before lent)) (around ended.outer (after x))) (sym behind) told;
      made = record {
        state = new.state;
        own = sym outer;
        stands = subst (λ x. Stands (log_of lent) (log_of x) new.state) (sym behind) (subst (λ log. Stands log (log_of new.inner) new.state) begins stands);
      };
    }

-- ---- want of memory before it is known what is asked

-- a log to which nothing was added is as it was
none_more : (log : Option (List WorldCall)) → log ≡ option_map (λ calls. calls ++ []) log
none_more None = refl
none_more (Some calls) = ap (λ (l : List WorldCall). Some l) (sym (append-nil calls))

-- no call makes none
none_made : (network : NetworkTold) → AreMadeOf [] network network
none_made network = record {
  state = at_start;
  own = refl;
  stands = record {
    inner = [];
    agree = record { rounds = []; made = refl; inner_is = refl; outer_is = refl };
    added = none_more network.log;
    held = tt;
  };
}

-- a run that wanted memory before it had read the file, with cookies or without
pub early_run_by : (ask : AdigAsk) (turns : ℕ) (files_before files_after : FilesTold) (outside : Outside) → files_after.reads ≡ files_before.reads →
    IsRun ask turns (record { status = 5; journal = []; calls = []; outer = [] }) files_before files_after outside outside
early_run_by ask turns files_before files_after outside unread = by ask.cookie
  where
    by : (cookie : Bool) → IsRunBy cookie ask turns (record { status = 5; journal = []; calls = []; outer = [] }) files_before files_after outside outside
    by false = (early_run ask turns files_before files_after outside unread, refl)
    by true = record { run = early_run ask turns files_before files_after (around [] outside) unread; made = none_made outside.network }
