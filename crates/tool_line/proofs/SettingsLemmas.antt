-- The same words set the same.
use Rattle.std.proofs.Common.{◌≡◌, ℕ, List, Option, Some, sym, ◌∙◌}
use Rattle.net_addr.specs.declared.addr.Addr.{Addr}
use Rattle.tool_line.specs.Lookup.{Lookup}
use Rattle.tool_line.specs.Settings.{AreSetBy, SettingValues}
use Rattle.tool_line.specs.declared.switches.Switches.{Switches}

-- what is said once is one thing
pub some_same : {A : Type 0} (x y : A) → Some x ≡ Some y → x ≡ y
some_same x y is = cc

-- settings that are set by the same words are the same
pub same_settings : (under : Lookup) (a b : SettingValues) → AreSetBy under a → AreSetBy under b → a ≡ b
same_settings under a b x y =
    fields a.servers b.servers a.port b.port a.timeout b.timeout a.tries b.tries a.sources b.sources a.switches b.switches
    (some_same a.servers b.servers (sym x.servers ∙ y.servers)) (some_same a.port b.port (sym x.port ∙ y.port)) (some_same a.timeout b.timeout (sym x.timeout ∙ y.timeout))
    (some_same a.tries b.tries (sym x.tries ∙ y.tries)) (some_same a.sources b.sources (sym x.sources ∙ y.sources)) (x.switches ∙ sym y.switches)
  where
    fields : (s1 s2 : Option (List Addr)) (p1 p2 t1 t2 r1 r2 : Option ℕ) (u1 u2 : Option (List Addr)) (w1 w2 : Switches) → s1 ≡ s2 → p1 ≡ p2 → t1 ≡ t2 → r1 ≡ r2 → u1 ≡ u2 → w1 ≡ w2 →
        ◌≡◌ {A = SettingValues} (record { servers = s1; port = p1; timeout = t1; tries = r1; sources = u1; switches = w1 })
        (record { servers = s2; port = p2; timeout = t2; tries = r2; sources = u2; switches = w2 })
    fields s1 s2 p1 p2 t1 t2 r1 r2 u1 u2 w1 w2 a b c d e f = cc
