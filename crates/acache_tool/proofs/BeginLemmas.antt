-- The beginning of a run: a channel that nobody has used, and the server that was told.
use Rattle.std.proofs.Common.{◌≡◌, ◌∙◌, ℕ, ◌==◌, ◌&&◌, ◌||◌, Bool, true, false, List, [], ◌∷◌, ◌++◌, map, refl, ap, sym, subst, arith, inl}
use Rattle.std.specs.Prelude.{Err, None, Ok, Option, Result, Some, is_err, option_map}
use Rattle.std.specs.FinMap as finite
use Rattle.std.proofs.lemmas.List.{append-nil}
use Rattle.std.specs.List.{list_all}
use Rattle.std.proofs.lemmas.Bool.{and_parts}
use mathlib.Core.List.{IsPrefix}
use Rattle.chan_types.specs.declared.answer.Answer.{Answer}
use Rattle.chan_types.specs.declared.journal.Entry.{Entry}
use Rattle.chan_types.specs.declared.journal.What.{What}
use Rattle.chan_types.specs.declared.journal.What.TheVariants.{Accept, Arrive, Cancel, Destroy, Expire, Fault, Servers, Start, Take}
use Rattle.hosts_file.specs.declared.hosts.HostLine.{HostLine}
use Rattle.channel_model.specs.Journal.{Past, followed_by, is_destroy, is_destroyed, past_of}
use Rattle.channel_model.specs.Setting.{Setting}
use Rattle.run_end.specs.declared.loop_end.LoopEnd.{LoopEnd}
use Rattle.run_end.specs.declared.loop_end.LoopEnd.TheVariants.{Completed, Stalled, WaitFault}
use Rattle.tool_line.specs.Words.{Text}
use Rattle.owner_laws.specs.PlainEntries.{is_plain_entry, leaves_running}
use Rattle.item_list.specs.declared.no_memory.NoMemory.{NoMemory}
use Rattle.net_addr.specs.declared.addr.Addr.{Addr}
use Rattle.net_world.specs.Logs.{LogGets}
use Rattle.net_world.specs.declared.log.WorldCall.{WorldCall}
use Rattle.resolv_options.specs.Values.{OptionValues}
use Rattle.channel_model.specs.Course.{serves_from}
use Rattle.channel_model.specs.Servers.{keyed_from}
use Rattle.channel_session.proofs.BegunLemmas.{begun_none}
use Rattle.channel_session.specs.Sitting.{IsCount, StandsBehind, moment_of, reach_of}
use Rattle.channel_table.specs.Calling.{Owned, known_by_owner}
use Rattle.event_runner.proofs.Theorems.{runs_begin, told_as, told_by}
use Rattle.event_runner.specs.Running.{Running}
use Rattle.query_cache.specs.Cache.{new_cache}
use Rattle.owner_laws.specs.Sessions.{longest_slice}
use Rattle.acache_tool.specs.Asked.{options_for, setting_for}
use Rattle.acache_tool.specs.Leaving.{AsksAll, IsAt, Leaves}
use Rattle.acache_tool.specs.Naming.{Scene, scene_of}
use Rattle.acache_tool.specs.Parts.{Open, Part, most_seconds}
use Rattle.acache_tool.specs.Running.{Begins}
use Rattle.acache_tool.specs.Told.{AreTold}
use Rattle.acache_tool.specs.declared.asking.Asker.{Asker}
use Rattle.acache_tool.specs.declared.shown.Shown.{Shown}

-- a channel with this server that nobody has used
abbrev pub unused : Addr → Owned
unused server = record { setting = setting_for server; voice = 0; seen = []; names = finite.empty }

-- the server was told
pub begins : (server : Addr) (turns : ℕ) (options : OptionValues) (asker : Asker) (l m : Option (List WorldCall)) → options ≡ options_for server → asker.alone ≡ unused server → asker.calls ≡ [] → asker.left ≡ turns →
    (asker.session.running.told ≡ map (λ s. s.key) (keyed_from 0 options.servers)) × (m ≡ option_map (λ calls. calls ++ serves_from 0 options.servers) l) →
    asker.session.running ≡ record asker.session.running { reading = 0; broken = false; rows = []; mix = options.flags.mix } → (asker.session.behind_turn ≡ false) × (asker.session.reading ≡ 0) →
    Begins server turns (Ok asker) l m
begins server turns options asker l m same alone calls left opens fresh unturned =
    let log : m ≡ option_map (λ told. told ++ serves_from 0 (options_for server).servers) l = opens.1 ∙ ap (λ (o : OptionValues). option_map (λ told. told ++ serves_from 0 o.servers) l) same in
    let keys = opens.0 ∙ ap (λ (o : OptionValues). map (λ s. s.key) (keyed_from 0 o.servers)) same in
    let new : OptionValues → Running = λ o. record asker.session.running { reading = 0; broken = false; rows = []; mix = o.flags.mix } in (
      alone,
      calls,
      left,
      subst (λ channel. StandsBehind 0 0 l (moment_of (known_by_owner channel) asker.session m)) (sym alone) (record {
        count = subst (λ b. IsCount b 0) (sym unturned.0) refl;
        reading = unturned.1 ∙ sym (ap (λ (r : Running). r.reading) fresh);
        runs = runs_begin longest_slice (reach_of asker.session.behind_turn) (known_by_owner (unused server)) asker.session.running l m refl (fresh ∙ ap new same) keys log;
        begun = begun_none longest_slice (λ told. told ≡ serves_from 0 (options_for server).servers) (known_by_owner (unused server)) l m
            (told_by (λ told. told ≡ serves_from 0 (options_for server).servers) (serves_from 0 (options_for server).servers) refl l m log);
      }),
      told_by (λ told. told ≡ serves_from 0 (options_for server).servers) (serves_from 0 (options_for server).servers) refl l m log,
    )

-- there no name was brought to its answer
pub at_begin : (room : ℕ) (server : Addr) (turns : ℕ) (asker : Asker) (shown : Shown) (l m : Option (List WorldCall)) → Begins server turns (Ok asker) l m →
    shown.cache ≡ new_cache room most_seconds → shown.text.items ≡ [] → shown.good ≡ true → IsAt room (setting_for server) turns [] l (scene_of asker shown m)
at_begin room server turns asker shown l m x cache text good =
    subst (λ alone. IsAt room (setting_for server) turns [] l (scene_of (record asker { alone = alone }) shown m)) (sym x.0)
    (subst (λ calls. IsAt room (setting_for server) turns [] l (scene_of (record asker { alone = unused server; calls = calls }) shown m)) (sym x.1) (record {
      leaves = record {
        right = tt;
        missed = tt;
        setting_is = refl;
        voice = refl;
        lawful = record { allowed = tt };
        plain = refl;
        named = ([], refl);
        accepted_are = refl;
        taken_are = inl refl;
        called = refl;
        answers_are = ([], refl);
      };
      taken_are = refl;
      calls_are = refl;
      journal_is = refl;
      kept = cache;
      text_is = text;
      good_is = (λ h. tt, λ h. good);
      made = 0;
      count = omega (arith, x.2);
      behind = subst (λ alone. StandsBehind 0 0 l (moment_of (known_by_owner alone) asker.session m)) x.0 x.3;
      told = told_as (λ calls. calls ≡ serves_from 0 (setting_for server).options.servers) (AreTold (setting_for server) []) (λ calls is. record { pieces = []; calls_are = is; told = tt }) l m x.4;
    }))

-- memory was wanting before the server was told, in between, or behind it
pub begins_none : (server : Addr) (turns : ℕ) (result : Result Asker NoMemory) (l : Option (List WorldCall)) → is_err result ≡ true → Begins server turns result l l
begins_none server turns (Ok asker) l err = absurd (cc err)
begins_none server turns (Err fault) l err = told_by (λ calls. IsPrefix calls (serves_from 0 (setting_for server).options.servers)) [] (serves_from 0 (setting_for server).options.servers, refl) l l (same l)
  where
    same : (l : Option (List WorldCall)) → l ≡ option_map (λ calls. calls ++ []) l
    same None = refl
    same (Some x) = ap Some (sym (append-nil x))

pub begins_part : (server : Addr) (turns : ℕ) (result : Result Asker NoMemory) (options : OptionValues) (l m : Option (List WorldCall)) → is_err result ≡ true → options ≡ options_for server →
    LogGets (λ calls. IsPrefix calls (serves_from 0 options.servers)) l m → Begins server turns result l m
begins_part server turns (Ok asker) options l m err same told = absurd (cc err)
begins_part server turns (Err fault) options l m err same told = subst (λ (o : OptionValues). LogGets (λ calls. IsPrefix calls (serves_from 0 o.servers)) l m) same told

pub begins_all : (server : Addr) (turns : ℕ) (result : Result Asker NoMemory) (options : OptionValues) (l m : Option (List WorldCall)) → is_err result ≡ true → options ≡ options_for server →
    m ≡ option_map (λ calls. calls ++ serves_from 0 options.servers) l → Begins server turns result l m
begins_all server turns result options l m err same log =
    begins_part server turns result options l m err same
    (told_by (λ calls. IsPrefix calls (serves_from 0 options.servers)) (serves_from 0 options.servers) ([], append-nil (serves_from 0 options.servers)) l m log)

-- the channel as it was made is the unused one
pub unused_as : (server : Addr) (options : OptionValues) (hosts : List HostLine) (alone : Owned) → alone ≡ record { setting = record { options = options; hosts = hosts }; voice = 0; seen = []; names = finite.empty } → options ≡ options_for server → hosts ≡ [] → alone ≡ unused server
unused_as server options hosts alone is same none =
    is ∙ ap (λ (o : OptionValues). record { setting = record { options = o; hosts = hosts }; voice = 0; seen = []; names = finite.empty }) same
    ∙ ap (λ (h : List HostLine). record { setting = record { options = options_for server; hosts = h }; voice = 0; seen = []; names = finite.empty }) none

-- ---- a run leaves its channel open

not_destroy : (what : What) → leaves_running what ≡ true → is_destroy what ≡ false
not_destroy (Accept number spec script) h = refl
not_destroy Cancel h = refl
not_destroy Destroy h = absurd (cc h)
not_destroy (Take number) h = refl
not_destroy (Start number leg server link id mix moment) h = refl
not_destroy (Arrive server link bytes) h = refl
not_destroy (Expire number leg moment) h = refl
not_destroy (Fault server link moment) h = refl
not_destroy (Servers list) h = refl

neither : (a b : Bool) → a ≡ false → b ≡ false → (a || b) ≡ false
neither true b h k = absurd (cc h)
neither false b h k = k

open_on : (past : Past) (es : List Entry) → is_destroyed past ≡ false → list_all is_plain_entry es ≡ true → is_destroyed (followed_by past es) ≡ false
open_on past [] none all = none
open_on past (e ∷ es) none all =
    let this = and_parts (is_plain_entry e) (list_all is_plain_entry es) all in
    let parts = and_parts ((e.seat == 0) && (e.by == 0)) (leaves_running e.what) this.0 in
    open_on (e.what ∷ past) es (neither (is_destroy e.what) (is_destroyed past) (not_destroy e.what parts.1) none) this.1

abbrev pub IsOpen : Owned → Type 0
IsOpen channel = (is_destroyed (past_of channel.seen) ≡ false) × (channel.voice ≡ 0)

left_open : (room : ℕ) (setting : Setting) (parts : List Part) (last : Option Open) (channel : Owned) (calls : List Answer) → Leaves room setting parts last channel calls → IsOpen channel
left_open room setting parts last channel calls x = (open_on [] channel.seen refl x.plain, x.voice)

pub asks_open : (result : Result LoopEnd NoMemory) (room : ℕ) (setting : Setting) (turns : ℕ) (names : List Text) (began : Option (List WorldCall)) (f g : ℕ) (scene : Scene) → AsksAll result room setting turns names began f g scene → IsOpen scene.asker.alone
asks_open (Ok Completed) room setting turns names began f g scene x = left_open room setting x.0 None scene.asker.alone scene.asker.calls x.2.leaves
asks_open (Ok WaitFault) room setting turns names began f g scene x = left_open room setting x.0 (Some x.1) scene.asker.alone scene.asker.calls x.3
asks_open (Ok Stalled) room setting turns names began f g scene x = left_open room setting x.0 (Some x.1) scene.asker.alone scene.asker.calls x.3
asks_open (Err fault) room setting turns names began f g scene x = left_open room setting x.0 x.1 scene.asker.alone scene.asker.calls x.3
