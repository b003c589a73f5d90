-- Two reads, one after the other.
use Rattle.std.proofs.Common.{append-nil, append_assoc, ap, refl, sym, ◌∙◌}
use Rattle.std.specs.Prelude.{Err, List, None, Ok, OnErr, Option, Result, Some, [], option_map, ◌++◌, ◌∷◌, ◌≡◌}
use Rattle.net_world.specs.declared.answers.FileRead.{FileRead}
use Rattle.net_world.specs.declared.answers.FileRead.TheVariants.{Absent}
use Rattle.net_world.specs.declared.read_call.ReadCall.{ReadCall}
use Rattle.net_world.specs.Logs.{LogGets}
use Rattle.machine_setting.specs.Said.{AreFirstReads, hosts_call, resolv_call}

-- reads that are told go on with the one, and then with the other
pub read_both : (first second : ReadCall) (before between after : Option (List ReadCall)) →
    between ≡ option_map (λ reads. reads ++ first ∷ []) before → after ≡ option_map (λ reads. reads ++ second ∷ []) between →
    after ≡ option_map (λ reads. reads ++ first ∷ second ∷ []) before
read_both first second None between after one two = rw (two, one) refl
read_both first second (Some earlier) between after one two = rw (two, one) (ap Some (append_assoc earlier (first ∷ []) (second ∷ [])))

-- none was made
pub none_read : (before after : Option (List ReadCall)) → after ≡ before → LogGets AreFirstReads before after
none_read None after is = is
none_read (Some earlier) after is =
    ([], is ∙ ap Some (sym (append-nil earlier)), record { resolv = Absent; hosts_file = Absent; front = (resolv_call Absent ∷ hosts_call Absent ∷ [], refl) })

-- the first was made alone
pub one_read : (resolv : FileRead) (before after : Option (List ReadCall)) →
    after ≡ option_map (λ reads. reads ++ resolv_call resolv ∷ []) before → LogGets AreFirstReads before after
one_read resolv None after is = is
one_read resolv (Some earlier) after is =
    (resolv_call resolv ∷ [], is, record { resolv = resolv; hosts_file = Absent; front = (hosts_call Absent ∷ [], refl) })

-- both were made
pub two_read : (resolv hosts_file : FileRead) (before between after : Option (List ReadCall)) →
    between ≡ option_map (λ reads. reads ++ resolv_call resolv ∷ []) before → after ≡ option_map (λ reads. reads ++ hosts_call hosts_file ∷ []) between →
    LogGets AreFirstReads before after
two_read resolv hosts_file None between after one two = rw (two, one) refl
two_read resolv hosts_file (Some earlier) between after one two =
    (resolv_call resolv ∷ hosts_call hosts_file ∷ [], read_both _ _ (Some earlier) between after one two, record { resolv = resolv; hosts_file = hosts_file; front = ([], refl) })

-- what holds anyway holds where there is an error
pub on_err : {T E P : Type 0} (result : Result T E) → P → OnErr result P
on_err (Ok answer) holds = tt
on_err (Err error) holds = holds
