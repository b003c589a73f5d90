-- Three reads, one after the other.
use Rattle.std.proofs.Common.{append-nil, append_assoc, ap, refl, sym, ◌∙◌}
use Rattle.std.specs.Prelude.{Err, List, None, Ok, OnErr, Option, Result, Some, [], option_map, ◌++◌, ◌∷◌, ◌≡◌}
use Rattle.net_world.specs.Logs.{LogGets}
use Rattle.net_world.specs.declared.answers.FileRead.{FileRead}
use Rattle.net_world.specs.declared.answers.FileRead.TheVariants.{Absent}
use Rattle.net_world.specs.declared.read_call.ReadCall.{ReadCall}
use Rattle.own_addresses.specs.Machine.{AreFirstReads, interfaces_call, leaves_call, routes_call}

-- reads that are told go on with the one, with the other, and then with the third
pub read_three : (first second third : ReadCall) (before between behind after : Option (List ReadCall)) →
    between ≡ option_map (λ reads. reads ++ first ∷ []) before → behind ≡ option_map (λ reads. reads ++ second ∷ []) between →
    after ≡ option_map (λ reads. reads ++ third ∷ []) behind → after ≡ option_map (λ reads. reads ++ first ∷ second ∷ third ∷ []) before
read_three first second third None between behind after one two three = rw (three, two, one) refl
read_three first second third (Some earlier) between behind after one two three =
    rw (three, two, one) (ap Some (ap (λ reads. reads ++ third ∷ []) (append_assoc earlier (first ∷ []) (second ∷ [])) ∙ append_assoc earlier (first ∷ second ∷ []) (third ∷ [])))

-- none was made
pub none_read : (before after : Option (List ReadCall)) → after ≡ before → LogGets AreFirstReads before after
none_read None after is = is
none_read (Some earlier) after is =
    ([], is ∙ ap Some (sym (append-nil earlier)), record { routes = Absent; interfaces = Absent; leaves = Absent; front = (routes_call Absent ∷ interfaces_call Absent ∷ leaves_call Absent ∷ [], refl) })

-- the first was made alone
pub one_read : (routes : FileRead) (before after : Option (List ReadCall)) →
    after ≡ option_map (λ reads. reads ++ routes_call routes ∷ []) before → LogGets AreFirstReads before after
one_read routes None after is = is
one_read routes (Some earlier) after is =
    (routes_call routes ∷ [], is, record { routes = routes; interfaces = Absent; leaves = Absent; front = (interfaces_call Absent ∷ leaves_call Absent ∷ [], refl) })

-- the first two were made
pub two_read : (routes interfaces : FileRead) (before between after : Option (List ReadCall)) →
    between ≡ option_map (λ reads. reads ++ routes_call routes ∷ []) before → after ≡ option_map (λ reads. reads ++ interfaces_call interfaces ∷ []) between →
    LogGets AreFirstReads before after
two_read routes interfaces None between after one two = rw (two, one) refl
two_read routes interfaces (Some earlier) between after one two = (
  routes_call routes ∷ interfaces_call interfaces ∷ [],
  rw (two, one) (ap Some (append_assoc earlier (routes_call routes ∷ []) (interfaces_call interfaces ∷ []))),
  record { routes = routes; interfaces = interfaces; leaves = Absent; front = (leaves_call Absent ∷ [], refl) },
)

-- all three were made
pub all_read : (routes interfaces leaves : FileRead) (before between behind after : Option (List ReadCall)) →
    between ≡ option_map (λ reads. reads ++ routes_call routes ∷ []) before → behind ≡ option_map (λ reads. reads ++ interfaces_call interfaces ∷ []) between →
    after ≡ option_map (λ reads. reads ++ leaves_call leaves ∷ []) behind → LogGets AreFirstReads before after
all_read routes interfaces leaves None between behind after one two three = rw (three, two, one) refl
all_read routes interfaces leaves (Some earlier) between behind after one two three = (
  routes_call routes ∷ interfaces_call interfaces ∷ leaves_call leaves ∷ [],
  read_three _ _ _ (Some earlier) between behind after one two three,
  record { routes = routes; interfaces = interfaces; leaves = leaves; front = ([], refl) },
)

-- what holds anyway holds where there is an error
pub on_err : {T E P : Type 0} (result : Result T E) → P → OnErr result P
on_err (Ok answer) holds = tt
on_err (Err error) holds = holds
