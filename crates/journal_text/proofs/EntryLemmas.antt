-- An entry is read off the words that are printed for it.
use Rattle.std.proofs.Common.{◌≡◌, ℕ, zero, suc, ◌+◌, ◌<◌, ◌≤◌, ◌^◌, List, [], ◌∷◌, ◌++◌, length, Option, Some, None, refl, sym, ap, ◌∙◌, arith}
use Rattle.std.specs.Prelude.{decimal, codes, flat_map}
use Rattle.std.specs.List.{AllByRecursion}
use Rattle.std.proofs.lemmas.List.{append-nil}
use Rattle.chan_types.specs.declared.journal.Entry.{Entry}
use Rattle.chan_types.specs.declared.journal.What.{What}
use Rattle.chan_types.specs.declared.journal.What.TheVariants.{Accept, Cancel, Destroy, Take, Start, Arrive, Expire, Fault, Servers}
use Rattle.chan_types.specs.declared.server_key.ServerKey.{ServerKey}
use Rattle.net_addr.specs.Text.{text_of as address_text}
use Rattle.net_addr.specs.declared.addr.ServerAddr.{ServerAddr}
use Rattle.journal_text.specs.Words.{Word, bytes_word, mix_word}
use Rattle.journal_text.specs.Entries.{entry_words, what_words, key_words}
use Rattle.journal_text.specs.Scripts.{plan_words}
use Rattle.journal_text.specs.Fits.{FitsEntry, FitsWhat, FitsKey, FitsServer}
use Rattle.journal_text.specs.EntryReading.{entry_from, what_from, accept_from, take_from, start_from, arrive_from, expire_from, fault_from, servers_from, keys_from, key_in, server_addr_from, most8, most16, most32, most64}
use Rattle.journal_text.specs.ScriptReading.{script_from}
use Rattle.journal_text.proofs.AtomLemmas.{number_in_again, address_in_again, number_again, bytes_again, mix_again, address_again}
use Rattle.journal_text.proofs.RequestLemmas.{spec_again}
use Rattle.journal_text.proofs.ScriptLemmas.{script_again}

pub server_addr_again : (server : ServerAddr) (rest : List Word) → FitsServer server → server_addr_from (address_text server.address ∷ decimal server.port ∷ rest) ≡ Some (server, rest)
unfolding server_addr_from
server_addr_again server rest fits =
    rw (address_again server.address (decimal server.port ∷ rest) fits.0, number_again most16 server.port rest (omega (arith, fits.1)) (omega (arith, fits.1))) refl

key_again : (server : ServerKey) → FitsKey server → key_in (decimal server.key) (address_text server.address.address) (decimal server.address.port) ≡ Some server
unfolding key_in
key_again server fits =
    rw (
      number_in_again most32 server.key (omega (arith, fits.0)) (omega (arith, fits.0)),
      address_in_again server.address.address fits.1.0,
      number_in_again most16 server.address.port (omega (arith, fits.1.1)) (omega (arith, fits.1.1)),
    ) refl

keys_again : (list : List ServerKey) → AllByRecursion FitsKey list → keys_from (flat_map key_words list) ≡ Some list
unfolding keys_from
keys_again [] fits = refl
keys_again (server ∷ list) fits = rw (key_again server fits.0, keys_again list fits.1) refl

what_again : (what : What) → FitsWhat what → what_from (what_words what) ≡ Some (what, [])
unfolding what_from accept_from take_from start_from arrive_from expire_from fault_from servers_from
what_again (Accept number spec script) fits =
    let whole : script_from 4 (plan_words script) ≡ Some (script, []) = ap (script_from 4) (sym (append-nil (plan_words script))) ∙ script_again 4 script [] (omega arith) fits.2 fits.2.flat in
    rw (number_again most64 number _ (omega (arith, fits.0)) fits.0, spec_again spec (plan_words script) fits.1, whole) refl
what_again Cancel fits = refl
what_again Destroy fits = refl
what_again (Take number) fits = rw (number_again most64 number [] (omega (arith, fits)) fits) refl
what_again (Start number leg server link id mix moment) fits =
    rw (
      number_again most64 number _ (omega (arith, fits.0)) fits.0,
      number_again most8 leg _ (omega (arith, fits.1)) (omega (arith, fits.1)),
      number_again most32 server _ (omega (arith, fits.2)) (omega (arith, fits.2)),
      number_again most64 link _ (omega (arith, fits.3)) fits.3,
      number_again most16 id _ (omega (arith, fits.4)) (omega (arith, fits.4)),
      mix_again mix (decimal moment ∷ []) fits.5,
      number_again most64 moment [] (omega (arith, fits.6)) fits.6,
    ) refl
what_again (Arrive server link bytes) fits =
    rw (
      number_again most32 server _ (omega (arith, fits.0)) (omega (arith, fits.0)),
      number_again most64 link _ (omega (arith, fits.1)) fits.1,
      bytes_again bytes [] fits.2,
    ) refl
what_again (Expire number leg moment) fits =
    rw (
      number_again most64 number _ (omega (arith, fits.0)) fits.0,
      number_again most8 leg _ (omega (arith, fits.1)) (omega (arith, fits.1)),
      number_again most64 moment [] (omega (arith, fits.2)) fits.2,
    ) refl
what_again (Fault server link moment) fits =
    rw (
      number_again most32 server _ (omega (arith, fits.0)) (omega (arith, fits.0)),
      number_again most64 link _ (omega (arith, fits.1)) fits.1,
      number_again most64 moment [] (omega (arith, fits.2)) fits.2,
    ) refl
what_again (Servers list) fits = rw (keys_again list fits) refl

pub entry_again : (entry : Entry) → FitsEntry entry → entry_from (entry_words entry) ≡ Some (entry, [])
unfolding entry_from
entry_again entry fits =
    rw (
      number_again most64 entry.seat _ (omega (arith, fits.seat_fits)) fits.seat_fits,
      number_again most64 entry.by _ (omega (arith, fits.by_fits)) fits.by_fits,
      what_again entry.what fits.what_fits,
    ) refl
