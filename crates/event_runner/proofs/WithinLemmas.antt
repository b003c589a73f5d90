-- Two stretches of one part of a turn, one behind the other.
use Rattle.event_runner.proofs.Base.{◌≡◌, ◌∙◌, ℕ, ◌+◌, ◌&&◌, Bool, true, List, [], ◌++◌, length, refl, ap, ap₂, length-append, cond, count_by, filter_map, not, list_all, and_from, and_parts, filter_map-append, list_all-append, sum_by-append, Entry, Got, WorldCall, nearly_behind, agrees_none, agrees_trans, own-append, received_by, begun_by, own_entries, Setting, Standing, Part, are_of, expired_in, is_among, is_at, is_expire, is_nothing, parts_of_call, parts_of_entry, received_in, started_in, Counts, NearlyWithin, Within}

-- all is of the part in both
pub alone_joined : (part : Part) (seat reading : ℕ) (es fs : List Entry) (cs ds : List WorldCall) →
    are_of part seat reading es cs ≡ true → are_of part seat reading fs ds ≡ true → are_of part seat reading (es ++ fs) (cs ++ ds) ≡ true
alone_joined part seat reading es fs cs ds x y =
    let entry_test : Entry → Bool = λ entry. is_among part (parts_of_entry entry.what) && is_at reading entry.what in
    let call_test : WorldCall → Bool = λ call. is_among part (parts_of_call call) in
    let xs = and_parts (list_all entry_test (own_entries seat es)) (list_all call_test cs) x in
    let ys = and_parts (list_all entry_test (own_entries seat fs)) (list_all call_test ds) y in
    and_from (list_all entry_test (own_entries seat (es ++ fs))) (list_all call_test (cs ++ ds))
    (ap (list_all entry_test) (own-append seat es fs) ∙ list_all-append entry_test (own_entries seat es) (own_entries seat fs) ∙ and_from _ _ xs.0 ys.0)
    (list_all-append call_test cs ds ∙ and_from _ _ xs.1 ys.1)

pub received-append : (cs ds : List WorldCall) → received_in (cs ++ ds) ≡ received_in cs + received_in ds
received-append cs ds =
    ap (count_by (λ (got : Got). not (is_nothing got))) (filter_map-append received_by cs ds)
    ∙ sum_by-append (λ (got : Got). cond (not (is_nothing got)) 1 0) (filter_map received_by cs) (filter_map received_by ds)

pub expired-append : (seat : ℕ) (es fs : List Entry) → expired_in seat (es ++ fs) ≡ expired_in seat es + expired_in seat fs
expired-append seat es fs =
    ap (count_by (λ (entry : Entry). is_expire entry.what)) (own-append seat es fs)
    ∙ sum_by-append (λ (entry : Entry). cond (is_expire entry.what) 1 0) (own_entries seat es) (own_entries seat fs)

pub started-append : (seat : ℕ) (es fs : List Entry) → started_in seat (es ++ fs) ≡ started_in seat es + started_in seat fs
started-append seat es fs =
    ap (λ l. length (filter_map (λ (entry : Entry). begun_by entry.what) l)) (own-append seat es fs)
    ∙ ap length (filter_map-append (λ (entry : Entry). begun_by entry.what) (own_entries seat es) (own_entries seat fs))
    ∙ length-append (filter_map (λ (entry : Entry). begun_by entry.what) (own_entries seat es)) (filter_map (λ (entry : Entry). begun_by entry.what) (own_entries seat fs))

-- what both did
pub counts_joined : (seat : ℕ) (es fs : List Entry) (cs ds : List WorldCall) (r e s q d t : ℕ) → Counts seat es cs r e s → Counts seat fs ds q d t → Counts seat (es ++ fs) (cs ++ ds) (r + q) (e + d) (s + t)
counts_joined seat es fs cs ds r e s q d t x y = record {
  received_are = received-append cs ds ∙ ap₂ (λ m n. m + n) x.received_are y.received_are;
  expired_are = expired-append seat es fs ∙ ap₂ (λ m n. m + n) x.expired_are y.expired_are;
  started_are = started-append seat es fs ∙ ap₂ (λ m n. m + n) x.started_are y.started_are;
}

module _ {reading : ℕ} {part : Part} {setting : Setting} {seat : ℕ} where
  pub within_joined : {r e s q d t : ℕ} {a b c : Standing} {es fs : List Entry} {cs ds : List WorldCall} →
      Within reading part r e s setting seat a es cs b → Within reading part q d t setting seat b fs ds c → Within reading part (r + q) (e + d) (s + t) setting seat a (es ++ fs) (cs ++ ds) c
  within_joined {r} {e} {s} {q} {d} {t} {a} {b} {c} {es} {fs} {cs} {ds} x y = record {
    agrees = agrees_trans setting seat a b c es fs cs ds x.agrees y.agrees;
    alone = alone_joined part seat reading es fs cs ds x.alone y.alone;
    counts = counts_joined seat es fs cs ds r e s q d t x.counts y.counts;
  }

  pub within_none : (a : Standing) → Within reading part 0 0 0 setting seat a [] [] a
  within_none a = record { agrees = agrees_none setting seat a; alone = refl; counts = record { received_are = refl; expired_are = refl; started_are = refl } }

  pub nearly_joined : {r e s : ℕ} {a b : Standing} {es fs : List Entry} {cs ds : List WorldCall} →
      Within reading part r e s setting seat a es cs b → NearlyWithin reading part setting seat b fs ds → NearlyWithin reading part setting seat a (es ++ fs) (cs ++ ds)
  nearly_joined {r} {e} {s} {a} {b} {es} {fs} {cs} {ds} x y = record {
    nearly = nearly_behind setting seat a b es fs cs ds x.agrees y.nearly;
    alone = alone_joined part seat reading es fs cs ds x.alone y.alone;
  }

-- the same counts, otherwise written
pub counts_as : {seat : ℕ} {es : List Entry} {cs : List WorldCall} {r e s q d t : ℕ} → r ≡ q → e ≡ d → s ≡ t → Counts seat es cs r e s → Counts seat es cs q d t
counts_as i j k x = record { received_are = x.received_are ∙ i; expired_are = x.expired_are ∙ j; started_are = x.started_are ∙ k }
